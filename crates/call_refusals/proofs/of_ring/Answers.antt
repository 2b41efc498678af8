use mathlib.Core.Path.{sym, ap₂, ◌∙◌}
use mathlib.Core.Bool.{◌&&◌}
use mathlib.Core.List.{List}
use Prim.Native.Nat.{ℕ}
use native.Mathlib.Omega.{arith}
use Rattle.answers.proofs.Valid.{long}
use Rattle.model.proofs.Answers.{here, next}
use Rattle.answers.proofs.Refusals.{in_table, out_of_table}
use Rattle.call_refusals.proofs.Refused.{one_off, both_on}
use Rattle.call_refusals.proofs.of_ring.Goals as goal

pub nodes-n-requires : goal.nodes-n-requires
nodes-n-requires c = record { length = long _ c.requires.ring }

pub returns-then-n-index : goal.returns-then-n-index
returns-then-n-index c = record { answer = sym (here _ _ (out_of_table c.args.words.now c.args.a.0 (omega arith))) }

pub returns-then-n-index-2 : goal.returns-then-n-index-2
returns-then-n-index-2 c = record {
  answer =
      let ws : List ℕ = c.args.words.now in
      sym
      (next _ _ (in_table ws c.args.a.0 (omega arith))
      ∙ here _ _ (out_of_table ws c.args.b.0 (omega arith)));
}

pub is_running-requires : goal.is_running-requires
is_running-requires c =
    record {
      length = long _ c.requires.ring;
      bounds = omega arith;
    }

pub is_running-requires-2 : goal.is_running-requires-2
is_running-requires-2 c =
    record {
      length = long _ c.requires.ring;
      bounds = omega arith;
    }

pub returns-then-not-is_running : goal.returns-then-not-is_running
returns-then-not-is_running c = record {
  answer =
      let ws : List ℕ = c.args.words.now in
      sym
      (next _ _ (in_table ws c.args.a.0 (omega arith))
      ∙ next _ _ (in_table ws c.args.b.0 (omega arith))
      ∙ one_off ws c.args.a.0 c.args.b.0
      (sym (ap₂ ◌&&◌ c.is_running.ensures.value c.is_running-2.ensures.value) ∙ c.if-not-is_running.true));
}

pub returns : goal.returns
returns c = record {
  answer =
      let ws : List ℕ = c.args.words.now in
      sym
      (next _ _ (in_table ws c.args.a.0 (omega arith))
      ∙ next _ _ (in_table ws c.args.b.0 (omega arith))
      ∙ both_on ws c.args.a.0 c.args.b.0
      (sym (ap₂ ◌&&◌ c.is_running.ensures.value c.is_running-2.ensures.value) ∙ c.if-not-is_running.false));
}
