use mathlib.Core.Path.{refl, sym, ◌∙◌}
use mathlib.Core.List.{List}
use Prim.Native.Nat.{ℕ, ◌<◌}
use native.Mathlib.Omega.{arith}
use lib.Dec.{lit<}
use Rattle.model.specs.Leafset.{size}
use Rattle.model.specs.Words.{decode_table, decode_node, decode}
use Rattle.model.specs.declared.event.Event.TheVariants.{Off}
use Rattle.model.proofs.Answers.{here, next}
use Rattle.answers.proofs.Valid.{long, few}
use Rattle.answers.proofs.Refusals
use Rattle.event_act.proofs.Actors.{loaded_well, loaded_fits}
use Rattle.event_act.proofs.Decides.{refused_before, decides}
use Rattle.event_act.proofs.Leaving.{change_fits, change_counts, silent_decides, never_starts}
use Rattle.event_on_off.proofs.Stopping.{stops, leaves, leaver_sends, may_stop, stopping}
use borrow.Author.Tests.{not-true, not-false}
use Rattle.event_on_off.proofs.off.Goals as goal

pub nodes-n-requires : goal.nodes-n-requires
nodes-n-requires c = record { length = long _ c.requires.ring }

pub returns-then-n-index : goal.returns-then-n-index
returns-then-n-index c =
    record { decides = refused_before _ refl (here _ _ (Refusals.out_of_table _ _ (omega (arith, c.nodes-n.ensures.value, c.index.ensures.value)))) }

pub is_running-requires : goal.is_running-requires
is_running-requires c =
    record {
      length = long _ c.requires.ring;
      bounds = omega (arith, c.nodes-n.ensures.value, c.index.ensures.value);
    }

pub returns-then-not-is_running : goal.returns-then-not-is_running
returns-then-not-is_running c = record {
  decides =
      refused_before _ refl
      (next _ _ (Refusals.in_table _ _ (omega (arith, c.nodes-n.ensures.value, c.index.ensures.value)))
      ∙ here _ _ (Refusals.off _ _ (sym c.is_running.ensures.value ∙ c.if-not-is_running.true)));
}

pub messages-m-requires : goal.messages-m-requires
messages-m-requires c = record { length = long _ c.requires.ring }

pub silent-requires : goal.silent-requires
silent-requires c =
    record {
      ring = (c.requires.ring, c.messages-m.ensures.value);
      change = (tt, omega (arith, c.nodes-n.ensures.value, c.index.ensures.value));
    }

pub returns-then-not-polite : goal.returns-then-not-polite
returns-then-not-polite c = record {
  decides =
      let ws : List ℕ = c.args.words.now in
      let x : ℕ = c.args.x.0 in
      let in_table : x < size (decode_table ws) = omega (arith, c.nodes-n.ensures.value, c.index.ensures.value) in
      let on = sym c.is_running.ensures.value ∙ c.if-not-is_running.false in
      silent_decides ws c.requires.ring c.silent.ensures.decided (Off c.args.x c.args.polite) (may_stop ws x in_table on)
      tt in_table (lit< tt) (λ e. absurd (never_starts refl e)) (stops (decode ws) c.args.x (c.if-not-polite.true) refl);
}

pub load-own-requires : goal.load-own-requires
load-own-requires c = record {
  words =
      let nodes = c.nodes-n.ensures.value in
      (long _ c.requires.ring, nodes, omega (arith, nodes, few _ c.requires.ring), omega (arith, nodes, c.index.ensures.value));
}

pub decided-requires : goal.decided-requires
decided-requires c = record {
  counts =
      let ws : List ℕ = c.args.words.now in
      let x : ℕ = c.args.x.0 in
      let in_table : x < size (decode_table ws) = omega (arith, c.nodes-n.ensures.value, c.index.ensures.value) in
      let left = c.leaving-effect.ensures.effect (decode_table ws) x 0 (few ws c.requires.ring)
      (loaded_fits ws x c.requires.ring _ c.load-own.ensures.loaded) in
      change_counts (stopping c.args.x c.leaving-effect.result) left
      (leaver_sends (decode_table ws) 0 in_table
      (loaded_well ws x c.requires.ring _ c.load-own.ensures.loaded)) c.requires.ring c.messages-m.ensures.value tt tt in_table;
}

pub returns : goal.returns
unfolding decode decode_node
returns c = record {
  decides =
      let ws : List ℕ = c.args.words.now in
      let x : ℕ = c.args.x.0 in
      let in_table : x < size (decode_table ws) = omega (arith, c.nodes-n.ensures.value, c.index.ensures.value) in
      let left = c.leaving-effect.ensures.effect (decode_table ws) x 0 (few ws c.requires.ring)
      (loaded_fits ws x c.requires.ring _ c.load-own.ensures.loaded) in
      let on = sym c.is_running.ensures.value ∙ c.if-not-is_running.false in
      let change = stopping c.args.x c.leaving-effect.result in
      decides ws (Off c.args.x c.args.polite) (may_stop ws x in_table on)
      change (change_fits change left c.requires.ring tt in_table (lit< tt) (λ e. absurd (never_starts refl e)))
      (leaves (decode ws) c.args.x 0 (c.if-not-polite.false) left.effect c.load-own.ensures.loaded.own) _
      c.decided.ensures.decided;
}
