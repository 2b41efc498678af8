use mathlib.Core.Path.{sym, ap, ap₂, ◌∙◌}
use mathlib.Core.Bool.{Bool, not, ◌&&◌}
use borrow.Author.Rules.{rules}
use Rattle.model.specs.Words.{decode}
use Rattle.model.specs.Connection.{connected}
use Rattle.ring_connection.proofs.Linked.{running_low, running_closed, off_connected, seen_connected}
use Rattle.ring_connection.proofs.connected.Goals as goal

pub returns-then-not-has : goal.returns-then-not-has
returns-then-not-has c = record {
  value =
      let q = c.args in
      let off = sym (c.has.ensures.value ∙ c.running-running.ensures.members q.a.0) ∙ c.if-not-has.true in
      sym (off_connected (decode q.words.now) q.a.0 q.b.0 off);
}

pub apart-requires : goal.apart-requires
apart-requires c = record {
  words = (
    search rules,
    running_closed _ c.running-running.ensures.members,
    sym c.has.ensures.value ∙ c.if-not-has.false,
  );
}

pub returns : goal.returns
returns c = record {
  value =
      let q = c.args in
      let ws = q.words.now in
      let run = c.running-running.ensures.members q.b.0 in
      let rest = c.has-3.ensures.value ∙ c.apart.ensures.members q.b.0 ∙ ap (λ (p : Bool). p && not (connected (decode ws) q.a.0 q.b.0)) run in
      ap₂ (λ (p r : Bool). p && not r) (c.has-2.ensures.value ∙ run) rest ∙ seen_connected (decode ws) q.a.0 q.b.0 (running_low ws);
}
