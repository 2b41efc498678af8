-- A refused opening is told, and that is all. After another the words behind the keys are played on the ring that it left.
use mathlib.Core.Path.{refl, ap}
use Prim.Native.Nat.{ℕ, ◌+◌}
use native.Mathlib.Omega.{arith}
use borrow.Author.Rules.{rules}
use borrow.Author.Tests.{eq-eqb}
use lib.ListN.{length-take, length-drop}
use Rattle.std.specs.Prelude.{Ok, Err}
use Rattle.model.proofs.Laws.{clash}
use Rattle.model.proofs.Cases.{number_high}
use Rattle.bench_lines.proofs.Puts.{put_as}
use Rattle.audit_account.specs.Accounts.{no_ring_text}
use Rattle.bench_open.proofs.Opened.{opened_ring, nodes_are}
use Rattle.bench_script.proofs.Chunks.{rest_from}
use Rattle.audit_session.proofs.Beginning.{refused_script, begins_held, begins_count, first_played}
use Rattle.audit_session.proofs.begin.Goals as goal

pub returns-in-Err : goal.returns-in-Err
returns-in-Err c = record {
  turn =
      refused_script _ _ (Err c.in-Err.refusal) c.in-Err.ensures.written refl _ (λ z. clash (eq-eqb _ 0 z) (number_high c.in-Err.refusal)) c.requires.words
      (put_as c.put_no_ring.ensures.bytes (ap no_ring_text c.number-number.ensures.answer)) c.ended.ensures.session;
}

pub slice_bounds-play-count : goal.slice_bounds-play-count
slice_bounds-play-count c =
    let o = opened_ring _ _ (Ok c.in_default.field-0) c.in_default.ensures.written refl refl in
    omega (arith, o.enough, nodes_are o, c.nodes-first.ensures.value)

pub slice_bounds-play-start : goal.slice_bounds-play-start
slice_bounds-play-start c =
    let o = opened_ring _ _ (Ok c.in_default.field-0) c.in_default.ensures.written refl refl in
    omega (arith, o.enough, nodes_are o, c.nodes-first.ensures.value)

pub play-requires : goal.play-requires
play-requires c =
    let o = opened_ring _ _ (Ok c.in_default.field-0) c.in_default.ensures.written refl refl in
    record {
      session = begins_held _ o c.new.ensures.session.1 c.new.ensures.lists;
      room = (simp (length-take, length-drop) (omega arith), search rules, begins_count c.new.ensures.session.1);
    }

pub returns : goal.returns
returns c = record {
  turn =
      let o = opened_ring _ _ (Ok c.in_default.field-0) c.in_default.ensures.written refl refl in
      first_played _ o c.new.ensures.session.1 c.new.ensures.lists _
      (rest_from c.args.script.now (ap (λ (n : ℕ). 1 + n) c.nodes-first.ensures.value)) c.play.ensures.turn;
}
