use mathlib.Core.Path.{sym, ◌∙◌}
use native.Mathlib.Omega.{arith}
use lib.ListN.{length-take, length-drop}
use Rattle.bench_lines.proofs.Puts.{put_within}
use Rattle.test_trip.proofs.Steps.{ready_within, ready_first}
use borrow.Author.Rules.{rules}
use Rattle.test_trip.proofs.comes_back.Goals as goal

pub loop-init : goal.loop-init
loop-init c =
    (search rules, search rules, c.requires.buffers.1, ready_first c.start.ensures.value c.requires.buffers.2 c.requires.buffers.3)

pub step-session-requires : goal.step-session-requires
step-session-requires c = record { room = (simp (length-take, length-drop) (omega arith), omega arith) }

pub slice_bounds-pieces-end : goal.slice_bounds-pieces-end
slice_bounds-pieces-end c = put_within c.step-session.ensures.turn.put

pub slice_bounds-pieces-end-in-loop : goal.slice_bounds-pieces-end-in-loop
slice_bounds-pieces-end-in-loop c =
    let within = put_within c.step-session.ensures.turn.put in sym (simp length-take (omega arith))

pub pieces-trip-requires : goal.pieces-trip-requires
pieces-trip-requires c = record {
  ready =
      let step = c.step-session.ensures.turn.put in
      let within = put_within step in
      (ready_within c.loop.invariant.3 (omega arith), simp length-take (omega (arith, step.long)));
}

pub ends-requires : goal.ends-requires
ends-requires c = record {
  ready =
      let step = c.step-session.ensures.turn.put in
      let lines = c.loop.invariant.3.lines in
      ready_within c.pieces-trip.ensures.ready (simp length-take (omega (arith, put_within step, step.long)));
}

pub shape_of-text-then-not-session : goal.shape_of-text-then-not-session
shape_of-text-then-not-session c = c.step-session.ensures.turn.put.long ∙ (c.loop.invariant.2 ∙ sym c.requires.buffers.1)

pub shape_of-keys-then-not-session : goal.shape_of-keys-then-not-session
shape_of-keys-then-not-session c = c.ends.ensures.buffers.0.long ∙ sym c.requires.buffers.2.long

pub shape_of-out-then-not-session : goal.shape_of-out-then-not-session
shape_of-out-then-not-session c = c.ends.ensures.buffers.1 ∙ sym c.requires.buffers.3

pub returns-then-not-session : goal.returns-then-not-session
returns-then-not-session c =
    let text = c.step-session.ensures.turn.put.long ∙ c.loop.invariant.2 in
    record { buffers = (text, c.ends.ensures.buffers.0, c.ends.ensures.buffers.1) }

pub loop-preserved : goal.loop-preserved
loop-preserved c =
    let i = c.loop.invariant in
    let step = c.step-session.ensures.turn.put in
    let lines = i.3.lines in (
      search rules,
      search rules,
      step.long ∙ i.2,
      ready_within c.pieces-trip.ensures.ready (simp length-take (omega (arith, put_within step, step.long))),
    )

pub shape_of-text : goal.shape_of-text
shape_of-text c = c.loop.invariant.2 ∙ sym c.requires.buffers.1

pub shape_of-keys : goal.shape_of-keys
shape_of-keys c = c.loop.invariant.3.keys.long ∙ sym c.requires.buffers.2.long

pub shape_of-out : goal.shape_of-out
shape_of-out c = c.loop.invariant.3.room ∙ sym c.requires.buffers.3

pub returns : goal.returns
returns c = record { buffers = let i = c.loop.invariant in (i.2, i.3.keys, i.3.room) }
