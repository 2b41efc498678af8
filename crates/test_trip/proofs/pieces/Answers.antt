use mathlib.Core.Path.{ap, ◌∙◌}
use native.Mathlib.Omega.{arith}
use lib.ListN.{length, length-append}
use Rattle.test_trip.proofs.Steps.{ready_within, ready_now}
use Rattle.test_trip.proofs.pieces.Goals as goal

pub loop-part-init : goal.loop-part-init
loop-part-init c =
    let chunks = c.chunks-part-items.ensures in
    rw c.into_iter-part-iterator.ensures.into_iter_gives
    (chunks.size, omega (arith, ap length chunks.rest), ready_within (ready_now 0 c.requires.ready.0) (omega arith))

pub piece-after-requires : goal.piece-after-requires
piece-after-requires c = record {
  ready = (
    ready_within c.loop-part.invariant.2 (omega (arith, c.requires.ready.0.lines)),
    omega (arith, c.in-Some.ensures.steps.1.1, c.loop-part.invariant.0),
  );
}

pub loop-part-preserved : goal.loop-part-preserved
loop-part-preserved c =
    let steps = c.in-Some.ensures.steps in
    let left = ap length steps.1.0 ∙ length-append c.in-Some.part.now _ in (
      steps.0 ∙ c.loop-part.invariant.0,
      omega (arith, left),
      ready_within c.piece-after.ensures.ready (omega (arith, left, c.loop-part.invariant.2.lines)),
    )

pub returns : goal.returns
returns c = record { ready = ready_within c.loop-part.invariant.2 (omega arith) }
