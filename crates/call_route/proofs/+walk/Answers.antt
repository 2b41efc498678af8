use mathlib.Core.Path.{subst}
use Prim.Native.Nat.{ℕ, ◌<◌}
use native.Mathlib.Omega.{arith}
use Rattle.model.specs.Words.{decode}
use Rattle.model.specs.Ring.{Ring}
use Rattle.model.specs.Route.{nearer_than}
use Rattle.model.proofs.Routes.{route_some}
use Rattle.call_route.proofs.Walks.{in_keys, fewer, next_low, next_room, ends, goes_further}
use Rattle.call_route.proofs.+walk.Goals as goal

pub bounds-list-place : goal.bounds-list-place
bounds-list-place t c = omega (arith, route_some (decode c.args.words.now) c.args.key.0 c.args.x.0, c.requires.room.1)

pub returns-in_default : goal.returns-in_default
unfolding decode
returns-in_default t c = record {
  walked = ends (decode c.args.words.now) c.args.key.0 c.args.x.0 c.args.place c.args.list.now c.in_default.ensures.next;
}

pub walk-requires : goal.walk-requires
unfolding decode
walk-requires t c =
    let ready = c.requires.ready in
    let ρ : Ring = decode c.args.words.now in
    let next = c.in-Some.ensures.next in (
      subst (λ (j : ℕ). nearer_than ρ c.args.key.0 c.in-Some.y.0 < j) c.decreases (fewer ρ c.args.key.0 c.args.x.0 next.0 next.1),
      (
        ready,
        (
          in_keys ready (next_low ρ c.args.key.0 c.args.x.0 next.0 next.1),
          next_room ρ c.args.key.0 c.args.x.0 next.0 next.1 c.args.place c.args.list.now c.requires.room.1,
        ),
      ),
    )

pub returns : goal.returns
unfolding decode
returns t c = record {
  walked =
      let next = c.in-Some.ensures.next in
      goes_further (decode c.args.words.now) c.args.key.0 c.args.x.0 next.0 next.1 c.walk.ensures.walked;
}
