use mathlib.Core.Path.{ap, ◌∙◌}
use mathlib.Core.List.{List}
use Prim.Native.Nat.{ℕ}
use Rattle.model.specs.Route.{route_buffer}
use Rattle.mekvalgs.proofs.Far.{route_cut}
use Rattle.call_route.specs.declared.Arrival.{Arrival}
use Rattle.mekvalgs.proofs.Unwrapped.{route_numbers}
use Rattle.mekvalgs.proofs.mekvalgs_route.Goals as goal

pub returns : goal.returns
returns c = record {
  routed =
      let a = c.args in
      let ws : List ℕ = a.words.now in
      let last = c.unwrap_or-last.ensures in
      rw c.number.ensures.answer
      (route_numbers c.route-routed.result _ (c.from.ensures ∙ ap (λ (q : Arrival). q.end.0) last) (ap (λ (q : Arrival). q.hops) last)
      ∙ c.route-routed.ensures.routed
      ∙ ap (λ (x : ℕ). route_buffer ws x a.key a.route.now) c.node.ensures.value
      ∙ route_cut ws a.start a.key a.route.now);
}
