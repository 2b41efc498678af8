-- What is written where a call gives a value, and where it refuses.
use mathlib.Core.Path.{◌≡◌, refl}
use mathlib.Core.List.{List}
use Prim.Native.Nat.{ℕ}
use Rattle.std.specs.Prelude.{Result, Ok, Err}
use Rattle.std.specs.Result.{result_unwrap_or}
use Rattle.model.specs.Answers.{answer_number, given_or}
use Rattle.model.specs.declared.refusal.Refusal.{Refusal}
use Rattle.model.specs.Reach as model_reach
use Rattle.model.specs.Route as model_route
use Rattle.call_reach.specs.Walks.{reached}
use Rattle.call_reach.specs.declared.Reached.{Reached}
use Rattle.call_route.specs.Walks.{routed}
use Rattle.call_route.specs.declared.Arrival.{Arrival}

pub unwrapped : {A : Type 0} (r : Result A Refusal) (empty : A) → result_unwrap_or r empty ≡ given_or empty r
unwrapped (Ok a) empty = refl
unwrapped (Err e) empty = refl

-- a reach and a route: node 64 and 0 hops where refused
abbrev pub no_reach : Reached
no_reach = record { end = record { 0 = 64 }; hops = 0 }

abbrev pub no_route : Arrival
no_route = record { end = record { 0 = 64 }; hops = 0 }

pub reach_numbers : (r : Result Reached Refusal) {e h : ℕ} → e ≡ (result_unwrap_or r no_reach).end.0 → h ≡ (result_unwrap_or r no_reach).hops
    → record { answer = answer_number r; end = e; hops = h } ≡ reached r
reach_numbers (Ok q) e h = rw (e, h)
reach_numbers (Err a) e h = rw (e, h)

pub route_numbers : (r : Result Arrival Refusal) (list : List ℕ) {e h : ℕ} → e ≡ (result_unwrap_or r no_route).end.0 → h ≡ (result_unwrap_or r no_route).hops
    → record { answer = answer_number r; end = e; hops = h; list = list } ≡ routed r list
route_numbers (Ok q) list e h = rw (e, h)
route_numbers (Err a) list e h = rw (e, h)
