-- What a route gives: refused, and accepted.
use mathlib.Core.Path.{◌≡◌, sym, ap, ◌∙◌}
use mathlib.Core.Bool.{false}
use mathlib.Core.List.{List}
use Prim.Native.Nat.{ℕ, ◌-◌, ◌<◌}
use lib.ListN.{length, get_or}
use Rattle.model.specs.Sets.{of_bits, none_node}
use Rattle.model.specs.Ring.{is_running}
use Rattle.model.specs.Answers.{is_accepted}
use Rattle.model.specs.Words.{decode_table, decode}
use Rattle.model.specs.Route.{route, route_answer, Routed, route_buffer}
use Rattle.model.proofs.Routes.{route_reads, start_low, path_fits}
use Rattle.model.proofs.Theorems.{refused_routing}
use Rattle.call_route.specs.Walks.{Ready, Walked}
use Rattle.call_route.proofs.Walks.{hops_are, list_is}

module _ (ws : List ℕ) (x key : ℕ) (list : List ℕ) where
  pub route_refused : {a : ℕ} → a ≡ route_answer ws x key list → is_accepted (route_answer ws x key list) ≡ false
      → record { answer = a; end = none_node; hops = 0; list = list } ≡ route_buffer ws x key list
  route_refused e n = ap {B = Routed} (λ (a : ℕ). record { answer = a; end = none_node; hops = 0; list = list }) e ∙ sym (refused_routing ws x key list n)

  module _ (ok : route_answer ws x key list ≡ 0) where
    module _ {keys : List ℕ} (keys_are : keys ≡ (decode_table ws).keys) where
      pub ready : {running : ℕ} → ((y : ℕ) → of_bits running y ≡ is_running (decode ws) y) → Ready ws keys running
      ready f = record { reads = route_reads ws x key list ok; keys_are = keys_are; running_are = f }

      pub start_in : x < length keys
      unfolding decode
      start_in = rw keys_are (start_low ws x key list ok)

    pub route_given : {a node place : ℕ} {list' : List ℕ} → a ≡ route_answer ws x key list → Walked list 0 (route (decode ws) key x) node place list'
        → record { answer = a; end = node; hops = place; list = list' } ≡ route_buffer ws x key list
    unfolding route_buffer
    route_given {node = node} {place = place} {list' = list'} e w =
        let path : List ℕ = route (decode ws) key x in
        let end : ℕ = get_or path (length path - 1) none_node in
        rw ok
        (ap {B = Routed} (λ (a : ℕ). record { answer = a; end = node; hops = place; list = list' }) (e ∙ ok)
        ∙ ap {B = Routed} (λ (y : ℕ). record { answer = 0; end = y; hops = place; list = list' }) w.end
        ∙ ap {B = Routed} (λ (h : ℕ). record { answer = 0; end = end; hops = h; list = list' }) (hops_are (path_fits ws x key list ok) w)
        ∙ ap {B = Routed} (λ (l : List ℕ). record { answer = 0; end = end; hops = length path - 1; list = l })
        (list_is (path_fits ws x key list ok) w))
