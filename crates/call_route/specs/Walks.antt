-- What a route is walked with, and what a walk leaves.
use Rattle.std.specs.Prelude.{◌≡◌, true, false, List, ℕ, ◌+◌, ◌-◌, length, get_or, Option, None, Some, Result, Ok, Err}
use Rattle.std.proofs.lemmas.List.Edits.{sets}
use Rattle.model.specs.Sets.{of_bits, none_node}
use Rattle.model.specs.Ring.{Ring, is_running}
use Rattle.model.specs.Words.{decode_table, decode, reads_as_ring}
use Rattle.model.specs.Answers.{number_of}
use Rattle.model.specs.Route.{goes_on, next_of}
use Rattle.model.specs.Route as model
use Rattle.model.specs.declared.refusal.Refusal.{Refusal}
use Rattle.model.specs.declared.values.NodeNumber.{NodeNumber}
use Rattle.call_route.specs.declared.Arrival.{Arrival}

-- words that read as a ring, its keys, and who runs
pub record Ready (ws keys : List ℕ) (running : ℕ) : Type 0 where
  pub reads : reads_as_ring ws ≡ true
  pub keys_are : keys ≡ (decode_table ws).keys
  pub running_are : (x : ℕ) → of_bits running x ≡ is_running (decode ws) x

-- where the route goes from x, or that it ends there
abbrev pub IsNext : Ring → ℕ → ℕ → Option NodeNumber → Type 0
IsNext r key x None = goes_on r key x ≡ false
IsNext r key x (Some y) = (goes_on r key x ≡ true) × (y.0 ≡ next_of r key x)

-- the path stands in the list from `from` on, and its last node at `place`
pub record Walked (list : List ℕ) (from : ℕ) (path : List ℕ) (node place : ℕ) (list' : List ℕ) : Type 0 where
  pub end : node ≡ get_or path (length path - 1) none_node
  pub last : place + 1 ≡ from + length path
  pub written : list' ≡ sets list from path

-- what the code's answer says, with the list
abbrev pub routed : Result Arrival Refusal → List ℕ → model.Routed
routed (Ok q) list = record { answer = 0; end = q.end.0; hops = q.hops; list = list }
routed (Err a) list = record { answer = number_of a; end = none_node; hops = 0; list = list }
