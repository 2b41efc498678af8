-- Routes to the node nearest to a key: document 02's note 5.
use Rattle.std.specs.Prelude.{◌≡◌, ℕ, zero, suc, ◌-◌, Bool, true, ◌&&◌, List, [], ◌∷◌, ◌++◌, length, get_or, drop, ltb, if◌then◌else◌}
use Rattle.model.specs.Sets.{Set, count, some, none_node}
use Rattle.model.specs.Leafset.{size, leafset, beats, nearest}
use Rattle.model.specs.Ring.{Ring, holds, is_running}
use Rattle.model.specs.Words.{decode}
use Rattle.model.specs.Answers.{Refusal, first_of, is_accepted}
use Rattle.model.specs.Questions.{leafset_refusals}

module _ (r : Ring) (key : ℕ) where
  -- "the running stands held there", the whole held set
  abbrev pub held_running : ℕ → Set
  held_running x z = holds r x z && is_running r z

  -- "the nearest of the running stands held there"; 64 where there is none
  unfoldable pub next_of : ℕ → ℕ
  next_of x = nearest r.table key (held_running x)

  -- "as long as that one beats the present stand by the same measure"
  unfoldable pub goes_on : ℕ → Bool
  goes_on x = some (size r.table) (held_running x) && beats r.table key (next_of x) x

  -- "The rest of the route is the route from the next stand": with at most so many hops
  unfoldable pub route_within : ℕ → ℕ → List ℕ
  route_within zero x = x ∷ []
  route_within (suc hops) x = x ∷ (if goes_on x then route_within hops (next_of x) else [])

  -- how many nodes are nearer to the key than x is: it falls with each hop
  abbrev pub nearer_than : ℕ → ℕ
  nearer_than x = count (size r.table) (λ z. beats r.table key z x)

  -- "The route's stands, the start first and the end last"
  unfoldable pub route : ℕ → List ℕ
  route x = route_within (nearer_than x) x

-- every running node holds exactly its leafset of all running nodes
pub record Converged (r : Ring) : Type 0 where
  pub holds_leafset : (x : ℕ) → is_running r x ≡ true → (z : ℕ) → holds r x z ≡ leafset r.table x (is_running r) z

-- ---- the call

-- "12, the key is above 16,777,215; 13, the list is shorter than 64."
abbrev pub key_out_of_range : ℕ → Refusal
key_out_of_range key = record { number = 12; applies = ltb 16777215 key }

abbrev pub list_too_short : List ℕ → Refusal
list_too_short list = record { number = 13; applies = ltb (length list) 64 }

-- "The new refusals come after 8, in rising order."
abbrev pub route_refusals : List ℕ → ℕ → ℕ → List ℕ → List Refusal
route_refusals ws start key list = leafset_refusals ws start ++ (key_out_of_range key ∷ list_too_short list ∷ [])

unfoldable pub route_answer : List ℕ → ℕ → ℕ → List ℕ → ℕ
route_answer ws start key list = first_of (route_refusals ws start key list)

-- "the end stand and the hop count are in the answer"
pub record Routed : Type 0 where
  pub answer : ℕ
  pub end : ℕ
  pub hops : ℕ
  pub list : List ℕ

-- "Unused places in the list are not written. A refused route answers 0 hops and stand 64, and the list is untouched."
unfoldable pub route_buffer : List ℕ → ℕ → ℕ → List ℕ → Routed
route_buffer ws start key list =
    if is_accepted (route_answer ws start key list)
    then record { answer = 0; end = get_or path hops none_node; hops = hops; list = path ++ drop (length path) list }
    else record { answer = route_answer ws start key list; end = none_node; hops = 0; list = list }
  where
    path : List ℕ
    path = route (decode ws) key start

    hops : ℕ
    hops = length path - 1
