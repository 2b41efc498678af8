-- What a reach is walked with, and what a walk gives.
use Rattle.std.specs.Prelude.{Result, Ok, Err, ◌≡◌, ◌⊎◌, true, false, List, ℕ, ◌+◌, ◌≤◌, ◌<◌, length, get_or}
use Rattle.model.specs.Key.{places, clockwise}
use Rattle.model.specs.Sets.{of_bits, none_node}
use Rattle.model.specs.Ring.{Ring, is_running}
use Rattle.model.specs.WellFormed.{WellFormed}
use Rattle.model.specs.Answers.{number_of}
use Rattle.model.specs.Reach.{Ending, owner, reach, to_last}
use Rattle.model.specs.Reach as model
use Rattle.model.specs.declared.refusal.Refusal.{Refusal}
use Rattle.call_reach.specs.declared.Reached.{Reached}

-- how far before a place each node of the set lies; the others are beyond
pub record Distances (keys : List ℕ) (set to : ℕ) (far : List ℕ) : Type 0 where
  pub room : length far ≡ 64
  pub members : (y : ℕ) → of_bits set y ≡ true → get_or far y 0 ≡ clockwise (get_or keys y 0) to
  pub others : (y : ℕ) → y < 64 → of_bits set y ≡ false → get_or far y 0 ≡ places

-- the greatest of the first n numbers that are at most the limit, or 0 where there is none
pub record Greatest (list : List ℕ) (n limit best : ℕ) : Type 0 where
  pub one_of : (best ≡ 0) ⊎ ((i : ℕ) × (i < n) × (get_or list i 0 ≡ best) × (best ≤ limit))
  pub above : (i : ℕ) → i < n → get_or list i 0 ≤ limit → get_or list i 0 ≤ best

-- x, a running node of the ring that does not own the key a, lies so far before the last running node before the key, as all do
pub record From (r : Ring) (a x : ℕ) (far : List ℕ) (distance : ℕ) : Type 0 where
  pub well : WellFormed r
  pub low : a ≤ 16777215
  pub runs : is_running r x ≡ true
  pub not_owner : x ≡ owner r a → ⊥
  pub distance_is : distance ≡ to_last r a x
  pub listed : (y : ℕ) → is_running r y ≡ true → (y < length far) × (get_or far y 0 ≡ to_last r a y)
  pub off : (y : ℕ) → y < length far → is_running r y ≡ false → get_or far y 0 ≡ places

-- a reach from so far has these hops, and the last one
abbrev pub HopsToLast : List ℕ → ℕ → ℕ → Type 0
HopsToLast far distance hops = (r : Ring) (a x : ℕ) → From r a x far distance → (reach r a x).hops ≡ hops + 1

-- the keys of a ring, and who runs
pub record InRing (r : Ring) (keys : List ℕ) (running : ℕ) : Type 0 where
  pub well : WellFormed r
  pub keys_are : keys ≡ r.table.keys
  pub running_are : (x : ℕ) → of_bits running x ≡ is_running r x

-- the reach in a ring of these keys and running nodes
abbrev pub Walked : List ℕ → ℕ → ℕ → ℕ → Ending → Type 0
Walked keys running key start ending = (r : Ring) → InRing r keys running → ending ≡ reach r key start

-- what the code's answer says
abbrev pub reached : Result Reached Refusal → model.Reach
reached (Ok q) = record { answer = 0; end = q.end.0; hops = q.hops }
reached (Err a) = record { answer = number_of a; end = none_node; hops = 0 }
