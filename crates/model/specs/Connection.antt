-- Connection between running nodes: the definition, a test that decides it, and the number of groups.
use Rattle.std.specs.Prelude.{◌≡◌, ℕ, zero, suc, ◌<◌, Bool, true, false, not, ◌&&◌, ◌||◌, List, get_or, eqb}
use Rattle.model.specs.Sets.{Set, some, count, tabulate}
use Rattle.model.specs.Leafset.{size}
use Rattle.model.specs.Ring.{Ring, holds, is_running}

-- a step: both run, and "a pair of which one holds the other"
abbrev pub linked : Ring → ℕ → ℕ → Bool
linked r a b = is_running r a && is_running r b && (holds r a b || holds r b a)

-- "Two running stands are connected if steps between running stands lead from one to the other, each step a pair of which one
-- holds the other; a stand is connected to itself."
pub data Connected (r : Ring) : ℕ → ℕ → Type 0 where
  itself : {a : ℕ} → is_running r a ≡ true → Connected r a a
  onward : {a b c : ℕ} → linked r a b ≡ true → Connected r b c → Connected r a c

-- which nodes at most k steps lead to from a: a mark for each node
unfoldable pub reached : Ring → ℕ → ℕ → List Bool
reached r a zero = tabulate (size r.table) (λ b. eqb a b)
reached r a (suc k) =
    let before : List Bool = reached r a k in
    tabulate (size r.table) (λ b. get_or before b false || some (size r.table) (λ c. get_or before c false && linked r c b))

-- a test for connection: n steps lead as far as any number does
unfoldable pub connected : Ring → ℕ → ℕ → Bool
connected r a b = is_running r a && get_or (reached r a (size r.table)) b false

-- a lower node is connected to b
abbrev pub has_lower : Ring → ℕ → Bool
has_lower r b = some b (λ a. connected r a b)

-- a running node that no lower one is connected to: the first of its group
abbrev pub first : Ring → Set
first r b = is_running r b && not (has_lower r b)

-- "the number of connected groups of running stands"
unfoldable pub groups : Ring → ℕ
groups r = count (size r.table) (first r)

-- what it is to count the groups: k nodes are counted, all running, and each running node is connected to exactly one of them
pub record CountsGroups (r : Ring) (k : ℕ) : Type 0 where
  pub counted : Set
  pub how_many : count (size r.table) counted ≡ k
  pub in_table : (y : ℕ) → counted y ≡ true → y < size r.table
  pub running : (y : ℕ) → counted y ≡ true → is_running r y ≡ true
  pub to_one : (x : ℕ) → is_running r x ≡ true → (y : ℕ) × (counted y ≡ true) × Connected r x y
  pub to_no_other : (x y z : ℕ) → counted y ≡ true → counted z ≡ true → Connected r x y → Connected r x z → y ≡ z
