-- Which running nodes an event parts: connected before it, both running after it, and not connected any more.
use Rattle.std.specs.Prelude.{ℕ, zero, suc, Bool, not, ◌&&◌, List, [], ◌++◌, if◌then◌else◌}
use Rattle.bench_lines.specs.Decimal.{spaced}
use Rattle.text_form.specs.Ascii.{ascii}
use Rattle.model.specs.Sets.{Set, some, members}
use Rattle.model.specs.Leafset.{size}
use Rattle.model.specs.Ring.{Ring, is_running}
use Rattle.model.specs.Connection.{connected}

-- the rings before and after it
module _ (r r' : Ring) where
  abbrev n : ℕ
  n = size r.table

  -- x is parted from some node
  unfoldable pub torn : Set
  torn x = is_running r' x && some n (λ b. connected r x b && is_running r' b && not (connected r' x b))

  unfoldable pub parts : Bool
  parts = some n torn

  -- those of x's group that stay with x
  unfoldable pub side : ℕ → Set
  side x b = connected r x b && connected r' x b

  -- the lowest of its side
  unfoldable pub is_first : Set
  is_first x = torn x && not (some x (side x))

  -- the sides whose lowest is below k, each with its nodes in rising order: "0 2 4 | 3"
  unfoldable pub sides_text : ℕ → List ℕ
  sides_text zero = []
  sides_text (suc x) =
      sides_text x ++ (if is_first x then (if some x is_first then ascii " |" else []) ++ spaced (members n (side x)) else [])
