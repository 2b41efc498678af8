-- Leafsets, the choice of a spare, and successors: what a node computes from the table and a set.
use Rattle.std.specs.Prelude.{ℕ, ◌+◌, Bool, not, ◌&&◌, ◌||◌, List, length, get_or, ltb, eqb}
use Rattle.model.specs.Key.{clockwise, counter_clockwise, distance}
use Rattle.model.specs.Sets.{Set, without, count, some, lowest}
use Rattle.model.specs.declared.values.Sides.{Sides}

-- "Opening takes [A, B] and a list of n keys, stand 0's first": what never changes of a ring
pub record Table : Type 0 where
  pub sides : Sides
  pub keys : List ℕ

-- "table size n"
abbrev pub size : Table → ℕ
size t = length t.keys

abbrev pub key : Table → ℕ → ℕ
key t x = get_or t.keys x 0

module _ (t : Table) where
  -- how many of S lie nearer to the key a than y does, by the distance d
  abbrev pub nearer : (ℕ → ℕ → ℕ) → ℕ → Set → ℕ → ℕ
  nearer d a S y = count (size t) (λ z. S z && ltb (d a (key t z)) (d a (key t y)))

  -- y is one of the `many` of S nearest to the key a, by the distance d
  abbrev pub is_near : ℕ → (ℕ → ℕ → ℕ) → ℕ → Set → ℕ → Bool
  is_near many d a S y = ltb (nearer d a S y) many

  -- the member of S that is met first from the key a by the distance d, one at a included; 64 where S has none
  abbrev pub first_met : (ℕ → ℕ → ℕ) → ℕ → Set → ℕ
  first_met d a S = lowest (size t) (λ y. S y && eqb (nearer d a S y) 0)

  -- "take x out of S"; "everything if fewer than A + B are left, else the A nearest clockwise and the B nearest the other way"
  unfoldable pub leafset : ℕ → Set → Set
  leafset x S y =
      left y
      && (ltb (count (size t) left) (t.sides.ahead + t.sides.behind)
      || is_near t.sides.ahead clockwise (key t x) left y
      || is_near t.sides.behind counter_clockwise (key t x) left y)
    where
      left : Set
      left = without S x

  -- y is nearer to the key a than z is; "of two equally near, the clockwise one from a"
  abbrev pub beats : ℕ → ℕ → ℕ → Bool
  beats a y z =
      ltb (distance a (key t y)) (distance a (key t z))
      || (eqb (distance a (key t y)) (distance a (key t z)) && ltb (clockwise a (key t y)) (clockwise a (key t z)))

  -- the member of S nearest to the key a, or 64
  unfoldable pub nearest : ℕ → Set → ℕ
  nearest a S = lowest (size t) (λ y. S y && not (some (size t) (λ z. S z && beats a z y)))

  -- "the member of my leafset, other than a, nearest to a and strictly nearer to a than I am; .. else 64", at x
  unfoldable pub closest : ℕ → Set → ℕ → ℕ
  closest x held a =
      nearest (key t a) (λ y. without (leafset x held) a y && ltb (distance (key t a) (key t y)) (distance (key t a) (key t x)))

  -- "a stand's successor is its held stand nearest clockwise"; 64 for one that holds nobody
  unfoldable pub successor : ℕ → Set → ℕ
  successor x held = first_met clockwise (key t x) held

  -- "it passes zero when the stand's clockwise distance to key 0 is below that to the successor;
  -- one that holds nobody doesn't pass zero"
  unfoldable pub passes_zero : ℕ → Set → Bool
  passes_zero x held =
      some (size t) held
      && ltb (clockwise (key t x) 0) (clockwise (key t x) (key t (successor x held)))
