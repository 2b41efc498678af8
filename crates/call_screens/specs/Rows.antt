-- What is put into the lent arrays of stamps and spares.
use Rattle.std.specs.Prelude.{ℕ, ◌+◌, ◌-◌, ◌*◌, not, ◌&&◌, List, ltb, eqb, if◌then◌else◌}
use Rattle.model.specs.Leafset.{size}
use Rattle.model.specs.Ring.{Own}
use Rattle.model.specs.Words.{decode_table, decode}
use Rattle.model.specs.Structs.{spare_at}
use Rattle.model.specs.Screens.{of_pair_at}
use Rattle.model.specs.declared.node.NodeRecord.{NodeRecord}
use Rattle.ring_ranges.specs.Spans.{Patched}

-- l' is l with f z at 64 x + z
abbrev pub RowPut : List ℕ → List ℕ → ℕ → (ℕ → ℕ) → Type 0
RowPut l l' x f = Patched l l' (64 * x) (64 * x + 64) (λ i. f (i - 64 * x))

-- the spare that node x, of n, has for z: 0 where there is no pair
abbrev pub spare_in : ℕ → ℕ → NodeRecord → ℕ → ℕ
spare_in n x own z = if ltb z n && not (eqb x z) then spare_at own z else 0

-- l' is l with a part of each node's record, of the ring that the words read as, from place 0 on
abbrev pub RowsPut : List ℕ → List ℕ → List ℕ → (Own → ℕ → ℕ) → Type 0
RowsPut ws l l' part = Patched l l' 0 (64 * size (decode_table ws)) (of_pair_at (decode ws) part)
