-- Computed rows: which nodes an event parts, by the rings before and after it.
use mathlib.Core.Path.{◌≡◌, refl}
use mathlib.Core.Bool.{true, false}
use mathlib.Core.List.{List, [], ◌∷◌}
use Prim.Native.Nat.{ℕ}
use Rattle.bench_lines.specs.Decimal
use Rattle.text_form.specs.Ascii.{ascii}
use Rattle.model.specs.Sets
use Rattle.model.specs.Ring.{Ring}
use Rattle.model.specs.Connection
use Rattle.audit_account.specs.Partings
use Rattle.audit_account.specs.Partings.{parts}
use Rattle.audit_account.proofs.ExampleRing.{ring}

-- who runs, and whom each node holds, by their bits
unfoldable pub holding : ℕ → List ℕ → Ring
holding running held = ring running held []

unfoldable pub sides : Ring → Ring → List ℕ
sides r r' = Partings.sides_text r r' 4

pub record PartingRows : Type 0 where
  -- the lowest node of a side stands first, and the sides go by their lowest node
  pub two_sides :
      sides (holding 0b1111 (0b0110 ∷ 0b1000 ∷ [])) (holding 0b1111 (0b0100 ∷ 0b1000 ∷ [])) ≡ ascii " 0 2 | 1 3"
  pub three_sides : sides (holding 0b1111 (0b1110 ∷ [])) (holding 0b1111 (0b0100 ∷ [])) ≡ ascii " 0 2 | 1 | 3"
  -- a node that was with nobody is on no side
  pub aside : sides (holding 0b1111 (0b0010 ∷ [])) (holding 0b1111 []) ≡ ascii " 0 | 1"
  -- a link fewer parts nobody where another way is left
  pub another_way : parts (holding 0b0111 (0b0110 ∷ 0b0100 ∷ [])) (holding 0b0111 (0b0100 ∷ 0b0100 ∷ [])) ≡ false
  -- who goes off is not parted, but may part others
  pub goes_off : parts (holding 0b0111 (0b0110 ∷ [])) (holding 0b0011 (0b0010 ∷ [])) ≡ false
  pub goes_off_between : parts (holding 0b0111 (0b0110 ∷ [])) (holding 0b0110 []) ≡ true
  -- two nodes that were not connected are not parted, nor are two that become so
  pub never_together : parts (holding 0b0011 []) (holding 0b0011 []) ≡ false
  pub joined : parts (holding 0b0011 []) (holding 0b0011 (0b0010 ∷ [])) ≡ false

pub parting_rows : PartingRows
unfolding holding sides ring Decimal.decimal_in Decimal.decimal Decimal.spaced Sets.all Sets.some Sets.count Sets.members Sets.tabulate_from
    Connection.reached Connection.connected Connection.groups Partings.torn Partings.parts Partings.side Partings.is_first Partings.sides_text
parting_rows =
    record {
      two_sides = refl;
      three_sides = refl;
      aside = refl;
      another_way = refl;
      goes_off = refl;
      goes_off_between = refl;
      never_together = refl;
      joined = refl;
    }
