-- What a step is lent of words that read as a ring: the acting node, and the keys of the table.
use mathlib.Core.Path.{◌≡◌, sym, ap, ap₂, subst, ◌∙◌}
use mathlib.Core.List.{List}
use Prim.Native.Nat.{ℕ}
use native.Mathlib.Omega.{arith}
use lib.ListN.{length, take}
use Rattle.model.specs.Leafset.{Table}
use Rattle.model.specs.Words.{decode_table, decode}
use Rattle.model.specs.Structs.{table_of}
use Rattle.model.specs.declared.values.Sides.{Sides}
use Rattle.records.specs.Lent.{Lent}
use Rattle.ring_head.proofs.ReadRing.{table_sides_room}
use Rattle.event_act.specs.Acting.{IsActor}
use Rattle.event_act.specs.declared.Actor.{Actor}

module _ {ws : List ℕ} {x : ℕ} {a : Actor} (is : IsActor ws x a) where
  module _ (keys : List ℕ) (e : take a.n keys ≡ (decode_table ws).keys) where
    pub keys_many : length (take a.n keys) ≡ a.n
    keys_many = ap length e ∙ sym is.nodes

    keys_table : {sides : Sides} → sides ≡ (decode_table ws).sides → table_of sides (take a.n keys) ≡ (decode ws).table
    unfolding decode
    keys_table l = ap₂ {C = Table} table_of l e

    -- what holds of the lent keys holds of the table
    pub of_table : (P : ℕ → Table → Type 0) {sides : Sides} → sides ≡ (decode_table ws).sides
        → P (length (take a.n keys)) (table_of sides (take a.n keys)) → P a.n (decode ws).table
    of_table P {sides} l p = subst (P a.n) (keys_table l) (subst (λ (n : ℕ). P n (table_of sides (take a.n keys))) keys_many p)

    pub lent : {sides : Sides} → sides ≡ (decode_table ws).sides → Lent (take a.n keys) sides x a.own
    lent l =
        record {
          table = record {
            few = omega (arith, keys_many, is.few);
            node = omega (arith, keys_many, is.member);
            within = λ y h. omega (arith, keys_many, is.fits.held_within y h);
          };
          sides_room = rw l (table_sides_room ws);
          own_fits = rw keys_many is.fits;
          spare_high = is.spare_high;
        }
