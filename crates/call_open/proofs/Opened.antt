-- The answer of an opening, and the room of the parts of an accepted one.
use mathlib.Core.Path.{◌≡◌, refl, sym, ap, ap₂, ◌∙◌}
use mathlib.Core.Bool.{Bool, true, false, not, ◌&&◌, ◌||◌}
use mathlib.Core.List.{List}
use Prim.Native.Nat.{ℕ, ◌^◌, ◌≤◌, ◌<◌}
use native.Mathlib.Omega.{arith}
use native.Mathlib.Decide.{dec_lt}
use lib.Dec.{leb, eqb, lit<}
use borrow.Author.Tests.{leb-true, le-leb, eqb-true, eq-eqb, ne_eqb}
use Rattle.std.specs.Prelude.{◌≢◌, ◌↔◌, IsTrue, EachIndex}
use Rattle.model.specs.Sets.{all}
use Rattle.model.proofs.Laws.{clash, same_test, all_in, all_out, or_left, or_right, or_case, not_out, not_out_false}
use lib.ListN.{length, get_or, get_or-eq_default}
use Rattle.model.specs.Leafset.{Table}
use Rattle.model.specs.Words.{ring_length, in_range, keys_differ}
use Rattle.model.specs.Buffer.{open_refusals, open_answer}
use Rattle.model.specs.Structs.{table_of, RoomSides}
use Rattle.model.specs.declared.values.Sides.{Sides}
use Rattle.model.specs.WellFormed.{WellFormedTable, nil, cons}
use Rattle.model.proofs.Words.{well_room}
use Rattle.model.proofs.WellFormedPlay.{table_well}
use Rattle.model.proofs.Answers.{here, next, no_more, none_applies}
use Rattle.model.proofs.Lists.{first}
use Rattle.answers.proofs.Refusals.{wrong_length_lem, right_length}

-- the tests of the keys, as the answer has them
module _ (keys : List ℕ) {b : Bool} where
  pub low_keys : IsTrue b ↔ EachIndex keys (λ s. get_or keys s 0 ≤ 16777215) → b ≡ all (length keys) (λ s. leb (get_or keys s 0) 16777215)
  low_keys h =
      same_test b _
      (λ e. all_in (length keys) _ (λ s l. le-leb _ _ (h.0 e s l)))
      (λ e. h.1 (λ s l. leb-true _ _ (all_out (length keys) _ e s l)))

  pub own_keys : (sides : Sides) → IsTrue b ↔ EachIndex keys (λ x. (y : ℕ) → y < x → get_or keys y 0 ≢ get_or keys x 0) → b ≡ keys_differ (table_of sides keys)
  unfolding keys_differ
  own_keys sides h =
      same_test b _
      (λ e. all_in (length keys) _ (λ x l. all_in (length keys) _ (λ y k. apart x y (h.0 e x l y) (λ q. h.0 e y k x q))))
      (λ e. h.1 (λ x l y k. differs x y k (all_out (length keys) _ (all_out (length keys) _ e x l) y (omega arith))))
    where
      apart : (x y : ℕ) → (y < x → get_or keys y 0 ≢ get_or keys x 0) → (x < y → get_or keys x 0 ≢ get_or keys y 0)
          → (eqb x y || not (eqb (get_or keys x 0) (get_or keys y 0))) ≡ true
      apart x y below above =
          elim (dec_lt x y) [
            | yes h ↦ or_right _ (ap not (ne_eqb _ _ (above h)))
            | no h ↦ elim (dec_lt y x) [
              | yes k ↦ or_right _ (ap not (ne_eqb _ _ (λ e. below k (sym e))))
              | no k ↦ or_left _ (eq-eqb x y (omega arith))
            ]
          ]

      differs : (x y : ℕ) → y < x → (eqb x y || not (eqb (get_or keys x 0) (get_or keys y 0))) ≡ true → get_or keys y 0 ≢ get_or keys x 0
      differs x y k t e =
          or_case _ _ t (λ q. let p = eqb-true x y q in absurd (omega arith)) (λ q. clash (eq-eqb _ _ (sym e)) (not_out _ q))

module _ (ws : List ℕ) (sides : Sides) (keys : List ℕ) where
  abbrev t : Table
  t = table_of sides keys

  pub refused_length : (length ws ≡ ring_length → ⊥) → open_answer ws t ≡ 1
  unfolding open_answer
  refused_length d = here _ _ (wrong_length_lem ws d)

  module _ (long : length ws ≡ ring_length) where
    pub refused_range : in_range t ≡ false → open_answer ws t ≡ 2
    unfolding open_answer
    refused_range e = next _ _ (right_length ws long) ∙ here _ _ (ap not e)

    module _ (range : in_range t ≡ true) {low : Bool} (fit : IsTrue low ↔ EachIndex keys (λ s. get_or keys s 0 ≤ 16777215)) where
      pub refused_high : low ≡ false → open_answer ws t ≡ 3
      unfolding open_answer
      refused_high e =
          next _ _ (right_length ws long) ∙ next _ _ (ap not range) ∙ here _ _ (ap (λ (b : Bool). not (b && keys_differ t)) (sym (low_keys keys fit) ∙ e))

      module _ {own : Bool} (differ : IsTrue own ↔ EachIndex keys (λ x. (y : ℕ) → y < x → get_or keys y 0 ≢ get_or keys x 0)) (is_low : low ≡ true) where
        tested : {q : Bool} → own ≡ q → (all (length keys) (λ s. leb (get_or keys s 0) 16777215) && keys_differ t) ≡ q
        tested e = ap₂ ◌&&◌ (sym (low_keys keys fit) ∙ is_low) (sym (own_keys keys sides differ) ∙ e)

        pub refused_twice : own ≡ false → open_answer ws t ≡ 3
        unfolding open_answer
        refused_twice e = next _ _ (right_length ws long) ∙ next _ _ (ap not range) ∙ here _ _ (ap not (tested e))

        pub opened : own ≡ true → open_answer ws t ≡ 0
        unfolding open_answer
        opened e = next _ _ (right_length ws long) ∙ next _ _ (ap not range) ∙ next _ _ (ap not (tested e)) ∙ no_more

  module _ (a : open_answer ws t ≡ 0) where
    pub is_long : length ws ≡ ring_length
    unfolding open_answer
    is_long = eqb-true _ _ (not_out_false _ (first (none_applies (open_refusals ws t) (cons refl (cons refl (cons refl nil))) a)))

    abbrev well : WellFormedTable t
    well = table_well ws t a

    pub sides_room : RoomSides sides
    sides_room = well_room well.sides_well

    pub few_keys : length keys ≤ 64
    few_keys = well.size_high

    pub key_room : (s : ℕ) → get_or keys s 0 < 2 ^ 24
    key_room s =
        elim (dec_lt s (length keys)) [
          | yes h ↦ omega (arith, well.key_high s h)
          | no h ↦ rw (get_or-eq_default keys 0 {n = s} (omega arith)) (lit< tt)
        ]
