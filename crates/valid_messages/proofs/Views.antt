-- The words of a view: their kinds, and their number.
use mathlib.Core.Path.{◌≡◌, refl, ap, ◌∙◌}
use Prim.Native.Nat.{ℕ, ◌+◌, ◌-◌, ◌*◌, ◌/◌, ◌%◌, ◌^◌, ◌≤◌, ◌<◌, zero-le}
use native.Mathlib.Omega.{arith}
use mathlib.Core.Bool.{Bool, true, false, not, ◌&&◌, ◌||◌}
use mathlib.Core.List.{List, [], ◌∷◌}
use lib.ListN.{get_or}
use lib.Arith.{lt-one}
use lib.Pow.{pow_pos}
use lib.Dec.{ltb, leb, eqb, lit<}
use borrow.Author.Tests.{eqb-true, eq-eqb, ne_eqb, lt-ltb, ltb-true, leb-true, le-leb}
use Rattle.std.specs.Prelude.{if◌then◌else◌}
use Rattle.model.specs.Choice.{◌⇒◌, every}
use Rattle.model.specs.Sets.{Set, all, to_bits, of_bits}
use Rattle.model.specs.Fields.{bits}
use Rattle.model.specs.Leafset.{Table, size}
use Rattle.model.specs.WellFormed.{Each, nil, cons}
use Rattle.model.specs.Types.{uses_view}
use Rattle.model.specs.Words.{view_word, stamp_word, decode_message_at, view_fits}
use Rattle.model.proofs.Laws.{clash, decide, is_false, same_test, and_left, and_in, implies_in, implies_out, not_in}
use Rattle.model.proofs.Laws.{not_out, all_in, all_out, every_in, every_out, or_left, or_right, or_case}
use Rattle.model.proofs.Lists.{first, rest}
use Rattle.model.proofs.Bits.{no_bit_above, bit_below}
use Rattle.model.proofs.Fields.{field, bits<}
use Rattle.sets.proofs.Bits.{to_bits_of_bits, within_less}
use Rattle.valid_messages.specs.Rests.{kept}
use Rattle.valid_nodes.proofs.Formats.{of_kind_lem, lowest}

-- a word of kind k that is a part of some width, and no more
pub plain : (width k q w : ℕ) → k * 2 ^ 28 ≡ q * 2 ^ width → eqb w (k * 2 ^ 28 + bits 0 width w) ≡ eqb (w / 2 ^ width) q
plain width k q w = of_kind_lem width k q w (bits 0 width w) (lowest width w)

-- within the limit of a type
limited : (used : Bool) (n v : ℕ) → leb v (if used then 2 ^ n - 1 else 0) ≡ every ((used || eqb v 0) ∷ ltb v (2 ^ n) ∷ [])
limited true n v =
    same_test (leb v (2 ^ n - 1)) (ltb v (2 ^ n) && true)
    (λ e. and_in (lt-ltb v (2 ^ n) (omega (arith, pow_pos n, leb-true v (2 ^ n - 1) e))) refl)
    (λ e. le-leb v (2 ^ n - 1) (omega (arith, ltb-true v (2 ^ n) (and_left (ltb v (2 ^ n)) true e))))
limited false n v =
    same_test (leb v 0) (eqb v 0 && (ltb v (2 ^ n) && true))
    (λ e. let z : v ≡ 0 = omega (arith, leb-true v 0 e) in
    and_in (eq-eqb v 0 z) (and_in (lt-ltb v (2 ^ n) (omega (arith, pow_pos n))) refl))
    (λ e. le-leb v 0 (omega (arith, eqb-true v 0 (and_left (eqb v 0) (ltb v (2 ^ n) && true) e))))

-- a view fits where the type uses one or it is empty, it is a number of n bits, and it lacks its receiver
module _ (tag n r v : ℕ) where
  abbrev member : ℕ → List Bool
  member y = uses_view tag ∷ ltb y n ∷ not (eqb y r) ∷ []

  abbrev within : Set
  within y = of_bits v y ⇒ every (member y)

  abbrev tests : List Bool
  tests = (uses_view tag || eqb v 0) ∷ ltb v (2 ^ n) ∷ not (of_bits v r) ∷ []

  fits_out : n ≤ 64 → v < 2 ^ 64 → r < 64 → all 64 within ≡ true → every tests ≡ true
  fits_out few h l e = every_in (cons used (cons (lt-ltb v (2 ^ n) (within_less n v few h (λ y f. ltb-true y n (first (rest (of y f)))))) (cons apart nil)))
    where
      of : (y : ℕ) → of_bits v y ≡ true → Each (λ b. b ≡ true) (member y)
      of y f = every_out (member y) (implies_out (of_bits v y) (every (member y)) (all_out 64 within e y (bit_below 64 v y h f)) f)

      used : (uses_view tag || eqb v 0) ≡ true
      used =
          decide (uses_view tag) (or_left (eqb v 0))
          (λ d. or_right (uses_view tag) (eq-eqb v 0 (lt-one (within_less 0 v zero-le h (λ y f. clash (first (of y f)) d)))))

      apart : not (of_bits v r) ≡ true
      apart = not_in (is_false (of_bits v r) (λ f. clash (eq-eqb r r refl) (not_out (eqb r r) (first (rest (rest (of r f)))))))

  fits_in : every tests ≡ true → all 64 within ≡ true
  fits_in e = all_in 64 within (λ y h. implies_in (of_bits v y) (every (member y)) (λ f. every_in (cons (used y f) (cons (low y f) (cons (apart y f) nil)))))
    where
      each : Each (λ b. b ≡ true) tests
      each = every_out tests e

      used : (y : ℕ) → of_bits v y ≡ true → uses_view tag ≡ true
      used y f =
          or_case (uses_view tag) (eqb v 0) (first each) (λ u. u)
          (λ z. clash f (no_bit_above 0 v y (rw (eqb-true v 0 z) (lit< tt)) zero-le))

      low : (y : ℕ) → of_bits v y ≡ true → ltb y n ≡ true
      low y f = lt-ltb y n (bit_below n v y (ltb-true v (2 ^ n) (first (rest each))) f)

      apart : (y : ℕ) → of_bits v y ≡ true → not (eqb y r) ≡ true
      apart y f = not_in (ne_eqb y r (λ q. clash f (ap (of_bits v) q ∙ not_out (of_bits v r) (first (rest (rest each))))))

  view_fits_lem : n ≤ 64 → v < 2 ^ 64 → r < 64 → all 64 within ≡ every (leb v (if uses_view tag then 2 ^ n - 1 else 0) ∷ not (of_bits v r) ∷ [])
  view_fits_lem few h l =
      same_test (all 64 within) (every tests) (fits_out few h l) fits_in
      ∙ split (uses_view tag || eqb v 0) (ltb v (2 ^ n)) (not (of_bits v r)) ∙ rw (limited (uses_view tag) n v) refl
    where
      split : (a b c : Bool) → every (a ∷ b ∷ c ∷ []) ≡ every (every (a ∷ b ∷ []) ∷ c ∷ [])
      split true true c = refl
      split true false c = refl
      split false b c = refl

module _ (ws : List ℕ) (base k : ℕ) where
  abbrev low : ℕ
  low = get_or ws (base + 5 * k + 2) 0

  abbrev middle : ℕ
  middle = get_or ws (base + 5 * k + 3) 0

  abbrev high : ℕ
  high = get_or ws (base + 5 * k + 4) 0

  -- the view as a number
  abbrev pub view : ℕ
  view = bits 0 24 low + 2 ^ 24 * bits 0 24 middle + 2 ^ 48 * bits 0 16 high

  view< : view < 2 ^ 64
  view< = omega (arith, bits< 0 24 low, bits< 0 24 middle, bits< 0 16 high)

  whole : to_bits 64 (of_bits view) ≡ view
  whole = to_bits_of_bits 64 view view<

  pub second_kept : kept ws base k 1 ≡ eqb (get_or ws (base + 5 * k + 1) 0 / 2 ^ 24) 112
  unfolding decode_message_at stamp_word
  second_kept = plain 24 7 112 (get_or ws (base + 5 * k + 1) 0) refl

  pub low_kept : kept ws base k 2 ≡ eqb (get_or ws (base + 5 * k + 2) 0 / 2 ^ 24) 128
  unfolding decode_message_at view_word
  low_kept =
      ap (λ (p : ℕ). eqb low (8 * 2 ^ 28 + p))
      (ap (bits 0 24) whole ∙ field 0 24 (bits 0 24 middle + 2 ^ 24 * bits 0 16 high) (bits 0 24 low) 0 (omega arith) (lit< tt) (bits< 0 24 low))
      ∙ plain 24 8 128 low refl

  pub middle_kept : kept ws base k 3 ≡ eqb (get_or ws (base + 5 * k + 3) 0 / 2 ^ 24) 128
  unfolding decode_message_at view_word
  middle_kept =
      ap (λ (p : ℕ). eqb middle (8 * 2 ^ 28 + p))
      (ap (bits 24 24) whole ∙ field 24 24 (bits 0 16 high) (bits 0 24 middle) (bits 0 24 low) (omega arith) (bits< 0 24 low) (bits< 0 24 middle))
      ∙ plain 24 8 128 middle refl

  pub high_kept : kept ws base k 4 ≡ eqb (get_or ws (base + 5 * k + 4) 0 / 2 ^ 16) 32768
  unfolding decode_message_at view_word
  high_kept =
      ap (λ (p : ℕ). eqb high (8 * 2 ^ 28 + p))
      (ap (bits 48 16) whole
      ∙ field 48 16 0 (bits 0 16 high) (2 ^ 24 * bits 0 24 middle + bits 0 24 low) (omega arith)
      (omega (arith, bits< 0 24 low, bits< 0 24 middle)) (bits< 0 16 high))
      ∙ plain 16 8 32768 high refl

  -- "A view holds only stands below n, and not its receiver."
  pub view_test : (t : Table) → size t ≤ 64
      → view_fits t (decode_message_at ws (base + 5 * k))
      ≡ every (leb view (if uses_view (get_or ws (base + 5 * k) 0 % 16) then 2 ^ size t - 1 else 0)
      ∷ not (of_bits view (bits 10 6 (get_or ws (base + 5 * k) 0)))
      ∷ [])
  unfolding decode_message_at
  view_test t few =
      let first : ℕ = get_or ws (base + 5 * k) 0 in
      view_fits_lem (bits 0 4 first) (size t) (bits 10 6 first) view few view< (bits< 10 6 first) ∙ rw (lowest 4 first) refl
