-- The tests of the nodes, as the code joins them.
use mathlib.Core.Path.{◌≡◌, sym, ap, ◌∙◌}
use Prim.Native.Nat.{ℕ, ◌+◌, ◌/◌, ◌^◌, ◌<◌}
use native.Mathlib.Omega.{arith}
use native.Mathlib.Decide.{dec_lt, ℕ_discrete}
use mathlib.Core.Bool.{Bool, true, false, not, ◌&&◌, ◌||◌}
use mathlib.Core.List.{List}
use lib.Bits.{bit_xor}
use lib.Dec.{eqb}
use lib.ListN.{length, get_or, set}
use lib.Seq.{get_or-set_same, get_or-set_other}
use borrow.Author.Tests.{eqb-true, eqb-false, eq-eqb, ne_eqb}
use Rattle.model.specs.Sets.{all}
use Rattle.model.specs.Leafset.{size, key}
use Rattle.model.specs.Fields.{bits, flag}
use Rattle.model.specs.Words.{key_word, clock_word, keys_differ, decode_table, size_in}
use Rattle.model.proofs.Laws.{or_left, or_right, or_case, clash, not_in, not_out, same_test, all_in, all_out, length_tabulate, get_d_tabulate}
use Rattle.valid_nodes.specs.Nodes.{key_at, clock_at, node_reads, nodes_read}
use Rattle.valid_nodes.specs.Hashes.{key_of, hash_of, is_new}
use Rattle.valid_nodes.proofs.Gather.{two, all_both, all_cong}
use Rattle.valid_nodes.proofs.Formats.{key_format, clock_format, xor_above}

pub key_word_lem : (w : ℕ) → eqb (bit_xor w 536870912 / 2 ^ 25) 0 ≡ eqb w (key_word (bits 0 24 w) (flag 24 w))
key_word_lem w = xor_above 25 w 536870912 ∙ sym (key_format w)

pub clock_word_lem : (w : ℕ) → eqb (bit_xor w 1342177280 / 2 ^ 24) 0 ≡ eqb w (clock_word (bits 0 24 w))
clock_word_lem w = xor_above 24 w 1342177280 ∙ sym (clock_format w)

-- ---- the table that the words decode to

module _ (ws : List ℕ) where
  pub size_is : size (decode_table ws) ≡ size_in ws
  unfolding decode_table
  size_is = length_tabulate (λ s. bits 0 24 (key_at ws s)) (size_in ws)

  pub key_is : (s : ℕ) → s < size_in ws → key (decode_table ws) s ≡ bits 0 24 (key_at ws s)
  unfolding decode_table
  key_is s h = get_d_tabulate (λ s. bits 0 24 (key_at ws s)) 0 (size_in ws) s h

module _ (ws : List ℕ) (n : ℕ) where
  pub nodes_tests : (all n (λ s. eqb (key_at ws s) (key_word (bits 0 24 (key_at ws s)) (flag 24 (key_at ws s))))
      && all n (λ s. eqb (clock_at ws s) (clock_word (bits 0 24 (clock_at ws s))))) ≡ nodes_read ws n
  unfolding nodes_read node_reads
  nodes_tests =
      all_both key_fits_lem clock_fits n
      ∙ all_cong (λ s. key_fits_lem s && clock_fits s) (λ s. node_reads (key_at ws s) (clock_at ws s)) n (λ s h. two (key_fits_lem s) (clock_fits s))
    where
      key_fits_lem : ℕ → Bool
      key_fits_lem s = eqb (key_at ws s) (key_word (bits 0 24 (key_at ws s)) (flag 24 (key_at ws s)))

      clock_fits : ℕ → Bool
      clock_fits s = eqb (clock_at ws s) (clock_word (bits 0 24 (clock_at ws s)))

  -- no key is met before it, so the keys differ
  pub keys_tests : n ≡ size_in ws → all n (is_new ws) ≡ keys_differ (decode_table ws)
  unfolding keys_differ is_new
  keys_tests e =
      same_test (all n (λ x. all x (λ y. not (eqb (key_of_lem y) (key_of_lem x))))) (keys_differ (decode_table ws))
      (λ t. all_in (size (decode_table ws)) (λ x. all (size (decode_table ws)) (λ y. eqb x y || not (eqb (key (decode_table ws) x) (key (decode_table ws) y))))
      (λ x hx. all_in (size (decode_table ws)) (λ y. eqb x y || not (eqb (key (decode_table ws) x) (key (decode_table ws) y)))
      (λ y hy. differ t x y (below hx) (below hy))))
      (λ t. all_in n (λ x. all x (λ y. not (eqb (key_of_lem y) (key_of_lem x))))
      (λ x hx. all_in x (λ y. not (eqb (key_of_lem y) (key_of_lem x))) (λ y hy. new t x y hx hy)))
    where
      key_of_lem : ℕ → ℕ
      key_of_lem s = bits 0 24 (key_at ws s)

      below : {s : ℕ} → s < size (decode_table ws) → s < n
      below h = rw e (rw (size_is ws) at h)

      differ : all n (λ x. all x (λ y. not (eqb (key_of_lem y) (key_of_lem x)))) ≡ true → (x y : ℕ) → x < n → y < n
          → (eqb x y || not (eqb (key (decode_table ws) x) (key (decode_table ws) y))) ≡ true
      differ t x y hx hy =
          rw (key_is ws x (rw e at hx), key_is ws y (rw e at hy))
          (elim (dec_lt x y) [
            | yes l ↦ or_right (eqb x y) (met x y l hy)
            | no d ↦ elim (dec_lt y x) [
              | yes l ↦ or_right (eqb x y) (not_in (ne_eqb (key_of_lem x) (key_of_lem y) (λ q.
                  eqb-false (key_of_lem y) (key_of_lem x) (not_out (eqb (key_of_lem y) (key_of_lem x)) (met y x l hx)) (sym q))))
              | no d₂ ↦ or_left (not (eqb (key_of_lem x) (key_of_lem y))) (eq-eqb x y (omega arith))
            ]
          ])
        where
          met : (y x : ℕ) → y < x → x < n → not (eqb (key_of_lem y) (key_of_lem x)) ≡ true
          met y x l h =
              all_out x (λ y. not (eqb (key_of_lem y) (key_of_lem x)))
              (all_out n (λ x. all x (λ y. not (eqb (key_of_lem y) (key_of_lem x)))) t x h) y l

      new : keys_differ (decode_table ws) ≡ true → (x y : ℕ) → x < n → y < x → not (eqb (key_of_lem y) (key_of_lem x)) ≡ true
      new t x y hx hy =
          let hx₁ : x < size_in ws = rw e at hx in
          let hy₁ : y < size_in ws = omega arith in
          or_case (eqb y x) (not (eqb (key (decode_table ws) y) (key (decode_table ws) x)))
          (all_out (size (decode_table ws)) (λ x. eqb y x || not (eqb (key (decode_table ws) y) (key (decode_table ws) x)))
          (all_out (size (decode_table ws))
          (λ x. all (size (decode_table ws)) (λ y. eqb x y || not (eqb (key (decode_table ws) x) (key (decode_table ws) y))))
          t y (rw (size_is ws) hy₁))
          x (rw (size_is ws) hx₁))
          (λ p. let q = eqb-true y x p in absurd (omega arith))
          (λ p. rw (key_is ws y hy₁, key_is ws x hx₁) at p)

-- ---- hashes

-- the hash of each key before x was met
abbrev pub Hashed : List Bool → List ℕ → ℕ → Type 0
Hashed met ws x = (y : ℕ) → y < x → get_or met (hash_of (key_of ws y)) false ≡ true

pub unmet_new : (met : List Bool) (ws : List ℕ) (x : ℕ) → Hashed met ws x → get_or met (hash_of (key_of ws x)) false ≡ false → is_new ws x ≡ true
unfolding is_new
unmet_new met ws x hashed unmet =
    all_in x (λ y. not (eqb (key_of ws y) (key_of ws x)))
    (λ y h. not_in (ne_eqb (key_of ws y) (key_of ws x) (λ e. clash (hashed y h) (ap (λ (k : ℕ). get_or met (hash_of k) false) e ∙ unmet))))

pub hashed_more : (met : List Bool) (ws : List ℕ) (x : ℕ) → length met ≡ 512 → Hashed met ws x → Hashed (set met (hash_of (key_of ws x)) true) ws (x + 1)
hashed_more met ws x long hashed y h =
    elim (ℕ_discrete (hash_of (key_of ws y)) (hash_of (key_of ws x))) [
      | yes e ↦ rw e (get_or-set_same met (hash_of (key_of ws x)) true false (omega (arith, long)))
      | no d ↦ get_or-set_other met (hash_of (key_of ws x)) (hash_of (key_of ws y)) true false d
          ∙ hashed y (elim (ℕ_discrete y x) [ yes e ↦ absurd (d (ap (λ (s : ℕ). hash_of (key_of ws s)) e)) | no n ↦ omega arith ])
    ]
