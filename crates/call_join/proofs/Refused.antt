-- The refusals of a join: three lengths in one test, a shared key by a loop in a loop, and what acceptance says.
use mathlib.Core.Path.{◌≡◌, refl, sym, ap, ap₂, ◌∙◌}
use mathlib.Core.Bool.{Bool, true, false, not, ◌&&◌, ◌||◌}
use mathlib.Core.List.{List, ◌∷◌}
use Prim.Native.Nat.{ℕ, ◌+◌, ◌<◌, ◌≤◌}
use native.Mathlib.Omega.{arith}
use native.Mathlib.Numerals.{add-one}
use lib.Dec.{ltb, eqb}
use lib.ListN.{length}
use borrow.Author.Tests.{eqb-true, ltb-false, lt-ltb, le-ltb}
use Rattle.model.specs.Answers.{Refusal, first_of}
use Rattle.model.specs.Leafset.{size, key}
use Rattle.model.specs.Sets.{Set, some}
use Rattle.model.specs.WellFormed.{nil, cons}
use Rattle.model.specs.Words.{ring_length, decode_table, decode, reads_as_ring}
use Rattle.model.specs.Buffer.{not_a_ring}
use Rattle.model.specs.Join.{sides_differ, shares_key, tables_clash, too_many_messages, joining_refusals, join_refusals, join_answer}
use Rattle.model.specs.declared.values.Sides.{Sides}
use Rattle.model.proofs.Answers.{none_applies}
use Rattle.model.proofs.Laws.{clash, and_left, and_right, not_out_false, or_left, or_right, or_none_left}
use Rattle.model.proofs.Lists.{first, rest}

-- ---- 1 of any of three

abbrev one : Bool → Refusal
one p = record { number = 1; applies = not p }

one_short : (p q r : Bool) (qs : List Refusal) → (p && q && r) ≡ false → 1 ≡ first_of (one p ∷ one q ∷ one r ∷ qs)
unfolding first_of
one_short true true true qs e = clash refl e
one_short true true false qs e = refl
one_short true false r qs e = refl
one_short false q r qs e = refl

all_long : (p q r : Bool) (qs : List Refusal) → (p && q && r) ≡ true → first_of qs ≡ first_of (one p ∷ one q ∷ one r ∷ qs)
unfolding first_of
all_long true true true qs e = refl
all_long true true false qs e = clash e refl
all_long true false r qs e = clash e refl
all_long false q r qs e = clash e refl

-- 6 and those of two rings, after the lengths
abbrev after_lengths : List ℕ → List ℕ → List Refusal
after_lengths fs ss = not_a_ring fs ∷ not_a_ring ss ∷ joining_refusals (decode fs) (decode ss)

module _ (fs ss ts : List ℕ) {a b c : Bool} (ea : a ≡ eqb (length fs) ring_length) (eb : b ≡ eqb (length ss) ring_length)
    (ec : c ≡ eqb (length ts) ring_length) where
  lengths : (a && b && c) ≡ (eqb (length fs) ring_length && eqb (length ss) ring_length && eqb (length ts) ring_length)
  lengths = ap₂ ◌&&◌ (ap₂ ◌&&◌ ea eb) ec

  pub wrong_length_lem : (a && b && c) ≡ false → 1 ≡ join_answer fs ss ts
  unfolding join_answer
  wrong_length_lem e = one_short (eqb (length fs) ring_length) (eqb (length ss) ring_length) (eqb (length ts) ring_length) (after_lengths fs ss)
      (sym lengths ∙ e)

  module _ (e : (a && b && c) ≡ true) where
    pub first_long : length fs ≡ ring_length
    first_long = eqb-true (length fs) ring_length (sym ea ∙ and_left a b (and_left (a && b) c e))

    pub second_long : length ss ≡ ring_length
    second_long = eqb-true (length ss) ring_length (sym eb ∙ and_right a b (and_left (a && b) c e))

    -- what the refusals after the lengths give is the answer
    pub lengths_pass : {k : ℕ} → k ≡ first_of (after_lengths fs ss) → k ≡ join_answer fs ss ts
    unfolding join_answer
    lengths_pass p = p ∙ all_long (eqb (length fs) ring_length) (eqb (length ss) ring_length) (eqb (length ts) ring_length) (after_lengths fs ss)
        (sym lengths ∙ e)

-- ---- a loop `found = found | test(i)`

pub some_none : (S : Set) → false ≡ some 0 S
unfolding some
some_none S = refl

pub some_more : (S : Set) (i : ℕ) {a b : Bool} → a ≡ some i S → b ≡ S i → (a || b) ≡ some (i + 1) S
unfolding some
some_more S i p q = ap₂ ◌||◌ p q ∙ sym (ap (λ (k : ℕ). some k S) (add-one i))

-- the key is node y's
abbrev pub is_key : List ℕ → ℕ → Set
is_key ws k y = eqb k (key (decode_table ws) y)

-- node x of the first has the key of one of the second
abbrev pub key_shared : List ℕ → List ℕ → Set
key_shared fs ss x = some (size (decode_table ss)) (is_key ss (key (decode_table fs) x))

-- ---- 14, 15 and 16, of what the code reads

module _ (fs ss : List ℕ) where
  module _ (p q : Sides) (ep : p ≡ (decode_table fs).sides) (eq : q ≡ (decode_table ss).sides) where
    sides_test : not (eqb p.ahead q.ahead && eqb p.behind q.behind) ≡ (sides_differ (decode fs) (decode ss)).applies
    unfolding decode
    sides_test = ap₂ (λ (a b : Sides). not (eqb a.ahead b.ahead && eqb a.behind b.behind)) ep eq

    pub sides_differ_lem : (eqb p.ahead q.ahead && eqb p.behind q.behind) ≡ false → (sides_differ (decode fs) (decode ss)).applies ≡ true
    sides_differ_lem e = sym sides_test ∙ ap not e

    pub same_sides : (eqb p.ahead q.ahead && eqb p.behind q.behind) ≡ true → (sides_differ (decode fs) (decode ss)).applies ≡ false
    same_sides e = sym sides_test ∙ ap not e

  module _ (n k : ℕ) (hn : n ≡ size (decode_table fs)) (hk : k ≡ size (decode_table ss)) where
    pub many_nodes : 64 < n + k → (tables_clash (decode fs) (decode ss)).applies ≡ true
    unfolding decode
    many_nodes h = or_left (shares_key (decode fs) (decode ss)) (lt-ltb 64 (size (decode_table fs) + size (decode_table ss)) (omega (arith, hn, hk)))

    pub no_clash : {b : Bool} → n + k ≤ 64 → b ≡ shares_key (decode fs) (decode ss) → b ≡ false → (tables_clash (decode fs) (decode ss)).applies ≡ false
    unfolding decode
    no_clash h e f = ap₂ ◌||◌ (le-ltb 64 (size (decode_table fs) + size (decode_table ss)) (omega (arith, hn, hk))) (sym e ∙ f)

  pub key_shared_lem : {b : Bool} → b ≡ shares_key (decode fs) (decode ss) → b ≡ true → (tables_clash (decode fs) (decode ss)).applies ≡ true
  key_shared_lem e t = or_right (ltb 64 (size (decode fs).table + size (decode ss).table)) (sym e ∙ t)

  module _ (m l : ℕ) (hm : m ≡ length (decode fs).messages) (hl : l ≡ length (decode ss).messages) where
    pub many_messages : 1024 < m + l → (too_many_messages (decode fs) (decode ss)).applies ≡ true
    many_messages h = lt-ltb 1024 (length (decode fs).messages + length (decode ss).messages) (omega (arith, hm, hl))

    pub few_messages : m + l ≤ 1024 → (too_many_messages (decode fs) (decode ss)).applies ≡ false
    few_messages h = le-ltb 1024 (length (decode fs).messages + length (decode ss).messages) (omega (arith, hm, hl))

-- ---- what acceptance says

pub record Joinable (first second third : List ℕ) : Type 0 where
  pub first_is_ring : reads_as_ring first ≡ true
  pub second_is_ring : reads_as_ring second ≡ true
  pub third_long : length third ≡ ring_length
  pub few_nodes : size (decode_table first) + size (decode_table second) ≤ 64
  pub few_messages : length (decode first).messages + length (decode second).messages ≤ 1024

pub joinable : (fs ss ts : List ℕ) → join_answer fs ss ts ≡ 0 → Joinable fs ss ts
unfolding join_answer decode
joinable fs ss ts a =
    let each = none_applies (join_refusals fs ss ts) (cons refl (cons refl (cons refl (cons refl (cons refl (cons refl (cons refl (cons refl nil)))))))) a in
    let reads = rest (rest (rest each)) in
    let joins = rest (rest reads) in
    record {
      first_is_ring = not_out_false (reads_as_ring fs) (first reads);
      second_is_ring = not_out_false (reads_as_ring ss) (first (rest reads));
      third_long = eqb-true (length ts) ring_length (not_out_false _ (first (rest (rest each))));
      few_nodes = ltb-false 64 (size (decode_table fs) + size (decode_table ss)) (or_none_left _ (shares_key (decode fs) (decode ss)) (first (rest joins)));
      few_messages = ltb-false 1024 (length (decode fs).messages + length (decode ss).messages) (first (rest (rest joins)));
    }
