-- The tests of a script's first words, and the answer that they give.
use mathlib.Core.Path.{◌≡◌, refl, sym, ap, ap₂, ◌∙◌}
use mathlib.Core.Bool.{Bool, true, false, not, ◌&&◌}
use mathlib.Core.List.{List, [], ◌∷◌}
use Prim.Native.Nat.{ℕ, ◌+◌, ◌-◌, ◌≤◌, ◌<◌}
use native.Mathlib.Omega.{arith}
use borrow.Author.Tests.{leb-true, eq-eqb}
use lib.Dec.{leb, eqb}
use lib.ListN.{length, get_or, take, drop, length-map, length-drop, get_or-map}
use lib.Seq.{ext_get_or, get_or-take, get_or-drop, length-take-le}
use Rattle.std.specs.List.{slice_get}
use Rattle.std.specs.Prelude.{None, Some, Err, ◌↔◌, IsTrue, EachIndex, slice_index}
use Rattle.model.proofs.Cases.{number_high}
use Rattle.model.specs.Choice.{every}
use Rattle.model.specs.Sets.{all}
use Rattle.model.specs.Leafset.{Table, size, key}
use Rattle.model.specs.Fields.{bits}
use Rattle.model.specs.Ring.{initial}
use Rattle.model.specs.WellFormed.{WellFormed}
use Rattle.model.specs.Answers.{Refusal, first_of, is_accepted, number_of}
use Rattle.model.specs.Words.{ring_length, sides_of, sides_fit, head_word, key_word, in_range, encode, decode, reads_as_ring}
use Rattle.model.specs.Buffer.{Written, out_of_range, bad_key, opening_refusals, open_answer, open_buffer}
use Rattle.model.specs.Structs.{table_of}
use Rattle.model.specs.Bench.{script_table, script_answer}
use Rattle.model.specs.declared.refusal.Refusal.{Refusal as Kind}
use Rattle.model.specs.declared.values.Sides.{Sides}
use Rattle.model.proofs.Laws.{clash, decide, and_right, same_test, all_in, all_out}
use Rattle.model.proofs.Words.{length_encode}
use Rattle.model.proofs.RoundTrip.{round_trip}
use Rattle.model.proofs.Fits.{encoded_reads}
use Rattle.model.proofs.WellFormedPlay.{table_well, initial_well}
use Rattle.answers.specs.Applied.{written}
use Rattle.ring_head.proofs.Arrays.{Filled}
use Rattle.bench_open.specs.Beginning.{head_fits, sizes_fit, key_fits, keys_fit, script_keys, open_script}

-- the first word, if there is one
pub first_word : (ws : List ℕ) {w : ℕ} → Some w ≡ slice_get ws 0 → w ≡ get_or ws 0 0
first_word [] e = absurd (cc)
first_word (x ∷ ws) e = cc

pub no_head : (ws : List ℕ) → None ≡ slice_get ws 0 → head_fits ws ≡ false
unfolding head_fits head_word
no_head [] e = refl
no_head (w ∷ ws) e = absurd (cc)

-- ---- the keys

-- a word of those after the first
pub word_at : (ws : List ℕ) (m s : ℕ) → s < m → get_or (take m (drop 1 ws)) s 0 ≡ get_or ws (1 + s) 0
word_at ws m s h = get_or-take m (drop 1 ws) s 0 h ∙ get_or-drop 1 ws s 0

pub words_long : (ws : List ℕ) (n : ℕ) → 1 + n ≤ length ws → length (take (n + 1 - 1) (drop 1 ws)) ≡ n
words_long ws n h = length-take-le (n + 1 - 1) (drop 1 ws) (simp length-drop (omega arith)) ∙ omega arith

pub keys_tested : (ws : List ℕ) (n m : ℕ) {b : Bool} → 1 + n ≤ length ws → m ≡ n
    → IsTrue b ↔ EachIndex (take m (drop 1 ws)) (λ s. key_fits (slice_index (take m (drop 1 ws)) s) ≡ true) → b ≡ keys_fit ws n
unfolding keys_fit
keys_tested ws n m h e t =
    let long : length (take m (drop 1 ws)) ≡ n = length-take-le m (drop 1 ws) (simp length-drop (omega arith)) ∙ e in
    same_test _ _
    (λ b. all_in n _ (λ s l. ap key_fits (sym (word_at ws m s (omega arith))) ∙ t.0 b s (omega arith)))
    (λ a. t.1 (λ s l. ap key_fits (word_at ws m s (omega arith)) ∙ all_out n _ a s (omega arith)))

-- the key of node s, where its word is not missing
key_at_lem : (ws : List ℕ) (n s : ℕ) → s < n → get_or (script_keys ws n) s 0 ≡ bits 0 24 (get_or ws (1 + s) 0)
key_at_lem ws n s h = get_or-map (bits 0 24) (take n (drop 1 ws)) s 0 ∙ ap (bits 0 24) (word_at ws n s h)

pub keys_long : (ws : List ℕ) (n : ℕ) → 1 + n ≤ length ws → length (script_keys ws n) ≡ n
keys_long ws n h = simp length-map (length-take-le n (drop 1 ws) (simp length-drop (omega arith)))

pub keys_loaded : (ws : List ℕ) (n : ℕ) (ks : List ℕ) → 1 + n ≤ length ws → n ≤ 64
    → Filled (λ k. k) ks 0 (λ s. bits 0 24 (get_or ws (1 + s) 0)) n → take n ks ≡ script_keys ws n
keys_loaded ws n ks h r f =
    let t : length (take n ks) ≡ n = length-take-le n ks (omega (arith, f.long)) in
    ext_get_or 0 (take n ks) (script_keys ws n) (t ∙ sym (keys_long ws n h))
    (λ i k. get_or-take n ks i 0 (omega arith) ∙ f.low i (omega arith) ∙ sym (key_at_lem ws n i (omega arith)))

-- ---- the answer

module _ (ws : List ℕ) where
  abbrev n : ℕ
  n = bits 4 7 (get_or ws 0 0)

  abbrev sides : Sides
  sides = sides_of (get_or ws 0 0)

  pub table_is : script_table ws ≡ table_of sides (script_keys ws n)
  unfolding script_table
  table_is = refl

  -- the tests, of which the code makes one at a time
  abbrev tests : List Refusal
  tests =
      record { number = 2; applies = not (head_fits ws) }
      ∷ out_of_range (script_table ws)
      ∷ record { number = 3; applies = not (all n (λ s. eqb (get_or ws (1 + s) 0) (key_word (key (script_table ws) s) false))) }
      ∷ bad_key (script_table ws)
      ∷ []

  by_tests : script_answer ws ≡ first_of tests
  unfolding script_answer script_table head_fits
  by_tests = refl

  pub refused_head : head_fits ws ≡ false → script_answer ws ≡ 2
  unfolding first_of
  refused_head e = by_tests ∙ rw e

  module _ (head : head_fits ws ≡ true) where
    pub enough : 1 + n ≤ length ws
    unfolding head_fits
    enough = leb-true (1 + n) (length ws) (and_right (eqb (get_or ws 0 0) (head_word sides n 0)) _ head)

    range_is : in_range (script_table ws) ≡ sizes_fit sides n
    unfolding in_range script_table
    range_is = rw (keys_long ws n enough) (regroup (sides_fit sides) (leb 1 n) (leb n 64))
      where
        regroup : (a c d : Bool) → every (a ∷ (c && d) ∷ []) ≡ (a && c && d)
        regroup false c d = refl
        regroup true false d = refl
        regroup true true false = refl
        regroup true true true = refl

    pub refused_sizes : sizes_fit sides n ≡ false → script_answer ws ≡ 2
    unfolding first_of
    refused_sizes e = by_tests ∙ rw (head, range_is ∙ e)

    module _ (sizes : sizes_fit sides n ≡ true) where
      same : (s : ℕ) → s < n → eqb (get_or ws (1 + s) 0) (key_word (key (script_table ws) s) false) ≡ key_fits (get_or ws (1 + s) 0)
      unfolding key_fits script_table
      same s l = ap (λ (k : ℕ). eqb (get_or ws (1 + s) 0) (key_word k false)) (key_at_lem ws n s l)

      keys_are : all n (λ s. eqb (get_or ws (1 + s) 0) (key_word (key (script_table ws) s) false)) ≡ keys_fit ws n
      unfolding keys_fit
      keys_are =
          same_test _ _
          (λ h. all_in n _ (λ s l. sym (same s l) ∙ all_out n _ h s l))
          (λ h. all_in n _ (λ s l. same s l ∙ all_out n _ h s l))

      pub refused_keys : keys_fit ws n ≡ false → script_answer ws ≡ 3
      unfolding first_of
      refused_keys e = by_tests ∙ rw (head, range_is ∙ sizes, keys_are ∙ e)

      pub passed : keys_fit ws n ≡ true → script_answer ws ≡ first_of (opening_refusals (script_table ws))
      unfolding first_of
      passed e = by_tests ∙ rw (head, range_is ∙ sizes, keys_are ∙ e)

-- ---- of the numbers that the code reads

module _ (ws : List ℕ) {l : Sides} {m : ℕ} (le : l ≡ sides ws) (me : m ≡ n ws) where
  pub sizes_read : {b : Bool} → b ≡ sizes_fit l m → sizes_fit (sides ws) (n ws) ≡ b
  sizes_read e = sym (e ∙ ap₂ sizes_fit le me)

  pub keys_read : {b : Bool} → b ≡ keys_fit ws m → keys_fit ws (n ws) ≡ b
  keys_read e = rw (← me) (sym e)

  pub table_read : {ks : List ℕ} → ks ≡ script_keys ws m → table_of l ks ≡ script_table ws
  table_read {ks} e = rw (e, le, me) (sym (table_is ws))

  pub few : sizes_fit (sides ws) (n ws) ≡ true → m ≤ 64
  few e = rw me (leb-true (n ws) 64 (and_right (sides_fit (sides ws) && leb 1 (n ws)) _ e))

-- ---- the call

pub script_refused : (old ws : List ℕ) (a : Kind) → script_answer ws ≡ number_of a → written {A = Unit {0}} (Err a) old ≡ open_script old ws
unfolding open_script
script_refused old ws a e = rw (e, number_high a)

-- what opening the ring itself says
pub script_opened : (old ws : List ℕ) {q : Written} {t : Table} → length old ≡ ring_length → script_answer ws ≡ first_of (opening_refusals (script_table ws))
    → t ≡ script_table ws → q ≡ open_buffer old t → q ≡ open_script old ws
unfolding open_script open_buffer open_answer first_of
script_opened old ws long e f h = h ∙ rw (f, eq-eqb (length old) ring_length long, e)

-- ---- an accepted opening

module _ (ws : List ℕ) (ok : script_answer ws ≡ 0) where
  refuted : {P : Type 0} (a : ℕ) → is_accepted a ≡ false → script_answer ws ≡ a → P
  refuted a f e = clash (ap is_accepted (sym e ∙ ok)) f

  pub head_is : head_fits ws ≡ true
  head_is = decide (head_fits ws) (λ h. h) (λ f. refuted _ refl (refused_head ws f))

  pub sizes_are : sizes_fit (sides ws) (n ws) ≡ true
  sizes_are = decide (sizes_fit (sides ws) (n ws)) (λ h. h) (λ f. refuted _ refl (refused_sizes ws head_is f))

  keys_fit_is : keys_fit ws (n ws) ≡ true
  keys_fit_is = decide (keys_fit ws (n ws)) (λ h. h) (λ f. refuted _ refl (refused_keys ws head_is sizes_are f))

  pub enough_words : 1 + size (script_table ws) ≤ length ws
  unfolding script_table
  enough_words = rw (keys_long ws (n ws) (enough ws head_is)) (enough ws head_is)

  -- the opening itself accepts, over any words of a ring's length
  abbrev old : List ℕ
  old = encode (initial (script_table ws))

  opened : open_answer old (script_table ws) ≡ 0
  unfolding open_answer first_of
  opened = rw (eq-eqb (length old) ring_length (length_encode (initial (script_table ws)))) (sym (passed ws head_is sizes_are keys_fit_is) ∙ ok)

  well : WellFormed (initial (script_table ws))
  well = initial_well (script_table ws) (table_well old (script_table ws) opened)

  pub initial_reads : reads_as_ring (encode (initial (script_table ws))) ≡ true
  initial_reads = encoded_reads (initial (script_table ws)) well

  pub initial_back : decode (encode (initial (script_table ws))) ≡ initial (script_table ws)
  initial_back = round_trip (initial (script_table ws)) well
