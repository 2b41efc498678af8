-- What is given, as bytes and keys.
use mathlib.Core.Path.{◌≡◌, refl, sym, ap, ◌∙◌}
use mathlib.Core.List.{List, [], ◌∷◌, ◌++◌, append_assoc, append-nil}
use Prim.Native.Nat.{ℕ, zero, suc, ◌+◌, ◌-◌, ◌/◌, ◌%◌, ◌^◌, ◌≤◌, ◌<◌}
use native.Mathlib.Numerals.{add-one}
use native.Mathlib.Nat.{add-zero}
use native.Mathlib.Decide.{ℕ_discrete}
use native.Mathlib.Omega.{arith}
use mathlib.Core.Bool.{false}
use Rattle.std.specs.Int.{w32, to_le_bytes, to_be_bytes}
use Rattle.std.proofs.lemmas.Bool.{cases_lt}
use mathlib.Core.Logic.{inl, inr}
use lib.ListN.{get_or-eq_default, length-take, length, get_or, take, drop, set, length-set}
use lib.Seq.{take_all, get_or-take, take-suc, take-suc-set, get_or-set_same, get_or-set_other}
use Rattle.bench_lines.specs.Put.{Put}
use Rattle.bench_lines.proofs.Puts.{put_none}
use Rattle.model.specs.Words.{head_word, key_word}
use Rattle.model.specs.declared.values.Sides.{Sides}
use Rattle.text_form.specs.Assemble.{word_bytes, key_bytes, tail_bytes, given_bytes, given_keys}
use Rattle.text_form.specs.declared.Given.{Given}
use Rattle.text_form.specs.declared.Given.TheVariants as given
use Rattle.text_reader.specs.Bounds.{GivenBounded}
use Rattle.text_assemble.specs.Chunks.{KeysBounded, Gave}

pub word_bytes_are : (w : ℕ) → to_le_bytes w32 w ≡ word_bytes w
unfolding word_bytes
word_bytes_are w = refl

pub word_length : (w : ℕ) → length (word_bytes w) ≡ 4
unfolding word_bytes
word_length w = refl

keys_append : (ks js : List ℕ) → key_bytes (ks ++ js) ≡ key_bytes ks ++ key_bytes js
unfolding key_bytes
keys_append [] js = refl
keys_append (k ∷ ks) js = rw (keys_append ks js) (sym (append_assoc (word_bytes (key_word k false)) (key_bytes ks) (key_bytes js)))

one_key : (k : ℕ) → key_bytes (k ∷ []) ≡ word_bytes (key_word k false)
unfolding key_bytes
one_key k = append-nil (word_bytes (key_word k false))

pub no_keys : (out : List ℕ) (at : ℕ) (ks : List ℕ) → Put out out at at (key_bytes (take 0 ks))
unfolding key_bytes
no_keys out at ks = put_none out at

pub keys_more : (ks : List ℕ) (i w : ℕ) → i < length ks → w ≡ key_word (get_or ks i 0) false
    → key_bytes (take i ks) ++ word_bytes w ≡ key_bytes (take (i + 1) ks)
keys_more ks i w h e =
    rw (add-one i, take-suc ks i 0 h, keys_append (take i ks) (get_or ks i 0 ∷ []), one_key (get_or ks i 0), e)

pub all_keys : (ks : List ℕ) (n : ℕ) → length ks ≤ n → key_bytes (take n ks) ≡ key_bytes ks
all_keys ks n h = ap key_bytes (take_all n ks h)

-- the words of the opening
pub opening_bytes : (sides : Sides) (ks : List ℕ) (w : ℕ) → w ≡ head_word sides (length ks) 0
    → word_bytes w ++ key_bytes ks ≡ given_bytes sides ks given.Opening
unfolding given_bytes
opening_bytes sides ks w e = rw e

-- the last k of the three bytes of a tail, and how many they are
pub tail_part : (k v : ℕ) → k ≤ 3 → take (4 - (4 - k)) (drop (4 - k) (to_be_bytes w32 v)) ≡ tail_bytes k v
unfolding tail_bytes
tail_part zero v h = refl
tail_part (suc zero) v h = refl
tail_part (suc (suc zero)) v h = refl
tail_part (suc (suc (suc zero))) v h = let e : v / 2 ^ 16 ≡ v / 2 ^ 8 / 2 ^ 8 = omega arith in ap (λ (n : ℕ). n % 2 ^ 8 ∷ v / 2 ^ 8 % 2 ^ 8 ∷ v % 2 ^ 8 ∷ []) e
tail_part (suc (suc (suc (suc k)))) v h = absurd (omega arith)

pub tail_short : (k v : ℕ) → k ≤ 3 → length (tail_bytes k v) ≤ 3
unfolding tail_bytes
tail_short zero v h = omega arith
tail_short (suc zero) v h = omega arith
tail_short (suc (suc zero)) v h = omega arith
tail_short (suc (suc (suc zero))) v h = omega arith
tail_short (suc (suc (suc (suc k)))) v h = omega arith

-- ---- what is given, by its case

keys_kept : (n : ℕ) (ks : List ℕ) → take (n + 0) ks ≡ take n ks ++ []
keys_kept n ks = ap (λ (m : ℕ). take m ks) (add-zero n) ∙ sym (append-nil (take n ks))

module _ {g : Given} where
  pub key_fits_lem : {k : ℕ} → g ≡ given.Key k → GivenBounded g → k < 2 ^ 24
  key_fits_lem e b = rw e at b.key

  pub tail_fits : {k v : ℕ} → g ≡ given.Tail k v → GivenBounded g → k ≤ 3
  tail_fits e b = rw e at b.tail

  pub room_for_key : {k : ℕ} (n : ℕ) → g ≡ given.Key k → n + length (given_keys g) ≤ 64 → n < 64
  unfolding given_keys
  room_for_key n e h = let l : n + 1 ≤ 64 = rw e at h in omega arith

  module _ {sides : Sides} {n : ℕ} {ks out : List ℕ} {at : ℕ} (bounded : KeysBounded ks) where
    pub gave_nothing : g ≡ given.Nothing → Gave g sides n ks ks out out at at
    unfolding given_bytes given_keys
    gave_nothing e = rw e (record { put = put_none out at; keys = keys_kept n ks; bounded = bounded; room = omega arith })

    pub gave_opening : {out' : List ℕ} {end : ℕ} → g ≡ given.Opening → Put out out' at end (given_bytes sides (take n ks) given.Opening) → end ≤ at + 260
        → Gave g sides n ks ks out out' at end
    unfolding given_keys
    gave_opening e p h = rw e (record { put = p; keys = keys_kept n ks; bounded = bounded; room = h })

    pub gave_word : {w : ℕ} {out' : List ℕ} {end : ℕ} → g ≡ given.Word w → Put out out' at end (word_bytes w) → Gave g sides n ks ks out out' at end
    unfolding given_bytes given_keys
    gave_word {w} e p = rw e (record { put = p; keys = keys_kept n ks; bounded = bounded; room = omega (arith, p.ends, word_length w) })

    pub gave_tail : {k v : ℕ} {out' : List ℕ} {end : ℕ} → g ≡ given.Tail k v → Put out out' at end (tail_bytes k v)
        → end ≤ at + 3 → Gave g sides n ks ks out out' at end
    unfolding given_bytes given_keys
    gave_tail e p h = rw e (record { put = p; keys = keys_kept n ks; bounded = bounded; room = omega arith })

    pub gave_key : {k : ℕ} → g ≡ given.Key k → k < 2 ^ 24 → n < 64 → Gave g sides n ks (set ks n k) out out at at
    unfolding given_bytes given_keys
    gave_key {k} e h l =
        rw e
        (record {
          put = put_none out at;
          keys = rw (add-one n) (take-suc-set ks n k (omega (arith, bounded.long)));
          bounded =
              record {
                long = length-set ks n k ∙ bounded.long;
                each = λ i. elim (ℕ_discrete i n) [
                  | yes f ↦ rw (f, get_or-set_same ks n k 0 (omega (arith, bounded.long))) h
                  | no d ↦ rw (get_or-set_other ks n i k 0 d) (bounded.each i)
                ];
              };
          room = omega arith;
        })
