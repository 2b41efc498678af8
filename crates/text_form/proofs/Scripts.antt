-- Scripts as bytes and as words, and the words of an opening that is accepted.
use mathlib.Core.Path.{◌≡◌, refl, sym, ap, ◌∙◌}
use mathlib.Core.Bool.{true, false, ◌&&◌}
use mathlib.Core.List.{List, [], ◌∷◌, ◌++◌, map, append_assoc}
use Prim.Native.Nat.{ℕ, zero, suc, ◌+◌, ◌*◌, ◌/◌, ◌%◌, ◌^◌, ◌≤◌, ◌<◌}
use native.Mathlib.Omega.{arith}
use borrow.Author.Tests.{eqb-true, leb-true}
use lib.Dec.{eqb, leb}
use lib.ListN.{length, get_or, take, drop, length-map, length-drop, take-append-drop, get_or-map}
use lib.Seq.{ext_get_or, get_or-take, get_or-drop, length-take-le}
use Rattle.model.specs.Sets.{all}
use Rattle.model.specs.Leafset.{Table, size, key}
use Rattle.model.specs.Fields.{bits}
use Rattle.model.specs.WellFormed.{Each, nil, cons}
use Rattle.model.specs.Words.{head_word, key_word, sides_fit, between, in_range, keys_differ}
use Rattle.model.specs.Bench.{little_endian, script_table, script_refusals, script_answer}
use Rattle.model.proofs.Laws.{and_left, and_right, not_out_false, between_low, between_high, every_out, all_out}
use Rattle.model.proofs.Lists.{first, rest, each_of}
use Rattle.model.proofs.Answers.{none_applies}
use Rattle.text_form.specs.Assemble.{word_bytes, key_bytes}

-- ---- bytes and words

abbrev pub Byte : ℕ → Type 0
Byte b = b < 256

abbrev pub Word : ℕ → Type 0
Word w = w < 2 ^ 32

-- the bytes of words
unfoldable pub words_bytes : List ℕ → List ℕ
words_bytes [] = []
words_bytes (w ∷ ws) = word_bytes w ++ words_bytes ws

module _ (a b c d : ℕ) (ha : a < 256) (hb : b < 256) (hc : c < 256) (hd : d < 256) where
  abbrev word : ℕ
  word = a + 2 ^ 8 * b + 2 ^ 16 * c + 2 ^ 24 * d

  byte_0 : word % 2 ^ 8 ≡ a
  byte_0 = omega arith

  byte_1 : word / 2 ^ 8 % 2 ^ 8 ≡ b
  byte_1 = let e : word / 2 ^ 8 ≡ b + 2 ^ 8 * c + 2 ^ 16 * d = omega arith in rw e (omega arith)

  byte_2 : word / 2 ^ 16 % 2 ^ 8 ≡ c
  byte_2 = let e : word / 2 ^ 16 ≡ c + 2 ^ 8 * d = omega arith in rw e (omega arith)

  byte_3 : word / 2 ^ 24 % 2 ^ 8 ≡ d
  byte_3 = let e : word / 2 ^ 24 ≡ d = omega arith in rw e (omega arith)

  word_back : word_bytes word ≡ a ∷ b ∷ c ∷ d ∷ []
  unfolding word_bytes
  word_back = rw (byte_0, byte_1, byte_2, byte_3)

  word_low : word < 2 ^ 32
  word_low = omega arith

pub words_low : (bytes : List ℕ) → Each Byte bytes → Each Word (little_endian bytes)
unfolding little_endian
words_low [] h = nil
words_low (a ∷ []) h = nil
words_low (a ∷ b ∷ []) h = nil
words_low (a ∷ b ∷ c ∷ []) h = nil
words_low (a ∷ b ∷ c ∷ d ∷ l) (cons ha (cons hb (cons hc (cons hd h)))) = cons (word_low a b c d ha hb hc hd) (words_low l h)

-- what is left of a script after its words
abbrev pub tail_of : List ℕ → List ℕ
tail_of bytes = drop (4 * length (little_endian bytes)) bytes

four_more : (n : ℕ) → 4 * suc n ≡ suc (suc (suc (suc (4 * n))))
four_more n = omega arith

pub joined : (bytes : List ℕ) → Each Byte bytes → words_bytes (little_endian bytes) ++ tail_of bytes ≡ bytes
unfolding little_endian words_bytes
joined [] h = refl
joined (a ∷ []) h = refl
joined (a ∷ b ∷ []) h = refl
joined (a ∷ b ∷ c ∷ []) h = refl
joined (a ∷ b ∷ c ∷ d ∷ l) (cons ha (cons hb (cons hc (cons hd h)))) =
    rw (four_more (length (little_endian l)), word_back a b c d ha hb hc hd) (ap (λ (m : List ℕ). a ∷ b ∷ c ∷ d ∷ m) (joined l h))

pub tail_short : (bytes : List ℕ) → length (tail_of bytes) < 4
unfolding little_endian
tail_short [] = omega arith
tail_short (a ∷ []) = omega arith
tail_short (a ∷ b ∷ []) = omega arith
tail_short (a ∷ b ∷ c ∷ []) = omega arith
tail_short (a ∷ b ∷ c ∷ d ∷ l) = rw (four_more (length (little_endian l))) (tail_short l)

words_bytes_append : (vs ws : List ℕ) → words_bytes (vs ++ ws) ≡ words_bytes vs ++ words_bytes ws
unfolding words_bytes
words_bytes_append [] ws = refl
words_bytes_append (v ∷ vs) ws = rw (words_bytes_append vs ws, append_assoc)

-- key words of keys
key_words : List ℕ → List ℕ
key_words ks = map (λ k. key_word k false) ks

key_words_bytes : (ks : List ℕ) → words_bytes (key_words ks) ≡ key_bytes ks
unfolding words_bytes key_words key_bytes
key_words_bytes [] = refl
key_words_bytes (k ∷ ks) = ap (λ (l : List ℕ). word_bytes (key_word k false) ++ l) (key_words_bytes ks)

-- the first word, n more, and the rest
words_parted : (n : ℕ) (ws : List ℕ) → 1 ≤ length ws
    → words_bytes ws ≡ word_bytes (get_or ws 0 0) ++ words_bytes (take n (drop 1 ws)) ++ words_bytes (drop (1 + n) ws)
unfolding words_bytes
words_parted n [] h = absurd (omega arith)
words_parted n (w ∷ vs) h =
    let e : 1 + n ≡ suc n = omega arith in
    rw (e, append_assoc (word_bytes w) (words_bytes (take n vs)) (words_bytes (drop n vs)), ← words_bytes_append (take n vs) (drop n vs), take-append-drop n vs)

begins_with : (n : ℕ) (ws : List ℕ) (w : ℕ) (vs bs : List ℕ) → 1 ≤ length ws → get_or ws 0 0 ≡ w → take n (drop 1 ws) ≡ vs → words_bytes vs ≡ bs
    → words_bytes ws ≡ word_bytes w ++ bs ++ words_bytes (drop (1 + n) ws)
begins_with n ws w vs bs h e f g = rw (← g, ← f, ← e) (words_parted n ws h)

-- inside of a list the default does not matter
get_d_any : (l : List ℕ) (i d e : ℕ) → i < length l → get_or l i d ≡ get_or l i e
get_d_any [] i d e h = absurd (omega arith)
get_d_any (a ∷ l) zero d e h = refl
get_d_any (a ∷ l) (suc i) d e h = get_d_any l i d e (omega arith)

-- ---- an accepted opening

-- what is known of its table, and what words it begins with
pub record Opens (ws : List ℕ) (t : Table) : Type 0 where
  pub ahead_low : 1 ≤ t.sides.ahead
  pub ahead_high : t.sides.ahead ≤ 8
  pub behind_low : 1 ≤ t.sides.behind
  pub behind_high : t.sides.behind ≤ 8
  pub some : 1 ≤ size t
  pub few : size t ≤ 64
  pub keys_small : Each (λ k. k < 2 ^ 24) t.keys
  pub bytes : words_bytes ws ≡ word_bytes (head_word t.sides (size t) 0) ++ key_bytes t.keys ++ words_bytes (drop (1 + size t) ws)

module _ (ws : List ℕ) (ok : script_answer ws ≡ 0) where
  abbrev t : Table
  t = script_table ws

  abbrev n : ℕ
  n = bits 4 7 (get_or ws 0 0)

  passed : Each (λ q. q.applies ≡ false) (script_refusals ws)
  unfolding script_answer
  passed = none_applies (script_refusals ws) (cons refl (cons refl (cons refl (cons refl nil)))) ok

  head_fits_lem : (eqb (get_or ws 0 0) (head_word t.sides n 0) && leb (1 + n) (length ws)) ≡ true
  head_fits_lem = not_out_false _ (first passed)

  enough : 1 + n ≤ length ws
  enough = leb-true (1 + n) (length ws) (and_right (eqb (get_or ws 0 0) (head_word t.sides n 0)) _ head_fits_lem)

  head_is : get_or ws 0 0 ≡ head_word t.sides n 0
  head_is = eqb-true _ _ (and_left _ _ head_fits_lem)

  size_is : size t ≡ n
  unfolding script_table
  size_is = simp length-map (length-take-le n (drop 1 ws) (simp length-drop (omega (arith, enough))))

  in_range_lem : in_range t ≡ true
  in_range_lem = not_out_false _ (first (rest passed))

  keys_fit_lem : all n (λ s. eqb (get_or ws (1 + s) 0) (key_word (key t s) false)) ≡ true
  keys_fit_lem = not_out_false _ (first (rest (rest passed)))

  keys_low : all (size t) (λ s. leb (key t s) 16777215) ≡ true
  keys_low = and_left _ (keys_differ t) (not_out_false _ (first (rest (rest (rest passed)))))

  -- the words after the first are those of the keys
  word_is : (i : ℕ) → i < n → get_or (take n (drop 1 ws)) i (key_word 0 false) ≡ key_word (key t i) false
  word_is i h =
      get_or-take n (drop 1 ws) i (key_word 0 false) h
      ∙ get_or-drop 1 ws i (key_word 0 false)
      ∙ get_d_any ws (1 + i) (key_word 0 false) 0 (omega (arith, enough))
      ∙ eqb-true _ _ (all_out n _ keys_fit_lem i h)

  long : length (take n (drop 1 ws)) ≡ n
  long = length-take-le n (drop 1 ws) (simp length-drop (omega (arith, enough)))

  words_are : take n (drop 1 ws) ≡ key_words t.keys
  unfolding key_words
  words_are =
      ext_get_or (key_word 0 false) (take n (drop 1 ws)) (key_words t.keys) (long ∙ sym size_is ∙ sym (length-map t.keys (λ k. key_word k false)))
      (λ i h. word_is i (omega (arith, long)) ∙ sym (get_or-map (λ k. key_word k false) t.keys i 0))

  sides_fit_lem : sides_fit t.sides ≡ true
  unfolding in_range
  sides_fit_lem = first (every_out (sides_fit t.sides ∷ between 1 64 (size t) ∷ []) in_range_lem)

  size_fits : between 1 64 (size t) ≡ true
  unfolding in_range
  size_fits = first (rest (every_out (sides_fit t.sides ∷ between 1 64 (size t) ∷ []) in_range_lem))

  pub opens : Opens ws (script_table ws)
  opens =
      record {
        ahead_low = between_low 1 8 t.sides.ahead (and_left _ _ sides_fit_lem);
        ahead_high = between_high 1 8 t.sides.ahead (and_left _ _ sides_fit_lem);
        behind_low = between_low 1 8 t.sides.behind (and_right (between 1 8 t.sides.ahead) _ sides_fit_lem);
        behind_high = between_high 1 8 t.sides.behind (and_right (between 1 8 t.sides.ahead) _ sides_fit_lem);
        some = between_low 1 64 (size t) size_fits;
        few = between_high 1 64 (size t) size_fits;
        keys_small = each_of 0 t.keys (λ i h. omega (arith, leb-true (key t i) 16777215 (all_out (size t) _ keys_low i h)));
        bytes = rw size_is (begins_with n ws (head_word t.sides n 0) (key_words t.keys) (key_bytes t.keys)
            (omega (arith, enough)) head_is words_are (key_words_bytes t.keys));
      }
