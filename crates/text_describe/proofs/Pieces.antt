-- A text put piece by piece: words, keys, pairs of digits.
use mathlib.Core.Path.{◌≡◌, refl, sym, ap, ◌∙◌}
use mathlib.Core.List.{List, [], ◌∷◌, ◌++◌, append_assoc, append-nil}
use Prim.Native.Nat.{ℕ, ◌+◌, ◌%◌, ◌≤◌, ◌<◌}
use native.Mathlib.Numerals.{add-one}
use borrow.Author.Tests.{eq-eqb, ne_eqb}
use lib.Dec.{eqb}
use lib.ListN.{length, get_or, drop, drop_of_length-le}
use lib.Seq.{drop-cons}
use Rattle.io.specs.Digits.{last_digits}
use Rattle.bench_lines.specs.Decimal.{newline, spaced}
use Rattle.bench_lines.specs.Put.{Put}
use Rattle.bench_lines.proofs.Puts.{put_none, put_more, put_as}
use Rattle.std.specs.Prelude.{if◌then◌else◌}
use Rattle.text_form.specs.Names.{keys_name}
use Rattle.text_form.specs.Describe.{word_lines, keys_text, hex_bytes}

-- of the whole text, what comes before the rest is put
pub record PutBefore (entry out : List ℕ) (at end : ℕ) (whole rest : List ℕ) : Type 0 where
  pub bytes : List ℕ
  pub put : Put entry out at end bytes
  pub text : bytes ++ rest ≡ whole

pub none_put : (out : List ℕ) (at : ℕ) (whole : List ℕ) → PutBefore out out at at whole whole
none_put out at whole = record { bytes = []; put = put_none out at; text = refl }

module _ {entry out out' : List ℕ} {at end end' : ℕ} {whole rest : List ℕ} (p : PutBefore entry out at end whole rest) where
  pub more_put : {piece rest' : List ℕ} → Put out out' end end' piece → rest ≡ piece ++ rest' → PutBefore entry out' at end' whole rest'
  more_put {piece} {rest'} q e =
      record {
        bytes = p.bytes ++ piece;
        put = put_more p.put q;
        text = append_assoc p.bytes piece rest' ∙ ap (λ (l : List ℕ). p.bytes ++ l) (sym e) ∙ p.text;
      }

  pub last_put : {piece : List ℕ} → Put out out' end end' piece → rest ≡ piece → Put entry out' at end' whole
  last_put q e = put_as (put_more p.put q) (ap (λ (l : List ℕ). p.bytes ++ l) (sym e) ∙ p.text)

pub all_put : {entry out : List ℕ} {at end : ℕ} {whole rest : List ℕ} → PutBefore entry out at end whole rest → rest ≡ [] → Put entry out at end whole
all_put p e = put_as p.put (sym (append-nil p.bytes) ∙ ap (λ (l : List ℕ). p.bytes ++ l) (sym e) ∙ p.text)

-- ---- one item more

pub next_item : (l : List ℕ) (i : ℕ) → i < length l → drop i l ≡ get_or l i 0 ∷ drop (i + 1) l
next_item l i h = rw (add-one i) (drop-cons l i 0 h)

pub next_line : (text : ℕ → List ℕ) (ws : List ℕ) (i : ℕ) → i < length ws
    → word_lines text (drop i ws) ≡ (text (get_or ws i 0) ++ newline ∷ []) ++ word_lines text (drop (i + 1) ws)
unfolding word_lines
next_line text ws i h = rw (next_item ws i h) (sym (append_assoc (text (get_or ws i 0)) (newline ∷ []) _))

pub no_lines : (text : ℕ → List ℕ) (ws : List ℕ) (i : ℕ) → length ws ≤ i → word_lines text (drop i ws) ≡ []
unfolding word_lines
no_lines text ws i h = rw (drop_of_length-le ws h)

pub next_pair : (bs : List ℕ) (i : ℕ) → i < length bs → hex_bytes (drop i bs) ≡ last_digits 16 2 (get_or bs i 0) ++ hex_bytes (drop (i + 1) bs)
unfolding hex_bytes
next_pair bs i h = rw (next_item bs i h)

pub no_pairs : (bs : List ℕ) (i : ℕ) → length bs ≤ i → hex_bytes (drop i bs) ≡ []
unfolding hex_bytes
no_pairs bs i h = rw (drop_of_length-le bs h)

pub next_key : (ks : List ℕ) (s : ℕ) → s < length ks
    → keys_text s (drop s ks) ≡ ((if eqb (s % 8) 0 then newline ∷ keys_name else []) ++ spaced (get_or ks s 0 ∷ [])) ++ keys_text (s + 1) (drop (s + 1) ks)
unfolding keys_text
next_key ks s h = rw (next_item ks s h)

pub no_keys : (ks : List ℕ) (s : ℕ) → length ks ≤ s → keys_text s (drop s ks) ≡ newline ∷ []
unfolding keys_text
no_keys ks s h = rw (drop_of_length-le ks h)

-- a key that begins a line, and a further one
pub first_key : (s key : ℕ) → s % 8 ≡ 0 → (newline ∷ keys_name) ++ spaced (key ∷ []) ≡ (if eqb (s % 8) 0 then newline ∷ keys_name else []) ++ spaced (key ∷ [])
first_key s key e = rw (eq-eqb (s % 8) 0 e)

pub further_key : (s key : ℕ) → (s % 8 ≡ 0 → ⊥) → spaced (key ∷ []) ≡ (if eqb (s % 8) 0 then newline ∷ keys_name else []) ++ spaced (key ∷ [])
further_key s key d = rw (ne_eqb (s % 8) 0 d)
