-- The lines of the opening: the sides, then the keys, eight to a line.
use mathlib.Core.Path.{◌≡◌, refl}
use mathlib.Core.Bool.{true, false}
use mathlib.Core.List.{List, [], ◌∷◌, ◌++◌, append-nil, append_assoc}
use Prim.Native.Nat.{ℕ, ◌+◌, ◌%◌, ◌^◌, ◌≤◌, ◌<◌}
use native.Mathlib.Omega.{arith}
use borrow.Author.Tests.{lt-ltb, le-leb}
use lib.Dec.{leb, eqb, lit≤}
use lib.ListN.{length, length-append}
use Rattle.bench_lines.specs.Decimal.{space, newline, decimal, spaced}
use Rattle.bench_lines.proofs.Decimals.{one_more_lem}
use Rattle.std.specs.Prelude.{if◌then◌else◌}
use Rattle.model.specs.WellFormed.{Each, nil, cons}
use Rattle.model.specs.declared.values.Sides.{Sides}
use Rattle.model.proofs.Laws.{decide, and_in}
use Rattle.text_form.specs.declared.Command.TheVariants as command
use Rattle.text_form.specs.declared.Stage.TheVariants as stage
use Rattle.text_form.specs.declared.Expected.TheVariants as expected
use Rattle.text_form.specs.declared.Given.TheVariants as given
use Rattle.text_form.specs.Names.{sides_name, keys_name}
use Rattle.text_form.specs.Assemble.{Progress, packed, allowed, stage_after, expected_at}
use Rattle.text_form.specs.Assemble.{line_given, given_bytes, given_keys, advanced, text_read}
use Rattle.text_form.specs.Describe.{keys_text, opening_text}
use Rattle.text_form.proofs.Tokens.{Plain, decimal_written, spelled_is, token_there}
use Rattle.text_form.proofs.Reading.{reader, state, nothing, token_read, first_word, opened, Suits, by_blank, by_newline}
use Rattle.text_form.proofs.Lines.{Leads, on, named, begins, two_spaced}

-- ---- what numbers suit

side_suits : (a : ℕ) → 1 ≤ a → a ≤ 8 → Suits expected.Side (packed 0 (decimal a)) a
side_suits a l h =
    let w = decimal_written a (omega arith) in
    record { there = token_there w; fit = rw (spelled_is w (lit≤ tt)) (and_in (le-leb 1 a l) (le-leb a 8 h)); value = spelled_is w (lit≤ tt) }

key_suits : (k : ℕ) → k < 2 ^ 24 → Suits expected.Key (packed 0 (decimal k)) k
key_suits k h =
    let w = decimal_written k (omega arith) in
    record { there = token_there w; fit = rw (spelled_is w (lit≤ tt)) (lt-ltb k (2 ^ 24) h); value = spelled_is w (lit≤ tt) }

-- ---- a key, ended by a blank or by the line's end

key_given : (line place f k : ℕ) (p : Progress) (sides : Sides) (keys script : List ℕ)
    → p.keys ≡ keys → p.script ≡ script
    → advanced p (record { reader = reader line 0 stage.Keys command.Keys place f sides (length keys + 1); given = given.Key k })
    ≡ state line 0 stage.Keys command.Keys place f sides (keys ++ k ∷ []) script
unfolding advanced given_keys given_bytes
key_given line place f k p sides keys script e i =
    rw (e, i, append-nil script, length-append keys (k ∷ []))

abbrev first_key : ℕ → ℕ → ℕ → ℕ
first_key place f k = if eqb place 1 then k else f

module _ (sides : Sides) (script : List ℕ) where
  module _ (line place f : ℕ) (keys : List ℕ) (k : ℕ) (in-line : eqb place 0 ≡ false) (some : leb 1 place ≡ true)
      (few : length keys < 64) (small : k < 2 ^ 24) where
    abbrev pending : Progress
    pending = state line (packed 0 (decimal k)) stage.Keys command.Keys place f sides keys script

    suits : Suits (expected_at pending.reader) (packed 0 (decimal k)) k
    unfolding expected_at
    suits = rw (in-line, lt-ltb (length keys) 64 few) (key_suits k small)

    key_blank :
        (bs : List ℕ) → Each Plain bs
        → Leads pending (space ∷ bs) (state line (packed 0 bs) stage.Keys command.Keys 2 (first_key place f k) sides (keys ++ k ∷ []) script)
    unfolding text_read line_given
    key_blank bs h =
        record {
          is =
              rw (
                by_blank line (packed 0 (decimal k)) stage.Keys command.Keys place f sides (length keys) k in-line suits,
                some,
                key_given line 2 (first_key place f k) k pending sides keys script refl refl,
              )
              (token_read line stage.Keys command.Keys 2 (first_key place f k) sides (keys ++ k ∷ []) script 0 bs h);
        }

    key_newline :
        (bs : List ℕ) → Each Plain bs
        → Leads pending (newline ∷ bs) (state (line + 1) (packed 0 bs) stage.Keys command.Keys 0 (first_key place f k) sides (keys ++ k ∷ []) script)
    unfolding text_read line_given
    key_newline bs h =
        record {
          is =
              rw (
                by_newline line (packed 0 (decimal k)) stage.Keys command.Keys place f sides (length keys) k in-line suits refl,
                some,
                key_given (line + 1) 0 (first_key place f k) k pending sides keys script refl refl,
              )
              (token_read (line + 1) stage.Keys command.Keys 0 (first_key place f k) sides (keys ++ k ∷ []) script 0 bs h);
        }

  -- ---- the keys that are left

  -- the reader is at the start of a line, after the keys
  pub record Ends (p : Progress) (text keys : List ℕ) : Type 0 where
    pub line : ℕ
    pub first : ℕ
    pub leads : Leads p text (state line 0 stage.Keys command.Keys 0 first sides keys script)

  ends_on : {p q : Progress} {xs ys keys : List ℕ} → Leads p xs q → Ends q ys keys → Ends p (xs ++ ys) keys
  ends_on l e = record { line = e.line; first = e.first; leads = on l e.leads }

  keys_allowed : (n : ℕ) → n < 64 → allowed stage.Keys n command.Keys ≡ true
  keys_allowed n h = rw (lt-ltb n 64 h)

  -- key k' on a further line
  key_line : (line place f : ℕ) (keys : List ℕ) (k k' : ℕ) → eqb place 0 ≡ false → leb 1 place ≡ true → length keys + 1 < 64 → k < 2 ^ 24 → k' < 2 ^ 24
      → Leads (state line (packed 0 (decimal k)) stage.Keys command.Keys place f sides keys script) (newline ∷ keys_name ++ spaced (k' ∷ []))
      (state (line + 1) (packed 0 (decimal k')) stage.Keys command.Keys 1 0 sides (keys ++ k ∷ []) script)
  unfolding opened stage_after
  key_line line place f keys k k' in-line some few small small' =
      let w = decimal_written k' (omega arith) in
      let e : length (keys ++ k ∷ []) ≡ length keys + 1 = length-append keys (k ∷ []) in
      let ok : allowed stage.Keys (length (keys ++ k ∷ [])) command.Keys ≡ true = keys_allowed (length (keys ++ k ∷ [])) (omega arith) in
      rw (← one_more_lem k')
      (on (key_newline line place f keys k in-line some (omega arith) small keys_name named.keys_is.plain)
      (record {
        is =
            rw (append-nil script) at
            (first_word (line + 1) stage.Keys command.Keys (first_key place f k) sides (keys ++ k ∷ []) script (packed 0 keys_name) command.Keys
            (decimal k') named.keys_is.there named.keys_is.is ok w.plain);
      }))

  -- one key, then those after it, wherever it ends
  more_keys : (n line place f : ℕ) (keys : List ℕ) (k k' : ℕ) (ks : List ℕ) → eqb place 0 ≡ false → leb 1 place ≡ true → length keys + 1 < 64
      → k < 2 ^ 24 → k' < 2 ^ 24
      → ((line place f : ℕ) → eqb place 0 ≡ false → leb 1 place ≡ true
      → Ends (state line (packed 0 (decimal k')) stage.Keys command.Keys place f sides (keys ++ k ∷ []) script) (keys_text (n + 1) ks)
      ((keys ++ k ∷ []) ++ k' ∷ ks))
      → Ends (state line (packed 0 (decimal k)) stage.Keys command.Keys place f sides keys script) (keys_text n (k' ∷ ks)) (keys ++ k ∷ k' ∷ ks)
  unfolding keys_text
  more_keys n line place f keys k k' ks in-line some few small small' left =
      let w = decimal_written k' (omega arith) in
      rw (← append_assoc keys (k ∷ []) (k' ∷ ks))
      (decide (eqb (n % 8) 0)
      (λ e. rw e (ends_on (key_line line place f keys k k' in-line some few small small') (left (line + 1) 1 0 refl refl)))
      (λ e. rw (e, ← one_more_lem k') (ends_on (key_blank line place f keys k in-line some (omega arith) small (decimal k') w.plain)
      (left line 2 (first_key place f k) refl refl))))

  last_key : (n line place f : ℕ) (keys : List ℕ) (k : ℕ) → eqb place 0 ≡ false → leb 1 place ≡ true → length keys < 64 → k < 2 ^ 24
      → Ends (state line (packed 0 (decimal k)) stage.Keys command.Keys place f sides keys script) (keys_text n []) (keys ++ k ∷ [])
  unfolding keys_text packed
  last_key n line place f keys k in-line some few small =
      record { line = line + 1; first = first_key place f k; leads = key_newline line place f keys k in-line some few small [] nil }

  keys_left : (ks : List ℕ) (n line place f : ℕ) (keys : List ℕ) (k : ℕ) → eqb place 0 ≡ false → leb 1 place ≡ true → length keys + 1 + length ks ≤ 64
      → k < 2 ^ 24 → Each (λ j. j < 2 ^ 24) ks
      → Ends (state line (packed 0 (decimal k)) stage.Keys command.Keys place f sides keys script) (keys_text n ks) (keys ++ k ∷ ks)
  keys_left [] n line place f keys k in-line some few small nil = last_key n line place f keys k in-line some (omega arith) small
  keys_left (k' ∷ ks) n line place f keys k in-line some few small (cons small' rest) =
      more_keys n line place f keys k k' ks in-line some (omega arith) small small'
      (λ line' place' f' i j. keys_left ks (n + 1) line' place' f' (keys ++ k ∷ []) k' i j (omega (arith, length-append keys (k ∷ []))) small' rest)

-- ---- the sides

module _ (line : ℕ) (a b : ℕ) (la : 1 ≤ a) (ha : a ≤ 8) (lb : 1 ≤ b) (hb : b ≤ 8) where
  abbrev pub sides : Sides
  sides = record { ahead = a; behind = b }

  abbrev pub none : Sides
  none = record { ahead = 0; behind = 0 }

  second_side : (bs : List ℕ) → Each Plain bs
      → Leads (state line (packed 0 (decimal a)) stage.Sides command.Sides 1 0 none [] []) (space ∷ bs)
      (state line (packed 0 bs) stage.Sides command.Sides 2 a none [] [])
  unfolding expected_at text_read
  second_side bs h =
      record {
        is =
            rw (
              by_blank line (packed 0 (decimal a)) stage.Sides command.Sides 1 0 none 0 a refl (side_suits a la ha),
              nothing (state line (packed 0 (decimal a)) stage.Sides command.Sides 1 0 none [] []) (reader line 0 stage.Sides command.Sides 2 a none 0),
            )
            (token_read line stage.Sides command.Sides 2 a none [] [] 0 bs h);
      }

  sides_read :
      Leads (state line 0 stage.Start command.Sides 0 0 none [] []) (sides_name ++ spaced (a ∷ b ∷ []))
      (state line (packed 0 (decimal b)) stage.Sides command.Sides 2 a none [] [])
  unfolding stage_after opened
  sides_read =
      rw (two_spaced a b, ← append_assoc sides_name (space ∷ decimal a) (space ∷ decimal b))
      (on (begins line stage.Start command.Sides 0 none [] [] named.sides_is refl (decimal a) (decimal_written a (omega arith)).plain)
      (second_side (decimal b) (decimal_written b (omega arith)).plain))

  sides_ended :
      Leads (state line (packed 0 (decimal b)) stage.Sides command.Sides 2 a none [] []) (newline ∷ keys_name)
      (state (line + 1) (packed 0 keys_name) stage.Sides command.Sides 0 a sides [] [])
  unfolding expected_at line_given text_read
  sides_ended =
      record {
        is =
            rw (
              by_newline line (packed 0 (decimal b)) stage.Sides command.Sides 2 a none 0 b refl (side_suits b lb hb) refl,
              nothing (state line (packed 0 (decimal b)) stage.Sides command.Sides 2 a none [] [])
                  (reader (line + 1) 0 stage.Sides command.Sides 0 a sides 0),
            )
            (token_read (line + 1) stage.Sides command.Sides 0 a sides [] [] 0 keys_name named.keys_is.plain);
      }

  first_key_lem :
      (k : ℕ) → k < 2 ^ 24
      → Leads (state (line + 1) (packed 0 keys_name) stage.Sides command.Sides 0 a sides [] []) (spaced (k ∷ []))
      (state (line + 1) (packed 0 (decimal k)) stage.Keys command.Keys 1 0 sides [] [])
  unfolding stage_after opened
  first_key_lem k h =
      let w = decimal_written k (omega arith) in
      rw (← one_more_lem k)
      (record {
        is = first_word (line + 1) stage.Sides command.Sides a sides [] [] (packed 0 keys_name) command.Keys (decimal k) named.keys_is.there
            named.keys_is.is refl w.plain;
      })

  pub opening_read : (ks : List ℕ) → 1 ≤ length ks → length ks ≤ 64 → Each (λ j. j < 2 ^ 24) ks
      → Ends sides [] (state line 0 stage.Start command.Sides 0 0 none [] []) (opening_text (record { sides = sides; keys = ks })) ks
  unfolding opening_text keys_text
  opening_read [] some few nil = absurd (omega arith)
  opening_read (k ∷ ks) some few (cons h hs) =
      ends_on sides [] sides_read
      (ends_on sides [] (on sides_ended (first_key_lem k h)) (keys_left sides [] ks (0 + 1) (line + 1) 1 0 [] k refl refl (omega arith) h hs))
