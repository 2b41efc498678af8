-- The tail of a script, under 4 bytes, and its line.
use mathlib.Core.Path.{◌≡◌, refl, ap}
use mathlib.Core.Bool.{true, false}
use mathlib.Core.List.{List, [], ◌∷◌, ◌++◌}
use Prim.Native.Nat.{ℕ, ◌+◌, ◌*◌, ◌/◌, ◌%◌, ◌^◌, ◌≤◌, ◌<◌}
use native.Mathlib.Omega.{arith}
use borrow.Author.Tests.{lt-ltb, le-ltb, le-leb}
use lib.Dec.{eqb, lit<, lit≤}
use lib.ListN.{length}
use Rattle.io.specs.Digits.{last_digits}
use Rattle.model.specs.WellFormed.{Each, nil}
use Rattle.model.specs.declared.values.Sides.{Sides}
use Rattle.model.proofs.Lists.{each_append}
use Rattle.text_form.specs.declared.Stage.{Stage}
use Rattle.text_form.specs.declared.Command.{Command}
use Rattle.text_form.specs.declared.Command.TheVariants as command
use Rattle.text_form.specs.declared.Stage.TheVariants as stage
use Rattle.text_form.specs.declared.Expected.TheVariants as expected
use Rattle.text_form.specs.declared.Given.TheVariants as given
use Rattle.text_form.specs.Assemble.{packed, allowed, stage_after, no_number, expected_at, pairs_of}
use Rattle.text_form.specs.Assemble.{line_given, given_bytes, given_keys, tail_bytes}
use Rattle.text_form.specs.Describe.{hex_bytes, tail_text}
use Rattle.text_form.proofs.Tokens.{Plain, Spells, Written, no_digits, digits_plain, byte_more, spelled_is, token_there}
use Rattle.text_form.proofs.Reading.{state, Suits}
use Rattle.text_form.proofs.Lines.{Leads, named, unopened, opened_is, one_part}

hex_plain : (cs : List ℕ) → Each Plain (hex_bytes cs)
unfolding hex_bytes
hex_plain [] = nil
hex_plain (c ∷ cs) = each_append (digits_plain 2 c) (hex_plain cs)

-- ---- one to three bytes as a token

pub record Token (cs : List ℕ) (k v : ℕ) : Type 0 where
  pub suits : Suits expected.Tail (packed 0 (hex_bytes cs)) v
  pub pairs : pairs_of (packed 0 (hex_bytes cs)) ≡ k
  pub bytes : tail_bytes k v ≡ cs

tail_suits : (bs : List ℕ) (k v : ℕ) → Written 16 8 bs v → pairs_of (packed 0 bs) ≡ k → eqb k 0 ≡ false → v < 2 ^ 32 → Suits expected.Tail (packed 0 bs) v
tail_suits bs k v w e f h =
    record { there = token_there w; fit = rw (e, f, spelled_is w (lit≤ tt)) (lt-ltb v no_number h); value = spelled_is w (lit≤ tt) }

no_bytes : Spells 16 0 (packed 0 []) 0
unfolding packed
no_bytes = no_digits 16

pairs_1 : (t : ℕ) → 2 ^ 8 ≤ t → t < 2 ^ 16 → pairs_of t ≡ 1
unfolding pairs_of
pairs_1 t l h = rw (le-leb (2 ^ 8) t l, lt-ltb t (2 ^ 16) h)

pairs_2 : (t : ℕ) → 2 ^ 24 ≤ t → t < 2 ^ 32 → pairs_of t ≡ 2
unfolding pairs_of
pairs_2 t l h = rw (le-leb (2 ^ 8) t (omega arith), le-ltb t (2 ^ 16) (omega arith), le-leb (2 ^ 24) t l, lt-ltb t (2 ^ 32) h)

pairs_3 : (t : ℕ) → 2 ^ 40 ≤ t → t < 2 ^ 48 → pairs_of t ≡ 3
unfolding pairs_of
pairs_3 t l h =
    rw (
      le-leb (2 ^ 8) t (omega arith),
      le-ltb t (2 ^ 16) (omega arith),
      le-leb (2 ^ 24) t (omega arith),
      le-ltb t (2 ^ 32) (omega arith),
      le-leb (2 ^ 40) t l,
      lt-ltb t (2 ^ 48) h,
    )

written : (cs : List ℕ) (k v : ℕ) → Spells 16 k (packed 0 (hex_bytes cs)) v → 1 ≤ k → k ≤ 8 → Written 16 8 (hex_bytes cs) v
written cs k v s l h = record { long = k; some = l; few = h; plain = hex_plain cs; spells = s }

module _ (a : ℕ) (ha : a < 256) where
  spells_1 : Spells 16 2 (packed 0 (hex_bytes (a ∷ []))) (0 * 256 + a)
  unfolding hex_bytes
  spells_1 = byte_more [] no_bytes (lit< tt) ha

  pub token_1 : Token (a ∷ []) 1 (0 * 256 + a)
  unfolding tail_bytes
  token_1 =
      let e : pairs_of (packed 0 (hex_bytes (a ∷ []))) ≡ 1 = pairs_1 _ (omega (arith, spells_1.low)) (omega (arith, spells_1.high)) in
      let i : (0 * 256 + a) % 2 ^ 8 ≡ a = omega arith in
      record { suits = tail_suits _ 1 _ (written _ 2 _ spells_1 (lit≤ tt) (lit≤ tt)) e refl (omega arith); pairs = e; bytes = rw i }

  module _ (b : ℕ) (hb : b < 256) where
    spells_2 : Spells 16 4 (packed 0 (hex_bytes (a ∷ b ∷ []))) ((0 * 256 + a) * 256 + b)
    unfolding hex_bytes
    spells_2 = byte_more (last_digits 16 2 a) spells_1 (lit< tt) hb

    pub token_2 : Token (a ∷ b ∷ []) 2 ((0 * 256 + a) * 256 + b)
    unfolding tail_bytes
    token_2 =
        let e : pairs_of (packed 0 (hex_bytes (a ∷ b ∷ []))) ≡ 2 = pairs_2 _ (omega (arith, spells_2.low)) (omega (arith, spells_2.high)) in
        let i : ((0 * 256 + a) * 256 + b) % 2 ^ 8 ≡ b = omega arith in
        let j : ((0 * 256 + a) * 256 + b) / 2 ^ 8 ≡ 0 * 256 + a = omega arith in
        record {
          suits = tail_suits _ 2 _ (written _ 4 _ spells_2 (lit≤ tt) (lit≤ tt)) e refl (omega arith);
          pairs = e;
          bytes = rw (i, j) (ap (λ (l : List ℕ). l ++ b ∷ []) token_1.bytes);
        }

    module _ (c : ℕ) (hc : c < 256) where
      spells_3 : Spells 16 6 (packed 0 (hex_bytes (a ∷ b ∷ c ∷ []))) (((0 * 256 + a) * 256 + b) * 256 + c)
      unfolding hex_bytes
      spells_3 = byte_more (last_digits 16 2 a ++ last_digits 16 2 b) spells_2 (lit< tt) hc

      pub token_3 : Token (a ∷ b ∷ c ∷ []) 3 (((0 * 256 + a) * 256 + b) * 256 + c)
      unfolding tail_bytes
      token_3 =
          let e : pairs_of (packed 0 (hex_bytes (a ∷ b ∷ c ∷ []))) ≡ 3 = pairs_3 _ (omega (arith, spells_3.low)) (omega (arith, spells_3.high)) in
          let i : (((0 * 256 + a) * 256 + b) * 256 + c) % 2 ^ 8 ≡ c = omega arith in
          let j : (((0 * 256 + a) * 256 + b) * 256 + c) / 2 ^ 8 ≡ (0 * 256 + a) * 256 + b = omega arith in
          record {
            suits = tail_suits _ 3 _ (written _ 6 _ spells_3 (lit≤ tt) (lit≤ tt)) e refl (omega arith);
            pairs = e;
            bytes = rw (i, j) (ap (λ (l : List ℕ). l ++ c ∷ []) token_2.bytes);
          }

-- ---- the line

module _ (line : ℕ) (s : Stage) (c : Command) (f : ℕ) (sides : Sides) (keys script : List ℕ) (ok : allowed s (length keys) command.Tail ≡ true) where
  pub tail_line_lem : (b : ℕ) (bs : List ℕ) (k v : ℕ) → Token (b ∷ bs) k v
      → Leads (state line 0 s c 0 f sides keys script) (tail_text (b ∷ bs))
      (state (line + 1) 0 stage.End command.Tail 0 v sides keys (script ++ unopened s sides keys ++ b ∷ bs))
  unfolding tail_text stage_after expected_at line_given given_keys given_bytes
  tail_line_lem b bs k v t =
      rw (opened_is s command.Tail sides keys refl, t.bytes) at
      (one_part line s c f sides keys script named.tail_is ok refl (hex_bytes (b ∷ bs)) v (given.Tail k v) (hex_plain (b ∷ bs))
      t.suits refl (ap (λ (j : ℕ). given.Tail j v) t.pairs) refl)
