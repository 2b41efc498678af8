-- What the two calls leave, by the stage that answers.
use mathlib.Core.Path.{◌≡◌, refl, sym, ap, ◌∙◌, subst}
use mathlib.Core.Bool.{true, false}
use mathlib.Core.List.{List, [], ◌∷◌, ◌++◌}
use Prim.Native.Nat.{ℕ, ◌+◌, ◌-◌, ◌*◌, ◌≤◌, ◌<◌}
use native.Mathlib.Omega.{arith}
use native.Mathlib.Decide.{dec_lt}
use lib.ListN.{length, get_or, drop, length-append, length-drop, get_or-append}
use lib.Seq.{ext_get_or, get_or-append-add, get_or-drop}
use lib.Dec.{ltb, eqb}
use borrow.Author.Tests.{ltb-true, lt-ltb, le-ltb}
use Rattle.model.specs.Answers.{first_of, is_accepted, answer_number}
use Rattle.model.specs.Words.{ring_length, at, node_place, decode_table, decode_message, decode, reads_as_ring, size_in, count_in}
use Rattle.model.specs.Buffer.{Written, ring_refusals, ring_answer}
use Rattle.model.specs.WellFormed.{nil, cons}
use Rattle.std.specs.Prelude.{Result, Ok, Err}
use Rattle.model.specs.declared.refusal.Refusal.{Refusal}
use Rattle.model.specs.declared.refusal.Refusal.TheVariants.{WrongLength, NotShort}
use Rattle.model.proofs.Lists.{first, rest}
use Rattle.model.proofs.Laws.{not_out_false, every_out, length_tabulate}
use Rattle.model.proofs.Words.{reads_out}
use Rattle.model.proofs.Short.{short_out, reads_bounds, shortened_length, messages_from, short_bounds, short_length_lem}
use Rattle.model.proofs.Answers.{none_applies, stays, passes}
use Rattle.answers.specs.Applied.{written}
use Rattle.call_refusals.proofs.Refused.{ring_reads}
use Rattle.model.specs.Short.{short_length, short_message, shortened, long_word, lengthened, reads_as_short, too_small, shorten_answer}
use Rattle.model.specs.Short.{shorten_buffer, lengthen_refusals, lengthen_answer, lengthen_buffer}
use Rattle.model.specs.Sets.{tabulate}
use Rattle.model.specs.Fields.{bits}
use Rattle.model.specs.Leafset.{size}
use Rattle.ring_ranges.specs.Spans.{Patched}

-- the first places written, the others as they were
pub front : {ws ws' : List ℕ} (l : List ℕ) → length l ≤ length ws → Patched ws ws' 0 (length l) (at l) → ws' ≡ l ++ drop (length l) ws
front {ws} {ws'} l h p =
    ext_get_or 0 ws' (l ++ drop (length l) ws) same
    (λ i b. elim (dec_lt i (length l)) [
      | yes y ↦ p.inside i (omega arith) y ∙ sym (get_or-append l (drop (length l) ws) 0 i y)
      | no y ↦ p.high i (omega arith) ∙ after i (omega arith)
    ])
  where
    same : length ws' ≡ length (l ++ drop (length l) ws)
    same = p.long ∙ sym (length-append l (drop (length l) ws) ∙ ap (λ (k : ℕ). length l + k) (length-drop (length l) ws) ∙ omega arith)

    after : (i : ℕ) → length l ≤ i → get_or ws i 0 ≡ get_or (l ++ drop (length l) ws) i 0
    after i b =
        let e : length l + (i - length l) ≡ i = omega arith in
        ap (λ (k : ℕ). get_or ws k 0) (sym e) ∙ sym (get_or-drop (length l) ws (i - length l) 0)
        ∙ sym (get_or-append-add l (drop (length l) ws) (i - length l) 0) ∙ ap (λ (k : ℕ). get_or (l ++ drop (length l) ws) k 0) e

-- ---- shortening

-- what the code knows of a ring of n nodes and m messages
pub record Known (ws : List ℕ) (n m : ℕ) : Type 0 where
  pub long : length ws ≡ ring_length
  pub size_is : n ≡ size_in ws
  pub count_is : m ≡ count_in ws
  pub some_node : 1 ≤ n
  pub few : n ≤ 64
  pub many : m ≤ 1024
  pub counted : length (shortened ws) ≡ 1 + 2 * (n * n) + 5 * m

pub known : (ws : List ℕ) {n m : ℕ} → ring_answer ws ≡ 0 → n ≡ size (decode_table ws) → m ≡ length (decode ws).messages → Known ws n m
unfolding decode decode_table
known ws {n} {m} ok en em =
    let reads : reads_as_ring ws ≡ true = ring_reads ws ok in
    let b = reads_bounds ws reads in
    let size-at : n ≡ size_in ws = en ∙ length_tabulate (λ s. bits 0 24 (at ws (node_place s))) (size_in ws) in
    let count_at : m ≡ count_in ws = em ∙ length_tabulate (decode_message ws) (count_in ws) in
    record {
      long = (reads_out ws reads).long;
      size_is = size-at;
      count_is = count_at;
      some_node = rw size-at b.size_low;
      few = rw size-at b.size_high;
      many = rw count_at b.count_high;
      counted = rw (size-at, count_at) (shortened_length ws reads);
    }

-- the length in the two ways in which it is told
pub lengths : (n m : ℕ) → short_message n m ≡ 1 + 2 * (n * n) + 5 * m
lengths n m = ap (λ (k : ℕ). k + 5 * m) (messages_from n)

module _ (ws place : List ℕ) where
  of_ring : is_accepted (ring_answer ws) ≡ false → shorten_answer ws place ≡ ring_answer ws
  unfolding shorten_answer ring_answer
  of_ring n = stays (ring_refusals ws) (too_small ws place ∷ []) n

  pub shorten_refused : {a : ℕ} → a ≡ ring_answer ws → is_accepted (ring_answer ws) ≡ false
      → record { answer = a; length = 0; place = place } ≡ shorten_buffer ws place
  unfolding shorten_buffer
  shorten_refused is n = rw (of_ring n, n, is)

  module _ (ok : ring_answer ws ≡ 0) where
    after_ring : shorten_answer ws place ≡ first_of (too_small ws place ∷ [])
    unfolding shorten_answer ring_answer
    after_ring = passes (ring_refusals ws) (too_small ws place ∷ []) (none_applies (ring_refusals ws) (cons refl (cons refl nil)) ok)

    pub too_small_lem : length place < length (shortened ws) → record { answer = 20; length = 0; place = place } ≡ shorten_buffer ws place
    unfolding shorten_buffer first_of
    too_small_lem h = rw (after_ring, lt-ltb (length place) (length (shortened ws)) h)

    pub shortens : {a k e : ℕ} {place' : List ℕ} → a ≡ 0 → k ≡ length (shortened ws) → e ≡ length (shortened ws) → k ≤ length place
        → Patched place place' 0 e (at (shortened ws)) → record { answer = a; length = k; place = place' } ≡ shorten_buffer ws place
    unfolding shorten_buffer first_of
    shortens {a} {k} {e} {place'} z is end h p =
        let l : length (shortened ws) ≤ length place = omega (arith, is) in
        let q : place' ≡ shortened ws ++ drop (length (shortened ws)) place =
        front (shortened ws) l (subst (λ (to : ℕ). Patched place place' 0 to (at (shortened ws))) end p) in
        rw (after_ring, le-ltb (length place) (length (shortened ws)) l, z, is, q)

-- ---- lengthening

-- what the code knows of a short ring, n and m of which are word 0's
pub record Stored (short : List ℕ) (n m : ℕ) : Type 0 where
  pub some_node : 1 ≤ n
  pub few : n ≤ 64
  pub many : m ≤ 1024
  pub long : short_message n m ≡ length short

pub stored : (short : List ℕ) {n m : ℕ} → reads_as_short short ≡ true → n ≡ size_in short → m ≡ count_in short → Stored short n m
stored short {n} {m} reads en em =
    let b = short_bounds short reads in
    record {
      some_node = rw en b.size_low;
      few = rw en b.size_high;
      many = rw em b.count_high;
      long = lengths n m
          ∙ rw (en, em) (sym ((short_out short reads).long ∙ short_length_lem (size_in short) (count_in short) b.size_high b.count_high));
    }

pub not_empty : (short : List ℕ) → reads_as_short short ≡ true → 0 < length short
unfolding reads_as_short
not_empty short e =
    ltb-true 0 (length short)
    (first (every_out (ltb 0 (length short) ∷ eqb (length short) (short_length (size_in short) (count_in short)) ∷ reads_as_ring (lengthened short) ∷ []) e))

module _ (short ws : List ℕ) where
  pub not_as_long : eqb (length ws) ring_length ≡ false → written {A = Unit {0}} (Err WrongLength) ws ≡ lengthen_buffer short ws
  unfolding lengthen_buffer lengthen_answer first_of
  not_as_long e = rw e

  module _ (long : eqb (length ws) ring_length ≡ true) where
    pub not_short_lem : reads_as_short short ≡ false → written {A = Unit {0}} (Err NotShort) ws ≡ lengthen_buffer short ws
    unfolding lengthen_buffer lengthen_answer first_of
    not_short_lem e = rw (long, e)

    pub lengthens : {n m : ℕ} {ws' : List ℕ} → reads_as_short short ≡ true → n ≡ size_in short → m ≡ count_in short
        → ws' ≡ tabulate ring_length (long_word n m short) → written {A = Unit {0}} (Ok tt) ws' ≡ lengthen_buffer short ws
    unfolding lengthen_buffer lengthen_answer first_of lengthened
    lengthens e size count is = rw (long, e, is, size, count)

  -- what an accepted call leaves reads as a ring
  pub lengthened_reads : {A : Type 0} (a : Result A Refusal) {ws' : List ℕ} → written a ws' ≡ lengthen_buffer short ws → answer_number a ≡ 0
      → reads_as_ring ws' ≡ true
  unfolding lengthen_buffer lengthen_answer
  lengthened_reads a e z =
      let ok : first_of (lengthen_refusals short ws) ≡ 0 = sym (ap (λ (w : Written). w.answer) e) ∙ z in
      let p = none_applies (lengthen_refusals short ws) (cons refl (cons refl nil)) ok in
      let reads : reads_as_short short ≡ true = not_out_false (reads_as_short short) (first (rest p)) in
      ap reads_as_ring (ap (λ (w : Written). w.words) e ∙ rw ok) ∙ (short_out short reads).expands
