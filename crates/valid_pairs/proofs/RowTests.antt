-- The tests of a row of pairs: what the code tests of each word is what the regions ask of it.
use Rattle.std.proofs.Common.{◌≡◌, ℕ, ◌+◌, ◌-◌, ◌*◌, ◌/◌, ◌%◌, ◌^◌, ◌<◌, ◌≤◌, Bool, true, false, not, ◌&&◌, ◌||◌, eqb, ltb, leb, List, [], ◌∷◌, get_or}
use Rattle.std.proofs.Common.{replicate, sym, refl, ap, ◌∙◌, ap₂, zero-le, mod-lt, mod-eq_of_lt, div-add-mod', arith, lit<, get_or-set_other, get_or-set_same}
use Rattle.std.proofs.Common.{ltb-true, le-ltb, lt-ltb, eq-eqb, ne_eqb, eqb-true, le-leb, leb-true, if◌then◌else◌}
use native.Mathlib.Decide.{dec_lt, ℕ_discrete}
use lib.Arith.{mod-mul}
use lib.ListN.{length-replicate, get_or-replicate}
use lib.Bits.{bit_or, bit_xor, xor_shr, xor_mod, xor_zero_r}
use borrow.Author.Tests.{eqb-false}
use Rattle.model.specs.Choice.{◌⇒◌, every}
use Rattle.model.specs.Sets.{all}
use Rattle.model.specs.Fields.{bits, flag}
use Rattle.model.specs.WellFormed.{nil, cons}
use Rattle.model.specs.Words.{pair_word, spare_word}
use Rattle.model.proofs.Laws.{and_left, and_right, and_in, or_left, clash, decide, is_false, not_in, not_out}
use Rattle.model.proofs.Laws.{implies_out, then_out, else_out, if_law, same_test, every_in, every_out, all_in, all_out}
use Rattle.model.proofs.Lists.{first, rest}
use Rattle.valid_nodes.specs.Nodes.{key_at, clock_at}
use Rattle.valid_pairs.specs.Pairs.{link_at, spare_at, link_reads, spare_reads, pair_reads, others_read}
use Rattle.valid_pairs.specs.Rows.{no_link, no_spare, off_diagonal, apart, link_fits, links_fit, no_links, no_spares}
use Rattle.valid_pairs.proofs.PairFormats.{pair_format, spare_format, wrapped}
use Rattle.valid_nodes.proofs.Gather.{or_test, all_both, all_cong}
use Rattle.model.proofs.Fields.{bits<}
use Rattle.valid_nodes.proofs.Formats.{lowest, xor_test, xor_above}

-- ---- a link

-- bits in which b has none are kept
kept : (low width w b : ℕ) → bits low width b ≡ 0 → bits low width (bit_xor w b) ≡ bits low width w
kept low width w b e =
    ap (λ (v : ℕ). v % 2 ^ width) (xor_shr w b low) ∙ xor_mod (w / 2 ^ low) (b / 2 ^ low) width
    ∙ ap (bit_xor (bits low width w)) e ∙ xor_zero_r (bits low width w)

pub link_fits_lem : (clock w : ℕ) → link_fits clock (bit_xor w no_link) ≡ link_reads clock w
unfolding link_fits link_reads
link_fits_lem clock w = rw (xor_above 26 w no_link ∙ sym (pair_format w), kept 24 1 w no_link refl, kept 0 24 w no_link refl)

pub no_link_fits : (clock : ℕ) → link_fits clock 0 ≡ true
unfolding link_fits
no_link_fits clock = rw (le-leb 0 clock zero-le)

-- most - a, wrapped, has a clear bit 31 exactly where a is at most `most`

late_out : (most a : ℕ) → most < 2 ^ 31 → a < 2 ^ 31 → wrapped most a / 2 ^ 31 ≡ 0 → a ≤ most
late_out most a hm ha e = elim (dec_lt most a) [
  | yes l ↦ let m : wrapped most a ≡ most + (2 ^ 32 - a) = mod-eq_of_lt (omega arith) in absurd (omega arith)
  | no d ↦ omega arith
]

late_in : (most a : ℕ) → most < 2 ^ 31 → a ≤ most → wrapped most a / 2 ^ 31 ≡ 0
late_in most a hm ha = omega arith

-- The link's high bits q, its mark f and its stamp s, lifted: bit 24 is clear exactly where a held pair has a stamp and another has
-- none, and then the bound is that of the stamp.

record Link (q f s clock : ℕ) : Type 0 where
  none_above : q ≡ 0
  stamped : f ≡ 1 → 0 < s
  unstamped : f ≡ 0 → s ≡ 0
  not_ahead : s ≤ clock

module _ (q f s clock a : ℕ) (hf : f < 2) (hs : s < 2 ^ 24) (hc : clock < 2 ^ 24) (e : a ≡ q * 2 ^ 26 + (f * 2 ^ 24 + s) + 16777215) where
  link_out : a / 2 ^ 26 ≡ 0 → a / 2 ^ 24 % 2 ≡ 0 → wrapped (33554431 + clock) a / 2 ^ 31 ≡ 0 → Link q f s clock
  link_out high even late =
      let h : q ≡ 0 = omega arith in
      let l : a ≤ 33554431 + clock = late_out (33554431 + clock) a (omega arith) (omega arith) late in
      record {
        none_above = h;
        stamped = λ m. elim (ℕ_discrete s 0) [ yes i ↦ absurd (omega arith) | no d ↦ omega arith ];
        unstamped = λ m. elim (ℕ_discrete s 0) [ yes i ↦ i | no d ↦ absurd (omega arith) ];
        not_ahead = elim (ℕ_discrete f 0) [ yes i ↦ elim (ℕ_discrete s 0) [ yes j ↦ omega arith | no d ↦ absurd (omega arith) ] | no d ↦ omega arith ];
      }

  link_in : Link q f s clock → (a / 2 ^ 26 ≡ 0) × (a / 2 ^ 24 % 2 ≡ 0) × (wrapped (33554431 + clock) a / 2 ^ 31 ≡ 0)
  link_in k =
      let h = k.none_above in
      let l = k.not_ahead in
      elim (ℕ_discrete f 0) [
        | yes i ↦ let j = k.unstamped i in (omega arith, omega arith, late_in (33554431 + clock) a (omega arith) (omega arith))
        | no d ↦ let j = k.stamped (omega arith) in (omega arith, omega arith, late_in (33554431 + clock) a (omega arith) (omega arith))
      ]

abbrev pub lift : ℕ → ℕ
lift u = u / 2 ^ 26 * 2 ^ 26 + u % 2 ^ 25 + 16777215

module _ (clock u : ℕ) (hc : clock < 2 ^ 24) where
  f< : u / 2 ^ 24 % 2 < 2
  f< = mod-lt (u / 2 ^ 24) (lit< tt)

  s< : u % 2 ^ 24 < 2 ^ 24
  s< = mod-lt u (lit< tt)

  by_parts : lift u ≡ u / 2 ^ 26 * 2 ^ 26 + (u / 2 ^ 24 % 2 * 2 ^ 24 + u % 2 ^ 24) + 16777215
  by_parts = ap (λ (v : ℕ). u / 2 ^ 26 * 2 ^ 26 + v + 16777215) (mod-mul u {m = 2} {c = 2 ^ 24} (lit< tt) (lit< tt))

  pub lifted_test : (eqb (lift u / 2 ^ 26) 0 && eqb (lift u / 2 ^ 24 % 2) 0 && eqb (wrapped (33554431 + clock) (lift u) / 2 ^ 31) 0) ≡ link_fits clock u
  unfolding link_fits
  lifted_test = rw (lowest 24 u) (same_test (high && even && late) (every fits) to_fits from_fits)
    where
      high : Bool
      high = eqb (lift u / 2 ^ 26) 0

      even : Bool
      even = eqb (lift u / 2 ^ 24 % 2) 0

      late : Bool
      late = eqb (wrapped (33554431 + clock) (lift u) / 2 ^ 31) 0

      fits : List Bool
      fits = eqb (u / 2 ^ 26) 0 ∷ (if flag 24 u then ltb 0 (u % 2 ^ 24) else eqb (u % 2 ^ 24) 0) ∷ leb (u % 2 ^ 24) clock ∷ []

      to_fits : (high && even && late) ≡ true → every fits ≡ true
      to_fits t =
          let k = link_out (u / 2 ^ 26) (u / 2 ^ 24 % 2) (u % 2 ^ 24) clock (lift u) f< s< hc by_parts
          (eqb-true (lift u / 2 ^ 26) 0 (and_left high even (and_left (high && even) late t)))
          (eqb-true (lift u / 2 ^ 24 % 2) 0 (and_right high even (and_left (high && even) late t)))
          (eqb-true (wrapped (33554431 + clock) (lift u) / 2 ^ 31) 0 (and_right (high && even) late t)) in
          every_in {bs = fits} (cons (eq-eqb (u / 2 ^ 26) 0 k.none_above)
          (cons (if_law (λ b. b ≡ true) (flag 24 u) (ltb 0 (u % 2 ^ 24)) (eqb (u % 2 ^ 24) 0)
          (λ m. lt-ltb 0 (u % 2 ^ 24) (k.stamped (eqb-true (u / 2 ^ 24 % 2) 1 m)))
          (λ m. eq-eqb (u % 2 ^ 24) 0 (k.unstamped (let d = eqb-false (u / 2 ^ 24 % 2) 1 m in omega (arith, f<)))))
          (cons (le-leb (u % 2 ^ 24) clock k.not_ahead) nil)))

      from_fits : every fits ≡ true → (high && even && late) ≡ true
      from_fits t =
          let p = every_out fits t in
          let k = link_in (u / 2 ^ 26) (u / 2 ^ 24 % 2) (u % 2 ^ 24) clock (lift u) f< s< hc by_parts (record {
            none_above = eqb-true (u / 2 ^ 26) 0 (first p);
            stamped = λ m. ltb-true 0 (u % 2 ^ 24)
                (then_out (flag 24 u) (ltb 0 (u % 2 ^ 24)) (eqb (u % 2 ^ 24) 0) (first (rest p)) (eq-eqb (u / 2 ^ 24 % 2) 1 m));
            unstamped = λ m. eqb-true (u % 2 ^ 24) 0
                (else_out (flag 24 u) (ltb 0 (u % 2 ^ 24)) (eqb (u % 2 ^ 24) 0) (first (rest p)) (ne_eqb (u / 2 ^ 24 % 2) 1 (λ i. omega arith)));
            not_ahead = leb-true (u % 2 ^ 24) clock (first (rest (rest p)));
          }) in
          and_in (and_in (eq-eqb (lift u / 2 ^ 26) 0 k.0) (eq-eqb (lift u / 2 ^ 24 % 2) 0 k.1))
          (eq-eqb (wrapped (33554431 + clock) (lift u) / 2 ^ 31) 0 k.2)

-- ---- a spare

pub no_spare_reads : (n x z w : ℕ) → n ≤ 64 → x < 64 → z < 64 → spare_reads n x z w no_spare ≡ true
unfolding spare_reads
no_spare_reads n x z w hn hx hz = rw (spare_format no_spare, le-ltb 64 n hn, ne_eqb 64 x (λ e. omega arith), ne_eqb 64 z (λ e. omega arith)) (go (flag 24 w))
  where
    go : (held : Bool) → every (true ∷ true ∷ true ∷ true ∷ (not held ⇒ true) ∷ []) ≡ true
    go true = refl
    go false = refl

-- ---- a pair without a link and a spare

pub nothing_reads : (n x z clock w p : ℕ) → n ≤ 64 → x < 64 → z < 64
    → (eqb w no_link && eqb p no_spare)
    ≡ every (link_reads clock w ∷ spare_reads n x z w p ∷ (not (flag 24 w) && not (flag 25 w)) ∷ [])
unfolding link_reads spare_reads
nothing_reads n x z clock w p hn hx hz =
    same_test (eqb w no_link && eqb p no_spare) (every (link_reads clock w ∷ spare_reads n x z w p ∷ (not (flag 24 w) && not (flag 25 w)) ∷ []))
    (λ t. let e : w ≡ no_link = eqb-true w no_link (and_left (eqb w no_link) (eqb p no_spare) t) in
    let f : p ≡ no_spare = eqb-true p no_spare (and_right (eqb w no_link) (eqb p no_spare) t) in
    rw (e, f) (every_in (cons (sym (link_fits_lem clock no_link) ∙ no_link_fits clock) (cons (no_spare_reads n x z no_link hn hx hz) (cons refl nil)))))
    (λ t. let a = every_out (link_reads clock w ∷ spare_reads n x z w p ∷ (not (flag 24 w) && not (flag 25 w)) ∷ []) t in
    let held : flag 24 w ≡ false = not_out (flag 24 w) (and_left (not (flag 24 w)) (not (flag 25 w)) (first (rest (rest a)))) in
    let candidate : flag 25 w ≡ false = not_out (flag 25 w) (and_right (not (flag 24 w)) (not (flag 25 w)) (first (rest (rest a)))) in
    and_in (eq-eqb w no_link (link (first a) held candidate)) (eq-eqb p no_spare (spare (first (rest a)) held)))
  where
    link : link_reads clock w ≡ true → flag 24 w ≡ false → flag 25 w ≡ false → w ≡ no_link
    link t held candidate =
        let a = every_out
        (eqb w (pair_word (bits 0 24 w) (flag 24 w) (flag 25 w))
        ∷ (if flag 24 w then ltb 0 (bits 0 24 w) else eqb (bits 0 24 w) 0)
        ∷ leb (bits 0 24 w) clock
        ∷ []) t in
        let b : w / 2 ^ 26 ≡ 12 = eqb-true (w / 2 ^ 26) 12 (sym (pair_format w) ∙ first a) in
        let c : bits 0 24 w ≡ 0 = eqb-true (bits 0 24 w) 0 (else_out (flag 24 w) (ltb 0 (bits 0 24 w)) (eqb (bits 0 24 w) 0) (first (rest a)) held) in
        let d : w % 2 ^ 24 ≡ 0 = sym (lowest 24 w) ∙ c in
        let e = eqb-false (w / 2 ^ 24 % 2) 1 held in
        let f = eqb-false (w / 2 ^ 25 % 2) 1 candidate in
        let g : w % 2 ^ 25 ≡ w / 2 ^ 24 % 2 * 2 ^ 24 + w % 2 ^ 24 = mod-mul w {m = 2} {c = 2 ^ 24} (lit< tt) (lit< tt) in
        let h : w % 2 ^ 26 ≡ w / 2 ^ 25 % 2 * 2 ^ 25 + w % 2 ^ 25 = mod-mul w {m = 2} {c = 2 ^ 25} (lit< tt) (lit< tt) in
        let i : w / 2 ^ 24 % 2 ≡ 0 = omega arith in
        let j : w / 2 ^ 25 % 2 ≡ 0 = omega arith in
        let k : w / 2 ^ 26 * 2 ^ 26 + w % 2 ^ 26 ≡ w = div-add-mod' w (2 ^ 26) in
        sym k ∙ ap₂ (λ (q r : ℕ). q * 2 ^ 26 + r) b (h ∙ ap₂ (λ (q r : ℕ). q * 2 ^ 25 + r) j (g ∙ ap₂ (λ (q r : ℕ). q * 2 ^ 24 + r) i d))

    spare : spare_reads n x z w p ≡ true → flag 24 w ≡ false → p ≡ no_spare
    spare t held =
        let a = every_out
        (eqb p (spare_word (bits 0 7 p))
        ∷ (ltb (bits 0 7 p) n || eqb (bits 0 7 p) 64)
        ∷ not (eqb (bits 0 7 p) x)
        ∷ not (eqb (bits 0 7 p) z)
        ∷ (not (flag 24 w) ⇒ eqb (bits 0 7 p) 64)
        ∷ []) t
        in
        let b : p / 2 ^ 7 ≡ 8388608 = eqb-true (p / 2 ^ 7) 8388608 (sym (spare_format p) ∙ first a) in
        let c : bits 0 7 p ≡ 64 = eqb-true (bits 0 7 p) 64
        (implies_out (not (flag 24 w)) (eqb (bits 0 7 p) 64) (first (rest (rest (rest (rest a))))) (not_in held))
        in
        omega arith

-- ---- the tables

pub off_diagonal_lem : (b x z : ℕ) → x < 64 → z < 64 → get_or (off_diagonal b) (63 - x + z) 0 ≡ (if eqb x z then 0 else b)
off_diagonal_lem b x z hx hz =
    elim (ℕ_discrete x z) [
      | yes e ↦ let i : 63 - x + z ≡ 63 = omega arith in
          rw (eq-eqb x z e, i) (get_or-set_same (replicate 127 b) 63 0 0 (simp length-replicate (lit< tt)))
      | no d ↦ rw (ne_eqb x z d)
          (get_or-set_other (replicate 127 b) 63 (63 - x + z) 0 0 (λ i. d (omega arith)) ∙ get_or-replicate 127 (63 - x + z) b 0 (omega arith))
    ]

pub table_apart : (b x z w : ℕ) (t : List ℕ) → x < 64 → z < 64 → t ≡ off_diagonal b → bit_xor w (get_or t (63 - x + z) 0) ≡ apart b x z w
table_apart b x z w t hx hz e = ap (bit_xor w) (ap (λ (l : List ℕ). get_or l (63 - x + z) 0) e ∙ off_diagonal_lem b x z hx hz)

-- ---- a row

pub two_of_three : (a b : Bool) → (a && b) ≡ every (a ∷ b ∷ true ∷ [])
two_of_three true true = refl
two_of_three true false = refl
two_of_three false b = refl

module _ (ws : List ℕ) (n x : ℕ) (hn : n ≤ 64) (hx : x < n) where
  -- each spare of the row reads
  abbrev pub spares_read : Bool
  spares_read = all n (λ z. eqb x z || spare_reads n x z (link_at ws x z) (spare_at ws x z))

  -- the place of x with itself is 0
  abbrev pub OwnClear : Type 0
  OwnClear = (link_at ws x x ≡ 0) × (spare_at ws x x ≡ 0)

  pub own_clear : eqb (bit_or (link_at ws x x) (spare_at ws x x)) 0 ≡ true → OwnClear
  own_clear e =
      let t = sym (or_test (link_at ws x x) (spare_at ws x x)) ∙ e in (
        eqb-true (link_at ws x x) 0 (and_left (eqb (link_at ws x x) 0) (eqb (spare_at ws x x) 0) t),
        eqb-true (spare_at ws x x) 0 (and_right (eqb (link_at ws x x) 0) (eqb (spare_at ws x x) 0) t),
      )

  pub own_not_clear : eqb (bit_or (link_at ws x x) (spare_at ws x x)) 0 ≡ false → all n (pair_reads ws n x) ≡ false
  unfolding pair_reads
  own_not_clear e =
      is_false (all n (pair_reads ws n x)) (λ t.
      clash (or_test (link_at ws x x) (spare_at ws x x) ∙ (rw (eq-eqb x x refl) at (all_out n (pair_reads ws n x) t x hx))) e)

  module _ (own : OwnClear) where
    link_own : (z : ℕ) → eqb x z ≡ true → link_at ws x z ≡ 0
    link_own z e = ap (link_at ws x) (sym (eqb-true x z e)) ∙ own.0

    spare_own : (z : ℕ) → eqb x z ≡ true → spare_at ws x z ≡ 0
    spare_own z e = ap (spare_at ws x) (sym (eqb-true x z e)) ∙ own.1

    pair_running : flag 24 (key_at ws x) ≡ true → (z : ℕ) → z < n
        → (link_fits (bits 0 24 (clock_at ws x)) (apart no_link x z (link_at ws x z)) && (eqb x z || spare_reads n x z (link_at ws x z) (spare_at ws x z)))
        ≡ pair_reads ws n x z
    unfolding pair_reads
    pair_running r z hz =
        decide (eqb x z)
        (λ e. rw (e, link_own z e, spare_own z e, no_link_fits (bits 0 24 (clock_at ws x))))
        (λ e. rw (e, r, link_fits_lem (bits 0 24 (clock_at ws x)) (link_at ws x z))
        (two_of_three (link_reads (bits 0 24 (clock_at ws x)) (link_at ws x z)) (spare_reads n x z (link_at ws x z) (spare_at ws x z))))

    pair_off : flag 24 (key_at ws x) ≡ false → (z : ℕ) → z < n
        → (eqb (apart no_link x z (link_at ws x z)) 0 && eqb (apart no_spare x z (spare_at ws x z)) 0) ≡ pair_reads ws n x z
    unfolding pair_reads
    pair_off r z hz =
        decide (eqb x z)
        (λ e. rw (e, link_own z e, spare_own z e))
        (λ e. rw (e, r, xor_test (link_at ws x z) no_link, xor_test (spare_at ws x z) no_spare)
        (nothing_reads n x z (bits 0 24 (clock_at ws x)) (link_at ws x z) (spare_at ws x z) hn (omega arith) (omega arith)))

    -- a running node's row
    pub running_reads_lem : flag 24 (key_at ws x) ≡ true → (links_fit ws n x && spares_read) ≡ all n (pair_reads ws n x)
    running_reads_lem r =
        all_both (λ z. link_fits (bits 0 24 (clock_at ws x)) (apart no_link x z (link_at ws x z)))
        (λ z. eqb x z || spare_reads n x z (link_at ws x z) (spare_at ws x z)) n
        ∙ all_cong (λ z.
        link_fits (bits 0 24 (clock_at ws x)) (apart no_link x z (link_at ws x z))
        && (eqb x z || spare_reads n x z (link_at ws x z) (spare_at ws x z)))
        (pair_reads ws n x) n (pair_running r)

    -- the same, looked at as a whole
    pub whole_reads : flag 24 (key_at ws x) ≡ true → all n (others_read ws n x) ≡ all n (pair_reads ws n x)
    unfolding pair_reads
    whole_reads r =
        all_cong (others_read ws n x) (pair_reads ws n x) n
        (λ z hz. decide (eqb x z)
        (λ e. rw (e, eq-eqb z x (sym (eqb-true x z e)), link_own z e, spare_own z e) refl)
        (λ e. rw (e, ne_eqb z x (λ i. clash (eq-eqb x z (sym i)) e), r)
        (two_of_three (link_reads (bits 0 24 (clock_at ws x)) (link_at ws x z)) (spare_reads n x z (link_at ws x z) (spare_at ws x z)))))

    -- the row of a node that is off
    pub off_reads : flag 24 (key_at ws x) ≡ false → (no_links ws n x && no_spares ws n x) ≡ all n (pair_reads ws n x)
    off_reads r =
        all_both (λ z. eqb (apart no_link x z (link_at ws x z)) 0) (λ z. eqb (apart no_spare x z (spare_at ws x z)) 0) n
        ∙ all_cong (λ z. eqb (apart no_link x z (link_at ws x z)) 0 && eqb (apart no_spare x z (spare_at ws x z)) 0) (pair_reads ws n x) n (pair_off r)

  -- the links, as the code joins its tests
  pub links_tests : (most : ℕ) → most ≡ 33554431 + bits 0 24 (clock_at ws x)
      → (all n (λ z. eqb (lift (apart no_link x z (link_at ws x z)) / 2 ^ 26) 0)
      && all n (λ z. eqb (lift (apart no_link x z (link_at ws x z)) / 2 ^ 24 % 2) 0)
      && all n (λ z. eqb (wrapped most (lift (apart no_link x z (link_at ws x z))) / 2 ^ 31) 0))
      ≡ links_fit ws n x
  links_tests most e =
      ap (λ (b : Bool). b && all n late) (all_both high even n) ∙ all_both (λ z. high z && even z) late n
      ∙ all_cong (λ z. high z && even z && late z) (λ z. link_fits (bits 0 24 (clock_at ws x)) (link z)) n
      (λ z h. rw e (lifted_test (bits 0 24 (clock_at ws x)) (link z) (bits< 0 24 (clock_at ws x))))
    where
      link : ℕ → ℕ
      link z = apart no_link x z (link_at ws x z)

      high : ℕ → Bool
      high z = eqb (lift (link z) / 2 ^ 26) 0

      even : ℕ → Bool
      even z = eqb (lift (link z) / 2 ^ 24 % 2) 0

      late : ℕ → Bool
      late z = eqb (wrapped most (lift (link z)) / 2 ^ 31) 0

  -- where none has a spare, the spares read
  pub bare_reads : no_spares ws n x ≡ true → spares_read ≡ true
  bare_reads t =
      all_in n (λ z. eqb x z || spare_reads n x z (link_at ws x z) (spare_at ws x z))
      (λ z h. decide (eqb x z) (λ e. or_left _ e) (λ e.
      let none : spare_at ws x z ≡ no_spare =
      eqb-true (spare_at ws x z) no_spare
      (sym (xor_test (spare_at ws x z) no_spare) ∙ (rw e at (all_out n (λ z. eqb (apart no_spare x z (spare_at ws x z)) 0) t z h))) in
      rw (e, none) (no_spare_reads n x z (link_at ws x z) hn (omega arith) (omega arith))))
