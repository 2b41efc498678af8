-- The two words of a pair at once: what the code tests is what `link_reads` and `spare_reads` ask.
use Rattle.std.proofs.Common.{◌≡◌, ℕ, zero, suc, ◌+◌, ◌-◌, ◌*◌, ◌/◌, ◌%◌, ◌^◌, ◌<◌, ◌≤◌, Bool, true, false, not, ◌&&◌, ◌||◌, eqb, ltb, leb, List, [], ◌∷◌, sym}
use Rattle.std.proofs.Common.{refl, ap, ◌∙◌, mod-lt, mod-eq_of_lt, div-add-mod', zero-add, add-one, arith, lit<, ltb-true, le-ltb, lt-ltb, eq-eqb, ne_eqb}
use Rattle.std.proofs.Common.{eqb-true, le-leb, leb-true, if◌then◌else◌}
use native.Mathlib.Decide.{dec_lt, ℕ_discrete}
use mathlib.Core.Bool.{and-true, and-false}
use lib.Arith.{mod-mul}
use lib.Bits.{bit_xor, bit_and, xor_zero_r, xor_self, xor_block}
use Rattle.model.specs.Choice.{◌⇒◌, every}
use Rattle.model.specs.Sets.{Set, count, all, without}
use Rattle.model.specs.Fields.{flag}
use Rattle.model.specs.Words.{pair_word}
use Rattle.model.specs.WellFormed.{nil, cons}
use Rattle.model.proofs.Laws.{decide, is_false, same_test, every_in, every_out, all_in, all_out, count_le, count_all, count_cong, count_more}
use Rattle.sets.proofs.Ascending.{count_without}
use Rattle.model.proofs.Lists.{first, rest}
use Rattle.valid_nodes.proofs.Formats.{lowest, xor_test}
use Rattle.valid_pairs.specs.Pairs.{link_reads, spare_reads}
use Rattle.valid_pairs.proofs.PairFormats.{pair_format, spare_format, without_candidate, wrapped, wrapped_back}

-- ---- the link: high bits q, mark f, stamp s

abbrev links : ℕ → ℕ → ℕ → ℕ → List Bool
links clock q f s = eqb q 12 ∷ (if eqb f 1 then ltb 0 s else eqb s 0) ∷ leb s clock ∷ []

link_parts : (clock w : ℕ) → link_reads clock w ≡ every (links clock (w / 2 ^ 26) (w / 2 ^ 24 % 2) (w % 2 ^ 24))
unfolding link_reads
link_parts clock w = rw (pair_format w, lowest 24 w) refl

-- not held, no stamp
idle : (clock q f s v : ℕ) → f < 2 → s < 2 ^ 24 → v ≡ q * 2 ^ 26 + (f * 2 ^ 24 + s) → eqb v 805306368 ≡ (every (links clock q f s) && not (eqb f 1))
idle clock q zero s v hf hs e =
    same_test (eqb v 805306368) (every (links clock q 0 s))
    (λ t. let i = eqb-true v 805306368 t in
    let z : s ≡ 0 = omega arith in
    every_in (cons (eq-eqb q 12 (omega arith)) (cons (eq-eqb s 0 z) (cons (le-leb s clock (omega arith)) nil))))
    (λ t. let p = every_out (links clock q 0 s) t in
    let i = eqb-true q 12 (first p) in
    let j = eqb-true s 0 (first (rest p)) in
    eq-eqb v 805306368 (omega arith))
    ∙ sym (and-true (every (links clock q 0 s)))
idle clock q (suc zero) s v hf hs e = ne_eqb v 805306368 (λ i. omega arith) ∙ sym (and-false (every (links clock q 1 s)))
idle clock q (suc (suc f)) s v hf hs e = absurd (omega arith)

-- held, with a stamp up to the clock: what v has beyond 0x31000001 is below the clock
beyond_out : (clock v d : ℕ) → clock < 2 ^ 24 → d < 2 ^ 32 → (d + 822083585) % 2 ^ 32 ≡ v → d < clock → v ≡ d + 822083585
beyond_out clock v d hc hd e l = omega arith

beyond_in : (clock v d : ℕ) → d < 2 ^ 32 → (d + 822083585) % 2 ^ 32 ≡ v → 822083585 ≤ v → v < 822083585 + clock → d < clock
beyond_in clock v d hd e a b = elim (dec_lt (d + 822083585) (2 ^ 32)) [
  | yes l ↦ let m : (d + 822083585) % 2 ^ 32 ≡ d + 822083585 = mod-eq_of_lt l in omega arith
  | no n ↦ let m : (d + 822083585) % 2 ^ 32 ≡ d + 822083585 - 2 ^ 32 = omega arith in absurd (omega arith)
]

held : (clock q f s v d : ℕ) → f < 2 → s < 2 ^ 24 → v ≡ q * 2 ^ 26 + (f * 2 ^ 24 + s) → clock < 2 ^ 24 → d < 2 ^ 32
    → (d + 822083585) % 2 ^ 32 ≡ v → ltb d clock ≡ (every (links clock q f s) && eqb f 1)
held clock q zero s v d hf hs e hc hd g =
    is_false (ltb d clock) (λ t. let l = ltb-true d clock t in let i = beyond_out clock v d hc hd g l in absurd (omega arith))
    ∙ sym (and-false (every (links clock q 0 s)))
held clock q (suc zero) s v d hf hs e hc hd g =
    same_test (ltb d clock) (every (links clock q 1 s))
    (λ t. let l = ltb-true d clock t in
    let i = beyond_out clock v d hc hd g l in
    let j : q ≡ 12 = omega arith in
    every_in (cons (eq-eqb q 12 j) (cons (lt-ltb 0 s (omega arith)) (cons (le-leb s clock (omega arith)) nil))))
    (λ t. let p = every_out (links clock q 1 s) t in
    let i = eqb-true q 12 (first p) in
    let j = ltb-true 0 s (first (rest p)) in
    let k = leb-true s clock (first (rest (rest p))) in
    lt-ltb d clock (beyond_in clock v d hd g (omega arith) (omega arith)))
    ∙ sym (and-true (every (links clock q 1 s)))
held clock q (suc (suc f)) s v d hf hs e hc hd g = absurd (omega arith)

-- ---- the spare

abbrev spares : ℕ → ℕ → ℕ → Bool → ℕ → ℕ → List Bool
spares n x z f q r = eqb q 8388608 ∷ (ltb r n || eqb r 64) ∷ not (eqb r x) ∷ not (eqb r z) ∷ (not f ⇒ eqb r 64) ∷ []

spare_parts : (n x z w p : ℕ) → spare_reads n x z w p ≡ every (spares n x z (flag 24 w) (p / 2 ^ 7) (p % 2 ^ 7))
unfolding spare_reads
spare_parts n x z w p = rw (spare_format p, lowest 7 p) refl

-- ---- both

abbrev tests : ℕ → ℕ → ℕ → ℕ → ℕ → Bool → Bool → Bool
tests n x z p u idle held = (idle && eqb p 1073741888) || (held && (eqb p 1073741888 || (ltb u n && not (eqb u x) && not (eqb u z))))

-- of kind 4, r being its low bits
of_kind_4 : (l f none below isX isZ : Bool) → (none ≡ true → isX ≡ false) → (none ≡ true → isZ ≡ false)
    → (((l && not f) && none) || ((l && f) && (none || (below && not isX && not isZ))))
    ≡ (l && every (true ∷ (below || none) ∷ not isX ∷ not isZ ∷ (not f ⇒ none) ∷ []))
of_kind_4 false f none below isX isZ a b = refl
of_kind_4 true true true true isX isZ a b = rw (a refl, b refl) refl
of_kind_4 true true true false isX isZ a b = rw (a refl, b refl) refl
of_kind_4 true true false true true isZ a b = refl
of_kind_4 true true false true false true a b = refl
of_kind_4 true true false true false false a b = refl
of_kind_4 true true false false isX isZ a b = refl
of_kind_4 true false true true isX isZ a b = rw (a refl, b refl) refl
of_kind_4 true false true false isX isZ a b = rw (a refl, b refl) refl
of_kind_4 true false false true true isZ a b = refl
of_kind_4 true false false true false true a b = refl
of_kind_4 true false false true false false a b = refl
of_kind_4 true false false false isX isZ a b = refl

-- of another kind
of_another : (l f : Bool) (m : Bool) → (((l && not f) && false) || ((l && f) && (false || (false && m)))) ≡ (l && false)
of_another true true m = refl
of_another true false m = refl
of_another false f m = refl

module _ (n x z p u : ℕ) (hn : n ≤ 64) (hx : x < 64) (hz : z < 64) (e : u ≡ bit_xor p 1073741824) where
  in_parts : u ≡ bit_xor (p / 2 ^ 7) 8388608 * 2 ^ 7 + p % 2 ^ 7
  in_parts =
      e ∙ ap (λ (v : ℕ). bit_xor v 1073741824) (sym (div-add-mod' p (2 ^ 7))) ∙ xor_block 7 (p / 2 ^ 7) 8388608 (p % 2 ^ 7) 0 (mod-lt p (lit< tt)) (lit< tt)
      ∙ ap (λ (v : ℕ). bit_xor (p / 2 ^ 7) 8388608 * 2 ^ 7 + v) (xor_zero_r (p % 2 ^ 7))

  both : (l f : Bool) → tests n x z p u (l && not f) (l && f) ≡ (l && every (spares n x z f (p / 2 ^ 7) (p % 2 ^ 7)))
  both l f =
      elim (ℕ_discrete (p / 2 ^ 7) 8388608) [
        | yes k ↦
            let r : u ≡ p % 2 ^ 7 =
            in_parts
            ∙ ap (λ (v : ℕ). v * 2 ^ 7 + p % 2 ^ 7) (ap (λ (v : ℕ). bit_xor v 8388608) k ∙ xor_self 8388608)
            ∙ zero-add (p % 2 ^ 7)
            in
            let o : eqb p 1073741888 ≡ eqb (p % 2 ^ 7) 64 = same_test (eqb p 1073741888) (eqb (p % 2 ^ 7) 64)
            (λ t. eq-eqb (p % 2 ^ 7) 64 (omega (arith, eqb-true p 1073741888 t)))
            (λ t. eq-eqb p 1073741888 (omega (arith, eqb-true (p % 2 ^ 7) 64 t, k)))
            in
            rw (r, o, eq-eqb (p / 2 ^ 7) 8388608 k)
            (of_kind_4 l f (eqb (p % 2 ^ 7) 64) (ltb (p % 2 ^ 7) n) (eqb (p % 2 ^ 7) x) (eqb (p % 2 ^ 7) z)
            (λ t. ne_eqb (p % 2 ^ 7) x (λ i. omega (arith, eqb-true (p % 2 ^ 7) 64 t)))
            (λ t. ne_eqb (p % 2 ^ 7) z (λ i. omega (arith, eqb-true (p % 2 ^ 7) 64 t))))
        | no d ↦
            let h : 1 ≤ bit_xor (p / 2 ^ 7) 8388608 =
            ne_zero (λ i. d (eqb-true (p / 2 ^ 7) 8388608
            (sym (xor_test (p / 2 ^ 7) 8388608) ∙ eq-eqb (bit_xor (p / 2 ^ 7) 8388608) 0 i)))
            in
            rw (ne_eqb p 1073741888 (λ i. d (omega arith)), le-ltb u n (omega (arith, in_parts)), ne_eqb (p / 2 ^ 7) 8388608 d)
            (of_another l f (not (eqb u x) && not (eqb u z)))
      ]
    where
      ne_zero : {v : ℕ} → (v ≡ 0 → ⊥) → 1 ≤ v
      ne_zero g = omega arith

pub pair_test : (clock n x z w p v u : ℕ) → clock < 2 ^ 24 → n ≤ 64 → x < 64 → z < 64 → w < 2 ^ 32
    → v ≡ bit_and w 4261412863 → u ≡ bit_xor p 1073741824
    → tests n x z p u (eqb v 805306368) (ltb (wrapped v 822083585) clock) ≡ (link_reads clock w && spare_reads n x z w p)
pair_test clock n x z w p v u hc hn hx hz hw e i =
    let parts : v ≡ w / 2 ^ 26 * 2 ^ 26 + (w / 2 ^ 24 % 2 * 2 ^ 24 + w % 2 ^ 24) =
    e
    ∙ without_candidate w hw
    ∙ ap (λ (r : ℕ). w / 2 ^ 26 * 2 ^ 26 + r) (mod-mul w {m = 2} {c = 2 ^ 24} (lit< tt) (lit< tt))
    in
    let f< : w / 2 ^ 24 % 2 < 2 = mod-lt (w / 2 ^ 24) (lit< tt) in
    let s< : w % 2 ^ 24 < 2 ^ 24 = mod-lt w (lit< tt) in
    let d< : wrapped v 822083585 < 2 ^ 32 = mod-lt (v + (2 ^ 32 - 822083585)) (lit< tt) in
    let v< : v < 2 ^ 32 = omega arith in
    rw (
      idle clock (w / 2 ^ 26) (w / 2 ^ 24 % 2) (w % 2 ^ 24) v f< s< parts,
      held clock (w / 2 ^ 26) (w / 2 ^ 24 % 2) (w % 2 ^ 24) v (wrapped v 822083585) f< s< parts hc d< (wrapped_back v 822083585 v< (lit< tt)),
      link_parts clock w,
      spare_parts n x z w p,
    )
    (both n x z p u hn hx hz i (every (links clock (w / 2 ^ 26) (w / 2 ^ 24 % 2) (w % 2 ^ 24))) (eqb (w / 2 ^ 24 % 2) 1))

-- ---- a row, by the count of pairs that fit

full : (n : ℕ) (S : Set) → eqb (count n S) n ≡ all n S
full n S =
    same_test (eqb (count n S) n) (all n S)
    (λ e. all_in n S (λ z h. decide (S z) (λ t. t) (λ f.
    absurd (omega (
      arith,
      eqb-true (count n S) n e,
      count_more S (λ i. true) n (λ i l t. refl) z h f refl,
      count_le n (λ i. true),
    )))))
    (λ e. eq-eqb (count n S) n (count_all n S (all_out n S e)))

-- one more is counted
pub count_next : (S : Set) (z fit r : ℕ) → fit ≡ count z S → r ≡ (if S z then 1 else 0) → fit + r ≡ count (z + 1) S
unfolding count
count_next S z fit r e f = rw (add-one, e, f) refl

-- what is counted from 0 on
pub count_whole : (S : Set) (z fit : ℕ) → count 0 S + fit ≡ count z S → fit ≡ count z S
unfolding count
count_whole S z fit e = sym (zero-add fit) ∙ e

-- all but x, which is none
pub others_full : (n x : ℕ) (S : Set) → x < n → S x ≡ false → eqb (count n S + 1) n ≡ all n (λ z. eqb z x || S z)
others_full n x S h e =
    ap (λ (k : ℕ). eqb k n)
    (ap (λ (k : ℕ). k + 1) (count_cong n S (without (λ z. eqb z x || S z) x) same)
    ∙ count_without n (λ z. eqb z x || S z) x h (rw (eq-eqb x x refl) refl))
    ∙ full n (λ z. eqb z x || S z)
  where
    same : (z : ℕ) → z < n → S z ≡ without (λ z. eqb z x || S z) x z
    same z l = elim (ℕ_discrete z x) [
      | yes i ↦ rw (i, eq-eqb x x refl) e
      | no d ↦ rw (ne_eqb z x d) (sym (and-true (S z)))
    ]

pub no_link_lem : (clock : ℕ) (b : Bool) → (link_reads clock 0 && b) ≡ false
unfolding link_reads pair_word
no_link_lem clock b = refl
