-- A test of many words at once: what is or-ed is 0 exactly where each part is.
use mathlib.Core.Path.{◌≡◌, refl, sym, ap, ◌∙◌}
use Prim.Native.Nat.{ℕ, ◌+◌, ◌-◌, ◌/◌, ◌%◌, ◌^◌, ◌≤◌, ◌<◌}
use native.Mathlib.Numerals.{add-one}
use native.Mathlib.Omega.{arith}
use mathlib.Core.Bool.{Bool, true, false, ◌&&◌, ◌||◌}
use mathlib.Core.List.{List, [], ◌∷◌}
use lib.Bits.{bit_or, or_add_and, and_le_l, and_le_r, or_shr, or_mod}
use lib.Dec.{ltb, eqb}
use lib.ListN.{get_or, take, drop}
use lib.Seq.{get_or-take, get_or-drop}
use borrow.Author.Tests.{eqb-true, eq-eqb, le-ltb, ltb-false}
use Rattle.model.specs.Choice.{every}
use Rattle.model.specs.Sets.{Set, all}
use Rattle.model.proofs.Laws.{clash, decide, and_left, and_right, and_in, or_left, or_right, or_case, same_test, all_in, all_out}
use Rattle.model.specs.Words.{at}
use Rattle.valid_nodes.specs.Nodes.{clear}

or_zero : (a b : ℕ) → bit_or a b ≡ 0 → (a ≡ 0) × (b ≡ 0)
or_zero a b h = (omega (arith, or_add_and a b, and_le_l a b, and_le_r a b), omega (arith, or_add_and a b, and_le_l a b, and_le_r a b))

pub or_test : (a b : ℕ) → eqb (bit_or a b) 0 ≡ (eqb a 0 && eqb b 0)
or_test a b =
    same_test (eqb (bit_or a b) 0) (eqb a 0 && eqb b 0)
    (λ e. let p = or_zero a b (eqb-true (bit_or a b) 0 e) in and_in (eq-eqb a 0 p.0) (eq-eqb b 0 p.1))
    (λ e. rw (eqb-true a 0 (and_left (eqb a 0) (eqb b 0) e), eqb-true b 0 (and_right (eqb a 0) (eqb b 0) e)))

-- one more number is tested
pub all_more : (S : Set) (n : ℕ) (b c : Bool) → b ≡ all n S → c ≡ S n → (b && c) ≡ all (n + 1) S
unfolding all
all_more S n b c e f = rw (add-one, e, f)

pub two : (a b : Bool) → (a && b) ≡ every (a ∷ b ∷ [])
two true true = refl
two true false = refl
two false b = refl

-- each of two tests, one after the other or both at once
pub all_both : (S R : Set) (n : ℕ) → (all n S && all n R) ≡ all n (λ i. S i && R i)
all_both S R n =
    same_test (all n S && all n R) (all n (λ i. S i && R i))
    (λ e. all_in n (λ i. S i && R i) (λ i h. and_in (all_out n S (and_left (all n S) (all n R) e) i h) (all_out n R (and_right (all n S) (all n R) e) i h)))
    (λ e.
    let both = all_out n (λ i. S i && R i) e in
    and_in (all_in n S (λ i h. and_left (S i) (R i) (both i h))) (all_in n R (λ i h. and_right (S i) (R i) (both i h))))

pub all_cong : (S R : Set) (n : ℕ) → ((i : ℕ) → i < n → S i ≡ R i) → all n S ≡ all n R
all_cong S R n f =
    same_test (all n S) (all n R) (λ e. all_in n R (λ i h. sym (f i h) ∙ all_out n S e i h)) (λ e. all_in n S (λ i h. f i h ∙ all_out n R e i h))

-- one more word is or-ed: of each, what f takes out is to be 0
pub or_more : (f : ℕ → ℕ) → ((a b : ℕ) → f (bit_or a b) ≡ bit_or (f a) (f b)) → (S : Set) (n a v : ℕ)
    → eqb (f a) 0 ≡ all n S
    → eqb (f v) 0 ≡ S n
    → eqb (f (bit_or a v)) 0 ≡ all (n + 1) S
or_more f law S n a v e h = ap (λ (w : ℕ). eqb w 0) (law a v) ∙ or_test (f a) (f v) ∙ all_more S n (eqb (f a) 0) (eqb (f v) 0) e h

-- the bits from k on, and bit k
pub above : (k a b : ℕ) → bit_or a b / 2 ^ k ≡ bit_or (a / 2 ^ k) (b / 2 ^ k)
above k a b = or_shr a b k

pub bit_at : (k a b : ℕ) → bit_or a b / 2 ^ k % 2 ≡ bit_or (a / 2 ^ k % 2) (b / 2 ^ k % 2)
bit_at k a b = ap (λ (w : ℕ). w % 2) (or_shr a b k) ∙ or_mod (a / 2 ^ k) (b / 2 ^ k) 1

-- ---- words that are 0

pub clear_in : (ws : List ℕ) (a e : ℕ) → ((i : ℕ) → a ≤ i → i < e → at ws i ≡ 0) → clear ws a e ≡ true
unfolding clear
clear_in ws a e f =
    all_in e (λ i. ltb i a || eqb (at ws i) 0)
    (λ i h. decide (ltb i a) (λ p. or_left (eqb (at ws i) 0) p) (λ p. or_right (ltb i a) (eq-eqb (at ws i) 0 (f i (ltb-false i a p) h))))

pub clear_out : (ws : List ℕ) (a e : ℕ) → clear ws a e ≡ true → (i : ℕ) → a ≤ i → i < e → at ws i ≡ 0
unfolding clear
clear_out ws a e t i h l =
    eqb-true (at ws i) 0 (or_case (ltb i a) (eqb (at ws i) 0) (all_out e (λ j. ltb j a || eqb (at ws j) 0) t i l) (λ p. clash p (le-ltb i a h)) (λ p. p))

pub clear_none : (ws : List ℕ) (a : ℕ) → clear ws a (a + 0) ≡ true
clear_none ws a = clear_in ws a (a + 0) (λ i h l. absurd (omega arith))

-- the words from a up to e as a part, of which i were 0
pub clear_more : (ws : List ℕ) (a e i met : ℕ) → i < e - a → eqb met 0 ≡ clear ws a (a + i)
    → eqb (bit_or met (get_or (take (e - a) (drop a ws)) i 0)) 0 ≡ clear ws a (a + (i + 1))
unfolding clear
clear_more ws a e i met h c =
    let next : a + (i + 1) ≡ a + i + 1 = omega arith in
    let below : ltb (a + i) a ≡ false = le-ltb (a + i) a (omega arith) in
    rw (get_or-take (e - a) (drop a ws) i 0 h, get_or-drop a ws i 0, next)
    (or_more (λ w. w) (λ v w. refl) (λ i. ltb i a || eqb (at ws i) 0) (a + i) met (at ws (a + i)) c (rw below))
