-- The turns of a loop `for y in sets::members(set)`. Its invariant speaks of the set of the members that are still to
-- come, `l.y-iterator.rest`, as in `Rising n l.y-iterator.rest`. In a turn
--     let t = turn c.loop-y.y-iterator c.next.new.self c.in-Some.ensures.steps in
-- says that y is the lowest of them, and what is to come after it; the lemmas below, and those of `Collect.antt`, go on from t.
-- At the start `begins c.members-y-items.ensures.all c.into_iter-y-iterator.ensures.into_iter_gives`
-- says that the whole set is to come, and at the end `no_more c.loop-y.y-iterator c.in-None.ensures.steps` that nobody is.
use mathlib.Core.Path.{◌≡◌, refl, sym, ap, ap₂, ◌∙◌, subst}
use mathlib.Core.Bool.{Bool, true, false}
use mathlib.Core.List.{List, [], ◌∷◌, ◌++◌}
use Prim.Native.Nat.{ℕ, zero, suc, ◌+◌, ◌-◌, ◌^◌, ◌<◌}
use Rattle.std.specs.Prelude.{if◌then◌else◌}
use native.Mathlib.Omega.{arith}
use native.Mathlib.Decide.{ℕ_discrete}
use lib.ListN.{length, get_or, drop}
use lib.Bits.{bit_and, and_le_l}
use Rattle.model.specs.Sets.{Set, without, members, lowest, none_node, of_bits, to_bits}
use Rattle.sets.specs.Rest.{IsRest}
use Rattle.sets.specs.declared.iter.Iter.{Iter}
use Rattle.sets.proofs.Ascending.{First}
use Rattle.sets.proofs.Bits.{Rising, rising_first, rising_below, rising_rest, rising_set, members_end, and_rest, to_bits_of_bits}

-- ---- a number is given by the members of its set

add_bits : List ℕ → ℕ
add_bits [] = 0
add_bits (y ∷ l) = 2 ^ y + add_bits l

add_bits_append : (k l : List ℕ) → add_bits (k ++ l) ≡ add_bits k + add_bits l
unfolding add_bits
add_bits_append [] l = omega arith
add_bits_append (y ∷ k) l = omega (arith, add_bits_append k l)

to_bits_members : (k : ℕ) (S : Set) → to_bits k S ≡ add_bits (members k S)
unfolding to_bits members add_bits
to_bits_members zero S = refl
to_bits_members (suc k) S = ap₂ (λ (a b : ℕ). a + b) (to_bits_members k S) (last (S k)) ∙ sym (add_bits_append (members k S) (if S k then k ∷ [] else []))
  where
    last : (b : Bool) → (if b then 2 ^ k else 0) ≡ add_bits (if b then k ∷ [] else [])
    last true = omega arith
    last false = refl

same_members : (a b : ℕ) → a < 2 ^ 64 → b < 2 ^ 64 → members 64 (of_bits a) ≡ members 64 (of_bits b) → a ≡ b
same_members a b h k e =
    sym (to_bits_of_bits 64 a h) ∙ to_bits_members 64 (of_bits a) ∙ ap add_bits e ∙ sym (to_bits_members 64 (of_bits b)) ∙ to_bits_of_bits 64 b k

-- ---- turns

-- y is the lowest of a, and r is what is left of a
pub record Turn (a y r : ℕ) : Type 0 where
  pub some : a ≡ 0 → ⊥
  pub is : y ≡ lowest 64 (of_bits a)
  pub rest : IsRest a r

pub begins : {start made : Iter} {set : ℕ} → made.rest ≡ set → start ≡ made → start.rest ≡ set
begins e f = ap (λ (s : Iter). s.rest) f ∙ e

pub turn : (s t : Iter) {y : ℕ} → members 64 (of_bits s.rest) ≡ y ∷ members 64 (of_bits t.rest) → Turn s.rest y t.rest
turn s t {y} e =
    let some : (s.rest ≡ 0 → ⊥) = λ z. absurd (omega (arith, ap length (sym e ∙ members_end z))) in
    let q = and_rest s.rest s.word (omega arith) in
    let same : bit_and s.rest (s.rest - 1) ≡ t.rest =
    same_members _ _ (omega (arith, and_le_l s.rest (s.rest - 1), s.word)) t.word (tails (sym q.next ∙ e)) in
    record { some = some; is = sym (ap (λ (l : List ℕ). get_or l 0 none_node) e); rest = subst (IsRest s.rest) same q }
  where
    tails : {x z : ℕ} {k l : List ℕ} → x ∷ k ≡ z ∷ l → k ≡ l
    tails f = ap (drop 1) f

pub no_more : (s : Iter) {T : Type 0} → (members 64 (of_bits s.rest) ≡ []) × T → s.rest ≡ 0
no_more s h =
    elim (ℕ_discrete s.rest 0) [
      | yes z ↦ z
      | no d ↦ absurd (omega (arith, ap length (sym h.0 ∙ (and_rest s.rest s.word (omega arith)).next)))
    ]

module _ {n a y r : ℕ} (i : Rising n a) (t : Turn a y r) where
  pub turn_first : First 64 (of_bits a) y
  turn_first = rising_first i t.some y t.is

  pub turn_below : y < n
  turn_below = rising_below i t.some y t.is

  pub turn_rising : Rising n r
  turn_rising = rising_rest i t.rest

  pub turn_set : of_bits r ≡ without (of_bits a) y
  turn_set = rising_set i t.rest y t.is
