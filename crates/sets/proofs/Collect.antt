-- A pass over the members of a set that keeps those that pass a test.
use mathlib.Core.Path.{◌≡◌, refl, sym, ap, ◌∙◌, subst, subst₂}
use mathlib.Core.Bool.{Bool, true, false, ◌&&◌, ◌||◌, or-false}
use Prim.Native.Nat.{ℕ, ◌^◌, ◌<◌}
use native.Mathlib.Decide.{ℕ_discrete}
use borrow.Author.Tests.{eq-eqb, ne_eqb}
use Rattle.model.specs.Sets.{Set, with, without, of_bits}
use Rattle.sets.specs.Within.{Within}
use Rattle.sets.proofs.Bits.{Rising, of_none, none_left}
use Rattle.sets.proofs.Turns.{Turn, turn_first, turn_rising, turn_set}

-- what is kept, with what is yet to be kept of the rest, is what is to be kept of S
pub record Collected (S p out rest : Set) : Type 0 where
  pub all : (y : ℕ) → (out y || (rest y && p y)) ≡ (S y && p y)

pub collected_none : (S p : Set) {out : Set} → ((y : ℕ) → out y ≡ false) → Collected S p out S
collected_none S p f = record { all = λ y. rw (f y) }

module _ {S p out rest : Set} (i : Collected S p out rest) where
  pub collected_end : ((y : ℕ) → rest y ≡ false) → (y : ℕ) → out y ≡ (S y && p y)
  collected_end f y = sym (or-false (out y)) ∙ (rw (f y) at (i.all y))

  -- the next member passes, or does not
  module _ (s : ℕ) where
    pub collected_kept : rest s ≡ true → p s ≡ true → Collected S p (with out s) (without rest s)
    collected_kept r t = record { all = at }
      where
        here : (a b c : Bool) → b ≡ true → c ≡ true → ((a || true) || ((b && false) && c)) ≡ (a || (b && c))
        here true b c f g = refl
        here false b c f g = rw (f, g)

        there : (a b c : Bool) → ((a || false) || ((b && true) && c)) ≡ (a || (b && c))
        there true b c = refl
        there false true c = refl
        there false false c = refl

        at : (y : ℕ) → (with out s y || (without rest s y && p y)) ≡ (S y && p y)
        at y =
            elim (ℕ_discrete y s) [
              | yes e ↦ rw (e, eq-eqb s s refl) (here (out s) (rest s) (p s) r t ∙ i.all s)
              | no d ↦ rw (ne_eqb y s d) (there (out y) (rest y) (p y) ∙ i.all y)
            ]

    pub collected_passed : p s ≡ false → Collected S p out (without rest s)
    collected_passed t = record { all = at }
      where
        here : (a b c : Bool) → c ≡ false → (a || ((b && false) && c)) ≡ (a || (b && c))
        here true b c f = refl
        here false true c f = sym f
        here false false c f = refl

        there : (a b c : Bool) → (a || ((b && true) && c)) ≡ (a || (b && c))
        there true b c = refl
        there false true c = refl
        there false false c = refl

        at : (y : ℕ) → (out y || (without rest s y && p y)) ≡ (S y && p y)
        at y =
            elim (ℕ_discrete y s) [
              | yes e ↦ rw (e, eq-eqb s s refl) (here (out s) (rest s) (p s) t ∙ i.all s)
              | no d ↦ rw (ne_eqb y s d) (there (out y) (rest y) (p y) ∙ i.all y)
            ]

-- ---- the same, in a loop `for y in sets::members(set) { if .. { out = with(out, y); } }`

pub record Collecting (n set : ℕ) (p : Set) (out rest : ℕ) : Type 0 where
  pub rising : Rising n rest
  pub collected : Collected (of_bits set) p (of_bits out) (of_bits rest)

pub collect_begins : {n set rest : ℕ} {p : Set} → rest ≡ set → set < 2 ^ 64 → Within n set → Collecting n set p 0 rest
collect_begins {n} {set} {p = p} e h w =
    subst (Collecting n set p 0) (sym e)
    (record { rising = record { fits = h; low = w }; collected = collected_none (of_bits set) p of_none })

module _ {n set : ℕ} {p : Set} {out rest : ℕ} (i : Collecting n set p out rest) where
  pub collect_end : rest ≡ 0 → (y : ℕ) → of_bits out y ≡ (of_bits set y && p y)
  collect_end e = collected_end i.collected (none_left e)

  -- the next member passes, or does not; `out'` is what the code then has
  module _ {y r : ℕ} (t : Turn rest y r) {out' : ℕ} where
    follows : {O : Set} → of_bits out' ≡ O → Collected (of_bits set) p O (without (of_bits rest) y) → Collecting n set p out' r
    follows e c = record { rising = turn_rising i.rising t; collected = subst₂ (Collected (of_bits set) p) (sym e) (sym (turn_set i.rising t)) c }

    pub turn_kept : of_bits out' ≡ with (of_bits out) y → p y ≡ true → Collecting n set p out' r
    turn_kept e f = follows e (collected_kept i.collected y (turn_first i.rising t).member f)

    pub turn_passed : out' ≡ out → p y ≡ false → Collecting n set p out' r
    turn_passed e f = follows (ap of_bits e) (collected_passed i.collected y f)
