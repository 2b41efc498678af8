-- Laws of the answers, and of the first refusal that applies.
use mathlib.Core.Path.{◌≡◌, refl, sym, ap, ◌∙◌}
use Prim.Native.Nat.{ℕ, ◌≤◌}
use native.Mathlib.Nat.{le_refl, le_trans}
use mathlib.Core.Bool.{Bool, true, false, ◌&&◌}
use mathlib.Core.List.{List, [], ◌∷◌, ◌++◌, Memᴰ}
use lib.Dec.{leb}
use borrow.Author.Tests.{leb-true, eqb-true}
use Rattle.std.specs.Prelude.{if◌then◌else◌}
use Rattle.model.specs.WellFormed.{Each, nil, cons}
use Rattle.model.specs.Answers.{Refusal, first_of, is_accepted}
use Rattle.model.proofs.Laws.{clash, and_left, and_right, if_law}
use Rattle.model.proofs.Lists.{each_imp}

-- the answer that counts as accepted is 0
pub accepted_is : (a : ℕ) → is_accepted a ≡ true → a ≡ 0
accepted_is a t = eqb-true a 0 t

-- the first refusal, and the next one
pub here : (q : Refusal) (qs : List Refusal) → q.applies ≡ true → first_of (q ∷ qs) ≡ q.number
unfolding first_of
here q qs e = rw e

pub next : (q : Refusal) (qs : List Refusal) → q.applies ≡ false → first_of (q ∷ qs) ≡ first_of qs
unfolding first_of
next q qs e = rw e

pub no_more : first_of [] ≡ 0
unfolding first_of
no_more = refl

-- where the first of the refusals that apply is none, none applies
module _ (q : Refusal) (qs : List Refusal) (n : is_accepted q.number ≡ false) (a : first_of (q ∷ qs) ≡ 0) where
  pub passed : q.applies ≡ false
  unfolding first_of
  passed = by_test q.applies a
    where
      by_test : (b : Bool) → (if b then q.number else first_of qs) ≡ 0 → b ≡ false
      by_test true i = clash (ap is_accepted i) n
      by_test false i = refl

  pub rest_passed : first_of qs ≡ 0
  rest_passed = sym (next q qs passed) ∙ a

pub none_applies : (qs : List Refusal) → Each (λ q. is_accepted q.number ≡ false) qs → first_of qs ≡ 0 → Each (λ q. q.applies ≡ false) qs
none_applies [] e a = nil
none_applies (q ∷ qs) (cons p e) a = cons (passed q qs p a) (none_applies qs e (rest_passed q qs p a))

-- refusals alike after a place, and one named twice
pub later : (q : Refusal) (qs rs : List Refusal) → first_of qs ≡ first_of rs → first_of (q ∷ qs) ≡ first_of (q ∷ rs)
unfolding first_of
later q qs rs e = rw e

pub again : (q : Refusal) (qs rs : List Refusal) → first_of qs ≡ first_of rs → first_of (q ∷ q ∷ qs) ≡ first_of (q ∷ rs)
unfolding first_of
again q qs rs e = go q.applies
  where
    go : (b : Bool) → (if b then q.number else (if b then q.number else first_of qs)) ≡ (if b then q.number else first_of rs)
    go true = refl
    go false = e

-- refusals before others: where one of them applies, and where none does
pub stays : (qs after : List Refusal) → is_accepted (first_of qs) ≡ false → first_of (qs ++ after) ≡ first_of qs
unfolding first_of
stays [] after r = clash refl r
stays (q ∷ qs) after r = go q.applies r (stays qs after)
  where
    go : (b : Bool) → is_accepted (if b then q.number else first_of qs) ≡ false
        → (is_accepted (first_of qs) ≡ false → first_of (qs ++ after) ≡ first_of qs)
        → (if b then q.number else first_of (qs ++ after)) ≡ (if b then q.number else first_of qs)
    go true i later = refl
    go false i later = later i

pub passes : (qs after : List Refusal) → Each (λ q. q.applies ≡ false) qs → first_of (qs ++ after) ≡ first_of after
unfolding first_of
passes [] after nil = refl
passes (q ∷ qs) after (cons e es) = rw e (passes qs after es)

-- ---- "The lowest number that applies is given, and none otherwise"

-- the refusals' numbers rise, from k on
abbrev pub rising_from : ℕ → List Refusal → Bool
rising_from k [] = true
rising_from k (q ∷ qs) = leb k q.number && rising_from q.number qs

pub data LowestOf (qs : List Refusal) : ℕ → Type 0 where
  none_applies_at_all : Each (λ q. q.applies ≡ false) qs → LowestOf qs 0
  lowest_that_applies :
      (q : Refusal) → Memᴰ q qs → q.applies ≡ true
      → Each (λ p. p.applies ≡ true → q.number ≤ p.number) qs
      → LowestOf qs q.number

above : (k : ℕ) (qs : List Refusal) → rising_from k qs ≡ true → Each (λ p. p.applies ≡ true → k ≤ p.number) qs
above k [] e = nil
above k (q ∷ qs) e =
    let low : k ≤ q.number = leb-true k q.number (and_left (leb k q.number) _ e) in
    cons (λ a. low) (each_imp (λ p h a. le_trans low (h a)) (above q.number qs (and_right (leb k q.number) _ e)))

one_more_lem : (q : Refusal) (qs : List Refusal) {a : ℕ} → q.applies ≡ false → LowestOf qs a → LowestOf (q ∷ qs) a
one_more_lem q qs e (none_applies_at_all h) = none_applies_at_all (cons e h)
one_more_lem q qs e (lowest_that_applies p m t h) = lowest_that_applies p (Memᴰ.tail m) t (cons (λ a. clash a e) h)

pub lowest_given : (k : ℕ) (qs : List Refusal) → rising_from k qs ≡ true → LowestOf qs (first_of qs)
unfolding first_of
lowest_given k [] e = none_applies_at_all nil
lowest_given k (q ∷ qs) e =
    let rise : rising_from q.number qs ≡ true = and_right (leb k q.number) _ e in
    if_law (LowestOf (q ∷ qs)) q.applies q.number (first_of qs)
    (λ t. lowest_that_applies q (Memᴰ.head refl) t (cons (λ a. le_refl q.number) (above q.number qs rise)))
    (λ f. one_more_lem q qs f (lowest_given q.number qs rise))
