-- How long a number is, and the texts of words as they are put.
use mathlib.Core.Path.{◌≡◌, refl, sym, ap, ◌∙◌}
use mathlib.Core.Bool.{Bool, true, false, not, cond}
use mathlib.Core.List.{List, [], ◌∷◌, ◌++◌, append-nil}
use Prim.Native.Nat.{ℕ, zero, suc, ◌+◌, ◌-◌, ◌*◌, ◌/◌, ◌^◌, ◌≤◌, ◌<◌}
use native.Mathlib.Nat.{pow-suc, pow-le-pow_right}
use native.Mathlib.Decide.{ℕ_discrete}
use native.Mathlib.Omega.{arith}
use lib.Dec.{ltb, eqb}
use lib.ListN.{length, length-append}
use borrow.Author.Tests.{ltb-false}
use Rattle.io.specs.Digits.{last_digits, IsDigitCount}
use Rattle.bench_lines.specs.Decimal.{decimal_in, decimal, spaced, space}
use Rattle.bench_lines.proofs.Decimals.{spaced_append}
use denote.Enum.Bare.{sameb}
use Rattle.model.specs.contracts.refusal.Refusal.{the_type}
use Rattle.model.specs.Answers.{first_of, number_of}
use Rattle.model.specs.declared.refusal.Refusal.{Refusal}
use Rattle.model.specs.declared.refusal.Refusal.TheVariants.{WrongLength, OpeningOutOfRange, BadKey, NotAnEvent, SameNode, NotARing, OutOfTable}
use Rattle.model.specs.declared.refusal.Refusal.TheVariants.{NodeOff, AlreadyRunning, ClockSpent, PoolFull, KeyOutOfRange, ListTooShort, SidesDiffer}
use Rattle.model.specs.declared.refusal.Refusal.TheVariants.{TablesClash, TooManyMessages, SenderFull, NotWatched, NotShort, PlaceTooSmall}
use Rattle.model.specs.Events.{word_answer, is_event_word, event_of, same_node}
use Rattle.model.specs.declared.event.Event.{Event}
use Rattle.text_form.specs.Names.{word_name}
use Rattle.text_form.specs.Describe.{event_text, raw_text, word_text}

-- ---- how long

cond_short : (q : Bool) (a b : List ℕ) (m : ℕ) → length a ≤ m → (q ≡ false → length b ≤ m) → length (cond q a b) ≤ m
cond_short true a b m h g = h
cond_short false a b m h g = g refl

short_in : (j k n : ℕ) → n < 10 ^ suc k → length (decimal_in j n) ≤ suc k
unfolding decimal_in
short_in zero k n h = omega arith
short_in (suc j) zero n h = cond_short (ltb n 10) _ _ 1 (omega arith) (λ e. absurd (omega (arith, ltb-false n 10 e)))
short_in (suc j) (suc k) n h =
    let below : n < 10 ^ suc k * 10 = rw (pow-suc 10 (suc k)) at h in
    let rest : length (decimal_in j (n / 10)) ≤ suc k = short_in j k (n / 10) (omega arith) in
    cond_short (ltb n 10) _ _ (suc (suc k)) (omega arith) (λ e. simp length-append (omega arith))

-- a number below 10 ^ k has at most k digits, and a space before them
pub spaced_short : (k n : ℕ) → n < 10 ^ suc k → length (spaced (n ∷ [])) ≤ k + 2
unfolding spaced decimal
spaced_short k n h = rw (append-nil (decimal_in (suc n) n)) (omega (arith, short_in (suc n) k n h))

-- a number that has room in so many hexadecimal digits has just as many
pub so_many_digits : (least n k : ℕ) → n < 16 ^ least → IsDigitCount 16 least n k → k ≡ least
so_many_digits least n k h f =
    elim (ℕ_discrete k least) [
      | yes e ↦ e
      | no d ↦ absurd (omega (arith, pow-le-pow_right {n = 16} (omega arith) {i = least} {j = k - 1} (omega arith), f.2 (omega arith)))
    ]

-- ---- texts

pub word_digits : (w k : ℕ) (text : List ℕ) → k ≡ 8 → text ≡ last_digits 16 k w → word_name ++ space ∷ text ≡ raw_text w
unfolding raw_text
word_digits w k text e h = ap (λ (l : List ℕ). word_name ++ space ∷ l) (h ∙ ap (λ (k : ℕ). last_digits 16 k w) e)

pub spaced_two : (x y : ℕ) → spaced (x ∷ []) ++ spaced (y ∷ []) ≡ spaced (x ∷ y ∷ [])
spaced_two x y = sym (spaced_append (x ∷ []) (y ∷ []))

-- a word is an event's, unless reading it is refused with 4
not_four : (fits same : Bool) → not (eqb (first_of (record { number = 4; applies = not fits } ∷ record { number = 5; applies = same } ∷ [])) 4) ≡ fits
unfolding first_of
not_four true true = refl
not_four true false = refl
not_four false same = refl

pub read_as_event : (w answer : ℕ) → answer ≡ word_answer w → not (eqb answer 4) ≡ is_event_word w
unfolding word_answer
read_as_event w answer e = rw e (not_four (is_event_word w) (same_node (event_of w)))

pub not_an_event : (e : Refusal) → not (sameb the_type e NotAnEvent) ≡ not (eqb (number_of e) 4)
not_an_event WrongLength = refl
not_an_event OpeningOutOfRange = refl
not_an_event BadKey = refl
not_an_event NotAnEvent = refl
not_an_event SameNode = refl
not_an_event NotARing = refl
not_an_event OutOfTable = refl
not_an_event NodeOff = refl
not_an_event AlreadyRunning = refl
not_an_event ClockSpent = refl
not_an_event PoolFull = refl
not_an_event KeyOutOfRange = refl
not_an_event ListTooShort = refl
not_an_event SidesDiffer = refl
not_an_event TablesClash = refl
not_an_event TooManyMessages = refl
not_an_event SenderFull = refl
not_an_event NotWatched = refl
not_an_event NotShort = refl
not_an_event PlaceTooSmall = refl

pub as_event : (w : ℕ) (e : Event) → is_event_word w ≡ true → e ≡ event_of w → event_text e ≡ word_text w
unfolding word_text
as_event w e h q = rw (h, q)

pub as_digits : (w : ℕ) → is_event_word w ≡ false → raw_text w ≡ word_text w
unfolding word_text
as_digits w h = rw h
