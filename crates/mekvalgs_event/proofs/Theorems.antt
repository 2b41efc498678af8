-- The theorems about events as three numbers, by name.
use mathlib.Core.Path.{◌≡◌, refl, sym, ap, ◌∙◌}
use mathlib.Core.Bool.{true, false}
use Prim.Native.Nat.{ℕ, ◌≤◌}
use native.Mathlib.Omega.{arith}
use native.Mathlib.Decide.{dec_lt, ℕ_discrete}
use lib.Dec.{ltb, leb, eqb}
use borrow.Author.Tests.{eqb-true, leb-true, ne_eqb}
use Rattle.model.specs.Fields.{bit}
use Rattle.model.specs.WellFormed.{nil, cons}
use Rattle.model.specs.Answers.{first_of}
use Rattle.model.specs.Events.{word_of, event_of, parts_fit, word_answer, read_event, reading_of}
use Rattle.model.specs.declared.event.Event.{Event}
use Rattle.model.specs.declared.event.Event.TheVariants.{On, Off, Notice, Contact, Timer, Deliver, Lose}
use Rattle.std.specs.Prelude.{Ok}
use Rattle.model.proofs.Laws.{and_left, not_out_false}
use Rattle.model.proofs.Lists.{first}
use Rattle.model.proofs.Answers.{LowestOf, lowest_given, none_applies}
use Rattle.model.proofs.Events.{Writable, EventWord, reads_as}
use Rattle.model.proofs.Theorems.{written_reads}
use Rattle.mekvalgs_event.specs.Parts.{numbers, parts_of, read_parts, event_of_parts, parts_are, parts_refusals, parts_answer, write_parts}
use Rattle.mekvalgs_event.specs.declared.Parts.{Parts}
use Rattle.mekvalgs_event.proofs.Numbers.{either, of_on, of_off, of_deliver, of_lose, kind_low, kind_high, write_given, read_given}

-- "The lowest number that applies is given, and none otherwise"
pub lowest_at_parts : (p : Parts) → LowestOf (parts_refusals p) (parts_answer p)
unfolding parts_answer
lowest_at_parts p = lowest_given 0 (parts_refusals p) refl

-- ---- numbers that are an event's are the numbers of that event

-- 1 or 0 as a mark, and back
mark_back : (v : ℕ) → v ≤ 1 → bit (eqb v 1) ≡ v
mark_back v h = elim (ℕ_discrete v 1) [ yes e ↦ rw e | no d ↦ rw (ne_eqb v 1 d) (omega arith) ]

module _ (k first second : ℕ) (t : parts_are (numbers k first second) ≡ true) where
  abbrev Same : ℕ → Type 0
  Same j = parts_of (event_of_parts (numbers j first second)) ≡ numbers j first second

  of_their_event : Same k
  unfolding event_of_parts
  of_their_event =
      elim (dec_lt k 11) [
        | yes l ↦
            elim (ℕ_discrete k 9) [
              | yes e ↦
                  let z : second ≡ 0 = eqb-true second 0 (and_left (eqb second 0) (ltb first 64) (sym (of_on k first second e) ∙ t)) in
                  rw (e, z)
              | no d ↦
                  let e : k ≡ 10 = omega (arith, kind_low k first second t) in
                  let h : second ≤ 1 = leb-true second 1 (and_left (leb second 1) (ltb first 64) (sym (of_off k first second e) ∙ t)) in
                  rw (e, mark_back second h)
            ]
        | no l ↦ elim (dec_lt k 13) [
          | yes m ↦ either Same 11 k (omega arith) (omega arith) refl refl
          | no m ↦ elim (dec_lt k 14) [
            | yes o ↦ let e : k ≡ 13 = omega arith in rw e
            | no o ↦ elim (ℕ_discrete k 14) [
              | yes e ↦
                  let h : second ≤ 1 = leb-true second 1 (and_left (leb second 1) (ltb first 1024) (sym (of_deliver k first second e) ∙ t)) in
                  rw (e, mark_back second h)
              | no d ↦
                  let e : k ≡ 15 = omega (arith, kind_high k first second t) in
                  let z : second ≡ 0 = eqb-true second 0 (and_left (eqb second 0) (ltb first 1024) (sym (of_lose k first second e) ∙ t)) in
                  rw (e, z)
            ]
          ]
        ]
      ]

-- ---- an event is that of its numbers

event_of_lem : (e : Event) → event_of_parts (parts_of e) ≡ e
unfolding event_of_parts
event_of_lem (On x) = refl
event_of_lem (Off x true) = refl
event_of_lem (Off x false) = refl
event_of_lem (Notice x z) = refl
event_of_lem (Contact x y) = refl
event_of_lem (Timer x k) = refl
event_of_lem (Deliver i true) = refl
event_of_lem (Deliver i false) = refl
event_of_lem (Lose i) = refl

numbers_are : (e : Event) → parts_are (parts_of e) ≡ parts_fit e
unfolding parts_are event_of_parts
numbers_are (On x) = refl
numbers_are (Off x true) = refl
numbers_are (Off x false) = refl
numbers_are (Notice x z) = refl
numbers_are (Contact x y) = refl
numbers_are (Timer x k) = refl
numbers_are (Deliver i true) = refl
numbers_are (Deliver i false) = refl
numbers_are (Lose i) = refl

-- ---- both ways

accepted_are : (p : Parts) → parts_answer p ≡ 0 → parts_are p ≡ true
unfolding parts_answer
accepted_are p a = not_out_false (parts_are p) (first (none_applies (parts_refusals p) (cons refl (cons refl nil)) a))

written_numbers : (e : Event) → Writable e → (parts_answer (parts_of e) ≡ 0) × (write_parts (parts_of e) ≡ word_of e)
unfolding parts_answer write_parts first_of
written_numbers e g = (rw (numbers_are e, g.parts_fit_lem, event_of_lem e, g.differ), rw (numbers_are e, g.parts_fit_lem, event_of_lem e, g.differ))

-- three numbers that are accepted give a word, which reads back as these three
pub parts_read_back : (p : Parts) → parts_answer p ≡ 0 → (word_answer (write_parts p) ≡ 0) × (read_parts (write_parts p) ≡ p)
parts_read_back p a =
    let e : Event = event_of_parts p in
    let t : parts_are p ≡ true = accepted_are p a in
    let g = write_given p.kind p.first p.second t in
    let q = read_given (write_parts p) e (sym (ap read_event (sym g.1) ∙ written_reads e (g.0 ∙ a))) in
    (sym q.0, sym q.1 ∙ of_their_event p.kind p.first p.second t)

-- a word that reads as an event gives three numbers, which are accepted and write that word
pub word_writes_back : (w : ℕ) → word_answer w ≡ 0 → (parts_answer (read_parts w) ≡ 0) × (write_parts (read_parts w) ≡ w)
unfolding read_event
word_writes_back w a =
    let e : Event = event_of w in
    let h : read_event w ≡ reading_of (Ok e) = rw a in
    let g : EventWord w e = reads_as w e h in
    let n : read_parts w ≡ parts_of e = sym (read_given w e (sym h)).1 in
    let q = written_numbers e g.well in
    (ap parts_answer n ∙ q.0, ap write_parts n ∙ q.1 ∙ sym g.word)

-- and two times three numbers that are accepted and write one word are the same three
pub one_triple : (p q : Parts) → parts_answer p ≡ 0 → parts_answer q ≡ 0 → write_parts p ≡ write_parts q → p ≡ q
one_triple p q a b e = sym (parts_read_back p a).1 ∙ ap read_parts e ∙ (parts_read_back q b).1
