-- In each arm the kind is known, and the named bits are remainders and quotients; a number that is no kind reads as on.
use mathlib.Core.Path.{◌≡◌, sym, ap, ◌∙◌}
use mathlib.Core.List.{[], ◌∷◌}
use Prim.Native.Nat.{ℕ, ◌-◌, ◌/◌, ◌%◌, ◌^◌, ◌<◌}
use native.Mathlib.Nat.{div-one, mod-eq_of_lt}
use native.Mathlib.Omega.{arith}
use lib.Dec.{eqb}
use lib.ListN.{get_or}
use borrow.Author.Rules.{rules}
use Rattle.std.specs.Prelude.{Result, Ok, Err}
use Rattle.std.specs.Result.{result_unwrap_or}
use Rattle.model.specs.Fields.{bits, kind}
use Rattle.model.specs.Events.{event_of}
use Rattle.model.specs.declared.event.Event.TheVariants.{On, Off, Notice, Contact, Timer, Deliver, Lose}
use Rattle.word_event.specs.Kinds.{kind_number, IsKindOf}
use Rattle.word_event.specs.declared.word.EventKind.{EventKind}
use Rattle.word_event.specs.declared.word.EventKind.TheVariants as kinds
use Rattle.word_event.specs.declared.word.NoKind.{NoKind}
use Rattle.word_event.proofs.word.EventWord.event.Goals as goal

-- the lowest part is a remainder
bits-low : (width w : ℕ) → bits 0 width w ≡ w % 2 ^ width
bits-low width w = ap (λ (v : ℕ). v % 2 ^ width) (div-one w)

-- a number that is no kind counts as that of on
kind-of : (w : ℕ) (r : Result EventKind NoKind) → w < 2 ^ 32 → IsKindOf (w / 2 ^ 28) r → kind w - 9 ≡ kind_number (result_unwrap_or r kinds.On) - 9
kind-of w (Ok k) low of =
    let high : w / 2 ^ 28 < 16 = omega arith in
    ap (λ (v : ℕ). v - 9) (mod-eq_of_lt high ∙ sym of)
kind-of w (Err e) low of =
    let high : w / 2 ^ 28 < 16 = omega arith in
    ap (λ (v : ℕ). v - 9) (mod-eq_of_lt high) ∙ grind (arith, of.1)

-- the event of a word, by its kind
event-of-kind : (w : ℕ) (r : Result EventKind NoKind) {k : EventKind} → w < 2 ^ 32 → IsKindOf (w / 2 ^ 28) r → k ≡ result_unwrap_or r kinds.On → event_of w
    ≡ get_or
    (On (record { 0 = w % 64 }) ∷ Off (record { 0 = w % 64 }) (eqb (w / 4096 % 2) 1) ∷ Notice (record { 0 = w % 64 }) (record { 0 = w / 64 % 64 })
    ∷ Contact (record { 0 = w % 64 }) (record { 0 = w / 64 % 64 }) ∷ Timer (record { 0 = w % 64 }) (w / 4096 % 8) ∷ Deliver (w % 1024) (eqb (w / 1024 % 2) 1)
    ∷ [])
    (kind_number k - 9)
    (Lose (w % 1024))
unfolding event_of
event-of-kind w r low of is = rw (kind-of w r low of, sym is, bits-low 6 w, bits-low 10 w)

pub returns-in-On : goal.returns-in-On
returns-in-On c = record { value = sym (event-of-kind c.args.self.0 _ (search rules) c.try_from.ensures c.in-On.ensures) }

pub returns-in-Off : goal.returns-in-Off
returns-in-Off c = record { value = sym (event-of-kind c.args.self.0 _ (search rules) c.try_from.ensures c.in-Off.ensures) }

pub returns-in-Notice : goal.returns-in-Notice
returns-in-Notice c = record { value = sym (event-of-kind c.args.self.0 _ (search rules) c.try_from.ensures c.in-Notice.ensures) }

pub returns-in-Contact : goal.returns-in-Contact
returns-in-Contact c = record { value = sym (event-of-kind c.args.self.0 _ (search rules) c.try_from.ensures c.in-Contact.ensures) }

pub returns-in-Timer : goal.returns-in-Timer
returns-in-Timer c = record { value = sym (event-of-kind c.args.self.0 _ (search rules) c.try_from.ensures c.in-Timer.ensures) }

pub returns-in-Deliver : goal.returns-in-Deliver
returns-in-Deliver c = record { value = sym (event-of-kind c.args.self.0 _ (search rules) c.try_from.ensures c.in-Deliver.ensures) }

pub returns-in-Lose : goal.returns-in-Lose
returns-in-Lose c = record { value = sym (event-of-kind c.args.self.0 _ (search rules) c.try_from.ensures c.in-Lose.ensures) }
