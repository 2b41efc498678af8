-- What a word gives on lent words, by the stage that answers: the length, the word, the words, the event.
use mathlib.Core.Path.{◌≡◌, refl, sym, ap, ◌∙◌}
use mathlib.Core.Bool.{Bool, true, false, not}
use mathlib.Core.List.{List, [], ◌∷◌, ◌++◌}
use Prim.Native.Nat.{ℕ}
use native.Mathlib.Omega.{arith}
use lib.ListN.{length}
use lib.Dec.{eqb}
use Rattle.std.specs.Prelude.{Result, Ok, Err, if◌then◌else◌}
use Rattle.model.specs.WellFormed.{Each, nil, cons}
use Rattle.model.specs.Answers.{Refusal, first_of, is_accepted, number_of}
use Rattle.model.specs.Events.{event_of, word_refusals, word_answer, ReadWord, read_event, reading_of}
use Rattle.model.specs.Words.{ring_length, decode, reads_as_ring}
use Rattle.model.specs.Play.{state_refusals}
use Rattle.model.specs.Buffer.{wrong_length, not_a_ring, buffer_answer, play_buffer}
use Rattle.model.specs.declared.refusal.Refusal.{Refusal as Kind}
use Rattle.model.specs.declared.refusal.Refusal.TheVariants.{WrongLength, NotARing}
use Rattle.model.specs.declared.event.Event.{Event}
use Rattle.answers.specs.Applied.{event_on, Refuses}
use Rattle.model.proofs.Answers.{here, next}

-- the first of two lists of refusals: of the second where none of the first applies
first_of_both :
    (qs rs : List Refusal) → Each (λ q. is_accepted q.number ≡ false) qs
    → first_of (qs ++ rs) ≡ (if is_accepted (first_of qs) then first_of rs else first_of qs)
unfolding first_of
first_of_both [] rs e = refl
first_of_both (q ∷ qs) rs (cons n e) = go (first_of_both qs rs e) q.applies
  where
    go : first_of (qs ++ rs) ≡ (if is_accepted (first_of qs) then first_of rs else first_of qs)
        → (b : Bool) → (if b then q.number else first_of (qs ++ rs))
        ≡ (if is_accepted (if b then q.number else first_of qs) then first_of rs else (if b then q.number else first_of qs))
    go i true = rw n
    go i false = i

-- ---- what reading a word says of its answer

record IsEvent (w : ℕ) (e : Event) : Type 0 where
  accepted : is_accepted (word_answer w) ≡ true
  event : event_of w ≡ e

record IsNoEvent (w : ℕ) (a : Kind) : Type 0 where
  refused : is_accepted (word_answer w) ≡ false
  answer : number_of a ≡ word_answer w

module _ (w : ℕ) {r : Result Event Kind} (read : reading_of r ≡ read_event w) where
  is_event : (e : Event) → r ≡ Ok e → IsEvent w e
  unfolding read_event
  is_event e h =
      let same : reading_of (Ok e) ≡ read_event w = ap reading_of (sym h) ∙ read in
      by_answer (is_accepted (word_answer w)) refl (ap (λ (q : ReadWord). q.event) same)
    where
      by_answer : (b : Bool) → is_accepted (word_answer w) ≡ b → e ∷ [] ≡ (if b then event_of w ∷ [] else []) → IsEvent w e
      by_answer true a q = record { accepted = a; event = cc }
      by_answer false a q = absurd (let z : ◌≡◌ {A = ℕ} 1 0 = ap length q in omega arith)

  is_no_event : (a : Kind) → r ≡ Err a → IsNoEvent w a
  unfolding read_event
  is_no_event a h =
      let same : reading_of (Err a) ≡ read_event w = ap reading_of (sym h) ∙ read in
      by_answer (is_accepted (word_answer w)) refl (ap (λ (q : ReadWord). q.answer) same) (ap (λ (q : ReadWord). q.event) same)
    where
      by_answer : (b : Bool) → is_accepted (word_answer w) ≡ b → number_of a ≡ word_answer w → [] ≡ (if b then event_of w ∷ [] else []) → IsNoEvent w a
      by_answer true t i q = absurd (let z : ◌≡◌ {A = ℕ} 0 1 = ap length q in omega arith)
      by_answer false t i q = record { refused = t; answer = i }

-- ---- the stages: the length; the word; the words; the event

module _ (ws : List ℕ) (w : ℕ) where
  pub not_as_long : eqb (length ws) ring_length ≡ false → Refuses ws w WrongLength
  unfolding buffer_answer
  not_as_long d =
      let one : buffer_answer ws w ≡ 1 = here _ _ (ap not d) in
      record { is_refusal = ap is_accepted one; number = sym one }

  module _ (h : eqb (length ws) ring_length ≡ true) where
    by_word : buffer_answer ws w ≡ (if is_accepted (word_answer w) then first_of (not_a_ring ws ∷ state_refusals (decode ws) (event_of w)) else word_answer w)
    unfolding buffer_answer word_answer
    by_word =
        next (wrong_length ws) _ (ap not h)
        ∙ first_of_both (word_refusals w) _ (cons refl (cons refl nil))

    module _ {r : Result Event Kind} (read : reading_of r ≡ read_event w) where
      pub not_an_event : {a : Kind} → r ≡ Err a → Refuses ws w a
      not_an_event {a} e =
          let p : IsNoEvent w a = is_no_event w read a e in
          let refused : buffer_answer ws w ≡ word_answer w = by_word ∙ rw p.refused in
          record { is_refusal = ap is_accepted refused ∙ p.refused; number = p.answer ∙ sym refused }

      module _ {e : Event} (is : r ≡ Ok e) where
        after_word : buffer_answer ws w ≡ first_of (not_a_ring ws ∷ state_refusals (decode ws) e)
        after_word = let p : IsEvent w e = is_event w read e is in by_word ∙ rw (p.accepted, p.event)

        pub not_a_ring_lem : reads_as_ring ws ≡ false → Refuses ws w NotARing
        not_a_ring_lem n =
            let six : buffer_answer ws w ≡ 6 = after_word ∙ here _ _ (ap not n) in
            record { is_refusal = ap is_accepted six; number = sym six }

        pub an_event : reads_as_ring ws ≡ true → event_on ws e ≡ play_buffer ws w
        unfolding play_buffer
        an_event t = rw (after_word, (is_event w read e is).event, next (not_a_ring ws) (state_refusals (decode ws) e) (ap not t))
