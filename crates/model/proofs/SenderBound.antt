-- The bound of a sender: only the node that acts or answers can pass it, and a message lost makes its place free.
use mathlib.Core.Path.{◌≡◌, refl, sym, ap, ◌∙◌}
use Prim.Native.Nat.{ℕ, suc, ◌+◌, ◌≤◌, ◌<◌}
use native.Mathlib.Omega.{arith}
use native.Mathlib.Decide.{dec_lt, ℕ_discrete}
use mathlib.Core.Bool.{Bool, true, false}
use mathlib.Core.List.{List, [], ◌++◌, append-nil}
use lib.Dec.{lit≤, ltb}
use lib.ListN.{length, take, drop, length-append, length-take, length-drop}
use borrow.Author.Tests.{ltb-false, le-ltb, eq-eqb, eqb-true}
use Rattle.model.specs.Leafset.{size}
use Rattle.model.specs.Ring.{Message, Ring, message_at, sent_by}
use Rattle.model.specs.Words.{senders_fit}
use Rattle.model.specs.WellFormed.{WellFormed, Each, nil, cons}
use Rattle.model.specs.Answers.{Refusal, first_of, is_accepted}
use Rattle.model.specs.Events.{word_of, event_answer, same_node}
use Rattle.model.specs.Steps.{leaving, notice, contact, timer}
use Rattle.model.specs.Play.{set_messages, remove_message, act, after, actor, refusals, left_refusals, state_refusals, play_answer}
use Rattle.model.specs.declared.event.Event.{Event}
use Rattle.model.specs.declared.event.Event.TheVariants.{On, Off, Notice, Contact, Timer, Deliver, Lose}
use Rattle.model.proofs.Laws.{clash, decide, if_law}
use Rattle.model.proofs.Answers.{here, none_applies, stays, passes}
use Rattle.model.proofs.Events.{writable}
use Rattle.model.proofs.Cases.{after_table, refusals_refuse}
use Rattle.model.proofs.Senders.{one_of, sent_append, sent_without, senders_in}
use Rattle.model.proofs.WellFormedPlay.{others_few}
use Rattle.model.proofs.Echoes.{by_event}

-- ---- whose bound an event passes

module _ (r : Ring) (e : Event) (g : WellFormed r) (d : same_node e ≡ false) (p : Each (λ q. q.applies ≡ false) (refusals r e)) where
  -- the acting or answering node's count decides
  pub actor_decides : sent_by (actor r e) (after r e).messages ≤ 256 → senders_fit (after r e) ≡ true
  actor_decides few =
      senders_in (after r e) (λ x h.
      elim (ℕ_discrete x (actor r e)) [
        | yes i ↦ rw i few
        | no n ↦ omega (arith, others_few r e g d p x n, g.senders_few x (rw (after_table r e) at h))
      ])

  pub actor_passes : senders_fit (after r e) ≡ false → 256 < sent_by (actor r e) (after r e).messages
  actor_passes f = elim (dec_lt 256 (sent_by (actor r e) (after r e).messages)) [ yes h ↦ h | no n ↦ clash (actor_decides (omega arith)) f ]

-- ---- a place made free

-- an event that names the position of a message
abbrev pub names_position : Event → Bool
names_position (On x) = false
names_position (Off x polite) = false
names_position (Notice x z) = false
names_position (Contact x y) = false
names_position (Timer x k) = false
names_position (Deliver i echo) = true
names_position (Lose i) = true

-- what such an event does not: the same messages are sent whatever is in flight
record Sends (r : Ring) (e : Event) : Type 0 where
  sent : List Message
  appended : (ms : List Message) → (after (set_messages ms r) e).messages ≡ ms ++ sent

sends : (r : Ring) (e : Event) → names_position e ≡ false → Sends r e
unfolding after act
sends r (On x) f = record { sent = []; appended = λ ms. sym (append-nil ms) }
sends r (Off x polite) f = by_manner polite
  where
    by_manner : (b : Bool) → Sends r (Off x b)
    by_manner true = record { sent = (leaving r.table x.0 (r.node x.0).clock (r.node x.0).own).sent; appended = λ ms. refl }
    by_manner false = record { sent = []; appended = λ ms. sym (append-nil ms) }
sends r (Notice x z) f = record { sent = (notice r.table x.0 ((r.node x.0).clock + 1) (r.node x.0).own z.0).sent; appended = λ ms. refl }
sends r (Contact x y) f = record { sent = (contact r.table x.0 ((r.node x.0).clock + 1) (r.node x.0).own y.0).sent; appended = λ ms. refl }
sends r (Timer x k) f = record { sent = (timer r.table x.0 ((r.node x.0).clock + 1) (r.node x.0).own k).sent; appended = λ ms. refl }
sends r (Deliver i echo) f = clash refl f
sends r (Lose i) f = clash refl f

-- nor do the refusals before 11 look at what is in flight
same_refusals : (r : Ring) (e : Event) → names_position e ≡ false → (ms : List Message) → refusals (set_messages ms r) e ≡ refusals r e
same_refusals r (On x) f ms = refl
same_refusals r (Off x polite) f ms = refl
same_refusals r (Notice x z) f ms = refl
same_refusals r (Contact x y) f ms = refl
same_refusals r (Timer x k) f ms = refl
same_refusals r (Deliver i echo) f ms = clash refl f
same_refusals r (Lose i) f ms = clash refl f

refusals_low : (r : Ring) (e : Event) → Each (λ q. q.number ≤ 10) (refusals r e)
refusals_low r (On x) = cons (lit≤ tt) (cons (lit≤ tt) (cons (lit≤ tt) nil))
refusals_low r (Off x polite) = cons (lit≤ tt) (cons (lit≤ tt) nil)
refusals_low r (Notice x z) = cons (lit≤ tt) (cons (lit≤ tt) (cons (lit≤ tt) (cons (lit≤ tt) nil)))
refusals_low r (Contact x y) = cons (lit≤ tt) (cons (lit≤ tt) (cons (lit≤ tt) (cons (lit≤ tt) nil)))
refusals_low r (Timer x k) = cons (lit≤ tt) (cons (lit≤ tt) (cons (lit≤ tt) nil))
refusals_low r (Deliver i echo) = cons (lit≤ tt) (cons (lit≤ tt) nil)
refusals_low r (Lose i) = cons (lit≤ tt) nil

first_low : {qs : List Refusal} → Each (λ q. q.number ≤ 10) qs → first_of qs ≤ 10
unfolding first_of
first_low nil = lit≤ tt
first_low (cons {a = q} p e) = let h = first_low e in if_law (λ k. k ≤ 10) q.applies q.number _ (λ t. p) (λ f. h)

-- what is known of an event that is refused with 17
record Refused17 (r : Ring) (e : Event) : Type 0 where
  passed : Each (λ q. q.applies ≡ false) (refusals r e)
  room : length (after r e).messages ≤ 1024

refused_17 : (r : Ring) (e : Event) → first_of (state_refusals r e) ≡ 17 → Refused17 r e
refused_17 r e is =
    decide (is_accepted (first_of (refusals r e)))
    (λ ok.
    let none = none_applies (refusals r e) (refusals_refuse r e) (eqb-true (first_of (refusals r e)) 0 ok) in
    record { passed = none; room = decide (ltb 1024 (length (after r e).messages)) (λ t. absurd (eleven none t)) (λ f. ltb-false 1024 _ f) })
    (λ refused. absurd (omega (arith, stays (refusals r e) (left_refusals (after r e)) refused, is, first_low (refusals_low r e))))
  where
    eleven : Each (λ q. q.applies ≡ false) (refusals r e) → ltb 1024 (length (after r e).messages) ≡ true → ⊥
    eleven none t = omega (arith, sym is ∙ passes (refusals r e) (left_refusals (after r e)) none ∙ here _ _ t)

-- a ring with room is not refused
none_left : (s : Ring) → length s.messages ≤ 1024 → senders_fit s ≡ true → first_of (left_refusals s) ≡ 0
unfolding first_of
none_left s few fit = rw (le-ltb 1024 (length s.messages) few, fit)

module _ (r : Ring) (e : Event) (g : WellFormed r) (written : event_answer e ≡ 0) (no-position : names_position e ≡ false)
    (i : ℕ) (h : i < length r.messages) where
  abbrev left : List Message
  left = take i r.messages ++ drop (suc i) r.messages

  abbrev lost : Ring
  lost = set_messages left r

  abbrev s : Sends r e
  s = sends r e no-position

  -- what the event leaves without the message, and with it
  without_it : (after lost e).messages ≡ left ++ s.sent
  without_it = s.appended left

  with_it : (after r e).messages ≡ r.messages ++ s.sent
  with_it = s.appended r.messages

  fewer_left : length (after lost e).messages ≤ length (after r e).messages
  fewer_left = rw (without_it, with_it) (simp (length-append, length-take, length-drop) (omega (arith, h)))

  counted : (x : ℕ) → sent_by x (after lost e).messages + one_of x (message_at r i) ≡ sent_by x (after r e).messages
  counted x =
      rw (without_it, with_it)
      (omega (arith, sent_append x left s.sent, sent_append x r.messages s.sent, sent_without x r.messages i h))

  module _ (own : (message_at r i).sender ≡ actor r e) (is : play_answer r (word_of e) ≡ 17) (one_more : sent_by (actor r e) (after r e).messages ≡ 257) where
    known : Refused17 r e
    known = refused_17 r e (sym (by_event r e written) ∙ is)

    fits : (x : ℕ) → x < size (after lost e).table → sent_by x (after lost e).messages ≤ 256
    fits x l =
        elim (ℕ_discrete x (actor r e)) [
          | yes a ↦
              (let one : one_of x (message_at r i) ≡ 1 = rw (eq-eqb (message_at r i).sender x (own ∙ sym a)) in
              omega (arith, counted x, rw (sym a) at one_more))
          | no n ↦ omega (arith, counted x, others_few r e g (writable e written).differ known.passed x n, g.senders_few x (rw (after_table lost e) at l))
        ]

    -- "Losing a message makes its place free for the sender": an event that would leave one too many of its node's is accepted once
    -- one of these is lost
    pub lost_frees : play_answer (after r (Lose i)) (word_of e) ≡ 0
    unfolding after remove_message
    lost_frees =
        by_event lost e written
        ∙ ap (λ (qs : List Refusal). first_of (qs ++ left_refusals (after lost e))) (same_refusals r e no-position left)
        ∙ passes (refusals r e) (left_refusals (after lost e)) known.passed
        ∙ none_left (after lost e) (omega (arith, fewer_left, known.room)) (senders_in (after lost e) fits)
