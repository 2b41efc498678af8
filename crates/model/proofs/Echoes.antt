-- An echo beside a delivery of the same message: what each leaves, and what each answers. An echo acts on the ring with its message, a
-- delivery on the ring without it, and no step looks at the messages in flight.
use mathlib.Core.Path.{◌≡◌, refl, sym, ap, ◌∙◌}
use mathlib.Core.Logic.{◌⊎◌, inl, inr}
use mathlib.Core.Bool.{Bool, true, false}
use mathlib.Core.List.{List, ◌∷◌, ◌++◌, append_assoc}
use Prim.Native.Nat.{ℕ, suc, ◌+◌, ◌<◌}
use native.Mathlib.Omega.{arith}
use lib.ListN.{length, take, drop, length-append, length-take, length-drop}
use lib.Seq.{take-length, take-append_seam, take-append-le, drop-append-le}
use lib.Dec.{ltb, eqb}
use borrow.Author.Tests.{ltb-true, lt-ltb, eq-eqb, eqb-true}
use Rattle.std.specs.Prelude.{if◌then◌else◌}
use Rattle.model.specs.Ring.{Own, Message, Ring, blank, is_running, message_at, sent_by}
use Rattle.model.specs.Leafset.{size}
use Rattle.model.specs.Words.{senders_fit}
use Rattle.model.specs.WellFormed.{WellFormed, Each, nil, cons}
use Rattle.model.specs.Answers.{Refusal, first_of}
use Rattle.model.specs.Events.{word_of, event_answer}
use Rattle.model.specs.Steps.{Effect, deliver}
use Rattle.model.specs.Play.{set_messages, remove_message, act, after, no_message, clock_spent, refusals, left_refusals, state_refusals, play_answer}
use Rattle.model.specs.declared.event.Event.{Event}
use Rattle.model.specs.declared.event.Event.TheVariants.{Deliver, Lose}
use Rattle.model.proofs.Laws.{decide, not_out_false, same_test}
use Rattle.model.proofs.Lists.{each_at}
use Rattle.model.proofs.Senders.{one_of, sent_append, sent_without, senders_in, senders_out}
use Rattle.model.proofs.Cases.{after_table}
use Rattle.model.proofs.WellFormedPlay.{others_few}
use Rattle.model.proofs.Answers.{here, next}
use Rattle.model.proofs.Events.{event_of_word, Writable, writable}

-- ---- what is left

-- the message at i out of a longer list
removed_before : {A : Type 0} (i : ℕ) (l more : List A) → i < length l
    → take i (l ++ more) ++ drop (suc i) (l ++ more) ≡ (take i l ++ drop (suc i) l) ++ more
removed_before i l more h =
    ap (λ k. k ++ drop (suc i) (l ++ more)) (take-append-le i l more (omega arith))
    ∙ ap (λ k. take i l ++ k) (drop-append-le (suc i) l more (omega arith))
    ∙ sym (append_assoc (take i l) (drop (suc i) l) more)

-- all messages that were in flight are where they were, and without the one that was echoed it is the ring that a delivery leaves
pub record EchoLeaves (r : Ring) (i : ℕ) : Type 0 where
  pub places_kept : take (length r.messages) (after r (Deliver i true)).messages ≡ r.messages
  pub but_for_message : after (after r (Deliver i true)) (Lose i) ≡ after r (Deliver i false)

module _ (r : Ring) (i : ℕ) (h : i < length r.messages) where
  abbrev m : Message
  m = message_at r i

  abbrev step : ℕ → Own → Effect
  step now o = deliver r.table m.receiver now o m

  -- by whether the receiver runs
  places : (b : Bool) → take (length r.messages) (if b then act m.receiver step r else r).messages ≡ r.messages
  unfolding act
  places true = take-append_seam r.messages _
  places false = take-length r.messages

  out : (b : Bool)
      → remove_message i (if b then act m.receiver step r else r)
      ≡ (if b then act m.receiver step (remove_message i r) else remove_message i r)
  unfolding act remove_message
  out true = ap (λ (l : List Message). set_messages l (act m.receiver step r)) (removed_before i r.messages _ h)
  out false = refl

  counts : (b : Bool)
      → length (if b then act m.receiver step r else r).messages
      ≡ length (if b then act m.receiver step (remove_message i r) else remove_message i r).messages + 1
  unfolding act remove_message
  counts true = simp (length-append, length-take, length-drop) (omega (arith, h))
  counts false = simp (length-append, length-take, length-drop) (omega (arith, h))

  -- an echo leaves one message more
  one_more_lem : length (after r (Deliver i true)).messages ≡ length (after r (Deliver i false)).messages + 1
  unfolding after remove_message
  one_more_lem = counts (is_running r m.receiver)

  senders : (x : ℕ) (b : Bool)
      → sent_by x (if b then act m.receiver step r else r).messages
      ≡ sent_by x (if b then act m.receiver step (remove_message i r) else remove_message i r).messages + one_of x m
  unfolding act remove_message
  senders x true =
      rw (sent_append x r.messages _, sent_append x (take i r.messages ++ drop (suc i) r.messages) _)
      (omega (arith, sent_without x r.messages i h))
  senders x false = sym (sent_without x r.messages i h)

  -- and one more of its sender
  one_more_sent : (x : ℕ) → sent_by x (after r (Deliver i true)).messages ≡ sent_by x (after r (Deliver i false)).messages + one_of x m
  unfolding after remove_message
  one_more_sent x = senders x (is_running r m.receiver)

  -- which is none too many: its sender, who does not answer, had it in flight
  same_senders : WellFormed r → Each (λ q. q.applies ≡ false) (refusals r (Deliver i true))
      → senders_fit (after r (Deliver i true)) ≡ senders_fit (after r (Deliver i false))
  same_senders g p =
      let size_is : (echo : Bool) → size (after r (Deliver i echo)).table ≡ size r.table = λ echo. ap size (after_table r (Deliver i echo)) in
      let ends_differ = (each_at g.messages_well blank i h).ends_differ in
      same_test (senders_fit (after r (Deliver i true))) (senders_fit (after r (Deliver i false)))
      (λ e. senders_in (after r (Deliver i false)) (λ x l.
      let l' : x < size (after r (Deliver i true)).table = omega (arith, size_is true, size_is false) in
      omega (arith, one_more_sent x, senders_out (after r (Deliver i true)) e x l')))
      (λ e. senders_in (after r (Deliver i true)) (λ x l.
      decide (eqb m.sender x)
      (λ is.
      let e : m.sender ≡ x = eqb-true m.sender x is in
      omega (arith, g.senders_few x (omega (arith, size_is true)), others_few r (Deliver i true) g refl p x (λ a. ends_differ (e ∙ a))))
      (λ is-not.
      let none : one_of x m ≡ 0 = rw is-not in
      omega (arith, one_more_sent x, senders_out (after r (Deliver i false)) e x (omega (arith, size_is true, size_is false))))))

  pub echo_leaves : EchoLeaves r i
  unfolding after remove_message
  echo_leaves = record { places_kept = places (is_running r m.receiver); but_for_message = out (is_running r m.receiver) }

-- "to a stand that is off": nothing happens at all
pub echo_to_off : (r : Ring) (i : ℕ) → is_running r (message_at r i).receiver ≡ false → after r (Deliver i true) ≡ r
unfolding after
echo_to_off r i off = rw off

-- ---- what is answered

-- the answers a and b are alike, or a is 11 where b is acceptance or 17, which is tried after 11
abbrev pub AlikeButFull : ℕ → ℕ → Type 0
AlikeButFull a b = (a ≡ b) ⊎ ((a ≡ 11) × ((b ≡ 0) ⊎ (b ≡ 17)))

-- after a refusal that both have
after_both : (q : Refusal) (qs rs : List Refusal) → (q.applies ≡ false → AlikeButFull (first_of qs) (first_of rs))
    → AlikeButFull (first_of (q ∷ qs)) (first_of (q ∷ rs))
after_both q qs rs f =
    decide q.applies
    (λ t. inl (here q qs t ∙ sym (here q rs t)))
    (λ n. rw (next q qs n, next q rs n) (f n))

-- where one message more is left, and none too many of its sender
one_more_left : (s u : Ring) → length s.messages ≡ length u.messages + 1 → senders_fit s ≡ senders_fit u
    → AlikeButFull (first_of (left_refusals s)) (first_of (left_refusals u))
unfolding first_of
one_more_left s u more same =
    decide (ltb 1024 (length u.messages))
    (λ t. inl (rw (t, lt-ltb 1024 (length s.messages) (omega (arith, ltb-true 1024 (length u.messages) t)))))
    (λ n.
    decide (ltb 1024 (length s.messages))
    (λ t. inr (rw t, decide (senders_fit u) (λ fit. inl (rw (n, fit))) (λ not-fit. inr (rw (n, not-fit)))))
    (λ f. inl (rw (f, n, same))))

state_answers : (r : Ring) (i : ℕ) → WellFormed r → AlikeButFull (first_of (state_refusals r (Deliver i true))) (first_of (state_refusals r (Deliver i false)))
state_answers r i g =
    after_both (no_message r i) _ _
    (λ low.
    let h : i < length r.messages = ltb-true i (length r.messages) (not_out_false (ltb i (length r.messages)) low) in
    after_both (clock_spent r (is_running r (message_at r i).receiver) (message_at r i).receiver) _ _
    (λ unspent. one_more_left (after r (Deliver i true)) (after r (Deliver i false)) (one_more_lem r i h) (same_senders r i h g (cons low (cons unspent nil)))))

-- the word of an event that can be written is refused from the state alone
pub by_event : (r : Ring) (e : Event) → event_answer e ≡ 0 → play_answer r (word_of e) ≡ first_of (state_refusals r e)
unfolding play_answer first_of
by_event r e a =
    let p : Writable e = writable e a in
    rw (event_of_word e p.parts_fit_lem, eq-eqb (word_of e) (word_of e) refl, p.parts_fit_lem, p.differ)

position_written : (i : ℕ) (echo : Bool) → i < 1024 → event_answer (Deliver i echo) ≡ 0
unfolding event_answer first_of
position_written i echo h = rw (lt-ltb i 1024 h)

-- "Refusal 11 counts the message that stays", and no other answer tells an echo from a delivery
pub echo_answers : (r : Ring) → WellFormed r → (i : ℕ) → i < 1024
    → AlikeButFull (play_answer r (word_of (Deliver i true))) (play_answer r (word_of (Deliver i false)))
echo_answers r g i h =
    rw (by_event r (Deliver i true) (position_written i true h), by_event r (Deliver i false) (position_written i false h))
    (state_answers r i g)
