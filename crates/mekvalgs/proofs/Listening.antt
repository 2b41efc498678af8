-- Calls of a listener on C's numbers and in C's places.
use mathlib.Core.Path.{◌≡◌, sym, ap, ◌∙◌}
use mathlib.Core.List.{List}
use Prim.Native.Nat.{ℕ}
use borrow.Author.Tests.{lt-ltb}
use Rattle.model.specs.Sets.{to_bits, of_bits}
use Rattle.model.specs.Answers.{first_of, is_accepted}
use Rattle.model.specs.Listener.{Watch, Tick, Hear, watch_answer, hear_answer, notices_of, listener_of, record_of, leaves_record}
use Rattle.model.specs.declared.listener.ListenerRecord.{ListenerRecord}
use Rattle.model.proofs.Laws.{decide}
use Rattle.listener.proofs.Records.{whole}
use Rattle.mekvalgs.specs.Nodes.{node_of}
use Rattle.mekvalgs.specs.Listeners.{listener_in}
use Rattle.mekvalgs.proofs.Far.{cut}

-- a number too big for a node is refused with 7, as 64 is
pub watch_cut : (x : ℕ) → watch_answer (node_of x) ≡ watch_answer x
unfolding watch_answer first_of
watch_cut x = cut watch_answer x (λ h. rw (lt-ltb 63 x h))

module _ (q : ListenerRecord) (x : ℕ) where
  pub watched_cut : leaves_record q (Watch (node_of x)) ≡ leaves_record q (Watch x)
  unfolding watch_answer first_of
  watched_cut = cut (λ k. leaves_record q (Watch k)) x (λ h. rw (lt-ltb 63 x h))

  pub hear_cut : hear_answer (listener_of q) (node_of x) ≡ hear_answer (listener_of q) x
  unfolding hear_answer first_of
  hear_cut = cut (hear_answer (listener_of q)) x (λ h. rw (lt-ltb 63 x h))

  pub heard_cut : leaves_record q (Hear (node_of x)) ≡ leaves_record q (Hear x)
  unfolding hear_answer first_of
  heard_cut = cut (λ k. leaves_record q (Hear k)) x (λ h. rw (lt-ltb 63 x h))

  -- a hearing keeps who is watched
  pub hearing_watched : (leaves_record q (Hear x)).watched ≡ to_bits 64 (of_bits q.watched)
  hearing_watched = decide (is_accepted (hear_answer (listener_of q) x)) (λ e. rw e) (λ e. rw e)

-- ---- in the lent places

-- l is the record that lies in the places
module _ {q l : ListenerRecord} (is : l ≡ q) where
  module _ (x : ℕ) {k : ℕ} (node : k ≡ node_of x) where
    pub watch_answers : {a b : ℕ} → b ≡ a → a ≡ watch_answer k → b ≡ watch_answer x
    watch_answers d e = d ∙ e ∙ ap watch_answer node ∙ watch_cut x

    pub hear_answers : {a b : ℕ} → b ≡ a → a ≡ hear_answer (listener_of l) k → b ≡ hear_answer (listener_of q) x
    hear_answers d e = d ∙ e ∙ rw (is, node) (hear_cut q x)

    pub watch_leaves : {r p : ListenerRecord} → p ≡ r → r ≡ leaves_record l (Watch k) → p ≡ leaves_record q (Watch x)
    watch_leaves d e = d ∙ e ∙ rw (is, node) (watched_cut q x)

    pub hear_leaves : l ≡ record_of (listener_of l) → {r : ListenerRecord} {silences windows : List ℕ}
        → listener_in r.watched silences windows ≡ r → r ≡ leaves_record l (Hear k)
        → listener_in q.watched silences windows ≡ leaves_record q (Hear x)
    hear_leaves own {r} {silences} {windows} d e =
        let left : r ≡ leaves_record q (Hear x) = e ∙ rw (is, node) (heard_cut q x) in
        let same : q.watched ≡ r.watched =
        ap (λ (p : ListenerRecord). p.watched) (rw is at own) ∙ sym (ap (λ (p : ListenerRecord). p.watched) left ∙ hearing_watched q x) in
        ap (λ (w : ℕ). listener_in w silences windows) same ∙ d ∙ left

  pub tick_gives : {n : ℕ} → n ≡ to_bits 64 (notices_of (listener_of l) Tick) → n ≡ to_bits 64 (notices_of (listener_of q) Tick)
  tick_gives e = rw is at e

  pub tick_leaves : l ≡ record_of (listener_of l) → {r : ListenerRecord} → r ≡ leaves_record l Tick
      → listener_in q.watched r.silences q.windows ≡ leaves_record q Tick
  tick_leaves own {r} e =
      let all = rw is at own in
      whole (ap (λ (p : ListenerRecord). p.watched) all) (ap (λ (p : ListenerRecord). p.silences) (rw is at e)) (ap (λ (p : ListenerRecord). p.windows) all)
