-- The messages that a node has sent, counted one after the other.
use mathlib.Core.Path.{◌≡◌, refl, sym, ap, ◌∙◌}
use mathlib.Core.List.{List}
use Prim.Native.Nat.{ℕ, ◌+◌, ◌≤◌, ◌<◌}
use native.Mathlib.Numerals.{add-one}
use native.Mathlib.Omega.{arith}
use lib.Dec.{eqb}
use lib.ListN.{length, take}
use lib.Seq.{length-take-le, take_all}
use Rattle.std.specs.Prelude.{if◌then◌else◌}
use Rattle.model.specs.Fields.{bits}
use Rattle.model.specs.Ring.{Message, message_at, sent_by}
use Rattle.model.specs.Words.{at, message_place, decode_message_at, decode}
use Rattle.model.proofs.Senders.{one_of, sent_next, sent_le}
use Rattle.ring_head.proofs.ReadRing.{read_message}

module _ (ws : List ℕ) (x : ℕ) where
  -- those before k are counted
  pub record SentBefore (sent k : ℕ) : Type 0 where
    pub within : k ≤ length (decode ws).messages
    pub counted : sent ≡ sent_by x (take k (decode ws).messages)

  pub sent_before_first : SentBefore 0 0
  unfolding sent_by
  sent_before_first = record { within = omega arith; counted = refl }

  pub sent_before_next : {sent k : ℕ} → SentBefore sent k → k < length (decode ws).messages → {sender one : ℕ}
      → sender ≡ bits 4 6 (at ws (message_place k)) → one ≡ (if eqb sender x then 1 else 0) → SentBefore (sent + one) (k + 1)
  unfolding decode_message_at
  sent_before_next {k = k} s h {sender} {one} is e =
      let same : (message_at (decode ws) k).sender ≡ sender = ap (λ (m : Message). m.sender) (read_message ws k h) ∙ sym is in
      let counts : one_of x (message_at (decode ws) k) ≡ one = ap (λ (y : ℕ). if eqb y x then 1 else 0) same ∙ sym e in
      record {
        within = omega arith;
        counted = rw (add-one k) (omega (arith, s.counted, counts, sent_next x (decode ws).messages k h));
      }

  pub sent_before_few : {sent k : ℕ} → SentBefore sent k → sent ≤ k
  sent_before_few {k = k} s =
      omega (arith, s.counted, sent_le x (take k (decode ws).messages), length-take-le k (decode ws).messages s.within)

  pub sent_before_last : {sent k : ℕ} → SentBefore sent k → k ≡ length (decode ws).messages → sent ≡ sent_by x (decode ws).messages
  sent_before_last {k = k} s end = s.counted ∙ ap (λ (l : List Message). sent_by x l) (take_all k (decode ws).messages (omega (arith, end)))
