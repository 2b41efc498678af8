-- The second ring's messages: each has room to rise, and one after the other they are put after the first's.
use mathlib.Core.Path.{◌≡◌, sym, ap, ◌∙◌, subst}
use mathlib.Core.Bool.{true}
use mathlib.Core.List.{List, [], ◌∷◌, ◌++◌, map, append_assoc, append-nil}
use Prim.Native.Nat.{ℕ, ◌+◌, ◌<◌, ◌≤◌}
use native.Mathlib.Omega.{arith}
use native.Mathlib.Numerals.{add-one}
use lib.ListN.{length, get_or, take}
use lib.Seq.{take-suc, take-length}
use borrow.Table.Elements.{map_app}
use Rattle.model.specs.Leafset.{size}
use Rattle.model.specs.Sets.{of_bits}
use Rattle.model.specs.Ring.{Message, Ring, blank}
use Rattle.model.specs.WellFormed.{WellFormedMessage}
use Rattle.model.specs.Words.{decode_table, decode, reads_as_ring}
use Rattle.model.specs.Play.{set_messages}
use Rattle.model.specs.Structs.{message_of, RoomMessage}
use Rattle.model.specs.Join.{raised_message}
use Rattle.model.specs.declared.message.MessageRecord.{MessageRecord}
use Rattle.model.proofs.Decoded.{reads_well}
use Rattle.model.proofs.Lists.{each_at}
use Rattle.model.proofs.RoundTrip.{subject_high}
use Rattle.ring_head.specs.Parts.{Encodes}
use Rattle.ring_head.proofs.ReadRing.{read_message}
use Rattle.ring_messages.specs.Loaded.{LoadedMessage}

-- ---- a message of the second ring, loaded, has room to rise

module _ (ss : List ℕ) (n k : ℕ) (q : MessageRecord) (reads : reads_as_ring ss ≡ true)
    (room : n + size (decode_table ss) ≤ 64) (h : k < length (decode ss).messages) (l : LoadedMessage ss k q) where
  pub is_message : message_of q ≡ get_or (decode ss).messages k blank
  is_message = l.message ∙ sym (read_message ss k h)

  well : WellFormedMessage (size (decode_table ss)) (message_of q)
  unfolding decode
  well = subst (WellFormedMessage (size (decode_table ss))) (sym is_message) (each_at (reads_well ss reads).messages_well blank k h)

  pub has_room : (n < 64) × RoomMessage q × (q.subject.0 ≤ 64)
  unfolding decode
  has_room =
      let t = (reads_well ss reads).table_well in
      (omega (arith, t.size_low, room), l.room, subject_high (size (decode_table ss)) (message_of q) t.size_high well)

  pub stays_low : (q.sender.0 + n < 64) × (q.receiver.0 + n < 64) × ((y : ℕ) → of_bits q.view y ≡ true → y + n < 64)
  stays_low = (omega (arith, well.sender_low, room), omega (arith, well.receiver_low, room), λ y e. omega (arith, (well.view_other y e).low, room))

-- ---- one more

-- ws' has the first k of the second's messages after the m of ws
abbrev pub Appended : List ℕ → List ℕ → ℕ → ℕ → List Message → ℕ → Type 0
Appended ws ws' m n ms k =
    (ρ : Ring) (j : ℕ) → Encodes ws j m ρ → Encodes ws' j (m + k) (set_messages (ρ.messages ++ map (raised_message n) (take k ms)) ρ)

pub append_none : (ws : List ℕ) (m n : ℕ) (ms : List Message) → Appended ws ws m n ms 0
append_none ws m n ms ρ j is =
    let e : m + 0 ≡ m = omega arith in
    rw (e, append-nil ρ.messages) is

pub append_more : (ws ws' w : List ℕ) (m n k : ℕ) (ms : List Message) (x : Message) → k < length ms → x ≡ raised_message n (get_or ms k blank)
    → ((ρ : Ring) (j : ℕ) → Encodes ws' j (m + k) ρ → Encodes w j (m + k + 1) (set_messages (ρ.messages ++ x ∷ []) ρ))
    → Appended ws ws' m n ms k → Appended ws w m n ms (k + 1)
append_more ws ws' w m n k ms x h e append a ρ j is =
    let f : m + (k + 1) ≡ m + k + 1 = omega arith in
    rw (f, longer) (append (set_messages (ρ.messages ++ map (raised_message n) (take k ms)) ρ) j (a ρ j is))
  where
    longer : ρ.messages ++ map (raised_message n) (take (k + 1) ms) ≡ ρ.messages ++ map (raised_message n) (take k ms) ++ x ∷ []
    longer =
        ap (λ (i : ℕ). ρ.messages ++ map (raised_message n) (take i ms)) (add-one k)
        ∙ ap (λ (l : List Message). ρ.messages ++ map (raised_message n) l) (take-suc ms k blank h)
        ∙ ap (λ (l : List Message). ρ.messages ++ l)
        (map_app (raised_message n) (take k ms) (get_or ms k blank ∷ []) ∙ ap (λ (y : Message). map (raised_message n) (take k ms) ++ y ∷ []) (sym e))
        ∙ sym (append_assoc ρ.messages (map (raised_message n) (take k ms)) (x ∷ []))

pub append_all : {k : ℕ} (ws ws' : List ℕ) (m n : ℕ) (ms : List Message) → k ≡ length ms → Appended ws ws' m n ms k
    → (ρ : Ring) (j : ℕ) → Encodes ws j m ρ → Encodes ws' j (m + length ms) (set_messages (ρ.messages ++ map (raised_message n) ms) ρ)
append_all ws ws' m n ms e a ρ j is =
    subst (λ (l : List Message). Encodes ws' j (m + length ms) (set_messages (ρ.messages ++ map (raised_message n) l) ρ)) (take-length ms) (rw e at (a ρ j is))
