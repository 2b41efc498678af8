-- A change written part by part: the message out, the node, the first messages, the second. Together that is the ring that the change
-- leaves, and each part has room.
use mathlib.Core.Path.{◌≡◌, refl, sym, ap, subst, ◌∙◌}
use mathlib.Core.List.{List, ◌++◌, append_assoc}
use Prim.Native.Nat.{ℕ, ◌+◌, ◌-◌, ◌≤◌, ◌<◌}
use native.Mathlib.Omega.{arith}
use lib.ListN.{length, length-append, length-take, length-drop}
use Rattle.model.specs.Ring.{Own, Node, Message, Ring}
use Rattle.model.specs.Words.{decode}
use Rattle.model.specs.Play.{set_messages, remove_message}
use Rattle.model.specs.Structs.{own_of}
use Rattle.ring_head.specs.Parts.{Encodes}
use Rattle.records.specs.Effects.{sends_of}
use Rattle.event_act.specs.Changes.{TakenLow, taken_out, node_changed, changed, Writable}
use Rattle.std.specs.Prelude.{Option, None, Some, Result, Ok, Err}
use Rattle.model.specs.declared.refusal.Refusal.{Refusal}
use Rattle.event_act.specs.declared.decision.Becomes.{Becomes}
use Rattle.event_act.specs.declared.decision.Becomes.TheVariants.{Stays, Starts, Stops, Acts}
use Rattle.event_act.specs.declared.decision.Change.{Change}

-- one message less
removed_count : (k : ℕ) (ρ : Ring) → k < length ρ.messages → length (remove_message k ρ).messages ≡ length ρ.messages - 1
unfolding remove_message
removed_count k ρ h = simp (length-append, length-take, length-drop) (omega arith)

-- where a message is taken out: it is one of the m, and one less is left
module _ {t : Option ℕ} {k : ℕ} (e : t ≡ Some k) {m : ℕ} (low : TakenLow m t) where
  pub taking_low : k < m
  taking_low = rw e at low

  pub taking_count : (ρ : Ring) → length ρ.messages ≡ m → m - 1 ≡ length (taken_out t ρ).messages
  taking_count ρ many =
      rw e
      (let h : length (remove_message k ρ).messages ≡ length ρ.messages - 1 = removed_count k ρ (omega (arith, taking_low)) in omega arith)

-- what is taken out leaves the nodes, and what becomes of a node leaves the messages
pub taken_nodes : (t : Option ℕ) (ρ : Ring) → (taken_out t ρ).node ≡ ρ.node
unfolding remove_message
taken_nodes None ρ = refl
taken_nodes (Some k) ρ = refl

pub node_messages : (b : Becomes) (x time : ℕ) (o : Own) (ρ : Ring) → (node_changed b x time o ρ).messages ≡ ρ.messages
node_messages Stays x time o ρ = refl
node_messages Starts x time o ρ = refl
node_messages Stops x time o ρ = refl
node_messages Acts x time o ρ = refl

-- neither touches the table
taken_table : (t : Option ℕ) (ρ : Ring) → (taken_out t ρ).table ≡ ρ.table
unfolding remove_message
taken_table None ρ = refl
taken_table (Some k) ρ = refl

node_table : (b : Becomes) (x time : ℕ) (o : Own) (ρ : Ring) → (node_changed b x time o ρ).table ≡ ρ.table
node_table Stays x time o ρ = refl
node_table Starts x time o ρ = refl
node_table Stops x time o ρ = refl
node_table Acts x time o ρ = refl

pub changed_table : (c : Change) (ρ : Ring) → (changed c ρ).table ≡ ρ.table
changed_table c ρ =
    node_table c.becomes c.node.0 c.time.0 (own_of c.effect.own) (taken_out c.taken ρ) ∙ taken_table c.taken ρ

module _ (ws : List ℕ) (c : Change) (w : Writable ws c) where
  abbrev out : Ring
  out = taken_out c.taken (decode ws)

  abbrev node : Ring
  node = node_changed c.becomes c.node.0 c.time.0 (own_of c.effect.own) out

  abbrev first : List Message
  first = sends_of c.node.0 c.time.0 c.effect.own c.effect.first

  abbrev second : List Message
  second = sends_of c.node.0 c.time.0 c.effect.own c.effect.second

  rises : c.becomes ≡ Starts → c.time.0 ≡ (out.node c.node.0).clock + 1
  rises s = w.fits.rises s ∙ ap (λ (f : ℕ → Node). (f c.node.0).clock + 1) (sym (taken_nodes c.taken (decode ws)))

  -- words in which the node became b, if its clock rises where it starts: b is what the change says
  abbrev NodeWritten : List ℕ → ℕ → ℕ → Becomes → Type 0
  NodeWritten words n m b =
      (b ≡ Starts → c.time.0 ≡ (out.node c.node.0).clock + 1)
      → Encodes words n m (node_changed b c.node.0 c.time.0 (own_of c.effect.own) out)

  pub node_written : {b : Becomes} {words : List ℕ} {n m : ℕ} → NodeWritten words n m b → b ≡ c.becomes → Encodes words n m node
  node_written {words = words} {n} {m} written e = subst (NodeWritten words n m) e written rises

  kept : node.messages ≡ out.messages
  kept = node_messages c.becomes c.node.0 c.time.0 (own_of c.effect.own) out

  few : length out.messages + (length first + length second) ≤ 1024
  few = let f = w.few in simp (length-append) at f

  pub first_room : {words : List ℕ} {n m : ℕ} → Encodes words n m out → m + length first ≤ 1024
  first_room is = omega (arith, few, is.count)

  pub second_room : {words : List ℕ} {n m : ℕ} → Encodes words n m (set_messages (node.messages ++ first) node) → m + length second ≤ 1024
  second_room is =
      let count : length node.messages + length first ≡ _ = sym (length-append node.messages first) ∙ is.count in
      let same : length node.messages ≡ length out.messages = ap length kept in
      omega (arith, few)

  pub whole : set_messages ((node.messages ++ first) ++ second) node ≡ changed c (decode ws)
  whole =
      ap (λ (ms : List Message). set_messages ms node)
      (append_assoc node.messages first second ∙ ap (λ (ms : List Message). ms ++ (first ++ second)) kept)
