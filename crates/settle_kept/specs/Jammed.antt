-- A link that never goes: where A and B differ, a node may hold one outside its leafset for ever, whatever timers fire and messages come.
use Rattle.std.specs.Prelude.{◌≡◌, ◌⊎◌, ℕ, ◌≤◌, true, false, length}
use mathlib.Core.List.{List, Memᴰ}
use Rattle.model.specs.Sets.{Set, none_node}
use Rattle.model.specs.Leafset.{Table, leafset, closest}
use Rattle.model.specs.Ring.{Ring, Message, holds, is_running}
use Rattle.model.specs.Types.{pong_ask_repl, ping_replace, pong_replace}
use Rattle.model.specs.Route.{Converged}
use Rattle.model.specs.ConnectivityPreserved.{Reached, read_at}
use Rattle.settle_kept.specs.Settled.{Still, KeepsHeld, AcceptedAre}

module _ (x z : ℕ) where
  -- x holds z outside its leafset; but for that every running node holds exactly its leafset of the running nodes.
  -- Whom z offers x in its place does not hold z, and so never acknowledges.
  pub record Stuck (t : Table) (R : Set) (H : ℕ → Set) : Type 0 where
    pub runs : R x ≡ true
    pub held : H x z ≡ true
    pub far : leafset t x R z ≡ false
    pub covers : (a : ℕ) → R a ≡ true → (w : ℕ) → leafset t a R w ≡ true → H a w ≡ true
    pub inside : (a : ℕ) → R a ≡ true → (w : ℕ) → H a w ≡ true → R w ≡ true
    pub alone : (a w : ℕ) → R a ≡ true → H a w ≡ true → leafset t a R w ≡ false → (a ≡ x) × (w ≡ z)
    pub offer : H (closest t z (H z) x) z ≡ false

  -- whom z offers x, or none
  abbrev pub Offered : Table → (ℕ → Set) → ℕ → Type 0
  Offered t H y = (y ≡ closest t z (H z) x) ⊎ (y ≡ none_node)

  -- a message that changes nothing of it: who is held stays, and x gets no acknowledgement about z
  pub record Futile (t : Table) (R : Set) (H : ℕ → Set) (m : Message) : Type 0 where
    pub quiet : Still t R H m
    pub offers : m.type ≡ pong_ask_repl → m.sender ≡ z → m.receiver ≡ x → Offered t H m.subject
    pub asks : m.type ≡ ping_replace → m.sender ≡ x → m.subject ≡ z → Offered t H m.receiver
    pub acknowledges : m.type ≡ pong_replace → m.receiver ≡ x → m.subject ≡ z → ⊥

  -- stuck, with nothing in flight that would change it
  pub record Jammed (r : Ring) : Type 0 where
    pub stuck : Stuck r.table (is_running r) (holds r)
    pub spare : Offered r.table (holds r) ((r.node x).own.spare z)
    pub futile : (m : Message) → Memᴰ m r.messages → Futile r.table (is_running r) (holds r) m

-- from a jammed point on x holds z, and the ring never converges
abbrev pub NeverConverges : Type 0
NeverConverges =
    (start : List ℕ) (r : Ring) → Reached start r → (words : List ℕ) (x z : ℕ)
    → (point : ℕ) → Jammed x z (read_at start words point)
    → (later : ℕ) → point ≤ later → later ≤ length words
    → AcceptedAre start words KeepsHeld point later
    → (holds (read_at start words later) x z ≡ true) × ¬ Converged (read_at start words later)
