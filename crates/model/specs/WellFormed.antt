-- Well-formed rings: all of `ring_fits`, as facts; and what the words cannot show of a ring: what is no node, pair or message of the
-- table is empty, and clocks and stamps have room in their bits. Every ring of every list is well-formed (proofs/WellFormedPlay).
use Rattle.std.specs.Prelude.{◌≡◌, ℕ, ◌≤◌, ◌<◌, true, false, List, [], ◌∷◌, length}
use Rattle.model.specs.Leafset.{Table, size, key}
use Rattle.model.specs.Ring.{Own, Node, Message, Ring, sent_by}
use Rattle.model.specs.Types.{uses_view, uses_subject, names_spare, uses_stamp}
use Rattle.model.specs.Words.{is_type, keys_differ}
use Rattle.model.specs.declared.values.Sides.{Sides}

-- "A clockwise and B counter-clockwise, each 1 to 8"
pub record WellFormedSides (s : Sides) : Type 0 where
  pub ahead_low : 1 ≤ s.ahead
  pub ahead_high : s.ahead ≤ 8
  pub behind_low : 1 ≤ s.behind
  pub behind_high : s.behind ≤ 8

-- "n (1 to 64)", "a key of 24 bits", "keys differ"
pub record WellFormedTable (t : Table) : Type 0 where
  pub sides_well : WellFormedSides t.sides
  pub size_low : 1 ≤ size t
  pub size_high : size t ≤ 64
  pub key_high : (s : ℕ) → s < size t → key t s ≤ 16777215
  pub keys_differ_lem : keys_differ t ≡ true

-- y is a node of a table of n, other than x
pub record Other (n x y : ℕ) : Type 0 where
  pub low : y < n
  pub differs : y ≡ x → ⊥

-- "a stand or 64 for none"; "neither x nor z"
pub data Spare (n x z : ℕ) : ℕ → Type 0 where
  none : Spare n x z 64
  spare : {y : ℕ} → Other n x y → (y ≡ z → ⊥) → Spare n x z y

-- the own record of node x of n, whose clock is `clock`
pub record WellFormedOwn (n x clock : ℕ) (o : Own) : Type 0 where
  pub held_other : (z : ℕ) → o.held z ≡ true → Other n x z
  pub candidate_other : (z : ℕ) → o.candidates z ≡ true → Other n x z
  -- "a commit stamp is 0 exactly where the pair isn't held and never above x's clock"
  pub commit_held : (z : ℕ) → o.held z ≡ true → 0 < o.commit z
  pub commit_none : (z : ℕ) → o.held z ≡ false → o.commit z ≡ 0
  pub commit_high : (z : ℕ) → o.commit z ≤ clock
  -- "the spare is 64 where not held"
  pub spare_other : (z : ℕ) → Spare n x z (o.spare z)
  pub spare_none : (z : ℕ) → o.held z ≡ false → o.spare z ≡ 64

pub record WellFormedNode (n x : ℕ) (s : Node) : Type 0 where
  pub running_low : s.running ≡ true → x < n
  pub clock_high : s.clock ≤ 16777215
  pub clock_none : (x < n → ⊥) → s.clock ≡ 0
  pub own_well : WellFormedOwn n x s.clock s.own
  -- "a stand that is off holds nothing and has no candidates"
  pub off_held : s.running ≡ false → (z : ℕ) → s.own.held z ≡ false
  pub off_candidates : s.running ≡ false → (z : ℕ) → s.own.candidates z ≡ false

pub record WellFormedMessage (n : ℕ) (m : Message) : Type 0 where
  pub type_known : is_type m.type ≡ true
  pub sender_low : m.sender < n
  pub receiver_low : m.receiver < n
  pub ends_differ : m.sender ≡ m.receiver → ⊥
  -- the subject, by the type: none, a node or a spare
  pub subject_none : uses_subject m.type ≡ false → m.subject ≡ 64
  pub subject_low : uses_subject m.type ≡ true → names_spare m.type ≡ false → m.subject < n
  pub subject_spare : names_spare m.type ≡ true → Spare n m.receiver m.sender m.subject
  pub stamp_none : uses_stamp m.type ≡ false → m.stamp ≡ 0
  pub stamp_high : m.stamp ≤ 16777215
  pub view_type : (y : ℕ) → m.view y ≡ true → uses_view m.type ≡ true
  pub view_other : (y : ℕ) → m.view y ≡ true → Other n m.receiver y

-- each of a list
pub data Each {A : Type 0} (P : A → Type 0) : List A → Type 0 where
  nil : Each P []
  cons : {a : A} {l : List A} → P a → Each P l → Each P (a ∷ l)

pub record WellFormed (r : Ring) : Type 0 where
  pub table_well : WellFormedTable r.table
  pub node_well : (x : ℕ) → WellFormedNode (size r.table) x (r.node x)
  pub messages_well : Each (WellFormedMessage (size r.table)) r.messages
  pub count_high : length r.messages ≤ 1024
  pub senders_few : (x : ℕ) → x < size r.table → sent_by x r.messages ≤ 256
