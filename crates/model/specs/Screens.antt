-- The two screens: document 02's note 9.
use Rattle.std.specs.Prelude.{◌≡◌, ℕ, ◌*◌, ◌/◌, ◌%◌, List, [], length, take, drop, replicate, if◌then◌else◌, cond}
use Rattle.model.specs.Sets.{Set, tabulate, to_bits}
use Rattle.model.specs.Leafset.{Table, size, key, leafset}
use Rattle.model.specs.Ring.{Own, Ring, holds, is_running}
use Rattle.model.specs.Words.{decode, is_pair, message_place}
use Rattle.model.specs.Answers.{is_accepted}
use Rattle.model.specs.Buffer.{ring_answer}
use Rattle.model.specs.declared.screen.ConductorScreen.{ConductorScreen}
use Rattle.model.specs.declared.screen.TechnicianScreen.{TechnicianScreen}

-- ---- the conductor's

-- "A, B, table, running marks and held sets": all that the screen may depend on
pub record Seen : Type 0 where
  pub table : Table
  pub running : Set
  pub held : ℕ → Set

abbrev pub seen : Ring → Seen
seen r = record { table = r.table; running = is_running r; held = holds r }

-- "each running stand's leafset of its held set"; 0 for one that is off, and for the numbers of no node
abbrev pub shown_leafset : Seen → ℕ → ℕ
shown_leafset s x = if s.running x then to_bits 64 (leafset s.table x (s.held x)) else 0

-- "The conductor's screen shows A, B, the table, who is running and each running stand's leafset of its held set."
unfoldable pub conductor_screen : Seen → ConductorScreen
conductor_screen s =
    record {
      sides = s.table.sides;
      nodes = size s.table;
      running = to_bits 64 s.running;
      keys = tabulate 64 (key s.table);
      leafsets = tabulate 64 (shown_leafset s);
    }

-- ---- the technician's

-- a part of what x has noted of z, at 64 x + z: 0 in the places of no pair
abbrev pub of_pair_at : Ring → (Own → ℕ → ℕ) → ℕ → ℕ
of_pair_at r part i = if is_pair r.table (i / 64) (i % 64) then part (r.node (i / 64)).own (i % 64) else 0

abbrev pub by_pair : Ring → (Own → ℕ → ℕ) → List ℕ
by_pair r part = tabulate 4096 (of_pair_at r part)

-- "The technician's screen also shows candidates, stamps, spares": the stamps are the commit stamps, 0 where a pair is not held; a spare is a
-- node, or 64 for none
unfoldable pub technician_screen : Ring → TechnicianScreen
technician_screen r = record { conductor = conductor_screen (seen r); candidates = tabulate 64 (λ x. to_bits 64 (r.node x).own.candidates) }

unfoldable pub shown_stamps : Ring → List ℕ
shown_stamps r = by_pair r (λ o. o.commit)

unfoldable pub shown_spares : Ring → List ℕ
shown_spares r = by_pair r (λ o. o.spare)

-- "It gets the travelling messages as a part of the ring's own words, exactly 5 times m of them."
unfoldable pub messages_in : List ℕ → Ring → List ℕ
messages_in ws r = take (5 * length r.messages) (drop (message_place 0) ws)

-- ---- the calls: "Refusals 1 and 6 apply to both."

-- "A refused screen call gives an empty answer: each number 0, each set empty."
unfoldable pub empty_conductor : ConductorScreen
empty_conductor =
    record { sides = record { ahead = 0; behind = 0 }; nodes = 0; running = 0; keys = replicate 64 0; leafsets = replicate 64 0 }

unfoldable pub empty_technician : TechnicianScreen
empty_technician = record { conductor = empty_conductor; candidates = replicate 64 0 }

-- of a lent ring what is shown of it, of any other words the empty answer
abbrev pub shown {ℓ} : {A : Type ℓ} → List ℕ → (Ring → A) → A → A
shown ws show none = cond (is_accepted (ring_answer ws)) (show (decode ws)) none

unfoldable pub conductor_of : List ℕ → ConductorScreen
conductor_of ws = shown ws (λ r. conductor_screen (seen r)) empty_conductor

unfoldable pub technician_of : List ℕ → TechnicianScreen
technician_of ws = shown ws technician_screen empty_technician

-- the lent arrays after the call, whatever they held
unfoldable pub stamps_of : List ℕ → List ℕ
stamps_of ws = shown ws shown_stamps (replicate 4096 0)

unfoldable pub spares_of : List ℕ → List ℕ
spares_of ws = shown ws shown_spares (replicate 4096 0)

-- "of length 0 when refused"
unfoldable pub messages_of : List ℕ → List ℕ
messages_of ws = shown ws (messages_in ws) []

-- ---- what the conductor's screen shows

-- "any two valid rings that agree in A, B, table, running marks and held sets"
pub record Alike (r s : Ring) : Type 0 where
  pub same_table : r.table ≡ s.table
  pub same_running : (x : ℕ) → is_running r x ≡ is_running s x
  pub same_held : (x z : ℕ) → holds r x z ≡ holds s x z
