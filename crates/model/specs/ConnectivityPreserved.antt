-- Demand 3, document 01's unbroken connection, as one statement about a whole list of words on a lent buffer.
-- The name is source 001's, "Connectivity Preservation".
use Rattle.std.specs.Prelude.{◌≡◌, ℕ, ◌≤◌, ◌<◌, Bool, true, false, not, ◌&&◌, length, get_or, take, leb}
use mathlib.Core.List.{List, Memᴰ}
use Rattle.model.specs.Sets.{members}
use Rattle.model.specs.Leafset.{Table}
use Rattle.model.specs.Ring.{Ring, Message, initial, is_running}
use Rattle.model.specs.WellFormed.{Each}
use Rattle.model.specs.Answers.{is_accepted}
use Rattle.model.specs.Types.{pong_replace, leave}
use Rattle.model.specs.Events.{event_of}
use Rattle.model.specs.Play.{play_word, play_all}
use Rattle.model.specs.Buffer.{open_buffer, play_buffer, play_buffer_all}
use Rattle.model.specs.Words.{encode, decode}
use Rattle.model.specs.Connection.{Connected}
use Rattle.model.specs.Join.{join, join_buffer}
use Rattle.model.specs.declared.event.Event.{Event}
use Rattle.model.specs.declared.event.Event.TheVariants.{On, Off, Notice, Contact, Timer, Deliver, Lose}

-- no replacement acknowledgement is in flight
abbrev pub NoAcknowledgement : Ring → Type 0
NoAcknowledgement r = (m : Message) → Memᴰ m r.messages → ¬ (m.type ≡ pong_replace)

-- "no type 13 from a running stand is travelling": who says that it leaves is off
abbrev pub LeaversOff : Ring → Type 0
LeaversOff r = (m : Message) → Memᴰ m r.messages → m.type ≡ leave → is_running r m.sender ≡ false

-- neither on nor off, polite or not; a notice names a node that is off in the ring on which it is played
abbrev pub Harmless : Ring → Event → Type 0
Harmless r (On x) = ⊥
Harmless r (Off x polite) = ⊥
Harmless r (Notice x z) = is_running r z.0 ≡ false
Harmless r (Contact x y) = Unit
Harmless r (Timer x k) = Unit
Harmless r (Deliver i echo) = Unit
Harmless r (Lose i) = Unit

-- a test for it
abbrev pub is_harmless : Ring → Event → Bool
is_harmless r (On x) = false
is_harmless r (Off x polite) = false
is_harmless r (Notice x z) = not (is_running r z.0)
is_harmless r (Contact x y) = true
is_harmless r (Timer x k) = true
is_harmless r (Deliver i echo) = true
is_harmless r (Lose i) = true

-- A list starts from a ring that was reached: lent words, with the ring that the rules give for them.
pub data Reached : List ℕ → Ring → Type 0 where
  -- "It starts from the ring that an accepted opening writes", for any A, B and keys, over any old words
  opened : (old : List ℕ) (t : Table) → (open_buffer old t).answer ≡ 0 → Reached (open_buffer old t).words (initial t)
  -- "Each word is played on what the one before left, a refused one changing nothing, and nobody else writes the ring meanwhile."
  played : {ws : List ℕ} {r : Ring} → Reached ws r → (w : ℕ) → Reached (play_buffer ws w).words (play_word r w).ring
  -- "A list of events may from now on start from a join of rings that such lists reached": of joins too, over any old words
  joined :
      {first second : List ℕ} {r s : Ring} → Reached first r → Reached second s
      → (third : List ℕ) → (join_buffer first second third).answer ≡ 0
      → Reached (join_buffer first second third).words (join r s)

-- a list of words, played on the lent words `start`
module _ (start words : List ℕ) where
  -- "A point is the start or the moment after one of the words": the lent words after the first i words
  abbrev pub words_at : ℕ → List ℕ
  words_at i = play_buffer_all start (take i words)

  -- "its ring is the one that this paper's rules for events .. give for the words so far", from r, the ring of the start
  abbrev pub ring_at : Ring → ℕ → Ring
  ring_at r i = play_all r (take i words)

  -- "Running, held and travelling are read from that ring."
  abbrev pub read_at : ℕ → Ring
  read_at i = decode (words_at i)

  -- "The answer of each call": of that which plays word i
  abbrev pub answer_at : ℕ → ℕ
  answer_at i = (play_buffer (words_at i) (get_or words i 0)).answer

  -- word i, if it is accepted, is the word of a harmless event
  abbrev pub AcceptedIsHarmless : ℕ → Type 0
  AcceptedIsHarmless i = answer_at i ≡ 0 → Harmless (read_at i) (event_of (get_or words i 0))

  -- word i is accepted, and is not the word of a harmless event
  abbrev pub Uncovered : ℕ → Type 0
  Uncovered i = (answer_at i ≡ 0) × ¬ Harmless (read_at i) (event_of (get_or words i 0))

  -- a test for it
  abbrev pub is_uncovered : ℕ → Bool
  is_uncovered i = is_accepted (answer_at i) && not (is_harmless (read_at i) (event_of (get_or words i 0)))

  -- the places of all such words between two points, in rising order, computed: the first word of the list has place 0
  abbrev pub uncovered : ℕ → ℕ → List ℕ
  uncovered point later = members later (λ i. leb point i && is_uncovered i)

  pub record Unbroken (r : Ring) : Type 0 where
    -- "every lent word after it, equal what those rules give"
    pub words_follow : (i : ℕ) → i ≤ length words → words_at i ≡ encode (ring_at r i)
    pub ring_follows : (i : ℕ) → i ≤ length words → read_at i ≡ ring_at r i
    -- "The answer of each call .. equal what those rules give"
    pub answers_follow : (i : ℕ) → i < length words → answer_at i ≡ (play_word (ring_at r i) (get_or words i 0)).answer
    -- Take any point at which no replacement acknowledgement is in flight, and no type 13 from a running node. Suppose that after it no
    -- on and no off is accepted, and that each notice accepted after it names a node that is off. Then any two nodes connected at that point are connected at
    -- every later point of the list.
    pub connection_kept :
        (point : ℕ) → point ≤ length words
        → NoAcknowledgement (read_at point)
        → LeaversOff (read_at point)
        → ((k : ℕ) → point ≤ k → k < length words → AcceptedIsHarmless k)
        → (a b : ℕ) → Connected (read_at point) a b
        → (later : ℕ) → point ≤ later → later ≤ length words
        → Connected (read_at later) a b
    -- More than demand 3: take such a point, and two points from it on, an earlier and a later one. Suppose the same of what is
    -- accepted between the point and the later one. Then any two nodes connected at the earlier one are connected at the later
    -- one, although acknowledgements may be in flight at the earlier one, and the two may have become connected only after the point.
    pub connection_kept_later :
        (point : ℕ) → NoAcknowledgement (read_at point) → LeaversOff (read_at point)
        → (earlier later : ℕ) → point ≤ earlier → earlier ≤ later → later ≤ length words
        → ((k : ℕ) → point ≤ k → k < later → AcceptedIsHarmless k)
        → (a b : ℕ) → Connected (read_at earlier) a b
        → Connected (read_at later) a b
    -- For checking a log: where two nodes are connected at the earlier one and not at the later one, such as the next, some word
    -- between the point and the later one is accepted and not harmless: the list of these is not empty. The two need not both run
    -- at the later one, since switching off is such a word.
    pub parting_is_uncovered :
        (point : ℕ) → NoAcknowledgement (read_at point) → LeaversOff (read_at point)
        → (earlier later : ℕ) → point ≤ earlier → earlier ≤ later → later ≤ length words
        → (a b : ℕ) → Connected (read_at earlier) a b → ¬ Connected (read_at later) a b
        → 0 < length (uncovered point later)
    -- the list has only such words
    pub uncovered_are : (point later : ℕ) → Each (λ i. (point ≤ i) × (i < later) × Uncovered i) (uncovered point later)

-- from every ring that was reached, and for any list of words, those that are no event included
abbrev pub ConnectivityPreserved : Type 0
ConnectivityPreserved = (start : List ℕ) (r : Ring) → Reached start r → (words : List ℕ) → Unbroken start words r
