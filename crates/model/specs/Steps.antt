-- The steps: what a timer, a contact, a notice or a delivered message does to the own record of the node `me`, and what it sends.
use Rattle.std.specs.Prelude.{ℕ, not, ◌&&◌, ◌||◌, List, [], ◌∷◌, ◌++◌, map, get_or, ltb, eqb, if◌then◌else◌}
use Rattle.model.specs.Sets.{Set, empty, with, without, union, put, members, some, none_node}
use Rattle.model.specs.Leafset.{Table, size, leafset, closest, successor, passes_zero}
use Rattle.model.specs.Ring.{Own, Message}
use Rattle.model.specs.Types.{ping_contact, pong_contact, ping_ask_inv, pong_ask_inv, ping_invite, pong_invite}
use Rattle.model.specs.Types.{ping_ask_repl, pong_ask_repl, ping_replace, pong_replace, ping_deloopy, pong_deloopy, leave}

-- what a step leaves: the own record, and the new messages, oldest first
pub record Effect : Type 0 where
  pub own : Own
  pub sent : List Message

-- a message of a type that uses subject and stamp; the subject; neither; the view
abbrev pub stamped : ℕ → ℕ → ℕ → ℕ → ℕ → Message
stamped type x y z time = record { type = type; sender = x; receiver = y; subject = z; stamp = time; view = empty }

abbrev pub naming : ℕ → ℕ → ℕ → ℕ → Message
naming type x y z = stamped type x y z 0

abbrev pub plain : ℕ → ℕ → ℕ → Message
plain type x y = naming type x y none_node

abbrev pub viewing : ℕ → ℕ → ℕ → Set → Message
viewing type x y S = record { type = type; sender = x; receiver = y; subject = none_node; stamp = 0; view = S }

-- the changes of an own record, one part each
abbrev pub set_candidates : Set → Own → Own
set_candidates S o = record { held = o.held; candidates = S; commit = o.commit; spare = o.spare }

abbrev pub set_commit : ℕ → ℕ → Own → Own
set_commit z time o = record { held = o.held; candidates = o.candidates; commit = put o.commit z time; spare = o.spare }

abbrev pub set_spare : ℕ → ℕ → Own → Own
set_spare z y o = record { held = o.held; candidates = o.candidates; commit = o.commit; spare = put o.spare z y }

abbrev pub add_candidates : Set → Own → Own
add_candidates S o = set_candidates (union o.candidates S) o

abbrev pub add_candidate : ℕ → Own → Own
add_candidate y o = set_candidates (with o.candidates y) o

-- hold y, document 01's take in: ""Take in" y: if not held, it becomes held with commit now and no spare; if held, nothing changes."
unfoldable pub hold : ℕ → ℕ → Own → Own
hold now y o =
    if o.held y
    then o
    else record { held = with o.held y; candidates = o.candidates; commit = put o.commit y now; spare = put o.spare y none_node }

-- release z, document 01's let go: ""Let go": held, stamp and spare are cleared."
unfoldable pub release : ℕ → Own → Own
release z o = record { held = without o.held z; candidates = o.candidates; commit = put o.commit z 0; spare = put o.spare z none_node }

-- forget z, as a notice does: it "lets go of its subject if held", and "strikes its subject from the receiver's candidates, held or not"
unfoldable pub forget : ℕ → Own → Own
forget z o = set_candidates (without o.candidates z) (if o.held z then release z o else o)

-- the steps of the node `me`, whose clock is now `now` and whose own record is `o`
module _ (t : Table) (me now : ℕ) (o : Own) where
  abbrev pub quiet : Own → Effect
  quiet p = record { own = p; sent = [] }

  abbrev pub send : List Message → Effect
  send ms = record { own = o; sent = ms }

  abbrev pub nothing : Effect
  nothing = quiet o

  -- a message for each of S, "in rising order of the stand looped over"
  abbrev pub to_each : Set → (ℕ → Message) → List Message
  to_each S make = map make (members (size t) S)

  -- "my leafset of the held", and the held nodes outside it
  abbrev pub mine : Set
  mine = leafset t me o.held

  abbrev pub outside : Set
  outside z = o.held z && not (mine z)

  -- "1. Contact y: send type 1 to y"
  unfoldable pub contact : ℕ → Effect
  contact y = send (plain ping_contact me y ∷ [])

  -- a notice, as document 02's note 1 has it
  unfoldable pub notice : ℕ → Effect
  notice z = quiet (forget z o)

  -- "An off event with bit 12 set first sends type 13 to each held stand, rising"
  unfoldable pub leaving : Effect
  leaving = send (to_each o.held (λ y. plain leave me y))

  -- "type 5 to each candidate not held that is in my leafset of candidates and held together"
  abbrev pub invited : Set
  invited y = o.candidates y && not (o.held y) && leafset t me (union o.candidates o.held) y

  abbrev pub invitations : List Message
  invitations = to_each invited (λ y. plain ping_invite me y)

  -- "type 3 to each held stand"
  abbrev pub questions : List Message
  questions = to_each o.held (λ y. plain ping_ask_inv me y)

  -- "2. Timer 0", as document 02's note 7 has it: it "does the inviting first, then the asking"; "then candidates are emptied"
  unfoldable pub timer0 : Effect
  timer0 = record { own = set_candidates empty o; sent = invitations ++ questions }

  -- "3. Timer 2: type 7 to each held stand outside my leafset of the held."
  unfoldable pub timer2 : Effect
  timer2 = send (to_each outside (λ z. plain ping_ask_repl me z))

  -- "4. Timer 3: for each held z outside my leafset with a spare, type 9 to the spare, subject z, stamp now."
  unfoldable pub timer3 : Effect
  timer3 = send (to_each (λ z. outside z && not (eqb (o.spare z) none_node)) (λ z. stamped ping_replace me (o.spare z) z now))

  -- "Timer 4: if it passes zero, type 11, subject myself, to the successor."
  unfoldable pub timer4 : Effect
  timer4 = if passes_zero t me o.held then send (naming ping_deloopy me (successor t me o.held) me ∷ []) else nothing

  -- by number; 1 is no timer
  unfoldable pub timer : ℕ → Effect
  timer k = get_or (timer0 ∷ nothing ∷ timer2 ∷ timer3 ∷ timer4 ∷ []) k nothing

  -- what the delivery of the message m does, by its type
  module _ (m : Message) where
    -- on 1: "its receiver answers type 2"
    unfoldable pub on_ping_contact : Effect
    on_ping_contact = send (plain pong_contact me m.sender ∷ [])

    -- "on type 2, take the sender in"
    unfoldable pub on_pong_contact : Effect
    on_pong_contact = quiet (hold now m.sender o)

    -- "On 3: answer type 4 with view = leafset of the sender in my held set; sender becomes a candidate."
    unfoldable pub on_ping_ask_inv : Effect
    on_ping_ask_inv =
        record {
          own = add_candidate m.sender o;
          sent = viewing pong_ask_inv me m.sender (leafset t m.sender o.held) ∷ [];
        }

    -- "On 4: the view joins the candidates."
    unfoldable pub on_pong_ask_inv : Effect
    on_pong_ask_inv = quiet (add_candidates m.view o)

    -- "On 5: answer 6."
    unfoldable pub on_ping_invite : Effect
    on_ping_invite = send (plain pong_invite me m.sender ∷ [])

    -- "On 6: take the sender in if it lies in my leafset of held plus sender."
    unfoldable pub on_pong_invite : Effect
    on_pong_invite = if leafset t me (with o.held m.sender) m.sender then quiet (hold now m.sender o) else nothing

    -- "On 7 from a: answer 8 whose subject is .." the closest
    unfoldable pub on_ping_ask_repl : Effect
    on_ping_ask_repl = send (naming pong_ask_repl me m.sender (closest t me o.held m.sender) ∷ [])

    -- "On 8: if the sender is held, its spare becomes the subject."
    unfoldable pub on_pong_ask_repl : Effect
    on_pong_ask_repl = if o.held m.sender then quiet (set_spare m.sender m.subject o) else nothing

    -- "On 9: if z is held, its commit becomes now and I answer 10 with the same subject and stamp."
    unfoldable pub on_ping_replace : Effect
    on_ping_replace =
        if o.held m.subject
        then record { own = set_commit m.subject now o; sent = stamped pong_replace me m.sender m.subject m.stamp ∷ [] }
        else nothing

    -- "On 10 from y: if z is held, outside my leafset, and its spare is y, take y in;
    -- then, if z's commit is below the message's stamp, let go of z and set y's commit to now."
    unfoldable pub on_pong_replace : Effect
    on_pong_replace =
        if outside m.subject && eqb (o.spare m.subject) m.sender
        then
        quiet
        (if ltb (o.commit m.subject) m.stamp
        then set_commit m.sender now (release m.subject (hold now m.sender o))
        else hold now m.sender o)
        else nothing

    -- "On 11, subject o: nothing if o is me or I hold nobody; if my successor passes zero, o becomes a candidate
    -- and I send type 12 to o; else type 11, subject o, to my successor."
    unfoldable pub on_ping_deloopy : Effect
    on_ping_deloopy =
        if eqb m.subject me || not (some (size t) o.held)
        then nothing
        else
        if passes_zero t me o.held
        then record { own = add_candidate m.subject o; sent = plain pong_deloopy me m.subject ∷ [] }
        else send (naming ping_deloopy me (successor t me o.held) m.subject ∷ [])

    -- "On 12: the sender becomes a candidate."
    unfoldable pub on_pong_deloopy : Effect
    on_pong_deloopy = quiet (add_candidate m.sender o)

    -- "The receiver of type 13 lets go of the sender and strikes it from the candidates."
    unfoldable pub on_leave : Effect
    on_leave = quiet (forget m.sender o)

    -- a step a type, from type 1 on
    abbrev pub step_by_type : List Effect
    step_by_type =
        on_ping_contact ∷ on_pong_contact ∷ on_ping_ask_inv ∷ on_pong_ask_inv ∷ on_ping_invite ∷ on_pong_invite
        ∷ on_ping_ask_repl ∷ on_pong_ask_repl ∷ on_ping_replace ∷ on_pong_replace ∷ on_ping_deloopy ∷ on_pong_deloopy
        ∷ on_leave
        ∷ []

    -- a number that is no type does nothing
    unfoldable pub deliver : Effect
    deliver = get_or (nothing ∷ step_by_type) m.type nothing
