-- The message types: their numbers and names, and what of a message each uses.
use Rattle.std.specs.Prelude.{ℕ, ◌≡◌, ◌<◌, Bool, true, false, List, [], ◌∷◌, length, get_or, Result, MatchResult}
use Rattle.model.specs.declared.message.MessageType.{MessageType}
use Rattle.model.specs.declared.message.MessageType.TheVariants.{PingContact, PongContact, PingAskInv, PongAskInv, PingInvite, PongInvite, PingAskRepl}
use Rattle.model.specs.declared.message.MessageType.TheVariants.{PongAskRepl, PingReplace, PongReplace, PingDeloopy, PongDeloopy, Leave}
use Rattle.model.specs.declared.message.NoType.{NoType}

-- document 01 numbers them, source 001 names them
abbrev pub ping_contact : ℕ
ping_contact = 1

abbrev pub pong_contact : ℕ
pong_contact = 2

abbrev pub ping_ask_inv : ℕ
ping_ask_inv = 3

abbrev pub pong_ask_inv : ℕ
pong_ask_inv = 4

abbrev pub ping_invite : ℕ
ping_invite = 5

abbrev pub pong_invite : ℕ
pong_invite = 6

abbrev pub ping_ask_repl : ℕ
ping_ask_repl = 7

abbrev pub pong_ask_repl : ℕ
pong_ask_repl = 8

abbrev pub ping_replace : ℕ
ping_replace = 9

-- "Type 10 is the replacement acknowledgement."
abbrev pub pong_replace : ℕ
pong_replace = 10

abbrev pub ping_deloopy : ℕ
ping_deloopy = 11

abbrev pub pong_deloopy : ℕ
pong_deloopy = 12

-- "Type 13 joins the types valid in a ring"; no source names it
abbrev pub leave : ℕ
leave = 13

abbrev pub type_number : MessageType → ℕ
type_number PingContact = ping_contact
type_number PongContact = pong_contact
type_number PingAskInv = ping_ask_inv
type_number PongAskInv = pong_ask_inv
type_number PingInvite = ping_invite
type_number PongInvite = pong_invite
type_number PingAskRepl = ping_ask_repl
type_number PongAskRepl = pong_ask_repl
type_number PingReplace = ping_replace
type_number PongReplace = pong_replace
type_number PingDeloopy = ping_deloopy
type_number PongDeloopy = pong_deloopy
type_number Leave = leave

-- the type of a number, or the number, which is no type's
abbrev pub IsTypeOf : ℕ → Result MessageType NoType → Type 0
IsTypeOf k r = MatchResult r (λ type. type_number type ≡ k) (λ none. (none.0 ≡ k) × (0 < k → 13 < k))

-- what of a message a type uses; whether its subject is a spare: 64, or a node other than both ends
pub record Uses : Type 0 where
  pub view : Bool
  pub subject : Bool
  pub spare : Bool
  pub stamp : Bool

abbrev pub nothing_used : Uses
nothing_used = record { view = false; subject = false; spare = false; stamp = false }

abbrev pub view_used : Uses
view_used = record { view = true; subject = false; spare = false; stamp = false }

abbrev pub subject_used : Uses
subject_used = record { view = false; subject = true; spare = false; stamp = false }

abbrev pub spare_used : Uses
spare_used = record { view = false; subject = true; spare = true; stamp = false }

abbrev pub subject_and_stamp_used : Uses
subject_and_stamp_used = record { view = false; subject = true; spare = false; stamp = true }

-- "Type 4 uses the view; 8 and 11 the subject; 9 and 10 subject and stamp; the others none. Of the four that use the subject, only type 8
-- may have 64 there"; type 13 "uses no subject, stamp or view": a row a type, from type 1 on
unfoldable pub used_by_type : List Uses
used_by_type =
    nothing_used  -- ping_contact
    ∷ nothing_used  -- pong_contact
    ∷ nothing_used  -- ping_ask_inv
    ∷ view_used  -- pong_ask_inv
    ∷ nothing_used  -- ping_invite
    ∷ nothing_used  -- pong_invite
    ∷ nothing_used  -- ping_ask_repl
    ∷ spare_used  -- pong_ask_repl
    ∷ subject_and_stamp_used  -- ping_replace
    ∷ subject_and_stamp_used  -- pong_replace
    ∷ subject_used  -- ping_deloopy
    ∷ nothing_used  -- pong_deloopy
    ∷ nothing_used  -- leave
    ∷ []

-- how many types there are
abbrev pub types : ℕ
types = length used_by_type

-- a number that is no type uses nothing
abbrev pub uses_of : ℕ → Uses
uses_of type = get_or (nothing_used ∷ used_by_type) type nothing_used

abbrev pub uses_view : ℕ → Bool
uses_view type = (uses_of type).view

abbrev pub uses_subject : ℕ → Bool
uses_subject type = (uses_of type).subject

abbrev pub names_spare : ℕ → Bool
names_spare type = (uses_of type).spare

abbrev pub uses_stamp : ℕ → Bool
uses_stamp type = (uses_of type).stamp
