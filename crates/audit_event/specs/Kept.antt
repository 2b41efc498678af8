-- A log: what is kept between two events.
use Rattle.std.specs.Prelude.{◌≡◌, Bool, true, List, [], ◌∷◌, ◌++◌, ℕ, ◌+◌, ◌≤◌, ◌<◌, min, length, take, Result, if◌then◌else◌}
use Rattle.model.specs.Sets.{of_bits}
use Rattle.model.specs.Leafset.{size}
use Rattle.model.specs.Ring.{is_running}
use Rattle.model.specs.Answers.{answer_number}
use Rattle.model.specs.Words.{decode, reads_as_ring}
use Rattle.model.specs.Play.{play_word}
use Rattle.model.specs.declared.refusal.Refusal.{Refusal}
use Rattle.bench_lines.specs.Put.{Put}
use Rattle.audit_account.specs.Partings.{torn, parts}
use Rattle.audit_account.specs.Accounts.{Standing, most, noted, entered, played, parted_text, verdict_text, word_lines}
use Rattle.audit_parting.specs.Groups.{AreGroups}
use Rattle.audit_parting.specs.Groups as groups
use Rattle.audit_account.specs.declared.Account.{Account}
use Rattle.audit_account.specs.declared.Entry.{Entry}
use Rattle.audit_account.specs.declared.Log.{Log}

-- no number is above the count of events
pub record Few (a : Account) : Type 0 where
  pub point : a.point ≤ a.count
  pub uncovered : a.uncovered ≤ a.count
  pub partings : a.partings ≤ a.count
  pub ons : a.ons ≤ a.count
  pub offs : a.offs ≤ a.count
  pub notices : a.notices ≤ a.count

-- after an event that is not yet seen to part nodes
pub record Fresh (a : Account) : Type 0 where
  pub point : a.point ≤ a.count
  pub uncovered : a.uncovered ≤ a.count
  pub partings : a.partings < a.count
  pub ons : a.ons < a.count
  pub offs : a.offs < a.count
  pub notices : a.notices < a.count

-- the lists of a log have room for `most` events and for every node
pub record Long (log : Log) : Type 0 where
  pub listed : length log.listed ≡ most
  pub groups : length log.groups ≡ 64

-- the listed events, with room for `most`
pub record Lists (a : Account) (listed : List Entry) (es : List Entry) : Type 0 where
  pub long : length listed ≡ most
  pub entries : es ≡ take (min a.uncovered most) listed

-- what is kept is that of the standing s
pub record Kept (s : Standing) (ws : List ℕ) (log : Log) : Type 0 where
  pub reads : reads_as_ring ws ≡ true
  pub ring : decode ws ≡ s.ring
  pub account : log.account ≡ s.account
  pub few : Few log.account
  pub lists : Lists log.account log.listed s.listed

-- the word w is played and noted, before anything is printed
pub record Noted (s : Standing) (w : ℕ) (ws : List ℕ) (log : Log) (answer : Result (Unit {0}) Refusal) : Type 0 where
  pub reads : reads_as_ring ws ≡ true
  pub ring : decode ws ≡ (play_word s.ring w).ring
  pub answered : answer_number answer ≡ (play_word s.ring w).answer
  pub account : log.account ≡ noted s.account s.ring w
  pub lists : Lists log.account log.listed (entered s w)

-- an event is listed where there is one, and where there is room
pub record Listed (u : Bool) (k : ℕ) (entry : Entry) (listed listed' : List Entry) : Type 0 where
  pub long : length listed' ≡ most
  pub kept : (k' : ℕ) → k' ≤ k → take k' listed' ≡ take k' listed
  pub added : u ≡ true → k < most → take (k + 1) listed' ≡ take k listed ++ entry ∷ []

-- the groups before and after the word w, the nodes that it parts, and how many nodes there are
pub record Around (s : Standing) (w : ℕ) (old new : List ℕ) (t n : ℕ) : Type 0 where
  pub groups : groups.Around s.ring (play_word s.ring w).ring old new
  pub parted : (x : ℕ) → of_bits t x ≡ torn s.ring (play_word s.ring w).ring x
  pub nodes : n ≡ size s.ring.table

-- the groups of the standing s, of whose ring a node that runs is one of the table
pub record Grouped (s : Standing) (gs : List ℕ) : Type 0 where
  pub groups : AreGroups s.ring gs
  pub low : (x : ℕ) → is_running s.ring x ≡ true → x < size s.ring.table
  pub few : size s.ring.table ≤ 64

-- what an event that parts nodes adds to its line
unfoldable pub parting_text : Standing → ℕ → List ℕ
parting_text s w =
    if parts s.ring (play_word s.ring w).ring
    then parted_text (s.account.count + 1) s.ring (play_word s.ring w).ring
    ++ verdict_text (noted s.account s.ring w) (entered s w)
    else []

-- the word w is played on what is kept of s, and its lines are put
pub record Audits (s : Standing) (w : ℕ) (ws : List ℕ) (log : Log) (out out' : List ℕ) (at end : ℕ) : Type 0 where
  pub kept : Kept (played s w) ws log
  pub grouped : Grouped (played s w) log.groups
  pub put : Put out out' at end (word_lines s w)
