-- A session in lent words: what a chunk needs, and what it leaves.
use Rattle.std.specs.Prelude.{◌≡◌, true, List, ℕ, ◌*◌, ◌≤◌, min, length, take}
use Rattle.bench_lines.specs.Put.{Put}
use Rattle.model.specs.Words.{ring_length, decode}
use Rattle.audit_account.specs.Accounts.{Standing, most}
use Rattle.audit_account.specs.Whole.{played_all, all_lines}
use Rattle.audit_account.specs.declared.Log.{Log}
use Rattle.audit_event.specs.Kept.{Kept, Grouped}
use Rattle.audit_session.specs.Turns.{Turn}
use Rattle.audit_session.specs.declared.turn.Session.{Session}

-- the standing whose ring is in the words ws, and whose account and listed events are in the log
unfoldable pub standing_of : List ℕ → Log → Standing
standing_of ws log = record { ring = decode ws; account = log.account; listed = take (min log.account.uncovered most) log.listed }

-- what is kept is that of the standing s, and so are the groups
pub record Holds (s : Standing) (ws : List ℕ) (log : Log) : Type 0 where
  pub kept : Kept s ws log
  pub grouped : Grouped s log.groups

-- the words of the script are played on s
pub record AllAudited (s : Standing) (script ws : List ℕ) (log : Log) (out out' : List ℕ) (end : ℕ) : Type 0 where
  pub holds : Holds (played_all s script) ws log
  pub put : Put out out' 0 end (all_lines s script)
  pub room : end ≤ 2914 * length script

-- what a session needs: the words of a ring and its log, once one is open; and it has played at most k events
pub record Ready (k : ℕ) (s : Session) (ws : List ℕ) : Type 0 where
  pub long : length ws ≡ ring_length
  pub holds : s.opened ≡ true → Holds (standing_of ws s.log) ws s.log
  pub few : s.log.account.count ≤ k

-- the session s, the words and the output are what the turn gives
pub record Stepped (t : Turn) (ws out out' : List ℕ) (s : Session) : Type 0 where
  pub more : s.more ≡ t.more
  pub opened : s.opened ≡ t.opened
  pub account : s.log.account ≡ t.standing.account
  pub put : Put out out' 0 s.end t.bytes
  pub long : length ws ≡ ring_length
  pub holds : t.opened ≡ true → Holds t.standing ws s.log
