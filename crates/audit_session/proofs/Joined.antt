-- The chunks of a script, one after the other, print the account of the whole script: the audit is a session of `bench_script`.
use mathlib.Core.Path.{◌≡◌, refl}
use mathlib.Core.Bool.{true, false}
use mathlib.Core.List.{List, [], ◌++◌, append-nil}
use Prim.Native.Nat.{ℕ}
use Rattle.std.specs.Prelude.{if◌then◌else◌}
use Rattle.model.specs.Bench.{little_endian, script_table}
use Rattle.bench_script.specs.Chunks.{chunks, tail_of}
use Rattle.bench_script.proofs.Chunks.{every_script_is_cut}
use Rattle.bench_script.proofs.Sessions.{Session, end_or_more}
use Rattle.bench_open.proofs.FirstChunk.{events, Opening, every_opening}
use Rattle.audit_account.specs.Accounts.{Standing, played, word_lines, no_ring_text, end_text}
use Rattle.audit_account.specs.Whole.{begins, played_all, all_lines, tail_line, rest, audit}
use Rattle.audit_session.specs.Turns.{Turn, is_full, end_of, played_turn, first_turn, words_turn, turns_bytes}

-- what the turn prints, and the chunks cs after it
abbrev and_then : Turn → List (List ℕ) → List ℕ
and_then t cs = t.bytes ++ (if t.more then turns_bytes t.opened t.standing cs else [])

played_turn_lem : (s : Standing) (ws c : List ℕ) (cs : List (List ℕ))
    → and_then (played_turn s ws c) cs
    ≡ all_lines s ws
    ++ tail_line (played_all s ws) (tail_of c)
    ++ (if is_full c then turns_bytes true (played_all s ws) cs else end_text (played_all s ws).account)
unfolding played_turn end_of
played_turn_lem s ws c cs = end_or_more (is_full c) (all_lines s ws ++ tail_line (played_all s ws) (tail_of c)) _ _

session : Session Standing
unfolding played_all all_lines tail_line turns_bytes words_turn
session =
    record {
      line = word_lines;
      next = played;
      lines = all_lines;
      lines_none = λ s. refl;
      lines_one = λ s w ws. refl;
      after = played_all;
      after_none = λ s. refl;
      after_one = λ s w ws. refl;
      tail = tail_line;
      tail_none = λ s. refl;
      end = λ s. end_text s.account;
      turns = turns_bytes true;
      turns_one = λ s c cs. played_turn_lem s (little_endian c) c cs;
    }

-- whatever the standing before it
opening : Standing → Opening session
unfolding session turns_bytes words_turn first_turn
opening s =
    record {
      begins = begins;
      refusal = no_ring_text;
      chunks = turns_bytes false s;
      accepted = λ c cs e. rw e (played_turn_lem (begins (script_table (little_endian c))) (events (little_endian c)) c cs);
      refused = λ c cs e. rw e (append-nil _);
    }

-- for every list of bytes, what its chunks print one after the other is its account
pub every_script_audits : (script : List ℕ) (s : Standing) → turns_bytes false s (chunks script) ≡ audit script
unfolding session opening rest audit
every_script_audits script s = every_opening (opening s) (every_script_is_cut script)
