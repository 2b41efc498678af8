-- A session of the audit: what each chunk of the script prints and leaves.
use Rattle.std.specs.Prelude.{Bool, true, false, List, [], ◌∷◌, ◌++◌, ℕ, ◌+◌, eqb, length, drop, if◌then◌else◌}
use Rattle.bench_script.specs.Chunks.{chunk_size, tail_of}
use Rattle.model.specs.Leafset.{size}
use Rattle.model.specs.Answers.{is_accepted}
use Rattle.model.specs.Bench.{little_endian, script_table, script_answer}
use Rattle.audit_account.specs.Accounts.{Standing, no_ring_text, end_text}
use Rattle.audit_account.specs.Whole.{begins, played_all, all_lines, tail_line}
use Rattle.audit_account.specs.declared.Account.{Account}

-- what a chunk prints; how it stands, and whether a ring is open after it; whether there is more to come
pub record Turn : Type 0 where
  pub bytes : List ℕ
  pub standing : Standing
  pub opened : Bool
  pub more : Bool

-- a chunk that is not the last
abbrev pub is_full : List ℕ → Bool
is_full chunk = eqb (length chunk) chunk_size

-- the last line, after the last chunk
unfoldable pub end_of : Bool → Account → List ℕ
end_of more a = if more then [] else end_text a

-- the events ws of a chunk
unfoldable pub played_turn : Standing → List ℕ → List ℕ → Turn
played_turn s ws chunk =
    record {
      bytes = all_lines s ws ++ tail_line (played_all s ws) (tail_of chunk) ++ end_of (is_full chunk) (played_all s ws).account;
      standing = played_all s ws;
      opened = true;
      more = is_full chunk;
    }

-- the words of the first chunk, which open a ring or not
unfoldable pub first_turn : List ℕ → List ℕ → Turn
first_turn ws chunk =
    if is_accepted (script_answer ws)
    then played_turn (begins (script_table ws)) (drop (1 + size (script_table ws)) ws) chunk
    else record {
      bytes = no_ring_text (script_answer ws);
      standing = begins (script_table ws);
      opened = false;
      more = false;
    }

-- the words of a chunk, where a ring is open already or not
unfoldable pub words_turn : Bool → Standing → List ℕ → List ℕ → Turn
words_turn already s ws chunk = if already then played_turn s ws chunk else first_turn ws chunk

-- a chunk
abbrev pub audit_turn : Bool → Standing → List ℕ → Turn
audit_turn already s chunk = words_turn already s (little_endian chunk) chunk

-- what the chunks print, one after the other
unfoldable pub turns_bytes : Bool → Standing → List (List ℕ) → List ℕ
turns_bytes already s [] = []
turns_bytes already s (c ∷ cs) =
    let t : Turn = audit_turn already s c in
    t.bytes ++ (if t.more then turns_bytes t.opened t.standing cs else [])
