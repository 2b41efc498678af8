-- The account of a whole script.
use Rattle.std.specs.Prelude.{ℕ, ◌+◌, ◌*◌, List, [], ◌∷◌, ◌++◌, length, drop, if◌then◌else◌}
use Rattle.bench_lines.specs.Decimal.{space}
use Rattle.text_form.specs.Names.{tail_name}
use Rattle.text_form.specs.Describe.{hex_bytes}
use Rattle.model.specs.Leafset.{Table, size}
use Rattle.model.specs.Ring.{initial}
use Rattle.model.specs.Answers.{is_accepted, number_of}
use Rattle.model.specs.Bench.{little_endian, script_table, script_answer}
use Rattle.model.specs.declared.refusal.Refusal.TheVariants.{NotAnEvent}
use Rattle.audit_account.specs.Accounts.{opened, Standing, played, no_ring_text, event_text, word_lines, end_text}

abbrev pub begins : Table → Standing
begins t = record { ring = initial t; account = opened; listed = [] }

-- the words of a script, one after the other: what they leave, and what they print
unfoldable pub played_all : Standing → List ℕ → Standing
played_all s [] = s
played_all s (w ∷ ws) = played_all (played s w) ws

unfoldable pub all_lines : Standing → List ℕ → List ℕ
all_lines s [] = []
all_lines s (w ∷ ws) = word_lines s w ++ all_lines (played s w) ws

-- "A tail under 4 bytes is an event answered 4."
unfoldable pub tail_line : Standing → List ℕ → List ℕ
tail_line s [] = []
tail_line s (b ∷ bs) = event_text (s.account.count + 1) (tail_name ++ space ∷ hex_bytes (b ∷ bs)) (number_of NotAnEvent) s.ring

-- the events ws, then the tail, after which the script ends
unfoldable pub rest : Standing → List ℕ → List ℕ → List ℕ
rest s ws tail = all_lines s ws ++ tail_line (played_all s ws) tail ++ end_text (played_all s ws).account

unfoldable pub audit : List ℕ → List ℕ
audit bytes =
    if is_accepted (script_answer ws)
    then rest (begins (script_table ws)) (drop (1 + size (script_table ws)) ws) (drop (4 * length ws) bytes)
    else no_ring_text (script_answer ws)
  where
    ws : List ℕ
    ws = little_endian bytes
