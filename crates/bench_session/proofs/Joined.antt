-- The chunks of a script, one after the other, print what the definition of the bench says of the whole script: the bench is a session of
-- `bench_script`, which stands at a count of events and a ring.
use mathlib.Core.Path.{◌≡◌, refl, sym, ap, ◌∙◌}
use mathlib.Core.Bool.{true, false}
use mathlib.Core.List.{List, [], ◌∷◌, ◌++◌, append_assoc, append-nil}
use Prim.Native.Nat.{ℕ, ◌+◌, ◌*◌, ◌%◌, ◌≤◌}
use native.Mathlib.Nat.{zero-add}
use native.Mathlib.Omega.{arith}
use borrow.Author.Tests.{eq-eqb, ne_eqb, eqb-true, eqb-false}
use lib.Dec.{eqb}
use lib.ListN.{length, length-drop}
use Rattle.bench_lines.specs.Decimal.{line_bytes, lines_bytes}
use Rattle.bench_lines.proofs.Decimals.{lines_append, one_line}
use Rattle.std.specs.Prelude.{if◌then◌else◌}
use Rattle.model.specs.Ring.{Ring, initial}
use Rattle.model.specs.Sets.{tabulate}
use Rattle.model.specs.Leafset.{size}
use Rattle.model.specs.Play.{play_answer, play_word, play_all}
use Rattle.model.specs.Events.{event_of}
use Rattle.model.specs.Answers.{number_of, is_accepted}
use Rattle.model.specs.Connection.{groups}
use Rattle.model.specs.Bench.{Line, little_endian, event_lines, script_table, script_answer, node_line, bench}
use Rattle.bench_report.specs.Report.{groups_bytes, end_bytes}
use Rattle.model.specs.declared.refusal.Refusal.TheVariants.{NotAnEvent}
use Rattle.model.proofs.Cases.{after_table}
use Rattle.model.proofs.Laws.{decide, if_law}
use Rattle.bench_script.specs.Chunks.{Cut, chunk_size, chunks, tail_of}
use Rattle.bench_script.proofs.Chunks.{few_words, many_words, every_script_is_cut}
use Rattle.bench_script.proofs.Sessions.{Session, end_or_more, whole}
use Rattle.bench_open.proofs.FirstChunk.{events, Opening, opened, every_opening}
use Rattle.bench_session.specs.Turns.{Turn, tail_lines, end_of, played_turn, first_turn, words_turn}
use Rattle.bench_session.specs.Whole.{turns_bytes, printed_bytes}

-- ---- a chunk of events

-- a tail is what four bytes a word leave over
same_rest : (b : List ℕ) → length (tail_of b) % 4 ≡ length b % 4
same_rest b = omega (arith, few_words b, length-drop (4 * length (little_endian b)) b)

tail_of_chunk : (k : ℕ) (r : Ring) (c : List ℕ) → tail_lines k r (length c) ≡ tail_lines k r (length (tail_of c))
unfolding tail_lines
tail_of_chunk k r c = rw (same_rest c)

-- what the turn prints, and the chunks cs after it
abbrev and_then : Turn → List (List ℕ) → List ℕ
and_then t cs = t.bytes ++ (if t.more then turns_bytes t.opened t.events t.ring cs else [])

played_turn_lem : (k : ℕ) (r : Ring) (ws c : List ℕ) (cs : List (List ℕ))
    → and_then (played_turn k r ws (length c)) cs
    ≡ lines_bytes (event_lines (k + 1) r ws)
    ++ lines_bytes (tail_lines (k + length ws) (play_all r ws) (length (tail_of c)))
    ++ (if eqb (length c) chunk_size then turns_bytes true (k + length ws) (play_all r ws) cs else end_bytes (play_all r ws))
unfolding played_turn end_of
played_turn_lem k r ws c cs =
    let bytes : List ℕ = lines_bytes (event_lines (k + 1) r ws) ++ lines_bytes (tail_lines (k + length ws) (play_all r ws) (length c)) in
    rw (← tail_of_chunk (k + length ws) (play_all r ws) c) (end_or_more (eqb (length c) chunk_size) bytes _ _)

-- ---- the session

session : Session (ℕ × Ring)
unfolding event_lines play_all lines_bytes tail_lines turns_bytes words_turn
session =
    record {
      line = λ s w. line_bytes ((s.0 + 1) ∷ (play_word s.1 w).answer ∷ length (play_word s.1 w).ring.messages ∷ []);
      next = λ s w. (s.0 + 1, (play_word s.1 w).ring);
      lines = λ s ws. lines_bytes (event_lines (s.0 + 1) s.1 ws);
      lines_none = λ s. refl;
      lines_one = λ s w ws. refl;
      after = λ s ws. (s.0 + length ws, play_all s.1 ws);
      after_none = λ s. ap (λ (k : ℕ). (k, s.1)) (omega arith);
      after_one = λ s w ws. ap (λ (k : ℕ). (k, play_all (play_word s.1 w).ring ws)) (omega arith);
      tail = λ s tail. lines_bytes (tail_lines s.0 s.1 (length tail));
      tail_none = λ s. refl;
      end = λ s. end_bytes s.1;
      turns = λ s cs. turns_bytes true s.0 s.1 cs;
      turns_one = λ s c cs. played_turn_lem s.0 s.1 (little_endian c) c cs;
    }

-- whatever the ring before it
opening : Ring → Opening session
unfolding session turns_bytes words_turn first_turn
opening r =
    record {
      begins = λ t. (0, initial t);
      refusal = λ answer. line_bytes (0 ∷ answer ∷ 0 ∷ []);
      chunks = turns_bytes false 0 r;
      accepted = λ c cs e. rw e (played_turn_lem 0 (initial (script_table (little_endian c))) (events (little_endian c)) c cs);
      refused = λ c cs e. rw e (append-nil _);
    }

-- ---- the definition of the bench

play_table : (r : Ring) (ws : List ℕ) → (play_all r ws).table ≡ r.table
unfolding play_all play_word
play_table r [] = refl
play_table r (w ∷ ws) =
    play_table (play_word r w).ring ws
    ∙ if_law (λ (q : Ring). q.table ≡ r.table) (is_accepted (play_answer r w)) _ _ (λ e. after_table r (event_of w)) (λ e. refl)

tail_test : (b : List ℕ) → eqb (4 * length (little_endian b)) (length b) ≡ eqb (length b % 4) 0
tail_test b =
    let low : 4 * length (little_endian b) ≤ length b = few_words b in
    let high : length b ≤ 4 * length (little_endian b) + 3 = many_words b in
    decide (eqb (length b % 4) 0)
    (λ e. eq-eqb (4 * length (little_endian b)) (length b) (omega (arith, eqb-true (length b % 4) 0 e)) ∙ sym e)
    (λ e. ne_eqb (4 * length (little_endian b)) (length b) (λ f. eqb-false (length b % 4) 0 e (omega arith)) ∙ sym e)

tail_is : (k : ℕ) (r : Ring) (b : List ℕ) → tail_lines (0 + k) r (length (tail_of b))
    ≡ (if eqb (4 * length (little_endian b)) (length b) then [] else ((k + 1) ∷ number_of NotAnEvent ∷ length r.messages ∷ []) ∷ [])
unfolding tail_lines
tail_is k r b = rw (same_rest b, tail_test b, zero-add k)

end_is : (r : Ring) (m : ℕ) → size r.table ≡ m → end_bytes r ≡ lines_bytes (tabulate m (node_line r)) ++ groups_bytes (groups r)
unfolding end_bytes
end_is r m e = ap (λ (j : ℕ). lines_bytes (tabulate j (node_line r)) ++ groups_bytes (groups r)) e

arranged : (ks ls ms : List Line) (g : List ℕ) → (lines_bytes ks ++ lines_bytes ls) ++ (lines_bytes ms ++ g) ≡ lines_bytes (ks ++ ls ++ ms) ++ g
arranged ks ls ms g = rw (lines_append (ks ++ ls) ms, lines_append ks ls) (simp append_assoc)

whole_is : (r : Ring) (ev b : List ℕ) (m : ℕ) → size r.table ≡ m
    → whole session (0, r) ev (tail_of b)
    ≡ lines_bytes
    (event_lines 1 r ev
    ++ (if eqb (4 * length (little_endian b)) (length b) then [] else ((length ev + 1) ∷ number_of NotAnEvent ∷ length (play_all r ev).messages ∷ []) ∷ [])
    ++ tabulate m (node_line (play_all r ev)))
    ++ groups_bytes (groups (play_all r ev))
unfolding session
whole_is r ev b m e =
    rw (tail_is (length ev) (play_all r ev) b, end_is (play_all r ev) m (ap size (play_table r ev) ∙ e))
    (arranged (event_lines 1 r ev) _ (tabulate m (node_line (play_all r ev))) (groups_bytes (groups (play_all r ev))))

printed : (r : Ring) (b : List ℕ) → opened (opening r) (little_endian b) (tail_of b) ≡ printed_bytes (bench b)
unfolding session opening printed_bytes bench initial
printed r b = decide (is_accepted (script_answer ws)) accepted (λ e. rw e (sym (append-nil _ ∙ one_line _)))
  where
    ws : List ℕ
    ws = little_endian b

    accepted : is_accepted (script_answer ws) ≡ true → opened (opening r) ws (tail_of b) ≡ printed_bytes (bench b)
    accepted e = rw e (whole_is (initial (script_table ws)) (events ws) b (size (script_table ws)) refl)

-- the chunks of a script print what the definition says of the whole
pub session_prints : {b : List ℕ} {cs : List (List ℕ)} → Cut b cs → (r : Ring) → turns_bytes false 0 r cs ≡ printed_bytes (bench b)
unfolding opening
session_prints {b} q r = every_opening (opening r) q ∙ printed r b

-- ---- every script

-- for every list of bytes, what its chunks print one after the other is what the definition says of it
pub every_script_prints : (script : List ℕ) (r : Ring) → turns_bytes false 0 r (chunks script) ≡ printed_bytes (bench script)
every_script_prints script r = session_prints (every_script_is_cut script) r
