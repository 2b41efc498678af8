-- A chunk of a session.
use mathlib.Core.Path.{◌≡◌, refl, sym, ap, ◌∙◌}
use mathlib.Core.Bool.{Bool, true, false}
use mathlib.Core.List.{List, [], ◌∷◌}
use Prim.Native.Nat.{ℕ, ◌+◌, ◌*◌, ◌≤◌}
use native.Mathlib.Omega.{arith}
use lib.ListN.{length, drop, length-drop}
use Rattle.bench_lines.specs.Decimal.{line_bytes}
use Rattle.bench_lines.specs.Put.{Put}
use Rattle.model.specs.Leafset.{size}
use Rattle.model.specs.Ring.{Ring}
use Rattle.model.specs.Answers.{answer_number, is_accepted}
use Rattle.model.specs.Words.{ring_length, decode_table, decode}
use Rattle.model.specs.Bench.{little_endian, script_answer}
use Rattle.std.specs.Prelude.{Result}
use Rattle.std.specs.Result.{is_err}
use Rattle.model.specs.declared.refusal.Refusal.{Refusal}
use Rattle.model.proofs.Laws.{clash, if_law}
use Rattle.answers.specs.Applied.{written}
use Rattle.bench_open.specs.Beginning.{open_script}
use Rattle.bench_open.proofs.Opened.{Opened, the_answer, ring_refused, nodes_are}
use Rattle.bench_script.specs.Chunks.{chunk_size}
use Rattle.bench_script.proofs.Chunks.{few_words}
use Rattle.bench_session.specs.Turns.{Turn, Ready, played_turn, first_turn, words_turn, turn, Stepped}
use Rattle.bench_session.specs.declared.turn.Session.{Session}

-- ---- the first chunk

pub refused_script :
    (ws script : List ℕ) {ws' out out' : List ℕ} {n end : ℕ} {A : Type 0} (a : Result A Refusal) → written a ws' ≡ open_script ws script → n ≡ answer_number a
    → (bytes : ℕ) → is_err a ≡ true → length ws ≡ ring_length → Put out out' 0 end (line_bytes (0 ∷ n ∷ 0 ∷ []))
    → Stepped (first_turn script bytes) ws' out out' (record { more = false; opened = false; count = 0; end = end })
unfolding first_turn
refused_script ws script a e number bytes d long p =
    let r = ring_refused ws script a e d in
    rw r.refused
    record {
      more = refl;
      opened = refl;
      count = refl;
      put = rw (← the_answer ws script a e number, ← number) p;
      long = ap length r.kept ∙ long;
      reads = λ h. clash h refl;
      ring = λ h. clash h refl;
    }

module _ {ws script : List ℕ} (o : Opened ws script) where
  pub first_played : (bytes : ℕ) {out out' ws' part : List ℕ} {s : Session} → part ≡ drop (1 + size (decode_table ws)) script
      → Stepped (played_turn 0 (decode ws) part bytes) ws' out out' s → Stepped (first_turn script bytes) ws' out out' s
  unfolding first_turn
  first_played bytes e s = rw o.accepted (rw (e, nodes_are o, o.ring) at s)

-- ---- any chunk

module _ (k : ℕ) (r : Ring) (script : List ℕ) (bytes : ℕ) {already : Bool} {ws out out' : List ℕ} {s : Session} where
  pub turn_more : already ≡ true → Stepped (played_turn k r script bytes) ws out out' s → Stepped (words_turn already k r script bytes) ws out out' s
  unfolding words_turn
  turn_more e p = rw e p

  pub turn_first : already ≡ false → Stepped (first_turn script bytes) ws out out' s → Stepped (words_turn already k r script bytes) ws out out' s
  unfolding words_turn
  turn_first e p = rw e p

pub turn_loaded : (already : Bool) (k : ℕ) (r : Ring) (chunk : List ℕ) {script ws out out' : List ℕ} {s : Session} → script ≡ little_endian chunk
    → Stepped (words_turn already k r script (length chunk)) ws out out' s → Stepped (turn already k r chunk) ws out out' s
turn_loaded already k r chunk e p = rw e at p

-- a chunk has at most 1,024 events

few_events : (already : Bool) (k : ℕ) (r : Ring) (chunk : List ℕ) → length chunk ≤ chunk_size → (turn already k r chunk).events ≤ k + 1024
unfolding words_turn first_turn played_turn
few_events already k r chunk h =
    let f : 4 * length (little_endian chunk) ≤ length chunk = few_words chunk in
    let few : Turn → Type 0 = λ t. t.events ≤ k + 1024 in
    if_law few already _ _ (λ e. omega arith)
    (λ e. if_law few (is_accepted (script_answer (little_endian chunk))) _ _ (λ a. simp length-drop (omega arith)) (λ a. omega arith))

-- a session is ready for the next chunk
pub still_ready : (already : Bool) (k : ℕ) (r : Ring) (chunk : List ℕ) {ws out out' : List ℕ} {s : Session} → length chunk ≤ chunk_size
    → Stepped (turn already k r chunk) ws out out' s → (j : ℕ) → k ≤ j → Ready (j + 1024) s ws
still_ready already k r chunk h p j l =
    record { long = p.long; reads = λ e. p.reads (sym p.opened ∙ e); few = omega (arith, p.count, few_events already k r chunk h) }

pub ready_first : (s : Session) → (s.opened ≡ false) × (s.count ≡ 0) → (ws : List ℕ) → length ws ≡ ring_length → Ready 0 s ws
ready_first s e ws h = record { long = h; reads = λ o. clash o e.0; few = omega (arith, e.1) }

pub ready_within : {j k : ℕ} {s : Session} {ws : List ℕ} → Ready j s ws → j ≤ k → Ready k s ws
ready_within r h = record { long = r.long; reads = r.reads; few = omega (arith, r.few) }
