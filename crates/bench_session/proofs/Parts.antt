-- A chunk of events, part by part.
use mathlib.Core.Path.{◌≡◌, sym, ap}
use mathlib.Core.Bool.{Bool, true, false}
use mathlib.Core.List.{List, [], ◌∷◌}
use Prim.Native.Nat.{ℕ, ◌+◌, ◌%◌}
use borrow.Author.Tests.{eq-eqb, ne_eqb}
use lib.Dec.{eqb}
use lib.ListN.{length}
use Rattle.bench_lines.specs.Decimal.{line_bytes, lines_bytes}
use Rattle.bench_lines.specs.Put.{Put}
use Rattle.bench_lines.proofs.Decimals.{one_line}
use Rattle.bench_lines.proofs.Puts.{put_none, put_more}
use Rattle.model.specs.Ring.{Ring}
use Rattle.model.specs.Answers.{number_of}
use Rattle.model.specs.Words.{decode}
use Rattle.model.specs.declared.refusal.Refusal.TheVariants.{NotAnEvent}
use Rattle.model.proofs.Words.{reads_out}
use Rattle.bench_report.specs.Report.{end_bytes}
use Rattle.bench_session.specs.Playing.{AllPlayed}
use Rattle.bench_script.specs.Chunks.{chunk_size}
use Rattle.bench_session.specs.Turns.{tail_lines, end_of, played_turn, Stepped}
use Rattle.bench_session.specs.declared.turn.Session.{Session}

-- ---- the tail

module _ (k : ℕ) (r : Ring) (bytes : ℕ) where
  pub no_tail : (out : List ℕ) (at : ℕ) → bytes % 4 ≡ 0 → Put out out at at (lines_bytes (tail_lines k r bytes))
  unfolding tail_lines lines_bytes
  no_tail out at e = rw (eq-eqb (bytes % 4) 0 e) (put_none out at)

  pub tail_line_lem : {n m : ℕ} → (bytes % 4 ≡ 0 → ⊥) → n ≡ number_of NotAnEvent → m ≡ length r.messages
      → line_bytes ((k + 1) ∷ n ∷ m ∷ []) ≡ lines_bytes (tail_lines k r bytes)
  unfolding tail_lines
  tail_line_lem d e f = rw (ne_eqb (bytes % 4) 0 d, e, f) (sym (one_line _))

-- ---- the end

pub not_yet : {more : Bool} (r : Ring) (out : List ℕ) (at : ℕ) → more ≡ true → Put out out at at (end_of more r)
unfolding end_of
not_yet r out at e = rw e (put_none out at)

pub at_end : {more : Bool} (r : Ring) → more ≡ false → end_bytes r ≡ end_of more r
unfolding end_of
at_end r e = rw e

-- ---- the events of a chunk

pub turn_played : (bytes : ℕ) {ws script ws' out out₁ out₂ out' : List ℕ} {k at mid end : ℕ} {s : Session} → AllPlayed ws script k ws' out out₁ at
    → Put out₁ out₂ at mid (lines_bytes (tail_lines (k + length script) (decode ws') bytes))
    → Put out₂ out' mid end (end_of (eqb bytes chunk_size) (decode ws'))
    → s ≡ record { more = eqb bytes chunk_size; opened = true; count = k + length script; end = end }
    → Stepped (played_turn k (decode ws) script bytes) ws' out out' s
unfolding played_turn
turn_played bytes p q r e =
    record {
      more = ap (λ (x : Session). x.more) e;
      opened = ap (λ (x : Session). x.opened) e;
      count = ap (λ (x : Session). x.count) e;
      put = rw (ap (λ (x : Session). x.end) e) (put_more (put_more p.put (rw p.ring at q)) (rw p.ring at r));
      long = (reads_out _ p.reads).long;
      reads = λ h. p.reads;
      ring = λ h. p.ring;
    }
