-- Words played one after the other, each with its line.
use mathlib.Core.Path.{◌≡◌, refl, sym, ap, ◌∙◌}
use mathlib.Core.Bool.{true}
use mathlib.Core.List.{List, [], ◌∷◌, ◌++◌, append_assoc, append-nil}
use Prim.Native.Nat.{ℕ, ◌+◌, ◌*◌, ◌≤◌, ◌<◌}
use native.Mathlib.Numerals.{add-one}
use native.Mathlib.Omega.{arith}
use lib.ListN.{length, get_or, drop, drop_of_length-le}
use lib.Seq.{drop-cons}
use Rattle.bench_lines.specs.Decimal.{line_bytes, lines_bytes}
use Rattle.bench_lines.specs.Put.{Put}
use Rattle.bench_lines.proofs.Puts.{put_none, put_more, put_as}
use Rattle.model.specs.Ring.{Ring}
use Rattle.model.specs.Answers.{answer_number}
use Rattle.model.specs.Words.{decode, reads_as_ring}
use Rattle.model.specs.Play.{play_word, play_all}
use Rattle.model.specs.Buffer.{play_buffer}
use Rattle.model.specs.Bench.{event_lines}
use Rattle.std.specs.Prelude.{Result}
use Rattle.model.specs.declared.refusal.Refusal.{Refusal}
use Rattle.answers.specs.Applied.{written}
use Rattle.event_play.proofs.Played.{still, ring_after, answer_is}
use Rattle.bench_session.specs.Playing.{OnePlayed, AllPlayed}

-- ---- one word

module _ (ws : List ℕ) (reads : reads_as_ring ws ≡ true) (w : ℕ) {ws' : List ℕ} {A : Type 0} (a : Result A Refusal) (e : written a ws' ≡ play_buffer ws w) where
  pub one_played : {k n m at end : ℕ} {out out' : List ℕ} → n ≡ answer_number a → m ≡ length (decode ws').messages
      → Put out out' at end (line_bytes (k ∷ n ∷ m ∷ [])) → end ≤ at + 63 → OnePlayed ws w k ws' out out' at end
  one_played {k} {n} {m} g h p l =
      record {
        reads = still ws reads w a e;
        ring = ring_after ws reads w a e;
        put = put_as p (rw (g ∙ answer_is ws reads w a e, h ∙ ap (λ (ρ : Ring). length ρ.messages) (ring_after ws reads w a e)));
        room = l;
      }

-- ---- the words, one after the other

-- those before `at` are played
pub record PlayedTo (ws script : List ℕ) (k : ℕ) (ws' out out' : List ℕ) (at end : ℕ) : Type 0 where
  pub reads : reads_as_ring ws' ≡ true
  pub within : at ≤ length script
  pub ring : play_all (decode ws') (drop at script) ≡ play_all (decode ws) script
  pub bytes : List ℕ
  pub put : Put out out' 0 end bytes
  pub lines : bytes ++ lines_bytes (event_lines (k + at + 1) (decode ws') (drop at script)) ≡ lines_bytes (event_lines (k + 1) (decode ws) script)
  pub room : end ≤ 63 * at

pub none_played : (ws script : List ℕ) (k : ℕ) (out : List ℕ) → reads_as_ring ws ≡ true → PlayedTo ws script k ws out out 0 0
none_played ws script k out reads =
    record {
      reads = reads;
      within = omega arith;
      ring = refl;
      bytes = [];
      put = put_none out 0;
      lines = ap (λ (j : ℕ). lines_bytes (event_lines j (decode ws) script)) (omega arith);
      room = omega arith;
    }

module _ {ws script : List ℕ} {k : ℕ} {ws' out out' : List ℕ} {at end : ℕ} (p : PlayedTo ws script k ws' out out' at end) where
  pub more_played : {n : ℕ} {ws'' out'' : List ℕ} {end' : ℕ} → at < length script → n ≡ k + at
      → OnePlayed ws' (get_or script at 0) (n + 1) ws'' out' out'' end end' → PlayedTo ws script k ws'' out out'' (at + 1) end'
  unfolding event_lines play_all lines_bytes
  more_played {n} {ws''} {out''} {end'} h e q =
      let w : ℕ = get_or script at 0 in
      let rest : drop at script ≡ w ∷ drop (at + 1) script = rw (add-one at) (drop-cons script at 0 h) in
      let later : k + (at + 1) + 1 ≡ k + at + 1 + 1 = omega arith in
      record {
        reads = q.reads;
        within = omega arith;
        ring = rw q.ring (rw rest at p.ring);
        bytes = p.bytes ++ line_bytes ((n + 1) ∷ (play_word (decode ws') w).answer ∷ length (play_word (decode ws') w).ring.messages ∷ []);
        put = put_more p.put q.put;
        lines = rw (q.ring, later, e) (append_assoc p.bytes _ _ ∙ (rw rest at p.lines));
        room = omega (arith, p.room, q.room);
      }

  pub all_played : length script ≤ at → AllPlayed ws script k ws' out out' end
  unfolding event_lines play_all lines_bytes
  all_played h =
      let rest : drop at script ≡ [] = drop_of_length-le script h in
      record {
        reads = p.reads;
        ring = rw rest at p.ring;
        put = put_as p.put (sym (append-nil p.bytes) ∙ (rw rest at p.lines));
        room = omega (arith, p.room, p.within);
      }
