-- A script played word by word, and a replay.
use mathlib.Core.Path.{◌≡◌, refl, sym, ap, ap₂, ◌∙◌, subst}
use mathlib.Core.Bool.{true, false}
use mathlib.Core.List.{List, [], ◌∷◌}
use Prim.Native.Nat.{ℕ, zero, suc, ◌+◌, ◌<◌}
use native.Mathlib.Nat.{le_of_suc-le-suc, not-suc-le-zero}
use native.Mathlib.Numerals.{add-one}
use native.Mathlib.Omega.{arith}
use native.Mathlib.Decide.{ℕ_discrete}
use lib.ListN.{length, get_or, take, set, length-set}
use lib.Seq.{take-length, get_or-set_same, get_or-set_other}
use Rattle.model.specs.Leafset.{Table}
use Rattle.model.specs.Answers.{answer_number, first_of, is_accepted}
use Rattle.model.specs.Words.{reads_as_ring}
use Rattle.model.specs.Buffer.{ring_refusals, ring_answer, Written, open_buffer, play_buffer, play_buffer_all}
use Rattle.model.specs.ConnectivityPreserved.{words_at, answer_at}
use Rattle.std.specs.Prelude.{Result}
use Rattle.model.specs.declared.refusal.Refusal.{Refusal}
use Rattle.model.proofs.Laws.{clash}
use Rattle.model.proofs.Theorems.{opening_reads, playing_reads, refused_opening, connectivity_preserved, opening_preserves}
use Rattle.answers.specs.Applied.{written}
use Rattle.answers.proofs.Answered.{refuses, accepts}
use Rattle.call_refusals.proofs.Refused.{ring_reads}
use Rattle.call_play.specs.Replay.{AnswersPlaced, replay_buffer, Replayed, PlayedAll, PlayedUpTo}

-- the words at the next point
next :
    (ws script : List ℕ) (k : ℕ) → k < length script
    → play_buffer_all ws (take (suc k) script) ≡ (play_buffer (play_buffer_all ws (take k script)) (get_or script k 0)).words
unfolding play_buffer_all
next ws [] k h = absurd (not-suc-le-zero h)
next ws (w ∷ script) zero h = refl
next ws (w ∷ script) (suc k) h = next (play_buffer ws w).words script k (le_of_suc-le-suc h)

-- no word yet
pub none_played : (ws script answers : List ℕ) → reads_as_ring ws ≡ true → PlayedUpTo 0 ws script answers ws answers
unfolding play_buffer_all
none_played ws script answers e =
    record {
      words = refl;
      still_reads = e;
      places = record { answer_at_place = λ k h. absurd (not-suc-le-zero h); other_places_kept = λ k h. refl; as_many_places = refl };
    }

-- one more answer
more_placed :
    {n a : ℕ} {ws script answers answers' : List ℕ} → AnswersPlaced n ws script answers answers'
    → a ≡ answer_at ws script n
    → AnswersPlaced (n + 1) ws script answers (set answers' n a)
more_placed {n} {a} {answers' = v} p e =
    record {
      answer_at_place = λ k l m.
          elim (ℕ_discrete k n) [
            | yes s ↦ rw s (get_or-set_same v n a 0 (omega (arith, p.as_many_places)) ∙ e)
            | no d ↦ get_or-set_other v n k a 0 d ∙ p.answer_at_place k (omega arith) m
          ];
      other_places_kept = λ k l. get_or-set_other v n k a 0 (λ s. omega arith) ∙ p.other_places_kept k (omega arith);
      as_many_places = length-set v n a ∙ p.as_many_places;
    }

-- one more word, answered a
pub one_more_lem :
    {A : Type 0} (a : Result A Refusal) {n : ℕ} {ws script answers u v ws' : List ℕ} → PlayedUpTo n ws script answers u v → n < length script
    → written a ws' ≡ play_buffer u (get_or script n 0)
    → PlayedUpTo (n + 1) ws script answers ws' (set v n (answer_number a))
one_more_lem a {n} {ws} {script} {u = u} {ws' = ws'} p h e =
    record {
      words = ap (λ (q : Written). q.words) given ∙ sym (next ws script n h) ∙ rw add-one;
      still_reads = ap (λ (q : Written). reads_as_ring q.words) e ∙ playing_reads u (get_or script n 0) p.still_reads;
      places = more_placed p.places (ap (λ (q : Written). q.answer) given);
    }
  where
    given : written a ws' ≡ play_buffer (words_at ws script n) (get_or script n 0)
    given = e ∙ ap (λ (l : List ℕ). play_buffer l (get_or script n 0)) p.words

-- ---- a script on a ring that is there, by the answer of its words

module _ (ws : List ℕ) {A : Type 0} (r : Result A Refusal) (asked : answer_number r ≡ ring_answer ws) where
  of_buffer : answer_number r ≡ first_of (ring_refusals ws)
  unfolding ring_answer
  of_buffer = asked

  pub none_read : (script answers : List ℕ) → is_accepted (answer_number r) ≡ false → PlayedAll ws script answers (answer_number r) ws answers
  none_read script answers n =
      record {
        answer = of_buffer;
        words = λ a. clash (ap is_accepted a) n;
        refused_keeps_words = λ f. refl;
        places = λ a. clash (ap is_accepted a) n;
        refused_keeps_places = λ f. refl;
        connectivity_preserved = λ ρ reached. connectivity_preserved ws ρ reached script;
      }

  module _ (ok : answer_number r ≡ 0) where
    pub read_as_ring : reads_as_ring ws ≡ true
    read_as_ring = ring_reads ws (sym asked ∙ ok)

    pub all_played :
        {script answers ws' answers' : List ℕ} → PlayedUpTo (length script) ws script answers ws' answers'
        → PlayedAll ws script answers (answer_number r) ws' answers'
    all_played {script} p =
        record {
          answer = of_buffer;
          words = λ a. p.words ∙ ap (play_buffer_all ws) (take-length script);
          refused_keeps_words = λ n. clash (ap is_accepted ok) n;
          places = λ a. p.places;
          refused_keeps_places = λ n. clash (ap is_accepted ok) n;
          connectivity_preserved = λ ρ reached. connectivity_preserved ws ρ reached script;
        }

-- ---- a replay, by the answer of its opening

module _ (old : List ℕ) (t : Table) {A : Type 0} (r : Result A Refusal) {u : List ℕ} (opened : written r u ≡ open_buffer old t) where
  answered : answer_number r ≡ (open_buffer old t).answer
  answered = ap (λ (q : Written). q.answer) opened

  pub not_opened : (script answers : List ℕ) → is_accepted (answer_number r) ≡ false → Replayed old t script answers (answer_number r) u answers
  unfolding replay_buffer
  not_opened script answers n =
      let refused = ap is_accepted (sym answered) ∙ n in
      record {
        answer_and_words = rw (ap (λ (q : Written). q.words) opened ∙ refused_opening old t refused) (refuses r old _ _ refused answered);
        places = λ a. clash (ap is_accepted a) n;
        refused_keeps_places = λ f. refl;
        connectivity_preserved = λ a. clash (ap is_accepted a) n;
      }

  module _ (ok : answer_number r ≡ 0) where
    accepted_opening : (open_buffer old t).answer ≡ 0
    accepted_opening = sym answered ∙ ok

    pub opened_reads : reads_as_ring u ≡ true
    opened_reads = ap (λ (q : Written). reads_as_ring q.words) opened ∙ opening_reads old t accepted_opening

    pub replayed :
        {script answers ws' answers' : List ℕ} → PlayedUpTo (length script) u script answers ws' answers'
        → Replayed old t script answers (answer_number r) ws' answers'
    unfolding replay_buffer
    replayed {script} {answers} {ws'} {answers'} p =
        record {
          answer_and_words = accepts r old ws' _ _ accepted_opening answered (p.words ∙ ap₂ play_buffer_all opened_words (take-length script));
          places = λ a. subst (λ (ws : List ℕ). AnswersPlaced (length script) ws script answers answers') opened_words p.places;
          refused_keeps_places = λ n. clash (ap is_accepted ok) n;
          connectivity_preserved = λ a. opening_preserves old t accepted_opening script;
        }
      where
        opened_words : u ≡ (open_buffer old t).words
        opened_words = ap (λ (q : Written). q.words) opened
