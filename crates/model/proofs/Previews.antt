-- What a preview gives beside a play, and lists of both.
use mathlib.Core.Path.{◌≡◌, refl, sym, ap, ◌∙◌, subst}
use mathlib.Core.Bool.{true, false, not}
use mathlib.Core.List.{List, [], ◌∷◌}
use Prim.Native.Nat.{ℕ, zero, suc, ◌<◌}
use native.Mathlib.Nat.{le_of_suc-le-suc, not-suc-le-zero}
use lib.ListN.{length, get_or}
use lib.Dec.{eqb}
use Rattle.model.specs.Ring.{Ring}
use Rattle.model.specs.Answers.{first_of}
use Rattle.model.specs.Words.{ring_length, reads_as_ring}
use Rattle.model.specs.Play.{play_word}
use Rattle.model.specs.Buffer.{wrong_length, Written, play_refusals, buffer_answer, play_buffer, play_buffer_all}
use Rattle.model.specs.ConnectivityPreserved.{Reached, played, answer_at}
use Rattle.model.specs.Preview.{preview_answer, preview_buffer, Call, plays, previews, called, called_all, plays_answered, played_words, PreviewsChangeNothing}
use Rattle.model.proofs.Laws.{not_out_false}
use Rattle.model.proofs.Answers.{here, next, passed, rest_passed}
use Rattle.model.proofs.Follows.{still_reads}

module _ (ws : List ℕ) (w : ℕ) (second : List ℕ) where
  pub wrong_length_lem : eqb (length second) ring_length ≡ false → (preview_buffer ws w second).answer ≡ 1
  unfolding preview_buffer preview_answer
  wrong_length_lem n = here (wrong_length second) (play_refusals ws w) (ap not n)

  pub answers_as_playing : eqb (length second) ring_length ≡ true → (preview_buffer ws w second).answer ≡ (play_buffer ws w).answer
  unfolding preview_buffer play_buffer preview_answer buffer_answer
  answers_as_playing h = next (wrong_length second) (play_refusals ws w) (ap not h)

  module _ (a : (preview_buffer ws w second).answer ≡ 0) where
    none_of_playing : first_of (play_refusals ws w) ≡ 0
    unfolding preview_buffer preview_answer
    none_of_playing = rest_passed (wrong_length second) (play_refusals ws w) refl a

    pub accepted_as_playing : preview_buffer ws w second ≡ play_buffer ws w
    unfolding preview_buffer play_buffer preview_answer buffer_answer
    accepted_as_playing = rw (a, none_of_playing)

    -- the ring's words read as a ring, and so do those that are shown
    ring_reads : reads_as_ring ws ≡ true
    ring_reads = not_out_false (reads_as_ring ws) (passed _ _ refl (rest_passed _ _ refl (rest_passed _ _ refl (rest_passed _ _ refl none_of_playing))))

    pub preview_reads : reads_as_ring (preview_buffer ws w second).words ≡ true
    preview_reads = ap (λ (q : Written). reads_as_ring q.words) accepted_as_playing ∙ still_reads ws w ring_reads

    pub preview_reached : {r : Ring} → Reached ws r → Reached (preview_buffer ws w second).words (play_word r w).ring
    preview_reached {r} p = subst (λ (q : Written). Reached q.words (play_word r w).ring) (sym accepted_as_playing) (played p w)

pub change_nothing : (ws : List ℕ) (calls : List Call) → PreviewsChangeNothing ws calls
unfolding called_all plays_answered played_words play_buffer_all
change_nothing ws [] =
    record { as_many_answers = refl; same_answers = λ i h. absurd (not-suc-le-zero h); same_ring = refl }
change_nothing ws (plays w ∷ calls) =
    let p : PreviewsChangeNothing (called ws (plays w)) calls = change_nothing (called ws (plays w)) calls in
    record { as_many_answers = ap suc p.as_many_answers; same_answers = by_place_lem p.same_answers; same_ring = p.same_ring }
  where
    by_place_lem :
        ((i : ℕ) → i < length (played_words calls) → get_or (plays_answered (called ws (plays w)) calls) i 0 ≡ answer_at (called ws (plays w)) (played_words calls) i)
        → (i : ℕ) → i < suc (length (played_words calls)) → get_or (plays_answered ws (plays w ∷ calls)) i 0 ≡ answer_at ws (w ∷ played_words calls) i
    by_place_lem later zero h = refl
    by_place_lem later (suc i) h = later i (le_of_suc-le-suc h)
change_nothing ws (previews w second ∷ calls) =
    let p : PreviewsChangeNothing ws calls = change_nothing ws calls in
    record { as_many_answers = p.as_many_answers; same_answers = p.same_answers; same_ring = p.same_ring }
