-- A word played on words that read as a ring: what is left reads as a ring again, and is the model's.
use mathlib.Core.Path.{◌≡◌, sym, ap, ◌∙◌}
use mathlib.Core.Bool.{true}
use mathlib.Core.List.{List}
use Prim.Native.Nat.{ℕ}
use Rattle.model.specs.Ring.{Ring}
use Rattle.model.specs.WellFormed.{WellFormed}
use Rattle.model.specs.Answers.{answer_number}
use Rattle.model.specs.Words.{decode, reads_as_ring}
use Rattle.model.specs.Play.{play_word}
use Rattle.model.specs.Buffer.{Written, play_buffer}
use Rattle.std.specs.Prelude.{Result}
use Rattle.model.specs.declared.refusal.Refusal.{Refusal}
use Rattle.model.proofs.Words.{decoded_back}
use Rattle.model.proofs.Decoded.{reads_well}
use Rattle.model.proofs.RoundTrip.{round_trip}
use Rattle.model.proofs.WellFormedPlay.{word_well}
use Rattle.model.proofs.Follows as model
use Rattle.answers.specs.Applied.{written}

module _ (ws : List ℕ) (reads : reads_as_ring ws ≡ true) (w : ℕ) where
  abbrev r : Ring
  r = decode ws

  abbrev well : WellFormed r
  well = reads_well ws reads

  followed : play_buffer ws w ≡ model.written (play_word r w)
  followed = ap (λ (l : List ℕ). play_buffer l w) (decoded_back ws reads) ∙ model.follows r well w

  module _ {A : Type 0} {ws' : List ℕ} (a : Result A Refusal) (e : written a ws' ≡ play_buffer ws w) where
    words_are : ws' ≡ (play_buffer ws w).words
    words_are = ap (λ (q : Written). q.words) e

    pub still : reads_as_ring ws' ≡ true
    still = ap reads_as_ring words_are ∙ model.still_reads ws w reads

    pub ring_after : decode ws' ≡ (play_word r w).ring
    ring_after = ap decode (words_are ∙ ap (λ (q : Written). q.words) followed) ∙ round_trip (play_word r w).ring (word_well r w well)

    pub answer_is : answer_number a ≡ (play_word r w).answer
    answer_is = ap (λ (q : Written). q.answer) (e ∙ followed)
