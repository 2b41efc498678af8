-- A buffer that holds the words of a well-formed ring follows the ring, call by call.
use mathlib.Core.Path.{◌≡◌, refl, ap, ◌∙◌}
use Prim.Native.Nat.{ℕ}
use mathlib.Core.Bool.{Bool, true, false}
use mathlib.Core.List.{List}
use lib.ListN.{length}
use borrow.Author.Tests.{eq-eqb}
use Rattle.std.specs.Prelude.{if◌then◌else◌}
use Rattle.model.specs.Ring.{Ring, initial}
use Rattle.model.specs.Leafset.{Table}
use Rattle.model.specs.WellFormed.{WellFormed}
use Rattle.model.specs.Answers.{first_of, is_accepted}
use Rattle.model.specs.Events.{event_of}
use Rattle.model.specs.Words.{ring_length, encode, decode, reads_as_ring}
use Rattle.model.specs.Play.{Played, after, play_answer, play_word}
use Rattle.model.specs.Buffer.{Written, open_answer, open_buffer, buffer_answer, play_buffer}
use Rattle.model.proofs.Words.{decoded_back, reads_out}
use Rattle.model.proofs.RoundTrip.{round_trip}
use Rattle.model.proofs.Decoded.{reads_well}
use Rattle.model.proofs.Fits.{encoded_reads}
use Rattle.model.proofs.WellFormedPlay.{table_well, initial_well, word_well}

-- what a buffer holds after what the rules for rings give
abbrev pub written : Played → Written
written p = record { answer = p.answer; words = encode p.ring }

-- neither the length nor the format refuses words that read as a ring
pub reads_answer : (ws : List ℕ) (w : ℕ) → reads_as_ring ws ≡ true → buffer_answer ws w ≡ play_answer (decode ws) w
unfolding buffer_answer play_answer first_of
reads_answer ws w e = rw (eq-eqb (length ws) ring_length (reads_out ws e).long, e)

module _ (r : Ring) (g : WellFormed r) (w : ℕ) where
  answer_follows : buffer_answer (encode r) w ≡ play_answer r w
  answer_follows = reads_answer (encode r) w (encoded_reads r g) ∙ ap (λ (ρ : Ring). play_answer ρ w) (round_trip r g)

  pub follows : play_buffer (encode r) w ≡ written (play_word r w)
  unfolding play_buffer play_word
  follows = rw (answer_follows, round_trip r g) (go (is_accepted (play_answer r w)))
    where
      go : (b : Bool) → record { answer = play_answer r w; words = if b then encode (after r (event_of w)) else encode r }
          ≡ written (record { answer = play_answer r w; ring = if b then after r (event_of w) else r })
      go true = refl
      go false = refl

-- ---- opening

module _ (old : List ℕ) (t : Table) (ok : (open_buffer old t).answer ≡ 0) where
  opened_table : open_answer old t ≡ 0
  unfolding open_buffer
  opened_table = ok

  pub opened_well : WellFormed (initial t)
  opened_well = initial_well t (table_well old t opened_table)

  pub opened_words : (open_buffer old t).words ≡ encode (initial t)
  unfolding open_buffer
  opened_words = ap (λ a. if is_accepted a then encode (initial t) else old) opened_table

-- ---- any words that read as a ring

-- after a call they still read as a ring
pub still_reads : (ws : List ℕ) (w : ℕ) → reads_as_ring ws ≡ true → reads_as_ring (play_buffer ws w).words ≡ true
still_reads ws w e =
    let g : WellFormed (decode ws) = reads_well ws e in
    ap (λ (l : List ℕ). reads_as_ring (play_buffer l w).words) (decoded_back ws e)
    ∙ ap (λ (q : Written). reads_as_ring q.words) (follows (decode ws) g w)
    ∙ encoded_reads (play_word (decode ws) w).ring (word_well (decode ws) w g)
