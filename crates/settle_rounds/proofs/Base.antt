-- Rows of fair rounds, computed on two nodes that contact each other: what a round has, and what keeps a list from being one.
use mathlib.Core.Path.{◌≡◌, refl}
use Prim.Native.Nat.{ℕ}
use mathlib.Core.Bool.{Bool, true, false}
use mathlib.Core.List.{List, [], ◌∷◌, ◌++◌}
use lib.ListN.{length, get_or, take}
use Rattle.model.specs.Leafset.{Table}
use Rattle.model.specs.Ring.{Ring, initial}
use Rattle.model.specs.Play.{play_word, play_all}
use Rattle.model.proofs.Base.{computed}
use Rattle.settle_rounds.proofs.RoundTest.{fate_by, is_round}

unfoldable two : Table
two = record { sides = record { ahead = 1; behind = 1 }; keys = 10 ∷ 20 ∷ [] }

-- both go on, and each contacts the other: at point 4 two messages are in flight
unfoldable opening : List ℕ
opening = 0x90000000 ∷ 0x90000001 ∷ 0xC0000040 ∷ 0xC0000001 ∷ []

-- timers 0, 2, 3 and 4 of node 0, and of node 1
unfoldable timers : List ℕ
timers = 0xD0000000 ∷ 0xD0002000 ∷ 0xD0003000 ∷ 0xD0004000 ∷ 0xD0000001 ∷ 0xD0002001 ∷ 0xD0003001 ∷ 0xD0004001 ∷ []

-- whether these words, after the opening, are a round
unfoldable is_round_of : List ℕ → Bool
is_round_of words = is_round at (λ k. (play_word (at k) (get_or script k 0)).answer) script 4 (length script)
  where
    script : List ℕ
    script = opening ++ words

    at : ℕ → Ring
    at k = play_all (initial two) (take k script)

-- both messages are delivered, the second from the position to which it moves up, and every timer fires
delivered : is_round_of (0xE0000000 ∷ 0xE0000000 ∷ timers) ≡ true
unfolding computed is_round fate_by two opening timers is_round_of
delivered = refl

-- an answer is delivered from the position that the second message had: the message is still in flight
not_moved_up : is_round_of (0xE0000000 ∷ 0xE0000001 ∷ timers) ≡ false
unfolding computed is_round fate_by two opening timers is_round_of
not_moved_up = refl

-- the first is echoed, and delivered later
echoed_and_delivered : is_round_of (0xE0000400 ∷ 0xE0000000 ∷ 0xE0000000 ∷ timers) ≡ true
unfolding computed is_round fate_by two opening timers is_round_of
echoed_and_delivered = refl

-- the first is only echoed: it is still in flight
only_echoed : is_round_of (0xE0000400 ∷ 0xE0000001 ∷ timers) ≡ false
unfolding computed is_round fate_by two opening timers is_round_of
only_echoed = refl

-- the first is lost
lost : is_round_of (0xF0000000 ∷ 0xE0000000 ∷ timers) ≡ false
unfolding computed is_round fate_by two opening timers is_round_of
lost = refl

-- both are delivered, and an answer is lost
answer_lost : is_round_of (0xE0000000 ∷ 0xE0000000 ∷ 0xF0000000 ∷ timers) ≡ false
unfolding computed is_round fate_by two opening timers is_round_of
answer_lost = refl

-- timer 4 of node 1 does not fire
without_a_timer : is_round_of (0xE0000000 ∷ 0xE0000000 ∷ take 7 timers) ≡ false
unfolding computed is_round fate_by two opening timers is_round_of
without_a_timer = refl

-- node 1 is said to be silent, and runs
wrong_notice : is_round_of (0xE0000000 ∷ 0xE0000000 ∷ 0xB0000040 ∷ timers) ≡ false
unfolding computed is_round fate_by two opening timers is_round_of
wrong_notice = refl

-- a contact is no harm
contacted_again : is_round_of (0xE0000000 ∷ 0xE0000000 ∷ 0xC0000040 ∷ timers) ≡ true
unfolding computed is_round fate_by two opening timers is_round_of
contacted_again = refl
