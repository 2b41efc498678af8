-- Rings of four nodes, and messages, for the computed rows.
use mathlib.Core.List.{List, [], ◌∷◌}
use Prim.Native.Nat.{ℕ}
use lib.ListN.{get_or}
use Rattle.std.specs.Prelude.{if◌then◌else◌}
use Rattle.model.specs.Sets.{empty, of_bits, none_node}
use Rattle.model.specs.Types.{ping_contact, pong_replace, leave}
use Rattle.model.specs.Ring.{Own, Message, Ring}
use Rattle.model.specs.Steps.{plain, stamped}

-- keys 10, 20, 30 and 40: who runs, and whom each node holds, by their bits; the messages in flight
unfoldable pub ring : ℕ → List ℕ → List Message → Ring
ring running held ms =
    record {
      table = record { sides = record { ahead = 1; behind = 1 }; keys = 10 ∷ 20 ∷ 30 ∷ 40 ∷ [] };
      node = λ x. record { running = of_bits running x; clock = 5; own = own (get_or held x 0) };
      messages = ms;
    }
  where
    own : ℕ → Own
    own S =
        record {
          held = of_bits S;
          candidates = empty;
          commit = λ z. if of_bits S z then 1 else 0;
          spare = λ z. none_node;
        }

-- node 3 is off, and node 0 holds the other two; so does node 1; all run, and node 1 holds the other three
unfoldable pub from_0 : List Message → Ring
from_0 ms = ring 0b0111 (0b0110 ∷ []) ms

unfoldable pub from_1 : List Message → Ring
from_1 ms = ring 0b0111 (0 ∷ 0b0101 ∷ []) ms

unfoldable pub from_1_all : Ring
from_1_all = ring 0b1111 (0 ∷ 0b1101 ∷ []) []

-- a request; type 10 from 2 to 0 about 1; type 13 from 1 to 0
unfoldable pub request : Message
request = plain ping_contact 1 0

unfoldable pub acknowledgement : Message
acknowledgement = stamped pong_replace 2 0 1 7

unfoldable pub left : Message
left = plain leave 1 0
