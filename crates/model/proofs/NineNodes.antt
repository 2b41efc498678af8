-- The ring of the rows on steps, refusals and words, and how it is shown: nine nodes, A = 2 and B = 1. Node 0 at key 100 holds nodes on both
-- sides of its leafset.
use Prim.Native.Nat.{ℕ}
use mathlib.Core.Bool.{true, false}
use mathlib.Core.List.{List, [], ◌∷◌, ◌++◌, map}
use lib.ListN.{get_or}
use Rattle.model.specs.Sets.{members, tabulate, of_bits, none_node}
use Rattle.model.specs.Leafset.{Table}
use Rattle.model.specs.Ring.{Own, Node, Message, Ring, cleared, fresh}
use Rattle.model.specs.Steps.{plain, naming, stamped, viewing}

unfoldable pub table : Table
table = record { sides = record { ahead = 2; behind = 1 }; keys = 100 ∷ 110 ∷ 130 ∷ 90 ∷ 60 ∷ 200 ∷ 105 ∷ 300 ∷ 400 ∷ [] }

-- Node 0 holds 1, 2, 3, 4, 5 and 7. Its leafset is 1 and 2 clockwise and 3 the other way; outside are 5 and 7 clockwise and 4 the other way.
-- Node 1, inside, has spare 6; outside 4 and 5 have the spares 3 and 2, and 7 has none. Candidates are 3, which is held, 6, which would be next
-- clockwise, and 8, which is too far.
unfoldable pub own0 : Own
own0 =
    record {
      held = of_bits 0b010111110;
      candidates = of_bits 0b101001000;
      commit = λ z. get_or (0 ∷ 5 ∷ 6 ∷ 7 ∷ 3 ∷ 4 ∷ 0 ∷ 2 ∷ 0 ∷ []) z 0;
      spare = λ z. get_or (64 ∷ 6 ∷ 64 ∷ 64 ∷ 3 ∷ 2 ∷ 64 ∷ 64 ∷ 64 ∷ []) z none_node;
    }

-- Node 8 holds 0, 4 and 5. Its successor is 4, beyond key 0.
unfoldable pub own8 : Own
own8 =
    record {
      held = of_bits 0b000110001;
      candidates = of_bits 0;
      commit = λ z. get_or (1 ∷ 0 ∷ 0 ∷ 0 ∷ 2 ∷ 1 ∷ []) z 0;
      spare = λ z. none_node;
    }

-- Nodes 0, 1, 4 and 8 run. The clock of 1 can rise once more; those of 3, which is off, and of 4 cannot.
unfoldable pub nodes : List Node
nodes =
    record { running = true; clock = 8; own = own0 }
    ∷ record { running = true; clock = 16777214; own = cleared }
    ∷ record { running = false; clock = 7; own = cleared }
    ∷ record { running = false; clock = 16777215; own = cleared }
    ∷ record { running = true; clock = 16777215; own = cleared }
    ∷ fresh
    ∷ fresh
    ∷ fresh
    ∷ record { running = true; clock = 2; own = own8 }
    ∷ []

-- Six messages: the second goes to node 3, which is off, and the last to node 4, whose clock is spent.
unfoldable pub nine : Ring
nine =
    record {
      table = table;
      node = λ x. get_or nodes x fresh;
      messages =
          plain 3 5 0
          ∷ plain 1 0 3
          ∷ stamped 9 8 0 5 2
          ∷ viewing 4 1 8 (of_bits 0b000101001)
          ∷ naming 8 4 0 64
          ∷ plain 1 0 4
          ∷ [];
    }

-- ---- what is shown

-- of an own record: who is held, who is a candidate, the commits, the spares
unfoldable pub shown_own : Own → List (List ℕ)
shown_own o = members 9 o.held ∷ members 9 o.candidates ∷ tabulate 9 o.commit ∷ tabulate 9 o.spare ∷ []

-- of a message: its type, its ends, its subject and its stamp, then whom its view names
unfoldable pub shown_message : Message → List ℕ
shown_message m = (m.type ∷ m.sender ∷ m.receiver ∷ m.subject ∷ m.stamp ∷ []) ++ members 64 m.view

-- the own records of nodes 0 and 8, shown
unfoldable pub own_before : List (List ℕ)
own_before =
    (1 ∷ 2 ∷ 3 ∷ 4 ∷ 5 ∷ 7 ∷ [])
    ∷ (3 ∷ 6 ∷ 8 ∷ [])
    ∷ (0 ∷ 5 ∷ 6 ∷ 7 ∷ 3 ∷ 4 ∷ 0 ∷ 2 ∷ 0 ∷ [])
    ∷ (64 ∷ 6 ∷ 64 ∷ 64 ∷ 3 ∷ 2 ∷ 64 ∷ 64 ∷ 64 ∷ [])
    ∷ []

unfoldable pub own8_before : List (List ℕ)
own8_before =
    (0 ∷ 4 ∷ 5 ∷ [])
    ∷ []
    ∷ (1 ∷ 0 ∷ 0 ∷ 0 ∷ 2 ∷ 1 ∷ 0 ∷ 0 ∷ 0 ∷ [])
    ∷ (64 ∷ 64 ∷ 64 ∷ 64 ∷ 64 ∷ 64 ∷ 64 ∷ 64 ∷ 64 ∷ [])
    ∷ []

-- those of the six messages, by their positions
unfoldable pub of_six : List ℕ → List (List ℕ)
of_six = map (λ i. get_or six i [])
  where
    six : List (List ℕ)
    six =
        (3 ∷ 5 ∷ 0 ∷ 64 ∷ 0 ∷ [])
        ∷ (1 ∷ 0 ∷ 3 ∷ 64 ∷ 0 ∷ [])
        ∷ (9 ∷ 8 ∷ 0 ∷ 5 ∷ 2 ∷ [])
        ∷ (4 ∷ 1 ∷ 8 ∷ 64 ∷ 0 ∷ 0 ∷ 3 ∷ 5 ∷ [])
        ∷ (8 ∷ 4 ∷ 0 ∷ 64 ∷ 0 ∷ [])
        ∷ (1 ∷ 0 ∷ 4 ∷ 64 ∷ 0 ∷ [])
        ∷ []
