-- What the two screens show, by rows that are computed.
use mathlib.Core.Path.{◌≡◌, refl}
use Prim.Native.Nat.{ℕ, zero, suc, ◌+◌, ◌*◌}
use mathlib.Core.Bool.{true, false}
use mathlib.Core.List.{[], ◌∷◌, map}
use lib.ListN.{length, get_or, take, replicate}
use Rattle.std.specs.Prelude.{if◌then◌else◌}
use Rattle.model.specs.Sets.{put, of_bits, to_bits, count, none_node, tabulate, tabulate_from}
use Rattle.model.specs.Leafset.{Table, leafset}
use Rattle.model.specs.Ring.{Own, Node, Ring, blank, cleared}
use Rattle.model.specs.Screens.{seen, conductor_screen, technician_screen, shown_stamps, shown_spares, messages_in}
use Rattle.model.specs.Screens.{empty_conductor, empty_technician, conductor_of, technician_of, stamps_of, spares_of, messages_of}
use Rattle.model.specs.Answers.{first_of}
use Rattle.model.specs.Buffer.{ring_answer}
use Rattle.model.specs.declared.screen.ConductorScreen.{ConductorScreen}

-- A = 1 and B = 2
table : Table
table = record { sides = record { ahead = 1; behind = 2 }; keys = 10 ∷ 20 ∷ 30 ∷ 40 ∷ 50 ∷ [] }

-- holds the nodes of S, node 4 with spare 2, and has the candidates of R
noting : ℕ → ℕ → Own
noting S R =
    record {
      held = of_bits S;
      candidates = of_bits R;
      commit = λ z. if of_bits S z then 5 + z else 0;
      spare = put (λ z. none_node) 4 2;
    }

-- nodes 0 and 3 run; node 0 holds all others, node 3 node 0. Node 1 is off and yet holds node 0, which no ring that reads as one has.
nodes : ℕ → Node
nodes zero = record { running = true; clock = 9; own = noting 0b11110 0b00100 }
nodes (suc zero) = record { running = false; clock = 8; own = noting 0b00001 0 }
nodes (suc (suc zero)) = record { running = false; clock = 7; own = cleared }
nodes (suc (suc (suc zero))) = record { running = true; clock = 6; own = noting 0b00001 0b10010 }
nodes (suc (suc (suc (suc x)))) = record { running = false; clock = 0; own = cleared }

-- and two messages are in flight
pub ring : Ring
ring = record { table = table; node = nodes; messages = blank ∷ blank ∷ [] }

pub conductor : ConductorScreen
conductor = conductor_screen (seen ring)

-- what is shown of the pair (x, z)
pub stamp : ℕ → ℕ → ℕ
stamp x z = get_or (shown_stamps ring) (64 * x + z) 1

pub spare : ℕ → ℕ → ℕ
spare x z = get_or (shown_spares ring) (64 * x + z) 1

pub record ScreenRows : Type 0 where
  -- "A, B, the table, who is running"
  pub shows_sides : conductor.sides ≡ record { ahead = 1; behind = 2 }
  pub shows_n : conductor.nodes ≡ 5
  pub shows_keys : take 7 conductor.keys ≡ 10 ∷ 20 ∷ 30 ∷ 40 ∷ 50 ∷ 0 ∷ 0 ∷ []
  pub shows_running : conductor.running ≡ 0b01001
  -- "each running stand's leafset of its held set": of nodes 1 to 4 node 1 clockwise, nodes 4 and 3 the other way; of one that is off, none
  pub shows_leafsets : take 7 conductor.leafsets ≡ 0b11010 ∷ 0 ∷ 0 ∷ 0b00001 ∷ 0 ∷ 0 ∷ 0 ∷ []
  -- "candidates, stamps, spares"
  pub shows_candidates : take 7 (technician_screen ring).candidates ≡ 0b00100 ∷ 0 ∷ 0 ∷ 0b10010 ∷ 0 ∷ 0 ∷ 0 ∷ []
  pub shows_stamps : stamp 0 1 ∷ stamp 0 4 ∷ stamp 3 0 ∷ stamp 3 1 ∷ [] ≡ 6 ∷ 9 ∷ 5 ∷ 0 ∷ []
  pub shows_spares : spare 0 4 ∷ spare 3 4 ∷ spare 0 1 ∷ spare 4 0 ∷ [] ≡ 2 ∷ 2 ∷ 64 ∷ 64 ∷ []
  -- the places of a node with itself, and of no node
  pub no_pair : spare 0 0 ∷ spare 4 4 ∷ spare 0 5 ∷ spare 5 0 ∷ spare 63 63 ∷ stamp 0 0 ∷ [] ≡ 0 ∷ 0 ∷ 0 ∷ 0 ∷ 0 ∷ 0 ∷ []
  -- "exactly 5 times m of them", from word 8,321 on
  pub shows_messages : messages_in (tabulate 8340 (λ i. i)) ring
      ≡ 8321 ∷ 8322 ∷ 8323 ∷ 8324 ∷ 8325 ∷ 8326 ∷ 8327 ∷ 8328 ∷ 8329 ∷ 8330 ∷ []
  -- 64 places for the nodes and 4,096 for the pairs, refused or not
  pub as_many_nodes :
      map length
      (conductor.keys ∷ conductor.leafsets ∷ (technician_screen ring).candidates
      ∷ empty_conductor.keys ∷ empty_conductor.leafsets ∷ empty_technician.candidates ∷ [])
      ≡ replicate 6 64
  pub as_many_pairs : map length (shown_stamps ring ∷ shown_spares ring ∷ stamps_of (7 ∷ []) ∷ spares_of (7 ∷ []) ∷ []) ≡ replicate 4 4096
  -- "an empty answer: each number 0, each set empty"
  pub nothing_shown : empty_conductor.sides ≡ record { ahead = 0; behind = 0 }
  pub nobody_shown : empty_conductor.nodes ∷ empty_conductor.running ∷ get_or empty_conductor.keys 63 1 ∷ [] ≡ 0 ∷ 0 ∷ 0 ∷ []
  pub no_set_shown : get_or empty_conductor.leafsets 63 1 ∷ get_or empty_technician.candidates 63 1 ∷ [] ≡ 0 ∷ 0 ∷ []
  -- of a buffer of one word
  pub refused_conductor : conductor_of (7 ∷ []) ≡ empty_conductor
  pub refused_technician : technician_of (7 ∷ []) ≡ empty_technician
  pub refused_arrays : map (λ l. get_or l 4095 1) (stamps_of (7 ∷ []) ∷ spares_of (7 ∷ []) ∷ []) ≡ 0 ∷ 0 ∷ []
  -- "of length 0 when refused"
  pub refused_messages : messages_of (7 ∷ []) ≡ []

pub screen_rows : ScreenRows
unfolding tabulate_from to_bits count leafset conductor_screen technician_screen messages_in empty_conductor empty_technician
    shown_stamps shown_spares conductor_of technician_of stamps_of spares_of messages_of ring_answer first_of
    table noting nodes ring conductor stamp spare
screen_rows =
    record {
      shows_sides = refl;
      shows_n = refl;
      shows_keys = refl;
      shows_running = refl;
      shows_leafsets = refl;
      shows_candidates = refl;
      shows_stamps = refl;
      shows_spares = refl;
      no_pair = refl;
      shows_messages = refl;
      as_many_nodes = refl;
      as_many_pairs = refl;
      nothing_shown = refl;
      nobody_shown = refl;
      no_set_shown = refl;
      refused_conductor = refl;
      refused_technician = refl;
      refused_arrays = refl;
      refused_messages = refl;
    }
