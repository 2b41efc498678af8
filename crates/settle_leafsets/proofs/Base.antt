-- Rows of the definitions, computed on five nodes with A = B = 1: whom node 0 lacks, chooses and is offered.
use mathlib.Core.Path.{◌≡◌, refl}
use mathlib.Core.Bool.{Bool, true, false}
use mathlib.Core.List.{[], ◌∷◌}
use lib.ListN.{get_or}
use Rattle.model.specs.Sets.{empty, of_bits, none_node, some, count, members}
use Rattle.model.specs.Leafset.{Table, leafset, nearest, closest}
use Rattle.model.specs.Ring.{Ring}
use Rattle.settle_leafsets.specs.Covered.{lacks, lacking}
use Rattle.settle_leafsets.specs.Quiescent.{chosen, offer_of}

-- clockwise in the order of their numbers
unfoldable five : Table
five = record { sides = record { ahead = 1; behind = 1 }; keys = 10 ∷ 20 ∷ 30 ∷ 40 ∷ 50 ∷ [] }

-- node 0 holds 1, 2 and 3, the others hold their neighbours; node 4 runs, or not
unfoldable ring : Bool → Ring
ring on =
    record {
      table = five;
      node = λ x. record {
        running = get_or (true ∷ true ∷ true ∷ true ∷ on ∷ []) x false;
        clock = 8;
        own = record { held = of_bits (get_or (14 ∷ 5 ∷ 10 ∷ 20 ∷ 9 ∷ []) x 0); candidates = empty; commit = λ z. 5; spare = λ z. none_node };
      };
      messages = [];
    }

-- node 0 lacks node 4, which runs and is nearer the other way than 3; it lacks nobody whom it holds, nor itself
lacked : members 5 (lacks (ring true) 0) ≡ 4 ∷ []
unfolding some count members leafset nearest closest five ring
lacked = refl

lacked_count : lacking (ring true) 0 ≡ 1
unfolding some count members leafset nearest closest five ring
lacked_count = refl

-- node 4 lacks nobody
lacked_at_4 : members 5 (lacks (ring true) 4) ≡ []
unfolding some count members leafset nearest closest five ring
lacked_at_4 = refl

-- nobody lacks one that is off
lacked_off : members 5 (lacks (ring false) 0) ≡ []
unfolding some count members leafset nearest closest five ring
lacked_off = refl

-- of 1, 2 and 3 node 0 chooses 1 and 3; node 2, outside, offers it node 1, the nearer of its two
chosen_row : members 5 (chosen (ring true) 0) ≡ 1 ∷ 3 ∷ []
unfolding some count members leafset nearest closest five ring
chosen_row = refl

offered : offer_of (ring true) 2 0 ≡ 1
unfolding some count members leafset nearest closest five ring
offered = refl

-- node 1, which holds node 0, offers nobody: none of its leafset but node 0 itself is nearer to node 0
offered_none : offer_of (ring true) 1 0 ≡ 64
unfolding some count members leafset nearest closest five ring
offered_none = refl
