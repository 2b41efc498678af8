-- What note 11 of document 02 says, by rows that are computed.
use mathlib.Core.Path.{◌≡◌, refl}
use mathlib.Core.List.{List, [], ◌∷◌, map}
use Prim.Native.Nat.{ℕ, ◌^◌}
use lib.ListN.{length, get_or, drop, replicate}
use Rattle.model.specs.Sets.{some, count, members, of_bits, all, tabulate_from, tabulate}
use Rattle.model.specs.Ring.{Ring, cleared}
use Rattle.model.specs.Answers.{first_of}
use Rattle.model.specs.Words.{head_word, key_word, clock_word, belongs, word_at, decode_table, decode_node, decode, reads_as_ring, format_fits, ring_fits}
use Rattle.model.specs.Route.{key_out_of_range}
use Rattle.model.specs.Reach.{spans, Ending, finger, fingers, owner, next, reach_within, reach, last_before, reach_refusals, reach_answer, reach_of}

-- a ring of these keys, in which the nodes run that are given by their bits
pub ring_of : List ℕ → ℕ → Ring
ring_of keys on =
    record {
      table = record { sides = record { ahead = 1; behind = 1 }; keys = keys };
      node = λ x. record { running = of_bits on x; clock = 0; own = cleared };
      messages = [];
    }

-- four nodes, of which those run
pub four : ℕ → Ring
four on = ring_of (10 ∷ 12 ∷ 18 ∷ 16777212 ∷ []) on

-- three nodes on both sides of key 0
pub astride : Ring
astride = ring_of (16777214 ∷ 2 ∷ 6 ∷ []) 0b111

-- where a reach ends, and its hops
pub ends : ℕ → ℕ → Ending
ends end hops = record { end = end; hops = hops }

-- the first words of a ring of three, of which node 1 is off: all that a reach looks at
pub words : List ℕ
words = tabulate 7 (word_at (ring_of (0 ∷ 4 ∷ 16777215 ∷ []) 0b101))

-- 7, 8, 12 or none, over these
pub tried : ℕ → ℕ → ℕ
tried start key = first_of (drop 2 (reach_refusals words start key))

-- 13,441 words that do not read as a ring
unfoldable pub zeros : List ℕ
zeros = replicate 13441 0

-- the rows by name
pub record ReachRows : Type 0 where
  -- "For spans 1, 2, 4 up to 8,388,608, kept as a table of 24 numbers"
  pub spans_many : length spans ≡ 24
  pub spans_ends : map (λ i. get_or spans i 0) (0 ∷ 1 ∷ 2 ∷ 23 ∷ []) ≡ 1 ∷ 2 ∷ 4 ∷ 8388608 ∷ []
  pub spans_all : spans ≡ tabulate 24 (λ i. 2 ^ i)
  -- "the running stand first met clockwise from its key plus the span .. A stand at that very place counts as met."
  pub fingers_met : map (finger (four 0b1111) 0) (1 ∷ 2 ∷ 4 ∷ 8 ∷ 16 ∷ 8388608 ∷ []) ≡ 1 ∷ 1 ∷ 2 ∷ 2 ∷ 3 ∷ 3 ∷ []
  -- "round the ring. .. A finger may be the stand itself."
  pub fingers_round : map (finger (four 0b1111) 3) (1 ∷ 8 ∷ 16 ∷ 32 ∷ []) ≡ 0 ∷ 0 ∷ 1 ∷ 3 ∷ []
  pub fingers_running : map (finger (four 0b1001) 0) (1 ∷ 2 ∷ 4 ∷ 8 ∷ 16 ∷ 8388608 ∷ []) ≡ 3 ∷ 3 ∷ 3 ∷ 3 ∷ 3 ∷ 3 ∷ []
  pub fingers_alone : map (finger (four 0b0010) 1) spans ≡ replicate 24 1
  pub fingers_all : members 4 (fingers (four 0b1111) 0) ≡ 1 ∷ 2 ∷ 3 ∷ []
  pub fingers_itself : members 4 (fingers (four 0b1111) 3) ≡ 0 ∷ 1 ∷ 3 ∷ []
  -- "The owner of a key is the running stand first met clockwise from it, one at the key included."
  pub owners : map (owner (four 0b1111)) (10 ∷ 11 ∷ 12 ∷ 13 ∷ 19 ∷ 16777212 ∷ []) ≡ 0 ∷ 1 ∷ 1 ∷ 2 ∷ 3 ∷ 3 ∷ []
  pub owners_round : map (owner (four 0b1111)) (16777213 ∷ 16777215 ∷ 0 ∷ 9 ∷ []) ≡ 0 ∷ 0 ∷ 0 ∷ 0 ∷ []
  pub owners_running : map (owner (four 0b0101)) (10 ∷ 11 ∷ 12 ∷ 18 ∷ 19 ∷ 16777212 ∷ []) ≡ 0 ∷ 2 ∷ 2 ∷ 2 ∷ 0 ∷ 0 ∷ []
  pub owner_of_none : owner (four 0) 12 ≡ 64
  -- the last running node before the key
  pub lasts : map (last_before (four 0b1111)) (10 ∷ 11 ∷ 12 ∷ 13 ∷ 0 ∷ 16777212 ∷ 16777213 ∷ []) ≡ 3 ∷ 0 ∷ 0 ∷ 1 ∷ 3 ∷ 2 ∷ 3 ∷ []
  pub lasts_running : map (last_before (four 0b0011)) (10 ∷ 11 ∷ 13 ∷ 0 ∷ []) ≡ 1 ∷ 0 ∷ 1 ∷ 1 ∷ []
  -- "it goes to the farthest finger": of those at 1, 2 and 4
  pub farthest : next (ring_of (0 ∷ 1 ∷ 2 ∷ 4 ∷ 100 ∷ []) 0b11111) 50 0 ≡ 3
  -- "strictly between the present stand and the key": not the one at the key
  pub not_at_key : next (ring_of (0 ∷ 4 ∷ 8 ∷ []) 0b111) 8 0 ≡ 1
  -- nor itself, which is its own finger of span 128
  pub not_itself : next (ring_of (0 ∷ 100 ∷ []) 0b11) 50 0 ≡ 1
  -- "and if there is none, to the finger of span 1"
  pub none_between : next (ring_of (0 ∷ 1 ∷ 2 ∷ []) 0b111) 1 0 ≡ 1
  -- 7 lies between too, and farther, but is no finger: those of spans 4 and 8 are 5 and 9
  pub fingers_only : next (ring_of (0 ∷ 5 ∷ 7 ∷ 9 ∷ []) 0b1111) 8 0 ≡ 1
  -- "A reach stops at the owner", "counted in its answer"
  pub two_hops : reach (ring_of (0 ∷ 4 ∷ 8 ∷ []) 0b111) 8 0 ≡ ends 2 2
  pub three_hops : reach (ring_of (0 ∷ 5 ∷ 7 ∷ 9 ∷ []) 0b1111) 8 0 ≡ ends 3 3
  pub one_hop : reach (ring_of (0 ∷ 1 ∷ 2 ∷ []) 0b111) 1 0 ≡ ends 1 1
  pub at_owner : reach (four 0b1111) 12 1 ≡ ends 1 0
  pub before_owner : reach (four 0b1111) 11 1 ≡ ends 1 0
  pub over_off : reach (ring_of (0 ∷ 4 ∷ 8 ∷ 12 ∷ []) 0b1101) 12 0 ≡ ends 3 2
  pub to_off : reach (ring_of (0 ∷ 4 ∷ 8 ∷ 12 ∷ []) 0b1101) 4 0 ≡ ends 2 1
  pub alone : map (λ a. reach (four 0b0010) a 1) (0 ∷ 12 ∷ 13 ∷ 16777215 ∷ []) ≡ replicate 4 (ends 1 0)
  pub round_zero : map (λ a. reach astride a 0) (6 ∷ 1 ∷ 0 ∷ 16777215 ∷ 7 ∷ []) ≡ ends 2 2 ∷ ends 1 1 ∷ ends 1 1 ∷ ends 1 1 ∷ ends 0 0 ∷ []
  -- nearly round the ring, in at most four hops
  pub past_owner : reach_within (four 0b1111) 10 4 1 ≡ ends 0 2
  pub round_to : map (λ a. reach_within astride a 4 2) (16777214 ∷ 1 ∷ 2 ∷ 3 ∷ []) ≡ ends 0 1 ∷ ends 1 2 ∷ ends 1 2 ∷ ends 2 0 ∷ []
  -- "Refusals 1, 6, 7, 8 and 12 apply": 12 where the key is above 16,777,215
  pub in_order : map (λ q. q.number) (reach_refusals [] 0 0) ≡ 1 ∷ 6 ∷ 7 ∷ 8 ∷ 12 ∷ []
  pub of_key : (ws : List ℕ) (start key : ℕ) → drop 4 (reach_refusals ws start key) ≡ key_out_of_range key ∷ []
  pub high_key : tried 0 16777216 ∷ tried 0 16777215 ∷ tried 2 0 ∷ [] ≡ 12 ∷ 0 ∷ 0 ∷ []
  pub off_before_key : tried 1 16777216 ∷ tried 1 0 ∷ [] ≡ 8 ∷ 8 ∷ []
  pub table_before_off : tried 3 16777216 ∷ tried 3 0 ∷ tried 64 0 ∷ [] ≡ 7 ∷ 7 ∷ 7 ∷ []
  -- "A refused reach answers 0 hops and stand 64."
  pub wrong_length_lem : reach_of words 0 0 ≡ record { answer = 1; end = 64; hops = 0 }
  pub no_ring : reach_of zeros 0 16777216 ≡ record { answer = 6; end = 64; hops = 0 }

pub reach_rows : ReachRows
unfolding ring_of four astride ends words tried zeros all some count members tabulate_from head_word key_word clock_word belongs word_at
    decode_table decode_node decode reads_as_ring format_fits ring_fits first_of spans finger fingers owner next reach_within reach last_before reach_answer reach_of
reach_rows =
    record {
      spans_many = refl;
      spans_ends = refl;
      spans_all = refl;
      fingers_met = refl;
      fingers_round = refl;
      fingers_running = refl;
      fingers_alone = refl;
      fingers_all = refl;
      fingers_itself = refl;
      owners = refl;
      owners_round = refl;
      owners_running = refl;
      owner_of_none = refl;
      lasts = refl;
      lasts_running = refl;
      farthest = refl;
      not_at_key = refl;
      not_itself = refl;
      none_between = refl;
      fingers_only = refl;
      two_hops = refl;
      three_hops = refl;
      one_hop = refl;
      at_owner = refl;
      before_owner = refl;
      over_off = refl;
      to_off = refl;
      alone = refl;
      round_zero = refl;
      past_owner = refl;
      round_to = refl;
      in_order = refl;
      of_key = λ ws start key. refl;
      high_key = refl;
      off_before_key = refl;
      table_before_off = refl;
      wrong_length_lem = refl;
      no_ring = refl;
    }
