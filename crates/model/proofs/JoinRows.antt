-- What note 10 of document 02 says, by rows that are computed.
use mathlib.Core.Path.{◌≡◌, refl}
use mathlib.Core.Bool.{true, false}
use mathlib.Core.List.{List, [], ◌∷◌, ◌++◌, map}
use Prim.Native.Nat.{ℕ}
use lib.ListN.{get_or, take, drop, replicate}
use Rattle.model.specs.Sets.{none_node, all, some, count, members, to_bits, of_bits, tabulate_from, tabulate, put}
use Rattle.model.specs.Ring.{Own, Node, Ring, fresh, is_running, sent_by}
use Rattle.model.specs.Types.{ping_contact, pong_ask_inv, pong_ask_repl, ping_replace, used_by_type}
use Rattle.model.specs.Steps.{stamped, naming, plain, viewing}
use Rattle.model.specs.Answers.{first_of}
use Rattle.model.specs.Words.{head_word, belongs, word_at, decode_table, decode, in_range, keys_differ}
use Rattle.model.specs.Words.{pair_fits, node_fits, message_fits, senders_fit, ring_fits, format_fits, reads_as_ring}
use Rattle.model.specs.Buffer.{wrong_length, not_a_ring}
use Rattle.model.specs.Connection.{reached, connected, groups}
use Rattle.model.specs.Join.{raised, raised_set, join, joining_refusals, join_refusals, join_answer, join_buffer}
use Rattle.model.specs.declared.values.Sides.{Sides}

-- ---- two rings, joined

abbrev sides : Sides
sides = record { ahead = 2; behind = 3 }

-- who is held and who is a candidate, by their bits; the commits and the spares
own : ℕ → ℕ → List ℕ → List ℕ → Own
own S C commits spares = record { held = of_bits S; candidates = of_bits C; commit = λ z. get_or commits z 0; spare = λ z. get_or spares z none_node }

-- the nodes of a list; any other is fresh
nodes : List Node → ℕ → Node
nodes l x = get_or l x fresh

-- nodes 0 and 1 run; 0 holds 1, and is its candidate
pub two : Ring
two =
    record {
      table = record { sides = sides; keys = 10 ∷ 20 ∷ [] };
      node = nodes
          (record { running = true; clock = 6; own = own 0b10 0 (0 ∷ 5 ∷ []) [] }
          ∷ record { running = true; clock = 4; own = own 0 0b01 [] [] }
          ∷ []);
      messages = plain ping_contact 1 0 ∷ [];
    }

-- node 1 is off; 0 holds 1, with spare 2, and 2, with none; 2 holds 0, and 1 is its candidate
pub three : Ring
three =
    record {
      table = record { sides = sides; keys = 5 ∷ 15 ∷ 25 ∷ [] };
      node = nodes
          (record { running = true; clock = 9; own = own 0b110 0 (0 ∷ 7 ∷ 8 ∷ []) (64 ∷ 2 ∷ 64 ∷ []) }
          ∷ record { running = false; clock = 3; own = own 0 0 [] [] }
          ∷ record { running = true; clock = 2; own = own 0b001 0b010 (1 ∷ []) [] }
          ∷ []);
      messages = naming pong_ask_repl 1 0 2 ∷ naming pong_ask_repl 1 0 64 ∷ viewing pong_ask_inv 0 2 (of_bits 0b011) ∷ stamped ping_replace 0 2 1 9 ∷ [];
    }

-- the same, but 2 has 1 as the spare of 0
pub spared : Ring
spared =
    record {
      table = three.table;
      node = put three.node 2 (record { running = true; clock = 2; own = own 0b001 0b010 (1 ∷ []) (1 ∷ []) });
      messages = three.messages;
    }

pub five : Ring
five = join two three

-- of the own record of each node
pub of_each : {A : Type 0} → (Own → A) → List A
of_each f = tabulate 5 (λ x. f (five.node x).own)

-- of each message its type, its ends, its subject and its stamp, and whom its view names
pub in_flight_lem : List (List ℕ)
in_flight_lem = map (λ m. (m.type ∷ m.sender ∷ m.receiver ∷ m.subject ∷ m.stamp ∷ []) ++ members 64 m.view) five.messages

-- ---- refusals

-- a ring with these sides and keys, and so many messages
pub sample : Sides → List ℕ → ℕ → Ring
sample sides keys m = record { table = record { sides = sides; keys = keys }; node = λ x. fresh; messages = replicate m (plain ping_contact 0 1) }

-- n keys, from a on
pub keys_from : ℕ → ℕ → List ℕ
keys_from a n = tabulate_from a n (λ i. i)

-- 14, 15, 16 or none, for two rings with A = 2, B = 3, these keys and so many messages
pub tried : List ℕ → List ℕ → ℕ → ℕ → ℕ
tried keys others m many = first_of (joining_refusals (sample sides keys m) (sample sides others many))

-- the same for a second ring with other sides, where the keys clash too
pub sides_tried : ℕ → ℕ → ℕ
sides_tried a b = first_of (joining_refusals (sample sides (7 ∷ []) 0) (sample (record { ahead = a; behind = b }) (7 ∷ []) 0))

-- 13,441 words that do not read as a ring
unfoldable pub zeros : List ℕ
zeros = replicate 13441 0

-- the rows by name
pub record JoinRows : Type 0 where
  -- "The second's numbers rise by the first's n .. 64 for none stays 64"; a set's members rise
  pub numbers_rise : map (raised 3) (0 ∷ 5 ∷ 64 ∷ []) ≡ 3 ∷ 8 ∷ 64 ∷ []
  pub members_rise : members 64 (raised_set 3 (of_bits 0b1001001)) ≡ 3 ∷ 6 ∷ 9 ∷ []
  -- "The first ring's stands keep their numbers."
  pub tables_joined : five.table ≡ record { sides = record { ahead = 2; behind = 3 }; keys = 10 ∷ 20 ∷ 5 ∷ 15 ∷ 25 ∷ [] }
  -- "Clocks, stamps and marks are kept."
  pub marks_kept : members 64 (is_running five) ≡ 0 ∷ 1 ∷ 2 ∷ 4 ∷ []
  pub clocks_kept : tabulate 6 (λ x. (five.node x).clock) ≡ 6 ∷ 4 ∷ 9 ∷ 3 ∷ 2 ∷ 0 ∷ []
  pub commits_kept : of_each (λ o. tabulate 6 o.commit)
      ≡ (0 ∷ 5 ∷ 0 ∷ 0 ∷ 0 ∷ 0 ∷ [])
      ∷ (0 ∷ 0 ∷ 0 ∷ 0 ∷ 0 ∷ 0 ∷ [])
      ∷ (0 ∷ 0 ∷ 0 ∷ 7 ∷ 8 ∷ 0 ∷ [])
      ∷ (0 ∷ 0 ∷ 0 ∷ 0 ∷ 0 ∷ 0 ∷ [])
      ∷ (0 ∷ 0 ∷ 1 ∷ 0 ∷ 0 ∷ 0 ∷ [])
      ∷ []
  -- "in pairs, spares, messages and views alike"; "Across the two rings nobody is held and nobody is a candidate."
  pub held_risen : of_each (λ o. members 64 o.held) ≡ (1 ∷ []) ∷ [] ∷ (3 ∷ 4 ∷ []) ∷ [] ∷ (2 ∷ []) ∷ []
  pub candidates_risen : of_each (λ o. members 64 o.candidates) ≡ [] ∷ (0 ∷ []) ∷ [] ∷ [] ∷ (3 ∷ []) ∷ []
  pub spares_risen : of_each (λ o. tabulate 6 o.spare)
      ≡ (64 ∷ 64 ∷ 64 ∷ 64 ∷ 64 ∷ 64 ∷ [])
      ∷ (64 ∷ 64 ∷ 64 ∷ 64 ∷ 64 ∷ 64 ∷ [])
      ∷ (64 ∷ 64 ∷ 64 ∷ 4 ∷ 64 ∷ 64 ∷ [])
      ∷ (64 ∷ 64 ∷ 64 ∷ 64 ∷ 64 ∷ 64 ∷ [])
      ∷ (64 ∷ 64 ∷ 64 ∷ 64 ∷ 64 ∷ 64 ∷ [])
      ∷ []
  -- also the spare of the second's node 0
  pub first_spare_risen : tabulate 6 ((join two spared).node 4).own.spare ≡ 64 ∷ 64 ∷ 3 ∷ 64 ∷ 64 ∷ 64 ∷ []
  -- "The first ring's messages come first, then the second's."
  pub messages_risen : in_flight_lem
      ≡ (1 ∷ 1 ∷ 0 ∷ 64 ∷ 0 ∷ [])
      ∷ (8 ∷ 3 ∷ 2 ∷ 4 ∷ 0 ∷ [])
      ∷ (8 ∷ 3 ∷ 2 ∷ 64 ∷ 0 ∷ [])
      ∷ (4 ∷ 2 ∷ 4 ∷ 64 ∷ 0 ∷ 2 ∷ 3 ∷ [])
      ∷ (9 ∷ 2 ∷ 4 ∷ 3 ∷ 9 ∷ [])
      ∷ []
  -- the two fit, and so does the join
  pub all_fit : map ring_fits (two ∷ three ∷ five ∷ []) ≡ true ∷ true ∷ true ∷ []
  -- "Two stands are connected in it exactly when they came from one ring and were connected there."
  pub connected_apart : tabulate 5 (λ x. members 5 (connected five x))
      ≡ (0 ∷ 1 ∷ []) ∷ (0 ∷ 1 ∷ []) ∷ (2 ∷ 4 ∷ []) ∷ [] ∷ (2 ∷ 4 ∷ []) ∷ []
  pub groups_added : map groups (two ∷ three ∷ five ∷ []) ≡ 1 ∷ 1 ∷ 2 ∷ []
  -- "Refusals 1 and 6 are tried first, over all the buffers and over both sources; the new ones follow in rising order"
  pub in_order : map (λ q. q.number) (join_refusals [] [] []) ≡ 1 ∷ 1 ∷ 1 ∷ 6 ∷ 6 ∷ 14 ∷ 15 ∷ 16 ∷ []
  pub of_all : (a b c : List ℕ) → take 3 (join_refusals a b c) ≡ wrong_length a ∷ wrong_length b ∷ wrong_length c ∷ []
  pub of_sources : (a b c : List ℕ) → take 2 (drop 3 (join_refusals a b c)) ≡ not_a_ring a ∷ not_a_ring b ∷ []
  pub wrong_lengths : join_answer [] zeros zeros ∷ join_answer zeros [] zeros ∷ join_answer zeros zeros [] ∷ [] ≡ 1 ∷ 1 ∷ 1 ∷ []
  pub no_ring : join_answer zeros zeros zeros ≡ 6
  -- "and nothing is written"
  pub not_written : join_buffer zeros zeros (7 ∷ 8 ∷ []) ≡ record { answer = 1; words = 7 ∷ 8 ∷ [] }
  -- "14, the two differ in A or B", before 15
  pub sides_differ_lem : sides_tried 2 4 ∷ sides_tried 1 3 ∷ sides_tried 3 2 ∷ sides_tried 2 3 ∷ [] ≡ 14 ∷ 14 ∷ 14 ∷ 15 ∷ []
  -- "15, more than 64 stands or a shared key", before 16
  pub one_and_63 : tried (keys_from 100 1) (keys_from 200 63) 0 0 ≡ 0
  pub half_and_half : tried (keys_from 100 32) (keys_from 200 32) 0 0 ≡ 0
  pub full_and_one : tried (keys_from 100 64) (keys_from 200 1) 0 0 ≡ 15
  pub before_16 : tried (keys_from 100 32) (keys_from 200 33) 1024 1 ≡ 15
  pub key_shared_lem : tried (1 ∷ 2 ∷ 3 ∷ []) (4 ∷ 3 ∷ []) 0 0 ≡ 15
  pub key_shared_before_16 : tried (1 ∷ 2 ∷ 3 ∷ []) (1 ∷ 5 ∷ 6 ∷ []) 1024 1 ≡ 15
  pub no_key_shared : tried (1 ∷ 2 ∷ []) (3 ∷ 4 ∷ []) 0 0 ≡ 0
  -- "16, more than 1,024 messages"
  pub half_the_pool : tried (1 ∷ 2 ∷ []) (3 ∷ 4 ∷ []) 512 512 ≡ 0
  pub too_many : tried (1 ∷ 2 ∷ []) (3 ∷ 4 ∷ []) 512 513 ≡ 16

pub join_rows : JoinRows
unfolding own nodes two three spared five of_each in_flight_lem sample keys_from tried sides_tried zeros join all some count members tabulate_from to_bits
    used_by_type first_of head_word belongs word_at decode_table decode in_range keys_differ pair_fits node_fits sent_by message_fits senders_fit ring_fits
    format_fits reads_as_ring
    reached connected groups join_answer join_buffer
join_rows =
    record {
      numbers_rise = refl;
      members_rise = refl;
      tables_joined = refl;
      marks_kept = refl;
      clocks_kept = refl;
      commits_kept = refl;
      held_risen = refl;
      candidates_risen = refl;
      spares_risen = refl;
      first_spare_risen = refl;
      messages_risen = refl;
      all_fit = refl;
      connected_apart = refl;
      groups_added = refl;
      in_order = refl;
      of_all = λ a b c. refl;
      of_sources = λ a b c. refl;
      wrong_lengths = refl;
      no_ring = refl;
      not_written = refl;
      sides_differ_lem = refl;
      one_and_63 = refl;
      half_and_half = refl;
      full_and_one = refl;
      before_16 = refl;
      key_shared_lem = refl;
      key_shared_before_16 = refl;
      no_key_shared = refl;
      half_the_pool = refl;
      too_many = refl;
    }
