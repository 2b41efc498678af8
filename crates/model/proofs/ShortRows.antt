-- What note 14 of document 02 says, by rows that are computed.
use mathlib.Core.Path.{◌≡◌, refl}
use mathlib.Core.Bool.{true, false}
use mathlib.Core.List.{List, [], ◌∷◌, map}
use Prim.Native.Nat.{ℕ, ◌+◌}
use lib.ListN.{replicate}
use Rattle.model.specs.Sets.{Set, all, count, members, tabulate_from}
use Rattle.model.specs.Answers.{first_of, number_of}
use Rattle.model.specs.Words.{node_place, pair_place, message_place, belongs, head_word, word_at, decode_table, decode, format_fits, reads_as_ring}
use Rattle.model.specs.Words.{size_in, count_in}
use Rattle.model.specs.Short.{short_pair, short_message, long_word, reads_as_short, shorten_refusals, shorten_answer, shorten_buffer}
use Rattle.model.specs.Short.{lengthen_refusals, lengthen_answer, lengthen_buffer}
use Rattle.model.specs.declared.refusal.Refusal.TheVariants.{NotShort, PlaceTooSmall}

-- the numbers of the first places that belong, k from place a on
pub from : ℕ → ℕ → Set → List ℕ
from a k S = members k (λ j. S (a + j))

-- the word 0 of n nodes and m messages
pub head : ℕ → ℕ → ℕ
head n m = head_word (record { ahead = 1; behind = 1 }) n m

-- a short ring of two nodes, by numbers that show whose they are
pub two : List ℕ
two = head 2 0 ∷ 11 ∷ 12 ∷ 21 ∷ 22 ∷ 31 ∷ 32 ∷ 41 ∷ 42 ∷ []

-- 13,441 words
unfoldable pub zeros : List ℕ
zeros = replicate 13441 0

pub record ShortRows : Type 0 where
  -- "word 0, then only the words that belong to a stand, pair or message, in ring order": of two nodes, and of one
  pub two_nodes : members 300 (belongs 2 0) ≡ 0 ∷ 1 ∷ 2 ∷ 3 ∷ 4 ∷ 131 ∷ 132 ∷ 257 ∷ 258 ∷ []
  pub one_node : members 300 (belongs 1 0) ≡ 0 ∷ 1 ∷ 2 ∷ []
  pub three_messages : from (message_place 0) 20 (belongs 1 3) ≡ 0 ∷ 1 ∷ 2 ∷ 3 ∷ 4 ∷ 5 ∷ 6 ∷ 7 ∷ 8 ∷ 9 ∷ 10 ∷ 11 ∷ 12 ∷ 13 ∷ 14 ∷ []
  -- a pair is "of different stands": row 1 of three
  pub row_of_three : from (pair_place 1 0) 10 (belongs 3 0) ≡ 0 ∷ 1 ∷ 4 ∷ 5 ∷ []
  -- the last places of nodes, pairs and messages
  pub last_places :
      map (belongs 64 1024) ((node_place 63 + 1) ∷ (pair_place 63 62 + 1) ∷ pair_place 63 63 ∷ (message_place 1023 + 4) ∷ [])
      ≡ true ∷ true ∷ false ∷ true ∷ []
  pub last_but_one : map (belongs 63 1023) (node_place 63 ∷ pair_place 62 63 ∷ pair_place 63 0 ∷ message_place 1023 ∷ []) ≡ false ∷ false ∷ false ∷ false ∷ []
  -- where they stand in a short ring of three: rows of two pairs, x first; then the messages
  pub pairs_of_three :
      short_pair 3 0 1 ∷ short_pair 3 0 2 ∷ short_pair 3 1 0 ∷ short_pair 3 1 2 ∷ short_pair 3 2 0 ∷ short_pair 3 2 1 ∷ short_message 3 0 ∷ []
      ≡ 7 ∷ 9 ∷ 11 ∷ 13 ∷ 15 ∷ 17 ∷ 19 ∷ []
  -- "Its length follows from n and m.": 1 + 2 n n + 5 m
  pub lengths : short_message 1 0 ∷ short_message 2 1 ∷ short_message 64 1024 ∷ [] ≡ 3 ∷ 14 ∷ 13313 ∷ []
  -- "Conversion goes each way.": the words back at their places, and 0 elsewhere
  pub back_first : map (long_word 2 0 two) (0 ∷ 1 ∷ 2 ∷ 3 ∷ 4 ∷ 5 ∷ 128 ∷ 129 ∷ 130 ∷ []) ≡ head 2 0 ∷ 11 ∷ 12 ∷ 21 ∷ 22 ∷ 0 ∷ 0 ∷ 0 ∷ 0 ∷ []
  pub back_pairs : map (long_word 2 0 two) (131 ∷ 132 ∷ 133 ∷ 256 ∷ 257 ∷ 258 ∷ 259 ∷ []) ≡ 31 ∷ 32 ∷ 0 ∷ 0 ∷ 41 ∷ 42 ∷ 0 ∷ []
  -- n and m are word 0's, in both forms
  pub head_says : size_in (head 64 1024 ∷ []) ∷ count_in (head 64 1024 ∷ []) ∷ size_in [] ∷ count_in [] ∷ [] ≡ 64 ∷ 1024 ∷ 0 ∷ 0 ∷ []
  -- "Refusals 1 and 6 concern the long side and come first; when a short ring is made long only 1 does, ..; the new ones follow"
  pub numbers : map number_of (NotShort ∷ PlaceTooSmall ∷ []) ≡ 19 ∷ 20 ∷ []
  pub shorten_order : (ws place : List ℕ) → map (λ q. q.number) (shorten_refusals ws place) ≡ 1 ∷ 6 ∷ 20 ∷ []
  pub lengthen_order : (short ws : List ℕ) → map (λ q. q.number) (lengthen_refusals short ws) ≡ 1 ∷ 19 ∷ []
  pub no_long_buffer : shorten_buffer [] (5 ∷ []) ≡ record { answer = 1; length = 0; place = 5 ∷ [] }
  pub not_as_long : (short : List ℕ) → lengthen_buffer short (5 ∷ []) ≡ record { answer = 1; words = 5 ∷ [] }
  pub no_ring : shorten_answer zeros [] ≡ 6
  -- "19, a short input is empty"
  pub empty_input : lengthen_answer [] zeros ≡ 19

pub short_rows : ShortRows
unfolding from head two zeros all count members tabulate_from first_of belongs head_word word_at decode_table decode format_fits reads_as_ring reads_as_short
    shorten_answer shorten_buffer lengthen_answer lengthen_buffer
short_rows =
    record {
      two_nodes = refl;
      one_node = refl;
      three_messages = refl;
      row_of_three = refl;
      last_places = refl;
      last_but_one = refl;
      pairs_of_three = refl;
      lengths = refl;
      back_first = refl;
      back_pairs = refl;
      head_says = refl;
      numbers = refl;
      shorten_order = λ ws place. refl;
      lengthen_order = λ short ws. refl;
      no_long_buffer = refl;
      not_as_long = λ short. refl;
      no_ring = refl;
      empty_input = refl;
    }
