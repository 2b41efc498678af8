-- The ring's words: writing a ring, reading one, and which words read as a ring.
use Rattle.std.specs.Prelude.{ℕ, ◌+◌, ◌-◌, ◌*◌, ◌/◌, ◌%◌, ◌^◌, Bool, true, not, ◌&&◌, ◌||◌, List, [], ◌∷◌, length, get_or, ltb, leb, eqb, if◌then◌else◌}
use Rattle.model.specs.Choice.{◌⇒◌, every}
use Rattle.model.specs.Sets.{tabulate, all, to_bits, of_bits, none_node}
use Rattle.model.specs.Leafset.{Table, size, key}
use Rattle.model.specs.Ring.{Own, Node, Message, Ring, message_at, sent_by}
use Rattle.model.specs.Fields.{bits, bit, flag, of_kind}
use Rattle.model.specs.Types.{types, uses_view, uses_subject, names_spare, uses_stamp}
use Rattle.model.specs.declared.values.Sides.{Sides}

-- ---- places

-- "Words 1 + 2s and 2 + 2s for stand s"; "Words from 129, two for each pair (x, z) .. at 129 + 2 times (64 times x + z)";
-- "Words from 8,321, five a message, oldest first": the first word of each
abbrev pub node_place : ℕ → ℕ
node_place s = 1 + 2 * s

abbrev pub pair_place : ℕ → ℕ → ℕ
pair_place x z = 129 + 2 * (64 * x + z)

abbrev pub message_place : ℕ → ℕ
message_place k = 8321 + 5 * k

-- what is said of place i, by whose it is: of word 0, of word j of node s, of the pair (x, z), of message k
abbrev pub by_place : {A : Type 0} → A → (ℕ → ℕ → A) → (ℕ → ℕ → ℕ → A) → (ℕ → ℕ → A) → ℕ → A
by_place head node pair message i =
    if ltb i 1 then head
    else if ltb i 129 then node ((i - 1) / 2) ((i - 1) % 2)
    else if ltb i 8321 then pair ((i - 129) / 2 / 64) ((i - 129) / 2 % 64) ((i - 129) % 2)
    else message ((i - 8321) / 5) ((i - 8321) % 5)

-- (x, z) is a "pair .. of different stands" of n
abbrev pub pair_of : ℕ → ℕ → ℕ → Bool
pair_of n x z = ltb x n && ltb z n && not (eqb x z)

abbrev pub is_pair : Table → ℕ → ℕ → Bool
is_pair t x z = pair_of (size t) x z

-- place i belongs to word 0, to one of n nodes, to a pair of them, or to one of m messages
unfoldable pub belongs : ℕ → ℕ → ℕ → Bool
belongs n m = by_place true (λ s j. ltb s n) (λ x z j. pair_of n x z) (λ k j. ltb k m)

-- ---- writing

-- "Word 0, kind 1: .. table size n (1 to 64) in 4-10, message count m (0 to 1,024) in 11-21."; "Word 0 has A in bits 0-3 and B in bits 22-25"
unfoldable pub head_word : Sides → ℕ → ℕ → ℕ
head_word sides n m = of_kind 1 (sides.behind * 2 ^ 22 + m * 2 ^ 11 + n * 2 ^ 4 + sides.ahead)

-- "kind 2, key in 0-23, running in bit 24; kind 5, clock in 0-23"
unfoldable pub key_word : ℕ → Bool → ℕ
key_word k running = of_kind 2 (bit running * 2 ^ 24 + k)

unfoldable pub clock_word : ℕ → ℕ
clock_word clock = of_kind 5 clock

-- "kind 3, commit stamp in 0-23, held in 24, candidate in 25; kind 4, spare in 0-6, a stand or 64 for none"
unfoldable pub pair_word : ℕ → Bool → Bool → ℕ
pair_word commit held candidate = of_kind 3 (bit candidate * 2 ^ 25 + bit held * 2 ^ 24 + commit)

unfoldable pub spare_word : ℕ → ℕ
spare_word spare = of_kind 4 spare

-- "kind 6, type in 0-3, sender in 4-9, receiver in 10-15, subject in 16-22 (64 is none); kind 7, a stamp in 0-23;
-- three of kind 8, the view"
unfoldable pub message_word : ℕ → ℕ → ℕ → ℕ → ℕ
message_word type sender receiver subject = of_kind 6 (subject * 2 ^ 16 + receiver * 2 ^ 10 + sender * 2 ^ 4 + type)

unfoldable pub stamp_word : ℕ → ℕ
stamp_word stamp = of_kind 7 stamp

unfoldable pub view_word : ℕ → ℕ
view_word part = of_kind 8 part

-- the words of a node with key k, of a node's pair with z, and of a message;
-- the view is "stands 0-23, 24-47, 48-63, lowest bit first"
abbrev pub node_words : ℕ → Node → List ℕ
node_words k s = key_word k s.running ∷ clock_word s.clock ∷ []

abbrev pub pair_words : Own → ℕ → List ℕ
pair_words o z = pair_word (o.commit z) (o.held z) (o.candidates z) ∷ spare_word (o.spare z) ∷ []

abbrev pub message_words : Message → List ℕ
message_words m =
    message_word m.type m.sender m.receiver m.subject
    ∷ stamp_word m.stamp
    ∷ view_word (bits 0 24 (to_bits 64 m.view))
    ∷ view_word (bits 24 24 (to_bits 64 m.view))
    ∷ view_word (bits 48 16 (to_bits 64 m.view))
    ∷ []

-- word 0; word j of node s, of the pair (x, z), of message k
module _ (r : Ring) where
  abbrev pub in_head : ℕ
  in_head = head_word r.table.sides (size r.table) (length r.messages)

  abbrev pub in_node : ℕ → ℕ → ℕ
  in_node s j = get_or (node_words (key r.table s) (r.node s)) j 0

  abbrev pub in_pair : ℕ → ℕ → ℕ → ℕ
  in_pair x z j = get_or (pair_words (r.node x).own z) j 0

  abbrev pub in_message : ℕ → ℕ → ℕ
  in_message k j = get_or (message_words (message_at r k)) j 0

  -- the word at place i; "A word belonging to no stand, pair or message is wholly 0."
  unfoldable pub word_at : ℕ → ℕ
  word_at i = if belongs (size r.table) (length r.messages) i then by_place in_head in_node in_pair in_message i else 0

-- "A ring fills 13,441 words of 32 bits."
abbrev pub ring_length : ℕ
ring_length = 13441

unfoldable pub encode : Ring → List ℕ
encode r = tabulate ring_length (word_at r)

-- ---- reading: what the named bits say, whatever the others

-- A and B, of word 0
abbrev pub sides_of : ℕ → Sides
sides_of w = record { ahead = bits 0 4 w; behind = bits 22 4 w }

module _ (ws : List ℕ) where
  abbrev pub at : ℕ → ℕ
  at i = get_or ws i 0

  -- n and m, as word 0 has them
  abbrev pub size_in : ℕ
  size_in = bits 4 7 (at 0)

  abbrev pub count_in : ℕ
  count_in = bits 11 11 (at 0)

  unfoldable pub decode_table : Table
  decode_table = record { sides = sides_of (at 0); keys = tabulate size_in (λ s. bits 0 24 (at (node_place s))) }

  -- of what is no pair: nothing
  unfoldable pub decode_own : ℕ → Own
  decode_own x =
      record {
        held = λ z. is_pair decode_table x z && flag 24 (at (pair_place x z));
        candidates = λ z. is_pair decode_table x z && flag 25 (at (pair_place x z));
        commit = λ z. if is_pair decode_table x z then bits 0 24 (at (pair_place x z)) else 0;
        spare = λ z. if is_pair decode_table x z then bits 0 7 (at (pair_place x z + 1)) else none_node;
      }

  -- of what is no node: nothing
  unfoldable pub decode_node : ℕ → Node
  decode_node s =
      record {
        running = ltb s (size decode_table) && flag 24 (at (node_place s));
        clock = if ltb s (size decode_table) then bits 0 24 (at (node_place s + 1)) else 0;
        own = decode_own s;
      }

  -- the message whose five words begin at place p
  unfoldable pub decode_message_at : ℕ → Message
  decode_message_at p =
      record {
        type = bits 0 4 (at p);
        sender = bits 4 6 (at p);
        receiver = bits 10 6 (at p);
        subject = bits 16 7 (at p);
        stamp = bits 0 24 (at (p + 1));
        view = of_bits
            (bits 0 24 (at (p + 2))
            + 2 ^ 24 * bits 0 24 (at (p + 3))
            + 2 ^ 48 * bits 0 16 (at (p + 4)));
      }

  abbrev pub decode_message : ℕ → Message
  decode_message k = decode_message_at (message_place k)

  unfoldable pub decode : Ring
  decode = record { table = decode_table; node = decode_node; messages = tabulate count_in decode_message }

-- ---- "Words read as a ring when all this fits"

abbrev pub between : ℕ → ℕ → ℕ → Bool
between low high k = leb low k && leb k high

-- "A clockwise and B counter-clockwise, each 1 to 8"
abbrev pub sides_fit : Sides → Bool
sides_fit s = between 1 8 s.ahead && between 1 8 s.behind

-- "Refusal 2 covers both numbers"; "table size n (1 to 64)"
unfoldable pub in_range : Table → Bool
in_range t = every (sides_fit t.sides ∷ between 1 64 (size t) ∷ [])

-- "keys differ"
unfoldable pub keys_differ : Table → Bool
keys_differ t = all (size t) (λ x. all (size t) (λ y. eqb x y || not (eqb (key t x) (key t y))))

-- "a stand or 64 for none"
abbrev pub node_or_none : Table → ℕ → Bool
node_or_none t y = ltb y (size t) || eqb y none_node

-- "The spare of (x, z) is neither x nor z. Further: a commit stamp is 0 exactly where the pair isn't held and never above x's clock;
-- the spare is 64 where not held"
unfoldable pub pair_fits : Table → Node → ℕ → ℕ → Bool
pair_fits t s x z =
    every
    (node_or_none t (o.spare z)
    ∷ not (eqb (o.spare z) x)
    ∷ not (eqb (o.spare z) z)
    ∷ (if o.held z then ltb 0 (o.commit z) else eqb (o.commit z) 0)
    ∷ leb (o.commit z) s.clock
    ∷ (not (o.held z) ⇒ eqb (o.spare z) none_node)
    ∷ [])
  where
    o : Own
    o = s.own

-- ".. a stand that is off holds nothing and has no candidates"
unfoldable pub node_fits : Table → Node → ℕ → Bool
node_fits t s x =
    every
    (all (size t) (λ z. is_pair t x z ⇒ pair_fits t s x z)
    ∷ (not s.running ⇒ all (size t) (λ z. not (s.own.held z) && not (s.own.candidates z)))
    ∷ [])

-- "types are 1 to 12", and 13
abbrev pub is_type : ℕ → Bool
is_type type = between 1 types type

-- "Of the four that use the subject, only type 8 may have 64 there"
abbrev pub subject_fits : Table → Message → Bool
subject_fits t m =
    if uses_subject m.type
    then ltb m.subject (size t) || (names_spare m.type && eqb m.subject none_node)
    else eqb m.subject none_node

-- "A view holds only stands below n, and not its receiver."
abbrev pub view_fits : Table → Message → Bool
view_fits t m = all 64 (λ y. m.view y ⇒ every (uses_view m.type ∷ ltb y (size t) ∷ not (eqb y m.receiver) ∷ []))

-- "stand numbers are below n, .. types are 1 to 12 with fields not used by the type empty (64, 0, no view), sender differs
-- from receiver"; of type 8, "its subject is neither its sender nor its receiver."
abbrev pub message_tests : Table → Message → List Bool
message_tests t m =
    is_type m.type
    ∷ ltb m.sender (size t)
    ∷ ltb m.receiver (size t)
    ∷ not (eqb m.sender m.receiver)
    ∷ subject_fits t m
    ∷ (names_spare m.type ⇒ not (eqb m.subject m.sender) && not (eqb m.subject m.receiver))
    ∷ (uses_stamp m.type || eqb m.stamp 0)
    ∷ view_fits t m
    ∷ []

unfoldable pub message_fits : Table → Message → Bool
message_fits t m = every (message_tests t m)

-- "No sender may have more than 256 messages travelling."
unfoldable pub senders_fit : Ring → Bool
senders_fit r = all (size r.table) (λ x. leb (sent_by x r.messages) 256)

-- The test sees what the words can say. It does not see nodes and pairs beyond the table, nor numbers too big for their bits:
-- `decode` gives none of these. Of rings that come from elsewhere, `WellFormed` says it.
unfoldable pub ring_fits : Ring → Bool
ring_fits r =
    every
    (in_range r.table
    ∷ keys_differ r.table
    ∷ leb (length r.messages) 1024
    ∷ all (size r.table) (λ x. node_fits r.table (r.node x) x)
    ∷ all (length r.messages) (λ k. message_fits r.table (message_at r k))
    ∷ senders_fit r
    ∷ [])

-- each word is the one that its named bits give: so its kind fits, "unnamed bits are 0", "A word belonging to no stand, pair or
-- message is wholly 0", and so are "the places of a stand with itself"
unfoldable pub format_fits : List ℕ → Bool
format_fits ws = all ring_length (λ i. eqb (at ws i) (word_at (decode ws) i))

unfoldable pub reads_as_ring : List ℕ → Bool
reads_as_ring ws = every (eqb (length ws) ring_length ∷ format_fits ws ∷ ring_fits (decode ws) ∷ [])
