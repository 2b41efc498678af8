-- Two rings joined into one: document 02's note 10.
use Rattle.std.specs.Prelude.{◌≡◌, ℕ, ◌+◌, ◌-◌, ◌≤◌, ◌<◌, Bool, not, ◌&&◌, ◌||◌, List, [], ◌∷◌, ◌++◌, map, length, take, drop, ltb, leb, eqb, if◌then◌else◌}
use Rattle.model.specs.Sets.{Set, some, none_node}
use Rattle.model.specs.Leafset.{size, key}
use Rattle.model.specs.Ring.{Own, Node, Message, Ring, fresh}
use Rattle.model.specs.Connection.{Connected}
use Rattle.model.specs.Answers.{Refusal, first_of}
use Rattle.model.specs.Words.{encode, decode}
use Rattle.model.specs.Buffer.{wrong_length, not_a_ring, Written, writes}

-- "The second's numbers rise by the first's n, in pairs, spares, messages and views alike"
module _ (n : ℕ) where
  -- "64 for none stays 64"
  abbrev pub raised : ℕ → ℕ
  raised y = if eqb y none_node then none_node else y + n

  -- y + n is a member where y is
  abbrev pub raised_set : Set → Set
  raised_set S y = leb n y && S (y - n)

  -- "Across the two rings nobody is held and nobody is a candidate": of the nodes below n, nothing
  abbrev pub raised_own : Own → Own
  raised_own o =
      record {
        held = raised_set o.held;
        candidates = raised_set o.candidates;
        commit = λ z. if leb n z then o.commit (z - n) else 0;
        spare = λ z. if leb n z then raised (o.spare (z - n)) else none_node;
      }

  -- "Clocks, stamps and marks are kept."
  abbrev pub raised_node : Node → Node
  raised_node s = record { running = s.running; clock = s.clock; own = raised_own s.own }

  abbrev pub raised_message : Message → Message
  raised_message m =
      record {
        type = m.type;
        sender = raised m.sender;
        receiver = raised m.receiver;
        subject = raised m.subject;
        stamp = m.stamp;
        view = raised_set m.view;
      }

-- "The first ring's stands keep their numbers."; "The first ring's messages come first, then the second's."
unfoldable pub join : Ring → Ring → Ring
join r s =
    record {
      table = record { sides = r.table.sides; keys = r.table.keys ++ s.table.keys };
      node = λ x. if ltb x n then r.node x else raised_node n (s.node (x - n));
      messages = r.messages ++ map (raised_message n) s.messages;
    }
  where
    n : ℕ
    n = size r.table

-- ---- the call

module _ (r s : Ring) where
  -- "14, the two differ in A or B"
  abbrev pub sides_differ : Refusal
  sides_differ =
      record {
        number = 14;
        applies = not (eqb r.table.sides.ahead s.table.sides.ahead && eqb r.table.sides.behind s.table.sides.behind);
      }

  abbrev pub shares_key : Bool
  shares_key = some (size r.table) (λ x. some (size s.table) (λ y. eqb (key r.table x) (key s.table y)))

  -- "15, more than 64 stands or a shared key"
  abbrev pub tables_clash : Refusal
  tables_clash = record { number = 15; applies = ltb 64 (size r.table + size s.table) || shares_key }

  -- "16, more than 1,024 messages"
  abbrev pub too_many_messages : Refusal
  too_many_messages = record { number = 16; applies = ltb 1024 (length r.messages + length s.messages) }

  abbrev pub joining_refusals : List Refusal
  joining_refusals = sides_differ ∷ tables_clash ∷ too_many_messages ∷ []

-- "Refusals 1 and 6 are tried first, over all the buffers and over both sources; the new ones follow in rising order"
abbrev pub join_refusals : List ℕ → List ℕ → List ℕ → List Refusal
join_refusals first second third =
    wrong_length first ∷ wrong_length second ∷ wrong_length third
    ∷ not_a_ring first ∷ not_a_ring second
    ∷ joining_refusals (decode first) (decode second)

unfoldable pub join_answer : List ℕ → List ℕ → List ℕ → ℕ
join_answer first second third = first_of (join_refusals first second third)

-- "The result goes to a third buffer", whose old words do not matter; "nothing is written" where refused
unfoldable pub join_buffer : List ℕ → List ℕ → List ℕ → Written
join_buffer first second third = writes third (join_answer first second third) (encode (join (decode first) (decode second)))

-- ---- what a join is to be

-- neither 14 nor 15 nor 16 applies to the two
pub record Joinable (r s : Ring) : Type 0 where
  pub same_sides : r.table.sides ≡ s.table.sides
  pub size_fits : size r.table + size s.table ≤ 64
  pub no_shared_key : (x y : ℕ) → x < size r.table → y < size s.table → ¬ (key r.table x ≡ key s.table y)
  pub messages_fit : length r.messages + length s.messages ≤ 1024

-- "they came from one ring and were connected there"
pub data FromOneRing (r s : Ring) (a b : ℕ) : Type 0 where
  of_first : a < size r.table → b < size r.table → Connected r a b → FromOneRing r s a b
  of_second : size r.table ≤ a → size r.table ≤ b → Connected s (a - size r.table) (b - size r.table) → FromOneRing r s a b

-- ---- a join taken apart, at n nodes and m messages

module _ (n : ℕ) where
  -- numbers fall by n, and 64 for none stays 64
  abbrev pub lowered : ℕ → ℕ
  lowered y = if eqb y none_node then none_node else y - n

  abbrev pub lowered_set : Set → Set
  lowered_set S y = S (y + n)

  abbrev pub lowered_own : Own → Own
  lowered_own o =
      record {
        held = lowered_set o.held;
        candidates = lowered_set o.candidates;
        commit = λ z. o.commit (z + n);
        spare = λ z. lowered (o.spare (z + n));
      }

  abbrev pub lowered_node : Node → Node
  lowered_node s = record { running = s.running; clock = s.clock; own = lowered_own s.own }

  abbrev pub lowered_message : Message → Message
  lowered_message m =
      record {
        type = m.type;
        sender = lowered m.sender;
        receiver = lowered m.receiver;
        subject = lowered m.subject;
        stamp = m.stamp;
        view = lowered_set m.view;
      }

module _ (n m : ℕ) (r : Ring) where
  -- the nodes below n, with the first m messages
  unfoldable pub first_part : Ring
  first_part =
      record {
        table = record { sides = r.table.sides; keys = take n r.table.keys };
        node = λ x. if ltb x n then r.node x else fresh;
        messages = take m r.messages;
      }

  -- the nodes from n on, with the other messages
  unfoldable pub second_part : Ring
  second_part =
      record {
        table = record { sides = r.table.sides; keys = drop n r.table.keys };
        node = λ x. lowered_node n (r.node (x + n));
        messages = map (lowered_message n) (drop m r.messages);
      }
