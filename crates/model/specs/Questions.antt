-- The questions about a lent buffer: a node's leafset, whether two nodes are connected, and the number of groups.
use Rattle.std.specs.Prelude.{ℕ, Bool, false, List, [], ◌∷◌, ◌++◌, if◌then◌else◌}
use Rattle.model.specs.Sets.{to_bits}
use Rattle.model.specs.Leafset.{leafset}
use Rattle.model.specs.Ring.{Ring, holds}
use Rattle.model.specs.Answers.{Refusal, first_of, is_accepted}
use Rattle.model.specs.Words.{decode}
use Rattle.model.specs.Buffer.{ring_refusals, ring_answer}
use Rattle.model.specs.Play.{no_node, node_off}
use Rattle.model.specs.Connection.{connected, groups}

-- "about one stand's leafset in its held set": refusals 1, 6, 7 and "8. .. or a question about one"
abbrev pub leafset_refusals : List ℕ → ℕ → List Refusal
leafset_refusals ws x = ring_refusals ws ++ no_node (decode ws) x ∷ node_off (decode ws) x ∷ []

unfoldable pub leafset_answer : List ℕ → ℕ → ℕ
leafset_answer ws x = first_of (leafset_refusals ws x)

-- "its answer is 64 bits, bit s for stand s"; "A refused leafset question returns the empty set"
unfoldable pub leafset_of : List ℕ → ℕ → ℕ
leafset_of ws x = if is_accepted (leafset_answer ws x) then to_bits 64 (leafset (decode ws).table x (holds (decode ws) x)) else 0

-- "about two stands, which may be the same one": 7 and 8 of either
abbrev pub nodes_refusals : Ring → ℕ → ℕ → List Refusal
nodes_refusals r a b = no_node r a ∷ no_node r b ∷ node_off r a ∷ node_off r b ∷ []

abbrev pub connection_refusals : List ℕ → ℕ → ℕ → List Refusal
connection_refusals ws a b = ring_refusals ws ++ nodes_refusals (decode ws) a b

unfoldable pub connection_answer : List ℕ → ℕ → ℕ → ℕ
connection_answer ws a b = first_of (connection_refusals ws a b)

-- a refused "connection question no"
unfoldable pub connection_of : List ℕ → ℕ → ℕ → Bool
connection_of ws a b = if is_accepted (connection_answer ws a b) then connected (decode ws) a b else false

-- "the number of connected groups of running stands"; about the ring as a whole, 0 where refused
unfoldable pub groups_of : List ℕ → ℕ
groups_of ws = if is_accepted (ring_answer ws) then groups (decode ws) else 0
