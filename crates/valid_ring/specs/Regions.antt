-- The regions of words that read as a ring: word 0, the nodes, the pairs and the messages.
use Rattle.std.specs.Prelude.{Bool, List, [], ◌∷◌, ℕ}
use Rattle.model.specs.Choice.{every}
use Rattle.model.specs.Words.{at, node_place, message_place, keys_differ, decode_table, ring_length, size_in, count_in}
use Rattle.valid_nodes.specs.Nodes.{clear, head_reads, nodes_read}
use Rattle.valid_pairs.specs.Pairs.{pairs_read}
use Rattle.valid_messages.specs.Messages.{messages_read}

-- region by region
abbrev pub region_tests : List ℕ → List Bool
region_tests ws =
    head_reads (at ws 0)
    ∷ nodes_read ws (size_in ws)
    ∷ keys_differ (decode_table ws)
    ∷ pairs_read ws (size_in ws)
    ∷ messages_read ws 8321 (decode_table ws) (count_in ws)
    ∷ clear ws (message_place (count_in ws)) ring_length
    ∷ clear ws (node_place (size_in ws)) 129
    ∷ []

unfoldable pub regions_read : List ℕ → Bool
regions_read ws = every (region_tests ws)
