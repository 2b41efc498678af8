use Rattle.answers.proofs.Valid.{long}
use Rattle.audit_event.proofs.Notes.{point_is}
use Rattle.audit_event.proofs.Plays.{counted_nodes}
use Rattle.audit_event.proofs.played.look.Goals as goal

pub nodes-n-requires : goal.nodes-n-requires
nodes-n-requires c = record { length = long _ c.requires.ring.0 }

pub running-running-requires : goal.running-running-requires
running-running-requires c = record { words = counted_nodes _ c.requires.ring.0 c.nodes-n.ensures.value }

pub messages-requires : goal.messages-requires
messages-requires c = record { length = long _ c.requires.ring.0 }

pub find-requires : goal.find-requires
find-requires c =
    record {
      words = counted_nodes _ c.requires.ring.0 c.nodes-n.ensures.value;
      room = c.requires.ring.1;
    }

pub returns-clause-nodes : goal.returns-clause-nodes
returns-clause-nodes c =
    let nodes = counted_nodes _ c.requires.ring.0 c.nodes-n.ensures.value in
    (nodes.1, nodes.2)

pub returns-clause-point : goal.returns-clause-point
returns-clause-point c = point_is _ c.look-flight.ensures.acknowledgements c.look-flight.ensures.leaves
