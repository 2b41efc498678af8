use Rattle.event_act.proofs.write.write_node.Goals as goal

pub returns-in-Stays : goal.returns-in-Stays
returns-in-Stays c = record { ring = λ ρ m is rises. rw c.in-Stays.is is }

pub returns-in-Starts : goal.returns-in-Starts
returns-in-Starts c = record {
  ring =
      λ ρ m is rises.
      rw c.in-Starts.is (c.start.ensures.ring ρ _ m is c.requires.words.2 (rises c.in-Starts.is));
}

pub returns-in-Stops : goal.returns-in-Stops
returns-in-Stops c = record { ring = λ ρ m is rises. rw c.in-Stops.is (c.stop.ensures.ring ρ m is) }

pub returns-in-Acts : goal.returns-in-Acts
returns-in-Acts c = record { ring = λ ρ m is rises. rw c.in-Acts.is (c.store.ensures.ring ρ m is) }
