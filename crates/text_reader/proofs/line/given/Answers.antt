-- `given` meets its contract: each arm is a case of the definition.
use Rattle.text_form.specs.Assemble.{line_given}
use Rattle.text_reader.proofs.line.given.Goals as goal

pub returns-in-Sides : goal.returns-in-Sides
unfolding line_given
returns-in-Sides c = record { value = rw c.in-Sides.is }

pub returns-in-Keys : goal.returns-in-Keys
unfolding line_given
returns-in-Keys c = record { value = rw c.in-Keys.is }

pub returns-in-On : goal.returns-in-On
unfolding line_given
returns-in-On c = record { value = rw c.in-On.is c.event.ensures.value }

pub returns-in-Off : goal.returns-in-Off
unfolding line_given
returns-in-Off c = record { value = rw c.in-Off.is c.event-in-Off.ensures.value }

pub returns-in-Leave : goal.returns-in-Leave
unfolding line_given
returns-in-Leave c = record { value = rw c.in-Leave.is c.event-in-Leave.ensures.value }

pub returns-in-Notice : goal.returns-in-Notice
unfolding line_given
returns-in-Notice c = record { value = rw c.in-Notice.is c.event-in-Notice.ensures.value }

pub returns-in-Contact : goal.returns-in-Contact
unfolding line_given
returns-in-Contact c = record { value = rw c.in-Contact.is c.event-in-Contact.ensures.value }

pub returns-in-Timer : goal.returns-in-Timer
unfolding line_given
returns-in-Timer c = record { value = rw c.in-Timer.is c.event-in-Timer.ensures.value }

pub returns-in-Deliver : goal.returns-in-Deliver
unfolding line_given
returns-in-Deliver c = record { value = rw c.in-Deliver.is c.event-in-Deliver.ensures.value }

pub returns-in-Echo : goal.returns-in-Echo
unfolding line_given
returns-in-Echo c = record { value = rw c.in-Echo.is c.event-in-Echo.ensures.value }

pub returns-in-Lose : goal.returns-in-Lose
unfolding line_given
returns-in-Lose c = record { value = rw c.in-Lose.is c.event-in-Lose.ensures.value }

pub returns-in-Word : goal.returns-in-Word
unfolding line_given
returns-in-Word c = record { value = rw c.in-Word.is }

pub returns-in-Tail : goal.returns-in-Tail
unfolding line_given
returns-in-Tail c = record { value = rw (c.in-Tail.is, c.pairs.ensures.value) }
