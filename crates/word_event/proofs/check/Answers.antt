use mathlib.Core.Path.{sym, ◌∙◌}
use Rattle.model.specs.Answers.{first_of}
use Rattle.model.specs.Events.{event_answer}
use Rattle.word_event.proofs.check.Goals as goal

pub returns-then-not-parts_fit : goal.returns-then-not-parts_fit
unfolding event_answer first_of
returns-then-not-parts_fit c = record { answer = rw (sym c.parts_fit.ensures.value ∙ c.if-not-parts_fit.true) }

pub returns-then-same_node : goal.returns-then-same_node
unfolding event_answer first_of
returns-then-same_node c =
    record { answer = rw (sym c.parts_fit.ensures.value ∙ c.if-not-parts_fit.false, sym c.same_node.ensures.value ∙ c.if-same_node.true) }

pub returns : goal.returns
unfolding event_answer first_of
returns c = record { answer = rw (sym c.parts_fit.ensures.value ∙ c.if-not-parts_fit.false, sym c.same_node.ensures.value ∙ c.if-same_node.false) }
