use mathlib.Core.Path.{◌∙◌}
use native.Mathlib.Omega.{arith}
use Rattle.answers.proofs.Valid.{long}
use Rattle.answers.proofs.Refusals
use Rattle.event_contact.proofs.Meets.{meets_none, meets_one}
use Rattle.event_contact.proofs.may_meet.Goals as goal

pub nodes-requires : goal.nodes-requires
nodes-requires c = record { length = long _ c.requires.ring }

pub returns-then-nodes-index : goal.returns-then-nodes-index
returns-then-nodes-index c = record { answer = meets_none _ _ _ (Refusals.out_of_table _ _ (omega (arith, c.nodes.ensures.value, c.index.ensures.value))) }

pub returns : goal.returns
returns c = record {
  answer = c.may_act.ensures.answer ∙ meets_one _ _ _ (Refusals.in_table _ _ (omega (arith, c.nodes.ensures.value, c.index.ensures.value)));
}
