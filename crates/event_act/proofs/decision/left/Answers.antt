use mathlib.Core.Path.{sym}
use native.Mathlib.Omega.{arith}
use Rattle.event_act.proofs.Written.{taking_low, taking_count}
use Rattle.event_act.proofs.decision.left.Goals as goal

pub overflow_sub-result : goal.overflow_sub-result
overflow_sub-result c = let low = taking_low c.in-Some.is c.requires.taken in omega arith

pub returns-in-None : goal.returns-in-None
returns-in-None c = record {
  value = λ ρ e. rw c.in-None.is (sym e);
  bound = omega arith;
}

pub returns-in-Some : goal.returns-in-Some
returns-in-Some c = record {
  value = taking_count c.in-Some.is c.requires.taken;
  bound = omega arith;
}
