use native.Mathlib.Omega.{arith}
use Rattle.event_act.proofs.Written.{taking_low}
use Rattle.event_act.proofs.write.take_out.Goals as goal

pub remove-requires : goal.remove-requires
remove-requires c = record { words = (c.requires.words.0, c.requires.words.1, taking_low c.in-Some.is c.requires.words.2) }

pub overflow_sub-result : goal.overflow_sub-result
overflow_sub-result c =
    let low = taking_low c.in-Some.is c.requires.words.2 in
    omega arith

pub returns-in-None : goal.returns-in-None
returns-in-None c = record { ring = λ ρ n is. rw c.in-None.is is }

pub returns-in-Some : goal.returns-in-Some
returns-in-Some c = record { ring = λ ρ n is. rw c.in-Some.is (c.remove.ensures.ring ρ n is) }
