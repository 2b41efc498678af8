use Rattle.std.proofs.Common.{◌≤◌, ◌+◌}
use Rattle.test_files.proofs.run_all.Given as goal

abbrev pub invariant-loop-name : goal.invariant-loop-name
invariant-loop-name g l =
    (goal.iterator-loop-name g).can_next l.name-iterator ×
    (goal.iterator-loop-name g).is_finite l.name-iterator ×
    (l.count + (goal.iterator-loop-name g).remaining l.name-iterator ≤ (goal.iterator-loop-name g).remaining l.initial.name-iterator)
