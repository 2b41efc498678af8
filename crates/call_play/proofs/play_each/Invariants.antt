use Rattle.call_play.specs.Replay.{PlayedUpTo}
use Rattle.call_play.proofs.play_each.Given as goal

abbrev pub invariant-loop-i : goal.invariant-loop-i
invariant-loop-i l = PlayedUpTo l.i l.initial.words l.script l.initial.answers l.words l.answers
