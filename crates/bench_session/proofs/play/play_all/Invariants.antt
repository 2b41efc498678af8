use Prim.Native.Nat.{◌+◌}
use mathlib.Core.Path.{◌≡◌}
use Rattle.bench_session.proofs.Plays.{PlayedTo}
use Rattle.bench_session.proofs.play.play_all.Given as goal

abbrev pub invariant-loop-word : goal.invariant-loop-word
invariant-loop-word l = (l.number ≡ l.count + l.word-index) × PlayedTo l.initial.words l.script l.count l.words l.initial.out l.out l.word-index l.end
