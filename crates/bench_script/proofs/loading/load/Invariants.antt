use Rattle.bench_script.proofs.Loads.{Filled}
use Rattle.bench_script.proofs.loading.load.Given as goal

abbrev pub invariant-loop-i : goal.invariant-loop-i
invariant-loop-i l = Filled l.bytes l.initial.words l.words l.i
