-- After s nodes their notices are the bits, and their silences are counted.
use mathlib.Core.Path.{◌≡◌}
use Rattle.model.specs.Sets.{to_bits}
use Rattle.model.specs.Listener.{Tick, notices_of, listener_of}
use Rattle.listener.proofs.Records.{Counting}
use Rattle.listener.proofs.tick.Given as goal

abbrev pub invariant-loop-s : goal.invariant-loop-s
invariant-loop-s l = record {
  notices : l.notices ≡ to_bits l.s (notices_of (listener_of l.fn.listener) Tick);
  silences : Counting l.fn.listener l.silence-items l.s;
}
