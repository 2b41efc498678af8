-- `put_keys` meets its contract: the words of the keys so far are the invariant.
use mathlib.Core.Path.{◌≡◌}
use Prim.Native.Nat.{◌+◌, ◌*◌}
use lib.ListN.{take}
use Rattle.bench_lines.specs.Put.{Put}
use Rattle.text_form.specs.Assemble.{key_bytes}
use Rattle.text_assemble.proofs.put.put_keys.Given as goal

abbrev pub invariant-loop-key : goal.invariant-loop-key
invariant-loop-key l = (l.end ≡ l.at + 4 * l.key-index) × Put l.initial.out l.out l.at l.end (key_bytes (take l.key-index l.keys))
