-- `put_filled` meets its contract: each byte of the text adds one byte at most, and each number nineteen more.
use Rattle.std.proofs.Common.{◌≡◌, ℕ, ◌+◌, ◌*◌, ◌≤◌, List, length}
use Rattle.std.specs.Slice.Iter.{iter_rest}
use Rattle.draw_svg.proofs.put_filled.Given as goal

-- i bytes of the text are read, and the numbers from `next` on are not put yet
pub record Filled (entry out text numbers next : List ℕ) (at end i : ℕ) : Type 0 where
  pub used : length next ≤ length numbers
  pub high : end + 19 * length next ≤ at + i + 19 * length numbers
  pub long : length out ≡ length entry

abbrev pub invariant-loop-byte : goal.invariant-loop-byte
invariant-loop-byte l = Filled l.initial.out l.out l.text l.fn.numbers (iter_rest l.numbers) l.at l.end l.byte-index
