use Rattle.std.proofs.Common.{rules}
use Rattle.ring_ranges.proofs.Patches.{patched_part}
use Rattle.ring_ranges.proofs.move_down.Goals as goal

pub returns : goal.returns
returns c = record { value = patched_part _ _ _ _ c.requires.words.1 (search rules) c.shift.ensures.value }
