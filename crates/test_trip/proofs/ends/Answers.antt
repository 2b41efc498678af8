use mathlib.Core.Path.{◌∙◌}
use Rattle.bench_lines.proofs.Puts.{put_within}
use Rattle.test_trip.proofs.ends.Goals as goal

pub matched-last-requires : goal.matched-last-requires
matched-last-requires c = record { within = put_within c.close-read.ensures.read.put }

pub returns : goal.returns
returns c = record { buffers = (c.close-read.ensures.read.bounded_keys, c.close-read.ensures.read.put.long ∙ c.requires.ready.room) }
