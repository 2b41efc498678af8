use mathlib.Core.Path.{◌∙◌}
use Rattle.bench_lines.proofs.Puts.{put_within}
use Rattle.test_trip.proofs.Steps.{ready_after}
use Rattle.test_trip.proofs.piece.Goals as goal

pub matched-requires : goal.matched-requires
matched-requires c = record { within = put_within c.read_chunk-read.ensures.read.put }

pub returns : goal.returns
returns c =
    let read = c.read_chunk-read.ensures in
    let room = read.read.put.long ∙ c.requires.ready.0.room in
    record { ready = ready_after c.matched.ensures.reader read.read.bounded read.line read.read.bounded_keys room }
