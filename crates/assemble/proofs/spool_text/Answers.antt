use native.Mathlib.Omega.{arith}
use Rattle.text_form.specs.Assemble.{start}
use Rattle.text_reader.proofs.Bounded.{start_bounded}
use Rattle.assemble.proofs.spool_text.Goals as goal

pub loop-init : goal.loop-init
unfolding start
loop-init g c =
    let first = c.start-reader.ensures.value in
    let ready = c.requires.ready in
    (rw first start_bounded, ready.0, ready.1, ready.2, rw first (omega arith), omega arith)
