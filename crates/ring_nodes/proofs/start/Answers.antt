use mathlib.Core.Bool.{true}
use Rattle.ring_head.specs.Parts.{set_running, set_clock, update}
use Rattle.ring_nodes.proofs.Updates.{is_twice}
use Rattle.ring_nodes.proofs.start.Goals as goal

pub returns : goal.returns
returns c = record {
  ring =
      λ ρ n m is hx e.
      let x = c.args.x.0 in
      let f = set_running true in
      let running = c.set_running.ensures.ring ρ n m is hx in
      let r = is_twice x f (set_clock c.args.time.0) ρ (c.set_clock.ensures.ring (update x f ρ) n m running hx) in
      rw e at r;
}
