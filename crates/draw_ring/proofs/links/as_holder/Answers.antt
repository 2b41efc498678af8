use Rattle.ring_head.proofs.ReadRing.{table_sides_room}
use Rattle.call_questions.proofs.Held.{held_in_table}
use borrow.Author.Rules.{rules}
use Rattle.draw_ring.proofs.links.as_holder.Goals as goal

pub outside-requires : goal.outside-requires
outside-requires c =
    let ws = c.args.words.now in
    let scene = c.requires.scene.0 in record {
      table = held_in_table ws scene.reads c.args.x.0 scene.table c.load-own.ensures.loaded (search rules);
      sides = rw c.sides.ensures.value (table_sides_room ws);
    }
