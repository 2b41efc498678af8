use mathlib.Core.Path.{refl}
use borrow.Author.Rules.{rules}
use Rattle.std.specs.Prelude.{Ok}
use Rattle.call_short.proofs.Editions.{lengthened_reads}
use Rattle.draw_stored.proofs.draw_short.Goals as goal

-- what an accepted lengthening leaves reads as a ring
pub put_ring-requires : goal.put_ring-requires
put_ring-requires c = record {
  ring = lengthened_reads _ _ (Ok c.in-Ok.field-0) c.in-Ok.ensures.written refl;
  room = search rules;
}
