use mathlib.Core.Path.{sym}
use native.Mathlib.Omega.{arith}
use lib.ListN.{length-take}
use Rattle.answers.proofs.Valid.{long, few}
use Rattle.call_screens.proofs.conductor_of.Goals as goal

pub nodes-n-requires : goal.nodes-n-requires
nodes-n-requires c = record { length = long _ c.requires.ring }

pub keys-keys-requires : goal.keys-keys-requires
keys-keys-requires c = record {
  words =
      let n = c.nodes-n.ensures.value in
      (long _ c.requires.ring, n, omega (arith, few _ c.requires.ring));
}

pub sides-sides-requires : goal.sides-sides-requires
sides-sides-requires c = record { length = long _ c.requires.ring }

pub slice_bounds-keys-end : goal.slice_bounds-keys-end
slice_bounds-keys-end c = omega (arith, few _ c.requires.ring, c.nodes-n.ensures.value, c.keys-keys.ensures.places)

pub slice_bounds-leafsets-end : goal.slice_bounds-leafsets-end
slice_bounds-leafsets-end c =
    sym (simp length-take (omega (arith, few _ c.requires.ring, c.nodes-n.ensures.value, c.keys-keys.ensures.places)))

pub leafsets-leafsets-requires : goal.leafsets-leafsets-requires
leafsets-leafsets-requires c = record {
  ring = c.requires.ring;
  table = (c.keys-keys.ensures.keys.0, c.sides-sides.ensures.value);
}

pub with_leafsets-requires : goal.with_leafsets-requires
with_leafsets-requires c =
    record {
      ring = c.requires.ring;
      parts = (c.nodes-n.ensures.value, c.keys-keys.ensures.keys.1, c.leafsets-leafsets.ensures.value);
    }

pub returns : goal.returns
returns c = record { value = c.with_leafsets.ensures.value }
