use mathlib.Core.Path.{◌≡◌, sym, ap}
use mathlib.Core.Bool.{true}
use mathlib.Core.List.{List}
use Prim.Native.Nat.{ℕ}
use native.Mathlib.Omega.{arith}
use lib.ListN.{length, length-take}
use Rattle.model.specs.Words.{decode_table, reads_as_ring}
use Rattle.answers.proofs.Valid.{long, few}
use Rattle.draw_ring.specs.Scene.{Scene}
use Rattle.draw_ring.proofs.put_ring.Goals as goal

scene : (ws : List ℕ) {keys : List ℕ} → reads_as_ring ws ≡ true → keys ≡ (decode_table ws).keys → Scene ws keys
scene ws reads e = record { reads = reads; table = e; long = long ws reads; nodes = ap length e; few = rw e (few ws reads) }

pub nodes-n-requires : goal.nodes-n-requires
nodes-n-requires c = record { length = long _ c.requires.ring }

pub keys-keys-requires : goal.keys-keys-requires
keys-keys-requires c = record { words = (long _ c.requires.ring, c.nodes-n.ensures.value, omega (arith, few _ c.requires.ring, c.nodes-n.ensures.value)) }

pub slice_bounds-keys-end : goal.slice_bounds-keys-end
slice_bounds-keys-end c = omega (arith, few _ c.requires.ring, c.nodes-n.ensures.value, c.keys-keys.ensures.places)

pub slice_bounds-put_keyed-end : goal.slice_bounds-put_keyed-end
slice_bounds-put_keyed-end c =
    sym (simp length-take (omega (arith, few _ c.requires.ring, c.nodes-n.ensures.value, c.keys-keys.ensures.places)))

pub put_keyed-requires : goal.put_keyed-requires
put_keyed-requires c = record { scene = (scene _ c.requires.ring c.keys-keys.ensures.keys.0, omega (arith, c.requires.room)) }
