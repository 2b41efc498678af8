use mathlib.Core.Path.{◌≡◌}
use native.Mathlib.Omega.{arith}
use lib.ListN.{length, length-set}
use borrow.Author.Rules.{rules}
use Rattle.model.specs.Structs.{table_of}
use Rattle.ring_ranges.proofs.Patches.{patched_none}
use Rattle.ring_initial.proofs.Opening.{node_more}
use Rattle.ring_initial.proofs.write_nodes.Goals as goal

pub loop-s-init : goal.loop-s-init
loop-s-init c = (search rules, search rules, λ sides. patched_none _ _ _)

pub new-requires : goal.new-requires
new-requires c = record { bounds = c.requires.words.2 c.loop-s.s }

pub bounds-words-at-in-loop-s : goal.bounds-words-at-in-loop-s
bounds-words-at-in-loop-s c = simp length-set (omega arith)

pub loop-s-preserved : goal.loop-s-preserved
loop-s-preserved c =
    let l = c.loop-s in (
      search rules,
      simp length-set l.invariant.1,
      λ sides. node_more (table_of sides c.args.keys.now) c.requires.words.1 _ _ _ (search rules) c.requires.words.0 (l.invariant.2 sides) _ _
          c.new.ensures.value c.new-clock.ensures.value,
    )

pub returns : goal.returns
returns c = record {
  value =
      let l = c.loop-s in
      let e : l.s ≡ length c.args.keys.now = omega arith in
      rw e at l.invariant.2;
}
