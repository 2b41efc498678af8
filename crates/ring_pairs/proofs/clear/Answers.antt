use mathlib.Core.Path.{◌≡◌}
use native.Mathlib.Omega.{arith}
use lib.ListN.{length-set}
use borrow.Author.Rules.{rules}
use Rattle.ring_pairs.proofs.Stores.{stored_none, stored_more}
use Rattle.ring_pairs.proofs.clear.Goals as goal

pub loop-z-init : goal.loop-z-init
loop-z-init c = (search rules, search rules, stored_none _ _ _ _)

pub bounds-words-at-in-loop-z : goal.bounds-words-at-in-loop-z
bounds-words-at-in-loop-z c = simp length-set (omega arith)

pub loop-z-preserved : goal.loop-z-preserved
loop-z-preserved c =
    let l = c.loop-z in (
      search rules,
      search rules,
      stored_more _ _ _ _ _ _ l.invariant.2 _ _ c.requires.words.0 c.requires.words.1 (search rules) l.invariant.0
          c.new-first.ensures.value c.new-second.ensures.value,
    )

pub returns : goal.returns
returns c = record {
  value =
      let l = c.loop-z in
      let e : l.z ≡ c.args.b = omega arith in
      rw e at l.invariant.2;
}
