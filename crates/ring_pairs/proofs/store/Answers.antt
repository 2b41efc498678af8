use mathlib.Core.Path.{ap, ap₂, refl, ◌∙◌, ◌≡◌}
use Prim.Native.Nat.{ℕ, ◌/◌, ◌%◌}
use native.Mathlib.Omega.{arith}
use lib.Dec.{eqb}
use lib.ListN.{length-set}
use lib.Pow.{shr-shr}
use borrow.Author.Rules.{rules}
use Rattle.model.specs.Words.{pair_word, spare_word}
use Rattle.model.specs.Structs.{stamp_at}
use Rattle.sets.proofs.Arrays.{spare_read}
use Rattle.ring_pairs.proofs.Stores.{stored_none, stored_more}
use Rattle.ring_pairs.proofs.store.Goals as goal

pub returns-then-a-b : goal.returns-then-a-b
returns-then-a-b c = record { value = rw (← c.if-a-b.true) (stored_none _ _ _ _) }

pub loop-z-init : goal.loop-z-init
loop-z-init c = (search rules, search rules, stored_none _ _ _ _, refl, refl)

pub new-requires : goal.new-requires
new-requires c = record { bounds = c.requires.words.4.commit_room c.loop-z.z }

pub new-requires-in-loop-z : goal.new-requires-in-loop-z
new-requires-in-loop-z c = record {
  bounds =
      let p = c.requires.words.4 in
      rw (spare_read c.args.own c.loop-z.z p (search rules)) (p.spare_room c.loop-z.z);
}

pub bounds-words-at-in-loop-z : goal.bounds-words-at-in-loop-z
bounds-words-at-in-loop-z c = simp length-set (omega arith)

pub loop-z-preserved : goal.loop-z-preserved
loop-z-preserved c =
    let l = c.loop-z in (
      search rules,
      search rules,
      stored_more _ _ _ _ _ _ l.invariant.2 _ _ c.requires.words.0 c.requires.words.1 (search rules) l.invariant.0
          (c.new.ensures.value ∙ ap₂ (λ (h k : ℕ). pair_word (stamp_at c.args.own l.z) (eqb (h % 2) 1) (eqb (k % 2) 1)) l.invariant.3 l.invariant.4)
          (c.new-in-loop-z.ensures.value ∙ ap spare_word (spare_read c.args.own l.z c.requires.words.4 (search rules))),
      ap (λ (h : ℕ). h / 2) l.invariant.3 ∙ shr-shr c.args.own.held l.z 1,
      ap (λ (h : ℕ). h / 2) l.invariant.4 ∙ shr-shr c.args.own.candidates l.z 1,
    )

pub returns : goal.returns
returns c = record {
  value =
      let l = c.loop-z in
      let e : l.z ≡ c.args.b = omega arith in
      rw e at l.invariant.2;
}
