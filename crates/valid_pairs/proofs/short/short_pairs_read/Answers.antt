use Rattle.std.proofs.Common.{◌≡◌, ℕ, ◌-◌, ◌<◌, refl, ap, ◌∙◌, mul-zero, mul-suc, add-one, arith, rules}
use Rattle.model.specs.Sets.{all}
use Rattle.valid_pairs.specs.Pairs.{in_row_reads, short_pair_reads, short_pairs_read}
use Rattle.valid_nodes.proofs.Gather.{all_more}
use Rattle.valid_pairs.proofs.ShortRows.{row_within}
use Rattle.valid_pairs.proofs.short.short_pairs_read.Goals as goal

pub loop-x-init : goal.loop-x-init
unfolding all
loop-x-init c = (search rules, rw (mul-zero (c.args.n - 1)) (omega arith), refl)

pub short_row_reads-ok-requires : goal.short_row_reads-ok-requires
short_row_reads-ok-requires c = record {
  words =
      let l = c.loop-x in
      let h : l.x < c.args.n = omega arith in
      let r = row_within c.args.n l.x h in
      (omega arith, omega arith, h, omega arith);
}

pub overflow_add-row-in-loop-x : goal.overflow_add-row-in-loop-x
overflow_add-row-in-loop-x c =
    let l = c.loop-x in
    let h : l.x < c.args.n = omega arith in
    let r = row_within c.args.n l.x h in
    search rules

pub loop-x-preserved : goal.loop-x-preserved
loop-x-preserved c =
    let l = c.loop-x in
    let a = c.args in
    let ws = a.words.now in (
      search rules,
      rw (add-one, mul-suc (a.n - 1) l.x) (omega arith),
      all_more (λ y. all a.n (short_pair_reads ws a.n y)) l.x _ _ l.invariant.2
          (c.short_row_reads-ok.ensures.value ∙ ap (λ (row : ℕ). all a.n (in_row_reads ws a.n l.x row)) l.invariant.1),
    )

pub returns : goal.returns
unfolding short_pairs_read
returns c = record {
  value =
      let l = c.loop-x in
      let e : l.x ≡ c.args.n = omega arith in
      rw e at l.invariant.2;
}
