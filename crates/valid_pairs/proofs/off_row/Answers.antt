use Rattle.std.proofs.Common.{◌≡◌, ◌&&◌, eqb, refl, ap, ap₂, arith, rules}
use Rattle.model.specs.Sets.{all}
use Rattle.valid_pairs.specs.Rows.{no_link, no_spare, apart}
use Rattle.valid_pairs.specs.Pairs.{link_at, spare_at}
use Rattle.valid_pairs.proofs.RowTests.{table_apart}
use Rattle.valid_nodes.proofs.Gather.{or_more}
use Rattle.valid_pairs.proofs.off_row.Goals as goal

pub loop-z-init : goal.loop-z-init
unfolding all
loop-z-init c = (search rules, refl, refl)

pub loop-z-preserved : goal.loop-z-preserved
loop-z-preserved c =
    let l = c.loop-z in
    let a = c.args in
    let ws = a.words.now in (
      search rules,
      or_more (λ w. w) (λ v w. refl) (λ z. eqb (apart no_link a.x z (link_at ws a.x z)) 0) l.z l.link _ l.invariant.1
          (ap (λ v. eqb v 0) (table_apart no_link a.x l.z (link_at ws a.x l.z) _ (omega arith) (omega arith) c.requires.row.link_table)),
      or_more (λ w. w) (λ v w. refl) (λ z. eqb (apart no_spare a.x z (spare_at ws a.x z)) 0) l.z l.spare _ l.invariant.2
          (ap (λ v. eqb v 0) (table_apart no_spare a.x l.z (spare_at ws a.x l.z) _ (omega arith) (omega arith) c.requires.row.spare_table)),
    )

pub returns : goal.returns
returns c = record {
  value =
      let l = c.loop-z in
      let e : l.z ≡ c.args.n = omega arith in
      ap₂ ◌&&◌ (rw e at l.invariant.1) (rw e at l.invariant.2);
}
