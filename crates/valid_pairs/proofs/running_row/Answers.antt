use Rattle.std.proofs.Common.{◌≡◌, ℕ, ◌+◌, ◌/◌, ◌%◌, ◌^◌, ◌&&◌, eqb, refl, ap, ◌∙◌, ap₂, arith, rules}
use Rattle.model.specs.Sets.{all}
use Rattle.valid_pairs.specs.Rows.{no_link, no_spare, apart}
use Rattle.valid_pairs.specs.Pairs.{link_at, spare_at}
use Rattle.valid_pairs.proofs.RowTests.{table_apart, lift, links_tests}
use Rattle.valid_pairs.proofs.PairFormats.{wrapped}
use Rattle.valid_nodes.proofs.Gather.{or_more, above, bit_at}
use Rattle.valid_pairs.proofs.running_row.Goals as goal

pub loop-z-init : goal.loop-z-init
unfolding all
loop-z-init c = (search rules, refl, refl, refl, refl)

pub loop-z-preserved : goal.loop-z-preserved
loop-z-preserved c =
    let l = c.loop-z in
    let a = c.args in
    let ws = a.words.now in
    let link : ℕ → ℕ = λ k. apart no_link a.x k (link_at ws a.x k) in
    let A = c.lifted-a.result in
    let L : A ≡ lift (link l.z) =
    c.lifted-a.ensures.value
    ∙ ap lift (table_apart no_link a.x l.z (link_at ws a.x l.z) _ (omega arith) (omega arith) c.requires.row.link_table)
    in (
      search rules,
      or_more (λ w. w / 2 ^ 26) (above 26) (λ k. eqb (lift (link k) / 2 ^ 26) 0) l.z l.link A l.invariant.1
          (ap (λ (v : ℕ). eqb (v / 2 ^ 26) 0) L),
      or_more (λ w. w / 2 ^ 24 % 2) (bit_at 24) (λ k. eqb (lift (link k) / 2 ^ 24 % 2) 0) l.z l.link A l.invariant.2
          (ap (λ (v : ℕ). eqb (v / 2 ^ 24 % 2) 0) L),
      or_more (λ w. w / 2 ^ 31) (above 31) (λ k. eqb (wrapped (33554431 + c.clock-most.result.0) (lift (link k)) / 2 ^ 31) 0) l.z l.late _ l.invariant.3
          (ap (λ (v : ℕ). eqb (wrapped (33554431 + c.clock-most.result.0) v / 2 ^ 31) 0) L),
      or_more (λ w. w) (λ v w. refl) (λ k. eqb (apart no_spare a.x k (spare_at ws a.x k)) 0) l.z l.spare _ l.invariant.4
          (ap (λ v. eqb v 0) (table_apart no_spare a.x l.z (spare_at ws a.x l.z) _ (omega arith) (omega arith) c.requires.row.spare_table)),
    )

pub returns : goal.returns
returns c =
    let l = c.loop-z in
    let a = c.args in
    let e : l.z ≡ a.n = omega arith in record {
      fits = ap₂ ◌&&◌ (ap₂ ◌&&◌ (rw e at l.invariant.1) (rw e at l.invariant.2)) (rw e at l.invariant.3)
          ∙ links_tests a.words.now a.n a.x c.requires.row.few c.requires.row.node _ (ap (λ (k : ℕ). 33554431 + k) c.clock-most.ensures.value);
      bare = rw e at l.invariant.4;
    }
