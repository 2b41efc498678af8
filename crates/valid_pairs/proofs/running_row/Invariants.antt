use Rattle.std.proofs.Common.{◌≡◌, ◌/◌, ◌%◌, ◌^◌, ◌≤◌, eqb}
use Rattle.model.specs.Sets.{all}
use Rattle.valid_pairs.specs.Rows.{no_link, apart, no_spares}
use Rattle.valid_pairs.specs.Pairs.{link_at}
use Rattle.valid_pairs.proofs.RowTests.{lift}
use Rattle.valid_pairs.proofs.PairFormats.{wrapped}
use Rattle.valid_pairs.proofs.running_row.Given as goal

abbrev pub invariant-loop-z : goal.invariant-loop-z
invariant-loop-z l =
    (l.z ≤ l.n)
    × (eqb (l.link / 2 ^ 26) 0 ≡ all l.z (λ k. eqb (lift (apart no_link l.x k (link_at l.words l.x k)) / 2 ^ 26) 0))
    × (eqb (l.link / 2 ^ 24 % 2) 0 ≡ all l.z (λ k. eqb (lift (apart no_link l.x k (link_at l.words l.x k)) / 2 ^ 24 % 2) 0))
    × (eqb (l.late / 2 ^ 31) 0 ≡ all l.z (λ k. eqb (wrapped l.most (lift (apart no_link l.x k (link_at l.words l.x k))) / 2 ^ 31) 0))
    × (eqb l.spare 0 ≡ no_spares l.words l.z l.x)
