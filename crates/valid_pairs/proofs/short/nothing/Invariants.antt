use Rattle.std.proofs.Common.{◌≡◌, ◌+◌, ◌*◌, ◌≤◌, eqb}
use Rattle.model.specs.Sets.{all}
use Rattle.model.specs.Words.{at}
use Rattle.valid_pairs.specs.Rows.{no_link, no_spare}
use Rattle.valid_pairs.proofs.short.nothing.Given as goal

abbrev pub invariant-loop-i : goal.invariant-loop-i
invariant-loop-i l =
    (l.i ≤ l.k)
    × (eqb l.link 0 ≡ all l.i (λ j. eqb (at l.words (l.row + 2 * j)) no_link))
    × (eqb l.spare 0 ≡ all l.i (λ j. eqb (at l.words (l.row + 2 * j + 1)) no_spare))
