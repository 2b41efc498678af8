use Rattle.std.proofs.Common.{◌≡◌, ◌+◌, ◌*◌, ◌&&◌, eqb, refl, ◌∙◌, ap₂, arith, rules}
use Rattle.model.specs.Sets.{all}
use Rattle.model.specs.Words.{at}
use Rattle.valid_pairs.specs.Rows.{no_link, no_spare}
use Rattle.valid_nodes.proofs.Formats.{xor_test}
use Rattle.valid_nodes.proofs.Gather.{or_more, all_both}
use Rattle.valid_pairs.proofs.short.nothing.Goals as goal

pub loop-i-init : goal.loop-i-init
unfolding all
loop-i-init c = (search rules, refl, refl)

pub loop-i-preserved : goal.loop-i-preserved
loop-i-preserved c =
    let l = c.loop-i in
    let a = c.args in
    let ws = a.words.now in (
      search rules,
      or_more (λ w. w) (λ v w. refl) (λ j. eqb (at ws (a.row + 2 * j)) no_link) l.i l.link _ l.invariant.1 (xor_test (at ws (a.row + 2 * l.i)) no_link),
      or_more (λ w. w) (λ v w. refl) (λ j. eqb (at ws (a.row + 2 * j + 1)) no_spare) l.i l.spare _ l.invariant.2
          (xor_test (at ws (a.row + 2 * l.i + 1)) no_spare),
    )

pub returns : goal.returns
returns c = record {
  value =
      let l = c.loop-i in
      let a = c.args in
      let ws = a.words.now in
      let e : l.i ≡ a.k = omega arith in
      ap₂ ◌&&◌ (rw e at l.invariant.1) (rw e at l.invariant.2)
      ∙ all_both (λ j. eqb (at ws (a.row + 2 * j)) no_link) (λ j. eqb (at ws (a.row + 2 * j + 1)) no_spare) a.k;
}
