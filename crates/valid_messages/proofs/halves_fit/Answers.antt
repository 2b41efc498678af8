use mathlib.Core.Path.{◌≡◌, refl, sym}
use Prim.Native.Nat.{zero-le, ◌+◌}
use native.Mathlib.Omega.{arith}
use borrow.Author.Rules.{rules}
use Rattle.model.specs.Sets.{all}
use Rattle.valid_messages.specs.Parts.{first_reads}
use Rattle.valid_nodes.proofs.Gather.{all_more}
use Rattle.valid_messages.proofs.halves_fit.Goals as goal

pub loop-k-init : goal.loop-k-init
unfolding all
loop-k-init c = (zero-le, λ ws base t from e h. refl)

pub loop-k-preserved : goal.loop-k-preserved
loop-k-preserved c =
    let l = c.loop-k in (
      search rules,
      λ ws base t from e h. all_more (λ i. first_reads ws base t (from + i)) l.k l.ok c.first_fits-ok.result (l.invariant.1 ws base t from e h)
          (c.first_fits-ok.ensures.value ws base t (from + l.k) e (sym (h.low l.k (search rules))) (sym (h.high l.k (search rules)))),
    )

pub returns : goal.returns
returns c = record {
  value = λ ws base t from e h.
      let l = c.loop-k in
      let done : l.k ≡ c.args.count = omega arith in
      rw done at (l.invariant.1 ws base t from e h);
}
