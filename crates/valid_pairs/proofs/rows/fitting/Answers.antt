use Rattle.std.proofs.Common.{◌≡◌, ℕ, ◌+◌, ◌*◌, Bool, ◌&&◌, sym, ap, ◌∙◌, add-zero, add_assoc, arith, rules, if◌then◌else◌}
use Rattle.model.specs.Words.{at}
use Rattle.model.specs.Sets.{Set, count}
use Rattle.word_ring.proofs.Bytes.{byte_is, byte_small}
use Rattle.valid_pairs.specs.Pairs.{link_reads, spare_reads, run_reads}
use Rattle.valid_pairs.proofs.PairTest.{count_next}
use Rattle.valid_pairs.proofs.rows.fitting.Goals as goal

pub loop-z-init : goal.loop-z-init
loop-z-init c = (search rules, search rules, search rules, add-zero _)

pub loop-z-preserved : goal.loop-z-preserved
loop-z-preserved c =
    let l = c.loop-z in
    let a = c.args in
    let ws = a.words.now in
    let p = a.base + 2 * l.z in
    let S : Set = run_reads ws a.n a.x a.base in (
      search rules,
      search rules,
      omega (arith, c.from-fit.ensures, byte_small c.pair_fits.result),
      sym (add_assoc (count a.from S) l.fit c.from-fit.result)
          ∙ count_next S l.z (count a.from S + l.fit) c.from-fit.result l.invariant.3
          (c.from-fit.ensures ∙ byte_is c.pair_fits.result ∙ ap (λ (b : Bool). if b then 1 else 0)
          (c.pair_fits.ensures.value
          ∙ ap (λ (k : ℕ). link_reads k (at ws p) && spare_reads a.n a.x l.z (at ws p) (at ws (p + 1))) c.clock-clock.ensures.value)),
    )

pub returns : goal.returns
returns c =
    let l = c.loop-z in
    let done : l.z ≡ c.args.to = omega arith in
    record {
      counted = rw done at l.invariant.3;
      bound = omega arith;
    }
