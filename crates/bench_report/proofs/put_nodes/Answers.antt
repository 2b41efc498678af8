use mathlib.Core.Path.{◌≡◌}
use native.Mathlib.Omega.{arith}
use borrow.Author.Rules.{rules}
use Rattle.bench_lines.proofs.Puts.{put_as, put_more}
use Rattle.bench_report.proofs.Reports.{no_lines, lines_more}
use Rattle.bench_report.proofs.put_nodes.Goals as goal

pub loop-x-init : goal.loop-x-init
loop-x-init c = (search rules, search rules, no_lines _ _ _)

pub put_node-end-requires : goal.put_node-end-requires
put_node-end-requires c = record {
  words =
      let e = c.loop-x.invariant.2.long in
      search rules;
}

pub loop-x-preserved : goal.loop-x-preserved
loop-x-preserved c =
    (search rules, search rules, put_as (put_more c.loop-x.invariant.2 c.put_node-end.ensures.bytes) (lines_more _ _))

pub shape_of-out : goal.shape_of-out
shape_of-out c = c.loop-x.invariant.2.long

pub returns : goal.returns
returns c =
    let l = c.loop-x in
    let e : l.x ≡ c.args.n = omega arith in
    record {
      bytes = rw e at l.invariant.2;
      end = search rules;
    }
