use native.Mathlib.Omega.{arith}
use Rattle.bench_lines.proofs.Puts.{put_none, put_as, put_more}
use Rattle.audit_lines.proofs.Lines.{no_more, more_line}
use Rattle.audit_lines.proofs.put_more.Goals as goal

pub returns-then-uncovered-le-MOST : goal.returns-then-uncovered-le-MOST
returns-then-uncovered-le-MOST c = record {
  bytes = put_as (put_none _ _) (no_more _ (omega arith));
  end = omega arith;
}

pub returns : goal.returns
returns c =
    record {
      bytes = put_as (put_more c.put_numbered-first.ensures.bytes c.put_bytes.ensures.bytes) (more_line _ (omega arith));
      end = omega (arith, c.put_numbered-first.ensures.end, c.put_bytes.ensures.bytes.ends);
    }
