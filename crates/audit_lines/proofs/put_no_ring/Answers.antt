-- The line is one of two texts, by the test of the refusal.
use mathlib.Core.Path.{sym}
use native.Mathlib.Omega.{arith}
use borrow.Author.Tests.{eq-eqb, ne_eqb}
use Rattle.bench_lines.proofs.Puts.{put_as}
use Rattle.audit_account.specs.Accounts.{no_ring_text}
use Rattle.audit_lines.proofs.Lines.{if_true, if_false}
use Rattle.audit_lines.proofs.put_no_ring.Goals as goal

pub returns-then-refusal-eq2 : goal.returns-then-refusal-eq2
unfolding no_ring_text
returns-then-refusal-eq2 c =
    record {
      bytes = put_as c.put_bytes.ensures.bytes (sym (if_true (eq-eqb _ 2 c.if-refusal-eq2.true) _ _));
      end = omega (arith, c.put_bytes.ensures.bytes.ends);
    }

pub returns : goal.returns
unfolding no_ring_text
returns c =
    record {
      bytes = put_as c.put_bytes-2.ensures.bytes (sym (if_false (ne_eqb _ 2 c.if-refusal-eq2.false) _ _));
      end = omega (arith, c.put_bytes-2.ensures.bytes.ends);
    }
