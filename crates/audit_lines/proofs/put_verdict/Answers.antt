use mathlib.Core.Path.{ap}
use Prim.Native.Nat.{ℕ}
use native.Mathlib.Omega.{arith}
use lib.ListN.{take}
use Rattle.bench_lines.proofs.Puts.{put_as, put_more}
use Rattle.audit_account.specs.Accounts.{entries_text}
use Rattle.audit_lines.proofs.Lines.{verdict_lines}
use Rattle.audit_lines.proofs.put_verdict.Goals as goal

pub returns : goal.returns
returns c =
    let same = ap (λ (j : ℕ). entries_text (take j c.args.entries.now)) c.listed.ensures.value in
    record {
      bytes = put_as (put_more (put_more (put_more c.put_numbered-first.ensures.bytes c.put_bytes-second.ensures.bytes)
          (put_as c.put_entries-third.ensures.bytes same)) c.put_more.ensures.bytes) (verdict_lines _ _);
      end = omega (arith, c.put_numbered-first.ensures.end, c.put_bytes-second.ensures.bytes.ends, c.put_entries-third.ensures.end, c.put_more.ensures.end);
    }
