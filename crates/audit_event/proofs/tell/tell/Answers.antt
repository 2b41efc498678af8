use mathlib.Core.Path.{sym, ap}
use native.Mathlib.Omega.{arith}
use Rattle.bench_lines.proofs.Puts.{put_as, put_more}
use Rattle.audit_account.specs.Accounts.{verdict_text}
use Rattle.audit_event.proofs.Notes.{fresh_few}
use Rattle.audit_event.proofs.Tells.{none_told, some_told}
use Rattle.audit_event.proofs.tell.tell.Goals as goal

pub returns-then-torn-eq0 : goal.returns-then-torn-eq0
returns-then-torn-eq0 c =
    record {
      told = λ s w a e l. none_told s w a c.ranges.torn.fits c.if-torn-eq0.true e;
      bounds = (fresh_few c.requires.lists.1, omega arith);
    }

pub returns : goal.returns
returns c =
    record {
      told = λ s w a e l.
          some_told s w a c.ranges.torn.fits c.if-torn-eq0.false e c.counted.ensures.value
          (put_more (c.put_parted-first.ensures.bytes _ _ a.groups a.parted a.nodes)
          (put_as c.put_verdict-end.ensures.bytes (ap (verdict_text c.args.account) (sym l.entries))));
      bounds = (c.counted.ensures.bounds, omega (arith, c.put_parted-first.ensures.end, c.put_verdict-end.ensures.end));
    }
