use mathlib.Core.Path.{sym, ap}
use mathlib.Core.Bool.{Bool}
use borrow.Author.Rules.{rules}
use Rattle.bench_lines.proofs.Puts.{put_none, put_as}
use Rattle.audit_parting.specs.Sides.{bar_text}
use Rattle.audit_parting.proofs.put_bar.Goals as goal

pub returns-then-not-bar : goal.returns-then-not-bar
returns-then-not-bar c =
    record {
      bytes = put_as (put_none _ _) (sym (ap (λ (b : Bool). bar_text b) (c.if-not-bar.true)));
      end = search rules;
    }

pub returns : goal.returns
returns c =
    record {
      bytes = put_as c.put_bytes.ensures.bytes (sym (ap (λ (b : Bool). bar_text b) (c.if-not-bar.false)));
      end = search rules;
    }
