use borrow.Author.Rules.{rules}
use mathlib.Core.Path.{refl, ◌∙◌}
use Rattle.audit_lines.proofs.Lines.{put_none_yet, put_one_more}
use Rattle.audit_lines.proofs.put_entries.Goals as goal

pub loop-entry-init : goal.loop-entry-init
loop-entry-init c = (put_none_yet _ _ _, refl)

pub loop-entry-preserved : goal.loop-entry-preserved
loop-entry-preserved c =
    let i = c.loop-entry.invariant in (
      put_one_more i.0 (search rules) (search rules) c.put_entry-end.ensures.bytes c.put_entry-end.ensures.end,
      c.put_entry-end.ensures.bytes.long ∙ i.1,
    )
