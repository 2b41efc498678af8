use mathlib.Core.Path.{sym, ◌∙◌}
use native.Mathlib.Omega.{arith}
use borrow.Author.Rules.{rules}
use Rattle.model.proofs.Words.{reads_out}
use Rattle.audit_session.specs.Sessions.{standing_of}
use Rattle.audit_session.proofs.Auditing.{none_audited, more_audited, all_audited}
use Rattle.audit_session.proofs.events.audit_all.Goals as goal

pub loop-word-init : goal.loop-word-init
loop-word-init c = none_audited _ _ _ c.requires.holds

pub audit_word-end-requires : goal.audit_word-end-requires
unfolding standing_of
audit_word-end-requires c =
    let i = c.loop-word.invariant in
    let k = i.holds.kept in
    record {
      ring = k.reads;
      account = (k.few, omega (arith, i.count, c.requires.room.1));
      lists = record { listed = k.lists.long; groups = i.holds.grouped.groups.long };
      room = omega (arith, i.put.put.long, i.room, c.requires.room.0);
    }

pub loop-word-preserved : goal.loop-word-preserved
loop-word-preserved c =
    let i = c.loop-word.invariant in
    more_audited i (search rules) (search rules) (c.audit_word-end.ensures.audits i.standing i.holds.kept i.holds.grouped) c.audit_word-end.ensures.end.0

pub shape_of-words : goal.shape_of-words
shape_of-words c =
    (reads_out _ c.loop-word.invariant.holds.kept.reads).long ∙ sym (reads_out _ c.requires.holds.kept.reads).long

pub shape_of-out : goal.shape_of-out
shape_of-out c = c.loop-word.invariant.put.put.long

pub returns : goal.returns
returns c = record { audited = all_audited c.loop-word.invariant (search rules) }
