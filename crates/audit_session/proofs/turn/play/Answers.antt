use mathlib.Core.Path.{refl}
use native.Mathlib.Omega.{arith}
use borrow.Author.Rules.{rules}
use Rattle.audit_session.specs.Sessions.{standing_of}
use Rattle.audit_session.proofs.Auditing.{audited_count}
use Rattle.audit_session.proofs.Turning.{turn_played}
use Rattle.audit_session.proofs.turn.play.Goals as goal

pub put_tail-tail_end-requires : goal.put_tail-tail_end-requires
unfolding standing_of
put_tail-tail_end-requires c =
    record {
      ring = c.audit_all-audited.ensures.audited.holds.kept.reads;
      room = (
        omega (arith, c.audit_all-audited.ensures.audited.room, c.audit_all-audited.ensures.audited.put.long, c.requires.room.0, c.requires.room.1),
        omega (arith, audited_count c.audit_all-audited.ensures.audited, c.requires.room.0, c.requires.room.2),
      );
    }

pub put_end-end-requires : goal.put_end-end-requires
put_end-end-requires c = record {
  room =
      let room = c.audit_all-audited.ensures.audited.room in
      let long = c.audit_all-audited.ensures.audited.put.long in
      let tail = c.put_tail-tail_end.ensures.end in
      search rules;
}

pub returns : goal.returns
returns c = record {
  turn = turn_played c.args.bytes.now c.audit_all-audited.ensures.audited c.put_tail-tail_end.ensures.bytes c.put_end-end.ensures.bytes refl;
}
