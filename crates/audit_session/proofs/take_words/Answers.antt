use native.Mathlib.Omega.{arith}
use Rattle.audit_session.proofs.Beginning.{turn_more, turn_first}
use Rattle.audit_session.proofs.take_words.Goals as goal

pub play-requires : goal.play-requires
play-requires c =
    record {
      session = c.requires.session.holds c.if-session.true;
      room = (c.requires.room.0, c.requires.room.1, omega (arith, c.requires.session.few));
    }

pub returns-then-session : goal.returns-then-session
returns-then-session c = record { turn = turn_more _ _ _ c.if-session.true c.play.ensures.turn }

pub returns : goal.returns
returns c = record { turn = turn_first _ _ _ c.if-session.false c.begin.ensures.turn }
