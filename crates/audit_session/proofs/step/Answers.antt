use mathlib.Core.Path.{sym}
use native.Mathlib.Omega.{arith}
use lib.ListN.{length-take}
use Rattle.audit_session.proofs.Beginning.{turn_loaded}
use Rattle.audit_session.proofs.step.Goals as goal

pub slice_bounds-take_words-end : goal.slice_bounds-take_words-end
slice_bounds-take_words-end c =
    sym (simp length-take (omega (arith, c.load-n.ensures.loaded.count, c.load-n.ensures.loaded.long)))

pub take_words-requires : goal.take_words-requires
take_words-requires c =
    record {
      session = c.requires.session;
      room = (simp length-take (omega (arith, c.load-n.ensures.loaded.long)), c.requires.room.1);
    }

pub returns : goal.returns
returns c = record { turn = turn_loaded _ _ _ c.load-n.ensures.loaded.loaded c.take_words.ensures.turn }
