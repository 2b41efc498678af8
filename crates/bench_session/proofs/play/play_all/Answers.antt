use native.Mathlib.Omega.{arith}
use borrow.Author.Rules.{rules}
use Rattle.bench_session.proofs.Plays.{none_played, more_played, all_played}
use Rattle.bench_session.proofs.play.play_all.Goals as goal

pub loop-word-init : goal.loop-word-init
loop-word-init c = (search rules, none_played _ _ _ _ c.requires.ring.0)

pub play_word-end-requires : goal.play_word-end-requires
play_word-end-requires c =
    let p = c.loop-word.invariant.1 in
    record {
      ring = p.reads;
      room = omega (arith, p.put.long, p.room);
    }

pub loop-word-preserved : goal.loop-word-preserved
loop-word-preserved c = (search rules, more_played c.loop-word.invariant.1 (search rules) c.loop-word.invariant.0 c.play_word-end.ensures.played)

pub returns : goal.returns
returns c = record { played = all_played c.loop-word.invariant.1 (search rules) }
