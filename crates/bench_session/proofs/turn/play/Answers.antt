use mathlib.Core.Path.{refl}
use native.Mathlib.Omega.{arith}
use borrow.Author.Rules.{rules}
use Rattle.model.proofs.Words.{reads_out}
use Rattle.bench_session.proofs.Parts.{turn_played}
use Rattle.bench_session.proofs.turn.play.Goals as goal

pub put_tail-tail_end-requires : goal.put_tail-tail_end-requires
put_tail-tail_end-requires c = record {
  words = (
    (reads_out _ c.play_all-lines_end.ensures.played.reads).long,
    omega (arith, c.play_all-lines_end.ensures.played.room, c.play_all-lines_end.ensures.played.put.long),
    search rules,
  );
}

pub returns : goal.returns
returns c = record { turn = turn_played _ c.play_all-lines_end.ensures.played c.put_tail-tail_end.ensures.bytes c.put_end-end.ensures.bytes refl }
