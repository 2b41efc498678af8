use mathlib.Core.Path.{◌∙◌}
use Rattle.model.proofs.Words.{reads_out}
use Rattle.event_play.proofs.Played.{still}
use Rattle.bench_session.proofs.Plays.{one_played}
use Rattle.bench_session.proofs.play.play_word.Goals as goal

pub messages-requires : goal.messages-requires
messages-requires c = record { length = (reads_out _ (still _ c.requires.ring _ c.play_word-answer.result c.play_word-answer.ensures.written)).long }

pub returns : goal.returns
returns c = record {
  played =
      one_played _ c.requires.ring _ c.play_word-answer.result c.play_word-answer.ensures.written
      (c.from.ensures ∙ c.number.ensures.answer) c.messages.ensures.value c.put_three.ensures.bytes c.put_three.ensures.end;
}
