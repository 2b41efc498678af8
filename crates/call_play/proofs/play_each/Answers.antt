use mathlib.Core.Path.{◌≡◌, sym, ◌∙◌}
use native.Mathlib.Omega.{arith}
use lib.ListN.{length}
use borrow.Author.Rules.{rules}
use Rattle.answers.proofs.Valid.{long}
use Rattle.call_play.proofs.Replays.{none_played, one_more_lem}
use Rattle.call_play.proofs.play_each.Goals as goal

pub loop-i-init : goal.loop-i-init
loop-i-init c = none_played _ _ _ c.requires.ring

pub play_word-answer-requires : goal.play_word-answer-requires
play_word-answer-requires c = record { ring = c.loop-i.invariant.still_reads }

pub loop-i-preserved : goal.loop-i-preserved
loop-i-preserved c =
    let l = c.loop-i in
    (rw c.note.ensures.answer (one_more_lem c.play_word-answer.result l.invariant (search rules) c.play_word-answer.ensures.written))

pub shape_of-words : goal.shape_of-words
shape_of-words c = long _ c.loop-i.invariant.still_reads ∙ sym (long _ c.requires.ring)

pub shape_of-answers : goal.shape_of-answers
shape_of-answers c = c.loop-i.invariant.places.as_many_places

pub returns : goal.returns
returns c = record {
  played =
      let l = c.loop-i in
      let e : l.i ≡ length c.args.script.now = omega arith in
      rw e at l.invariant;
}
