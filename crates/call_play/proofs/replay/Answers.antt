use mathlib.Core.Path.{refl, ap, ◌∙◌}
use Rattle.std.specs.Prelude.{Result, Ok}
use Rattle.model.proofs.Given.{passed_on}
use Rattle.answers.specs.Applied.{written}
use Rattle.call_refusals.proofs.Refused.{passed_refusal}
use Rattle.call_play.proofs.Replays.{not_opened, opened_reads, replayed}
use Rattle.call_play.proofs.replay.Goals as goal

pub returns-in_err-open : goal.returns-in_err-open
returns-in_err-open c = record {
  replayed =
      let r = c.from_residual.result in
      let passed = c.from_residual.ensures.1 in
      not_opened _ _ r (ap (λ (q : Result _ _). written q c.open.new.words) (passed_on r _ passed) ∙ c.in_err-open.ensures.written) _ _
      (passed_refusal r _ passed);
}

pub play_each-requires : goal.play_each-requires
play_each-requires c = record { ring = opened_reads _ _ (Ok (tt {0})) c.in_ok-open.ensures.written refl }

pub returns : goal.returns
returns c = record { replayed = replayed _ _ (Ok (tt {0})) c.in_ok-open.ensures.written refl c.play_each.ensures.played }
