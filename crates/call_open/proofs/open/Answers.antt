use mathlib.Core.Path.{sym, ap, ◌∙◌}
use Rattle.std.specs.Prelude.{Ok}
use Rattle.model.specs.Answers.{answer_number}
use Rattle.model.specs.Buffer.{open_buffer}
use Rattle.model.specs.declared.values.Sides.{Sides}
use Rattle.model.proofs.Given.{refuses_with, passed_on}
use Rattle.answers.proofs.Answered.{refuses, accepts}
use Rattle.call_open.proofs.Opened.{is_long, sides_room, few_keys, key_room}
use Rattle.call_open.proofs.open.Goals as goal

pub returns-in_err-refusal : goal.returns-in_err-refusal
unfolding open_buffer
returns-in_err-refusal c = record {
  written =
      let r = c.from_residual.result in
      let n = c.in_err-refusal.ensures.answer in
      refuses r c.args.words.now _ _ (refuses_with _ n) (ap answer_number (passed_on r _ c.from_residual.ensures.1) ∙ n);
}

pub write-requires : goal.write-requires
write-requires c = record {
  words =
      let a = c.args in
      let sides : Sides = record { ahead = a.clockwise; behind = a.counter_clockwise } in
      let ok = sym c.in_ok-refusal.ensures.answer in (
        is_long a.words.now sides a.keys.now ok,
        sides_room a.words.now sides a.keys.now ok,
        few_keys a.words.now sides a.keys.now ok,
        key_room a.words.now sides a.keys.now ok,
      );
}

pub returns : goal.returns
unfolding open_buffer
returns c = record {
  written = let ok = c.in_ok-refusal.ensures.answer in accepts (Ok (tt {0})) c.args.words.now _ _ _ (sym ok) ok c.write.ensures.words;
}
