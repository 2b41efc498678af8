use mathlib.Core.Path.{sym, ap, ◌∙◌, subst}
use mathlib.Core.List.{List}
use Prim.Native.Nat.{ℕ}
use Rattle.std.specs.Prelude.{Ok}
use Rattle.model.specs.Buffer.{Written}
use Rattle.model.proofs.Given.{refuses_with}
use Rattle.answers.proofs.Answered.{refuses, accepts}
use Rattle.answers.proofs.Valid.{long}
use Rattle.call_refusals.proofs.Refused.{passed_answer}
use Rattle.event_act.specs.Changes.{Writable}
use Rattle.event_play.proofs.Plays.{is_written}
use Rattle.call_preview.proofs.preview_event.Goals as goal

pub returns-in_err-change : goal.returns-in_err-change
returns-in_err-change c = record {
  written =
      let r = c.from_residual.result in
      let n = c.in_err-change.ensures.decides.answer in
      refuses r c.args.second.now _ _ (refuses_with _ n) (passed_answer r _ c.from_residual.ensures.1 n);
}

pub copy-requires : goal.copy-requires
copy-requires c = record { lengths = c.requires.length ∙ sym (long _ c.requires.ring) }

pub write-requires : goal.write-requires
write-requires c = record {
  change = subst (λ (ws : List ℕ). Writable ws c.in_ok-change.change) (sym c.copy.ensures.words) c.in_ok-change.ensures.decides.writable;
}

pub returns : goal.returns
returns c = record {
  written =
      let a = c.args in
      let d = c.in_ok-change.ensures.decides in
      let left = rw c.copy.ensures.words at c.write.ensures.words in
      accepts (Ok (tt {0})) a.second.now _ _ _ (sym d.answer) d.answer
      (ap (λ (q : Written). q.words) (is_written a.words.now a.e c.in_ok-change.change d.answer d.leaves left));
}
