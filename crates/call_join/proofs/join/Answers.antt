-- Refused, nothing is written; accepted, what acceptance says is what the writing requires.
use mathlib.Core.Path.{refl, sym, ap, ◌∙◌}
use Rattle.std.specs.Prelude.{Ok}
use Rattle.model.specs.Answers.{answer_number}
use Rattle.model.specs.Join.{join_buffer}
use Rattle.model.proofs.Given.{passed_on, refuses_with}
use Rattle.answers.proofs.Answered.{refuses, accepts}
use Rattle.call_join.proofs.Refused.{joinable}
use Rattle.call_join.proofs.join.Goals as goal

pub returns-in_err-refusal : goal.returns-in_err-refusal
unfolding join_buffer
returns-in_err-refusal c =
    let number = c.in_err-refusal.ensures.answer in
    record {
      written = refuses _ _ _ _ (refuses_with _ number) (ap answer_number (passed_on _ _ c.from_residual.ensures.1) ∙ number);
      sources = (refl, refl);
    }

pub write-requires : goal.write-requires
write-requires c =
    let j = joinable _ _ _ (sym c.in_ok-refusal.ensures.answer) in
    record {
      rings = (j.first_is_ring, j.second_is_ring, j.third_long);
      room = (j.few_nodes, j.few_messages);
    }

pub returns : goal.returns
unfolding join_buffer
returns c =
    let none = sym c.in_ok-refusal.ensures.answer in
    record {
      written = accepts (Ok (tt {0})) _ _ _ _ none (sym none) c.write.ensures.words;
      sources = (refl, refl);
    }
