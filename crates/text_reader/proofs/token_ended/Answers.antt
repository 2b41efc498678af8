-- `token_ended` meets its contract: each early return is a case of the definition, by its test.
use borrow.Author.Tests.{eq-eqb, ne_eqb}
use Rattle.text_form.specs.Assemble.{token_ended}
use Rattle.text_reader.proofs.token_ended.Goals as goal

pub returns-then-reader-eq0 : goal.returns-then-reader-eq0
unfolding token_ended
returns-then-reader-eq0 c = record { value = rw (eq-eqb _ _ c.if-reader-eq0.true) c.silent.ensures.value }

pub returns-then-reader-eq0-2 : goal.returns-then-reader-eq0-2
unfolding token_ended
returns-then-reader-eq0-2 c = record { value = rw (ne_eqb _ _ c.if-reader-eq0.false, eq-eqb _ _ c.if-reader-eq0-2.true) c.begun.ensures.value }

pub returns : goal.returns
unfolding token_ended
returns c = record { value = rw (ne_eqb _ _ c.if-reader-eq0.false, ne_eqb _ _ c.if-reader-eq0-2.false) c.continued.ensures.value }
