-- `digit` meets its contract: each range of digits is a case of the definition.
use borrow.Author.Rules.{rules}
use Rattle.text_form.specs.Assemble.{digit_of}
use Rattle.text_reader.proofs.token.digit.Goals as goal

pub returns-in-48-to-57-clause-value : goal.returns-in-48-to-57-clause-value
unfolding digit_of
returns-in-48-to-57-clause-value c = let h = c.in-48-to-57 in search rules

pub returns-in-65-to-70-clause-value : goal.returns-in-65-to-70-clause-value
unfolding digit_of
returns-in-65-to-70-clause-value c = let h = c.in-65-to-70 in search rules

pub returns-in-97-to-102-clause-value : goal.returns-in-97-to-102-clause-value
unfolding digit_of
returns-in-97-to-102-clause-value c = let h = c.in-97-to-102 in search rules

pub returns-in_default-clause-value : goal.returns-in_default-clause-value
unfolding digit_of
returns-in_default-clause-value c = let h = c.in_default in search rules

pub returns-in_default-2-clause-value : goal.returns-in_default-2-clause-value
unfolding digit_of
returns-in_default-2-clause-value c = let h = c.in_default in search rules

pub returns-in_default-3-clause-value : goal.returns-in_default-3-clause-value
unfolding digit_of
returns-in_default-3-clause-value c = let h = c.in_default in search rules

pub returns-in_default-4-clause-value : goal.returns-in_default-4-clause-value
unfolding digit_of
returns-in_default-4-clause-value c = let h = c.in_default in search rules
