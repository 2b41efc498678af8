-- `pairs` meets its contract: each range of tokens is a case of the definition.
use borrow.Author.Rules.{rules}
use Rattle.text_form.specs.Assemble.{pairs_of}
use Rattle.text_reader.proofs.token.pairs.Goals as goal

pub returns-in-256-to-65535 : goal.returns-in-256-to-65535
unfolding pairs_of
returns-in-256-to-65535 c = let h = c.in-256-to-65535 in search rules

pub returns-in-16777216-to-4294967295 : goal.returns-in-16777216-to-4294967295
unfolding pairs_of
returns-in-16777216-to-4294967295 c = let h = c.in-16777216-to-4294967295 in search rules

pub returns-in-1099511627776-to-281474976710655 : goal.returns-in-1099511627776-to-281474976710655
unfolding pairs_of
returns-in-1099511627776-to-281474976710655 c = let h = c.in-1099511627776-to-281474976710655 in search rules

pub returns-in_default : goal.returns-in_default
unfolding pairs_of
returns-in_default c = let h = c.in_default in search rules

pub returns-in_default-2 : goal.returns-in_default-2
unfolding pairs_of
returns-in_default-2 c = let h = c.in_default in search rules

pub returns-in_default-3 : goal.returns-in_default-3
unfolding pairs_of
returns-in_default-3 c = let h = c.in_default in search rules

pub returns-in_default-4 : goal.returns-in_default-4
unfolding pairs_of
returns-in_default-4 c = let h = c.in_default in search rules
