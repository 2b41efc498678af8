-- `spelled` meets its contract: from the last byte on, what is spelled so far is the invariant.
use Rattle.text_reader.proofs.Tokens.{SpelledAfter}
use Rattle.text_reader.proofs.token.spelled.Given as goal

abbrev pub invariant-loop-rest : goal.invariant-loop-rest
invariant-loop-rest l = SpelledAfter l.base l.token l.rest l.unit l.value

abbrev pub decreases-loop-rest : goal.decreases-loop-rest
decreases-loop-rest l = l.rest
