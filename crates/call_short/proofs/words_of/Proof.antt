use mathlib.Core.Path.{refl}
use native.Mathlib.Omega.{arith}
use borrow.Author.Rules.{rules}
use Rattle.valid_short.proofs.ShortRegions.{square_high}
use Rattle.call_short.proofs.words_of.Statement.{statement}
use Rattle.call_short.proofs.words_of.Tie as tie

mul-result : tie.Need-overflow_mul-result
mul-result c = let h = square_high c.args.n c.requires.0 in search rules

mul-result-2 : tie.Need-overflow_mul-result-2
mul-result-2 c = let h = square_high c.args.n c.requires.0 in search rules

add-result : tie.Need-overflow_add-result
add-result c = let h = square_high c.args.n c.requires.0 in search rules

add-result-2 : tie.Need-overflow_add-result-2
add-result-2 c = let h = square_high c.args.n c.requires.0 in search rules

returns : tie.Need-returns
returns c = let h = square_high c.args.n c.requires.0 in (refl, omega arith)

pub words_of_spec : {M : Type 1} → statement M
words_of_spec = tie.close (tie.spec mul-result mul-result-2 add-result (λ c. search rules) add-result-2 returns)
