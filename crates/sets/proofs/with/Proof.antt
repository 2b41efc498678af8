use mathlib.Core.Path.{ap, ◌∙◌}
use Prim.Native.Nat.{ℕ}
use lib.Bits.{bit_or}
use borrow.Author.Rules.{rules}
use Rattle.model.specs.Sets.{of_bits}
use Rattle.sets.proofs.Bits.{or_with, shift_one}
use Rattle.sets.proofs.with.Statement.{statement}
use Rattle.sets.proofs.with.Tie as tie

returns : tie.Need-returns
returns c = let a = c.before.args in ap (λ (w : ℕ). of_bits (bit_or a.set w)) (shift_one a.x.0 c.before.requires) ∙ or_with a.set a.x.0

pub with_spec : {M : Type 1} → statement M
with_spec = tie.close (tie.spec (λ c. search rules) (λ c. search rules) returns)
