use mathlib.Core.Path.{ap, ◌∙◌}
use Prim.Native.Nat.{ℕ, ◌-◌}
use lib.Bits.{bit_and, and_le_l}
use borrow.Author.Rules.{rules}
use Rattle.model.specs.Sets.{of_bits}
use Rattle.sets.proofs.Bits.{sub_without, shift_one}
use Rattle.sets.proofs.without.Statement.{statement}
use Rattle.sets.proofs.without.Tie as tie

sub-result : tie.Need-overflow_sub-result
sub-result c = and_le_l _ _

returns : tie.Need-returns
returns c =
    let a = c.before.args in
    ap (λ (w : ℕ). of_bits (a.set - bit_and a.set w)) (shift_one a.x.0 c.before.requires) ∙ sub_without a.set a.x.0

pub without_spec : {M : Type 1} → statement M
without_spec = tie.close (tie.spec (λ c. search rules) (λ c. search rules) sub-result returns)
