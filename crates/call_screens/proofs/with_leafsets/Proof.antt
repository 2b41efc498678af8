use native.Mathlib.Omega.{arith}
use borrow.Author.Rules.{rules}
use Rattle.answers.proofs.Valid.{long, few}
use Rattle.call_screens.proofs.Shown.{screen_of}
use Rattle.call_screens.proofs.with_leafsets.Statement.{statement}
use Rattle.call_screens.proofs.with_leafsets.Tie as tie

sides-requires : tie.Need-sides-requires
sides-requires c κs = long _ c.before.requires.0

cast-t6 : tie.Need-overflow_cast-result
cast-t6 c = let h = few _ c.before.before.requires.0 in search rules

running-requires : tie.Need-running-requires
running-requires c κs =
    let start = c.before.before in
    let n = start.requires.1.0 in
    (long _ start.requires.0, n, omega (arith, few _ start.requires.0))

returns : tie.Need-returns
returns c =
    let p = c.before.before.before.requires in
    screen_of _ p.0 c.before.sides.ensures p.1.0 (search rules) c.running.ensures p.1.1 p.1.2

pub with_leafsets_spec : {M : Type 1} → statement M
with_leafsets_spec =
    tie.close
    (tie.spec
    sides-requires cast-t6 running-requires returns)
