use mathlib.Core.Path.{refl}
use Rattle.mekvalgs.proofs.put_screen.Statement.{statement}
use Rattle.mekvalgs.proofs.put_screen.Tie as tie

returns : tie.Need-returns
returns c = refl

pub put_screen_spec : {M : Type 1} → statement M
put_screen_spec = tie.close (tie.spec returns)
