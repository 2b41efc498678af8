use mathlib.Core.Bool.{◌&&◌, ◌||◌}
use lib.Dec.{ltb, eqb}
use Rattle.model.specs.Types.{pong_ask_repl, ping_deloopy}
use Rattle.model.specs.Words.{between}
use Rattle.model.proofs.Types.{types_use}
use Rattle.valid_messages.proofs.MessageTests.{pick}
use Rattle.valid_messages.proofs.subject_fits.Goals as goal

pub returns : goal.returns
returns c = record {
  value = λ t m e f g.
      rw (e, f, g, types_use.subject c.args.tag, types_use.spare c.args.tag)
      (pick (between pong_ask_repl ping_deloopy c.args.tag)
      (ltb c.args.subject c.args.n || (eqb c.args.tag pong_ask_repl && eqb c.args.subject 64)) (eqb c.args.subject 64));
}
