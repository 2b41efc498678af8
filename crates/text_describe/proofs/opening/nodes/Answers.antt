use mathlib.Core.Path.{sym, ◌∙◌}
use native.Mathlib.Omega.{arith}
use Rattle.text_describe.proofs.Openings.{words_enough, nodes_as}
use Rattle.text_describe.proofs.opening.nodes.Goals as goal

pub bounds-script-0 : goal.bounds-script-0
bounds-script-0 c = omega (arith, words_enough c.args.script.now c.requires.opens)

pub returns : goal.returns
returns c =
    record {
      value = c.nodes.ensures.value ∙ sym (nodes_as c.args.script.now c.requires.opens);
      bound = omega (arith, c.nodes.ensures.value, words_enough c.args.script.now c.requires.opens);
    }
