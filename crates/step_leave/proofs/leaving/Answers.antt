use mathlib.Core.Path.{refl}
use lib.Dec.{lit<}
use Rattle.model.specs.Types.{leave}
use Rattle.model.specs.Steps as steps
use Rattle.records.proofs.Changes.{unchanged}
use Rattle.records.proofs.Calls.{calls}
use Rattle.step_leave.proofs.leaving.Goals as goal

pub returns : goal.returns
unfolding steps.leaving
returns c = record {
  effect = λ t me time few fits. c.sending.ensures.effect _ me time _ _ (unchanged fits)
      (calls me time _ c.args.own.held _ few fits.held_within refl leave (lit< tt));
}
