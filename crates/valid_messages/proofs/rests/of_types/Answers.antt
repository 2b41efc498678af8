use mathlib.Core.Path.{refl, ap, ◌∙◌}
use Rattle.model.specs.Sets.{tabulate_from}
use Rattle.model.specs.Types.{used_by_type}
use Rattle.valid_messages.specs.Masks.{above, of_types_mask}
use Rattle.valid_messages.proofs.rests.of_types.Goals as goal

pub above-requires : goal.above-requires
above-requires c = record { bounds = c.part.ensures.bound }

pub above-requires-2 : goal.above-requires-2
above-requires-2 c = record { bounds = c.part-2.ensures.bound }

pub above-requires-3 : goal.above-requires-3
above-requires-3 c = record { bounds = c.part-3.ensures.bound }

pub returns : goal.returns
unfolding of_types_mask used_by_type tabulate_from
returns c = record {
  value =
      rw (
        c.above.ensures.value ∙ ap above c.part.ensures.value,
        c.above-2.ensures.value ∙ ap above c.part-2.ensures.value,
        c.above-3.ensures.value ∙ ap above c.part-3.ensures.value,
        c.above-4.ensures.value,
        c.above-5.ensures.value,
      )
      refl;
}
