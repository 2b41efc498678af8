-- `part_read` meets its contract: each field is what its call ensures.
use Rattle.text_form.specs.Assemble.{part_read}
use Rattle.text_reader.proofs.part_read.Goals as goal

pub returns : goal.returns
unfolding part_read
returns c = record {
  value =
      rw (
        c.keys_after.ensures.value,
        c.first_after.ensures.value,
        c.place_after.ensures.value,
        c.sides_after.ensures.value,
      );
}
