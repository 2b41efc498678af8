use Rattle.valid_messages.proofs.block_reads.Goals as goal

pub returns : goal.returns
returns c = record {
  value = λ t e.
      let a = c.args in
      c.halves_fit.ensures.value a.words.now a.base t a.from e c.halve.ensures.halves;
}
