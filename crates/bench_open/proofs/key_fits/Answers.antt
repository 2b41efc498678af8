use Rattle.bench_open.specs.Beginning.{key_fits}
use Rattle.bench_open.proofs.key_fits.Goals as goal

pub returns : goal.returns
unfolding key_fits
returns c = record { value = rw (c.new.ensures.value, c.key.ensures.value) }
