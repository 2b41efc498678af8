use mathlib.Core.Path.{refl}
use Rattle.listener.proofs.Records.{kept}
use Rattle.mekvalgs.proofs.lent.Goals as goal

pub returns : goal.returns
returns c =
    record {
      value = refl;
      whole = kept _ (record { watched_fits = c.well_formed.0.1; silences_long = c.well_formed.1.0.1.0.1; windows_long = c.well_formed.1.1.0.1.0.1 });
    }
