-- A listener's record, as it lies behind C's pointers.
use Rattle.std.specs.Prelude.{ℕ, List}
use Rattle.model.specs.declared.listener.ListenerRecord.{ListenerRecord}

abbrev pub listener_in : ℕ → List ℕ → List ℕ → ListenerRecord
listener_in watched silences windows = record { watched = watched; silences = silences; windows = windows }
