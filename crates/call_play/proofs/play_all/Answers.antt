use mathlib.Core.Path.{refl}
use Rattle.std.specs.Prelude.{Ok, Err}
use Rattle.model.proofs.Cases.{number_high}
use Rattle.call_play.proofs.Replays.{none_read, read_as_ring, all_played}
use Rattle.call_play.proofs.play_all.Goals as goal

pub returns-in-Err : goal.returns-in-Err
returns-in-Err c = record { played = none_read _ {A = Unit {0}} (Err c.in-Err.refusal) c.in-Err.ensures.answer _ _ (number_high c.in-Err.refusal) }

pub play_each-requires : goal.play_each-requires
play_each-requires c = record { ring = read_as_ring _ (Ok (tt {0})) c.in_default.ensures.answer refl }

pub returns : goal.returns
returns c = record { played = all_played _ (Ok (tt {0})) c.in_default.ensures.answer refl c.play_each.ensures.played }
