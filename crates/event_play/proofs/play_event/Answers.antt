use Rattle.event_play.proofs.Plays.{not_written}
use Rattle.event_play.proofs.play_event.Goals as goal

pub returns-in_err-change : goal.returns-in_err-change
returns-in_err-change c = record { written = not_written _ _ c.args.e _ c.from_residual.ensures.1 c.in_err-change.ensures.decides.answer }
