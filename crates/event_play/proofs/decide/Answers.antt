use Rattle.event_play.proofs.Plays.{of_event}
use Rattle.event_play.proofs.decide.Goals as goal

pub returns-in-On : goal.returns-in-On
returns-in-On c = record { decides = of_event _ c.in-On.is c.on.ensures.decides }

pub returns-in-Off : goal.returns-in-Off
returns-in-Off c = record { decides = of_event _ c.in-Off.is c.off.ensures.decides }

pub returns-in-Notice : goal.returns-in-Notice
returns-in-Notice c = record { decides = of_event _ c.in-Notice.is c.notice.ensures.decides }

pub returns-in-Contact : goal.returns-in-Contact
returns-in-Contact c = record { decides = of_event _ c.in-Contact.is c.contact.ensures.decides }

pub returns-in-Timer : goal.returns-in-Timer
returns-in-Timer c = record { decides = of_event _ c.in-Timer.is c.timer.ensures.decides }

pub returns-in-Deliver : goal.returns-in-Deliver
returns-in-Deliver c = record { decides = of_event _ c.in-Deliver.is c.deliver.ensures.decides }

pub returns-in-Lose : goal.returns-in-Lose
returns-in-Lose c = record { decides = of_event _ c.in-Lose.is c.lose.ensures.decides }
