use Rattle.mekvalgs.proofs.Listening.{tick_gives, tick_leaves}
use Rattle.mekvalgs.proofs.mekvalgs_tick.Goals as goal

pub returns : goal.returns
returns c =
    record {
      notices = tick_gives c.lent-listener.ensures.value c.tick-notices.ensures.notices;
      listener = tick_leaves c.lent-listener.ensures.value c.lent-listener.ensures.whole c.tick-notices.ensures.listener;
    }
