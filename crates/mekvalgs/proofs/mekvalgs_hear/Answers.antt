use Rattle.mekvalgs.proofs.Listening.{hear_answers, hear_leaves}
use Rattle.mekvalgs.proofs.mekvalgs_hear.Goals as goal

pub returns : goal.returns
returns c =
    record {
      answer = hear_answers c.lent-listener.ensures.value c.args.x c.node.ensures.value c.number.ensures.answer c.hear-answer.ensures.answer;
      listener = hear_leaves c.lent-listener.ensures.value c.args.x c.node.ensures.value c.lent-listener.ensures.whole
          c.put_counts.ensures.value c.hear-answer.ensures.listener;
    }
