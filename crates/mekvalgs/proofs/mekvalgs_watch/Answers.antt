use Rattle.mekvalgs.proofs.Listening.{watch_answers, watch_leaves}
use Rattle.mekvalgs.proofs.mekvalgs_watch.Goals as goal

pub returns : goal.returns
returns c =
    let is = c.lent-listener.ensures.value in
    record {
      answer = watch_answers is c.args.x c.node.ensures.value c.number.ensures.answer c.watch-answer.ensures.answer;
      listener = watch_leaves is c.args.x c.node.ensures.value c.put_counts.ensures.value c.watch-answer.ensures.listener;
    }
