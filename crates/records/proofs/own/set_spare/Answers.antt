use Rattle.records.proofs.Changes.{spare_changed}
use Rattle.records.proofs.own.set_spare.Goals as goal

pub returns : goal.returns
returns c = record {
  «record» =
      let p = c.requires.«record» in
      λ n fits. rw c.index.ensures.value (spare_changed fits c.args.z.0 p.0 c.args.y p.1);
}
