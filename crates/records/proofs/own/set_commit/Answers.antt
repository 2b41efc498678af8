use Rattle.records.proofs.Changes.{commit_changed}
use Rattle.records.proofs.own.set_commit.Goals as goal

pub returns : goal.returns
returns c = record {
  «record» =
      let p = c.requires.«record» in
      λ n fits. rw c.index.ensures.value (commit_changed fits c.args.z.0 p.0 c.args.time p.1);
}
