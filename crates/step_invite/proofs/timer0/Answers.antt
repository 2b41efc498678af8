-- Timer 0 leaves what the step leaves: nobody is a candidate, and its two groups are the invitations and the questions.
use mathlib.Core.Path.{refl}
use lib.Dec.{lit<}
use Rattle.model.specs.Sets.{of_bits}
use Rattle.model.specs.Structs.{own_of}
use Rattle.model.specs.Steps as steps
use Rattle.records.specs.Effects.{Owns}
use Rattle.sets.specs.Within.{Within}
use Rattle.sets.proofs.Bits.{nobody, within_none}
use Rattle.records.proofs.Calls.{calls}
use Rattle.step_invite.proofs.Invited.{union_table, invited_set, invited_low}
use Rattle.step_invite.proofs.timer0.Goals as goal

pub leafset-near-requires : goal.leafset-near-requires
leafset-near-requires c =
    let node = c.args.node.now in
    record {
      table = union_table node.sides c.requires.lent.table node.own.now.candidates c.requires.lent.own_fits.candidates_within;
      sides = c.requires.lent.sides_room;
    }

pub returns : goal.returns
unfolding steps.timer0
returns c = record {
  effect =
      let node = c.args.node.now in
      let fits = c.requires.lent.own_fits in
      let few = c.requires.lent.table.few in
      let set = invited_set node.sides c.requires.lent.table node.own.now.candidates fits.candidates_within _ _
      c.minus.ensures.members c.leafset-near.ensures.value in
      let low = invited_low node.sides c.requires.lent.table node.own.now.candidates fits.candidates_within _ _
      c.minus.ensures.members c.leafset-near.ensures.value in
      -- that no candidate is left is met before that nobody is within the table
      let emptied : Within _ _ → Owns _ _ (steps.set_candidates (of_bits 0) (own_of node.own.now)) = c.set_candidates.ensures.record _ fits in
      λ time.
      c.sending_both.ensures.effect _ _ time _ _ _
      (rw nobody at (emptied (within_none _)))
      (calls node.me.0 time _ _ _ few low set 5 (lit< tt))
      (calls node.me.0 time _ _ _ few fits.held_within refl 3 (lit< tt));
}
