use Rattle.event_play.proofs.Played.{still}
use mathlib.Core.Path.{refl, ◌∙◌}
use Rattle.model.specs.Words.{decode}
use Rattle.answers.proofs.Valid.{long}
use Rattle.audit_event.proofs.Plays.{counted_nodes, noted_from}
use Rattle.audit_event.proofs.played.play.Goals as goal

pub nodes-requires : goal.nodes-requires
nodes-requires c = record { length = long _ c.requires.ring }

pub running-running-requires : goal.running-running-requires
running-running-requires c = record { words = counted_nodes _ c.requires.ring c.nodes.ensures.value }

pub returns : goal.returns
returns c =
    let harm = c.is_harmful-harmful.ensures.value (decode c.args.words.now) c.running-running.ensures.members in
    record {
      noted = λ s k.
          noted_from s _ k c.play_word-answer.result c.play_word-answer.ensures.written _ refl c.is_ok.ensures.value harm c.list.ensures.listed
          (λ ρ v u e. c.noted-log.ensures.value ρ v u (c.event.ensures.value ∙ e));
      bounds = c.noted-log.ensures.bounds;
      ring = still _ c.requires.ring _ c.play_word-answer.result c.play_word-answer.ensures.written;
      lists = (record { listed = c.list.ensures.listed.long; groups = c.requires.lists.groups }, refl);
    }
