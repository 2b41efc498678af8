use mathlib.Core.Path.{refl}
use borrow.Author.Rules.{rules}
use Rattle.model.specs.Types.{used_by_type}
use Rattle.records.specs.Effects.{Leaves}
use Rattle.records.proofs.Changes.{unchanged}
use Rattle.step_dispatch.proofs.ByType.{names_node, by_type, by_no_type}
use Rattle.step_dispatch.proofs.deliver.Goals as goal

pub on_ping_replace-requires : goal.on_ping_replace-requires
unfolding used_by_type
on_ping_replace-requires c =
    record { «record» = let low = names_node c.in-Ok-PingReplace.ensures c.in-Ok-PingReplace.field-0-is refl refl c.requires.message.1 in search rules }

pub on_pong_replace-requires : goal.on_pong_replace-requires
unfolding used_by_type
on_pong_replace-requires c = let low = names_node c.in-Ok-PongReplace.ensures c.in-Ok-PongReplace.field-0-is refl refl c.requires.message.1 in search rules

pub on_ping_deloopy-requires : goal.on_ping_deloopy-requires
unfolding used_by_type
on_ping_deloopy-requires c =
    record { table = let low = names_node c.in-Ok-PingDeloopy.ensures c.in-Ok-PingDeloopy.field-0-is refl refl c.requires.message.1 in search rules }

pub returns-in-Ok-PingContact : goal.returns-in-Ok-PingContact
returns-in-Ok-PingContact c =
    record {
      effect = by_type _ _ _ _ _ (Leaves _ _ _ _) c.in-Ok-PingContact.ensures c.in-Ok-PingContact.field-0-is
          (c.on_ping_contact.ensures.effect _ _ _ c.requires.lent.own_fits);
    }

pub returns-in-Ok-PongContact : goal.returns-in-Ok-PongContact
returns-in-Ok-PongContact c =
    record {
      effect = by_type _ _ _ _ _ (Leaves _ _ _ _) c.in-Ok-PongContact.ensures c.in-Ok-PongContact.field-0-is
          (c.on_pong_contact.ensures.effect _ _ _ c.requires.lent.own_fits c.requires.message.1.sender_low);
    }

pub returns-in-Ok-PingAskInv : goal.returns-in-Ok-PingAskInv
returns-in-Ok-PingAskInv c =
    record { effect = by_type _ _ _ _ _ (Leaves _ _ _ _) c.in-Ok-PingAskInv.ensures c.in-Ok-PingAskInv.field-0-is (c.on_ping_ask_inv.ensures.effect _) }

pub returns-in-Ok-PongAskInv : goal.returns-in-Ok-PongAskInv
returns-in-Ok-PongAskInv c =
    record {
      effect = by_type _ _ _ _ _ (Leaves _ _ _ _) c.in-Ok-PongAskInv.ensures c.in-Ok-PongAskInv.field-0-is
          (c.on_pong_ask_inv.ensures.effect _ _ _ _ c.requires.lent.own_fits c.requires.message.1.view_within);
    }

pub returns-in-Ok-PingInvite : goal.returns-in-Ok-PingInvite
returns-in-Ok-PingInvite c =
    record {
      effect = by_type _ _ _ _ _ (Leaves _ _ _ _) c.in-Ok-PingInvite.ensures c.in-Ok-PingInvite.field-0-is
          (c.on_ping_invite.ensures.effect _ _ _ c.requires.lent.own_fits);
    }

pub returns-in-Ok-PongInvite : goal.returns-in-Ok-PongInvite
returns-in-Ok-PongInvite c =
    record { effect = by_type _ _ _ _ _ (Leaves _ _ _ _) c.in-Ok-PongInvite.ensures c.in-Ok-PongInvite.field-0-is c.on_pong_invite.ensures.effect }

pub returns-in-Ok-PingAskRepl : goal.returns-in-Ok-PingAskRepl
returns-in-Ok-PingAskRepl c =
    record { effect = by_type _ _ _ _ _ (Leaves _ _ _ _) c.in-Ok-PingAskRepl.ensures c.in-Ok-PingAskRepl.field-0-is (c.on_ping_ask_repl.ensures.effect _) }

pub returns-in-Ok-PongAskRepl : goal.returns-in-Ok-PongAskRepl
returns-in-Ok-PongAskRepl c =
    record {
      effect = by_type _ _ _ _ _ (Leaves _ _ _ _) c.in-Ok-PongAskRepl.ensures c.in-Ok-PongAskRepl.field-0-is
          (c.on_pong_ask_repl.ensures.effect _ _ _ _ c.requires.lent.own_fits);
    }

pub returns-in-Ok-PingReplace : goal.returns-in-Ok-PingReplace
returns-in-Ok-PingReplace c =
    record {
      effect = by_type _ _ _ _ _ (Leaves _ _ _ _) c.in-Ok-PingReplace.ensures c.in-Ok-PingReplace.field-0-is
          (c.on_ping_replace.ensures.effect _ _ c.requires.lent.own_fits);
    }

pub returns-in-Ok-PongReplace : goal.returns-in-Ok-PongReplace
returns-in-Ok-PongReplace c =
    record { effect = by_type _ _ _ _ _ (Leaves _ _ _ _) c.in-Ok-PongReplace.ensures c.in-Ok-PongReplace.field-0-is c.on_pong_replace.ensures.effect }

pub returns-in-Ok-PingDeloopy : goal.returns-in-Ok-PingDeloopy
returns-in-Ok-PingDeloopy c =
    record { effect = by_type _ _ _ _ _ (Leaves _ _ _ _) c.in-Ok-PingDeloopy.ensures c.in-Ok-PingDeloopy.field-0-is (c.on_ping_deloopy.ensures.effect _ _) }

pub returns-in-Ok-PongDeloopy : goal.returns-in-Ok-PongDeloopy
returns-in-Ok-PongDeloopy c =
    record {
      effect = by_type _ _ _ _ _ (Leaves _ _ _ _) c.in-Ok-PongDeloopy.ensures c.in-Ok-PongDeloopy.field-0-is
          (c.on_pong_deloopy.ensures.effect _ _ _ _ c.requires.lent.own_fits c.requires.message.1.sender_low);
    }

pub returns-in-Ok-Leave : goal.returns-in-Ok-Leave
returns-in-Ok-Leave c =
    record {
      effect = by_type _ _ _ _ _ (Leaves _ _ _ _) c.in-Ok-Leave.ensures c.in-Ok-Leave.field-0-is
          (c.on_leave.ensures.effect _ _ _ _ c.requires.lent.own_fits);
    }

pub returns-in-Err : goal.returns-in-Err
returns-in-Err c = record {
  effect =
      by_no_type _ _ _ _ _ (Leaves _ _ _ _) c.in-Err.ensures.1 (c.quiet.ensures.effect _ _ _ _ (unchanged c.requires.lent.own_fits));
}
