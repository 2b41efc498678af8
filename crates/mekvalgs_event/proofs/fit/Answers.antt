use mathlib.Core.Path.{◌≡◌, sym}
use mathlib.Core.Logic.{inl, inr}
use native.Mathlib.Omega.{arith}
use native.Mathlib.Decide.{dec_lt}
use borrow.Author.Rules.{rules}
use Rattle.mekvalgs_event.proofs.Numbers.{of_on, of_off, of_nodes, of_timer, of_deliver, of_lose, of_none}
use Rattle.mekvalgs_event.proofs.fit.Goals as goal

pub returns-in-Ok-On : goal.returns-in-Ok-On
returns-in-Ok-On c = record { value = sym (of_on c.args.p.kind c.args.p.first c.args.p.second (search rules)) }

pub returns-in-Ok-Off : goal.returns-in-Ok-Off
returns-in-Ok-Off c = record { value = sym (of_off c.args.p.kind c.args.p.first c.args.p.second (search rules)) }

pub returns-in-Ok-Deliver : goal.returns-in-Ok-Deliver
returns-in-Ok-Deliver c = record { value = sym (of_deliver c.args.p.kind c.args.p.first c.args.p.second (search rules)) }

pub returns-in-Ok-Lose : goal.returns-in-Ok-Lose
returns-in-Ok-Lose c = record { value = sym (of_lose c.args.p.kind c.args.p.first c.args.p.second (search rules)) }

pub returns-in-Ok-Timer : goal.returns-in-Ok-Timer
returns-in-Ok-Timer c = record { value = rw c.is_timer.ensures.value (sym (of_timer c.args.p.kind c.args.p.first c.args.p.second (search rules))) }

pub returns-in-Ok-Notice : goal.returns-in-Ok-Notice
returns-in-Ok-Notice c =
    let is : c.args.p.kind ≡ 11 = search rules in
    record { value = sym (of_nodes c.args.p.kind c.args.p.first c.args.p.second (omega arith) (omega arith)) }

pub returns-in-Ok-Contact : goal.returns-in-Ok-Contact
returns-in-Ok-Contact c =
    let is : c.args.p.kind ≡ 12 = search rules in
    record { value = sym (of_nodes c.args.p.kind c.args.p.first c.args.p.second (omega arith) (omega arith)) }

pub returns-in-Err : goal.returns-in-Err
returns-in-Err c = record {
  value =
      of_none c.args.p.kind c.args.p.first c.args.p.second
      (elim (dec_lt c.args.p.kind 9) [
        | yes low ↦ inl low
        | no high ↦ inr (c.in-Err.ensures.1 (omega arith))
      ]);
}
