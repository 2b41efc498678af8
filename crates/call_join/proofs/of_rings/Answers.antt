-- Each test in the order of the refusals: the first that holds gives its number.
use mathlib.Core.Path.{sym, ◌∙◌}
use Rattle.model.proofs.Answers.{here, next, no_more}
use Rattle.answers.proofs.Valid.{long, few}
use Rattle.call_join.proofs.Refused.{sides_differ_lem, same_sides, many_nodes, key_shared_lem, no_clash, many_messages, few_messages}
use Rattle.call_join.proofs.of_rings.Goals as goal

pub sides-ours-requires : goal.sides-ours-requires
sides-ours-requires c = record { length = long _ c.requires.rings.0 }

pub sides-theirs-requires : goal.sides-theirs-requires
sides-theirs-requires c = record { length = long _ c.requires.rings.1 }

pub returns-then-not-ours-theirs : goal.returns-then-not-ours-theirs
returns-then-not-ours-theirs c =
    record { answer = sym (here _ _ (sides_differ_lem _ _ _ _ c.sides-ours.ensures.value c.sides-theirs.ensures.value (c.if-not-ours-theirs.true))) }

pub nodes-requires : goal.nodes-requires
nodes-requires c = record { length = long _ c.requires.rings.0 }

pub nodes-requires-2 : goal.nodes-requires-2
nodes-requires-2 c = record { length = long _ c.requires.rings.1 }

pub returns-then-nodes-gt64 : goal.returns-then-nodes-gt64
returns-then-nodes-gt64 c = record {
  answer =
      sym
      (next _ _ (same_sides _ _ _ _ c.sides-ours.ensures.value c.sides-theirs.ensures.value (c.if-not-ours-theirs.false))
      ∙ here _ _ (many_nodes _ _ _ _ c.nodes.ensures.value c.nodes-2.ensures.value c.if-nodes-gt64.true));
}

pub shares_key-requires : goal.shares_key-requires
shares_key-requires c =
    record {
      first = (long _ c.requires.rings.0, few _ c.requires.rings.0);
      second = (long _ c.requires.rings.1, few _ c.requires.rings.1);
    }

pub returns-then-shares_key : goal.returns-then-shares_key
returns-then-shares_key c = record {
  answer =
      sym
      (next _ _ (same_sides _ _ _ _ c.sides-ours.ensures.value c.sides-theirs.ensures.value (c.if-not-ours-theirs.false))
      ∙ here _ _ (key_shared_lem _ _ c.shares_key.ensures.value c.if-shares_key.true));
}

pub messages-requires : goal.messages-requires
messages-requires c = record { length = long _ c.requires.rings.0 }

pub messages-requires-2 : goal.messages-requires-2
messages-requires-2 c = record { length = long _ c.requires.rings.1 }

pub returns-then-messages-gt-MESSAGES : goal.returns-then-messages-gt-MESSAGES
returns-then-messages-gt-MESSAGES c = record {
  answer =
      sym
      (next _ _ (same_sides _ _ _ _ c.sides-ours.ensures.value c.sides-theirs.ensures.value (c.if-not-ours-theirs.false))
      ∙ next _ _
      (no_clash _ _ _ _ c.nodes.ensures.value c.nodes-2.ensures.value c.if-nodes-gt64.false
      c.shares_key.ensures.value c.if-shares_key.false)
      ∙ here _ _ (many_messages _ _ _ _ c.messages.ensures.value c.messages-2.ensures.value c.if-messages-gt-MESSAGES.true));
}

pub returns : goal.returns
returns c = record {
  answer =
      sym
      (next _ _ (same_sides _ _ _ _ c.sides-ours.ensures.value c.sides-theirs.ensures.value (c.if-not-ours-theirs.false))
      ∙ next _ _
      (no_clash _ _ _ _ c.nodes.ensures.value c.nodes-2.ensures.value c.if-nodes-gt64.false
      c.shares_key.ensures.value c.if-shares_key.false)
      ∙ next _ _ (few_messages _ _ _ _ c.messages.ensures.value c.messages-2.ensures.value c.if-messages-gt-MESSAGES.false) ∙ no_more);
}
