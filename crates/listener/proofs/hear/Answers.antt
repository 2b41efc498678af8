-- Each refusal by its test, in their order; else the node is heard.
use Rattle.std.proofs.Common.{rules}
use mathlib.Core.Path.{sym, ◌∙◌}
use Rattle.listener.proofs.Records.{room, hear_refused, not_watched, hears}
use Rattle.listener.proofs.hear.Goals as goal

pub returns-then-node-gt63 : goal.returns-then-node-gt63
returns-then-node-gt63 c =
    let q = c.args.listener.now in
    let held = room q (search rules) (search rules) (search rules) in
    let p = hear_refused q held c.args.node.0 c.if-node-gt63.true in
    record { answer = p.0; listener = p.1 }

pub returns-then-not-has : goal.returns-then-not-has
returns-then-not-has c =
    let q = c.args.listener.now in
    let held = room q (search rules) (search rules) (search rules) in
    let p = not_watched q held c.args.node.0 c.if-node-gt63.false (sym c.has.ensures.value ∙ c.if-not-has.true) in
    record { answer = p.0; listener = p.1 }

pub returns : goal.returns
returns c =
    let q = c.args.listener.now in
    let held = room q (search rules) (search rules) (search rules) in
    let p =
    hears q held c.args.node.0 c.if-node-gt63.false
    (sym c.has.ensures.value ∙ c.if-not-has.false) (rw c.index-at.ensures.value at c.heard_window-window.ensures.value) in
    record { answer = p.0; listener = c.restart.ensures.value ∙ p.1 }
