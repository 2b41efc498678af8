-- The refusal; a node that is watched already; else it starts.
use Rattle.std.proofs.Common.{rules}
use mathlib.Core.Path.{sym, ◌∙◌}
use Rattle.listener.proofs.Records.{room, watch_refused, watches_again, watches_new}
use Rattle.listener.proofs.watch.Goals as goal

pub returns-then-node-gt63 : goal.returns-then-node-gt63
returns-then-node-gt63 c =
    let q = c.args.listener.now in
    let held = room q (search rules) (search rules) (search rules) in
    let p = watch_refused q held c.args.node.0 c.if-node-gt63.true in
    record { answer = p.0; listener = p.1 }

pub returns-then-has : goal.returns-then-has
returns-then-has c =
    let q = c.args.listener.now in
    let held = room q (search rules) (search rules) (search rules) in
    let p = watches_again q held c.args.node.0 c.if-node-gt63.false (sym c.has.ensures.value ∙ c.if-has.true) in
    record { answer = p.0; listener = p.1 }

pub returns : goal.returns
returns c =
    let q = c.args.listener.now in
    let held = room q (search rules) (search rules) (search rules) in
    let p =
    watches_new q held c.args.node.0 c.if-node-gt63.false
    c.with-listener.result (search rules) (sym c.has.ensures.value ∙ c.if-has.false) c.with-listener.ensures.members in
    record { answer = p.0; listener = c.restart.ensures.value ∙ p.1 }
