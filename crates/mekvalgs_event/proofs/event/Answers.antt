-- In each arm the kind is known; the parts of numbers that are an event's have room.
use mathlib.Core.Path.{◌≡◌}
use native.Mathlib.Omega.{arith}
use borrow.Author.Rules.{rules}
use Rattle.mekvalgs_event.specs.Parts.{event_of_parts}
use Rattle.mekvalgs_event.proofs.Numbers.{kind_low, kind_high, node_low, other_low, timer_low, position_low}
use Rattle.mekvalgs_event.proofs.event.Goals as goal

pub overflow_cast-result : goal.overflow_cast-result
overflow_cast-result c =
    let is : c.args.p.kind ≡ 9 = search rules in
    omega (arith, node_low c.args.p.kind c.args.p.first c.args.p.second c.requires.parts (omega arith))

pub overflow_cast-result-in-Ok-Off : goal.overflow_cast-result-in-Ok-Off
overflow_cast-result-in-Ok-Off c =
    let is : c.args.p.kind ≡ 10 = search rules in
    omega (arith, node_low c.args.p.kind c.args.p.first c.args.p.second c.requires.parts (omega arith))

pub overflow_cast-result-in-Ok-Notice : goal.overflow_cast-result-in-Ok-Notice
overflow_cast-result-in-Ok-Notice c =
    let is : c.args.p.kind ≡ 11 = search rules in
    omega (arith, node_low c.args.p.kind c.args.p.first c.args.p.second c.requires.parts (omega arith))

pub overflow_cast-result-in-Ok-Notice-2 : goal.overflow_cast-result-in-Ok-Notice-2
overflow_cast-result-in-Ok-Notice-2 c =
    let is : c.args.p.kind ≡ 11 = search rules in
    omega (arith, other_low c.args.p.kind c.args.p.first c.args.p.second c.requires.parts (omega arith) (omega arith))

pub overflow_cast-result-in-Ok-Contact : goal.overflow_cast-result-in-Ok-Contact
overflow_cast-result-in-Ok-Contact c =
    let is : c.args.p.kind ≡ 12 = search rules in
    omega (arith, node_low c.args.p.kind c.args.p.first c.args.p.second c.requires.parts (omega arith))

pub overflow_cast-result-in-Ok-Contact-2 : goal.overflow_cast-result-in-Ok-Contact-2
overflow_cast-result-in-Ok-Contact-2 c =
    let is : c.args.p.kind ≡ 12 = search rules in
    omega (arith, other_low c.args.p.kind c.args.p.first c.args.p.second c.requires.parts (omega arith) (omega arith))

pub overflow_cast-result-in-Ok-Timer : goal.overflow_cast-result-in-Ok-Timer
overflow_cast-result-in-Ok-Timer c =
    let is : c.args.p.kind ≡ 13 = search rules in
    omega (arith, node_low c.args.p.kind c.args.p.first c.args.p.second c.requires.parts (omega arith))

pub overflow_cast-result-in-Ok-Timer-2 : goal.overflow_cast-result-in-Ok-Timer-2
overflow_cast-result-in-Ok-Timer-2 c =
    let is : c.args.p.kind ≡ 13 = search rules in
    omega (arith, timer_low c.args.p.kind c.args.p.first c.args.p.second c.requires.parts is)

pub overflow_cast-result-in-Ok-Deliver : goal.overflow_cast-result-in-Ok-Deliver
overflow_cast-result-in-Ok-Deliver c =
    let is : c.args.p.kind ≡ 14 = search rules in
    omega (arith, position_low c.args.p.kind c.args.p.first c.args.p.second c.requires.parts (omega arith))

pub overflow_cast-result-in-Ok-Lose : goal.overflow_cast-result-in-Ok-Lose
overflow_cast-result-in-Ok-Lose c =
    let is : c.args.p.kind ≡ 15 = search rules in
    omega (arith, position_low c.args.p.kind c.args.p.first c.args.p.second c.requires.parts (omega arith))

pub returns-in-Ok-On : goal.returns-in-Ok-On
unfolding event_of_parts
returns-in-Ok-On c = let is : c.args.p.kind ≡ 9 = search rules in record { value = rw is }

pub returns-in-Ok-Off : goal.returns-in-Ok-Off
unfolding event_of_parts
returns-in-Ok-Off c = let is : c.args.p.kind ≡ 10 = search rules in record { value = rw is }

pub returns-in-Ok-Notice : goal.returns-in-Ok-Notice
unfolding event_of_parts
returns-in-Ok-Notice c = let is : c.args.p.kind ≡ 11 = search rules in record { value = rw is }

pub returns-in-Ok-Contact : goal.returns-in-Ok-Contact
unfolding event_of_parts
returns-in-Ok-Contact c = let is : c.args.p.kind ≡ 12 = search rules in record { value = rw is }

pub returns-in-Ok-Timer : goal.returns-in-Ok-Timer
unfolding event_of_parts
returns-in-Ok-Timer c = let is : c.args.p.kind ≡ 13 = search rules in record { value = rw is }

pub returns-in-Ok-Deliver : goal.returns-in-Ok-Deliver
unfolding event_of_parts
returns-in-Ok-Deliver c = let is : c.args.p.kind ≡ 14 = search rules in record { value = rw is }

pub returns-in-Ok-Lose : goal.returns-in-Ok-Lose
unfolding event_of_parts
returns-in-Ok-Lose c = let is : c.args.p.kind ≡ 15 = search rules in record { value = rw is }

pub unreachable-requires : goal.unreachable-requires
unreachable-requires c =
    let low = kind_low c.args.p.kind c.args.p.first c.args.p.second c.requires.parts in
    omega (arith, c.in-Err.ensures.1 low, kind_high c.args.p.kind c.args.p.first c.args.p.second c.requires.parts)
