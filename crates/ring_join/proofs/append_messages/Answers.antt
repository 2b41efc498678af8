use mathlib.Core.Path.{◌≡◌, sym, ap, ◌∙◌}
use Prim.Native.Nat.{◌<◌}
use native.Mathlib.Omega.{arith}
use lib.ListN.{length}
use Rattle.model.specs.Words.{decode}
use Rattle.model.specs.Join.{raised_message}
use Rattle.model.proofs.Words.{reads_out}
use Rattle.ring_join.proofs.Messages.{has_room, stays_low, is_message, append_none, append_more, append_all}
use borrow.Author.Rules.{rules}
use Rattle.ring_join.proofs.append_messages.Goals as goal

pub messages-k-end-requires : goal.messages-k-end-requires
messages-k-end-requires c = record { length = (reads_out _ c.requires.words.1).long }

pub loop-k-init : goal.loop-k-init
loop-k-init c =
    (search rules, c.messages-k-end.ensures.value, c.requires.words.0, append_none _ _ c.args.n (decode c.args.second.now).messages)

pub load-message-requires : goal.load-message-requires
load-message-requires c =
    record {
      length = (reads_out _ c.requires.words.1).long;
      bounds = omega (arith, c.loop-k-test.true, c.loop-k.invariant.1, c.requires.words.3);
    }

pub raised_message-requires : goal.raised_message-requires
raised_message-requires c =
    let l = c.loop-k in
    let h : l.k < length (decode c.args.second.now).messages = omega (arith, c.loop-k-test.true, l.invariant.1) in
    record {
      room = has_room _ _ _ _ c.requires.words.1 c.requires.words.2 h c.load-message.ensures.loaded;
      low = stays_low _ _ _ _ c.requires.words.1 c.requires.words.2 h c.load-message.ensures.loaded;
    }

pub append-requires : goal.append-requires
append-requires c = record {
  words =
      let l = c.loop-k in
      let room = c.requires.words.3 in
      (l.invariant.2, omega (arith, c.loop-k-test.true, l.invariant.1, room), c.raised_message.ensures.room);
}

pub loop-k-preserved : goal.loop-k-preserved
loop-k-preserved c =
    let l = c.loop-k in
    let h : l.k < length (decode c.args.second.now).messages = omega (arith, c.loop-k-test.true, l.invariant.1) in
    let message = is_message _ _ _ _ c.requires.words.1 c.requires.words.2 h c.load-message.ensures.loaded in (
      search rules,
      l.invariant.1,
      c.append.auto.words ∙ l.invariant.2,
      append_more _ _ _ _ _ _ _ _ h (c.raised_message.ensures.message ∙ ap (raised_message c.args.n) message)
          c.append.ensures.ring l.invariant.3,
    )

pub shape_of-joined : goal.shape_of-joined
shape_of-joined c =
    c.loop-k.invariant.2 ∙ sym c.requires.words.0

pub returns : goal.returns
returns c = record {
  ring =
      let l = c.loop-k in
      let ms = (decode c.args.second.now).messages in
      let e : l.k ≡ length ms = omega (arith, l.invariant.1) in
      append_all _ _ _ _ ms e l.invariant.3;
}
