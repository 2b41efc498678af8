-- A change is written part by part, each part a change of the ring that the words encode; `whole` joins them.
use mathlib.Core.Path.{refl, sym, ap, subst, ◌∙◌}
use mathlib.Core.List.{List}
use Prim.Native.Nat.{ℕ}
use native.Mathlib.Omega.{arith}
use borrow.Author.Rules.{rules}
use Rattle.model.specs.Words.{encode, decode}
use Rattle.ring_head.proofs.ReadRing.{read_is}
use Rattle.answers.proofs.Valid.{long, few, room}
use Rattle.event_act.specs.Changes.{TakenLow}
use Rattle.event_act.proofs.Written.{node_written, first_room, second_room, whole}
use Rattle.event_act.proofs.write.write.Goals as goal

pub nodes-n-requires : goal.nodes-n-requires
nodes-n-requires c = record { length = long _ c.requires.change.fits.reads }

pub messages-m-requires : goal.messages-m-requires
messages-m-requires c = record { length = long _ c.requires.change.fits.reads }

pub take_out-left-requires : goal.take_out-left-requires
take_out-left-requires c = record {
  words =
      let ws : List ℕ = c.args.words.now in
      let messages = c.messages-m.ensures.value in (
        long ws c.requires.change.fits.reads,
        omega (arith, messages, room ws c.requires.change.fits.reads),
        subst (λ (m : ℕ). TakenLow m c.args.change.taken) (sym messages) c.requires.change.fits.taken_low,
      );
}

pub write_node-requires : goal.write_node-requires
write_node-requires c = record {
  words =
      let ws : List ℕ = c.args.words.now in
      let nodes = c.nodes-n.ensures.value in
      let words = long ws c.requires.change.fits.reads in (
        search rules,
        omega (arith, nodes, few ws c.requires.change.fits.reads),
        omega (arith, nodes, c.requires.change.fits.member),
        c.requires.change.fits.time_room,
        c.requires.change.fits.own_room,
      );
}

pub send-sent-requires : goal.send-sent-requires
send-sent-requires c =
    let ws : List ℕ = c.args.words.now in
    let words = long ws c.requires.change.fits.reads in
    let ring = read_is ws c.requires.change.fits.reads _ _ c.nodes-n.ensures.value c.messages-m.ensures.value in
    let out = c.take_out-left.ensures.ring (decode ws) _ ring in record {
      words = (
        search rules,
        omega (arith, few ws c.requires.change.fits.reads, c.requires.change.fits.member),
        c.requires.change.fits.time_room,
        first_room ws c.args.change c.requires.change out,
      );
      sends = (c.requires.change.fits.own_room, c.requires.change.fits.first_fits);
    }

pub send-requires : goal.send-requires
send-requires c =
    let ws : List ℕ = c.args.words.now in
    let words = long ws c.requires.change.fits.reads in
    let ring = read_is ws c.requires.change.fits.reads _ _ c.nodes-n.ensures.value c.messages-m.ensures.value in
    let out = c.take_out-left.ensures.ring (decode ws) _ ring in
    let node = node_written ws c.args.change c.requires.change (c.write_node.ensures.ring _ _ out) refl in
    let first = c.send-sent.ensures.ring _ _ node in record {
      words = (
        search rules,
        omega (arith, few ws c.requires.change.fits.reads, c.requires.change.fits.member),
        c.requires.change.fits.time_room,
        second_room ws c.args.change c.requires.change first,
      );
      sends = (c.requires.change.fits.own_room, c.requires.change.fits.second_fits);
    }

pub returns : goal.returns
returns c = record {
  words =
      let ws : List ℕ = c.args.words.now in
      let ring = read_is ws c.requires.change.fits.reads _ _ c.nodes-n.ensures.value c.messages-m.ensures.value in
      let out = c.take_out-left.ensures.ring (decode ws) _ ring in
      let node = node_written ws c.args.change c.requires.change (c.write_node.ensures.ring _ _ out) refl in
      let first = c.send-sent.ensures.ring _ _ node in
      (c.send.ensures.ring _ _ first).words ∙ ap encode (whole ws c.args.change c.requires.change);
}
