use mathlib.Core.Path.{◌≡◌, ap, ◌∙◌}
use native.Mathlib.Omega.{arith}
use lib.ListN.{length}
use borrow.Author.Tests.{lt-ltb, le-ltb}
use Rattle.model.specs.Leafset.{size}
use Rattle.model.specs.Words.{decode_table}
use Rattle.answers.proofs.Valid.{long, few}
use Rattle.call_route.proofs.Hops.{there_within, nobody_there, next_is, goes_on_is}
use Rattle.call_route.proofs.next.Goals as goal

pub load-own-requires : goal.load-own-requires
load-own-requires c = record {
  words =
      let n : length c.args.keys.now ≡ size (decode_table c.args.words.now) = ap length c.requires.ready.keys_are in
      (long _ c.requires.ready.reads, n, omega (arith, few _ c.requires.ready.reads), c.requires.node);
}

pub nearest-requires : goal.nearest-requires
nearest-requires c = record { members = there_within c.requires.ready 0 _ c.load-own.ensures.loaded }

pub returns-in_err-y : goal.returns-in_err-y
returns-in_err-y c = record {
  next = rw c.from_residual.ensures (nobody_there c.requires.ready _ _ c.load-own.ensures.loaded c.in_err-y.ensures.nearest);
}

pub bounds-keys-index : goal.bounds-keys-index
bounds-keys-index c =
    rw c.index.ensures.value (there_within c.requires.ready 0 _ c.load-own.ensures.loaded _ c.in_ok-y.ensures.nearest.member)

pub returns-then-there-here : goal.returns-then-there-here
returns-then-there-here c = record {
  next =
      let l = c.in_ok-y.ensures.nearest in
      let far = rw c.index.ensures.value at c.span-there.ensures.value in
      let own = rw c.index-2.ensures.value at c.span-here.ensures.value in (
        goes_on_is c.requires.ready c.args.key.0 c.args.x.0 c.load-own.ensures.loaded l far own ∙ lt-ltb _ _ c.if-there-here.true,
        next_is c.requires.ready c.args.key.0 c.args.x.0 c.load-own.ensures.loaded l far own,
      );
}

pub returns-else-there-here : goal.returns-else-there-here
returns-else-there-here c = record {
  next =
      let l = c.in_ok-y.ensures.nearest in
      let far = rw c.index.ensures.value at c.span-there.ensures.value in
      let own = rw c.index-2.ensures.value at c.span-here.ensures.value in
      goes_on_is c.requires.ready c.args.key.0 c.args.x.0 c.load-own.ensures.loaded l far own ∙ le-ltb _ _ c.if-there-here.false;
}
