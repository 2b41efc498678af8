use mathlib.Core.Path.{◌≡◌}
use native.Mathlib.Omega.{arith}
use borrow.Author.Rules.{rules}
use Rattle.model.specs.Listener.{Tick, notices_of, listener_of}
use Rattle.listener.proofs.Records.{room, notice_bit, none_yet, more_notices, notices_fit, counting_none, counted_silence, counted_notice, counting_more, ticks}
use Rattle.listener.proofs.tick.Goals as goal

pub loop-s-init : goal.loop-s-init
loop-s-init c =
    let q = c.args.listener.now in
    record { notices = none_yet (notices_of (listener_of q) Tick); silences = counting_none q (search rules) }

pub overflow_add-notices : goal.overflow_add-notices
overflow_add-notices c =
    let l = c.loop-s in
    let q = c.args.listener.now in
    let notice = counted_notice q l.invariant.silences c.has-is_watched.ensures.value c.count.ensures.reached in
    record {
      fits = notices_fit (notices_of (listener_of q) Tick) l.s l.invariant.notices (rw notice at (notice_bit _ l.s (search rules) c.from.ensures))
          (search rules);
    }

pub loop-s-preserved : goal.loop-s-preserved
loop-s-preserved c =
    let l = c.loop-s in
    let q = c.args.listener.now in
    let notice = counted_notice q l.invariant.silences c.has-is_watched.ensures.value c.count.ensures.reached in
    record {
      notices = more_notices (notices_of (listener_of q) Tick) l.s l.invariant.notices (rw notice at (notice_bit _ l.s (search rules) c.from.ensures));
      silences = counting_more q l.invariant.silences (search rules)
          (counted_silence q l.invariant.silences c.has-is_watched.ensures.value c.count.ensures.silence);
    }

pub returns-clause-listener : goal.returns-clause-listener
returns-clause-listener c =
    let l = c.loop-s in
    let q = c.args.listener.now in
    let held = room q (search rules) (search rules) (search rules) in
    let end : l.s ≡ 64 = omega arith in
    ticks q held (rw end at l.invariant.silences)
