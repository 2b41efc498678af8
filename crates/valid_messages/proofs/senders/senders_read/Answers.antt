-- Few messages in all, few of each sender before the last ones, or all of them counted.
use mathlib.Core.Path.{sym, ◌∙◌}
use Prim.Native.Nat.{zero-le, ◌-◌}
use native.Mathlib.Omega.{arith}
use Rattle.valid_messages.proofs.Counted.{no_counts, few_read, few_before, counts_read}
use Rattle.valid_messages.proofs.senders.senders_read.Goals as goal

pub returns-then-m-le-UNCOUNTED : goal.returns-then-m-le-UNCOUNTED
returns-then-m-le-UNCOUNTED c = record { value = λ t e. let a = c.args in few_read a.words.now a.base t a.m c.if-m-le-UNCOUNTED.true }

pub count-requires : goal.count-requires
count-requires c =
    record {
      words = (omega (arith, c.requires.words.0), zero-le, omega (arith, c.requires.words.2));
      counts = no_counts _ _;
    }

pub returns-then-none_above : goal.returns-then-none_above
returns-then-none_above c = record {
  value = λ t e.
      few_before c.args.words.now c.args.base t (c.args.m - 224) c.args.m _
      (omega (arith, c.requires.words.1, e)) (omega arith) (omega (arith, c.if-m-le-UNCOUNTED.false))
      c.count.ensures.counts
      (rw e (sym c.none_above.ensures.value ∙ c.if-none_above.true));
}

pub returns : goal.returns
returns c = record {
  value = λ t e.
      c.none_above-2.ensures.value
      ∙ rw (sym e) (counts_read c.args.words.now c.args.base t c.args.m _ (omega (arith, c.requires.words.1, e)) c.count-2.ensures.counts);
}
