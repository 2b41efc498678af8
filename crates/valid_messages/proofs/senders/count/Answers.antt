use Rattle.std.proofs.Common.{◌≡◌, ℕ, ◌<◌, sym, ◌∙◌, arith, rules}
use Rattle.model.specs.Fields.{bits}
use Rattle.model.proofs.Fields.{bits<}
use Rattle.valid_messages.proofs.Counted.{count_high, one_counted}
use Rattle.valid_messages.proofs.senders.count.Goals as goal

pub loop-k-init : goal.loop-k-init
loop-k-init c = (c.requires.words.1, c.requires.counts)

-- the sender's number has six bits
low : (x w : ℕ) → x ≡ bits 4 6 w → x < 64
low x w e = rw e (bits< 4 6 w)

pub bounds-counts-x : goal.bounds-counts-x
bounds-counts-x c = rw c.loop-k.invariant.1.long (low _ _ (c.index-x.ensures.value ∙ c.sender.ensures.value))

pub overflow_add-counts : goal.overflow_add-counts
overflow_add-counts c =
    let l = c.loop-k in
    let high = count_high _ _ l.k l.counts l.invariant.1 _ (low _ _ (c.index-x.ensures.value ∙ c.sender.ensures.value)) in
    record { fits = omega (arith, high, l.invariant.0, c.requires.words.2) }

pub bounds-counts-x-in-loop-k : goal.bounds-counts-x-in-loop-k
bounds-counts-x-in-loop-k c = rw c.loop-k.invariant.1.long (low _ _ (c.index-x.ensures.value ∙ c.sender.ensures.value))

pub loop-k-preserved : goal.loop-k-preserved
loop-k-preserved c =
    let l = c.loop-k in
    let sender = c.index-x.ensures.value ∙ c.sender.ensures.value in
    (search rules, one_counted _ _ l.k l.counts l.invariant.1 _ (low _ _ sender) sender)

pub shape_of-counts : goal.shape_of-counts
shape_of-counts c = c.loop-k.invariant.1.long ∙ sym c.requires.counts.long

pub returns : goal.returns
returns c = record {
  counts =
      let done : c.loop-k.k ≡ c.args.to = omega arith in
      rw done at c.loop-k.invariant.1;
}
