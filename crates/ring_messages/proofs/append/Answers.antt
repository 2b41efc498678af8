use Prim.Native.Nat.{◌^◌, ◌<◌, ◌+◌, ◌*◌, ◌≤◌}
use native.Mathlib.Omega.{arith}
use lib.ListN.{length, length-set}
use Rattle.ring_ranges.proofs.Patches.{patched_five}
use Rattle.ring_messages.proofs.Queue.{five_words, appended}
use Rattle.ring_messages.proofs.append.Goals as goal

pub bounds-words-at-2 : goal.bounds-words-at-2
bounds-words-at-2 c = simp length-set (omega arith)

pub bounds-words-at-3 : goal.bounds-words-at-3
bounds-words-at-3 c = simp length-set (omega arith)

pub bounds-words-at-4 : goal.bounds-words-at-4
bounds-words-at-4 c = simp length-set (omega arith)

pub bounds-words-at-5 : goal.bounds-words-at-5
bounds-words-at-5 c = simp length-set (omega arith)

pub shape_of-words : goal.shape_of-words
shape_of-words c = simp length-set (omega arith)

pub returns : goal.returns
returns c = record {
  ring =
      λ ρ n is.
      let w : c.args.message.view < 2 ^ 64 = omega arith in
      let v = c.set_count.new.words in
      let h : 8321 + 5 * c.args.m + 5 ≤ length v = omega arith in
      appended ρ _ v _ n _ _ _ c.requires.words.1 is c.set_count.ensures.words
      (patched_five v _ c.new.result.0 c.new-2.result.0 c.view_word.result c.view_word-2.result c.view_word-3.result h)
      (five_words c.args.message _ _ _ _ _ w c.new.ensures.value c.new-2.ensures.value
      c.view_word.ensures.value c.view_word-2.ensures.value c.view_word-3.ensures.value);
}
