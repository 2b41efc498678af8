use mathlib.Core.Path.{sym, ◌∙◌}
use Prim.Native.Nat.{ℕ, ◌<◌}
use native.Mathlib.Omega.{arith}
use lib.ListN.{length-set}
use borrow.Author.Rules.{rules}
use Rattle.std.proofs.lemmas.List.Edits.{fill_by_more}
use Rattle.model.specs.Leafset.{size, key}
use Rattle.model.specs.Words.{decode_table}
use Rattle.ring_head.proofs.Decoded.{key_read}
use Rattle.ring_head.proofs.AllKeys.{keys_all, keys_tabulated}
use Rattle.ring_head.proofs.keys.Goals as goal

pub loop-x-preserved : goal.loop-x-preserved
loop-x-preserved c =
    let l = c.loop-x in
    let h : l.x < size (decode_table c.args.words.now) = omega arith in
    let e = c.key.ensures.value ∙ sym (key_read _ _ h) in (
      search rules,
      length-set l.key-items l.x c.key.result.0 ∙ l.invariant.1,
      rw e (fill_by_more (key (decode_table c.args.words.now)) l.key-items l.x 0 (omega arith) l.invariant.2),
    )

pub returns-clause-keys : goal.returns-clause-keys
returns-clause-keys c =
    let l = c.loop-x in
    let each = λ (k : ℕ) (h : k < c.args.n). l.invariant.2 k (omega arith) in (
      keys_all c.args.words.now c.args.n l.key-items c.requires.words.1 c.requires.words.2 l.invariant.1 each,
      keys_tabulated c.args.words.now c.args.n l.key-items c.requires.words.1 c.requires.words.2 l.invariant.1 each,
    )
