use mathlib.Core.Path.{ap, subst}
use Prim.Native.Nat.{ℕ, ◌+◌}
use native.Mathlib.Omega.{arith}
use borrow.Author.Rules.{rules}
use lib.ListN.{length, length-take, length-drop}
use Rattle.bench_lines.proofs.Puts.{put_as}
use Rattle.bench_script.proofs.Chunks.{rest_from, short_tail}
use Rattle.audit_account.specs.Whole.{tail_line}
use Rattle.audit_lines.specs.Seen.{Sees}
use Rattle.audit_session.proofs.Turning.{words_end, no_tail_line}
use Rattle.audit_session.proofs.turn.put_tail.Goals as goal

pub returns-then-start-bytes : goal.returns-then-start-bytes
returns-then-start-bytes c = record {
  bytes = λ s ring count. no_tail_line s _ _ _ c.if-start-bytes.true;
  end = search rules;
}

pub put_tail_line-requires : goal.put_tail_line-requires
put_tail_line-requires c = record {
  room =
      let bytes = c.args.bytes.now in
      let tail = ap length (rest_from bytes (words_end bytes)) in
      (search rules, omega (arith, tail, short_tail bytes), simp (length-take, length-drop) (omega (arith, c.if-start-bytes.false)));
}

pub returns : goal.returns
returns c =
    let bytes = c.args.bytes.now in
    record {
      bytes = λ s ring count.
          put_as (c.put_tail_line.ensures.bytes s (subst (Sees _) ring c.see-sight.ensures.sight) (ap (λ (k : ℕ). k + 1) count))
          (ap (tail_line s) (rest_from bytes (words_end bytes)));
      end = c.put_tail_line.ensures.end;
    }
