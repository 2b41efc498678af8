use mathlib.Core.Path.{sym, ap, ◌∙◌}
use Prim.Native.Nat.{ℕ, ◌+◌}
use native.Mathlib.Omega.{arith}
use lib.ListN.{length-take, length-drop}
use Rattle.bench_lines.proofs.Puts.{put_as, put_more}
use Rattle.bench_script.proofs.Chunks.{rest_from}
use Rattle.text_describe.proofs.Described.{words_refused, words_opened}
use borrow.Author.Rules.{rules}
use Rattle.text_describe.proofs.put_first.Goals as goal

pub returns-then-not-opens : goal.returns-then-not-opens
returns-then-not-opens c =
    let refused = sym c.opens.ensures.value ∙ c.if-not-opens.true in
    record {
      bytes = put_as c.put_words.ensures.bytes (words_refused _ refused);
      opened = sym refused;
      end = omega (arith, c.put_words.ensures.end);
    }

pub put_opening-first-requires : goal.put_opening-first-requires
put_opening-first-requires c = record {
  opens = sym c.opens.ensures.value ∙ c.if-not-opens.false;
  room = search rules;
}

pub nodes-events-requires : goal.nodes-events-requires
nodes-events-requires c = record { opens = sym c.opens.ensures.value ∙ c.if-not-opens.false }

pub returns : goal.returns
returns c =
    let opened = sym c.opens.ensures.value ∙ c.if-not-opens.false in
    let script = c.args.script.now in
    let rest = rest_from script (ap (λ (n : ℕ). 1 + n) c.nodes-events.ensures.value) in record {
      bytes = put_as (put_more c.put_opening-first.ensures.bytes c.put_words-2.ensures.bytes) (words_opened script opened rest);
      opened = sym opened;
      end = omega (arith, c.put_opening-first.ensures.end, simp (length-take, length-drop) at c.put_words-2.ensures.end);
    }
