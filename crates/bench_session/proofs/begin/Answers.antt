use mathlib.Core.Path.{sym, ap, ◌∙◌}
use Prim.Native.Nat.{ℕ, ◌+◌}
use native.Mathlib.Omega.{arith}
use lib.ListN.{length-take, length-drop}
use borrow.Author.Rules.{rules}
use Rattle.bench_script.proofs.Chunks.{rest_from}
use Rattle.bench_open.proofs.Opened.{ring_opened, nodes_are}
use Rattle.bench_session.proofs.Sessions.{refused_script, first_played}
use Rattle.bench_session.proofs.begin.Goals as goal

pub returns-then-is_err : goal.returns-then-is_err
returns-then-is_err c = record {
  turn =
      refused_script _ _ c.open_script-opened.result c.open_script-opened.ensures.written (c.from.ensures ∙ c.number.ensures.answer) _
      (sym c.is_err.ensures.value ∙ c.if-is_err.true)
      c.requires.words.1
      c.put_three.ensures.bytes;
}

pub slice_bounds-play-count : goal.slice_bounds-play-count
slice_bounds-play-count c =
    let o = ring_opened _ _ c.open_script-opened.result c.open_script-opened.ensures.written (sym c.is_err.ensures.value ∙ c.if-is_err.false) in
    omega (arith, o.enough, nodes_are o, c.nodes-first.ensures.value)

pub slice_bounds-play-start : goal.slice_bounds-play-start
slice_bounds-play-start c =
    let o = ring_opened _ _ c.open_script-opened.result c.open_script-opened.ensures.written (sym c.is_err.ensures.value ∙ c.if-is_err.false) in
    omega (arith, o.enough, nodes_are o, c.nodes-first.ensures.value)

pub play-requires : goal.play-requires
play-requires c = record {
  ring =
      let o = ring_opened _ _ c.open_script-opened.result c.open_script-opened.ensures.written (sym c.is_err.ensures.value ∙ c.if-is_err.false) in
      (simp (length-take, length-drop) (omega arith), o.reads, search rules, search rules);
}

pub returns : goal.returns
returns c = record {
  turn =
      let o = ring_opened _ _ c.open_script-opened.result c.open_script-opened.ensures.written (sym c.is_err.ensures.value ∙ c.if-is_err.false) in
      let part = rest_from c.args.script.now (ap (λ (n : ℕ). 1 + n) c.nodes-first.ensures.value) in
      first_played o _ part c.play.ensures.turn;
}
