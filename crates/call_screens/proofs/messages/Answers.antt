use mathlib.Core.Path.{sym}
use mathlib.Core.List.{List}
use Prim.Native.Nat.{ℕ}
use native.Mathlib.Omega.{arith}
use Rattle.model.proofs.Decoded.{reads_well}
use Rattle.answers.proofs.Valid.{long}
use Rattle.model.proofs.Given.{refuses_with}
use Rattle.call_refusals.proofs.Refused.{ring_reads}
use Rattle.call_screens.proofs.Shown.{messages_refused, messages_given}
use Rattle.call_screens.proofs.messages.Goals as goal

pub returns-in_default : goal.returns-in_default
returns-in_default c = record { part = messages_refused c.args.words.now (refuses_with _ c.in_default.ensures.answer) }

pub messages-requires : goal.messages-requires
messages-requires c = record {
  length =
      let ws : List ℕ = c.args.words.now in
      long ws (ring_reads ws (sym c.in-Ok.ensures.answer));
}

pub slice_bounds-result-end-2 : goal.slice_bounds-result-end-2
slice_bounds-result-end-2 c =
    let ws : List ℕ = c.args.words.now in
    let reads = ring_reads ws (sym c.in-Ok.ensures.answer) in
    omega (arith, long ws reads, (reads_well ws reads).count_high, c.messages.ensures.value)

pub returns : goal.returns
returns c = record {
  part =
      let ok = sym c.in-Ok.ensures.answer in
      messages_given c.args.words.now ok c.messages.ensures.value;
}
