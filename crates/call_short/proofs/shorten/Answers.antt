-- 1 and 6 of the ring; then 20; then the runs are copied.
use mathlib.Core.Path.{refl, sym, ap, ◌∙◌}
use native.Mathlib.Omega.{arith}
use borrow.Author.Rules.{rules}
use Rattle.model.proofs.Given.{passed_on, refuses_with}
use Rattle.call_short.specs.Shortening.{shortened}
use Rattle.answers.proofs.Valid.{long}
use Rattle.call_refusals.proofs.Refused.{ring_reads}
use Rattle.call_short.proofs.Editions.{known, lengths, shorten_refused, too_small_lem, shortens}
use Rattle.call_short.proofs.shorten.Goals as goal

pub returns-in_err-of_words : goal.returns-in_err-of_words
returns-in_err-of_words c = record {
  short =
      let a = c.args in
      let number = c.in_err-of_words.ensures.answer in
      ap (λ r. shortened r a.short.now) (passed_on _ _ c.from_residual.ensures.1)
      ∙ shorten_refused a.words.now a.short.now number (refuses_with _ number);
}

pub nodes-n-requires : goal.nodes-n-requires
nodes-n-requires c = record {
  length =
      let ok = sym c.in_ok-of_words.ensures.answer in
      long _ (ring_reads c.args.words.now ok);
}

pub messages-m-requires : goal.messages-m-requires
messages-m-requires c = record {
  length =
      let ok = sym c.in_ok-of_words.ensures.answer in
      long _ (ring_reads c.args.words.now ok);
}

pub words_of-count-requires : goal.words_of-count-requires
words_of-count-requires c = record {
  bounds =
      let ok = sym c.in_ok-of_words.ensures.answer in
      let k = known c.args.words.now ok c.nodes-n.ensures.value c.messages-m.ensures.value in
      (k.few, k.many);
}

pub returns-then-short-count : goal.returns-then-short-count
returns-then-short-count c = record {
  short =
      let a = c.args in
      let ok = sym c.in_ok-of_words.ensures.answer in
      let k = known a.words.now ok c.nodes-n.ensures.value c.messages-m.ensures.value in
      too_small_lem a.words.now a.short.now ok (omega (arith, k.counted, c.words_of-count.ensures.value));
}

pub shorten-requires : goal.shorten-requires
shorten-requires c = record {
  words =
      let a = c.args in
      let ok = sym c.in_ok-of_words.ensures.answer in
      let k = known a.words.now ok c.nodes-n.ensures.value c.messages-m.ensures.value in
      let end = lengths c.nodes-n.result c.messages-m.result in
      (k.long, k.few, k.some_node, k.many, omega (arith, end, c.words_of-count.ensures.value));
}

pub returns : goal.returns
returns c = record {
  short =
      let a = c.args in
      let ok = sym c.in_ok-of_words.ensures.answer in
      let k = known a.words.now ok c.nodes-n.ensures.value c.messages-m.ensures.value in
      let count = c.words_of-count.ensures.value in
      let end = lengths c.nodes-n.result c.messages-m.result in
      shortens a.words.now a.short.now ok refl (count ∙ sym k.counted) (end ∙ sym k.counted) (search rules)
      (c.shorten.ensures.short k.size_is k.count_is);
}
