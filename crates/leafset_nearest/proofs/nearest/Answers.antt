use Rattle.std.proofs.Common.{get_or, sym, subst, length, rules, tests}
use Rattle.model.specs.Sets.{of_bits}
use Rattle.leafset_nearest.specs.Span.{span_to, Nearest}
use Rattle.leafset_nearest.proofs.MinBy.{callable, found_nearest}
use Rattle.leafset_nearest.proofs.Spans.{beyond, span<}
use Rattle.sets.specs.Within.{Within}
use Rattle.leafset_nearest.proofs.nearest.Goals as goal

pub min_by_key-requires-clause-callable : goal.min_by_key-requires-clause-callable
min_by_key-requires-clause-callable c =
    let a = c.args in
    callable _ _ (length a.keys.now) beyond (span_to a.way a.from.0 a.keys.now)
    (λ y h p e. let k = rw (← e) at h in
    search (rules, tests)) (λ y k h e. search (rules, tests)) (λ y. span< a.way a.from.0 (get_or a.keys.now y 0)) c.members.result
    (subst (Within (length a.keys.now)) (sym c.members.ensures.all) c.requires.members)

pub returns : goal.returns
returns c = record {
  nearest =
      let a = c.args in
      subst (λ set. Nearest (of_bits set) (span_to a.way a.from.0 a.keys.now) c.min_by_key.result) c.members.ensures.all
      (found_nearest _ _ (length a.keys.now) beyond (span_to a.way a.from.0 a.keys.now)
      (λ y h p e. let k = rw (← e) at h in
      search (rules, tests)) (λ y k h e. search (rules, tests))
      (λ y. span< a.way a.from.0 (get_or a.keys.now y 0)) c.members.result c.min_by_key.result c.min_by_key.ensures.ran);
}
