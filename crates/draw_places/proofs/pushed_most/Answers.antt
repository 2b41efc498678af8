use Rattle.std.proofs.Common.{unwrap_or, ap, sym, ◌∙◌, rules}
use Rattle.std.proofs.lemmas.Iterator.{YieldsList-from_slice, YieldsList-from_map}
use Rattle.std.proofs.lemmas.Iterator.Consumers.{reduce_from_yields_List}
use Rattle.std.proofs.lemmas.List.Folds.{max_of_map}
use Rattle.draw_places.specs.Places.{pushed_by}
use Rattle.draw_places.proofs.Laws.{most_folded}
use Rattle.draw_places.proofs.pushed_most.Goals as goal

pub returns-clause-value : goal.returns-clause-value
returns-clause-value c =
    let keys = c.args.keys.now in
    let rank = c.args.rank in
    c.unwrap_or.ensures
    ∙ ap (λ o. unwrap_or o 0)
    (reduce_from_yields_List _ c.map.result _ c.max.ensures.ran
    (YieldsList-from_map _ (pushed_by keys rank) (YieldsList-from_slice keys cc) c.map.ensures.closure (λ x b q k. search rules)))
    ∙ max_of_map (pushed_by keys rank) keys
    ∙ sym (most_folded keys rank)
