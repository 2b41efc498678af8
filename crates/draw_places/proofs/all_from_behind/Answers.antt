use Rattle.std.proofs.Common.{rules, ◌≡◌, ◌<◌, length, get_or, arith}
use Rattle.draw_places.specs.Places.{behind}
use Rattle.draw_places.proofs.Laws.{mapped, each_made}
use Rattle.draw_places.proofs.all_from_behind.Goals as goal

pub returns-clause-keys : goal.returns-clause-keys
returns-clause-keys c =
    let keys = c.args.keys.now in
    mapped behind keys _ (search rules)
    (λ x h. each_made _ _ (λ z y. z < length keys → y ≡ behind (get_or keys z 0)) (λ z y q k. search rules) _ 64 c.from_fn.ensures.items x (omega arith) h)
