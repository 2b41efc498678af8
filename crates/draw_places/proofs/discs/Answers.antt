use Rattle.std.proofs.Common.{rules, ◌≡◌, ◌<◌, length, arith}
use Rattle.draw_places.specs.Places.{disc_of}
use Rattle.draw_places.proofs.Laws.{each_made}
use Rattle.draw_places.proofs.discs.Goals as goal

pub returns-clause-angles : goal.returns-clause-angles
unfolding disc_of
returns-clause-angles c =
    let keys = c.args.keys.now in
    let back = c.all_from_behind-behind.ensures.keys in
    (λ x h. each_made _ _ (λ z y. z < length keys → y ≡ disc_of keys z) (λ z y q k. search rules) _ 64 c.from_fn.ensures.items x (omega arith) h)
