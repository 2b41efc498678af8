use Rattle.draw_circle.specs.Links.{first_half, half_of}
use Rattle.draw_circle.proofs.curve.half_at.Goals as goal

pub returns : goal.returns
unfolding half_of first_half
returns c = record {
  value =
      rw (
        c.div-3.ensures,
        c.add-6.ensures,
        c.add-5.ensures,
        c.mul-3.ensures,
        c.add-4.ensures,
        c.mul-2.ensures,
        c.div-2.ensures,
        c.add-3.ensures,
        c.add-2.ensures,
        c.mul.ensures,
        c.div.ensures,
        c.add.ensures,
        c.point_at-t.ensures.value,
        c.point_at-s.ensures.value,
        c.point_at-q.ensures.value,
        c.point_at-p.ensures.value,
        c.depth-depth.ensures.value,
        c.apart.ensures.value,
      );
}
