use mathlib.Core.Path.{◌∙◌}
use native.Mathlib.Omega.{arith}
use Rattle.draw_ring.proofs.put_figure.Goals as goal

pub put_links-links-requires : goal.put_links-links-requires
put_links-links-requires c = record {
  scene = (
    c.requires.scene.0,
    c.requires.scene.1,
    c.requires.scene.2,
    omega (
      arith,
      c.requires.scene.0.few,
      c.requires.scene.3,
      c.put_head-head.ensures.room.long,
      c.put_head-head.ensures.room.high,
      c.put_circle-circle.ensures.room.long,
      c.put_circle-circle.ensures.room.high,
      c.put_leads-leads.ensures.room.long,
      c.put_leads-leads.ensures.room.high,
    ),
  );
}

pub put_discs-requires : goal.put_discs-requires
put_discs-requires c = record {
  scene = (
    c.requires.scene.0,
    c.requires.scene.1,
    c.requires.scene.2,
    omega (
      arith,
      c.requires.scene.0.few,
      c.requires.scene.3,
      c.put_head-head.ensures.room.long,
      c.put_head-head.ensures.room.high,
      c.put_circle-circle.ensures.room.long,
      c.put_circle-circle.ensures.room.high,
      c.put_leads-leads.ensures.room.long,
      c.put_leads-leads.ensures.room.high,
      c.put_links-links.ensures.room.long,
      c.put_links-links.ensures.room.high,
    ),
  );
}

pub returns : goal.returns
returns c = record {
  room =
      let scene = c.requires.scene.0 in
      record {
        long =
            c.put_discs.ensures.room.long ∙ c.put_links-links.ensures.room.long ∙ c.put_leads-leads.ensures.room.long
            ∙ c.put_circle-circle.ensures.room.long ∙ c.put_head-head.ensures.room.long;
        high = omega (
          arith,
          scene.few,
          c.put_head-head.ensures.room.high,
          c.put_circle-circle.ensures.room.high,
          c.put_leads-leads.ensures.room.high,
          c.put_links-links.ensures.room.high,
          c.put_discs.ensures.room.high,
        );
      };
}
