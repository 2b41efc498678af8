use mathlib.Core.Path.{refl, ap, ◌∙◌}
use native.Mathlib.Omega.{arith}
use Rattle.bench_lines.proofs.Puts.{put_as, put_more}
use Rattle.model.specs.Ring.{Ring, is_running}
use Rattle.audit_event.proofs.Tells.{kept_after, around, nodes_are, grouped_after, lines_are}
use Rattle.audit_event.proofs.report.Goals as goal

pub tell-told-requires : goal.tell-told-requires
tell-told-requires c =
    record {
      groups = (c.requires.lists.groups, c.look-view.ensures.groups.long, c.look-view.ensures.nodes.1);
      lists = (c.requires.lists.listed, c.requires.ring.1);
      room = omega (arith, c.requires.room, c.put_event-first.ensures.end, (c.put_event-first.ensures.bytes _ c.look-view.ensures.sight).long);
    }

pub returns : goal.returns
returns c =
    record {
      audits = λ s k g.
          let groups = around s _ k g c.look-view.ensures.groups in
          let parted = c.tell-told.ensures.told s _
          record {
            groups = groups;
            parted = c.torn-torn.ensures.torn _ _ groups (λ x. c.look-view.ensures.running x ∙ ap (λ (q : Ring). is_running q x) k.ring);
            nodes = nodes_are s _ k c.look-view.ensures.nodes.0;
          } k.account k.lists in
          record {
            kept = kept_after s _ _ _ _ c.look-view.ensures.point parted.1 c.settled-log.ensures.value c.settled-log.ensures.bounds k refl;
            grouped = grouped_after s _ k g c.look-view.ensures.groups;
            put = put_as (put_more (c.put_event-first.ensures.bytes _ c.look-view.ensures.sight) parted.0) (lines_are s _ k);
          };
      end = (
        omega (arith, c.tell-told.ensures.bounds.1, c.put_event-first.ensures.end),
        record { listed = c.requires.lists.listed; groups = c.look-view.ensures.groups.long },
      );
    }
