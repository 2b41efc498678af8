use borrow.Author.Rules.{rules}
use Rattle.bench_lines.proofs.Puts.{put_as, put_more}
use Rattle.bench_report.proofs.Reports.{long, few, end_of_ring}
use Rattle.bench_report.proofs.put_end.Goals as goal

pub nodes-n-requires : goal.nodes-n-requires
nodes-n-requires c = record { length = long _ c.requires.ring }

pub put_nodes-end-requires : goal.put_nodes-end-requires
put_nodes-end-requires c = record {
  words =
      let h = few _ c.requires.ring in
      (long _ c.requires.ring, c.nodes-n.ensures.value, search rules, search rules);
}

pub groups-requires : goal.groups-requires
groups-requires c = record {
  words =
      let h = few _ c.requires.ring in
      (long _ c.requires.ring, c.nodes-n.ensures.value, search rules);
}

pub put_groups-requires : goal.put_groups-requires
put_groups-requires c = record {
  room =
      let h = few _ c.requires.ring in
      search rules;
}

pub returns : goal.returns
returns c =
    let h = few _ c.requires.ring in record {
      bytes = put_as (put_more c.put_nodes-end.ensures.bytes c.put_groups.ensures.bytes)
          (end_of_ring _ c.requires.ring c.nodes-n.ensures.value c.groups.ensures.value);
      end = search rules;
    }
