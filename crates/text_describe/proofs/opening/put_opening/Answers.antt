use mathlib.Core.Path.{sym}
use native.Mathlib.Omega.{arith}
use lib.ListN.{length-take}
use Rattle.bench_lines.proofs.Puts.{put_as, put_more}
use Rattle.text_describe.proofs.Openings.{words_enough, few_nodes, opening_as}
use Rattle.text_describe.proofs.opening.put_opening.Goals as goal

pub bounds-script-0 : goal.bounds-script-0
bounds-script-0 c = omega (arith, words_enough c.args.script.now c.requires.opens)

pub keys-keys-requires : goal.keys-keys-requires
keys-keys-requires c =
    let enough = words_enough c.args.script.now c.requires.opens in
    let few = few_nodes c.args.script.now c.requires.opens in
    record {
      lengths = omega (arith, c.nodes-n.ensures.value);
      bounds = omega (arith, c.nodes-n.ensures.value);
    }

pub slice_bounds-keys-end : goal.slice_bounds-keys-end
slice_bounds-keys-end c =
    let few = few_nodes c.args.script.now c.requires.opens in
    omega (arith, c.nodes-n.ensures.value, c.keys-keys.ensures.places)

pub slice_bounds-put_keys-end : goal.slice_bounds-put_keys-end
slice_bounds-put_keys-end c =
    let few = few_nodes c.args.script.now c.requires.opens in
    sym (simp length-take (omega (arith, c.nodes-n.ensures.value, c.keys-keys.ensures.places)))

pub put_keys-requires : goal.put_keys-requires
put_keys-requires c = record {
  room =
      let few = few_nodes c.args.script.now c.requires.opens in
      simp length-take
      (omega (arith, c.nodes-n.ensures.value, c.keys-keys.ensures.places, c.put_sides-first.ensures.end, c.put_sides-first.ensures.bytes.long));
}

pub returns : goal.returns
returns c =
    let script = c.args.script.now in
    let few = few_nodes script c.requires.opens in record {
      bytes = put_as (put_more c.put_sides-first.ensures.bytes c.put_keys.ensures.bytes)
          (opening_as script c.sides.ensures.value c.nodes-n.ensures.value c.keys-keys.ensures.keys);
      end = omega (arith, c.nodes-n.ensures.value, c.keys-keys.ensures.places, c.put_sides-first.ensures.end, simp length-take at c.put_keys.ensures.end);
    }
