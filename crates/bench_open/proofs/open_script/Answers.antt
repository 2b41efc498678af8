use mathlib.Core.Path.{sym, ◌∙◌}
use native.Mathlib.Omega.{arith}
use Rattle.model.specs.declared.refusal.Refusal.TheVariants.{OpeningOutOfRange, BadKey}
use Rattle.bench_open.proofs.Begins.{refused_head, enough, refused_sizes, refused_keys, keys_tested, passed, sizes_read, keys_read, table_read, few}
use Rattle.bench_open.proofs.Begins.{script_refused, script_opened}
use Rattle.bench_open.proofs.open_script.Goals as goal

pub returns-then-not-head_fits : goal.returns-then-not-head_fits
returns-then-not-head_fits c = record {
  written =
      let ws = c.args.script.now in
      script_refused _ ws OpeningOutOfRange (refused_head ws (sym c.head_fits.ensures.value ∙ c.if-not-head_fits.true));
}

pub bounds-script-0 : goal.bounds-script-0
bounds-script-0 c =
    let ws = c.args.script.now in
    let head = sym c.head_fits.ensures.value ∙ c.if-not-head_fits.false in
    let h = enough ws head in
    omega arith

pub returns-then-not-sizes_fit : goal.returns-then-not-sizes_fit
returns-then-not-sizes_fit c = record {
  written =
      let ws = c.args.script.now in
      let head = sym c.head_fits.ensures.value ∙ c.if-not-head_fits.false in
      let sizes = sizes_read ws c.sides-sides.ensures.value c.nodes-n.ensures.value c.sizes_fit.ensures.value ∙ c.if-not-sizes_fit.true in
      script_refused _ ws OpeningOutOfRange (refused_sizes ws head sizes);
}

pub slice_bounds-keys_fit-end : goal.slice_bounds-keys_fit-end
slice_bounds-keys_fit-end c =
    let ws = c.args.script.now in
    let head = sym c.head_fits.ensures.value ∙ c.if-not-head_fits.false in
    omega (arith, c.nodes-n.ensures.value, enough ws head)

pub returns-then-not-keys_fit : goal.returns-then-not-keys_fit
returns-then-not-keys_fit c = record {
  written =
      let ws = c.args.script.now in
      let head = sym c.head_fits.ensures.value ∙ c.if-not-head_fits.false in
      let sizes = sizes_read ws c.sides-sides.ensures.value c.nodes-n.ensures.value c.sizes_fit.ensures.value ∙ c.if-not-sizes_fit.false in
      let keys = keys_read ws c.sides-sides.ensures.value c.nodes-n.ensures.value
      (keys_tested ws _ _ (rw c.nodes-n.ensures.value (enough ws head)) (omega arith) c.keys_fit.ensures.value) ∙ c.if-not-keys_fit.true in
      script_refused _ ws BadKey (refused_keys ws head sizes keys);
}

pub keys-keys-requires : goal.keys-keys-requires
keys-keys-requires c =
    let ws = c.args.script.now in
    let head = sym c.head_fits.ensures.value ∙ c.if-not-head_fits.false in
    let sizes = sizes_read ws c.sides-sides.ensures.value c.nodes-n.ensures.value c.sizes_fit.ensures.value ∙ c.if-not-sizes_fit.false in
    record {
      lengths = rw c.nodes-n.ensures.value (enough ws head);
      bounds = few ws c.sides-sides.ensures.value c.nodes-n.ensures.value sizes;
    }

pub slice_bounds-keys-end : goal.slice_bounds-keys-end
slice_bounds-keys-end c =
    let ws = c.args.script.now in
    let sizes = sizes_read ws c.sides-sides.ensures.value c.nodes-n.ensures.value c.sizes_fit.ensures.value ∙ c.if-not-sizes_fit.false in
    let h = few ws c.sides-sides.ensures.value c.nodes-n.ensures.value sizes in
    omega (arith, c.keys-keys.ensures.places)

pub returns : goal.returns
returns c = record {
  written =
      let ws = c.args.script.now in
      let head = sym c.head_fits.ensures.value ∙ c.if-not-head_fits.false in
      let sizes = sizes_read ws c.sides-sides.ensures.value c.nodes-n.ensures.value c.sizes_fit.ensures.value ∙ c.if-not-sizes_fit.false in
      let keys = keys_read ws c.sides-sides.ensures.value c.nodes-n.ensures.value
      (keys_tested ws _ _ (rw c.nodes-n.ensures.value (enough ws head)) (omega arith) c.keys_fit.ensures.value) ∙ c.if-not-keys_fit.false in
      let table = table_read ws c.sides-sides.ensures.value c.nodes-n.ensures.value c.keys-keys.ensures.keys in
      script_opened _ ws c.requires.length (passed ws head sizes keys) table c.«open».ensures.written;
}
