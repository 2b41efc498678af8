use borrow.Author.Rules.{rules}
use mathlib.Core.Path.{sym, ap, ◌∙◌}
use Rattle.std.specs.Option.{option_copied}
use Rattle.model.proofs.Words.{sides_room}
use Rattle.bench_open.specs.Beginning.{head_fits}
use Rattle.bench_open.proofs.Begins.{first_word, no_head}
use Rattle.bench_open.proofs.head_fits.Goals as goal

pub returns-in_default : goal.returns-in_default
returns-in_default c = record {
  value = sym (no_head c.args.script.now (ap option_copied (sym c.in_default.is) ∙ c.first.ensures.value));
}

pub new-requires : goal.new-requires
new-requires c = record { bounds = (rw c.sides.ensures.value (sides_room _), search rules, search rules) }

pub returns : goal.returns
unfolding head_fits
returns c = record {
  value =
      let first = first_word c.args.script.now (ap option_copied (sym c.in-Some.is) ∙ c.first.ensures.value) in
      rw (c.new.ensures.value, c.sides.ensures.value, c.nodes-n.ensures.value, first);
}
