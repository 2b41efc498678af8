use Rattle.std.proofs.Common.{sym, ◌∙◌}
use borrow.Author.Tests.{eq-eqb, ne_eqb}
use Rattle.valid_pairs.proofs.RowTests.{own_clear, own_not_clear, off_reads}
use Rattle.valid_pairs.proofs.row_pairs_read.Goals as goal

pub returns-then-words-own-ne0 : goal.returns-then-words-own-ne0
returns-then-words-own-ne0 c = record {
  fits =
      let ws = c.args.words.now in
      sym (own_not_clear ws c.args.n c.args.x c.requires.row.few c.requires.row.node (ne_eqb _ 0 c.if-words-own-ne0.true));
}

pub returns-then-not-running : goal.returns-then-not-running
returns-then-not-running c = record {
  fits =
      let ws = c.args.words.now in
      let none = eq-eqb _ 0 c.if-words-own-ne0.false in
      let own = own_clear ws c.args.n c.args.x c.requires.row.few c.requires.row.node none in
      c.off_row.ensures.value ∙ off_reads ws c.args.n c.args.x c.requires.row.few c.requires.row.node own (sym c.running.ensures.value ∙ c.if-not-running.true);
}

pub running_pairs_read-requires : goal.running_pairs_read-requires
running_pairs_read-requires c =
    let ws = c.args.words.now in
    let none = eq-eqb _ 0 c.if-words-own-ne0.false in
    let own = own_clear ws c.args.n c.args.x c.requires.row.few c.requires.row.node none in
    record {
      row = c.requires.row;
      running = record { own_link = own.0; own_spare = own.1; runs = sym c.running.ensures.value ∙ c.if-not-running.false };
    }

pub returns : goal.returns
returns c = record { fits = c.running_pairs_read.ensures.fits }
