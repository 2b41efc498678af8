use Rattle.std.proofs.Common.{◌≡◌, true, false, sym, ◌∙◌}
use borrow.Author.Tests.{not-true, not-false}
use Rattle.valid_pairs.specs.Rows.{links_fit}
use Rattle.valid_pairs.proofs.RowTests.{spares_read, running_reads_lem, whole_reads, bare_reads}
use Rattle.valid_pairs.proofs.running_pairs_read.Goals as goal

pub returns-then-not-bare : goal.returns-then-not-bare
returns-then-not-bare c = record {
  fits =
      let a = c.args in
      let ws = a.words.now in
      let q = c.requires.row in
      let r = c.requires.running in
      c.whole_row.ensures.fits ∙ whole_reads ws a.n a.x q.few q.node (r.own_link, r.own_spare) r.runs;
}

pub returns-then-not-row : goal.returns-then-not-row
returns-then-not-row c = record {
  fits =
      let a = c.args in
      let ws = a.words.now in
      let q = c.requires.row in
      let r = c.requires.running in
      let e = not-true c.running_row-row.result.fits c.if-not-row.true in
      let f : links_fit ws a.n a.x ≡ false = sym c.running_row-row.ensures.fits ∙ e in
      e ∙ (rw f at (running_reads_lem ws a.n a.x q.few q.node (r.own_link, r.own_spare) r.runs));
}

pub returns-then-row : goal.returns-then-row
returns-then-row c = record {
  fits =
      let a = c.args in
      let ws = a.words.now in
      let q = c.requires.row in
      let r = c.requires.running in
      let e = not-false c.running_row-row.result.fits c.if-not-row.false in
      let f : links_fit ws a.n a.x ≡ true = sym c.running_row-row.ensures.fits ∙ e in
      let g : spares_read ws a.n a.x q.few q.node ≡ true =
      bare_reads ws a.n a.x q.few q.node (sym c.running_row-row.ensures.bare ∙ c.if-row.true) in
      e ∙ (rw (f, g) at (running_reads_lem ws a.n a.x q.few q.node (r.own_link, r.own_spare) r.runs));
}

pub returns : goal.returns
returns c = record {
  fits =
      let a = c.args in
      let ws = a.words.now in
      let q = c.requires.row in
      let r = c.requires.running in
      c.whole_row-2.ensures.fits ∙ whole_reads ws a.n a.x q.few q.node (r.own_link, r.own_spare) r.runs;
}
