-- `byte_read` meets its contract: each early return is a case of the definition, by its test.
use mathlib.Core.Path.{refl, ap, ◌∙◌}
use native.Mathlib.Omega.{arith}
use Rattle.text_form.specs.Assemble.{silent}
use Rattle.text_reader.proofs.Bounded.{token_bounded}
use Rattle.text_reader.proofs.Readers.{at_fault, at_newline, in_comment, at_hash, at_blank, in_token}
use Rattle.text_reader.proofs.byte_read.Goals as goal

pub returns-then-reader : goal.returns-then-reader
returns-then-reader c = record { value = c.silent.ensures.value ∙ at_fault _ _ c.if-reader.true }

pub returns-then-byte-eq-NEWLINE : goal.returns-then-byte-eq-NEWLINE
returns-then-byte-eq-NEWLINE c = record {
  value =
      rw (c.after.ensures.reader.1, c.after.ensures.given, c.token_ended.ensures.value) refl
      ∙ at_newline _ _ c.if-reader.false c.if-byte-eq-NEWLINE.true;
}

pub after-requires : goal.after-requires
after-requires c = record {
  callable =
      let t = token_bounded c.args.reader c.requires.bounds.0 in
      rw c.token_ended.ensures.value (omega (arith, t.line));
}

pub returns-then-reader-2 : goal.returns-then-reader-2
returns-then-reader-2 c = record {
  value = c.silent-then-reader-2.ensures.value
      ∙ in_comment _ _ c.if-reader.false c.if-byte-eq-NEWLINE.false c.if-reader-2.true;
}

pub returns-then-byte-eq-HASH : goal.returns-then-byte-eq-HASH
returns-then-byte-eq-HASH c =
    let after = c.after-then-byte-eq-HASH.ensures in record {
      value =
          rw (after.reader.1, after.given, c.token_ended-then-byte-eq-HASH.ensures.value) refl
          ∙ at_hash _ _ c.if-reader.false c.if-byte-eq-NEWLINE.false c.if-reader-2.false c.if-byte-eq-HASH.true;
    }

pub returns-then-byte-le-BLANK : goal.returns-then-byte-le-BLANK
returns-then-byte-le-BLANK c = record {
  value =
      c.token_ended-then-byte-le-BLANK.ensures.value ∙ at_blank _ _ c.if-reader.false c.if-byte-eq-NEWLINE.false c.if-reader-2.false
      c.if-byte-eq-HASH.false c.if-byte-le-BLANK.true;
}

pub returns : goal.returns
returns c = record {
  value =
      c.silent-2.ensures.value ∙ ap silent c.grown_by.ensures.value
      ∙ in_token _ _ c.if-reader.false c.if-byte-eq-NEWLINE.false c.if-reader-2.false c.if-byte-eq-HASH.false
      c.if-byte-le-BLANK.false;
}
