-- `expected` meets its contract: each early return is a case of the definition, by its test.
use mathlib.Core.Path.{sym, ◌∙◌}
use borrow.Author.Tests.{eq-eqb, ne_eqb, lt-ltb, le-ltb}
use Rattle.text_form.specs.Assemble.{expected_at}
use Rattle.text_reader.proofs.expected.Goals as goal

pub returns-then-reader-eq0 : goal.returns-then-reader-eq0
unfolding expected_at
returns-then-reader-eq0 c = record { value = rw (eq-eqb _ _ c.if-reader-eq0.true) c.expected.ensures.value }

pub returns-then-not-is_keys : goal.returns-then-not-is_keys
unfolding expected_at
returns-then-not-is_keys c = record {
  value = rw (ne_eqb _ _ c.if-reader-eq0.false, sym c.is_keys.ensures.value ∙ c.if-not-is_keys.true) c.part.ensures.value;
}

pub returns-then-reader-lt-KEYS : goal.returns-then-reader-lt-KEYS
unfolding expected_at
returns-then-reader-lt-KEYS c = record {
  value = rw (
    ne_eqb _ _ c.if-reader-eq0.false,
    sym c.is_keys.ensures.value ∙ c.if-not-is_keys.false,
    lt-ltb _ _ c.if-reader-lt-KEYS.true,
  );
}

pub returns : goal.returns
unfolding expected_at
returns c = record {
  value = rw (ne_eqb _ _ c.if-reader-eq0.false, sym c.is_keys.ensures.value ∙ c.if-not-is_keys.false, le-ltb _ _ c.if-reader-lt-KEYS.false);
}
