use mathlib.Core.Path.{sym, ◌∙◌}
use Rattle.model.proofs.Laws.{clash}
use Rattle.call_open.proofs.Opened.{refused_length, refused_range, refused_high, refused_twice, opened}
use Rattle.call_open.proofs.refusal.Goals as goal
use Rattle.call_open.proofs.refusal.Goals.{then-keys_fit, else-keys_fit}

pub returns-then-words-ne-LENGTH : goal.returns-then-words-ne-LENGTH
returns-then-words-ne-LENGTH c =
    let a = c.args in
    record { answer = sym (refused_length a.words.now a.sides a.keys.now c.if-words-ne-LENGTH.true) }

pub returns-then-not-in_range : goal.returns-then-not-in_range
returns-then-not-in_range c =
    let a = c.args in
    record {
      answer = sym (refused_range a.words.now a.sides a.keys.now c.if-words-ne-LENGTH.false (sym c.in_range.ensures.value ∙ c.if-not-in_range.true));
    }

pub returns-then-not-keys_differ : goal.returns-then-not-keys_differ
returns-then-not-keys_differ c =
    let a = c.args in
    let range = sym c.in_range.ensures.value ∙ c.if-not-in_range.false in
    elim c.if-keys_fit.branch [
      | then-keys_fit w ↦ record {
        answer =
            sym
            (refused_twice a.words.now a.sides a.keys.now c.if-words-ne-LENGTH.false range c.keys_fit.ensures.value
            w.keys_differ.ensures.value w.if-keys_fit.true (sym w.value-is ∙ c.if-not-keys_differ.true));
      }
      | else-keys_fit w ↦ record {
        answer = sym (refused_high a.words.now a.sides a.keys.now c.if-words-ne-LENGTH.false range c.keys_fit.ensures.value w.if-keys_fit.false);
      }
    ]

pub returns : goal.returns
returns c =
    let a = c.args in
    let range = sym c.in_range.ensures.value ∙ c.if-not-in_range.false in
    elim c.if-keys_fit.branch [
      | then-keys_fit w ↦ record {
        answer =
            sym
            (opened a.words.now a.sides a.keys.now c.if-words-ne-LENGTH.false range c.keys_fit.ensures.value
            w.keys_differ.ensures.value w.if-keys_fit.true (sym w.value-is ∙ c.if-not-keys_differ.false));
      }
      | else-keys_fit w ↦ clash (sym w.value-is ∙ c.if-not-keys_differ.false) w.if-keys_fit.false
    ]
