-- A reader's definitions, case by case.
use mathlib.Core.Path.{◌≡◌, refl}
use mathlib.Core.Bool.{Bool, true, false}
use Prim.Native.Nat.{ℕ, ◌+◌, ◌≤◌, ◌<◌}
use mathlib.Core.Logic.{◌⊎◌, inl, inr}
use Rattle.std.specs.Prelude.{None, Some, if◌then◌else◌}
use lib.ListN.{length}
use borrow.Author.Tests.{eq-eqb, ne_eqb, le-leb, lt-leb}
use Rattle.bench_lines.specs.Decimal.{newline}
use Rattle.text_form.specs.Assemble.{parts, stage_after, expected_at, value_of, fits, line_given, silent, stopped, part_read, continued, complete}
use Rattle.text_form.specs.Assemble.{line_ended, commented, grown_by, after, token_ended, hash, byte_read, closed}
use Rattle.text_form.specs.declared.Reader.{Reader}
use Rattle.text_form.specs.declared.Command.{Command}
use Rattle.text_form.specs.declared.Command.TheVariants as command
use Rattle.text_form.specs.declared.Stage.TheVariants as stage
use Rattle.text_form.specs.declared.Given.TheVariants as given

module _ (r : Reader) where
  pub line_at_fault : r.fault ≡ true → r ≡ line_ended r
  unfolding line_ended
  line_at_fault e = rw e

  pub line_stopped : r.fault ≡ false → complete r ≡ false → stopped r ≡ line_ended r
  unfolding line_ended
  line_stopped e f = rw (f, e)

  pub line_ended_lem : r.fault ≡ false → complete r ≡ true → record {
    line = r.line + 1;
    fault = r.fault;
    comment = false;
    token = 0;
    stage = r.stage;
    command = r.command;
    place = 0;
    first = r.first;
    sides = r.sides;
    keys = r.keys;
  } ≡ line_ended r
  unfolding line_ended
  line_ended_lem e f = rw (f, e)

  module _ (b : ℕ) where
    pub at_fault : r.fault ≡ true → silent r ≡ byte_read r b
    unfolding byte_read
    at_fault e = rw e

    module _ (sound : r.fault ≡ false) where
      pub at_newline : b ≡ newline → after (token_ended r) line_ended ≡ byte_read r b
      unfolding byte_read
      at_newline e = rw (eq-eqb b newline e, sound)

      module _ (other : b ≡ newline → ⊥) where
        pub in_comment : r.comment ≡ true → silent r ≡ byte_read r b
        unfolding byte_read
        in_comment e = rw (ne_eqb b newline other, sound, e)

        module _ (text : r.comment ≡ false) where
          pub at_hash : b ≡ hash → after (token_ended r) commented ≡ byte_read r b
          unfolding byte_read
          at_hash e = rw (ne_eqb b newline other, eq-eqb b hash e, sound, text)

          pub at_blank : (b ≡ hash → ⊥) → b ≤ 32 → token_ended r ≡ byte_read r b
          unfolding byte_read
          at_blank e h = rw (ne_eqb b newline other, ne_eqb b hash e, le-leb b 32 h, sound, text)

          pub in_token : (b ≡ hash → ⊥) → 32 < b → silent (grown_by r b) ≡ byte_read r b
          unfolding byte_read
          in_token e h = rw (ne_eqb b newline other, ne_eqb b hash e, lt-leb b 32 h, sound, text)

  pub closed_at_fault : r.fault ≡ true → silent r ≡ closed r
  unfolding closed
  closed_at_fault e = rw e

  module _ (sound : r.fault ≡ false) where
    pub closed_start : r.stage ≡ stage.Start → silent r ≡ closed r
    unfolding closed
    closed_start e = rw (sound, e)

    pub closed_sides : r.stage ≡ stage.Sides → silent (stopped r) ≡ closed r
    unfolding closed
    closed_sides e = rw (sound, e)

    pub closed_keys : r.stage ≡ stage.Keys → record { reader = r; given = given.Opening } ≡ closed r
    unfolding closed
    closed_keys e = rw (sound, e)

    pub closed_events : r.stage ≡ stage.Events → silent r ≡ closed r
    unfolding closed
    closed_events e = rw (sound, e)

    pub closed_end : r.stage ≡ stage.End → silent r ≡ closed r
    unfolding closed
    closed_end e = rw (sound, e)

    pub closed_silent : (r.stage ≡ stage.Start) ⊎ ((r.stage ≡ stage.Events) ⊎ (r.stage ≡ stage.End)) → silent r ≡ closed r
    closed_silent (inl e) = closed_start e
    closed_silent (inr (inl e)) = closed_events e
    closed_silent (inr (inr e)) = closed_end e

-- what is read where the token fits, and where it does not
pub misfit : (q : Bool) (v : ℕ) → None ≡ (if q then Some v else None) → q ≡ false
misfit true v h = absurd (cc)
misfit false v h = refl

pub fitted : (q : Bool) {v w : ℕ} → Some w ≡ (if q then Some v else None) → (q ≡ true) × (w ≡ v)
fitted true h = (refl, cc)
fitted false h = absurd (cc)

pub unfitted : (r : Reader) (t : ℕ) → fits (expected_at r) t ≡ false → silent (stopped r) ≡ continued r t
unfolding continued
unfitted r t h = rw h

module _ (r : Reader) (t : ℕ) (fit : fits (expected_at r) t ≡ true) where
  pub midway : r.place < length (parts r.command) → silent (part_read r (value_of (expected_at r) t)) ≡ continued r t
  unfolding continued
  midway h = rw (fit, lt-leb (length (parts r.command)) r.place h)

  pub at_last : length (parts r.command) ≤ r.place
      → record {
        reader = part_read r (value_of (expected_at r) t);
        given = line_given r.command r.first (value_of (expected_at r) t) t;
      } ≡ continued r t
  unfolding continued
  at_last h = rw (fit, le-leb (length (parts r.command)) r.place h)

pub other_stage : (c : Command) → (c ≡ command.Sides → ⊥) → (c ≡ command.Keys → ⊥) → (c ≡ command.Tail → ⊥) → stage.Events ≡ stage_after c
unfolding stage_after
other_stage command.Sides s k t = absurd (s refl)
other_stage command.Keys s k t = absurd (k refl)
other_stage command.On s k t = refl
other_stage command.Off s k t = refl
other_stage command.Leave s k t = refl
other_stage command.Notice s k t = refl
other_stage command.Contact s k t = refl
other_stage command.Timer s k t = refl
other_stage command.Deliver s k t = refl
other_stage command.Echo s k t = refl
other_stage command.Lose s k t = refl
other_stage command.Word s k t = refl
other_stage command.Tail s k t = absurd (t refl)
