-- What a reader holds stays within its bounds, and so does what it gives.
use mathlib.Core.Path.{◌≡◌, refl, ap, ◌∙◌, subst}
use mathlib.Core.Bool.{Bool, true, false, not, ◌&&◌}
use Prim.Native.Nat.{ℕ, ◌+◌, ◌-◌, ◌^◌, ◌≤◌, ◌<◌}
use native.Mathlib.Omega.{arith}
use lib.Dec.{eqb, ltb, leb}
use lib.ListN.{length, get_or, get_or-eq_default}
use borrow.Author.Tests.{eqb-true, eqb-false, ne_eqb, ltb-true, leb-true, leb-false, le-leb}
use Rattle.std.specs.Prelude.{Option, None, Some, if◌then◌else◌}
use Rattle.model.specs.Sets.{all}
use Rattle.model.specs.Structs.{RoomSides}
use Rattle.model.proofs.Laws.{clash, and_left, and_right, if_law, all_out, decide}
use Rattle.bench_lines.specs.Decimal.{newline}
use Rattle.std.specs.Option.{option_map_or}
use Rattle.text_form.specs.declared.Command.{Command}
use Rattle.text_form.specs.declared.Command.TheVariants as command
use Rattle.text_form.specs.Assemble.{parts, is_sides, is_keys, allowed, opens, command_of, expected_at, pairs_of, spelled, value_of, fits, line_given}
use Rattle.text_form.specs.Assemble.{silent, stopped, begun_by, begun, part_read, continued, token_ended, complete, line_ended, commented, grown_by, after}
use Rattle.text_form.specs.Assemble.{hash, byte_read, closed, given_keys, start}
use Rattle.text_form.specs.declared.Stage.{Stage}
use Rattle.text_form.specs.declared.Stage.TheVariants as stage
use Rattle.text_form.specs.declared.Expected.{Expected}
use Rattle.text_form.specs.declared.Expected.TheVariants.{Opening, Keys, Event, NoLine, Side, Key, Node, Timer, At, Position, Word, Tail, LineEnd}
use Rattle.text_form.specs.declared.Given.{Given}
use Rattle.text_form.specs.declared.Given.TheVariants as given
use Rattle.text_form.specs.declared.Reader.{Reader}
use Rattle.text_form.specs.declared.Step.{Step}
use Rattle.text_reader.specs.Bounds.{bound, PartsBounded, ReaderBounded, GivenBounded}
use Rattle.text_reader.proofs.Tokens.{within}
use Rattle.text_reader.proofs.Readers.{closed_at_fault, closed_start, closed_sides, closed_keys, closed_events, closed_end}

-- ---- a part

-- a token that fits has a value below this
limit : Expected → ℕ
limit Opening = 0
limit Keys = 0
limit Event = 0
limit NoLine = 0
limit Side = 9
limit Key = 2 ^ 24
limit Node = 64
limit Timer = 5
limit At = 1
limit Position = 1024
limit Word = 2 ^ 32
limit Tail = 2 ^ 32
limit LineEnd = 0

below_limit : (e : Expected) (t : ℕ) → fits e t ≡ true → value_of e t < limit e
unfolding limit
below_limit Opening t h = clash h refl
below_limit Keys t h = clash h refl
below_limit Event t h = clash h refl
below_limit NoLine t h = clash h refl
below_limit Side t h = let w = within 1 8 (spelled 10 t) h in omega arith
below_limit Key t h = ltb-true _ _ h
below_limit Node t h = ltb-true _ _ h
below_limit Timer t h = omega (arith, leb-true (spelled 10 t) 4 (and_left (leb (spelled 10 t) 4) _ h))
below_limit At t h = omega arith
below_limit Position t h = ltb-true _ _ h
below_limit Word t h = ltb-true _ _ (and_right (leb (2 ^ 56) t) _ h)
below_limit Tail t h = ltb-true _ _ (and_right (not (eqb (pairs_of t) 0)) (ltb (spelled 16 t) (2 ^ 32)) h)
below_limit LineEnd t h = clash h refl

within_bound : (c : Command) → all 4 (λ p. leb (limit (get_or (parts c) p LineEnd)) (bound c)) ≡ true
unfolding all limit
within_bound command.Sides = refl
within_bound command.Keys = refl
within_bound command.On = refl
within_bound command.Off = refl
within_bound command.Leave = refl
within_bound command.Notice = refl
within_bound command.Contact = refl
within_bound command.Timer = refl
within_bound command.Deliver = refl
within_bound command.Echo = refl
within_bound command.Lose = refl
within_bound command.Word = refl
within_bound command.Tail = refl

limit_of_part : (c : Command) (p : ℕ) → p < 4 → limit (get_or (parts c) p LineEnd) ≤ bound c
limit_of_part c p h = leb-true _ _ (all_out 4 (λ q. leb (limit (get_or (parts c) q LineEnd)) (bound c)) (within_bound c) p h)

bound_small : (c : Command) → bound c ≤ 2 ^ 32
bound_small command.Sides = omega arith
bound_small command.Keys = omega arith
bound_small command.On = omega arith
bound_small command.Off = omega arith
bound_small command.Leave = omega arith
bound_small command.Notice = omega arith
bound_small command.Contact = omega arith
bound_small command.Timer = omega arith
bound_small command.Deliver = omega arith
bound_small command.Echo = omega arith
bound_small command.Lose = omega arith
bound_small command.Word = omega arith
bound_small command.Tail = omega arith

few_parts : (c : Command) → length (parts c) ≤ 3
few_parts command.Sides = omega arith
few_parts command.Keys = omega arith
few_parts command.On = omega arith
few_parts command.Off = omega arith
few_parts command.Leave = omega arith
few_parts command.Notice = omega arith
few_parts command.Contact = omega arith
few_parts command.Timer = omega arith
few_parts command.Deliver = omega arith
few_parts command.Echo = omega arith
few_parts command.Lose = omega arith
few_parts command.Word = omega arith
few_parts command.Tail = omega arith

sides_bound : (c : Command) → is_sides c ≡ true → bound c ≡ 9
sides_bound command.Sides h = refl
sides_bound command.Keys h = clash h refl
sides_bound command.On h = clash h refl
sides_bound command.Off h = clash h refl
sides_bound command.Leave h = clash h refl
sides_bound command.Notice h = clash h refl
sides_bound command.Contact h = clash h refl
sides_bound command.Timer h = clash h refl
sides_bound command.Deliver h = clash h refl
sides_bound command.Echo h = clash h refl
sides_bound command.Lose h = clash h refl
sides_bound command.Word h = clash h refl
sides_bound command.Tail h = clash h refl

keys_bound : (c : Command) → is_keys c ≡ true → bound c ≡ 2 ^ 24
keys_bound command.Sides h = clash h refl
keys_bound command.Keys h = refl
keys_bound command.On h = clash h refl
keys_bound command.Off h = clash h refl
keys_bound command.Leave h = clash h refl
keys_bound command.Notice h = clash h refl
keys_bound command.Contact h = clash h refl
keys_bound command.Timer h = clash h refl
keys_bound command.Deliver h = clash h refl
keys_bound command.Echo h = clash h refl
keys_bound command.Lose h = clash h refl
keys_bound command.Word h = clash h refl
keys_bound command.Tail h = clash h refl

module _ (r : Reader) (b : ReaderBounded r) (started : 1 ≤ r.place) where
  limit_of_expected : limit (expected_at r) ≤ bound r.command
  unfolding expected_at limit
  limit_of_expected =
      rw (ne_eqb r.place 0 (λ e. absurd (omega arith)))
      (if_law (λ (e : Expected). limit e ≤ bound r.command) (is_keys r.command)
      (if ltb r.keys 64 then Key else LineEnd) (get_or (parts r.command) (r.place - 1) LineEnd)
      (λ e. rw (keys_bound r.command e) (if_law (λ (x : Expected). limit x ≤ 2 ^ 24) (ltb r.keys 64) Key LineEnd (λ d. omega arith) (λ d. omega arith)))
      (λ e. limit_of_part r.command (r.place - 1) (omega (arith, b.place))))

  module _ (t : ℕ) (fit : fits (expected_at r) t ≡ true) where
    pub value_bounded : value_of (expected_at r) t < bound r.command
    value_bounded = omega (arith, below_limit (expected_at r) t fit, limit_of_expected)

    pub value_small : value_of (expected_at r) t < 2 ^ 32
    value_small = omega (arith, value_bounded, bound_small r.command)

    -- there is a part at this place
    within_line : is_keys r.command ≡ false → r.place ≤ length (parts r.command)
    unfolding expected_at
    within_line other =
        decide (leb r.place (length (parts r.command))) (leb-true _ _)
        (λ e.
        let beyond : expected_at r ≡ LineEnd =
        rw (ne_eqb r.place 0 (λ z. absurd (omega arith)), other)
        (get_or-eq_default (parts r.command) LineEnd (omega (arith, leb-false r.place (length (parts r.command)) e))) in
        clash fit (ap (λ (x : Expected). fits x t) beyond))

    room_for_key : is_keys r.command ≡ true → r.keys < 64
    unfolding expected_at
    room_for_key is =
        decide (ltb r.keys 64) (ltb-true _ _)
        (λ e.
        let full : expected_at r ≡ LineEnd = rw (ne_eqb r.place 0 (λ z. absurd (omega arith)), is, e) in
        clash fit (ap (λ (x : Expected). fits x t) full))

    pub parts_bounded : length (parts r.command) ≤ r.place → PartsBounded r.command r.first (value_of (expected_at r) t)
    parts_bounded h =
        record {
          last = value_bounded;
          first = λ m. b.first (omega arith);
        }

    sides_bounded : is_sides r.command ≡ true → r.place ≡ 2 → RoomSides (record { ahead = r.first; behind = value_of (expected_at r) t })
    sides_bounded e f =
        let ahead = b.first (omega arith) in
        let behind = value_bounded in
        let nine = sides_bound r.command e in
        record { ahead_room = omega arith; behind_room = omega arith }

    part_bounded : ReaderBounded (part_read r (value_of (expected_at r) t))
    unfolding part_read
    part_bounded =
        record {
          place = if_law (λ (n : ℕ). n ≤ 4) (is_keys r.command) 2 (r.place + 1) (λ e. omega arith)
              (λ e. omega (arith, within_line e, few_parts r.command));
          first = λ h. if_law (λ (n : ℕ). n < bound r.command) (eqb r.place 1) (value_of (expected_at r) t) r.first (λ e. value_bounded)
              (λ e. b.first (let other = eqb-false r.place 1 e in omega arith));
          sides = if_law RoomSides (is_sides r.command && eqb r.place 2) (record { ahead = r.first; behind = value_of (expected_at r) t }) r.sides
              (λ e. sides_bounded (and_left (is_sides r.command) (eqb r.place 2) e)
              (eqb-true r.place 2 (and_right (is_sides r.command) (eqb r.place 2) e)))
              (λ e. b.sides);
          keys = if_law (λ (n : ℕ). n ≤ 64) (is_keys r.command) (r.keys + 1) r.keys
              (λ e. omega (arith, room_for_key e)) (λ e. b.keys);
        }

-- ---- a step

-- from reader r: within the bounds, at most at this line, and with one key more where it gives one
pub record StepBounded (most : ℕ) (r : Reader) (s : Step) : Type 0 where
  pub reader : ReaderBounded s.reader
  pub line : s.reader.line ≤ most
  pub keys : s.reader.keys ≡ r.keys + length (given_keys s.given)
  pub given : GivenBounded s.given

nothing_bounded : GivenBounded given.Nothing
nothing_bounded = record { key = omega arith; tail = omega arith }

opening_bounded : GivenBounded given.Opening
opening_bounded = record { key = omega arith; tail = omega arith }

silent_bounded : (most : ℕ) (r q : Reader) → ReaderBounded q → q.line ≤ most → q.keys ≡ r.keys → StepBounded most r (silent q)
unfolding given_keys
silent_bounded most r q b l k = record { reader = b; line = l; keys = k ∙ omega arith; given = nothing_bounded }

pub stopped_bounded : (r : Reader) → ReaderBounded r → ReaderBounded (stopped r)
unfolding stopped
stopped_bounded r b = record { place = b.place; first = b.first; sides = b.sides; keys = b.keys }

stops : (r : Reader) → ReaderBounded r → StepBounded r.line r (silent (stopped r))
unfolding stopped
stops r b = silent_bounded r.line r (stopped r) (stopped_bounded r b) (omega arith) refl

-- the opening, or nothing
opening_law : (P : Given → Type 0) (q : Bool) → P given.Opening → P given.Nothing → P (if q then given.Opening else given.Nothing)
opening_law P q f g = if_law P q given.Opening given.Nothing (λ e. f) (λ e. g)

command_bounded : (r : Reader) → ReaderBounded r → (c : Command) → StepBounded r.line r (begun_by r c)
unfolding begun_by given_keys
command_bounded r b c =
    if_law (StepBounded r.line r) (allowed r.stage r.keys c) _ (silent (stopped r))
    (λ e.
    record {
      reader =
          record {
            place = omega arith;
            first = λ h. absurd (omega arith);
            sides = b.sides;
            keys = b.keys;
          };
      line = omega arith;
      keys = opening_law (λ (g : Given). r.keys ≡ r.keys + length (given_keys g)) (opens r.stage c) (omega arith) (omega arith);
      given = opening_law GivenBounded (opens r.stage c) opening_bounded nothing_bounded;
    })
    (λ e. stops r b)

begun_bounded : (r : Reader) (t : ℕ) → ReaderBounded r → StepBounded r.line r (begun r t)
unfolding begun
begun_bounded r t b = go (command_of t)
  where
    go : (o : Option Command) → StepBounded r.line r (option_map_or (begun_by r) o (silent (stopped r)))
    go None = stops r b
    go (Some c) = command_bounded r b c

pairs_few : (t : ℕ) → pairs_of t ≤ 3
unfolding pairs_of
pairs_few t =
    if_law (λ (n : ℕ). n ≤ 3) (leb (2 ^ 8) t && ltb t (2 ^ 16)) 1 _ (λ e. omega arith)
    (λ e. if_law (λ (n : ℕ). n ≤ 3) (leb (2 ^ 24) t && ltb t (2 ^ 32)) 2 _ (λ f. omega arith)
    (λ f. if_law (λ (n : ℕ). n ≤ 3) (leb (2 ^ 40) t && ltb t (2 ^ 48)) 3 0 (λ g. omega arith) (λ g. omega arith)))

-- what holds of whatever a line can give
line_law : (P : Given → Type 0) (c : Command) (a v t : ℕ) → P given.Nothing → (is_keys c ≡ true → P (given.Key v))
    → ((w : ℕ) → is_keys c ≡ false → P (given.Word w))
    → (is_keys c ≡ false → P (given.Tail (pairs_of t) v)) → P (line_given c a v t)
unfolding line_given
line_law P command.Sides a v t none key word tail = none
line_law P command.Keys a v t none key word tail = key refl
line_law P command.On a v t none key word tail = word _ refl
line_law P command.Off a v t none key word tail = word _ refl
line_law P command.Leave a v t none key word tail = word _ refl
line_law P command.Notice a v t none key word tail = word _ refl
line_law P command.Contact a v t none key word tail = word _ refl
line_law P command.Timer a v t none key word tail = word _ refl
line_law P command.Deliver a v t none key word tail = word _ refl
line_law P command.Echo a v t none key word tail = word _ refl
line_law P command.Lose a v t none key word tail = word _ refl
line_law P command.Word a v t none key word tail = word v refl
line_law P command.Tail a v t none key word tail = tail refl

no_key : (c : Command) (p a v t k : ℕ) → is_keys c ≡ false
    → k ≡ k + length (given_keys (if leb (length (parts c)) p then line_given c a v t else given.Nothing))
unfolding given_keys
no_key c p a v t k other =
    if_law (λ (g : Given). k ≡ k + length (given_keys g)) (leb (length (parts c)) p) (line_given c a v t) given.Nothing
    (λ f.
    line_law (λ (g : Given). k ≡ k + length (given_keys g)) c a v t (omega arith) (λ d. clash d other) (λ w d. omega arith)
    (λ d. omega arith))
    (λ f. omega arith)

one_key : (c : Command) (p a v t k : ℕ) → is_keys c ≡ true → 1 ≤ p
    → k + 1 ≡ k + length (given_keys (if leb (length (parts c)) p then line_given c a v t else given.Nothing))
unfolding given_keys line_given
one_key command.Sides p a v t k is h = clash is refl
one_key command.Keys p a v t k is h = rw (le-leb 1 p h)
one_key command.On p a v t k is h = clash is refl
one_key command.Off p a v t k is h = clash is refl
one_key command.Leave p a v t k is h = clash is refl
one_key command.Notice p a v t k is h = clash is refl
one_key command.Contact p a v t k is h = clash is refl
one_key command.Timer p a v t k is h = clash is refl
one_key command.Deliver p a v t k is h = clash is refl
one_key command.Echo p a v t k is h = clash is refl
one_key command.Lose p a v t k is h = clash is refl
one_key command.Word p a v t k is h = clash is refl
one_key command.Tail p a v t k is h = clash is refl

counted : (c : Command) (p a v t k : ℕ) → 1 ≤ p
    → (if is_keys c then k + 1 else k) ≡ k + length (given_keys (if leb (length (parts c)) p then line_given c a v t else given.Nothing))
counted c p a v t k h = decide (is_keys c) (λ e. rw e (one_key c p a v t k e h)) (λ e. rw e (no_key c p a v t k e))

fitting_bounded : (r : Reader) (b : ReaderBounded r) (h : 1 ≤ r.place) (t : ℕ) → fits (expected_at r) t ≡ true → StepBounded r.line r
    (record {
      reader = part_read r (value_of (expected_at r) t);
      given =
          if leb (length (parts r.command)) r.place
          then line_given r.command r.first (value_of (expected_at r) t) t
          else given.Nothing;
    })
unfolding part_read given_keys
fitting_bounded r b h t fit =
    record {
      reader = part_bounded r b h t fit;
      line = omega arith;
      keys = counted c r.place r.first v t r.keys h;
      given =
          if_law GivenBounded (leb (length (parts c)) r.place) (line_given c r.first v t) given.Nothing
          (λ e.
          line_law GivenBounded c r.first v t nothing_bounded (λ f. record {
            key = omega (arith, keys_bound c f, value_bounded r b h t fit);
            tail = omega arith;
          })
          (λ w f. record { key = omega arith; tail = omega arith }) (λ f. record { key = omega arith; tail = pairs_few t }))
          (λ e. nothing_bounded);
    }
  where
    c : Command
    c = r.command

    v : ℕ
    v = value_of (expected_at r) t

continued_bounded : (r : Reader) → ReaderBounded r → 1 ≤ r.place → (t : ℕ) → StepBounded r.line r (continued r t)
unfolding continued
continued_bounded r b h t =
    if_law (StepBounded r.line r) (fits (expected_at r) t) _ (silent (stopped r)) (fitting_bounded r b h t) (λ e. stops r b)

pub token_bounded : (r : Reader) → ReaderBounded r → StepBounded r.line r (token_ended r)
unfolding token_ended
token_bounded r b =
    if_law (StepBounded r.line r) (eqb r.token 0) (silent r) _ (λ e. silent_bounded r.line r r b (omega arith) refl)
    (λ e.
    if_law (StepBounded r.line r) (eqb r.place 0) (begun r r.token) (continued r r.token) (λ f. begun_bounded r r.token b)
    (λ f. continued_bounded r b (let z = eqb-false r.place 0 f in omega arith) r.token))

-- a change of the reader alone, after a step
record Changed (r q : Reader) : Type 0 where
  pub reader : ReaderBounded q
  pub line : q.line ≤ r.line + 1
  pub keys : q.keys ≡ r.keys

line_changed : (r : Reader) → ReaderBounded r → Changed r (line_ended r)
unfolding line_ended stopped
line_changed r b =
    if_law (Changed r) r.fault r _ (λ e. record { reader = b; line = omega arith; keys = refl })
    (λ e.
    if_law (Changed r) (complete r) _ (stopped r)
    (λ f.
    record {
      reader = record { place = omega arith; first = λ h. absurd (omega arith); sides = b.sides; keys = b.keys };
      line = omega arith;
      keys = refl;
    })
    (λ f. record { reader = stopped_bounded r b; line = omega arith; keys = refl }))

comment_changed : (r : Reader) → ReaderBounded r → Changed r (commented r)
unfolding commented
comment_changed r b =
    record {
      reader = record { place = b.place; first = b.first; sides = b.sides; keys = b.keys };
      line = omega arith;
      keys = refl;
    }

after_bounded : (r : Reader) (s : Step) (f : Reader → Reader) → StepBounded r.line r s
    → Changed s.reader (f s.reader) → StepBounded (r.line + 1) r (after s f)
after_bounded r s f b c =
    record { reader = c.reader; line = omega (arith, c.line, b.line); keys = c.keys ∙ b.keys; given = b.given }

weaker : (r : Reader) (s : Step) → StepBounded r.line r s → StepBounded (r.line + 1) r s
weaker r s b = record { reader = b.reader; line = omega (arith, b.line); keys = b.keys; given = b.given }

grown_bounded : (r : Reader) (v : ℕ) → ReaderBounded r → StepBounded (r.line + 1) r (silent (grown_by r v))
unfolding grown_by
grown_bounded r v b =
    silent_bounded (r.line + 1) r (grown_by r v)
    (record { place = b.place; first = b.first; sides = b.sides; keys = b.keys }) (omega arith) refl

pub byte_bounded : (r : Reader) (v : ℕ) → ReaderBounded r → StepBounded (r.line + 1) r (byte_read r v)
unfolding byte_read
byte_bounded r v b =
    let same : StepBounded (r.line + 1) r (silent r) = silent_bounded (r.line + 1) r r b (omega arith) refl in
    let token : StepBounded r.line r (token_ended r) = token_bounded r b in
    if_law (StepBounded (r.line + 1) r) r.fault (silent r) _ (λ e. same)
    (λ e.
    if_law (StepBounded (r.line + 1) r) (eqb v newline) (after (token_ended r) line_ended) _
    (λ f. after_bounded r (token_ended r) line_ended token (line_changed (token_ended r).reader token.reader))
    (λ f.
    if_law (StepBounded (r.line + 1) r) r.comment (silent r) _ (λ g. same)
    (λ g.
    if_law (StepBounded (r.line + 1) r) (eqb v hash) (after (token_ended r) commented) _
    (λ h. after_bounded r (token_ended r) commented token (comment_changed (token_ended r).reader token.reader))
    (λ h.
    if_law (StepBounded (r.line + 1) r) (leb v 32) (token_ended r) (silent (grown_by r v)) (λ i. weaker r (token_ended r) token)
    (λ i. grown_bounded r v b)))))

pub closed_bounded : (r : Reader) → ReaderBounded r → StepBounded r.line r (closed r)
unfolding given_keys
closed_bounded r b = decide r.fault (λ e. subst (StepBounded r.line r) (closed_at_fault r e) same) (by_stage_lem r.stage refl)
  where
    same : StepBounded r.line r (silent r)
    same = silent_bounded r.line r r b (omega arith) refl

    by_stage_lem : (s : Stage) → r.stage ≡ s → r.fault ≡ false → StepBounded r.line r (closed r)
    by_stage_lem stage.Start g e = subst (StepBounded r.line r) (closed_start r e g) same
    by_stage_lem stage.Sides g e = subst (StepBounded r.line r) (closed_sides r e g) (stops r b)
    by_stage_lem stage.Keys g e =
        subst (StepBounded r.line r) (closed_keys r e g)
        (record { reader = b; line = omega arith; keys = omega arith; given = opening_bounded })
    by_stage_lem stage.Events g e = subst (StepBounded r.line r) (closed_events r e g) same
    by_stage_lem stage.End g e = subst (StepBounded r.line r) (closed_end r e g) same

pub start_bounded : ReaderBounded start
unfolding start
start_bounded =
    record {
      place = omega arith;
      first = λ h. absurd (omega arith);
      sides = record { ahead_room = omega arith; behind_room = omega arith };
      keys = omega arith;
    }
