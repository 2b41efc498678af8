-- Empty lines do not matter, but for the number of the line where a fault is.
use mathlib.Core.Path.{◌≡◌, refl, sym, ap, ◌∙◌}
use mathlib.Core.Bool.{Bool, true, false}
use mathlib.Core.List.{List, [], ◌∷◌, ◌++◌, append_assoc}
use Prim.Native.Nat.{ℕ, ◌+◌}
use lib.Dec.{leb, eqb}
use Rattle.bench_lines.specs.Decimal.{newline}
use Rattle.std.specs.Prelude.{if◌then◌else◌}
use Rattle.model.specs.declared.values.Sides.{Sides}
use Rattle.model.proofs.Laws.{decide, if_law}
use Rattle.text_form.specs.declared.Command.{Command}
use Rattle.text_form.specs.declared.Command.TheVariants as command
use Rattle.text_form.specs.declared.Stage.{Stage}
use Rattle.text_form.specs.declared.Stage.TheVariants as stage
use Rattle.text_form.specs.declared.Reader.{Reader}
use Rattle.text_form.specs.declared.Step.{Step}
use Rattle.std.specs.Prelude.{Option, None, Some}
use Rattle.std.specs.Option.{option_map_or}
use Rattle.text_form.specs.Assemble.{Progress, start, allowed, command_of, begun_by, expected_at, fits, hash, silent, after, begun, part_read, continued}
use Rattle.text_form.specs.Assemble.{stopped}
use Rattle.text_form.specs.Assemble.{token_ended, complete, line_ended, commented, grown_by, byte_read, advanced, text_read, closed, assemble}
use Rattle.text_form.proofs.Reading.{reader, read_append, nothing}
use Rattle.text_form.proofs.Blanks.{newline_stopped, first, closing, ended_read, whole_read}

-- ---- a reader, a step and a text's progress but for the line

unlined : Reader → Reader
unlined r =
    record {
      line = 0;
      fault = r.fault;
      comment = r.comment;
      token = r.token;
      stage = r.stage;
      command = r.command;
      place = r.place;
      first = r.first;
      sides = r.sides;
      keys = r.keys;
    }

step_unlined : Step → Step
step_unlined s = record { reader = unlined s.reader; given = s.given }

-- ---- a byte reads alike whatever the line

expected_alike : (r : Reader) → expected_at (unlined r) ≡ expected_at r
unfolding expected_at unlined
expected_alike r = refl

if_alike : (a : Bool) (s s' u u' : Step) → step_unlined s ≡ step_unlined s' → step_unlined u ≡ step_unlined u'
    → step_unlined (if a then s else u) ≡ step_unlined (if a then s' else u')
if_alike true s s' u u' e f = e
if_alike false s s' u u' e f = f

silent_alike : (r : Reader) → step_unlined (silent (unlined r)) ≡ step_unlined (silent r)
unfolding unlined step_unlined
silent_alike r = refl

grown_alike : (r : Reader) (b : ℕ) → step_unlined (silent (grown_by (unlined r) b)) ≡ step_unlined (silent (grown_by r b))
unfolding grown_by unlined step_unlined
grown_alike r b = refl

begun_alike : (r : Reader) (t : ℕ) → step_unlined (begun (unlined r) t) ≡ step_unlined (begun r t)
unfolding begun begun_by stopped unlined step_unlined
begun_alike r t = go (command_of t)
  where
    go :
        (o : Option Command)
        → step_unlined (option_map_or (begun_by (unlined r)) o (silent (stopped (unlined r))))
        ≡ step_unlined (option_map_or (begun_by r) o (silent (stopped r)))
    go None = refl
    go (Some c) = decide (allowed r.stage r.keys c) (λ e. rw e) (λ e. rw e)

continued_alike : (r : Reader) (t : ℕ) → step_unlined (continued (unlined r) t) ≡ step_unlined (continued r t)
unfolding continued stopped part_read unlined step_unlined
continued_alike r t = rw (expected_alike r) (decide (fits (expected_at r) t) (λ e. rw e) (λ e. rw e))

ended_alike : (r : Reader) → step_unlined (token_ended (unlined r)) ≡ step_unlined (token_ended r)
unfolding token_ended unlined
ended_alike r =
    if_alike (eqb r.token 0) _ _ _ _ (silent_alike r) (if_alike (eqb r.place 0) _ _ _ _ (begun_alike r r.token) (continued_alike r r.token))

either : (a c : Bool) (q q' n n' s s' : Reader) → unlined q ≡ unlined q' → unlined n ≡ unlined n' → unlined s ≡ unlined s'
    → unlined (if a then q else (if c then n else s)) ≡ unlined (if a then q' else (if c then n' else s'))
either true c q q' n n' s s' e f g = e
either false true q q' n n' s s' e f g = f
either false false q q' n n' s s' e f g = g

line_alike : (r : Reader) → unlined (line_ended (unlined r)) ≡ unlined (line_ended r)
unfolding line_ended stopped complete unlined
line_alike r = either r.fault (complete r) _ _ _ _ _ _ refl refl refl

-- what is done to readers that are alike leaves them alike
after_alike : (f : Reader → Reader) → ((r : Reader) → unlined (f (unlined r)) ≡ unlined (f r)) → (s u : Step) → step_unlined s ≡ step_unlined u
    → step_unlined (after s f) ≡ step_unlined (after u f)
unfolding step_unlined
after_alike f h s u e = λ i. record { reader = readers i; given = (e i).given }
  where
    readers : unlined (f s.reader) ≡ unlined (f u.reader)
    readers = sym (h s.reader) ∙ ap (λ (v : Step). unlined (f v.reader)) e ∙ h u.reader

comment_alike : (r : Reader) → unlined (commented (unlined r)) ≡ unlined (commented r)
unfolding commented unlined
comment_alike r = refl

byte_alike : (r : Reader) (b : ℕ) → step_unlined (byte_read (unlined r) b) ≡ step_unlined (byte_read r b)
unfolding byte_read unlined
byte_alike r b =
    if_alike r.fault _ _ _ _ (silent_alike r)
    (if_alike (eqb b newline) _ _ _ _ (after_alike line_ended line_alike (token_ended (unlined r)) (token_ended r) (ended_alike r))
    (if_alike r.comment _ _ _ _ (silent_alike r)
    (if_alike (eqb b hash) _ _ _ _ (after_alike commented comment_alike (token_ended (unlined r)) (token_ended r) (ended_alike r))
    (if_alike (leb b 32) _ _ _ _ (ended_alike r) (grown_alike r b)))))

-- ---- so does a text

without_line : Progress → Progress
without_line p = record { reader = unlined p.reader; keys = p.keys; script = p.script }

advanced_alike : (p : Progress) (s u : Step) → step_unlined s ≡ step_unlined u → without_line (advanced p s) ≡ without_line (advanced p u)
unfolding advanced without_line step_unlined unlined
advanced_alike p s u e = ap (advanced p) e

step_alike : (g : Reader → Step) → ((r : Reader) → step_unlined (g (unlined r)) ≡ step_unlined (g r)) → (p q : Progress) → without_line p ≡ without_line q
    → without_line (advanced p (g p.reader)) ≡ without_line (advanced q (g q.reader))
unfolding without_line advanced
step_alike g h p q e =
    sym (advanced_alike p (g (unlined p.reader)) (g p.reader) (h p.reader))
    ∙ ap (λ (s : Progress). without_line (advanced s (g s.reader))) e
    ∙ advanced_alike q (g (unlined q.reader)) (g q.reader) (h q.reader)

text_alike : (xs : List ℕ) (p q : Progress) → without_line p ≡ without_line q → without_line (text_read p xs) ≡ without_line (text_read q xs)
unfolding text_read
text_alike [] p q e = e
text_alike (x ∷ xs) p q e =
    text_alike xs (advanced p (byte_read p.reader x)) (advanced q (byte_read q.reader x)) (step_alike (λ r. byte_read r x) (λ r. byte_alike r x) p q e)

closed_alike : (r : Reader) → step_unlined (closed (unlined r)) ≡ step_unlined (closed r)
unfolding closed stopped unlined step_unlined
closed_alike r = go r.fault r.stage
  where
    at : Bool → Stage → Reader
    at fault s =
        record {
          line = r.line;
          fault = fault;
          comment = r.comment;
          token = r.token;
          stage = s;
          command = r.command;
          place = r.place;
          first = r.first;
          sides = r.sides;
          keys = r.keys;
        }

    go : (a : Bool) (s : Stage) → step_unlined (closed (unlined (at a s))) ≡ step_unlined (closed (at a s))
    go true s = refl
    go false stage.Start = refl
    go false stage.Sides = refl
    go false stage.Keys = refl
    go false stage.Events = refl
    go false stage.End = refl

closing_alike : (p q : Progress) → without_line p ≡ without_line q → without_line (closing p) ≡ without_line (closing q)
unfolding closing
closing_alike p q e = step_alike closed closed_alike p q e

-- ---- a line's end after a line's end

Fresh : Reader → Type 0
Fresh r = step_unlined (byte_read r newline) ≡ step_unlined (silent r)

stopped_fresh : (r : Reader) → r.fault ≡ true → Fresh r
unfolding Fresh byte_read
stopped_fresh r e = ap step_unlined (newline_stopped r e)

start_fresh : (line : ℕ) (s : Stage) (c : Command) (f : ℕ) (sides : Sides) (keys : ℕ) → Fresh (reader line 0 s c 0 f sides keys)
unfolding Fresh byte_read token_ended line_ended complete unlined step_unlined
start_fresh line s c f sides keys = refl

line_fresh : (r : Reader) → Fresh (line_ended r)
unfolding line_ended stopped
line_fresh r =
    if_law Fresh r.fault _ _ (stopped_fresh r)
    (λ _. if_law Fresh (complete r) _ _ (λ _. start_fresh (r.line + 1) r.stage r.command r.first r.sides r.keys)
    (λ _. stopped_fresh (stopped r) refl))

newline_fresh : (r : Reader) → Fresh (byte_read r newline).reader
unfolding byte_read
newline_fresh r = if_law (λ (s : Step). Fresh s.reader) r.fault _ _ (stopped_fresh r) (λ _. line_fresh (token_ended r).reader)

fresh_alike : (p : Progress) → Fresh p.reader → without_line (text_read p (newline ∷ [])) ≡ without_line p
unfolding text_read Fresh
fresh_alike p e = advanced_alike p (byte_read p.reader newline) (silent p.reader) e ∙ ap without_line (nothing p p.reader)

two_newlines : (p : Progress) → without_line (text_read p (newline ∷ newline ∷ [])) ≡ without_line (text_read p (newline ∷ []))
unfolding text_read advanced
two_newlines p = fresh_alike (advanced p (byte_read p.reader newline)) (newline_fresh p.reader)

-- ---- whole texts

-- the same script, or the same fault, perhaps on another line
pub record SameButLine (p q : Progress) : Type 0 where
  pub fault : p.reader.fault ≡ q.reader.fault
  pub expected : expected_at p.reader ≡ expected_at q.reader
  pub script : p.script ≡ q.script

same_but_line : (p q : Progress) → without_line p ≡ without_line q → SameButLine p q
unfolding without_line unlined expected_at
same_but_line p q e =
    record {
      fault = ap (λ (s : Progress). s.reader.fault) e;
      expected = ap (λ (s : Progress). expected_at s.reader) e;
      script = ap (λ (s : Progress). s.script) e;
    }

pub empty_line : (xs ys : List ℕ) → SameButLine (assemble (xs ++ newline ∷ newline ∷ ys)) (assemble (xs ++ newline ∷ ys))
empty_line xs ys =
    rw (
      ← append_assoc xs (newline ∷ newline ∷ []) ys,
      ← append_assoc xs (newline ∷ []) ys,
      ended_read xs (newline ∷ newline ∷ []) ys,
      ended_read xs (newline ∷ []) ys,
    )
    (same_but_line _ _ (closing_alike _ _ (text_alike (ys ++ newline ∷ []) _ _ (two_newlines (text_read first xs)))))

first_fresh : Fresh start
unfolding start
first_fresh = start_fresh 1 stage.Start command.Sides 0 (record { ahead = 0; behind = 0 }) 0

pub empty_first_line : (ys : List ℕ) → SameButLine (assemble (newline ∷ ys)) (assemble ys)
empty_first_line ys =
    rw (whole_read (newline ∷ ys), whole_read ys, read_append first (newline ∷ []) ys)
    (same_but_line _ _ (closing_alike _ _ (text_alike (newline ∷ []) _ _ (text_alike ys _ _ (fresh_alike first first_fresh)))))
