-- Extra blanks and comments do not matter.
use mathlib.Core.Path.{◌≡◌, refl, sym, ap, ap₂, ◌∙◌}
use mathlib.Core.Bool.{Bool, true, false, ◌||◌}
use mathlib.Core.List.{List, [], ◌∷◌, ◌++◌, append_assoc}
use Prim.Native.Nat.{ℕ, ◌+◌, ◌≤◌}
use native.Mathlib.Omega.{arith}
use borrow.Author.Tests.{le-leb, ne_eqb}
use lib.Dec.{eqb}
use Rattle.bench_lines.specs.Decimal.{space, newline}
use Rattle.std.specs.Prelude.{if◌then◌else◌}
use Rattle.model.specs.WellFormed.{Each, nil, cons}
use Rattle.model.specs.declared.values.Sides.{Sides}
use Rattle.model.proofs.Laws.{clash, decide, if_law, or_case, or_left, or_right, or_none_left, or_none_right}
use Rattle.text_form.specs.declared.Command.{Command}
use Rattle.text_form.specs.declared.Reader.{Reader}
use Rattle.text_form.specs.declared.Step.{Step}
use Rattle.std.specs.Prelude.{Option, None, Some}
use Rattle.std.specs.Option.{option_map_or}
use Rattle.text_form.specs.Assemble.{begun_by, Progress, start, allowed, command_of, expected_at, fits, hash, silent, after}
use Rattle.text_form.specs.Assemble.{begun, part_read, continued, stopped, token_ended, complete, line_ended, commented}
use Rattle.text_form.specs.Assemble.{byte_read, given_bytes, given_keys, advanced, text_read, closed, assemble}
use Rattle.text_form.proofs.Reading.{read_append, nothing}

-- a blank: a space or another control character, but no newline
pub record Blank (b : ℕ) : Type 0 where
  pub low : b ≤ 32
  pub no_newline : b ≡ newline → ⊥

-- every blank reads as a space
blank_space : (r : Reader) (b : ℕ) → Blank b → byte_read r b ≡ byte_read r space
unfolding byte_read
blank_space r b h =
    rw (ne_eqb b newline h.no_newline, ne_eqb b hash (λ e. omega (arith, h.low)), le-leb b 32 h.low)

-- ---- where a token has ended

-- the reader has stopped, or has no token
Settled : Reader → Type 0
Settled r = (r.fault || eqb r.token 0) ≡ true

settled_line_begun : (r : Reader) → (o : Option Command) → Settled (option_map_or (begun_by r) o (silent (stopped r))).reader
unfolding Settled begun_by stopped
settled_line_begun r None = refl
settled_line_begun r (Some c) = if_law (λ (s : Step). Settled s.reader) (allowed r.stage r.keys c) _ _ (λ _. refl) (λ _. refl)

settled : (r : Reader) → Settled (token_ended r).reader
unfolding Settled token_ended begun continued part_read stopped
settled r =
    if_law (λ (s : Step). Settled s.reader) (eqb r.token 0) _ _
    (λ e. or_right r.fault e)
    (λ _. if_law (λ (s : Step). Settled s.reader) (eqb r.place 0) _ _
    (λ _. settled_line_begun r (command_of r.token))
    (λ _. if_law (λ (s : Step). Settled s.reader) (fits (expected_at r) r.token) _ _ (λ _. refl) (λ _. refl)))

settled_line : (r : Reader) → Settled r → Settled (line_ended r)
unfolding Settled line_ended stopped
settled_line r h =
    if_law (λ (q : Reader). Settled q) r.fault _ _ (λ _. h)
    (λ _. if_law (λ (q : Reader). Settled q) (complete r) _ _ (λ _. refl) (λ _. refl))

-- there a blank changes nothing
settled_blank : (r : Reader) → Settled r → byte_read r space ≡ silent r
unfolding Settled byte_read token_ended
settled_blank r h =
    or_case r.fault (eqb r.token 0) h (λ e. rw e) (λ e. rw e (same r.fault r.comment))
  where
    same : (a b : Bool) → (if a then silent r else (if b then silent r else silent r)) ≡ silent r
    same true b = refl
    same false true = refl
    same false false = refl

-- so does a blank after it has stopped, or in a comment
stopped_blank : (r : Reader) → r.fault ≡ true → byte_read r space ≡ silent r
unfolding byte_read
stopped_blank r e = rw e

comment_blank : (r : Reader) → r.comment ≡ true → byte_read r space ≡ silent r
unfolding byte_read
comment_blank r e = go r.fault r.comment e
  where
    go : (a b : Bool) → b ≡ true → (if a then silent r else (if b then silent r else token_ended r)) ≡ silent r
    go true b e = refl
    go false true e = refl
    go false false e = clash e refl

-- ---- a blank after a blank, after a line's end, and before one

after_blank : (r : Reader) → byte_read (byte_read r space).reader space ≡ silent (byte_read r space).reader
unfolding byte_read
after_blank r =
    if_law P r.fault _ _ (stopped_blank r)
    (λ _. if_law P r.comment _ _ (comment_blank r) (λ _. settled_blank (token_ended r).reader (settled r)))
  where
    P : Step → Type 0
    P s = byte_read s.reader space ≡ silent s.reader

after_newline : (r : Reader) → byte_read (byte_read r newline).reader space ≡ silent (byte_read r newline).reader
unfolding byte_read
after_newline r =
    if_law P r.fault _ _ (stopped_blank r)
    (λ _. settled_blank (line_ended (token_ended r).reader) (settled_line (token_ended r).reader (settled r)))
  where
    P : Step → Type 0
    P s = byte_read s.reader space ≡ silent s.reader

-- a byte that changes nothing, after another
no_change : (p : Progress) (s : Step) (b : ℕ) → byte_read s.reader b ≡ silent s.reader → text_read (advanced p s) (b ∷ []) ≡ advanced p s
unfolding text_read advanced
no_change p s b e = rw e (nothing (advanced p s) s.reader)

module _ (p : Progress) (b : ℕ) (h : Blank b) where
  pub blank_after_blank : (c : ℕ) → Blank c → text_read p (c ∷ b ∷ []) ≡ text_read p (space ∷ [])
  unfolding text_read
  blank_after_blank c i =
      rw (blank_space p.reader c i)
      (no_change p (byte_read p.reader space) b (blank_space (byte_read p.reader space).reader b h ∙ after_blank p.reader))

  pub blank_after_newline : text_read p (newline ∷ b ∷ []) ≡ text_read p (newline ∷ [])
  unfolding text_read
  blank_after_newline = no_change p (byte_read p.reader newline) b (blank_space (byte_read p.reader newline).reader b h ∙ after_newline p.reader)

-- the end of a line where a token has ended
line_stopped : (r : Reader) → r.fault ≡ true → line_ended r ≡ r
unfolding line_ended
line_stopped r e = go r.fault _ e
  where
    go : (a : Bool) (q : Reader) → a ≡ true → (if a then r else q) ≡ r
    go true q e = refl
    go false q e = clash e refl

pub newline_stopped : (r : Reader) → r.fault ≡ true → byte_read r newline ≡ silent r
unfolding byte_read
newline_stopped r e = rw e

pub newline_read : (r : Reader) → r.fault ≡ false → byte_read r newline ≡ after (token_ended r) line_ended
unfolding byte_read
newline_read r e = rw e

no_token : (r : Reader) → eqb r.token 0 ≡ true → token_ended r ≡ silent r
unfolding token_ended
no_token r e = rw e

settled_newline : (r : Reader) → Settled r → byte_read r newline ≡ silent (line_ended r)
unfolding Settled
settled_newline r h =
    decide r.fault there
    (λ f. or_case r.fault (eqb r.token 0) h there (λ e. newline_read r f ∙ ap (λ (s : Step). after s line_ended) (no_token r e)))
  where
    there : r.fault ≡ true → byte_read r newline ≡ silent (line_ended r)
    there e = newline_stopped r e ∙ ap (λ (q : Reader). silent q) (sym (line_stopped r e))

line_sides : (r : Reader) → (line_ended r).sides ≡ r.sides
unfolding line_ended stopped
line_sides r =
    if_law (λ (q : Reader). q.sides ≡ r.sides) r.fault _ _ (λ _. refl)
    (λ _. if_law (λ (q : Reader). q.sides ≡ r.sides) (complete r) _ _ (λ _. refl) (λ _. refl))

-- what a token gives, then the end of its line
then_ended : (p : Progress) (s : Step) → advanced (advanced p s) (silent (line_ended s.reader)) ≡ advanced p (after s line_ended)
unfolding advanced
then_ended p s = nothing (advanced p s) (line_ended s.reader) ∙ rw (line_sides s.reader)

-- after a byte that changes nothing, another reads as it would have
kept_read : (p : Progress) (b c : ℕ) → byte_read p.reader b ≡ silent p.reader → text_read p (b ∷ c ∷ []) ≡ text_read p (c ∷ [])
unfolding text_read
kept_read p b c e = rw (e, nothing p p.reader)

pub one_step : (p : Progress) (b : ℕ) (s : Step) → byte_read p.reader b ≡ s → text_read p (b ∷ []) ≡ advanced p s
unfolding text_read
one_step p b s e = rw e

pub two_steps :
    (p : Progress) (b c : ℕ) (s u : Step) → byte_read p.reader b
    ≡ s → byte_read s.reader c
    ≡ u → text_read p (b ∷ c ∷ [])
    ≡ advanced (advanced p s) u
unfolding text_read advanced
two_steps p b c s u e f = rw (e, f)

space_read : (r : Reader) → r.fault ≡ false → r.comment ≡ false → byte_read r space ≡ token_ended r
unfolding byte_read
space_read r e f = rw (e, f)

module _ (p : Progress) (b : ℕ) (h : Blank b) where
  abbrev ended : Step
  ended = token_ended p.reader

  blank_ends : p.reader.fault ≡ false → p.reader.comment ≡ false → text_read p (b ∷ newline ∷ []) ≡ text_read p (newline ∷ [])
  blank_ends e f =
      two_steps p b newline ended (silent (line_ended ended.reader)) (blank_space p.reader b h ∙ space_read p.reader e f)
      (settled_newline ended.reader (settled p.reader))
      ∙ then_ended p ended
      ∙ sym (one_step p newline (after ended line_ended) (newline_read p.reader e))

  pub blank_before_newline : text_read p (b ∷ newline ∷ []) ≡ text_read p (newline ∷ [])
  blank_before_newline =
      decide p.reader.fault (λ e. kept_read p b newline (blank_space p.reader b h ∙ stopped_blank p.reader e))
      (λ e. decide p.reader.comment (λ f. kept_read p b newline (blank_space p.reader b h ∙ comment_blank p.reader f)) (blank_ends e))

-- ---- comments

-- bytes of a comment, or after the reader has stopped
in_comment : (r : Reader) (b : ℕ) → (b ≡ newline → ⊥) → (r.fault || r.comment) ≡ true → byte_read r b ≡ silent r
unfolding byte_read
in_comment r b h e = rw (ne_eqb b newline h) (go r.fault r.comment _ e)
  where
    go : (a c : Bool) (s : Step) → (a || c) ≡ true → (if a then silent r else (if c then silent r else s)) ≡ silent r
    go true c s e = refl
    go false true s e = refl
    go false false s e = clash e refl

comment_read : (p : Progress) (bs : List ℕ) → Each (λ b. b ≡ newline → ⊥) bs → (p.reader.fault || p.reader.comment) ≡ true → text_read p bs ≡ p
unfolding text_read
comment_read p [] nil e = refl
comment_read p (b ∷ bs) (cons h hs) e = rw (in_comment p.reader b h e, nothing p p.reader) (comment_read p bs hs e)

-- the reader with these marks
abbrev marked : Reader → Bool → Bool → Reader
marked r fault comment =
    record {
      line = r.line;
      fault = fault;
      comment = comment;
      token = r.token;
      stage = r.stage;
      command = r.command;
      place = r.place;
      first = r.first;
      sides = r.sides;
      keys = r.keys;
    }

-- what can be seen of a reader: whether a stopped one is in a comment cannot
pub seen_reader : Reader → Reader
seen_reader r = if r.fault then marked r r.fault false else r

pub seen : Progress → Progress
seen p = record { reader = seen_reader p.reader; keys = p.keys; script = p.script }

-- the line's end, in a comment and out of it
seen_line : (r : Reader) → seen_reader (line_ended (commented r)) ≡ seen_reader (line_ended r)
unfolding seen_reader line_ended commented stopped complete
seen_line r = go r.fault (complete r)
  where
    next : Reader
    next =
        record {
          line = r.line + 1;
          fault = false;
          comment = false;
          token = 0;
          stage = r.stage;
          command = r.command;
          place = 0;
          first = r.first;
          sides = r.sides;
          keys = r.keys;
        }

    go :
        (a c : Bool)
        → seen_reader (if a then marked r a true else (if c then next else marked r true true))
        ≡ seen_reader (if a then marked r a r.comment else (if c then next else marked r true r.comment))
    go true c = refl
    go false true = refl
    go false false = refl

hash_read : (r : Reader) → (r.fault || r.comment) ≡ false → byte_read r hash ≡ after (token_ended r) commented
unfolding byte_read
hash_read r e = rw (or_none_left r.fault r.comment e, or_none_right r.fault r.comment e)

hash_begins : (r : Reader) → ((byte_read r hash).reader.fault || (byte_read r hash).reader.comment) ≡ true
unfolding byte_read commented
hash_begins r =
    if_law P r.fault _ _ (λ e. or_left r.comment e)
    (λ _. if_law P r.comment _ _ (λ e. or_right r.fault e) (λ _. or_right (token_ended r).reader.fault refl))
  where
    P : Step → Type 0
    P s = (s.reader.fault || s.reader.comment) ≡ true

module _ (p : Progress) where
  comment_whole : (bs : List ℕ) → Each (λ b. b ≡ newline → ⊥) bs → text_read p (hash ∷ bs) ≡ text_read p (hash ∷ [])
  unfolding text_read advanced
  comment_whole bs h = comment_read (advanced p (byte_read p.reader hash)) bs h (hash_begins p.reader)

  -- what a token gives, then a comment and the end of its line
  then_commented :
      (s : Step) → seen (advanced (advanced p (after s commented)) (silent (line_ended (commented s.reader))))
      ≡ seen (advanced p (after s line_ended))
  unfolding seen advanced commented
  then_commented s = ap seen (nothing (advanced p (after s commented)) (line_ended (commented s.reader)))
      ∙ ap₂ at (seen_line s.reader) (sym (line_sides s.reader))
    where
      at : Reader → Sides → Progress
      at r sides = record { reader = r; keys = p.keys ++ given_keys s.given; script = p.script ++ given_bytes sides p.keys s.given }

  settled_comment : (r : Reader) → Settled r → Settled (commented r)
  unfolding Settled commented
  settled_comment r h = h

  comment_ends : seen (text_read p (hash ∷ newline ∷ [])) ≡ seen (text_read p (newline ∷ []))
  comment_ends =
      decide (p.reader.fault || p.reader.comment)
      (λ e. ap seen (kept_read p hash newline (in_comment p.reader hash (λ i. omega arith) e)))
      (λ e.
      ap seen
      (two_steps p hash newline (after s commented) (silent (line_ended (commented s.reader))) (hash_read p.reader e)
      (settled_newline (commented s.reader) (settled_comment s.reader (settled p.reader))))
      ∙ then_commented s
      ∙ ap seen (sym (one_step p newline (after s line_ended) (newline_read p.reader (or_none_left p.reader.fault p.reader.comment e)))))
    where
      s : Step
      s = token_ended p.reader

  pub comment_line : (bs : List ℕ) → Each (λ b. b ≡ newline → ⊥) bs → seen (text_read p (hash ∷ bs ++ newline ∷ [])) ≡ seen (text_read p (newline ∷ []))
  unfolding text_read
  comment_line bs h = ap seen (read_append p (hash ∷ bs) (newline ∷ []) ∙ ap (λ (q : Progress). text_read q (newline ∷ [])) (comment_whole bs h)) ∙ comment_ends

-- ---- in a text

-- a reader that has stopped reads no further
stopped_read : (p : Progress) (xs : List ℕ) → p.reader.fault ≡ true → text_read p xs ≡ p
unfolding text_read byte_read
stopped_read p [] e = refl
stopped_read p (x ∷ xs) e = rw (stays p.reader x e, nothing p p.reader) (stopped_read p xs e)
  where
    stays : (r : Reader) (b : ℕ) → r.fault ≡ true → byte_read r b ≡ silent r
    stays r b i = rw i

seen_running : (p : Progress) → p.reader.fault ≡ false → seen p ≡ p
unfolding seen seen_reader
seen_running p e = go p.reader.fault _ e
  where
    go : (a : Bool) (q : Reader) → a ≡ false → ◌≡◌ {A = Progress} (record { reader = if a then q else p.reader; keys = p.keys; script = p.script }) p
    go true q e = clash refl e
    go false q e = refl

seen_fault : (p : Progress) → (seen p).reader.fault ≡ p.reader.fault
unfolding seen seen_reader
seen_fault p = if_law (λ (r : Reader). r.fault ≡ p.reader.fault) p.reader.fault _ _ (λ _. refl) (λ _. refl)

seen_twice : (p : Progress) → seen (seen p) ≡ seen p
unfolding seen seen_reader
seen_twice p = go p.reader.fault
  where
    at : Bool → Progress
    at fault = record { reader = marked p.reader fault p.reader.comment; keys = p.keys; script = p.script }

    go : (a : Bool) → seen (seen (at a)) ≡ seen (at a)
    go true = refl
    go false = refl

-- what is read on is seen alike, and so is the end
seen_on : (p : Progress) (xs : List ℕ) → seen (text_read (seen p) xs) ≡ seen (text_read p xs)
seen_on p xs =
    decide p.reader.fault
    (λ e. ap seen (stopped_read (seen p) xs (seen_fault p ∙ e)) ∙ seen_twice p ∙ ap seen (sym (stopped_read p xs e)))
    (λ e. ap (λ (q : Progress). seen (text_read q xs)) (seen_running p e))

unfoldable pub closing : Progress → Progress
closing p = advanced p (closed p.reader)

closed_stopped : (r : Reader) → r.fault ≡ true → closed r ≡ silent r
unfolding closed
closed_stopped r e = rw e

stopped_closes : (p : Progress) → p.reader.fault ≡ true → closing p ≡ p
unfolding closing
stopped_closes p e = ap (advanced p) (closed_stopped p.reader e) ∙ nothing p p.reader

seen_closed : (p : Progress) → seen (closing (seen p)) ≡ seen (closing p)
seen_closed p =
    decide p.reader.fault
    (λ e. ap seen (stopped_closes (seen p) (seen_fault p ∙ e)) ∙ seen_twice p ∙ ap seen (sym (stopped_closes p e)))
    (λ e. ap (λ (q : Progress). seen (closing q)) (seen_running p e))

-- ---- whole texts

abbrev pub first : Progress
first = record { reader = start; keys = []; script = [] }

parts_read : (p : Progress) (xs ys zs : List ℕ) → text_read p (xs ++ ys ++ zs) ≡ text_read (text_read (text_read p xs) ys) zs
parts_read p xs ys zs = read_append p (xs ++ ys) zs ∙ ap (λ (q : Progress). text_read q zs) (read_append p xs ys)

pub ended_read : (xs ys zs : List ℕ) → assemble (xs ++ ys ++ zs) ≡ closing (text_read (text_read (text_read first xs) ys) (zs ++ newline ∷ []))
unfolding assemble closing
ended_read xs ys zs =
    ap closing (ap (text_read first) (append_assoc (xs ++ ys) zs (newline ∷ [])) ∙ parts_read first xs ys (zs ++ newline ∷ []))

-- parts that read alike may stand for each other
module _ (xs ys ys' zs : List ℕ) where
  same_text : ((p : Progress) → text_read p ys ≡ text_read p ys') → assemble (xs ++ ys ++ zs) ≡ assemble (xs ++ ys' ++ zs)
  same_text h = ended_read xs ys zs ∙ ap (λ (p : Progress). closing (text_read p (zs ++ newline ∷ []))) (h (text_read first xs)) ∙ sym (ended_read xs ys' zs)

  seen_text : ((p : Progress) → seen (text_read p ys) ≡ seen (text_read p ys')) → seen (assemble (xs ++ ys ++ zs)) ≡ seen (assemble (xs ++ ys' ++ zs))
  seen_text h = ap seen (ended_read xs ys zs) ∙ alike ∙ ap seen (sym (ended_read xs ys' zs))
    where
      rest : Progress → Progress
      rest p = text_read p (zs ++ newline ∷ [])

      to_seen : (p : Progress) → seen (closing (rest (seen p))) ≡ seen (closing (rest p))
      to_seen p = sym (seen_closed (rest (seen p))) ∙ ap (λ (q : Progress). seen (closing q)) (seen_on p (zs ++ newline ∷ [])) ∙ seen_closed (rest p)

      alike : seen (closing (rest (text_read (text_read first xs) ys))) ≡ seen (closing (rest (text_read (text_read first xs) ys')))
      alike = sym (to_seen (text_read (text_read first xs) ys))
          ∙ ap (λ (q : Progress). seen (closing (rest q))) (h (text_read first xs)) ∙ to_seen (text_read (text_read first xs) ys')

-- what a user is told of a text: the fault, if there is one, where it is and what was expected, and the script
pub record Alike (p q : Progress) : Type 0 where
  pub fault : p.reader.fault ≡ q.reader.fault
  pub line : p.reader.line ≡ q.reader.line
  pub expected : expected_at p.reader ≡ expected_at q.reader
  pub script : p.script ≡ q.script

seen_line_number : (p : Progress) → (seen p).reader.line ≡ p.reader.line
unfolding seen seen_reader
seen_line_number p = if_law (λ (r : Reader). r.line ≡ p.reader.line) p.reader.fault _ _ (λ _. refl) (λ _. refl)

seen_expected : (p : Progress) → expected_at (seen p).reader ≡ expected_at p.reader
unfolding seen seen_reader expected_at
seen_expected p = if_law (λ (r : Reader). expected_at r ≡ expected_at p.reader) p.reader.fault _ _ (λ _. refl) (λ _. refl)

seen_script : (p : Progress) → (seen p).script ≡ p.script
unfolding seen
seen_script p = refl

alike : (p q : Progress) → seen p ≡ seen q → Alike p q
alike p q e =
    record {
      fault = sym (seen_fault p) ∙ ap (λ (s : Progress). s.reader.fault) e ∙ seen_fault q;
      line = sym (seen_line_number p) ∙ ap (λ (s : Progress). s.reader.line) e ∙ seen_line_number q;
      expected = sym (seen_expected p) ∙ ap (λ (s : Progress). expected_at s.reader) e ∙ seen_expected q;
      script = sym (seen_script p) ∙ ap (λ (s : Progress). s.script) e ∙ seen_script q;
    }

module _ (xs ys : List ℕ) where
  -- every blank is as good as a space, and two are as good as one
  pub any_blank : (b : ℕ) → Blank b → assemble (xs ++ b ∷ ys) ≡ assemble (xs ++ space ∷ ys)
  unfolding text_read
  any_blank b h =
      rw (← append_assoc xs (b ∷ []) ys, ← append_assoc xs (space ∷ []) ys)
      (same_text xs (b ∷ []) (space ∷ []) ys (λ p. one_step p b (byte_read p.reader space) (blank_space p.reader b h)))

  pub two_blanks : (b c : ℕ) → Blank b → Blank c → assemble (xs ++ b ∷ c ∷ ys) ≡ assemble (xs ++ space ∷ ys)
  two_blanks b c h i =
      rw (← append_assoc xs (b ∷ c ∷ []) ys, ← append_assoc xs (space ∷ []) ys)
      (same_text xs (b ∷ c ∷ []) (space ∷ []) ys (λ p. blank_after_blank p c i b h))

  -- at the start of a line, and at its end, blanks do not matter
  pub blank_begins_line : (b : ℕ) → Blank b → assemble (xs ++ newline ∷ b ∷ ys) ≡ assemble (xs ++ newline ∷ ys)
  blank_begins_line b h =
      rw (← append_assoc xs (newline ∷ b ∷ []) ys, ← append_assoc xs (newline ∷ []) ys)
      (same_text xs (newline ∷ b ∷ []) (newline ∷ []) ys (λ p. blank_after_newline p b h))

  pub blank_ends_line : (b : ℕ) → Blank b → assemble (xs ++ b ∷ newline ∷ ys) ≡ assemble (xs ++ newline ∷ ys)
  blank_ends_line b h =
      rw (← append_assoc xs (b ∷ newline ∷ []) ys, ← append_assoc xs (newline ∷ []) ys)
      (same_text xs (b ∷ newline ∷ []) (newline ∷ []) ys (λ p. blank_before_newline p b h))

  -- nor does a comment
  pub comment_ends_line : (bs : List ℕ) → Each (λ b. b ≡ newline → ⊥) bs → Alike (assemble (xs ++ (hash ∷ bs ++ newline ∷ ys))) (assemble (xs ++ newline ∷ ys))
  comment_ends_line bs h =
      let e : xs ++ (hash ∷ bs ++ newline ∷ ys) ≡ xs ++ (hash ∷ bs ++ newline ∷ []) ++ ys = simp append_assoc in
      rw (e, ← append_assoc xs (newline ∷ []) ys)
      (alike _ _ (seen_text xs (hash ∷ bs ++ newline ∷ []) (newline ∷ []) ys (λ p. comment_line p bs h)))

-- at the start of a text, and at its end

started : byte_read start space ≡ silent start
unfolding start Settled
started = settled_blank start refl

pub whole_read : (xs : List ℕ) → assemble xs ≡ closing (text_read (text_read first xs) (newline ∷ []))
unfolding assemble closing
whole_read xs = ap closing (read_append first xs (newline ∷ []))

pub blank_begins_text : (b : ℕ) (ys : List ℕ) → Blank b → assemble (b ∷ ys) ≡ assemble ys
blank_begins_text b ys h =
    whole_read (b ∷ ys)
    ∙ ap (λ (p : Progress). closing (text_read p (newline ∷ []))) (read_append first (b ∷ []) ys ∙ ap (λ (p : Progress). text_read p ys) kept)
    ∙ sym (whole_read ys)
  where
    kept : text_read first (b ∷ []) ≡ first
    kept = one_step first b (silent start) (blank_space start b h ∙ started) ∙ nothing first start

pub comment_ends_text : (xs bs : List ℕ) → Each (λ b. b ≡ newline → ⊥) bs → Alike (assemble (xs ++ hash ∷ bs)) (assemble xs)
comment_ends_text xs bs h =
    alike _ _
    (ap seen
    (whole_read (xs ++ hash ∷ bs)
    ∙ ap closing
    (sym (read_append first (xs ++ hash ∷ bs) (newline ∷ []))
    ∙ ap (text_read first) (append_assoc xs (hash ∷ bs) (newline ∷ []))
    ∙ read_append first xs (hash ∷ bs ++ newline ∷ [])))
    ∙ sym (seen_closed (text_read (text_read first xs) (hash ∷ bs ++ newline ∷ [])))
    ∙ ap (λ (p : Progress). seen (closing p)) (comment_line (text_read first xs) bs h)
    ∙ seen_closed (text_read (text_read first xs) (newline ∷ []))
    ∙ ap seen (sym (whole_read xs)))
