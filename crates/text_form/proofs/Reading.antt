-- A reader in a line: bytes of a token, its end by a blank or by the line's end, and the words of the line one by one.
use mathlib.Core.Path.{◌≡◌, refl}
use mathlib.Core.Bool.{Bool, true, false, not, ◌&&◌, ◌||◌}
use mathlib.Core.List.{List, [], ◌∷◌, ◌++◌, append-nil}
use Prim.Native.Nat.{ℕ, ◌+◌}
use native.Mathlib.Omega.{arith}
use borrow.Author.Tests.{lt-leb, lt-ltb, ne_eqb, leb-true}
use lib.Dec.{ltb, leb, eqb}
use lib.ListN.{length}
use Rattle.bench_lines.specs.Decimal.{space, newline}
use Rattle.std.specs.Prelude.{Some, if◌then◌else◌}
use Rattle.model.specs.WellFormed.{Each, nil, cons}
use Rattle.model.specs.declared.values.Sides.{Sides}
use Rattle.model.proofs.Laws.{clash, and_left, and_right, or_right}
use Rattle.text_form.specs.declared.Command.{Command}
use Rattle.text_form.specs.declared.Stage.{Stage}
use Rattle.text_form.specs.declared.Expected.{Expected}
use Rattle.text_form.specs.declared.Given.{Given}
use Rattle.text_form.specs.declared.Given.TheVariants as given
use Rattle.text_form.specs.declared.Reader.{Reader}
use Rattle.text_form.specs.Assemble.{Progress, grown, packed, parts, is_sides, is_keys, is_later, allowed, stage_after, opens, command_of, expected_at}
use Rattle.text_form.specs.Assemble.{value_of}
use Rattle.text_form.specs.Assemble.{fits, line_given, hash, silent, begun_by, begun, part_read, continued, token_ended, complete}
use Rattle.text_form.specs.Assemble.{line_ended, grown_by, byte_read, given_bytes, given_keys, advanced, text_read}
use Rattle.text_form.proofs.Tokens.{Plain}

-- a reader with no fault and not in a comment
abbrev pub reader : ℕ → ℕ → Stage → Command → ℕ → ℕ → Sides → ℕ → Reader
reader line token stage command place first sides keys =
    record {
      line = line;
      fault = false;
      comment = false;
      token = token;
      stage = stage;
      command = command;
      place = place;
      first = first;
      sides = sides;
      keys = keys;
    }

-- such a reader that has counted its keys
abbrev pub state : ℕ → ℕ → Stage → Command → ℕ → ℕ → Sides → List ℕ → List ℕ → Progress
state line token stage command place first sides keys script =
    record { reader = reader line token stage command place first sides (length keys); keys = keys; script = script }

pub read_append : (p : Progress) (xs ys : List ℕ) → text_read p (xs ++ ys) ≡ text_read (text_read p xs) ys
unfolding text_read
read_append p [] ys = refl
read_append p (x ∷ xs) ys = read_append (advanced p (byte_read p.reader x)) xs ys

-- nothing is given
pub nothing : (p : Progress) (r : Reader) → advanced p (silent r) ≡ record { reader = r; keys = p.keys; script = p.script }
unfolding advanced given_keys given_bytes
nothing p r = rw (append-nil p.keys, append-nil p.script)

module _ (line : ℕ) (s : Stage) (c : Command) (place f : ℕ) (sides : Sides) (keys script : List ℕ) where
  -- ---- the bytes of a token

  plain_byte :
      (t b : ℕ) → Plain b → byte_read (reader line t s c place f sides (length keys)) b
      ≡ silent (reader line (grown t b) s c place f sides (length keys))
  unfolding byte_read grown_by
  plain_byte t b h =
      rw (ne_eqb b newline (λ e. omega (arith, h.above)), ne_eqb b hash (λ e. omega (arith, h.above)), lt-leb b 32 (omega (arith, h.above)))

  pub token_read :
      (t : ℕ) (bs : List ℕ) → Each Plain bs → text_read (state line t s c place f sides keys script) bs
      ≡ state line (packed t bs) s c place f sides keys script
  unfolding text_read packed
  token_read t [] nil = refl
  token_read t (b ∷ bs) (cons h hs) =
      rw (plain_byte t b h, nothing (state line t s c place f sides keys script) (reader line (grown t b) s c place f sides (length keys)))
      (token_read (grown t b) bs hs)

-- ---- the first word of a line

none_of : (q : Bool) → not q ≡ true → q ≡ false
none_of true h = clash h refl
none_of false h = refl

pub not_sides : (c : Command) → is_later c ≡ true → is_sides c ≡ false
not_sides c h = none_of (is_sides c) (and_left (not (is_sides c)) _ h)

pub not_keys : (c : Command) → is_later c ≡ true → is_keys c ≡ false
not_keys c h = none_of (is_keys c) (and_right (not (is_sides c)) _ h)

-- the words of the opening, where the line is the first after the keys
unfoldable pub opened : Stage → Command → Sides → List ℕ → List ℕ
opened s c sides keys = if opens s c then given_bytes sides keys given.Opening else []

opening_given : (b : Bool) (p : Progress) (r : Reader) → advanced p (record { reader = r; given = if b then given.Opening else given.Nothing })
    ≡ record { reader = r; keys = p.keys; script = p.script ++ (if b then given_bytes r.sides p.keys given.Opening else []) }
unfolding advanced given_keys given_bytes
opening_given true p r = rw (append-nil p.keys)
opening_given false p r = rw (append-nil p.keys)

module _ (line : ℕ) (s : Stage) (c : Command) (f : ℕ) (sides : Sides) (keys script : List ℕ) where
  word_begins : (t : ℕ) (d : Command) → eqb t 0 ≡ false → command_of t ≡ Some d → allowed s (length keys) d ≡ true
      → byte_read (reader line t s c 0 f sides (length keys)) space
      ≡ record { reader = reader line 0 (stage_after d) d 1 0 sides (length keys); given = if opens s d then given.Opening else given.Nothing }
  unfolding byte_read token_ended begun begun_by
  word_begins t d there is ok = rw (there, is, ok)

  pub first_word : (t : ℕ) (d : Command) (bs : List ℕ) → eqb t 0 ≡ false → command_of t ≡ Some d → allowed s (length keys) d ≡ true → Each Plain bs
      → text_read (state line t s c 0 f sides keys script) (space ∷ bs)
      ≡ state line (packed 0 bs) (stage_after d) d 1 0 sides keys (script ++ opened s d sides keys)
  unfolding text_read opened
  first_word t d bs there is ok h =
      rw (
        word_begins t d there is ok,
        opening_given (opens s d) (state line t s c 0 f sides keys script) (reader line 0 (stage_after d) d 1 0 sides (length keys)),
      )
      (token_read line (stage_after d) d 1 0 sides keys (script ++ opened s d sides keys) 0 bs h)

-- ---- the other words of a line

-- a reader after the word t of value v, and what the word gave
abbrev pub part_given : Command → ℕ → ℕ → ℕ → ℕ → Given
part_given c place f v t = if leb (length (parts c)) place then line_given c f v t else given.Nothing

abbrev place_after : Command → ℕ → ℕ
place_after c place = if is_keys c then 2 else place + 1

abbrev first_after : ℕ → ℕ → ℕ → ℕ
first_after place f v = if eqb place 1 then v else f

abbrev sides_after : Command → ℕ → ℕ → ℕ → Sides → Sides
sides_after c place f v sides = if is_sides c && eqb place 2 then record { ahead = f; behind = v } else sides

abbrev keys_after : Command → ℕ → ℕ
keys_after c n = if is_keys c then n + 1 else n

-- the token t is what is expected, and has value v
pub record Suits (e : Expected) (t v : ℕ) : Type 0 where
  pub there : eqb t 0 ≡ false
  pub fit : fits e t ≡ true
  pub value : value_of e t ≡ v

module _ (line t : ℕ) (s : Stage) (c : Command) (place f : ℕ) (sides : Sides) (n v : ℕ) (in-line : eqb place 0 ≡ false)
    (h : Suits (expected_at (reader line t s c place f sides n)) t v) where
  part_ended : token_ended (reader line t s c place f sides n)
      ≡ record {
        reader = reader line 0 s c (place_after c place) (first_after place f v) (sides_after c place f v sides) (keys_after c n);
        given = part_given c place f v t;
      }
  unfolding token_ended continued part_read
  part_ended = rw (h.there, in-line, h.fit, h.value)

  pub by_blank : byte_read (reader line t s c place f sides n) space
      ≡ record {
        reader = reader line 0 s c (place_after c place) (first_after place f v) (sides_after c place f v sides) (keys_after c n);
        given = part_given c place f v t;
      }
  unfolding byte_read
  by_blank = part_ended

  pub by_newline : (eqb (place_after c place) 0 || ltb (length (parts c)) (place_after c place)) ≡ true
      → byte_read (reader line t s c place f sides n) newline
      ≡ record {
        reader = reader (line + 1) 0 s c 0 (first_after place f v) (sides_after c place f v sides) (keys_after c n);
        given = part_given c place f v t;
      }
  unfolding byte_read line_ended complete
  by_newline ok = rw (part_ended, ok)

-- ---- events, words and tails

-- what is given is no key
pub not_a_key : (p : Progress) (r : Reader) (g : Given) → given_keys g ≡ [] → advanced p (record { reader = r; given = g })
    ≡ record { reader = r; keys = p.keys; script = p.script ++ given_bytes r.sides p.keys g }
unfolding advanced
not_a_key p r g e = rw (e, append-nil p.keys)

module _ (line t : ℕ) (s : Stage) (c : Command) (place f : ℕ) (sides : Sides) (keys script : List ℕ) (v : ℕ) (in-line : eqb place 0 ≡ false)
    (h : Suits (expected_at (reader line t s c place f sides (length keys))) t v) (later : is_later c ≡ true) where
  no_sides : is_sides c ≡ false
  no_sides = not_sides c later

  no_keys : is_keys c ≡ false
  no_keys = not_keys c later

  -- a word that is not the last
  pub middle_word : leb (length (parts c)) place ≡ false → (bs : List ℕ) → Each Plain bs
      → text_read (state line t s c place f sides keys script) (space ∷ bs)
      ≡ state line (packed 0 bs) s c (place + 1) (first_after place f v) sides keys script
  unfolding text_read
  middle_word more bs p =
      rw (
        by_blank line t s c place f sides (length keys) v in-line h,
        no_sides,
        no_keys,
        more,
        nothing (state line t s c place f sides keys script)
            (reader line 0 s c (place + 1) (first_after place f v) sides (length keys)),
      )
      (token_read line s c (place + 1) (first_after place f v) sides keys script 0 bs p)

  ends : leb (length (parts c)) place ≡ true → (eqb (place_after c place) 0 || ltb (length (parts c)) (place_after c place)) ≡ true
  ends all = rw no_keys (or_right (eqb (place + 1) 0) (lt-ltb (length (parts c)) (place + 1) (omega (arith, leb-true (length (parts c)) place all))))

  pub last_word : leb (length (parts c)) place ≡ true → (g : Given) → line_given c f v t ≡ g → given_keys g ≡ []
      → text_read (state line t s c place f sides keys script) (newline ∷ [])
      ≡ state (line + 1) 0 s c 0 (first_after place f v) sides keys (script ++ given_bytes sides keys g)
  unfolding text_read
  last_word all g is no_key =
      rw (by_newline line t s c place f sides (length keys) v in-line h (ends all), no_sides, no_keys, all, is)
      (not_a_key (state line t s c place f sides keys script) (reader (line + 1) 0 s c 0 (first_after place f v) sides (length keys)) g no_key)
