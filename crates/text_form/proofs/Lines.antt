-- Lines of events, words and tails: what the reader makes of each as it is written.
use mathlib.Core.Path.{◌≡◌, refl, ◌∙◌}
use mathlib.Core.Bool.{Bool, true, false, ◌&&◌}
use mathlib.Core.List.{List, [], ◌∷◌, ◌++◌, append-nil, append_assoc}
use Prim.Native.Nat.{ℕ, ◌+◌, ◌^◌, ◌<◌}
use native.Mathlib.Omega.{arith}
use borrow.Author.Tests.{lt-ltb, le-leb, leb-true, ltb-true}
use lib.Dec.{ltb, leb, eqb, lit≤}
use lib.ListN.{length}
use Rattle.io.specs.Digits.{last_digits}
use Rattle.bench_lines.specs.Decimal.{space, newline, decimal, spaced}
use Rattle.bench_lines.proofs.Decimals.{one_more_lem}
use Rattle.model.specs.Events.{word_of, parts_fit, is_timer}
use Rattle.model.specs.WellFormed.{Each, nil, cons}
use Rattle.model.specs.declared.event.Event.{Event}
use Rattle.model.specs.declared.event.Event.TheVariants.{On, Off, Notice, Contact, Timer, Deliver, Lose}
use Rattle.model.specs.declared.values.Sides.{Sides}
use Rattle.model.proofs.Laws.{and_left, and_right, and_in, or_right}
use Rattle.text_form.specs.declared.Command.{Command}
use Rattle.text_form.specs.declared.Command.TheVariants as command
use Rattle.text_form.specs.declared.Stage.{Stage}
use Rattle.text_form.specs.declared.Stage.TheVariants as stage
use Rattle.text_form.specs.declared.Expected.TheVariants as expected
use Rattle.text_form.specs.declared.Given.{Given}
use Rattle.text_form.specs.declared.Given.TheVariants as given
use Rattle.std.specs.Prelude.{Some}
use Rattle.text_form.specs.Names.{sides_name, keys_name, on_name, off_name, leave_name, notice_name, contact_name}
use Rattle.text_form.specs.Names.{timer_name, at_name, deliver_name, echo_name, lose_name, word_name, tail_name}
use Rattle.text_form.specs.Assemble.{Progress, grown, packed, parts, named_in, allowed, is_keys, is_later, stage_after, command_of}
use Rattle.text_form.specs.Assemble.{no_number, expected_at, line_given, given_bytes, given_keys, word_bytes, text_read}
use Rattle.text_form.specs.Describe.{event_text, raw_text}
use Rattle.text_form.proofs.Tokens.{Plain, Spells, Written, decimal_written, digits_spell, digits_written, spelled_is, token_there}
use Rattle.text_form.proofs.Reading.{reader, state, read_append, token_read, opened, first_word, not_keys, Suits, middle_word, last_word}

-- ---- a text takes the reader from p to q

pub record Leads (p : Progress) (text : List ℕ) (q : Progress) : Type 0 where
  pub is : text_read p text ≡ q

pub on : {p q r : Progress} {xs ys : List ℕ} → Leads p xs q → Leads q ys r → Leads p (xs ++ ys) r
on {p} {q} {r} {xs} {ys} a b = record { is = read_append p xs ys ∙ rw a.is b.is }

-- ---- names

is_plain : List ℕ → Bool
is_plain [] = true
is_plain (b ∷ bs) = leb 48 b && is_plain bs

all_plain : (bs : List ℕ) → is_plain bs ≡ true → Each Plain bs
unfolding is_plain
all_plain [] e = nil
all_plain (b ∷ bs) e = cons (record { above = leb-true 48 b (and_left _ _ e) }) (all_plain bs (and_right (leb 48 b) _ e))

-- the first word of lines of command d
pub record Named (name : List ℕ) (d : Command) : Type 0 where
  pub plain : Each Plain name
  pub there : eqb (packed 0 name) 0 ≡ false
  pub is : command_of (packed 0 name) ≡ Some d

pub record AllNamed : Type 0 where
  pub sides_is : Named sides_name command.Sides
  pub keys_is : Named keys_name command.Keys
  pub on_is : Named on_name command.On
  pub off_is : Named off_name command.Off
  pub leave_is : Named leave_name command.Leave
  pub notice_is : Named notice_name command.Notice
  pub contact_is : Named contact_name command.Contact
  pub timer_is : Named timer_name command.Timer
  pub deliver_is : Named deliver_name command.Deliver
  pub echo_is : Named echo_name command.Echo
  pub lose_is : Named lose_name command.Lose
  pub word_is : Named word_name command.Word
  pub tail_is : Named tail_name command.Tail

pub named : AllNamed
unfolding packed grown named_in is_plain
named =
    record {
      sides_is = record { plain = all_plain sides_name refl; there = refl; is = refl };
      keys_is = record { plain = all_plain keys_name refl; there = refl; is = refl };
      on_is = record { plain = all_plain on_name refl; there = refl; is = refl };
      off_is = record { plain = all_plain off_name refl; there = refl; is = refl };
      leave_is = record { plain = all_plain leave_name refl; there = refl; is = refl };
      notice_is = record { plain = all_plain notice_name refl; there = refl; is = refl };
      contact_is = record { plain = all_plain contact_name refl; there = refl; is = refl };
      timer_is = record { plain = all_plain timer_name refl; there = refl; is = refl };
      deliver_is = record { plain = all_plain deliver_name refl; there = refl; is = refl };
      echo_is = record { plain = all_plain echo_name refl; there = refl; is = refl };
      lose_is = record { plain = all_plain lose_name refl; there = refl; is = refl };
      word_is = record { plain = all_plain word_name refl; there = refl; is = refl };
      tail_is = record { plain = all_plain tail_name refl; there = refl; is = refl };
    }

-- ---- what numbers suit

module _ {bs : List ℕ} {n : ℕ} (w : Written 10 8 bs n) where
  node_suits : n < 64 → Suits expected.Node (packed 0 bs) n
  node_suits h = record { there = token_there w; fit = rw (spelled_is w (lit≤ tt)) (lt-ltb n 64 h); value = spelled_is w (lit≤ tt) }

  position_suits : n < 1024 → Suits expected.Position (packed 0 bs) n
  position_suits h = record { there = token_there w; fit = rw (spelled_is w (lit≤ tt)) (lt-ltb n 1024 h); value = spelled_is w (lit≤ tt) }

  timer_suits : is_timer n ≡ true → Suits expected.Timer (packed 0 bs) n
  timer_suits h = record { there = token_there w; fit = rw (spelled_is w (lit≤ tt)) h; value = spelled_is w (lit≤ tt) }

word_suits : (bs : List ℕ) (w : ℕ) → Written 16 8 bs w → Spells 16 8 (packed 0 bs) w → w < 2 ^ 32 → Suits expected.Word (packed 0 bs) w
word_suits bs w r e h =
    record {
      there = token_there r;
      fit = and_in (le-leb (2 ^ 56) (packed 0 bs) (omega (arith, e.low))) (rw (spelled_is r (lit≤ tt)) (lt-ltb w no_number h));
      value = spelled_is r (lit≤ tt);
    }

at_plain : is_plain at_name ≡ true
unfolding is_plain
at_plain = refl

at_suits : Suits expected.At (packed 0 at_name) 0
unfolding packed grown
at_suits = record { there = refl; fit = refl; value = refl }

-- ---- lines

-- the words of the opening, as long as they are still to come
unfoldable pub unopened : Stage → Sides → List ℕ → List ℕ
unopened stage.Start sides keys = []
unopened stage.Sides sides keys = []
unopened stage.Keys sides keys = given_bytes sides keys given.Opening
unopened stage.Events sides keys = []
unopened stage.End sides keys = []

pub opened_is : (s : Stage) (d : Command) (sides : Sides) (keys : List ℕ) → is_later d ≡ true → opened s d sides keys ≡ unopened s sides keys
unfolding opened unopened
opened_is stage.Start d sides keys h = refl
opened_is stage.Sides d sides keys h = refl
opened_is stage.Keys d sides keys h = rw (not_keys d h)
opened_is stage.Events d sides keys h = refl
opened_is stage.End d sides keys h = refl

module _ (line : ℕ) (s : Stage) (c : Command) (f : ℕ) (sides : Sides) (keys script : List ℕ) {name : List ℕ} {d : Command} (n : Named name d)
    (ok : allowed s (length keys) d ≡ true) where
  abbrev pub before : Progress
  before = state line 0 s c 0 f sides keys script

  abbrev pub script' : List ℕ
  script' = script ++ opened s d sides keys

  pub begins : (bs : List ℕ) → Each Plain bs → Leads before (name ++ space ∷ bs) (state line (packed 0 bs) (stage_after d) d 1 0 sides keys script')
  begins bs h =
      on {q = state line (packed 0 name) s c 0 f sides keys script} (record { is = token_read line s c 0 f sides keys script 0 name n.plain })
      (record { is = first_word line s c f sides keys script (packed 0 name) d bs n.there n.is ok h })

  module _ (later : is_later d ≡ true) where
    -- a line of one part
    pub one_part : (bs : List ℕ) (v : ℕ) (g : Given) → Each Plain bs
        → Suits (expected_at (reader line (packed 0 bs) (stage_after d) d 1 0 sides (length keys))) (packed 0 bs) v
        → leb (length (parts d)) 1 ≡ true → line_given d 0 v (packed 0 bs) ≡ g → given_keys g ≡ []
        → Leads before (name ++ space ∷ bs ++ newline ∷ []) (state (line + 1) 0 (stage_after d) d 0 v sides keys (script' ++ given_bytes sides keys g))
    one_part bs v g p h one is no_key =
        on (begins bs p) (record { is = last_word line (packed 0 bs) (stage_after d) d 1 0 sides keys script' v refl h later one g is no_key })

    -- of two
    two_parts : (xs ys : List ℕ) (u v : ℕ) (g : Given) → Each Plain xs → Each Plain ys
        → Suits (expected_at (reader line (packed 0 xs) (stage_after d) d 1 0 sides (length keys))) (packed 0 xs) u
        → Suits (expected_at (reader line (packed 0 ys) (stage_after d) d 2 u sides (length keys))) (packed 0 ys) v
        → leb (length (parts d)) 1 ≡ false → leb (length (parts d)) 2 ≡ true → line_given d u v (packed 0 ys) ≡ g → given_keys g ≡ []
        → Leads before (name ++ space ∷ xs ++ space ∷ ys ++ newline ∷ [])
        (state (line + 1) 0 (stage_after d) d 0 u sides keys (script' ++ given_bytes sides keys g))
    two_parts xs ys u v g p q h i more two is no_key =
        on
        (on (begins xs p) (record { is = middle_word line (packed 0 xs) (stage_after d) d 1 0 sides keys script' u refl h later more ys q }))
        (record { is = last_word line (packed 0 ys) (stage_after d) d 2 u sides keys script' v refl i later two g is no_key })

    -- of three
    three_parts : (xs ys zs : List ℕ) (t u v : ℕ) (g : Given) → Each Plain xs → Each Plain ys → Each Plain zs
        → Suits (expected_at (reader line (packed 0 xs) (stage_after d) d 1 0 sides (length keys))) (packed 0 xs) t
        → Suits (expected_at (reader line (packed 0 ys) (stage_after d) d 2 t sides (length keys))) (packed 0 ys) u
        → Suits (expected_at (reader line (packed 0 zs) (stage_after d) d 3 t sides (length keys))) (packed 0 zs) v
        → length (parts d) ≡ 3 → line_given d t v (packed 0 zs) ≡ g → given_keys g ≡ []
        → Leads before (name ++ space ∷ xs ++ space ∷ ys ++ space ∷ zs ++ newline ∷ [])
        (state (line + 1) 0 (stage_after d) d 0 t sides keys (script' ++ given_bytes sides keys g))
    three_parts xs ys zs t u v g p q r h i j three is no_key =
        on
        (on
        (on (begins xs p) (record { is = middle_word line (packed 0 xs) (stage_after d) d 1 0 sides keys script' t refl h later (rw three) ys q }))
        (record { is = middle_word line (packed 0 ys) (stage_after d) d 2 t sides keys script' u refl i later (rw three) zs r }))
        (record { is = last_word line (packed 0 zs) (stage_after d) d 3 t sides keys script' v refl j later (rw three) g is no_key })

-- ---- where lines of events may stand

pub data Later : Stage → Type 0 where
  after_keys : Later stage.Keys
  after_events : Later stage.Events

pub later_allowed : {s : Stage} → Later s → (n : ℕ) (d : Command) → is_later d ≡ true → allowed s n d ≡ true
later_allowed after_keys n d h = or_right (is_keys d && ltb n 64) h
later_allowed after_events n d h = h

-- ---- the line of an event

small : (n : ℕ) → n < 1024 → Written 10 8 (decimal n) n
small n h = decimal_written n (omega arith)

pub two_spaced : (a b : ℕ) → spaced (a ∷ b ∷ []) ≡ (space ∷ decimal a) ++ space ∷ decimal b
unfolding spaced
two_spaced a b = rw (append-nil (decimal b))

module _ (line : ℕ) (s : Stage) (c : Command) (f : ℕ) (sides : Sides) (keys script : List ℕ) where
  abbrev pub start : Progress
  start = state line 0 s c 0 f sides keys script

  -- the line gives the word w, after the words of the opening, if those are still to come
  pub record Gives (text : List ℕ) (w : ℕ) : Type 0 where
    pub command : Command
    pub first : ℕ
    pub leads : Leads start text (state (line + 1) 0 stage.Events command 0 first sides keys (script ++ unopened s sides keys ++ word_bytes w))

  given_by : {text : List ℕ} {d : Command} {w : ℕ} (first : ℕ) → is_later d ≡ true → stage_after d ≡ stage.Events
      → Leads start text (state (line + 1) 0 (stage_after d) d 0 first sides keys (script ++ opened s d sides keys ++ given_bytes sides keys (given.Word w)))
      → Gives text w
  unfolding given_bytes
  given_by {text} {d} {w} first h e l = record { command = d; first = first; leads = rw (e, opened_is s d sides keys h) at l }

  -- any word
  pub raw_line : (w : ℕ) → w < 2 ^ 32 → allowed s (length keys) command.Word ≡ true → Gives (raw_text w ++ newline ∷ []) w
  unfolding raw_text stage_after expected_at line_given given_keys
  raw_line w h ok =
      let r = digits_written 8 w (lit≤ tt) (lit≤ tt) h in
      given_by {d = command.Word} {w = w} w refl refl
      (one_part line s c f sides keys script named.word_is ok refl (last_digits 16 8 w) w (given.Word w) r.plain
      (word_suits (last_digits 16 8 w) w r (digits_spell 8 w (lit≤ tt) h) h) refl refl refl)

  module _ (ok : Later s) where
    -- a line of one number
    one_number : {name : List ℕ} {d : Command} (n : Named name d) (v w : ℕ) → is_later d ≡ true → stage_after d ≡ stage.Events
        → (r : Written 10 8 (decimal v) v)
        → Suits (expected_at (reader line (packed 0 (decimal v)) (stage_after d) d 1 0 sides (length keys))) (packed 0 (decimal v)) v
        → leb (length (parts d)) 1 ≡ true → line_given d 0 v (packed 0 (decimal v)) ≡ given.Word w → Gives (name ++ spaced (v ∷ []) ++ newline ∷ []) w
    unfolding given_keys
    one_number {d = d} n v w l e r h one is =
        given_by v l e
        (rw (← one_more_lem v) (one_part line s c f sides keys script n (later_allowed ok (length keys) d l) l
        (decimal v) v (given.Word w) r.plain h one is refl))

    -- of two
    two_numbers : {name : List ℕ} {d : Command} (n : Named name d) (u v w : ℕ) → is_later d ≡ true → stage_after d ≡ stage.Events
        → (q : Written 10 8 (decimal u) u) (r : Written 10 8 (decimal v) v)
        → Suits (expected_at (reader line (packed 0 (decimal u)) (stage_after d) d 1 0 sides (length keys))) (packed 0 (decimal u)) u
        → Suits (expected_at (reader line (packed 0 (decimal v)) (stage_after d) d 2 u sides (length keys))) (packed 0 (decimal v)) v
        → leb (length (parts d)) 1 ≡ false → leb (length (parts d)) 2 ≡ true → line_given d u v (packed 0 (decimal v)) ≡ given.Word w
        → Gives (name ++ spaced (u ∷ v ∷ []) ++ newline ∷ []) w
    unfolding given_keys
    two_numbers {name} {d = d} n u v w l e q r h i more two is =
        given_by u l e
        (rw (two_spaced u v, ← append_assoc name (space ∷ decimal u) (space ∷ decimal v))
        (two_parts line s c f sides keys script n (later_allowed ok (length keys) d l) l (decimal u)
        (decimal v) u v (given.Word w) q.plain r.plain h i more two is refl))

    pub event_line : (e : Event) → parts_fit e ≡ true → Gives (event_text e ++ newline ∷ []) (word_of e)
    unfolding event_text stage_after expected_at line_given given_keys
    event_line (On x) t =
        let h : x.0 < 64 = ltb-true x.0 64 t in
        let w = small x.0 (omega arith) in
        one_number named.on_is x.0 (word_of (On x)) refl refl w (node_suits w h) refl refl
    event_line (Off x false) t =
        let h : x.0 < 64 = ltb-true x.0 64 t in
        let w = small x.0 (omega arith) in
        one_number named.off_is x.0 (word_of (Off x false)) refl refl w (node_suits w h) refl refl
    event_line (Off x true) t =
        let h : x.0 < 64 = ltb-true x.0 64 t in
        let w = small x.0 (omega arith) in
        one_number named.leave_is x.0 (word_of (Off x true)) refl refl w (node_suits w h) refl refl
    event_line (Notice x z) t =
        let h : x.0 < 64 = ltb-true x.0 64 (and_left _ _ t) in
        let i : z.0 < 64 = ltb-true z.0 64 (and_right (ltb x.0 64) _ t) in
        let w = small x.0 (omega arith) in
        let v = small z.0 (omega arith) in
        two_numbers named.notice_is x.0 z.0 (word_of (Notice x z)) refl refl w v (node_suits w h) (node_suits v i) refl refl refl
    event_line (Contact x y) t =
        let h : x.0 < 64 = ltb-true x.0 64 (and_left _ _ t) in
        let i : y.0 < 64 = ltb-true y.0 64 (and_right (ltb x.0 64) _ t) in
        let w = small x.0 (omega arith) in
        let v = small y.0 (omega arith) in
        two_numbers named.contact_is x.0 y.0 (word_of (Contact x y)) refl refl w v (node_suits w h) (node_suits v i) refl refl refl
    event_line (Timer x k) t =
        let h : x.0 < 64 = ltb-true x.0 64 (and_left _ _ t) in
        let i : is_timer k ≡ true = and_right (ltb x.0 64) _ t in
        let w = small x.0 (omega arith) in
        let v = small k (omega (arith, leb-true k 4 (and_left _ _ i))) in
        given_by {d = command.Timer} {w = word_of (Timer x k)} k refl refl
        (rw (← one_more_lem x.0, ← one_more_lem k)
        (three_parts line s c f sides keys script named.timer_is (later_allowed ok (length keys) command.Timer refl) refl
        (decimal k) at_name (decimal x.0) k 0 x.0 (given.Word (word_of (Timer x k)))
        v.plain (all_plain at_name at_plain) w.plain (timer_suits v i) at_suits (node_suits w h) refl refl refl))
    event_line (Deliver i false) t =
        let h : i < 1024 = ltb-true i 1024 t in
        let w = small i h in
        one_number named.deliver_is i (word_of (Deliver i false)) refl refl w (position_suits w h) refl refl
    event_line (Deliver i true) t =
        let h : i < 1024 = ltb-true i 1024 t in
        let w = small i h in
        one_number named.echo_is i (word_of (Deliver i true)) refl refl w (position_suits w h) refl refl
    event_line (Lose i) t =
        let h : i < 1024 = ltb-true i 1024 t in
        let w = small i h in
        one_number named.lose_is i (word_of (Lose i)) refl refl w (position_suits w h) refl refl
