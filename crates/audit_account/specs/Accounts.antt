-- The account of a script: what each event leaves in it and prints.
use Rattle.std.specs.Prelude.{ℕ, ◌+◌, ◌-◌, Bool, false, ◌&&◌, ◌||◌, List, [], ◌∷◌, ◌++◌, ltb, eqb, length, get_or, if◌then◌else◌}
use Rattle.bench_lines.specs.Decimal.{decimal, newline}
use Rattle.text_form.specs.Ascii.{ascii}
use Rattle.text_form.specs.Describe.{word_text}
use Rattle.model.specs.Fields.{bit}
use Rattle.model.specs.Leafset.{size}
use Rattle.model.specs.Ring.{Ring}
use Rattle.model.specs.Events.{event_of}
use Rattle.model.specs.Play.{play_word}
use Rattle.model.specs.Connection.{groups}
use Rattle.audit_account.specs.Points.{acknowledgements, is_point, is_uncovered_word, is_on, is_off, is_notice}
use Rattle.audit_account.specs.Partings.{parts, sides_text}
use Rattle.audit_account.specs.declared.Account.{Account}
use Rattle.audit_account.specs.declared.Entry.{Entry}

-- ---- what is kept

unfoldable pub opened : Account
opened =
    record {
      count = 0;
      point = 0;
      uncovered = 0;
      on = false;
      off = false;
      notice = false;
      partings = 0;
      ons = 0;
      offs = 0;
      notices = 0;
    }

-- the word w is played on r
unfoldable pub noted : Account → Ring → ℕ → Account
noted a r w =
    record {
      count = a.count + 1;
      point = a.point;
      uncovered = a.uncovered + bit u;
      on = a.on || u && is_on (event_of w);
      off = a.off || u && is_off (event_of w);
      notice = a.notice || u && is_notice (event_of w);
      partings = a.partings;
      ons = a.ons;
      offs = a.offs;
      notices = a.notices;
    }
  where
    u : Bool
    u = is_uncovered_word r w

-- nodes were parted
unfoldable pub counted : Account → Account
counted a =
    record {
      count = a.count;
      point = a.point;
      uncovered = a.uncovered;
      on = a.on;
      off = a.off;
      notice = a.notice;
      partings = a.partings + 1;
      ons = a.ons + bit a.on;
      offs = a.offs + bit a.off;
      notices = a.notices + bit a.notice;
    }

-- the promise may begin here
unfoldable pub begun : Account → Account
begun a =
    record {
      count = a.count;
      point = a.count;
      uncovered = 0;
      on = false;
      off = false;
      notice = false;
      partings = a.partings;
      ons = a.ons;
      offs = a.offs;
      notices = a.notices;
    }

-- how many of them are listed in a verdict
abbrev pub most : ℕ
most = 16

-- the ring, the account, and the first events since the point that the promise does not cover
pub record Standing : Type 0 where
  pub ring : Ring
  pub account : Account
  pub listed : List Entry

-- the word w is noted, and listed if it is not covered
unfoldable pub entered : Standing → ℕ → List Entry
entered s w =
    s.listed
    ++ (if is_uncovered_word s.ring w && ltb s.account.uncovered most
    then record { number = s.account.count + 1; word = w } ∷ []
    else [])

-- the account when the event's lines are printed
unfoldable pub after_parting : Standing → ℕ → Account
after_parting s w =
    if parts s.ring (play_word s.ring w).ring
    then counted (noted s.account s.ring w)
    else noted s.account s.ring w

unfoldable pub played : Standing → ℕ → Standing
played s w =
    if is_point (play_word s.ring w).ring
    then record { ring = (play_word s.ring w).ring; account = begun (after_parting s w); listed = [] }
    else record { ring = (play_word s.ring w).ring; account = after_parting s w; listed = entered s w }

-- ---- what is printed

-- an answer in words; 12 to 16, and those after 17, are no event's
abbrev pub answer_texts : List (List ℕ)
answer_texts =
    ascii "accepted"
    ∷ ascii "refused, 1: a ring buffer is not 13,441 words"
    ∷ ascii "refused, 2: n, A or B is out of range"
    ∷ ascii "refused, 3: a key is too big, or two are equal"
    ∷ ascii "refused, 4: not an event"
    ∷ ascii "refused, 5: a node with itself"
    ∷ ascii "refused, 6: the words do not read as a ring"
    ∷ ascii "refused, 7: no such node, or no such message"
    ∷ ascii "refused, 8: the node is off"
    ∷ ascii "refused, 9: the node runs already"
    ∷ ascii "refused, 10: the clock is spent"
    ∷ ascii "refused, 11: more than 1,024 messages would be in flight"
    ∷ []
    ∷ []
    ∷ []
    ∷ []
    ∷ []
    ∷ ascii "refused, 17: a sender would have more than 256 in flight"
    ∷ []

unfoldable pub answer_text : ℕ → List ℕ
answer_text answer = get_or answer_texts answer []

-- the line of a script that opens no ring: "word 0 with m = 0 (any fault is 2), n key words with running 0 (a wrong one is
-- 3, a missing or cut one 2)"
unfoldable pub no_ring_text : ℕ → List ℕ
no_ring_text refusal =
    if eqb refusal 2
    then ascii "no ring: refused, 2: the first word is at fault, or a key is missing\n"
    else ascii "no ring: refused, 3: a key is at fault, or two are equal\n"

-- what is in flight, and how many groups there are
unfoldable pub state_text : Ring → List ℕ
state_text r =
    ascii "; in flight "
    ++ decimal (length r.messages)
    ++ ascii ", acknowledgements "
    ++ decimal (acknowledgements r)
    ++ ascii ", groups "
    ++ decimal (groups r)
    ++ newline
    ∷ []

-- event k: its text, its answer, and what it leaves
unfoldable pub event_text : ℕ → List ℕ → ℕ → Ring → List ℕ
event_text k text answer r = decimal k ++ ascii " " ++ text ++ ascii ": " ++ answer_text answer ++ state_text r

unfoldable pub entry_text : Entry → List ℕ
entry_text e = ascii "    " ++ decimal e.number ++ ascii " " ++ word_text e.word ++ newline ∷ []

unfoldable pub entries_text : List Entry → List ℕ
entries_text [] = []
entries_text (e ∷ es) = entry_text e ++ entries_text es

-- more events than are listed
unfoldable pub more_text : ℕ → List ℕ
more_text k = if ltb most k then ascii "    and " ++ decimal (k - most) ++ ascii " more" ++ newline ∷ [] else []

-- the last point, and the events since it that the promise does not cover
unfoldable pub verdict_text : Account → List Entry → List ℕ
verdict_text a es =
    ascii "  the promise last began after event "
    ++ decimal a.point
    ++ ascii "; it does not cover, since then:"
    ++ newline
    ∷ entries_text es
    ++ more_text a.uncovered

unfoldable pub parted_text : ℕ → Ring → Ring → List ℕ
parted_text k r r' = ascii "parted at event " ++ decimal k ++ ascii ":" ++ sides_text r r' (size r.table) ++ newline ∷ []

-- all that a word prints
unfoldable pub word_lines : Standing → ℕ → List ℕ
word_lines s w =
    event_text (s.account.count + 1) (word_text w) (play_word s.ring w).answer (play_word s.ring w).ring
    ++ (if parts s.ring (play_word s.ring w).ring
    then parted_text (s.account.count + 1) s.ring (play_word s.ring w).ring
    ++ verdict_text (noted s.account s.ring w) (entered s w)
    else [])

-- the last line
unfoldable pub end_text : Account → List ℕ
end_text a =
    if eqb a.partings 0 then ascii "never parted" ++ newline ∷ []
    else ascii "times parted: "
    ++ decimal a.partings
    ++ ascii "; an on in the verdict: "
    ++ decimal a.ons
    ++ ascii ", an off: "
    ++ decimal a.offs
    ++ ascii ", a wrong notice: "
    ++ decimal a.notices
    ++ newline
    ∷ []
