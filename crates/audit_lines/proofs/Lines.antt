-- Lines, put part after part.
use mathlib.Core.Path.{◌≡◌, refl, sym, ap, ◌∙◌}
use mathlib.Core.Bool.{Bool, true, false}
use mathlib.Core.List.{List, [], ◌∷◌, ◌++◌, append_assoc, append-nil}
use Prim.Native.Nat.{ℕ, ◌+◌, ◌*◌, ◌-◌, ◌≤◌, ◌<◌}
use native.Mathlib.Omega.{arith}
use borrow.Author.Tests.{eq-eqb, ne_eqb, lt-ltb, le-ltb}
use lib.ListN.{length, get_or, take}
use Rattle.std.specs.Prelude.{if◌then◌else◌}
use Rattle.bench_lines.specs.Decimal.{decimal, newline}
use Rattle.bench_lines.specs.Put.{Put}
use Rattle.bench_lines.proofs.Puts.{put_none, put_as, put_more}
use Rattle.model.specs.Ring.{Ring}
use Rattle.text_form.specs.Ascii.{ascii}
use Rattle.audit_account.specs.Points.{acknowledgements}
use Rattle.text_form.specs.Describe.{word_text}
use Rattle.audit_account.specs.Accounts.{most, answer_text, state_text, event_text, entry_text, entries_text, more_text, verdict_text, end_text}
use Rattle.audit_account.specs.declared.Account.{Account}
use Rattle.audit_account.specs.declared.Entry.{Entry}
use Rattle.std.proofs.lemmas.List.{take_more}
use Rattle.audit_lines.specs.Seen.{Sees}
use Rattle.audit_lines.specs.declared.Sight.{Sight}

-- ---- parts that stand one after the other

three_numbers : (a b c d e f g : List ℕ) → (((a ++ b) ++ (c ++ d)) ++ (e ++ f)) ++ g ≡ a ++ b ++ c ++ d ++ e ++ f ++ g
three_numbers a b c d e f g = simp append_assoc

four_numbers : (a b c d e f g h i : List ℕ) → ((((a ++ b) ++ (c ++ d)) ++ (e ++ f)) ++ (g ++ h)) ++ i ≡ a ++ b ++ c ++ d ++ e ++ f ++ g ++ h ++ i
four_numbers a b c d e f g h i = simp append_assoc

three_parts : (a b c d e f : List ℕ) → ((a ++ b) ++ c) ++ (d ++ e ++ f) ≡ a ++ b ++ c ++ d ++ e ++ f
three_parts a b c d e f = simp append_assoc

numbered_word : (a b c d e : List ℕ) → (((a ++ b) ++ c) ++ d) ++ e ≡ a ++ b ++ c ++ d ++ e
numbered_word a b c d e = simp append_assoc

verdict_parts : (a b c d e f : List ℕ) → (((a ++ b) ++ (c ++ d)) ++ e) ++ f ≡ a ++ b ++ c ++ (d ++ e) ++ f
verdict_parts a b c d e f = simp append_assoc

-- ---- the lines

pub if_true : {b : Bool} → b ≡ true → (l m : List ℕ) → (if b then l else m) ≡ l
if_true e l m = rw e

pub if_false : {b : Bool} → b ≡ false → (l m : List ℕ) → (if b then l else m) ≡ m
if_false e l m = rw e

abbrev state_line : ℕ → ℕ → ℕ → List ℕ
state_line m a g = ascii "; in flight " ++ decimal m ++ ascii ", acknowledgements " ++ decimal a ++ ascii ", groups " ++ decimal g ++ newline ∷ []

pub state_line_lem : (r : Ring) (s : Sight) → Sees s r
    → (((ascii "; in flight " ++ decimal s.messages) ++ (ascii ", acknowledgements " ++ decimal s.acknowledgements))
    ++ (ascii ", groups " ++ decimal s.groups)) ++ newline ∷ []
    ≡ state_text r
unfolding state_text
state_line_lem r s q =
    three_numbers (ascii "; in flight ") (decimal s.messages) (ascii ", acknowledgements ") (decimal s.acknowledgements)
    (ascii ", groups ") (decimal s.groups) (newline ∷ [])
    ∙ ap (λ (k : ℕ). state_line k s.acknowledgements s.groups) q.messages
    ∙ ap (λ (k : ℕ). state_line (length r.messages) k s.groups) q.acknowledgements
    ∙ ap (λ (k : ℕ). state_line (length r.messages) (acknowledgements r) k) q.groups

pub event_line : (k : ℕ) (text : List ℕ) (answer : ℕ) (r : Ring)
    → ((decimal k ++ ascii " ") ++ text) ++ (ascii ": " ++ answer_text answer ++ state_text r) ≡ event_text k text answer r
unfolding event_text
event_line k text answer r = three_parts (decimal k) (ascii " ") text (ascii ": ") (answer_text answer) (state_text r)

pub entry_line : (e : Entry)
    → (((ascii "    " ++ decimal e.number) ++ ascii " ") ++ word_text e.word) ++ newline ∷ [] ≡ entry_text e
unfolding entry_text
entry_line e = numbered_word (ascii "    ") (decimal e.number) (ascii " ") (word_text e.word) (newline ∷ [])

pub verdict_lines : (a : Account) (es : List Entry)
    → (((ascii "  the promise last began after event " ++ decimal a.point) ++ (ascii "; it does not cover, since then:" ++ newline ∷ []))
    ++ entries_text es) ++ more_text a.uncovered
    ≡ verdict_text a es
unfolding verdict_text
verdict_lines a es =
    verdict_parts (ascii "  the promise last began after event ") (decimal a.point) (ascii "; it does not cover, since then:") (newline ∷ [])
    (entries_text es) (more_text a.uncovered)

pub no_more : (k : ℕ) → k ≤ most → [] ≡ more_text k
unfolding more_text
no_more k h = rw (le-ltb most k h)

pub more_line : (k : ℕ) → most < k → (ascii "    and " ++ decimal (k - most)) ++ (ascii " more" ++ newline ∷ []) ≡ more_text k
unfolding more_text
more_line k h = four (ascii "    and ") (decimal (k - most)) (ascii " more") (newline ∷ []) ∙ sym (if_true (lt-ltb most k h) _ _)
  where
    four : (a b c d : List ℕ) → (a ++ b) ++ (c ++ d) ≡ a ++ b ++ c ++ d
    four a b c d = simp append_assoc

pub never_line : (a : Account) → a.partings ≡ 0 → ascii "never parted" ++ newline ∷ [] ≡ end_text a
unfolding end_text
never_line a e = sym (if_true (eq-eqb a.partings 0 e) _ _)

pub parted_line : (a : Account) → (a.partings ≡ 0 → ⊥)
    → ((((ascii "times parted: " ++ decimal a.partings) ++ (ascii "; an on in the verdict: " ++ decimal a.ons))
    ++ (ascii ", an off: " ++ decimal a.offs)) ++ (ascii ", a wrong notice: " ++ decimal a.notices)) ++ newline ∷ [] ≡ end_text a
unfolding end_text
parted_line a d =
    four_numbers (ascii "times parted: ") (decimal a.partings) (ascii "; an on in the verdict: ") (decimal a.ons)
    (ascii ", an off: ") (decimal a.offs) (ascii ", a wrong notice: ") (decimal a.notices) (newline ∷ [])
    ∙ sym (if_false (ne_eqb a.partings 0 d) _ _)

-- ---- the listed events, one after the other

entries_append : (es fs : List Entry) → entries_text (es ++ fs) ≡ entries_text es ++ entries_text fs
unfolding entries_text
entries_append [] fs = refl
entries_append (e ∷ es) fs = rw (entries_append es fs, append_assoc)

-- i of the events are put
pub record PutTo (out out' : List ℕ) (at end : ℕ) (es : List Entry) (i : ℕ) : Type 0 where
  pub put : Put out out' at end (entries_text (take i es))
  pub room : end ≤ at + 66 * i

pub put_none_yet : (out : List ℕ) (at : ℕ) (es : List Entry) → PutTo out out at at es 0
unfolding entries_text
put_none_yet out at es = record { put = put_none out at; room = omega arith }

pub put_one_more : {out out' out'' : List ℕ} {at end end' : ℕ} {es : List Entry} {i : ℕ} {e : Entry} → PutTo out out' at end es i
    → i < length es → e ≡ get_or es i e → Put out' out'' end end' (entry_text e) → end' ≤ end + 66 → PutTo out out'' at end' es (i + 1)
unfolding entries_text
put_one_more {es = es} {i = i} {e = e} p h f q l =
    record {
      put = put_as (put_more p.put q) (sym (ap entries_text (take_more es i e h ∙ ap (λ (d : Entry). take i es ++ d ∷ []) (sym f))
          ∙ entries_append (take i es) _ ∙ ap (λ (l : List ℕ). entries_text (take i es) ++ l) (append-nil _)));
      room = omega (arith, p.room);
    }
