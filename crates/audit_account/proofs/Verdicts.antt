-- The audit's verdicts. After each word of a script the account is what the model says of it: `AccountIs`.
-- Each parting that is printed is one, and its verdict is the model's list of the events that the promise does not
-- cover, which is not empty. Where none is printed, nobody is parted.
use mathlib.Core.Path.{◌≡◌, refl, sym, ap, ◌∙◌}
use mathlib.Core.Bool.{Bool, true, false, not}
use mathlib.Core.List.{List, [], ◌∷◌, ◌++◌, append_assoc, append-nil, map}
use Prim.Native.Nat.{ℕ, zero, suc, ◌+◌, ◌≤◌, ◌<◌}
use native.Mathlib.Nat.{le_refl, not-suc-le-zero, le_of_suc-le-suc}
use native.Mathlib.Omega.{arith}
use lib.ListN.{length, get_or, take, drop}
use lib.Seq.{take-length}
use borrow.Author.Tests.{eq-eqb}
use Rattle.model.specs.Leafset.{Table, size}
use Rattle.model.specs.Ring.{is_running, initial}
use Rattle.model.specs.WellFormed.{Each, nil, cons}
use Rattle.model.specs.Answers.{is_accepted}
use Rattle.model.specs.Words.{ring_length}
use Rattle.model.specs.Play.{play_word}
use Rattle.model.specs.Bench.{script_refusals, script_table, script_answer}
use Rattle.model.specs.Buffer.{wrong_length, out_of_range, bad_key, open_answer, open_buffer}
use Rattle.model.specs.Connection.{Connected}
use Rattle.model.specs.ConnectivityPreserved.{NoAcknowledgement, LeaversOff, Reached, opened, words_at, read_at, Uncovered, uncovered, Unbroken}
use Rattle.model.proofs.Lists.{first, rest}
use Rattle.model.proofs.Answers.{accepted_is, none_applies, next, no_more}
use Rattle.model.proofs.Connection.{InTable}
use Rattle.model.proofs.Decoded.{reads_well}
use Rattle.model.proofs.Theorems.{connectivity_preserved, list_reaches, reached_reads}
use Rattle.text_form.specs.Describe.{word_text}
use Rattle.audit_account.specs.Partings.{parts}
use Rattle.audit_account.specs.declared.Entry.{Entry}
use Rattle.audit_account.specs.Accounts.{noted, most, Standing, entered, played, event_text, parted_text, verdict_text, word_lines}
use Rattle.audit_account.specs.Whole.{begins, played_all, all_lines}
use Rattle.audit_account.proofs.SafePoints.{none_counted, point_decides}
use Rattle.audit_account.proofs.Torn.{Parted, parts_true, parts_false}
use Rattle.audit_account.proofs.Standings.{entry_at, is_parting, AccountIs}
use Rattle.audit_account.proofs.Standings as standings

-- from one point to the next, two nodes that are connected and go on running stay connected
abbrev pub StayConnected : List ℕ → List ℕ → ℕ → Type 0
StayConnected start words k =
    (a b : ℕ) → Connected (read_at start words k) a b
    → is_running (read_at start words (suc k)) a ≡ true → is_running (read_at start words (suc k)) b ≡ true
    → Connected (read_at start words (suc k)) a b

-- whether a parting is printed of word k
abbrev pub prints_parting : Table → List ℕ → ℕ → Bool
prints_parting t words k = parts s.ring (play_word s.ring (get_or words k 0)).ring
  where
    s : Standing
    s = played_all (begins t) (take k words)

-- word k parts two nodes, and the verdict that is printed with it is the model's list since the last point: not empty
pub record Explained (start words : List ℕ) (k : ℕ) (s : Standing) : Type 0 where
  pub first : ℕ
  pub second : ℕ
  pub parted : Parted (read_at start words k) (read_at start words (suc k)) first second
  -- what demand 3 supposes of a point
  pub point_safe :
      NoAcknowledgement (read_at start words s.account.point) × LeaversOff (read_at start words s.account.point)
  pub counted :
      (noted s.account s.ring (get_or words k 0)).uncovered
      ≡ length (uncovered start words s.account.point (suc k))
  pub listed :
      entered s (get_or words k 0) ≡ map (entry_at words) (take most (uncovered start words s.account.point (suc k)))
  pub are :
      Each (λ i. (s.account.point ≤ i) × (i < suc k) × Uncovered start words i)
      (uncovered start words s.account.point (suc k))
  pub some_counted : 0 < (noted s.account s.ring (get_or words k 0)).uncovered
  pub some_listed : 0 < length (entered s (get_or words k 0))

-- after the words of a list, on a ring with the table t that was opened in the lent words `start`
pub record VerdictsFollow (start : List ℕ) (t : Table) (words : List ℕ) : Type 0 where
  pub account : (k : ℕ) → k ≤ length words → AccountIs start words k (played_all (begins t) (take k words))
  -- a parting is printed of word k: no verdict is empty
  pub printed :
      (k : ℕ) → k < length words → prints_parting t words k ≡ true
      → Explained start words k (played_all (begins t) (take k words))
  -- none is printed
  pub unprinted : (k : ℕ) → k < length words → prints_parting t words k ≡ false → StayConnected start words k
  -- "never parted" is printed at the end
  pub never :
      (played_all (begins t) words).account.partings ≡ 0 → (k : ℕ) → k < length words → StayConnected start words k

some_shown : (f : ℕ → Entry) (l : List ℕ) → 0 < length l → 0 < length (map f (take most l))
some_shown f [] h = absurd (not-suc-le-zero h)
some_shown f (x ∷ l) h = omega arith

module _ (start : List ℕ) (t : Table) (reached : Reached start (initial t)) (words : List ℕ) where
  abbrev standing : ℕ → Standing
  standing k = played_all (begins t) (take k words)

  unbroken : Unbroken start words (initial t)
  unbroken = connectivity_preserved start (initial t) reached words

  in_table : (k : ℕ) → InTable (read_at start words k)
  in_table k x runs =
      ((reads_well (words_at start words k)
      (reached_reads _ _ (list_reaches start (initial t) reached (take k words)))).node_well x).running_low runs

  account_is : (k : ℕ) → k ≤ length words → AccountIs start words k (standing k)
  account_is = standings.account_is start t reached words

  module _ (k : ℕ) (h : k < length words) where
    abbrev s : Standing
    s = standing k

    i : AccountIs start words k s
    i = account_is k (omega arith)

    parts_here : prints_parting t words k ≡ is_parting start words k
    parts_here = standings.parts_here start t reached words k h s i

    point_safe :
        NoAcknowledgement (read_at start words s.account.point) × LeaversOff (read_at start words s.account.point)
    point_safe = (point_decides (read_at start words s.account.point)).0 i.point_is

    some_uncovered :
        (a b : ℕ) → Parted (read_at start words k) (read_at start words (suc k)) a b
        → 0 < length (uncovered start words s.account.point (suc k))
    some_uncovered a b p =
        unbroken.parting_is_uncovered s.account.point point_safe.0 point_safe.1 k (suc k) i.point_within
        (omega arith) h a b p.before p.no_more

    -- no parting that is printed has an empty verdict
    no_empty_verdict : prints_parting t words k ≡ true → Explained start words k s
    no_empty_verdict e =
        let p = parts_true _ _ (in_table k) (in_table (suc k)) (sym parts_here ∙ e) in
        let counts = (standings.noted_is start t reached words k h s i).uncovered in
        let lists = standings.entered_is start t reached words k h s i in
        let some = some_uncovered p.0 p.1 p.2 in
        record {
          first = p.0;
          second = p.1;
          parted = p.2;
          point_safe = point_safe;
          counted = counts;
          listed = lists;
          are = unbroken.uncovered_are s.account.point (suc k);
          some_counted = omega arith;
          some_listed =
              rw lists (some_shown (entry_at words) (uncovered start words s.account.point (suc k)) some);
        }

    -- where no parting is printed, nobody is parted
    stay_connected : prints_parting t words k ≡ false → StayConnected start words k
    stay_connected e =
        parts_false (read_at start words k) (read_at start words (suc k)) (in_table k) (in_table (suc k))
        (sym parts_here ∙ e)

  -- "never parted"
  never_parted :
      (played_all (begins t) words).account.partings ≡ 0 → (k : ℕ) → k < length words → StayConnected start words k
  never_parted e k h =
      let whole : AccountIs start words (length words) (played_all (begins t) words) =
      rw (take-length words) at (account_is (length words) (le_refl (length words))) in
      stay_connected k h
      (parts_here k h ∙ none_counted (length words) (is_parting start words) (sym whole.partings ∙ e) k h)

  verdicts_follow : VerdictsFollow start t words
  verdicts_follow =
      record { account = account_is; printed = no_empty_verdict; unprinted = stay_connected; never = never_parted }

-- after an accepted opening, for any A, B and keys, over any old words
pub opening_verdicts :
    (old : List ℕ) (t : Table) → (open_buffer old t).answer ≡ 0
    → (words : List ℕ) → VerdictsFollow (open_buffer old t).words t words
opening_verdicts old t a words = verdicts_follow (open_buffer old t).words t (opened old t a) words

-- ---- whole scripts

-- a script that opens a ring opens it in any buffer
script_opens :
    (ws old : List ℕ) → is_accepted (script_answer ws) ≡ true → length old ≡ ring_length
    → (open_buffer old (script_table ws)).answer ≡ 0
unfolding script_answer open_buffer open_answer
script_opens ws old ok long =
    let t : Table = script_table ws in
    let refusing = cons refl (cons refl (cons refl (cons refl nil))) in
    let passed = none_applies (script_refusals ws) refusing (accepted_is _ ok) in
    next (wrong_length old) (out_of_range t ∷ bad_key t ∷ []) (ap not (eq-eqb (length old) ring_length long))
    ∙ next (out_of_range t) (bad_key t ∷ []) (first (rest passed))
    ∙ next (bad_key t) [] (first (rest (rest (rest passed))))
    ∙ no_more

-- the events of a script, as the audit plays them: whatever buffer of the right length the ring is opened in
pub script_verdicts :
    (ws old : List ℕ) → is_accepted (script_answer ws) ≡ true → length old ≡ ring_length
    → VerdictsFollow (open_buffer old (script_table ws)).words (script_table ws) (drop (1 + size (script_table ws)) ws)
script_verdicts ws old ok long =
    opening_verdicts old (script_table ws) (script_opens ws old ok long) (drop (1 + size (script_table ws)) ws)

-- what is printed of a word that parts nodes, and of another
pub parting_lines :
    (s : Standing) (w : ℕ) → parts s.ring (play_word s.ring w).ring ≡ true
    → word_lines s w
    ≡ event_text (s.account.count + 1) (word_text w) (play_word s.ring w).answer (play_word s.ring w).ring
    ++ (parted_text (s.account.count + 1) s.ring (play_word s.ring w).ring
    ++ verdict_text (noted s.account s.ring w) (entered s w))
unfolding word_lines
parting_lines s w e = rw e

pub other_lines :
    (s : Standing) (w : ℕ) → parts s.ring (play_word s.ring w).ring ≡ false
    → word_lines s w
    ≡ event_text (s.account.count + 1) (word_text w) (play_word s.ring w).answer (play_word s.ring w).ring
unfolding word_lines
other_lines s w e = rw e (append-nil _)

-- the lines of word k, among all lines
pub lines_at :
    (s : Standing) (words : List ℕ) (k : ℕ) → k < length words
    → all_lines s words
    ≡ all_lines s (take k words)
    ++ (word_lines (played_all s (take k words)) (get_or words k 0)
    ++ all_lines (played_all s (take (suc k) words)) (drop (suc k) words))
unfolding all_lines played_all
lines_at s [] k h = absurd (not-suc-le-zero h)
lines_at s (w ∷ words) zero h = refl
lines_at s (w ∷ words) (suc k) h =
    ap (λ (l : List ℕ). word_lines s w ++ l) (lines_at (played s w) words k (le_of_suc-le-suc h))
    ∙ sym (append_assoc (word_lines s w) _ _)
