-- What the audit keeps after each word is what the model says of the words so far: by induction over the words.
use mathlib.Core.Path.{◌≡◌, refl, sym, ap, ap₂, ◌∙◌, subst}
use mathlib.Core.Bool.{Bool, true, false, cond, not, ◌&&◌, ◌||◌}
use mathlib.Core.List.{List, [], ◌∷◌, ◌++◌, append-nil, map}
use Prim.Native.Nat.{ℕ, zero, suc, ◌+◌, ◌≤◌, ◌<◌}
use native.Mathlib.Nat.{le_refl, not-suc-le-zero, le_of_suc-le-suc}
use native.Mathlib.Omega.{arith}
use native.Mathlib.Decide.{ℕ_discrete}
use lib.Dec.{leb, ltb}
use lib.ListN.{length, get_or, take, length-append}
use lib.Seq.{take_all, take-append-le}
use borrow.Author.Tests.{le-leb, lt-leb, ltb-true, ltb-false}
use Rattle.std.specs.Prelude.{if◌then◌else◌}
use Rattle.model.specs.Fields.{bit}
use Rattle.model.specs.Sets.{Set, members, count}
use Rattle.model.specs.Leafset.{Table}
use Rattle.model.specs.Ring.{Ring, initial}
use Rattle.model.specs.Answers.{is_accepted}
use Rattle.model.specs.Events.{event_of}
use Rattle.model.specs.Play.{play_word, play_all}
use Rattle.model.specs.ConnectivityPreserved.{is_harmless, Reached, read_at, is_uncovered, Unbroken}
use Rattle.model.specs.ConnectivityPreserved as preserved
use Rattle.model.specs.declared.event.Event.{Event}
use Rattle.model.proofs.Laws.{decide, if_law}
use Rattle.model.proofs.Theorems.{connectivity_preserved}
use Rattle.audit_account.specs.declared.Account.{Account}
use Rattle.audit_account.specs.Points.{acknowledgements, late_leaves, is_point, is_uncovered_word, is_on, is_off, is_notice}
use Rattle.audit_account.specs.Partings.{parts}
use Rattle.audit_account.specs.declared.Entry.{Entry}
use Rattle.audit_account.specs.Accounts.{opened, noted, counted, begun, most, Standing, entered, after_parting, played}
use Rattle.audit_account.specs.Whole.{begins, played_all}

-- ---- lists that grow at their end

-- some number of the list passes the test
unfoldable pub has : Set → List ℕ → Bool
has S [] = false
has S (x ∷ xs) = S x || has S xs

or-false : (b : Bool) → (b || false) ≡ b
or-false true = refl
or-false false = refl

or_assoc : (a b c : Bool) → (a || b || c) ≡ (a || (b || c))
or_assoc true b c = refl
or_assoc false b c = refl

-- x is added, if the test says so
abbrev also {ℓ} : {A : Type ℓ} → Bool → A → List A
also b x = cond b (x ∷ []) []

has_also : (S : Set) (xs : List ℕ) (b : Bool) (x : ℕ) → has S (xs ++ also b x) ≡ (has S xs || b && S x)
unfolding has
has_also S [] true x = or-false (S x)
has_also S [] false x = refl
has_also S (y ∷ xs) b x = ap (λ (c : Bool). S y || c) (has_also S xs b x) ∙ sym (or_assoc (S y) (has S xs) (b && S x))

length_also : (xs : List ℕ) (b : Bool) (x : ℕ) → length (xs ++ also b x) ≡ length xs + bit b
length_also xs true x = length-append xs (x ∷ [])
length_also xs false x = length-append xs []

map_append : {A B : Type 0} (f : A → B) (xs ys : List A) → map f (xs ++ ys) ≡ map f xs ++ map f ys
map_append f [] ys = refl
map_append f (x ∷ xs) ys = ap (λ zs. f x ∷ zs) (map_append f xs ys)

-- the first n: x is one of them where there is room
take_also :
    (n : ℕ) (xs : List ℕ) (b : Bool) (x : ℕ)
    → take n (xs ++ also b x) ≡ take n xs ++ also (b && ltb (length xs) n) x
take_also n xs false x = ap (take n) (append-nil xs) ∙ sym (append-nil (take n xs))
take_also n xs true x =
    decide (ltb (length xs) n)
    (λ l.
    let h : length xs < n = ltb-true (length xs) n l in
    let all : length (xs ++ x ∷ []) ≤ n = omega (arith, length-append xs (x ∷ [])) in
    rw l (take_all n (xs ++ x ∷ []) all ∙ ap (λ ys. ys ++ x ∷ []) (sym (take_all n xs (omega arith)))))
    (λ l. rw l (take-append-le n xs (x ∷ []) (ltb-false (length xs) n l) ∙ sym (append-nil (take n xs))))

map_also : {B : Type 0} (f : ℕ → B) (b : Bool) (x : ℕ) → map f (also b x) ≡ also b (f x)
map_also f true x = refl
map_also f false x = refl

-- ---- totals

field_of : (f : Account → ℕ) (b : Bool) (x y : Account) → f (if b then x else y) ≡ (if b then f x else f y)
field_of f true x y = refl
field_of f false x y = refl

one_more_lem : (b m : Bool) (n : ℕ) → (if b then n + bit m else n) ≡ n + (if b && m then 1 else 0)
one_more_lem true true n = refl
one_more_lem true false n = refl
one_more_lem false m n = omega arith

and-true : (b : Bool) → (b && true) ≡ b
and-true true = refl
and-true false = refl

-- ---- what the account is

-- the event at a place, and its entry
abbrev pub event_at : List ℕ → ℕ → Event
event_at words i = event_of (get_or words i 0)

abbrev pub entry_at : List ℕ → ℕ → Entry
entry_at words i = record { number = i + 1; word = get_or words i 0 }

-- what is counted of the events since the point, up to k
pub record SinceIs (start words : List ℕ) (point k : ℕ) (a : Account) : Type 0 where
  pub count : a.count ≡ k
  pub point_is : a.point ≡ point
  pub uncovered : a.uncovered ≡ length (preserved.uncovered start words point k)
  pub on : a.on ≡ has (λ i. is_on (event_at words i)) (preserved.uncovered start words point k)
  pub off : a.off ≡ has (λ i. is_off (event_at words i)) (preserved.uncovered start words point k)
  pub notice : a.notice ≡ has (λ i. is_notice (event_at words i)) (preserved.uncovered start words point k)

-- the last point up to k
unfoldable pub last_point : List ℕ → List ℕ → ℕ → ℕ
last_point start words zero = 0
last_point start words (suc k) = if is_point (read_at start words (suc k)) then suc k else last_point start words k

-- word i parts nodes; and one of the events of its verdict passes the test
abbrev pub is_parting : List ℕ → List ℕ → Set
is_parting start words i = parts (read_at start words i) (read_at start words (suc i))

abbrev pub is_parting_by : (Event → Bool) → List ℕ → List ℕ → Set
is_parting_by p start words i =
    is_parting start words i
    && has (λ j. p (event_at words j)) (preserved.uncovered start words (last_point start words i) (suc i))

-- After k words: the ring is the one that the lent words hold, the point is the last, and what is listed and counted
-- since then is the model's list of the events that the promise does not cover.
pub record AccountIs (start words : List ℕ) (k : ℕ) (s : Standing) : Type 0 where
  pub ring : s.ring ≡ read_at start words k
  pub point : s.account.point ≡ last_point start words k
  pub point_within : s.account.point ≤ k
  pub point_is : is_point (read_at start words s.account.point) ≡ true
  pub last : (i : ℕ) → s.account.point < i → i ≤ k → is_point (read_at start words i) ≡ false
  pub since : SinceIs start words s.account.point k s.account
  pub listed : s.listed ≡ map (entry_at words) (take most (preserved.uncovered start words s.account.point k))
  -- the totals of the last line
  pub partings : s.account.partings ≡ count k (is_parting start words)
  pub ons : s.account.ons ≡ count k (is_parting_by is_on start words)
  pub offs : s.account.offs ≡ count k (is_parting_by is_off start words)
  pub notices : s.account.notices ≡ count k (is_parting_by is_notice start words)

-- ---- playing

played_ring : (s : Standing) (w : ℕ) → (played s w).ring ≡ (play_word s.ring w).ring
unfolding played
played_ring s w = decide (is_point (play_word s.ring w).ring) (λ e. rw e) (λ e. rw e)

ring_played : (s : Standing) (ws : List ℕ) → (played_all s ws).ring ≡ play_all s.ring ws
unfolding played_all play_all
ring_played s [] = refl
ring_played s (w ∷ ws) = ring_played (played s w) ws ∙ ap (λ (r : Ring). play_all r ws) (played_ring s w)

next_standing :
    (s : Standing) (words : List ℕ) (k : ℕ) → k < length words
    → played_all s (take (suc k) words) ≡ played (played_all s (take k words)) (get_or words k 0)
unfolding played_all
next_standing s [] k h = absurd (not-suc-le-zero h)
next_standing s (w ∷ words) zero h = refl
next_standing s (w ∷ words) (suc k) h = next_standing (played s w) words k (le_of_suc-le-suc h)

-- no place is at or after a point and before it
none_since : (n : ℕ) (S : Set) (point : ℕ) → n ≤ point → members n (λ i. leb point i && S i) ≡ []
unfolding members
none_since zero S point h = refl
none_since (suc n) S point h = rw (lt-leb point n h) (append-nil _ ∙ none_since n S point (omega arith))

module _ (start : List ℕ) (t : Table) (reached : Reached start (initial t)) (words : List ℕ) where
  abbrev read : ℕ → Ring
  read = read_at start words

  abbrev standing : ℕ → Standing
  standing k = played_all (begins t) (take k words)

  unbroken : Unbroken start words (initial t)
  unbroken = connectivity_preserved start (initial t) reached words

  read_first : read 0 ≡ initial t
  unfolding play_all
  read_first = unbroken.ring_follows 0 (omega arith)

  read_next : (k : ℕ) → k < length words → read (suc k) ≡ (play_word (read k) (get_or words k 0)).ring
  read_next k h =
      unbroken.ring_follows (suc k) h
      ∙ sym (ring_played (begins t) (take (suc k) words))
      ∙ ap (λ (s : Standing). s.ring) (next_standing (begins t) words k h)
      ∙ played_ring (standing k) (get_or words k 0)
      ∙ ap (λ (r : Ring). (play_word r (get_or words k 0)).ring)
      (ring_played (begins t) (take k words) ∙ sym (unbroken.ring_follows k (omega arith)))

  uncovered_here : (k : ℕ) → k < length words → is_uncovered start words k ≡ is_uncovered_word (read k) (get_or words k 0)
  unfolding is_uncovered_word
  uncovered_here k h =
      ap (λ (a : ℕ). is_accepted a && not (is_harmless (read k) (event_at words k)))
      (unbroken.answers_follow k h
      ∙ ap (λ (r : Ring). (play_word r (get_or words k 0)).answer) (sym (unbroken.ring_follows k (omega arith))))

  verdict_next :
      (point k : ℕ) → point ≤ k → k < length words
      → preserved.uncovered start words point (suc k)
      ≡ preserved.uncovered start words point k ++ also (is_uncovered_word (read k) (get_or words k 0)) k
  unfolding members
  verdict_next point k from h =
      ap (λ (b : Bool). preserved.uncovered start words point k ++ also b k)
      (ap (λ (b : Bool). b && is_uncovered start words k) (le-leb point k from) ∙ uncovered_here k h)

  -- ---- a word

  module _ (k : ℕ) (h : k < length words) (s : Standing) (i : AccountIs start words k s) where
    abbrev w : ℕ
    w = get_or words k 0

    abbrev point : ℕ
    point = s.account.point

    abbrev before : List ℕ
    before = preserved.uncovered start words point k

    abbrev u : Bool
    u = is_uncovered_word s.ring w

    verdict : preserved.uncovered start words point (suc k) ≡ before ++ also u k
    verdict =
        verdict_next point k i.point_within h
        ∙ ap (λ (r : Ring). before ++ also (is_uncovered_word r w) k) (sym i.ring)

    has_next :
        (S : Set) (m : Bool) → m ≡ has S before
        → (m || u && S k) ≡ has S (preserved.uncovered start words point (suc k))
    has_next S m e = ap (λ (c : Bool). c || u && S k) e ∙ sym (ap (has S) verdict ∙ has_also S before u k)

    pub noted_is : SinceIs start words point (suc k) (noted s.account s.ring w)
    unfolding noted
    noted_is =
        record {
          count = omega (arith, i.since.count);
          point_is = refl;
          uncovered =
              ap (λ (n : ℕ). n + bit u) i.since.uncovered ∙ sym (ap length verdict ∙ length_also before u k);
          on = has_next (λ j. is_on (event_at words j)) s.account.on i.since.on;
          off = has_next (λ j. is_off (event_at words j)) s.account.off i.since.off;
          notice = has_next (λ j. is_notice (event_at words j)) s.account.notice i.since.notice;
        }

    pub entered_is : entered s w ≡ map (entry_at words) (take most (preserved.uncovered start words point (suc k)))
    unfolding entered
    entered_is =
        let f : ℕ → Entry = entry_at words in
        let shown : List Entry = map f (take most before) in
        let room : Bool = ltb (length before) most in
        let numbered : ℕ → Entry = λ c. record { number = c + 1; word = w } in
        let a : Account = s.account in
        ap (λ (l : List Entry). l ++ also (u && ltb a.uncovered most) (numbered a.count)) i.listed
        ∙ ap (λ (n : ℕ). shown ++ also (u && ltb n most) (numbered a.count)) i.since.uncovered
        ∙ ap (λ (c : ℕ). shown ++ also (u && room) (numbered c)) i.since.count
        ∙ ap (λ (l : List Entry). shown ++ l) (sym (map_also f (u && room) k))
        ∙ sym (map_append f (take most before) (also (u && room) k))
        ∙ ap (map f) (sym (ap (take most) verdict ∙ take_also most before u k))

    counted_is : {a : Account} → SinceIs start words point (suc k) a → SinceIs start words point (suc k) (counted a)
    unfolding counted
    counted_is n =
        record {
          count = n.count;
          point_is = n.point_is;
          uncovered = n.uncovered;
          on = n.on;
          off = n.off;
          notice = n.notice;
        }

    after_is : SinceIs start words point (suc k) (after_parting s w)
    unfolding after_parting
    after_is =
        if_law (SinceIs start words point (suc k)) (parts s.ring (play_word s.ring w).ring)
        (counted (noted s.account s.ring w)) (noted s.account s.ring w)
        (λ e. counted_is noted_is) (λ e. noted_is)

    none_now : (now : ℕ) → now ≡ suc k → preserved.uncovered start words now (suc k) ≡ []
    none_now now e = none_since (suc k) (is_uncovered start words) now (omega arith)

    begun_is : (a : Account) → a.count ≡ suc k → SinceIs start words a.count (suc k) (begun a)
    unfolding begun has
    begun_is a e =
        let none = none_now a.count e in
        record {
          count = e;
          point_is = refl;
          uncovered = ap length (sym none);
          on = ap (has (λ j. is_on (event_at words j))) (sym none);
          off = ap (has (λ j. is_off (event_at words j))) (sym none);
          notice = ap (has (λ j. is_notice (event_at words j))) (sym none);
        }

    ring_next : (play_word s.ring w).ring ≡ read (suc k)
    ring_next = ap (λ (r : Ring). (play_word r w).ring) i.ring ∙ sym (read_next k h)

    abbrev b : Bool
    b = parts s.ring (play_word s.ring w).ring

    pub parts_here : b ≡ is_parting start words k
    parts_here = ap₂ parts i.ring ring_next

    partings_next : (after_parting s w).partings ≡ count (suc k) (is_parting start words)
    unfolding after_parting counted noted count
    partings_next =
        field_of (λ a. a.partings) b (counted (noted s.account s.ring w)) (noted s.account s.ring w)
        ∙ one_more_lem b true s.account.partings
        ∙ ap₂ (λ (n : ℕ) (c : Bool). n + (if c && true then 1 else 0)) i.partings parts_here
        ∙ ap (λ (c : Bool). count k (is_parting start words) + (if c then 1 else 0)) (and-true (is_parting start words k))

    -- one of the totals n, for the mark m
    total_next :
        (p : Event → Bool) (n : ℕ) (m : Bool) → n ≡ count k (is_parting_by p start words)
        → m ≡ has (λ j. p (event_at words j)) (preserved.uncovered start words point (suc k))
        → (if b then n + bit m else n) ≡ count (suc k) (is_parting_by p start words)
    unfolding count
    total_next p n m counts marks =
        one_more_lem b m n
        ∙ ap₂ (λ (c : ℕ) (q : Bool). c + (if q then 1 else 0)) counts
        (ap₂ ◌&&◌ parts_here
        (marks ∙ ap (λ (j : ℕ). has (λ l. p (event_at words l)) (preserved.uncovered start words j (suc k))) i.point))

    ons_next : (after_parting s w).ons ≡ count (suc k) (is_parting_by is_on start words)
    unfolding after_parting counted noted
    ons_next =
        field_of (λ a. a.ons) b (counted (noted s.account s.ring w)) (noted s.account s.ring w)
        ∙ total_next is_on s.account.ons (noted s.account s.ring w).on i.ons noted_is.on

    offs_next : (after_parting s w).offs ≡ count (suc k) (is_parting_by is_off start words)
    unfolding after_parting counted noted
    offs_next =
        field_of (λ a. a.offs) b (counted (noted s.account s.ring w)) (noted s.account s.ring w)
        ∙ total_next is_off s.account.offs (noted s.account s.ring w).off i.offs noted_is.off

    notices_next : (after_parting s w).notices ≡ count (suc k) (is_parting_by is_notice start words)
    unfolding after_parting counted noted
    notices_next =
        field_of (λ a. a.notices) b (counted (noted s.account s.ring w)) (noted s.account s.ring w)
        ∙ total_next is_notice s.account.notices (noted s.account s.ring w).notice i.notices
        noted_is.notice

    last_here : is_point (read (suc k)) ≡ true → last_point start words (suc k) ≡ suc k
    unfolding last_point
    last_here e = rw e

    last_before_lem : is_point (read (suc k)) ≡ false → last_point start words (suc k) ≡ last_point start words k
    unfolding last_point
    last_before_lem e = rw e

    -- ---- the standing after it: at a new point, and else

    abbrev at_point : Standing
    at_point = record { ring = (play_word s.ring w).ring; account = begun (after_parting s w); listed = [] }

    abbrev onward : Standing
    onward = record { ring = (play_word s.ring w).ring; account = after_parting s w; listed = entered s w }

    at_point_is : is_point (play_word s.ring w).ring ≡ true → AccountIs start words (suc k) at_point
    unfolding begun
    at_point_is e =
        let now : (after_parting s w).count ≡ suc k = after_is.count in
        record {
          ring = ring_next;
          point = now ∙ sym (last_here (ap is_point (sym ring_next) ∙ e));
          point_within = omega arith;
          point_is = ap (λ (j : ℕ). is_point (read j)) now ∙ ap is_point (sym ring_next) ∙ e;
          last = λ j l m. absurd (omega arith);
          since = begun_is (after_parting s w) now;
          listed =
              ap (λ (l : List ℕ). map (entry_at words) (take most l)) (sym (none_now (after_parting s w).count now));
          partings = partings_next;
          ons = ons_next;
          offs = offs_next;
          notices = notices_next;
        }

    onward_is : is_point (play_word s.ring w).ring ≡ false → AccountIs start words (suc k) onward
    onward_is e =
        let same : (after_parting s w).point ≡ point = after_is.point_is in
        record {
          ring = ring_next;
          point = same ∙ i.point ∙ sym (last_before_lem (ap is_point (sym ring_next) ∙ e));
          point_within = omega (arith, i.point_within);
          point_is = ap (λ (j : ℕ). is_point (read j)) same ∙ i.point_is;
          last = λ j l m. elim (ℕ_discrete j (suc k)) [
            | yes q ↦ ap (λ (n : ℕ). is_point (read n)) q ∙ ap is_point (sym ring_next) ∙ e
            | no d ↦ i.last j (omega arith) (omega arith)
          ];
          since = subst (λ (p : ℕ). SinceIs start words p (suc k) (after_parting s w)) (sym same) after_is;
          listed =
              entered_is
              ∙ ap (λ (p : ℕ). map (entry_at words) (take most (preserved.uncovered start words p (suc k)))) (sym same);
          partings = partings_next;
          ons = ons_next;
          offs = offs_next;
          notices = notices_next;
        }

    next_is : AccountIs start words (suc k) (played s w)
    unfolding played
    next_is =
        if_law (AccountIs start words (suc k)) (is_point (play_word s.ring w).ring) at_point onward
        at_point_is onward_is

  -- ---- a list of words

  first_is : AccountIs start words 0 (begins t)
  unfolding opened is_point acknowledgements late_leaves initial count members has play_all last_point
  first_is =
      record {
        ring = sym read_first;
        point = refl;
        point_within = le_refl 0;
        point_is = ap is_point read_first;
        last = λ j l m. absurd (omega arith);
        since = record { count = refl; point_is = refl; uncovered = refl; on = refl; off = refl; notice = refl };
        listed = refl;
        partings = refl;
        ons = refl;
        offs = refl;
        notices = refl;
      }

  pub account_is : (k : ℕ) → k ≤ length words → AccountIs start words k (standing k)
  unfolding played_all
  account_is zero h = first_is
  account_is (suc k) h = rw (next_standing (begins t) words k h) (next_is k h (standing k) (account_is k (omega arith)))
