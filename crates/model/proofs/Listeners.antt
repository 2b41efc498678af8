-- What note 13 of document 02 claims of every list of calls from an empty record. A call changes what the record says of a node by one law
-- (`at_next`), and from a hearing on the silence is the ticks since, up to the window (`since`).
use mathlib.Core.Path.{◌≡◌, refl, sym, ap, ◌∙◌, subst, fun_ext}
use mathlib.Core.Logic.{◌↔◌}
use Prim.Native.Nat.{ℕ, zero, suc, ◌+◌, ◌≤◌, ◌<◌, zero-le}
use native.Mathlib.Nat.{le_refl, le_trans, not-suc-le-zero, add-zero}
use native.Mathlib.Omega.{arith}
use native.Mathlib.Decide.{ℕ_discrete, dec_lt}
use mathlib.Core.Bool.{Bool, true, false, not, ◌&&◌, ◌||◌, or-false, and-false}
use mathlib.Core.List.{List, [], ◌∷◌}
use lib.ListN.{get_or, take, replicate}
use lib.Dec.{ltb, eqb, lit<, lit≤}
use borrow.Author.Tests.{ltb-true, ltb-false, lt-ltb, le-ltb, eqb-true, eq-eqb, ne_eqb}
use Rattle.std.specs.Prelude.{if◌then◌else◌}
use Rattle.model.specs.Sets.{Set, empty, some, count, tabulate}
use Rattle.model.specs.Answers.{first_of, is_accepted}
use Rattle.model.specs.Listener.{Listener, empty_listener, grown, with_watched, overdue, silent, heard, watch_answer, hear_answer}
use Rattle.model.specs.Listener.{Call, Watch, Tick, Hear, answer_of, notices_of, leaves, after, no_call, call_at, met, is_tick, watches, hears, tick_at}
use Rattle.model.specs.Listener.{ticks_between, notice_at, watched_before, hearing_at, Unheard, notices_between, noticed_before}
use Rattle.model.specs.Listener.{listener_of, record_of, empty_record, leaves_record, after_record}
use Rattle.model.specs.declared.listener.ListenerRecord.{ListenerRecord}
use Rattle.model.proofs.Laws.{clash, decide, if_law, and_left, and_right, and_in, not_in, not_out, is_false, same_test}
use Rattle.model.proofs.Laws.{some_in, some_out, count_none, count_some, get_d_tabulate, beyond_tabulate}
use Rattle.model.proofs.Bits.{no_bit_above, bits_back}

-- ---- one call

watch_accepted : (x : ℕ) → is_accepted (watch_answer x) ≡ ltb x 64
unfolding watch_answer first_of
watch_accepted x = elim (dec_lt x 64) [
  | yes h ↦ rw (lt-ltb x 64 h, le-ltb 63 x (omega arith)) refl
  | no d ↦ rw (le-ltb x 64 (omega arith), lt-ltb 63 x (omega arith)) refl
]

hear_accepted : (l : Listener) (x : ℕ) → is_accepted (hear_answer l x) ≡ (ltb x 64 && l.watched x)
unfolding hear_answer first_of
hear_accepted l x = elim (dec_lt x 64) [
  | yes h ↦ rw (lt-ltb x 64 h, le-ltb 63 x (omega arith)) (decide (l.watched x) (λ e. rw e refl) (λ e. rw e refl))
  | no d ↦ rw (le-ltb x 64 (omega arith), lt-ltb 63 x (omega arith)) refl
]

-- what a record says of one node
record Entry : Type 0 where
  watched : Bool
  silence : ℕ
  window : ℕ

module _ (s : ℕ) where
  abbrev at : Listener → Entry
  at l = record { watched = l.watched s; silence = l.silence s; window = l.window s }

  -- the call hears s, which is watched or not
  abbrev hearing : Bool → Call → Bool
  hearing watched c = ltb s 64 && (if watched then hears s c else watches s c)

  -- by a call that hears s, or does not
  abbrev next : Bool → Entry → Call → Entry
  next true e c =
      record {
        watched = true;
        silence = 0;
        window = if e.watched then (if not (ltb e.silence e.window) then grown e.window else e.window) else 4;
      }
  next false e c =
      record {
        watched = e.watched;
        silence = if is_tick c && (e.watched && ltb e.silence e.window) then suc e.silence else e.silence;
        window = e.window;
      }

  neither : (a w : Bool) → (a && (if w then false else false)) ≡ false
  neither true true = refl
  neither true false = refl
  neither false w = refl

  -- a call changes what the record says of s by whether it hears s, and nothing else counts
  at_next : (l : Listener) (c : Call) → at (leaves l c) ≡ next (hearing (l.watched s) c) (at l) c
  at_next l (Watch x) =
      rw (watch_accepted x)
      (elim (ℕ_discrete x s) [
        | yes e ↦
            rw (e, eq-eqb s s refl)
            (decide (ltb s 64)
            (λ a. rw a (decide (l.watched s) (λ w. rw (w, w) refl) (λ w. rw (w, w, eq-eqb s s refl) refl)))
            (λ a. rw a refl))
        | no d ↦
            rw (ne_eqb x s d, neither (ltb s 64) (l.watched s))
            (if_law (λ q. at q ≡ at l) (ltb x 64) (with_watched l x) l
            (λ a. if_law (λ q. at q ≡ at l) (l.watched x) l _ (λ w. refl) (λ w. rw (ne_eqb s x (λ e. d (sym e)), or-false (l.watched s)) refl))
            (λ a. refl))
      ])
  at_next l Tick = rw (neither (ltb s 64) (l.watched s)) refl
  at_next l (Hear x) =
      rw (hear_accepted l x)
      (elim (ℕ_discrete x s) [
        | yes e ↦
            rw (e, eq-eqb s s refl)
            (decide (ltb s 64) (λ a. rw a (decide (l.watched s) (λ w. rw (w, w, eq-eqb s s refl) refl) (λ w. rw (w, w) refl))) (λ a. rw a refl))
        | no d ↦
            rw (ne_eqb x s d, neither (ltb s 64) (l.watched s))
            (if_law (λ q. at q ≡ at l) (ltb x 64 && l.watched x) (heard l x) l (λ a. rw (ne_eqb s x (λ e. d (sym e))) refl) (λ a. refl))
      ])

-- ---- ticks, up to a window

abbrev up_to : ℕ → ℕ → ℕ
up_to w t = if ltb t w then t else w

below_window : (w t : ℕ) → ltb (up_to w t) w ≡ ltb t w
below_window w t = decide (ltb t w) (λ e. rw (e, e) refl) (λ e. rw e (le-ltb w w (le_refl w)))

at_window : (w t : ℕ) → eqb (up_to w t) w ≡ not (ltb t w)
at_window w t =
    decide (ltb t w)
    (λ e. rw e (ne_eqb t w (λ i. let h = ltb-true t w e in absurd (omega arith))))
    (λ e. rw e (eq-eqb w w refl))

one_tick : (tick : Bool) (w t : ℕ) → (if tick && ltb (up_to w t) w then suc (up_to w t) else up_to w t) ≡ up_to w (t + (if tick then 1 else 0))
one_tick false w t = ap (up_to w) (sym (add-zero t))
one_tick true w t =
    rw (below_window w t)
    (decide (ltb t w)
    (λ e. rw e (decide (ltb (t + 1) w) (λ f. rw f (omega arith)) (λ f. rw f (omega (arith, ltb-true t w e, ltb-false (t + 1) w f)))))
    (λ e. rw (e, le-ltb (t + 1) w (omega (arith, ltb-false t w e))) refl))

reached_by_tick : (w t : ℕ) → (ltb (up_to w t) w && eqb (suc (up_to w t)) w) ≡ eqb (suc t) w
reached_by_tick w t =
    rw (below_window w t)
    (decide (ltb t w) (λ e. rw e refl) (λ e. rw e (sym (ne_eqb (suc t) w (λ i. absurd (omega (arith, ltb-false t w e)))))))

-- how often a window was reached
one_notice :
    (tick : Bool) (w t : ℕ)
    → (if ltb t w then 0 else 1) + (if tick && eqb (suc t) w then 1 else 0) ≡ (if ltb (t + (if tick then 1 else 0)) w then 0 else 1)
one_notice false w t = rw (add-zero t, add-zero (if ltb t w then 0 else 1)) refl
one_notice true w t =
    decide (ltb t w)
    (λ e. rw e
    (elim (ℕ_discrete (suc t) w) [
      | yes i ↦ rw (eq-eqb (suc t) w i, le-ltb (t + 1) w (omega arith)) refl
      | no d ↦ rw (ne_eqb (suc t) w d, lt-ltb (t + 1) w (omega (arith, ltb-true t w e))) refl
    ]))
    (λ e. rw (e, ne_eqb (suc t) w (λ i. absurd (omega (arith, ltb-false t w e))), le-ltb (t + 1) w (omega (arith, ltb-false t w e))) refl)

-- ---- windows

abbrev Bounded : ℕ → Type 0
Bounded w = (4 ≤ w) × (w ≤ 255)

grown_bounds : (w : ℕ) → Bounded w → Bounded (grown w)
grown_bounds w b = if_law Bounded (ltb w 255) (suc w) w (λ e. (omega (arith, b.0), ltb-true w 255 e)) (λ e. b)

-- ---- counts after a call

none_yet : (S : Set) (i : ℕ) → count (suc i) (λ j. ltb i j && S j) ≡ 0
none_yet S i = count_none (suc i) (λ j. ltb i j && S j) (λ j h. rw (le-ltb i j (omega arith)) refl)

one_more_lem : (S : Set) (i k : ℕ) → i < k → count (suc k) (λ j. ltb i j && S j) ≡ count k (λ j. ltb i j && S j) + (if S k then 1 else 0)
unfolding count
one_more_lem S i k h = rw (lt-ltb i k h) refl

-- ---- the records of a list

after_next : (l : Listener) (cs : List Call) (k : ℕ) → after l (take (suc k) cs) ≡ leaves (after l (take k cs)) (get_or cs k no_call)
unfolding after watch_answer first_of
after_next l [] zero = refl
after_next l [] (suc k) = refl
after_next l (c ∷ cs) zero = refl
after_next l (c ∷ cs) (suc k) = after_next (leaves l c) cs k

module _ (cs : List Call) (s : ℕ) where
  abbrev entry : ℕ → Entry
  entry k = at s (met cs k)

  hearing_is : (k : ℕ) → hearing s (watched_before cs s k) (call_at cs k) ≡ hearing_at cs s k
  unfolding hearing_at watched_before
  hearing_is k = go (ltb s 64) (some k (λ j. watches s (call_at cs j))) (hears s (call_at cs k)) (watches s (call_at cs k))
    where
      go : (a b h c : Bool) → (a && (if a && b then h else c)) ≡ (if a && b then h else a && c)
      go true b h c = refl
      go false b h c = refl

  watched_next : (k : ℕ) → (if hearing_at cs s k then true else watched_before cs s k) ≡ watched_before cs s (suc k)
  unfolding hearing_at watched_before some
  watched_next k = go (ltb s 64) (some k (λ j. watches s (call_at cs j))) (hears s (call_at cs k)) (watches s (call_at cs k))
    where
      go : (a b h c : Bool) → (if (if a && b then h else a && c) then true else a && b) ≡ (a && (b || c))
      go true true true c = refl
      go true true false c = refl
      go true false h true = refl
      go true false h false = refl
      go false b h c = refl

  next_watched : (h : Bool) (e : Entry) (c : Call) → (next s h e c).watched ≡ (if h then true else e.watched)
  next_watched true e c = refl
  next_watched false e c = refl

  entry_next : (k : ℕ) → entry (suc k) ≡ next s (hearing s ((met cs k).watched s) (call_at cs k)) (entry k) (call_at cs k)
  unfolding met
  entry_next k = ap (at s) (after_next empty_listener cs k) ∙ at_next s (met cs k) (call_at cs k)

  -- the record tells who is watched
  pub met_watched : (k : ℕ) → (met cs k).watched s ≡ watched_before cs s k
  unfolding met after watched_before some
  met_watched zero = sym (and-false (ltb s 64))
  met_watched (suc k) =
      ap (λ (e : Entry). e.watched) (entry_next k)
      ∙ next_watched (hearing s ((met cs k).watched s) (call_at cs k)) (entry k) (call_at cs k)
      ∙ ap (λ (w : Bool). if hearing s w (call_at cs k) then true else w) (met_watched k)
      ∙ ap (λ (h : Bool). if h then true else watched_before cs s k) (hearing_is k)
      ∙ watched_next k

  step : (k : ℕ) (h : Bool) → hearing_at cs s k ≡ h → entry (suc k) ≡ next s h (entry k) (call_at cs k)
  step k h e =
      entry_next k
      ∙ ap (λ (b : Bool). next s b (entry k) (call_at cs k))
      (ap (λ (w : Bool). hearing s w (call_at cs k)) (met_watched k) ∙ hearing_is k ∙ e)

  -- who is not watched is neither heard nor was watched before
  not_yet : (k : ℕ) → watched_before cs s (suc k) ≡ false → (hearing_at cs s k ≡ false) × (watched_before cs s k ≡ false)
  not_yet k e = go (hearing_at cs s k) (watched_before cs s k) (watched_next k ∙ e)
    where
      go : (h w : Bool) → (if h then true else w) ≡ false → (h ≡ false) × (w ≡ false)
      go true w e = clash refl e
      go false w e = (refl, e)

  -- reading 26: a node that is not watched has silence 0 and window 0
  pub met_unwatched : (k : ℕ) → watched_before cs s k ≡ false → ((met cs k).silence s ≡ 0) × ((met cs k).window s ≡ 0)
  unfolding met after
  met_unwatched zero e = (refl, refl)
  met_unwatched (suc k) e =
      let before : (hearing_at cs s k ≡ false) × (watched_before cs s k ≡ false) = not_yet k e in
      let is : entry (suc k) ≡ next s false (entry k) (call_at cs k) = step k false before.0 in
      let zeros : ((met cs k).silence s ≡ 0) × ((met cs k).window s ≡ 0) = met_unwatched k before.1 in (
        ap (λ (q : Entry). q.silence) is ∙ rw (met_watched k, before.1, and-false (tick_at cs k)) zeros.0,
        ap (λ (q : Entry). q.window) is ∙ zeros.1,
      )

  -- who is watched, and was not heard just now, was watched before
  still_watched : (k : ℕ) → hearing_at cs s k ≡ false → watched_before cs s (suc k) ≡ true → watched_before cs s k ≡ true
  still_watched k h e = ap (λ (b : Bool). if b then true else watched_before cs s k) (sym h) ∙ watched_next k ∙ e

  heard_watched : (k : ℕ) → hearing_at cs s k ≡ true → watched_before cs s (suc k) ≡ true
  heard_watched k h = sym (watched_next k) ∙ ap (λ (b : Bool). if b then true else watched_before cs s k) h

  -- unheard up to one call, and at it
  unheard_on : (i k : ℕ) → Unheard cs s i k → hearing_at cs s k ≡ false → Unheard cs s i (suc k)
  unheard_on i k u h j a b =
      elim (ℕ_discrete j k) [
        | yes e ↦ ap (hearing_at cs s) e ∙ h
        | no d ↦ u j a (omega arith)
      ]

  abbrev LastHearing : ℕ → Type 0
  LastHearing k = (i : ℕ) × (i < k) × (hearing_at cs s i ≡ true) × Unheard cs s i k

  -- a watched node has a last hearing
  pub last_hearing : (k : ℕ) → watched_before cs s k ≡ true → (i : ℕ) × (i < k) × (hearing_at cs s i ≡ true) × Unheard cs s i k
  unfolding watched_before some
  last_hearing zero e = clash e (and-false (ltb s 64))
  last_hearing (suc k) e =
      decide (hearing_at cs s k)
      (λ h. (k, le_refl (suc k), h, λ j a b. absurd (omega arith)))
      (λ h. let p = last_hearing k (still_watched k h e) in (p.0, omega (arith, p.1), p.2, unheard_on p.0 k p.3 h))

  pub window_bounds : (k : ℕ) → watched_before cs s k ≡ true → (4 ≤ (met cs k).window s) × ((met cs k).window s ≤ 255)
  unfolding watched_before some
  window_bounds zero e = clash e (and-false (ltb s 64))
  window_bounds (suc k) e =
      decide (hearing_at cs s k)
      (λ h. subst (λ (q : Entry). Bounded q.window) (sym (step k true h))
      (if_law Bounded ((met cs k).watched s) _ 4
      (λ w.
      let before : Bounded ((met cs k).window s) = window_bounds k (sym (met_watched k) ∙ w) in
      if_law Bounded (silent (met cs k) s) (grown ((met cs k).window s)) ((met cs k).window s) (λ f. grown_bounds ((met cs k).window s) before) (λ f. before))
      (λ w. (lit≤ tt, lit≤ tt))))
      (λ h. subst (λ (q : Entry). Bounded q.window) (sym (step k false h)) (window_bounds k (still_watched k h e)))

  -- ---- from a hearing on

  abbrev window_after : ℕ → ℕ
  window_after i = (met cs (suc i)).window s

  record Since (i k : ℕ) : Type 0 where
    is_watched : (met cs k).watched s ≡ true
    window_is : (met cs k).window s ≡ window_after i
    silence_is : (met cs k).silence s ≡ up_to (window_after i) (ticks_between cs i k)

  ticks_next : (i k : ℕ) → i < k → ticks_between cs i (suc k) ≡ ticks_between cs i k + (if tick_at cs k then 1 else 0)
  unfolding ticks_between
  ticks_next i k h = one_more_lem (tick_at cs) i k h

  no_ticks : (i : ℕ) → ticks_between cs i (suc i) ≡ 0
  unfolding ticks_between
  no_ticks i = none_yet (tick_at cs) i

  first_below : (i : ℕ) → hearing_at cs s i ≡ true → ltb (ticks_between cs i (suc i)) (window_after i) ≡ true
  first_below i h = rw (no_ticks i) (lt-ltb 0 (window_after i) (omega (arith, (window_bounds (suc i) (heard_watched i h)).0)))

  since : (i k : ℕ) → hearing_at cs s i ≡ true → i < k → Unheard cs s i k → Since i k
  since i zero h l u = absurd (not-suc-le-zero l)
  since i (suc k) h l u =
      elim (ℕ_discrete i k) [
        | yes e ↦ subst (λ (j : ℕ). Since i (suc j)) e first
        | no d ↦ later (omega arith) (u k (omega arith) (le_refl (suc k))) (since i k h (omega arith) (λ j a b. u j a (omega arith)))
      ]
    where
      first : Since i (suc i)
      first =
          record {
            is_watched = met_watched (suc i) ∙ heard_watched i h;
            window_is = refl;
            silence_is = ap (λ (q : Entry). q.silence) (step i true h) ∙ rw (first_below i h) (sym (no_ticks i));
          }

      later : i < k → hearing_at cs s k ≡ false → Since i k → Since i (suc k)
      later l h q =
          record {
            is_watched = ap (λ (e : Entry). e.watched) (step k false h) ∙ q.is_watched;
            window_is = ap (λ (e : Entry). e.window) (step k false h) ∙ q.window_is;
            silence_is =
                ap (λ (e : Entry). e.silence) (step k false h)
                ∙ rw (q.is_watched, q.window_is, q.silence_is) (one_tick (tick_at cs k) (window_after i) (ticks_between cs i k))
                ∙ ap (up_to (window_after i)) (sym (ticks_next i k l));
          }

  notice_at_lem : (k : ℕ) → notice_at cs s k ≡ (tick_at cs k && overdue (met cs k) s)
  unfolding notice_at
  notice_at_lem k = go (call_at cs k)
    where
      go : (c : Call) → notices_of (met cs k) c s ≡ (is_tick c && overdue (met cs k) s)
      go (Watch x) = refl
      go Tick = refl
      go (Hear x) = refl

  -- "A watched stand not heard for its full window is noticed on exactly that tick"
  pub noticed_exactly : (i k : ℕ) → hearing_at cs s i ≡ true → i < k → Unheard cs s i k
      → notice_at cs s k ≡ (tick_at cs k && eqb (suc (ticks_between cs i k)) ((met cs (suc i)).window s))
  noticed_exactly i k h l u =
      let q : Since i k = since i k h l u in
      notice_at_lem k ∙ rw (q.is_watched, q.window_is, q.silence_is, reached_by_tick (window_after i) (ticks_between cs i k)) refl

  -- who is not watched is not noticed
  pub unwatched_unnoticed : (k : ℕ) → watched_before cs s k ≡ false → notice_at cs s k ≡ false
  unwatched_unnoticed k e = notice_at_lem k ∙ rw (met_watched k, e) (and-false (tick_at cs k))

  no_notices : (i : ℕ) → notices_between cs s i (suc i) ≡ 0
  unfolding notices_between
  no_notices i = none_yet (notice_at cs s) i

  notices_next : (i k : ℕ) → i < k → notices_between cs s i (suc k) ≡ notices_between cs s i k + (if notice_at cs s k then 1 else 0)
  unfolding notices_between
  notices_next i k h = one_more_lem (notice_at cs s) i k h

  -- "once per silence"
  pub once_per_silence : (i k : ℕ) → hearing_at cs s i ≡ true → i < k → Unheard cs s i k
      → notices_between cs s i k ≡ (if ltb (ticks_between cs i k) ((met cs (suc i)).window s) then 0 else 1)
  once_per_silence i zero h l u = absurd (not-suc-le-zero l)
  once_per_silence i (suc k) h l u =
      elim (ℕ_discrete i k) [
        | yes e ↦ rw (sym e, first_below i h) (no_notices i)
        | no d ↦
            let a : i < k = omega arith in
            let v : Unheard cs s i k = λ j a b. u j a (omega arith) in
            rw (notices_next i k a, ticks_next i k a, once_per_silence i k h a v, noticed_exactly i k h a v)
            (one_notice (tick_at cs k) (window_after i) (ticks_between cs i k))
      ]

  -- ---- who is never noticed

  below_is : (i k : ℕ) → Since i k → ltb ((met cs k).silence s) ((met cs k).window s) ≡ ltb (ticks_between cs i k) (window_after i)
  below_is i k q = rw (q.window_is, q.silence_is) (below_window (window_after i) (ticks_between cs i k))

  tick_unheard : (k : ℕ) → tick_at cs k ≡ true → hearing_at cs s k ≡ false
  tick_unheard k t = sym (hearing_is k) ∙ go (call_at cs k) t
    where
      go : (c : Call) → is_tick c ≡ true → hearing s (watched_before cs s k) c ≡ false
      go (Watch x) t = clash t refl
      go Tick t = neither s (ltb s 64) (watched_before cs s k)
      go (Hear x) t = clash t refl

  -- where nothing was noticed since, the window was not reached
  unreached :
      (i k : ℕ) → hearing_at cs s i ≡ true → i < k → Unheard cs s i k → ((j : ℕ) → i < j → j < k → notice_at cs s j ≡ false)
      → ltb (ticks_between cs i k) (window_after i) ≡ true
  unfolding notices_between
  unreached i k h l u none =
      decide (ltb (ticks_between cs i k) (window_after i)) (λ e. e)
      (λ e.
      let one : notices_between cs s i k ≡ 1 = once_per_silence i k h l u ∙ ap (λ (b : Bool). if b then 0 else 1) e in
      absurd (omega (arith, one, count_none k (λ j. ltb i j && notice_at cs s j) not_after)))
    where
      not_after : (j : ℕ) → j < k → (ltb i j && notice_at cs s j) ≡ false
      not_after j b =
          is_false (ltb i j && notice_at cs s j)
          (λ e. clash (and_right (ltb i j) (notice_at cs s j) e) (none j (ltb-true i j (and_left (ltb i j) (notice_at cs s j) e)) b))

  -- nor is anything noticed at a call up to which the ticks are fewer than the window
  unnoticed :
      (k : ℕ) → ((i : ℕ) → hearing_at cs s i ≡ true → i < k → Unheard cs s i (suc k) → ticks_between cs i (suc k) < window_after i)
      → notice_at cs s k ≡ false
  unnoticed k few = decide (watched_before cs s k) (λ w. go (last_hearing k w)) (unwatched_unnoticed k)
    where
      go : LastHearing k → notice_at cs s k ≡ false
      go (i, l, h, u) =
          noticed_exactly i k h l u
          ∙ is_false (tick_at cs k && eqb (suc (ticks_between cs i k)) (window_after i))
          (λ n.
          let full : eqb (suc (ticks_between cs i k)) (window_after i) ≡ true = and_right (tick_at cs k) _ n in
          let t : tick_at cs k ≡ true = and_left (tick_at cs k) _ n in
          let more : ticks_between cs i (suc k) ≡ ticks_between cs i k + 1 =
          ticks_next i k l ∙ ap (λ (b : Bool). ticks_between cs i k + (if b then 1 else 0)) t in
          absurd (omega (arith, eqb-true (suc (ticks_between cs i k)) (window_after i) full, few i h l (unheard_on i k u (tick_unheard k t)))))

  -- "a stand with fewer ticks after each hearing, up to the next one or the list's end, than its window .. is never noticed", and only such a stand
  pub never_noticed :
      ((k : ℕ) → notice_at cs s k ≡ false)
      ↔ ((i k : ℕ) → hearing_at cs s i ≡ true → i < k → Unheard cs s i k → ticks_between cs i k < (met cs (suc i)).window s)
  never_noticed = (
    (λ none i k h l u. ltb-true _ _ (unreached i k h l u (λ j a b. none j))),
    (λ few k. unnoticed k (λ i h l u. few i (suc k) h (omega arith) u)),
  )

  -- until the first notice the window is 4
  pub four_until_noticed : (k : ℕ) → ((j : ℕ) → j < k → notice_at cs s j ≡ false) → watched_before cs s k ≡ true → (met cs k).window s ≡ 4
  unfolding watched_before some
  four_until_noticed zero none e = clash e (and-false (ltb s 64))
  four_until_noticed (suc k) none e =
      decide (hearing_at cs s k)
      (λ h. ap (λ (q : Entry). q.window) (step k true h)
      ∙ if_law (λ (w : ℕ). w ≡ 4) ((met cs k).watched s) _ 4
      (λ w. let before = sym (met_watched k) ∙ w in rw (not_silent (last_hearing k before)) (four_until_noticed k earlier before))
      (λ w. refl))
      (λ h. ap (λ (q : Entry). q.window) (step k false h) ∙ four_until_noticed k earlier (still_watched k h e))
    where
      earlier : (j : ℕ) → j < k → notice_at cs s j ≡ false
      earlier j b = none j (omega arith)

      not_silent : LastHearing k → ltb ((met cs k).silence s) ((met cs k).window s) ≡ true
      not_silent (i, l, h, u) = below_is i k (since i k h l u) ∙ unreached i k h l u (λ j a b. earlier j b)

  -- so fewer than four will do, and are needed
  pub fewer_than_four :
      ((k : ℕ) → notice_at cs s k ≡ false)
      ↔ ((i k : ℕ) → hearing_at cs s i ≡ true → i < k → Unheard cs s i k → ticks_between cs i k < 4)
  fewer_than_four = (
    (λ none i k h l u. omega (arith, never_noticed.0 none i k h l u, four i h (λ j b. none j))),
    (λ few k. none_below few (suc k) k (le_refl (suc k))),
  )
    where
      four : (i : ℕ) → hearing_at cs s i ≡ true → ((j : ℕ) → j < suc i → notice_at cs s j ≡ false) → window_after i ≡ 4
      four i h none = four_until_noticed (suc i) none (heard_watched i h)

      none_below :
          ((i k : ℕ) → hearing_at cs s i ≡ true → i < k → Unheard cs s i k → ticks_between cs i k < 4)
          → (n k : ℕ) → k < n → notice_at cs s k ≡ false
      none_below few zero k b = absurd (not-suc-le-zero b)
      none_below few (suc n) k b =
          unnoticed k (λ i h l u.
          omega (arith, few i (suc k) h (omega arith) u, four i h (λ j c. none_below few n j (omega arith))))

  -- ---- noticed, and silent

  noticed_since : (i k : ℕ) → hearing_at cs s i ≡ true → i < k → Unheard cs s i k → noticed_before cs s k ≡ not (ltb (ticks_between cs i k) (window_after i))
  unfolding noticed_before notices_between
  noticed_since i k h l u =
      same_test (noticed_before cs s k) (not within)
      (λ n. let p = some_out k noticed n in not_in (is_false within (λ e. counted p.0 p.1 p.2 e)))
      (λ n. decide (noticed_before cs s k) (λ e. e) (λ e. clash (unreached i k h l u (none e)) (not_out within n)))
    where
      within : Bool
      within = ltb (ticks_between cs i k) (window_after i)

      heard_after : ℕ → Set
      heard_after n j = ltb n j && hearing_at cs s j

      noticed : Set
      noticed n = notice_at cs s n && not (some k (heard_after n))

      -- a notice that no hearing follows is after call i
      after_hearing : (n : ℕ) → noticed n ≡ true → i < n
      after_hearing n e =
          elim (dec_lt i n) [
            | yes a ↦ a
            | no d ↦
                (elim (ℕ_discrete n i) [
                  | yes f ↦
                      clash h (tick_unheard i (and_left (tick_at cs i) (overdue (met cs i) s)
                      (sym (notice_at_lem i) ∙ ap (notice_at cs s) (sym f) ∙ and_left (notice_at cs s n) (not (some k (heard_after n))) e)))
                  | no g ↦
                      clash (some_in k (heard_after n) i l (and_in (lt-ltb n i (omega arith)) h))
                      (not_out (some k (heard_after n)) (and_right (notice_at cs s n) (not (some k (heard_after n))) e))
                ])
          ]

      counted : (n : ℕ) → n < k → noticed n ≡ true → within ≡ true → ⊥
      counted n b e r =
          let zero-notices : notices_between cs s i k ≡ 0 = once_per_silence i k h l u ∙ ap (λ (q : Bool). if q then 0 else 1) r in
          absurd (omega (
            arith,
            zero-notices,
            count_some k (λ j. ltb i j && notice_at cs s j) n b
                (and_in (lt-ltb i n (after_hearing n e)) (and_left (notice_at cs s n) (not (some k (heard_after n))) e)),
          ))

      unheard_after : (n : ℕ) → i < n → some k (heard_after n) ≡ false
      unheard_after n a =
          is_false (some k (heard_after n))
          (λ e.
          let p = some_out k (heard_after n) e in
          let m : n < p.0 = ltb-true n p.0 (and_left (ltb n p.0) (hearing_at cs s p.0) p.2) in
          clash (and_right (ltb n p.0) (hearing_at cs s p.0) p.2) (u p.0 (omega arith) p.1))

      none : noticed_before cs s k ≡ false → (j : ℕ) → i < j → j < k → notice_at cs s j ≡ false
      none e j a b = is_false (notice_at cs s j) (λ f. clash (some_in k noticed j b (and_in f (not_in (unheard_after j a)))) e)

  -- "noticed" and "its silence had reached its window" are the same
  pub noticed_is_silent : (k : ℕ) → watched_before cs s k ≡ true
      → (noticed_before cs s k ≡ silent (met cs k) s) × (noticed_before cs s k ≡ eqb ((met cs k).silence s) ((met cs k).window s))
  noticed_is_silent k w = go (last_hearing k w)
    where
      go : LastHearing k
          → (noticed_before cs s k ≡ silent (met cs k) s) × (noticed_before cs s k ≡ eqb ((met cs k).silence s) ((met cs k).window s))
      go (i, l, h, u) =
          let q : Since i k = since i k h l u in
          let full : noticed_before cs s k ≡ not (ltb (ticks_between cs i k) (window_after i)) = noticed_since i k h l u in (
            full ∙ ap not (sym (below_is i k q)),
            full ∙ rw (q.window_is, q.silence_is) (sym (at_window (window_after i) (ticks_between cs i k))),
          )

  -- the window grows on exactly the hearings after a notice
  pub window_grows : (k : ℕ) → watched_before cs s k ≡ true
      → (met cs (suc k)).window s ≡ (if hearing_at cs s k && noticed_before cs s k then grown ((met cs k).window s) else (met cs k).window s)
  window_grows k w =
      decide (hearing_at cs s k)
      (λ h. ap (λ (q : Entry). q.window) (step k true h) ∙ rw (met_watched k, w, h, (noticed_is_silent k w).0) refl)
      (λ h. ap (λ (q : Entry). q.window) (step k false h) ∙ rw h refl)

  pub window_never_falls : (j k : ℕ) → j ≤ k → (met cs j).window s ≤ (met cs k).window s
  window_never_falls j zero l = let e : j ≡ 0 = omega arith in rw e (le_refl ((met cs 0).window s))
  window_never_falls j (suc k) l =
      elim (ℕ_discrete j (suc k)) [
        | yes e ↦ rw e (le_refl ((met cs (suc k)).window s))
        | no d ↦ le_trans (window_never_falls j k (omega arith)) rises
      ]
    where
      grows : (w : ℕ) → w ≤ grown w
      grows w = if_law (λ (v : ℕ). w ≤ v) (ltb w 255) (suc w) w (λ e. omega arith) (λ e. le_refl w)

      rises : (met cs k).window s ≤ (met cs (suc k)).window s
      rises =
          decide (watched_before cs s k)
          (λ e. rw (window_grows k e)
          (if_law (λ (v : ℕ). (met cs k).window s ≤ v) (hearing_at cs s k && noticed_before cs s k) (grown ((met cs k).window s)) ((met cs k).window s)
          (λ f. grows ((met cs k).window s)) (λ f. le_refl ((met cs k).window s))))
          (λ e. rw (met_unwatched k e).1 zero-le)

-- "A refused call gives no notice and leaves the record."
pub refused_leaves : (l : Listener) (c : Call) → is_accepted (answer_of l c) ≡ false → (leaves l c ≡ l) × (notices_of l c ≡ empty)
refused_leaves l (Watch s) e = (rw e refl, refl)
refused_leaves l Tick e = clash refl e
refused_leaves l (Hear s) e = (rw e refl, refl)

-- ---- the record by value

-- "All 0 is the empty record"
pub empty_by_value : listener_of empty_record ≡ empty_listener
empty_by_value = λ i. record { watched = fun_ext (λ s. no_bit_above 0 0 s (lit< tt) zero-le) i; silence = fun_ext (zeros 64) i; window = fun_ext (zeros 64) i }
  where
    zeros : (n s : ℕ) → get_or {A = ℕ} (replicate n 0) s 0 ≡ 0
    zeros zero s = refl
    zeros (suc n) zero = refl
    zeros (suc n) (suc s) = zeros n s

-- nothing is kept of nodes above 63
abbrev Low : Listener → Type 0
Low l = (s : ℕ) → 64 ≤ s → at s l ≡ record { watched = false; silence = 0; window = 0 }

low_next : (l : Listener) (c : Call) → Low l → Low (leaves l c)
low_next l c low s h =
    at_next s l c ∙ rw (le-ltb s 64 h) (ap (λ (e : Entry). next s false e c) (low s h) ∙ rw (and-false (is_tick c)) refl)

back : (l : Listener) → Low l → listener_of (record_of l) ≡ l
back l low =
    λ i.
    record {
      watched = bits_back 64 l.watched watched_low i;
      silence = fun_ext (table_back l.silence (λ s h. ap (λ (e : Entry). e.silence) (low s h))) i;
      window = fun_ext (table_back l.window (λ s h. ap (λ (e : Entry). e.window) (low s h))) i;
    }
  where
    watched_low : (s : ℕ) → l.watched s ≡ true → s < 64
    watched_low s e =
        elim (dec_lt s 64) [
          | yes h ↦ h
          | no d ↦ clash e (ap (λ (q : Entry). q.watched) (low s (omega arith)))
        ]

    table_back : (f : ℕ → ℕ) → ((s : ℕ) → 64 ≤ s → f s ≡ 0) → (s : ℕ) → get_or (tabulate 64 f) s 0 ≡ f s
    table_back f zero-from s =
        elim (dec_lt s 64) [
          | yes h ↦ get_d_tabulate f 0 64 s h
          | no d ↦ beyond_tabulate f 0 64 s (omega arith) ∙ sym (zero-from s (omega arith))
        ]

list_from : (q : ListenerRecord) (cs : List Call) → Low (listener_of q) → listener_of (after_record q cs) ≡ after (listener_of q) cs
unfolding after after_record
list_from q [] low = refl
list_from q (c ∷ cs) low =
    let kept : Low (leaves (listener_of q) c) = low_next (listener_of q) c low in
    let e : listener_of (leaves_record q c) ≡ leaves (listener_of q) c = back (leaves (listener_of q) c) kept in
    list_from (leaves_record q c) cs (subst Low (sym e) kept) ∙ ap (λ (l : Listener). after l cs) e

-- all this is true of the record by value, on which the code works
pub list_by_value : (cs : List Call) → listener_of (after_record empty_record cs) ≡ after empty_listener cs
list_by_value cs = list_from empty_record cs (subst Low (sym empty_by_value) (λ s h. refl)) ∙ ap (λ (l : Listener). after l cs) empty_by_value
