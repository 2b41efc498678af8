-- Each step leaves a well-formed own record and sends well-formed messages.
use mathlib.Core.Path.{◌≡◌, refl, sym, ap, ◌∙◌, subst}
use Prim.Native.Nat.{ℕ, ◌≤◌, ◌<◌}
use native.Mathlib.Nat.{le_refl, le_trans}
use native.Mathlib.Omega.{arith}
use mathlib.Core.Bool.{true, false, not, ◌&&◌, ◌||◌}
use mathlib.Core.List.{[], ◌∷◌, map}
use lib.Dec.{ltb, eqb}
use borrow.Author.Tests.{eq-eqb, ne_eqb, eqb-true, eqb-false}
use Rattle.std.specs.Prelude.{if◌then◌else◌}
use Rattle.model.specs.Sets.{Set, empty, with, without, union, members, some}
use Rattle.model.specs.Leafset.{Table, size, leafset, closest, successor, passes_zero}
use Rattle.model.specs.Ring.{Own, Message, cleared}
use Rattle.model.specs.Types.{Uses, nothing_used, view_used, subject_used, spare_used, subject_and_stamp_used, used_by_type, uses_of}
use Rattle.model.specs.Types.{uses_subject, names_spare, ping_contact, pong_contact, ping_ask_inv, pong_ask_inv, ping_invite}
use Rattle.model.specs.Types.{pong_invite, ping_ask_repl, pong_ask_repl, ping_replace, pong_replace, ping_deloopy, pong_deloopy, leave}
use Rattle.model.specs.Words.{is_type}
use Rattle.model.specs.Steps.{Effect, stamped, naming, plain, viewing, set_candidates, set_commit, set_spare, add_candidates}
use Rattle.model.specs.Steps.{add_candidate, hold, release, forget, leaving, contact, notice, timer0, timer2, timer3, timer4, timer}
use Rattle.model.specs.Steps.{on_ping_contact, on_pong_contact, on_ping_ask_inv, on_pong_ask_inv, on_ping_invite, on_pong_invite, on_ping_ask_repl}
use Rattle.model.specs.Steps.{on_pong_ask_repl, on_ping_replace, on_pong_replace, on_ping_deloopy, on_pong_deloopy, on_leave, deliver}
use Rattle.model.proofs.Laws.{clash, and_left, and_right, and_in, or_right, or_case, or_none_left}
use Rattle.model.proofs.Laws.{or_none_right, not_in, not_out, not_out_false, is_false, if_law, put_law}
use Rattle.model.specs.WellFormed.{WellFormedTable, Other, Spare, none, spare, WellFormedOwn, WellFormedMessage, Each, nil, cons}
use Rattle.model.proofs.Lists.{each_append, each_map, item, end, listed_at}
use Rattle.model.proofs.Choices.{members_are, leafset_within, leafset_other, closest_spare, successor_held}

-- ---- own records

pub cleared_well : (n x clock : ℕ) → WellFormedOwn n x clock cleared
cleared_well n x clock =
    record {
      held_other = λ z e. clash e refl;
      candidate_other = λ z e. clash e refl;
      commit_held = λ z e. clash e refl;
      commit_none = λ z e. refl;
      commit_high = λ z. omega arith;
      spare_other = λ z. none;
      spare_none = λ z e. refl;
    }

-- a later clock
pub later_well : (n x before after : ℕ) (o : Own) → before ≤ after → WellFormedOwn n x before o → WellFormedOwn n x after o
later_well n x before after o h g =
    record {
      held_other = g.held_other;
      candidate_other = g.candidate_other;
      commit_held = g.commit_held;
      commit_none = g.commit_none;
      commit_high = λ z. le_trans (g.commit_high z) h;
      spare_other = g.spare_other;
      spare_none = g.spare_none;
    }

module _ (n x now : ℕ) (o : Own) (g : WellFormedOwn n x now o) where
  pub candidates_well : (S : Set) → ((z : ℕ) → S z ≡ true → Other n x z) → WellFormedOwn n x now (set_candidates S o)
  candidates_well S f =
      record {
        held_other = g.held_other;
        candidate_other = f;
        commit_held = g.commit_held;
        commit_none = g.commit_none;
        commit_high = g.commit_high;
        spare_other = g.spare_other;
        spare_none = g.spare_none;
      }

  pub add_candidates_well : (S : Set) → ((z : ℕ) → S z ≡ true → Other n x z) → WellFormedOwn n x now (add_candidates S o)
  add_candidates_well S f = candidates_well (union o.candidates S) (λ z e. or_case (o.candidates z) (S z) e (g.candidate_other z) (f z))

  pub add_candidate_well : (y : ℕ) → Other n x y → WellFormedOwn n x now (add_candidate y o)
  add_candidate_well y h =
      candidates_well (with o.candidates y)
      (λ z e. or_case (o.candidates z) (eqb z y) e (g.candidate_other z) (λ i. subst (Other n x) (sym (eqb-true z y i)) h))

  pub commit_well : (z time : ℕ) → o.held z ≡ true → 0 < time → time ≤ now → WellFormedOwn n x now (set_commit z time o)
  commit_well z time h p q =
      record {
        held_other = g.held_other;
        candidate_other = g.candidate_other;
        commit_held = λ y e. put_law (λ v. 0 < v) o.commit z time y (λ i. p) (λ d. g.commit_held y e);
        commit_none = λ y e. put_law (λ v. v ≡ 0) o.commit z time y (λ i. clash h (ap o.held (sym i) ∙ e)) (λ d. g.commit_none y e);
        commit_high = λ y. put_law (λ v. v ≤ now) o.commit z time y (λ i. q) (λ d. g.commit_high y);
        spare_other = g.spare_other;
        spare_none = g.spare_none;
      }

  pub spare_well : (z y : ℕ) → o.held z ≡ true → Spare n x z y → WellFormedOwn n x now (set_spare z y o)
  spare_well z y h s =
      record {
        held_other = g.held_other;
        candidate_other = g.candidate_other;
        commit_held = g.commit_held;
        commit_none = g.commit_none;
        commit_high = g.commit_high;
        spare_other = λ v. put_law (Spare n x v) o.spare z y v (λ i. subst (λ (k : ℕ). Spare n x k y) (sym i) s) (λ d. g.spare_other v);
        spare_none = λ v e. put_law (λ w. w ≡ 64) o.spare z y v (λ i. clash h (ap o.held (sym i) ∙ e)) (λ d. g.spare_none v e);
      }

  pub hold_well : (y : ℕ) → Other n x y → 0 < now → WellFormedOwn n x now (hold now y o)
  unfolding hold
  hold_well y h p =
      if_law (WellFormedOwn n x now) (o.held y) o _ (λ e. g)
      (λ e. record {
        held_other = λ z k. or_case (o.held z) (eqb z y) k (g.held_other z) (λ i. subst (Other n x) (sym (eqb-true z y i)) h);
        candidate_other = g.candidate_other;
        commit_held = λ z k. put_law (λ v. 0 < v) o.commit y now z (λ i. p)
            (λ d. or_case (o.held z) (eqb z y) k (g.commit_held z) (λ i. absurd (d (eqb-true z y i))));
        commit_none = λ z k. put_law (λ v. v ≡ 0) o.commit y now z
            (λ i. clash (eq-eqb z y i) (or_none_right (o.held z) (eqb z y) k))
            (λ d. g.commit_none z (or_none_left (o.held z) (eqb z y) k));
        commit_high = λ z. put_law (λ v. v ≤ now) o.commit y now z (λ i. le_refl now) (λ d. g.commit_high z);
        spare_other = λ z. put_law (Spare n x z) o.spare y 64 z (λ i. none) (λ d. g.spare_other z);
        spare_none = λ z k. put_law (λ v. v ≡ 64) o.spare y 64 z (λ i. refl) (λ d. g.spare_none z (or_none_left (o.held z) (eqb z y) k));
      })

  pub release_well : (y : ℕ) → WellFormedOwn n x now (release y o)
  unfolding release
  release_well y =
      record {
        held_other = λ z k. g.held_other z (and_left (o.held z) (not (eqb z y)) k);
        candidate_other = g.candidate_other;
        commit_held = λ z k. put_law (λ v. 0 < v) o.commit y 0 z
            (λ i. clash (eq-eqb z y i) (not_out (eqb z y) (and_right (o.held z) (not (eqb z y)) k)))
            (λ d. g.commit_held z (and_left (o.held z) (not (eqb z y)) k));
        commit_none = λ z k. put_law (λ v. v ≡ 0) o.commit y 0 z (λ i. refl) (λ d. g.commit_none z (still z d k));
        commit_high = λ z. put_law (λ v. v ≤ now) o.commit y 0 z (λ i. omega arith) (λ d. g.commit_high z);
        spare_other = λ z. put_law (Spare n x z) o.spare y 64 z (λ i. none) (λ d. g.spare_other z);
        spare_none = λ z k. put_law (λ v. v ≡ 64) o.spare y 64 z (λ i. refl) (λ d. g.spare_none z (still z d k));
      }
    where
      still : (z : ℕ) → (z ≡ y → ⊥) → (o.held z && not (eqb z y)) ≡ false → o.held z ≡ false
      still z d k = is_false (o.held z) (λ h. clash (and_in h (not_in (ne_eqb z y d))) k)

pub forget_well : (n x now : ℕ) (o : Own) → WellFormedOwn n x now o → (z : ℕ) → WellFormedOwn n x now (forget z o)
unfolding forget
forget_well n x now o g z =
    let p : Own = if o.held z then release z o else o in
    let w : WellFormedOwn n x now p = if_law (WellFormedOwn n x now) (o.held z) (release z o) o (λ e. release_well n x now o g z) (λ e. g) in
    candidates_well n x now p w (without o.candidates z) (λ y e. g.candidate_other y (and_left (o.candidates y) (not (eqb y z)) e))

-- who is held anew is held
hold_held : (now y : ℕ) (o : Own) → (hold now y o).held y ≡ true
unfolding hold
hold_held now y o = if_law (λ (p : Own). p.held y ≡ true) (o.held y) o _ (λ e. e) (λ e. or_right (o.held y) (eq-eqb y y refl))

-- and stays so when another is released
release_held : (z y : ℕ) (o : Own) → (y ≡ z → ⊥) → o.held y ≡ true → (release z o).held y ≡ true
unfolding release
release_held z y o d h = and_in h (not_in (ne_eqb y z d))

-- ---- messages: a law for each row of the table of types

-- a message that x sends
pub record WellSent (n x : ℕ) (m : Message) : Type 0 where
  pub well : WellFormedMessage n m
  pub by_sender : m.sender ≡ x

module _ (n k x y : ℕ) (known : is_type k ≡ true) (hx : x < n) (hy : Other n x y) where
  message_well : (used : Uses) → uses_of k ≡ used → (z time : ℕ) (S : Set)
      → (used.subject ≡ false → z ≡ 64) → (used.subject ≡ true → used.spare ≡ false → z < n) → (used.spare ≡ true → Spare n y x z)
      → (used.stamp ≡ false → time ≡ 0) → time ≤ 16777215
      → ((v : ℕ) → S v ≡ true → used.view ≡ true) → ((v : ℕ) → S v ≡ true → Other n y v)
      → WellSent n x (record { type = k; sender = x; receiver = y; subject = z; stamp = time; view = S })
  message_well used u z time S a b c d e f g =
      let subject : used.subject ≡ uses_subject k = ap (λ (v : Uses). v.subject) (sym u) in
      let is_spare : used.spare ≡ names_spare k = ap (λ (v : Uses). v.spare) (sym u) in
      record {
        by_sender = refl;
        well = record {
          type_known = known;
          sender_low = hx;
          receiver_low = hy.low;
          ends_differ = λ i. hy.differs (sym i);
          subject_none = λ i. a (subject ∙ i);
          subject_low = λ i j. b (subject ∙ i) (is_spare ∙ j);
          subject_spare = λ i. c (is_spare ∙ i);
          stamp_none = λ i. d (ap (λ (v : Uses). v.stamp) (sym u) ∙ i);
          stamp_high = e;
          view_type = λ v i. ap (λ (v : Uses). v.view) u ∙ f v i;
          view_other = g;
        };
      }

  plain_well : uses_of k ≡ nothing_used → WellSent n x (plain k x y)
  plain_well u =
      message_well nothing_used u 64 0 empty (λ e. refl) (λ e d. clash e refl) (λ e. clash e refl) (λ e. refl) (omega arith)
      (λ v i. clash i refl) (λ v i. clash i refl)

  viewing_well : (S : Set) → uses_of k ≡ view_used → ((z : ℕ) → S z ≡ true → Other n y z) → WellSent n x (viewing k x y S)
  viewing_well S u f =
      message_well view_used u 64 0 S (λ e. refl) (λ e d. clash e refl) (λ e. clash e refl) (λ e. refl) (omega arith)
      (λ v i. refl) f

  naming_well : (z : ℕ) → uses_of k ≡ subject_used → z < n → WellSent n x (naming k x y z)
  naming_well z u h =
      message_well subject_used u z 0 empty (λ e. clash refl e) (λ e d. h) (λ e. clash e refl) (λ e. refl) (omega arith)
      (λ v i. clash i refl) (λ v i. clash i refl)

  offering_well : (z : ℕ) → uses_of k ≡ spare_used → Spare n y x z → WellSent n x (naming k x y z)
  offering_well z u s =
      message_well spare_used u z 0 empty (λ e. clash refl e) (λ e d. clash refl d) (λ e. s) (λ e. refl) (omega arith)
      (λ v i. clash i refl) (λ v i. clash i refl)

  stamped_well : (z time : ℕ) → uses_of k ≡ subject_and_stamp_used → z < n → time ≤ 16777215 → WellSent n x (stamped k x y z time)
  stamped_well z time u h l =
      message_well subject_and_stamp_used u z time empty (λ e. clash refl e) (λ e d. h) (λ e. clash e refl) (λ e. clash refl e) l
      (λ v i. clash i refl) (λ v i. clash i refl)

-- ---- what a step leaves

pub record WellFormedEffect (n x now : ℕ) (e : Effect) : Type 0 where
  pub own_well : WellFormedOwn n x now e.own
  pub sent_well : Each (WellSent n x) e.sent

-- a message for each member
each_sent : (n : ℕ) {x : ℕ} (S : Set) (make : ℕ → Message) → ((y : ℕ) → S y ≡ true → WellSent n x (make y)) → Each (WellSent n x) (map make (members n S))
each_sent n S make f = each_map make (λ y m. f y m.within) (members_are n S)

-- a message that uses nothing, to each of the held
held_sent : (n me now : ℕ) (o : Own) → me < n → WellFormedOwn n me now o → (k : ℕ) → is_type k ≡ true → uses_of k ≡ nothing_used
    → Each (WellSent n me) (map (plain k me) (members n o.held))
held_sent n me now o low g k p u = each_sent n o.held (plain k me) (λ y e. plain_well n k me y p low (g.held_other y e) u)

pub leaving_well : (t : Table) (me now : ℕ) (o : Own) → me < size t → WellFormedOwn (size t) me now o
    → Each (WellSent (size t) me) (leaving t me now o).sent
unfolding leaving used_by_type
leaving_well t me now o low g = held_sent (size t) me now o low g leave refl refl

module _ (t : Table) (gt : WellFormedTable t) (now : ℕ) (positive : 0 < now) (high : now ≤ 16777215) (o : Own) where
  module _ (me : ℕ) (low : me < size t) (g : WellFormedOwn (size t) me now o) where
    nothing_well : WellFormedEffect (size t) me now (record { own = o; sent = [] })
    nothing_well = record { own_well = g; sent_well = nil }

    outside_held : (z : ℕ) → (o.held z && not (leafset t me o.held z)) ≡ true → o.held z ≡ true
    outside_held z e = and_left (o.held z) (not (leafset t me o.held z)) e

    pub contact_well : (y : ℕ) → Other (size t) me y → WellFormedEffect (size t) me now (contact t me now o y)
    unfolding contact used_by_type
    contact_well y h = record { own_well = g; sent_well = cons (plain_well (size t) ping_contact me y refl low h refl) nil }

    pub notice_well : (z : ℕ) → WellFormedEffect (size t) me now (notice t me now o z)
    unfolding notice
    notice_well z = record { own_well = forget_well (size t) me now o g z; sent_well = nil }

    timer0_well : WellFormedEffect (size t) me now (timer0 t me now o)
    unfolding timer0 used_by_type
    timer0_well =
        record {
          own_well = candidates_well (size t) me now o g empty (λ z e. clash e refl);
          sent_well = each_append
              (each_sent (size t) _ (λ y. plain ping_invite me y)
              (λ y e. plain_well (size t) ping_invite me y refl low
              (g.candidate_other y (and_left (o.candidates y) (not (o.held y)) (and_left (o.candidates y && not (o.held y)) _ e))) refl))
              (held_sent (size t) me now o low g ping_ask_inv refl refl);
        }

    timer2_well : WellFormedEffect (size t) me now (timer2 t me now o)
    unfolding timer2 used_by_type
    timer2_well =
        record {
          own_well = g;
          sent_well = each_sent (size t) (λ z. o.held z && not (leafset t me o.held z)) (λ y. plain ping_ask_repl me y)
              (λ y e. plain_well (size t) ping_ask_repl me y refl low (g.held_other y (outside_held y e)) refl);
        }

    -- a spare that is not 64 is a node
    real_spare : {z y : ℕ} → eqb y 64 ≡ false → Spare (size t) me z y → Other (size t) me y
    real_spare d none = clash refl d
    real_spare d (spare h k) = h

    timer3_well : WellFormedEffect (size t) me now (timer3 t me now o)
    unfolding timer3 used_by_type
    timer3_well =
        record {
          own_well = g;
          sent_well = each_sent (size t)
              (λ z. o.held z && not (leafset t me o.held z) && not (eqb (o.spare z) 64))
              (λ z. stamped ping_replace me (o.spare z) z now)
              (λ z e.
              let h : o.held z ≡ true =
              outside_held z (and_left (o.held z && not (leafset t me o.held z)) (not (eqb (o.spare z) 64)) e)
              in
              let d = and_right (o.held z && not (leafset t me o.held z)) (not (eqb (o.spare z) 64)) e in
              let s : Other (size t) me (o.spare z) = real_spare (not_out (eqb (o.spare z) 64) d) (g.spare_other z) in
              stamped_well (size t) ping_replace me (o.spare z) refl low s z now refl (g.held_other z h).low high);
        }

    -- the successor of a node that holds somebody
    successor_other : some (size t) o.held ≡ true → Other (size t) me (successor t me o.held)
    successor_other e = g.held_other (successor t me o.held) (successor_held t me o.held e)

    timer4_well : WellFormedEffect (size t) me now (timer4 t me now o)
    unfolding timer4 passes_zero used_by_type
    timer4_well =
        if_law (WellFormedEffect (size t) me now) (passes_zero t me o.held) _ _
        (λ e. record {
          own_well = g;
          sent_well = cons (naming_well (size t) ping_deloopy me (successor t me o.held) refl low
              (successor_other (and_left (some (size t) o.held) _ e)) me refl low) nil;
        })
        (λ e. nothing_well)

    pub timer_well : (k : ℕ) → WellFormedEffect (size t) me now (timer t me now o k)
    unfolding timer
    timer_well k =
        listed_at (λ i e. WellFormedEffect (size t) me now e) (record { own = o; sent = [] }) (λ i. nothing_well)
        (item timer0_well (item nothing_well (item timer2_well (item timer3_well (item timer4_well end)))))
        k

  -- ---- deliveries: the message m, at its receiver

  module _ (m : Message) (gm : WellFormedMessage (size t) m) (g : WellFormedOwn (size t) m.receiver now o) where
    abbrev me : ℕ
    me = m.receiver

    abbrev a : ℕ
    a = m.sender

    abbrev Good : Effect → Type 0
    Good e = WellFormedEffect (size t) m.receiver now e

    low : m.receiver < size t
    low = gm.receiver_low

    from : Other (size t) m.receiver m.sender
    from = record { low = gm.sender_low; differs = gm.ends_differ }

    quiet_well : Good (record { own = o; sent = [] })
    quiet_well = nothing_well m.receiver low g

    -- an answer to the sender that uses nothing
    answer_well : (k : ℕ) → is_type k ≡ true → uses_of k ≡ nothing_used → Each (WellSent (size t) me) (plain k me a ∷ [])
    answer_well k p u = cons (plain_well (size t) k me a p low from u) nil

    on_ping_contact_well : Good (on_ping_contact t me now o m)
    unfolding on_ping_contact used_by_type
    on_ping_contact_well = record { own_well = g; sent_well = answer_well pong_contact refl refl }

    on_pong_contact_well : Good (on_pong_contact t me now o m)
    unfolding on_pong_contact
    on_pong_contact_well = record { own_well = hold_well (size t) me now o g a from positive; sent_well = nil }

    on_ping_ask_inv_well : Good (on_ping_ask_inv t me now o m)
    unfolding on_ping_ask_inv used_by_type
    on_ping_ask_inv_well =
        record {
          own_well = add_candidate_well (size t) me now o g a from;
          sent_well = cons
              (viewing_well (size t) pong_ask_inv me a refl low from (leafset t a o.held) refl
              (λ z e. record { low = (g.held_other z (leafset_within t a o.held z e)).low; differs = leafset_other t a o.held z e }))
              nil;
        }

    on_pong_ask_inv_well : Good (on_pong_ask_inv t me now o m)
    unfolding on_pong_ask_inv
    on_pong_ask_inv_well = record { own_well = add_candidates_well (size t) me now o g m.view gm.view_other; sent_well = nil }

    on_ping_invite_well : Good (on_ping_invite t me now o m)
    unfolding on_ping_invite used_by_type
    on_ping_invite_well = record { own_well = g; sent_well = answer_well pong_invite refl refl }

    on_pong_invite_well : Good (on_pong_invite t me now o m)
    unfolding on_pong_invite
    on_pong_invite_well =
        if_law Good (leafset t me (with o.held a) a) _ _
        (λ e. record { own_well = hold_well (size t) me now o g a from positive; sent_well = nil })
        (λ e. quiet_well)

    on_ping_ask_repl_well : Good (on_ping_ask_repl t me now o m)
    unfolding on_ping_ask_repl used_by_type
    on_ping_ask_repl_well =
        record {
          own_well = g;
          sent_well = cons (offering_well (size t) pong_ask_repl me a refl low from (closest t me o.held a) refl (closest_spare t me o.held a)) nil;
        }

    on_pong_ask_repl_well : m.type ≡ pong_ask_repl → Good (on_pong_ask_repl t me now o m)
    unfolding on_pong_ask_repl used_by_type
    on_pong_ask_repl_well i =
        if_law Good (o.held a) _ _
        (λ e. record { own_well = spare_well (size t) me now o g a m.subject e (gm.subject_spare (ap names_spare i)); sent_well = nil })
        (λ e. quiet_well)

    on_ping_replace_well : Good (on_ping_replace t me now o m)
    unfolding on_ping_replace used_by_type
    on_ping_replace_well =
        if_law Good (o.held m.subject) _ _
        (λ e. record {
          own_well = commit_well (size t) me now o g m.subject now e positive (le_refl now);
          sent_well = cons
              (stamped_well (size t) pong_replace me a refl low from m.subject m.stamp refl (g.held_other m.subject e).low gm.stamp_high)
              nil;
        })
        (λ e. quiet_well)

    -- the spare of z is another than z
    spare_differs : {z y : ℕ} → y < size t → Spare (size t) me z y → y ≡ z → ⊥
    spare_differs h none = absurd (omega (arith, gt.size_high))
    spare_differs h (spare k d) = d

    on_pong_replace_well : Good (on_pong_replace t me now o m)
    unfolding on_pong_replace
    on_pong_replace_well =
        if_law Good (o.held z && not (leafset t me o.held z) && eqb (o.spare z) a) _ _
        (λ e. record {
          own_well = if_law (WellFormedOwn (size t) me now) (ltb (o.commit z) m.stamp) _ _
              (λ c. commit_well (size t) me now (release z taken) (release_well (size t) me now taken taken_well z) a now
              (release_held z a taken (differs e) (hold_held now a o)) positive (le_refl now))
              (λ c. taken_well);
          sent_well = nil;
        })
        (λ e. quiet_well)
      where
        z : ℕ
        z = m.subject

        taken : Own
        taken = hold now a o

        taken_well : WellFormedOwn (size t) me now taken
        taken_well = hold_well (size t) me now o g a from positive

        differs : (o.held z && not (leafset t me o.held z) && eqb (o.spare z) a) ≡ true → a ≡ z → ⊥
        differs e =
            let i : o.spare z ≡ a = eqb-true (o.spare z) a (and_right (o.held z && not (leafset t me o.held z)) (eqb (o.spare z) a) e) in
            spare_differs gm.sender_low (subst (Spare (size t) me z) i (g.spare_other z))

    on_ping_deloopy_well : m.type ≡ ping_deloopy → Good (on_ping_deloopy t me now o m)
    unfolding on_ping_deloopy used_by_type
    on_ping_deloopy_well i =
        if_law Good (eqb m.subject me || not (some (size t) o.held)) _ _
        (λ e. quiet_well)
        (λ e. if_law Good (passes_zero t me o.held) _ _
        (λ p. record {
          own_well = add_candidate_well (size t) me now o g m.subject (named e);
          sent_well = cons (plain_well (size t) pong_deloopy me m.subject refl low (named e) refl) nil;
        })
        (λ p. record {
          own_well = g;
          sent_well = cons
              (naming_well (size t) ping_deloopy me (successor t me o.held) refl low
              (successor_other me low g (not_out_false (some (size t) o.held) (or_none_right (eqb m.subject me) (not (some (size t) o.held)) e)))
              m.subject refl subject_low)
              nil;
        }))
      where
        subject_low : m.subject < size t
        subject_low = gm.subject_low (ap uses_subject i) (ap names_spare i)

        named : (eqb m.subject me || not (some (size t) o.held)) ≡ false → Other (size t) me m.subject
        named e = record { low = subject_low; differs = eqb-false m.subject me (or_none_left (eqb m.subject me) (not (some (size t) o.held)) e) }

    on_pong_deloopy_well : Good (on_pong_deloopy t me now o m)
    unfolding on_pong_deloopy
    on_pong_deloopy_well = record { own_well = add_candidate_well (size t) me now o g a from; sent_well = nil }

    on_leave_well : Good (on_leave t me now o m)
    unfolding on_leave
    on_leave_well = record { own_well = forget_well (size t) me now o g a; sent_well = nil }

    pub deliver_well : Good (deliver t me now o m)
    unfolding deliver
    deliver_well =
        listed_at (λ k e. m.type ≡ k → Good e) (record { own = o; sent = [] }) (λ k i. quiet_well)
        (item (λ i. quiet_well)
        (item (λ i. on_ping_contact_well)
        (item (λ i. on_pong_contact_well)
        (item (λ i. on_ping_ask_inv_well)
        (item (λ i. on_pong_ask_inv_well)
        (item (λ i. on_ping_invite_well)
        (item (λ i. on_pong_invite_well)
        (item (λ i. on_ping_ask_repl_well)
        (item on_pong_ask_repl_well
        (item (λ i. on_ping_replace_well)
        (item (λ i. on_pong_replace_well)
        (item on_ping_deloopy_well
        (item (λ i. on_pong_deloopy_well)
        (item (λ i. on_leave_well)
        end))))))))))))))
        m.type
        refl
