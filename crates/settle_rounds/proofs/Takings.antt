-- What an event that loses nothing may take away at a node: a candidate (timer 0), a node that it holds (a trade), a spare. Cases of Keeping.
use mathlib.Core.Path.{◌≡◌, refl, sym, ap, ◌∙◌, subst}
use mathlib.Core.Logic.{◌⊎◌, inl, inr}
use Prim.Native.Nat.{ℕ, ◌<◌}
use native.Mathlib.Omega.{arith}
use native.Mathlib.Decide.{ℕ_discrete}
use mathlib.Core.Bool.{true, false, not, ◌&&◌}
use lib.Dec.{eqb}
use borrow.Author.Tests.{ne_eqb, eq-eqb}
use Rattle.model.specs.Sets.{Set, without, none_node}
use Rattle.model.specs.Leafset.{Table, size}
use Rattle.model.specs.Ring.{Ring, Own, Message, is_running, holds, message_at}
use Rattle.model.specs.Steps.{hold, release, forget, outside}
use Rattle.model.specs.Steps.{deliver}
use Rattle.model.specs.Play.{after}
use Rattle.model.specs.WellFormed.{WellFormed, Spare, none, spare}
use Rattle.model.specs.ConnectivityPreserved.{Harmless}
use Rattle.model.specs.declared.event.Event.{Event}
use Rattle.model.specs.declared.event.Event.TheVariants.{Notice, Timer}
use Rattle.model.proofs.Laws.{clash, and_right, and_in, or_left, or_right, not_in, not_out, is_false, if_law, put_law}
use Rattle.model.proofs.Handlers.{message_in}
use Rattle.settle_kept.specs.Improving.{Clean}
use Rattle.settle_kept.specs.Settled.{takes_in}
use Rattle.settle_kept.proofs.Keeping.{own_forget, Keeps, own_timer, own_deliver, NoSwitch, harmless_switch, Delivers, now_at, own_at, own_after, kept_after}
use Rattle.settle_rounds.specs.Rounds.{Lossless}
use Rattle.settle_rounds.proofs.Turns.{node_of}
use Rattle.settle_rounds.proofs.Candidates.{hold_candidates}

gone : (S : Set) (z u : ℕ) → z ≡ u → without S u z ≡ false
gone S z u i = is_false (S z && not (eqb z u)) (λ e. clash (eq-eqb z u i) (not_out (eqb z u) (and_right (S z) (not (eqb z u)) e)))

module _ (now y : ℕ) (o : Own) where
  pub hold_keeps : (z : ℕ) → o.held z ≡ true → (hold now y o).held z ≡ true
  unfolding hold
  hold_keeps z h = if_law (λ (p : Own). p.held z ≡ true) (o.held y) o _ (λ e. h) (λ e. or_left (eqb z y) h)

  pub hold_takes : (hold now y o).held y ≡ true
  unfolding hold
  hold_takes = if_law (λ (p : Own). p.held y ≡ true) (o.held y) o _ (λ e. e) (λ e. or_right (o.held y) (eq-eqb y y refl))

-- ---- a candidate

module _ (now : ℕ) (o : Own) (u : ℕ) (c : o.candidates u ≡ true) where
  forget_candidate : (z : ℕ) → ¬ (u ≡ z) → (forget z o).candidates u ≡ true
  unfolding forget
  forget_candidate z d = and_in c (not_in (ne_eqb u z d))

  hold_candidate : (y : ℕ) → (hold now y o).candidates u ≡ true
  hold_candidate y = ap (λ (S : Set). S u) (hold_candidates now y o) ∙ c

  candidate_kept :
      (t : Table) (x : ℕ) (m : Message) → (m.type ≡ 13 → ¬ (u ≡ m.sender)) → (deliver t x now o m).own.candidates u ≡ true
  unfolding release
  candidate_kept t x m d =
      own_deliver t x now o (λ (p : Own). p.candidates u ≡ true) c m
      (record {
        on_2 = λ e. hold_candidate m.sender;
        on_6 = λ e fits. hold_candidate m.sender;
        on_8 = λ e h. c;
        on_9 = λ e h. c;
        on_10 = λ e out is. (hold_candidate m.sender, hold_candidate m.sender);
        on_13 = λ e. forget_candidate m.sender (d e);
      })
      (record {
        on_3 = λ e. or_left (eqb u m.sender) c;
        on_4 = λ e. or_left (m.view u) c;
        on_11 = λ e. or_left (eqb u m.subject) c;
        on_12 = λ e. or_left (eqb u m.sender) c;
      })

-- ---- a node that is held

module _ (t : Table) (x now : ℕ) (o : Own) (z : ℕ) (h : o.held z ≡ true) where
  -- z is traded for its spare y, which is held
  abbrev pub TradedIn : Own → Type 0
  TradedIn p = (outside t x now o z ≡ true) × ((y : ℕ) × (o.spare z ≡ y) × (y < size t) × (p.held y ≡ true))

  abbrev StaysOrTraded : Own → Type 0
  StaysOrTraded p = (p.held z ≡ true) ⊎ TradedIn p

  forget_held : (w : ℕ) → ¬ (z ≡ w) → (forget w o).held z ≡ true
  unfolding forget release
  forget_held w d = if_law (λ (p : Own). p.held z ≡ true) (o.held w) (release w o) o (λ e. and_in h (not_in (ne_eqb z w d))) (λ e. h)

  held_keeps :
      (m : Message) → (m.type ≡ 13 → ¬ (z ≡ m.sender)) → (m.type ≡ 10 → m.sender < size t) → ¬ (o.spare z ≡ z) → Keeps t x now o StaysOrTraded m
  unfolding release
  held_keeps m d low other =
      record {
        on_2 = λ e. inl stays;
        on_6 = λ e fits. inl stays;
        on_8 = λ e k. inl h;
        on_9 = λ e k. inl h;
        on_10 = λ e out is. (
          inl stays,
          elim (ℕ_discrete z m.subject) [
            | yes i ↦ inr (
              ap (outside t x now o) i ∙ out,
              (
                m.sender,
                ap o.spare i ∙ is,
                low e,
                and_in (hold_takes now m.sender o) (not_in (ne_eqb m.sender m.subject (λ j. other (ap o.spare i ∙ is ∙ j ∙ sym i)))),
              ),
            )
            | no n ↦ inl (and_in stays (not_in (ne_eqb z m.subject n)))
          ],
        );
        on_13 = λ e. inl (forget_held m.sender (d e));
      }
    where
      stays : (hold now m.sender o).held z ≡ true
      stays = hold_keeps now m.sender o z h

-- ---- a spare

module _ (t : Table) (x now : ℕ) (o : Own) (Good : ℕ → Type 0) (free : Good none_node) (z : ℕ) (g : Good (o.spare z)) where
  hold_spare : (y : ℕ) → Good ((hold now y o).spare z)
  unfolding hold
  hold_spare y = if_law (λ (p : Own). Good (p.spare z)) (o.held y) o _ (λ e. g) (λ e. put_law Good o.spare y none_node z (λ i. free) (λ d. g))

  forget_spare : (w : ℕ) → Good ((forget w o).spare z)
  unfolding forget release
  forget_spare w = if_law (λ (p : Own). Good (p.spare z)) (o.held w) (release w o) o (λ e. put_law Good o.spare w none_node z (λ i. free) (λ d. g)) (λ e. g)

  spare_keeps : (m : Message) → (m.type ≡ 8 → z ≡ m.sender → Good m.subject) → Keeps t x now o (λ (p : Own). Good (p.spare z)) m
  unfolding release
  spare_keeps m good =
      record {
        on_2 = λ e. hold_spare m.sender;
        on_6 = λ e fits. hold_spare m.sender;
        on_8 = λ e h. put_law Good o.spare m.sender m.subject z (λ i. good e i) (λ d. g);
        on_9 = λ e h. g;
        on_10 = λ e out is. (
          hold_spare m.sender,
          put_law Good (hold now m.sender o).spare m.subject none_node z (λ j. free) (λ d. hold_spare m.sender),
        );
        on_13 = λ e. forget_spare m.sender;
      }

-- ---- the spare of a node that stays held

module _ (t : Table) (x now : ℕ) (o : Own) (z y : ℕ) (h : o.held z ≡ true) (g : o.spare z ≡ y) where
  abbrev GoneOrSame : Own → Type 0
  GoneOrSame p = (p.held z ≡ false) ⊎ (p.spare z ≡ y)

  hold_same : (u : ℕ) → (hold now u o).spare z ≡ y
  unfolding hold
  hold_same u =
      if_law (λ (p : Own). p.spare z ≡ y) (o.held u) o _ (λ e. g)
      (λ e. put_law (λ (v : ℕ). v ≡ y) o.spare u none_node z (λ i. clash h (ap o.held i ∙ e)) (λ d. g))

  release_same : (u : ℕ) (p : Own) → p.spare z ≡ y → GoneOrSame (release u p)
  unfolding release
  release_same u p k =
      elim (ℕ_discrete z u) [
        | yes i ↦ inl (gone p.held z u i)
        | no d ↦ inr (put_law (λ (v : ℕ). v ≡ y) p.spare u none_node z (λ i. absurd (d i)) (λ n. k))
      ]

  forget_same : (u : ℕ) → GoneOrSame (forget u o)
  forget_same u = own_forget GoneOrSame (λ S p k. k) o (inr g) u (λ e. release_same u o g)

  same_keeps : (m : Message) → (m.type ≡ 8 → z ≡ m.sender → m.subject ≡ y) → Keeps t x now o GoneOrSame m
  same_keeps m good =
      record {
        on_2 = λ e. inr (hold_same m.sender);
        on_6 = λ e fits. inr (hold_same m.sender);
        on_8 = λ e k. inr (put_law (λ (v : ℕ). v ≡ y) o.spare m.sender m.subject z (λ i. good e i) (λ d. g));
        on_9 = λ e k. inr g;
        on_10 = λ e out is. (inr (hold_same m.sender), release_same m.subject (hold now m.sender o) (hold_same m.sender));
        on_13 = λ e. forget_same m.sender;
      }

-- a spare is not the node itself
spare_not : {n x z v : ℕ} → Spare n x z v → z < 64 → ¬ (v ≡ z)
spare_not none low i = omega arith
spare_not (spare o d) low i = d i

-- ---- an event

module _ (r : Ring) (well : WellFormed r) (clean : Clean r) (e : Event) (l : Lossless r e) (a : ℕ) (on : is_running r a ≡ true) where
  n : NoSwitch e
  n = harmless_switch r e l.0

  -- whom a notice names or who says that it leaves is off
  named_off : (u : ℕ) → is_running r u ≡ true → (x z : _) → e ≡ Notice x z → ¬ (u ≡ z.0)
  named_off u runs x z i q = clash (ap (is_running r) (sym q) ∙ runs) (subst (Harmless r) i l.0)

  left_off : (u : ℕ) → is_running r u ≡ true → (i : ℕ) → (message_at r i).receiver ≡ a → (message_at r i).type ≡ 13 → ¬ (u ≡ (message_at r i).sender)
  left_off u runs i to is q =
      clash (ap (is_running r) (sym q) ∙ runs) (clean.leavers_off (message_at r i) (message_in r.messages i 12 is) is (ap (is_running r) to ∙ on))

  -- a candidate that runs stays, or timer 0 fires
  pub candidate_after : (u : ℕ) → is_running r u ≡ true → (own_at r a).candidates u ≡ true
      → (((after r e).node a).own.candidates u ≡ true) ⊎ (e ≡ Timer (node_of a) 0)
  candidate_after u runs c =
      own_after r (λ (o : Own). (o.candidates u ≡ true) ⊎ (e ≡ Timer (node_of a) 0)) a (inl c) e n
      (λ x z i q. inl (forget_candidate (now_at r a) (own_at r a) u c z.0 (named_off u runs x z i)))
      (λ x k i q. elim (ℕ_discrete k 0) [
        | yes j ↦ inr (i ∙ ap (Timer x) j ∙ ap (λ (b : ℕ). Timer (node_of b) 0) q)
        | no d ↦ inl (own_timer r.table a (now_at r a) (own_at r a) (λ (o : Own). o.candidates u ≡ true) c k (λ z. absurd (d z)))
      ])
      (λ i q to is. inl (candidate_kept (now_at r a) (own_at r a) u c r.table a (message_at r i) (left_off u runs i is)))

  -- a running node that is held stays, or is traded for its spare
  pub held_after : (z : ℕ) → is_running r z ≡ true → (h : holds r a z ≡ true)
      → (holds (after r e) a z ≡ true) ⊎ TradedIn r.table a (now_at r a) (own_at r a) z h ((after r e).node a).own
  held_after z runs h =
      kept_after r (StaysOrTraded r.table a (now_at r a) (own_at r a) z h) (λ S p k. k) a (inl h) e n
      (λ x w i q. inl (forget_held r.table a (now_at r a) (own_at r a) z h w.0 (named_off z runs x w i)))
      (λ i q to is.
      held_keeps r.table a (now_at r a) (own_at r a) z h (message_at r i) (left_off z runs i is)
      (λ ten. (well.node_well (message_at r i).sender).running_low
      (clean.senders_run (message_at r i) (message_in r.messages i 9 ten) (ap takes_in ten) (ap (is_running r) is ∙ on)))
      (spare_not ((well.node_well a).own_well.spare_other z) (below z h)))
    where
      below : (y : ℕ) → holds r a y ≡ true → y < 64
      below y q = let o = ((well.node_well a).own_well.held_other y q).low in let s = well.table_well.size_high in omega arith

  -- a good spare stays good, if it is offered only good ones
  pub spare_after : (Good : ℕ → Type 0) → Good none_node → (z : ℕ) → Good ((own_at r a).spare z)
      → ((i : ℕ) → Delivers e i → (message_at r i).receiver ≡ a → (message_at r i).type ≡ 8 → z ≡ (message_at r i).sender → Good (message_at r i).subject)
      → Good (((after r e).node a).own.spare z)
  spare_after Good free z g offers =
      kept_after r (λ (o : Own). Good (o.spare z)) (λ S p k. k) a g e n
      (λ x w i q. forget_spare r.table a (now_at r a) (own_at r a) Good free z g w.0)
      (λ i q to is. spare_keeps r.table a (now_at r a) (own_at r a) Good free z g (message_at r i) (offers i q is))

  -- the spare of a node that stays held stays, if it is offered no other
  pub spare_stays : (z y : ℕ) → holds r a z ≡ true → (own_at r a).spare z ≡ y
      → ((i : ℕ) → Delivers e i → (message_at r i).receiver ≡ a → (message_at r i).type ≡ 8 → z ≡ (message_at r i).sender → (message_at r i).subject ≡ y)
      → (holds (after r e) a z ≡ false) ⊎ (((after r e).node a).own.spare z ≡ y)
  spare_stays z y h g offers =
      kept_after r (GoneOrSame r.table a (now_at r a) (own_at r a) z y h g) (λ S p k. k) a (inr g) e n
      (λ x w i q. forget_same r.table a (now_at r a) (own_at r a) z y h g w.0)
      (λ i q to is. same_keeps r.table a (now_at r a) (own_at r a) z y h g (message_at r i) (offers i q is))
