-- What an event of a tidy ring may do to what a node x keeps of a node z outside its leafset, and what it may send. A case of Keeping.
use mathlib.Core.Path.{◌≡◌, refl, sym, ap, ◌∙◌, subst}
use Prim.Native.Nat.{ℕ, suc, ◌+◌, ◌<◌}
use native.Mathlib.Omega.{arith}
use native.Mathlib.Decide.{ℕ_discrete}
use mathlib.Core.Bool.{Bool, true, false, not, ◌&&◌, ◌||◌}
use mathlib.Core.List.{Memᴰ}
use lib.Dec.{eqb}
use borrow.Author.Tests.{eq-eqb, ne_eqb}
use Rattle.model.specs.Sets.{Set, with, without, put}
use Rattle.model.specs.Leafset.{Table, size, leafset, closest}
use Rattle.model.specs.Ring.{Ring, Own, Message, is_running, holds, message_at}
use Rattle.model.specs.WellFormed.{WellFormed, Spare, none, spare}
use Rattle.model.specs.Steps.{set_commit, set_spare, hold, release, outside}
use Rattle.model.specs.declared.event.Event.{Event}
use Rattle.model.proofs.Laws.{clash, and_left, and_right, not_out, is_false, decide, if_law, put_here, put_else}
use Rattle.model.proofs.Choices.{leafset_within}
use Rattle.model.proofs.Handlers.{message_in}
use Rattle.settle_leafsets.proofs.Closest.{offer_same}
use Rattle.settle_leafsets.proofs.LeafsetChoice.{with_none, with_same}
use Rattle.settle_kept.specs.Settled.{takes_in}
use Rattle.settle_kept.proofs.Keeping.{own_forget, Idly, idle_not, ticked, delivered, KeepsAt, AsksAt, AnswersAt, Left, after_left, timer_sent, deliver_sent}
use Rattle.settle_kept.proofs.Keeping.{harmless_switch}
use Rattle.settle_cleanup.specs.Cleanup.{Familiar, Tidy, Calm, Outside}

-- what becomes of z at x: whether it is held, its spare and its commit
pub data Pair (r : Ring) (x z : ℕ) (h : Bool) (s c : ℕ) : Type 0 where
  -- nothing
  same : h ≡ holds r x z → s ≡ (r.node x).own.spare z → c ≡ (r.node x).own.commit z → Pair r x z h s c
  -- it is released
  gone : h ≡ false → s ≡ 64 → Pair r x z h s c
  -- z's answer comes, and names a spare
  named :
      (m : Message) → Memᴰ m r.messages → m.type ≡ 8 → m.sender ≡ z → m.receiver ≡ x
      → h ≡ holds r x z → s ≡ m.subject → c ≡ (r.node x).own.commit z → Pair r x z h s c
  -- somebody asks x about z
  asked :
      (m : Message) → Memᴰ m r.messages → m.type ≡ 9 → m.receiver ≡ x → m.subject ≡ z → holds r x z ≡ true → s ≡ (r.node x).own.spare z
      → Pair r x z h s c
  -- z acknowledges, as the spare of another
  traded :
      (m : Message) → Memᴰ m r.messages → m.type ≡ 10 → m.receiver ≡ x → m.sender ≡ z
      → Outside r x m.subject → (r.node x).own.spare m.subject ≡ z → s ≡ (r.node x).own.spare z → Pair r x z h s c

-- a message that is sent
pub record New (r : Ring) (m : Message) : Type 0 where
  pub familiar : Familiar r.table (is_running r) m
  pub offers : m.type ≡ 8 → m.subject ≡ closest r.table m.sender (is_running r) m.receiver
  pub asks :
      m.type ≡ 9
      → (is_running r m.sender ≡ true) × (leafset r.table m.sender (is_running r) m.subject ≡ false)
      × ((r.node m.sender).own.spare m.subject ≡ m.receiver) × ¬ (m.receiver ≡ 64)

module _ (r : Ring) (well : WellFormed r) (tidy : Tidy r) where
  abbrev t : Table
  t = r.table

  abbrev R : Set
  R = is_running r

  abbrev own : ℕ → Own
  own x = (r.node x).own

  low : (x : ℕ) → R x ≡ true → x < size t
  low x e = (well.node_well x).running_low e

  -- a running node's leafset of what it holds
  pub known : (x : ℕ) → R x ≡ true → (z : ℕ) → leafset t x (holds r x) z ≡ leafset t x R z
  known = tidy.covered.leafset_held

  pub leafset_held : (x : ℕ) → R x ≡ true → (z : ℕ) → leafset t x R z ≡ true → holds r x z ≡ true
  leafset_held x on z e = leafset_within t x (holds r x) z (known x on z ∙ e)

  -- only a running node holds
  pub holder_runs : (x z : ℕ) → holds r x z ≡ true → R x ≡ true
  holder_runs x z h = decide (R x) (λ e. e) (λ e. clash h ((well.node_well x).off_held e z))

  pub fits_held : (x y : ℕ) → R x ≡ true → R y ≡ true → leafset t x (with (holds r x) y) y ≡ true → holds r x y ≡ true
  fits_held x y on runs fits =
      leafset_within t x (holds r x) y
      (known x on y
      ∙ with_none t x well.table_well (low x on) R y (λ q. runs) y
      ∙ sym (with_same t x well.table_well (low x on) (holds r x) R (known x on) y y)
      ∙ fits)

  abbrev K : ℕ → Own → Type 0
  K a p = R a ≡ true → (z : ℕ) → leafset t a R z ≡ false → Pair r a z (p.held z) (p.spare z) (p.commit z)

  pair_self : (a : ℕ) → K a (own a)
  pair_self a on z out = same refl refl refl

  -- a message of a type of which `New` says nothing
  other : (m : Message) → ¬ (m.type ≡ 1) → ¬ (m.type ≡ 2) → ¬ (m.type ≡ 8) → ¬ (m.type ≡ 9) → New r m
  other m n1 n2 n8 n9 =
      record {
        familiar = record { contacts = λ e. absurd (n1 e); answers = λ e. absurd (n2 e) };
        offers = λ e. absurd (n8 e);
        asks = λ e. absurd (n9 e);
      }

  idle : Idly (New r)
  idle m i = other m (idle_not m.type 1 refl i) (idle_not m.type 2 refl i) (idle_not m.type 8 refl i) (idle_not m.type 9 refl i)

  -- ---- the changes of a record

  out_at : (S : Set) (w z : ℕ) → z ≡ w → without S w z ≡ false
  out_at S w z e = is_false (without S w z) (λ q. clash (and_right (S z) (not (eqb z w)) q) (ap not (eq-eqb z w e)))

  out_else : (S : Set) (w z : ℕ) → ¬ (z ≡ w) → without S w z ≡ S z
  out_else S w z n = rw (ne_eqb z w n) (and-true (S z))
    where
      and-true : (b : Bool) → (b && true) ≡ b
      and-true true = refl
      and-true false = refl

  with_else : (S : Set) (w z : ℕ) → ¬ (z ≡ w) → with S w z ≡ S z
  with_else S w z n = rw (ne_eqb z w n) (or-false (S z))
    where
      or-false : (b : Bool) → (b || false) ≡ b
      or-false true = refl
      or-false false = refl

  put_at : {A : Type 0} (f : ℕ → A) (w : ℕ) (v : A) (z : ℕ) → z ≡ w → put f w v z ≡ v
  put_at f w v z e = ap (put f w v) e ∙ put_here f w v

  released : (a w : ℕ) → K a (release w (own a))
  unfolding release
  released a w on z out =
      elim (ℕ_discrete z w) [
        | yes e ↦ gone (out_at (own a).held w z e) (put_at (own a).spare w 64 z e)
        | no n ↦ same (out_else (own a).held w z n) (put_else (own a).spare w 64 z n) (put_else (own a).commit w 0 z n)
      ]

  -- y is held already
  held_again : (a now y : ℕ) → holds r a y ≡ true → K a (hold now y (own a))
  unfolding hold
  held_again a now y h = if_law (K a) ((own a).held y) (own a) _ (λ e. pair_self a) (λ e. clash h e)

  -- whom the holding of y does not concern
  record Apart (now y a z : ℕ) (p : Own) : Type 0 where
    held : p.held z ≡ (own a).held z
    spare : p.spare z ≡ (own a).spare z
    commit : p.commit z ≡ (own a).commit z

  apart : (now y a z : ℕ) → ¬ (z ≡ y) → Apart now y a z (hold now y (own a))
  unfolding hold
  apart now y a z n =
      if_law (Apart now y a z) ((own a).held y) (own a) _
      (λ e. record { held = refl; spare = refl; commit = refl })
      (λ e. record { held = with_else (own a).held y z n; spare = put_else (own a).spare y 64 z n; commit = put_else (own a).commit y now z n })

  -- holding y leaves its spare
  hold_spare : (now y a : ℕ) → (hold now y (own a)).spare y ≡ (own a).spare y
  unfolding hold
  hold_spare now y a =
      if_law (λ (p : Own). p.spare y ≡ (own a).spare y) ((own a).held y) (own a) _
      (λ e. refl) (λ e. put_here (own a).spare y 64 ∙ sym ((well.node_well a).own_well.spare_none y e))

  -- ---- the delivery of the message at i

  module _ (i : ℕ) (on : R (message_at r i).receiver ≡ true) where
    abbrev m : Message
    m = message_at r i

    abbrev x : ℕ
    x = m.receiver

    abbrev now : ℕ
    now = (r.node x).clock + 1

    there : (k : ℕ) → m.type ≡ suc k → Memᴰ m r.messages
    there k e = message_in r.messages i k e

    out_of : (w : ℕ) → outside t x now (own x) w ≡ true → Outside r x w
    out_of w e =
        record {
          held = and_left (holds r x w) _ e;
          far = sym (known x on w) ∙ not_out (leafset t x (holds r x) w) (and_right (holds r x w) (not (leafset t x (holds r x) w)) e);
        }

    spare_other : (w : ℕ) → holds r x w ≡ true → ¬ ((own x).spare w ≡ w)
    spare_other w h e = differs ((own x).spare w) ((well.node_well x).own_well.spare_other w) e
      where
        differs : (s : ℕ) → Spare (size t) x w s → ¬ (s ≡ w)
        differs s none q = let l = ((well.node_well x).own_well.held_other w h).low in let g = well.table_well.size_high in absurd (omega arith)
        differs s (spare o d) q = d q

    spared : m.type ≡ 8 → K x (set_spare m.sender m.subject (own x))
    spared e o z out =
        elim (ℕ_discrete z m.sender) [
          | yes q ↦ named m (there 7 e) e (sym q) refl refl (put_at (own x).spare m.sender m.subject z q) refl
          | no n ↦ same refl (put_else (own x).spare m.sender m.subject z n) refl
        ]

    renewed : m.type ≡ 9 → holds r x m.subject ≡ true → K x (set_commit m.subject now (own x))
    renewed e h o z out =
        elim (ℕ_discrete z m.subject) [
          | yes q ↦ asked m (there 8 e) e refl (sym q) (ap (holds r x) q ∙ h) refl
          | no n ↦ same refl refl (put_else (own x).commit m.subject now z n)
        ]

    module _ (e : m.type ≡ 10) (out : outside t x now (own x) m.subject ≡ true) (is : (own x).spare m.subject ≡ m.sender) where
      abbrev taken : Own
      taken = hold now m.sender (own x)

      trade_of : (z : ℕ) (h : Bool) (s c : ℕ) → z ≡ m.sender → s ≡ (own x).spare z → Pair r x z h s c
      trade_of z h s c q f = traded m (there 9 e) e refl (sym q) (out_of m.subject out) (is ∙ sym q) f

      taken_in : K x taken
      taken_in o z far =
          elim (ℕ_discrete z m.sender) [
            | yes q ↦ trade_of z _ _ _ q (ap (λ (u : ℕ). taken.spare u) q ∙ hold_spare now m.sender x ∙ ap (own x).spare (sym q))
            | no n ↦ (let a = apart now m.sender x z n in same a.held a.spare a.commit)
          ]

      let_go : K x (set_commit m.sender now (release m.subject taken))
      unfolding release
      let_go o z far =
          elim (ℕ_discrete z m.subject) [
            | yes q ↦ gone (out_at taken.held m.subject z q) (put_at taken.spare m.subject 64 z q)
            | no n ↦ elim (ℕ_discrete z m.sender) [
              | yes q ↦ trade_of z _ _ _ q
                  (put_else taken.spare m.subject 64 z n ∙ ap (λ (u : ℕ). taken.spare u) q ∙ hold_spare now m.sender x ∙ ap (own x).spare (sym q))
              | no k ↦
                  (let a = apart now m.sender x z k in
                  same (out_else taken.held m.subject z n ∙ a.held) (put_else taken.spare m.subject 64 z n ∙ a.spare)
                  (put_else (put taken.commit m.subject 0) m.sender now z k ∙ put_else taken.commit m.subject 0 z n ∙ a.commit))
            ]
          ]

    keeps : KeepsAt r K i
    keeps =
        record {
          on_2 = λ e. held_again x now m.sender (leafset_held x on m.sender ((tidy.familiar m (there 1 e)).answers e on));
          on_6 = λ e fits. held_again x now m.sender (fits_held x m.sender on (tidy.clean.senders_run m (there 5 e) (ap takes_in e) on) fits);
          on_8 = λ e h. spared e;
          on_9 = λ e h. renewed e h;
          on_10 = λ e out is. (taken_in e out is, let_go e out is);
          on_13 = λ e. own_forget (K x) (λ S p k. k) (own x) (pair_self x) m.sender (λ h. released x m.sender);
        }

    answers : AnswersAt r (New r) i
    answers =
        record {
          on_1 = λ e. record {
            familiar = record { contacts = λ q. absurd (omega arith); answers = λ q to. (tidy.familiar m (there 0 e)).contacts e on to };
            offers = λ q. absurd (omega arith);
            asks = λ q. absurd (omega arith);
          };
          on_5 = λ e. other _ (λ q. omega arith) (λ q. omega arith) (λ q. omega arith) (λ q. omega arith);
          on_7 = λ e. record {
            familiar = record { contacts = λ q. absurd (omega arith); answers = λ q. absurd (omega arith) };
            offers = λ q. offer_same t x (holds r x) R (known x on) m.sender;
            asks = λ q. absurd (omega arith);
          };
          on_9 = λ e h. other _ (λ q. omega arith) (λ q. omega arith) (λ q. omega arith) (λ q. omega arith);
        }

  asking : (x : ℕ) → AsksAt r (New r) x
  asking x z e n =
      let on : R x ≡ true = holder_runs x z (and_left (holds r x z) _ e) in
      record {
        familiar = record { contacts = λ q. absurd (omega arith); answers = λ q. absurd (omega arith) };
        offers = λ q. absurd (omega arith);
        asks = λ q. (
          on,
          sym (known x on z) ∙ not_out (leafset t x (holds r x) z) (and_right (holds r x z) (not (leafset t x (holds r x) z)) e),
          refl,
          n,
        );
      }

  pub turned : (e : Event) → Calm r e → Left r K (New r) e
  turned e c =
      after_left r K (New r) pair_self (λ a S p k. k) idle e (harmless_switch r e c.0)
      (λ x z i. own_forget (K x.0) (λ S p k. k) (own x.0) (pair_self x.0) z.0 (λ h. released x.0 z.0))
      (λ x y i. record {
        familiar = record { contacts = λ q to from. (subst (Calm r) i c).1 to; answers = λ q. absurd (omega arith) };
        offers = λ q. absurd (omega arith);
        asks = λ q. absurd (omega arith);
      })
      asking
      keeps
      answers

  pub new_timer : (x j : ℕ) (m : Message) → Memᴰ m (ticked r x j).sent → New r m
  new_timer x j = timer_sent r (New r) idle x (asking x) j

  pub new_deliver : (i : ℕ) → R (message_at r i).receiver ≡ true → (m : Message) → Memᴰ m (delivered r i).sent → New r m
  new_deliver i on = deliver_sent r (New r) idle i (answers i on)
