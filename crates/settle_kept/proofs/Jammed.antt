-- An event keeps a ring jammed, and so a list does: whom z offers x does not hold z, so that no acknowledgement about z ever comes to x. A case of Keeping.
use mathlib.Core.Path.{◌≡◌, refl, sym, ap, ◌∙◌, subst}
use mathlib.Core.Logic.{inl, inr}
use Prim.Native.Nat.{ℕ, suc, ◌+◌, ◌<◌}
use native.Mathlib.Omega.{arith}
use mathlib.Core.Bool.{true, false, not, ◌&&◌}
use mathlib.Core.List.{Memᴰ}
use lib.Dec.{eqb}
use borrow.Author.Tests.{eqb-true}
use Rattle.model.specs.Sets.{Set, with, none_node}
use Rattle.model.specs.Leafset.{Table, size, leafset, closest}
use Rattle.model.specs.Ring.{Ring, Own, Message, is_running, holds, message_at}
use Rattle.model.specs.WellFormed.{WellFormed}
use Rattle.model.specs.Steps.{hold, forget}
use Rattle.model.specs.Play.{after}
use Rattle.model.specs.Route.{Converged}
use Rattle.model.specs.ConnectivityPreserved.{read_at}
use Rattle.model.specs.declared.event.Event.{Event}
use Rattle.model.proofs.Laws.{clash, and_left, and_right, or_left, or_case, not_out, is_false, if_law, put_law}
use Rattle.model.proofs.Cases.{after_table}
use Rattle.model.proofs.Handlers.{message_in}
use Rattle.settle_leafsets.proofs.LeafsetChoice.{same_choice, outcast}
use Rattle.settle_kept.specs.Settled.{Still, KeepsHeld}
use Rattle.settle_kept.specs.Jammed.{Stuck, Offered, Futile, Jammed, NeverConverges}
use Rattle.settle_kept.proofs.Keeping.{Blind, own_forget, Idly, idle_not, AsksAt, KeepsAt, AnswersAt, Has, after_has, after_running, held_switch}
use Rattle.settle_kept.proofs.Settled.{still_other, idle_still}
use Rattle.settle_kept.proofs.Closure.{along}

module _ (r : Ring) (well : WellFormed r) (x z : ℕ) (jam : Jammed x z r) where
  abbrev t : Table
  t = r.table

  abbrev R : Set
  R = is_running r

  abbrev H : ℕ → Set
  H = holds r

  abbrev Fine : Message → Type 0
  Fine m = Futile x z t R H m

  abbrev Offer : ℕ → Type 0
  Offer y = Offered x z t H y

  low : (a : ℕ) → R a ≡ true → a < size t
  low a e = (well.node_well a).running_low e

  -- ---- what is held

  in_running : (a : ℕ) → R a ≡ true → (w : ℕ) → H a w ≡ true → R w ≡ true
  in_running a on w e = jam.stuck.inside a on w e

  -- nobody but z at x is held outside a leafset
  outside_alone : (a w : ℕ) → R a ≡ true → (H a w && not (leafset t a (H a) w)) ≡ true → (a ≡ x) × (w ≡ z)
  outside_alone a w on out =
      jam.stuck.alone a w on (and_left (H a w) _ out)
      (sym (same_choice t a well.table_well (low a on) R (H a) (in_running a on) (jam.stuck.covers a on) w)
      ∙ not_out (leafset t a (H a) w) (and_right (H a w) (not (leafset t a (H a) w)) out))

  -- a running node that fits is held already
  fits_held : (a y : ℕ) → R a ≡ true → R y ≡ true → leafset t a (with (H a) y) y ≡ true → H a y ≡ true
  fits_held a y on runs fits =
      jam.stuck.covers a on y
      (outcast t a well.table_well (low a on) R (with (H a) y)
      (λ w e. or_case (H a w) (eqb w y) e (λ q. in_running a on w q) (λ q. ap R (eqb-true w y q) ∙ runs))
      (λ w e. or_left (eqb w y) (jam.stuck.covers a on w e))
      y fits)

  -- 64 is no node of a table, and holds nobody
  none_holds : H none_node z ≡ false
  none_holds =
      (well.node_well none_node).off_held
      (is_false (R none_node) (λ e. let l = low none_node e in absurd (omega (arith, well.table_well.size_high)))) z

  -- whom z offers, and none, do not hold z
  offer_lacks : (y : ℕ) → Offer y → H y z ≡ false
  offer_lacks y (inl e) = ap (λ (w : ℕ). H w z) e ∙ jam.stuck.offer
  offer_lacks y (inr e) = ap (λ (w : ℕ). H w z) e ∙ none_holds

  -- ---- messages

  -- a message of a type of which only `Still` speaks
  only_still : (m : Message) → ¬ (m.type ≡ 8) → ¬ (m.type ≡ 9) → ¬ (m.type ≡ 10) → Still t R H m → Fine m
  only_still m n8 n9 n10 s = record { quiet = s; offers = λ e. absurd (n8 e); asks = λ e. absurd (n9 e); acknowledges = λ e. absurd (n10 e) }

  idle : Idly Fine
  idle m i = only_still m (idle_not m.type 8 refl i) (idle_not m.type 9 refl i) (idle_not m.type 10 refl i) (idle_still t R H m i)

  -- a message of a type of which `Still` says nothing
  other : (m : Message) → ¬ (m.type ≡ 1) → ¬ (m.type ≡ 2) → ¬ (m.type ≡ 6) → ¬ (m.type ≡ 13) → Still t R H m
  other = still_other t R H

  -- ---- what an event keeps

  record Good (a : ℕ) (o : Own) : Type 0 where
    held : (w : ℕ) → o.held w ≡ H a w
    spare : a ≡ x → Offer (o.spare z)

  good : (a : ℕ) → Good a (r.node a).own
  good a = record { held = λ w. refl; spare = λ is. subst (λ (b : ℕ). Offer ((r.node b).own.spare z)) (sym is) jam.spare }

  blind : (a : ℕ) → Blind (Good a)
  blind a S p k = record { held = k.held; spare = k.spare }

  good_forget : (a w : ℕ) → H a w ≡ false → Good a (forget w (r.node a).own)
  good_forget a w f = own_forget (Good a) (blind a) (r.node a).own (good a) w (λ e. clash e f)

  good_hold : (a now y : ℕ) → H a y ≡ true → Good a (hold now y (r.node a).own)
  unfolding hold
  good_hold a now y h = if_law (Good a) (H a y) (r.node a).own _ (λ e. good a) (λ e. clash h e)

  -- x asks only whom z has offered
  asks : (a : ℕ) → AsksAt r Fine a
  asks a w out named =
      record {
        quiet = other _ (λ q. omega arith) (λ q. omega arith) (λ q. omega arith) (λ q. omega arith);
        offers = λ q. absurd (omega arith);
        asks = λ q from about. subst (λ (u : ℕ). Offer ((r.node a).own.spare u)) (sym about) ((good a).spare from);
        acknowledges = λ q. absurd (omega arith);
      }

  module _ (i : ℕ) (on : R (message_at r i).receiver ≡ true) where
    abbrev m : Message
    m = message_at r i

    -- the receiver, its clock's new value, the sender and the subject
    abbrev a : ℕ
    a = m.receiver

    abbrev now : ℕ
    now = (r.node a).clock + 1

    abbrev y : ℕ
    y = m.sender

    abbrev s : ℕ
    s = m.subject

    fine : (j : ℕ) → m.type ≡ suc j → Fine m
    fine j e = jam.futile m (message_in r.messages i j e)

    keeps : KeepsAt r Good i
    keeps =
        record {
          on_2 = λ e. good_hold a now y ((fine 1 e).quiet.answers e on);
          on_6 = λ e fits. good_hold a now y ((fine 5 e).quiet.accepts e on fits);
          on_8 = λ e h. record {
            held = λ w. refl;
            spare = λ is. put_law Offer (r.node a).own.spare y s z (λ j. (fine 7 e).offers e (sym j) is) (λ n. (good a).spare is);
          };
          on_9 = λ e h. record { held = λ w. refl; spare = (good a).spare };
          -- the one pair outside a leafset is z at x, and no acknowledgement is about that
          on_10 = λ e out is. let p = outside_alone a s on out in absurd ((fine 9 e).acknowledges e p.0 p.1);
          on_13 = λ e. good_forget a y ((fine 12 e).quiet.leaves e on);
        }

    answers : AnswersAt r Fine i
    answers =
        record {
          on_1 = λ e.
              only_still _ (λ q. omega arith) (λ q. omega arith) (λ q. omega arith)
              (record {
                contacts = λ q. absurd (omega arith);
                answers = λ q runs. (fine 0 e).quiet.contacts e on runs;
                accepts = λ q. absurd (omega arith);
                leaves = λ q. absurd (omega arith);
              });
          on_5 = λ e.
              only_still _ (λ q. omega arith) (λ q. omega arith) (λ q. omega arith)
              (record {
                contacts = λ q. absurd (omega arith);
                answers = λ q. absurd (omega arith);
                accepts = λ q runs fits. fits_held y a runs on fits;
                leaves = λ q. absurd (omega arith);
              });
          -- z offers x always the same
          on_7 = λ e. record {
            quiet = other _ (λ q. omega arith) (λ q. omega arith) (λ q. omega arith) (λ q. omega arith);
            offers = λ q from back. inl (ap (λ (b : ℕ). closest t b (H b) y) from ∙ ap (closest t z (H z)) back);
            asks = λ q. absurd (omega arith);
            acknowledges = λ q. absurd (omega arith);
          };
          -- whom z has offered does not hold z, and does not answer x about z
          on_9 = λ e h. record {
            quiet = other _ (λ q. omega arith) (λ q. omega arith) (λ q. omega arith) (λ q. omega arith);
            offers = λ q. absurd (omega arith);
            asks = λ q. absurd (omega arith);
            acknowledges = λ q back about. clash h (ap (H a) about ∙ offer_lacks a ((fine 8 e).asks e back about));
          };
        }

  has_after : (e : Event) → KeepsHeld r e → Has Good Fine (after r e)
  has_after e c =
      after_has r Good Fine (record { nodes = good; flying = jam.futile }) blind idle e (held_switch r e c)
      (λ b w i. good_forget b.0 w.0 (subst (KeepsHeld r) i c))
      (λ b w i.
      only_still _ (λ q. omega arith) (λ q. omega arith) (λ q. omega arith)
      (record {
        contacts = λ q to from. subst (KeepsHeld r) i c to;
        answers = λ q. absurd (omega arith);
        accepts = λ q. absurd (omega arith);
        leaves = λ q. absurd (omega arith);
      }))
      asks
      keeps
      answers

  pub jammed_after : (e : Event) → KeepsHeld r e → Jammed x z (after r e)
  jammed_after e c =
      let h : At t R H = (jam.stuck, ((has_after e c).nodes x).spare refl, (has_after e c).flying) in
      let q : At (after r e).table (is_running (after r e)) (holds (after r e)) =
      subst (λ (G : ℕ → Set). At (after r e).table (is_running (after r e)) G) (λ j a w. sym (((has_after e c).nodes a).held w) j)
      (subst (λ (S : Set). At (after r e).table S H) (λ j a. sym (after_running r e (held_switch r e c) a) j)
      (subst (λ (u : Table). At u R H) (sym (after_table r e)) h)) in
      record { stuck = q.0; spare = q.1; futile = q.2 }
    where
      At : Table → Set → (ℕ → Set) → Type 0
      At u S G =
          Stuck x z u S G
          × Offered x z u G (((after r e).node x).own.spare z)
          × ((m : Message) → Memᴰ m (after r e).messages → Futile x z u S G m)

-- ---- lists

-- a jammed ring is not converged: x holds one outside its leafset
pub not_converged : (r : Ring) (x z : ℕ) → Jammed x z r → ¬ Converged r
not_converged r x z jam c = clash (sym (c.holds_leafset x jam.stuck.runs z) ∙ jam.stuck.held) jam.stuck.far

pub never_converges : NeverConverges
never_converges start r reached words x z point jam later from within c =
    let q = along start r reached words KeepsHeld (Jammed x z) (λ s well p e k. jammed_after s well x z p e k) point jam later from within c in
    (q.stuck.held, not_converged (read_at start words later) x z q)
