-- An event keeps a ring settled: every node holds whom it held. A case of Keeping.
use mathlib.Core.Path.{◌≡◌, refl, sym, ap, ◌∙◌, subst}
use Prim.Native.Nat.{ℕ, suc, ◌+◌, ◌<◌}
use native.Mathlib.Omega.{arith}
use mathlib.Core.Bool.{true, false, not, ◌&&◌}
use mathlib.Core.List.{Memᴰ}
use lib.Dec.{eqb}
use borrow.Author.Tests.{eqb-true}
use Rattle.model.specs.Sets.{Set, with}
use Rattle.model.specs.Leafset.{Table, size, leafset}
use Rattle.model.specs.Ring.{Ring, Own, Message, is_running, holds, message_at}
use Rattle.model.specs.WellFormed.{WellFormed}
use Rattle.model.specs.Steps.{hold, forget}
use Rattle.model.specs.Play.{after}
use Rattle.model.specs.Route.{Converged}
use Rattle.model.specs.declared.event.Event.{Event}
use Rattle.model.proofs.Laws.{clash, and_left, and_right, or_left, or_case, not_out, if_law}
use Rattle.model.proofs.Cases.{after_table}
use Rattle.model.proofs.Choices.{leafset_within}
use Rattle.model.proofs.Routes.{route_ends_covered}
use Rattle.model.proofs.Handlers.{message_in}
use Rattle.settle_leafsets.proofs.LeafsetChoice.{chosen_again, outcast}
use Rattle.settle_kept.specs.Settled.{Still, Settled, KeepsHeld, RoutesEndNearest}
use Rattle.settle_kept.proofs.Keeping.{is_idle, own_forget, Has, KeepsAt, AnswersAt, after_has, after_running, idle_not, held_switch}

-- where the ring is converged, a running node that fits is held already
pub fits_held : (r : Ring) → WellFormed r → Converged r → (x y : ℕ) → is_running r x ≡ true → is_running r y ≡ true
    → leafset r.table x (with (holds r x) y) y ≡ true → holds r x y ≡ true
fits_held r well c x y on runs fits =
    c.holds_leafset x on y
    ∙ outcast r.table x well.table_well ((well.node_well x).running_low on) (is_running r) (with (holds r x) y)
    (λ z e. or_case (holds r x z) (eqb z y) e (λ q. leafset_within r.table x (is_running r) z (sym (c.holds_leafset x on z) ∙ q))
    (λ q. ap (is_running r) (eqb-true z y q) ∙ runs))
    (λ z e. or_left (eqb z y) (c.holds_leafset x on z ∙ e))
    y fits

-- a message of a type of which `Still` says nothing
module _ (t : Table) (R : Set) (H : ℕ → Set) (m : Message) where
  pub still_other : ¬ (m.type ≡ 1) → ¬ (m.type ≡ 2) → ¬ (m.type ≡ 6) → ¬ (m.type ≡ 13) → Still t R H m
  still_other n1 n2 n6 n13 =
      record { contacts = λ e. absurd (n1 e); answers = λ e. absurd (n2 e); accepts = λ e. absurd (n6 e); leaves = λ e. absurd (n13 e) }

  pub idle_still : is_idle m.type ≡ true → Still t R H m
  idle_still i = still_other (idle_not m.type 1 refl i) (idle_not m.type 2 refl i) (idle_not m.type 6 refl i) (idle_not m.type 13 refl i)

module _ (r : Ring) (well : WellFormed r) (set : Settled r) where
  abbrev t : Table
  t = r.table

  abbrev R : Set
  R = is_running r

  abbrev H : ℕ → Set
  H = holds r

  low : (x : ℕ) → R x ≡ true → x < size t
  low x e = (well.node_well x).running_low e

  exactly : (x : ℕ) → R x ≡ true → (z : ℕ) → H x z ≡ leafset t x R z
  exactly x on z = set.converged.holds_leafset x on z

  -- o holds what a holds
  abbrev Same : ℕ → Own → Type 0
  Same a o = (z : ℕ) → o.held z ≡ H a z

  abbrev Quiet : Message → Type 0
  Quiet m = Still t R H m

  has_settled : Has Same Quiet r
  has_settled = record { nodes = λ a z. refl; flying = set.still }

  -- nobody is held outside a leafset
  none_outside : (x z : ℕ) → R x ≡ true → (H x z && not (leafset t x (H x) z)) ≡ true → ⊥
  none_outside x z on out =
      clash
      (chosen_again t x well.table_well (low x on) R (H x) (exactly x on) z ∙ sym (exactly x on z) ∙ and_left (H x z) _ out)
      (not_out (leafset t x (H x) z) (and_right (H x z) (not (leafset t x (H x) z)) out))

  forgets : (x z : ℕ) → H x z ≡ false → Same x (forget z (r.node x).own)
  forgets x z f = own_forget (Same x) (λ S p k. k) (r.node x).own (has_settled.nodes x) z (λ e. clash e f)

  holds_sender : (x y : ℕ) → H x y ≡ true → Same x (hold ((r.node x).clock + 1) y (r.node x).own)
  unfolding hold
  holds_sender x y h = if_law (Same x) (H x y) (r.node x).own _ (λ e. has_settled.nodes x) (λ e. clash h e)

  module _ (i : ℕ) (on : R (message_at r i).receiver ≡ true) where
    abbrev m : Message
    m = message_at r i

    abbrev x : ℕ
    x = m.receiver

    quiet : (k : ℕ) → m.type ≡ suc k → Quiet m
    quiet k e = set.still m (message_in r.messages i k e)

    keeps : KeepsAt r Same i
    keeps =
        record {
          on_2 = λ e. holds_sender x m.sender ((quiet 1 e).answers e on);
          on_6 = λ e fits. holds_sender x m.sender ((quiet 5 e).accepts e on fits);
          on_8 = λ e h. has_settled.nodes x;
          on_9 = λ e h. has_settled.nodes x;
          on_10 = λ e out is. absurd (none_outside x m.subject on out);
          on_13 = λ e. forgets x m.sender ((quiet 12 e).leaves e on);
        }

    answers : AnswersAt r Quiet i
    answers =
        record {
          on_1 = λ e. record {
            contacts = λ q. absurd (omega arith);
            answers = λ q to. (quiet 0 e).contacts e on to;
            accepts = λ q. absurd (omega arith);
            leaves = λ q. absurd (omega arith);
          };
          on_5 = λ e. record {
            contacts = λ q. absurd (omega arith);
            answers = λ q. absurd (omega arith);
            accepts = λ q to fits. fits_held r well set.converged m.sender x to on fits;
            leaves = λ q. absurd (omega arith);
          };
          on_7 = λ e. still_other t R H _ (λ q. omega arith) (λ q. omega arith) (λ q. omega arith) (λ q. omega arith);
          on_9 = λ e h. still_other t R H _ (λ q. omega arith) (λ q. omega arith) (λ q. omega arith) (λ q. omega arith);
        }

  has_after : (e : Event) → KeepsHeld r e → Has Same Quiet (after r e)
  has_after e c =
      after_has r Same Quiet has_settled (λ a S p k. k) (idle_still t R H) e (held_switch r e c)
      (λ x z i. forgets x.0 z.0 (subst (KeepsHeld r) i c))
      (λ x y i. record {
        contacts = λ q to from. subst (KeepsHeld r) i c to;
        answers = λ q. absurd (omega arith);
        accepts = λ q. absurd (omega arith);
        leaves = λ q. absurd (omega arith);
      })
      (λ x z out named. still_other t R H _ (λ q. omega arith) (λ q. omega arith) (λ q. omega arith) (λ q. omega arith))
      keeps
      answers

  pub held_after : (e : Event) → KeepsHeld r e → (x z : ℕ) → holds (after r e) x z ≡ holds r x z
  held_after e c x z = (has_after e c).nodes x z

  pub settled_after : (e : Event) → KeepsHeld r e → Settled (after r e)
  settled_after e c =
      let h : At t R H = (exactly, (has_after e c).flying) in
      let q : At (after r e).table (is_running (after r e)) (holds (after r e)) =
      subst (λ (G : ℕ → Set). At (after r e).table (is_running (after r e)) G) (λ j a z. sym (held_after e c a z) j)
      (subst (λ (S : Set). At (after r e).table S H) (λ j a. sym (after_running r e (held_switch r e c) a) j)
      (subst (λ (u : Table). At u R H) (sym (after_table r e)) h)) in
      record { converged = record { holds_leafset = q.0 }; still = q.1 }
    where
      At : Table → Set → (ℕ → Set) → Type 0
      At u S G =
          ((a : ℕ) → S a ≡ true → (z : ℕ) → G a z ≡ leafset u a S z)
          × ((m : Message) → Memᴰ m (after r e).messages → Still u S G m)

  pub settled_routes : RoutesEndNearest r
  settled_routes = record { ends_nearest = λ key h x on. route_ends_covered r well (λ y q z e. exactly y q z ∙ e) key h x on }
