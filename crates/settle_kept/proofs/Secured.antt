-- An event keeps a ring secured: no node that is off comes into a leafset, and no running one goes out of it. A case of Keeping.
use mathlib.Core.Path.{◌≡◌, refl, sym, ap, ◌∙◌, subst}
use Prim.Native.Nat.{ℕ, suc, ◌+◌, ◌<◌}
use native.Mathlib.Omega.{arith}
use mathlib.Core.Bool.{true, false, not}
use mathlib.Core.List.{Memᴰ}
use Rattle.model.specs.Sets.{Set, with, without}
use Rattle.model.specs.Leafset.{Table, size, leafset}
use Rattle.model.specs.Ring.{Ring, Own, Message, is_running, holds, message_at}
use Rattle.model.specs.WellFormed.{WellFormed}
use Rattle.model.specs.Steps.{hold, release, forget}
use Rattle.model.specs.Play.{after}
use Rattle.model.specs.declared.event.Event.{Event}
use Rattle.model.proofs.Laws.{clash, and_right, not_out}
use Rattle.model.proofs.Cases.{after_table}
use Rattle.model.proofs.Choices.{leafset_within}
use Rattle.model.proofs.Routes.{route_ends_covered}
use Rattle.model.proofs.Handlers.{message_in}
use Rattle.settle_leafsets.specs.Covered.{Covered}
use Rattle.settle_leafsets.proofs.LeafsetChoice.{with_alike, without_alike}
use Rattle.settle_kept.specs.Settled.{Truthful, Secured, KeepsLeafsets, RoutesEndNearest, takes_in}
use Rattle.settle_kept.proofs.Keeping.{held_forget, held_hold, is_idle, idle_not, after_running, KeepsAt, runner_answers, Has, after_has}
use Rattle.settle_kept.proofs.Keeping.{takes_case, leafsets_switch}

module _ (r : Ring) (well : WellFormed r) (sec : Secured r) where
  abbrev t : Table
  t = r.table

  abbrev R : Set
  R = is_running r

  low : (x : ℕ) → R x ≡ true → x < size t
  low x e = (well.node_well x).running_low e

  -- a running node's leafset of S is that of all running nodes
  abbrev Knows : ℕ → Set → Type 0
  Knows a S = R a ≡ true → (z : ℕ) → leafset t a S z ≡ leafset t a R z

  abbrev Held : ℕ → Own → Type 0
  Held a p = Knows a p.held

  abbrev True : Message → Type 0
  True m = Truthful t R m

  has_secured : Has Held True r
  has_secured = record { nodes = λ a on z. sec.covered.leafset_held a on z; flying = sec.truthful }

  idle_true : (m : Message) → is_idle m.type ≡ true → True m
  idle_true m i =
      record {
        brings =
            λ e. takes_case m.type e (λ q. absurd (idle_not m.type 2 refl i q)) (λ q. absurd (idle_not m.type 6 refl i q))
            (λ q. absurd (idle_not m.type 10 refl i q));
        leaves = λ e. absurd (idle_not m.type 13 refl i e);
      }

  -- a message that a running node sends, and that is no type 13
  sent_true : (m : Message) → R m.sender ≡ true → ¬ (m.type ≡ 13) → True m
  sent_true m on n = record { brings = λ e to fits. on; leaves = λ e. absurd (n e) }

  adds : (a : ℕ) (S : Set) (y : ℕ) → Knows a S → (R a ≡ true → leafset t a (with R y) y ≡ true → R y ≡ true) → Knows a (with S y)
  adds a S y k h on = with_alike t a well.table_well (low a on) S R (k on) y (h on)

  drops : (a : ℕ) (S : Set) (y : ℕ) → Knows a S → (R a ≡ true → leafset t a R y ≡ false) → Knows a (without S y)
  drops a S y k h on z = without_alike t a well.table_well (low a on) S y (k on y ∙ h on) z ∙ k on z

  forgets : (x z : ℕ) → (R x ≡ true → leafset t x R z ≡ false) → Knows x (forget z (r.node x).own).held
  forgets x z h =
      held_forget (Knows x) (r.node x).own (has_secured.nodes x) z (λ e. drops x (holds r x) z (has_secured.nodes x) h)

  holds_sender : (x y : ℕ) → (R x ≡ true → leafset t x (with R y) y ≡ true → R y ≡ true)
      → Knows x (hold ((r.node x).clock + 1) y (r.node x).own).held
  holds_sender x y h =
      held_hold (Knows x) (r.node x).own (has_secured.nodes x) ((r.node x).clock + 1) y (λ e. adds x (holds r x) y (has_secured.nodes x) h)

  module _ (i : ℕ) (on : R (message_at r i).receiver ≡ true) where
    abbrev m : Message
    m = message_at r i

    abbrev x : ℕ
    x = m.receiver

    truth : (k : ℕ) → m.type ≡ suc k → True m
    truth k e = sec.truthful m (message_in r.messages i k e)

    brought : (k : ℕ) → takes_in (suc k) ≡ true → m.type ≡ suc k → Knows x (hold ((r.node x).clock + 1) m.sender (r.node x).own).held
    brought k takes e = holds_sender x m.sender ((truth k e).brings (ap takes_in e ∙ takes))

    keeps : KeepsAt r Held i
    unfolding release
    keeps =
        record {
          on_2 = brought 1 refl;
          on_6 = λ e fits. brought 5 refl e;
          on_8 = λ e h. has_secured.nodes x;
          on_9 = λ e h. has_secured.nodes x;
          on_10 = λ e out is. (
            brought 9 refl e,
            drops x (hold ((r.node x).clock + 1) m.sender (r.node x).own).held m.subject (brought 9 refl e)
                (λ q. sym (has_secured.nodes x on m.subject)
                ∙ not_out (leafset t x (holds r x) m.subject) (and_right (holds r x m.subject) (not (leafset t x (holds r x) m.subject)) out)),
          );
          on_13 = λ e. forgets x m.sender ((truth 12 e).leaves e);
        }

  has_after : (e : Event) → KeepsLeafsets r e → Has Held True (after r e)
  has_after e c =
      after_has r Held True has_secured (λ a S p k. k) idle_true e (leafsets_switch r e c)
      (λ x z i. forgets x.0 z.0 (λ on. subst (KeepsLeafsets r) i c))
      (λ x y i. record { brings = λ q. clash q refl; leaves = λ q. absurd (omega arith) })
      (λ x z out named. record { brings = λ q. clash q refl; leaves = λ q. absurd (omega arith) })
      keeps
      (runner_answers r True sent_true)

  -- what an event leaves, with the table and the running nodes that it leaves
  pub secured_after : (e : Event) → KeepsLeafsets r e → Secured (after r e)
  secured_after e c =
      let h : At t R = ((λ a on. (has_after e c).nodes a on), (has_after e c).flying) in
      let q : At (after r e).table (is_running (after r e)) =
      subst (At (after r e).table) (λ j a. sym (after_running r e (leafsets_switch r e c) a) j) (subst (λ (u : Table). At u R) (sym (after_table r e)) h) in
      record { covered = record { leafset_held = q.0 }; truthful = q.1 }
    where
      At : Table → Set → Type 0
      At u S =
          ((a : ℕ) → S a ≡ true → (z : ℕ) → leafset u a (holds (after r e) a) z ≡ leafset u a S z)
          × ((m : Message) → Memᴰ m (after r e).messages → Truthful u S m)

-- where a ring is covered, every running node holds its leafset, and so routes end at the nearest
pub covered_routes : (r : Ring) → WellFormed r → Covered r → RoutesEndNearest r
covered_routes r well c =
    record {
      ends_nearest = λ key h x on.
          route_ends_covered r well (λ y q z e. leafset_within r.table y (holds r y) z (c.leafset_held y q z ∙ e)) key h x on;
    }
