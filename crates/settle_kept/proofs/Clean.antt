-- A harmless event keeps a ring clean, and no node releases one of its leafset: a case of Keeping, for the fact that all whom a running node holds run.
use mathlib.Core.Path.{◌≡◌, refl, sym, ap, ◌∙◌, subst}
use Prim.Native.Nat.{ℕ, suc, ◌+◌}
use native.Mathlib.Omega.{arith}
use mathlib.Core.Bool.{true, false, not}
use lib.Dec.{eqb}
use borrow.Author.Tests.{eqb-true, ne_eqb}
use Rattle.model.specs.Sets.{Set, with, without}
use Rattle.model.specs.Leafset.{Table, leafset}
use Rattle.model.specs.Ring.{Ring, Own, Message, is_running, holds, message_at}
use Rattle.model.specs.Steps.{plain, stamped, hold, release, forget}
use Rattle.model.specs.Play.{after}
use Rattle.model.specs.ConnectivityPreserved.{Harmless}
use Rattle.model.specs.Types.{ping_contact, ping_replace, leave}
use Rattle.model.specs.declared.event.Event.{Event}
use Rattle.model.proofs.Laws.{clash, and_left, and_right, and_in, or_left, or_case, not_in, not_out}
use Rattle.model.proofs.Choices.{leafset_within}
use Rattle.model.proofs.Handlers.{message_in}
use Rattle.settle_kept.specs.Improving.{Clean}
use Rattle.settle_kept.specs.Settled.{takes_in}
use Rattle.settle_kept.proofs.Keeping.{is_idle, idle_not, held_forget, held_hold, Has, KeepsAt, runner_answers}
use Rattle.settle_kept.proofs.Keeping.{after_has, after_running, takes_case, harmless_switch}

-- what a clean ring has of a message, where the nodes of R run
module _ (R : Set) where
  pub record Fair (m : Message) : Type 0 where
    pub runs : takes_in m.type ≡ true → R m.receiver ≡ true → R m.sender ≡ true
    pub off : m.type ≡ leave → R m.receiver ≡ true → R m.sender ≡ false

  pub idle_fair : (m : Message) → is_idle m.type ≡ true → Fair m
  idle_fair m i =
      record {
        runs =
            λ e. takes_case m.type e (λ q. absurd (idle_not m.type 2 refl i q)) (λ q. absurd (idle_not m.type 6 refl i q))
            (λ q. absurd (idle_not m.type 10 refl i q));
        off = λ e. absurd (idle_not m.type 13 refl i e);
      }

  pub sent_fair : (m : Message) → R m.sender ≡ true → ¬ (m.type ≡ 13) → Fair m
  sent_fair m on n = record { runs = λ e to. on; off = λ e. absurd (n e) }

  pub contact_fair : (x y : ℕ) → Fair (plain ping_contact x y)
  contact_fair x y = record { runs = λ q. clash q refl; off = λ q. absurd (omega arith) }

  pub request_fair : (x y z now : ℕ) → Fair (stamped ping_replace x y z now)
  request_fair x y z now = record { runs = λ q. clash q refl; off = λ q. absurd (omega arith) }

module _ (r : Ring) (clean : Clean r) where
  abbrev t : Table
  t = r.table

  abbrev R : Set
  R = is_running r

  -- of S, for a running node: all run, and nobody of its leafset is missing
  record Whole (a : ℕ) (S : Set) : Type 0 where
    pub run : (z : ℕ) → S z ≡ true → R z ≡ true
    pub whole : (z : ℕ) → leafset t a (holds r a) z ≡ true → S z ≡ true

  abbrev Good : ℕ → Set → Type 0
  Good a S = R a ≡ true → Whole a S

  abbrev Held : ℕ → Own → Type 0
  Held a p = Good a p.held

  has_clean : Has Held (Fair R) r
  has_clean =
      record {
        nodes = λ a on. record { run = clean.holds_running a on; whole = λ z e. leafset_within t a (holds r a) z e };
        flying = λ m i. record { runs = clean.senders_run m i; off = clean.leavers_off m i };
      }

  adds : (a : ℕ) (S : Set) (y : ℕ) → Good a S → (R a ≡ true → R y ≡ true) → Good a (with S y)
  adds a S y k h on =
      record {
        run = λ z e. or_case (S z) (eqb z y) e (λ p. (k on).run z p) (λ p. ap R (eqb-true z y p) ∙ h on);
        whole = λ z e. or_left (eqb z y) ((k on).whole z e);
      }

  drops : (a : ℕ) (S : Set) (y : ℕ) → Good a S → (R a ≡ true → leafset t a (holds r a) y ≡ true → ⊥) → Good a (without S y)
  drops a S y k h on =
      record {
        run = λ z e. (k on).run z (and_left (S z) (not (eqb z y)) e);
        whole = λ z e. and_in ((k on).whole z e) (not_in (ne_eqb z y (λ i. h on (ap (leafset t a (holds r a)) (sym i) ∙ e))));
      }

  -- one that is off is in no leafset
  off_none : (a y : ℕ) → R y ≡ false → R a ≡ true → leafset t a (holds r a) y ≡ true → ⊥
  off_none a y off on e = clash (clean.holds_running a on y (leafset_within t a (holds r a) y e)) off

  forgets : (x z : ℕ) → (R x ≡ true → R z ≡ false) → Good x (forget z (r.node x).own).held
  forgets x z off =
      held_forget (Good x) (r.node x).own (has_clean.nodes x) z (λ e. drops x (holds r x) z (has_clean.nodes x) (λ on. off_none x z (off on) on))

  holds_sender : (x y : ℕ) → (R x ≡ true → R y ≡ true) → Good x (hold ((r.node x).clock + 1) y (r.node x).own).held
  holds_sender x y h =
      held_hold (Good x) (r.node x).own (has_clean.nodes x) ((r.node x).clock + 1) y (λ e. adds x (holds r x) y (has_clean.nodes x) h)

  module _ (i : ℕ) (on : R (message_at r i).receiver ≡ true) where
    abbrev m : Message
    m = message_at r i

    abbrev x : ℕ
    x = m.receiver

    fair : (k : ℕ) → m.type ≡ suc k → Fair R m
    fair k e = has_clean.flying m (message_in r.messages i k e)

    brought : (k : ℕ) → takes_in (suc k) ≡ true → m.type ≡ suc k → Good x (hold ((r.node x).clock + 1) m.sender (r.node x).own).held
    brought k takes e = holds_sender x m.sender ((fair k e).runs (ap takes_in e ∙ takes))

    keeps : KeepsAt r Held i
    unfolding release
    keeps =
        record {
          on_2 = brought 1 refl;
          on_6 = λ e fits. brought 5 refl e;
          on_8 = λ e h. has_clean.nodes x;
          on_9 = λ e h. has_clean.nodes x;
          on_10 = λ e out is. (
            brought 9 refl e,
            drops x (hold ((r.node x).clock + 1) m.sender (r.node x).own).held m.subject (brought 9 refl e)
                (λ q l. clash l (not_out (leafset t x (holds r x) m.subject)
                (and_right (holds r x m.subject) (not (leafset t x (holds r x) m.subject)) out))),
          );
          on_13 = λ e. forgets x m.sender ((fair 12 e).off e);
        }

  has_after : (e : Event) → Harmless r e → Has Held (Fair R) (after r e)
  has_after e c =
      after_has r Held (Fair R) has_clean (λ a S p k. k) (idle_fair R) e (harmless_switch r e c)
      (λ x z i. forgets x.0 z.0 (λ on. subst (Harmless r) i c))
      (λ x y i. contact_fair R x.0 y.0)
      (λ x z out named. request_fair R x ((r.node x).own.spare z) z ((r.node x).clock + 1))
      keeps
      (runner_answers r (Fair R) (sent_fair R))

  running_after : (e : Event) → Harmless r e → (a : ℕ) → is_running (after r e) a ≡ R a
  running_after e c a = after_running r e (harmless_switch r e c) a

  pub clean_after : (e : Event) → Harmless r e → Clean (after r e)
  clean_after e c =
      let h = has_after e c in
      record {
        holds_running = λ x on z e'. running_after e c z ∙ (h.nodes x (sym (running_after e c x) ∙ on)).run z e';
        senders_run = λ m i e' to. running_after e c m.sender ∙ (h.flying m i).runs e' (sym (running_after e c m.receiver) ∙ to);
        leavers_off = λ m i e' to. running_after e c m.sender ∙ (h.flying m i).off e' (sym (running_after e c m.receiver) ∙ to);
      }

  pub leafset_stays : (e : Event) → Harmless r e → (x : ℕ) → R x ≡ true → (z : ℕ) → leafset t x (holds r x) z ≡ true → holds (after r e) x z ≡ true
  leafset_stays e c x on = ((has_after e c).nodes x on).whole
