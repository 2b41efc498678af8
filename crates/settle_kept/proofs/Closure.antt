-- Closure over lists of words: what each event keeps, each word keeps, and so does a list, by induction on its points (`along`).
-- Then rings that are secured or settled, and what harmless events keep of them.
use mathlib.Core.Path.{◌≡◌, refl, sym, ap, ◌∙◌, subst}
use Prim.Native.Nat.{ℕ, zero, suc, ◌≤◌, ◌<◌}
use native.Mathlib.Omega.{arith}
use native.Mathlib.Decide.{ℕ_discrete}
use mathlib.Core.Bool.{true, false}
use mathlib.Core.List.{List, [], Memᴰ}
use lib.ListN.{length, get_or, take}
use Rattle.model.specs.Leafset.{leafset}
use Rattle.model.specs.Ring.{Ring, is_running, holds}
use Rattle.model.specs.WellFormed.{WellFormed}
use Rattle.model.specs.Answers.{is_accepted}
use Rattle.model.specs.Events.{event_of}
use Rattle.model.specs.Play.{after, play_answer, play_word}
use Rattle.model.specs.Route.{Converged}
use Rattle.model.specs.ConnectivityPreserved.{Harmless, Reached, Unbroken, words_at, read_at, answer_at}
use Rattle.model.specs.declared.values.NodeNumber.{NodeNumber}
use Rattle.model.specs.declared.event.Event.{Event}
use Rattle.model.specs.declared.event.Event.TheVariants.{On, Off, Notice, Contact, Timer, Deliver, Lose}
use Rattle.model.proofs.Laws.{clash, is_false, if_law}
use Rattle.model.proofs.Choices.{leafset_within}
use Rattle.model.proofs.Answers.{accepted_is}
use Rattle.model.proofs.Decoded.{reads_well}
use Rattle.model.proofs.Handlers.{absent}
use Rattle.model.proofs.ConnectivityPreserved.{next, list_reaches, reached_reads, connectivity_preserved}
use Rattle.settle_leafsets.specs.Covered.{Covered}
use Rattle.settle_leafsets.proofs.LeafsetChoice.{chosen_again}
use Rattle.settle_kept.specs.Settled.{Secured, KeepsLeafsets, Settled, KeepsHeld, AcceptedIs, Closed, Closure}
use Rattle.settle_kept.proofs.Keeping.{after_running, leafsets_switch, held_switch}
use Rattle.settle_kept.proofs.Secured.{secured_after, covered_routes}
use Rattle.settle_kept.proofs.Settled.{held_after, settled_after, settled_routes}

-- ---- lists

module _ (start : List ℕ) (r : Ring) (reached : Reached start r) (words : List ℕ) where
  abbrev pub at : ℕ → Ring
  at i = read_at start words i

  abbrev pub word : ℕ → ℕ
  word i = get_or words i 0

  follows : Unbroken start words r
  follows = connectivity_preserved start r reached words

  pub well_at : (i : ℕ) → WellFormed (at i)
  well_at i = reads_well (words_at start words i) (reached_reads (list_reaches reached (take i words)))

  pub next_at_lem : (k : ℕ) → k < length words → at (suc k) ≡ (play_word (at k) (word k)).ring
  next_at_lem k l =
      follows.ring_follows (suc k) l
      ∙ next r words k l
      ∙ ap (λ (s : Ring). (play_word s (word k)).ring) (sym (follows.ring_follows k (omega arith)))

  pub answer_at_lem : (k : ℕ) → k < length words → answer_at start words k ≡ (play_word (at k) (word k)).answer
  answer_at_lem k l = follows.answers_follow k l ∙ ap (λ (s : Ring). (play_word s (word k)).answer) (sym (follows.ring_follows k (omega arith)))

  -- what each event that C allows keeps, each word keeps, and so does a list in which C allows all that is accepted
  module _ (C : Ring → Event → Type 0) (P : Ring → Type 0) (keeps : (s : Ring) → WellFormed s → P s → (e : Event) → C s e → P (after s e)) where
    word_keeps : (s : Ring) → WellFormed s → P s → (w : ℕ) → ((play_word s w).answer ≡ 0 → C s (event_of w)) → P (play_word s w).ring
    unfolding play_word
    word_keeps s well p w c =
        if_law P (is_accepted (play_answer s w)) (after s (event_of w)) s
        (λ a. keeps s well p (event_of w) (c (accepted_is (play_answer s w) a)))
        (λ a. p)

    pub along :
        (point : ℕ) → P (at point) → (later : ℕ) → point ≤ later → later ≤ length words
        → ((k : ℕ) → point ≤ k → k < later → AcceptedIs start words C k)
        → P (at later)
    along point p zero h l c = let e : point ≡ 0 = omega arith in subst (λ (i : ℕ). P (at i)) e p
    along point p (suc k) h l c =
        elim (ℕ_discrete point (suc k)) [
          | yes e ↦ subst (λ (i : ℕ). P (at i)) e p
          | no n ↦
              (let q : P (at k) = along point p k (omega arith) (omega arith) (λ j f g. c j f (omega arith)) in
              subst P (sym (next_at_lem k l)) (word_keeps (at k) (well_at k) q (word k) (λ a. c k (omega arith) (omega arith) (answer_at_lem k l ∙ a))))
        ]

  closed : Closed start words
  closed =
      record {
        secured_kept = λ point sec later from within c.
            let p = along KeepsLeafsets (λ s. Secured s × ((x : ℕ) → is_running s x ≡ is_running (at point) x))
            (λ s well q e k. (secured_after s well q.0 e k, λ x. after_running s e (leafsets_switch s e k) x ∙ q.1 x))
            point (sec, λ x. refl) later from within c in
            (p.0, p.1, covered_routes (at later) (well_at later) p.0.covered);
        settled_kept = λ point set later from within c.
            let p = along KeepsHeld (λ s. Settled s × ((x : ℕ) → is_running s x ≡ is_running (at point) x) × ((x z : ℕ) → holds s x z ≡ holds (at point) x z))
            (λ s well q e k. (
              settled_after s well q.0 e k,
              λ x. after_running s e (held_switch s e k) x ∙ q.1 x,
              λ x z. held_after s well q.0 e k x z ∙ q.2 x z,
            ))
            point (set, (λ x. refl), λ x z. refl) later from within c in
            (p.0, p.1, p.2, settled_routes (at later) (well_at later) p.0);
      }

pub closure : Closure
closure start r reached words = closed start r reached words

-- ---- when a ring is secured or settled

-- where every node holds exactly its leafset, the ring is covered
pub converged_covered : (r : Ring) → WellFormed r → Converged r → Covered r
converged_covered r well c =
    record {
      leafset_held = λ x on. chosen_again r.table x well.table_well ((well.node_well x).running_low on) (is_running r) (holds r x) (c.holds_leafset x on);
    }

-- a node that is off is in no leafset
off_outside : (r : Ring) (x y : ℕ) → is_running r y ≡ false → leafset r.table x (is_running r) y ≡ false
off_outside r x y off = is_false (leafset r.table x (is_running r) y) (λ e. clash (leafset_within r.table x (is_running r) y e) off)

-- with nothing in flight a converged ring is settled
pub settled_silent : (r : Ring) → Converged r → r.messages ≡ [] → Settled r
settled_silent r c none = record { converged = c; still = λ m i. absent (subst (Memᴰ m) none i) }

-- what demand 3 calls harmless keeps leafsets
pub harmless_keeps : (r : Ring) (e : Event) → Harmless r e → KeepsLeafsets r e
harmless_keeps r (On x) h = h
harmless_keeps r (Off x polite) h = h
harmless_keeps r (Notice x z) h = off_outside r x.0 z.0 h
harmless_keeps r (Contact x y) h = tt
harmless_keeps r (Timer x k) h = tt
harmless_keeps r (Deliver i echo) h = tt
harmless_keeps r (Lose i) h = tt

-- and keeps who is held, if a notice names nobody who is held, and a contact one who is, or is off
pub harmless_keeps_held :
    (r : Ring) (e : Event) → Harmless r e
    → ((x z : NodeNumber) → e ≡ Notice x z → holds r x.0 z.0 ≡ false)
    → ((x y : NodeNumber) → e ≡ Contact x y → is_running r y.0 ≡ true → holds r x.0 y.0 ≡ true)
    → KeepsHeld r e
harmless_keeps_held r (On x) h told known = h
harmless_keeps_held r (Off x polite) h told known = h
harmless_keeps_held r (Notice x z) h told known = told x z refl
harmless_keeps_held r (Contact x y) h told known = known x y refl
harmless_keeps_held r (Timer x k) h told known = tt
harmless_keeps_held r (Deliver i echo) h told known = tt
harmless_keeps_held r (Lose i) h told known = tt
