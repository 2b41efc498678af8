-- A settled ring stays settled while what is accepted is harmless and contacts no stranger: in it whoever is in a leafset is held, and nobody that is off is.
use mathlib.Core.Path.{◌≡◌, sym, ap, ◌∙◌, subst}
use Prim.Native.Nat.{ℕ, ◌≤◌, ◌<◌}
use native.Mathlib.Omega.{arith}
use mathlib.Core.Bool.{true, false}
use mathlib.Core.List.{List}
use lib.ListN.{length, get_or}
use Rattle.model.specs.Ring.{Ring, holds, is_running}
use Rattle.model.specs.WellFormed.{Each}
use Rattle.model.specs.Answers.{is_accepted}
use Rattle.model.specs.Events.{event_of}
use Rattle.model.specs.Play.{play_word, state_refusals}
use Rattle.model.specs.Route.{Converged}
use Rattle.model.specs.ConnectivityPreserved.{Harmless, Reached, read_at}
use Rattle.model.specs.declared.values.NodeNumber.{NodeNumber}
use Rattle.model.specs.declared.event.Event.{Event}
use Rattle.model.specs.declared.event.Event.TheVariants.{Notice, Contact}
use Rattle.model.proofs.Laws.{clash, not_out_false, is_false}
use Rattle.model.proofs.Lists.{first, rest}
use Rattle.model.proofs.Choices.{leafset_within}
use Rattle.model.proofs.WellFormedPlay.{accepted_word}
use Rattle.settle_kept.specs.Settled.{Settled, KeepsHeld, AcceptedIs}
use Rattle.settle_kept.proofs.Closure.{answer_at_lem, along, harmless_keeps_held}
use Rattle.settle_kept.proofs.Settled.{settled_after}
use Rattle.settle_cleanup.specs.Cleanup.{Calm, NoStranger}

-- whoever is told or contacts runs, where the event is accepted
record Acts (r : Ring) (e : Event) : Type 0 where
  told : (x z : NodeNumber) → e ≡ Notice x z → is_running r x.0 ≡ true
  contacts : (x y : NodeNumber) → e ≡ Contact x y → is_running r x.0 ≡ true

acts : (r : Ring) (e : Event) → Each (λ q. q.applies ≡ false) (state_refusals r e) → Acts r e
acts r e p =
    record {
      told = λ x z i. let q = subst (λ (f : Event). Each (λ q. q.applies ≡ false) (state_refusals r f)) i p in
          not_out_false (is_running r x.0) (first (rest (rest q)));
      contacts = λ x y i. let q = subst (λ (f : Event). Each (λ q. q.applies ≡ false) (state_refusals r f)) i p in
          not_out_false (is_running r x.0) (first (rest (rest q)));
    }

calm_keeps : (r : Ring) → Converged r → (e : Event) → Acts r e → Calm r e → KeepsHeld r e
calm_keeps r c e a h =
    harmless_keeps_held r e h.0
    (λ x z i.
    let off : is_running r z.0 ≡ false = subst (Harmless r) i h.0 in
    is_false (holds r x.0 z.0)
    (λ q. clash (leafset_within r.table x.0 (is_running r) z.0 (sym (c.holds_leafset x.0 (a.told x z i) z.0) ∙ q)) off))
    (λ x y i on. c.holds_leafset x.0 (a.contacts x y i) y.0 ∙ subst (NoStranger r) i h.1 on)

pub settled_stays :
    (start : List ℕ) (r : Ring) → Reached start r → (words : List ℕ)
    → (point : ℕ) → Settled (read_at start words point)
    → (later : ℕ) → point ≤ later → later ≤ length words
    → ((k : ℕ) → point ≤ k → k < later → AcceptedIs start words Calm k)
    → Settled (read_at start words later)
unfolding play_word
settled_stays start r reached words point set later from within c =
    along start r reached words (λ s e. Calm s e × Acts s e) Settled
    (λ s well q e k. settled_after s well q e (calm_keeps s q.converged e k.1 k.0))
    point set later from within
    (λ k f l ok. (
      c k f l ok,
      acts (read_at start words k) (event_of (get_or words k 0))
          (accepted_word (read_at start words k) (get_or words k 0) (ap is_accepted (sym (answer_at_lem start r reached words k (omega arith)) ∙ ok))).passed,
    ))
