-- What an accepted word and a refused one leave; and whatever is in flight at the end of a round was sent in it: what was in flight at the start is gone,
-- and each position of the end has an origin, by induction on the words.
use mathlib.Core.Path.{◌≡◌, refl, sym, ap, ◌∙◌, subst}
use mathlib.Core.Logic.{◌⊎◌, inl, inr}
use Prim.Native.Nat.{ℕ, zero, suc, ◌+◌, ◌-◌, ◌≤◌, ◌<◌}
use native.Mathlib.Nat.{add-suc, add-zero}
use native.Mathlib.Omega.{arith}
use mathlib.Core.Bool.{Bool, true, false}
use mathlib.Core.List.Memᴰ
use mathlib.Core.List.{List, [], ◌∷◌, Memᴰ}
use lib.ListN.{length, get_or}
use Rattle.std.specs.Prelude.{if◌then◌else◌}
use Rattle.model.specs.Ring.{Ring, Message, blank, message_at}
use Rattle.model.specs.Answers.{is_accepted}
use Rattle.model.specs.Play.{after, play_word}
use Rattle.model.specs.ConnectivityPreserved.{Reached, read_at, answer_at}
use Rattle.model.specs.declared.event.Event.{Event}
use Rattle.model.proofs.Laws.{clash, decide}
use Rattle.model.proofs.Answers.{accepted_is}
use Rattle.model.proofs.Handlers.{absent}
use Rattle.settle_kept.proofs.Closure.{next_at_lem, answer_at_lem}
use Rattle.settle_rounds.specs.Rounds.{Fate, flying, gone, fate, Lossless, event_at, fate_after, Round}
use Rattle.settle_rounds.proofs.Turns.{Sends}
use Rattle.settle_rounds.proofs.Following.{FateIs, fate_is, origin}

-- the position of a message
pub place_of : (l : List Message) (m : Message) → Memᴰ m l → (i : ℕ) × (i < length l) × (get_or l i blank ≡ m)
place_of [] m h = absent h
place_of (a ∷ l) m h =
    elim (Memᴰ.cases_cons h) [ inl e ↦ (0, omega arith, sym e) | inr q ↦ let p = place_of l m q in (suc p.0, omega (arith, p.1), p.2) ]

abbrev is_flying : Fate → Bool
is_flying (flying i) = true
is_flying gone = false

module _ (start : List ℕ) (r : Ring) (reached : Reached start r) (words : List ℕ) where
  abbrev at : ℕ → Ring
  at i = read_at start words i

  -- an accepted word leaves what its event does, and a refused one nothing
  pub accepted_at : (k : ℕ) → k < length words → answer_at start words k ≡ 0 → at (suc k) ≡ after (at k) (event_at start words k)
  unfolding play_word
  accepted_at k l ok =
      next_at_lem start r reached words k l
      ∙ ap (λ (a : ℕ). if is_accepted a then after (at k) (event_at start words k) else at k) (sym (answer_at_lem start r reached words k l) ∙ ok)

  pub refused_at : (k : ℕ) → k < length words → is_accepted (answer_at start words k) ≡ false → at (suc k) ≡ at k
  unfolding play_word
  refused_at k l not-ok =
      next_at_lem start r reached words k l
      ∙ ap (λ (b : Bool). if b then after (at k) (event_at start words k) else at k) (ap is_accepted (sym (answer_at_lem start r reached words k l)) ∙ not-ok)

  module _
      (p q : ℕ) (round : Round start words p q) (F : Message → Type 0)
      (sends : (k : ℕ) → p ≤ k → k < q → answer_at start words k ≡ 0 → Sends F (at k) (event_at start words k))
    where
      -- of the message at position l of the point p + d
      abbrev Known : ℕ → ℕ → Type 0
      Known d l = F (message_at (at (p + d)) l) ⊎ ((i : ℕ) × (i < length (at p).messages) × (fate_after start words p i d ≡ flying l))

      known : (d : ℕ) → p + d ≤ q → (l : ℕ) → l < length (at (p + d)).messages → Known d l
      unfolding fate_after
      known zero h l hl = inr (l, subst (λ (k : ℕ). l < length (at k).messages) (add-zero p) hl, refl)
      known (suc d) h l hl =
          decide (is_accepted (answer_at start words (p + d)))
          (λ a.
          let ok = accepted_is (answer_at start words (p + d)) a in
          let fine = round.lossless (p + d) (omega arith) (omega arith) ok in
          let s = sends (p + d) (omega arith) (omega arith) ok in
          let is : at (p + suc d) ≡ after (at (p + d)) ev = ap at (add-suc p d) ∙ accepted_at (p + d) (omega (arith, w)) ok in
          elim (origin (at (p + d)) F ev fine s.on_contact s.on_timer s.on_deliver l (subst (λ (u : Ring). l < length u.messages) is hl)) [
            | inr f ↦ inl (subst (λ (u : Ring). F (message_at u l)) (sym is) f)
            | inl o ↦ elim (known d (omega arith) o.0 o.1) [
              | inl f ↦ inl (subst (λ (u : Ring). F (message_at u l)) (sym is) (subst F (sym (same o.0 o.1 fine o.2)) f))
              | inr g ↦ inr (g.0, g.1, rw (a, g.2) o.2)
            ]
          ])
          (λ a.
          let is : at (p + suc d) ≡ at (p + d) = ap at (add-suc p d) ∙ refused_at (p + d) (omega (arith, w)) a in
          elim (known d (omega arith) l (subst (λ (u : Ring). l < length u.messages) is hl)) [
            | inl f ↦ inl (subst (λ (u : Ring). F (message_at u l)) (sym is) f)
            | inr g ↦ inr (g.0, g.1, rw (a) g.2)
          ])
        where
          ev : Event
          ev = event_at start words (p + d)

          w : q ≤ length words
          w = round.within

          same :
              (i : ℕ) → i < length (at (p + d)).messages → Lossless (at (p + d)) ev → fate ev i ≡ flying l
              → message_at (after (at (p + d)) ev) l ≡ message_at (at (p + d)) i
          same i hi n e = (subst (FateIs (at (p + d)) ev i) e (fate_is (at (p + d)) ev n i hi)).same

      pub renewed : (m : Message) → Memᴰ m (at q).messages → F m
      renewed m h =
          let o = round.ordered in
          let e : p + (q - p) ≡ q = omega arith in
          let s = place_of (at q).messages m h in
          subst F s.2
          (elim (known (q - p) (omega arith) s.0 (subst (λ (k : ℕ). s.0 < length (at k).messages) (sym e) s.1)) [
            | inl f ↦ subst (λ (k : ℕ). F (message_at (at k) s.0)) e f
            | inr g ↦ clash {b = is_flying (flying s.0)} refl (ap is_flying (sym g.2) ∙ ap is_flying (round.delivers g.0 g.1))
          ])
