-- Laws of events as three numbers: by their kind, and of what is read and written.
use mathlib.Core.Path.{◌≡◌, refl, sym, ap, ◌∙◌}
use mathlib.Core.Logic.{◌⊎◌, ⊎_elim}
use mathlib.Core.Bool.{Bool, true, false, ◌&&◌}
use mathlib.Core.List.{[], ◌∷◌}
use Prim.Native.Nat.{ℕ, suc, ◌≤◌, ◌<◌}
use native.Mathlib.Omega.{arith}
use native.Mathlib.Decide.{dec_lt, ℕ_discrete}
use lib.Dec.{ltb, leb, eqb}
use borrow.Author.Tests.{ltb-true, leb-true}
use Rattle.std.specs.Prelude.{if◌then◌else◌}
use Rattle.model.specs.Words.{between}
use Rattle.model.specs.Answers.{first_of, is_accepted, number_of}
use Rattle.model.specs.Events.{ReadWord, event_of, is_timer, parts_fit, event_answer, write_event, word_answer, read_event, reading_of}
use Rattle.std.specs.Prelude.{Ok, Err}
use Rattle.model.specs.declared.refusal.Refusal.{Refusal}
use Rattle.model.specs.declared.event.Event.{Event}
use Rattle.model.proofs.Laws.{and_left, and_right, between_low, between_high, is_false}
use Rattle.mekvalgs_event.specs.Parts.{numbers, parts_of, read_parts, event_of_parts, third_fits, parts_are, parts_answer, write_parts}
use Rattle.mekvalgs_event.specs.declared.Parts.{Parts}

-- ---- by the kind

-- one of two kinds in a row
pub either : (P : ℕ → Type 0) (a k : ℕ) → a ≤ k → k ≤ suc a → P a → P (suc a) → P k
either P a k l h p q =
    elim (ℕ_discrete k a) [
      | yes e ↦ rw e p
      | no d ↦ let e : k ≡ suc a = omega arith in rw e q
    ]

module _ (k first second : ℕ) where
  abbrev p : Parts
  p = record { kind = k; first = first; second = second }

  pub of_on : k ≡ 9 → parts_are p ≡ (eqb second 0 && ltb first 64)
  unfolding parts_are event_of_parts
  of_on e = rw e

  pub of_off : k ≡ 10 → parts_are p ≡ (leb second 1 && ltb first 64)
  unfolding parts_are event_of_parts
  of_off e = rw e

  pub of_nodes : 11 ≤ k → k ≤ 12 → parts_are p ≡ (ltb first 64 && ltb second 64)
  unfolding parts_are event_of_parts
  of_nodes l h = either (λ k. parts_are (record { kind = k; first = first; second = second }) ≡ (ltb first 64 && ltb second 64)) 11 k l h refl refl

  pub of_timer : k ≡ 13 → parts_are p ≡ (ltb first 64 && is_timer second)
  unfolding parts_are event_of_parts
  of_timer e = rw e

  pub of_deliver : k ≡ 14 → parts_are p ≡ (leb second 1 && ltb first 1024)
  unfolding parts_are event_of_parts
  of_deliver e = rw e

  pub of_lose : k ≡ 15 → parts_are p ≡ (eqb second 0 && ltb first 1024)
  unfolding parts_are event_of_parts
  of_lose e = rw e

  kind_fits : parts_are p ≡ true → between 9 15 k ≡ true
  unfolding parts_are
  kind_fits t =
      and_left (between 9 15 k) (third_fits p) (and_left (between 9 15 k && third_fits p) (parts_fit (event_of_parts p)) t)

  pub of_none : (k < 9) ⊎ (15 < k) → false ≡ parts_are p
  of_none out =
      sym (is_false (parts_are p) (λ t.
      let l = between_low 9 15 k (kind_fits t) in
      let h = between_high 9 15 k (kind_fits t) in
      ⊎_elim (λ o. omega arith) (λ o. omega arith) out))

  -- ---- the room of numbers that are an event's

  module _ (t : parts_are p ≡ true) where
    pub kind_low : 9 ≤ k
    kind_low = between_low 9 15 k (kind_fits t)

    pub kind_high : k ≤ 15
    kind_high = between_high 9 15 k (kind_fits t)

    pub node_low : k ≤ 13 → first < 64
    node_low h =
        elim (dec_lt k 11) [
          | yes l ↦ elim (ℕ_discrete k 9) [
            | yes e ↦ ltb-true first 64 (and_right (eqb second 0) (ltb first 64) (sym (of_on e) ∙ t))
            | no d ↦ ltb-true first 64 (and_right (leb second 1) (ltb first 64) (sym (of_off (omega (arith, kind_low))) ∙ t))
          ]
          | no l ↦ elim (dec_lt k 13) [
            | yes m ↦ ltb-true first 64 (and_left (ltb first 64) (ltb second 64) (sym (of_nodes (omega arith) (omega arith)) ∙ t))
            | no m ↦ ltb-true first 64 (and_left (ltb first 64) (is_timer second) (sym (of_timer (omega arith)) ∙ t))
          ]
        ]

    pub other_low : 11 ≤ k → k ≤ 12 → second < 64
    other_low l h = ltb-true second 64 (and_right (ltb first 64) (ltb second 64) (sym (of_nodes l h) ∙ t))

    pub timer_low : k ≡ 13 → second ≤ 4
    timer_low e = leb-true second 4 (and_left (leb second 4) _ (and_right (ltb first 64) (is_timer second) (sym (of_timer e) ∙ t)))

    pub position_low : 14 ≤ k → first < 1024
    position_low l =
        elim (ℕ_discrete k 14) [
          | yes e ↦ ltb-true first 1024 (and_right (leb second 1) (ltb first 1024) (sym (of_deliver e) ∙ t))
          | no d ↦ ltb-true first 1024 (and_right (eqb second 0) (ltb first 1024) (sym (of_lose (omega (arith, kind_high))) ∙ t))
        ]

  fits : parts_are p ≡ true → parts_fit (event_of_parts p) ≡ true
  unfolding parts_are
  fits t = and_right (between 9 15 k && third_fits p) (parts_fit (event_of_parts p)) t

  -- ---- writing

  pub write_refused : parts_are p ≡ false → (4 ≡ parts_answer p) × (0 ≡ write_parts p)
  unfolding parts_answer write_parts first_of
  write_refused e = (rw e, rw e)

  pub write_given : parts_are p ≡ true → (event_answer (event_of_parts p) ≡ parts_answer p) × (write_event (event_of_parts p) ≡ write_parts p)
  unfolding parts_answer write_parts event_answer write_event first_of
  write_given t = (rw (t, fits t), rw (t, fits t))

-- ---- reading

pub read_given : (w : ℕ) (e : Event) → reading_of (Ok e) ≡ read_event w → (0 ≡ word_answer w) × (parts_of e ≡ read_parts w)
unfolding read_event read_parts
read_given w e h =
    let z : word_answer w ≡ 0 = sym (ap (λ (q : ReadWord). q.answer) h) in
    let l : (e ∷ []) ≡ (event_of w ∷ []) = rw z at (ap (λ (q : ReadWord). q.event) h) in
    let i : e ≡ event_of w = cc in
    (sym z, rw z (ap parts_of i))

pub read_refused : (w : ℕ) (a : Refusal) → reading_of (Err a) ≡ read_event w → (number_of a ≡ word_answer w) × (numbers 0 0 0 ≡ read_parts w)
unfolding read_event read_parts
read_refused w a h = (ap (λ (q : ReadWord). q.answer) h, by_answer (is_accepted (word_answer w)) (ap (λ (q : ReadWord). q.event) h))
  where
    by_answer : (b : Bool) → [] ≡ (if b then event_of w ∷ [] else []) → numbers 0 0 0 ≡ (if b then parts_of (event_of w) else numbers 0 0 0)
    by_answer true q = absurd (let z : ◌≡◌ {A = ℕ} 0 1 = cc in omega arith)
    by_answer false q = refl
