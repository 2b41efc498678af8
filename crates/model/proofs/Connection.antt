-- The test `connected` decides the definition `Connected`.
use mathlib.Core.Path.{◌≡◌, refl, sym, ap, ap₂, ◌∙◌, subst}
use mathlib.Core.Logic.{◌↔◌, ◌⊎◌, inl, inr}
use Prim.Native.Nat.{ℕ, zero, suc, ◌≤◌, ◌<◌, zero-le}
use native.Mathlib.Decide.{dec_lt, ℕ_discrete}
use native.Mathlib.Omega.{arith}
use mathlib.Core.Bool.{true, false, not, ◌&&◌, ◌||◌, and_comm, or_comm}
use lib.ListN.{get_or}
use lib.Dec.{eqb}
use borrow.Author.Tests.{eqb-true, eq-eqb}
use Rattle.model.specs.Sets.{Set, some, count}
use Rattle.model.specs.Leafset.{size}
use Rattle.model.specs.Ring.{Ring, is_running, holds}
use Rattle.model.specs.Connection.{linked, Connected, itself, onward, reached, connected}
use Rattle.model.proofs.Laws.{clash, and_left, and_right, and_in, or_left, or_right, or_case, not_in, not_out}
use Rattle.model.proofs.Laws.{decide, some_in, some_out, count_le, count_more, get_d_tabulate, beyond_tabulate}

-- every running node is one of the table
abbrev pub InTable : Ring → Type 0
InTable r = (x : ℕ) → is_running r x ≡ true → x < size r.table

-- ---- chains of steps

module _ (r : Ring) where
  pub linked_back : (x z : ℕ) → linked r x z ≡ true → linked r z x ≡ true
  linked_back x z l = ap₂ ◌&&◌ (and_comm (is_running r z) (is_running r x)) (or_comm (holds r z x) (holds r x z)) ∙ l

  pub arrives : (y z : ℕ) → linked r y z ≡ true → is_running r z ≡ true
  arrives y z l = and_right (is_running r y) (is_running r z) (and_left (is_running r y && is_running r z) (holds r y z || holds r z y) l)

  pub starts : {x y : ℕ} → Connected r x y → is_running r x ≡ true
  starts (itself h) = h
  starts (onward {a = x} {b = y} l p) = and_left (is_running r x) (is_running r y) (and_left (is_running r x && is_running r y) (holds r x y || holds r y x) l)

  pub further : {x y z : ℕ} → Connected r x y → linked r y z ≡ true → Connected r x z
  further {z = z} (itself {a = y} h) l = onward l (itself (arrives y z l))
  further (onward k p) l = onward k (further p l)

  -- a chain the other way, and one after another
  pub turned : {x y : ℕ} → Connected r x y → Connected r y x
  turned (itself h) = itself h
  turned (onward {a = x} {b = y} l p) = further (turned p) (linked_back x y l)

  pub joined : {x y z : ℕ} → Connected r x y → Connected r y z → Connected r x z
  joined (itself h) q = q
  joined (onward l p) q = onward l (joined p q)

module _ (r : Ring) (a : ℕ) where
  abbrev n : ℕ
  n = size r.table

  -- ---- the marks after k steps

  abbrev marks : ℕ → Set
  marks k b = get_or (reached r a k) b false

  marks_none : (k b : ℕ) → n ≤ b → marks k b ≡ false
  unfolding reached
  marks_none zero b h = beyond_tabulate _ false n b h
  marks_none (suc k) b h = beyond_tabulate _ false n b h

  marks_low : (k b : ℕ) → marks k b ≡ true → b < n
  marks_low k b t = elim (dec_lt b n) [ yes h ↦ h | no d ↦ clash t (marks_none k b (omega arith)) ]

  marks_zero : (b : ℕ) → b < n → marks 0 b ≡ eqb a b
  unfolding reached
  marks_zero b h = get_d_tabulate _ false n b h

  marks_suc : (k b : ℕ) → b < n → marks (suc k) b ≡ (marks k b || some n (λ c. marks k c && linked r c b))
  unfolding reached
  marks_suc k b h = get_d_tabulate _ false n b h

  -- a step more
  stays : (k b : ℕ) → marks k b ≡ true → marks (suc k) b ≡ true
  stays k b t = marks_suc k b (marks_low k b t) ∙ or_left (some n (λ c. marks k c && linked r c b)) t

  joins : (k c b : ℕ) → b < n → marks k c ≡ true → linked r c b ≡ true → marks (suc k) b ≡ true
  joins k c b h t l = marks_suc k b h ∙ or_right (marks k b) (some_in n (λ d. marks k d && linked r d b) c (marks_low k c t) (and_in t l))

  -- ---- the test finds only what is connected

  sound : is_running r a ≡ true → (k b : ℕ) → marks k b ≡ true → Connected r a b
  sound run zero b t = subst (Connected r a) (eqb-true a b (sym (marks_zero b (marks_low 0 b t)) ∙ t)) (itself run)
  sound run (suc k) b t =
      or_case (marks k b) (some n (λ c. marks k c && linked r c b)) (sym (marks_suc k b (marks_low (suc k) b t)) ∙ t)
      (sound run k b)
      (λ s.
      let p = some_out n (λ c. marks k c && linked r c b) s in
      further r (sound run k p.0 (and_left (marks k p.0) (linked r p.0 b) p.2)) (and_right (marks k p.0) (linked r p.0 b) p.2))

  -- ---- the test finds all that is connected, where running nodes are below n

  abbrev Closed : ℕ → Type 0
  Closed k = (c b : ℕ) → marks k c ≡ true → linked r c b ≡ true → marks k b ≡ true

  within : (k : ℕ) → Closed k → {c b : ℕ} → Connected r c b → marks k c ≡ true → marks k b ≡ true
  within k cl (itself h) t = t
  within k cl (onward {a = c} {b = d} l p) t = within k cl p (cl c d t l)

  later : (k j b : ℕ) → k ≤ j → marks k b ≡ true → marks j b ≡ true
  later k zero b h t = let e : k ≡ 0 = omega arith in ap (λ (i : ℕ). marks i b) (sym e) ∙ t
  later k (suc j) b h t =
      elim (ℕ_discrete k (suc j)) [
        | yes e ↦ ap (λ (i : ℕ). marks i b) (sym e) ∙ t
        | no d ↦ stays j b (later k j b (omega arith) t)
      ]

  module _ (low : InTable r) where
    -- the link from c to b leads out of the marks of k
    abbrev escapes : ℕ → ℕ → Set
    escapes k c b = marks k c && (linked r c b && not (marks k b))

    abbrev some_escape : ℕ → Set
    some_escape k c = some n (escapes k c)

    closed : (k : ℕ) → some n (some_escape k) ≡ false → Closed k
    closed k stop c b t l =
        decide (marks k b)
        (λ s. s)
        (λ s. clash
        (some_in n (some_escape k) c (marks_low k c t) (some_in n (escapes k c) b (low b (arrives r c b l)) (and_in t (and_in l (not_in s)))))
        stop)

    -- after k steps, either nothing more is reached or more than k nodes are marked
    abbrev Progress : ℕ → Type 0
    Progress k = ((j : ℕ) × (j ≤ k) × Closed j) ⊎ (k < count n (marks k))

    more : (k : ℕ) → k < count n (marks k) → some n (some_escape k) ≡ true → suc k < count n (marks (suc k))
    more k h t =
        let p = some_out n (some_escape k) t in
        let q = some_out n (escapes k p.0) p.2 in
        let m = and_left (marks k p.0) (linked r p.0 q.0 && not (marks k q.0)) q.2 in
        let e = and_right (marks k p.0) (linked r p.0 q.0 && not (marks k q.0)) q.2 in
        omega (
          arith,
          count_more (marks k) (marks (suc k)) n (λ i l. stays k i) q.0 q.1
              (not_out (marks k q.0) (and_right (linked r p.0 q.0) (not (marks k q.0)) e))
              (joins k p.0 q.0 q.1 m (and_left (linked r p.0 q.0) (not (marks k q.0)) e)),
        )

    marked : is_running r a ≡ true → marks 0 a ≡ true
    marked run = marks_zero a (low a run) ∙ eq-eqb a a refl

    progress : is_running r a ≡ true → (k : ℕ) → Progress k
    progress run zero = inr (omega (arith, count_more (λ i. false) (marks 0) n (λ i l t. clash t refl) a (low a run) refl (marked run)))
    progress run (suc k) =
        elim (progress run k) [
          | inl p ↦ inl (p.0, omega arith, p.2)
          | inr h ↦ decide (some n (some_escape k)) (λ t. inr (more k h t)) (λ t. inl (k, omega arith, closed k t))
        ]

    complete : is_running r a ≡ true → (b : ℕ) → Connected r a b → marks n b ≡ true
    complete run b p =
        elim (progress run n) [
          | inl q ↦ later q.0 n b q.1 (within q.0 q.2 p (later 0 q.0 a zero-le (marked run)))
          | inr h ↦ absurd (omega (arith, count_le n (marks n)))
        ]

    -- the test decides the definition
    pub decides : (b : ℕ) → (connected r a b ≡ true) ↔ Connected r a b
    unfolding connected
    decides b = (
      (λ t. sound (and_left (is_running r a) (marks n b) t) n b (and_right (is_running r a) (marks n b) t)),
      (λ p. and_in (starts r p) (complete (starts r p) b p)),
    )
