-- Rounds in parts, and windows of them: what each window takes on by one, so many windows take on by as many.
use mathlib.Core.Path.{◌≡◌, refl, sym, ap, ◌∙◌, subst}
use Prim.Native.Nat.{ℕ, zero, suc, ◌+◌, ◌*◌, ◌≤◌, ◌<◌}
use native.Mathlib.Nat.{le_refl, add-suc, add-zero, mul-suc}
use native.Mathlib.Omega.{arith}
use native.Mathlib.Decide.{dec_lt}
use mathlib.Core.List.{List}
use lib.ListN.{length}
use Rattle.model.specs.Ring.{Ring}
use Rattle.model.specs.ConnectivityPreserved.{Harmless, Reached, read_at}
use Rattle.settle_kept.specs.Settled.{AcceptedIs}
use Rattle.settle_kept.specs.Improving.{Clean}
use Rattle.settle_rounds.specs.Rounds.{Round, Rounds}
use Rattle.settle_rounds.specs.Windows.{Windows, none, more}
use Rattle.settle_rounds.proofs.Harmlessly.{Since, since, goes_on_lem, ends_in, rounds_harmless}

-- ---- rounds

module _ (start words : List ℕ) where
  -- the first rounds, and the others
  unfoldable pub first_rounds : (E L p q : ℕ) (rs : Rounds start words (E + L) p q) → Rounds start words E p (rs.bound E)
  first_rounds E L p q rs = record { bound = rs.bound; first = rs.first; last = refl; rounds = λ i h. rs.rounds i (omega arith) }

  unfoldable pub other_rounds : (E L p q : ℕ) (rs : Rounds start words (E + L) p q) → Rounds start words L (rs.bound E) q
  other_rounds E L p q rs = record {
    bound = λ j. rs.bound (E + j);
    first = ap rs.bound (add-zero E);
    last = rs.last;
    rounds = λ i h. subst (λ (k : ℕ). Round start words (rs.bound (E + i)) (rs.bound k)) (sym (add-suc E i)) (rs.rounds (E + i) (omega arith));
  }

  unfoldable pub as_many_rounds : (K L p q : ℕ) → K ≡ L → Rounds start words K p q → Rounds start words L p q
  as_many_rounds K L p q e rs =
      record { bound = rs.bound; first = rs.first; last = ap rs.bound (sym e) ∙ rs.last; rounds = λ i h. rs.rounds i (omega arith) }

  -- rounds are windows with nothing between them
  pub as_windows : (n k p q : ℕ) → Rounds start words (n * k) p q → Windows start words n k p q
  as_windows n zero p q rs =
      let e : n * 0 ≡ 0 = omega arith in
      subst (λ (i : ℕ). Windows start words n 0 p i) (sym rs.first ∙ ap rs.bound (sym e) ∙ rs.last) none
  as_windows n (suc k) p q rs =
      let split : Rounds start words (n + n * k) p q = as_many_rounds (n * suc k) (n + n * k) p q (omega (arith, mul-suc n k)) rs in
      more p (split.bound n) (le_refl p) (λ i f l. absurd (omega arith)) (first_rounds n (n * k) p q split)
      (as_windows n k (split.bound n) q (other_rounds n (n * k) p q split))

  -- whatever is harmless may come before the first
  pub after_gap :
      {n k q : ℕ} (p a : ℕ) → p ≤ a → ((i : ℕ) → p ≤ i → i < a → AcceptedIs start words Harmless i) → Windows start words n (suc k) a q
      → Windows start words n (suc k) p q
  after_gap p a h fine (more from to gap harmless rs rest) =
      more {p = p} from to (omega arith) (λ i f l. elim (dec_lt i a) [ yes b ↦ fine i f b | no b ↦ harmless i (omega arith) l ]) rs rest

-- ---- windows

module _ (start : List ℕ) (r : Ring) (reached : Reached start r) (words : List ℕ) where
  abbrev Fine : ℕ → ℕ → Type 0
  Fine p q = (i : ℕ) → p ≤ i → i < q → AcceptedIs start words Harmless i

  module _ {n : ℕ} (some : 0 < n) (p : ℕ) where
    -- the next window, between two points; it comes after point a, and a after p
    pub record Next (a from to : ℕ) : Type 0 where
      pub since : p ≤ a
      pub gap : a ≤ from
      pub on : from ≤ to
      pub inside : to ≤ length words
      pub harmless : Fine p to
      pub rounds : Rounds start words n from to

    module _ (P : ℕ → ℕ → Type 0) (one : (k a from to : ℕ) → Next a from to → P k a → P (suc k) to) where
      walk : {k a q : ℕ} → Windows start words n k a q → (j l : ℕ) → j + k ≡ l → p ≤ a → Fine p a → P j a → P l q
      walk {a = a} none j l e f fine h = let is : j ≡ l = omega arith in subst (λ (i : ℕ). P i a) is h
      walk {a = a} (more from to gap harmless rs rest) j l e f fine h =
          let w : Next a from to = record {
            since = f;
            gap = gap;
            on = goes_on_lem start r reached words n from to some rs;
            inside = ends_in start r reached words n from to some rs;
            harmless = λ i g m. elim (dec_lt i a) [
              | yes b ↦ fine i g b
              | no b ↦ elim (dec_lt i from) [
                | yes c ↦ harmless i (omega arith) c
                | no c ↦ rounds_harmless start r reached words n from to some rs i (omega arith) m
              ]
            ];
            rounds = rs;
          } in
          walk rest (suc j) l (omega arith) (omega (arith, w.on)) w.harmless (one j a from to w h)

      pub over_windows : {k q : ℕ} → Windows start words n k p q → P 0 p → P k q
      over_windows {k = k} ws h = walk ws 0 k (omega arith) (le_refl p) (λ i f l. absurd (omega arith)) h

    -- all that they are
    pub record Span (k q : ℕ) : Type 0 where
      pub on : p ≤ q
      pub inside : 0 < k → q ≤ length words
      pub harmless : Fine p q

    pub span : {k q : ℕ} → Windows start words n k p q → Span k q
    span ws =
        over_windows Span
        (λ k a from to w s. record { on = omega (arith, w.since, w.gap, w.on); inside = λ h. w.inside; harmless = w.harmless })
        ws (record { on = le_refl p; inside = λ h. absurd (omega arith); harmless = λ i f l. absurd (omega arith) })

    pub since_windows : {k q : ℕ} → Windows start words n (suc k) p q → Clean (read_at start words p) → Since start r reached words p (read_at start words q)
    since_windows {q = q} ws clean = let s = span ws in since start r reached words p q s.on (s.inside (omega arith)) s.harmless clean
