-- Enough fair rounds from a clean point leave the ring covered, or fewer lacked: where no fewer are, leafsets were the same at every point, the ring of the
-- fifth round is quiescent, and so covered. By induction on how many are lacked it becomes covered.
use mathlib.Core.Path.{◌≡◌, refl, sym, ap, ◌∙◌, subst}
use mathlib.Core.Logic.{◌⊎◌, inl, inr}
use Prim.Native.Nat.{ℕ, zero, suc, ◌+◌, ◌*◌, ◌≤◌, ◌<◌, zero-le}
use native.Mathlib.Nat.{le_refl, not-suc-le-zero, mul-suc, suc-mul}
use native.Mathlib.Omega.{arith}
use native.Mathlib.Decide.{ℕ_discrete, dec_lt}
use mathlib.Core.Bool.{true, not, ◌&&◌}
use mathlib.Core.List.{List}
use lib.ListN.{length}
use Rattle.std.specs.Prelude.{if◌then◌else◌}
use Rattle.model.specs.Sets.{Set, with, count}
use Rattle.model.specs.Leafset.{Table, size, leafset}
use Rattle.model.specs.Ring.{Ring, is_running, holds}
use Rattle.model.specs.ConnectivityPreserved.{Harmless, Reached, read_at}
use Rattle.model.proofs.Laws.{clash, is_false, if_law, decide, count_le}
use Rattle.model.proofs.Choices.{leafset_within}
use Rattle.settle_leafsets.specs.Covered.{Covered, lacks, lacking, Even}
use Rattle.settle_leafsets.specs.Quiescent.{Quiescent}
use Rattle.settle_leafsets.proofs.Quiescent.{quiescent_covers}
use Rattle.settle_leafsets.proofs.Constant.{constant}
use Rattle.settle_kept.specs.Settled.{Secured, RoutesEndNearest, AcceptedIs}
use Rattle.settle_kept.specs.Improving.{Improved, Clean}
use Rattle.settle_kept.proofs.Secured.{covered_routes}
use Rattle.settle_kept.proofs.Closure.{well_at}
use Rattle.settle_kept.proofs.Improving.{improvement}
use Rattle.settle_rounds.specs.Rounds.{CleanCandidates, Rounds}
use Rattle.settle_rounds.specs.Windows.{Windows, ThroughLosses}
use Rattle.settle_rounds.specs.Progress.{sum_to, total_lacking, to_purge, to_rest, enough, Set-out, Progress}
use Rattle.settle_rounds.proofs.Fairly.{fair, round_of}
use Rattle.settle_rounds.proofs.Harmlessly.{sum_mono}
use Rattle.settle_rounds.proofs.Harmlessly as harmlessly
use Rattle.settle_rounds.proofs.Window.{Stretch}
use Rattle.settle_rounds.proofs.Points.{rises}
use Rattle.settle_rounds.proofs.Purging.{Same, same, purged}
use Rattle.settle_rounds.proofs.Inviting.{Steady}
use Rattle.settle_rounds.proofs.QuietRounds.{quiesces}
use Rattle.settle_rounds.proofs.Windows.{first_rounds, other_rounds, as_many_rounds, as_windows, Next, over_windows, since_windows}

le_cast : {a c d e : ℕ} → a ≡ c → d ≡ e → a ≤ d → c ≤ e
le_cast p q h = omega arith

-- ---- sums

-- where no term is greater and the sum is not less, all terms are equal
sum_same : (n : ℕ) (f g : ℕ → ℕ) → ((i : ℕ) → i < n → f i ≤ g i) → sum_to n g ≤ sum_to n f → (i : ℕ) → i < n → g i ≤ f i
unfolding sum_to
sum_same zero f g h e i l = absurd (not-suc-le-zero l)
sum_same (suc n) f g h e i l =
    let m = sum_mono n f g (λ j k. h j (omega arith)) in
    let here = h n (le_refl (suc n)) in
    elim (ℕ_discrete i n) [
      | yes q ↦ rw q (omega arith)
      | no d ↦ sum_same n f g (λ j k. h j (omega arith)) (omega arith) i (omega arith)
    ]

sum_low : (n c : ℕ) (f : ℕ → ℕ) → ((i : ℕ) → f i ≤ c) → sum_to n f ≤ n * c
unfolding sum_to
sum_low zero c f h = zero-le
sum_low (suc n) c f h = omega (arith, sum_low n c f h, h n, suc-mul n c)

pub total_low : (r : Ring) → total_lacking r ≤ size r.table * size r.table
unfolding total_lacking
total_low r =
    sum_low (size r.table) (size r.table) (λ x. if is_running r x then lacking r x else 0)
    (λ x. if_law (λ (k : ℕ). k ≤ size r.table) (is_running r x) (lacking r x) 0 (λ e. count_le (size r.table) (lacks r x)) (λ e. zero-le))

-- what is clean and covered is secured
pub clean_secured : (r : Ring) → Clean r → Covered r → Secured r
clean_secured r clean c =
    record {
      covered = c;
      truthful = λ m i. record {
        brings = λ e to fits. clean.senders_run m i e to;
        leaves = λ e to. is_false (leafset r.table m.receiver (is_running r) m.sender) (λ q.
            clash (leafset_within r.table m.receiver (is_running r) m.sender q) (clean.leavers_off m i e to));
      };
    }

-- ---- one stretch

module _ (start : List ℕ) (r : Ring) (reached : Reached start r) (words : List ℕ) where
  abbrev at : ℕ → Ring
  at i = read_at start words i

  improved : Improved start words
  improved = improvement start r reached words

  module _ (K p q : ℕ) (rs : Rounds start words (suc K) p q) (clean : Clean (at (rs.bound 0))) where
    abbrev b : ℕ → ℕ
    b = rs.bound

    up : (j k : ℕ) → j ≤ k → k ≤ suc K → b j ≤ b k
    up j k h l = rises at b (suc K) (fair start r reached words rs) j k h l

    inside : b (suc K) ≤ length words
    inside = (rs.rounds K (le_refl (suc K))).within

    harmless_at : (k : ℕ) → b 0 ≤ k → k < b (suc K) → AcceptedIs start words Harmless k
    harmless_at k f l ok = let s = round_of start r reached words b (suc K) k f l in ((rs.rounds s.0 s.1).lossless k s.2 s.3 ok).0

    module _ (i : ℕ) (f : b 0 ≤ i) (l : i ≤ b (suc K)) where
      same_at : Same at b (suc K) (fair start r reached words rs) clean (at i)
      same_at = same at b (suc K) (fair start r reached words rs) clean i f l

      table_at : (at i).table ≡ (at (b 0)).table
      table_at = same_at.table

      running_at : (x : ℕ) → is_running (at i) x ≡ is_running (at (b 0)) x
      running_at = same_at.running

      clean_at : Clean (at i)
      clean_at = same_at.still_clean

      abbrev t : Table
      t = (at (b 0)).table

      -- in the table and with the running nodes of the start
      lacking_is :
          (x : ℕ) → lacking (at i) x ≡ count (size t) (λ z. is_running (at (b 0)) z && not (holds (at i) x z) && leafset t x (with (holds (at i) x) z) z)
      lacking_is x =
          ap (λ (u : Table). count (size u) (λ z. is_running (at i) z && not (holds (at i) x z) && leafset u x (with (holds (at i) x) z) z)) table_at
          ∙ ap (λ (R : Set). count (size t) (λ z. R z && not (holds (at i) x z) && leafset t x (with (holds (at i) x) z) z)) (λ j z. running_at z j)

      total_is : total_lacking (at i) ≡ sum_to (size t) (λ x. if is_running (at (b 0)) x then lacking (at i) x else 0)
      unfolding total_lacking
      total_is =
          ap (λ (u : Table). sum_to (size u) (λ x. if is_running (at i) x then lacking (at i) x else 0)) table_at
          ∙ ap (λ (R : Set). sum_to (size t) (λ x. if R x then lacking (at i) x else 0)) (λ j x. running_at x j)

    -- lacking falls between any two points
    falls : (i j : ℕ) → b 0 ≤ i → i ≤ j → j ≤ b (suc K) → (x : ℕ) → is_running (at (b 0)) x ≡ true → lacking (at j) x ≤ lacking (at i) x
    falls i j f h l x on =
        let s = inside in
        improved.lacking_falls (b 0) clean i j f h (omega arith) (λ k g e. harmless_at k g (omega arith)) x (running_at i f (omega arith) x ∙ on)

    module _ (cands : CleanCandidates (at (b 0))) (unchanged : total_lacking (at (b 0)) ≤ total_lacking (at (b (suc K)))) where
      w : Stretch
      w = record { at = at; b = b; K = suc K; fair = fair start r reached words rs; clean = clean; cands = cands }

      bottom : b 0 ≤ b (suc K)
      bottom = up 0 (suc K) zero-le (le_refl (suc K))

      low : (x : ℕ) → is_running (at (b 0)) x ≡ true → x < size (at (b 0)).table
      low x on = ((well_at start r reached words (b 0)).node_well x).running_low on

      term : ℕ → ℕ → ℕ
      term i x = if is_running (at (b 0)) x then lacking (at i) x else 0

      term_is : (i x : ℕ) → is_running (at (b 0)) x ≡ true → term i x ≡ lacking (at i) x
      unfolding term
      term_is i x on = rw on refl

      term_falls : (x : ℕ) → term (b (suc K)) x ≤ term (b 0) x
      unfolding term
      term_falls x =
          decide (is_running (at (b 0)) x)
          (λ on. rw on (falls (b 0) (b (suc K)) (le_refl (b 0)) bottom (le_refl (b (suc K))) x on))
          (λ off. rw off zero-le)

      sums : sum_to (size (at (b 0)).table) (term (b 0)) ≤ sum_to (size (at (b 0)).table) (term (b (suc K)))
      unfolding term
      sums =
          subst (λ (k : ℕ). k ≤ sum_to (size (at (b 0)).table) (λ x. if is_running (at (b 0)) x then lacking (at (b (suc K))) x else 0))
          (total_is (b 0) (le_refl (b 0)) bottom)
          (subst (λ (k : ℕ). total_lacking (at (b 0)) ≤ k) (total_is (b (suc K)) bottom (le_refl (b (suc K)))) unchanged)

      -- so each lacks as many as before at every point
      as_many : (x : ℕ) → is_running (at (b 0)) x ≡ true → (i : ℕ) → b 0 ≤ i → i ≤ b (suc K) → lacking (at (b 0)) x ≤ lacking (at i) x
      as_many x on i f l =
          let e = sum_same (size (at (b 0)).table) (term (b (suc K))) (term (b 0)) (λ y h. term_falls y) sums x (low x on) in
          let g = falls i (b (suc K)) f l (le_refl (b (suc K))) x on in
          omega (arith, e, g, term_is (b 0) x on, term_is (b (suc K)) x on)

      steady : Steady w
      unfolding w
      steady i f l x on z =
          let s = inside in
          ap (λ (u : Table). leafset u x (holds (at i) x) z) (table_at i f l)
          ∙ constant (at (b 0)).table (well_at start r reached words (b 0)).table_well x (low x on) (is_running (at (b 0))) (holds (at (b 0)) x)
          (holds (at i) x)
          (improved.leafsets_improve (b 0) clean (b 0) i (le_refl (b 0)) f (omega arith) (λ k g e. harmless_at k g (omega arith)) x on).0
          (λ u e. sym (running_at i f l u) ∙ (clean_at i f l).holds_running x (running_at i f l x ∙ on) u e)
          low
          (le_cast (lacking_is (b 0) (le_refl (b 0)) bottom x) (lacking_is i f l x) (as_many x on i f l))
          z

      room : b 4 ≤ b (suc K) → size (at (b 0)).table * 6 + 4 ≤ suc K → size (at (b 4)).table * 6 + 4 ≤ suc K
      room h e = subst (λ (u : Table). size u * 6 + 4 ≤ suc K) (sym (table_at (b 4) (up 0 4 zero-le (omega arith)) h)) e

      quiet : Even (at (b 0)).table → size (at (b 0)).table * 6 + 4 ≤ suc K → Quiescent (at (b 4))
      unfolding w
      quiet even e =
          let top = up 4 (suc K) (omega arith) (le_refl (suc K)) in
          quiesces w steady (subst Even (sym (table_at (b 4) (up 0 4 zero-le (omega arith)) top)) even) (room top e)

    -- ---- a step

    -- what is covered stays so
    covered_stays : (j : ℕ) → j ≤ suc K → Covered (at (b j)) → Covered (at (b (suc K)))
    covered_stays j h =
        let f = up 0 j zero-le h in
        let l = up j (suc K) h (le_refl (suc K)) in
        harmlessly.covered_stays start r reached words (b j) (b (suc K)) l inside (λ k g e. harmless_at k (omega arith) e) (clean_at (b j) f l)

    module _ (o : ℕ) (out : Set-out start words o (b 0)) where
      -- a later point will do as well
      out_at : (j : ℕ) → j ≤ suc K → Set-out start words o (b j)
      out_at j h =
          let f = up 0 j zero-le h in
          let l = up j (suc K) h (le_refl (suc K)) in
          let s = inside in
          harmlessly.set_out_stays start r reached words (b 0) (b j) f (omega arith) (λ k g e. harmless_at k g (omega arith)) clean o out

      step :
          CleanCandidates (at (b 0)) → size (at (b 0)).table * 6 + 4 ≤ suc K
          → Covered (at (b (suc K))) ⊎ (total_lacking (at (b (suc K))) < total_lacking (at (b 0)))
      step cands e =
          elim (dec_lt (total_lacking (at (b (suc K)))) (total_lacking (at (b 0)))) [
            | yes h ↦ inr h
            | no h ↦
                (let four = out_at 4 (omega arith) in
                inl (covered_stays 4 (omega arith)
                (quiescent_covers (at (b 4)) (well_at start r reached words (b 4)) four.even four.clean.holds_running four.connected
                (quiet cands (omega arith) out.even e))))
          ]

  -- ---- lists

  -- at a later point
  set_out_list : (K p q o : ℕ) → 0 < K → Rounds start words K p q → Set-out start words o p
      → Set-out start words o q × ((at q).table ≡ (at p).table) × (total_lacking (at q) ≤ total_lacking (at p))
  set_out_list K p q o some rs out =
      let on = harmlessly.goes_on_lem start r reached words K p q some rs in
      let end = harmlessly.ends_in start r reached words K p q some rs in
      let harmless = harmlessly.rounds_harmless start r reached words K p q some rs in (
        harmlessly.set_out_stays start r reached words p q on end harmless out.clean o out,
        (harmlessly.since start r reached words p q on end harmless out.clean).table,
        harmlessly.total_falls start r reached words p q on end harmless out.clean,
      )

  purges_list : (p q : ℕ) → Clean (at p) → Rounds start words (to_purge (at p).table) p q → CleanCandidates (at q)
  purges_list p q clean rs =
      let e : size (at (rs.bound 0)).table ≡ size (at p).table = ap (λ (i : ℕ). size (at i).table) rs.first in
      subst (λ (i : ℕ). CleanCandidates (at i)) (ap rs.bound (omega arith) ∙ rs.last)
      (purged at rs.bound (to_purge (at p).table) (fair start r reached words rs) (subst (λ (i : ℕ). Clean (at i)) (sym rs.first) clean) (omega arith))

  module _ (p q : ℕ) (rs : Rounds start words (to_rest (at p).table) p q) where
    abbrev rounds_of : Rounds start words (suc (size (at p).table * 6 + 3)) p q
    rounds_of = as_many_rounds start words (to_rest (at p).table) (suc (size (at p).table * 6 + 3)) p q (omega arith) rs

    size_first : size (at (rs.bound 0)).table * 6 + 4 ≤ suc (size (at p).table * 6 + 3)
    size_first = let e : size (at (rs.bound 0)).table ≡ size (at p).table = ap (λ (i : ℕ). size (at i).table) rs.first in omega arith

    quiesces_list : Even (at p).table → Clean (at p) → CleanCandidates (at p) → total_lacking (at p) ≤ total_lacking (at q) → Quiescent (at (rs.bound 4))
    unfolding as_many_rounds
    quiesces_list even clean cands unchanged =
        quiet (size (at p).table * 6 + 3) p q rounds_of
        (subst (λ (i : ℕ). Clean (at i)) (sym rs.first) clean) (subst (λ (i : ℕ). CleanCandidates (at i)) (sym rs.first) cands)
        (le_cast (ap (λ (i : ℕ). total_lacking (at i)) (sym rs.first)) (ap (λ (i : ℕ). total_lacking (at i)) (sym rounds_of.last)) unchanged)
        (subst (λ (i : ℕ). Even (at i).table) (sym rs.first) even) size_first

    rests_list : (o : ℕ) → Set-out start words o p → CleanCandidates (at p) → Covered (at q) ⊎ (total_lacking (at q) < total_lacking (at p))
    unfolding as_many_rounds
    rests_list o out cands =
        let out-0 = subst (Set-out start words o) (sym rs.first) out in
        subst (λ (i : ℕ). Covered (at i) ⊎ (total_lacking (at i) < total_lacking (at p))) rounds_of.last
        (subst (λ (i : ℕ). Covered (at (rounds_of.bound (suc (size (at p).table * 6 + 3)))) ⊎
        (total_lacking (at (rounds_of.bound (suc (size (at p).table * 6 + 3)))) < total_lacking (at i))) rs.first
        (step (size (at p).table * 6 + 3) p q rounds_of out-0.clean o out-0 (subst (λ (i : ℕ). CleanCandidates (at i)) (sym rs.first) cands) size_first))

  -- first the candidates become clean
  progress_list :
      (o p q : ℕ) → Set-out start words o p → Rounds start words (enough (at p).table) p q → Covered (at q) ⊎ (total_lacking (at q) < total_lacking (at p))
  progress_list o p q out rs =
      let t : Table = (at p).table in
      let mid : ℕ = rs.bound (to_purge t) in
      let here = first_rounds start words (to_purge t) (to_rest t) p q rs in
      let rest = other_rounds start words (to_purge t) (to_rest t) p q rs in
      let next = set_out_list (to_purge t) p mid o (omega arith) here out in
      elim (rests_list mid q (subst (λ (u : Table). Rounds start words (to_rest u) mid q) (sym next.1) rest) o next.0
      (purges_list p mid out.clean here)) [
        | inl c ↦ inl c
        | inr l ↦ inr (omega (arith, next.2))
      ]

  -- ---- windows

  module _ (m o p : ℕ) (out : Set-out start words o p) where
    -- after k windows
    abbrev Included : ℕ → ℕ → Type 0
    Included k a = Covered (at a) ⊎ (total_lacking (at a) + k ≤ m)

    abbrev few_rounds : 0 < enough (at p).table
    few_rounds = omega arith

    one_window : (k a from to : ℕ) → Next start r reached words few_rounds p a from to → Included k a → Included (suc k) to
    one_window k a from to w included = go included
      where
        out_at : (i : ℕ) → p ≤ i → i ≤ to → Set-out start words o i
        out_at i f l =
            let inside = w.inside in
            harmlessly.set_out_stays start r reached words p i f (omega arith) (λ j g h. w.harmless j g (omega arith)) out.clean o out

        go : Included k a → Included (suc k) to
        go (inl c) =
            let f = w.since in
            let g = w.gap in
            let h = w.on in
            inl (harmlessly.covered_stays start r reached words a to (omega arith) w.inside (λ j i l. w.harmless j (omega arith) l)
            (out_at a f (omega arith)).clean c)
        go (inr l) =
            let f = w.since in
            let g = w.gap in
            let h = w.on in
            let inside = w.inside in
            let table : (at from).table ≡ (at p).table =
            (harmlessly.since start r reached words p from (omega arith) (omega arith) (λ j i e. w.harmless j i (omega arith)) out.clean).table in
            elim (progress_list o from to (out_at from (omega arith) h)
            (subst (λ (u : Table). Rounds start words (enough u) from to) (sym table) w.rounds)) [
              | inl c ↦ inl c
              | inr less ↦ inr (omega (
                arith,
                harmlessly.total_falls start r reached words a from g (omega arith) (λ j i e. w.harmless j (omega arith) (omega arith))
                    (out_at a f (omega arith)).clean,
              ))
            ]

    pub windows_include : (q : ℕ) → total_lacking (at p) ≤ m → Windows start words (enough (at p).table) (suc m) p q → Covered (at q)
    windows_include q h ws =
        elim (over_windows start r reached words few_rounds p Included one_window ws (inr (omega arith))) [ inl c ↦ c | inr l ↦ absurd (omega arith) ]

  includes_list : (m o p q : ℕ) → Set-out start words o p → total_lacking (at p) ≤ m → Rounds start words (enough (at p).table * suc m) p q → Covered (at q)
  includes_list m o p q out h rs = windows_include m o p out q h (as_windows start words (enough (at p).table) (suc m) p q rs)

  included_list : (o p q : ℕ) → Set-out start words o p → Rounds start words (enough (at p).table * suc (size (at p).table * size (at p).table)) p q
      → Covered (at q) × Secured (at q) × RoutesEndNearest (at q)
  included_list o p q out rs =
      let n : ℕ = size (at p).table in
      let E : ℕ = enough (at p).table in
      let c = includes_list (n * n) o p q out (total_low (at p)) rs in
      let next = set_out_list (E * suc (n * n)) p q o (omega (arith, mul-suc E (n * n))) rs out in
      let s = clean_secured (at q) next.0.clean c in
      (c, s, covered_routes (at q) (well_at start r reached words q) c)

pub progress : Progress
progress start r reached words =
    record {
      purges = purges_list start r reached words;
      quiesces = λ p q even clean cands rs unchanged. quiesces_list start r reached words p q rs even clean cands unchanged;
      progress = progress_list start r reached words;
      includes = includes_list start r reached words;
      included = included_list start r reached words;
    }

pub through_losses : ThroughLosses
through_losses start r reached words m o p q out h ws =
    let at : ℕ → Ring = read_at start words in
    let c = windows_include start r reached words m o p out q h ws in
    let s = clean_secured (at q) (since_windows start r reached words (omega arith) p ws out.clean).still_clean c in
    (c, s, covered_routes (at q) (well_at start r reached words q) c)
