-- Between two points of a list where what is accepted is harmless a clean ring stays clean, its table and running nodes stay, and no more are lacked;
-- rounds are harmless. By `improvement` and `connection-kept-later`.
use mathlib.Core.Path.{◌≡◌, refl, sym, ap, ◌∙◌, subst}
use Prim.Native.Nat.{ℕ, zero, suc, ◌-◌, ◌≤◌, ◌<◌, zero-le}
use native.Mathlib.Nat.{le_refl}
use native.Mathlib.Omega.{arith}
use native.Mathlib.Decide.{dec_lt}
use mathlib.Core.Bool.{true}
use mathlib.Core.List.{List}
use lib.ListN.{length}
use Rattle.std.specs.Prelude.{if◌then◌else◌}
use Rattle.model.specs.Sets.{Set}
use Rattle.model.specs.Leafset.{Table, size}
use Rattle.model.specs.Ring.{Ring, is_running}
use Rattle.model.specs.ConnectivityPreserved.{Harmless, Reached, read_at}
use Rattle.model.proofs.Laws.{decide}
use Rattle.model.proofs.Cases.{after_table}
use Rattle.model.proofs.ConnectivityPreserved.{connectivity_preserved}
use Rattle.settle_leafsets.specs.Covered.{Covered, lacking, Even}
use Rattle.settle_leafsets.proofs.Lacking.{lacking_decides}
use Rattle.settle_kept.specs.Settled.{AcceptedIs}
use Rattle.settle_kept.specs.Improving.{Clean}
use Rattle.settle_kept.proofs.Keeping.{after_running, harmless_switch}
use Rattle.settle_kept.proofs.Clean.{clean_after}
use Rattle.settle_kept.proofs.Closure.{well_at, along}
use Rattle.settle_kept.proofs.Improving.{improvement}
use Rattle.settle_rounds.specs.Rounds.{Rounds}
use Rattle.settle_rounds.specs.Progress.{sum_to, total_lacking, Set-out}
use Rattle.settle_rounds.proofs.Fairly.{round_of}

pub sum_mono : (n : ℕ) (f g : ℕ → ℕ) → ((i : ℕ) → i < n → f i ≤ g i) → sum_to n f ≤ sum_to n g
unfolding sum_to
sum_mono zero f g h = zero-le
sum_mono (suc n) f g h = omega (arith, sum_mono n f g (λ i l. h i (omega arith)), h n (le_refl (suc n)))

module _ (start : List ℕ) (r : Ring) (reached : Reached start r) (words : List ℕ) where
  abbrev at : ℕ → Ring
  at i = read_at start words i

  -- ---- between two points, where what is accepted is harmless

  pub record Since (p : ℕ) (s : Ring) : Type 0 where
    pub still_clean : Clean s
    pub table : s.table ≡ (at p).table
    pub running : (x : ℕ) → is_running s x ≡ is_running (at p) x

  module _ (p q : ℕ) (on : p ≤ q) (inside : q ≤ length words) (harmless : (i : ℕ) → p ≤ i → i < q → AcceptedIs start words Harmless i)
      (clean : Clean (at p)) where
    pub since : Since p (at q)
    since =
        along start r reached words Harmless (Since p)
        (λ s well c e h. record {
          still_clean = clean_after s c.still_clean e h;
          table = after_table s e ∙ c.table;
          running = λ x. after_running s e (harmless_switch s e h) x ∙ c.running x;
        })
        p (record { still_clean = clean; table = refl; running = λ x. refl }) q on inside harmless

    pub falls : (x : ℕ) → is_running (at p) x ≡ true → lacking (at q) x ≤ lacking (at p) x
    falls x runs = (improvement start r reached words).lacking_falls p clean p q (le_refl p) on inside harmless x runs

    pub total_falls : total_lacking (at q) ≤ total_lacking (at p)
    unfolding total_lacking
    total_falls =
        let same : total_lacking (at q) ≡ sum_to (size (at p).table) (λ x. if is_running (at p) x then lacking (at q) x else 0) =
        ap (λ (t : Table). sum_to (size t) (λ x. if is_running (at q) x then lacking (at q) x else 0)) since.table
        ∙ ap (λ (R : Set). sum_to (size (at p).table) (λ x. if R x then lacking (at q) x else 0)) (λ j x. since.running x j) in
        let less =
        sum_mono (size (at p).table) (λ x. if is_running (at p) x then lacking (at q) x else 0) (λ x. if is_running (at p) x then lacking (at p) x else 0)
        (λ x h. decide (is_running (at p) x) (λ runs. rw runs (falls x runs)) (λ off. rw off zero-le)) in
        subst (λ (k : ℕ). k ≤ total_lacking (at p)) (sym same) less

    pub covered_stays : Covered (at p) → Covered (at q)
    covered_stays c =
        (lacking_decides (at q) (well_at start r reached words q) since.still_clean.holds_running).0
        (λ x runs.
        let before = sym (since.running x) ∙ runs in
        let zero-p : lacking (at p) x ≡ 0 = (lacking_decides (at p) (well_at start r reached words p) clean.holds_running).1 c x before in
        let less = falls x before in
        omega arith)

    pub set_out_stays : (o : ℕ) → Set-out start words o p → Set-out start words o q
    set_out_stays o out =
        let fine : (k : ℕ) → o ≤ k → k < q → AcceptedIs start words Harmless k =
        λ k g e. elim (dec_lt k p) [ yes h ↦ out.harmless k g h | no h ↦ harmless k (omega arith) e ] in
        record {
          before = omega (arith, out.before);
          none = out.none;
          off = out.off;
          harmless = fine;
          even = subst Even (sym since.table) out.even;
          clean = since.still_clean;
          connected = λ x y ox oy.
              (connectivity_preserved start r reached words).connection_kept_later o out.none out.off p q out.before on inside fine x y
              (out.connected x y (sym (since.running x) ∙ ox) (sym (since.running y) ∙ oy));
        }

  -- ---- rounds

  module _ (K p q : ℕ) (some : 0 < K) (rs : Rounds start words K p q) where
    up : (j : ℕ) → j ≤ K → rs.bound 0 ≤ rs.bound j
    up zero h = le_refl (rs.bound 0)
    up (suc j) h = omega (arith, up j (omega arith), (rs.rounds j h).ordered)

    pub starts_in : p ≤ length words
    starts_in = omega (arith, rs.first, (rs.rounds 0 some).ordered, (rs.rounds 0 some).within)

    pub goes_on_lem : p ≤ q
    goes_on_lem = omega (arith, rs.first, rs.last, up K (le_refl K))

    pub ends_in : q ≤ length words
    ends_in =
        let e : suc (K - 1) ≡ K = omega arith in
        subst (λ (i : ℕ). i ≤ length words) (ap rs.bound e ∙ rs.last) (rs.rounds (K - 1) (omega arith)).within

    pub rounds_harmless : (i : ℕ) → p ≤ i → i < q → AcceptedIs start words Harmless i
    rounds_harmless i f l ok =
        let a = rs.first in
        let c = rs.last in
        let s = round_of start r reached words rs.bound K i (omega arith) (omega arith) in
        ((rs.rounds s.0 s.1).lossless i s.2 s.3 ok).0
