-- The number of groups counts the classes of `Connected`: the first node of each is counted, and nothing else.
use mathlib.Core.Path.{◌≡◌, refl}
use mathlib.Core.Logic.{◌↔◌}
use Prim.Native.Nat.{ℕ, zero, suc, ◌<◌}
use native.Mathlib.Nat.{not-suc-le-zero, le_refl}
use native.Mathlib.Omega.{arith}
use native.Mathlib.Decide.{dec_lt}
use mathlib.Core.Bool.{true, false, not}
use Rattle.model.specs.Leafset.{size}
use Rattle.model.specs.Ring.{Ring, is_running}
use Rattle.model.specs.Connection.{Connected, itself, connected, has_lower, first, groups, CountsGroups}
use Rattle.model.proofs.Laws.{clash, and_left, and_right, and_in, not_in, not_out, decide, is_false, some_out, some_none, count_none, count_more}
use Rattle.model.proofs.Connection.{InTable, starts, turned, joined, decides}

module _ (r : Ring) where
  -- no lower node is connected to a first one
  pub first_alone : (a b : ℕ) → first r b ≡ true → a < b → connected r a b ≡ false
  first_alone a b t h = some_none b _ (not_out (has_lower r b) (and_right (is_running r b) (not (has_lower r b)) t)) a h

  first_runs : (b : ℕ) → first r b ≡ true → is_running r b ≡ true
  first_runs b t = and_left (is_running r b) (not (has_lower r b)) t

  module _ (low : InTable r) where
    -- x itself is first, or a lower node is connected to it, and so to the first of the group
    first_of : (k x : ℕ) → x < k → is_running r x ≡ true → (y : ℕ) × (first r y ≡ true) × Connected r x y
    first_of zero x h run = absurd (not-suc-le-zero h)
    first_of (suc k) x h run =
        decide (has_lower r x)
        (λ s.
        let p = some_out x _ s in
        let path = (decides r p.0 low x).0 p.2 in
        let q = first_of k p.0 (omega (arith, p.1)) (starts r path) in
        (q.0, q.1, joined r (turned r path) q.2))
        (λ s. (x, and_in run (not_in s), itself run))

    -- two first nodes that x is connected to are connected, and neither is lower
    not_lower : (x y z : ℕ) → first r z ≡ true → Connected r x y → Connected r x z → y < z → ⊥
    not_lower x y z t p q h = clash ((decides r y low z).1 (joined r (turned r p) q)) (first_alone y z t h)

    same_first : (x y z : ℕ) → first r y ≡ true → first r z ≡ true → Connected r x y → Connected r x z → y ≡ z
    same_first x y z s t p q =
        elim (dec_lt y z) [
          | yes h ↦ absurd (not_lower x y z t p q h)
          | no d ↦ elim (dec_lt z y) [ yes h ↦ absurd (not_lower x z y s q p h) | no e ↦ omega arith ]
        ]

    pub counts_groups : CountsGroups r (groups r)
    unfolding groups
    counts_groups =
        record {
          counted = first r;
          how_many = refl;
          in_table = λ y t. low y (first_runs y t);
          running = first_runs;
          to_one = λ x. first_of (suc x) x (le_refl (suc x));
          to_no_other = same_first;
        }

    -- no group exactly where nobody runs
    pub none_run : (groups r ≡ 0) ↔ ((x : ℕ) → is_running r x ≡ false)
    unfolding groups
    none_run = (
      (λ e x. is_false (is_running r x) (λ run.
          let p = first_of (suc x) x (le_refl (suc x)) run in
          let more = count_more (λ y. false) (first r) (size r.table) (λ y h t. clash t refl) p.0 (low p.0 (first_runs p.0 p.1)) refl p.1 in
          omega arith)),
      (λ f. count_none (size r.table) (first r) (λ y h. rw (f y))),
    )
