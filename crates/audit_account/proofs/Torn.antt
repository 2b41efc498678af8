-- The test `parts` finds exactly the events that part two nodes.
use mathlib.Core.Path.{◌≡◌}
use mathlib.Core.Bool.{true, false, not, ◌&&◌}
use Prim.Native.Nat.{ℕ}
use Rattle.model.specs.Sets.{Set, some}
use Rattle.model.specs.Leafset.{size}
use Rattle.model.specs.Ring.{Ring, is_running}
use Rattle.model.specs.Connection.{Connected, connected}
use Rattle.model.proofs.Laws.{clash, and_left, and_right, and_in, not_in, not_out, decide, some_in, some_out}
use Rattle.model.proofs.Connection.{InTable, starts, turned, decides}
use Rattle.audit_account.specs.Partings.{torn, parts}

-- from r to r' the nodes a and b are parted: connected before, both running after, and not connected any more
pub record Parted (r r' : Ring) (a b : ℕ) : Type 0 where
  pub before : Connected r a b
  pub first_runs : is_running r' a ≡ true
  pub second_runs : is_running r' b ≡ true
  pub no_more : ¬ Connected r' a b

module _ (r r' : Ring) (low : InTable r) (low' : InTable r') where
  abbrev n : ℕ
  n = size r.table

  abbrev torn_from : ℕ → Set
  torn_from a b = connected r a b && is_running r' b && not (connected r' a b)

  torn_out : (a : ℕ) → torn r r' a ≡ true → (is_running r' a ≡ true) × (some n (torn_from a) ≡ true)
  unfolding torn
  torn_out a e = (and_left (is_running r' a) (some n (torn_from a)) e, and_right (is_running r' a) (some n (torn_from a)) e)

  torn_in : (a : ℕ) → is_running r' a ≡ true → some n (torn_from a) ≡ true → torn r r' a ≡ true
  unfolding torn
  torn_in a runs e = and_in runs e

  from_out : (a b : ℕ) → is_running r' a ≡ true → torn_from a b ≡ true → Parted r r' a b
  from_out a b runs e =
      let both = and_left (connected r a b && is_running r' b) (not (connected r' a b)) e in
      record {
        before = (decides r a low b).0 (and_left (connected r a b) (is_running r' b) both);
        first_runs = runs;
        second_runs = and_right (connected r a b) (is_running r' b) both;
        no_more = λ p.
            clash ((decides r' a low' b).1 p)
            (not_out (connected r' a b) (and_right (connected r a b && is_running r' b) (not (connected r' a b)) e));
      }

  -- where it says so, two nodes are parted
  pub parts_true : parts r r' ≡ true → (a : ℕ) × (b : ℕ) × Parted r r' a b
  unfolding parts
  parts_true e =
      let p = some_out n (torn r r') e in
      let t = torn_out p.0 p.2 in
      let q = some_out n (torn_from p.0) t.1 in
      (p.0, q.0, from_out p.0 q.0 t.0 q.2)

  -- where it does not, any two nodes connected before and both running after are connected after
  pub parts_false :
      parts r r' ≡ false → (a b : ℕ) → Connected r a b → is_running r' a ≡ true → is_running r' b ≡ true
      → Connected r' a b
  unfolding parts
  parts_false e a b path runs-a runs-b =
      decide (connected r' a b) (decides r' a low' b).0
      (λ d.
      let b-torn : torn_from a b ≡ true = and_in (and_in ((decides r a low b).1 path) runs-b) (not_in d) in
      clash
      (some_in n (torn r r') a (low a (starts r path))
      (torn_in a runs-a (some_in n (torn_from a) b (low b (starts r (turned r path))) b-torn)))
      e)
