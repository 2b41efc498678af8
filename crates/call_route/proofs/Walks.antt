-- A walk: where the route stops, and where it goes on.
use mathlib.Core.Path.{◌≡◌, refl, sym, ap, ◌∙◌}
use mathlib.Core.Bool.{true, false}
use mathlib.Core.List.{List, [], ◌∷◌, ◌++◌}
use Prim.Native.Nat.{ℕ, suc, ◌+◌, ◌-◌, ◌≤◌, ◌<◌}
use native.Mathlib.Nat.{zero-add}
use native.Mathlib.Numerals.{add-one}
use native.Mathlib.Omega.{arith}
use lib.ListN.{length, set, drop, length-set}
use lib.Seq.{sets, sets-eq}
use Rattle.model.specs.Leafset.{size}
use Rattle.model.specs.Ring.{Ring}
use Rattle.model.specs.Words.{decode}
use Rattle.model.specs.Route.{goes_on, next_of, route, nearer_than}
use Rattle.model.proofs.Routes.{last_more, goes_on_lem, next_nearer, route_from, route_some}
use Rattle.call_route.specs.Walks.{Ready, Walked}

module _ (ρ : Ring) (key x : ℕ) where
  pub ends : (place : ℕ) (list : List ℕ) → goes_on ρ key x ≡ false → Walked list place (route ρ key x) x place (set list place x)
  ends place list e =
      let path : route ρ key x ≡ x ∷ [] = route_from ρ key x ∙ rw e in
      rw path (record { end = refl; last = refl; written = refl })

  module _ {y : ℕ} (goes : goes_on ρ key x ≡ true) (is : y ≡ next_of ρ key x) where
    more_path : route ρ key x ≡ x ∷ route ρ key y
    more_path = route_from ρ key x ∙ rw (goes, ← is)

    pub next_low : y < size ρ.table
    next_low = rw is (goes_on_lem ρ key x goes).below

    pub fewer : nearer_than ρ key y < nearer_than ρ key x
    fewer = rw is (next_nearer ρ key x goes)

    pub next_room : (place : ℕ) (list : List ℕ) → place + length (route ρ key x) ≤ length list
        → place + 1 + length (route ρ key y) ≤ length (set list place x)
    next_room place list h =
        let l : length (route ρ key x) ≡ suc (length (route ρ key y)) = ap length more_path in
        omega (arith, length-set list place x)

    pub goes_further : {place : ℕ} {list : List ℕ} {node last : ℕ} {list' : List ℕ}
        → Walked (set list place x) (place + 1) (route ρ key y) node last list' → Walked list place (route ρ key x) node last list'
    goes_further {place} {list} w =
        rw more_path
        (record {
          end = w.end ∙ sym (last_more x (route ρ key y) (route_some ρ key y));
          last = w.last ∙ omega arith;
          written = w.written ∙ ap (λ (k : ℕ). sets (set list place x) k (route ρ key y)) (add-one place);
        })

-- a walk from the list's first place on
module _ {list path list' : List ℕ} {node last : ℕ} (room : length path ≤ length list) (w : Walked list 0 path node last list') where
  pub hops_are : last ≡ length path - 1
  hops_are = let e = w.last in omega arith

  pub list_is : list' ≡ path ++ drop (length path) list
  list_is = w.written ∙ sets-eq path list 0 (omega arith) ∙ ap (λ (k : ℕ). path ++ drop k list) (zero-add (length path))

-- a node of the table has a key among those that are lent
pub in_keys : {ws keys : List ℕ} {running y : ℕ} → Ready ws keys running → y < size (decode ws).table → y < length keys
unfolding decode
in_keys ready h = rw ready.keys_are h
