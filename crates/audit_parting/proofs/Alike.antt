-- The test for connection puts nodes into groups: what is connected to one node of a group is connected to each.
use mathlib.Core.Path.{◌≡◌}
use mathlib.Core.Bool.{true}
use Prim.Native.Nat.{ℕ, ◌<◌}
use Rattle.model.specs.Leafset.{size}
use Rattle.model.specs.Ring.{Ring, is_running}
use Rattle.model.specs.Connection.{Connected, itself, connected}
use Rattle.model.proofs.Laws.{same_test}
use Rattle.model.proofs.Connection.{InTable, starts, turned, joined, decides}

module _ (r : Ring) (low : InTable r) where
  pub with_itself : {x : ℕ} → is_running r x ≡ true → connected r x x ≡ true
  with_itself {x} run = (decides r x low x).1 (itself run)

  module _ (x y : ℕ) (t : connected r x y ≡ true) where
    chain : Connected r x y
    chain = (decides r x low y).0 t

    pub from_runs : is_running r x ≡ true
    from_runs = starts r chain

    pub to_runs : is_running r y ≡ true
    to_runs = starts r (turned r chain)

    pub to_low : y < size r.table
    to_low = low y to_runs

    pub way_back : connected r y x ≡ true
    way_back = (decides r y low x).1 (turned r chain)

    pub alike : (b : ℕ) → connected r x b ≡ connected r y b
    alike b =
        same_test (connected r x b) (connected r y b)
        (λ s. (decides r y low b).1 (joined r (turned r chain) ((decides r x low b).0 s)))
        (λ s. (decides r x low b).1 (joined r chain ((decides r y low b).0 s)))
