use mathlib.Core.Path.{◌≡◌, refl, ap}
use Prim.Native.Nat.{ℕ, zero, suc}
use native.Mathlib.Omega.{arith}
use lib.ListN.{get_or, replicate}
use Rattle.model.specs.Sets.{none_node}
use Rattle.model.specs.declared.values.NodeNumber.{NodeNumber}
use Rattle.model.specs.declared.values.Stamp.{Stamp}
use Rattle.sets.proofs.Bits.{within_none}
use Rattle.records.proofs.own.empty.Statement.{statement}
use Rattle.records.proofs.own.empty.Tie as tie

same : {A : Type 0} (n k : ℕ) (d : A) → get_or (replicate n d) k d ≡ d
same zero k d = refl
same (suc n) zero d = refl
same (suc n) (suc k) d = same n k d

returns : tie.Need-returns
returns c = λ n. record {
  room = record {
    commit_room = λ z. let e = ap (λ (s : Stamp). s.0) (same 64 z (record { 0 = 0 })) in omega arith;
    spare_room = λ z. let e = ap (λ (y : NodeNumber). y.0) (same 64 z (record { 0 = none_node })) in omega arith;
    commit_long = refl;
    spare_long = refl;
  };
  held_within = within_none n;
  candidates_within = within_none n;
}

pub empty_spec : {M : Type 1} → statement M
empty_spec = tie.close (tie.spec returns)
