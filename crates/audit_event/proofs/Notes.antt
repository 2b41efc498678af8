-- The account after an event, and the listed events.
use mathlib.Core.Path.{◌≡◌, sym, subst}
use Prim.Native.Nat.{ℕ, ◌+◌}
use native.Mathlib.Omega.{arith}
use lib.Dec.{eqb}
use Rattle.model.specs.Ring.{Ring}
use Rattle.audit_account.specs.Points.{acknowledgements, late_leaves, is_point}
use Rattle.audit_account.specs.Accounts.{begun}
use Rattle.audit_account.specs.declared.Account.{Account}
use Rattle.audit_event.specs.Kept.{Few, Fresh}

pub point_is : (r : Ring) {a l : ℕ} → a ≡ acknowledgements r → l ≡ late_leaves r → eqb (a + l) 0 ≡ is_point r
unfolding is_point
point_is r e f = rw (e, f)

pub fresh_few : {a : Account} → Fresh a → Few a
fresh_few f =
    record {
      point = f.point;
      uncovered = f.uncovered;
      partings = omega (arith, f.partings);
      ons = omega (arith, f.ons);
      offs = omega (arith, f.offs);
      notices = omega (arith, f.notices);
    }

pub begun_few : {a b : Account} → b ≡ begun a → Few a → Few b
unfolding begun
begun_few {a} e few =
    subst Few (sym e)
    record {
      point = omega arith;
      uncovered = omega arith;
      partings = few.partings;
      ons = few.ons;
      offs = few.offs;
      notices = few.notices;
    }
