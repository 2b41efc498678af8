-- Changes of an own record by value are changes of the own record that it stands for.
use mathlib.Core.Path.{◌≡◌, refl, sym, ap, ◌∙◌, fun_ext}
use mathlib.Core.List.{List}
use Prim.Native.Nat.{ℕ, ◌^◌, ◌≤◌, ◌<◌}
use native.Mathlib.Nat.{le_trans}
use native.Mathlib.Omega.{arith}
use native.Mathlib.Decide.{ℕ_discrete}
use lib.ListN.{length, get_or, set, length-set}
use lib.Seq.{get_or-set_same, get_or-set_other}
use Rattle.model.specs.Sets.{put, of_bits}
use Rattle.model.specs.Ring.{Own}
use Rattle.model.specs.Steps.{set_commit, set_spare}
use Rattle.model.specs.Structs.{own_of, stamp_at, spare_at}
use Rattle.model.specs.declared.node.NodeRecord.{NodeRecord}
use Rattle.model.specs.declared.values.Stamp.{Stamp}
use Rattle.model.specs.declared.values.NodeNumber.{NodeNumber}
use Rattle.model.proofs.Laws.{put_here, put_else, put_law}
use Rattle.sets.specs.Within.{Within}
use Rattle.records.specs.Effects.{OwnFits, Owns}

-- ---- a list with another element, as a function of the place

module _ {A : Type 0} (f : A → ℕ) (l : List A) (z : ℕ) (v d : A) (h : z < length l) where
  set_put : (λ (y : ℕ). f (get_or (set l z v) y d)) ≡ put (λ (y : ℕ). f (get_or l y d)) z (f v)
  set_put =
      fun_ext (λ y. elim (ℕ_discrete y z) [
        | yes e ↦
            ap f (ap (λ (k : ℕ). get_or (set l z v) k d) e ∙ get_or-set_same l z v d h)
            ∙ sym (ap (put (λ (k : ℕ). f (get_or l k d)) z (f v)) e ∙ put_here (λ (k : ℕ). f (get_or l k d)) z (f v))
        | no g ↦ ap f (get_or-set_other l z y v d g) ∙ sym (put_else (λ (k : ℕ). f (get_or l k d)) z (f v) y g)
      ])

  set_below : (m : ℕ) → f v < m → ((y : ℕ) → f (get_or l y d) < m) → (y : ℕ) → f (get_or (set l z v) y d) < m
  set_below m p q y =
      rw (ap (λ (g : ℕ → ℕ). g y) set_put) (put_law (λ (k : ℕ). k < m) (λ (k : ℕ). f (get_or l k d)) z (f v) y (λ e. p) (λ e. q y))

-- ---- the parts of a record, one after the other

module _ {n : ℕ} {q : NodeRecord} (fits : OwnFits n q) where
  pub wider : n ≤ 64 → OwnFits 64 q
  wider few = record {
    room = fits.room;
    held_within = λ y e. le_trans (fits.held_within y e) few;
    candidates_within = λ y e. le_trans (fits.candidates_within y e) few;
  }

  pub unchanged : Owns n q (own_of q)
  unchanged = record { own = refl; fits = fits }

  pub sets_changed : (held candidates : ℕ) → Within n held → Within n candidates
      → Owns n
      (record { held = held; candidates = candidates; spare = q.spare; commit = q.commit })
      (record { held = of_bits held; candidates = of_bits candidates; commit = stamp_at q; spare = spare_at q })
  sets_changed held candidates h c = record {
    own = refl;
    fits = record {
      room = record {
        commit_room = fits.room.commit_room;
        spare_room = fits.room.spare_room;
        commit_long = fits.room.commit_long;
        spare_long = fits.room.spare_long;
      };
      held_within = h;
      candidates_within = c;
    };
  }

  module _ (z : ℕ) (h : z < 64) where
    pub commit_changed : (time : Stamp) → time.0 < 2 ^ 24
        → Owns n (record { held = q.held; candidates = q.candidates; spare = q.spare; commit = set q.commit z time }) (set_commit z time.0 (own_of q))
    commit_changed time p =
        let l : z < length q.commit = omega (arith, fits.room.commit_long) in
        record {
          own = ap (λ (f : ℕ → ℕ). record { held = of_bits q.held; candidates = of_bits q.candidates; commit = f; spare = spare_at q })
              (set_put (λ (s : Stamp). s.0) q.commit z time (record { 0 = 0 }) l);
          fits = record {
            room = record {
              commit_room = set_below (λ (s : Stamp). s.0) q.commit z time (record { 0 = 0 }) l (2 ^ 24) p fits.room.commit_room;
              spare_room = fits.room.spare_room;
              commit_long = length-set q.commit z time ∙ fits.room.commit_long;
              spare_long = fits.room.spare_long;
            };
            held_within = fits.held_within;
            candidates_within = fits.candidates_within;
          };
        }

    pub spare_changed : (y : NodeNumber) → y.0 < 2 ^ 7
        → Owns n (record { held = q.held; candidates = q.candidates; spare = set q.spare z y; commit = q.commit }) (set_spare z y.0 (own_of q))
    spare_changed y p =
        let l : z < length q.spare = omega (arith, fits.room.spare_long) in
        record {
          own = ap (λ (f : ℕ → ℕ). record { held = of_bits q.held; candidates = of_bits q.candidates; commit = stamp_at q; spare = f })
              (set_put (λ (s : NodeNumber). s.0) q.spare z y (record { 0 = 64 }) l);
          fits = record {
            room = record {
              commit_room = fits.room.commit_room;
              spare_room = set_below (λ (s : NodeNumber). s.0) q.spare z y (record { 0 = 64 }) l (2 ^ 7) p fits.room.spare_room;
              commit_long = fits.room.commit_long;
              spare_long = length-set q.spare z y ∙ fits.room.spare_long;
            };
            held_within = fits.held_within;
            candidates_within = fits.candidates_within;
          };
        }

-- two changes, one after the other
pub then : {n : ℕ} {q r : NodeRecord} {o : Own} (step : Own → Own) → Owns n q o → Owns n r (step (own_of q)) → Owns n r (step o)
then step p e = record { own = e.own ∙ ap step p.own; fits = e.fits }
