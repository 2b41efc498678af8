-- What the loops and choices of a node come to: members, the lowest of a set, leafsets, spares and successors.
use mathlib.Core.Path.{◌≡◌, refl, sym, ap, ◌∙◌}
use Prim.Native.Nat.{ℕ, zero, suc, ◌≤◌, ◌<◌}
use native.Mathlib.Nat.{le_refl, not-suc-le-zero}
use native.Mathlib.Omega.{arith}
use native.Mathlib.Decide.{ℕ_discrete, dec_lt}
use mathlib.Core.Bool.{true, false, not, ◌&&◌}
use mathlib.Core.List.{List, [], ◌∷◌}
use lib.ListN.{length, get_or, length-append}
use lib.Dec.{ltb, eqb}
use borrow.Author.Tests.{eq-eqb, eqb-true, eqb-false, ltb-false, le-ltb}
use Rattle.std.specs.Prelude.{if◌then◌else◌}
use Rattle.model.specs.Key.{clockwise}
use Rattle.model.specs.Sets.{Set, without, members, lowest, some}
use Rattle.model.specs.Leafset.{Table, size, key, nearer, first_met, leafset, nearest, closest, successor}
use Rattle.model.proofs.Laws.{clash, and_left, and_right, and_in, or_case, not_out, decide, is_false, if_law, some_none, count_none, count_some}
use Rattle.model.specs.WellFormed.{Spare, none, spare, Each, nil, cons}
use Rattle.model.proofs.Lists.{each_append, each_at}

pub record Member (n : ℕ) (S : Set) (y : ℕ) : Type 0 where
  pub below : y < n
  pub within : S y ≡ true

widen : {n : ℕ} {S : Set} {y : ℕ} → Member n S y → Member (suc n) S y
widen m = record { below = let h = m.below in omega arith; within = m.within }

narrow : {n : ℕ} {S : Set} {y : ℕ} → Member (suc n) S y → (y ≡ n → ⊥) → Member n S y
narrow m d = record { below = let h = m.below in omega arith; within = m.within }

more : {n : ℕ} {S : Set} {l : List ℕ} → Each (Member n S) l → Each (Member (suc n) S) l
more nil = nil
more (cons m e) = cons (widen m) (more e)

pub members_are : (n : ℕ) (S : Set) → Each (Member n S) (members n S)
unfolding members
members_are zero S = nil
members_are (suc n) S =
    each_append (more (members_are n S))
    (if_law (Each (Member (suc n) S)) (S n) (n ∷ []) [] (λ e. cons (record { below = le_refl (suc n); within = e }) nil) (λ e. nil))

-- the lowest member is a member, or 64
pub lowest_law : (P : ℕ → Type 0) (n : ℕ) (S : Set) → P 64 → ((y : ℕ) → Member n S y → P y) → P (lowest n S)
lowest_law P n S p q = go (members n S) (members_are n S)
  where
    go : (l : List ℕ) → Each (Member n S) l → P (get_or l 0 64)
    go [] e = p
    go (y ∷ l) (cons m e) = q y m

pub some_members : (n : ℕ) (S : Set) (y : ℕ) → Member n S y → 0 < length (members n S)
unfolding members
some_members zero S y m = absurd (not-suc-le-zero m.below)
some_members (suc n) S y m =
    let e = length-append (members n S) (if S n then n ∷ [] else []) in
    elim (ℕ_discrete y n) [
      | yes i ↦ let l : length (if S n then n ∷ [] else []) ≡ 1 = rw (ap S (sym i) ∙ m.within) in omega arith
      | no d ↦ let l = some_members n S y (narrow m d) in omega arith
    ]

-- where there is a member, the lowest is one
pub lowest_in : (n : ℕ) (S : Set) (y : ℕ) → Member n S y → Member n S (lowest n S)
lowest_in n S y m = each_at (members_are n S) 64 0 (some_members n S y m)

-- a member with the least value of f
pub record Least (n : ℕ) (S : Set) (f : ℕ → ℕ) : Type 0 where
  pub best : ℕ
  pub member : Member n S best
  pub no_less : (z : ℕ) → Member n S z → f best ≤ f z

least_both : (n : ℕ) (S : Set) (f : ℕ → ℕ) → S n ≡ true → Least n S f → Least (suc n) S f
least_both n S f q l =
    elim (dec_lt (f n) (f l.best)) [
      | yes h ↦ record {
        best = n;
        member = record { below = le_refl (suc n); within = q };
        no_less = λ z m. elim (ℕ_discrete z n) [
          | yes i ↦ rw i (le_refl (f n))
          | no d ↦ let k = l.no_less z (narrow m d) in omega arith
        ];
      }
      | no g ↦ record {
        best = l.best;
        member = widen l.member;
        no_less = λ z m. elim (ℕ_discrete z n) [
          | yes i ↦ rw i (omega arith)
          | no d ↦ l.no_less z (narrow m d)
        ];
      }
    ]

least_keep : (n : ℕ) (S : Set) (f : ℕ → ℕ) → S n ≡ false → Least n S f → Least (suc n) S f
least_keep n S f q l =
    record {
      best = l.best;
      member = widen l.member;
      no_less = λ z m. l.no_less z (narrow m (λ i. clash m.within (ap S i ∙ q)));
    }

least_alone : (n : ℕ) (S : Set) (f : ℕ → ℕ) → some n S ≡ false → S n ≡ true → Least (suc n) S f
least_alone n S f p q =
    record {
      best = n;
      member = record { below = le_refl (suc n); within = q };
      no_less = λ z m. elim (ℕ_discrete z n) [
        | yes i ↦ rw i (le_refl (f n))
        | no d ↦ let k = narrow m d in clash k.within (some_none n S p z k.below)
      ];
    }

-- of the members of a set that has one, one has the least value of f
pub least : (n : ℕ) (S : Set) (f : ℕ → ℕ) → some n S ≡ true → Least n S f
unfolding some
least zero S f e = clash e refl
least (suc n) S f e =
    decide (some n S)
    (λ p. decide (S n) (λ q. least_both n S f q (least n S f p)) (λ q. least_keep n S f q (least n S f p)))
    (λ p. or_case (some n S) (S n) e (λ k. clash k p) (λ q. least_alone n S f p q))

module _ (t : Table) where
  -- a leafset is a part of the set, without the node itself
  pub leafset_within : (x : ℕ) (S : Set) (y : ℕ) → leafset t x S y ≡ true → S y ≡ true
  unfolding leafset
  leafset_within x S y e = and_left (S y) (not (eqb y x)) (and_left (without S x y) _ e)

  pub leafset_other : (x : ℕ) (S : Set) (y : ℕ) → leafset t x S y ≡ true → y ≡ x → ⊥
  unfolding leafset
  leafset_other x S y e = eqb-false y x (not_out (eqb y x) (and_right (S y) (not (eqb y x)) (and_left (without S x y) _ e)))

  -- the spare that x offers a is neither a nor x
  pub closest_spare : (x : ℕ) (held : Set) (a : ℕ) → Spare (size t) a x (closest t x held a)
  unfolding closest nearest
  closest_spare x held a =
      lowest_law (Spare (size t) a x) (size t) _ none
      (λ y m.
      let s : without (leafset t x held) a y ≡ true = and_left (without (leafset t x held) a y) _ (and_left _ _ m.within) in
      spare
      (record {
        low = m.below;
        differs = eqb-false y a (not_out (eqb y a) (and_right (leafset t x held y) (not (eqb y a)) s));
      })
      (leafset_other x held y (and_left (leafset t x held y) (not (eqb y a)) s)))

  -- nobody is nearer than the nearest by the distance d
  pub none_nearer : (d : ℕ → ℕ → ℕ) (a : ℕ) (S : Set) (l : Least (size t) S (λ z. d a (key t z))) → nearer t d a S l.best ≡ 0
  none_nearer d a S l =
      count_none (size t) (λ z. S z && ltb (d a (key t z)) (d a (key t l.best)))
      (λ z h. is_false (S z && ltb (d a (key t z)) (d a (key t l.best)))
      (λ k. clash (and_right (S z) (ltb (d a (key t z)) (d a (key t l.best))) k)
      (le-ltb (d a (key t z)) (d a (key t l.best)) (l.no_less z (record { below = h; within = and_left (S z) _ k })))))

  -- y is the member of S that is met first from the key a, by the distance d
  pub record Met (d : ℕ → ℕ → ℕ) (a : ℕ) (S : Set) (y : ℕ) : Type 0 where
    pub member : Member (size t) S y
    pub no_farther : (z : ℕ) → Member (size t) S z → d a (key t y) ≤ d a (key t z)

  -- `first_met` is, where there is any
  pub first_met_lem : (d : ℕ → ℕ → ℕ) (a : ℕ) (S : Set) → some (size t) S ≡ true → Met d a S (first_met t d a S)
  first_met_lem d a S e =
      record {
        member = record { below = m.below; within = and_left (S y) (eqb (nearer t d a S y) 0) m.within };
        no_farther = λ z o.
            ltb-false (d a (key t z)) (d a (key t y))
            (is_false (ltb (d a (key t z)) (d a (key t y)))
            (λ k.
            let h : 0 < nearer t d a S y = count_some (size t) (λ v. S v && ltb (d a (key t v)) (d a (key t y))) z o.below (and_in o.within k) in
            absurd (omega (arith, eqb-true (nearer t d a S y) 0 (and_right (S y) (eqb (nearer t d a S y) 0) m.within)))));
      }
    where
      y : ℕ
      y = first_met t d a S

      l : Least (size t) S (λ z. d a (key t z))
      l = least (size t) S (λ z. d a (key t z)) e

      m : Member (size t) (λ z. S z && eqb (nearer t d a S z) 0) y
      m =
          lowest_in (size t) (λ z. S z && eqb (nearer t d a S z) 0) l.best
          (record {
            below = l.member.below;
            within = and_in l.member.within (eq-eqb (nearer t d a S l.best) 0 (none_nearer d a S l));
          })

  -- a node that holds somebody has a successor, and holds it
  pub successor_held : (x : ℕ) (held : Set) → some (size t) held ≡ true → held (successor t x held) ≡ true
  unfolding successor
  successor_held x held e = (first_met_lem clockwise (key t x) held e).member.within
