-- The choice of a spare is the first of a set by a measure.
use mathlib.Core.Path.{◌≡◌, sym, ap, ◌∙◌}
use mathlib.Core.Bool.{true, false, not, ◌&&◌}
use mathlib.Core.List.{List}
use Prim.Native.Nat.{ℕ, ◌^◌, ◌≤◌, ◌<◌}
use native.Mathlib.Nat.{le_trans, lt_irrefl}
use native.Mathlib.Omega.{arith}
use native.Mathlib.Decide.{dec_lt}
use lib.Dec.{eqb, ltb}
use lib.ListN.{length, get_or}
use borrow.Author.Tests.{lt-ltb, ltb-true}
use Rattle.model.specs.Key.{distance}
use Rattle.model.specs.Sets.{Set, without, none_node, some, lowest, to_bits, of_bits}
use Rattle.model.specs.Leafset.{leafset, nearest, closest}
use Rattle.model.proofs.Laws.{decide, is_false, and_in, and_left, and_right, some_none}
use Rattle.sets.specs.Within.{Within, InTable}
use Rattle.model.specs.Structs.{table_of}
use Rattle.model.specs.declared.values.Sides.{Sides}
use Rattle.leafset_nearest.specs.Span.{span_to, Least, Found, nobody, found}
use Rattle.leafset_nearest.specs.declared.Way.TheVariants.{Either}
use Rattle.sets.proofs.Ascending.{lowest_first, lowest_none}
use Rattle.leafset_nearest.proofs.Spans.{rank_nearer}
use Rattle.leafset_nearest.proofs.Firsts.{nearest_found}
use Rattle.leafset.proofs.Leaves.{leafset_low, leafset_back}

-- the choice of a spare: the first of the leafset but for a, where it is near enough
module _ (sides : Sides) {keys : List ℕ} {x held : ℕ} (q : InTable keys x held) (a mine others : ℕ)
    (is : mine ≡ to_bits 64 (leafset (table_of sides keys) x (of_bits held))) (e : of_bits others ≡ without (of_bits mine) a) where
  others_are : of_bits others ≡ without (leafset (table_of sides keys) x (of_bits held)) a
  others_are = e ∙ ap (λ (R : Set). without R a) (leafset_back sides q is)

  pub others_low : Within (length keys) others
  others_low y h =
      leafset_low sides q y
      (and_left (leafset (table_of sides keys) x (of_bits held) y) (not (eqb y a)) (sym (ap (λ (R : Set). R y) others_are) ∙ h))

  abbrev far : ℕ → ℕ
  far y = distance (get_or keys a 0) (get_or keys y 0)

  abbrev enough : Set
  enough y = of_bits others y && ltb (far y) (far x)

  closest_is : {b : ℕ} → Found enough (span_to Either (get_or keys a 0) keys) b → b ≡ closest (table_of sides keys) x (of_bits held) a
  unfolding closest
  closest_is f =
      nearest_found (table_of sides keys) (get_or keys a 0) enough (λ y h. others_low y (and_left (of_bits others y) (ltb (far y) (far x)) h)) f
      ∙ ap (λ (R : Set). nearest (table_of sides keys) (get_or keys a 0) (λ y. R y && ltb (far y) (far x))) others_are

  pub closest_nobody : ((y : ℕ) → of_bits others y ≡ false) → none_node ≡ closest (table_of sides keys) x (of_bits held) a
  closest_nobody f = closest_is (nobody (λ y. rw (f y)))

  module _ {b : ℕ} (l : Least (of_bits others) (span_to Either (get_or keys a 0) keys) b) where
    first_far : (y : ℕ) → of_bits others y ≡ true → far b ≤ far y
    first_far y q =
        elim (dec_lt (far y) (far b)) [
          | yes h ↦ absurd (omega (arith, l.least y q, rank_nearer (get_or keys a 0) (get_or keys y 0) (get_or keys b 0) h))
          | no h ↦ omega arith
        ]

    pub closest_found : far b < far x → b ≡ closest (table_of sides keys) x (of_bits held) a
    closest_found h =
        closest_is (found (record {
          member = and_in l.member (lt-ltb (far b) (far x) h);
          least = λ y q. l.least y (and_left (of_bits others y) (ltb (far y) (far x)) q);
          lowest = λ y q g. l.lowest y (and_left (of_bits others y) (ltb (far y) (far x)) q) g;
        }))

    pub closest_none : far x ≤ far b → none_node ≡ closest (table_of sides keys) x (of_bits held) a
    closest_none h =
        closest_is (nobody (λ y. is_false (enough y) (λ q.
        lt_irrefl (far y)
        (le_trans (ltb-true (far y) (far x) (and_right (of_bits others y) (ltb (far y) (far x)) q))
        (le_trans h (first_far y (and_left (of_bits others y) (ltb (far y) (far x)) q)))))))

-- a spare has room in its bits
lowest_room : (n : ℕ) (S : Set) → n ≤ 64 → lowest n S < 2 ^ 7
lowest_room n S few =
    decide (some n S)
    (λ e. let f = lowest_first n S e in omega (arith, f.below))
    (λ e. let f = lowest_none n S (some_none n S e) in omega arith)

pub closest_room : (sides : Sides) (keys : List ℕ) (x : ℕ) (held : Set) (a : ℕ) → length keys ≤ 64 → closest (table_of sides keys) x held a < 2 ^ 7
unfolding closest nearest
closest_room sides keys x held a few = lowest_room (length keys) _ few
