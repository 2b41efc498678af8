-- The sides, one after the other: a side is put where its lowest node is met, and its nodes are then not left any more.
use mathlib.Core.Path.{◌≡◌, refl, sym, ap, ap₂, ◌∙◌, fun_ext}
use mathlib.Core.Bool.{Bool, true, false, not, ◌&&◌, ◌||◌, and-true, and-false, or-false}
use mathlib.Core.List.{List, ◌++◌, append-nil}
use Prim.Native.Nat.{ℕ, suc, ◌+◌, ◌<◌}
use native.Mathlib.Numerals.{add-one}
use lib.Dec.{eqb}
use lib.Bits.{bit_and}
use lib.ListN.{get_or}
use borrow.Author.Tests.{eq-eqb, ne_eqb}
use Rattle.bench_lines.specs.Decimal.{spaced}
use Rattle.bench_lines.specs.Put.{Put}
use Rattle.bench_lines.proofs.Puts.{put_none, put_more, put_as}
use Rattle.model.specs.Sets.{Set, some, members, of_bits}
use Rattle.model.specs.Leafset.{size}
use Rattle.model.specs.Ring.{Ring, is_running}
use Rattle.model.specs.Connection.{connected}
use Rattle.model.proofs.Laws.{clash, and_left, and_right, and_in, decide, same_test, or_right}
use Rattle.sets.proofs.Ascending.{members_to}
use Rattle.sets.proofs.Bits.{and_both}
use Rattle.audit_account.specs.Partings.{torn, side, is_first, sides_text}
use Rattle.audit_parting.specs.Groups.{Around}
use Rattle.audit_parting.specs.Sides.{bar_text}
use Rattle.audit_parting.proofs.Alike.{with_itself, from_runs, to_runs, to_low, way_back, alike}
use Rattle.audit_parting.proofs.Tearing.{torn_ran}

module _ (r r' : Ring) {gs gs' : List ℕ} (a : Around r r' gs gs') where
  -- ---- the nodes of a side are alike

  module _ (x y : ℕ) (t : side r r' x y ≡ true) where
    before : connected r x y ≡ true
    unfolding side
    before = and_left (connected r x y) (connected r' x y) t

    after : connected r' x y ≡ true
    unfolding side
    after = and_right (connected r x y) (connected r' x y) t

    pub side_low : y < size r.table
    side_low = to_low r a.low x y before

    side_same : (z : ℕ) → side r r' x z ≡ side r r' y z
    unfolding side
    side_same z = ap₂ ◌&&◌ (alike r a.low x y before z) (alike r' a.low' x y after z)

    side_turned : side r r' y x ≡ true
    unfolding side
    side_turned = and_in (way_back r a.low x y before) (way_back r' a.low' x y after)

    torn_same : torn r r' x ≡ torn r r' y
    unfolding torn
    torn_same =
        ap₂ ◌&&◌ (from_runs r' a.low' x y after ∙ sym (to_runs r' a.low' x y after))
        (ap (some (size r.table))
        (fun_ext
        (λ b. ap₂ (λ (p q : Bool). p && is_running r' b && not q) (alike r a.low x y before b) (alike r' a.low' x y after b))))

  side_back : (x y : ℕ) → side r r' x y ≡ side r r' y x
  side_back x y = same_test (side r r' x y) (side r r' y x) (side_turned x y) (side_turned y x)

  -- who is parted from some node is of its own side
  side_itself : (x : ℕ) → torn r r' x ≡ true → side r r' x x ≡ true
  unfolding side torn
  side_itself x t = and_in (with_itself r a.low (torn_ran r r' a x t)) (with_itself r' a.low' (and_left (is_running r' x) _ t))

  -- ---- those that are left at place x: the nodes of sides that have no node before it

  module _ (x : ℕ) (left : ℕ) (is : (y : ℕ) → of_bits left y ≡ (torn r r' y && not (some x (side r r' y)))) where
    abbrev L : Set
    L = of_bits left

    left_same : (y z : ℕ) → side r r' y z ≡ true → L y ≡ L z
    left_same y z t =
        is y ∙ ap₂ (λ (p q : Bool). p && not q) (torn_same y z t) (ap (some x) (fun_ext (side_same y z t))) ∙ sym (is z)

    pub left_first : L x ≡ is_first r r' x
    unfolding is_first
    left_first = is x

    -- x is not left: no side that is left has it
    pub left_passed : L x ≡ false → (y : ℕ) → L y ≡ (torn r r' y && not (some (suc x) (side r r' y)))
    unfolding some
    left_passed f y =
        decide (side r r' y x)
        (λ t. left_same y x t ∙ f
        ∙ sym (ap (λ (p : Bool). torn r r' y && not p) (or_right (some x (side r r' y)) t) ∙ and-false (torn r r' y)))
        (λ e. is y ∙ sym (ap (λ (p : Bool). torn r r' y && not p) (ap (λ (q : Bool). some x (side r r' y) || q) e ∙ or-false (some x (side r r' y)))))

    -- x is left: its side is what the code takes
    module _ (t : L x ≡ true) {S : Set} (these : (y : ℕ) → S y ≡ (side r r' x y && L y)) where
      pub taken_is : (y : ℕ) → S y ≡ side r r' x y
      taken_is y =
          these y
          ∙ same_test (side r r' x y && L y) (side r r' x y) (and_left (side r r' x y) (L y)) (λ s. and_in s (sym (left_same x y s) ∙ t))

      pub left_taken : (left' : ℕ) → of_bits left' ≡ (λ (y : ℕ). L y && not (S y))
          → (y : ℕ) → of_bits left' y ≡ (torn r r' y && not (some (suc x) (side r r' y)))
      unfolding some
      left_taken left' e y =
          ap (λ (Q : Set). Q y) e ∙ ap₂ (λ (p q : Bool). p && not q) (is y) (taken_is y ∙ side_back x y)
          ∙ go (torn r r' y) (some x (side r r' y)) (side r r' y x)
        where
          go : (p q s : Bool) → ((p && not q) && not s) ≡ (p && not (q || s))
          go true true s = refl
          go true false s = refl
          go false q s = refl

  -- ---- the sides whose lowest node is below x are put; the number t has those who are parted from some node

  pub record Sided (out₀ out : List ℕ) (at end t left x : ℕ) : Type 0 where
    pub is : (y : ℕ) → of_bits left y ≡ (torn r r' y && not (some x (side r r' y)))
    pub bar : not (eqb left t) ≡ some x (is_first r r')
    pub put : Put out₀ out at end (sides_text r r' x)

  module _ {t : ℕ} (these : (y : ℕ) → of_bits t y ≡ torn r r' y) where
    pub sided_none : (out : List ℕ) (at : ℕ) → Sided out out at at t t 0
    unfolding some sides_text
    sided_none out at = record { is = λ y. these y ∙ sym (and-true (torn r r' y)); bar = ap not (eq-eqb t t refl); put = put_none out at }

    module _ {out₀ out : List ℕ} {at end left x : ℕ} (i : Sided out₀ out at end t left x) where
      pub sided_passed : of_bits left x ≡ false → Sided out₀ out at end t left (x + 1)
      unfolding some sides_text
      sided_passed f =
          let first : is_first r r' x ≡ false = sym (left_first x left i.is) ∙ f in
          rw (add-one x)
          (record {
            is = left_passed x left i.is f;
            bar = i.bar ∙ sym (ap (λ (p : Bool). some x (is_first r r') || p) first ∙ or-false (some x (is_first r r')));
            put = put_as i.put (rw first (sym (append-nil (sides_text r r' x))));
          })

      module _ (h : x < 64) (m : of_bits left x ≡ true) where
        abbrev taken : ℕ
        taken = bit_and (bit_and (get_or gs x 0) (get_or gs' x 0)) left

        both : (y : ℕ) → of_bits taken y ≡ (side r r' x y && of_bits left y)
        unfolding side
        both y =
            ap (λ (S : Set). S y) (and_both (bit_and (get_or gs x 0) (get_or gs' x 0)) left)
            ∙ ap (λ (p : Bool). p && of_bits left y)
            (ap (λ (S : Set). S y) (and_both (get_or gs x 0) (get_or gs' x 0)) ∙ ap₂ ◌&&◌ (a.old.sets x y h) (a.new.sets x y h))

        first : is_first r r' x ≡ true
        first = sym (left_first x left i.is) ∙ m

        x_torn : torn r r' x ≡ true
        x_torn = and_left (torn r r' x) _ (sym (i.is x) ∙ m)

        listed : members 64 (of_bits taken) ≡ members (size r.table) (side r r' x)
        listed =
            ap (members 64) (fun_ext (taken_is x left i.is m both))
            ∙ sym (members_to (side r r' x) (size r.table) (side_low x) 64 a.few)

        pub sided_taken : {out' : List ℕ} {end' : ℕ} (left' : ℕ) → Put out out' end end' (bar_text (not (eqb left t)) ++ spaced (members 64 (of_bits taken)))
            → of_bits left' ≡ (λ (y : ℕ). of_bits left y && not (of_bits taken y)) → Sided out₀ out' at end' t left' (x + 1)
        unfolding some sides_text
        sided_taken left' p e =
            rw (add-one x)
            (record {
              is = left_taken x left i.is m both left' e;
              bar = ap not (ne_eqb left' t fewer) ∙ sym (or_right (some x (is_first r r')) first);
              put = put_as (put_more i.put p) (rw (first, i.bar, listed));
            })
          where
            gone : of_bits left' x ≡ false
            gone = ap (λ (S : Set). S x) e ∙ ap₂ (λ (u v : Bool). u && not v) m (taken_is x left i.is m both x ∙ side_itself x x_torn)

            fewer : left' ≡ t → ⊥
            fewer q = clash (these x ∙ x_torn) (sym (ap (λ (w : ℕ). of_bits w x) q) ∙ gone)
