-- What is said place by place of a list of keys is a fold over it.
use Rattle.std.proofs.Common.{inl, inr, subst, ◌+◌, ◌≡◌, ℕ, zero, suc, ◌≤◌, ◌<◌, List, map, length, get_or, take, ap, ◌∙◌, add-one, arith, refl, sym, min, max}
use Rattle.std.proofs.Common.{Bool, true, false, ap₂, if◌then◌else◌}
use mir.Val.{bool_byte}
use Rattle.std.specs.List.{fold}
use Rattle.std.proofs.lemmas.List.Sums.{fold_more}
use Rattle.std.proofs.Math.Seq.{take-length}
use denote.Param.Members.{Mut}
use Rattle.std.specs.Fn.{Called}
use Rattle.std.specs.Array.{IsFromFnResult, IsFromFnResultFrom}
use Rattle.std.proofs.lemmas.Bool.{cases_lt}
use lib.ListN.{length-take, length-map}
use lib.Seq.{ext_get_or, get_or-take}
use Rattle.model.specs.Sets.{Set, count}
use Rattle.model.proofs.Laws.{map_at}
use Rattle.draw_places.specs.Places.{lowest_of, greatest, pushed_by, pushed_most}

module _ {B : Type 0} (h : B → ℕ → B) (a : B) (xs : List ℕ) (F : ℕ → B) (none : F 0 ≡ a) (more : (n : ℕ) → F (suc n) ≡ h (F n) (get_or xs n 0)) where
  part_folded : (n : ℕ) → n ≤ length xs → F n ≡ fold h a (take n xs)
  part_folded zero l = none
  part_folded (suc n) l =
      let step = fold_more h a xs n 0 (omega arith) in
      more n ∙ ap (λ (b : B). h b (get_or xs n 0)) (part_folded n (omega arith)) ∙ sym (rw add-one at step)

  folded : F (length xs) ≡ fold h a xs
  folded = rw take-length at (part_folded (length xs) (omega arith))

-- one key more is counted
pub counted_more : (S : Set) (n k b : ℕ) → k ≡ count n S → b ≡ bool_byte (S n) → k + b ≡ count (n + 1) S
unfolding count
counted_more S n k b e f = ap₂ (λ (x y : ℕ). x + y) e (f ∙ as_bit (S n)) ∙ sym (rw add-one refl)
  where
    as_bit : (c : Bool) → bool_byte c ≡ (if c then 1 else 0)
    as_bit true = refl
    as_bit false = refl

pub byte_low : (c : Bool) (b : ℕ) → b ≡ bool_byte c → b ≤ 1
byte_low true b e = omega (arith, e)
byte_low false b e = omega (arith, e)

pub lowest_folded : (keys : List ℕ) → lowest_of (length keys) keys ≡ fold min 4294967295 keys
unfolding lowest_of
lowest_folded keys = folded min 4294967295 keys (λ n. lowest_of n keys) refl (λ n. refl)

pub most_folded : (keys : List ℕ) (rank : ℕ) → pushed_most keys rank ≡ fold (λ m by. max m (pushed_by keys rank by)) 0 keys
unfolding pushed_most greatest
most_folded keys rank = folded _ 0 keys (λ n. greatest n (λ y. pushed_by keys rank (get_or keys y 0))) refl (λ n. refl)

pub mapped : (f : ℕ → ℕ) (keys out : List ℕ) → length keys ≤ length out → ((x : ℕ) → x < length keys → get_or out x 0 ≡ f (get_or keys x 0))
    → take (length keys) out ≡ map f keys
mapped f keys out few each =
    let t : length (take (length keys) out) ≡ length keys = simp length-take (omega arith) in
    ext_get_or 0 (take (length keys) out) (map f keys) (t ∙ sym (length-map keys f))
    (λ i h. get_or-take (length keys) out i 0 (omega arith) ∙ each i (omega arith) ∙ sym (map_at f keys i (omega arith)))

-- each call of a closure that stays as it is
module _ {F : Type 0} (g : Mut F (ℕ × Unit {0}) ℕ) (f : F) (P : ℕ → ℕ → Type 0) (call : (x y : ℕ) (q : F) → Called g f (x, tt) y q → P x y × (q ≡ f)) where
  each_from : (ys : List ℕ) (i n : ℕ) → IsFromFnResultFrom g f ys i n → (x : ℕ) → i ≤ x → x < i + n → P x (get_or ys x 0)
  each_from ys i zero r x low high = absurd (omega arith)
  each_from ys i (suc n) r x low high =
      let k = call i r.1 r.0 r.3 in
      let rest = subst (λ (s : F). IsFromFnResultFrom g s ys (i + 1) n) k.1 r.4 in
      elim (cases_lt i x) [
        | inl l ↦ each_from ys (i + 1) n rest x (omega arith) (omega arith)
        | inr l ↦
            let e : i ≡ x = omega arith in
            subst (λ (z : ℕ). P z (get_or ys z 0)) e (subst (λ (y : ℕ). P i y) (sym (r.2.1 0)) k.0)
      ]

  pub each_made : (ys : List ℕ) (n : ℕ) → IsFromFnResult g f ys n → (x : ℕ) → x < n → P x (get_or ys x 0)
  each_made ys n r x h = each_from ys 0 n r.each x (omega arith) (omega arith)
