-- Counting groups: the lowest node of a closed set is the first of its group, and what is not connected to it is a closed set again.
use mathlib.Core.Path.{◌≡◌, sym, ap, ◌∙◌}
use mathlib.Core.Bool.{Bool, true, false, not, ◌&&◌, and-false, and_comm, and_self_left}
use Prim.Native.Nat.{ℕ, ◌+◌, ◌≤◌, ◌<◌}
use native.Mathlib.Decide.{dec_lt}
use native.Mathlib.Omega.{arith}
use lib.Dec.{eqb}
use borrow.Author.Tests.{eqb-false, ne_eqb}
use Rattle.model.specs.Sets.{Set, count, without}
use Rattle.model.specs.Leafset.{size}
use Rattle.model.specs.Ring.{Ring, is_running}
use Rattle.model.specs.Connection.{itself, connected, has_lower, first, groups}
use Rattle.model.proofs.Laws.{clash, and_left, and_right, and_in, not_in, not_out, is_false, same_test, some_out, count_le, count_none, count_cong}
use Rattle.model.proofs.Connection.{InTable, linked_back, further, decides}
use Rattle.model.proofs.Groups.{first_alone}
use Rattle.sets.proofs.Ascending.{First, count_without}
use Rattle.ring_connection.specs.Links.{Closed}
use Rattle.ring_connection.proofs.Linked.{back}

module _ (r : Ring) where
  abbrev pub firsts : Set → ℕ
  firsts S = count (size r.table) (λ b. first r b && S b)

  -- k groups are counted, and those of S are left
  pub record Counted (S : Set) (k : ℕ) : Type 0 where
    pub closed : Closed r S
    pub total : k + firsts S ≡ groups r

  pub counted_few : {S : Set} {k : ℕ} → Counted S k → k ≤ size r.table
  unfolding groups
  counted_few i = omega (arith, i.total, count_le (size r.table) (first r))

  pub counted_none : {S : Set} → Closed r S → ((x : ℕ) → S x ≡ is_running r x) → Counted S 0
  unfolding groups
  counted_none {S} c is = record { closed = c; total = omega (arith, count_cong (size r.table) (λ b. first r b && S b) (first r) at) }
    where
      at : (b : ℕ) → b < size r.table → (first r b && S b) ≡ first r b
      at b h =
          ap (λ (p : Bool). first r b && p) (is b) ∙ and_comm (first r b) (is_running r b)
          ∙ and_self_left (is_running r b) (not (has_lower r b))

  pub counted_end : {S : Set} {k : ℕ} → Counted S k → ((x : ℕ) → S x ≡ false) → k ≡ groups r
  counted_end {S} i f = omega (arith, i.total, count_none (size r.table) (λ b. first r b && S b) (λ b h. rw (f b) (and-false (first r b))))

  module _ (low : InTable r) {S : Set} {a : ℕ} (lowest : First 64 S a)
      {S' : Set} (is : (b : ℕ) → S' b ≡ (S b && not (connected r a b))) where
    module _ (b : ℕ) (t : S' b ≡ true) where
      member : S b ≡ true
      member = and_left (S b) (not (connected r a b)) (sym (is b) ∙ t)

      apart : connected r a b ≡ false
      apart = not_out (connected r a b) (and_right (S b) (not (connected r a b)) (sym (is b) ∙ t))

    module _ (closed : Closed r S) where
      rest_closed : Closed r S'
      rest_closed =
          record {
            running = λ x t. closed.running x (member x t);
            onward = λ x z t l.
                is z ∙ and_in (closed.onward x z (member x t) l) (not_in (is_false (connected r a z) (λ q.
                clash ((decides r a low x).1 (further r ((decides r a low z).0 q) (linked_back r x z l))) (apart x t))));
          }

      a_first : first r a ≡ true
      a_first =
          and_in (closed.running a lowest.member)
          (not_in (is_false (has_lower r a) (λ s.
          let p = some_out a _ s in
          clash (back r closed ((decides r p.0 low a).0 p.2) lowest.member) (lowest.before p.0 p.1))))

      itself_connected : connected r a a ≡ true
      itself_connected = (decides r a low a).1 (itself (closed.running a lowest.member))

      -- of the firsts in S, all but a are left
      others : (b : ℕ) → (first r b && S' b) ≡ without (λ c. first r c && S c) a b
      others b =
          same_test (first r b && S' b) (without (λ c. first r c && S c) a b)
          (λ t.
          let s = and_right (first r b) (S' b) t in
          and_in (and_in (and_left (first r b) (S' b) t) (member b s)) (not_in (ne_eqb b a (λ e. clash (ap (connected r a) e ∙ itself_connected) (apart b s)))))
          (λ t.
          let q = and_left (first r b && S b) (not (eqb b a)) t in
          let f = and_left (first r b) (S b) q in
          let s = and_right (first r b) (S b) q in
          let d = eqb-false b a (not_out (eqb b a) (and_right (first r b && S b) (not (eqb b a)) t)) in
          and_in f (is b ∙ and_in s (not_in (is_false (connected r a b) (λ k. clash k (first_alone r a b f (above b s d)))))))
        where
          above : (b : ℕ) → S b ≡ true → (b ≡ a → ⊥) → a < b
          above b s d = elim (dec_lt a b) [ yes h ↦ h | no h ↦ clash s (lowest.before b (omega arith)) ]

    pub one_less : {k : ℕ} → Counted S k → firsts S' + 1 ≡ firsts S
    one_less i =
        ap (λ (k : ℕ). k + 1) (count_cong (size r.table) (λ b. first r b && S' b) (without (λ c. first r c && S c) a) (λ b h. others i.closed b))
        ∙ count_without (size r.table) (λ c. first r c && S c) a (low a (i.closed.running a lowest.member))
        (and_in (a_first i.closed) lowest.member)

    pub counted_next : {k : ℕ} → Counted S k → Counted S' (k + 1)
    counted_next {k} i = record { closed = rest_closed i.closed; total = omega (arith, i.total, one_less i) }
