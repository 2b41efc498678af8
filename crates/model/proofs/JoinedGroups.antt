-- Two nodes of a join are connected exactly when they came from one ring and were connected there, and its groups are those of the two: a step
-- of the join is a step of the first or of the second, since nobody is held across; so is each step of a path, one after the other.
use mathlib.Core.Path.{◌≡◌, sym, ap, ap₂, ◌∙◌, subst}
use mathlib.Core.Logic.{◌↔◌}
use Prim.Native.Nat.{ℕ, ◌+◌, ◌-◌, ◌≤◌, ◌<◌}
use native.Mathlib.Omega.{arith}
use mathlib.Core.Bool.{Bool, true, false, not, ◌&&◌, ◌||◌}
use lib.Dec.{leb}
use borrow.Author.Tests.{leb-true, le-leb}
use Rattle.model.specs.Sets.{some, count}
use Rattle.model.specs.Leafset.{size}
use Rattle.model.specs.Ring.{Node, Ring, is_running, holds}
use Rattle.model.specs.WellFormed.{WellFormed}
use Rattle.model.specs.Connection.{linked, Connected, itself, onward, connected, first, groups}
use Rattle.model.specs.Join.{join, Joinable, FromOneRing, of_first, of_second}
use Rattle.model.proofs.Laws.{clash, and_left, and_right, or_case, is_false, same_test, some_out, some_cong, some_parts, count_cong, count_parts}
use Rattle.model.proofs.Connection.{InTable, linked_back, starts, decides}
use Rattle.model.proofs.Joins.{joined_size, by_ring, first_node, second_node, joined_well}

module _ (r s : Ring) where
  abbrev n : ℕ
  n = size r.table

  abbrev k : ℕ
  k = size s.table

  abbrev whole : Ring
  whole = join r s

  -- a step, by the rings of its ends
  first_link : (a b : ℕ) → a < n → b < n → linked whole a b ≡ linked r a b
  first_link a b ha hb = ap₂ (λ (p q : Node). p.running && q.running && (p.own.held b || q.own.held a)) (first_node r s a ha) (first_node r s b hb)

  second_link : (a b : ℕ) → n ≤ a → n ≤ b → linked whole a b ≡ linked s (a - n) (b - n)
  second_link a b ha hb =
      ap₂ (λ (p q : Node). p.running && q.running && (p.own.held b || q.own.held a)) (second_node r s a ha) (second_node r s b hb)
      ∙ ap₂ (λ (p q : Bool). is_running s (a - n) && is_running s (b - n) && ((p && holds s (a - n) (b - n)) || (q && holds s (b - n) (a - n))))
      (le-leb n b hb) (le-leb n a ha)

  module _ (g : WellFormed r) where
    -- "Across the two rings nobody is held"
    none_across : (a b : ℕ) → a < n → n ≤ b → (holds whole a b || holds whole b a) ≡ true → ⊥
    none_across a b ha hb t =
        or_case (holds whole a b) (holds whole b a) t
        (λ e. let l = ((g.node_well a).own_well.held_other b (ap (λ (m : Node). m.own.held b) (sym (first_node r s a ha)) ∙ e)).low in omega arith)
        (λ e. let l = leb-true n a (and_left (leb n a) _ (ap (λ (m : Node). m.own.held a) (sym (second_node r s b hb)) ∙ e)) in omega arith)

    no_link_lem : (a b : ℕ) → a < n → n ≤ b → linked whole a b ≡ true → ⊥
    no_link_lem a b ha hb l = none_across a b ha hb (and_right (is_running whole a && is_running whole b) (holds whole a b || holds whole b a) l)

    came_from : {a b : ℕ} → Connected whole a b → FromOneRing r s a b
    came_from (itself {a} h) =
        by_ring r s a
        (λ l. of_first l l (itself (ap (λ (m : Node). m.running) (sym (first_node r s a l)) ∙ h)))
        (λ l. of_second l l (itself (ap (λ (m : Node). m.running) (sym (second_node r s a l)) ∙ h)))
    came_from (onward {a} {b} {c} l p) = go (came_from p)
      where
        go : FromOneRing r s b c → FromOneRing r s a c
        go (of_first hb hc q) =
            by_ring r s a
            (λ ha. of_first ha hc (onward (sym (first_link a b ha hb) ∙ l) q))
            (λ ha. absurd (no_link_lem b a hb ha (linked_back whole a b l)))
        go (of_second hb hc q) =
            by_ring r s a
            (λ ha. absurd (no_link_lem a b ha hb l))
            (λ ha. of_second ha hc (onward (sym (second_link a b ha hb) ∙ l) q))

    low : InTable r
    low x e = (g.node_well x).running_low e

    first_path : {a b : ℕ} → Connected r a b → Connected whole a b
    first_path (itself {a} h) = itself (ap (λ (m : Node). m.running) (first_node r s a (low a h)) ∙ h)
    first_path (onward {a} {b} l p) =
        onward (first_link a b (low a (starts r (onward l p))) (low b (starts r p)) ∙ l) (first_path p)

    second_path : {a b : ℕ} → Connected s a b → Connected whole (n + a) (n + b)
    second_path (itself {a} h) =
        let e : n + a - n ≡ a = omega arith in
        itself (ap (λ (m : Node). m.running) (second_node r s (n + a) (omega arith)) ∙ ap (λ (x : ℕ). is_running s x) e ∙ h)
    second_path (onward {a} {b} l p) =
        let e : n + a - n ≡ a = omega arith in
        let f : n + b - n ≡ b = omega arith in
        onward (second_link (n + a) (n + b) (omega arith) (omega arith) ∙ ap₂ (linked s) e f ∙ l) (second_path p)

    goes_to : {a b : ℕ} → FromOneRing r s a b → Connected whole a b
    goes_to (of_first ha hb q) = first_path q
    goes_to {a} {b} (of_second ha hb q) =
        let e : n + (a - n) ≡ a = omega arith in
        let f : n + (b - n) ≡ b = omega arith in
        subst (λ (x : ℕ). Connected whole x b) e (subst (Connected whole (n + (a - n))) f (second_path q))

    -- CONNECTION of a join
    pub connected_in_join : (a b : ℕ) → Connected (join r s) a b ↔ FromOneRing r s a b
    connected_in_join a b = (came_from, goes_to)

    -- ---- groups

    module _ (h : WellFormed s) (may : Joinable r s) where
      high : InTable whole
      high x e = ((joined_well r s g h may).node_well x).running_low e

      second_low : InTable s
      second_low x e = (h.node_well x).running_low e

      -- the test for connection, by the rings of its ends
      first_test : (a b : ℕ) → a < n → b < n → connected whole a b ≡ connected r a b
      first_test a b ha hb =
          same_test (connected whole a b) (connected r a b)
          (λ t. go (came_from ((decides whole a high b).0 t)))
          (λ t. (decides whole a high b).1 (first_path ((decides r a low b).0 t)))
        where
          go : FromOneRing r s a b → connected r a b ≡ true
          go (of_first la lb q) = (decides r a low b).1 q
          go (of_second la lb q) = absurd (omega arith)

      second_test : (a b : ℕ) → connected whole (n + a) (n + b) ≡ connected s a b
      second_test a b =
          same_test (connected whole (n + a) (n + b)) (connected s a b)
          (λ t. go (came_from ((decides whole (n + a) high (n + b)).0 t)))
          (λ t. (decides whole (n + a) high (n + b)).1 (second_path ((decides s a second_low b).0 t)))
        where
          go : FromOneRing r s (n + a) (n + b) → connected s a b ≡ true
          go (of_first la lb q) = absurd (omega arith)
          go (of_second la lb q) =
              let e : n + a - n ≡ a = omega arith in
              let f : n + b - n ≡ b = omega arith in
              (decides s a second_low b).1 (subst (λ (x : ℕ). Connected s x b) e (subst (Connected s (n + a - n)) f q))

      across_test : (a b : ℕ) → a < n → connected whole a (n + b) ≡ false
      across_test a b ha = is_false (connected whole a (n + b)) (λ t. go (came_from ((decides whole a high (n + b)).0 t)))
        where
          go : FromOneRing r s a (n + b) → ⊥
          go (of_first la lb q) = omega arith
          go (of_second la lb q) = omega arith

      -- the first of a group is the first of one of its ring
      first_first : (b : ℕ) → b < n → first whole b ≡ first r b
      first_first b hb =
          ap₂ (λ (p q : Bool). p && not q) (ap (λ (m : Node). m.running) (first_node r s b hb))
          (some_cong b (λ a. connected whole a b) (λ a. connected r a b) (λ a ha. first_test a b (omega arith) hb))

      second_first : (b : ℕ) → first whole (n + b) ≡ first s b
      second_first b =
          let e : n + b - n ≡ b = omega arith in
          ap₂ (λ (p q : Bool). p && not q)
          (ap (λ (m : Node). m.running) (second_node r s (n + b) (omega arith)) ∙ ap (is_running s) e)
          (some_parts n b (λ a. connected whole a (n + b))
          ∙ ap₂ ◌||◌
          (is_false (some n (λ a. connected whole a (n + b)))
          (λ t. let p = some_out n (λ a. connected whole a (n + b)) t in clash p.2 (across_test p.0 b p.1)))
          (some_cong b (λ a. connected whole (n + a) (n + b)) (λ a. connected s a b) (λ a ha. second_test a b)))

      -- the groups of a join are those of the two
      pub groups_of_join : groups (join r s) ≡ groups r + groups s
      unfolding groups
      groups_of_join =
          ap (λ (i : ℕ). count i (first whole)) (joined_size r s)
          ∙ count_parts n k (first whole)
          ∙ ap₂ ◌+◌ (count_cong n (first whole) (first r) first_first) (count_cong k (λ b. first whole (n + b)) (first s) (λ b hb. second_first b))
