-- Types 11 and 12 in rounds in which leafsets stay as they are: type 11 goes on by one successor a round, and its two ends become candidates of each other.
-- So a node that passes zero and the first one that does from its successor on do not lack each other. Source 000, Lemma 12.
use mathlib.Core.Path.{◌≡◌, refl, sym, ap, ◌∙◌, subst}
use Prim.Native.Nat.{ℕ, suc, ◌+◌, ◌≤◌, ◌<◌}
use native.Mathlib.Nat.{le_refl}
use native.Mathlib.Omega.{arith}
use native.Mathlib.Decide.{ℕ_discrete}
use mathlib.Core.Bool.{true, false, not, ◌&&◌, ◌||◌}
use mathlib.Core.List.{Memᴰ}
use lib.Dec.{eqb}
use borrow.Author.Tests.{eq-eqb, ne_eqb}
use Rattle.model.specs.Sets.{some, none_node}
use Rattle.model.specs.Leafset.{Table, size, successor, passes_zero}
use Rattle.model.specs.Ring.{Ring, Own, is_running, holds}
use Rattle.model.specs.Steps.{Effect, plain, naming, timer4, timer, on_ping_deloopy, on_pong_deloopy, deliver}
use Rattle.model.specs.WellFormed.{WellFormed}
use Rattle.model.proofs.Laws.{clash, and_left, and_right, or_right, decide, is_false, some_in, some_out}
use Rattle.model.proofs.Choices.{lowest_law, successor_held, leafset_other}
use Rattle.settle_leafsets.specs.Covered.{lacks}
use Rattle.settle_leafsets.specs.Quiescent.{Arrives, here, onward}
use Rattle.settle_leafsets.proofs.Constant.{same_some, same_successor, same_passes}
use Rattle.settle_kept.proofs.Keeping.{now_at, own_at}
use Rattle.settle_rounds.proofs.Turns.{Delivered, Arrival, deliver_at}
use Rattle.settle_rounds.proofs.Window.{Stretch, at, b, K, fair, rises, kept, arrives, received_own, received_sends, fired_sends}
use Rattle.settle_rounds.proofs.Inviting.{Steady, start, R, candidate_known}

-- ---- the steps

module _ (t : Table) (x now : ℕ) (o : Own) where
  sends_deloopy : passes_zero t x o.held ≡ true → Memᴰ (naming 11 x (successor t x o.held) x) (timer t x now o 4).sent
  unfolding timer timer4
  sends_deloopy e = rw e (mathlib.Core.List.Memᴰ.head refl)

  module _ (c u : ℕ) (other : ¬ (u ≡ x)) (any : some (size t) o.held ≡ true) where
    stops : (eqb u x || not (some (size t) o.held)) ≡ false
    stops = rw (ne_eqb u x other, any) refl

    passes_on : passes_zero t x o.held ≡ false → Memᴰ (naming 11 x (successor t x o.held) u) (deliver t x now o (naming 11 c x u)).sent
    unfolding on_ping_deloopy
    passes_on e =
        subst (λ (f : Effect). Memᴰ (naming 11 x (successor t x o.held) u) f.sent) (sym (deliver_at t x now o (naming 11 c x u) 11 refl))
        (rw (stops, e) (mathlib.Core.List.Memᴰ.head refl))

    notes_origin : passes_zero t x o.held ≡ true → (deliver t x now o (naming 11 c x u)).own.candidates u ≡ true
    unfolding on_ping_deloopy
    notes_origin e =
        subst (λ (f : Effect). f.own.candidates u ≡ true) (sym (deliver_at t x now o (naming 11 c x u) 11 refl))
        (rw (stops, e) (or_right (o.candidates u) (eq-eqb u u refl)))

    answers_origin : passes_zero t x o.held ≡ true → Memᴰ (plain 12 x u) (deliver t x now o (naming 11 c x u)).sent
    unfolding on_ping_deloopy
    answers_origin e =
        subst (λ (f : Effect). Memᴰ (plain 12 x u) f.sent) (sym (deliver_at t x now o (naming 11 c x u) 11 refl))
        (rw (stops, e) (mathlib.Core.List.Memᴰ.head refl))

  notes_end : (y : ℕ) → (deliver t x now o (plain 12 y x)).own.candidates y ≡ true
  unfolding on_pong_deloopy
  notes_end y =
      subst (λ (f : Effect). f.own.candidates y ≡ true) (sym (deliver_at t x now o (plain 12 y x) 12 refl)) (or_right (o.candidates y) (eq-eqb y y refl))

  -- who holds nobody has no successor
  no_successor : some (size t) o.held ≡ false → successor t x o.held ≡ none_node
  unfolding successor
  no_successor e =
      lowest_law (λ y. y ≡ none_node) (size t) _ refl (λ y m. clash (some_in (size t) o.held y m.below (and_left (o.held y) _ m.within)) e)

  passes_some : passes_zero t x o.held ≡ true → some (size t) o.held ≡ true
  unfolding passes_zero
  passes_some e = and_left (some (size t) o.held) _ e

-- nobody lacks itself
pub lacks_self : (r : Ring) (x : ℕ) → lacks r x x ≡ false
lacks_self r x = is_false (lacks r x x) (λ e. leafset_other r.table x _ x (and_right (is_running r x && not (holds r x x)) _ e) refl)

-- nothing arrives by way of a node that is off
module _ (r : Ring) (well : WellFormed r) where
  beyond_off : is_running r none_node ≡ false
  beyond_off = is_false (is_running r none_node) (λ e. let l = (well.node_well none_node).running_low e in let s = well.table_well.size_high in omega arith)

  off_some : (a : ℕ) → is_running r a ≡ false → some (size r.table) (holds r a) ≡ false
  off_some a off =
      is_false (some (size r.table) (holds r a))
      (λ e. let s = some_out (size r.table) (holds r a) e in clash s.2 ((well.node_well a).off_held off s.0))

  none_arrives : {k a p : ℕ} → Arrives r k a p → is_running r a ≡ false → ⊥
  none_arrives (here {p} e) off = clash (passes_some r.table p 0 (own_at r p) e) (off_some p off)
  none_arrives (onward {a = a} no-pass next more) off =
      none_arrives more (ap (is_running r) (sym next ∙ no_successor r.table a 0 (own_at r a) (off_some a off)) ∙ beyond_off)

-- ---- rounds

module _
    (w : Stretch) (steady : Steady w)
    (o : ℕ) (on-o : R w steady o ≡ true) (origin : passes_zero (start w steady).table o (holds (start w steady) o) ≡ true)
  where
    abbrev s : Ring
    s = start w steady

    abbrev well : (i : ℕ) → WellFormed (at w i)
    well = (fair w).well

    -- at any point of the rounds
    module _ (i : ℕ) (f : b w 0 ≤ i) (l : i ≤ b w (K w)) (a : ℕ) (on : R w steady a ≡ true) where
      passes_there : passes_zero (at w i).table a (holds (at w i) a) ≡ passes_zero s.table a (holds s a)
      passes_there = same_passes s (at w i) (well (b w 0)) (kept w i f l).table (kept w i f l).running a on (steady i f l a on) (well i)

      next_there : successor (at w i).table a (holds (at w i) a) ≡ successor s.table a (holds s a)
      next_there = same_successor s (at w i) (well (b w 0)) (kept w i f l).table (kept w i f l).running a on (steady i f l a on) (well i)

      some_there : some (size (at w i).table) (holds (at w i) a) ≡ some (size s.table) (holds s a)
      some_there = same_some s (at w i) (well (b w 0)) (kept w i f l).table (kept w i f l).running a on (steady i f l a on) (well i)

      runs_there : is_running (at w i) a ≡ true
      runs_there = (kept w i f l).running a ∙ on

    -- type 11 about o is in flight to a, in round j or before
    pub deloops : {k a p : ℕ} → Arrives s k a p → R w steady a ≡ true → (i j c : ℕ) → b w 0 ≤ i → i ≤ b w j → j + k + 5 ≤ K w
        → Memᴰ (naming 11 c a o) (at w i).messages → (lacks s o p ≡ false) × (lacks s p o ≡ false)
    deloops (here {p} e) on i j c f l room m =
        elim (ℕ_discrete o p) [
          | yes q ↦ (ap (lacks s o) (sym q) ∙ lacks_self s o, ap (λ (y : ℕ). lacks s y o) (sym q) ∙ lacks_self s o)
          | no d ↦ (to_o v.0 (omega (arith, v.1)) v.2 v.3 d, to_p v.0 (omega (arith, v.1)) v.2 v.3 d)
        ]
      where
        v : Arrival (at w) (naming 11 c p o) i (b w (suc j))
        v = arrives w i j f l (omega arith) (naming 11 c p o) m

        end_1 : b w (suc j) ≤ b w (K w)
        end_1 = rises w (suc j) (K w) (omega arith) (le_refl (K w))

        end_2 : b w (suc (suc j)) ≤ b w (K w)
        end_2 = rises w (suc (suc j)) (K w) (omega arith) (le_refl (K w))

        Comes : ℕ → Type 0
        Comes n = Delivered (at w) (naming 11 c p o) n

        passing : (n : ℕ) → b w 0 ≤ n → n < b w (suc j) → passes_zero (at w n).table p (holds (at w n) p) ≡ true
        passing n g h = passes_there n g (omega (arith, end_1)) p on ∙ e

        to_p : (n : ℕ) → b w 0 ≤ n → n < b w (suc j) → Comes n → ¬ (o ≡ p) → lacks s p o ≡ false
        to_p n g h q d =
            candidate_known w steady (suc n) (suc j) (omega arith) h (omega arith) p o on
            (ap (λ (u : Own). u.candidates o)
            (received_own (at w n) (at w (suc n)) (naming 11 c p o) q.0 q.1 q.2 (runs_there n g (omega (arith, end_1)) p on))
            ∙ notes_origin (at w n).table p (now_at (at w n) p) (own_at (at w n) p) c o d (passes_some (at w n).table p 0 (own_at (at w n) p) (passing n g h))
            (passing n g h))

        to_o : (n : ℕ) → b w 0 ≤ n → n < b w (suc j) → Comes n → ¬ (o ≡ p) → lacks s o p ≡ false
        to_o n g h q d =
            let twelve : Memᴰ (plain 12 p o) (at w (suc n)).messages =
            received_sends (at w n) (at w (suc n)) (naming 11 c p o) q.0 q.1 q.2 (runs_there n g (omega (arith, end_1)) p on) (plain 12 p o)
            (answers_origin (at w n).table p (now_at (at w n) p) (own_at (at w n) p) c o d (passes_some (at w n).table p 0 (own_at (at w n) p) (passing n g h))
            (passing n g h)) in
            let z = arrives w (suc n) (suc j) (omega arith) h (omega arith) (plain 12 p o) twelve in
            ends z.0 (omega (arith, z.1)) z.2 z.3
          where
            ends :
                (y : ℕ) → b w 0 ≤ y → y < b w (suc (suc j)) → Delivered (at w) (plain 12 p o) y
                → lacks s o p ≡ false
            ends y g h z =
                candidate_known w steady (suc y) (suc (suc j)) (omega arith) h (omega arith) o p on-o
                (ap (λ (u : Own). u.candidates p)
                (received_own (at w y) (at w (suc y)) (plain 12 p o) z.0 z.1 z.2 (runs_there y g (omega (arith, end_2)) o on-o))
                ∙ notes_end (at w y).table o (now_at (at w y) o) (own_at (at w y) o) p)
    deloops (onward {k = k} {a = a} {b = y} {p = p} no-pass next more) on i j c f l room m =
        let v = arrives w i j f l (omega arith) (naming 11 c a o) m in
        goes (λ n g h sent. deloops more on_y (suc n) (suc j) a (omega arith) h (omega arith) sent) v.0 (omega (arith, v.1)) v.2 v.3
      where
        end_1 : b w (suc j) ≤ b w (K w)
        end_1 = rises w (suc j) (K w) (omega arith) (le_refl (K w))

        holds_some : some (size s.table) (holds s a) ≡ true
        holds_some =
            decide (some (size s.table) (holds s a)) (λ q. q)
            (λ q. absurd (none_arrives s (well (b w 0)) more
            (ap (is_running s) (sym next ∙ no_successor s.table a 0 (own_at s a) q) ∙ beyond_off s (well (b w 0)))))

        on_y : R w steady y ≡ true
        on_y =
            ap (is_running s) (sym next) ∙ w.clean.holds_running a on (successor s.table a (holds s a)) (successor_held s.table a (holds s a) holds_some)

        goes : ((n : ℕ) → b w 0 ≤ n → n < b w (suc j) → Memᴰ (naming 11 a y o) (at w (suc n)).messages → (lacks s o p ≡ false) × (lacks s p o ≡ false))
            → (n : ℕ) → b w 0 ≤ n → n < b w (suc j) → Delivered (at w) (naming 11 c a o) n
            → (lacks s o p ≡ false) × (lacks s p o ≡ false)
        goes go n g h q =
            go n g h
            (subst (λ (u : ℕ). Memᴰ (naming 11 a u o) (at w (suc n)).messages) (next_there n g (omega (arith, end_1)) a on ∙ next)
            (received_sends (at w n) (at w (suc n)) (naming 11 c a o) q.0 q.1 q.2 (runs_there n g (omega (arith, end_1)) a on) _
            (passes_on (at w n).table a (now_at (at w n) a) (own_at (at w n) a) c o
            (λ u. clash origin (ap (λ (v : ℕ). passes_zero s.table v (holds s v)) u ∙ no-pass))
            (some_there n g (omega (arith, end_1)) a on ∙ holds_some)
            (passes_there n g (omega (arith, end_1)) a on ∙ no-pass))))

    -- from its timer 4 on
    pub passes_known : (k p : ℕ) → k + 6 ≤ K w → Arrives s k (successor s.table o (holds s o)) p → (lacks s o p ≡ false) × (lacks s p o ≡ false)
    passes_known k p room way =
        let end_1 = rises w 1 (K w) (omega arith) (le_refl (K w)) in
        let fire = (fair w).fires 0 (omega arith) o on-o 4 refl in
        let g : b w 0 ≤ fire.0 = fire.1 in
        let h : fire.0 ≤ b w (K w) = omega (arith, fire.2) in
        let on-next = w.clean.holds_running o on-o (successor s.table o (holds s o))
        (successor_held s.table o (holds s o) (passes_some s.table o 0 (own_at s o) origin)) in
        deloops way on-next (suc fire.0) 1 o (omega arith) fire.2 (omega arith)
        (subst (λ (u : ℕ). Memᴰ (naming 11 o u o) (at w (suc fire.0)).messages) (next_there fire.0 g h o on-o)
        (fired_sends (at w fire.0) (at w (suc fire.0)) o 4 fire.3 _
        (sends_deloopy (at w fire.0).table o (now_at (at w fire.0) o) (own_at (at w fire.0) o) (passes_there fire.0 g h o on-o ∙ origin))))
