-- Fair rounds from a tidy point, where A = B: after 5 rounds the spares are whom the leafsets offer, and in 6 rounds from there on the farthest node that x
-- holds outside is released, since its commit has stopped rising. By induction on how many are farther nobody is left. Source 000, Lemmata 13, 2) and 14.
use mathlib.Core.Path.{◌≡◌, refl, sym, ap, ◌∙◌, subst}
use mathlib.Core.Logic.{◌⊎◌, inl, inr}
use Prim.Native.Nat.{ℕ, zero, suc, ◌+◌, ◌*◌, ◌≤◌, ◌<◌}
use native.Mathlib.Nat.{le_refl}
use native.Mathlib.Omega.{arith}
use native.Mathlib.Decide.{dec_lt}
use mathlib.Core.Bool.{true, false, not, ◌&&◌}
use mathlib.Core.List.{Memᴰ}
use lib.Dec.{ltb}
use borrow.Author.Tests.{lt-ltb, ltb-true, le-ltb}
use Rattle.model.specs.Key.{distance}
use Rattle.model.specs.Sets.{Set, some, count}
use Rattle.model.specs.Leafset.{Table, size, key, leafset, closest}
use Rattle.model.specs.Ring.{Ring, Message, is_running, holds}
use Rattle.model.specs.WellFormed.{WellFormed, WellFormedTable}
use Rattle.model.specs.Steps.{stamped, naming, plain}
use Rattle.model.specs.Play.{after}
use Rattle.model.specs.declared.event.Event.{Event}
use Rattle.model.specs.declared.event.Event.TheVariants.{Timer, Deliver}
use Rattle.model.proofs.Laws.{clash, and_left, and_right, and_in, not_in, not_out, decide, some_in, some_out, count_le, count_more}
use Rattle.settle_leafsets.specs.Covered.{Even}
use Rattle.settle_leafsets.proofs.Closest.{closest_offer, offer_same}
use Rattle.settle_leafsets.proofs.Mutual.{leafset_mutual}
use Rattle.settle_kept.proofs.Offers.{even_offers}
use Rattle.settle_rounds.proofs.Points.{walk_to, rises, arrives}
use Rattle.settle_rounds.proofs.Turns.{Arrival, Fair, node_of}
use Rattle.settle_cleanup.specs.Cleanup.{Tidy, Calm, Outside, Prepared}
use Rattle.settle_cleanup.proofs.Pairs.{known, leafset_held, new_timer, new_deliver}
use Rattle.settle_cleanup.proofs.Prepared.{Same, same_after, leafset_in, closest_in, Answers, Requests, Spares}
use Rattle.settle_cleanup.proofs.Prepared.{SpareOf, Short, spares_short, Bounded, sent_answers, sent_requests, answers_after}
use Rattle.settle_cleanup.proofs.Prepared.{requests_after, spare_after, bounded_after, gone_after, exact_after, old_after}
use Rattle.settle_cleanup.proofs.Handshake.{asks_spare, asks_trade, offers_spare, takes_spare, acknowledges, releases}

-- 5 rounds, and 6 for each of m
unfoldable pub windows : ℕ → ℕ
windows zero = 5
windows (suc m) = suc (suc (suc (suc (suc (suc (windows m))))))

pub windows_are : (m : ℕ) → windows m ≡ 5 + 6 * m
unfolding windows
windows_are zero = refl
windows_are (suc m) = let e = windows_are m in omega arith

five_le : (m : ℕ) → 5 ≤ windows m
five_le m = let e = windows_are m in omega arith

module _ (t : Table) where
  -- the distance of w from x
  abbrev pub away : ℕ → ℕ → ℕ
  away x w = distance (key t x) (key t w)

  -- how many nodes are farther from x than w is
  unfoldable pub rank : ℕ → ℕ → ℕ
  rank x w = count (size t) (λ v. ltb (away x w) (away x v))

  pub rank_low : (x w : ℕ) → w < size t → rank x w < size t
  unfolding rank
  rank_low x w h =
      let c = count_more (λ v. ltb (away x w) (away x v)) (λ v. true) (size t) (λ i l q. refl) w h (le-ltb (away x w) (away x w) (le_refl (away x w))) refl in
      let l = count_le (size t) (λ v. true) in
      omega arith

  pub rank_rises : (x w z : ℕ) → z < size t → away x w < away x z → rank x z < rank x w
  unfolding rank
  rank_rises x w z h l =
      count_more (λ v. ltb (away x z) (away x v)) (λ v. ltb (away x w) (away x v)) (size t)
      (λ i k q. let g = ltb-true (away x z) (away x i) q in lt-ltb (away x w) (away x i) (omega arith))
      z h (le-ltb (away x z) (away x z) (le_refl (away x z))) (lt-ltb (away x w) (away x z) l)

-- the ring stays, or a calm event is done
pub data CalmTurn (r s : Ring) : Type 0 where
  waits : s ≡ r → CalmTurn r s
  goes : (e : Event) → Calm r e → s ≡ after r e → CalmTurn r s

module _
    (at : ℕ → Ring) (b : ℕ → ℕ) (K : ℕ)
    (fair : Fair at b K)
    (calm : (i : ℕ) → b 0 ≤ i → i < b K → CalmTurn (at i) (at (suc i)))
    (tidy : Tidy (at (b 0)))
    (even : Even (at (b 0)).table)
  where
    abbrev pub t : Table
    t = (at (b 0)).table

    abbrev pub R : Set
    R = is_running (at (b 0))

    -- ---- points

    pub mono : (i j : ℕ) → i ≤ j → j ≤ K → b i ≤ b j
    mono = rises at b K fair

    -- in flight before the end of a round, delivered before the end of the next
    arrive : (m : Message) (i : ℕ) → b 0 ≤ i → Memᴰ m (at i).messages → (j : ℕ) → i ≤ b j → j < K → Arrival at m i (b (suc j))
    arrive m i f p j h l = arrives at b K fair i j f h l m p

    -- what the events keep that happen at the points from i on
    go_on :
        (P : Ring → Type 0) (i : ℕ) → b 0 ≤ i → P (at i) → (j : ℕ) → i ≤ j → j ≤ b K
        → ((k : ℕ) → i ≤ k → k < j → (e : Event) → Calm (at k) e → P (at k) → P (after (at k) e)) → P (at j)
    go_on P i f p j h l keeps = walk_to (λ k. P (at k)) i j h p (λ k g u q. one k (calm k (omega arith) (omega arith)) q (keeps k g u))
      where
        one : (k : ℕ) → CalmTurn (at k) (at (suc k)) → P (at k) → ((e : Event) → Calm (at k) e → P (at k) → P (after (at k) e)) → P (at (suc k))
        one k (waits e) q keep = subst P (sym e) q
        one k (goes e c is) q keep = subst P (sym is) (keep e c q)

    -- what calm events keep is kept
    run :
        (P : Ring → Type 0) → ((s : Ring) → WellFormed s → P s → (e : Event) → Calm s e → P (after s e))
        → (i : ℕ) → b 0 ≤ i → P (at i) → (j : ℕ) → i ≤ j → j ≤ b K → P (at j)
    run P keeps i f p j h l = go_on P i f p j h l (λ k g u e c q. keeps (at k) (fair.well k) q e c)

    -- ---- the rings of the points

    pub same_at : (i : ℕ) → b 0 ≤ i → i ≤ b K → Same t R (at i)
    same_at i f l =
        run (Same t R) (λ s well q e c. same_after t R s well q e c) (b 0) (le_refl (b 0)) (record { tidy = tidy; table = refl; running = λ x. refl }) i f l

    outside_at : (i : ℕ) → b 0 ≤ i → i ≤ b K → (x z : ℕ) → holds (at i) x z ≡ true → leafset t x R z ≡ false → Outside (at i) x z
    outside_at i f l x z h far = record { held = h; far = leafset_in t R (at i) (same_at i f l) x z ∙ far }

    on_at : (i : ℕ) → b 0 ≤ i → i ≤ b K → (x : ℕ) → R x ≡ true → is_running (at i) x ≡ true
    on_at i f l x on = (same_at i f l).running x ∙ on

    -- who is held runs
    held_runs : (i : ℕ) → b 0 ≤ i → i ≤ b K → (x z : ℕ) → R x ≡ true → holds (at i) x z ≡ true → R z ≡ true
    held_runs i f l x z on h = sym ((same_at i f l).running z) ∙ (same_at i f l).tidy.clean.holds_running x (on_at i f l x on) z h

    table_well : WellFormedTable t
    table_well = (fair.well (b 0)).table_well

    low : (x : ℕ) → R x ≡ true → x < size t
    low x on = ((fair.well (b 0)).node_well x).running_low on

    -- ---- after a round the answers in flight are from leafsets of the running nodes

    pub answers_renewed : (j : ℕ) → j < K → Answers t R (at (b (suc j)))
    answers_renewed j h =
        fair.renewed j h (λ m. m.type ≡ 8 → m.subject ≡ closest t m.sender R m.receiver)
        (λ i f l e c runs.
        let lo = mono 0 j (omega arith) (omega arith) in
        let up = mono (suc j) K (omega arith) (le_refl K) in
        let s : Same t R (at i) = same_at i (omega arith) (omega arith) in
        record {
          on_contact = λ x y q k. absurd (omega arith);
          on_timer = λ x k q m i'. sent_answers t R (at i) s m (new_timer (at i) (fair.well i) s.tidy x.0 k m i');
          on_deliver = λ n q on m i'. sent_answers t R (at i) s m (new_deliver (at i) (fair.well i) s.tidy n on m i');
        })

    pub answers_at : (i : ℕ) → b 1 ≤ i → i ≤ b K → 1 ≤ K → Answers t R (at i)
    answers_at i f l k =
        let lo = mono 0 1 (omega arith) k in
        (run (λ s. Same t R s × Answers t R s) (λ s well q e c. (same_after t R s well q.0 e c, answers_after t R s well q.0 e c q.1))
        (b 1) lo (same_at (b 1) lo (omega arith), answers_renewed 0 (omega arith)) i f l).1

    -- ---- in three rounds x has a spare for z, or does not hold it

    pub record Comes (x z from to : ℕ) : Type 0 where
      pub point : ℕ
      pub not_before : from ≤ point
      pub not_after : point ≤ to
      pub either : (holds (at point) x z ≡ false) ⊎ (((at point).node x).own.spare z ≡ closest t z R x)

    module _ (x z : ℕ) (on : R x ≡ true) (far : leafset t x R z ≡ false) where
      -- z's answer flies
      answered : (i j : ℕ) → b 0 ≤ i → i ≤ b j → j < K → Memᴰ (naming 8 z x (closest t z R x)) (at i).messages → Comes x z i (b (suc j))
      answered i j f h l m =
          let a = arrive (naming 8 z x (closest t z R x)) i f m j h l in
          let up = mono (suc j) K (omega arith) (le_refl K) in
          let k : ℕ = a.0 in
          let before : k < b (suc j) = a.2 in
          let since : i ≤ k = a.1 in
          decide (holds (at k) x z)
          (λ h'. record {
            point = suc k;
            not_before = omega arith;
            not_after = before;
            either = inr (subst (λ (s : Ring). (s.node x).own.spare z ≡ closest t z R x) (sym a.3.2)
                (takes_spare (at k) (fair.well k) (same_at k (omega arith) (omega arith)).tidy a.3.0 x z (closest t z R x) a.3.1
                (on_at k (omega arith) (omega arith) x on) h'));
          })
          (λ h'. record { point = k; not_before = since; not_after = omega arith; either = inl h' })

      -- x's question flies
      asked_z : (i j : ℕ) → R z ≡ true → b 0 ≤ i → i ≤ b j → suc j < K → Memᴰ (plain 7 x z) (at i).messages → Comes x z i (b (suc (suc j)))
      asked_z i j runs f h l m =
          let a = arrive (plain 7 x z) i f m j h (omega arith) in
          let up = mono (suc j) K (omega arith) (le_refl K) in
          let k : ℕ = a.0 in
          let before : k < b (suc j) = a.2 in
          let since : i ≤ k = a.1 in
          let s = same_at k (omega arith) (omega arith) in
          let c = answered (suc k) (suc j) (omega arith) before l
          (subst (λ (q : Ring). Memᴰ (naming 8 z x (closest t z R x)) q.messages) (sym a.3.2)
          (subst (λ (y : ℕ). Memᴰ (naming 8 z x y) (after (at k) (Deliver a.3.0 false)).messages) (closest_in t R (at k) s z x)
          (offers_spare (at k) (fair.well k) s.tidy a.3.0 x z a.3.1 (on_at k (omega arith) (omega arith) z runs)))) in
          record { point = c.point; not_before = omega (arith, c.not_before); not_after = c.not_after; either = c.either }

      pub spare_comes : (j : ℕ) → suc (suc j) < K → Comes x z (b j) (b (suc (suc (suc j))))
      spare_comes j l =
          let lo = mono 0 j (omega arith) (omega arith) in
          let mid = mono j (suc (suc (suc j))) (omega arith) l in
          let end = mono (suc j) (suc (suc (suc j))) (omega arith) l in
          let all = mono j K (omega arith) (le_refl K) in
          let up = mono (suc j) K (omega arith) (le_refl K) in
          let a = fair.fires j (omega arith) x (on_at (b j) lo (omega arith) x on) 2 refl in
          let k : ℕ = a.0 in
          let since : b j ≤ k = a.1 in
          let before : k < b (suc j) = a.2 in
          decide (holds (at k) x z)
          (λ h.
          let s = same_at k (omega arith) (omega arith) in
          let c = asked_z (suc k) (suc j) (held_runs k (omega arith) (omega arith) x z on h) (omega arith) before l
          (subst (λ (q : Ring). Memᴰ (plain 7 x z) q.messages) (sym a.3)
          (asks_spare (at k) (fair.well k) s.tidy x z (outside_at k (omega arith) (omega arith) x z h far))) in
          record { point = c.point; not_before = omega (arith, c.not_before); not_after = c.not_after; either = c.either })
          (λ h. record { point = k; not_before = since; not_after = omega arith; either = inl h })

    -- ---- after 5 rounds the ring is prepared

    spare_at_lem : 4 ≤ K → (x z : ℕ) → R x ≡ true → leafset t x R z ≡ false → SpareOf t R x z (at (b 4))
    spare_at_lem k x z on far =
        let c = spare_comes x z on far 1 k in
        let lo = mono 0 1 (omega arith) (omega arith) in
        let up = mono 4 K k (le_refl K) in
        let from : b 1 ≤ c.point = c.not_before in
        let to : c.point ≤ b 4 = c.not_after in
        let here : SpareOf t R x z (at c.point) =
        elim c.either [ inl h ↦ inl (((fair.well c.point).node_well x).own_well.spare_none z h) | inr e ↦ inr e ] in
        (run (λ s. Same t R s × Answers t R s × SpareOf t R x z s)
        (λ s well q e d. (
          same_after t R s well q.0 e d,
          answers_after t R s well q.0 e d q.1,
          spare_after t R s well q.0 e d q.1 x z on far q.2,
        ))
        c.point (omega arith) (same_at c.point (omega arith) (omega arith), answers_at c.point from (omega arith) (omega arith), here) (b 4) to up).2

    spares_at : 4 ≤ K → (i : ℕ) → b 4 ≤ i → i ≤ b K → Spares t R (at i)
    spares_at k i f l =
        let lo = mono 0 4 (omega arith) k in
        let up = mono 4 K k (le_refl K) in
        let one = mono 1 4 (omega arith) k in
        (run (λ s. Same t R s × Answers t R s × Spares t R s)
        (λ s well q e d. (
          same_after t R s well q.0 e d,
          answers_after t R s well q.0 e d q.1,
          λ x z on far. spare_after t R s well q.0 e d q.1 x z on far (q.2 x z on far),
        ))
        (b 4) lo (same_at (b 4) lo up, answers_at (b 4) one up (omega arith), spare_at_lem k) i f l).2

    requests_renewed : 5 ≤ K → Requests t R (at (b 5))
    requests_renewed k =
        fair.renewed 4 k (λ m. m.type ≡ 9 → m.receiver ≡ closest t m.subject R m.sender)
        (λ i f l e c runs.
        let lo = mono 0 4 (omega arith) (omega arith) in
        let up = mono 5 K k (le_refl K) in
        let s : Same t R (at i) = same_at i (omega arith) (omega arith) in
        let spares : Spares t R (at i) = spares_at (omega arith) i f (omega arith) in
        record {
          on_contact = λ x y q n. absurd (omega arith);
          on_timer = λ x n q m i'. sent_requests t R (at i) s spares m (new_timer (at i) (fair.well i) s.tidy x.0 n m i');
          on_deliver = λ n q on m i'. sent_requests t R (at i) s spares m (new_deliver (at i) (fair.well i) s.tidy n on m i');
        })

    pub prepared_start : 5 ≤ K → Prepared t R (at (b 5))
    prepared_start k =
        let one = mono 1 5 (omega arith) k in
        let four = mono 4 5 (omega arith) k in
        let up = mono 5 K k (le_refl K) in
        record { answers = answers_at (b 5) one up (omega arith); spares = spares_at (omega arith) (b 5) four up; requests = requests_renewed k }

    prepared_after : (s : Ring) → WellFormed s → Same t R s → Prepared t R s → (e : Event) → Calm s e → Prepared t R (after s e)
    prepared_after s well is p e c =
        record {
          answers = answers_after t R s well is e c p.answers;
          spares = λ x z on far. spare_after t R s well is e c p.answers x z on far (p.spares x z on far);
          requests = requests_after t R s well is e c p.spares p.requests;
        }

    pub prepared_at : (i : ℕ) → b 0 ≤ i → i ≤ b K → Prepared t R (at i) → (j : ℕ) → i ≤ j → j ≤ b K → Prepared t R (at j)
    prepared_at i f l p j h u =
        (run (λ s. Same t R s × Prepared t R s) (λ s well q e c. (same_after t R s well q.0 e c, prepared_after s well q.0 q.1 e c)) i f
        (same_at i f l, p) j h u).1

    -- ---- while it is the farthest that x holds outside, its spare stays whom z offers

    abbrev Exact : ℕ → ℕ → Ring → Type 0
    Exact x z s = holds s x z ≡ true → (s.node x).own.spare z ≡ closest t z R x

    module _
        (j : ℕ) (fits : suc (suc j) < K)
        (answers : Answers t R (at (b j)))
        (short : (i : ℕ) → b j ≤ i → i ≤ b K → Short t R (at i))
        (x z : ℕ) (on : R x ≡ true) (far : leafset t x R z ≡ false)
        (bounded : Bounded t R x (distance (key t x) (key t z)) (at (b j)))
      where
        first : b 0 ≤ b j
        first = mono 0 j (omega arith) (omega arith)

        last : b j ≤ b K
        last = mono j K (omega arith) (le_refl K)

        pub bounded_on : (i : ℕ) → b j ≤ i → i ≤ b K → Bounded t R x (distance (key t x) (key t z)) (at i)
        bounded_on i f l =
            let d = first in
            go_on (Bounded t R x (distance (key t x) (key t z))) (b j) d bounded i f l (λ k h u e c q.
            bounded_after t R (at k) (fair.well k) (same_at k (omega arith) (omega arith)) e c (short k h (omega arith)) x (distance (key t x) (key t z)) on q)

        answers_on : (i : ℕ) → b j ≤ i → i ≤ b K → Answers t R (at i)
        answers_on i f l =
            let d = first in
            go_on (Answers t R) (b j) d answers i f l (λ k h u e c q. answers_after t R (at k) (fair.well k) (same_at k (omega arith) (omega arith)) e c q)

        exact_on : (i : ℕ) → b j ≤ i → Exact x z (at i) → (k : ℕ) → i ≤ k → k ≤ b K → Exact x z (at k)
        exact_on i f p k h u =
            let d = first in
            go_on (Exact x z) i (omega arith) p k h u (λ n g v e c q.
            exact_after t R (at n) (fair.well n) (same_at n (omega arith) (omega arith)) e c (short n (omega arith) (omega arith)) x z on far
            (bounded_on n (omega arith) (omega arith)) (answers_on n (omega arith) (omega arith)) q)

        -- three rounds on, x has z's spare, or does not hold z
        pub exact_comes : (k : ℕ) → b (suc (suc (suc j))) ≤ k → k ≤ b K → Exact x z (at k)
        exact_comes k h u =
            let c = spare_comes x z on far j fits in
            let from : b j ≤ c.point = c.not_before in
            let to : c.point ≤ b (suc (suc (suc j))) = c.not_after in
            exact_on c.point from (elim c.either [ inl n ↦ λ q. clash q n | inr e ↦ λ q. e ]) k (omega arith) u

    -- ---- from a prepared point on, where x has z's spare, z is released in 3 rounds

    module _
        (j : ℕ) (fits : suc (suc (suc j)) ≤ K)
        (prepared : Prepared t R (at (b j)))
        (x z : ℕ) (on : R x ≡ true) (far : leafset t x R z ≡ false)
        (bounded : Bounded t R x (distance (key t x) (key t z)) (at (b j)))
        (exact : Exact x z (at (b j)))
      where
        lo : b 0 ≤ b j
        lo = mono 0 j (omega arith) (omega arith)

        all : b j ≤ b K
        all = mono j K (omega arith) (le_refl K)

        -- what is so from here on
        record Now (s : Ring) : Type 0 where
          is : Same t R s
          ready : Prepared t R s
          near : Bounded t R x (distance (key t x) (key t z)) s
          spare : Exact x z s

        now_after : (s : Ring) → WellFormed s → Now s → (e : Event) → Calm s e → Now (after s e)
        now_after s well n e c =
            let short = spares_short t R s n.ready.spares in
            record {
              is = same_after t R s well n.is e c;
              ready = prepared_after s well n.is n.ready e c;
              near = bounded_after t R s well n.is e c short x (distance (key t x) (key t z)) on n.near;
              spare = exact_after t R s well n.is e c short x z on far n.near n.ready.answers n.spare;
            }

        now : (i : ℕ) → b j ≤ i → i ≤ b K → Now (at i)
        now i f l = run Now now_after (b j) lo (record { is = same_at (b j) lo all; ready = prepared; near = bounded; spare = exact }) i f l

        abbrev end : ℕ
        end = b (suc (suc (suc j)))

        to_end : end ≤ b K
        to_end = mono (suc (suc (suc j))) K fits (le_refl K)

        -- once released, it is gone at the end
        gone_at : (i : ℕ) → b j ≤ i → i ≤ end → holds (at i) x z ≡ false → holds (at end) x z ≡ false
        gone_at i f l h =
            let u = to_end in
            let d = lo in
            (run (λ s. Now s × (holds s x z ≡ false))
            (λ s well q e c. (
              now_after s well q.0 e c,
              gone_after t R s well q.0.is e c (spares_short t R s q.0.ready.spares) x z on far q.0.near q.1,
            ))
            i (omega arith) (now i f (omega arith), h) end l to_end).1

        abbrev Old : ℕ → Ring → Type 0
        Old c s = holds s x z ≡ true → (s.node x).own.commit z ≤ c

        old_at : (c i : ℕ) → b j ≤ i → i ≤ b K → Old c (at i) → (k : ℕ) → i ≤ k → k ≤ b K → Old c (at k)
        old_at c i f l p k h u =
            let d = lo in
            (run (λ s. Now s × Old c s)
            (λ s well q e g. (
              now_after s well q.0 e g,
              old_after t R s well q.0.is e g (spares_short t R s q.0.ready.spares) x z on far q.0.near even q.0.ready.requests c
                  q.1,
            ))
            i (omega arith) (now i f l, p) k h u).1

        abbrev y : ℕ
        y = closest t z R x

        -- whom z offers runs, and has z in its leafset
        record Good : Type 0 where
          there : R y ≡ true
          has : leafset t y R z ≡ true

        good : (i : ℕ) → b j ≤ i → i ≤ b K → holds (at i) x z ≡ true → Good
        good i f l h =
            let d = lo in
            let s : Same t R (at i) = same_at i (omega arith) l in
            let w = fair.well i in
            let out = outside_at i (omega arith) l x z h far in
            let here = on_at i (omega arith) l x on in
            let g = even_offers (at i) w s.tidy.clean s.tidy.covered
            (subst Even (sym s.table) even) x z here h out.far in
            let runs : R z ≡ true = held_runs i (omega arith) l x z on h in
            let e : closest (at i).table z (holds (at i) z) x ≡ y =
            offer_same (at i).table z (holds (at i) z) (is_running (at i)) (known (at i) w s.tidy z (on_at i (omega arith) l z runs)) x
            ∙ closest_in t R (at i) s z x in
            let yes-runs : R y ≡ true = sym (s.running y) ∙ ap (is_running (at i)) (sym e) ∙ g.offer_runs in
            record {
              there = yes-runs;
              has = elim (closest_offer t R z x) [
                | inl n ↦ (let hy = low y yes-runs in let hs = table_well.size_high in absurd (omega arith))
                | inr o ↦ leafset_mutual t table_well R even y z (low y yes-runs) (low z runs) yes-runs runs ∙ o.mine
              ];
            }

        -- y's acknowledgement flies
        trade : (c i : ℕ) → b j ≤ i → i ≤ b (suc (suc j)) → Old c (at i)
            → Memᴰ (stamped 10 y x z (c + 1)) (at i).messages → holds (at end) x z ≡ false
        trade c i f l old m =
            let d = lo in
            let u = to_end in
            let a = arrive (stamped 10 y x z (c + 1)) i (omega arith) m (suc (suc j)) l fits in
            let k : ℕ = a.0 in
            let since : i ≤ k = a.1 in
            let before : k < end = a.2 in
            decide (holds (at k) x z)
            (λ h.
            let n = now k (omega arith) (omega arith) in
            let young : ((at k).node x).own.commit z ≤ c = old_at c i f (omega arith) old k since (omega arith) h in
            gone_at (suc k) (omega arith) before
            (subst (λ (q : Ring). holds q x z ≡ false) (sym a.3.2)
            (releases (at k) (fair.well k) n.is.tidy a.3.0 x y z (c + 1) a.3.1 (outside_at k (omega arith) (omega arith) x z h far) (n.spare h)
            (omega arith))))
            (λ h. gone_at k (omega arith) (omega arith) h)

        -- x's request flies
        request : (c i : ℕ) → b j ≤ i → i ≤ b (suc j) → Good → Old c (at i)
            → Memᴰ (stamped 9 x y z (c + 1)) (at i).messages → holds (at end) x z ≡ false
        request c i f l g old m =
            let d = lo in
            let u = to_end in
            let two = mono (suc (suc j)) (suc (suc (suc j))) (omega arith) fits in
            let a = arrive (stamped 9 x y z (c + 1)) i (omega arith) m (suc j) l (omega arith) in
            let k : ℕ = a.0 in
            let since : i ≤ k = a.1 in
            let before : k < b (suc (suc j)) = a.2 in
            let s : Same t R (at k) = same_at k (omega arith) (omega arith) in
            let there : is_running (at k) y ≡ true = on_at k (omega arith) (omega arith) y g.there in
            let held : holds (at k) y z ≡ true = leafset_held (at k) (fair.well k) s.tidy y there z (leafset_in t R (at k) s y z ∙ g.has) in
            let up : suc k ≤ b K = omega arith in
            trade c (suc k) (omega arith) before (old_at c i f (omega arith) old (suc k) (omega arith) up)
            (subst (λ (q : Ring). Memᴰ (stamped 10 y x z (c + 1)) q.messages) (sym a.3.2)
            (acknowledges (at k) (fair.well k) s.tidy a.3.0 x y z (c + 1) a.3.1 there held))

        pub released : holds (at end) x z ≡ false
        released =
            let d = lo in
            let u = to_end in
            let one = mono (suc j) (suc (suc (suc j))) (omega arith) fits in
            let a = fair.fires j (omega arith) x (on_at (b j) lo all x on) 3 refl in
            let k : ℕ = a.0 in
            let since : b j ≤ k = a.1 in
            let before : k < b (suc j) = a.2 in
            let kK : k ≤ b K = omega arith in
            decide (holds (at k) x z)
            (λ h.
            let n = now k since kK in
            let c : ℕ = ((at k).node x).clock in
            let g : Good = good k since kK h in
            let spare : ((at k).node x).own.spare z ≡ y = n.spare h in
            let some-y : ¬ (((at k).node x).own.spare z ≡ 64) =
            λ e. let q : y ≡ 64 = sym spare ∙ e in let hy = low y g.there in let hs = table_well.size_high in omega arith in
            let up' : suc k ≤ b K = omega arith in
            request c (suc k) (omega arith) before g
            (old_at c k since kK (λ q. ((fair.well k).node_well x).own_well.commit_high z) (suc k) (omega arith) up')
            (subst (λ (q : Ring). Memᴰ (stamped 9 x y z (c + 1)) q.messages) (sym a.3)
            (subst (λ (v : ℕ). Memᴰ (stamped 9 x v z (c + 1)) (after (at k) (Timer (node_of x) 3)).messages) spare
            (asks_trade (at k) (fair.well k) n.is.tidy x z (outside_at k (omega arith) kK x z h far) some-y))))
            (λ h. gone_at k since (omega arith) h)

    -- ---- so from a prepared point on the farthest that x holds outside is released in 6 rounds

    pub released_in_6 :
        (j : ℕ) → suc (suc (suc (suc (suc (suc j))))) ≤ K → Prepared t R (at (b j))
        → (x z : ℕ) → R x ≡ true → leafset t x R z ≡ false → Bounded t R x (distance (key t x) (key t z)) (at (b j))
        → holds (at (b (suc (suc (suc (suc (suc (suc j)))))))) x z ≡ false
    released_in_6 j fits prepared x z on far bounded =
        let three : ℕ = suc (suc (suc j)) in
        let d = mono 0 j (omega arith) (omega arith) in
        let e = mono j K (omega arith) (le_refl K) in
        let here = mono j three (omega arith) (omega arith) in
        let up = mono three K (omega arith) (le_refl K) in
        let short : (i : ℕ) → b j ≤ i → i ≤ b K → Short t R (at i) = λ i f l. spares_short t R (at i) (prepared_at (b j) d e prepared i f l).spares in
        released three fits (prepared_at (b j) d e prepared (b three) here up) x z on far
        (bounded_on j (omega arith) prepared.answers short x z on far bounded (b three) here up)
        (exact_comes j (omega arith) prepared.answers short x z on far bounded (b three) (le_refl (b three)) up)

    -- and from any tidy point on in 8, where spares are nearer than those whom they replace
    pub released_in_8 :
        8 ≤ K → ((i : ℕ) → b 0 ≤ i → i ≤ b K → Short t R (at i))
        → (x z : ℕ) → R x ≡ true → leafset t x R z ≡ false → Bounded t R x (distance (key t x) (key t z)) (at (b 0))
        → holds (at (b 8)) x z ≡ false
    released_in_8 fits short x z on far bounded =
        let one = mono 0 1 (omega arith) (omega arith) in
        let four = mono 1 5 (omega arith) (omega arith) in
        let five = mono 4 5 (omega arith) (omega arith) in
        let up = mono 5 K (omega arith) (le_refl K) in
        let near : (i : ℕ) → b 0 ≤ i → i ≤ b K → Bounded t R x (distance (key t x) (key t z)) (at i) =
        λ i f l. go_on (Bounded t R x (distance (key t x) (key t z))) (b 0) (le_refl (b 0)) bounded i f l (λ k h u e c q.
        bounded_after t R (at k) (fair.well k) (same_at k h (omega arith)) e c (short k h (omega arith)) x (distance (key t x) (key t z)) on q) in
        released 5 fits (prepared_start (omega arith)) x z on far (near (b 5) (omega arith) up)
        (exact_comes 1 (omega arith) (answers_renewed 0 (omega arith)) (λ i f l. short i (omega arith) l) x z on far (near (b 1) one (omega arith))
        (b 5) five up)

    -- ---- so in 6 rounds the farthest becomes nearer

    -- x holds w outside at the point i
    pub record Out (i x w : ℕ) : Type 0 where
      pub held : holds (at i) x w ≡ true
      pub far : leafset t x R w ≡ false

    abbrev farther : ℕ → ℕ → ℕ → Set
    farther i x w z = holds (at i) x z && not (leafset t x R z) && ltb (away t x w) (away t x z)

    -- nobody is farther than w
    none_farther : (i x w : ℕ) → b 0 ≤ i → i ≤ b K → some (size t) (farther i x w) ≡ false → Bounded t R x (away t x w) (at i)
    none_farther i x w f l none u h far =
        elim (dec_lt (away t x w) (away t x u)) [
          | yes k ↦
              (let low : u < size (at i).table = (((fair.well i).node_well x).own_well.held_other u h).low in
              clash
              (some_in (size t) (farther i x w) u (subst (λ (v : Table). u < size v) (same_at i f l).table low)
              (and_in (and_in h (not_in far)) (lt-ltb (away t x w) (away t x u) k)))
              none)
          | no k ↦ omega arith
        ]

    -- where nobody as far as w is held outside at the earlier point, w is not held at the later one
    shrinks :
        (i k x w : ℕ) → b 0 ≤ i → i ≤ b K → (Bounded t R x (away t x w) (at i) → holds (at k) x w ≡ false) → Out k x w → (z : ℕ) × Out i x z
        × (away t x w < away t x z)
    shrinks i k x w lo up gone out =
        decide (some (size t) (farther i x w))
        (λ e.
        let p = some_out (size t) (farther i x w) e in
        let z : ℕ = p.0 in
        let both : (holds (at i) x z && not (leafset t x R z)) ≡ true = and_left (holds (at i) x z && not (leafset t x R z)) _ p.2 in (
          z,
          record { held = and_left (holds (at i) x z) _ both; far = not_out (leafset t x R z) (and_right (holds (at i) x z) _ both) },
          ltb-true (away t x w) (away t x z) (and_right (holds (at i) x z && not (leafset t x R z)) _ p.2),
        ))
        (λ e. clash out.held (gone (none_farther i x w lo up e)))

    pub window : (j : ℕ) → suc (suc (suc (suc (suc (suc j))))) ≤ K → Prepared t R (at (b j))
        → (x w : ℕ) → R x ≡ true → Out (b (suc (suc (suc (suc (suc (suc j))))))) x w
        → (z : ℕ) × Out (b j) x z × (away t x w < away t x z)
    window j fits prepared x w on out =
        shrinks (b j) _ x w (mono 0 j (omega arith) (omega arith)) (mono j K (omega arith) (le_refl K)) (released_in_6 j fits prepared x w on out.far) out

    pub window_8 : 8 ≤ K → ((i : ℕ) → b 0 ≤ i → i ≤ b K → Short t R (at i))
        → (x w : ℕ) → R x ≡ true → Out (b 8) x w → (z : ℕ) × Out (b 0) x z × (away t x w < away t x z)
    window_8 fits short x w on out =
        shrinks (b 0) (b 8) x w (le_refl (b 0)) (mono 0 K (omega arith) (le_refl K)) (released_in_8 fits short x w on out.far) out

    -- ---- and after 5 rounds and 6 for each node of the table nobody is left

    prepared_then : (m : ℕ) → windows m ≤ K → Prepared t R (at (b (windows m)))
    prepared_then m l =
        let five = five_le m in
        prepared_at (b 5) (mono 0 5 (omega arith) (omega arith)) (mono 5 K (omega arith) (le_refl K)) (prepared_start (omega arith)) (b (windows m))
        (mono 5 (windows m) five l) (mono (windows m) K l (le_refl K))

    ranks : (m : ℕ) → windows m ≤ K → (x w : ℕ) → R x ≡ true → Out (b (windows m)) x w → m ≤ rank t x w
    unfolding windows
    ranks zero l x w on out = omega arith
    ranks (suc m) l x w on out =
        let p = window (windows m) l (prepared_then m (omega arith)) x w on out in
        let z : ℕ = p.0 in
        let near : away t x w < away t x z = p.2 in
        let was : Out (b (windows m)) x z = p.1 in
        let lo = mono 0 (windows m) (omega arith) (omega arith) in
        let up = mono (windows m) K (omega arith) (le_refl K) in
        let low : z < size t = subst (λ (v : Table). z < size v) (same_at (b (windows m)) lo up).table
        (((fair.well (b (windows m))).node_well x).own_well.held_other z was.held).low in
        let before : m ≤ rank t x z = ranks m (omega arith) x z on was in
        let more : rank t x z < rank t x w = rank_rises t x w z low near in
        omega arith

    pub none_left : windows (size t) ≤ K → (x w : ℕ) → R x ≡ true → Out (b (windows (size t))) x w → ⊥
    none_left l x w on out =
        let lo = mono 0 (windows (size t)) (omega arith) l in
        let up = mono (windows (size t)) K l (le_refl K) in
        let low : w < size t = subst (λ (v : Table). w < size v) (same_at (b (windows (size t))) lo up).table
        (((fair.well (b (windows (size t)))).node_well x).own_well.held_other w out.held).low in
        let high : size t ≤ rank t x w = ranks (size t) l x w on out in
        let less : rank t x w < size t = rank_low t x w low in
        omega arith
