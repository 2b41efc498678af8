-- Types 7 to 10 in rounds in which leafsets stay as they are: whom a node outside a leafset offers is held six rounds later, or earlier;
-- one that offers nobody stays, and does not lack the one that asks it. Source 000, Lemma 13, 1).
use mathlib.Core.Path.{◌≡◌, refl, sym, ap, ◌∙◌, subst}
use mathlib.Core.Logic.{◌⊎◌, inl, inr}
use Prim.Native.Nat.{ℕ, suc, ◌+◌, ◌*◌, ◌≤◌, ◌<◌, zero-le}
use native.Mathlib.Nat.{le_refl}
use native.Mathlib.Omega.{arith}
use mathlib.Core.Bool.{true, false, not, ◌&&◌}
use mathlib.Core.List.{[], Memᴰ}
use lib.Dec.{eqb, ltb}
use borrow.Author.Tests.{eq-eqb, ne_eqb}
use Rattle.std.specs.Prelude.{if◌then◌else◌}
use Rattle.model.specs.Sets.{members, none_node}
use Rattle.model.specs.Leafset.{Table, size}
use Rattle.model.specs.Ring.{Ring, Own, Message, is_running, holds}
use Rattle.model.specs.Steps.{Effect, plain, naming, stamped, set_commit, hold, release, outside, timer3, timer, on_ping_replace, on_pong_replace, deliver}
use Rattle.model.specs.Play.{after}
use Rattle.model.specs.declared.event.Event.TheVariants.{Timer}
use Rattle.model.proofs.Laws.{clash, and_in, not_in, if_law}
use Rattle.model.proofs.Choices.{leafset_within, leafset_other}
use Rattle.settle_leafsets.specs.Covered.{lacks}
use Rattle.settle_leafsets.specs.Quiescent.{chosen, offer_of, Meets, held, replaced}
use Rattle.settle_leafsets.proofs.Closest.{offer_of_lem}
use Rattle.settle_kept.proofs.Keeping.{now_at, own_at}
use Rattle.settle_rounds.proofs.Turns.{Delivered, Turn, stands, turns, node_of, deliver_at}
use Rattle.settle_rounds.proofs.Takings.{hold_takes, held_after, spare_stays}
use Rattle.settle_rounds.proofs.Window.{Stretch, at, b, K, fair, rises, kept}
use Rattle.settle_rounds.proofs.Window.{answered, members_in, map_in, received_own, fired_sends}
use Rattle.settle_rounds.proofs.Points.{until_at}
use Rattle.settle_rounds.proofs.Inviting.{Steady, start, asked_knows}
use Rattle.settle_rounds.proofs.Spares.{Steadfast, Good, good_stays, offered_at, offers_z, sends_7, notes_spare}

module _ (t : Table) (x now : ℕ) (o : Own) where
  pub sends_9 :
      (z : ℕ) → z < size t → outside t x now o z ≡ true → ¬ (o.spare z ≡ none_node)
      → Memᴰ (stamped 9 x (o.spare z) z now) (timer t x now o 3).sent
  unfolding timer timer3
  sends_9 z l e d =
      map_in (λ z. stamped 9 x (o.spare z) z now) z (members (size t) (λ z. outside t x now o z && not (eqb (o.spare z) none_node)))
      (members_in (size t) (λ z. outside t x now o z && not (eqb (o.spare z) none_node)) z l (and_in e (not_in (ne_eqb (o.spare z) none_node d))))

  pub answers_9 : (y z time : ℕ) → o.held z ≡ true → Memᴰ (stamped 10 x y z time) (deliver t x now o (stamped 9 y x z time)).sent
  unfolding on_ping_replace
  answers_9 y z time h =
      subst (λ (e : Effect). Memᴰ (stamped 10 x y z time) e.sent) (sym (deliver_at t x now o (stamped 9 y x z time) 9 refl))
      (if_law (λ (e : Effect). Memᴰ (stamped 10 x y z time) e.sent) (o.held z) _ _ (λ q. Memᴰ.head refl) (λ q. clash h q))

  takes_offer : (y z time : ℕ) → outside t x now o z ≡ true → o.spare z ≡ y → ¬ (y ≡ z) → (deliver t x now o (stamped 10 y x z time)).own.held y ≡ true
  unfolding on_pong_replace release
  takes_offer y z time out is d =
      subst (λ (e : Effect). e.own.held y ≡ true) (sym (deliver_at t x now o (stamped 10 y x z time) 10 refl))
      (if_law (λ (e : Effect). e.own.held y ≡ true) (outside t x now o z && eqb (o.spare z) y)
      (record { own = if ltb (o.commit z) time then set_commit y now (release z (hold now y o)) else hold now y o; sent = [] }) (record { own = o; sent = [] })
      (λ q. if_law (λ (p : Own). p.held y ≡ true) (ltb (o.commit z) time) (set_commit y now (release z (hold now y o))) (hold now y o)
      (λ old. and_in (hold_takes now y o) (not_in (ne_eqb y z d))) (λ old. hold_takes now y o))
      (λ q. clash (and_in out (eq-eqb (o.spare z) y is)) q))

module _ (w : Stretch) (steady : Steady w) (honest : (m : Message) → Memᴰ m (start w steady).messages → Steadfast w steady m) where
  abbrev s : Ring
  s = start w steady

  module _
      (good : (x z : ℕ) → is_running s x ≡ true → is_running s z ≡ true → chosen s x z ≡ false → Good w steady honest x z ((own_at s x).spare z))
      (x z : ℕ) (on-x : is_running s x ≡ true) (on-z : is_running s z ≡ true) (out : chosen s x z ≡ false)
    where
      abbrev y : ℕ
      y = offer_of s z x

      -- x holds y at some point up to f
      abbrev pub Later : ℕ → Type 0
      Later f = (i : ℕ) × (b w 0 ≤ i) × (i ≤ f) × (holds (at w i) x y ≡ true)

      longer : (f g : ℕ) → f ≤ g → Later f → Later g
      longer f g h l = (l.0, l.1, omega (arith, l.2), l.3)

      outside_at : (k : ℕ) → b w 0 ≤ k → k ≤ b w (K w) → holds (at w k) x z ≡ true → outside (at w k).table x (now_at (at w k) x) (own_at (at w k) x) z ≡ true
      outside_at k f l h = and_in h (not_in (steady k f l x on-x z ∙ out))

      spare_good : (k : ℕ) → b w 0 ≤ k → k ≤ b w (K w) → Good w steady honest x z ((own_at (at w k) x).spare z)
      spare_good k f l = good_stays w steady honest x z on-x on-z (b w 0) k (le_refl (b w 0)) f l (good x z on-x on-z out)

      -- z stays, or y is held in its place
      held_turn : (k : ℕ) → b w 0 ≤ k → k < b w (K w) → holds (at w k) x z ≡ true → Turn (at w k) (at w (suc k))
          → (holds (at w (suc k)) x z ≡ true) ⊎ ((holds (at w (suc k)) x y ≡ true) × (y < none_node))
      held_turn k f l h (stands e) = inl (subst (λ (u : Ring). holds u x z ≡ true) (sym e) h)
      held_turn k f l h (turns e q runs is) =
          let c = kept w k f (omega arith) in
          elim (held_after (at w k) ((fair w).well k) c.still_clean e q x (c.running x ∙ on-x) z (c.running z ∙ on-z) h) [
            | inl p ↦ inl (subst (λ (u : Ring). holds u x z ≡ true) (sym is) p)
            | inr p ↦
                (let top = ((fair w).well k).table_well.size_high in
                let low = p.1.2 in
                elim (spare_good k f (omega arith)) [
                  | inl none ↦ (let i : p.1.0 ≡ none_node = sym p.1.1 ∙ none in absurd (omega arith))
                  | inr some ↦
                      (let i : p.1.0 ≡ y = sym p.1.1 ∙ some in
                      inr (subst (λ (u : Ring). holds u x y ≡ true) (sym is) (subst (λ (v : ℕ). holds (after (at w k) e) x v ≡ true) i p.1.3), omega arith))
                ])
          ]

      stays : (i f : ℕ) → b w 0 ≤ i → i ≤ f → f ≤ b w (K w) → holds (at w i) x z ≡ true → (holds (at w f) x z ≡ true) ⊎ (Later f × (y < none_node))
      stays i f from to end h =
          elim (until_at (λ k. holds (at w k) x z ≡ true) (λ k. (holds (at w (suc k)) x y ≡ true) × (y < none_node)) i f to h
          (λ k p q a. held_turn k (omega arith) (omega arith) a ((fair w).turn k (omega arith) (omega arith)))) [
            | inl a ↦ inl a
            | inr q ↦ inr ((suc q.0, omega (arith, q.1), q.2, q.3.0), q.3.1)
          ]

      -- one that offers nobody stays, is asked, and does not lack x
      pub offers_none : (i j : ℕ) → b w 0 ≤ i → i ≤ b w j → suc (suc (suc (suc (suc j)))) ≤ K w → holds (at w i) x z ≡ true → y ≡ none_node
          → lacks s z x ≡ false
      offers_none i j f l room h none =
          let end_1 = rises w (suc j) (K w) (omega arith) (le_refl (K w)) in
          let mid = rises w 0 j zero-le (omega arith) in
          let top = rises w j (K w) (omega arith) (le_refl (K w)) in
          let fire = (fair w).fires j (omega arith) x ((kept w (b w j) (omega arith) (omega arith)).running x ∙ on-x) 0 refl in
          elim (stays i fire.0 f (omega (arith, fire.1)) (omega (arith, fire.2)) h) [
            | inl q ↦ asked_knows w steady x z on-x fire.0 (suc j) (omega (arith, fire.1)) fire.2 fire.3 q room
            | inr q ↦ absurd (omega (arith, q.1))
          ]

      module _ (some : ¬ (y ≡ none_node)) (back : chosen s y z ≡ true) where
        -- z is held, with the spare y
        abbrev Ready : ℕ → Type 0
        Ready k = (holds (at w k) x z ≡ true) × ((own_at (at w k) x).spare z ≡ y)

        ready_turn : (k : ℕ) → b w 0 ≤ k → k < b w (K w) → Ready k → Turn (at w k) (at w (suc k)) → Ready (suc k) ⊎ (holds (at w (suc k)) x y ≡ true)
        ready_turn k f l h (stands e) = inl (subst (λ (u : Ring). (holds u x z ≡ true) × ((own_at u x).spare z ≡ y)) (sym e) h)
        ready_turn k f l h (turns e q runs is) =
            let c = kept w k f (omega arith) in
            elim (held_turn k f l h.0 (turns e q runs is)) [
              | inr p ↦ inr p.0
              | inl p ↦ elim (spare_stays (at w k) ((fair w).well k) c.still_clean e q x (c.running x ∙ on-x) z y h.0 h.1
                  (λ i n to eight from. offered_at w steady honest k f (omega arith) x z on-z i to eight from)) [
                    | inl g ↦ clash (ap (λ (u : Ring). holds u x z) (sym is) ∙ p) g
                    | inr g ↦ inl (p, ap (λ (u : Ring). (own_at u x).spare z) is ∙ g)
                  ]
            ]

        ready_stays : (i f : ℕ) → b w 0 ≤ i → i ≤ f → f ≤ b w (K w) → Ready i → Ready f ⊎ Later f
        ready_stays i f from to end h =
            elim (until_at Ready (λ k. holds (at w (suc k)) x y ≡ true) i f to h
            (λ k p q a. ready_turn k (omega arith) (omega arith) a ((fair w).turn k (omega arith) (omega arith)))) [
              | inl a ↦ inl a
              | inr q ↦ inr (suc q.0, omega (arith, q.1), q.2, q.3)
            ]

        offered : chosen s z y ≡ true
        offered = (offer_of_lem s.table (holds s z) z x some).mine

        on_y : is_running s y ≡ true
        on_y = w.clean.holds_running z on-z y (leafset_within s.table z (holds s z) y offered)

        -- the acknowledgement comes
        by_10 :
            (n time : ℕ) → b w 0 ≤ n → n < b w (K w) → Ready n → Delivered (at w) (stamped 10 y x z time) n → Later (suc n)
        by_10 n time f l h q = (
          suc n,
          omega arith,
          le_refl (suc n),
          ap (λ (u : Own). u.held y) (received_own (at w n) (at w (suc n)) (stamped 10 y x z time) q.0 q.1 q.2
              ((kept w n f (omega arith)).running x ∙ on-x))
              ∙ takes_offer (at w n).table x (now_at (at w n) x) (own_at (at w n) x) y z time (outside_at n f (omega arith) h.0) h.1
              (leafset_other s.table z (holds s z) y offered),
        )

        -- the request goes out at k, is answered at n, and the acknowledgement comes
        by_9 :
            (k j : ℕ) → b w 0 ≤ k → suc k ≤ b w j → suc (suc j) ≤ K w → Ready k → at w (suc k) ≡ after (at w k) (Timer (node_of x) 3)
            → Later (b w (suc (suc j)))
        by_9 k j f l room h is =
            let v =
            answered w (suc k) j (omega arith) l (omega arith) (stamped 9 x y z (now_at (at w k) x)) (stamped 10 y x z (now_at (at w k) x)) nine
            (λ n fn ln. (
              (kept w n fn ln).running y ∙ on_y,
              answers_9 (at w n).table y (now_at (at w n) y) (own_at (at w n) y) x z (now_at (at w k) x)
                  (leafset_within (at w n).table y (holds (at w n) y) z (steady n fn ln y on_y z ∙ back)),
            )) in
            comes v.0 (omega (arith, v.1)) v.2 v.3
          where
            end_0 : b w j ≤ b w (K w)
            end_0 = rises w j (K w) (omega arith) (le_refl (K w))

            end_2 : b w (suc (suc j)) ≤ b w (K w)
            end_2 = rises w (suc (suc j)) (K w) (omega arith) (le_refl (K w))

            nine : Memᴰ (stamped 9 x y z (now_at (at w k) x)) (at w (suc k)).messages
            nine =
                subst (λ (v : ℕ). Memᴰ (stamped 9 x v z (now_at (at w k) x)) (at w (suc k)).messages) h.1
                (fired_sends (at w k) (at w (suc k)) x 3 is _
                (sends_9 (at w k).table x (now_at (at w k) x) (own_at (at w k) x) z ((((fair w).well k).node_well x).own_well.held_other z h.0).low
                (outside_at k f (omega (arith, end_0)) h.0) (λ q. some (sym h.1 ∙ q))))

            comes :
                (n : ℕ) → k ≤ n → n < b w (suc (suc j)) → Delivered (at w) (stamped 10 y x z (now_at (at w k) x)) n → Later (b w (suc (suc j)))
            comes n g e q =
                elim (ready_stays k n f g (omega (arith, end_2)) h) [
                  | inr p ↦ longer n (b w (suc (suc j))) (omega arith) p
                  | inl p ↦ longer (suc n) (b w (suc (suc j))) e (by_10 n (now_at (at w k) x) (omega arith) (omega (arith, end_2)) p q)
                ]

        -- the offer comes at n, and timer 3 fires
        by_8 : (n j : ℕ) → b w 0 ≤ n → suc n ≤ b w j → suc (suc (suc j)) ≤ K w → holds (at w n) x z ≡ true
            → Delivered (at w) (naming 8 z x y) n → Later (b w (suc (suc (suc j))))
        by_8 n j f l room h q =
            let end_0 = rises w j (K w) (omega arith) (le_refl (K w)) in
            let end_1 = rises w (suc j) (K w) (omega arith) (le_refl (K w)) in
            let up = rises w (suc j) (suc (suc (suc j))) (omega arith) room in
            let mid = rises w 0 j zero-le (omega arith) in
            let fire = (fair w).fires j (omega arith) x ((kept w (b w j) mid end_0).running x ∙ on-x) 3 refl in
            elim (stays n (suc n) f (omega arith) (omega arith) h) [
              | inr p ↦ longer (suc n) (b w (suc (suc (suc j)))) (omega (arith, fire.1, fire.2)) p.0
              | inl p ↦
                  elim (ready_stays (suc n) fire.0 (omega arith) (omega (arith, fire.1)) (omega (arith, fire.2)) (p, spare_now end_0)) [
                    | inr g ↦ longer fire.0 (b w (suc (suc (suc j)))) (omega (arith, fire.2)) g
                    | inl g ↦ by_9 fire.0 (suc j) (omega (arith, fire.1)) fire.2 room g fire.3
                  ]
            ]
          where
            spare_now : b w j ≤ b w (K w) → (own_at (at w (suc n)) x).spare z ≡ y
            spare_now end =
                ap (λ (u : Own). u.spare z) (received_own (at w n) (at w (suc n)) (naming 8 z x y) q.0 q.1 q.2
                ((kept w n f (omega arith)).running x ∙ on-x))
                ∙ notes_spare (at w n).table x (now_at (at w n) x) (own_at (at w n) x) z y h

        -- the question goes out at k
        by_7 :
            (k j : ℕ) → b w 0 ≤ k → suc k ≤ b w j → suc (suc (suc (suc (suc j)))) ≤ K w → holds (at w k) x z ≡ true
            → at w (suc k) ≡ after (at w k) (Timer (node_of x) 2)
            → Later (b w (suc (suc (suc (suc (suc j))))))
        by_7 k j f l room h is =
            let v = answered w (suc k) j (omega arith) l (omega arith) (plain 7 x z) (naming 8 z x y) seven (offers_z w steady x z on-z) in
            comes v.0 (omega (arith, v.1)) v.2 v.3
          where
            end_0 : b w j ≤ b w (K w)
            end_0 = rises w j (K w) (omega arith) (le_refl (K w))

            end_2 : b w (suc (suc j)) ≤ b w (K w)
            end_2 = rises w (suc (suc j)) (K w) (omega arith) (le_refl (K w))

            up : b w (suc (suc j)) ≤ b w (suc (suc (suc (suc (suc j)))))
            up = rises w (suc (suc j)) (suc (suc (suc (suc (suc j))))) (omega arith) room

            seven : Memᴰ (plain 7 x z) (at w (suc k)).messages
            seven =
                fired_sends (at w k) (at w (suc k)) x 2 is (plain 7 x z)
                (sends_7 (at w k).table x (now_at (at w k) x) (own_at (at w k) x) z ((((fair w).well k).node_well x).own_well.held_other z h).low
                (outside_at k f (omega (arith, end_0)) h))

            comes :
                (n : ℕ) → k ≤ n → n < b w (suc (suc j)) → Delivered (at w) (naming 8 z x y) n
                → Later (b w (suc (suc (suc (suc (suc j))))))
            comes n g e q =
                elim (stays k n f g (omega (arith, end_2)) h) [
                  | inr p ↦ longer n (b w (suc (suc (suc (suc (suc j)))))) (omega (arith, up)) p.0
                  | inl p ↦ by_8 n (suc (suc j)) (omega arith) e room p q
                ]

        -- z is held at a point of round j - 1 or before: y is held six rounds later, or earlier
        pub replaces : (i j : ℕ) → b w 0 ≤ i → i ≤ b w j → 6 + j ≤ K w → holds (at w i) x z ≡ true → Later (b w (6 + j))
        replaces i j f l room h =
            let e : 6 + j ≡ suc (suc (suc (suc (suc (suc j))))) = omega arith in
            let end_0 = rises w j (K w) (omega arith) (le_refl (K w)) in
            let end_1 = rises w (suc j) (K w) (omega arith) (le_refl (K w)) in
            let up = rises w (suc j) (suc (suc (suc (suc (suc (suc j)))))) (omega arith) (omega arith) in
            let mid = rises w 0 j zero-le (omega arith) in
            let fire = (fair w).fires j (omega arith) x ((kept w (b w j) mid end_0).running x ∙ on-x) 2 refl in
            subst (λ (k : ℕ). Later (b w k)) (sym e)
            (elim (stays i fire.0 f (omega (arith, fire.1)) (omega (arith, fire.2)) h) [
              | inr p ↦ longer fire.0 (b w (suc (suc (suc (suc (suc (suc j))))))) (omega (arith, fire.2)) p.0
              | inl p ↦ by_7 fire.0 (suc j) (omega (arith, fire.1)) fire.2 (omega arith) p fire.3
            ])

  -- ---- what comes in by replacements

  module _
      (good : (x z : ℕ) → is_running s x ≡ true → is_running s z ≡ true → chosen s x z ≡ false → Good w steady honest x z ((own_at s x).spare z))
      (two-way : (z y : ℕ) → is_running s z ≡ true → chosen s z y ≡ true → chosen s y z ≡ true)
      (x : ℕ) (on-x : is_running s x ≡ true)
    where
      runs_held : (i z : ℕ) → b w 0 ≤ i → i ≤ b w (K w) → holds (at w i) x z ≡ true → is_running s z ≡ true
      runs_held i z f l h = let c = kept w i f l in sym (c.running z) ∙ c.still_clean.holds_running x (c.running x ∙ on-x) z h

      met : {k z : ℕ} → Meets s x k z → k * 6 ≤ K w → (i : ℕ) × (b w 0 ≤ i) × (i ≤ b w (k * 6)) × (holds (at w i) x z ≡ true)
      met (held h) room = (b w 0, le_refl (b w 0), le_refl (b w 0), h)
      met (replaced {k = k} {y = y} {z = z} m out is some) room =
          let before = met m (omega arith) in
          let top = rises w (k * 6) (K w) (omega arith) (le_refl (K w)) in
          let on-z = runs_held before.0 z before.1 (omega (arith, before.2)) before.3 in
          let back : chosen s (offer_of s z x) z ≡ true =
          two-way z (offer_of s z x) on-z (offer_of_lem s.table (holds s z) z x (λ q. some (sym is ∙ q))).mine in
          let l = replaces good x z on-x on-z out (λ q. some (sym is ∙ q)) back before.0 (k * 6) before.1 before.2 (omega arith) before.3 in
          (l.0, l.1, subst (λ (n : ℕ). l.0 ≤ b w n) (omega arith) l.2, subst (λ (v : ℕ). holds (at w l.0) x v ≡ true) is l.3)

      pub met_none : (k z : ℕ) → Meets s x k z → chosen s x z ≡ false → offer_of s z x ≡ none_node → k * 6 + 5 ≤ K w → lacks s z x ≡ false
      met_none k z m out none room =
          let h = met m (omega arith) in
          let top = rises w (k * 6) (K w) (omega arith) (le_refl (K w)) in
          offers_none good x z on-x (runs_held h.0 z h.1 (omega (arith, h.2)) h.3) out h.0 (k * 6) h.1 h.2 (omega arith) h.3 none
