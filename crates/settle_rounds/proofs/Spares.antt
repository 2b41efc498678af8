-- Offers and spares in rounds in which leafsets stay as they are: whoever is offered is always the same one, since an offer depends on the leafset alone;
-- and three rounds after such offers are all that fly, every spare is such a one, or none.
use mathlib.Core.Path.{◌≡◌, refl, sym, ap, ◌∙◌, subst}
use mathlib.Core.Logic.{◌⊎◌, inl, inr}
use Prim.Native.Nat.{ℕ, suc, ◌≤◌, ◌<◌}
use native.Mathlib.Nat.{le_refl}
use native.Mathlib.Omega.{arith}
use mathlib.Core.Bool.{true, false}
use mathlib.Core.List.{Memᴰ}
use Rattle.model.specs.Sets.{members, none_node}
use Rattle.model.specs.Leafset.{Table, size, closest}
use Rattle.model.specs.Ring.{Ring, Own, Message, is_running, holds, message_at}
use Rattle.model.specs.Steps.{Effect, plain, naming, outside}
use Rattle.model.specs.Steps.{timer2, timer}
use Rattle.model.specs.Steps.{on_ping_ask_repl, on_pong_ask_repl, deliver}
use Rattle.model.specs.Play.{after}
use Rattle.model.specs.declared.event.Event.{Event}
use Rattle.model.specs.declared.event.Event.TheVariants.{Timer}
use Rattle.model.proofs.Laws.{clash, and_in, not_in, decide, if_law, put_here}
use Rattle.model.proofs.Handlers.{message_in}
use Rattle.settle_leafsets.specs.Quiescent.{chosen, offer_of}
use Rattle.settle_leafsets.proofs.Constant.{same_offer}
use Rattle.settle_kept.proofs.Keeping.{Idly, idle_not, harmless_switch, now_at, own_at, given, sent_after, timer_sent, deliver_sent}
use Rattle.settle_rounds.specs.Rounds.{Lossless}
use Rattle.settle_rounds.proofs.Turns.{Delivered, Runs, Turn, stands, turns, Sends, node_of, deliver_at}
use Rattle.settle_rounds.proofs.Takings.{spare_after}
use Rattle.settle_rounds.proofs.Window.{Stretch, at, b, K, fair, rises, kept}
use Rattle.settle_rounds.proofs.Window.{answered, members_in, map_in, received_own, fired_sends}
use Rattle.settle_rounds.proofs.Points.{walk_to}
use Rattle.settle_rounds.proofs.Inviting.{Steady, start}

-- ---- the steps of a replacement, as far as the spare

module _ (t : Table) (x now : ℕ) (o : Own) where
  pub sends_7 : (z : ℕ) → z < size t → outside t x now o z ≡ true → Memᴰ (plain 7 x z) (timer t x now o 2).sent
  unfolding timer timer2
  sends_7 z l e = map_in (plain 7 x) z (members (size t) (outside t x now o)) (members_in (size t) (outside t x now o) z l e)

  pub answers_7 : (y : ℕ) → Memᴰ (naming 8 x y (closest t x o.held y)) (deliver t x now o (plain 7 y x)).sent
  unfolding on_ping_ask_repl
  answers_7 y =
      subst (λ (e : Effect). Memᴰ (naming 8 x y (closest t x o.held y)) e.sent) (sym (deliver_at t x now o (plain 7 y x) 7 refl))
      (mathlib.Core.List.Memᴰ.head refl)

  pub notes_spare : (z y : ℕ) → o.held z ≡ true → (deliver t x now o (naming 8 z x y)).own.spare z ≡ y
  unfolding on_pong_ask_repl
  notes_spare z y h =
      subst (λ (e : Effect). e.own.spare z ≡ y) (sym (deliver_at t x now o (naming 8 z x y) 8 refl))
      (if_law (λ (e : Effect). e.own.spare z ≡ y) (o.held z) _ _ (λ q. put_here o.spare z y) (λ q. clash h q))

-- ---- rounds

module _ (w : Stretch) (steady : Steady w) where
  abbrev s : Ring
  s = start w steady

  -- of a message: if it is of type 8, it offers whom its sender offers at the start
  abbrev pub Steadfast : Message → Type 0
  Steadfast m = m.type ≡ 8 → is_running s m.sender ≡ true → m.subject ≡ offer_of s m.sender m.receiver

  pub offer_at : (i : ℕ) → b w 0 ≤ i → i ≤ b w (K w) → (z x : ℕ) → is_running s z ≡ true → offer_of (at w i) z x ≡ offer_of s z x
  offer_at i f l z x on = let k = kept w i f l in same_offer s (at w i) ((fair w).well (b w 0)) k.table k.running z on (steady i f l z on) x

  -- z answers x's question with whom it offers at the start
  pub offers_z : (x z : ℕ) → is_running s z ≡ true → (n : ℕ) → b w 0 ≤ n → n ≤ b w (K w)
      → (is_running (at w n) z ≡ true) × Memᴰ (naming 8 z x (offer_of s z x)) (given (at w n) z (plain 7 x z)).sent
  offers_z x z on n f l = (
    (kept w n f l).running z ∙ on,
    subst (λ (y : ℕ). Memᴰ (naming 8 z x y) (given (at w n) z (plain 7 x z)).sent) (offer_at n f l z x on)
        (answers_7 (at w n).table z (now_at (at w n) z) (own_at (at w n) z) x),
  )

  pub sends_steadfast : (i : ℕ) → b w 0 ≤ i → i ≤ b w (K w) → (e : Event) → Lossless (at w i) e → Runs (at w i) e → Sends Steadfast (at w i) e
  sends_steadfast i f l e q runs =
      record {
        on_contact = λ x y n p. absurd (omega arith);
        on_timer = λ x k n. timer_sent (at w i) Steadfast idle x.0 (λ z out named p. absurd (omega arith)) k;
        on_deliver = λ n p on.
            let m : Message = message_at (at w i) n in
            deliver_sent (at w i) Steadfast idle n
            (record {
              on_1 = λ is p. absurd (omega arith);
              on_5 = λ is p. absurd (omega arith);
              on_7 = λ is p runs. offer_at i f l m.receiver m.sender (sym ((kept w i f l).running m.receiver) ∙ on);
              on_9 = λ is h p. absurd (omega arith);
            });
      }
    where
      idle : Idly Steadfast
      idle m q is = absurd (idle_not m.type 8 refl q is)

  module _ (honest : (m : Message) → Memᴰ m s.messages → Steadfast m) where
    -- every offer in flight at any point is such a one
    pub honest_at : (i : ℕ) → b w 0 ≤ i → i ≤ b w (K w) → (m : Message) → Memᴰ m (at w i).messages → Steadfast m
    honest_at i f l =
        walk_to (λ k. (m : Message) → Memᴰ m (at w k).messages → Steadfast m) (b w 0) i f honest
        (λ k g h a. turned k g (omega arith) a ((fair w).turn k g (omega arith)))
      where
        turned : (k : ℕ) → b w 0 ≤ k → k ≤ b w (K w) → ((m : Message) → Memᴰ m (at w k).messages → Steadfast m) → Turn (at w k) (at w (suc k))
            → (m : Message) → Memᴰ m (at w (suc k)).messages → Steadfast m
        turned k g h a (stands e) = subst (λ (u : Ring). (m : Message) → Memᴰ m u.messages → Steadfast m) (sym e) a
        turned k g h a (turns e q runs is) =
            let c = sends_steadfast k g h e q runs in
            subst (λ (u : Ring). (m : Message) → Memᴰ m u.messages → Steadfast m) (sym is)
            (sent_after (at w k) Steadfast a e (harmless_switch (at w k) e q.0) c.on_contact c.on_timer c.on_deliver)

    -- what x is offered for z when a message is delivered
    pub offered_at : (k : ℕ) → b w 0 ≤ k → k ≤ b w (K w) → (x z : ℕ) → is_running s z ≡ true
        → (i : ℕ) → (message_at (at w k) i).receiver ≡ x → (message_at (at w k) i).type ≡ 8 → z ≡ (message_at (at w k) i).sender
        → (message_at (at w k) i).subject ≡ offer_of s z x
    offered_at k f l x z on i to is from =
        honest_at k f l (message_at (at w k) i) (message_in (at w k).messages i 7 is) is (ap (is_running s) (sym from) ∙ on)
        ∙ ap (λ (y : ℕ). offer_of s y (message_at (at w k) i).receiver) (sym from) ∙ ap (offer_of s z) to

    -- no spare, or the one that is always offered
    abbrev pub Good : ℕ → ℕ → ℕ → Type 0
    Good x z v = (v ≡ none_node) ⊎ (v ≡ offer_of s z x)

    module _ (x z : ℕ) (on-x : is_running s x ≡ true) (on-z : is_running s z ≡ true) where
      abbrev GoodAt : ℕ → Type 0
      GoodAt k = Good x z ((own_at (at w k) x).spare z)

      good_turn : (k : ℕ) → b w 0 ≤ k → k ≤ b w (K w) → GoodAt k → Turn (at w k) (at w (suc k)) → GoodAt (suc k)
      good_turn k f l g (stands e) = subst (λ (u : Ring). Good x z ((own_at u x).spare z)) (sym e) g
      good_turn k f l g (turns e q runs is) =
          let c = kept w k f l in
          subst (λ (u : Ring). Good x z ((own_at u x).spare z)) (sym is)
          (spare_after (at w k) ((fair w).well k) c.still_clean e q x (c.running x ∙ on-x) (Good x z) (inl refl) z g
          (λ i p to is from. inr (offered_at k f l x z on-z i to is from)))

      pub good_stays : (i f : ℕ) → b w 0 ≤ i → i ≤ f → f ≤ b w (K w) → GoodAt i → GoodAt f
      good_stays i f from to end g =
          walk_to GoodAt i f to g (λ k p q a. good_turn k (omega arith) (omega arith) a ((fair w).turn k (omega arith) (omega arith)))

      -- whoever is not held has no spare
      good_or_held : (k : ℕ) → (holds (at w k) x z ≡ true) ⊎ GoodAt k
      good_or_held k = decide (holds (at w k) x z) (λ h. inl h) (λ h. inr (inl ((((fair w).well k).node_well x).own_well.spare_none z h)))

      -- after three rounds every spare of a node outside the leafset is good
      pub soon_good : 3 ≤ K w → chosen s x z ≡ false → GoodAt (b w 3)
      soon_good room out =
          let end_1 = rises w 1 3 (omega arith) room in
          let end_2 = rises w 2 3 (omega arith) room in
          let end_3 = rises w 3 (K w) room (le_refl (K w)) in
          let first = rises w 0 1 (omega arith) (omega arith) in
          let fire = (fair w).fires 0 (omega arith) x on-x 2 refl in
          elim (good_or_held fire.0) [
            | inr g ↦ good_stays fire.0 (b w 3) fire.1 (omega (arith, fire.2)) end_3 g
            | inl h ↦ asks fire.0 fire.1 fire.2 fire.3 h
          ]
        where
          end_1 : b w 1 ≤ b w 3
          end_1 = rises w 1 3 (omega arith) room

          end_3 : b w 3 ≤ b w (K w)
          end_3 = rises w 3 (K w) room (le_refl (K w))

          learns :
              (n : ℕ) → b w 0 ≤ n → n < b w 3 → Delivered (at w) (naming 8 z x (offer_of s z x)) n → GoodAt (b w 3)
          learns n f l q =
              elim (good_or_held n) [
                | inr g ↦ good_stays n (b w 3) f (omega arith) end_3 g
                | inl h ↦ good_stays (suc n) (b w 3) (omega arith) l end_3
                    (inr (ap (λ (u : Own). u.spare z)
                    (received_own (at w n) (at w (suc n)) (naming 8 z x (offer_of s z x)) q.0 q.1 q.2
                    ((kept w n f (omega (arith, end_3))).running x ∙ on-x))
                    ∙ notes_spare (at w n).table x (now_at (at w n) x) (own_at (at w n) x) z (offer_of s z x) h))
              ]

          asks : (n : ℕ) → b w 0 ≤ n → n < b w 1 → at w (suc n) ≡ after (at w n) (Timer (node_of x) 2) → holds (at w n) x z ≡ true → GoodAt (b w 3)
          asks n f l is h =
              let seven : Memᴰ (plain 7 x z) (at w (suc n)).messages =
              fired_sends (at w n) (at w (suc n)) x 2 is (plain 7 x z)
              (sends_7 (at w n).table x (now_at (at w n) x) (own_at (at w n) x) z ((((fair w).well n).node_well x).own_well.held_other z h).low
              (and_in h (not_in (steady n f (omega (arith, end_1, end_3)) x on-x z ∙ out)))) in
              let v = answered w (suc n) 1 (omega arith) l (omega arith) (plain 7 x z) (naming 8 z x (offer_of s z x)) seven (offers_z x z on-z) in
              learns v.0 (omega (arith, v.1)) v.2 v.3
