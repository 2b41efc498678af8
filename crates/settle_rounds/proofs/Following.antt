-- What becomes of a message at an event: at its new position stands the same message, or it was delivered; and each message stood somewhere before, or is sent.
use mathlib.Core.Path.{◌≡◌, refl, sym, ap, ◌∙◌, subst}
use mathlib.Core.Logic.{◌⊎◌, inl, inr}
use Prim.Native.Nat.{ℕ, zero, suc, ◌-◌, ◌≤◌, ◌<◌}
use native.Mathlib.Nat.{not-suc-le-zero, le_of_suc-le-suc}
use native.Mathlib.Omega.{arith}
use native.Mathlib.Decide.{dec_lt}
use mathlib.Core.Bool.{true, false}
use mathlib.Core.List.Memᴰ
use mathlib.Core.List.{List, [], ◌∷◌, ◌++◌, Memᴰ}
use lib.ListN.{length, get_or, take, drop, length-append, get_or-append}
use lib.Dec.{eqb, ltb}
use borrow.Author.Tests.{lt-ltb, le-ltb, ltb-true, ltb-false, eqb-true, eqb-false, ne_eqb}
use Rattle.model.specs.Ring.{Ring, Message, blank, is_running, message_at}
use Rattle.model.specs.Types.{ping_contact}
use Rattle.model.specs.Steps.{plain, contact, notice}
use Rattle.model.specs.Play.{after, act, set_messages, remove_message, receive}
use Rattle.model.specs.declared.values.NodeNumber.{NodeNumber}
use Rattle.model.specs.declared.event.Event.{Event}
use Rattle.model.specs.declared.event.Event.TheVariants.{On, Off, Notice, Contact, Timer, Deliver, Lose}
use Rattle.model.proofs.Laws.{if_law, clash}
use Rattle.model.proofs.Handlers.{absent}
use Rattle.settle_kept.proofs.Keeping.{Delivers, ticked, given, acted}
use Rattle.settle_rounds.specs.Rounds.{Fate, flying, gone, moved_up, fate, Lossless}

-- ---- lists with one taken out

abbrev without_at : ℕ → List Message → List Message
without_at j l = take j l ++ drop (suc j) l

before : (l : List Message) (j i : ℕ) → i < j → get_or (without_at j l) i blank ≡ get_or l i blank
before l zero i h = absurd (not-suc-le-zero h)
before [] (suc j) i h = refl
before (a ∷ l) (suc j) zero h = refl
before (a ∷ l) (suc j) (suc i) h = before l j i (le_of_suc-le-suc h)

beyond : (l : List Message) (j i : ℕ) → j ≤ i → get_or (without_at j l) i blank ≡ get_or l (suc i) blank
beyond [] zero i h = refl
beyond [] (suc j) i h = refl
beyond (a ∷ l) zero i h = refl
beyond (a ∷ l) (suc j) zero h = absurd (not-suc-le-zero h)
beyond (a ∷ l) (suc j) (suc i) h = beyond l j i (le_of_suc-le-suc h)

one_less : (l : List Message) (j : ℕ) → j < length l → suc (length (without_at j l)) ≡ length l
one_less [] j h = absurd (not-suc-le-zero h)
one_less (a ∷ l) zero h = refl
one_less (a ∷ l) (suc j) h = ap suc (one_less l j (le_of_suc-le-suc h))

as_many : (l : List Message) (j : ℕ) → length l ≤ j → length (without_at j l) ≡ length l
as_many [] zero h = refl
as_many [] (suc j) h = refl
as_many (a ∷ l) zero h = absurd (not-suc-le-zero h)
as_many (a ∷ l) (suc j) h = ap suc (as_many l j (le_of_suc-le-suc h))

-- the message at i is where it moves to
pub record Moved (l : List Message) (i : ℕ) (k : List Message) (j : ℕ) : Type 0 where
  pub low : j < length k
  pub same : get_or k j blank ≡ get_or l i blank

up : (l : List Message) (j i : ℕ) → ¬ (i ≡ j) → i < length l → Moved l i (without_at j l) (moved_up j i)
up l j i d h =
    if_law (Moved l i (without_at j l)) (ltb j i) (i - 1) i
    (λ e. let g : j < i = ltb-true j i e in
    let n = one_less l j (omega arith) in
    record { low = omega arith; same = beyond l j (i - 1) (omega arith) ∙ ap (λ (k : ℕ). get_or l k blank) (omega arith) })
    (λ e. let g : i ≤ j = ltb-false j i e in
    record {
      low = elim (dec_lt j (length l)) [
        | yes q ↦ let n = one_less l j q in omega arith
        | no q ↦ let n = as_many l j (omega arith) in omega arith
      ];
      same = before l j i (omega arith);
    })

more : (l : List Message) (i : ℕ) (k : List Message) (j : ℕ) (s : List Message) → Moved l i k j → Moved l i (k ++ s) j
more l i k j s m = record { low = let e = length-append k s in omega (arith, m.low); same = get_or-append k s blank j m.low ∙ m.same }

in_list : (l : List Message) (i : ℕ) → i < length l → Memᴰ (get_or l i blank) l
in_list [] i h = absurd (not-suc-le-zero h)
in_list (m ∷ l) zero h = Memᴰ.head refl
in_list (m ∷ l) (suc i) h = Memᴰ.tail (in_list l i (le_of_suc-le-suc h))

past : (k s : List Message) (i : ℕ) → length k ≤ i → get_or (k ++ s) i blank ≡ get_or s (i - length k) blank
past [] s i h = ap (λ (j : ℕ). get_or s j blank) (omega arith)
past (a ∷ k) s zero h = absurd (not-suc-le-zero h)
past (a ∷ k) s (suc i) h = past k s i (le_of_suc-le-suc h) ∙ ap (λ (j : ℕ). get_or s j blank) (omega arith)

old_or :
    (F : Message → Type 0) (k s : List Message) → ((m : Message) → Memᴰ m s → F m) → (l : ℕ) → l < length (k ++ s)
    → (l < length k) ⊎ F (get_or (k ++ s) l blank)
old_or F k s f l h =
    elim (dec_lt l (length k)) [
      | yes q ↦ inl q
      | no q ↦ let e = length-append k s in inr (subst F (sym (past k s l (omega arith))) (f _ (in_list s (l - length k) (omega arith))))
    ]

-- ---- an event

module _ (r : Ring) where
  left : ℕ → List Message
  left j = without_at j r.messages

  -- what its fate says of the message at i
  abbrev pub FateIs : Event → ℕ → Fate → Type 0
  FateIs e i (flying j) = Moved r.messages i (after r e).messages j
  FateIs e i gone = e ≡ Deliver i false

  stays : (s : List Message) (i : ℕ) → i < length r.messages → Moved r.messages i (r.messages ++ s) i
  stays s i h = more r.messages i r.messages i s (record { low = h; same = refl })

  -- a message that stays at a delivery keeps its position
  received_moved :
      (j : ℕ) (ms : List Message) (i k : ℕ) → Moved r.messages i ms k → Moved r.messages i (receive (message_at r j) (set_messages ms r)).messages k
  unfolding act
  received_moved j ms i k m =
      if_law (λ (s : Ring). Moved r.messages i s.messages k) (is_running r (message_at r j).receiver) _ _
      (λ on. more r.messages i ms k _ m) (λ off. m)

  pub fate_is : (e : Event) → Lossless r e → (i : ℕ) → i < length r.messages → FateIs e i (fate e i)
  unfolding after act remove_message left
  fate_is (On x) n i h = absurd n.0
  fate_is (Off x polite) n i h = absurd n.0
  fate_is (Notice x z) n i h = stays _ i h
  fate_is (Contact x y) n i h = stays _ i h
  fate_is (Timer x k) n i h = stays _ i h
  fate_is (Deliver j true) n i h = received_moved j r.messages i i (record { low = h; same = refl })
  fate_is (Deliver j false) n i h =
      if_law (FateIs (Deliver j false) i) (eqb i j) gone (flying (moved_up j i))
      (λ e. ap (λ (k : ℕ). Deliver k false) (sym (eqb-true i j e)))
      (λ e. received_moved j (left j) i (moved_up j i) (up r.messages j i (eqb-false i j e) h))
  fate_is (Lose j) n i h = clash refl n.1

  -- the message at a position after the event was at one before, or was sent
  module _ (F : Message → Type 0) where
    received_origin :
        (j : ℕ) (ms : List Message)
        → (is_running r (message_at r j).receiver ≡ true → (m : Message) → Memᴰ m (given r (message_at r j).receiver (message_at r j)).sent → F m)
        → (l : ℕ) → l < length (receive (message_at r j) (set_messages ms r)).messages
        → (l < length ms) ⊎ F (message_at (receive (message_at r j) (set_messages ms r)) l)
    unfolding act
    received_origin j ms f =
        if_law (λ (s : Ring). (l : ℕ) → l < length s.messages → (l < length ms) ⊎ F (message_at s l)) (is_running r (message_at r j).receiver)
        (acted r (message_at r j).receiver ms (given r (message_at r j).receiver (message_at r j))) (set_messages ms r)
        (λ on l h. old_or F ms _ (f on) l h)
        (λ off l h. inl h)

    pub origin :
        (e : Event) → Lossless r e
        → ((x y : NodeNumber) → e ≡ Contact x y → F (plain ping_contact x.0 y.0))
        → ((x : NodeNumber) (k : ℕ) → e ≡ Timer x k → (m : Message) → Memᴰ m (ticked r x.0 k).sent → F m)
        → ((i : ℕ) → Delivers e i → is_running r (message_at r i).receiver ≡ true
        → (m : Message) → Memᴰ m (given r (message_at r i).receiver (message_at r i)).sent → F m)
        → (l : ℕ) → l < length (after r e).messages → ((i : ℕ) × (i < length r.messages) × (fate e i ≡ flying l)) ⊎ F (message_at (after r e) l)
    unfolding after act remove_message left contact notice
    origin (On x) n on_contact on_timer on_deliver l h = absurd n.0
    origin (Off x polite) n on_contact on_timer on_deliver l h = absurd n.0
    origin (Notice x z) n on_contact on_timer on_deliver l h =
        elim (old_or F r.messages _ (λ m q. absent q) l h) [ inl q ↦ inl (l, q, refl) | inr q ↦ inr q ]
    origin (Contact x y) n on_contact on_timer on_deliver l h =
        elim (old_or F r.messages _ (λ m q. subst F (sym (Memᴰ.eq_of_singleton q)) (on_contact x y refl)) l h) [
          | inl q ↦ inl (l, q, refl)
          | inr q ↦ inr q
        ]
    origin (Timer x k) n on_contact on_timer on_deliver l h =
        elim (old_or F r.messages _ (on_timer x k refl) l h) [ inl q ↦ inl (l, q, refl) | inr q ↦ inr q ]
    origin (Deliver j true) n on_contact on_timer on_deliver l h =
        elim (received_origin j r.messages (on_deliver j (true, refl)) l h) [ inl q ↦ inl (l, q, refl) | inr q ↦ inr q ]
    origin (Deliver j false) n on_contact on_timer on_deliver l h =
        elim (received_origin j (left j) (on_deliver j (false, refl)) l h) [ inl q ↦ inl (from l q) | inr q ↦ inr q ]
      where
        from : (l : ℕ) → l < length (left j) → (i : ℕ) × (i < length r.messages) × (fate (Deliver j false) i ≡ flying l)
        from l h =
            elim (dec_lt l j) [
              | yes q ↦ (
                l,
                elim (dec_lt j (length r.messages)) [
                  | yes w ↦ let e = one_less r.messages j w in omega arith
                  | no w ↦ let e = as_many r.messages j (omega arith) in omega arith
                ],
                (let d : eqb l j ≡ false = ne_eqb l j (λ i. omega arith) in
                    let m : ltb j l ≡ false = le-ltb j l (omega arith) in
                    rw (d, m) refl),
              )
              | no q ↦ (
                suc l,
                elim (dec_lt j (length r.messages)) [
                  | yes w ↦ let e = one_less r.messages j w in omega arith
                  | no w ↦ let e = as_many r.messages j (omega arith) in omega arith
                ],
                (let d : eqb (suc l) j ≡ false = ne_eqb (suc l) j (λ i. omega arith) in
                    let m : ltb j (suc l) ≡ true = lt-ltb j (suc l) (omega arith) in
                    rw (d, m) (ap flying (omega arith))),
              )
            ]
    origin (Lose i) n on_contact on_timer on_deliver l h = clash refl n.1
