-- Enough fair rounds in which leafsets stay as they are leave the ring quiescent from the fifth on: after one round offers, after three more spares are those
-- of the leafsets; then Inviting, Deloopy and Replacing are the four parts.
use mathlib.Core.Path.{◌≡◌, refl, sym, ◌∙◌}
use mathlib.Core.Logic.{inl, inr}
use Prim.Native.Nat.{ℕ, suc, ◌+◌, ◌*◌, ◌≤◌, zero-le}
use native.Mathlib.Nat.{le_refl}
use native.Mathlib.Omega.{arith}
use mathlib.Core.Bool.{true, false}
use mathlib.Core.List.{Memᴰ}
use Rattle.model.specs.Leafset.{size}
use Rattle.model.specs.Ring.{Ring, Message, is_running}
use Rattle.model.specs.WellFormed.{WellFormed}
use Rattle.model.proofs.Choices.{leafset_within}
use Rattle.settle_leafsets.specs.Covered.{lacks, Even}
use Rattle.settle_leafsets.specs.Quiescent.{chosen, offer_of, Quiescent}
use Rattle.settle_leafsets.proofs.Woven.{mutual_held}
use Rattle.settle_kept.proofs.Keeping.{own_at}
use Rattle.settle_rounds.proofs.Turns.{Fair}
use Rattle.settle_rounds.proofs.Window.{Stretch, at, b, K, fair, rises, kept}
use Rattle.settle_rounds.proofs.Inviting.{Steady, start, asked_knows, hears_all}
use Rattle.settle_rounds.proofs.Deloopy.{passes_known}
use Rattle.settle_rounds.proofs.Spares.{Steadfast, Good, offer_at, sends_steadfast, honest_at, soon_good}
use Rattle.settle_rounds.proofs.Replacing.{met_none}

-- ---- the rounds but the first

module _ (w : Stretch) (k : ℕ) (room : suc k ≤ K w) where
  from_0 : b w 0 ≤ b w 1
  from_0 = rises w 0 1 (omega arith) (omega arith)

  to_end : b w (suc k) ≤ b w (K w)
  to_end = rises w (suc k) (K w) room (le_refl (K w))

  up : b w 1 ≤ b w (suc k)
  up = rises w 1 (suc k) (omega arith) room

  in_1 : b w 1 ≤ b w (K w)
  in_1 = let u = up in let e = to_end in omega arith

  fair_tail : Fair (at w) (λ j. b w (suc j)) k
  fair_tail = record {
    well = (fair w).well;
    order = λ j l. (fair w).order (suc j) (omega arith);
    turn = λ i f l. let s = from_0 in let e = to_end in (fair w).turn i (omega arith) (omega arith);
    fires = λ j l x on t is. (fair w).fires (suc j) (omega arith) x on t is;
    arrives = λ j l m h. (fair w).arrives (suc j) (omega arith) m h;
    renewed = λ j l F sends m h. (fair w).renewed (suc j) (omega arith) F sends m h;
  }

  abbrev tail : Stretch
  tail =
      record {
        at = at w;
        b = λ j. b w (suc j);
        K = k;
        fair = fair_tail;
        clean = (kept w (b w 1) from_0 in_1).still_clean;
        cands = (kept w (b w 1) from_0 in_1).still_cands;
      }

  back : (x : ℕ) → is_running (at w (b w 1)) x ≡ true → is_running (at w (b w 0)) x ≡ true
  back x on = sym ((kept w (b w 1) from_0 in_1).running x) ∙ on

  steady_tail : Steady w → Steady tail
  steady_tail steady i f l x on z =
      let s = from_0 in
      let e = to_end in
      steady i (omega arith) (omega arith) x (back x on) z ∙ sym (steady (b w 1) from_0 in_1 x (back x on) z)

-- ---- quiescent

-- where whatever is offered, in flight or as a spare, is what is offered now
module _
    (w : Stretch) (steady : Steady w)
    (honest : (m : Message) → Memᴰ m (start w steady).messages → Steadfast w steady m)
    (good :
    (x z : ℕ) → is_running (start w steady) x ≡ true → is_running (start w steady) z ≡ true → chosen (start w steady) x z ≡ false
    → Good w steady honest x z ((own_at (start w steady) x).spare z))
    (even : Even (start w steady).table)
    (room : size (start w steady).table * 6 ≤ K w)
  where
    abbrev s : Ring
    s = start w steady

    well : WellFormed s
    well = (fair w).well (b w 0)

    six : 6 ≤ K w
    six = let l = well.table_well.size_low in omega arith

    asks : (x z : ℕ) → is_running s x ≡ true → chosen s x z ≡ true → lacks s z x ≡ false
    asks x z on e =
        let r = six in
        let end = rises w 1 (K w) (omega arith) (le_refl (K w)) in
        let fire = (fair w).fires 0 (omega arith) x on 0 refl in
        asked_knows w steady x z on fire.0 1 fire.1 fire.2 fire.3
        (leafset_within _ x _ z (steady fire.0 fire.1 (omega (arith, fire.2)) x on z ∙ e)) (omega arith)

    hears : (x z y : ℕ) → is_running s x ≡ true → chosen s x z ≡ true → chosen s z y ≡ true → lacks s x y ≡ false
    hears x z y on e q =
        let r = six in
        let end = rises w 1 (K w) (omega arith) (le_refl (K w)) in
        let fire = (fair w).fires 0 (omega arith) x on 0 refl in
        hears_all w steady x z on fire.0 1 fire.1 fire.2 fire.3
        (leafset_within _ x _ z (steady fire.0 fire.1 (omega (arith, fire.2)) x on z ∙ e)) (omega arith) y q

    pub quiescent : Quiescent s
    quiescent =
        record {
          asks = asks;
          hears = hears;
          offers = λ x k z on l m out none.
              met_none w steady honest good (λ a c q e. mutual_held s well w.clean.holds_running even asks hears a c q e) x on k z m out none (omega arith);
          passes = λ o k p on e l way. let n = well.table_well.size_low in passes_known w steady o on e k p (omega arith) way;
        }

-- ---- from any point of such rounds

module _
    (w : Stretch) (steady : Steady w)
    (even : Even (at w (b w 4)).table)
    (room : size (at w (b w 4)).table * 6 + 4 ≤ K w)
  where
    abbrev n : ℕ
    n = size (at w (b w 4)).table

    abbrev w1 : Stretch
    w1 = tail w (n * 6 + 3) (omega arith)

    abbrev w2 : Stretch
    w2 = tail w1 (n * 6 + 2) (omega arith)

    abbrev w3 : Stretch
    w3 = tail w2 (n * 6 + 1) (omega arith)

    abbrev w4 : Stretch
    w4 = tail w3 (n * 6) (omega arith)

    steady1 : Steady w1
    steady1 = steady_tail w (n * 6 + 3) (omega arith) steady

    steady4 : Steady w4
    steady4 = steady_tail w3 (n * 6) (omega arith) (steady_tail w2 (n * 6 + 1) (omega arith) (steady_tail w1 (n * 6 + 2) (omega arith) steady1))

    end : (j : ℕ) → j ≤ 4 → b w j ≤ b w (K w)
    end j h = rises w j (K w) (omega arith) (le_refl (K w))

    from : (j : ℕ) → j ≤ 4 → b w 0 ≤ b w j
    from j h = rises w 0 j zero-le (omega arith)

    runs : (j : ℕ) → j ≤ 4 → (x : ℕ) → is_running (at w (b w j)) x ≡ true → is_running (at w (b w 0)) x ≡ true
    runs j h x on = sym ((kept w (b w j) (from j h) (end j h)).running x) ∙ on

    -- the offers in flight after a round were made in it
    honest1 : (m : Message) → Memᴰ m (start w1 steady1).messages → Steadfast w1 steady1 m
    honest1 m h is on =
        let on-0 = runs 1 (omega arith) m.sender on in
        (fair w).renewed 0 (omega arith) (Steadfast w steady)
        (λ i f l e q r. let z = end 1 (omega arith) in sends_steadfast w steady i f (omega arith) e q r) m h is on-0
        ∙ sym (offer_at w steady (b w 1) (from 1 (omega arith)) (end 1 (omega arith)) m.sender m.receiver on-0)

    offer_14 : (z x : ℕ) → is_running (at w (b w 4)) z ≡ true → offer_of (at w (b w 1)) z x ≡ offer_of (at w (b w 4)) z x
    offer_14 z x on =
        offer_at w steady (b w 1) (from 1 (omega arith)) (end 1 (omega arith)) z x (runs 4 (omega arith) z on)
        ∙ sym (offer_at w steady (b w 4) (from 4 (omega arith)) (end 4 (omega arith)) z x (runs 4 (omega arith) z on))

    on_1 : (x : ℕ) → is_running (at w (b w 4)) x ≡ true → is_running (at w (b w 1)) x ≡ true
    on_1 x on = (kept w (b w 1) (from 1 (omega arith)) (end 1 (omega arith))).running x ∙ runs 4 (omega arith) x on

    up_14 : b w 1 ≤ b w 4
    up_14 = rises w 1 4 (omega arith) (omega arith)

    end_14 : b w 4 ≤ b w (suc (n * 6 + 3))
    end_14 = rises w 4 (suc (n * 6 + 3)) (omega arith) (omega arith)

    honest4 : (m : Message) → Memᴰ m (start w4 steady4).messages → Steadfast w4 steady4 m
    honest4 m h is on = honest_at w1 steady1 honest1 (b w 4) up_14 end_14 m h is (on_1 m.sender on) ∙ offer_14 m.sender m.receiver on

    good4 :
        (x z : ℕ) → is_running (start w4 steady4) x ≡ true → is_running (start w4 steady4) z ≡ true → chosen (start w4 steady4) x z ≡ false
        → Good w4 steady4 honest4 x z ((own_at (start w4 steady4) x).spare z)
    good4 x z ox oz out =
        elim (soon_good w1 steady1 honest1 x z (on_1 x ox) (on_1 z oz) (omega arith) (sym (steady1 (b w 4) up_14 end_14 x (on_1 x ox) z) ∙ out)) [
          | inl e ↦ inl e
          | inr e ↦ inr (e ∙ offer_14 z x oz)
        ]

    pub quiesces : Quiescent (at w (b w 4))
    quiesces = quiescent w4 steady4 honest4 good4 even (le_refl (n * 6))
