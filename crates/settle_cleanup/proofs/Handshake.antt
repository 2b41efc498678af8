-- The steps of a trade, one event of a tidy ring each: x asks z for a spare, z offers y, x asks y, y acknowledges, x releases z.
use mathlib.Core.Path.{◌≡◌, refl, ap, ◌∙◌, subst}
use Prim.Native.Nat.{ℕ, ◌<◌}
use mathlib.Core.Bool.{true, false, not, ◌&&◌}
use mathlib.Core.List.{[], Memᴰ}
use lib.Dec.{eqb, ltb}
use borrow.Author.Tests.{eq-eqb, lt-ltb}
use Rattle.std.specs.Prelude.{if◌then◌else◌}
use Rattle.model.specs.Sets.{Set, without}
use Rattle.model.specs.Leafset.{Table, size, closest}
use Rattle.model.specs.Ring.{Ring, Own, Message, is_running, holds, message_at}
use Rattle.model.specs.WellFormed.{WellFormed}
use Rattle.model.specs.Steps.{Effect, stamped, naming, plain, set_commit, hold, release, outside}
use Rattle.model.specs.Steps.{on_pong_replace, deliver}
use Rattle.model.specs.Play.{after}
use Rattle.model.specs.declared.event.Event.TheVariants.{Timer, Deliver}
use Rattle.model.proofs.Laws.{clash, and_right, and_in, not_in, is_false, if_law}
use Rattle.settle_leafsets.proofs.Closest.{offer_same}
use Rattle.settle_kept.proofs.Keeping.{now_at, own_at, given}
use Rattle.settle_rounds.proofs.Turns.{node_of, timer_sends}
use Rattle.settle_rounds.proofs.Window.{received_own, received_sends}
use Rattle.settle_rounds.proofs.Spares.{sends_7, answers_7, notes_spare}
use Rattle.settle_rounds.proofs.Replacing.{sends_9, answers_9}
use Rattle.settle_cleanup.specs.Cleanup.{Tidy, Outside}
use Rattle.settle_cleanup.proofs.Pairs.{known, holder_runs}

module _ (r : Ring) (well : WellFormed r) (tidy : Tidy r) where
  abbrev t : Table
  t = r.table

  abbrev R : Set
  R = is_running r

  runs : (x z : ℕ) → Outside r x z → R x ≡ true
  runs x z out = holder_runs r well tidy x z out.held

  low : (x z : ℕ) → Outside r x z → z < size t
  low x z out = ((well.node_well x).own_well.held_other z out.held).low

  outside_own : (x z : ℕ) → Outside r x z → outside t x (now_at r x) (own_at r x) z ≡ true
  outside_own x z out = and_in out.held (not_in (known r well tidy x (runs x z out) z ∙ out.far))

  -- x asks z for a spare
  pub asks_spare : (x z : ℕ) → Outside r x z → Memᴰ (plain 7 x z) (after r (Timer (node_of x) 2)).messages
  asks_spare x z out = timer_sends r (node_of x) 2 _ (sends_7 t x (now_at r x) (own_at r x) z (low x z out) (outside_own x z out))

  -- x asks the spare of z
  pub asks_trade :
      (x z : ℕ) → Outside r x z → ¬ ((r.node x).own.spare z ≡ 64)
      → Memᴰ (stamped 9 x ((r.node x).own.spare z) z (now_at r x)) (after r (Timer (node_of x) 3)).messages
  asks_trade x z out n = timer_sends r (node_of x) 3 _ (sends_9 t x (now_at r x) (own_at r x) z (low x z out) (outside_own x z out) n)

  -- ---- the delivery of the message M at i

  module _ (i : ℕ) (M : Message) (is : message_at r i ≡ M) (on : R M.receiver ≡ true) where
    sends_at : (m : Message) → Memᴰ m (given r M.receiver M).sent → Memᴰ m (after r (Deliver i false)).messages
    sends_at = received_sends r (after r (Deliver i false)) M i is refl on

    own_at_lem : ((after r (Deliver i false)).node M.receiver).own ≡ (given r M.receiver M).own
    own_at_lem = received_own r (after r (Deliver i false)) M i is refl on

  -- z offers x the nearest of its leafset
  pub offers_spare : (i x z : ℕ) → message_at r i ≡ plain 7 x z → R z ≡ true → Memᴰ (naming 8 z x (closest t z R x)) (after r (Deliver i false)).messages
  offers_spare i x z is on =
      sends_at i (plain 7 x z) is on _
      (subst (λ (y : ℕ). Memᴰ (naming 8 z x y) (given r z (plain 7 x z)).sent) (offer_same t z (holds r z) R (known r well tidy z on) x)
      (answers_7 t z (now_at r z) (own_at r z) x))

  -- x takes y as the spare of z
  pub takes_spare : (i x z y : ℕ) → message_at r i ≡ naming 8 z x y → R x ≡ true → holds r x z ≡ true → ((after r (Deliver i false)).node x).own.spare z ≡ y
  takes_spare i x z y is on held =
      ap (λ (o : Own). o.spare z) (own_at_lem i (naming 8 z x y) is on) ∙ notes_spare t x (now_at r x) (own_at r x) z y held

  -- y, who holds z, acknowledges
  pub acknowledges :
      (i x y z c : ℕ) → message_at r i ≡ stamped 9 x y z c → R y ≡ true → holds r y z ≡ true
      → Memᴰ (stamped 10 y x z c) (after r (Deliver i false)).messages
  acknowledges i x y z c is on held = sends_at i (stamped 9 x y z c) is on _ (answers_9 t y (now_at r y) (own_at r y) x z c held)

  -- x releases z for y
  pub releases : (i x y z c : ℕ) → message_at r i ≡ stamped 10 y x z c → Outside r x z → (r.node x).own.spare z ≡ y → (r.node x).own.commit z < c
      → holds (after r (Deliver i false)) x z ≡ false
  unfolding deliver on_pong_replace release
  releases i x y z c is out spare young =
      ap (λ (o : Own). o.held z) (own_at_lem i (stamped 10 y x z c) is (runs x z out))
      ∙ if_law (λ (e : Effect). e.own.held z ≡ false) (outside t x (now_at r x) (own_at r x) z && eqb ((own_at r x).spare z) y)
      (record {
        own =
            if ltb ((own_at r x).commit z) c then set_commit y (now_at r x) (release z (hold (now_at r x) y (own_at r x)))
            else hold (now_at r x) y (own_at r x);
        sent = [];
      })
      (record { own = own_at r x; sent = [] })
      (λ q. if_law (λ (p : Own). p.held z ≡ false) (ltb ((own_at r x).commit z) c) (set_commit y (now_at r x) (release z (hold (now_at r x) y (own_at r x))))
      (hold (now_at r x) y (own_at r x))
      (λ l. out_at (hold (now_at r x) y (own_at r x)).held z)
      (λ l. clash (lt-ltb ((own_at r x).commit z) c young) l))
      (λ q. clash (and_in (outside_own x z out) (eq-eqb ((own_at r x).spare z) y spare)) q)
    where
      out_at : (S : Set) (w : ℕ) → without S w w ≡ false
      out_at S w = is_false (without S w w) (λ q. clash (and_right (S w) (not (eqb w w)) q) (ap not (eq-eqb w w refl)))
