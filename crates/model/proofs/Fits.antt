-- A well-formed ring fits; so its words read as a ring.
use mathlib.Core.Path.{◌≡◌, refl, sym, ap, ◌∙◌}
use Prim.Native.Nat.{ℕ, ◌≤◌, ◌<◌}
use native.Mathlib.Omega.{arith}
use mathlib.Core.Bool.{Bool, true, false, not, ◌&&◌, ◌||◌}
use mathlib.Core.List.{[], ◌∷◌}
use lib.ListN.{length}
use lib.Dec.{ltb, eqb}
use borrow.Author.Tests.{lt-ltb, le-leb, eq-eqb, ne_eqb}
use Rattle.model.specs.Choice.{◌⇒◌, every}
use Rattle.model.specs.Sets.{all}
use Rattle.model.specs.Leafset.{Table, size}
use Rattle.model.specs.Ring.{Node, Message, Ring, blank, message_at}
use Rattle.model.specs.WellFormed.{WellFormedSides, WellFormedTable, Spare, none, spare, WellFormedOwn}
use Rattle.model.specs.WellFormed.{WellFormedNode, WellFormedMessage, WellFormed, nil, cons}
use Rattle.model.specs.Types.{uses_view, uses_subject, names_spare, uses_stamp}
use Rattle.model.specs.Words.{is_pair, encode, decode, between, sides_fit, in_range, node_or_none, pair_fits}
use Rattle.model.specs.Words.{node_fits, subject_fits, view_fits, message_fits, ring_fits, reads_as_ring}
use Rattle.model.specs.declared.values.Sides.{Sides}
use Rattle.model.proofs.Laws.{and_left, and_right, and_in, or_left, or_right, implies_in, not_in, not_out}
use Rattle.model.proofs.Laws.{between_in, between_low, between_high, every_in, if_law, decide, all_in}
use Rattle.model.proofs.Senders.{senders_in}
use Rattle.model.proofs.Lists.{each_at}
use Rattle.model.proofs.Words.{pair_low, pair_other, length_encode, format_in, reads_in}
use Rattle.model.proofs.RoundTrip.{round_trip}

-- A and B, both ways
sides_in : (s : Sides) → WellFormedSides s → sides_fit s ≡ true
sides_in s g = and_in (between_in 1 8 s.ahead g.ahead_low g.ahead_high) (between_in 1 8 s.behind g.behind_low g.behind_high)

pub sides_out : (s : Sides) → sides_fit s ≡ true → WellFormedSides s
sides_out s e =
    let a = and_left (between 1 8 s.ahead) (between 1 8 s.behind) e in
    let b = and_right (between 1 8 s.ahead) (between 1 8 s.behind) e in
    record {
      ahead_low = between_low 1 8 s.ahead a;
      ahead_high = between_high 1 8 s.ahead a;
      behind_low = between_low 1 8 s.behind b;
      behind_high = between_high 1 8 s.behind b;
    }

table_fits : (t : Table) → WellFormedTable t → in_range t ≡ true
unfolding in_range
table_fits t g = every_in (cons (sides_in t.sides g.sides_well) (cons (between_in 1 64 (size t) g.size_low g.size_high) nil))

-- what a spare is not
record Apart (x z y : ℕ) : Type 0 where
  not_x : eqb y x ≡ false
  not_z : eqb y z ≡ false

apart : {n x z y : ℕ} → n ≤ 64 → x < n → z < n → Spare n x z y → Apart x z y
apart {x = x} {z = z} h hx hz none = record { not_x = ne_eqb 64 x (λ e. omega arith); not_z = ne_eqb 64 z (λ e. omega arith) }
apart {x = x} {z = z} {y = y} h hx hz (spare o d) = record { not_x = ne_eqb y x o.differs; not_z = ne_eqb y z d }

some_node : (t : Table) {x z y : ℕ} → Spare (size t) x z y → node_or_none t y ≡ true
some_node t none = or_right (ltb 64 (size t)) (eq-eqb 64 64 refl)
some_node t {y = y} (spare o d) = or_left (eqb y 64) (lt-ltb y (size t) o.low)

module _ (t : Table) (gt : WellFormedTable t) where
  pair_fits_lem : (s : Node) (x z : ℕ) → WellFormedNode (size t) x s → is_pair t x z ≡ true → pair_fits t s x z ≡ true
  unfolding pair_fits
  pair_fits_lem s x z g e =
      let w : WellFormedOwn (size t) x s.clock s.own = g.own_well in
      let a : Apart x z (s.own.spare z) = apart gt.size_high (pair_low t x z e) (pair_other t x z e).low (w.spare_other z) in
      every_in
      (cons (some_node t (w.spare_other z))
      (cons (not_in a.not_x)
      (cons (not_in a.not_z)
      (cons
      (if_law (λ (b : Bool). b ≡ true) (s.own.held z) (ltb 0 (s.own.commit z)) (eqb (s.own.commit z) 0)
      (λ h. lt-ltb 0 (s.own.commit z) (w.commit_held z h))
      (λ h. eq-eqb (s.own.commit z) 0 (w.commit_none z h)))
      (cons (le-leb (s.own.commit z) s.clock (w.commit_high z))
      (cons
      (implies_in (not (s.own.held z)) (eqb (s.own.spare z) 64) (λ h. eq-eqb (s.own.spare z) 64 (w.spare_none z (not_out (s.own.held z) h))))
      nil))))))

  node_fits_lem : (s : Node) (x : ℕ) → WellFormedNode (size t) x s → node_fits t s x ≡ true
  unfolding node_fits
  node_fits_lem s x g =
      every_in
      (cons (all_in (size t) (λ z. is_pair t x z ⇒ pair_fits t s x z) (λ z h. implies_in (is_pair t x z) (pair_fits t s x z) (pair_fits_lem s x z g)))
      (cons
      (implies_in (not s.running) (all (size t) (λ z. not (s.own.held z) && not (s.own.candidates z)))
      (λ e. all_in (size t) (λ z. not (s.own.held z) && not (s.own.candidates z))
      (λ z h. and_in (not_in (g.off_held (not_out s.running e) z)) (not_in (g.off_candidates (not_out s.running e) z)))))
      nil))

  module _ (m : Message) (g : WellFormedMessage (size t) m) where
    subject_fits_lem : subject_fits t m ≡ true
    subject_fits_lem =
        if_law (λ (b : Bool). b ≡ true) (uses_subject m.type)
        (ltb m.subject (size t) || (names_spare m.type && eqb m.subject 64)) (eqb m.subject 64)
        used
        (λ e. eq-eqb m.subject 64 (g.subject_none e))
      where
        of_spare : names_spare m.type ≡ true → {y : ℕ} → Spare (size t) m.receiver m.sender y
            → (ltb y (size t) || (names_spare m.type && eqb y 64)) ≡ true
        of_spare e none = or_right (ltb 64 (size t)) (and_in e (eq-eqb 64 64 refl))
        of_spare e {y = y} (spare o d) = or_left (names_spare m.type && eqb y 64) (lt-ltb y (size t) o.low)

        used : uses_subject m.type ≡ true → (ltb m.subject (size t) || (names_spare m.type && eqb m.subject 64)) ≡ true
        used e =
            decide (names_spare m.type) (λ i. of_spare i (g.subject_spare i))
            (λ d. or_left (names_spare m.type && eqb m.subject 64) (lt-ltb m.subject (size t) (g.subject_low e d)))

    spare_fits : names_spare m.type ≡ true → (not (eqb m.subject m.sender) && not (eqb m.subject m.receiver)) ≡ true
    spare_fits e =
        let a : Apart m.receiver m.sender m.subject = apart gt.size_high g.receiver_low g.sender_low (g.subject_spare e) in
        and_in (not_in a.not_z) (not_in a.not_x)

    view_fits_lem : view_fits t m ≡ true
    view_fits_lem =
        all_in 64 (λ y. m.view y ⇒ every (uses_view m.type ∷ ltb y (size t) ∷ not (eqb y m.receiver) ∷ []))
        (λ y h. implies_in (m.view y) (every (uses_view m.type ∷ ltb y (size t) ∷ not (eqb y m.receiver) ∷ []))
        (λ e. every_in
        (cons (g.view_type y e)
        (cons (lt-ltb y (size t) (g.view_other y e).low)
        (cons (not_in (ne_eqb y m.receiver (g.view_other y e).differs)) nil)))))

    message_fits_lem : message_fits t m ≡ true
    unfolding message_fits
    message_fits_lem =
        every_in
        (cons g.type_known
        (cons (lt-ltb m.sender (size t) g.sender_low)
        (cons (lt-ltb m.receiver (size t) g.receiver_low)
        (cons (not_in (ne_eqb m.sender m.receiver g.ends_differ))
        (cons subject_fits_lem
        (cons (implies_in (names_spare m.type) (not (eqb m.subject m.sender) && not (eqb m.subject m.receiver)) spare_fits)
        (cons
        (decide (uses_stamp m.type) (λ e. or_left (eqb m.stamp 0) e) (λ e. or_right (uses_stamp m.type) (eq-eqb m.stamp 0 (g.stamp_none e))))
        (cons view_fits_lem nil))))))))

pub ring_fits_lem : (r : Ring) → WellFormed r → ring_fits r ≡ true
unfolding ring_fits
ring_fits_lem r g =
    every_in
    (cons (table_fits r.table g.table_well)
    (cons g.table_well.keys_differ_lem
    (cons (le-leb (length r.messages) 1024 g.count_high)
    (cons (all_in (size r.table) (λ x. node_fits r.table (r.node x) x) (λ x h. node_fits_lem r.table g.table_well (r.node x) x (g.node_well x)))
    (cons
    (all_in (length r.messages) (λ k. message_fits r.table (message_at r k))
    (λ k h. message_fits_lem r.table g.table_well (message_at r k) (each_at g.messages_well blank k h)))
    (cons (senders_in r g.senders_few) nil))))))

-- the words of a well-formed ring read as a ring
pub encoded_reads : (r : Ring) → WellFormed r → reads_as_ring (encode r) ≡ true
encoded_reads r g =
    let back : decode (encode r) ≡ r = round_trip r g in
    reads_in (encode r)
    (record {
      long = length_encode r;
      format = format_in (encode r) (ap encode (sym back));
      fits = ap ring_fits back ∙ ring_fits_lem r g;
    })
