-- Cleanup over lists of words: the points of rounds follow each other by calm turns, so that Releasing says who is held outside at the end: nobody.
-- Without rounds the farthest never becomes farther, so windows of 8 rounds add up.
use mathlib.Core.Path.{◌≡◌, refl, sym, ap, ◌∙◌, subst}
use Prim.Native.Nat.{ℕ, zero, suc, ◌+◌, ◌*◌, ◌≤◌, ◌<◌, zero-le}
use native.Mathlib.Nat.{le_refl}
use native.Mathlib.Omega.{arith}
use native.Mathlib.Decide.{dec_lt}
use mathlib.Core.Bool.{Bool, true, false, not, ◌&&◌}
use mathlib.Core.List.{List}
use lib.ListN.{length}
use lib.Dec.{ltb}
use borrow.Author.Tests.{ltb-true, ltb-false}
use Rattle.std.specs.Prelude.{if◌then◌else◌}
use Rattle.model.specs.Key.{distance}
use Rattle.model.specs.Sets.{Set, some}
use Rattle.model.specs.Leafset.{Table, size, key, leafset}
use Rattle.model.specs.Ring.{Ring, is_running, holds}
use Rattle.model.specs.WellFormed.{WellFormed}
use Rattle.model.specs.Answers.{is_accepted}
use Rattle.model.specs.Play.{after, play_word}
use Rattle.model.specs.ConnectivityPreserved.{Reached, read_at, answer_at}
use Rattle.model.proofs.Laws.{clash, and_left, and_right, and_in, not_in, not_out, decide, is_false, same_test, some_in, some_out}
use Rattle.model.proofs.Answers.{accepted_is}
use Rattle.settle_leafsets.specs.Covered.{Covered, Even}
use Rattle.settle_kept.specs.Settled.{Settled, AcceptedIs, takes_in}
use Rattle.settle_kept.specs.Improving.{Clean}
use Rattle.settle_kept.proofs.Closure.{well_at, next_at_lem, answer_at_lem, along}
use Rattle.settle_rounds.specs.Rounds.{event_at, Rounds}
use Rattle.settle_rounds.specs.Windows.{Windows}
use Rattle.settle_rounds.proofs.Turns.{Fair}
use Rattle.settle_rounds.proofs.Fairly.{fair}
use Rattle.settle_rounds.proofs.Windows.{Next, over_windows, span}
use Rattle.settle_cleanup.specs.Cleanup.{Tidy, Calm, Outside, Nearer, NotFarther, Prepared, NoStrangers, Cleaned, Cleanup}
use Rattle.settle_cleanup.proofs.Pairs.{leafset_held, fits_held}
use Rattle.settle_cleanup.proofs.Prepared.{Same, same_after, leafset_in, Short, limited_after}
use Rattle.settle_cleanup.proofs.NearSpares.{NearerOrNone, NearSpares, near_after, near_at}
use Rattle.settle_cleanup.proofs.Tidying.{tidied, tidied_running, tidied_table}
use Rattle.settle_cleanup.proofs.Releasing.{away, rank, rank_low, rank_rises, CalmTurn, waits, goes, mono}
use Rattle.settle_cleanup.proofs.Releasing.{same_at, prepared_start, window, window_8, Out, windows, windows_are, none_left}

-- where nobody is held outside, a tidy ring is settled
pub tidy_settled : (r : Ring) → WellFormed r → Tidy r → ((x z : ℕ) → is_running r x ≡ true → ¬ Outside r x z) → Settled r
tidy_settled r well tidy none =
    record {
      converged = record {
        holds_leafset = λ x on z.
            same_test (holds r x z) (leafset r.table x (is_running r) z)
            (λ h. decide (leafset r.table x (is_running r) z) (λ e. e) (λ e. absurd (none x z on (record { held = h; far = e }))))
            (λ e. leafset_held r well tidy x on z e);
      };
      still = λ m i. record {
        contacts = λ e to from. leafset_held r well tidy m.sender from m.receiver ((tidy.familiar m i).contacts e to from);
        answers = λ e to. leafset_held r well tidy m.receiver to m.sender ((tidy.familiar m i).answers e to);
        accepts = λ e to fits. fits_held r well tidy m.receiver m.sender to (tidy.clean.senders_run m i (ap takes e) to) fits;
        leaves = λ e to.
            is_false (holds r m.receiver m.sender)
            (λ h. clash (tidy.clean.holds_running m.receiver to m.sender h) (tidy.clean.leavers_off m i e to));
      };
    }
  where
    takes : ℕ → Bool
    takes k = takes_in k

module _ (start : List ℕ) (r : Ring) (reached : Reached start r) (words : List ℕ) where
  abbrev at : ℕ → Ring
  at i = read_at start words i

  -- a word is accepted, and leaves what its event does; or the ring stays
  word_turn : (k : ℕ) → k < length words → (answer_at start words k ≡ 0 → Calm (at k) (event_at start words k)) → CalmTurn (at k) (at (suc k))
  unfolding play_word
  word_turn k l c =
      decide (is_accepted (answer_at start words k))
      (λ a.
      let ok = accepted_is (answer_at start words k) a in
      goes (event_at start words k) (c ok)
      (next_at_lem start r reached words k l
      ∙ ap (λ (v : Bool). if v then after (at k) (event_at start words k) else at k) (ap is_accepted (sym (answer_at_lem start r reached words k l)) ∙ a)))
      (λ a. waits
      (next_at_lem start r reached words k l
      ∙ ap (λ (v : Bool). if v then after (at k) (event_at start words k) else at k) (ap is_accepted (sym (answer_at_lem start r reached words k l)) ∙ a)))

  module _ {K p q : ℕ} (rs : Rounds start words K p q) where
    -- the round of a point
    round_of : (n : ℕ) → n ≤ K → (i : ℕ) → rs.bound 0 ≤ i → i < rs.bound n → (j : ℕ) × (j < K) × (rs.bound j ≤ i) × (i < rs.bound (suc j))
    round_of zero h i f l = absurd (omega arith)
    round_of (suc n) h i f l =
        elim (dec_lt i (rs.bound n)) [
          | yes k ↦ round_of n (omega arith) i f k
          | no k ↦ (n, h, omega arith, l)
        ]

    calm_turns : NoStrangers start words p q → (i : ℕ) → rs.bound 0 ≤ i → i < rs.bound K → CalmTurn (at i) (at (suc i))
    calm_turns strangers i f l =
        let s = round_of K (le_refl K) i f l in
        let o = rs.rounds s.0 s.1 in
        let w = o.within in
        let z = rs.first in
        let e = rs.last in
        word_turn i (omega (arith, s.3)) (λ ok. ((o.lossless i s.2 s.3 ok).0, strangers i (omega arith) (omega arith) ok))

    module _ (strangers : NoStrangers start words p q) (tidy : Tidy (at p)) (even : Even (at p).table) where
      abbrev b : ℕ → ℕ
      b = rs.bound

      tidy_first : Tidy (at (b 0))
      tidy_first = subst (λ (k : ℕ). Tidy (at k)) (sym rs.first) tidy

      even_first : Even (at (b 0)).table
      even_first = subst (λ (k : ℕ). Even (at k).table) (sym rs.first) even

      abbrev f : Fair at rs.bound K
      f = fair start r reached words rs

      abbrev c : (i : ℕ) → b 0 ≤ i → i < b K → CalmTurn (at i) (at (suc i))
      c = calm_turns strangers

      ordered : b 0 ≤ b K
      ordered = mono at b K f c tidy_first even_first 0 K (omega arith) (le_refl K)

      same_last : Same (at (b 0)).table (is_running (at (b 0))) (at (b K))
      same_last = same_at at b K f c tidy_first even_first (b K) ordered (le_refl (b K))

      same_first : Same (at (b 0)).table (is_running (at (b 0))) (at (b 0))
      same_first = record { tidy = tidy_first; table = refl; running = λ x. refl }

      -- in terms of the two points
      same_points : Same (at p).table (is_running (at p)) (at q)
      same_points =
          subst (λ (k : ℕ). Same (at k).table (is_running (at k)) (at q)) rs.first
          (subst (λ (k : ℕ). Same (at (b 0)).table (is_running (at (b 0))) (at k)) rs.last same_last)

      out_in : (x z : ℕ) → Outside (at (b K)) x z → Out at b K f c tidy_first even_first (b K) x z
      out_in x z o = record { held = o.held; far = sym (leafset_in (at (b 0)).table (is_running (at (b 0))) (at (b K)) same_last x z) ∙ o.far }

      settled_last : windows (size (at (b 0)).table) ≡ K → Settled (at (b K))
      settled_last e =
          tidy_settled (at (b K)) (well_at start r reached words (b K)) same_last.tidy
          (λ x z on o.
          none_left at b K f c tidy_first even_first (subst (λ (n : ℕ). n ≤ K) (sym e) (le_refl K)) x z (sym (same_last.running x) ∙ on)
          (subst (λ (n : ℕ). Out at b K f c tidy_first even_first (b n) x z) (sym e) (out_in x z o)))

      prepared_last : (i : ℕ) → i ≡ K → 5 ≡ i → Prepared (at (b 0)).table (is_running (at (b 0))) (at (b K))
      prepared_last i e five =
          subst (λ (n : ℕ). Prepared (at (b 0)).table (is_running (at (b 0))) (at (b n))) (five ∙ e)
          (prepared_start at b K f c tidy_first even_first (omega arith))

      -- in terms of the last point
      prepared_there : Prepared (at (b 0)).table (is_running (at (b 0))) (at (b K)) → Prepared (at (b K)).table (is_running (at (b K))) (at (b K))
      prepared_there d =
          subst (λ (S : Set). Prepared (at (b K)).table S (at (b K))) (λ j a. sym (same_last.running a) j)
          (subst (λ (u : Table). Prepared u (is_running (at (b 0))) (at (b K))) (sym same_last.table) d)

      nearer_last :
          6 ≡ K → Prepared (at (b 0)).table (is_running (at (b 0))) (at (b 0)) → (x : ℕ) → is_running (at (b 0)) x ≡ true → Nearer x (at (b 0)) (at (b K))
      nearer_last e d x on w o =
          let h = window at b K f c tidy_first even_first 0 (omega arith) d x w on
          (subst (λ (n : ℕ). Out at b K f c tidy_first even_first (b n) x w) (sym e) (out_in x w o)) in (
            h.0,
            record { held = h.1.held; far = h.1.far },
            subst (λ (u : Table). distance (key u x) (key u w) < distance (key u x) (key u h.0)) (sym same_last.table) h.2,
          )

      -- spares are nearer than those whom they may replace
      last_in : 1 ≤ K → b K ≤ length words
      last_in h = go K (le_refl K) h
        where
          go : (n : ℕ) → n ≤ K → 1 ≤ n → b n ≤ length words
          go zero l h = absurd (omega arith)
          go (suc n) l h = (rs.rounds n l).within

      short : 1 ≤ K → (i : ℕ) → b 0 ≤ i → i ≤ b K → Short (at (b 0)).table (is_running (at (b 0))) (at i)
      short h i g l x z on far =
          let w = last_in h in
          subst (λ (u : Table). NearerOrNone u x z (((at i).node x).own.spare z)) (same_at at b K f c tidy_first even_first i g l).table
          ((near_at start r reached words i (omega arith)).spares x z)

      cleans_last : 8 ≡ K → (x : ℕ) → is_running (at (b 0)) x ≡ true → Nearer x (at (b 0)) (at (b K))
      cleans_last e x on w o =
          let h = window_8 at b K f c tidy_first even_first (omega arith) (short (omega arith)) x w on
          (subst (λ (n : ℕ). Out at b K f c tidy_first even_first (b n) x w) (sym e) (out_in x w o)) in (
            h.0,
            record { held = h.1.held; far = h.1.far },
            subst (λ (u : Table). distance (key u x) (key u w) < distance (key u x) (key u h.0)) (sym same_last.table) h.2,
          )

  settles_tidy : (p q : ℕ) → Tidy (at p) → Even (at p).table → Rounds start words (5 + 6 * size (at p).table) p q → NoStrangers start words p q
      → Settled (at q) × ((x : ℕ) → is_running (at q) x ≡ is_running (at p) x)
  settles_tidy p q tidy even rs strangers = (
    subst (λ (k : ℕ). Settled (at k)) rs.last
        (settled_last rs strangers tidy even
        (windows_are (size (at (rs.bound 0)).table) ∙ ap (λ (k : ℕ). 5 + 6 * size (at k).table) rs.first)),
    (same_points rs strangers tidy even).running,
  )

  -- ---- two rounds first

  -- the points of the rounds rise
  rises : {K p q : ℕ} (rs : Rounds start words K p q) (n : ℕ) → n ≤ K → (i : ℕ) → i ≤ n → rs.bound i ≤ rs.bound n
  rises rs zero h i l = subst (λ (k : ℕ). rs.bound k ≤ rs.bound 0) (omega arith) (le_refl (rs.bound 0))
  rises rs (suc n) h i l =
      elim (dec_lt n i) [
        | yes g ↦ subst (λ (k : ℕ). rs.bound k ≤ rs.bound (suc n)) (omega arith) (le_refl (rs.bound (suc n)))
        | no g ↦ (let u = rises rs n (omega arith) i (omega arith) in let o = (rs.rounds n h).ordered in omega arith)
      ]

  module _ {K p q : ℕ} (rs : Rounds start words (suc (suc K)) p q) (strangers : NoStrangers start words p q) (clean : Clean (at p))
      (covered : Covered (at p)) where
    abbrev two : ℕ
    two = rs.bound 2

    before : two ≤ q
    before = let o = rises rs (suc (suc K)) (le_refl (suc (suc K))) 2 (omega arith) in let e = rs.last in omega arith

    since : p ≤ two
    since = let o = rises rs 2 (omega arith) 0 (omega arith) in let e = rs.first in omega arith

    clean_first : Clean (at (rs.bound 0))
    clean_first = subst (λ (k : ℕ). Clean (at k)) (sym rs.first) clean

    covered_first : Covered (at (rs.bound 0))
    covered_first = subst (λ (k : ℕ). Covered (at k)) (sym rs.first) covered

    early : NoStrangers start words (rs.bound 0) two
    early k f l = let e = rs.first in let b = before in strangers k (omega arith) (omega arith)

    tidy_two : Tidy (at two)
    tidy_two =
        tidied start r reached words (rs.bound 0) (rs.bound 1) two (rs.rounds 0 (omega arith)) (rs.rounds 1 (omega arith)) early clean_first covered_first

    running_two : (x : ℕ) → is_running (at two) x ≡ is_running (at p) x
    running_two x =
        tidied_running start r reached words (rs.bound 0) (rs.bound 1) two (rs.rounds 0 (omega arith))
        (rs.rounds 1 (omega arith)) early clean_first covered_first x
        ∙ ap (λ (k : ℕ). is_running (at k) x) rs.first

    table_two : (at two).table ≡ (at p).table
    table_two =
        tidied_table start r reached words (rs.bound 0) (rs.bound 1) two (rs.rounds 0 (omega arith))
        (rs.rounds 1 (omega arith)) early clean_first covered_first
        ∙ ap (λ (k : ℕ). (at k).table) rs.first

    rest : Rounds start words K two q
    rest = record { bound = λ i. rs.bound (suc (suc i)); first = refl; last = rs.last; rounds = λ i h. rs.rounds (suc (suc i)) (omega arith) }

    late : NoStrangers start words two q
    late k f l = let s = since in strangers k (omega arith) l

  settles : (p q : ℕ) → Clean (at p) → Covered (at p) → Even (at p).table → Rounds start words (7 + 6 * size (at p).table) p q → NoStrangers start words p q
      → Settled (at q) × ((x : ℕ) → is_running (at q) x ≡ is_running (at p) x)
  settles p q clean covered even rounds strangers =
      let rs : Rounds start words (suc (suc (5 + 6 * size (at p).table))) p q = subst (λ (k : ℕ). Rounds start words k p q) (omega arith) rounds in
      let d = settles_tidy (two rs strangers clean covered) q (tidy_two rs strangers clean covered)
      (subst Even (sym (table_two rs strangers clean covered)) even)
      (subst (λ (u : Table). Rounds start words (5 + 6 * size u) (two rs strangers clean covered) q) (sym (table_two rs strangers clean covered))
      (rest rs strangers clean covered))
      (late rs strangers clean covered) in
      (d.0, λ x. d.1 x ∙ running_two rs strangers clean covered x)

  cleans :
      (p q : ℕ) → Tidy (at p) → Even (at p).table → Rounds start words 8 p q → NoStrangers start words p q → (x : ℕ) → is_running (at p) x ≡ true
      → Nearer x (at p) (at q)
  cleans p q tidy even rs strangers x on =
      subst (λ (k : ℕ). Nearer x (at k) (at q)) rs.first
      (subst (λ (k : ℕ). Nearer x (at (rs.bound 0)) (at k)) rs.last
      (cleans_last rs strangers tidy even refl x (subst (λ (k : ℕ). is_running (at k) x ≡ true) (sym rs.first) on)))

  -- ---- any calm words

  module _ (p : ℕ) (tidy : Tidy (at p)) where
    abbrev t : Table
    t = (at p).table

    abbrev R : Set
    R = is_running (at p)

    same_now : Same t R (at p)
    same_now = record { tidy = tidy; table = refl; running = λ x. refl }

    same_kept : (q : ℕ) → p ≤ q → q ≤ length words → ((k : ℕ) → p ≤ k → k < q → AcceptedIs start words Calm k) → Same t R (at q)
    same_kept q f l c = along start r reached words Calm (Same t R) (λ s well b e d. same_after t R s well b e d) p same_now q f l c

    low_in : (q : ℕ) → Same t R (at q) → (x w : ℕ) → holds (at q) x w ≡ true → w < size t
    low_in q s x w h = subst (λ (u : Table). w < size u) s.table (((well_at start r reached words q).node_well x).own_well.held_other w h).low

    short_of : (s : Ring) → Same t R s → NearSpares s → Short t R s
    short_of s is near x z on far = subst (λ (u : Table). NearerOrNone u x z ((s.node x).own.spare z)) is.table (near.spares x z)

    -- all whom x holds outside are nearer than d
    abbrev Under : ℕ → ℕ → Ring → Type 0
    Under x d s = (w : ℕ) → holds s x w ≡ true → leafset t x R w ≡ false → away t x w < d

    under_kept :
        (x d : ℕ) → R x ≡ true → Under x d (at p) → (q : ℕ) → p ≤ q → q ≤ length words → ((k : ℕ) → p ≤ k → k < q → AcceptedIs start words Calm k)
        → Under x d (at q)
    under_kept x d on u q f l c =
        (along start r reached words Calm (λ s. Same t R s × NearSpares s × Under x d s)
        (λ s well b e g. (
          same_after t R s well b.0 e g,
          near_after s b.1 e,
          limited_after t R s well b.0 e g (short_of s b.0 b.1) (λ v. v < d) (λ v w h k. omega arith) x on b.2,
        ))
        p (same_now, near_at start r reached words p (omega arith), u) q f l c).2

    abbrev as_far : ℕ → ℕ → Set
    as_far x w z = holds (at p) x z && not (leafset t x R z) && not (ltb (away t x z) (away t x w))

    none_as_far : (x w : ℕ) → some (size t) (as_far x w) ≡ false → Under x (away t x w) (at p)
    none_as_far x w none u h far =
        decide (ltb (away t x u) (away t x w))
        (λ e. ltb-true (away t x u) (away t x w) e)
        (λ e. clash (some_in (size t) (as_far x w) u (((well_at start r reached words p).node_well x).own_well.held_other u h).low
        (and_in (and_in h (not_in far)) (not_in e))) none)

    no_farther :
        (q : ℕ) → p ≤ q → q ≤ length words → ((k : ℕ) → p ≤ k → k < q → AcceptedIs start words Calm k) → (x : ℕ) → R x ≡ true → NotFarther x (at p) (at q)
    no_farther q f l c x on w out =
        let s : Same t R (at q) = same_kept q f l c in
        decide (some (size t) (as_far x w))
        (λ e.
        let h = some_out (size t) (as_far x w) e in
        let z : ℕ = h.0 in
        let both : (holds (at p) x z && not (leafset t x R z)) ≡ true = and_left (holds (at p) x z && not (leafset t x R z)) _ h.2 in (
          z,
          record { held = and_left (holds (at p) x z) _ both; far = not_out (leafset t x R z) (and_right (holds (at p) x z) _ both) },
          subst (λ (u : Table). distance (key u x) (key u w) ≤ distance (key u x) (key u z)) (sym s.table)
              (ltb-false (away t x z) (away t x w) (not_out (ltb (away t x z) (away t x w)) (and_right (holds (at p) x z && not (leafset t x R z)) _ h.2))),
        ))
        (λ e. let u = under_kept x (away t x w) on (none_as_far x w e) q f l c w out.held (sym (leafset_in t R (at q) s x w) ∙ out.far) in
        absurd (omega arith))

  -- ---- windows

  module _ (p : ℕ) (tidy : Tidy (at p)) (even : Even (at p).table) where
    -- after k windows
    abbrev Ranked : ℕ → ℕ → Type 0
    Ranked k a = NoStrangers start words p a → (x w : ℕ) → R p tidy x ≡ true → Outside (at a) x w → k ≤ rank (t p tidy) x w

    abbrev some_rounds : 0 < 8
    some_rounds = omega arith

    one_window : (k a from to : ℕ) → Next start r reached words some_rounds p a from to → Ranked k a → Ranked (suc k) to
    one_window k a from to n ranked strangers x w on out =
        let since = n.since in
        let gap = n.gap in
        let goes = n.on in
        let inside = n.inside in
        let calm : (i : ℕ) → p ≤ i → i < to → AcceptedIs start words Calm i = λ i f l ok. (n.harmless i f l ok, strangers i f l ok) in
        let same_in : (i : ℕ) → p ≤ i → i ≤ to → Same (t p tidy) (R p tidy) (at i) =
        λ i f l. same_kept p tidy i f (omega arith) (λ j g h. calm j g (omega arith)) in
        let s-a = same_in a since (omega arith) in
        let s-from = same_in from (omega arith) goes in
        let s-to = same_in to (omega arith) (le_refl to) in
        let c = cleans from to s-from.tidy (subst Even (sym s-from.table) even) n.rounds
        (λ i f l. strangers i (omega arith) l) x (s-from.running x ∙ on) w out in
        let u : ℕ = c.0 in
        let f = no_farther a s-a.tidy from gap (omega arith) (λ i f l. calm i (omega arith) (omega arith)) x (s-a.running x ∙ on) u c.1 in
        let z : ℕ = f.0 in
        let first : away (t p tidy) x w < away (t p tidy) x u =
        subst (λ (v : Table). distance (key v x) (key v w) < distance (key v x) (key v u)) s-to.table c.2 in
        let second : away (t p tidy) x u ≤ away (t p tidy) x z =
        subst (λ (v : Table). distance (key v x) (key v u) ≤ distance (key v x) (key v z)) s-from.table f.2 in
        let before = ranked (λ i f l. strangers i f (omega arith)) x z on f.1 in
        let more = rank_rises (t p tidy) x w z (low_in p tidy a s-a x z f.1.held) (omega arith) in
        omega arith

    settles_in_windows :
        (q : ℕ) → Windows start words 8 (size (at p).table) p q → NoStrangers start words p q
        → Settled (at q) × ((x : ℕ) → is_running (at q) x ≡ is_running (at p) x)
    settles_in_windows q ws strangers =
        let any = (well_at start r reached words p).table_well.size_low in
        let n = span start r reached words some_rounds p ws in
        let s : Same (t p tidy) (R p tidy) (at q) =
        same_kept p tidy q n.on (n.inside (omega arith)) (λ i f l ok. (n.harmless i f l ok, strangers i f l ok)) in (
          tidy_settled (at q) (well_at start r reached words q) s.tidy
              (λ x w on out.
              let ranked = over_windows start r reached words some_rounds p Ranked one_window ws (λ a b c d e. zero-le) in
              let high = ranked strangers x w (sym (s.running x) ∙ on) out in
              let less = rank_low (t p tidy) x w (low_in p tidy q s x w out.held) in
              omega arith),
          s.running,
        )

  cleaned : Cleaned start words
  cleaned =
      record {
        cleans = cleans;
        prepares = λ p q tidy even rs strangers. (
          subst (λ (k : ℕ). Tidy (at k)) rs.last (same_last rs strangers tidy even).tidy,
          (same_points rs strangers tidy even).running,
          subst (λ (k : ℕ). Prepared (at k).table (is_running (at k)) (at k)) rs.last
              (prepared_there rs strangers tidy even (prepared_last rs strangers tidy even 5 refl refl)),
        );
        progresses = λ p q tidy even d rs strangers x on.
            subst (λ (k : ℕ). Nearer x (at k) (at q)) rs.first
            (subst (λ (k : ℕ). Nearer x (at (rs.bound 0)) (at k)) rs.last
            (nearer_last rs strangers tidy even refl
            (subst (λ (k : ℕ). Prepared (at k).table (is_running (at k)) (at k)) (sym rs.first) d)
            x (subst (λ (k : ℕ). is_running (at k) x ≡ true) (sym rs.first) on)));
        settles_tidy = settles_tidy;
        tidies = λ p q clean covered rs strangers. (
          subst (λ (k : ℕ). Tidy (at k)) rs.last (tidy_two {K = 0} rs strangers clean covered),
          λ x. ap (λ (k : ℕ). is_running (at k) x) (sym rs.last) ∙ running_two {K = 0} rs strangers clean covered x,
        );
        settles = settles;
        tidy_kept = λ p tidy q f l c. ((same_kept p tidy q f l c).tidy, (same_kept p tidy q f l c).running);
        never_farther = no_farther;
        settles_in_windows = λ p q tidy even ws strangers. settles_in_windows p tidy even q ws strangers;
      }

pub cleanup : Cleanup
cleanup start r reached words = cleaned start r reached words
