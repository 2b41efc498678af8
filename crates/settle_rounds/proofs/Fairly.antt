-- Rounds of a list of words as points and turns (Fair): each word is a turn, each timer fires, what is in flight at the start of a round arrives in it,
-- by following its position (Following), and what is in flight at the end was sent in it (Renewing).
use mathlib.Core.Path.{◌≡◌, refl, sym, ap, ◌∙◌, subst}
use Prim.Native.Nat.{ℕ, zero, suc, ◌+◌, ◌-◌, ◌≤◌, ◌<◌}
use native.Mathlib.Nat.{add-suc, add-zero}
use native.Mathlib.Omega.{arith}
use native.Mathlib.Decide.{dec_lt}
use mathlib.Core.Bool.{false}
use mathlib.Core.List.{List, Memᴰ}
use lib.ListN.{length, get_or}
use Rattle.model.specs.Ring.{Ring, Message, is_running, message_at}
use Rattle.model.specs.WellFormed.{Each}
use Rattle.model.specs.Answers.{is_accepted}
use Rattle.model.specs.Play.{after, state_refusals, play_word}
use Rattle.model.specs.ConnectivityPreserved.{Reached, read_at, answer_at}
use Rattle.model.specs.declared.event.Event.{Event}
use Rattle.model.specs.declared.event.Event.TheVariants.{On, Off, Notice, Contact, Timer, Deliver, Lose}
use Rattle.model.proofs.Laws.{not_out_false, if_law, decide}
use Rattle.model.proofs.Lists.{first, rest}
use Rattle.model.proofs.WellFormedPlay.{accepted_word}
use Rattle.model.proofs.Answers.{accepted_is}
use Rattle.settle_kept.proofs.Closure.{well_at, answer_at_lem}
use Rattle.settle_rounds.specs.Rounds.{Fate, flying, gone, fate, onward, Lossless, event_at, fate_after, Round, Rounds}
use Rattle.settle_rounds.proofs.Turns.{Runs, Turn, stands, turns, Arrival, node_of, Fair}
use Rattle.settle_rounds.proofs.Following.{Moved, FateIs, fate_is}
use Rattle.settle_rounds.proofs.Renewing.{place_of, accepted_at, refused_at, renewed}

none_runs : (r : Ring) (e : Event) → Each (λ q. q.applies ≡ false) (state_refusals r e) → Runs r e
none_runs r (On x) p = tt
none_runs r (Off x polite) p = tt
none_runs r (Notice x z) p = tt
none_runs r (Contact x y) p = tt
none_runs r (Timer x k) p = not_out_false (is_running r x.0) (first (rest p))
none_runs r (Deliver i echo) p = tt
none_runs r (Lose i) p = tt

module _ (start : List ℕ) (r : Ring) (reached : Reached start r) (words : List ℕ) where
  abbrev at : ℕ → Ring
  at i = read_at start words i

  runs_at : (k : ℕ) → k < length words → answer_at start words k ≡ 0 → Runs (at k) (event_at start words k)
  unfolding play_word
  runs_at k l ok =
      none_runs (at k) (event_at start words k)
      (accepted_word (at k) (get_or words k 0) (ap is_accepted (sym (answer_at_lem start r reached words k l) ∙ ok))).passed

  module _ (p q : ℕ) (round : Round start words p q) where
    turn_at : (k : ℕ) → p ≤ k → k < q → Turn (at k) (at (suc k))
    turn_at k f l =
        let w = round.within in
        decide (is_accepted (answer_at start words k))
        (λ a. let ok = accepted_is (answer_at start words k) a in
        turns (event_at start words k) (round.lossless k f l ok) (runs_at k (omega arith) ok) (accepted_at start r reached words k (omega arith) ok))
        (λ a. stands (refused_at start r reached words k (omega arith) a))

    module _ (i : ℕ) (hi : i < length (at p).messages) where
      abbrev Followed : ℕ → Fate → Type 0
      Followed k (flying j) = Moved (at p).messages i (at k).messages j
      Followed k gone = Arrival at (message_at (at p) i) p k

      longer : (k : ℕ) → Arrival at (message_at (at p) i) p k → Arrival at (message_at (at p) i) p (suc k)
      longer k a = (a.0, a.1, omega (arith, a.2), a.3)

      -- a refused word
      waits : (k : ℕ) → at (suc k) ≡ at k → (f : Fate) → Followed k f → Followed (suc k) f
      waits k e (flying j) m = subst (λ (s : Ring). Moved (at p).messages i s.messages j) (sym e) m
      waits k e gone a = longer k a

      -- an accepted one
      module _ (k : ℕ) (from : p ≤ k) (e : Event) (n : Lossless (at k) e) (is : at (suc k) ≡ after (at k) e) where
        met : (j : ℕ) → Moved (at p).messages i (at k).messages j → (f : Fate) → FateIs (at k) e j f → Followed (suc k) f
        met j m (flying l) q =
            subst (λ (s : Ring). Moved (at p).messages i s.messages l) (sym is) (record { low = q.low; same = q.same ∙ m.same })
        met j m gone q = (k, from, omega arith, (j, m.same, is ∙ ap (after (at k)) q))

        goes : (f : Fate) → Followed k f → Followed (suc k) (onward e f)
        goes (flying j) m = met j m (fate e j) (fate_is (at k) e n j m.low)
        goes gone a = longer k a

      followed : (d : ℕ) → p + d ≤ q → Followed (p + d) (fate_after start words p i d)
      unfolding fate_after
      followed zero h = subst (λ (k : ℕ). Moved (at p).messages i (at k).messages i) (sym (add-zero p)) (record { low = hi; same = refl })
      followed (suc d) h =
          let w = round.within in
          let before : Followed (p + d) (fate_after start words p i d) = followed d (omega arith) in
          subst (λ (k : ℕ). Followed k (fate_after start words p i (suc d))) (sym (add-suc p d))
          (if_law (Followed (suc (p + d))) (is_accepted (answer_at start words (p + d))) (onward (event_at start words (p + d)) (fate_after start words p i d))
          (fate_after start words p i d)
          (λ a.
          let ok = accepted_is (answer_at start words (p + d)) a in
          goes (p + d) (omega arith) (event_at start words (p + d)) (round.lossless (p + d) (omega arith) (omega arith) ok)
          (accepted_at start r reached words (p + d) (omega arith) ok)
          (fate_after start words p i d) before)
          (λ a. waits (p + d) (refused_at start r reached words (p + d) (omega arith) a) (fate_after start words p i d) before))

      arrival : Arrival at (message_at (at p) i) p q
      arrival =
          let o = round.ordered in
          let e : p + (q - p) ≡ q = omega arith in
          subst (Arrival at (message_at (at p) i) p) e (subst (Followed (p + (q - p))) (round.delivers i hi) (followed (q - p) (omega arith)))

    arrives_at : (m : Message) → Memᴰ m (at p).messages → Arrival at m p q
    arrives_at m h = let s = place_of (at p).messages m h in subst (λ (a : Message). Arrival at a p q) s.2 (arrival s.0 s.1)

  -- ---- rounds

  module _ (b : ℕ → ℕ) where
    pub round_of : (K : ℕ) → (i : ℕ) → b 0 ≤ i → i < b K → (j : ℕ) × (j < K) × (b j ≤ i) × (i < b (suc j))
    round_of zero i f l = absurd (omega arith)
    round_of (suc K) i f l =
        elim (dec_lt i (b K)) [
          | yes h ↦ let s = round_of K i f h in (s.0, omega (arith, s.1), s.2, s.3)
          | no h ↦ (K, omega arith, omega arith, l)
        ]

  pub fair : {K p q : ℕ} (rs : Rounds start words K p q) → Fair at rs.bound K
  fair {K} rs =
      record {
        well = well_at start r reached words;
        order = λ j h. (rs.rounds j h).ordered;
        turn = λ i f l. let s = round_of rs.bound K i f l in turn_at (rs.bound s.0) (rs.bound (suc s.0)) (rs.rounds s.0 s.1) i s.2 s.3;
        fires = λ j h x on k is.
            let f = (rs.rounds j h).fires (node_of x) on k is in
            let w = (rs.rounds j h).within in
            (f.0, f.1, f.2, accepted_at start r reached words f.0 (omega (arith, f.2)) f.3.0 ∙ ap (after (at f.0)) f.3.1);
        arrives = λ j h m i. arrives_at (rs.bound j) (rs.bound (suc j)) (rs.rounds j h) m i;
        renewed = λ j h F sends m i.
            let w = (rs.rounds j h).within in
            renewed start r reached words (rs.bound j) (rs.bound (suc j)) (rs.rounds j h) F
            (λ k f l ok. sends k f l (event_at start words k) ((rs.rounds j h).lossless k f l ok) (runs_at k (omega arith) ok)) m i;
      }
