-- From a clean point on candidates become clean: a type 11 that names a node that is off rises in rank with each round, and so is gone after n rounds;
-- then timer 0 empties the candidates.
use mathlib.Core.Path.{◌≡◌, refl, sym, ap, ◌∙◌, subst}
use mathlib.Core.Logic.{◌⊎◌, inl, inr}
use Prim.Native.Nat.{ℕ, zero, suc, ◌-◌, ◌≤◌, ◌<◌, zero-le}
use native.Mathlib.Nat.{le_refl}
use native.Mathlib.Omega.{arith}
use mathlib.Core.Bool.{true, false}
use mathlib.Core.List.{Memᴰ}
use Rattle.model.specs.Sets.{Set, some}
use Rattle.model.specs.Leafset.{Table, size, successor, passes_zero}
use Rattle.model.specs.Ring.{Ring, Own, Message, is_running, holds, message_at}
use Rattle.model.specs.Steps.{timer0, timer}
use Rattle.model.specs.Play.{after}
use Rattle.model.specs.declared.event.Event.{Event}
use Rattle.model.specs.declared.event.Event.TheVariants.{Timer}
use Rattle.model.proofs.Laws.{clash}
use Rattle.model.proofs.Cases.{after_table}
use Rattle.model.proofs.Handlers.{message_in, each_in}
use Rattle.settle_kept.specs.Improving.{Clean}
use Rattle.settle_kept.proofs.Keeping.{after_running, harmless_switch, now_at, own_at, own_after, sent_after}
use Rattle.settle_kept.proofs.Clean.{clean_after}
use Rattle.settle_rounds.specs.Rounds.{Lossless, CleanCandidates}
use Rattle.settle_rounds.proofs.Points.{walk_to}
use Rattle.settle_rounds.proofs.Points as points
use Rattle.settle_rounds.proofs.Turns.{Runs, Turn, stands, turns, Sends, node_of, Fair, timer_own}
use Rattle.settle_rounds.proofs.Candidates.{Run, Fine, SubjectRuns, contact_fine, timer_fine, deliver_fine, forget_run, timer_run, deliver_run}
use Rattle.settle_rounds.proofs.Ranks.{rank, rank_low, next_rank}

module _ (at : ℕ → Ring) (b : ℕ → ℕ) (K : ℕ) (fair : Fair at b K) (clean : Clean (at (b 0))) where
  rises : (j k : ℕ) → j ≤ k → k ≤ K → b j ≤ b k
  rises = points.rises at b K fair

  abbrev pub t : Table
  t = (at (b 0)).table

  abbrev pub R : Set
  R = is_running (at (b 0))

  pub record Same (s : Ring) : Type 0 where
    pub still_clean : Clean s
    pub table : s.table ≡ t
    pub running : (x : ℕ) → is_running s x ≡ R x

  same_turn : (s u : Ring) → Same s → Turn s u → Same u
  same_turn s u k (stands e) = subst Same (sym e) k
  same_turn s u k (turns e l runs is) =
      subst Same (sym is)
      (record {
        still_clean = clean_after s k.still_clean e l.0;
        table = after_table s e ∙ k.table;
        running = λ x. after_running s e (harmless_switch s e l.0) x ∙ k.running x;
      })

  pub same : (i : ℕ) → b 0 ≤ i → i ≤ b K → Same (at i)
  same i f l =
      walk_to (λ k. Same (at k)) (b 0) i f (record { still_clean = clean; table = refl; running = λ x. refl })
      (λ k g h p. same_turn (at k) (at (suc k)) p (fair.turn k g (omega arith)))

  -- a type 11 names a node that runs, or has gone up so far
  abbrev Q : ℕ → ℕ → ℕ → Type 0
  Q j receiver subject = (R subject ≡ true) ⊎ (j ≤ rank t receiver)

  abbrev F : ℕ → Message → Type 0
  F j m = Fine R (Q j) m

  abbrev Names : ℕ → Message → Type 0
  Names j m = m.type ≡ 11 → Q j m.receiver m.subject

  module _
      (i : ℕ) (f : b 0 ≤ i) (l : i ≤ b K)
      (j : ℕ) (names : (m : Message) → Memᴰ m (at i).messages → Names j m)
      (e : Event) (q : Lossless (at i) e) (runs : Runs (at i) e)
    where
      c : Same (at i)
      c = same i f l

      held_runs : (x : ℕ) → R x ≡ true → Run R (holds (at i) x)
      held_runs x on z h = sym (c.running z) ∙ c.still_clean.holds_running x (c.running x ∙ on) z h

      onward :
          (x s : ℕ) → R x ≡ true → Q j x s → some (size (at i).table) (holds (at i) x) ≡ true → passes_zero (at i).table x (holds (at i) x) ≡ false
          → Q (suc j) (successor (at i).table x (holds (at i) x)) s
      onward x s on (inl h) any no-pass = inl h
      onward x s on (inr h) any no-pass =
          let low : x < size (at i).table = ((fair.well i).node_well x).running_low (c.running x ∙ on) in
          let up : rank (at i).table x < rank (at i).table (successor (at i).table x (holds (at i) x)) =
          next_rank (at i).table (fair.well i).table_well x (holds (at i) x) ((fair.well i).node_well x).own_well.held_other low any no-pass in
          let up-t : rank t x < rank t (successor (at i).table x (holds (at i) x)) =
          subst (λ (u : Table). rank u x < rank u (successor (at i).table x (holds (at i) x))) c.table up in
          inr (omega arith)

      sends : Sends (F (suc j)) (at i) e
      sends =
          record {
            on_contact = λ x y n. contact_fine R (Q (suc j)) x.0 y.0;
            on_timer = λ x k n.
                let on : R x.0 ≡ true = sym (c.running x.0) ∙ subst (Runs (at i)) n runs in
                timer_fine R (Q (suc j)) (at i).table x.0 (now_at (at i) x.0) (own_at (at i) x.0) on (held_runs x.0 on) (λ p. inl on) k;
            on_deliver = λ n p on.
                let m : Message = message_at (at i) n in
                let me : ℕ = m.receiver in
                let on-me : R me ≡ true = sym (c.running me) ∙ on in
                deliver_fine R (Q (suc j)) (at i).table me (now_at (at i) me) (own_at (at i) me) on-me (held_runs me on-me) (λ p. inl on-me) m
                (λ is any no-pass. onward me m.subject on-me (names m (message_in (at i).messages n 10 is) is) any no-pass);
          }

  weaken : (j : ℕ) (x s : ℕ) → Q (suc j) x s → Q j x s
  weaken j x s (inl h) = inl h
  weaken j x s (inr h) = inr (omega arith)

  weaker : (j : ℕ) (m : Message) → F (suc j) m → F j m
  weaker j m f = record { view_runs = f.view_runs; asker_runs = f.asker_runs; subject_fine = λ e. weaken j m.receiver m.subject (f.subject_fine e) }

  AllNames : ℕ → ℕ → Type 0
  AllNames j i = (m : Message) → Memᴰ m (at i).messages → Names j m

  AllFine : ℕ → ℕ → Type 0
  AllFine j i = (m : Message) → Memᴰ m (at i).messages → F j m

  names_turn : (j i : ℕ) → b 0 ≤ i → i < b K → AllNames j i → Turn (at i) (at (suc i)) → AllNames j (suc i)
  unfolding AllNames
  names_turn j i f l a (stands e) = subst (λ (u : Ring). (m : Message) → Memᴰ m u.messages → Names j m) (sym e) a
  names_turn j i f l a (turns e q runs is) =
      let s = sends i f (omega arith) j a e q runs in
      subst (λ (u : Ring). (m : Message) → Memᴰ m u.messages → Names j m) (sym is)
      (sent_after (at i) (Names j) a e (harmless_switch (at i) e q.0)
      (λ x y n. (weaker j _ (s.on_contact x y n)).subject_fine)
      (λ x k n m h. (weaker j m (s.on_timer x k n m h)).subject_fine)
      (λ n p on m h. (weaker j m (s.on_deliver n p on m h)).subject_fine))

  fine_turn : (j i : ℕ) → b 0 ≤ i → i < b K → AllFine j i → Turn (at i) (at (suc i)) → AllFine j (suc i)
  unfolding AllFine
  fine_turn j i f l a (stands e) = subst (λ (u : Ring). (m : Message) → Memᴰ m u.messages → F j m) (sym e) a
  fine_turn j i f l a (turns e q runs is) =
      let s = sends i f (omega arith) j (λ m h. (a m h).subject_fine) e q runs in
      subst (λ (u : Ring). (m : Message) → Memᴰ m u.messages → F j m) (sym is)
      (sent_after (at i) (F j) a e (harmless_switch (at i) e q.0)
      (λ x y n. weaker j _ (s.on_contact x y n))
      (λ x k n m h. weaker j m (s.on_timer x k n m h))
      (λ n p on m h. weaker j m (s.on_deliver n p on m h)))

  -- after j rounds
  names_from : (j : ℕ) → j ≤ K → (i : ℕ) → b j ≤ i → i ≤ b K → AllNames j i
  unfolding AllNames
  names_from zero room i f l = λ m h e. inr zero-le
  names_from (suc j) room i f l =
      let top = rises (suc j) K room (le_refl K) in
      let low = rises 0 (suc j) zero-le room in
      let low-j = rises 0 j zero-le (omega arith) in
      walk_to (AllNames (suc j)) (b (suc j)) i f
      (λ m h. (fair.renewed j room (F (suc j))
      (λ k g z e q runs. sends k (omega arith) (omega arith) j (names_from j (omega arith) k g (omega arith)) e q runs) m h).subject_fine)
      (λ k g z a. names_turn (suc j) k (omega arith) (omega arith) a (fair.turn k (omega arith) (omega arith)))

  fine_at : (j : ℕ) → suc j ≤ K → AllFine (suc j) (b (suc j))
  unfolding AllFine AllNames
  fine_at j room m h =
      let top = rises (suc j) K room (le_refl K) in
      let low-j = rises 0 j zero-le (omega arith) in
      fair.renewed j room (F (suc j)) (λ k g z e q runs. sends k (omega arith) (omega arith) j (names_from j (omega arith) k g (omega arith)) e q runs) m h

  -- ---- after as many rounds as there are nodes

  abbrev pub n : ℕ
  n = size t

  module _ (room : suc n ≤ K) where
    fine_n : AllFine n (b n)
    fine_n =
        let l = (fair.well (b 0)).table_well.size_low in
        let e : suc (n - 1) ≡ n = omega arith in
        subst (λ (j : ℕ). AllFine j (b j)) e (fine_at (n - 1) (omega arith))

    start_n : b 0 ≤ b n
    start_n = rises 0 n zero-le (omega arith)

    fine_from : (i : ℕ) → b n ≤ i → i ≤ b K → AllFine n i
    fine_from i f l =
        let s = start_n in
        walk_to (AllFine n) (b n) i f fine_n (λ k g z a. fine_turn n k (omega arith) (omega arith) a (fair.turn k (omega arith) (omega arith)))

    pure : (i : ℕ) → b n ≤ i → i ≤ b K → (m : Message) → Memᴰ m (at i).messages → Fine R (SubjectRuns R) m
    unfolding AllFine
    pure i f l m h =
        let s = start_n in
        let a = fine_from i f l m h in
        let low : m.receiver < size t =
        subst (λ (u : Table). m.receiver < size u) (same i (omega arith) l).table (each_in (fair.well i).messages_well h).receiver_low in
        record {
          view_runs = a.view_runs;
          asker_runs = a.asker_runs;
          subject_fine = λ e. elim (a.subject_fine e) [ inl q ↦ q | inr q ↦ (let r = rank_low t m.receiver low in absurd (omega arith)) ];
        }

    module _ (x : ℕ) (on : R x ≡ true) where
      Tidied : ℕ → Type 0
      Tidied i = Run R (own_at (at i) x).candidates

      tidy_turn : (i : ℕ) → b n ≤ i → i < b K → Tidied i → Turn (at i) (at (suc i)) → Tidied (suc i)
      unfolding Tidied
      tidy_turn i f l a (stands e) = subst (λ (u : Ring). Run R (own_at u x).candidates) (sym e) a
      tidy_turn i f l a (turns e q runs is) =
          let s = start_n in
          subst (λ (u : Ring). Run R (own_at u x).candidates) (sym is)
          (own_after (at i) (λ (o : Own). Run R o.candidates) x a e (harmless_switch (at i) e q.0)
          (λ y z p to. forget_run R (at i).table x (now_at (at i) x) (own_at (at i) x) a z.0)
          (λ y j p to. timer_run R (at i).table x (now_at (at i) x) (own_at (at i) x) a j)
          (λ j p runs_x to.
          deliver_run R (at i).table x (now_at (at i) x) (own_at (at i) x) a (message_at (at i) j)
          (λ y is. pure i f (omega arith) (message_at (at i) j) (message_in (at i).messages j y is))))

      emptied : (i : ℕ) → at (suc i) ≡ after (at i) (Timer (node_of x) 0) → Tidied (suc i)
      unfolding Tidied timer timer0
      emptied i is z e =
          clash (sym (ap (λ (o : Own). o.candidates z) (ap (λ (u : Ring). own_at u x) is ∙ timer_own (at i) (node_of x) 0)) ∙ e) refl

      tidied : Tidied (b (suc n))
      tidied =
          let s = start_n in
          let top = rises (suc n) K room (le_refl K) in
          let mid = rises n K (omega arith) (le_refl K) in
          let fire = fair.fires n room x ((same (b n) s mid).running x ∙ on) 0 refl in
          walk_to Tidied (suc fire.0) (b (suc n)) fire.2 (emptied fire.0 fire.3)
          (λ k g z a. tidy_turn k (omega (arith, fire.1)) (omega arith) a (fair.turn k (omega (arith, fire.1)) (omega arith)))

    pub purged : CleanCandidates (at (b (suc n)))
    unfolding Tidied
    purged =
        let s = start_n in
        let up = rises n (suc n) (omega arith) room in
        let top = rises (suc n) K room (le_refl K) in
        let k = same (b (suc n)) (omega arith) top in
        let p = pure (b (suc n)) up top in
        record {
          candidates_run = λ x on z h. k.running z ∙ tidied x (sym (k.running x) ∙ on) z h;
          views_run = λ m h e z v. k.running z ∙ (p m h).view_runs e z v;
          askers_run = λ m h e. k.running m.sender ∙ (p m h).asker_runs e;
          subjects_run = λ m h e. k.running m.subject ∙ (p m h).subject_fine e;
        }
