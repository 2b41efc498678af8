-- An event that loses nothing keeps the candidates of a clean ring clean: whoever becomes one is a sender, a subject or one of a view, and these run.
use mathlib.Core.Path.{◌≡◌, refl, sym, ap, ◌∙◌, subst}
use Prim.Native.Nat.{ℕ, suc}
use native.Mathlib.Omega.{arith}
use mathlib.Core.Bool.{true, false, ◌||◌}
use mathlib.Core.List.{Memᴰ}
use lib.Dec.{eqb}
use borrow.Author.Tests.{eqb-true}
use Rattle.model.specs.Sets.{Set, with, some}
use Rattle.model.specs.Leafset.{Table, size, successor, passes_zero}
use Rattle.model.specs.Ring.{Ring, Own, Message, is_running, message_at}
use Rattle.model.specs.Types.{ping_contact}
use Rattle.model.specs.Steps.{plain, hold, release, forget, timer, deliver}
use Rattle.model.specs.Play.{after}
use Rattle.model.specs.declared.event.Event.{Event}
use Rattle.model.proofs.Laws.{clash, and_left, or_case, if_law}
use Rattle.model.proofs.Choices.{leafset_within}
use Rattle.model.proofs.Handlers.{message_in}
use Rattle.settle_kept.specs.Improving.{Clean}
use Rattle.settle_kept.proofs.Keeping.{own_timer, own_deliver, Tells, sent_timer, sent_deliver, NoSwitch, harmless_switch, now_at, own_at, after_running}
use Rattle.settle_kept.proofs.Keeping.{own_after, sent_after}
use Rattle.settle_rounds.specs.Rounds.{Lossless, CleanCandidates}
use Rattle.settle_rounds.proofs.Turns.{Runs}

-- holding somebody changes no candidates
pub hold_candidates : (now y : ℕ) (o : Own) → (hold now y o).candidates ≡ o.candidates
unfolding hold
hold_candidates now y o = if_law (λ (p : Own). p.candidates ≡ o.candidates) (o.held y) o _ (λ e. refl) (λ e. refl)

abbrev pub Run : Set → Set → Type 0
Run R S = (z : ℕ) → S z ≡ true → R z ≡ true

-- ---- what a handler sends

module _ (R : Set) (Q : ℕ → ℕ → Type 0) where
  -- of a message: views and askers run, and of type 11 receiver and subject pass Q
  pub record Fine (m : Message) : Type 0 where
    pub view_runs : m.type ≡ 4 → Run R m.view
    pub asker_runs : (eqb m.type 3 || eqb m.type 12) ≡ true → R m.sender ≡ true
    pub subject_fine : m.type ≡ 11 → Q m.receiver m.subject

  -- a message that a running node sends, of neither type 4 nor 11
  sent_fine : (m : Message) → R m.sender ≡ true → ¬ (m.type ≡ 4) → ¬ (m.type ≡ 11) → Fine m
  sent_fine m on n4 n11 = record { view_runs = λ e. absurd (n4 e); asker_runs = λ e. on; subject_fine = λ e. absurd (n11 e) }

  pub contact_fine : (x y : ℕ) → Fine (plain ping_contact x y)
  contact_fine x y = record { view_runs = λ e. absurd (omega arith); asker_runs = λ e. clash e refl; subject_fine = λ e. absurd (omega arith) }

  module _
      (t : Table) (x now : ℕ) (o : Own) (on : R x ≡ true) (held : Run R o.held)
      (sets_out : passes_zero t x o.held ≡ true → Q (successor t x o.held) x)
    where
      tells : Tells t x now o Fine
      tells =
          record {
            invitation = λ y. sent_fine _ on (λ e. omega arith) (λ e. omega arith);
            question = λ y. sent_fine _ on (λ e. omega arith) (λ e. omega arith);
            view = λ y. record {
              view_runs = λ e z h. held z (leafset_within t y o.held z h);
              asker_runs = λ e. on;
              subject_fine = λ e. absurd (omega arith);
            };
            asks_spare = λ y. sent_fine _ on (λ e. omega arith) (λ e. omega arith);
            sets_out = λ p. record { view_runs = λ e. absurd (omega arith); asker_runs = λ e. on; subject_fine = λ e. sets_out p };
            ends = λ y. sent_fine _ on (λ e. omega arith) (λ e. omega arith);
          }

      pub timer_fine : (k : ℕ) (m : Message) → Memᴰ m (timer t x now o k).sent → Fine m
      timer_fine = sent_timer t x now o Fine tells (λ z out named. sent_fine _ on (λ e. omega arith) (λ e. omega arith))

      pub deliver_fine :
          (m : Message)
          → (m.type ≡ 11 → some (size t) o.held ≡ true → passes_zero t x o.held ≡ false → Q (successor t x o.held) m.subject)
          → (a : Message) → Memᴰ a (deliver t x now o m).sent → Fine a
      deliver_fine m goes_on =
          sent_deliver t x now o Fine tells m
          (λ e any no-pass. record { view_runs = λ q. absurd (omega arith); asker_runs = λ q. on; subject_fine = λ q. goes_on e any no-pass })
          (record {
            on_1 = λ e. sent_fine _ on (λ q. omega arith) (λ q. omega arith);
            on_5 = λ e. sent_fine _ on (λ q. omega arith) (λ q. omega arith);
            on_7 = λ e. sent_fine _ on (λ q. omega arith) (λ q. omega arith);
            on_9 = λ e h. sent_fine _ on (λ q. omega arith) (λ q. omega arith);
          })

-- of type 11 the subject runs
abbrev pub SubjectRuns : Set → ℕ → ℕ → Type 0
SubjectRuns R receiver subject = R subject ≡ true

-- ---- the candidates after a handler

module _ (R : Set) (t : Table) (x now : ℕ) (o : Own) (c : Run R o.candidates) where
  holding : (y : ℕ) → Run R (hold now y o).candidates
  holding y = subst (Run R) (sym (hold_candidates now y o)) c

  adding : (y : ℕ) → R y ≡ true → Run R (with o.candidates y)
  adding y h z e = or_case (o.candidates z) (eqb z y) e (c z) (λ q. ap R (eqb-true z y q) ∙ h)

  pub forget_run : (z : ℕ) → Run R (forget z o).candidates
  unfolding forget
  forget_run z y e = c y (and_left (o.candidates y) _ e)

  pub timer_run : (k : ℕ) → Run R (timer t x now o k).own.candidates
  timer_run k = own_timer t x now o (λ (p : Own). Run R p.candidates) c k (λ i z e. clash e refl)

  pub deliver_run : (m : Message) → ((k : ℕ) → m.type ≡ suc k → Fine R (SubjectRuns R) m) → Run R (deliver t x now o m).own.candidates
  unfolding release
  deliver_run m fine =
      own_deliver t x now o (λ (p : Own). Run R p.candidates) c m
      (record {
        on_2 = λ e. holding m.sender;
        on_6 = λ e fits. holding m.sender;
        on_8 = λ e h. c;
        on_9 = λ e h. c;
        on_10 = λ e out is. (holding m.sender, holding m.sender);
        on_13 = λ e. forget_run m.sender;
      })
      (record {
        on_3 = λ e. adding m.sender ((fine 2 e).asker_runs (ap (λ (k : ℕ). eqb k 3 || eqb k 12) e));
        on_4 = λ e z h. or_case (o.candidates z) (m.view z) h (c z) ((fine 3 e).view_runs e z);
        on_11 = λ e. adding m.subject ((fine 10 e).subject_fine e);
        on_12 = λ e. adding m.sender ((fine 11 e).asker_runs (ap (λ (k : ℕ). eqb k 3 || eqb k 12) e));
      })

-- ---- an event

module _ (r : Ring) (clean : Clean r) (cc : CleanCandidates r) (e : Event) (l : Lossless r e) (runs : Runs r e) where
  abbrev R : Set
  R = is_running r

  switch : NoSwitch e
  switch = harmless_switch r e l.0

  fine : (m : Message) → Memᴰ m r.messages → Fine R (SubjectRuns R) m
  fine m h = record { view_runs = cc.views_run m h; asker_runs = cc.askers_run m h; subject_fine = cc.subjects_run m h }

  back : (a : ℕ) → is_running (after r e) a ≡ R a
  back a = after_running r e switch a

  fine_after : (m : Message) → Memᴰ m (after r e).messages → Fine R (SubjectRuns R) m
  fine_after =
      sent_after r (Fine R (SubjectRuns R)) fine e switch
      (λ x y i. contact_fine R (SubjectRuns R) x.0 y.0)
      (λ x k i.
      let on : R x.0 ≡ true = subst (Runs r) i runs in
      timer_fine R (SubjectRuns R) r.table x.0 (now_at r x.0) (own_at r x.0) on (clean.holds_running x.0 on) (λ p. on) k)
      (λ i q on.
      let m : Message = message_at r i in
      let x : ℕ = m.receiver in
      deliver_fine R (SubjectRuns R) r.table x (now_at r x) (own_at r x) on (clean.holds_running x on) (λ p. on) m
      (λ is any no-pass. cc.subjects_run m (message_in r.messages i 10 is) is))

  run_after : (x : ℕ) → R x ≡ true → Run R ((after r e).node x).own.candidates
  run_after x on =
      let c = cc.candidates_run x on in
      own_after r (λ (o : Own). Run R o.candidates) x c e switch
      (λ y w i q. forget_run R r.table x (now_at r x) (own_at r x) c w.0)
      (λ y k i q. timer_run R r.table x (now_at r x) (own_at r x) c k)
      (λ i q to is. deliver_run R r.table x (now_at r x) (own_at r x) c (message_at r i) (λ k j. fine _ (message_in r.messages i k j)))

  pub candidates_after : CleanCandidates (after r e)
  candidates_after =
      record {
        candidates_run = λ x on z h. back z ∙ run_after x (sym (back x) ∙ on) z h;
        views_run = λ m h q z v. back z ∙ (fine_after m h).view_runs q z v;
        askers_run = λ m h q. back m.sender ∙ (fine_after m h).asker_runs q;
        subjects_run = λ m h q. back m.subject ∙ (fine_after m h).subject_fine q;
      }
