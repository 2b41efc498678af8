-- A clean and covered ring is tidy after two fair rounds in which no contact of a stranger is accepted: the contacts in flight are delivered in the first,
-- the answers to them in the second.
use mathlib.Core.Path.{◌≡◌, refl, sym, ap, ◌∙◌, subst}
use Prim.Native.Nat.{ℕ, ◌≤◌, ◌<◌}
use native.Mathlib.Nat.{le_refl}
use native.Mathlib.Omega.{arith}
use native.Mathlib.Decide.{dec_lt}
use mathlib.Core.Bool.{true}
use mathlib.Core.List.{List, Memᴰ}
use Rattle.model.specs.Sets.{Set}
use Rattle.model.specs.Leafset.{Table, leafset}
use Rattle.model.specs.Ring.{Ring, Message, is_running, message_at}
use Rattle.model.specs.WellFormed.{WellFormed}
use Rattle.model.specs.Types.{ping_contact, pong_contact}
use Rattle.model.specs.Steps.{plain}
use Rattle.model.specs.Play.{after}
use Rattle.model.specs.ConnectivityPreserved.{Reached, read_at}
use Rattle.model.specs.declared.values.NodeNumber.{NodeNumber}
use Rattle.model.specs.declared.event.Event.{Event}
use Rattle.model.specs.declared.event.Event.TheVariants.{Contact}
use Rattle.model.proofs.Cases.{after_table}
use Rattle.model.proofs.Handlers.{message_in}
use Rattle.settle_leafsets.specs.Covered.{Covered}
use Rattle.settle_kept.specs.Settled.{AcceptedIs}
use Rattle.settle_kept.specs.Improving.{Clean}
use Rattle.settle_kept.proofs.Keeping.{Idly, idle_not, AnswersAt, timer_sent, deliver_sent, sent_after, after_running, harmless_switch}
use Rattle.settle_kept.proofs.Closure.{along, harmless_keeps}
use Rattle.settle_kept.proofs.Secured.{secured_after}
use Rattle.settle_kept.proofs.Clean.{clean_after}
use Rattle.settle_rounds.specs.Rounds.{event_at, Round}
use Rattle.settle_rounds.proofs.Turns.{Sends}
use Rattle.settle_rounds.proofs.Renewing.{renewed}
use Rattle.settle_rounds.proofs.Progress.{clean_secured}
use Rattle.settle_cleanup.specs.Cleanup.{Familiar, Tidy, Calm, NoStrangers}

-- what an event sends, for a fact F that speaks only of types 1 and 2
module _
    (s : Ring) (F : Message → Type 0)
    (other : (m : Message) → ¬ (m.type ≡ 1) → ¬ (m.type ≡ 2) → F m)
    (answer :
    (i : ℕ) → is_running s (message_at s i).receiver ≡ true → (message_at s i).type ≡ 1
    → F (plain pong_contact (message_at s i).receiver (message_at s i).sender))
  where
    idle : Idly F
    idle m i = other m (idle_not m.type 1 refl i) (idle_not m.type 2 refl i)

    answers : (i : ℕ) → is_running s (message_at s i).receiver ≡ true → AnswersAt s F i
    answers i on =
        record {
          on_1 = answer i on;
          on_5 = λ e. other _ (λ q. omega arith) (λ q. omega arith);
          on_7 = λ e. other _ (λ q. omega arith) (λ q. omega arith);
          on_9 = λ e h. other _ (λ q. omega arith) (λ q. omega arith);
        }

    sends : (e : Event) → ((x y : NodeNumber) → e ≡ Contact x y → F (plain ping_contact x.0 y.0)) → Sends F s e
    sends e contacts =
        record {
          on_contact = contacts;
          on_timer = λ x j i. timer_sent s F idle x.0 (λ z out named. other _ (λ q. omega arith) (λ q. omega arith)) j;
          on_deliver = λ i d on. deliver_sent s F idle i (answers i on);
        }

module _ (t : Table) (R : Set) where
  -- a clean and covered ring of this table in which these nodes run
  record Base (s : Ring) : Type 0 where
    clean : Clean s
    covered : Covered s
    table : s.table ≡ t
    running : (x : ℕ) → is_running s x ≡ R x

  base_after : (s : Ring) → WellFormed s → Base s → (e : Event) → Calm s e → Base (after s e)
  base_after s well base e c =
      record {
        clean = clean_after s base.clean e c.0;
        covered = (secured_after s well (clean_secured s base.clean base.covered) e (harmless_keeps s e c.0)).covered;
        table = after_table s e ∙ base.table;
        running = λ x. after_running s e (harmless_switch s e c.0) x ∙ base.running x;
      }

  leafset_in : (s : Ring) → Base s → (x z : ℕ) → leafset s.table x (is_running s) z ≡ leafset t x R z
  leafset_in s base x z = ap (λ (u : Table). leafset u x (is_running s) z) base.table ∙ ap (λ (S : Set). leafset t x S z) (λ i a. base.running a i)

  abbrev Contacts : Message → Type 0
  Contacts m = m.type ≡ 1 → R m.receiver ≡ true → R m.sender ≡ true → leafset t m.sender R m.receiver ≡ true

  abbrev Answers : Message → Type 0
  Answers m = m.type ≡ 2 → R m.receiver ≡ true → leafset t m.receiver R m.sender ≡ true

  module _ (s : Ring) (base : Base s) where
    -- a contact that is made
    made : (e : Event) → Calm s e → (x y : NodeNumber) → e ≡ Contact x y → R y.0 ≡ true → leafset t x.0 R y.0 ≡ true
    made e c x y i to = sym (leafset_in s base x.0 y.0) ∙ (subst (Calm s) i c).1 (base.running y.0 ∙ to)

    sends_contacts : (e : Event) → Calm s e → Sends Contacts s e
    sends_contacts e c = sends s Contacts (λ m n1 n2 e. absurd (n1 e)) (λ i on e q. absurd (omega arith)) e (λ x y i q to from. made e c x y i to)

    contacts_after :
        (e : Event) → Calm s e → ((m : Message) → Memᴰ m s.messages → Contacts m) → (m : Message) → Memᴰ m (after s e).messages → Contacts m
    contacts_after e c old =
        let f = sends_contacts e c in
        sent_after s Contacts old e (harmless_switch s e c.0) f.on_contact f.on_timer f.on_deliver

    sends_answers : ((m : Message) → Memᴰ m s.messages → Contacts m) → (e : Event) → Sends Answers s e
    sends_answers old e =
        sends s Answers (λ m n1 n2 e. absurd (n2 e))
        (λ i on e q to. old (message_at s i) (message_in s.messages i 0 e) e (sym (base.running (message_at s i).receiver) ∙ on) to)
        e (λ x y i q. absurd (omega arith))

module _ (start : List ℕ) (r : Ring) (reached : Reached start r) (words : List ℕ) where
  abbrev at : ℕ → Ring
  at i = read_at start words i

  module _
      (p m q : ℕ) (one : Round start words p m) (two : Round start words m q)
      (strangers : NoStrangers start words p q)
      (clean : Clean (at p)) (covered : Covered (at p))
    where
      abbrev t : Table
      t = (at p).table

      abbrev R : Set
      R = is_running (at p)

      calm_at : (k : ℕ) → p ≤ k → k < q → AcceptedIs start words Calm k
      calm_at k f l ok =
          elim (dec_lt k m) [
            | yes h ↦ ((one.lossless k f h ok).0, strangers k f l ok)
            | no h ↦ ((two.lossless k (omega arith) l ok).0, strangers k f l ok)
          ]

      base_at : (k : ℕ) → p ≤ k → k ≤ q → Base t R (at k)
      base_at k f l =
          let w = two.within in
          along start r reached words Calm (Base t R) (λ s well b e c. base_after t R s well b e c)
          p (record { clean = clean; covered = covered; table = refl; running = λ x. refl }) k f (omega arith) (λ i g h. calm_at i g (omega arith))

      contacts_mid : (a : Message) → Memᴰ a (at m).messages → Contacts t R a
      contacts_mid =
          let o = two.ordered in
          renewed start r reached words p m one (Contacts t R)
          (λ k f l ok. sends_contacts t R (at k) (base_at k f (omega arith)) (event_at start words k) (calm_at k f (omega arith) ok))

      both_at : (k : ℕ) → m ≤ k → k ≤ q → (a : Message) → Memᴰ a (at k).messages → Contacts t R a
      both_at k f l =
          let w = two.within in
          let o = one.ordered in
          (along start r reached words Calm (λ s. Base t R s × ((a : Message) → Memᴰ a s.messages → Contacts t R a))
          (λ s well b e c. (base_after t R s well b.0 e c, contacts_after t R s b.0 e c b.1))
          m (base_at m o (omega arith), contacts_mid) k f (omega arith) (λ i g h. calm_at i (omega arith) (omega arith))).1

      answers_last : (a : Message) → Memᴰ a (at q).messages → Answers t R a
      answers_last =
          let o = one.ordered in
          renewed start r reached words m q two (Answers t R)
          (λ k f l ok. sends_answers t R (at k) (base_at k (omega arith) (omega arith)) (both_at k f (omega arith)) (event_at start words k))

      pub tidied : Tidy (at q)
      tidied =
          let o = one.ordered in
          let u = two.ordered in
          let b = base_at q (omega arith) (le_refl q) in
          record {
            clean = b.clean;
            covered = b.covered;
            familiar = λ a h.
                subst (λ (S : Set). Familiar (at q).table S a) (λ j x. sym (b.running x) j)
                (subst (λ (v : Table). Familiar v R a) (sym b.table) (record { contacts = both_at q u (le_refl q) a h; answers = answers_last a h }));
          }

      pub tidied_running : (x : ℕ) → is_running (at q) x ≡ is_running (at p) x
      tidied_running = let o = one.ordered in let u = two.ordered in (base_at q (omega arith) (le_refl q)).running

      pub tidied_table : (at q).table ≡ (at p).table
      tidied_table = let o = one.ordered in let u = two.ordered in (base_at q (omega arith) (le_refl q)).table
