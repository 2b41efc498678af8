-- What is in flight after a fair round was sent in it, by nodes that run: from there on no node that is off is taken in, and a notice rids of it for good.
use mathlib.Core.Path.{◌≡◌, refl, sym, ap, ◌∙◌, subst}
use Prim.Native.Nat.{ℕ, suc, ◌≤◌, ◌<◌}
use native.Mathlib.Nat.{le_refl}
use native.Mathlib.Omega.{arith}
use native.Mathlib.Decide.{dec_lt}
use mathlib.Core.Bool.{true, false, not}
use mathlib.Core.List.{List, Memᴰ}
use lib.Dec.{eqb}
use borrow.Author.Tests.{eqb-true, eq-eqb}
use Rattle.model.specs.Sets.{Set, with, without}
use Rattle.model.specs.Leafset.{Table}
use Rattle.model.specs.Ring.{Ring, Own, Node, Message, is_running, holds, message_at}
use Rattle.model.specs.Steps.{hold, forget, release, notice}
use Rattle.model.specs.Play.{act, after}
use Rattle.model.specs.ConnectivityPreserved.{Harmless, Reached, read_at}
use Rattle.model.specs.declared.values.NodeNumber.{NodeNumber}
use Rattle.model.specs.declared.event.Event.{Event}
use Rattle.model.specs.declared.event.Event.TheVariants.{Notice}
use Rattle.settle_leafsets.specs.Covered.{Even}
use Rattle.settle_kept.specs.Settled.{AcceptedIs, takes_in}
use Rattle.settle_kept.specs.Improving.{Clean}
use Rattle.settle_rounds.specs.Rounds.{event_at, Round}
use Rattle.settle_rounds.specs.GettingClean.{Noticed, GettingClean}
use Rattle.model.proofs.Laws.{clash, decide, is_false, if_law, and_left, and_right, or_case, not_out, put_here}
use Rattle.model.proofs.Cases.{after_table}
use Rattle.model.proofs.Handlers.{message_in}
use Rattle.model.proofs.ConnectivityPreserved.{connectivity_preserved}
use Rattle.settle_kept.proofs.Keeping.{held_forget, held_hold, Keeps, AsksAt, AnswersAt, runner_answers, timer_sent, deliver_sent}
use Rattle.settle_kept.proofs.Keeping.{Has, after_has, after_running, takes_case, harmless_switch, actor, now_at, own_at}
use Rattle.settle_kept.proofs.Clean.{Fair, idle_fair, sent_fair, contact_fair, request_fair}
use Rattle.settle_kept.proofs.Closure.{along}
use Rattle.settle_rounds.proofs.Turns.{Sends, node_of}
use Rattle.settle_rounds.proofs.Renewing.{accepted_at, renewed}

-- z is not in S, if Q
abbrev Without : ℕ → Type 0 → Set → Type 0
Without z Q S = Q → S z ≡ false

module _ (R : Set) (z : ℕ) (Q : Type 0) (off : Q → R z ≡ false) where
  adds : (S : Set) (y : ℕ) → Without z Q S → (Q → R y ≡ true) → Without z Q (with S y)
  adds S y k on q =
      is_false (with S y z) (λ e. or_case (S z) (eqb z y) e (λ p. clash p (k q)) (λ p. clash (ap R (eqb-true z y p) ∙ on q) (off q)))

  drops : (S : Set) (y : ℕ) → Without z Q S → Without z Q (without S y)
  drops S y k q = is_false (without S y z) (λ e. clash (and_left (S z) (not (eqb z y)) e) (k q))

  module _ (o : Own) (k : Without z Q o.held) where
    forgets : (y : ℕ) → Without z Q (forget y o).held
    forgets y = held_forget (Without z Q) o k y (λ e. drops o.held y k)

    -- the delivery of m to x: if Q, it brings only nodes that run
    module _ (t : Table) (x now : ℕ) (m : Message) (brings : Q → takes_in m.type ≡ true → R m.sender ≡ true) where
      holds_sender : takes_in m.type ≡ true → Without z Q (hold now m.sender o).held
      holds_sender takes = held_hold (Without z Q) o k now m.sender (λ e. adds o.held m.sender k (λ q. brings q takes))

      keeps : Keeps t x now o (λ p. Without z Q p.held) m
      unfolding release
      keeps =
          record {
            on_2 = λ e. holds_sender (ap takes_in e);
            on_6 = λ e fits. holds_sender (ap takes_in e);
            on_8 = λ e h. k;
            on_9 = λ e h. k;
            on_10 = λ e out is. (holds_sender (ap takes_in e), drops (hold now m.sender o).held m.subject (holds_sender (ap takes_in e)));
            on_13 = λ e. forgets m.sender;
          }

module _ (R : Set) where
  requests_fair : (s : Ring) (x : ℕ) → AsksAt s (Fair R) x
  requests_fair s x z out named = request_fair R x ((s.node x).own.spare z) z (now_at s x)

  answers_fair : (s : Ring) → ((x : ℕ) → is_running s x ≡ R x) → (i : ℕ) → is_running s (message_at s i).receiver ≡ true → AnswersAt s (Fair R) i
  answers_fair s run = runner_answers s (Fair R) (λ m on. sent_fair R m (sym (run m.sender) ∙ on))

  -- whatever is sent while the nodes of R run
  sends_fair : (s : Ring) → ((x : ℕ) → is_running s x ≡ R x) → (e : Event) → Sends (Fair R) s e
  sends_fair s run e =
      record {
        on_contact = λ x y i. contact_fair R x.0 y.0;
        on_timer = λ x k i. timer_sent s (Fair R) (idle_fair R) x.0 (requests_fair s x.0) k;
        on_deliver = λ i d on. deliver_sent s (Fair R) (idle_fair R) i (answers_fair s run i on);
      }

  module _ (z : ℕ) (Q : ℕ → Type 0) (off : (a : ℕ) → Q a → R z ≡ false) where
    -- these nodes run, what is in flight is fair, and none of Q holds z
    record Rid (s : Ring) : Type 0 where
      pub run : (x : ℕ) → is_running s x ≡ R x
      pub fair : (m : Message) → Memᴰ m s.messages → Fair R m
      pub rid : (a : ℕ) → Q a → holds s a z ≡ false

    rid_after : (s : Ring) → Rid s → (e : Event) → Harmless s e → Rid (after s e)
    rid_after s c e h =
        let has : Has (λ a p. Without z (Q a) p.held) (Fair R) (after s e) =
        after_has s (λ a p. Without z (Q a) p.held) (Fair R) (record { nodes = c.rid; flying = c.fair }) (λ a S p k. k) (idle_fair R)
        e (harmless_switch s e h)
        (λ x y i. forgets R z (Q x.0) (off x.0) (s.node x.0).own (c.rid x.0) y.0)
        (λ x y i. contact_fair R x.0 y.0)
        (requests_fair s)
        (λ i on.
        let m : Message = message_at s i in
        let x : ℕ = m.receiver in
        keeps R z (Q x) (off x) (s.node x).own (c.rid x) s.table x (now_at s x) m
        (λ q takes.
        let in_flight_lem : Memᴰ m s.messages =
        takes_case m.type takes (message_in s.messages i 1) (message_in s.messages i 5) (message_in s.messages i 9) in
        (c.fair m in_flight_lem).runs takes (sym (c.run x) ∙ on)))
        (answers_fair s c.run) in
        record { run = λ x. after_running s e (harmless_switch s e h) x ∙ c.run x; fair = has.flying; rid = has.nodes }

-- a notice of z leaves x without z
told_rids : (s : Ring) (x z : NodeNumber) → holds (after s (Notice x z)) x.0 z.0 ≡ false
unfolding after act notice forget release
told_rids s x z =
    ap (λ (n : Node). n.own.held z.0)
    (put_here s.node x.0 (actor s x.0 (notice s.table x.0 (now_at s x.0) (own_at s x.0) z.0)))
    ∙ if_law (λ (o : Own). o.held z.0 ≡ false) (holds s x.0 z.0) (release z.0 (own_at s x.0)) (own_at s x.0)
    (λ e. is_false (without (holds s x.0) z.0 z.0)
    (λ q. clash (eq-eqb z.0 z.0 refl) (not_out (eqb z.0 z.0) (and_right (holds s x.0 z.0) _ q))))
    (λ e. e)

-- ---- lists

module _ (start : List ℕ) (r : Ring) (reached : Reached start r) (words : List ℕ) where
  abbrev at : ℕ → Ring
  at i = read_at start words i

  module _ (p q s : ℕ) (round : Round start words p q) (n : Noticed start words q s) where
    abbrev R : Set
    R = is_running (at p)

    fine : (k : ℕ) → p ≤ k → k < s → AcceptedIs start words Harmless k
    fine k f l ok = elim (dec_lt k q) [ yes h ↦ (round.lossless k f h ok).0 | no h ↦ n.harmless k (omega arith) l ok ]

    record Same (u : Ring) : Type 0 where
      table : u.table ≡ (at p).table
      run : (x : ℕ) → is_running u x ≡ R x

    same_at : (k : ℕ) → p ≤ k → k ≤ s → Same (at k)
    same_at k f l =
        let w = n.within in
        along start r reached words Harmless Same
        (λ u well c e h. record { table = after_table u e ∙ c.table; run = λ x. after_running u e (harmless_switch u e h) x ∙ c.run x })
        p (record { table = refl; run = λ x. refl }) k f (omega arith) (λ i g h. fine i g (omega arith))

    -- what is in flight after the round
    fair_q : (m : Message) → Memᴰ m (at q).messages → Fair R m
    fair_q =
        let o = n.ordered in
        renewed start r reached words p q round (Fair R) (λ k f l ok. sends_fair R (at k) (same_at k f (omega arith)).run (event_at start words k))

    -- from one point to a later one
    onward : (z : ℕ) (Q : ℕ → Type 0) (off : (a : ℕ) → Q a → R z ≡ false) (a b : ℕ) → p ≤ a → a ≤ b → b ≤ s → Rid R z Q off (at a) → Rid R z Q off (at b)
    onward z Q off a b f g l c =
        let w = n.within in
        along start r reached words Harmless (Rid R z Q off) (λ u well d e h. rid_after R z Q off u d e h) a c b g (omega arith)
        (λ k i j. fine k (omega arith) (omega arith))

    fair_at : (k : ℕ) → q ≤ k → k ≤ s → (m : Message) → Memᴰ m (at k).messages → Fair R m
    fair_at k f l =
        let o = round.ordered in
        (onward 0 (λ a. ⊥) (λ a. absurd) q k o f l (record { run = (same_at q o (omega arith)).run; fair = fair_q; rid = λ a. absurd })).fair

    module _ (x z : ℕ) (on : R x ≡ true) (off : R z ≡ false) where
      -- whoever is not held at a point after the round is not held at the end
      not_held : (k : ℕ) → q ≤ k → k ≤ s → holds (at k) x z ≡ false → holds (at s) x z ≡ false
      not_held k f l none =
          let o = round.ordered in
          (onward z (λ a. a ≡ x) (λ a e. off) k s (omega arith) l (le_refl s)
          (record {
            run = (same_at k (omega arith) l).run;
            fair = fair_at k f l;
            rid = λ a e. subst (λ (b : ℕ). holds (at k) b z ≡ false) (sym e) none;
          })).rid x refl

      none_off : holds (at s) x z ≡ false
      none_off =
          let o = round.ordered in
          let m = n.ordered in
          let w = n.within in
          decide (holds (at q) x z)
          (λ held.
          let same = (same_at q o m).run in
          let t = n.told (node_of x) (node_of z) (same x ∙ on) (same z ∙ off) held in
          not_held (suc t.0) (omega (arith, t.1)) (omega (arith, t.2))
          (ap (λ (u : Ring). holds u x z)
          (accepted_at start r reached words t.0 (omega (arith, t.2)) t.3.0 ∙ ap (after (at t.0)) t.3.1)
          ∙ told_rids (at t.0) (node_of x) (node_of z)))
          (λ none. not_held q (le_refl q) m none)

    clean : Clean (at s)
    clean =
        let o = round.ordered in
        let m = n.ordered in
        let same = (same_at s (omega arith) (le_refl s)).run in
        record {
          holds_running = λ x on z held. decide (is_running (at s) z) (λ e. e) (λ e. clash held (none_off x z (sym (same x) ∙ on) (sym (same z) ∙ e)));
          senders_run = λ a i takes to. same a.sender ∙ (fair_at s m (le_refl s) a i).runs takes (sym (same a.receiver) ∙ to);
          leavers_off = λ a i leaves to. same a.sender ∙ (fair_at s m (le_refl s) a i).off leaves (sym (same a.receiver) ∙ to);
        }

pub getting_clean : GettingClean
getting_clean start r reached words =
    record {
      gets_clean = clean start r reached words;
      sets_out = λ p q s none off even connected round n.
          let on : p ≤ s = omega (arith, round.ordered, n.ordered) in
          let same = same_at start r reached words p q s round n s on (le_refl s) in
          record {
            before = on;
            none = none;
            off = off;
            harmless = fine start r reached words p q s round n;
            even = subst Even (sym same.table) even;
            clean = clean start r reached words p q s round n;
            connected = λ a b ra rb.
                (connectivity_preserved start r reached words).connection_kept_later p none off p s (le_refl p) on n.within
                (fine start r reached words p q s round n) a b (connected a b (sym (same.run a) ∙ ra) (sym (same.run b) ∙ rb));
          };
    }
