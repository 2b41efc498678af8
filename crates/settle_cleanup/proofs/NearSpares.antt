-- In every ring that was reached a spare is nearer to its node than the one whom it may replace: whoever answers offers only such, and each event and each join
-- keeps it. A case of Keeping.
use mathlib.Core.Path.{◌≡◌, refl, sym, ap, ◌∙◌, subst}
use mathlib.Core.Logic.{◌⊎◌, inl, inr}
use Prim.Native.Nat.{ℕ, ◌+◌, ◌-◌, ◌≤◌, ◌<◌}
use native.Mathlib.Omega.{arith}
use mathlib.Core.Bool.{true}
use mathlib.Core.List.Memᴰ
use mathlib.Core.List.{List, Memᴰ}
use lib.ListN.{length, take}
use lib.Dec.{ltb, leb}
use borrow.Author.Tests.{ltb-true, ltb-false, leb-true}
use Rattle.model.specs.Key.{distance}
use Rattle.model.specs.Sets.{put, members, none_node}
use Rattle.model.specs.Leafset.{Table, size, key}
use Rattle.model.specs.Ring.{Ring, Own, Node, Message, initial, message_at}
use Rattle.model.specs.Types.{leave, names_spare, used_by_type}
use Rattle.model.specs.Steps.{plain, hold, release, forget, leaving}
use Rattle.model.specs.Play.{after, started, stopped, set_node, send_leave, play_answer, play_word}
use Rattle.model.specs.Answers.{is_accepted}
use Rattle.model.specs.Events.{event_of}
use Rattle.model.specs.ConnectivityPreserved.{Reached, opened, played, joined, read_at}
use Rattle.model.specs.Join.{raised, raised_node, raised_message, join, Joinable}
use Rattle.model.specs.WellFormed.{Spare, none, spare, WellFormed}
use Rattle.model.specs.declared.event.Event.{Event}
use Rattle.model.specs.declared.event.Event.TheVariants.{On, Off, Notice, Contact, Timer, Deliver, Lose}
use Rattle.model.proofs.Laws.{decide, if_law, put_law, put_each}
use Rattle.model.proofs.Joins.{raised_is, first_key, second_key}
use Rattle.model.proofs.Cases.{after_table}
use Rattle.model.proofs.Handlers.{absent, message_in, each_in, map_out}
use Rattle.model.proofs.ConnectivityPreserved.{list_reaches, reached_well, reached_may_join, connectivity_preserved}
use Rattle.settle_leafsets.proofs.Closest.{closest_offer}
use Rattle.settle_kept.proofs.Keeping.{own_forget, Idly, idle_not, NoSwitch, KeepsAt, AnswersAt, Has, after_has}

-- v is no node, or nearer to x than z is
abbrev pub NearerOrNone : Table → ℕ → ℕ → ℕ → Type 0
NearerOrNone t x z v = (v ≡ 64) ⊎ (distance (key t x) (key t v) < distance (key t x) (key t z))

pub record NearSpares (r : Ring) : Type 0 where
  pub spares : (x z : ℕ) → NearerOrNone r.table x z ((r.node x).own.spare z)
  pub answers : (m : Message) → Memᴰ m r.messages → m.type ≡ 8 → NearerOrNone r.table m.receiver m.sender m.subject

module _ (r : Ring) (near : NearSpares r) where
  abbrev t : Table
  t = r.table

  abbrev K : ℕ → Own → Type 0
  K a p = (z : ℕ) → NearerOrNone t a z (p.spare z)

  abbrev F : Message → Type 0
  F m = m.type ≡ 8 → NearerOrNone t m.receiver m.sender m.subject

  idle : Idly F
  idle m i e = absurd (idle_not m.type 8 refl i e)

  cleared_at : (a : ℕ) (f : ℕ → ℕ) (w : ℕ) → ((z : ℕ) → NearerOrNone t a z (f z)) → (z : ℕ) → NearerOrNone t a z (put f w 64 z)
  cleared_at a f w k z = put_law (NearerOrNone t a z) f w 64 z (λ e. inl refl) (λ n. k z)

  held : (a now y : ℕ) (p : Own) → K a p → K a (hold now y p)
  unfolding hold
  held a now y p k = if_law (K a) (p.held y) p _ (λ e. k) (λ e. cleared_at a p.spare y k)

  let_go : (a w : ℕ) (p : Own) → K a p → K a (release w p)
  unfolding release
  let_go a w p k = cleared_at a p.spare w k

  forgets : (a w : ℕ) → K a (forget w (r.node a).own)
  forgets a w = own_forget (K a) (λ S p k. k) (r.node a).own (near.spares a) w (λ e. let_go a w (r.node a).own (near.spares a))

  module _ (i : ℕ) where
    abbrev m : Message
    m = message_at r i

    abbrev x : ℕ
    x = m.receiver

    abbrev now : ℕ
    now = (r.node x).clock + 1

    abbrev o : Own
    o = (r.node x).own

    keeps : KeepsAt r K i
    keeps =
        record {
          on_2 = λ e. held x now m.sender o (near.spares x);
          on_6 = λ e fits. held x now m.sender o (near.spares x);
          on_8 = λ e h z.
              put_law (NearerOrNone t x z) o.spare m.sender m.subject z
              (λ q. subst (λ (u : ℕ). NearerOrNone t x u m.subject) (sym q) (near.answers m (message_in r.messages i 7 e) e))
              (λ n. near.spares x z);
          on_9 = λ e h. near.spares x;
          on_10 = λ e out is. (held x now m.sender o (near.spares x), let_go x m.subject _ (held x now m.sender o (near.spares x)));
          on_13 = λ e. forgets x m.sender;
        }

    answers : AnswersAt r F i
    answers =
        record {
          on_1 = λ e q. absurd (omega arith);
          on_5 = λ e q. absurd (omega arith);
          on_7 = λ e q. elim (closest_offer t o.held x m.sender) [ inl n ↦ inl n | inr y ↦ inr y.nearer ];
          on_9 = λ e h q. absurd (omega arith);
        }

  acted_near : (e : Event) → NoSwitch e → NearSpares (after r e)
  acted_near e n =
      let h : Has K F (after r e) =
      after_has r K F (record { nodes = near.spares; flying = near.answers }) (λ a S p k. k) idle e n
      (λ x z i. forgets x.0 z.0) (λ x y i q. absurd (omega arith)) (λ x z out named q. absurd (omega arith)) (λ i on. keeps i) (λ i on. answers i) in
      let back : t ≡ (after r e).table = sym (after_table r e) in
      record {
        spares = λ x z. subst (λ (u : Table). NearerOrNone u x z (((after r e).node x).own.spare z)) back (h.nodes x z);
        answers = λ m i q. subst (λ (u : Table). NearerOrNone u m.receiver m.sender m.subject) back (h.flying m i q);
      }

-- a node goes on, or off
placed_near : (r : Ring) (x : ℕ) (n : Node) → ((z : ℕ) → NearerOrNone r.table x z (n.own.spare z)) → NearSpares r → NearSpares (set_node x n r)
placed_near r x n k near =
    record {
      spares = put_each (λ a s. (z : ℕ) → NearerOrNone r.table a z (s.own.spare z)) r.node x n k (λ a d. near.spares a);
      answers = near.answers;
    }

leaving_near : (r : Ring) (x : ℕ) → NearSpares r → NearSpares (send_leave x r)
unfolding leaving
leaving_near r x near =
    record {
      spares = near.spares;
      answers = λ m h q.
          elim (Memᴰ.append_cases r.messages h) [
            | inl o ↦ near.answers m o q
            | inr s ↦
                (let e : leave ≡ 8 = sym (ap (λ (a : Message). a.type) (map_out (plain leave x) (members (size r.table) (r.node x).own.held) m s).2)
                ∙ q in
                absurd (omega arith))
          ];
    }

pub near_after : (r : Ring) → NearSpares r → (e : Event) → NearSpares (after r e)
unfolding after
near_after r near (On x) = placed_near r x.0 (started (r.node x.0)) (near.spares x.0) near
near_after r near (Off x polite) =
    if_law (λ (s : Ring). NearSpares (set_node x.0 (stopped (r.node x.0)) s)) polite (send_leave x.0 r) r
    (λ e. placed_near (send_leave x.0 r) x.0 (stopped (r.node x.0)) (λ z. inl refl) (leaving_near r x.0 near))
    (λ e. placed_near r x.0 (stopped (r.node x.0)) (λ z. inl refl) near)
near_after r near (Notice x z) = acted_near r near (Notice x z) tt
near_after r near (Contact x y) = acted_near r near (Contact x y) tt
near_after r near (Timer x k) = acted_near r near (Timer x k) tt
near_after r near (Deliver i echo) = acted_near r near (Deliver i echo) tt
near_after r near (Lose i) = acted_near r near (Lose i) tt

near_word : (r : Ring) → NearSpares r → (w : ℕ) → NearSpares (play_word r w).ring
unfolding play_word
near_word r near w = if_law NearSpares (is_accepted (play_answer r w)) (after r (event_of w)) r (λ a. near_after r near (event_of w)) (λ a. near)

near_initial : (t : Table) → NearSpares (initial t)
unfolding initial
near_initial t = record { spares = λ x z. inl refl; answers = λ m. absent }

-- a join: the first ring's keys and numbers stay, and the second's numbers rise with their keys
module _ (r s : Ring) (g : WellFormed r) (h : WellFormed s) (may : Joinable r s) where
  abbrev n : ℕ
  n = size r.table

  abbrev both : Table
  both = (join r s).table

  near_first : (x z : ℕ) {v : ℕ} → x < n → z < n → Spare n x z v → NearerOrNone r.table x z v → NearerOrNone both x z v
  near_first x z hx hz none q = inl refl
  near_first x z hx hz (spare o d) (inl e) = inl e
  near_first x z hx hz (spare {y = v} o d) (inr l) = inr (rw (first_key r s x hx, first_key r s z hz, first_key r s v o.low) l)

  risen : (x u : ℕ) → x ≡ u + n → key both x ≡ key s.table u
  risen x u e = let back : x - n ≡ u = omega arith in second_key r s x (omega arith) ∙ ap (key s.table) back

  near_second :
      (x z u w : ℕ) {v : ℕ} → x ≡ u + n → z ≡ w + n → Spare (size s.table) u w v
      → NearerOrNone s.table u w v → NearerOrNone both x z (raised n v)
  near_second x z u w p q none e = inl refl
  near_second x z u w p q (spare o d) (inl e) = inl (ap (raised n) e)
  near_second x z u w p q (spare {y = v} o d) (inr l) =
      inr (rw (risen x u p, risen z w q, risen (raised n v) v (raised_is n (size s.table) may.size_fits v o.low)) l)

  names_spare_lem : (k : ℕ) → k ≡ 8 → names_spare k ≡ true
  unfolding used_by_type
  names_spare_lem k e = ap names_spare e

  near_joined : NearSpares r → NearSpares s → NearSpares (join r s)
  unfolding join
  near_joined a b =
      record {
        spares = λ x z.
            if_law (λ (q : Node). NearerOrNone both x z (q.own.spare z)) (ltb x n) (r.node x) (raised_node n (s.node (x - n)))
            (λ e. of_first x z (ltb-true x n e))
            (λ e.
            let hx : n ≤ x = ltb-false x n e in
            if_law (NearerOrNone both x z) (leb n z) (raised n ((s.node (x - n)).own.spare (z - n))) none_node
            (λ l.
            let hz : n ≤ z = leb-true n z l in
            near_second x z (x - n) (z - n) (omega arith) (omega arith) ((h.node_well (x - n)).own_well.spare_other (z - n)) (b.spares (x - n) (z - n)))
            (λ l. inl refl));
        answers = λ m i q.
            elim (Memᴰ.append_cases r.messages i) [
              | inl o ↦
                  (let w = each_in g.messages_well o in
                  near_first m.receiver m.sender w.receiver_low w.sender_low (w.subject_spare (names_spare_lem m.type q)) (a.answers m o q))
              | inr o ↦ of_second m q (map_out (raised_message n) s.messages m o)
            ];
      }
    where
      of_first : (x z : ℕ) → x < n → NearerOrNone both x z ((r.node x).own.spare z)
      of_first x z hx =
          let w = (g.node_well x).own_well in
          decide ((r.node x).own.held z)
          (λ e. near_first x z hx (w.held_other z e).low (w.spare_other z) (a.spares x z))
          (λ e. inl (w.spare_none z e))

      of_second :
          (m : Message) → m.type ≡ 8 → (c : Message) × Memᴰ c s.messages × (m ≡ raised_message n c)
          → NearerOrNone both m.receiver m.sender m.subject
      of_second m q (c, o, e) =
          let w = each_in h.messages_well o in
          let eight : c.type ≡ 8 = ap (λ (d : Message). d.type) (sym e) ∙ q in
          subst (λ (d : Message). NearerOrNone both d.receiver d.sender d.subject) (sym e)
          (near_second (raised n c.receiver) (raised n c.sender) c.receiver c.sender
          (raised_is n (size s.table) may.size_fits c.receiver w.receiver_low)
          (raised_is n (size s.table) may.size_fits c.sender w.sender_low)
          (w.subject_spare (names_spare_lem c.type eight)) (b.answers c o eight))

pub near_reached : {ws : List ℕ} {r : Ring} → Reached ws r → NearSpares r
near_reached (opened old t ok) = near_initial t
near_reached (played {r = r} p w) = near_word r (near_reached p) w
near_reached (joined {r = r} {s = s} p q third ok) =
    near_joined r s (reached_well p) (reached_well q) (reached_may_join p q third ok) (near_reached p) (near_reached q)

pub near_at : (start : List ℕ) (r : Ring) → Reached start r → (words : List ℕ) → (i : ℕ) → i ≤ length words → NearSpares (read_at start words i)
near_at start r reached words i h =
    subst NearSpares (sym ((connectivity_preserved start r reached words).ring_follows i h)) (near_reached (list_reaches reached (take i words)))
