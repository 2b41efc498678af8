-- What a settled ring supposes of messages is needed: a converged ring that any one delivery, and any two, leave converged is settled.
-- Type by type: the delivery, or that of its answer, would bring in or release the sender.
use mathlib.Core.Path.{◌≡◌, refl, sym, ap, ◌∙◌, subst}
use mathlib.Core.Logic.{◌⊎◌, inl, inr}
use Prim.Native.Nat.{ℕ, zero, suc, ◌+◌}
use native.Mathlib.Nat.{add-zero}
use mathlib.Core.Bool.{true, false}
use mathlib.Core.List.Memᴰ
use mathlib.Core.List.{List, [], ◌∷◌, ◌++◌, Memᴰ}
use lib.ListN.{length, get_or, take, drop}
use lib.Seq.{get_or-append-add}
use borrow.Author.Tests.{eq-eqb}
use Rattle.model.specs.Sets.{Set, with, put}
use Rattle.model.specs.Leafset.{Table, leafset}
use Rattle.model.specs.Ring.{Ring, Own, Node, Message, blank, is_running, holds, message_at}
use Rattle.model.specs.Types.{ping_contact, pong_contact, pong_invite, leave}
use Rattle.model.specs.Steps.{Effect, plain, nothing, step_by_type, hold, release, forget, deliver, on_ping_contact, on_pong_contact, on_pong_invite, on_leave}
use Rattle.model.specs.Play.{set_messages, remove_message, act, after}
use Rattle.model.specs.Route.{Converged}
use Rattle.model.specs.declared.event.Event.TheVariants.{Deliver}
use Rattle.model.proofs.Laws.{clash, or_right, if_law, put_here}
use Rattle.model.proofs.Cases.{after_table}
use Rattle.model.proofs.Handlers.{absent}
use Rattle.settle_kept.specs.Settled.{Still, Settled}
use Rattle.settle_kept.proofs.Keeping.{after_running}

-- the position of a message in flight
at_position : (l : List Message) (m : Message) → Memᴰ m l → (i : ℕ) × (get_or l i blank ≡ m)
at_position [] m h = absent h
at_position (a ∷ l) m h = go (Memᴰ.cases_cons h) (at_position l m)
  where
    go : (m ≡ a) ⊎ Memᴰ m l → (Memᴰ m l → (i : ℕ) × (get_or l i blank ≡ m)) → (i : ℕ) × (get_or (a ∷ l) i blank ≡ m)
    go (inl e) f = (zero, sym e)
    go (inr q) f = let p = f q in (suc p.0, p.1)

-- the step of a message, by its type
module _ (t : Table) (me now : ℕ) (o : Own) (m : Message) where
  by_type : (k : ℕ) → m.type ≡ k → deliver t me now o m ≡ get_or (nothing t me now o ∷ step_by_type t me now o m) k (nothing t me now o)
  unfolding deliver
  by_type k e = ap (λ (j : ℕ). get_or (nothing t me now o ∷ step_by_type t me now o m) j (nothing t me now o)) e

  hold_has : (y : ℕ) → (hold now y o).held y ≡ true
  unfolding hold
  hold_has y = if_law (λ (p : Own). p.held y ≡ true) (o.held y) o _ (λ e. e) (λ e. or_right (o.held y) (eq-eqb y y refl))

  forget_lacks : (y : ℕ) → (forget y o).held y ≡ false
  unfolding forget release
  forget_lacks y = if_law (λ (p : Own). p.held y ≡ false) (o.held y) (release y o) o (λ e. rw (e, eq-eqb y y refl)) (λ e. e)

  held_2 : m.type ≡ pong_contact → (deliver t me now o m).own.held m.sender ≡ true
  unfolding on_pong_contact
  held_2 e = ap (λ (f : Effect). f.own.held m.sender) (by_type 2 e) ∙ hold_has m.sender

  held_6 : m.type ≡ pong_invite → leafset t me (with o.held m.sender) m.sender ≡ true → (deliver t me now o m).own.held m.sender ≡ true
  unfolding on_pong_invite
  held_6 e fits = ap (λ (f : Effect). f.own.held m.sender) (by_type 6 e) ∙ rw fits (hold_has m.sender)

  held_13 : m.type ≡ leave → (deliver t me now o m).own.held m.sender ≡ false
  unfolding on_leave
  held_13 e = ap (λ (f : Effect). f.own.held m.sender) (by_type 13 e) ∙ forget_lacks m.sender

  sent_1 : m.type ≡ ping_contact → (deliver t me now o m).sent ≡ plain pong_contact me m.sender ∷ []
  unfolding on_ping_contact
  sent_1 e = ap (λ (f : Effect). f.sent) (by_type 1 e)

module _ (r : Ring) (c : Converged r) where
  abbrev t : Table
  t = r.table

  abbrev R : Set
  R = is_running r

  abbrev H : ℕ → Set
  H = holds r

  -- a converged ring in which the same nodes run: the same nodes are held
  same_held : (s : Ring) → Converged s → s.table ≡ t → ((a : ℕ) → is_running s a ≡ R a) → (x : ℕ) → R x ≡ true → (z : ℕ) → H x z ≡ holds s x z
  same_held s d table running x on z =
      c.holds_leafset x on z
      ∙ ap (λ (u : Table). leafset u x R z) (sym table)
      ∙ ap (λ (S : Set). leafset s.table x S z) (λ j a. sym (running a) j)
      ∙ sym (d.holds_leafset x (running x ∙ on) z)

  module _ (i : ℕ) (on : R (message_at r i).receiver ≡ true) where
    abbrev m : Message
    m = message_at r i

    abbrev x : ℕ
    x = m.receiver

    abbrev done : Effect
    done = deliver t x ((r.node x).clock + 1) (r.node x).own m

    abbrev acted : Node
    acted = record { running = (r.node x).running; clock = (r.node x).clock + 1; own = done.own }

    left : List Message
    left = take i r.messages ++ drop (suc i) r.messages

    after_held : (z : ℕ) → holds (after r (Deliver i false)) x z ≡ done.own.held z
    unfolding after act remove_message
    after_held z =
        if_law (λ (s : Ring). holds s x z ≡ done.own.held z) (R x)
        (record { table = t; node = put r.node x acted; messages = (take i r.messages ++ drop (suc i) r.messages) ++ done.sent })
        (set_messages (take i r.messages ++ drop (suc i) r.messages) r)
        (λ e. ap (λ (n : Node). n.own.held z) (put_here r.node x acted))
        (λ e. clash on e)

    after_messages : (after r (Deliver i false)).messages ≡ left ++ done.sent
    unfolding after act remove_message left
    after_messages = rw on refl

    stays : Converged (after r (Deliver i false)) → (y : ℕ) → R y ≡ true → (z : ℕ) → H y z ≡ holds (after r (Deliver i false)) y z
    stays d y runs z = same_held (after r (Deliver i false)) d (after_table r (Deliver i false)) (λ a. after_running r (Deliver i false) tt a) y runs z

    answers_needed : Converged (after r (Deliver i false)) → m.type ≡ pong_contact → H x m.sender ≡ true
    answers_needed d e = stays d x on m.sender ∙ after_held m.sender ∙ held_2 t x _ (r.node x).own m e

    accepts_needed :
        Converged (after r (Deliver i false)) → m.type ≡ pong_invite → leafset t x (with (H x) m.sender) m.sender ≡ true → H x m.sender ≡ true
    accepts_needed d e fits = stays d x on m.sender ∙ after_held m.sender ∙ held_6 t x _ (r.node x).own m e fits

    leaves_needed : Converged (after r (Deliver i false)) → m.type ≡ leave → H x m.sender ≡ false
    leaves_needed d e = stays d x on m.sender ∙ after_held m.sender ∙ held_13 t x _ (r.node x).own m e

    -- a contact is answered by the last message
    answered : m.type ≡ ping_contact → message_at (after r (Deliver i false)) (length left) ≡ plain pong_contact x m.sender
    answered e =
        ap (λ (l : List Message). get_or l (length left) blank) (after_messages ∙ ap (λ (l : List Message). left ++ l) (sent_1 t x _ (r.node x).own m e))
        ∙ ap (λ (k : ℕ). get_or (left ++ (plain pong_contact x m.sender ∷ [])) k blank) (sym (add-zero (length left)))
        ∙ get_or-append-add left (plain pong_contact x m.sender ∷ []) 0 blank

-- it is needed of a contact, too
contacts_needed :
    (r : Ring) → Converged r → (i : ℕ) → Converged (after r (Deliver i false)) → ((j : ℕ) → Converged (after (after r (Deliver i false)) (Deliver j false)))
    → (message_at r i).type ≡ ping_contact → is_running r (message_at r i).receiver ≡ true → is_running r (message_at r i).sender ≡ true
    → holds r (message_at r i).sender (message_at r i).receiver ≡ true
contacts_needed r c i d f e on runs =
    let s : Ring = after r (Deliver i false) in
    let j : ℕ = length (left r c i on) in
    let is : message_at s j ≡ plain pong_contact (message_at r i).receiver (message_at r i).sender = answered r c i on e in
    let to : is_running s (message_at s j).receiver ≡ true =
    ap (λ (m : Message). is_running s m.receiver) is ∙ after_running r (Deliver i false) tt (message_at r i).sender ∙ runs in
    stays r c i on d (message_at r i).sender runs (message_at r i).receiver
    ∙ sym (ap (λ (m : Message). holds s m.receiver m.sender) is)
    ∙ answers_needed s d j to (f j) (ap (λ (m : Message). m.type) is)

pub settled_needed :
    (r : Ring) → Converged r
    → ((i : ℕ) → Converged (after r (Deliver i false)))
    → ((i j : ℕ) → Converged (after (after r (Deliver i false)) (Deliver j false)))
    → Settled r
settled_needed r c one two =
    record {
      converged = c;
      still = λ m h. let p = at_position r.messages m h in subst (Still r.table (is_running r) (holds r)) p.1 (still_at p.0);
    }
  where
    still_at : (i : ℕ) → Still r.table (is_running r) (holds r) (message_at r i)
    still_at i =
        record {
          contacts = λ e on runs. contacts_needed r c i (one i) (two i) e on runs;
          answers = λ e on. answers_needed r c i on (one i) e;
          accepts = λ e on fits. accepts_needed r c i on (one i) e fits;
          leaves = λ e on. leaves_needed r c i on (one i) e;
        }
