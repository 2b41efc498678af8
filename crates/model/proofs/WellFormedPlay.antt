-- Every ring of every list of words is well-formed: the initial ring is, and each event keeps it so.
use mathlib.Core.Path.{◌≡◌, refl, sym, ◌∙◌}
use Prim.Native.Nat.{ℕ, suc, ◌+◌, ◌≤◌, ◌<◌}
use native.Mathlib.Nat.{le_refl, le_trans}
use native.Mathlib.Omega.{arith}
use mathlib.Core.Bool.{true, false, not, ◌&&◌}
use mathlib.Core.List.{List, [], ◌∷◌, ◌++◌}
use lib.ListN.{length}
use lib.Dec.{ltb, leb, eqb}
use borrow.Author.Tests.{ltb-true, ltb-false, leb-true, eqb-false}
use Rattle.model.specs.Sets.{all}
use Rattle.model.specs.Leafset.{Table, size, key}
use Rattle.model.specs.Ring.{Own, Node, Message, Ring, blank, initial, is_running, message_at, sent_by}
use Rattle.model.specs.WellFormed.{WellFormedTable, WellFormedOwn, WellFormedNode, WellFormedMessage, WellFormed, Each, nil, cons}
use Rattle.model.specs.Steps.{Effect}
use Rattle.model.specs.Answers.{Refusal, first_of, is_accepted}
use Rattle.model.specs.Events.{event_of, same_node, word_refusals}
use Rattle.model.specs.Words.{between, sides_fit, in_range, keys_differ, senders_fit}
use Rattle.model.specs.Buffer.{wrong_length, opening_refusals, open_answer}
use Rattle.model.specs.Play.{set_node, stopped, send_leave, remove_message, act, receive, after}
use Rattle.model.specs.Play.{actor, clock_spent, refusals, left_refusals, state_refusals, play_answer, play_word, play_all}
use Rattle.model.specs.declared.event.Event.{Event}
use Rattle.model.specs.declared.event.Event.TheVariants.{On, Off, Notice, Contact, Timer, Deliver, Lose}
use Rattle.model.proofs.Fits.{sides_out}
use Rattle.model.proofs.Laws.{clash, and_left, and_right, and_in, not_out_false, is_false}
use Rattle.model.proofs.Laws.{between_low, between_high, every_out, if_law, put_each, all_out}
use Rattle.model.proofs.Lists.{first, rest, each_at, each_append, each_left, each_right, each_take, each_drop, each_imp}
use Rattle.model.proofs.Senders.{sent_append, sent_without, sent_none, senders_out}
use Rattle.model.proofs.Cases.{refusals_refuse, left_refuses}
use Rattle.model.proofs.Answers.{accepted_is, none_applies}
use Rattle.model.proofs.Events.{EventWord, event_word}
use Rattle.model.proofs.WellFormedSteps.{WellSent, WellFormedEffect, cleared_well, later_well, leaving_well}
use Rattle.model.proofs.WellFormedSteps.{contact_well, notice_well, timer_well, deliver_well}

-- ---- refusals

abbrev NoneApplies : List Refusal → Type 0
NoneApplies qs = Each (λ q. q.applies ≡ false) qs

-- every refusal refuses
pub refusing : (r : Ring) (e : Event) → Each (λ q. is_accepted q.number ≡ false) (state_refusals r e)
refusing r e = each_append (refusals_refuse r e) (left_refuses (after r e))

-- the ring that is left has room, and no sender has too many in flight
after_count : (r : Ring) (e : Event) → NoneApplies (state_refusals r e) → length (after r e).messages ≤ 1024
after_count r e p = ltb-false 1024 (length (after r e).messages) (first (each_right (refusals r e) (left_refusals (after r e)) p))

after_senders : (r : Ring) (e : Event) → NoneApplies (state_refusals r e) → (x : ℕ) → x < size (after r e).table → sent_by x (after r e).messages ≤ 256
after_senders r e p = senders_out (after r e) (not_out_false (senders_fit (after r e)) (first (rest (each_right (refusals r e) (left_refusals (after r e)) p))))

below : (r : Ring) (x : ℕ) → not (ltb x (size r.table)) ≡ false → x < size r.table
below r x e = ltb-true x (size r.table) (not_out_false (ltb x (size r.table)) e)

-- a clock that can rise
unspent : (c : ℕ) → c ≤ 16777215 → eqb c 16777215 ≡ false → c + 1 ≤ 16777215
unspent c h e = let d = eqb-false c 16777215 e in omega arith

-- ---- what an accepted event leaves

-- a well-formed ring, but for the number of its messages
record WellFormedParts (r : Ring) : Type 0 where
  table_well : WellFormedTable r.table
  node_well : (x : ℕ) → WellFormedNode (size r.table) x (r.node x)
  messages_well : Each (WellFormedMessage (size r.table)) r.messages

set_node_well : (r : Ring) (x : ℕ) (s : Node) → WellFormedParts r → WellFormedNode (size r.table) x s → WellFormedParts (set_node x s r)
set_node_well r x s g h =
    record {
      table_well = g.table_well;
      node_well = put_each (WellFormedNode (size r.table)) r.node x s h (λ y d. g.node_well y);
      messages_well = g.messages_well;
    }

remove_well : (r : Ring) (i : ℕ) → WellFormedParts r → WellFormedParts (remove_message i r)
unfolding remove_message
remove_well r i g =
    record {
      table_well = g.table_well;
      node_well = g.node_well;
      messages_well = each_append (each_take i g.messages_well) (each_drop (suc i) g.messages_well);
    }

fewer : (r : Ring) (i : ℕ) → i < length r.messages → (y : ℕ) → sent_by y (remove_message i r).messages ≤ sent_by y r.messages
unfolding remove_message
fewer r i h y = omega (arith, sent_without y r.messages i h)

-- a running node with a later clock
node_later : (n x : ℕ) (o : Own) (now : ℕ) → x < n → now ≤ 16777215 → WellFormedOwn n x now o
    → WellFormedNode n x (record { running = true; clock = now; own = o })
node_later n x o now h c g =
    record {
      running_low = λ e. h;
      clock_high = c;
      clock_none = λ d. absurd (d h);
      own_well = g;
      off_held = λ e. clash refl e;
      off_candidates = λ e. clash refl e;
    }

-- what x leaves is well-formed, and of no other sender it is more than before
record Kept (x : ℕ) (r s : Ring) : Type 0 where
  parts : WellFormedParts s
  others : (y : ℕ) → (y ≡ x → ⊥) → sent_by y s.messages ≤ sent_by y r.messages

-- the same messages
silent : {x : ℕ} {r s : Ring} → s.messages ≡ r.messages → WellFormedParts s → Kept x r s
silent same g = record { parts = g; others = λ y d. rw same (le_refl _) }

-- messages of x at the end
sent_others : {n x y : ℕ} (ms : List Message) {sent : List Message} → Each (WellSent n x) sent → (y ≡ x → ⊥) → sent_by y (ms ++ sent) ≤ sent_by y ms
sent_others {y = y} ms {sent} e d =
    omega (arith, sent_append y ms sent, sent_none y (each_imp {Q = λ m. m.sender ≡ y → ⊥} (λ m s i. d (sym i ∙ s.by_sender)) e))

act_well : (r : Ring) (x : ℕ) (step : ℕ → Own → Effect) → WellFormedParts r
    → is_running r x ≡ true → eqb (r.node x).clock 16777215 ≡ false
    → ((now : ℕ) → 0 < now → now ≤ 16777215 → x < size r.table → WellFormedOwn (size r.table) x now (r.node x).own
    → WellFormedEffect (size r.table) x now (step now (r.node x).own))
    → Kept x r (act x step r)
unfolding act
act_well r x step g running clock f =
    let gn : WellFormedNode (size r.table) x (r.node x) = g.node_well x in
    let low : x < size r.table = gn.running_low running in
    let high : (r.node x).clock + 1 ≤ 16777215 = unspent (r.node x).clock gn.clock_high clock in
    let e : WellFormedEffect (size r.table) x ((r.node x).clock + 1) (step ((r.node x).clock + 1) (r.node x).own) =
    f ((r.node x).clock + 1) (omega arith) high low
    (later_well (size r.table) x (r.node x).clock ((r.node x).clock + 1) (r.node x).own (omega arith) gn.own_well) in
    let s : Node = record { running = (r.node x).running; clock = (r.node x).clock + 1; own = (step ((r.node x).clock + 1) (r.node x).own).own } in
    let p : WellFormedParts (set_node x s r) =
    set_node_well r x s g (rw running (node_later (size r.table) x _ ((r.node x).clock + 1) low high e.own_well)) in
    record {
      parts = record {
        table_well = p.table_well;
        node_well = p.node_well;
        messages_well = each_append g.messages_well (each_imp (λ m s. s.well) e.sent_well);
      };
      others = λ y d. sent_others r.messages e.sent_well d;
    }

stopped_well : (r : Ring) (x : ℕ) → WellFormedParts r → WellFormedNode (size r.table) x (stopped (r.node x))
stopped_well r x g =
    let gn : WellFormedNode (size r.table) x (r.node x) = g.node_well x in
    record {
      running_low = λ e. clash e refl;
      clock_high = gn.clock_high;
      clock_none = gn.clock_none;
      own_well = cleared_well (size r.table) x (r.node x).clock;
      off_held = λ e z. refl;
      off_candidates = λ e z. refl;
    }

send_leave_well : (r : Ring) (x : ℕ) → WellFormedParts r → x < size r.table → Kept x r (send_leave x r)
send_leave_well r x g low =
    let sent = leaving_well r.table x (r.node x).clock (r.node x).own low (g.node_well x).own_well in
    record {
      parts = record {
        table_well = g.table_well;
        node_well = g.node_well;
        messages_well = each_append g.messages_well (each_imp (λ m s. s.well) sent);
      };
      others = λ y d. sent_others r.messages sent d;
    }

receive_well :
    (r : Ring) (m : Message) → WellFormedParts r → WellFormedMessage (size r.table) m
    → (clock_spent r (is_running r m.receiver) m.receiver).applies ≡ false → Kept m.receiver r (receive m r)
receive_well r m g w unspent =
    if_law (Kept m.receiver r) (is_running r m.receiver) _ _
    (λ running. act_well r m.receiver _ g running
    (is_false (eqb (r.node m.receiver).clock 16777215) (λ e. clash (and_in running e) unspent))
    (λ now pos high low o. deliver_well r.table g.table_well now pos high (r.node m.receiver).own m w o))
    (λ off. silent refl g)

after_well : (r : Ring) (e : Event) → WellFormedParts r → same_node e ≡ false → NoneApplies (refusals r e) → Kept (actor r e) r (after r e)
unfolding after remove_message
after_well r (On x) g d p =
    let gn : WellFormedNode (size r.table) x.0 (r.node x.0) = g.node_well x.0 in
    silent refl (set_node_well r x.0 _ g
    (node_later (size r.table) x.0 (r.node x.0).own ((r.node x.0).clock + 1) (below r x.0 (first p))
    (unspent (r.node x.0).clock gn.clock_high (first (rest (rest p))))
    (later_well (size r.table) x.0 (r.node x.0).clock ((r.node x.0).clock + 1) (r.node x.0).own (omega arith) gn.own_well)))
after_well r (Off x polite) g d p =
    if_law (λ (q : Ring). Kept x.0 r (set_node x.0 (stopped (r.node x.0)) q)) polite (send_leave x.0 r) r
    (λ e.
    let k : Kept x.0 r (send_leave x.0 r) = send_leave_well r x.0 g (below r x.0 (first p)) in
    record { parts = set_node_well (send_leave x.0 r) x.0 _ k.parts (stopped_well r x.0 g); others = k.others })
    (λ e. silent refl (set_node_well r x.0 _ g (stopped_well r x.0 g)))
after_well r (Notice x z) g d p =
    act_well r x.0 _ g (not_out_false (is_running r x.0) (first (rest (rest p)))) (first (rest (rest (rest p))))
    (λ now pos high low o. notice_well r.table g.table_well now pos high (r.node x.0).own x.0 low o z.0)
after_well r (Contact x y) g d p =
    act_well r x.0 _ g (not_out_false (is_running r x.0) (first (rest (rest p)))) (first (rest (rest (rest p))))
    (λ now pos high low o. contact_well r.table g.table_well now pos high (r.node x.0).own x.0 low o y.0
    (record { low = below r y.0 (first (rest p)); differs = λ i. eqb-false x.0 y.0 d (sym i) }))
after_well r (Timer x k) g d p =
    act_well r x.0 _ g (not_out_false (is_running r x.0) (first (rest p))) (first (rest (rest p)))
    (λ now pos high low o. timer_well r.table g.table_well now pos high (r.node x.0).own x.0 low o k)
after_well r (Deliver i echo) g d p =
    let h : i < length r.messages = ltb-true i (length r.messages) (not_out_false (ltb i (length r.messages)) (first p)) in
    let m : WellFormedMessage (size r.table) (message_at r i) = each_at g.messages_well blank i h in
    if_law (λ (s : Ring). Kept (message_at r i).receiver r (receive (message_at r i) s)) echo r (remove_message i r)
    (λ e. receive_well r (message_at r i) g m (first (rest p)))
    (λ e.
    let k = receive_well (remove_message i r) (message_at r i) (remove_well r i g) m (first (rest p)) in
    record { parts = k.parts; others = λ y d. le_trans (k.others y d) (fewer r i h y) })
after_well r (Lose i) g d p = record { parts = remove_well r i g; others = λ y d. fewer r i (ltb-true i _ (not_out_false (ltb i _) (first p))) y }

parts_of_lem : {r : Ring} → WellFormed r → WellFormedParts r
parts_of_lem g = record { table_well = g.table_well; node_well = g.node_well; messages_well = g.messages_well }

-- an event leaves no more messages of a node that neither acts nor answers
pub others_few : (r : Ring) (e : Event) → WellFormed r → same_node e ≡ false → NoneApplies (refusals r e)
    → (y : ℕ) → (y ≡ actor r e → ⊥) → sent_by y (after r e).messages ≤ sent_by y r.messages
others_few r e g d p = (after_well r e (parts_of_lem g) d p).others

-- an event that is no contact or notice of one node with itself, and that no refusal from the state meets, keeps a ring well-formed
pub event_well : (r : Ring) (e : Event) → WellFormed r → same_node e ≡ false → NoneApplies (state_refusals r e) → WellFormed (after r e)
event_well r e g d p =
    let q : WellFormedParts (after r e) = (after_well r e (parts_of_lem g) d (each_left (refusals r e) (left_refusals (after r e)) p)).parts in
    record {
      table_well = q.table_well;
      node_well = q.node_well;
      messages_well = q.messages_well;
      count_high = after_count r e p;
      senders_few = after_senders r e p;
    }

-- ---- words

-- what is known of an accepted word
pub record AcceptedWord (r : Ring) (w : ℕ) : Type 0 where
  pub event : EventWord w (event_of w)
  pub passed : NoneApplies (state_refusals r (event_of w))

pub accepted_word : (r : Ring) (w : ℕ) → is_accepted (play_answer r w) ≡ true → AcceptedWord r w
unfolding play_answer
accepted_word r w a =
    let p : NoneApplies (word_refusals w ++ state_refusals r (event_of w)) =
    none_applies (word_refusals w ++ state_refusals r (event_of w)) (each_append (cons refl (cons refl nil)) (refusing r (event_of w)))
    (accepted_is (first_of (word_refusals w ++ state_refusals r (event_of w))) a) in
    record {
      event = event_word w (each_left (word_refusals w) (state_refusals r (event_of w)) p);
      passed = each_right (word_refusals w) (state_refusals r (event_of w)) p;
    }

-- every word keeps a ring well-formed
pub word_well : (r : Ring) (w : ℕ) → WellFormed r → WellFormed (play_word r w).ring
unfolding play_word
word_well r w g =
    if_law WellFormed (is_accepted (play_answer r w)) (after r (event_of w)) r
    (λ a. let p : AcceptedWord r w = accepted_word r w a in event_well r (event_of w) g p.event.well.differ p.passed)
    (λ a. g)

-- a list of words leaves a well-formed ring
pub words_well : (r : Ring) (words : List ℕ) → WellFormed r → WellFormed (play_all r words)
unfolding play_all
words_well r [] g = g
words_well r (w ∷ words) g = words_well (play_word r w).ring words (word_well r w g)

-- ---- the initial ring of a table that opens

pub table_well : (old : List ℕ) (t : Table) → open_answer old t ≡ 0 → WellFormedTable t
unfolding open_answer in_range
table_well old t a =
    let p = rest (none_applies (wrong_length old ∷ opening_refusals t) (cons refl (cons refl (cons refl nil))) a) in
    let range = every_out (sides_fit t.sides ∷ between 1 64 (size t) ∷ []) (not_out_false (in_range t) (first p)) in
    let small : ℕ → _ = λ (s : ℕ). leb (key t s) 16777215 in
    let keys : (all (size t) small && keys_differ t) ≡ true = not_out_false (all (size t) small && keys_differ t) (first (rest p)) in
    record {
      sides_well = sides_out t.sides (first range);
      size_low = between_low 1 64 (size t) (first (rest range));
      size_high = between_high 1 64 (size t) (first (rest range));
      key_high = λ s h. leb-true (key t s) 16777215 (all_out (size t) small (and_left (all (size t) small) (keys_differ t) keys) s h);
      keys_differ_lem = and_right (all (size t) small) (keys_differ t) keys;
    }

pub initial_well : (t : Table) → WellFormedTable t → WellFormed (initial t)
unfolding initial
initial_well t g =
    record {
      table_well = g;
      node_well = λ x. record {
        running_low = λ e. clash e refl;
        clock_high = omega arith;
        clock_none = λ d. refl;
        own_well = cleared_well (size t) x 0;
        off_held = λ e z. refl;
        off_candidates = λ e z. refl;
      };
      messages_well = nil;
      count_high = omega arith;
      senders_few = λ x h. omega (arith, sent_none x {l = []} nil);
    }
