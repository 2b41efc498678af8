-- What `progress` and `cleanup` suppose, and so `convergence`, is needed: for each supposition a computed list of words that meets all the others, and gains
-- nothing, so that the ring does not settle. That A = B is needed is `uneven-never-converges`.
use mathlib.Core.Path.{◌≡◌, refl, sym, ◌∙◌, subst}
use mathlib.Core.Bool.{Bool, true, false, not, ◌&&◌, ◌||◌}
use mathlib.Core.Logic.{◌⊎◌, inl, inr}
use mathlib.Core.List.Memᴰ
use mathlib.Core.List.{List, [], ◌∷◌, ◌++◌, map, Memᴰ}
use Prim.Native.Nat.{ℕ, zero, suc, ◌+◌, ◌%◌, ◌<◌}
use lib.ListN.{length, get_or, take}
use lib.Dec.{eqb, ltb}
use borrow.Author.Tests.{eq-eqb}
use Rattle.std.specs.Prelude.{if◌then◌else◌}
use Rattle.model.specs.Choice.{◌⇒◌, every}
use Rattle.model.specs.Key.{distance}
use Rattle.model.specs.Sets.{all, some, members}
use Rattle.model.specs.Leafset.{Table, size, key, leafset}
use Rattle.model.specs.Ring.{Ring, Message, initial, holds, is_running}
use Rattle.model.specs.Types.{pong_replace, leave}
use Rattle.model.specs.Answers.{is_accepted}
use Rattle.model.specs.Events.{word_of, event_of}
use Rattle.model.specs.Play.{play_answer, after}
use Rattle.model.specs.Connection.{Connected, connected}
use Rattle.model.specs.ConnectivityPreserved.{NoAcknowledgement, LeaversOff}
use Rattle.settle_leafsets.specs.Covered.{Covered, HoldsRunning}
use Rattle.model.specs.declared.values.NodeNumber.{NodeNumber}
use Rattle.model.specs.declared.event.Event.{Event}
use Rattle.model.specs.declared.event.Event.TheVariants.{On, Off, Notice, Contact, Timer, Deliver, Lose}
use Rattle.model.specs.WellFormed.{WellFormed}
use Rattle.settle_kept.specs.Settled.{Settled, takes_in}
use Rattle.settle_rounds.specs.Progress.{total_lacking, sum_to, enough}
use Rattle.settle_cleanup.specs.Cleanup.{NoStranger}
use Rattle.model.proofs.Laws.{clash, and_in, and_left, and_right, or_left, implies_in, implies_out, not_out, same_test, all_in, all_out}
use Rattle.model.proofs.Choices.{leafset_within}
use Rattle.model.proofs.Handlers.{absent}
use Rattle.model.proofs.Connection.{decides, turned}
use Rattle.model.proofs.Connection as connection
use Rattle.model.proofs.Base.{computed}
use Rattle.settle_kept.proofs.Closure.{converged_covered}
use Rattle.settle_rounds.proofs.RoundTest.{fate_by, harmless, lossless, fires, delivers}
use Rattle.settle_cleanup.proofs.ConvergenceExample.{two, four, times}

-- ---- what is supposed, and what is gained

pub data Supposition : Type 0 where
  -- of the point: the words before it are accepted; A = B; clean, in three parts, of which the last is supposed of the point o too; for progress no
  -- acknowledgement in flight, and all running nodes connected; for cleanup nothing in flight, and the ring covered
  opens even holds_running senders_run leavers_off no_acknowledgement joined tidy : Supposition
  -- of each round: every word is accepted, harmless, no loss, and no contact of a stranger; what is in flight is delivered; each timer fires
  accepted is-harmless no-loss no-stranger delivered : Supposition
  timer : ℕ → Supposition

pub data Claim : Type 0 where
  progress cleanup : Claim

abbrev same : Bool → Bool → Bool
same a b = (a ⇒ b) && (b ⇒ a)

-- every running node and every node pass the test
abbrev pairs : Ring → (ℕ → ℕ → Bool) → Bool
pairs r test = all (size r.table) (λ x. is_running r x ⇒ all (size r.table) (test x))

abbrev in_flight : Ring → (Message → Bool) → Bool
in_flight r test = every (map test r.messages)

abbrev is_covered : Ring → Bool
is_covered r = pairs r (λ x z. same (leafset r.table x (holds r x) z) (leafset r.table x (is_running r) z))

abbrev is_outside : Ring → ℕ → ℕ → Bool
is_outside r x z = holds r x z && not (leafset r.table x (is_running r) z)

-- progress: the ring is covered, or fewer are lacked; cleanup: whoever is held outside is nearer than somebody who was
abbrev pub has_gained : Claim → Ring → Ring → Bool
has_gained progress p q = is_covered q || ltb (total_lacking q) (total_lacking p)
has_gained cleanup p q =
    pairs q (λ x w. is_outside q x w ⇒ some (size q.table) (λ z. is_outside p x z && ltb (far x w) (far x z)))
  where
    far : ℕ → ℕ → ℕ
    far x z = distance (key q.table x) (key q.table z)

pairs_in : (r : Ring) (test : ℕ → ℕ → Bool) → ((x z : ℕ) → is_running r x ≡ true → test x z ≡ true) → pairs r test ≡ true
pairs_in r test f =
    all_in (size r.table) _ (λ x h. implies_in (is_running r x) _ (λ on. all_in (size r.table) (test x) (λ z i. f x z on)))

same_in : (a b : Bool) → a ≡ b → same a b ≡ true
same_in a b e = and_in (implies_in a b (λ h. sym e ∙ h)) (implies_in b a (λ h. e ∙ h))

-- a settled ring has gained: where nothing is gained it is not settled
pub settled_gains : (c : Claim) (p q : Ring) → WellFormed q → Settled q → has_gained c p q ≡ true
settled_gains progress p q g s =
    or_left _ (pairs_in q _ (λ x z on. same_in _ _ ((converged_covered q g s.converged).leafset_held x on z)))
settled_gains cleanup p q g s =
    pairs_in q _
    (λ x w on. implies_in (is_outside q x w) _
    (λ out. clash (sym (s.converged.holds_leafset x on w) ∙ and_left (holds q x w) _ out) (not_out _ (and_right (holds q x w) _ out))))

pub record Test : Type 0 where
  pub of : Supposition
  pub met : Bool

failing : List Test → List Supposition
failing [] = []
failing (t ∷ ts) = (if t.met then [] else t.of ∷ []) ++ failing ts

-- both met
both : List Test → List Test → List Test
both [] us = []
both (t ∷ ts) [] = []
both (t ∷ ts) (u ∷ us) = record { of = t.of; met = t.met && u.met } ∷ both ts us

abbrev pub holds_running_test : Ring → Bool
holds_running_test r = pairs r (λ x z. holds r x z ⇒ is_running r z)

abbrev pub senders_run_test : Ring → Bool
senders_run_test r = in_flight r (λ m. (takes_in m.type && is_running r m.receiver) ⇒ is_running r m.sender)

abbrev pub leavers_off_test : Ring → Bool
leavers_off_test r = in_flight r (λ m. eqb m.type leave ⇒ not (is_running r m.sender))

abbrev pub none_acknowledges : Ring → Bool
none_acknowledges r = in_flight r (λ m. not (eqb m.type pong_replace))

-- node 0 is connected to every running node
abbrev pub all_joined : Ring → Bool
all_joined r = all (size r.table) (λ z. is_running r z ⇒ connected r 0 z)

abbrev claim_tests : Claim → Ring → List Test
claim_tests progress r = record { of = no_acknowledgement; met = none_acknowledges r } ∷ record { of = joined; met = all_joined r } ∷ []
claim_tests cleanup r = record { of = tidy; met = is_covered r && eqb (length r.messages) 0 } ∷ []

abbrev point_tests : Claim → Ring → List Test
point_tests c r =
    record { of = even; met = eqb r.table.sides.ahead r.table.sides.behind }
    ∷ record { of = holds_running; met = holds_running_test r }
    ∷ record { of = senders_run; met = senders_run_test r }
    ∷ record { of = leavers_off; met = leavers_off_test r }
    ∷ claim_tests c r

-- what they tell
pub record Told (r : Ring) : Type 0 where
  pub held : holds_running_test r ≡ true → HoldsRunning r
  pub senders :
      senders_run_test r ≡ true → (m : Message) → Memᴰ m r.messages → takes_in m.type ≡ true
      → is_running r m.receiver ≡ true → is_running r m.sender ≡ true
  pub leavers : leavers_off_test r ≡ true → LeaversOff r
  pub acknowledgements : none_acknowledges r ≡ true → NoAcknowledgement r
  pub connections : all_joined r ≡ true → (a b : ℕ) → is_running r a ≡ true → is_running r b ≡ true → Connected r a b
  pub leafsets : is_covered r ≡ true → Covered r

in_flight_out : (l : List Message) (test : Message → Bool) → every (map test l) ≡ true → (m : Message) → Memᴰ m l → test m ≡ true
in_flight_out [] test e m i = absent i
in_flight_out (a ∷ l) test e m i = go (Memᴰ.cases_cons i) (in_flight_out l test (and_right (test a) _ e) m)
  where
    go : (m ≡ a) ⊎ Memᴰ m l → (Memᴰ m l → test m ≡ true) → test m ≡ true
    go (inl h) f = subst (λ (k : Message). test k ≡ true) (sym h) (and_left (test a) _ e)
    go (inr h) f = f h

pub told : (r : Ring) → WellFormed r → Told r
told r g =
    record {
      held = λ e x on z h. implies_out (holds r x z) _ (of (λ a b. holds r a b ⇒ is_running r b) e x z on (held_low x z h)) h;
      senders = λ e m i k on. implies_out (takes_in m.type && is_running r m.receiver) _ (in_flight_out r.messages _ e m i) (and_in k on);
      leavers = λ e m i k. not_out _ (implies_out (eqb m.type leave) _ (in_flight_out r.messages _ e m i) (eq-eqb m.type leave k));
      acknowledgements = λ e m i k. clash (eq-eqb m.type pong_replace k) (not_out _ (in_flight_out r.messages _ e m i));
      connections = λ e a b ra rb. connection.joined r (turned r (to e a ra)) (to e b rb);
      leafsets = λ e.
          record {
            leafset_held = λ x on z. same_test _ _
                (λ h. implies_out _ _ (and_left _ _ (of alike e x z on (held_low x z (leafset_within r.table x (holds r x) z h)))) h)
                (λ h. implies_out _ _ (and_right (leafset r.table x (holds r x) z ⇒ leafset r.table x (is_running r) z) _
                (of alike e x z on (low z (leafset_within r.table x (is_running r) z h)))) h);
          };
    }
  where
    low : (x : ℕ) → is_running r x ≡ true → x < size r.table
    low x on = (g.node_well x).running_low on

    held_low : (x z : ℕ) → holds r x z ≡ true → z < size r.table
    held_low x z h = ((g.node_well x).own_well.held_other z h).low

    alike : ℕ → ℕ → Bool
    alike x z = same (leafset r.table x (holds r x) z) (leafset r.table x (is_running r) z)

    of : (test : ℕ → ℕ → Bool) → pairs r test ≡ true → (x z : ℕ) → is_running r x ≡ true → z < size r.table → test x z ≡ true
    of test e x z on h = all_out (size r.table) (test x) (implies_out (is_running r x) _ (all_out (size r.table) _ e x (low x on)) on) z h

    to : all_joined r ≡ true → (z : ℕ) → is_running r z ≡ true → Connected r 0 z
    to e z on = (decides r 0 low z).0 (implies_out (is_running r z) _ (all_out (size r.table) _ e z (low z on)) on)

abbrev pub names_no_stranger : Ring → Event → Bool
names_no_stranger r (On x) = true
names_no_stranger r (Off x polite) = true
names_no_stranger r (Notice x z) = true
names_no_stranger r (Contact x y) = is_running r y.0 ⇒ leafset r.table x.0 (is_running r) y.0
names_no_stranger r (Timer x k) = true
names_no_stranger r (Deliver i echo) = true
names_no_stranger r (Lose i) = true

pub no_stranger_told : (r : Ring) (e : Event) → names_no_stranger r e ≡ true → NoStranger r e
no_stranger_told r (On x) h = tt
no_stranger_told r (Off x polite) h = tt
no_stranger_told r (Notice x z) h = tt
no_stranger_told r (Contact x y) h = implies_out (is_running r y.0) _ h
no_stranger_told r (Timer x k) h = tt
no_stranger_told r (Deliver i echo) h = tt
no_stranger_told r (Lose i) h = tt

-- the rings of the points of a list of words, as far as these are accepted
walk : Ring → List ℕ → List Ring
walk r [] = r ∷ []
walk r (w ∷ ws) = if is_accepted (play_answer r w) then r ∷ walk (after r (event_of w)) ws else []

-- of a round of q words, with its rings and its events
round_tests : ℕ → List Ring → List Event → Ring → List Test
round_tests q walked done r =
    record { of = accepted; met = eqb (length walked) (suc q) }
    ∷ record { of = is-harmless; met = harmless rings (λ k. 0) events 0 q }
    ∷ record { of = no-loss; met = lossless rings (λ k. 0) events 0 q }
    ∷ record { of = no-stranger; met = all q (λ k. names_no_stranger (rings k) (events k)) }
    ∷ record { of = delivered; met = delivers rings (λ k. 0) events 0 q }
    ∷ map (λ j. record { of = timer j; met = fires rings (λ k. 0) events (eqb j) 0 q }) (0 ∷ 2 ∷ 3 ∷ 4 ∷ [])
  where
    rings : ℕ → Ring
    rings k = get_or walked k r

    events : ℕ → Event
    events k = get_or done k (Lose 0)

-- ---- what rounds come to

pub record Outcome : Type 0 where
  pub unmet : List Supposition
  pub gains : Bool
  -- the last round left the ring as it found it, but for clocks and stamps: so it goes on, however many rounds come
  pub repeats : Bool

same_messages : ℕ → List Message → List Message → Bool
same_messages n [] [] = true
same_messages n [] (k ∷ ks) = false
same_messages n (m ∷ ms) [] = false
same_messages n (m ∷ ms) (k ∷ ks) =
    eqb m.type k.type && eqb m.sender k.sender && eqb m.receiver k.receiver && eqb m.subject k.subject
    && all n (λ z. same (m.view z) (k.view z))
    && same_messages n ms ks

is_repeated : Ring → Ring → Bool
is_repeated r s =
    all (size r.table) (λ x. same (is_running r x) (is_running s x) && all (size r.table) (alike x))
    && same_messages (size r.table) r.messages s.messages
  where
    alike : ℕ → ℕ → Bool
    alike x z =
        same (holds r x z) (holds s x z)
        && same ((r.node x).own.candidates z) ((s.node x).own.candidates z)
        && eqb ((r.node x).own.spare z) ((s.node x).own.spare z)

record State : Type 0 where
  tests : List Test
  before : Ring
  now : Ring

played : List ℕ → List Ring → State → State
played ws walked s =
    record {
      tests = both (round_tests (length ws) walked (map event_of ws) s.now) s.tests;
      before = s.now;
      now = get_or walked (length ws) s.now;
    }

turn : List ℕ → State → State
turn ws s = played ws (walk s.now ws) s

turns : (Ring → List ℕ) → ℕ → State → State
turns round zero s = s
turns round (suc k) s = turns round k (turn (round s.now) s)

-- of rounds from a point p on; what is used more than once is an argument, and computed once
compared : Claim → List Supposition → Ring → State → Outcome
compared c before p s =
    record {
      unmet = before ++ failing s.tests;
      gains = has_gained c p s.now;
      repeats = is_repeated s.before s.now;
    }

from : ℕ → Claim → List Supposition → (Ring → List ℕ) → Ring → Outcome
from k c before round p =
    compared c (before ++ failing (point_tests c p)) p
    (turns round k (record { tests = map (λ t. record { of = t.of; met = true }) (round_tests 0 [] [] p); before = p; now = p }))

along : ℕ → Claim → Table → List ℕ → (Ring → List ℕ) → List Ring → Outcome
along k c t before round walked =
    from k c (failing (record { of = opens; met = eqb (length walked) (suc (length before)) } ∷ [])) round (get_or walked (length before) (initial t))

-- of k rounds, from the point that the words `before` lead to; the words of a round may depend on the ring with which it begins
pub outcome : ℕ → Claim → Table → List ℕ → (Ring → List ℕ) → Outcome
outcome k c t before round = along k c t before round (walk (initial t) before)

-- nothing is gained, and nothing will be
abbrev pub stuck : List Supposition → Outcome
stuck ss = record { unmet = ss; gains = false; repeats = true }

-- ---- words

abbrev node : ℕ → NodeNumber
node x = record { 0 = x }

abbrev on : ℕ → ℕ
on x = word_of (On (node x))

abbrev off : ℕ → ℕ
off x = word_of (Off (node x) false)

abbrev leaves : ℕ → ℕ
leaves x = word_of (Off (node x) true)

abbrev notice : ℕ → ℕ → ℕ
notice x z = word_of (Notice (node x) (node z))

abbrev contact : ℕ → ℕ → ℕ
contact x y = word_of (Contact (node x) (node y))

abbrev timer_at : ℕ → ℕ → ℕ
timer_at x j = word_of (Timer (node x) j)

-- the message at a position
abbrev deliver : ℕ → ℕ
deliver i = word_of (Deliver i false)

abbrev lose : ℕ → ℕ
lose i = word_of (Lose i)

-- x comes to hold y, while i messages are in flight
abbrev meets : ℕ → ℕ → ℕ → List ℕ
meets i x y = contact x y ∷ deliver i ∷ deliver i ∷ []

each : List ℕ → (ℕ → List ℕ) → List ℕ
each [] make = []
each (x ∷ xs) make = make x ++ each xs make

pub timers_of : List ℕ → Ring → List ℕ
timers_of timers r = each (members (size r.table) (is_running r)) (λ x. map (timer_at x) timers)

-- what is in flight is delivered, oldest first; then these timers of the running nodes fire; then k messages are delivered
pub fair : List ℕ → ℕ → Ring → List ℕ
fair timers k r =
    times (length r.messages) (deliver 0) ++ timers_of timers r ++ times k (deliver 0)

abbrev every_timer : List ℕ
every_timer = 0 ∷ 2 ∷ 3 ∷ 4 ∷ []

-- ---- lists that lead to a point

-- two nodes, of which node 0 holds node 1
abbrev pair : List ℕ
pair = on 0 ∷ on 1 ∷ meets 0 0 1

-- four nodes: each holds its neighbours, and node 0 the node across too, as in `cleanup-met`
pub across : List ℕ
across = map on (0 ∷ 1 ∷ 2 ∷ 3 ∷ []) ++ each (0 ∷ 1 ∷ 2 ∷ 3 ∷ []) (λ x. meets 0 x ((x + 1) % 4) ++ meets 0 x ((x + 3) % 4)) ++ meets 0 0 2

-- node 2 offers node 0 its neighbour node 1; then node 1 acknowledges that it holds node 2, and node 0 releases it
pub trade : List ℕ
trade = timer_at 0 2 ∷ deliver 0 ∷ deliver 0 ∷ timer_at 0 3 ∷ deliver 0 ∷ deliver 0 ∷ []

-- four nodes: node 0 holds the others, and nodes 1 and 2 each other. Node 1 acknowledges that it holds node 2; before that arrives it is switched off and
-- on, and nodes 0, 1 and 3 come to hold each other; then node 2 is switched off and on. Now node 0 alone holds node 2, which holds nobody.
pub acknowledged : List ℕ
acknowledged =
    map on (0 ∷ 1 ∷ 2 ∷ 3 ∷ [])
    ++ meets 0 0 1 ++ meets 0 0 2 ++ meets 0 0 3 ++ meets 0 1 2 ++ meets 0 2 1
    ++ take 5 trade
    ++ (off 1 ∷ on 1 ∷ [])
    ++ meets 1 1 0 ++ meets 1 1 3 ++ meets 1 3 0 ++ meets 1 3 1
    ++ (off 2 ∷ on 2 ∷ [])

abbrev pub seven : Table
seven = record { sides = record { ahead = 1; behind = 1 }; keys = 10 ∷ 20 ∷ 30 ∷ 40 ∷ 50 ∷ 60 ∷ 70 ∷ [] }

-- seven nodes: each holds the node after the next on either side; from successor to successor one goes round twice before one comes back
pub twice : List ℕ
twice = map on seven_nodes ++ each seven_nodes (λ x. meets 0 x ((x + 2) % 7) ++ meets 0 x ((x + 5) % 7))
  where
    seven_nodes : List ℕ
    seven_nodes = 0 ∷ 1 ∷ 2 ∷ 3 ∷ 4 ∷ 5 ∷ 6 ∷ []

-- `unfolding shown` opens every definition
unfoldable shown : Unit {0}
unfolding computed total_lacking sum_to fate_by two four times failing both walk round_tests same_messages is_repeated played turn turns compared from along
    outcome each timers_of fair across trade acknowledged twice
shown = tt

-- ---- rows of two nodes, with as many rounds as `progress` asks for: 19

-- nothing is unmet, and node 1 comes to hold node 0; here 8 rounds do
pub with_all : outcome 8 progress two pair (fair every_timer 0) ≡ record { unmet = []; gains = true; repeats = true }
unfolding shown
with_all = refl

-- node 1 is switched off while node 0 holds it, and no notice comes: node 0 goes on to hold it
pub without_clean_held : outcome (enough two) progress two (pair ++ (off 1 ∷ [])) (fair every_timer 0) ≡ stuck (holds_running ∷ [])
unfolding shown
without_clean_held = refl

-- node 1 is switched off after it has answered a contact: its type 2 makes node 0 hold it
pub without_clean_senders :
    outcome (enough two) progress two (on 0 ∷ on 1 ∷ contact 0 1 ∷ deliver 0 ∷ off 1 ∷ []) (fair every_timer 0) ≡ stuck (senders_run ∷ [])
unfolding shown
without_clean_senders = refl

-- node 1 leaves politely and comes back, and node 0 contacts it and holds it; then the old type 13 arrives, and parts them
pub without_clean_leavers :
    outcome (enough two) progress two (on 0 ∷ on 1 ∷ (meets 0 1 0 ++ (leaves 1 ∷ on 1 ∷ meets 1 0 1))) (fair every_timer 0) ≡ stuck (leavers_off ∷ [])
unfolding shown
without_clean_leavers = refl

-- neither knows of the other
pub without_connection : outcome (enough two) progress two (on 0 ∷ on 1 ∷ []) (fair every_timer 0) ≡ stuck (joined ∷ [])
unfolding shown
without_connection = refl

-- each round begins with a notice of node 1, which runs: node 0 releases it, and neither knows of the other
pub with_wrong_notices : outcome (enough two) progress two pair (λ r. notice 0 1 ∷ fair every_timer 0 r) ≡ stuck (is-harmless ∷ [])
unfolding shown
with_wrong_notices = refl

-- in each round node 1 is switched off and on: it forgets that node 0 asked it, and does not invite it; 2 rounds, of which the second repeats the first
pub with_restarts : outcome 2 progress two pair (λ r. off 1 ∷ on 1 ∷ fair every_timer 2 r) ≡ stuck (is-harmless ∷ [])
unfolding shown
with_restarts = refl

-- in each round node 0 asks node 1, and its type 3 is lost at once: nothing is in flight when a round begins, so that all of that is delivered
pub with_losses : outcome (enough two) progress two pair (λ r. fair every_timer 0 r ++ (lose 0 ∷ [])) ≡ stuck (no-loss ∷ [])
unfolding shown
with_losses = refl

-- nothing is delivered and nothing lost: each round adds a type 3
pub without_deliveries :
    outcome (enough two) progress two pair (timers_of every_timer) ≡ record { unmet = delivered ∷ []; gains = false; repeats = false }
unfolding shown
without_deliveries = refl

-- node 0 does not ask node 1
pub without_timer_0 : outcome (enough two) progress two pair (fair (2 ∷ 3 ∷ 4 ∷ []) 0) ≡ stuck (timer 0 ∷ [])
unfolding shown
without_timer_0 = refl

-- ---- rows of more nodes: 2 rounds, of which the second repeats the first; `cleanup` asks for 8, and `progress` for 33 of four nodes and 54 of seven

-- node 0 does not ask node 2 for a spare
pub without_timer_2 : outcome 2 cleanup four across (fair (0 ∷ 3 ∷ 4 ∷ []) 22) ≡ stuck (timer 2 ∷ [])
unfolding shown
without_timer_2 = refl

-- node 0 has node 1 as the spare of node 2, and sends it no type 9
pub without_timer_3 : outcome 2 cleanup four across (fair (0 ∷ 2 ∷ 4 ∷ []) 24) ≡ stuck (timer 3 ∷ [])
unfolding shown
without_timer_3 = refl

-- nobody sends type 11; whoever asks a node, or is named to it, lies no nearer than those whom it holds
pub without_timer_4 : outcome 2 progress seven twice (fair (0 ∷ 2 ∷ 3 ∷ []) 28) ≡ stuck (timer 4 ∷ [])
unfolding shown
without_timer_4 = refl

-- in each round node 0 trades node 2 away, and then contacts it and holds it again
pub with_strangers :
    outcome 2 cleanup four across (λ r. trade ++ timers_of every_timer r ++ times 20 (deliver 0) ++ meets 0 0 2) ≡ stuck (no-stranger ∷ [])
unfolding shown
with_strangers = refl

-- the acknowledgement arrives: node 0 releases node 2, and nobody knows of it. The last word before the point is an on, so that no earlier point is o
pub with_an_acknowledgement : outcome 2 progress four acknowledged (fair every_timer 15) ≡ stuck (no_acknowledgement ∷ [])
unfolding shown
with_an_acknowledgement = refl
