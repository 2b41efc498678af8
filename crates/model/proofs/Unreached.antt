-- Demand 3 needs a ring that was reached: it fails from words that only read as a ring. Two requests with stamps above their senders' clocks, put
-- into a ring that a list leaves, make two nodes release a third, each for the other; nothing but deliveries is played.
use mathlib.Core.Path.{◌≡◌, refl, sym, subst}
use Prim.Native.Nat.{ℕ, ◌<◌}
use native.Mathlib.Omega.{arith}
use mathlib.Core.Bool.{true, false}
use mathlib.Core.List.{List, [], ◌∷◌, ◌++◌, map}
use lib.ListN.{get_or}
use Rattle.model.specs.Sets.{members, tabulate}
use Rattle.model.specs.Leafset.{Table, size}
use Rattle.model.specs.Ring.{Ring, initial, holds}
use Rattle.model.specs.WellFormed.{WellFormedMessage, WellFormed, Each, nil, cons}
use Rattle.model.specs.Types.{ping_replace, pong_replace, leave, used_by_type}
use Rattle.model.specs.Steps.{stamped}
use Rattle.model.specs.Events.{event_of}
use Rattle.model.specs.Play.{set_messages, play_all}
use Rattle.model.specs.Buffer.{open_answer, play_buffer_all}
use Rattle.model.specs.Words.{encode, decode, ring_fits, reads_as_ring}
use Rattle.model.specs.Connection.{Connected, connected}
use Rattle.model.specs.ConnectivityPreserved.{NoAcknowledgement, LeaversOff, Harmless, read_at, Unbroken}
use Rattle.model.proofs.Senders.{sent_le}
use Rattle.model.proofs.Laws.{clash}
use Rattle.model.proofs.Lists.{each_at}
use Rattle.model.proofs.RoundTrip.{round_trip}
use Rattle.model.proofs.Fits.{encoded_reads}
use Rattle.model.proofs.WellFormedPlay.{words_well, table_well, initial_well}
use Rattle.model.proofs.Connection.{decides}
use Rattle.model.proofs.Handlers.{each_in}
use Rattle.model.proofs.Base.{computed}
use Rattle.model.proofs.JoinRows.{zeros}

-- ---- two requests that nobody sent

crowd_table : Table
crowd_table = record { sides = record { ahead = 1; behind = 1 }; keys = 10 ∷ 11 ∷ 1000 ∷ 20 ∷ 5 ∷ [] }

-- All come on; 0 and 1 contact 2, 3 and 4, and 2 contacts 0 and 1; 0 and 1 ask 2 for a spare; each is delivered and answered. Then 2 goes off
-- and comes back. So 0 and 1 hold 2, 3 and 4, each is the other's spare for 2, which is outside their leafsets, and 2 holds nobody.
crowd_words : List ℕ
crowd_words =
    0x90000000 ∷ 0x90000001 ∷ 0x90000002 ∷ 0x90000003 ∷ 0x90000004
    ∷ answered 0xC0000080 ++ answered 0xC00000C0 ++ answered 0xC0000100 ++ answered 0xC0000081 ++ answered 0xC00000C1 ++ answered 0xC0000101
    ++ answered 0xC0000002 ++ answered 0xC0000042 ++ answered 0xD0002000 ++ answered 0xD0002001 ++ 0xA0000002 ∷ 0x90000002 ∷ []
  where
    answered : ℕ → List ℕ
    answered w = w ∷ 0xE0000000 ∷ 0xE0000000 ∷ []

crowd : Ring
crowd = play_all (initial crowd_table) crowd_words

-- 0 and 1 ask each other about 2, with this stamp; their clocks are 10
asked : ℕ → Ring
asked stamp = set_messages (stamped ping_replace 0 1 2 stamp ∷ stamped ping_replace 1 0 2 stamp ∷ []) crowd

-- both requests and both answers are delivered
deliveries : List ℕ
deliveries = 0xE0000000 ∷ 0xE0000000 ∷ 0xE0000000 ∷ 0xE0000000 ∷ []

-- the clocks, the types in flight, whom each holds, and whom 2 is connected to
seen : Ring → List (List ℕ)
seen r =
    tabulate 5 (λ x. (r.node x).clock) ∷ map (λ m. m.type) r.messages
    ∷ (tabulate 5 (λ x. members 5 (holds r x)) ++ members 5 (connected r 2) ∷ [])

-- by rows that are computed
record Parting : Type 0 where
  -- stamps above their senders' clocks: the ring fits, no type 10 and no type 13 is in flight, and deliveries alone part 2 from the others
  forged_fits : ring_fits (asked 100) ≡ true
  forged_before : seen (asked 100)
      ≡ (10 ∷ 10 ∷ 10 ∷ 3 ∷ 3 ∷ []) ∷ (9 ∷ 9 ∷ [])
      ∷ (2 ∷ 3 ∷ 4 ∷ []) ∷ (2 ∷ 3 ∷ 4 ∷ []) ∷ [] ∷ [] ∷ []
      ∷ (0 ∷ 1 ∷ 2 ∷ 3 ∷ 4 ∷ []) ∷ []
  forged_parts : seen (play_all (asked 100) deliveries)
      ≡ (12 ∷ 12 ∷ 10 ∷ 3 ∷ 3 ∷ []) ∷ []
      ∷ (1 ∷ 3 ∷ 4 ∷ []) ∷ (0 ∷ 3 ∷ 4 ∷ []) ∷ [] ∷ [] ∷ []
      ∷ (2 ∷ []) ∷ []
  -- with stamps that the clocks have shown they do not
  honest_keeps : seen (play_all (asked 10) deliveries)
      ≡ (12 ∷ 12 ∷ 10 ∷ 3 ∷ 3 ∷ []) ∷ []
      ∷ (1 ∷ 2 ∷ 3 ∷ 4 ∷ []) ∷ (0 ∷ 2 ∷ 3 ∷ 4 ∷ []) ∷ [] ∷ [] ∷ []
      ∷ (0 ∷ 1 ∷ 2 ∷ 3 ∷ 4 ∷ []) ∷ []

parting : Parting
unfolding computed crowd_table crowd_words crowd asked deliveries seen
parting = record { forged_fits = refl; forged_before = refl; forged_parts = refl; honest_keeps = refl }

-- ---- the ring is well-formed

opens : open_answer zeros crowd_table ≡ 0
unfolding computed zeros crowd_table
opens = refl

crowd_well : WellFormed crowd
unfolding crowd
crowd_well = words_well (initial crowd_table) crowd_words (initial_well crowd_table (table_well zeros crowd_table opens))

five_nodes : size crowd.table ≡ 5
unfolding computed crowd_table crowd_words crowd
five_nodes = refl

request_well : (x y : ℕ) → x < 5 → y < 5 → ¬ (x ≡ y) → WellFormedMessage 5 (stamped ping_replace x y 2 100)
unfolding used_by_type
request_well x y hx hy d =
    record {
      type_known = refl;
      sender_low = hx;
      receiver_low = hy;
      ends_differ = d;
      subject_none = λ e. clash refl e;
      subject_low = λ e f. omega arith;
      subject_spare = λ e. clash e refl;
      stamp_none = λ e. clash refl e;
      stamp_high = omega arith;
      view_type = λ v e. clash e refl;
      view_other = λ v e. clash e refl;
    }

abbrev forged : Ring
forged = asked 100

forged_well : WellFormed forged
unfolding asked
forged_well =
    record {
      table_well = crowd_well.table_well;
      node_well = crowd_well.node_well;
      messages_well = subst (λ (n : ℕ). Each (WellFormedMessage n) (asked 100).messages) (sym five_nodes)
          (cons (request_well 0 1 (omega arith) (omega arith) (λ e. omega arith))
          (cons (request_well 1 0 (omega arith) (omega arith) (λ e. omega arith)) nil));
      count_high = omega arith;
      senders_few = λ x h. omega (arith, sent_le x (asked 100).messages);
    }

-- ---- the point, and the words

no_acknowledgement : NoAcknowledgement forged
unfolding asked
no_acknowledgement m h = each_in {P = λ a. ¬ (a.type ≡ pong_replace)} (cons (λ e. omega arith) (cons (λ e. omega arith) nil)) h

no_leaver : LeaversOff forged
unfolding asked
no_leaver m h is = absurd (each_in {P = λ a. ¬ (a.type ≡ leave)} (cons (λ e. omega arith) (cons (λ e. omega arith) nil)) h is)

-- each word delivers
delivers : (ρ : Ring) (w : ℕ) → w ≡ 0xE0000000 → Harmless ρ (event_of w)
unfolding event_of
delivers ρ w e = subst (λ (v : ℕ). Harmless ρ (event_of v)) (sym e) tt

each_delivers : (ρ : Ring) (i : ℕ) → i < 4 → Harmless ρ (event_of (get_or deliveries i 0))
unfolding deliveries
each_delivers ρ i h = delivers ρ (get_or deliveries i 0) (each_at {P = λ w. w ≡ 0xE0000000} (cons refl (cons refl (cons refl (cons refl nil)))) 0 i h)

-- ---- parted

together : connected forged 2 0 ≡ true
unfolding computed crowd_table crowd_words crowd asked
together = refl

apart : connected (play_all forged deliveries) 2 0 ≡ false
unfolding computed crowd_table crowd_words crowd asked deliveries
apart = refl

abbrev start : List ℕ
start = encode forged

back : decode start ≡ forged
back = round_trip forged forged_well

parted : Unbroken start deliveries (decode start) → ⊥
unfolding play_all play_buffer_all deliveries
parted u =
    clash
    ((decides (play_all forged deliveries) 2 (λ x e. ((words_well forged deliveries forged_well).node_well x).running_low e) 0).1
    (subst (λ (ρ : Ring). Connected (play_all ρ deliveries) 2 0) back
    (subst (λ (ρ : Ring). Connected ρ 2 0) (u.ring_follows 4 (omega arith))
    (u.connection_kept 0 (omega arith)
    (subst NoAcknowledgement (sym back) no_acknowledgement)
    (subst LeaversOff (sym back) no_leaver)
    (λ k from l ok. each_delivers (read_at start deliveries k) k l)
    2 0
    (subst (λ (ρ : Ring). Connected ρ 2 0) (sym back) ((decides forged 2 (λ x e. (forged_well.node_well x).running_low e) 0).0 together))
    4 (omega arith) (omega arith)))))
    apart

pub reading_is_not_enough : ¬ ((ws words : List ℕ) → reads_as_ring ws ≡ true → Unbroken ws words (decode ws))
reading_is_not_enough all = parted (all start deliveries (encoded_reads forged forged_well))
