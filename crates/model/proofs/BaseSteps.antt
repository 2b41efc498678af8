-- The steps of document 01 and note 4 of document 02, a row each, computed at node 0 of nine (NineNodes) at 9, its clock then.
use Prim.Native.Nat.{ℕ}
use mathlib.Core.Path.{◌≡◌, refl}
use mathlib.Core.Bool.{Bool, true, false}
use mathlib.Core.List.{List, [], ◌∷◌, ◌++◌, map}
use Rattle.model.specs.Sets.{tabulate, of_bits}
use Rattle.model.specs.Leafset.{Table, successor, passes_zero}
use Rattle.model.specs.Ring.{Node, Message, Ring, cleared}
use Rattle.model.specs.Steps.{Effect, plain, naming, stamped, viewing, contact, timer, deliver}
use Rattle.model.specs.Play.{play_word}
use Rattle.model.proofs.Base.{computed}
use Rattle.model.proofs.NineNodes.{table, own0, own8, nodes, nine, shown_own, shown_message, own_before, own8_before, of_six}

-- ---- what is shown

pub record Shown : Type 0 where
  pub own : List (List ℕ)
  pub sent : List (List ℕ)

pub shown : Effect → Shown
shown e = record { own = shown_own e.own; sent = map shown_message e.sent }

-- ---- what node 0 does

pub fires : ℕ → Shown
fires k = shown (timer table 0 9 own0 k)

pub gets : Message → Shown
gets m = shown (deliver table 0 9 own0 m)

-- the same of node 8 at 3, and of node 4, which holds nobody
pub gets8 : Message → Shown
gets8 m = shown (deliver table 8 3 own8 m)

pub gets4 : Message → Shown
gets4 m = shown (deliver table 4 9 cleared m)

-- its own record with another held set and other candidates, commits and spares
pub keeps : List ℕ → List ℕ → List ℕ → List ℕ → List (List ℕ) → Shown
keeps held candidates commits spares sent = record { own = held ∷ candidates ∷ commits ∷ spares ∷ []; sent = sent }

pub unchanged : List (List ℕ) → Shown
unchanged sent = record { own = own_before; sent = sent }

-- ---- what an accepted word leaves of a node and of the messages

pub record Left : Type 0 where
  pub running : Bool
  pub clock : ℕ
  pub own : List (List ℕ)
  pub messages : List (List ℕ)

pub played : ℕ → ℕ → Left
played w x = record { running = s.running; clock = s.clock; own = shown_own s.own; messages = map shown_message r.messages }
  where
    r : Ring
    r = (play_word nine w).ring

    s : Node
    s = r.node x

-- a record that holds nobody
pub own_cleared : List (List ℕ)
own_cleared = [] ∷ [] ∷ tabulate 9 (λ z. 0) ∷ tabulate 9 (λ z. 64) ∷ []

-- two nodes, at key 10 and at another
pub beside : ℕ → Table
beside k = record { sides = record { ahead = 1; behind = 1 }; keys = 10 ∷ k ∷ [] }

-- the rows by name
pub record Steps : Type 0 where
  -- "Contact y: send type 1 to y; its receiver answers type 2; on type 2, take the sender in": with commit now and no spare; one held stays as it is
  pub contacts : shown (contact table 0 9 own0 8) ≡ unchanged ((1 ∷ 0 ∷ 8 ∷ 64 ∷ 0 ∷ []) ∷ [])
  pub type_1 : gets (plain 1 8 0) ≡ unchanged ((2 ∷ 0 ∷ 8 ∷ 64 ∷ 0 ∷ []) ∷ [])
  pub type_2 : gets (plain 2 6 0)
      ≡ keeps (1 ∷ 2 ∷ 3 ∷ 4 ∷ 5 ∷ 6 ∷ 7 ∷ []) (3 ∷ 6 ∷ 8 ∷ [])
      (0 ∷ 5 ∷ 6 ∷ 7 ∷ 3 ∷ 4 ∷ 9 ∷ 2 ∷ 0 ∷ []) (64 ∷ 6 ∷ 64 ∷ 64 ∷ 3 ∷ 2 ∷ 64 ∷ 64 ∷ 64 ∷ []) []
  pub type_2_held : gets (plain 2 4 0) ≡ unchanged []
  -- "Timer 0": 3 is a candidate that is held, 8 one that is not in the leafset; those held outside the leafset are asked too
  pub timer_0 : fires 0
      ≡ keeps (1 ∷ 2 ∷ 3 ∷ 4 ∷ 5 ∷ 7 ∷ []) []
      (0 ∷ 5 ∷ 6 ∷ 7 ∷ 3 ∷ 4 ∷ 0 ∷ 2 ∷ 0 ∷ []) (64 ∷ 6 ∷ 64 ∷ 64 ∷ 3 ∷ 2 ∷ 64 ∷ 64 ∷ 64 ∷ [])
      ((5 ∷ 0 ∷ 6 ∷ 64 ∷ 0 ∷ [])
      ∷ map (λ y. 3 ∷ 0 ∷ y ∷ 64 ∷ 0 ∷ []) (1 ∷ 2 ∷ 3 ∷ 4 ∷ 5 ∷ 7 ∷ []))
  -- "On 3: answer type 4 with view = leafset of the sender in my held set; sender becomes a candidate": from 5 on, 7 and 4 clockwise, and 2
  pub type_3 : gets (plain 3 5 0)
      ≡ keeps (1 ∷ 2 ∷ 3 ∷ 4 ∷ 5 ∷ 7 ∷ []) (3 ∷ 5 ∷ 6 ∷ 8 ∷ [])
      (0 ∷ 5 ∷ 6 ∷ 7 ∷ 3 ∷ 4 ∷ 0 ∷ 2 ∷ 0 ∷ []) (64 ∷ 6 ∷ 64 ∷ 64 ∷ 3 ∷ 2 ∷ 64 ∷ 64 ∷ 64 ∷ [])
      ((4 ∷ 0 ∷ 5 ∷ 64 ∷ 0 ∷ 2 ∷ 4 ∷ 7 ∷ []) ∷ [])
  -- "On 4: the view joins the candidates.", and not the sender
  pub type_4 : gets (viewing 4 1 0 (of_bits 0b100100100))
      ≡ keeps (1 ∷ 2 ∷ 3 ∷ 4 ∷ 5 ∷ 7 ∷ []) (2 ∷ 3 ∷ 5 ∷ 6 ∷ 8 ∷ [])
      (0 ∷ 5 ∷ 6 ∷ 7 ∷ 3 ∷ 4 ∷ 0 ∷ 2 ∷ 0 ∷ []) (64 ∷ 6 ∷ 64 ∷ 64 ∷ 3 ∷ 2 ∷ 64 ∷ 64 ∷ 64 ∷ []) []
  -- "On 5: answer 6."
  pub type_5 : gets (plain 5 8 0) ≡ unchanged ((6 ∷ 0 ∷ 8 ∷ 64 ∷ 0 ∷ []) ∷ [])
  -- "On 6: take the sender in if it lies in my leafset of held plus sender": 6 does, 8 does not
  pub type_6_inside : gets (plain 6 6 0) ≡ gets (plain 2 6 0)
  pub type_6_outside : gets (plain 6 8 0) ≡ unchanged []
  -- "Timer 2: type 7 to each held stand outside my leafset of the held.", on both sides
  pub timer_2 : fires 2 ≡ unchanged (map (λ z. 7 ∷ 0 ∷ z ∷ 64 ∷ 0 ∷ []) (4 ∷ 5 ∷ 7 ∷ []))
  -- "On 7 from a: answer 8 whose subject is the member of my leafset .. nearest to a": 5, which is held outside, would be nearer to 7
  pub type_7 : gets (plain 7 7 0) ≡ unchanged ((8 ∷ 0 ∷ 7 ∷ 2 ∷ 0 ∷ []) ∷ [])
  -- "On 8: if the sender is held, its spare becomes the subject.", a node or 64
  pub type_8 : gets (naming 8 4 0 6)
      ≡ keeps (1 ∷ 2 ∷ 3 ∷ 4 ∷ 5 ∷ 7 ∷ []) (3 ∷ 6 ∷ 8 ∷ [])
      (0 ∷ 5 ∷ 6 ∷ 7 ∷ 3 ∷ 4 ∷ 0 ∷ 2 ∷ 0 ∷ []) (64 ∷ 6 ∷ 64 ∷ 64 ∷ 6 ∷ 2 ∷ 64 ∷ 64 ∷ 64 ∷ []) []
  pub type_8_none : gets (naming 8 4 0 64)
      ≡ keeps (1 ∷ 2 ∷ 3 ∷ 4 ∷ 5 ∷ 7 ∷ []) (3 ∷ 6 ∷ 8 ∷ [])
      (0 ∷ 5 ∷ 6 ∷ 7 ∷ 3 ∷ 4 ∷ 0 ∷ 2 ∷ 0 ∷ []) (64 ∷ 6 ∷ 64 ∷ 64 ∷ 64 ∷ 2 ∷ 64 ∷ 64 ∷ 64 ∷ []) []
  pub type_8_not_held : gets (naming 8 6 0 1) ≡ unchanged []
  -- "Timer 3: for each held z outside my leafset with a spare, type 9 to the spare, subject z, stamp now.": not for 1, inside, nor for 7, without
  pub timer_3 : fires 3 ≡ unchanged ((9 ∷ 0 ∷ 3 ∷ 4 ∷ 9 ∷ []) ∷ (9 ∷ 0 ∷ 2 ∷ 5 ∷ 9 ∷ []) ∷ [])
  -- "On 9: if z is held, its commit becomes now and I answer 10 with the same subject and stamp."
  pub type_9 : gets (stamped 9 2 0 4 7)
      ≡ keeps (1 ∷ 2 ∷ 3 ∷ 4 ∷ 5 ∷ 7 ∷ []) (3 ∷ 6 ∷ 8 ∷ [])
      (0 ∷ 5 ∷ 6 ∷ 7 ∷ 9 ∷ 4 ∷ 0 ∷ 2 ∷ 0 ∷ []) (64 ∷ 6 ∷ 64 ∷ 64 ∷ 3 ∷ 2 ∷ 64 ∷ 64 ∷ 64 ∷ [])
      ((10 ∷ 0 ∷ 2 ∷ 4 ∷ 7 ∷ []) ∷ [])
  pub type_9_not_held : gets (stamped 9 2 0 6 7) ≡ unchanged []
  -- "On 10 from y: if z is held, outside my leafset, and its spare is y": 4 goes for 3; 1 lies inside; 2 is not the spare of 4; 6 is not held
  pub type_10 : gets (stamped 10 3 0 4 8)
      ≡ keeps (1 ∷ 2 ∷ 3 ∷ 5 ∷ 7 ∷ []) (3 ∷ 6 ∷ 8 ∷ [])
      (0 ∷ 5 ∷ 6 ∷ 9 ∷ 0 ∷ 4 ∷ 0 ∷ 2 ∷ 0 ∷ []) (64 ∷ 6 ∷ 64 ∷ 64 ∷ 64 ∷ 2 ∷ 64 ∷ 64 ∷ 64 ∷ []) []
  pub type_10_inside : gets (stamped 10 6 0 1 8) ≡ unchanged []
  pub type_10_other_spare : gets (stamped 10 2 0 4 8) ≡ unchanged []
  pub type_10_not_held : gets (stamped 10 3 0 6 8) ≡ unchanged []
  -- "Timer 4: if it passes zero, type 11, subject myself, to the successor.": node 0 does not; node 8 holds 5 behind it and 4 and 0 ahead
  pub timer_4 : fires 4 ≡ unchanged []
  pub timer_4_passes : (shown (timer table 8 3 own8 4)).sent ≡ (11 ∷ 8 ∷ 4 ∷ 8 ∷ 0 ∷ []) ∷ []
  -- "On 11, subject o: nothing if o is me or I hold nobody; if my successor passes zero, o becomes a candidate and I send type 12 to o; else
  -- type 11, subject o, to my successor."
  pub type_11_mine : gets (naming 11 8 0 0) ≡ unchanged []
  pub type_11_alone : gets4 (naming 11 8 4 5) ≡ record { own = own_cleared; sent = [] }
  pub type_11_passes : gets8 (naming 11 0 8 5)
      ≡ keeps (0 ∷ 4 ∷ 5 ∷ []) (5 ∷ [])
      (1 ∷ 0 ∷ 0 ∷ 0 ∷ 2 ∷ 1 ∷ 0 ∷ 0 ∷ 0 ∷ []) (64 ∷ 64 ∷ 64 ∷ 64 ∷ 64 ∷ 64 ∷ 64 ∷ 64 ∷ 64 ∷ [])
      ((12 ∷ 8 ∷ 5 ∷ 64 ∷ 0 ∷ []) ∷ [])
  pub type_11_onward : gets (naming 11 8 0 7) ≡ unchanged ((11 ∷ 0 ∷ 1 ∷ 7 ∷ 0 ∷ []) ∷ [])
  -- "On 12: the sender becomes a candidate."
  pub type_12 : gets (plain 12 5 0)
      ≡ keeps (1 ∷ 2 ∷ 3 ∷ 4 ∷ 5 ∷ 7 ∷ []) (3 ∷ 5 ∷ 6 ∷ 8 ∷ [])
      (0 ∷ 5 ∷ 6 ∷ 7 ∷ 3 ∷ 4 ∷ 0 ∷ 2 ∷ 0 ∷ []) (64 ∷ 6 ∷ 64 ∷ 64 ∷ 3 ∷ 2 ∷ 64 ∷ 64 ∷ 64 ∷ []) []
  -- "The receiver of type 13 lets go of the sender and strikes it from the candidates."
  pub type_13 : gets (plain 13 3 0)
      ≡ keeps (1 ∷ 2 ∷ 4 ∷ 5 ∷ 7 ∷ []) (6 ∷ 8 ∷ [])
      (0 ∷ 5 ∷ 6 ∷ 0 ∷ 3 ∷ 4 ∷ 0 ∷ 2 ∷ 0 ∷ []) (64 ∷ 6 ∷ 64 ∷ 64 ∷ 3 ∷ 2 ∷ 64 ∷ 64 ∷ 64 ∷ []) []
  -- "a stand's successor is its held stand nearest clockwise", round the ring
  pub successors : successor table 0 own0.held ∷ successor table 8 own8.held ∷ successor (beside 0) 0 (of_bits 0b10) ∷ [] ≡ 1 ∷ 4 ∷ 1 ∷ []
  -- "it passes zero when the stand's clockwise distance to key 0 is below that to the successor": where the successor is at key 1, not where it
  -- is at key 0, and where the node itself is; "one that holds nobody doesn't pass zero"
  pub passes :
      passes_zero (beside 1) 0 (of_bits 0b10) ∷ passes_zero (beside 0) 0 (of_bits 0b10)
      ∷ passes_zero (beside 0) 1 (of_bits 0b01) ∷ passes_zero (beside 0) 1 (of_bits 0) ∷ []
      ≡ true ∷ false ∷ true ∷ false ∷ []
  -- "Every accepted event at a stand .. first adds 1 to its clock": at 8 a notice of 5, which is let go of, a contact of 1 and timer 4
  pub notice_played : played 0xB0000148 8
      ≡ record {
        running = true;
        clock = 3;
        own = (0 ∷ 4 ∷ [])
            ∷ []
            ∷ (1 ∷ 0 ∷ 0 ∷ 0 ∷ 2 ∷ 0 ∷ 0 ∷ 0 ∷ 0 ∷ [])
            ∷ (64 ∷ 64 ∷ 64 ∷ 64 ∷ 64 ∷ 64 ∷ 64 ∷ 64 ∷ 64 ∷ [])
            ∷ [];
        messages = of_six (0 ∷ 1 ∷ 2 ∷ 3 ∷ 4 ∷ 5 ∷ []);
      }
  pub contact_played : played 0xC0000048 8
      ≡ record {
        running = true;
        clock = 3;
        own = own8_before;
        messages = of_six (0 ∷ 1 ∷ 2 ∷ 3 ∷ 4 ∷ 5 ∷ []) ++ (1 ∷ 8 ∷ 1 ∷ 64 ∷ 0 ∷ []) ∷ [];
      }
  pub timer_played : played 0xD0004008 8
      ≡ record {
        running = true;
        clock = 3;
        own = own8_before;
        messages = of_six (0 ∷ 1 ∷ 2 ∷ 3 ∷ 4 ∷ 5 ∷ []) ++ (11 ∷ 8 ∷ 4 ∷ 8 ∷ 0 ∷ []) ∷ [];
      }
  -- "the new value is "now"": the stamp of timer 3's messages
  pub now_played : (played 0xD0003000 0).messages
      ≡ of_six (0 ∷ 1 ∷ 2 ∷ 3 ∷ 4 ∷ 5 ∷ []) ++ (9 ∷ 0 ∷ 3 ∷ 4 ∷ 9 ∷ []) ∷ (9 ∷ 0 ∷ 2 ∷ 5 ∷ 9 ∷ []) ∷ []
  -- "On sets the running mark.", and adds 1 to the clock
  pub on_played : played 0x90000002 2
      ≡ record { running = true; clock = 8; own = own_cleared; messages = of_six (0 ∷ 1 ∷ 2 ∷ 3 ∷ 4 ∷ 5 ∷ []) }
  -- "Off clears the mark, its held set, candidates, stamps and spares but keeps its clock. Messages travel on when either end goes off."
  pub off_played : played 0xA0000008 8
      ≡ record { running = false; clock = 2; own = own_cleared; messages = of_six (0 ∷ 1 ∷ 2 ∷ 3 ∷ 4 ∷ 5 ∷ []) }
  -- "first sends type 13 to each held stand, rising", also outside the leafset; "New messages go to the end"
  pub polite_played : played 0xA0001000 0
      ≡ record {
        running = false;
        clock = 8;
        own = own_cleared;
        messages = of_six (0 ∷ 1 ∷ 2 ∷ 3 ∷ 4 ∷ 5 ∷ []) ++ map (λ y. 13 ∷ 0 ∷ y ∷ 64 ∷ 0 ∷ []) (1 ∷ 2 ∷ 3 ∷ 4 ∷ 5 ∷ 7 ∷ []);
      }
  pub polite_played_8 : (played 0xA0001008 8).messages
      ≡ of_six (0 ∷ 1 ∷ 2 ∷ 3 ∷ 4 ∷ 5 ∷ []) ++ map (λ y. 13 ∷ 8 ∷ y ∷ 64 ∷ 0 ∷ []) (0 ∷ 4 ∷ 5 ∷ [])
  -- "Delivery takes the message out first"; the answer goes to the end
  pub delivery_played : played 0xE0000002 0
      ≡ record {
        running = true;
        clock = 9;
        own = (1 ∷ 2 ∷ 3 ∷ 4 ∷ 5 ∷ 7 ∷ [])
            ∷ (3 ∷ 6 ∷ 8 ∷ [])
            ∷ (0 ∷ 5 ∷ 6 ∷ 7 ∷ 3 ∷ 9 ∷ 0 ∷ 2 ∷ 0 ∷ [])
            ∷ (64 ∷ 6 ∷ 64 ∷ 64 ∷ 3 ∷ 2 ∷ 64 ∷ 64 ∷ 64 ∷ [])
            ∷ [];
        messages = of_six (0 ∷ 1 ∷ 3 ∷ 4 ∷ 5 ∷ []) ++ (10 ∷ 0 ∷ 8 ∷ 5 ∷ 2 ∷ []) ∷ [];
      }
  -- "to a stand that is off, nothing else happens"
  pub delivery_off : played 0xE0000001 3
      ≡ record { running = false; clock = 16777215; own = own_cleared; messages = of_six (0 ∷ 2 ∷ 3 ∷ 4 ∷ 5 ∷ []) }
  -- "Lose only takes it out.": nobody's clock rises
  pub lose_played : played 0xF0000001 0
      ≡ record { running = true; clock = 8; own = own_before; messages = of_six (0 ∷ 2 ∷ 3 ∷ 4 ∷ 5 ∷ []) }

pub steps : Steps
unfolding computed table own0 own8 nodes nine shown_own shown_message shown fires gets gets8 gets4 keeps own_before unchanged played of_six
    own_cleared own8_before beside
steps =
    record {
      contacts = refl;
      type_1 = refl;
      type_2 = refl;
      type_2_held = refl;
      timer_0 = refl;
      type_3 = refl;
      type_4 = refl;
      type_5 = refl;
      type_6_inside = refl;
      type_6_outside = refl;
      timer_2 = refl;
      type_7 = refl;
      type_8 = refl;
      type_8_none = refl;
      type_8_not_held = refl;
      timer_3 = refl;
      type_9 = refl;
      type_9_not_held = refl;
      type_10 = refl;
      type_10_inside = refl;
      type_10_other_spare = refl;
      type_10_not_held = refl;
      timer_4 = refl;
      timer_4_passes = refl;
      type_11_mine = refl;
      type_11_alone = refl;
      type_11_passes = refl;
      type_11_onward = refl;
      type_12 = refl;
      type_13 = refl;
      successors = refl;
      passes = refl;
      notice_played = refl;
      contact_played = refl;
      timer_played = refl;
      now_played = refl;
      on_played = refl;
      off_played = refl;
      polite_played = refl;
      polite_played_8 = refl;
      delivery_played = refl;
      delivery_off = refl;
      lose_played = refl;
    }
