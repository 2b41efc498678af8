-- What note 13 of document 02 says, by rows that are computed.
use mathlib.Core.Path.{◌≡◌, refl}
use mathlib.Core.Bool.{true, false}
use mathlib.Core.List.{List, [], ◌∷◌, ◌++◌, map}
use Prim.Native.Nat.{ℕ, suc}
use native.Mathlib.Omega.{arith}
use lib.ListN.{replicate}
use Rattle.std.specs.Prelude.{if◌then◌else◌}
use Rattle.model.specs.Sets.{some, count, members, to_bits, tabulate_from}
use Rattle.model.specs.Answers.{number_of, first_of}
use Rattle.model.specs.Listener.{Listener, empty_listener, watch_answer, hear_refusals, hear_answer, Call, Watch, Tick, Hear, answer_of, notices_of, leaves}
use Rattle.model.specs.Listener.{listener_of, record_of, empty_record, after_record, after, met, tick_at, ticks_between, notice_at, watched_before, hearing_at}
use Rattle.model.specs.Listener.{Unheard, notices_between, noticed_before}
use Rattle.model.specs.declared.refusal.Refusal.TheVariants.{OutOfTable, NotWatched}

-- what a record says of node s: whether it is watched, its silence and its window
pub said : ℕ → Listener → List ℕ
said s l = (if l.watched s then 1 else 0) ∷ l.silence s ∷ l.window s ∷ []

-- after these calls, from an empty record
pub left : List Call → Listener
left cs = after empty_listener cs

-- the notices of each call of a list, as bits, and the answers
pub noticed : Listener → List Call → List ℕ
noticed l [] = []
noticed l (c ∷ cs) = to_bits 64 (notices_of l c) ∷ noticed (leaves l c) cs

pub answered : Listener → List Call → List ℕ
answered l [] = []
answered l (c ∷ cs) = answer_of l c ∷ answered (leaves l c) cs

-- a record by hand, of the first nodes
pub by_hand : ℕ → List ℕ → List ℕ → Listener
by_hand watched silences windows = listener_of (record { watched = watched; silences = silences; windows = windows })

pub ticks : ℕ → List Call
ticks k = replicate k Tick

-- node 0 is heard in vain, watched, watched again, heard, silent for five ticks, and heard; other nodes are named between
pub calls : List Call
calls =
    Hear 0 ∷ Watch 64 ∷ Watch 0 ∷ Tick ∷ Watch 0 ∷ Hear 64 ∷ Hear 1 ∷ Hear 0 ∷ Tick ∷ Watch 1 ∷ Tick ∷ Tick ∷ Tick ∷ Tick ∷ Hear 0 ∷ []

pub record ListenerRows : Type 0 where
  -- "A watched stand starts with silence 0 and window 4.", whatever an unwatched one had
  pub starts : said 3 (left (Watch 3 ∷ [])) ≡ 1 ∷ 0 ∷ 4 ∷ []
  pub starts_alone : record_of (left (Watch 63 ∷ [])) ≡ record { watched = 0x8000000000000000; silences = replicate 64 0; windows = replicate 63 0 ++ 4 ∷ [] }
  pub starts_by_hand : said 1 (leaves (by_hand 0b01 (9 ∷ 9 ∷ []) (7 ∷ 7 ∷ [])) (Watch 1)) ≡ 1 ∷ 0 ∷ 4 ∷ []
  -- "Watching it again changes nothing."
  pub again_silent : said 3 (left (Watch 3 ∷ Tick ∷ Tick ∷ Watch 3 ∷ [])) ≡ 1 ∷ 2 ∷ 4 ∷ []
  pub again_grown : said 3 (left (Watch 3 ∷ ticks 4 ++ (Hear 3 ∷ Tick ∷ Watch 3 ∷ []))) ≡ 1 ∷ 1 ∷ 5 ∷ []
  -- "A tick adds 1 to each silence that is below its window": of watched nodes, and node 2 is none; node 3 has reached its window
  pub tick_adds :
      record_of (leaves (by_hand 0b1011 (0 ∷ 3 ∷ 1 ∷ 9 ∷ []) (4 ∷ 4 ∷ 3 ∷ 9 ∷ [])) Tick)
      ≡ record { watched = 0b1011; silences = 1 ∷ 4 ∷ 1 ∷ 9 ∷ replicate 60 0; windows = 4 ∷ 4 ∷ 3 ∷ 9 ∷ replicate 60 0 }
  -- "and gives a notice for each that thereby reaches it: 64 bits, bit s for stand s": on the fourth tick, and not again
  pub fourth_tick : noticed empty_listener (Watch 3 ∷ ticks 6) ≡ 0 ∷ 0 ∷ 0 ∷ 0 ∷ 8 ∷ 0 ∷ 0 ∷ []
  pub two_at_once : noticed (left (Watch 0 ∷ Watch 63 ∷ ticks 3)) (Tick ∷ Tick ∷ []) ≡ 0x8000000000000001 ∷ 0 ∷ []
  pub one_of_two : noticed (left (Watch 0 ∷ Tick ∷ Watch 63 ∷ ticks 2)) (Tick ∷ Tick ∷ []) ≡ 1 ∷ 0x8000000000000000 ∷ []
  pub none_unwatched : noticed (by_hand 0b01 (1 ∷ 1 ∷ []) (2 ∷ 2 ∷ [])) (Tick ∷ []) ≡ 1 ∷ []
  -- "Hearing a watched stand sets its silence to 0."
  pub heard_before : said 3 (left (Watch 3 ∷ ticks 3 ++ (Hear 3 ∷ []))) ≡ 1 ∷ 0 ∷ 4 ∷ []
  pub heard_other : said 3 (left (Watch 3 ∷ Watch 4 ∷ ticks 3 ++ (Hear 4 ∷ []))) ≡ 1 ∷ 3 ∷ 4 ∷ []
  -- "If it had been noticed .. the window also grows by 1": then the fifth tick is the one
  pub heard_after : said 3 (left (Watch 3 ∷ ticks 4 ++ (Hear 3 ∷ []))) ≡ 1 ∷ 0 ∷ 5 ∷ []
  pub heard_twice : said 3 (left (Watch 3 ∷ ticks 4 ++ (Hear 3 ∷ Hear 3 ∷ []))) ≡ 1 ∷ 0 ∷ 5 ∷ []
  pub fifth_tick : noticed (left (Watch 3 ∷ ticks 5 ++ (Hear 3 ∷ []))) (ticks 6) ≡ 0 ∷ 0 ∷ 0 ∷ 0 ∷ 8 ∷ 0 ∷ []
  -- "up to 255"
  pub grows_to_255 : said 0 (leaves (by_hand 1 (254 ∷ []) (254 ∷ [])) (Hear 0)) ≡ 1 ∷ 0 ∷ 255 ∷ []
  pub stays_255 : said 0 (leaves (by_hand 1 (255 ∷ []) (255 ∷ [])) (Hear 0)) ≡ 1 ∷ 0 ∷ 255 ∷ []
  pub last_tick : noticed (by_hand 1 (253 ∷ []) (255 ∷ [])) (ticks 3) ≡ 0 ∷ 1 ∷ 0 ∷ []
  -- "its silence had reached its window": at least the window, in a record that no list of calls gives
  pub above_tick : said 0 (leaves (by_hand 1 (9 ∷ []) (5 ∷ [])) Tick) ≡ 1 ∷ 9 ∷ 5 ∷ []
  pub above_quiet : noticed (by_hand 0b111 (9 ∷ 5 ∷ 0 ∷ []) (5 ∷ 5 ∷ 0 ∷ [])) (ticks 2) ≡ 0 ∷ 0 ∷ []
  pub above_heard : said 0 (leaves (by_hand 1 (9 ∷ []) (5 ∷ [])) (Hear 0)) ≡ 1 ∷ 0 ∷ 6 ∷ []
  pub no_window : said 0 (leaves (by_hand 1 (0 ∷ []) (0 ∷ [])) Tick) ≡ 1 ∷ 0 ∷ 0 ∷ []
  pub no_window_heard : said 0 (leaves (by_hand 1 (0 ∷ []) (0 ∷ [])) (Hear 0)) ≡ 1 ∷ 0 ∷ 1 ∷ []
  -- "A stand number above 63 is refused with 7, tried first."; "18, the stand heard isn't watched"
  pub numbers : map number_of (OutOfTable ∷ NotWatched ∷ []) ≡ 7 ∷ 18 ∷ []
  pub watch_answers : map watch_answer (0 ∷ 63 ∷ 64 ∷ 255 ∷ []) ≡ 0 ∷ 0 ∷ 7 ∷ 7 ∷ []
  pub hear_answers : map (hear_answer (left (Watch 2 ∷ Watch 63 ∷ []))) (2 ∷ 63 ∷ 0 ∷ 62 ∷ 64 ∷ 255 ∷ []) ≡ 0 ∷ 0 ∷ 18 ∷ 18 ∷ 7 ∷ 7 ∷ []
  pub in_order : (l : Listener) (s : ℕ) → map (λ q. q.number) (hear_refusals l s) ≡ 7 ∷ 18 ∷ []
  pub any_listener : (l : Listener) → answered l (Watch 64 ∷ Hear 64 ∷ Tick ∷ []) ≡ 7 ∷ 7 ∷ 0 ∷ []
  -- "A refused call gives no notice and leaves the record."
  pub refused_leaves : (l : Listener) → after l (Watch 64 ∷ Hear 64 ∷ Hear 255 ∷ []) ≡ l
  pub unwatched_leaves : said 1 (leaves (by_hand 0b01 (2 ∷ 9 ∷ []) (4 ∷ 9 ∷ [])) (Hear 1)) ≡ 0 ∷ 9 ∷ 9 ∷ []
  pub refused_quiet : noticed (left (Watch 0 ∷ ticks 3)) (Hear 1 ∷ Hear 64 ∷ Watch 64 ∷ []) ≡ 0 ∷ 0 ∷ 0 ∷ []
  -- a hearing before the first watching is none: hear, watch, 4 ticks
  pub heard_first : noticed empty_listener (Hear 0 ∷ Watch 0 ∷ ticks 4) ≡ 0 ∷ 0 ∷ 0 ∷ 0 ∷ 0 ∷ 1 ∷ []
  pub heard_first_answers : answered empty_listener (Hear 0 ∷ Watch 0 ∷ Hear 0 ∷ Watch 0 ∷ Hear 1 ∷ []) ≡ 18 ∷ 0 ∷ 0 ∷ 0 ∷ 18 ∷ []
  -- "from an empty record"
  pub empty_record_lem : record_of empty_listener ≡ empty_record
  pub empty_says : said 63 (listener_of empty_record) ≡ 0 ∷ 0 ∷ 0 ∷ []
  pub by_value : said 3 (listener_of (after_record empty_record (Watch 3 ∷ Tick ∷ []))) ≡ 1 ∷ 1 ∷ 4 ∷ []
  -- "after each hearing, up to the next one or the list's end", "the first watching counted as a hearing"
  pub hearings : members 20 (hearing_at calls 0) ≡ 2 ∷ 7 ∷ 14 ∷ []
  pub hearings_of_others : map (λ s. members 20 (hearing_at calls s)) (1 ∷ 2 ∷ 64 ∷ []) ≡ (9 ∷ []) ∷ [] ∷ [] ∷ []
  pub unheard_next : (i : ℕ) → Unheard calls 0 i (suc i)
  pub watched_from : map (λ k. watched_before calls 0 k) (0 ∷ 2 ∷ 3 ∷ 20 ∷ []) ≡ false ∷ false ∷ true ∷ true ∷ []
  pub never_watched : map (λ s. watched_before calls s 20) (2 ∷ 64 ∷ []) ≡ false ∷ false ∷ []
  pub tick_places : members 20 (tick_at calls) ≡ 3 ∷ 8 ∷ 10 ∷ 11 ∷ 12 ∷ 13 ∷ []
  pub ticks_between_lem :
      ticks_between calls 2 7 ∷ ticks_between calls 3 9 ∷ ticks_between calls 7 13 ∷ ticks_between calls 7 14 ∷ ticks_between calls 14 20 ∷ []
      ≡ 1 ∷ 1 ∷ 4 ∷ 5 ∷ 0 ∷ []
  -- what call k meets
  pub meets_watched :
      map (λ k. said 0 (met calls k)) (2 ∷ 3 ∷ 7 ∷ 8 ∷ [])
      ≡ (0 ∷ 0 ∷ 0 ∷ []) ∷ (1 ∷ 0 ∷ 4 ∷ []) ∷ (1 ∷ 1 ∷ 4 ∷ []) ∷ (1 ∷ 0 ∷ 4 ∷ []) ∷ []
  pub meets_silent :
      map (λ k. said 0 (met calls k)) (12 ∷ 14 ∷ 15 ∷ 20 ∷ [])
      ≡ (1 ∷ 3 ∷ 4 ∷ []) ∷ (1 ∷ 4 ∷ 4 ∷ []) ∷ (1 ∷ 0 ∷ 5 ∷ []) ∷ (1 ∷ 0 ∷ 5 ∷ []) ∷ []
  -- "once per silence"; "If it had been noticed"
  pub notices : map (λ s. members 16 (notice_at calls s)) (0 ∷ 1 ∷ []) ≡ (12 ∷ []) ∷ (13 ∷ []) ∷ []
  pub notices_between_lem : notices_between calls 0 7 12 ∷ notices_between calls 0 7 14 ∷ notices_between calls 0 12 14 ∷ [] ≡ 0 ∷ 1 ∷ 0 ∷ []
  pub noticed_before_lem : members 16 (noticed_before calls 0) ≡ 13 ∷ 14 ∷ []

pub listener_rows : ListenerRows
unfolding said left noticed answered by_hand ticks calls some count members to_bits tabulate_from first_of watch_answer hear_answer after_record after met
    ticks_between notice_at watched_before hearing_at notices_between noticed_before
listener_rows =
    record {
      starts = refl;
      starts_alone = refl;
      starts_by_hand = refl;
      again_silent = refl;
      again_grown = refl;
      tick_adds = refl;
      fourth_tick = refl;
      two_at_once = refl;
      one_of_two = refl;
      none_unwatched = refl;
      heard_before = refl;
      heard_other = refl;
      heard_after = refl;
      heard_twice = refl;
      fifth_tick = refl;
      grows_to_255 = refl;
      stays_255 = refl;
      last_tick = refl;
      above_tick = refl;
      above_quiet = refl;
      above_heard = refl;
      no_window = refl;
      no_window_heard = refl;
      numbers = refl;
      watch_answers = refl;
      hear_answers = refl;
      in_order = λ l s. refl;
      any_listener = λ l. refl;
      refused_leaves = λ l. refl;
      unwatched_leaves = refl;
      refused_quiet = refl;
      heard_first = refl;
      heard_first_answers = refl;
      empty_record_lem = refl;
      empty_says = refl;
      by_value = refl;
      hearings = refl;
      hearings_of_others = refl;
      unheard_next = λ i j a b. absurd (omega arith);
      watched_from = refl;
      never_watched = refl;
      tick_places = refl;
      ticks_between_lem = refl;
      meets_watched = refl;
      meets_silent = refl;
      notices = refl;
      notices_between_lem = refl;
      noticed_before_lem = refl;
    }
