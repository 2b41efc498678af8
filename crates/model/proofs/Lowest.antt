-- "The lowest number that applies is given, and none otherwise", at each call.
use mathlib.Core.Path.{◌≡◌, refl}
use mathlib.Core.Bool.{true}
use mathlib.Core.List.{List}
use Prim.Native.Nat.{ℕ}
use Rattle.model.specs.Leafset.{Table}
use Rattle.model.specs.Ring.{Ring}
use Rattle.model.specs.Words.{decode}
use Rattle.model.specs.Events.{event_of, event_refusals, event_answer, word_refusals, word_answer}
use Rattle.model.specs.Play.{state_refusals}
use Rattle.model.specs.Buffer.{ring_refusals, ring_answer, open_refusals, open_answer, play_refusals, buffer_answer}
use Rattle.model.specs.Questions.{leafset_refusals, leafset_answer, connection_refusals, connection_answer}
use Rattle.model.specs.Route.{route_refusals, route_answer}
use Rattle.model.specs.Reach.{reach_refusals, reach_answer}
use Rattle.model.specs.Preview.{preview_refusals, preview_answer}
use Rattle.model.specs.Short.{shorten_refusals, shorten_answer, lengthen_refusals, lengthen_answer}
use Rattle.model.specs.Join.{join_refusals, join_answer}
use Rattle.model.specs.Listener.{Listener, watch_refusals, watch_answer, hear_refusals, hear_answer}
use Rattle.model.specs.Bench.{script_refusals, script_answer}
use Rattle.model.specs.declared.event.Event.{Event}
use Rattle.model.specs.declared.event.Event.TheVariants.{On, Off, Notice, Contact, Timer, Deliver, Lose}
use Rattle.model.proofs.Answers.{rising_from, LowestOf, lowest_given}

pub lowest_at_writing : (e : Event) → LowestOf (event_refusals e) (event_answer e)
unfolding event_answer
lowest_at_writing e = lowest_given 0 (event_refusals e) refl

pub lowest_at_reading : (w : ℕ) → LowestOf (word_refusals w) (word_answer w)
unfolding word_answer
lowest_at_reading w = lowest_given 0 (word_refusals w) refl

pub lowest_at_opening : (ws : List ℕ) (t : Table) → LowestOf (open_refusals ws t) (open_answer ws t)
unfolding open_answer
lowest_at_opening ws t = lowest_given 0 (open_refusals ws t) refl

-- the refusals of each event rise from 7 on
rising_state : (r : Ring) (e : Event) → rising_from 6 (state_refusals r e) ≡ true
rising_state r (On x) = refl
rising_state r (Off x polite) = refl
rising_state r (Notice x z) = refl
rising_state r (Contact x y) = refl
rising_state r (Timer x k) = refl
rising_state r (Deliver i echo) = refl
rising_state r (Lose i) = refl

pub lowest_at_playing : (ws : List ℕ) (w : ℕ) → LowestOf (play_refusals ws w) (buffer_answer ws w)
unfolding buffer_answer
lowest_at_playing ws w = lowest_given 0 (play_refusals ws w) (rising_state (decode ws) (event_of w))

pub lowest_at_previewing : (ws : List ℕ) (w : ℕ) (second : List ℕ) → LowestOf (preview_refusals ws w second) (preview_answer ws w second)
unfolding preview_answer
lowest_at_previewing ws w second = lowest_given 0 (preview_refusals ws w second) (rising_state (decode ws) (event_of w))

pub lowest_at_leafset : (ws : List ℕ) (x : ℕ) → LowestOf (leafset_refusals ws x) (leafset_answer ws x)
unfolding leafset_answer
lowest_at_leafset ws x = lowest_given 0 (leafset_refusals ws x) refl

pub lowest_at_connection : (ws : List ℕ) (a b : ℕ) → LowestOf (connection_refusals ws a b) (connection_answer ws a b)
unfolding connection_answer
lowest_at_connection ws a b = lowest_given 0 (connection_refusals ws a b) refl

pub lowest_at_ring : (ws : List ℕ) → LowestOf (ring_refusals ws) (ring_answer ws)
unfolding ring_answer
lowest_at_ring ws = lowest_given 0 (ring_refusals ws) refl

pub lowest_at_routing : (ws : List ℕ) (start key : ℕ) (list : List ℕ) → LowestOf (route_refusals ws start key list) (route_answer ws start key list)
unfolding route_answer
lowest_at_routing ws start key list = lowest_given 0 (route_refusals ws start key list) refl

pub lowest_at_reaching : (ws : List ℕ) (start key : ℕ) → LowestOf (reach_refusals ws start key) (reach_answer ws start key)
unfolding reach_answer
lowest_at_reaching ws start key = lowest_given 0 (reach_refusals ws start key) refl

pub lowest_at_joining : (first second third : List ℕ) → LowestOf (join_refusals first second third) (join_answer first second third)
unfolding join_answer
lowest_at_joining first second third = lowest_given 0 (join_refusals first second third) refl

pub lowest_at_script : (ws : List ℕ) → LowestOf (script_refusals ws) (script_answer ws)
unfolding script_answer
lowest_at_script ws = lowest_given 0 (script_refusals ws) refl

pub lowest_at_watching : (s : ℕ) → LowestOf (watch_refusals s) (watch_answer s)
unfolding watch_answer
lowest_at_watching s = lowest_given 0 (watch_refusals s) refl

pub lowest_at_hearing : (l : Listener) (s : ℕ) → LowestOf (hear_refusals l s) (hear_answer l s)
unfolding hear_answer
lowest_at_hearing l s = lowest_given 0 (hear_refusals l s) refl

pub lowest_at_shortening : (ws place : List ℕ) → LowestOf (shorten_refusals ws place) (shorten_answer ws place)
unfolding shorten_answer
lowest_at_shortening ws place = lowest_given 0 (shorten_refusals ws place) refl

pub lowest_at_lengthening : (short ws : List ℕ) → LowestOf (lengthen_refusals short ws) (lengthen_answer short ws)
unfolding lengthen_answer
lowest_at_lengthening short ws = lowest_given 0 (lengthen_refusals short ws) refl
