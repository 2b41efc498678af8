-- Hearing silence: document 02's note 13. A listener stands beside the ring and needs nothing of it.
use Rattle.std.specs.Prelude.{ℕ, suc, ◌<◌, ◌≡◌, Bool, true, false, not, ◌&&◌, List, [], ◌∷◌, get_or, take, replicate, ltb, eqb, if◌then◌else◌}
use Rattle.model.specs.Sets.{Set, empty, with, put, some, count, to_bits, of_bits, tabulate}
use Rattle.model.specs.Answers.{Refusal, first_of, is_accepted}
use Rattle.model.specs.declared.listener.ListenerRecord.{ListenerRecord}

-- "a listener record of watched stands, silences and windows"
pub record Listener : Type 0 where
  pub watched : Set
  pub silence : ℕ → ℕ
  pub window : ℕ → ℕ

-- "from an empty record"
abbrev pub empty_listener : Listener
empty_listener = record { watched = empty; silence = λ s. 0; window = λ s. 0 }

-- ---- what the calls do

-- "grows by 1, up to 255"
abbrev pub grown : ℕ → ℕ
grown w = if ltb w 255 then suc w else w

module _ (l : Listener) where
  -- these are watched, and s has silence 0 and window w
  abbrev pub restarted : Set → ℕ → ℕ → Listener
  restarted watched s w = record { watched = watched; silence = put l.silence s 0; window = put l.window s w }

  -- "A watched stand starts with silence 0 and window 4. Watching it again changes nothing."
  abbrev pub with_watched : ℕ → Listener
  with_watched s = if l.watched s then l else restarted (with l.watched s) s 4

  -- the watched nodes whose silence "is below its window"
  abbrev pub awaited : Set
  awaited s = l.watched s && ltb (l.silence s) (l.window s)

  -- "A tick adds 1 to each silence that is below its window"
  abbrev pub ticked : Listener
  ticked =
      record {
        watched = l.watched;
        silence = λ s. if awaited s then suc (l.silence s) else l.silence s;
        window = l.window;
      }

  -- "and gives a notice for each that thereby reaches it"
  abbrev pub overdue : Set
  overdue s = awaited s && eqb (suc (l.silence s)) (l.window s)

  -- "its silence had reached its window"
  abbrev pub silent : Set
  silent s = not (ltb (l.silence s) (l.window s))

  -- "Hearing a watched stand sets its silence to 0. If it had been noticed .. the window also grows by 1, up to 255."
  abbrev pub heard : ℕ → Listener
  heard s = restarted l.watched s (if silent s then grown (l.window s) else l.window s)

-- ---- the calls

-- "A stand number above 63 is refused with 7, tried first."
abbrev pub watch_refusals : ℕ → List Refusal
watch_refusals s = record { number = 7; applies = ltb 63 s } ∷ []

-- "18, the stand heard isn't watched"
abbrev pub hear_refusals : Listener → ℕ → List Refusal
hear_refusals l s = record { number = 7; applies = ltb 63 s } ∷ record { number = 18; applies = not (l.watched s) } ∷ []

unfoldable pub watch_answer : ℕ → ℕ
watch_answer s = first_of (watch_refusals s)

unfoldable pub hear_answer : Listener → ℕ → ℕ
hear_answer l s = first_of (hear_refusals l s)

pub data Call : Type 0 where
  Watch : ℕ → Call
  Tick : Call
  Hear : ℕ → Call

-- "A refused call gives no notice and leaves the record."
abbrev pub answer_of : Listener → Call → ℕ
answer_of l (Watch s) = watch_answer s
answer_of l Tick = 0
answer_of l (Hear s) = hear_answer l s

abbrev pub notices_of : Listener → Call → Set
notices_of l (Watch s) = empty
notices_of l Tick = overdue l
notices_of l (Hear s) = empty

abbrev pub leaves : Listener → Call → Listener
leaves l (Watch s) = if is_accepted (watch_answer s) then with_watched l s else l
leaves l Tick = ticked l
leaves l (Hear s) = if is_accepted (hear_answer l s) then heard l s else l

-- ---- the record by value: what each call means on it

abbrev pub listener_of : ListenerRecord → Listener
listener_of q = record { watched = of_bits q.watched; silence = λ s. get_or q.silences s 0; window = λ s. get_or q.windows s 0 }

-- "64 bits, bit s for stand s", and 64 numbers each
abbrev pub record_of : Listener → ListenerRecord
record_of l = record { watched = to_bits 64 l.watched; silences = tabulate 64 l.silence; windows = tabulate 64 l.window }

abbrev pub empty_record : ListenerRecord
empty_record = record { watched = 0; silences = replicate 64 0; windows = replicate 64 0 }

abbrev pub leaves_record : ListenerRecord → Call → ListenerRecord
leaves_record q c = record_of (leaves (listener_of q) c)

-- ---- lists of calls

unfoldable pub after_record : ListenerRecord → List Call → ListenerRecord
after_record q [] = q
after_record q (c ∷ cs) = after_record (leaves_record q c) cs

unfoldable pub after : Listener → List Call → Listener
after l [] = l
after l (c ∷ cs) = after (leaves l c) cs

-- beyond the end of a list: a call that is refused, and so does nothing
abbrev pub no_call : Call
no_call = Watch 64

abbrev pub is_tick : Call → Bool
is_tick (Watch s) = false
is_tick Tick = true
is_tick (Hear s) = false

abbrev pub watches : ℕ → Call → Bool
watches s (Watch x) = eqb x s
watches s Tick = false
watches s (Hear x) = false

abbrev pub hears : ℕ → Call → Bool
hears s (Watch x) = false
hears s Tick = false
hears s (Hear x) = eqb x s

-- In a list, calls are told by their positions, from 0.
module _ (cs : List Call) where
  abbrev pub call_at : ℕ → Call
  call_at k = get_or cs k no_call

  -- the record that call k meets, from an empty one
  unfoldable pub met : ℕ → Listener
  met k = after empty_listener (take k cs)

  abbrev pub tick_at : ℕ → Bool
  tick_at k = is_tick (call_at k)

  -- how many ticks there are after call i and before call k
  unfoldable pub ticks_between : ℕ → ℕ → ℕ
  ticks_between i k = count k (λ j. ltb i j && tick_at j)

  module _ (s : ℕ) where
    -- call k gives a notice for s
    unfoldable pub notice_at : ℕ → Bool
    notice_at k = notices_of (met k) (call_at k) s

    -- a call before call k watches s
    unfoldable pub watched_before : ℕ → Bool
    watched_before k = ltb s 64 && some k (λ j. watches s (call_at j))

    -- call k hears s: the first watching is "counted as a hearing", watching again and a refused hearing are not
    unfoldable pub hearing_at : ℕ → Bool
    hearing_at k =
        if watched_before k
        then hears s (call_at k)
        else ltb s 64 && watches s (call_at k)

    -- no call after call i and before call k hears s
    abbrev pub Unheard : ℕ → ℕ → Type 0
    Unheard i k = (j : ℕ) → i < j → j < k → hearing_at j ≡ false

    -- how many notices for s there are after call i and before call k
    unfoldable pub notices_between : ℕ → ℕ → ℕ
    notices_between i k = count k (λ j. ltb i j && notice_at j)

    -- s was noticed before call k, and not heard since
    unfoldable pub noticed_before : ℕ → Bool
    noticed_before k = some k (λ i. notice_at i && not (some k (λ j. ltb i j && hearing_at j)))
