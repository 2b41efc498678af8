-- A listener's record, with its 64 places, against the listener that it stands for.
use mathlib.Core.Path.{◌≡◌, refl, sym, ap, ◌∙◌}
use mathlib.Core.Bool.{Bool, true, false, ◌&&◌}
use mathlib.Core.List.{List}
use Prim.Native.Nat.{ℕ, suc, ◌+◌, ◌*◌, ◌%◌, ◌^◌, ◌≤◌, ◌<◌}
use native.Mathlib.Nat.{le_trans, pow-le-pow_right}
use native.Mathlib.Numerals.{add-one}
use native.Mathlib.Omega.{arith}
use native.Mathlib.Decide.{ℕ_discrete}
use lib.ListN.{length, get_or, set, length-set}
use lib.Seq.{get_or-set_same, get_or-set_other}
use lib.Dec.{ltb, eqb, lit<}
use mir.Val.{bool_byte}
use borrow.Author.Tests.{lt-ltb, le-ltb}
use Rattle.std.specs.Prelude.{if◌then◌else◌}
use Rattle.model.specs.Sets.{Set, with, put, tabulate, to_bits, of_bits}
use Rattle.model.specs.Listener.{Watch, Tick, Hear, grown, restarted, ticked, silent, notices_of, watch_answer, hear_answer, listener_of, record_of}
use Rattle.model.specs.Listener.{leaves_record}
use Rattle.model.specs.Answers.{first_of}
use Rattle.model.specs.declared.listener.ListenerRecord.{ListenerRecord}
use Rattle.model.proofs.Laws.{tabulate_cong, tabulate_get_d, put_here, put_else}
use Rattle.model.proofs.Bits.{to_bits<}
use Rattle.sets.proofs.Bits.{to_bits_of_bits, shift_one}

-- 64 places, by what stands at each
pub places : (l : List ℕ) (f : ℕ → ℕ) → length l ≡ 64 → ((s : ℕ) → s < 64 → get_or l s 0 ≡ f s) → l ≡ tabulate 64 f
places l f long at = sym (tabulate_get_d 0 l) ∙ ap (λ (k : ℕ). tabulate k (λ s. get_or l s 0)) long ∙ tabulate_cong (λ s. get_or l s 0) f 64 at

-- the places with another value at one of them
pub set_place : (l : List ℕ) (x v : ℕ) → length l ≡ 64 → x < 64 → set l x v ≡ tabulate 64 (put (λ s. get_or l s 0) x v)
set_place l x v long h = places (set l x v) (put (λ s. get_or l s 0) x v) (length-set l x v ∙ long) at
  where
    at : (s : ℕ) → s < 64 → get_or (set l x v) s 0 ≡ put (λ s. get_or l s 0) x v s
    at s b =
        elim (ℕ_discrete s x) [
          | yes e ↦ rw e (get_or-set_same l x v 0 (omega arith) ∙ sym (put_here (λ s. get_or l s 0) x v))
          | no d ↦ get_or-set_other l x s v 0 d ∙ sym (put_else (λ s. get_or l s 0) x v s d)
        ]

-- what is known of a record by value
pub record Room (q : ListenerRecord) : Type 0 where
  pub watched_fits : q.watched < 2 ^ 64
  pub silences_long : length q.silences ≡ 64
  pub windows_long : length q.windows ≡ 64

-- as a call has it of the record that it is given
pub room : (q : ListenerRecord) → q.watched < 2 ^ 64 → length q.silences ≡ 64 → length q.windows ≡ 64 → Room q
room q w s v = record { watched_fits = w; silences_long = s; windows_long = v }

pub whole : {p q : ListenerRecord} → p.watched ≡ q.watched → p.silences ≡ q.silences → p.windows ≡ q.windows → p ≡ q
whole d e f = λ i. record { watched = d i; silences = e i; windows = f i }

as_places : (l : List ℕ) → length l ≡ 64 → l ≡ tabulate 64 (λ s. get_or l s 0)
as_places l long = places l (λ s. get_or l s 0) long (λ s h. refl)

-- the record of the listener that it stands for
pub kept : (q : ListenerRecord) → Room q → q ≡ record_of (listener_of q)
kept q r =
    whole (sym (to_bits_of_bits 64 q.watched r.watched_fits)) (as_places q.silences r.silences_long) (as_places q.windows r.windows_long)

-- the record with another set, silence 0 and a window
pub restarts : (q : ListenerRecord) → Room q → (w x v : ℕ) → w < 2 ^ 64 → x < 64
    → record { watched = w; silences = set q.silences x 0; windows = set q.windows x v }
    ≡ record_of (restarted (listener_of q) (of_bits w) x v)
restarts q r w x v fits h =
    whole (sym (to_bits_of_bits 64 w fits)) (set_place q.silences x 0 r.silences_long h) (set_place q.windows x v r.windows_long h)

-- ---- one node

-- the bit of a test
pub notice_bit : (b : Bool) (s : ℕ) → s < 64 → {r : ℕ} → r ≡ bool_byte b → (r * 2 ^ s) % 2 ^ 64 ≡ (if b then 2 ^ s else 0)
notice_bit true s h e = rw e (shift_one s h)
notice_bit false s h e = rw e (omega arith)

-- ---- a tick, node after node

-- the silences below s are counted, the others as they were
pub record Counting (q : ListenerRecord) (silences : List ℕ) (s : ℕ) : Type 0 where
  pub long : length silences ≡ 64
  pub counted : (y : ℕ) → y < s → get_or silences y 0 ≡ (ticked (listener_of q)).silence y
  pub still : (y : ℕ) → s ≤ y → get_or silences y 0 ≡ get_or q.silences y 0

module _ (q : ListenerRecord) where
  pub counting_none : length q.silences ≡ 64 → Counting q q.silences 0
  counting_none long = record { long = long; counted = λ y h. absurd (omega arith); still = λ y h. refl }

  -- the count of node s, from what stands there
  module _ {silences : List ℕ} {s : ℕ} (c : Counting q silences s) {w : Bool} (watched : w ≡ of_bits q.watched s) where
    abbrev awaited : Bool
    awaited = w && ltb (get_or silences s 0) (get_or q.windows s 0)

    pub counted_silence : {v : ℕ} → v ≡ (if awaited then suc (get_or silences s 0) else get_or silences s 0) → v ≡ (ticked (listener_of q)).silence s
    counted_silence e = rw (watched, c.still s (omega arith)) at e

    pub counted_notice : {r : Bool} → r ≡ (awaited && eqb (suc (get_or silences s 0)) (get_or q.windows s 0)) → r ≡ notices_of (listener_of q) Tick s
    counted_notice e = rw (watched, c.still s (omega arith)) at e

  pub counting_more : {silences : List ℕ} {s v : ℕ} → Counting q silences s → s < 64 → v ≡ (ticked (listener_of q)).silence s
      → Counting q (set silences s v) (s + 1)
  counting_more {silences} {s} {v} c h e = record {
    long = length-set silences s v ∙ c.long;
    counted = at;
    still = λ y b. get_or-set_other silences s y v 0 (omega arith) ∙ c.still y (omega arith);
  }
    where
      at : (y : ℕ) → y < s + 1 → get_or (set silences s v) y 0 ≡ (ticked (listener_of q)).silence y
      at y b =
          elim (ℕ_discrete y s) [
            | yes p ↦ rw p (get_or-set_same silences s v 0 (omega (arith, c.long)) ∙ e)
            | no d ↦ get_or-set_other silences s y v 0 d ∙ c.counted y (omega arith)
          ]

-- what a tick leaves
pub ticks : (q : ListenerRecord) → Room q → {silences : List ℕ} → Counting q silences 64
    → record { watched = q.watched; silences = silences; windows = q.windows } ≡ record_of (ticked (listener_of q))
ticks q r {silences} c =
    whole (sym (to_bits_of_bits 64 q.watched r.watched_fits))
    (places silences (ticked (listener_of q)).silence c.long c.counted) (as_places q.windows r.windows_long)

pub none_yet : (S : Set) → 0 ≡ to_bits 0 S
unfolding to_bits
none_yet S = refl

-- the notices so far, and that of one more node
module _ (S : Set) (s : ℕ) {n m : ℕ} (so_far : n ≡ to_bits s S) (one : m ≡ (if S s then 2 ^ s else 0)) where
  pub more_notices : n + m ≡ to_bits (s + 1) S
  unfolding to_bits
  more_notices = rw (so_far, one, add-one s)

  pub notices_fit : s < 64 → n + m < 2 ^ 64
  notices_fit h = let few : s + 1 ≤ 64 = omega arith in rw more_notices (le_trans (to_bits< (s + 1) S) (pow-le-pow_right (lit< tt) few))

-- ---- the calls

module _ (q : ListenerRecord) (room : Room q) (x : ℕ) where
  pub watch_refused : 63 < x → (7 ≡ watch_answer x) × (q ≡ leaves_record q (Watch x))
  unfolding watch_answer first_of
  watch_refused h = rw (lt-ltb 63 x h) (refl, kept q room)

  pub hear_refused : 63 < x → (7 ≡ hear_answer (listener_of q) x) × (q ≡ leaves_record q (Hear x))
  unfolding hear_answer first_of
  hear_refused h = rw (lt-ltb 63 x h) (refl, kept q room)

  module _ (low : x ≤ 63) where
    pub watches_again : of_bits q.watched x ≡ true → (0 ≡ watch_answer x) × (q ≡ leaves_record q (Watch x))
    unfolding watch_answer first_of
    watches_again t = rw (le-ltb 63 x low, t) (refl, kept q room)

    pub watches_new : (w : ℕ) → w < 2 ^ 64 → of_bits q.watched x ≡ false → of_bits w ≡ with (of_bits q.watched) x
        → (0 ≡ watch_answer x) × (record { watched = w; silences = set q.silences x 0; windows = set q.windows x 4 } ≡ leaves_record q (Watch x))
    unfolding watch_answer first_of
    watches_new w fits f e =
        rw (le-ltb 63 x low, f)
        (refl, restarts q room w x 4 fits (omega arith) ∙ ap (λ (S : Set). record_of (restarted (listener_of q) S x 4)) e)

    pub not_watched : of_bits q.watched x ≡ false → (18 ≡ hear_answer (listener_of q) x) × (q ≡ leaves_record q (Hear x))
    unfolding hear_answer first_of
    not_watched f = rw (le-ltb 63 x low, f) (refl, kept q room)

    pub hears : {v : ℕ} → of_bits q.watched x ≡ true
        → v ≡ (if silent (listener_of q) x then grown ((listener_of q).window x) else (listener_of q).window x)
        → (0 ≡ hear_answer (listener_of q) x)
        × (record { watched = q.watched; silences = set q.silences x 0; windows = set q.windows x v } ≡ leaves_record q (Hear x))
    unfolding hear_answer first_of
    hears {v} t e =
        rw (le-ltb 63 x low, t)
        (refl, restarts q room q.watched x v room.watched_fits (omega arith) ∙ ap (λ (v : ℕ). record_of (restarted (listener_of q) (of_bits q.watched) x v)) e)
