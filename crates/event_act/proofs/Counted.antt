-- How many messages a change leaves, of all and of each sender, as the code counts them: 11, 17 or neither.
use mathlib.Core.Path.{◌≡◌, sym, ap, ◌∙◌}
use mathlib.Core.Bool.{Bool, true, false}
use mathlib.Core.List.{List}
use Prim.Native.Nat.{ℕ, ◌+◌, ◌≤◌, ◌<◌}
use native.Mathlib.Nat.{le_refl}
use native.Mathlib.Decide.{dec_lt, ℕ_discrete}
use native.Mathlib.Omega.{arith}
use borrow.Author.Tests.{lt-ltb, le-ltb, ne_eqb}
use lib.ListN.{length, length-append}
use Rattle.model.specs.Leafset.{size}
use Rattle.model.specs.Ring.{Message, Ring, message_at, sent_by}
use Rattle.model.specs.Answers.{first_of}
use Rattle.model.specs.Words.{decode_table, decode, senders_fit}
use Rattle.model.specs.Play.{remove_message, left_refusals}
use Rattle.model.specs.declared.node.NodeRecord.{NodeRecord}
use Rattle.model.proofs.Laws.{is_false}
use Rattle.model.proofs.Lists.{each_imp}
use Rattle.model.proofs.Senders.{one_of, sent_append, sent_without, sent_none, sent_le, sent_all, senders_in, senders_out}
use Rattle.model.proofs.Decoded.{reads_well}
use Rattle.records.specs.Effects.{sends_of}
use Rattle.event_act.specs.Changes.{TakenLow, TakenOther, taken_out, sent_of, changed, Counts, Full}
use Rattle.std.specs.Prelude.{Option, None, Some, Result, Ok, Err}
use Rattle.model.specs.declared.refusal.Refusal.{Refusal}
use Rattle.event_act.specs.declared.decision.Change.{Change}
use Rattle.event_act.proofs.Written.{changed_table}

-- ---- what is sent, and what is left

module _ (c : Change) {first second : ℕ}
    (f : (me time : ℕ) (own : NodeRecord) → first ≡ length (sends_of me time own c.effect.first))
    (s : (me time : ℕ) (own : NodeRecord) → second ≡ length (sends_of me time own c.effect.second)) where
  sent_count : first + second ≡ length (sent_of c)
  sent_count =
      let a = f c.node.0 c.time.0 c.effect.own in
      let b = s c.node.0 c.time.0 c.effect.own in
      simp length-append (omega (arith, a, b))

  left_count : (ρ : Ring) {out : ℕ} → out ≡ length (taken_out c.taken ρ).messages → out + (first + second) ≡ length (changed c ρ).messages
  left_count ρ o = let sent = sent_count in omega (arith, o, sent, length-append (taken_out c.taken ρ).messages (sent_of c))

-- ---- of each sender

-- taking one out leaves no more, and as many of a node that did not send it
taken_fewer : (t : Option ℕ) (ρ : Ring) → TakenLow (length ρ.messages) t → (y : ℕ) → sent_by y (taken_out t ρ).messages ≤ sent_by y ρ.messages
unfolding remove_message
taken_fewer None ρ low y = le_refl _
taken_fewer (Some k) ρ low y = omega (arith, sent_without y ρ.messages k low)

taken_same : (t : Option ℕ) (ρ : Ring) → TakenLow (length ρ.messages) t → (x : ℕ) → TakenOther ρ t x
    → sent_by x ρ.messages ≤ sent_by x (taken_out t ρ).messages
unfolding remove_message
taken_same None ρ low x other = le_refl _
taken_same (Some k) ρ low x other =
    let not-its : one_of x (message_at ρ k) ≡ 0 = rw (ne_eqb (message_at ρ k).sender x other) in
    omega (arith, not-its, sent_without x ρ.messages k low)

module _ (ws : List ℕ) {m : ℕ} (c : Change) (counts : Counts ws m c) {sent all : ℕ} (many : sent ≡ length (sent_of c))
    (total : all ≡ length (changed c (decode ws)).messages) {full : Bool} (told : Full (decode ws).messages c.node.0 sent all full) where
  abbrev out : List Message
  out = (taken_out c.taken (decode ws)).messages

  abbrev x : ℕ
  x = c.node.0

  low : TakenLow (length (decode ws).messages) c.taken
  low = rw counts.count at counts.taken_low

  -- of a sender there is what is left and what is sent
  parts : (y : ℕ) → sent_by y (changed c (decode ws)).messages ≡ sent_by y out + sent_by y (sent_of c)
  parts y = sent_append y out (sent_of c)

  same_table : size (changed c (decode ws)).table ≡ size (decode_table ws)
  unfolding decode
  same_table = ap size (changed_table c (decode ws))

  before : (y : ℕ) → y < size (decode_table ws) → sent_by y (decode ws).messages ≤ 256
  unfolding decode
  before y h = (reads_well ws counts.reads).senders_few y h

  of_node : sent_by x (sent_of c) ≡ sent
  of_node = sent_all x counts.by_node ∙ sym many

  of_others : (y : ℕ) → (y ≡ x → ⊥) → sent_by y (sent_of c) ≡ 0
  of_others y d = sent_none y (each_imp {Q = λ s. s.sender ≡ y → ⊥} (λ s by is. d (sym is ∙ by)) counts.by_node)

  few_of_node : full ≡ false → sent_by x (changed c (decode ws)).messages ≤ 256
  few_of_node is =
      let fewer = taken_fewer c.taken (decode ws) low x in
      let had = before x counts.member in
      elim (dec_lt 0 sent) [
        | no none ↦ omega (arith, parts x, of_node, fewer, had)
        | yes some ↦ elim (dec_lt 256 all) [
          | no few ↦ omega (arith, sent_le x (changed c (decode ws)).messages, total)
          | yes more ↦ omega (arith, parts x, of_node, fewer, told.within is some more)
        ]
      ]

  senders_fit_lem : full ≡ false → senders_fit (changed c (decode ws)) ≡ true
  senders_fit_lem is =
      senders_in (changed c (decode ws)) (λ y h.
      elim (ℕ_discrete y x) [
        | yes e ↦ rw e (few_of_node is)
        | no d ↦ omega (arith, parts y, of_others y d, taken_fewer c.taken (decode ws) low y, before y (rw same_table at h))
      ])

  sender_full : full ≡ true → senders_fit (changed c (decode ws)) ≡ false
  sender_full is =
      is_false (senders_fit (changed c (decode ws))) (λ e.
      omega (arith, parts x, of_node, told.over is, kept, senders_out (changed c (decode ws)) e x (rw same_table counts.member)))
    where
      kept : sent_by x (decode ws).messages ≤ sent_by x out
      kept = taken_same c.taken (decode ws) low x (counts.taken_other (omega (arith, many, told.over is, before x counts.member)))

-- ---- the refusals of what is left

module _ (ρ : Ring) where
  eleven : 1024 < length ρ.messages → first_of (left_refusals ρ) ≡ 11
  unfolding first_of
  eleven h = rw (lt-ltb 1024 (length ρ.messages) h)

  seventeen : length ρ.messages ≤ 1024 → senders_fit ρ ≡ false → first_of (left_refusals ρ) ≡ 17
  unfolding first_of
  seventeen h full = rw (le-ltb 1024 (length ρ.messages) h, full)

  neither : length ρ.messages ≤ 1024 → senders_fit ρ ≡ true → first_of (left_refusals ρ) ≡ 0
  unfolding first_of
  neither h fit = rw (le-ltb 1024 (length ρ.messages) h, fit)

-- ---- as the code counts

-- m messages, of which `out` are left, and two groups to be sent
module _ {ws : List ℕ} {m : ℕ} {c : Change} (counts : Counts ws m c) {first second out : ℕ}
    (f : (me time : ℕ) (own : NodeRecord) → first ≡ length (sends_of me time own c.effect.first))
    (s : (me time : ℕ) (own : NodeRecord) → second ≡ length (sends_of me time own c.effect.second))
    (o : (ρ : Ring) → length ρ.messages ≡ m → out ≡ length (taken_out c.taken ρ).messages) where
  total : out + (first + second) ≡ length (changed c (decode ws)).messages
  total = left_count c f s (decode ws) (o (decode ws) (sym counts.count))

  pub counted_eleven : 1024 < out + (first + second) → first_of (left_refusals (changed c (decode ws))) ≡ 11
  counted_eleven h = eleven (changed c (decode ws)) (omega (arith, total, h))

  module _ (few : out + (first + second) ≤ 1024) {full : Bool}
      (told : Full (decode ws).messages c.node.0 (first + second) (out + (first + second)) full) where
    few_left : length (changed c (decode ws)).messages ≤ 1024
    few_left = omega (arith, total, few)

    pub counted_seventeen : full ≡ true → first_of (left_refusals (changed c (decode ws))) ≡ 17
    counted_seventeen is = seventeen (changed c (decode ws)) few_left (sender_full ws c counts (sent_count c f s) total told is)

    pub counted_neither : full ≡ false → first_of (left_refusals (changed c (decode ws))) ≡ 0
    counted_neither is = neither (changed c (decode ws)) few_left (senders_fit_lem ws c counts (sent_count c f s) total told is)
