-- Laws of the message region: tests of words as tests of their parts, and `messages_read` in parts.
use mathlib.Core.Path.{◌≡◌, refl, sym, ap, ap₂, ◌∙◌}
use Prim.Native.Nat.{ℕ, zero, suc, ◌+◌, ◌*◌, ◌/◌, ◌%◌, ◌^◌, ◌<◌}
use native.Mathlib.Nat.{add-zero, add-suc}
use native.Mathlib.Omega.{arith}
use mathlib.Core.Bool.{Bool, true, false, not, ◌&&◌, ◌||◌, and-true}
use mathlib.Core.List.{List, [], ◌∷◌, ◌++◌}
use native.Mathlib.Decide.{ℕ_discrete}
use lib.ListN.{get_or, set, length, take}
use lib.Seq.{get_or-set_same, get_or-set_other}
use lib.Arith.{mod-mul, lt_of_le-ne}
use lib.Pow.{field, mod-mod-pow, shr-shr}
use lib.Dec.{ltb, eqb, lit<}
use Rattle.std.specs.Prelude.{if◌then◌else◌}
use Rattle.model.specs.Choice.{◌⇒◌, every}
use Rattle.model.specs.Sets.{Set, all}
use Rattle.model.specs.Fields.{bits}
use Rattle.model.specs.Leafset.{Table, size}
use Rattle.model.specs.Ring.{Message}
use Rattle.model.specs.Types.{pong_ask_repl}
use Rattle.model.specs.Words.{at, message_word, decode_message_at, message_tests, message_fits, is_type, subject_fits, view_fits}
use Rattle.model.proofs.Types.{types_use}
use Rattle.valid_messages.specs.Senders.{senders_read}
use Rattle.valid_messages.specs.Messages.{message_reads, messages_read}
use Rattle.valid_messages.specs.Rests.{kept, stamp_fits, rest_reads}
use Rattle.valid_messages.specs.Parts.{first_fits, first_reads, Halves}
use Rattle.valid_nodes.proofs.Gather.{all_cong, all_both}
use Rattle.valid_nodes.proofs.Formats.{of_kind_lem, lowest}

-- ---- tests

-- a && b && c .., as code joins tests
abbrev pub joined : Bool → List Bool → Bool
joined b [] = b
joined b (c ∷ bs) = joined (b && c) bs

and_assoc : (a b c : Bool) → ((a && b) && c) ≡ (a && (b && c))
and_assoc true b c = refl
and_assoc false b c = refl

pub joined_every : (b : Bool) (bs : List Bool) → joined b bs ≡ every (b ∷ bs)
joined_every b [] = sym (and-true b)
joined_every b (c ∷ bs) = joined_every (b && c) bs ∙ and_assoc b c (every bs)

every_append : (bs cs : List Bool) → every (bs ++ cs) ≡ (every bs && every cs)
every_append [] cs = refl
every_append (b ∷ bs) cs = ap (λ (c : Bool). b && c) (every_append bs cs) ∙ sym (and_assoc b (every bs) (every cs))

pub pick : (b c d : Bool) → ((b && c) || (not b && d)) ≡ (if b then c else d)
pick true true d = refl
pick true false d = refl
pick false c d = refl

-- ---- words

-- the four fields of a message's first word are its low 23 bits
fields : (w : ℕ) → bits 16 7 w * 2 ^ 16 + bits 10 6 w * 2 ^ 10 + bits 4 6 w * 2 ^ 4 + bits 0 4 w ≡ w % 2 ^ 23
fields w =
    let a : w % 2 ^ 23 ≡ bits 16 7 w * 2 ^ 16 + w % 2 ^ 16 = mod-mul w {m = 2 ^ 7} {c = 2 ^ 16} (lit< tt) (lit< tt) in
    let b : w % 2 ^ 16 ≡ bits 10 6 w * 2 ^ 10 + w % 2 ^ 10 = mod-mul w {m = 2 ^ 6} {c = 2 ^ 10} (lit< tt) (lit< tt) in
    let c : w % 2 ^ 10 ≡ bits 4 6 w * 2 ^ 4 + w % 2 ^ 4 = mod-mul w {m = 2 ^ 6} {c = 2 ^ 4} (lit< tt) (lit< tt) in
    let d : bits 0 4 w ≡ w % 2 ^ 4 = lowest 4 w in
    omega arith

module _ (ws : List ℕ) (base k : ℕ) where
  first_kept : kept ws base k 0 ≡ eqb (get_or ws (base + 5 * k) 0 / 2 ^ 23) 192
  unfolding decode_message_at message_word
  first_kept =
      let w : ℕ = get_or ws (base + 5 * k) 0 in
      rw (add-zero (base + 5 * k))
      (of_kind_lem 23 6 192 w (bits 16 7 w * 2 ^ 16 + bits 10 6 w * 2 ^ 10 + bits 4 6 w * 2 ^ 4 + bits 0 4 w) (fields w) refl)

-- the fields, by the halves of the word
pub low_tag : (w : ℕ) → w % 2 ^ 16 % 16 ≡ w % 16
low_tag w = mod-mod-pow w 12 4

pub low_sender : (w : ℕ) → w % 2 ^ 16 / 2 ^ 4 % 64 ≡ bits 4 6 w
low_sender w = ap (λ (v : ℕ). v % 2 ^ 6) (field w 12 4) ∙ mod-mod-pow (w / 2 ^ 4) 6 6

pub low_receiver : (w : ℕ) → w % 2 ^ 16 / 2 ^ 10 ≡ bits 10 6 w
low_receiver w = field w 6 10

pub high_subject : (w : ℕ) → w / 2 ^ 16 % 128 ≡ bits 16 7 w
high_subject w = refl

pub high_kind : (w : ℕ) → w / 2 ^ 16 / 2 ^ 7 ≡ w / 2 ^ 23
high_kind w = shr-shr w 16 7

-- what `first_fits` asks, with the size, the type, the one that names a spare and the subject's test as code has them
abbrev first_tests : ℕ → ℕ → Bool → Message → List Bool
first_tests n tag fits m =
    is_type tag
    ∷ ltb m.sender n
    ∷ ltb m.receiver n
    ∷ not (eqb m.sender m.receiver)
    ∷ fits
    ∷ (eqb tag pong_ask_repl ⇒ not (eqb m.subject m.sender) && not (eqb m.subject m.receiver))
    ∷ []

module _ (ws : List ℕ) (base : ℕ) (t : Table) (k : ℕ) where
  abbrev message : Message
  message = decode_message_at ws (base + 5 * k)

  -- the tests of a message's first word, as code joins them
  pub first_test : (n tag : ℕ) (fits : Bool) → size t ≡ n → message.type ≡ tag → fits ≡ subject_fits t message
      → joined (eqb (get_or ws (base + 5 * k) 0 / 2 ^ 23) 192) (first_tests n tag fits message) ≡ first_reads ws base t k
  unfolding first_reads first_fits
  first_test n tag fits e f h =
      rw (← e, ← f, h, ← types_use.spare message.type)
      (joined_every (eqb (get_or ws (base + 5 * k) 0 / 2 ^ 23) 192) (take 6 (message_tests t message))
      ∙ rw (first_kept ws base k, and-true (first_fits t message)))

-- ---- halves

pub no_halves : (ws : List ℕ) (base from : ℕ) (lows highs : List ℕ) → Halves ws base from lows highs 0
no_halves ws base from lows highs = record { low = λ k h. absurd (omega arith); high = λ k h. absurd (omega arith) }

-- one place more
more : (v : ℕ → ℕ) (l : List ℕ) (k : ℕ) → k < length l → ((j : ℕ) → j < k → get_or l j 0 ≡ v j) → (j : ℕ) → j < k + 1 → get_or (set l k (v k)) j 0 ≡ v j
more v l k h f j i =
    elim (ℕ_discrete j k) [
      | yes e ↦ rw e (get_or-set_same l k (v k) 0 h)
      | no d ↦ get_or-set_other l k j (v k) 0 d ∙ f j (lt_of_le-ne (omega arith) d)
    ]

pub more_halves : (ws : List ℕ) (base from : ℕ) (lows highs : List ℕ) (k : ℕ) → k < length lows → k < length highs → Halves ws base from lows highs k
    → Halves ws base from (set lows k (at ws (base + 5 * (from + k)) % 2 ^ 16)) (set highs k (at ws (base + 5 * (from + k)) / 2 ^ 16)) (k + 1)
more_halves ws base from lows highs k a b h =
    record {
      low = more (λ j. at ws (base + 5 * (from + j)) % 2 ^ 16) lows k a h.low;
      high = more (λ j. at ws (base + 5 * (from + j)) / 2 ^ 16) highs k b h.high;
    }

-- ---- a test of all messages, block by block

all_blocks : (S : Set) (k n : ℕ) → all (k + n) S ≡ (all k S && all n (λ i. S (k + i)))
unfolding all
all_blocks S k zero = rw (add-zero k) (sym (and-true (all k S)))
all_blocks S k (suc n) = rw (add-suc k n) (ap (λ (b : Bool). b && S (k + n)) (all_blocks S k n) ∙ and_assoc (all k S) (all n (λ i. S (k + i))) (S (k + n)))

pub block_more : (S : Set) (k n : ℕ) (ok read : Bool) → ok ≡ all k S → read ≡ all n (λ i. S (k + i)) → (ok && read) ≡ all (k + n) S
block_more S k n ok read e f = ap₂ ◌&&◌ e f ∙ sym (all_blocks S k n)

-- ---- messages in parts

swap : (a b c d : Bool) → ((a && b) && (c && d)) ≡ ((a && c) && (b && d))
swap false b c d = refl
swap true b true d = refl
swap true true false d = refl
swap true false false d = refl

five : (S : Set) → all 5 S ≡ (every (S 0 ∷ []) && every (S 1 ∷ S 2 ∷ S 3 ∷ S 4 ∷ []))
unfolding all
five S = joined_every (S 0) (S 1 ∷ S 2 ∷ S 3 ∷ S 4 ∷ []) ∙ every_append (S 0 ∷ []) (S 1 ∷ S 2 ∷ S 3 ∷ S 4 ∷ [])

fits_split : (t : Table) (m : Message) → message_fits t m ≡ (first_fits t m && every (stamp_fits m ∷ view_fits t m ∷ []))
unfolding message_fits first_fits
fits_split t m = every_append (take 6 (message_tests t m)) (stamp_fits m ∷ view_fits t m ∷ [])

message_split : (ws : List ℕ) (base : ℕ) (t : Table) (k : ℕ) → message_reads ws base t k ≡ (first_reads ws base t k && rest_reads ws base t k)
unfolding message_reads first_reads rest_reads
message_split ws base t k =
    ap₂ ◌&&◌ (five (kept ws base k)) (and-true (message_fits t m) ∙ fits_split t m)
    ∙ swap (every (kept ws base k 0 ∷ [])) (every rest) (first_fits t m) (every (stamp_fits m ∷ view_fits t m ∷ []))
    ∙ ap₂ ◌&&◌
    (ap (λ (b : Bool). every (kept ws base k 0 ∷ []) && b) (sym (and-true (first_fits t m))) ∙ sym (every_append (kept ws base k 0 ∷ []) (first_fits t m ∷ [])))
    (sym (every_append rest (stamp_fits m ∷ view_fits t m ∷ [])))
  where
    m : Message
    m = decode_message_at ws (base + 5 * k)

    rest : List Bool
    rest = kept ws base k 1 ∷ kept ws base k 2 ∷ kept ws base k 3 ∷ kept ws base k 4 ∷ []

pub messages_split : (ws : List ℕ) (base : ℕ) (t : Table) (m : ℕ) → messages_read ws base t m
    ≡ (all m (first_reads ws base t) && all m (rest_reads ws base t) && senders_read ws base t m)
unfolding messages_read
messages_split ws base t m =
    ap (λ (b : Bool). every (b ∷ senders_read ws base t m ∷ []))
    (all_cong (message_reads ws base t) (λ k. first_reads ws base t k && rest_reads ws base t k) m (λ k h. message_split ws base t k)
    ∙ sym (all_both (first_reads ws base t) (rest_reads ws base t) m))
    ∙ sym (joined_every (all m (first_reads ws base t) && all m (rest_reads ws base t)) (senders_read ws base t m ∷ []))
