-- The rest of a message under masks: what the code tests is what `rest_reads` asks.
use mathlib.Core.Path.{◌≡◌, refl, sym, ap, ap₂, ◌∙◌}
use Prim.Native.Nat.{ℕ, zero, suc, ◌+◌, ◌-◌, ◌*◌, ◌/◌, ◌%◌, ◌^◌, ◌≤◌, ◌<◌}
use native.Mathlib.Omega.{arith}
use native.Mathlib.Decide.{dec_lt, ℕ_discrete}
use mathlib.Core.Bool.{Bool, true, false, not, ◌&&◌, ◌||◌, and-true, and-false}
use mathlib.Core.List.{List, [], ◌∷◌}
use lib.ListN.{get_or, set, replicate, length, length-set, length-replicate, get_or-replicate}
use lib.Seq.{get_or-set_same, get_or-set_other}
use lib.Pow.{shl_exact}
use native.Mathlib.Nat.{one-mul, div-one, mod-lt}
use lib.Bits.{bit_or, bit_xor, bit_and, xor_mod, xor_zero_r, and_zero_r}
use lib.Dec.{ltb, leb, eqb, lit<}
use borrow.Author.Tests.{eqb-true, eq-eqb, ne_eqb, lt-ltb, le-ltb, ltb-true, leb-false}
use lib.Arith.{lt_of_le-ne}
use Rattle.model.specs.Fields.{bits}
use Rattle.model.specs.Leafset.{Table, size}
use Rattle.model.specs.Types.{uses_stamp, uses_view}
use Rattle.model.specs.Words.{at, decode_message_at}
use Rattle.model.proofs.Laws.{same_test, and_left, and_right, if_law, get_d_tabulate}
use Rattle.valid_nodes.proofs.Formats.{lowest, xor_test, xor_above}
use Rattle.valid_messages.proofs.Lanes.{none_above, above_test, number, limited, short, without_receiver}
use Rattle.valid_messages.proofs.Views.{second_kept, low_kept, middle_kept, high_kept, view_test}
use Rattle.valid_messages.specs.Rests.{stamp_fits, rest_reads}
use Rattle.std.specs.Prelude.{if◌then◌else◌}
use Rattle.model.specs.Choice.{every}
use Rattle.model.specs.Sets.{all, of_bits}
use Rattle.valid_nodes.proofs.Gather.{or_test, or_more, all_both, all_cong}
use Rattle.valid_messages.specs.Masks.{part, room, above, of_types_mask, receiver_bit, OfReceivers, Tables, beyond, wrong, nothing_wrong, Small}

-- 1 << b
pub one_shifted : (b : ℕ) → b ≤ 24 → (1 * 2 ^ b) % 2 ^ 32 ≡ 2 ^ b
one_shifted b h = shl_exact 1 b 32 (lit< tt) (omega arith) ∙ one-mul (2 ^ b)

-- ---- many rests

-- what was gathered of word i of k rests is 0 exactly where nothing is wrong there
pub record Met (ws : List ℕ) (base : ℕ) (types receivers : List ℕ) (k i empty met : ℕ) : Type 0 where
  clear : eqb met 0 ≡ all k (λ j. eqb (wrong ws base types receivers j i empty) 0)
  small : (j : ℕ) → j < k → beyond ws base j i empty < 2 ^ 32

pub none_met : (ws : List ℕ) (base : ℕ) (types receivers : List ℕ) (i empty : ℕ) → Met ws base types receivers 0 i empty 0
unfolding all
none_met ws base types receivers i empty = record { clear = refl; small = λ j h. absurd (omega arith) }

pub more_met : (ws : List ℕ) (base : ℕ) (types receivers : List ℕ) (k i empty met v : ℕ) → Met ws base types receivers k i empty met
    → (v ≡ wrong ws base types receivers k i empty) × (beyond ws base k i empty < 2 ^ 32) → Met ws base types receivers (k + 1) i empty (bit_or met v)
more_met ws base types receivers k i empty met v h e =
    record {
      clear = or_more (λ w. w) (λ a b. refl) (λ j. eqb (wrong ws base types receivers j i empty) 0) k met v h.clear (ap (λ (w : ℕ). eqb w 0) e.0);
      small = λ j l. elim (ℕ_discrete j k) [ yes q ↦ rw q e.1 | no d ↦ h.small j (lt_of_le-ne (omega arith) d) ];
    }

pub met_joined : (ws : List ℕ) (base : ℕ) (types receivers : List ℕ) (m a b c d : ℕ)
    → Met ws base types receivers m 0 1879048192 a → Met ws base types receivers m 1 2147483648 b
    → Met ws base types receivers m 2 2147483648 c → Met ws base types receivers m 3 2147483648 d
    → ((eqb a 0 && eqb b 0 && eqb c 0 && eqb d 0) ≡ all m (nothing_wrong ws base types receivers)) × ((k : ℕ) → k < m → Small ws base k)
met_joined ws base types receivers m a b c d p q r s =
    (joined, λ k h. record { stamp = p.small k h; low = q.small k h; middle = r.small k h; high = s.small k h })
  where
    at : ℕ → ℕ → ℕ → Bool
    at i empty k = eqb (wrong ws base types receivers k i empty) 0

    joined : (eqb a 0 && eqb b 0 && eqb c 0 && eqb d 0) ≡ all m (nothing_wrong ws base types receivers)
    joined =
        ap₂ ◌&&◌ (ap₂ ◌&&◌ two r.clear ∙ all_both (λ k. at 0 1879048192 k && at 1 2147483648 k) (at 2 2147483648) m) s.clear
        ∙ all_both (λ k. at 0 1879048192 k && at 1 2147483648 k && at 2 2147483648 k) (at 3 2147483648) m
      where
        two : (eqb a 0 && eqb b 0) ≡ all m (λ k. at 0 1879048192 k && at 1 2147483648 k)
        two = ap₂ ◌&&◌ p.clear q.clear ∙ all_both (at 0 1879048192) (at 1 2147483648) m

-- ---- the table of receivers

-- the receivers x with x % 24 < b have their words
pub record Filled (table : List ℕ) (b : ℕ) : Type 0 where
  long : length table ≡ 288
  bit : (x i : ℕ) → x < 72 → i < 4 → get_or table (4 * x + i) 0 ≡ (if ltb (x % 24) b then receiver_bit x i else 0)

pub nothing_filled : Filled (replicate 288 0) 0
nothing_filled =
    record {
      long = length-replicate {A = ℕ} 288 0;
      bit = λ x i h l. get_or-replicate {A = ℕ} 288 (4 * x + i) 0 0 (omega arith) ∙ rw (le-ltb (x % 24) 0 (omega arith)) refl;
    }

-- three more: b, 24 + b and 48 + b
pub more_filled : (table : List ℕ) (b v : ℕ) → b < 24 → v ≡ 2 ^ b → Filled table b
    → Filled (set (set (set table (4 * b + 1) v) (4 * (24 + b) + 2) v) (4 * (48 + b) + 3) v) (b + 1)
more_filled table b v hb e f = record { long = simp length-set f.long; bit = λ x i h l. at_row x i h l }
  where
    table₁ : List ℕ
    table₁ = set table (4 * b + 1) v

    table₂ : List ℕ
    table₂ = set table₁ (4 * (24 + b) + 2) v

    long₁ : length table₁ ≡ 288
    long₁ = simp length-set f.long

    long₂ : length table₂ ≡ 288
    long₂ = simp length-set f.long

    after₁ : (j : ℕ) → (j ≡ 4 * b + 1 → ⊥) → get_or table₁ j 0 ≡ get_or table j 0
    after₁ j d = get_or-set_other table (4 * b + 1) j v 0 d

    after₂ : (j : ℕ) → (j ≡ 4 * (24 + b) + 2 → ⊥) → get_or table₂ j 0 ≡ get_or table₁ j 0
    after₂ j d = get_or-set_other table₁ (4 * (24 + b) + 2) j v 0 d

    after₃ : (j : ℕ) → (j ≡ 4 * (48 + b) + 3 → ⊥) → get_or (set table₂ (4 * (48 + b) + 3) v) j 0 ≡ get_or table₂ j 0
    after₃ j d = get_or-set_other table₂ (4 * (48 + b) + 3) j v 0 d

    -- an entry that is set, and one that is not
    here : (x i : ℕ) → x % 24 ≡ b → i ≡ 1 + x / 24 → v ≡ (if ltb (x % 24) (b + 1) then receiver_bit x i else 0)
    here x i p q = rw (lt-ltb (x % 24) (b + 1) (omega arith), eq-eqb i (1 + x / 24) q, p) e

    there : (x i : ℕ) → (x % 24 ≡ b → i ≡ 1 + x / 24 → ⊥)
        → (if ltb (x % 24) b then receiver_bit x i else 0) ≡ (if ltb (x % 24) (b + 1) then receiver_bit x i else 0)
    there x i d =
        elim (ℕ_discrete (x % 24) b) [
          | yes p ↦ rw (p, le-ltb b b (omega arith), lt-ltb b (b + 1) (omega arith), ne_eqb i (1 + x / 24) (d p)) refl
          | no p ↦ ap (λ (t : Bool). if t then receiver_bit x i else 0)
              (same_test (ltb (x % 24) b) (ltb (x % 24) (b + 1))
              (λ t. lt-ltb (x % 24) (b + 1) (omega (arith, ltb-true (x % 24) b t)))
              (λ t. lt-ltb (x % 24) b (lt_of_le-ne (omega (arith, ltb-true (x % 24) (b + 1) t)) p)))
        ]

    at_row : (x i : ℕ) → x < 72 → i < 4 → get_or (set table₂ (4 * (48 + b) + 3) v) (4 * x + i) 0 ≡ (if ltb (x % 24) (b + 1) then receiver_bit x i else 0)
    at_row x i h l =
        elim (ℕ_discrete (4 * x + i) (4 * (48 + b) + 3)) [
          | yes p ↦ rw p (get_or-set_same table₂ (4 * (48 + b) + 3) v 0 (omega (arith, long₂))) ∙ here x i (omega arith) (omega arith)
          | no p ↦ after₃ (4 * x + i) p ∙ elim (ℕ_discrete (4 * x + i) (4 * (24 + b) + 2)) [
            | yes q ↦ rw q (get_or-set_same table₁ (4 * (24 + b) + 2) v 0 (omega (arith, long₁))) ∙ here x i (omega arith) (omega arith)
            | no q ↦ after₂ (4 * x + i) q ∙ elim (ℕ_discrete (4 * x + i) (4 * b + 1)) [
              | yes r ↦ rw r (get_or-set_same table (4 * b + 1) v 0 (omega (arith, f.long))) ∙ here x i (omega arith) (omega arith)
              | no r ↦
                  after₁ (4 * x + i) r ∙ f.bit x i h l
                  ∙ there x i (λ s t. elim (dec_lt x 24) [
                    | yes u ↦ r (omega arith)
                    | no u ↦ elim (dec_lt x 48) [ yes w ↦ q (omega arith) | no w ↦ p (omega arith) ]
                  ])
            ]
          ]
        ]

pub filled : (table : List ℕ) → Filled table 24 → OfReceivers table
filled table f = record { bit = λ x i h l. f.bit x i (omega arith) l ∙ rw (lt-ltb (x % 24) 24 (mod-lt x (lit< tt))) refl }

-- ---- the table of types

type_entry : (n type i : ℕ) → type < 16 → i < 4 → get_or (of_types_mask n) (4 * type + i) 0 ≡ above (room n type i)
unfolding of_types_mask
type_entry n type i h l =
    let q : (4 * type + i) / 4 ≡ type = omega arith in
    let r : (4 * type + i) % 4 ≡ i = omega arith in
    get_d_tabulate (λ j. above (room n (j / 4) (j % 4))) 0 64 (4 * type + i) (omega arith) ∙ rw (q, r)

part≤ : (n from : ℕ) → part n from ≤ 32
part≤ n from =
    if_law (λ v. v ≤ 32) (leb n from) 0 (if leb 24 (n - from) then 24 else n - from) (λ e. omega arith)
    (λ e. if_law (λ v. v ≤ 32) (leb 24 (n - from)) 24 (n - from) (λ f. omega arith) (λ f. omega (arith, leb-false 24 (n - from) f)))

room≤ : (n type i : ℕ) → room n type i ≤ 32
room≤ n type zero = if_law (λ v. v ≤ 32) (uses_stamp type) 24 0 (λ e. omega arith) (λ e. omega arith)
room≤ n type (suc i) = if_law (λ v. v ≤ 32) (uses_view type) (part n (24 * i)) 0 (λ e. part≤ n (24 * i)) (λ e. omega arith)

-- ---- one rest

module _ (ws : List ℕ) (base : ℕ) (types receivers : List ℕ) (n k : ℕ) (given : Tables types receivers n) where
  abbrev tag : ℕ
  tag = at ws (base + 5 * k) % 16

  abbrev receiver : ℕ
  receiver = at ws (base + 5 * k) / 2 ^ 10 % 64

  -- a word of the rest: short enough, and without the receiver's bit
  lane : (i empty : ℕ) → i < 4 → beyond ws base k i empty < 2 ^ 32
      → eqb (wrong ws base types receivers k i empty) 0
      ≡ (ltb (beyond ws base k i empty) (2 ^ room n tag i) && eqb (bit_and (beyond ws base k i empty) (receiver_bit receiver i)) 0)
  lane i empty h l =
      or_test (bit_and u (get_or types (4 * tag + i) 0)) (bit_and u (get_or receivers (4 * receiver + i) 0))
      ∙ ap₂ ◌&&◌
      (ap (λ (m : ℕ). eqb (bit_and u m) 0) (ap (λ (t : List ℕ). get_or t (4 * tag + i) 0) given.of_types
      ∙ type_entry n tag i (mod-lt (at ws (base + 5 * k)) (lit< tt)) h)
      ∙ above_test (room n tag i) u (room≤ n tag i) l)
      (ap (λ (m : ℕ). eqb (bit_and u m) 0) (given.of_receivers.bit receiver i (mod-lt (at ws (base + 5 * k) / 2 ^ 10) (lit< tt)) h))
    where
      u : ℕ
      u = beyond ws base k i empty

-- the stamp
stamp_test : (used : Bool) (w : ℕ) → ltb (bit_xor w 1879048192) (2 ^ (if used then 24 else 0)) ≡ (eqb (w / 2 ^ 24) 112 && (used || eqb (bits 0 24 w) 0))
stamp_test true w = sym (none_above 24 (bit_xor w 1879048192)) ∙ xor_above 24 w 1879048192 ∙ sym (and-true (eqb (w / 2 ^ 24) 112))
stamp_test false w =
    sym (none_above 0 (bit_xor w 1879048192)) ∙ ap (λ (v : ℕ). eqb v 0) (div-one (bit_xor w 1879048192)) ∙ xor_test w 1879048192
    ∙ same_test (eqb w 1879048192) (eqb (w / 2 ^ 24) 112 && eqb (bits 0 24 w) 0)
    (λ e. rw (eqb-true w 1879048192 e) refl)
    (λ e. let q = eqb-true (w / 2 ^ 24) 112 (and_left (eqb (w / 2 ^ 24) 112) (eqb (bits 0 24 w) 0) e) in
    let r : w % 2 ^ 24 ≡ 0 = sym (lowest 24 w) ∙ eqb-true (bits 0 24 w) 0 (and_right (eqb (w / 2 ^ 24) 112) (eqb (bits 0 24 w) 0) e) in
    eq-eqb w 1879048192 (omega arith))

-- a word of the view
kind_test : (width q w : ℕ) → 2147483648 / 2 ^ width ≡ q → eqb (w / 2 ^ width) q ≡ ltb (bit_xor w 2147483648) (2 ^ width)
kind_test width q w e = ap (eqb (w / 2 ^ width)) (sym e) ∙ sym (xor_above width w 2147483648) ∙ none_above width (bit_xor w 2147483648)

value : (width w : ℕ) → 2147483648 % 2 ^ width ≡ 0 → bits 0 width w ≡ bit_xor w 2147483648 % 2 ^ width
value width w e = lowest width w ∙ sym (xor_mod w 2147483648 width ∙ ap (bit_xor (w % 2 ^ width)) e ∙ xor_zero_r (w % 2 ^ width))

-- the tests in another order; that of the receiver's bit is needed only of a view in format
regroup : (a p q r x y z : Bool) → ((a && (p && x)) && (q && y) && (r && z)) ≡ (a && ((p && q && r) && (x && y && z)))
regroup false p q r x y z = refl
regroup true false q r x y z = refl
regroup true true false r false y z = refl
regroup true true false r true y z = refl
regroup true true true false false y z = refl
regroup true true true false true false z = refl
regroup true true true false true true z = refl
regroup true true true true false y z = refl
regroup true true true true true false z = refl
regroup true true true true true true z = refl

joined : (a s p q r limit bit fits clear : Bool) → fits ≡ (p && q && r && limit) → ((p && q && r) ≡ true → clear ≡ bit)
    → ((a && s) && (fits && clear)) ≡ every (a ∷ p ∷ q ∷ r ∷ s ∷ every (limit ∷ bit ∷ []) ∷ [])
joined false s p q r limit bit fits clear e f = refl
joined true s false q r limit bit fits clear e f = rw e (and-false s)
joined true s true false r limit bit fits clear e f = rw e (and-false s)
joined true s true true false limit bit fits clear e f = rw e (and-false s)
joined true s true true true limit bit fits clear e f = rw (e, f refl) (last s limit bit)
  where
    last : (s limit bit : Bool) → (s && (limit && bit)) ≡ every (s ∷ every (limit ∷ bit ∷ []) ∷ [])
    last false limit bit = refl
    last true false bit = refl
    last true true false = refl
    last true true true = refl

stamp_lane : (ws : List ℕ) (base n k r : ℕ)
    → (ltb (beyond ws base k 0 1879048192) (2 ^ room n (at ws (base + 5 * k) % 16) 0) && eqb (bit_and (beyond ws base k 0 1879048192) (receiver_bit r 0)) 0)
    ≡ (eqb (at ws (base + 5 * k + 1) / 2 ^ 24) 112 && stamp_fits (decode_message_at ws (base + 5 * k)))
unfolding decode_message_at
stamp_lane ws base n k r =
    rw (ne_eqb 0 (1 + r / 24) (λ i. omega arith), and_zero_r (beyond ws base k 0 1879048192), lowest 4 (at ws (base + 5 * k)))
    (and-true (ltb (beyond ws base k 0 1879048192) (2 ^ room n (at ws (base + 5 * k) % 16) 0))
    ∙ stamp_test (uses_stamp (at ws (base + 5 * k) % 16)) (at ws (base + 5 * k + 1)))

-- what was tested, in the words of `rest_reads`
as_words : (ws : List ℕ) (base : ℕ) (t : Table) (k n : ℕ) → size t ≡ n → n ≤ 64
    → every
    (eqb (at ws (base + 5 * k + 1) / 2 ^ 24) 112
    ∷ ltb (beyond ws base k 1 2147483648) (2 ^ 24)
    ∷ ltb (beyond ws base k 2 2147483648) (2 ^ 24)
    ∷ ltb (beyond ws base k 3 2147483648) (2 ^ 16)
    ∷ stamp_fits (decode_message_at ws (base + 5 * k))
    ∷ every
    (leb (number (beyond ws base k 1 2147483648) (beyond ws base k 2 2147483648) (beyond ws base k 3 2147483648))
    (if uses_view (at ws (base + 5 * k) % 16) then 2 ^ n - 1 else 0)
    ∷ not
    (of_bits (number (beyond ws base k 1 2147483648) (beyond ws base k 2 2147483648) (beyond ws base k 3 2147483648))
    (at ws (base + 5 * k) / 2 ^ 10 % 64))
    ∷ [])
    ∷ [])
    ≡ rest_reads ws base t k
unfolding rest_reads
as_words ws base t k n e few =
    rw (
      second_kept ws base k,
      low_kept ws base k ∙ kind_test 24 128 (at ws (base + 5 * k + 2)) refl,
      middle_kept ws base k ∙ kind_test 24 128 (at ws (base + 5 * k + 3)) refl,
      high_kept ws base k ∙ kind_test 16 32768 (at ws (base + 5 * k + 4)) refl,
      view_test ws base k t (rw e few),
      value 24 (at ws (base + 5 * k + 2)) refl,
      value 24 (at ws (base + 5 * k + 3)) refl,
      value 16 (at ws (base + 5 * k + 4)) refl,
      e,
    )
    refl

pub rest_test : (ws : List ℕ) (base : ℕ) (types receivers : List ℕ) (t : Table) (n k : ℕ)
    → Tables types receivers n → size t ≡ n → n ≤ 64 → Small ws base k → nothing_wrong ws base types receivers k ≡ rest_reads ws base t k
unfolding rest_reads
rest_test ws base types receivers t n k given e few s =
    ap₂ ◌&&◌ (ap₂ ◌&&◌ (ap₂ ◌&&◌
    (lane ws base types receivers n k given 0 1879048192 (omega arith) s.stamp ∙ stamp_lane ws base n k (at ws (base + 5 * k) / 2 ^ 10 % 64))
    (lane ws base types receivers n k given 1 2147483648 (omega arith) s.low))
    (lane ws base types receivers n k given 2 2147483648 (omega arith) s.middle))
    (lane ws base types receivers n k given 3 2147483648 (omega arith) s.high)
    ∙ regroup (eqb (at ws (base + 5 * k + 1) / 2 ^ 24) 112 && stamp_fits (decode_message_at ws (base + 5 * k)))
    (ltb a (2 ^ room n type 1)) (ltb b (2 ^ room n type 2)) (ltb c (2 ^ room n type 3))
    (eqb (bit_and a (receiver_bit to 1)) 0) (eqb (bit_and b (receiver_bit to 2)) 0) (eqb (bit_and c (receiver_bit to 3)) 0)
    ∙ joined (eqb (at ws (base + 5 * k + 1) / 2 ^ 24) 112) (stamp_fits (decode_message_at ws (base + 5 * k)))
    (ltb a (2 ^ 24)) (ltb b (2 ^ 24)) (ltb c (2 ^ 16)) (leb (number a b c) (if uses_view type then 2 ^ n - 1 else 0)) (not (of_bits (number a b c) to))
    (ltb a (2 ^ room n type 1) && ltb b (2 ^ room n type 2) && ltb c (2 ^ room n type 3))
    (eqb (bit_and a (receiver_bit to 1)) 0 && eqb (bit_and b (receiver_bit to 2)) 0 && eqb (bit_and c (receiver_bit to 3)) 0)
    (limited (uses_view type) n a b c few)
    (λ h. without_receiver to a b c (mod-lt (at ws (base + 5 * k) / 2 ^ 10) (lit< tt)) (short a b c h))
    ∙ as_words ws base t k n e few
  where
    a : ℕ
    a = beyond ws base k 1 2147483648

    b : ℕ
    b = beyond ws base k 2 2147483648

    c : ℕ
    c = beyond ws base k 3 2147483648

    type : ℕ
    type = at ws (base + 5 * k) % 16

    to : ℕ
    to = at ws (base + 5 * k) / 2 ^ 10 % 64

-- ---- all of them

pub rests_test : (ws : List ℕ) (base : ℕ) (types receivers : List ℕ) (t : Table) (n m : ℕ) (r : Bool)
    → Tables types receivers n → size t ≡ n → n ≤ 64 → ((k : ℕ) → k < m → Small ws base k)
    → r ≡ all m (nothing_wrong ws base types receivers) → r ≡ all m (rest_reads ws base t)
rests_test ws base types receivers t n m r given e few s f =
    f ∙ all_cong (nothing_wrong ws base types receivers) (rest_reads ws base t) m (λ k h. rest_test ws base types receivers t n k given e few (s k h))
