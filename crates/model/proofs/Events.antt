-- Demand 2: every event that can be written has one word, and that word reads as that event and no other.
use mathlib.Core.Path.{◌≡◌, refl, sym, ap, ◌∙◌}
use mathlib.Core.List.{[], ◌∷◌}
use lib.ListN.{length}
use Prim.Native.Nat.{ℕ, ◌+◌, ◌*◌, ◌^◌, ◌<◌}
use native.Mathlib.Omega.{arith}
use mathlib.Core.Bool.{Bool, true, false}
use lib.Dec.{ltb, eqb, lit<}
use borrow.Author.Tests.{ltb-true, leb-true, eqb-true, eq-eqb}
use Rattle.std.specs.Prelude.{if◌then◌else◌}
use Rattle.model.specs.WellFormed.{Each, nil, cons}
use Rattle.model.specs.Fields.{bits, bit, flag, kind, of_kind}
use Rattle.model.specs.Answers.{first_of, is_accepted}
use Rattle.model.specs.Events.{word_of, event_of, parts_fit, same_node, event_refusals, event_answer}
use Rattle.model.specs.Events.{is_event_word, word_refusals, word_answer, read_event, reading_of}
use Rattle.model.specs.declared.event.Event.{Event}
use Rattle.model.specs.declared.event.Event.TheVariants.{On, Off, Notice, Contact, Timer, Deliver, Lose}
use Rattle.std.specs.Prelude.{Ok}
use Rattle.model.proofs.Laws.{and_left, and_right, not_out_false}
use Rattle.model.proofs.Lists.{first, rest}
use Rattle.model.proofs.Fields.{field}
use Rattle.model.proofs.Bits.{bit<, is_bit}
use Rattle.model.proofs.Answers.{accepted_is, none_applies}

-- ---- the named bits of an event's word

kind_is : (k v : ℕ) → k < 16 → v < 2 ^ 28 → kind (of_kind k v) ≡ k
kind_is k v h l = field 28 4 0 k v (omega arith) l h

low_is : (k width hi v : ℕ) → 2 ^ 28 ≡ hi * 2 ^ width → v < 2 ^ width → bits 0 width (of_kind k v) ≡ v
low_is k width hi v e h = field 0 width (k * hi) v 0 (ap (λ (w : ℕ). k * w + v) e ∙ omega arith) (lit< tt) h

-- x, of so many bits, below another part v, which starts at bit `low`
record TwoParts (k many low width x v : ℕ) : Type 0 where
  kind_back : kind (of_kind k (v * 2 ^ low + x)) ≡ k
  low_back : bits 0 many (of_kind k (v * 2 ^ low + x)) ≡ x
  high_back : bits low width (of_kind k (v * 2 ^ low + x)) ≡ v

two_nodes : (k x z : ℕ) → k < 16 → x < 64 → z < 64 → TwoParts k 6 6 6 x z
two_nodes k x z hk h l =
    record {
      kind_back = kind_is k (z * 2 ^ 6 + x) hk (omega arith);
      low_back = field 0 6 (k * 2 ^ 22 + z) x 0 (omega arith) (lit< tt) h;
      high_back = field 6 6 (k * 2 ^ 16) z x (omega arith) h l;
    }

node_and_number : (k x i : ℕ) → k < 16 → x < 64 → i < 8 → TwoParts k 6 12 3 x i
node_and_number k x i hk h l =
    record {
      kind_back = kind_is k (i * 2 ^ 12 + x) hk (omega arith);
      low_back = field 0 6 (k * 2 ^ 22 + i * 2 ^ 6) x 0 (omega arith) (lit< tt) h;
      high_back = field 12 3 (k * 2 ^ 13) i x (omega arith) (omega arith) l;
    }

position_and_mark : (i v : ℕ) → i < 1024 → v < 2 → TwoParts 14 10 10 1 i v
position_and_mark i v h l =
    record {
      kind_back = kind_is 14 (v * 2 ^ 10 + i) (lit< tt) (omega arith);
      low_back = field 0 10 (14 * 2 ^ 18 + v) i 0 (omega arith) (lit< tt) h;
      high_back = field 10 1 (14 * 2 ^ 17) v i (omega arith) h l;
    }

-- a mark, whose number is the lowest bit there
mark_back : (w : ℕ) (b : Bool) → bits 12 3 w ≡ bit b → flag 12 w ≡ b
mark_back w b e = ap (λ (v : ℕ). eqb v 1) (lowest (bit b) e (bit< b)) ∙ is_bit b
  where
    lowest : (v : ℕ) → bits 12 3 w ≡ v → v < 2 → bits 12 1 w ≡ v
    lowest v i h = omega arith

-- the named bits of an event's word give that event
pub event_of_word : (e : Event) → parts_fit e ≡ true → event_of (word_of e) ≡ e
unfolding event_of
event_of_word (On x) t =
    let h = ltb-true x.0 64 t in
    rw (kind_is 9 x.0 (lit< tt) (omega arith), low_is 9 6 (2 ^ 22) x.0 refl h)
event_of_word (Off x polite) t =
    let p = node_and_number 10 x.0 (bit polite) (lit< tt) (ltb-true x.0 64 t) (omega (arith, bit< polite)) in
    rw (p.kind_back, p.low_back, mark_back _ polite p.high_back)
event_of_word (Notice x z) t =
    let p = two_nodes 11 x.0 z.0 (lit< tt) (ltb-true x.0 64 (and_left _ _ t)) (ltb-true z.0 64 (and_right (ltb x.0 64) _ t)) in
    rw (p.kind_back, p.low_back, p.high_back)
event_of_word (Contact x y) t =
    let p = two_nodes 12 x.0 y.0 (lit< tt) (ltb-true x.0 64 (and_left _ _ t)) (ltb-true y.0 64 (and_right (ltb x.0 64) _ t)) in
    rw (p.kind_back, p.low_back, p.high_back)
event_of_word (Timer x i) t =
    let p = node_and_number 13 x.0 i (lit< tt) (ltb-true x.0 64 (and_left _ _ t))
    (omega (arith, leb-true i 4 (and_left _ _ (and_right (ltb x.0 64) _ t)))) in
    rw (p.kind_back, p.low_back, p.high_back)
event_of_word (Deliver i echo) t =
    let p = position_and_mark i (bit echo) (ltb-true i 1024 t) (bit< echo) in
    rw (p.kind_back, p.low_back, p.high_back, is_bit echo)
event_of_word (Lose i) t =
    let h = ltb-true i 1024 t in
    rw (kind_is 15 i (lit< tt) (omega arith), low_is 15 10 (2 ^ 18) i refl h)

-- ---- writing and reading

-- what an event that can be written is
pub record Writable (e : Event) : Type 0 where
  pub parts_fit_lem : parts_fit e ≡ true
  pub differ : same_node e ≡ false

pub writable : (e : Event) → event_answer e ≡ 0 → Writable e
unfolding event_answer
writable e a =
    let p = none_applies (event_refusals e) (cons refl (cons refl nil)) a in
    record { parts_fit_lem = not_out_false (parts_fit e) (first p); differ = first (rest p) }

-- an event's word reads as that event
pub reads : (e : Event) → event_answer e ≡ 0 → read_event (word_of e) ≡ reading_of (Ok e)
unfolding read_event word_answer first_of
reads e a =
    let p : Writable e = writable e a in
    rw (event_of_word e p.parts_fit_lem, eq-eqb (word_of e) (word_of e) refl, p.parts_fit_lem, p.differ)

pub no_other : (d e : Event) → event_answer d ≡ 0 → event_answer e ≡ 0 → word_of d ≡ word_of e → d ≡ e
no_other d e a b i = sym (event_of_word d (writable d a).parts_fit_lem) ∙ ap event_of i ∙ event_of_word e (writable e b).parts_fit_lem

-- what is known of a word that reads as an event
pub record EventWord (w : ℕ) (e : Event) : Type 0 where
  pub word : w ≡ word_of e
  pub well : Writable e

-- no refusal from the word applies
pub event_word : (w : ℕ) → Each (λ q. q.applies ≡ false) (word_refusals w) → EventWord w (event_of w)
event_word w p =
    let is : is_event_word w ≡ true = not_out_false (is_event_word w) (first p) in
    let same : eqb w (word_of (event_of w)) ≡ true = and_left (eqb w (word_of (event_of w))) (parts_fit (event_of w)) is in
    record {
      word = eqb-true w (word_of (event_of w)) same;
      well = record { parts_fit_lem = and_right (eqb w (word_of (event_of w))) (parts_fit (event_of w)) is; differ = first (rest p) };
    }

accepted_word : (w : ℕ) → is_accepted (word_answer w) ≡ true → EventWord w (event_of w)
unfolding word_answer
accepted_word w a = event_word w (none_applies (word_refusals w) (cons refl (cons refl nil)) (accepted_is (first_of (word_refusals w)) a))

pub reads_as : (w : ℕ) (e : Event) → read_event w ≡ reading_of (Ok e) → EventWord w e
unfolding read_event
reads_as w e h = by_answer (is_accepted (word_answer w)) refl (ap (λ r. r.event) h)
  where
    by_answer : (b : Bool) → is_accepted (word_answer w) ≡ b → (if b then event_of w ∷ [] else []) ≡ e ∷ [] → EventWord w e
    by_answer true a q = let i : event_of w ≡ e = cc in rw i at (accepted_word w a)
    by_answer false a q = absurd (let z : ◌≡◌ {A = ℕ} 0 1 = ap length q in omega arith)
