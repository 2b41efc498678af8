-- How many messages a node has in flight: what comes to a list comes to its counts, and what an event sends is its own node's.
use mathlib.Core.Path.{◌≡◌, refl}
use Prim.Native.Nat.{ℕ, zero, suc, ◌+◌, ◌≤◌, ◌<◌}
use native.Mathlib.Nat.{add-zero, add-suc, suc-add}
use native.Mathlib.Omega.{arith}
use mathlib.Core.Bool.{true}
use mathlib.Core.List.{List, [], ◌∷◌, ◌++◌, map}
use lib.ListN.{length, get_or, take, drop}
use lib.Dec.{leb, eqb}
use borrow.Author.Tests.{leb-true, le-leb, eq-eqb, ne_eqb}
use Rattle.std.specs.Prelude.{if◌then◌else◌}
use Rattle.model.specs.Sets.{tabulate_from}
use Rattle.model.specs.Leafset.{size}
use Rattle.model.specs.Ring.{Message, Ring, blank, sent_by}
use Rattle.model.specs.Words.{senders_fit}
use Rattle.model.specs.WellFormed.{Each, nil, cons}
use Rattle.model.proofs.Laws.{if_law, all_in, all_out}

-- 1 where x sent the message
abbrev pub one_of : ℕ → Message → ℕ
one_of x m = if eqb m.sender x then 1 else 0

module _ (x : ℕ) where
  pub sent_append : (k l : List Message) → sent_by x (k ++ l) ≡ sent_by x k + sent_by x l
  unfolding sent_by
  sent_append [] l = omega arith
  sent_append (m ∷ k) l = omega (arith, sent_append k l)

  -- taking one out makes its place free
  pub sent_without : (l : List Message) (i : ℕ) → i < length l → sent_by x (take i l ++ drop (suc i) l) + one_of x (get_or l i blank) ≡ sent_by x l
  unfolding sent_by
  sent_without [] i h = absurd (omega arith)
  sent_without (m ∷ l) zero h = omega arith
  sent_without (m ∷ l) (suc i) h = omega (arith, sent_without l i (omega arith))

  -- what others sent
  pub sent_none : {l : List Message} → Each (λ m. m.sender ≡ x → ⊥) l → sent_by x l ≡ 0
  unfolding sent_by
  sent_none nil = refl
  sent_none (cons {a = m} d e) = rw (ne_eqb m.sender x d, sent_none e)

  -- no more than there are
  pub sent_le : (l : List Message) → sent_by x l ≤ length l
  unfolding sent_by
  sent_le [] = omega arith
  sent_le (m ∷ l) = let h = sent_le l in if_law (λ k. k + sent_by x l ≤ suc (length l)) (eqb m.sender x) 1 0 (λ e. omega arith) (λ e. omega arith)

  -- what x sent
  pub sent_all : {l : List Message} → Each (λ m. m.sender ≡ x) l → sent_by x l ≡ length l
  unfolding sent_by
  sent_all nil = refl
  sent_all (cons {a = m} d e) = rw (eq-eqb m.sender x d, sent_all e) (omega arith)

  -- one after the other
  pub sent_next : (l : List Message) (i : ℕ) → i < length l → sent_by x (take (suc i) l) ≡ sent_by x (take i l) + one_of x (get_or l i blank)
  unfolding sent_by
  sent_next [] i h = absurd (omega arith)
  sent_next (m ∷ l) zero h = omega arith
  sent_next (m ∷ l) (suc i) h = omega (arith, sent_next l i (omega arith))

-- a map that takes sender x to sender y, and no other there
pub sent_map : (f : Message → Message) (x y : ℕ) {l : List Message} → Each (λ m. eqb (f m).sender y ≡ eqb m.sender x) l → sent_by y (map f l) ≡ sent_by x l
unfolding sent_by
sent_map f x y nil = refl
sent_map f x y (cons e es) = rw (e, sent_map f x y es)

pub senders_in : (r : Ring) → ((x : ℕ) → x < size r.table → sent_by x r.messages ≤ 256) → senders_fit r ≡ true
unfolding senders_fit
senders_in r f = all_in (size r.table) _ (λ x h. le-leb (sent_by x r.messages) 256 (f x h))

pub senders_out : (r : Ring) → senders_fit r ≡ true → (x : ℕ) → x < size r.table → sent_by x r.messages ≤ 256
unfolding senders_fit
senders_out r e x h = leb-true (sent_by x r.messages) 256 (all_out (size r.table) (λ y. leb (sent_by y r.messages) 256) e x h)

-- of the first messages, one more
pub sent_more : (x i k : ℕ) (f : ℕ → Message) → sent_by x (tabulate_from i (suc k) f) ≡ sent_by x (tabulate_from i k f) + one_of x (f (i + k))
unfolding sent_by tabulate_from
sent_more x i zero f = rw (add-zero i) (omega arith)
sent_more x i (suc k) f = rw (add-suc i k, sent_more x (suc i) k f, suc-add i k) (omega arith)
