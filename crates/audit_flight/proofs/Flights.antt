-- Messages, one after the other.
use mathlib.Core.Path.{◌≡◌, refl, sym, ap, ◌∙◌}
use mathlib.Core.Bool.{Bool, true, false, ◌&&◌}
use mathlib.Core.List.{List}
use Prim.Native.Nat.{ℕ, ◌+◌, ◌≤◌, ◌<◌}
use native.Mathlib.Numerals.{add-one}
use native.Mathlib.Omega.{arith}
use lib.Dec.{eqb}
use mir.Val.{bool_byte}
use lib.ListN.{length}
use Rattle.std.specs.Prelude.{if◌then◌else◌}
use Rattle.model.specs.Fields.{bit, bits}
use Rattle.model.specs.Sets.{Set, count}
use Rattle.model.specs.Types.{pong_replace, leave}
use Rattle.model.specs.Ring.{blank, is_running, message_at}
use Rattle.model.specs.Words.{at, message_place, decode_message_at, decode_message, decode}
use Rattle.model.proofs.Laws.{count_le, count_cong, length_tabulate, get_d_tabulate}
use Rattle.audit_account.specs.Points.{is_acknowledgement, is_late_leave, acknowledgements, late_leaves}

-- a truth as a number
pub byte_bit : (b : Bool) → bool_byte b ≡ bit b
byte_bit true = refl
byte_bit false = refl

one_more_lem : (S : Set) (i c : ℕ) (b : Bool) → c ≡ count i S → b ≡ S i → c + bit b ≡ count (i + 1) S
unfolding count
one_more_lem S i c b e f = rw (add-one i, e, f) (go (S i))
  where
    go : (s : Bool) → count i S + bit s ≡ count i S + (if s then 1 else 0)
    go true = refl
    go false = refl

module _ (ws : List ℕ) where
  abbrev acks : Set
  acks j = is_acknowledgement (decode_message ws j)

  abbrev leaves : Set
  leaves j = is_late_leave (decode ws) (decode_message ws j)

  -- those before i are counted
  pub record Looked (a l i : ℕ) : Type 0 where
    pub within : i ≤ length (decode ws).messages
    pub acknowledged : a ≡ count i acks
    pub left : l ≡ count i leaves

  pub looked_none : Looked 0 0 0
  unfolding count
  looked_none = record { within = omega arith; acknowledged = refl; left = refl }

  pub looked_more : {a l i : ℕ} → Looked a l i → i < length (decode ws).messages
      → (w tag sender : ℕ) → w ≡ at ws (message_place i) → tag ≡ bits 0 4 w → sender ≡ bits 4 6 w
      → (runs : Bool) → runs ≡ is_running (decode ws) sender
      → {b c : ℕ} → b ≡ bit (eqb tag pong_replace) → c ≡ bit (eqb tag leave && runs)
      → Looked (a + b) (l + c) (i + 1)
  unfolding decode_message_at
  looked_more {a} {l} {i} k h w tag sender e f g runs q {b} {c} p s =
      record {
        within = omega arith;
        acknowledged = rw p (one_more_lem acks i a (eqb tag pong_replace) k.acknowledged (rw (f, e)));
        left = rw s (one_more_lem leaves i l (eqb tag leave && runs) k.left (rw (q, g, f, e)));
      }

  pub looked_few : {a l i : ℕ} → Looked a l i → (a ≤ i) × (l ≤ i)
  looked_few {a} {l} {i} k = (omega (arith, k.acknowledged, count_le i acks), omega (arith, k.left, count_le i leaves))

  module _ {a l i : ℕ} (k : Looked a l i) (end : length (decode ws).messages ≤ i) where
    same : i ≡ length (decode ws).messages
    same = omega (arith, k.within)

    message_is : (j : ℕ) → j < length (decode ws).messages → decode_message ws j ≡ message_at (decode ws) j
    unfolding decode
    message_is j h = sym (get_d_tabulate (decode_message ws) blank (bits 11 11 (at ws 0)) j
        (rw (length_tabulate (decode_message ws) (bits 11 11 (at ws 0))) at h))

    pub all_acknowledged : a ≡ acknowledgements (decode ws)
    unfolding acknowledgements
    all_acknowledged =
        k.acknowledged ∙ ap (λ (j : ℕ). count j acks) same
        ∙ count_cong (length (decode ws).messages) acks (λ j. is_acknowledgement (message_at (decode ws) j)) (λ j h. ap is_acknowledgement (message_is j h))

    pub all_left : l ≡ late_leaves (decode ws)
    unfolding late_leaves
    all_left =
        k.left ∙ ap (λ (j : ℕ). count j leaves) same
        ∙ count_cong (length (decode ws).messages) leaves (λ j. is_late_leave (decode ws) (message_at (decode ws) j))
        (λ j h. ap (is_late_leave (decode ws)) (message_is j h))
