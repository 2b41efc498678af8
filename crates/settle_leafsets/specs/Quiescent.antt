-- Quiescent: what is left of a ring after fair rounds in which no leafset changes; source 000, after its time t2: "leafsets of all nodes stop change".
-- It speaks of the leafsets of the held, which stay as they are in such rounds, and not of who else is held, which may change in them.
use Rattle.std.specs.Prelude.{◌≡◌, ℕ, suc, ◌<◌, true, false}
use Rattle.model.specs.Sets.{Set, none_node}
use Rattle.model.specs.Leafset.{size, leafset, closest, successor, passes_zero}
use Rattle.model.specs.Ring.{Ring, holds, is_running}
use Rattle.settle_leafsets.specs.Covered.{lacks}

module _ (r : Ring) where
  -- x's leafset of the nodes that it holds
  abbrev pub chosen : ℕ → Set
  chosen x = leafset r.table x (holds r x)

  -- whom z offers x on type 7, or 64
  abbrev pub offer_of : ℕ → ℕ → ℕ
  offer_of z x = closest r.table z (holds r z) x

  -- z is held at x, or comes in by k replacements: the last one, outside the leafset, offered it
  pub data Meets (x : ℕ) : ℕ → ℕ → Type 0 where
    held : {z : ℕ} → holds r x z ≡ true → Meets x 0 z
    replaced : {k y z : ℕ} → Meets x k z → chosen x z ≡ false → offer_of z x ≡ y → (y ≡ none_node → ⊥) → Meets x (suc k) y

  -- type 11 goes from a by k successors to p, the first one to pass zero
  pub data Arrives : ℕ → ℕ → ℕ → Type 0 where
    here : {p : ℕ} → passes_zero r.table p (holds r p) ≡ true → Arrives 0 p p
    onward : {k a b p : ℕ} → passes_zero r.table a (holds r a) ≡ false → successor r.table a (holds r a) ≡ b → Arrives k b p → Arrives (suc k) a p

  -- Nobody lacks any node that the messages of a round would tell it of.
  pub record Quiescent : Type 0 where
    -- In each round x becomes a candidate at the nodes of its leafset (type 3): none of them lacks it. Lemma 11: "y adds x into y.cand"
    pub asks : (x w : ℕ) → is_running r x ≡ true → chosen x w ≡ true → lacks r w x ≡ false
    -- It gets their views (type 4): it lacks nobody of their leafsets. Lemma 11: "there exists at least one node z ∈ view \ x.neighbors"
    pub hears : (x w y : ℕ) → is_running r x ≡ true → chosen x w ≡ true → chosen w y ≡ true → lacks r x y ≡ false
    -- A node outside x's leafset that offers x nobody (type 8) stays, and x asks it: it does not lack x. Lemma 13: "x will send a PING-ASK-INV message"
    pub offers :
        (x k z : ℕ) → is_running r x ≡ true → k < size r.table → Meets x k z → chosen x z ≡ false → offer_of z x ≡ none_node → lacks r z x ≡ false
    -- A node that passes zero, and the first one to pass zero from its successor on (types 11 and 12; it may be the same): neither lacks the other.
    -- Lemma 12: "v_j adds v_0 into v_j.cand", "it adds v_j into v_0.cand"
    pub passes :
        (o k p : ℕ) → is_running r o ≡ true → passes_zero r.table o (holds r o) ≡ true
        → k < size r.table → Arrives k (successor r.table o (holds r o)) p
        → (lacks r o p ≡ false) × (lacks r p o ≡ false)
