-- A join taken apart is the two rings, so nothing of them is lost: what rose by n falls by n, and what is no node of a ring is fresh.
use mathlib.Core.Path.{◌≡◌, refl, sym, ap, ap₂, ◌∙◌}
use Prim.Native.Nat.{ℕ, ◌+◌, ◌-◌, ◌≤◌, ◌<◌}
use native.Mathlib.Omega.{arith}
use mathlib.Core.Bool.{Bool, false, ◌&&◌}
use mathlib.Core.List.{List, ◌∷◌, ◌++◌, map}
use lib.ListN.{length, drop}
use lib.Seq.{take-append_seam, drop-append_seam}
use lib.Dec.{ltb, leb}
use borrow.Author.Tests.{le-leb, ltb-false, ne_eqb}
use Rattle.std.specs.Prelude.{if◌then◌else◌}
use Rattle.model.specs.Sets.{Set}
use Rattle.model.specs.Leafset.{size}
use Rattle.model.specs.Ring.{Node, Message, Ring, fresh}
use Rattle.model.specs.WellFormed.{Spare, none, spare, WellFormedNode, WellFormedMessage, WellFormed, Each, nil, cons}
use Rattle.model.specs.Types.{uses_subject, names_spare}
use Rattle.model.specs.Join.{raised, raised_set, raised_node, raised_message, join, Joinable}
use Rattle.model.specs.Join.{lowered, lowered_node, lowered_message, first_part, second_part}
use Rattle.model.proofs.Laws.{decide, is_false, if_law}
use Rattle.model.proofs.Joins.{raised_is, second_node}

-- a node that is none of n is fresh
beyond_fresh : {n x : ℕ} (s : Node) → (x < n → ⊥) → WellFormedNode n x s → s ≡ fresh
beyond_fresh s d g =
    let off : s.running ≡ false = is_false s.running (λ e. d (g.running_low e)) in
    λ i. record {
      running = off i;
      clock = g.clock_none d i;
      own = record {
        held = λ z. g.off_held off z i;
        candidates = λ z. g.off_candidates off z i;
        commit = λ z. g.own_well.commit_none z (g.off_held off z) i;
        spare = λ z. g.own_well.spare_none z (g.off_held off z) i;
      };
    }

-- ---- numbers of a table of k, risen by n and fallen again

module _ (n k : ℕ) (room : n + k ≤ 64) where
  number_back : (y : ℕ) → y < k → lowered n (raised n y) ≡ y
  number_back y h = ap (lowered n) (raised_is n k room y h) ∙ rw (ne_eqb (y + n) 64 (λ e. omega arith)) (omega arith)

  spare_back : {x z y : ℕ} → Spare k x z y → lowered n (raised n y) ≡ y
  spare_back none = refl
  spare_back (spare {y} o d) = number_back y o.low

  set_back : (S : Set) (y : ℕ) → raised_set n S (y + n) ≡ S y
  set_back S y =
      let e : y + n - n ≡ y = omega arith in
      ap₂ (λ (p : Bool) (i : ℕ). p && S i) (le-leb n (y + n) (omega arith)) e

  -- what a risen record says of z + n
  at_risen : {A : Type 0} (f : ℕ → A) (v : A) (z : ℕ) → (if leb n (z + n) then f (z + n - n) else v) ≡ f z
  at_risen f v z =
      let e : z + n - n ≡ z = omega arith in
      ap₂ (λ (p : Bool) (i : ℕ). if p then f i else v) (le-leb n (z + n) (omega arith)) e

  node_back : {x : ℕ} (s : Node) → WellFormedNode k x s → lowered_node n (raised_node n s) ≡ s
  node_back s g =
      λ i. record {
        running = s.running;
        clock = s.clock;
        own = record {
          held = λ z. set_back s.own.held z i;
          candidates = λ z. set_back s.own.candidates z i;
          commit = λ z. at_risen s.own.commit 0 z i;
          spare = λ z. spare_risen z i;
        };
      }
    where
      spare_risen : (z : ℕ) → lowered n (if leb n (z + n) then raised n (s.own.spare (z + n - n)) else 64) ≡ s.own.spare z
      spare_risen z = ap (lowered n) (at_risen (λ y. raised n (s.own.spare y)) 64 z) ∙ spare_back (g.own_well.spare_other z)

  subject_back : (m : Message) → WellFormedMessage k m → lowered n (raised n m.subject) ≡ m.subject
  subject_back m g =
      decide (uses_subject m.type)
      (λ u. decide (names_spare m.type) (λ e. spare_back (g.subject_spare e)) (λ e. number_back m.subject (g.subject_low u e)))
      (λ u. let e : m.subject ≡ 64 = g.subject_none u in ap (λ y. lowered n (raised n y)) e ∙ sym e)

  message_back : (m : Message) → WellFormedMessage k m → lowered_message n (raised_message n m) ≡ m
  message_back m g =
      λ i. record {
        type = m.type;
        sender = number_back m.sender g.sender_low i;
        receiver = number_back m.receiver g.receiver_low i;
        subject = subject_back m g i;
        stamp = m.stamp;
        view = λ y. set_back m.view y i;
      }

  messages_back : {l : List Message} → Each (WellFormedMessage k) l → map (lowered_message n) (map (raised_message n) l) ≡ l
  messages_back nil = refl
  messages_back (cons {a} g e) = ap₂ (λ m l. m ∷ l) (message_back a g) (messages_back e)

-- ---- the two parts

module _ (r s : Ring) where
  abbrev n : ℕ
  n = size r.table

  pub first_back : WellFormed r → first_part (size r.table) (length r.messages) (join r s) ≡ r
  unfolding first_part join
  first_back g =
      λ i. record {
        table = record { sides = r.table.sides; keys = take-append_seam r.table.keys s.table.keys i };
        node = λ x. node x i;
        messages = take-append_seam r.messages (map (raised_message n) s.messages) i;
      }
    where
      node : (x : ℕ) → (if ltb x n then (if ltb x n then r.node x else raised_node n (s.node (x - n))) else fresh) ≡ r.node x
      node x =
          if_law (λ (m : Node). m ≡ r.node x) (ltb x n) (if ltb x n then r.node x else raised_node n (s.node (x - n))) fresh
          (λ e. rw e)
          (λ e. sym (beyond_fresh (r.node x) (λ l. let f = ltb-false x n e in omega arith) (g.node_well x)))

  module _ (h : WellFormed s) (may : Joinable r s) where
    second_nodes : (x : ℕ) → lowered_node n ((join r s).node (x + n)) ≡ s.node x
    second_nodes x =
        let e : x + n - n ≡ x = omega arith in
        ap (lowered_node n) (second_node r s (x + n) (omega arith) ∙ ap (λ (y : ℕ). raised_node n (s.node y)) e)
        ∙ node_back n (size s.table) may.size_fits (s.node x) (h.node_well x)

    second_messages : map (lowered_message n) (drop (length r.messages) (r.messages ++ map (raised_message n) s.messages)) ≡ s.messages
    second_messages =
        ap (map (lowered_message n)) (drop-append_seam r.messages (map (raised_message n) s.messages))
        ∙ messages_back n (size s.table) may.size_fits h.messages_well

    pub second_back : second_part (size r.table) (length r.messages) (join r s) ≡ s
    unfolding second_part join
    second_back =
        λ i. record {
          table = record { sides = may.same_sides i; keys = drop-append_seam r.table.keys s.table.keys i };
          node = λ x. second_nodes x i;
          messages = second_messages i;
        }
