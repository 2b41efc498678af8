-- What the screens show of words that read as a ring, from the parts that are loaded of them.
use mathlib.Core.Path.{◌≡◌, refl, sym, ap, ◌∙◌}
use mathlib.Core.Bool.{Bool, true, false, not, ◌&&◌}
use mathlib.Core.List.{List}
use Prim.Native.Nat.{ℕ, zero, suc, ◌+◌, ◌-◌, ◌*◌, ◌/◌, ◌%◌, ◌^◌, ◌<◌, ◌≤◌}
use native.Mathlib.Omega.{arith}
use native.Mathlib.Nat.{add-sub_cancel_left}
use lib.ListN.{length, take, drop, replicate, get_or-replicate, length-replicate}
use lib.Seq.{ext_get_or}
use lib.Dec.{ltb, eqb}
use borrow.Author.Tests.{lt-ltb, le-ltb}
use Rattle.std.specs.Prelude.{if◌then◌else◌}
use Rattle.model.specs.Sets.{Set, of_bits, to_bits, tabulate}
use Rattle.model.specs.Leafset.{size, key, leafset}
use Rattle.model.specs.Ring.{Own, holds, is_running}
use Rattle.model.specs.WellFormed.{WellFormedNode}
use Rattle.model.specs.Words.{is_pair, decode_table, decode_own, decode_node, decode, reads_as_ring}
use Rattle.model.specs.Structs.{stamp_at, spare_at}
use Rattle.model.specs.Answers.{is_accepted}
use Rattle.model.specs.Buffer.{ring_answer}
use Rattle.model.specs.Screens.{seen, shown_leafset, conductor_screen, technician_screen, of_pair_at, by_pair, shown_stamps, shown_spares, messages_in}
use Rattle.model.specs.Screens.{empty_conductor, empty_technician, conductor_of, technician_of, stamps_of, spares_of, messages_of}
use Rattle.model.specs.declared.screen.ConductorScreen.{ConductorScreen}
use Rattle.model.specs.declared.screen.TechnicianScreen.{TechnicianScreen}
use Rattle.model.specs.declared.node.NodeRecord.{NodeRecord}
use Rattle.model.specs.declared.values.Sides.{Sides}
use Rattle.model.proofs.Laws.{decide, is_false}
use Rattle.model.proofs.Decoded.{reads_well}
use Rattle.leafset.proofs.Leaves.{from_set}
use Rattle.ring_ranges.specs.Spans.{Patched}
use Rattle.ring_ranges.proofs.Patches.{patched_join, patched_all}
use Rattle.ring_pairs.specs.Loaded.{LoadedNode}
use Rattle.call_screens.specs.Rows.{spare_in}

-- place i of row x
row_of : (x i : ℕ) → 64 * x ≤ i → i < 64 * x + 64 → i / 64 ≡ x
row_of x i a b = omega arith

place_of : (x i : ℕ) → 64 * x ≤ i → i < 64 * x + 64 → i % 64 ≡ i - 64 * x
place_of x i a b = omega arith

only_pair : (b : Bool) (v : ℕ) → (b ≡ false → v ≡ 0) → v ≡ (if b then v else 0)
only_pair true v e = refl
only_pair false v e = e refl

module _ (ws : List ℕ) (x : ℕ) {own : NodeRecord} (loaded : LoadedNode ws x own) where
  pub stamp_shown : (i : ℕ) → 64 * x ≤ i → i < 64 * x + 64 → stamp_at own (i - 64 * x) ≡ of_pair_at (decode ws) (λ o. o.commit) i
  unfolding decode decode_node decode_own
  stamp_shown i a b =
      let z : ℕ = i - 64 * x in
      rw (row_of x i a b, place_of x i a b)
      (ap (λ (o : Own). o.commit z) loaded.own ∙ only_pair (is_pair (decode_table ws) x z) ((decode_own ws x).commit z) (λ f. rw f))

  pub candidates_shown : own.candidates ≡ to_bits 64 ((decode ws).node x).own.candidates
  unfolding decode decode_node
  candidates_shown = from_set loaded.candidates_room (ap (λ (o : Own). o.candidates) loaded.own)

  pub spare_shown : (n : ℕ) → n ≡ size (decode_table ws) → x < n → (i : ℕ) → 64 * x ≤ i → i < 64 * x + 64
      → spare_in n x own (i - 64 * x) ≡ of_pair_at (decode ws) (λ o. o.spare) i
  unfolding decode decode_node decode_own
  spare_shown n e h i a b =
      let z : ℕ = i - 64 * x in
      let low = lt-ltb x (size (decode_table ws)) (rw e at h) in
      let spare : spare_at own z ≡ (decode_own ws x).spare z = ap (λ (o : Own). o.spare z) loaded.own in
      rw (e, row_of x i a b, place_of x i a b, low) (ap (λ (v : ℕ). if ltb z (size (decode_table ws)) && not (eqb x z) then v else 0) (rw low at spare))

-- the rows of all nodes, and zeros from there on
pub rows_all : (ws : List ℕ) (part : Own → ℕ → ℕ) (n : ℕ) → n ≡ size (decode_table ws) → n ≤ 64 → {l l' l'' : List ℕ} → length l ≡ 4096
    → Patched l l' 0 (64 * size (decode_table ws)) (of_pair_at (decode ws) part) → Patched l' l'' (64 * n) 4096 (λ i. 0) → l'' ≡ by_pair (decode ws) part
unfolding decode
rows_all ws part n e h {l'' = l''} many rows rest =
    patched_all 4096 (of_pair_at (decode ws) part) many
    (patched_join (omega arith) (omega arith) (rw (sym e) at rows) rest (λ i low high. sym (rw (le-ltb (i / 64) (size (decode_table ws)) (omega arith)))))
    (λ i low high. absurd (omega arith))

-- ---- leafsets and candidates

no_bits : (k : ℕ) (S : Set) → ((y : ℕ) → S y ≡ false) → to_bits k S ≡ 0
unfolding to_bits
no_bits zero S e = refl
no_bits (suc k) S e = rw (no_bits k S e, e k)

module _ (ws : List ℕ) where
  module _ (x : ℕ) {b : Bool} (is : b ≡ (decode_node ws x).running) where
    -- of a node that is off, none
    pub leafset_off : b ≡ false → 0 ≡ shown_leafset (seen (decode ws)) x
    unfolding decode
    leafset_off e = rw (sym is ∙ e)

  module _ (reads : reads_as_ring ws ≡ true) where
    -- from n on nobody runs
    far_off : (x : ℕ) → size (decode_table ws) ≤ x → is_running (decode ws) x ≡ false
    unfolding decode
    far_off x h = is_false (is_running (decode ws) x) (λ t. absurd (omega (arith, ((reads_well ws reads).node_well x).running_low t)))

    well : (x : ℕ) → WellFormedNode (size (decode ws).table) x ((decode ws).node x)
    well x = (reads_well ws reads).node_well x

    -- one that is off holds nobody, and has no candidates
    off_leafset : (x : ℕ) → is_running (decode ws) x ≡ false → to_bits 64 (leafset (decode ws).table x (holds (decode ws) x)) ≡ 0
    unfolding leafset
    off_leafset x off = no_bits 64 (leafset (decode ws).table x (holds (decode ws) x)) (λ y. rw ((well x).off_held off y))

    off_candidates : (x : ℕ) → is_running (decode ws) x ≡ false → to_bits 64 ((decode ws).node x).own.candidates ≡ 0
    off_candidates x off = no_bits 64 ((decode ws).node x).own.candidates ((well x).off_candidates off)

    pub leafset_shown : (x : ℕ) {v : ℕ} → v ≡ to_bits 64 (leafset (decode ws).table x (holds (decode ws) x)) → v ≡ shown_leafset (seen (decode ws)) x
    leafset_shown x e = decide (is_running (decode ws) x) (λ t. e ∙ rw t) (λ f. e ∙ off_leafset x f ∙ rw f)

    pub candidates_all : {l : List ℕ} {to : ℕ} → Patched (replicate 64 0) l 0 to (λ x. to_bits 64 ((decode ws).node x).own.candidates)
        → to ≡ size (decode_table ws) → l ≡ tabulate 64 (λ x. to_bits 64 ((decode ws).node x).own.candidates)
    candidates_all p e =
        patched_all 64 (λ x. to_bits 64 ((decode ws).node x).own.candidates) refl p
        (λ i h k. get_or-replicate {A = ℕ} 64 i 0 0 k ∙ sym (off_candidates i (far_off i (omega arith))))

    pub leafsets_all : {l : List ℕ} {to : ℕ} → Patched (replicate 64 0) l 0 to (shown_leafset (seen (decode ws))) → to ≡ size (decode_table ws)
        → l ≡ tabulate 64 (shown_leafset (seen (decode ws)))
    leafsets_all p e =
        patched_all 64 (shown_leafset (seen (decode ws))) refl p
        (λ i h k. get_or-replicate {A = ℕ} 64 i 0 0 k ∙ sym (rw (far_off i (omega arith))))

    -- ---- the conductor's screen

    pub screen_of : {sides : Sides} {n running : ℕ} {keys leafsets : List ℕ} → sides ≡ (decode_table ws).sides → n ≡ size (decode_table ws)
        → running < 2 ^ 64 → ((x : ℕ) → of_bits running x ≡ is_running (decode ws) x)
        → keys ≡ tabulate 64 (key (decode_table ws)) → leafsets ≡ tabulate 64 (shown_leafset (seen (decode ws)))
        → record { sides = sides; nodes = n; running = running; keys = keys; leafsets = leafsets } ≡ conductor_screen (seen (decode ws))
    unfolding decode conductor_screen
    screen_of s n h r k l = λ i. record { sides = s i; nodes = n i; running = from_set h (λ j x. r x j) i; keys = k i; leafsets = l i }

-- ---- the calls, refused and accepted

pub all_cleared : {l l' : List ℕ} → length l ≡ 4096 → Patched l l' 0 4096 (λ i. 0) → l' ≡ replicate 4096 0
all_cleared {l' = l'} many p =
    let long : length l' ≡ 4096 = p.long ∙ many in
    ext_get_or 0 l' (replicate 4096 0) (long ∙ sym (length-replicate {A = ℕ} 4096 0))
    (λ i h. p.inside i (omega arith) (omega arith) ∙ sym (get_or-replicate {A = ℕ} 4096 i 0 0 (omega arith)))

module _ (ws : List ℕ) where
  pub conductor_refused : is_accepted (ring_answer ws) ≡ false → {c : ConductorScreen} → c ≡ empty_conductor → c ≡ conductor_of ws
  unfolding conductor_of
  conductor_refused n e = e ∙ rw n

  pub conductor_given : ring_answer ws ≡ 0 → {c : ConductorScreen} → c ≡ conductor_screen (seen (decode ws)) → c ≡ conductor_of ws
  unfolding conductor_of
  conductor_given a e = e ∙ rw a

  pub technician_refused : is_accepted (ring_answer ws) ≡ false → {c : TechnicianScreen} → c ≡ empty_technician → c ≡ technician_of ws
  unfolding technician_of
  technician_refused n e = e ∙ rw n

  pub technician_given : ring_answer ws ≡ 0 → {c : TechnicianScreen} → c ≡ technician_screen (decode ws) → c ≡ technician_of ws
  unfolding technician_of
  technician_given a e = e ∙ rw a

  pub stamps_refused : is_accepted (ring_answer ws) ≡ false → {l : List ℕ} → l ≡ replicate 4096 0 → l ≡ stamps_of ws
  unfolding stamps_of
  stamps_refused n e = e ∙ rw n

  pub stamps_given : ring_answer ws ≡ 0 → {l : List ℕ} → l ≡ shown_stamps (decode ws) → l ≡ stamps_of ws
  unfolding stamps_of
  stamps_given a e = e ∙ rw a

  pub spares_refused : is_accepted (ring_answer ws) ≡ false → {l : List ℕ} → l ≡ replicate 4096 0 → l ≡ spares_of ws
  unfolding spares_of
  spares_refused n e = e ∙ rw n

  pub spares_given : ring_answer ws ≡ 0 → {l : List ℕ} → l ≡ shown_spares (decode ws) → l ≡ spares_of ws
  unfolding spares_of
  spares_given a e = e ∙ rw a

  pub messages_refused : is_accepted (ring_answer ws) ≡ false → take 0 ws ≡ messages_of ws
  unfolding messages_of
  messages_refused e = rw e

  pub messages_given : ring_answer ws ≡ 0 → {m : ℕ} → m ≡ length (decode ws).messages
      → take (8321 + 5 * m - 8321) (drop 8321 ws) ≡ messages_of ws
  unfolding messages_of messages_in
  messages_given a {m} e = rw (a, add-sub_cancel_left 8321 (5 * m), e)
