-- The lines of the nodes, one after the other.
use mathlib.Core.Path.{◌≡◌, sym, ap, ◌∙◌}
use mathlib.Core.Bool.{Bool, true}
use mathlib.Core.List.{List, [], ◌∷◌, ◌++◌, append_assoc}
use Prim.Native.Nat.{ℕ, zero, suc, ◌+◌, ◌*◌, ◌≤◌, ◌<◌}
use native.Mathlib.Nat.{zero-add}
use native.Mathlib.Numerals.{add-one}
use native.Mathlib.Omega.{arith}
use borrow.Author.Tests.{ltb-true}
use lib.Dec.{ltb}
use lib.ListN.{length, get_or}
use Rattle.bench_lines.specs.Decimal.{decimal, spaced, newline, line_bytes, lines_bytes}
use Rattle.bench_lines.specs.Put.{Put}
use Rattle.bench_lines.proofs.Decimals.{spaced_append, lines_append, one_line}
use Rattle.bench_lines.proofs.Puts.{put_none}
use Rattle.model.specs.Sets.{Set, of_bits, count, members, tabulate_from, tabulate}
use Rattle.model.specs.Leafset.{Table, size, key}
use Rattle.model.specs.Ring.{Own}
use Rattle.model.specs.Words.{is_pair, pair_place, decode_table, decode_own, decode_node, decode, ring_length, reads_as_ring}
use Rattle.model.specs.Fields.{bit, flag}
use Rattle.model.specs.Connection.{groups}
use Rattle.model.specs.Bench.{node_line}
use Rattle.model.specs.declared.node.NodeRecord.{NodeRecord}
use Rattle.model.proofs.Laws.{and_left, and_right, count_le}
use Rattle.model.proofs.Words.{reads_out}
use Rattle.ring_head.proofs.ReadRing.{read_sizes}
use Rattle.ring_pairs.specs.Loaded.{LoadedNode}
use Rattle.sets.proofs.Ascending.{count_to, members_to}
use Rattle.bench_report.specs.Report.{state_bytes, groups_word, groups_bytes, end_bytes}

-- ---- the held

pub held_room : (S : Set) (at len : ℕ) → at + 1344 ≤ len → at + 21 * count 64 S ≤ len
held_room S at len h = omega (arith, count_le 64 S)

pub held_list : (S : ℕ) {n : ℕ} → n ≡ count 64 (of_bits S)
    → spaced (n ∷ []) ++ spaced (members 64 (of_bits S)) ≡ spaced (count 64 (of_bits S) ∷ members 64 (of_bits S))
held_list S {n} e = sym (spaced_append (n ∷ []) (members 64 (of_bits S))) ∙ ap (λ (k : ℕ). spaced (k ∷ members 64 (of_bits S))) e

-- ---- a node

pub state_of_node : (ws : List ℕ) (x : ℕ) {k time : ℕ} {b : Bool} → k ≡ key (decode_table ws) x → b ≡ (decode_node ws x).running
    → time ≡ (decode_node ws x).clock
    → ((decimal x ++ spaced (k ∷ [])) ++ spaced (bit b ∷ [])) ++ spaced (time ∷ []) ≡ state_bytes (decode ws) x
unfolding state_bytes decode
state_of_node ws x {k} {time} {b} e f g =
    rw (← e, ← f, ← g, spaced_append (k ∷ []) (bit b ∷ time ∷ []), spaced_append (bit b ∷ []) (time ∷ [])) (simp append_assoc)

-- no member of a held set is beyond the table
held_low : (ws : List ℕ) (x y : ℕ) → (decode_own ws x).held y ≡ true → y < size (decode_table ws)
unfolding decode_own
held_low ws x y h =
    let t : Table = decode_table ws in
    ltb-true y (size t) (and_right (ltb x (size t)) _ (and_left _ _ (and_left (is_pair t x y) (flag 24 (get_or ws (pair_place x y) 0)) h)))

pub line_of_node : (ws : List ℕ) (x : ℕ) {own : NodeRecord} → LoadedNode ws x own → size (decode_table ws) ≤ 64
    → (state_bytes (decode ws) x ++ spaced (count 64 (of_bits own.held) ∷ members 64 (of_bits own.held))) ++ newline ∷ []
    ≡ line_bytes (node_line (decode ws) x)
unfolding state_bytes line_bytes node_line decode decode_node
line_of_node ws x {own} q h =
    let S : Set = (decode_own ws x).held in
    let held : of_bits own.held ≡ S = ap (λ (o : Own). o.held) q.own in
    let low : (y : ℕ) → S y ≡ true → y < size (decode_table ws) = held_low ws x in
    rw (held, ← count_to S (size (decode_table ws)) low 64 h, ← members_to S (size (decode_table ws)) low 64 h)
    (rw (spaced_append (_ ∷ _ ∷ _ ∷ []) (count (size (decode_table ws)) S ∷ members (size (decode_table ws)) S)) (simp append_assoc))

-- ---- the nodes

tabulate_more : {A : Type 0} (f : ℕ → A) (i k : ℕ) → tabulate_from i (suc k) f ≡ tabulate_from i k f ++ (f (i + k) ∷ [])
unfolding tabulate_from
tabulate_more f i zero = ap (λ (j : ℕ). f j ∷ []) (omega arith)
tabulate_more f i (suc k) =
    ap (λ l. f i ∷ l) (tabulate_more f (suc i) k ∙ ap (λ (j : ℕ). tabulate_from (suc i) k f ++ (f j ∷ [])) (omega arith))

pub lines_more : (f : ℕ → List ℕ) (k : ℕ) → lines_bytes (tabulate k f) ++ line_bytes (f k) ≡ lines_bytes (tabulate (k + 1) f)
lines_more f k =
    sym
    (rw (add-one k, tabulate_more f 0 k, zero-add k)
    (lines_append (tabulate k f) (f k ∷ []) ∙ ap (λ (s : List ℕ). lines_bytes (tabulate k f) ++ s) (one_line (f k))))

pub no_lines : (out : List ℕ) (at : ℕ) (f : ℕ → List ℕ) → Put out out at at (lines_bytes (tabulate 0 f))
unfolding lines_bytes tabulate_from
no_lines out at f = put_none out at

-- ---- the groups

pub groups_line : (g : ℕ) → (groups_word ++ spaced (g ∷ [])) ++ newline ∷ [] ≡ groups_bytes g
unfolding groups_bytes
groups_line g = append_assoc groups_word (spaced (g ∷ [])) (newline ∷ [])

-- ---- words that read as a ring

module _ (ws : List ℕ) (reads : reads_as_ring ws ≡ true) where
  pub long : length ws ≡ ring_length
  long = (reads_out ws reads).long

  pub few : size (decode_table ws) ≤ 64
  unfolding decode
  few = (read_sizes ws reads).nodes_high

  pub end_of_ring : {n g : ℕ} → n ≡ size (decode_table ws) → g ≡ groups (decode ws)
      → lines_bytes (tabulate n (node_line (decode ws))) ++ groups_bytes g ≡ end_bytes (decode ws)
  unfolding end_bytes decode
  end_of_ring e f = rw (e, f)
