-- A walk by the keys and the running nodes of a ring is its reach; what the call gives, refused and accepted.
use mathlib.Core.Path.{◌≡◌, refl, sym, ap, ◌∙◌, fun_ext}
use mathlib.Core.Bool.{true, false}
use mathlib.Core.List.{List}
use Prim.Native.Nat.{ℕ, ◌+◌, ◌≤◌, ◌<◌}
use native.Mathlib.Omega.{arith}
use lib.ListN.{length, get_or, take, length-take}
use lib.Seq.{get_or-take}
use borrow.Author.Tests.{eq-eqb}
use Rattle.model.specs.Key.{clockwise}
use Rattle.model.specs.Sets.{Set, of_bits, none_node}
use Rattle.model.specs.Leafset.{size, first_met}
use Rattle.model.specs.Ring.{Ring, is_running}
use Rattle.model.specs.Answers.{is_accepted}
use Rattle.model.specs.Words.{decode_table, decode}
use Rattle.model.specs.Reach.{Ending, owner, reach, last_before, to_last, Reach, reach_answer, reach_of}
use Rattle.model.proofs.Decoded.{reads_well}
use Rattle.sets.specs.Within.{InTable}
use Rattle.model.proofs.Reaches.{reach_from, reach_ends, reach_reads, start_runs, given_reach}
use Rattle.model.proofs.Theorems.{refused_reach}
use Rattle.model.proofs.Laws.{clash}
use Rattle.leafset_nearest.specs.Span.{span_of, span_to, Found, Nearest}
use Rattle.std.specs.Prelude.{Option, None, Some}
use Rattle.std.specs.Option.{IsSome}
use Rattle.model.specs.declared.values.NodeNumber.{NodeNumber}
use Rattle.leafset_nearest.specs.declared.Way.{Way}
use Rattle.leafset_nearest.specs.declared.Way.TheVariants.{Clockwise, CounterClockwise}
use Rattle.leafset_nearest.proofs.Firsts.{met_found}
use Rattle.call_reach.specs.Walks.{Distances, From, HopsToLast, InRing}

-- a set with a member has a nearest one
pub some_nearest : (S : Set) (m : ℕ → ℕ) (y : ℕ) → S y ≡ true → (r : Option NodeNumber) → Nearest S m r → IsSome r
some_nearest S m y t None f = clash t (f y)
some_nearest S m y t (Some b) l = refl

module _ {r : Ring} {keys : List ℕ} {running : ℕ} (in_ring : InRing r keys running) where
  low : (y : ℕ) → is_running r y ≡ true → y < size r.table
  low y e = (in_ring.well.node_well y).running_low e

  met : (way : Way) (a : ℕ) {b : ℕ} → Found (of_bits running) (span_to way a keys) b → b ≡ first_met r.table (span_of way) a (is_running r)
  met way a f =
      met_found r.table way a (of_bits running) (λ y e. low y (sym (in_ring.running_are y) ∙ e)) (rw in_ring.keys_are at f)
      ∙ ap (first_met r.table (span_of way) a) (fun_ext in_ring.running_are)

  owner_is : (a : ℕ) {first : ℕ} → Found (of_bits running) (span_to Clockwise a keys) first → first ≡ owner r a
  unfolding owner
  owner_is a is-first = met Clockwise a is-first

  last_is : (a : ℕ) {last : ℕ} → Found (of_bits running) (span_to CounterClockwise (a + 16777215) keys) last → last ≡ last_before r a
  unfolding last_before
  last_is a before = met CounterClockwise (a + 16777215) before

  module _ {a : ℕ} (a-low : a ≤ 16777215) {first : ℕ} (is-first : Found (of_bits running) (span_to Clockwise a keys) first)
      (start : ℕ) (member : of_bits running start ≡ true) where
    runs : is_running r start ≡ true
    runs = sym (in_ring.running_are start) ∙ member

    pub walk_stays : start ≡ first → record { end = first; hops = 0 } ≡ reach r a start
    walk_stays e =
        sym (reach_from r in_ring.well a a-low start runs
        ∙ rw (eq-eqb start (owner r a) (e ∙ owner_is a is-first)) (ap {B = Ending} (λ (x : ℕ). record { end = x; hops = 0 }) e))

    module _ (goes : start ≡ first → ⊥) {last : ℕ} (before : Found (of_bits running) (span_to CounterClockwise (a + 16777215) keys) last) where
      to_last_lem : (y : ℕ) → clockwise (get_or keys y 0) (get_or keys last 0) ≡ to_last r a y
      to_last_lem y = rw (in_ring.keys_are, last_is a before)

      module _ {far : List ℕ} (distances : Distances keys running (get_or keys last 0) far) {distance : ℕ}
          (is : distance ≡ clockwise (get_or keys start 0) (get_or keys last 0)) where
        -- the places of the table's nodes
        of_table : List ℕ
        of_table = take (length keys) far

        as_long : length of_table ≡ length keys
        unfolding of_table
        as_long =
            length-take (length keys) far
            ∙ omega (arith, distances.room, ap length in_ring.keys_are, in_ring.well.table_well.size_high)

        at_place : (y : ℕ) → y < length of_table → get_or of_table y 0 ≡ get_or far y 0
        unfolding of_table
        at_place y h = get_or-take (length keys) far y 0 (omega (arith, as_long))

        from_start : From r a start of_table distance
        from_start =
            record {
              well = in_ring.well;
              low = a-low;
              runs = runs;
              not_owner = λ e. goes (e ∙ sym (owner_is a is-first));
              distance_is = is ∙ to_last_lem start;
              listed = λ y e.
                  let h : y < length of_table = omega (arith, low y e, as_long, ap length in_ring.keys_are) in
                  (h, at_place y h ∙ distances.members y (in_ring.running_are y ∙ e) ∙ to_last_lem y);
              off = λ y h e.
                  let l : y < 64 = omega (arith, as_long, ap length in_ring.keys_are, in_ring.well.table_well.size_high) in
                  at_place y h ∙ distances.others y l (in_ring.running_are y ∙ e);
            }

        pub walk_goes : (hops : ℕ) → HopsToLast (take (length keys) far) distance hops → record { end = first; hops = hops + 1 } ≡ reach r a start
        unfolding of_table
        walk_goes hops counted =
            ap {B = Ending} (λ (x : ℕ). record { end = x; hops = hops + 1 }) (owner_is a is-first ∙ sym (reach_ends r in_ring.well a a-low start runs))
            ∙ ap {B = Ending} (λ (h : ℕ). record { end = (reach r a start).end; hops = h }) (sym (counted r a start from_start))

-- ---- the call

module _ (ws : List ℕ) (x key : ℕ) where
  pub reach_refused : {a : ℕ} → a ≡ reach_answer ws x key → is_accepted (reach_answer ws x key) ≡ false
      → record { answer = a; end = none_node; hops = 0 } ≡ reach_of ws x key
  reach_refused e n = ap {B = Reach} (λ (a : ℕ). record { answer = a; end = none_node; hops = 0 }) e ∙ sym (refused_reach ws x key n)

  module _ (ok : reach_answer ws x key ≡ 0) where
    module _ {keys : List ℕ} (keys_are : keys ≡ (decode_table ws).keys) (running : ℕ)
        (running_are : (y : ℕ) → of_bits running y ≡ is_running (decode ws) y) where
      pub in_ring : InRing (decode ws) keys running
      unfolding decode
      in_ring = record { well = reads_well ws (reach_reads ws x key ok); keys_are = keys_are; running_are = running_are }

      pub in_table : InTable keys x running
      in_table =
          let same : length keys ≡ size (decode ws).table = ap length in_ring.keys_are in
          record {
            few = rw same (reads_well ws (reach_reads ws x key ok)).table_well.size_high;
            node = rw same (((reads_well ws (reach_reads ws x key ok)).node_well x).running_low (start_runs ws x key ok));
            within = λ y e. rw same (((reads_well ws (reach_reads ws x key ok)).node_well y).running_low (sym (running_are y) ∙ e));
          }

    pub reach_given : {a : ℕ} {ending : Ending} → a ≡ reach_answer ws x key → ending ≡ reach (decode ws) key x
        → record { answer = a; end = ending.end; hops = ending.hops } ≡ reach_of ws x key
    reach_given {ending = ending} e w =
        ap {B = Reach} (λ (a : ℕ). record { answer = a; end = ending.end; hops = ending.hops }) (e ∙ ok)
        ∙ ap {B = Reach} (λ (e : Ending). record { answer = 0; end = e.end; hops = e.hops }) w
        ∙ sym (given_reach ws x key ok)
