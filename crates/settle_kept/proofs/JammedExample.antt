-- A jammed ring that a list of words reaches: A = 2, B = 1, six nodes. It is covered, and no timers, deliveries and losses make it converge.
use mathlib.Core.Path.{◌≡◌, refl, sym, ap, ◌∙◌, subst}
use mathlib.Core.Logic.{inr}
use Prim.Native.Nat.{ℕ, ◌≤◌, ◌<◌, zero-le}
use mathlib.Core.Bool.{Bool, true, false, not, ◌&&◌}
use mathlib.Core.List.{List, [], ◌∷◌, Memᴰ}
use lib.ListN.{length}
use lib.Dec.{eqb}
use borrow.Author.Tests.{eqb-true}
use Rattle.model.specs.Choice.{◌⇒◌}
use Rattle.model.specs.Sets.{Set, all}
use Rattle.model.specs.Leafset.{Table, size, leafset, closest}
use Rattle.model.specs.Ring.{Ring, initial, holds, is_running}
use Rattle.model.specs.WellFormed.{WellFormed}
use Rattle.model.specs.Play.{play_all}
use Rattle.model.specs.Buffer.{open_buffer, play_buffer_all}
use Rattle.model.specs.Route.{Converged}
use Rattle.model.specs.ConnectivityPreserved.{Reached, opened, read_at}
use Rattle.model.proofs.Laws.{and_in, and_left, and_right, not_in, implies_out, all_out}
use Rattle.model.proofs.Choices.{leafset_within}
use Rattle.model.proofs.Decoded.{reads_well}
use Rattle.model.proofs.Handlers.{absent}
use Rattle.model.proofs.ConnectivityPreserved.{list_reaches, reached_reads, connectivity_preserved}
use Rattle.model.proofs.Base.{computed}
use Rattle.settle_kept.specs.Settled.{KeepsHeld, AcceptedIs}
use Rattle.settle_kept.specs.Jammed.{Stuck, Jammed}
use Rattle.settle_kept.proofs.Jammed.{never_converges}

-- clockwise from node 0, at 100: 1 at 150, 2 at 200, 3 at 50, 4 at 60, 5 at 99
unfoldable pub six : Table
six = record { sides = record { ahead = 2; behind = 1 }; keys = 100 ∷ 150 ∷ 200 ∷ 50 ∷ 60 ∷ 99 ∷ [] }

-- all go on, and contact their leafsets; then node 0 contacts node 3; each message is delivered at once
unfoldable pub script : List ℕ
script =
    0x90000000 ∷ 0x90000001 ∷ 0x90000002 ∷ 0x90000003 ∷ 0x90000004 ∷ 0x90000005 ∷ 0xC0000040 ∷ 0xE0000000 ∷ 0xE0000000 ∷ 0xC0000080 ∷ 0xE0000000 ∷ 0xE0000000
    ∷ 0xC0000140 ∷ 0xE0000000 ∷ 0xE0000000 ∷ 0xC0000001 ∷ 0xE0000000 ∷ 0xE0000000 ∷ 0xC0000081 ∷ 0xE0000000 ∷ 0xE0000000 ∷ 0xC00000C1 ∷ 0xE0000000 ∷ 0xE0000000
    ∷ 0xC0000042 ∷ 0xE0000000 ∷ 0xE0000000 ∷ 0xC00000C2 ∷ 0xE0000000 ∷ 0xE0000000 ∷ 0xC0000102 ∷ 0xE0000000 ∷ 0xE0000000 ∷ 0xC0000083 ∷ 0xE0000000 ∷ 0xE0000000
    ∷ 0xC0000103 ∷ 0xE0000000 ∷ 0xE0000000 ∷ 0xC0000143 ∷ 0xE0000000 ∷ 0xE0000000 ∷ 0xC0000004 ∷ 0xE0000000 ∷ 0xE0000000 ∷ 0xC00000C4 ∷ 0xE0000000 ∷ 0xE0000000
    ∷ 0xC0000144 ∷ 0xE0000000 ∷ 0xE0000000 ∷ 0xC0000005 ∷ 0xE0000000 ∷ 0xE0000000 ∷ 0xC0000045 ∷ 0xE0000000 ∷ 0xE0000000 ∷ 0xC0000105 ∷ 0xE0000000 ∷ 0xE0000000
    ∷ 0xC00000C0 ∷ 0xE0000000 ∷ 0xE0000000
    ∷ []

unfoldable pub jam : Ring
jam = play_all (initial six) script

-- every pair of nodes
abbrev pairs : (ℕ → ℕ → Bool) → Bool
pairs test = all 6 (λ a. all 6 (test a))

abbrev R : Set
R = is_running jam

abbrev H : ℕ → Set
H = holds jam

-- computed: each holds its leafset, and running nodes; but for 3 at 0 no more than its leafset
covers_row : pairs (λ a w. leafset six a R w ⇒ H a w) ≡ true
unfolding computed six script jam
covers_row = refl

inside_row : pairs (λ a w. H a w ⇒ R w) ≡ true
unfolding computed six script jam
inside_row = refl

alone_row : pairs (λ a w. (H a w && not (leafset six a R w)) ⇒ (eqb a 0 && eqb w 3)) ≡ true
unfolding computed six script jam
alone_row = refl

-- 3 offers 5, which is next to 0 and does not hold 3
offer_row : closest six 3 (H 3) 0 ≡ 5
unfolding computed six script jam
offer_row = refl

table_row : jam.table ≡ six
unfolding computed six script jam
table_row = refl

size_row : size jam.table ≡ 6
unfolding computed six script jam
size_row = refl

runs_row : R 0 ≡ true
unfolding computed six script jam
runs_row = refl

held_row : H 0 3 ≡ true
unfolding computed six script jam
held_row = refl

far_row : leafset six 0 R 3 ≡ false
unfolding computed six script jam
far_row = refl

lacks_row : H 5 3 ≡ false
unfolding computed six script jam
lacks_row = refl

spare_row : (jam.node 0).own.spare 3 ≡ 64
unfolding computed six script jam
spare_row = refl

none_row : jam.messages ≡ []
unfolding computed six script jam
none_row = refl

module _ (well : WellFormed jam) where
  at : (test : ℕ → ℕ → Bool) → pairs test ≡ true → (a w : ℕ) → a < size jam.table → w < size jam.table → test a w ≡ true
  at test e a w la lw = all_out 6 (test a) (all_out 6 (λ b. all 6 (test b)) e a (subst (λ (k : ℕ). a < k) size_row la)) w (subst (λ (k : ℕ). w < k) size_row lw)

  low : (a : ℕ) → R a ≡ true → a < size jam.table
  low a on = (well.node_well a).running_low on

  held_low : (a w : ℕ) → H a w ≡ true → w < size jam.table
  held_low a w e = ((well.node_well a).own_well.held_other w e).low

  stuck : Stuck 0 3 six R H
  stuck =
      record {
        runs = runs_row;
        held = held_row;
        far = far_row;
        covers =
            λ a on w e. implies_out (leafset six a R w) (H a w)
            (at (λ b v. leafset six b R v ⇒ H b v) covers_row a w (low a on) (low w (leafset_within six a R w e))) e;
        inside = λ a on w e. implies_out (H a w) (R w) (at (λ b v. H b v ⇒ R v) inside_row a w (low a on) (held_low a w e)) e;
        alone = λ a w on e f.
            let p : (eqb a 0 && eqb w 3) ≡ true = implies_out (H a w && not (leafset six a R w)) (eqb a 0 && eqb w 3)
            (at (λ b v. (H b v && not (leafset six b R v)) ⇒ (eqb b 0 && eqb v 3)) alone_row a w (low a on) (held_low a w e)) (and_in e (not_in f)) in
            (eqb-true a 0 (and_left (eqb a 0) (eqb w 3) p), eqb-true w 3 (and_right (eqb a 0) (eqb w 3) p));
        offer = ap (λ (y : ℕ). H y 3) offer_row ∙ lacks_row;
      }

  jammed : Jammed 0 3 jam
  jammed =
      record {
        stuck = subst (λ (t : Table). Stuck 0 3 t R H) (sym table_row) stuck;
        spare = inr spare_row;
        futile = λ m i. absent (subst (Memᴰ m) none_row i);
      }

reaches : (old : List ℕ) → (open_buffer old six).answer ≡ 0 → Reached (play_buffer_all (open_buffer old six).words script) jam
unfolding jam
reaches old ok = list_reaches (opened old six ok) script

-- it opens in any buffer of the right length
pub six_opens : (old : List ℕ) → length old ≡ 13441 → (open_buffer old six).answer ≡ 0
unfolding computed six
six_opens old e = rw e refl

-- whatever words come then: as long as no on and no off is accepted, notices name nodes that are not held, and contacts nodes that are held or off,
-- it does not converge
pub uneven_never_converges :
    (old : List ℕ) → (open_buffer old six).answer ≡ 0
    → let start : List ℕ = play_buffer_all (open_buffer old six).words script in
    (words : List ℕ) (later : ℕ) → later ≤ length words
    → ((k : ℕ) → k < later → AcceptedIs start words KeepsHeld k)
    → ¬ Converged (read_at start words later)
unfolding play_all play_buffer_all
uneven_never_converges old ok words later within c =
    (never_converges start jam reached words 0 3 0 (subst (Jammed 0 3) (sym there) (jammed well)) later zero-le within (λ k f l. c k l)).1
  where
    start : List ℕ
    start = play_buffer_all (open_buffer old six).words script

    reached : Reached start jam
    reached = reaches old ok

    there : read_at start words 0 ≡ jam
    there = (connectivity_preserved start jam reached words).ring_follows 0 zero-le

    well : WellFormed jam
    well = subst WellFormed ((connectivity_preserved start jam reached []).ring_follows 0 zero-le) (reads_well start (reached_reads reached))
