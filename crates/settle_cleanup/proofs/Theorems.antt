-- What is proved of settling, by name: leafsets as choices, what every event keeps, fair rounds, cleanup, convergence.
use mathlib.Core.Path.{◌≡◌}
use mathlib.Core.Logic.{◌↔◌}
use Prim.Native.Nat.{ℕ, ◌≤◌, ◌<◌}
use mathlib.Core.Bool.{true, false}
use mathlib.Core.List.{List, []}
use lib.ListN.{length}
use Rattle.model.specs.Sets.{Set}
use Rattle.model.specs.Leafset.{Table, size, leafset, closest}
use Rattle.model.specs.Ring.{Ring, holds, is_running}
use Rattle.model.specs.WellFormed.{WellFormedTable, WellFormed}
use Rattle.model.specs.Play.{after}
use Rattle.model.specs.Buffer.{open_buffer, play_buffer_all}
use Rattle.model.specs.Route.{Converged}
use Rattle.model.specs.Connection.{Connected}
use Rattle.model.specs.ConnectivityPreserved.{Harmless, Reached, read_at}
use Rattle.model.specs.declared.event.Event.{Event}
use Rattle.model.specs.declared.event.Event.TheVariants.{Deliver}
use Rattle.settle_leafsets.specs.Covered.{Even, Covered, lacking, HoldsRunning}
use Rattle.settle_leafsets.specs.Quiescent.{Quiescent}
use Rattle.settle_kept.specs.Settled.{KeepsLeafsets, Settled, KeepsHeld, RoutesEndNearest, AcceptedIs, Closure}
use Rattle.settle_kept.specs.Improving.{Improvement, Clean}
use Rattle.settle_kept.specs.Jammed.{Jammed, NeverConverges}
use Rattle.settle_rounds.specs.Progress.{Progress}
use Rattle.settle_rounds.specs.Windows.{ThroughLosses}
use Rattle.settle_rounds.specs.GettingClean.{GettingClean}
use Rattle.settle_cleanup.specs.Cleanup.{Tidy, Calm, Outside, Nearer, Cleanup}
use Rattle.settle_cleanup.specs.Convergence.{Convergence, ConvergenceThroughLosses}
use Rattle.settle_leafsets.proofs.LeafsetChoice.{Within}
use Rattle.settle_leafsets.proofs.LeafsetChoice as choice
use Rattle.settle_leafsets.proofs.Mutual as evenly
use Rattle.settle_leafsets.proofs.Lacking as lacked
use Rattle.settle_leafsets.proofs.QuiescentForms as resting
use Rattle.settle_kept.proofs.Secured as secured
use Rattle.settle_kept.proofs.Closure as kept
use Rattle.settle_kept.proofs.SettledNeeded as needed
use Rattle.settle_kept.proofs.Improving as improving
use Rattle.settle_kept.proofs.Jammed as jammed
use Rattle.settle_kept.proofs.JammedExample.{six, script}
use Rattle.settle_kept.proofs.JammedExample as example
use Rattle.settle_kept.proofs.Offers.{GoodOffer}
use Rattle.settle_kept.proofs.Offers as offered
use Rattle.settle_rounds.proofs.Progress as progressing
use Rattle.settle_rounds.proofs.GettingClean as getting
use Rattle.settle_cleanup.proofs.Cleanup as cleaning
use Rattle.settle_cleanup.proofs.Converging as converging
use Rattle.settle_cleanup.proofs.StaysSettled as stays
use Rattle.settle_cleanup.proofs.ConvergenceExample.{two, two_script, left_script, four, four_script}
use Rattle.settle_cleanup.proofs.ConvergenceExample as met

-- ---- leafsets that stay, and leafsets that improve

-- a leafset depends only on those chosen: take away any of the others, and the same are chosen
pub leafset_rejects :
    (t : Table) → WellFormedTable t → (x : ℕ) → x < size t → (S T : Set) → Within T S → Within (leafset t x S) T
    → (y : ℕ) → leafset t x T y ≡ leafset t x S y
leafset_rejects t g x h S T sub has y = choice.same_choice t x g h S T sub has y

-- from a secured point on every node keeps its leafset of the running nodes, and from a settled one on it holds whom it held; routes end at the nearest node
pub closure : Closure
closure = kept.closure

-- where every node holds exactly its leafset, the ring is covered
pub converged_covered : (r : Ring) → WellFormed r → Converged r → Covered r
converged_covered r g c = kept.converged_covered r g c

-- and where it is covered, every route ends at the running node nearest to the key
pub route_ends_covered : (r : Ring) → WellFormed r → Covered r → RoutesEndNearest r
route_ends_covered r g c = secured.covered_routes r g c

-- with nothing in flight a converged ring is settled
pub settled_silent : (r : Ring) → Converged r → r.messages ≡ [] → Settled r
settled_silent r c none = kept.settled_silent r c none

-- what is harmless in demand 3 keeps leafsets
pub harmless_keeps : (r : Ring) (e : Event) → Harmless r e → KeepsLeafsets r e
harmless_keeps r e h = kept.harmless_keeps r e h

-- what a settled ring supposes of the messages in flight is needed: if any delivery, and any two, leave a converged ring converged, it is settled
pub settled_needed :
    (r : Ring) → Converged r
    → ((i : ℕ) → Converged (after r (Deliver i false)))
    → ((i j : ℕ) → Converged (after (after r (Deliver i false)) (Deliver j false)))
    → Settled r
settled_needed r c one two = needed.settled_needed r c one two

-- from a clean point on leafsets only improve, and the nearest held node on either way never becomes farther
pub improvement : Improvement
improvement = improving.improvement

-- how many nodes the running nodes lack decides whether a ring in which none holds one that is off is covered; by `improvement` it never rises
pub lacking_decides : (r : Ring) → WellFormed r → HoldsRunning r → ((x : ℕ) → is_running r x ≡ true → lacking r x ≡ 0) ↔ Covered r
lacking_decides r g c = lacked.lacking_decides r g c

-- where A and B differ, a covered ring may never converge: from a jammed point on it does not, and the list `script` jams six nodes with A = 2 and B = 1
pub never_converges : NeverConverges
never_converges = jammed.never_converges

pub uneven_never_converges :
    (old : List ℕ) → length old ≡ 13441
    → let start : List ℕ = play_buffer_all (open_buffer old six).words script in
    (words : List ℕ) (later : ℕ) → later ≤ length words
    → ((k : ℕ) → k < later → AcceptedIs start words KeepsHeld k)
    → ¬ Converged (read_at start words later)
uneven_never_converges old h words later within c = example.uneven_never_converges old (example.six_opens old h) words later within c

-- where A and B are equal, leafsets of one set are mutual
pub leafset_mutual :
    (t : Table) → WellFormedTable t → (S : Set) → Even t
    → (x y : ℕ) → x < size t → y < size t → S x ≡ true → S y ≡ true
    → leafset t x S y ≡ leafset t y S x
leafset_mutual t g S even x y hx hy sx sy = evenly.leafset_mutual t g S even x y hx hy sx sy

-- so in a clean and covered ring whoever is held outside a leafset offers a running node that is nearer and holds him: it is not jammed
pub even_offers :
    (r : Ring) (g : WellFormed r) (clean : Clean r) (covered : Covered r) (even : Even r.table)
    (x z : ℕ) (on : is_running r x ≡ true) (held : holds r x z ≡ true) (far : leafset r.table x (is_running r) z ≡ false)
    → GoodOffer r g clean covered even x z on held far (closest r.table z (holds r z) x)
even_offers r g clean covered even x z on held far = offered.even_offers r g clean covered even x z on held far

pub even_never_jams : (r : Ring) → WellFormed r → Clean r → Covered r → Even r.table → (x z : ℕ) → ¬ Jammed x z r
even_never_jams r g clean covered even x z = offered.even_never_jams r g clean covered even x z

-- where they are equal, a ring in which no running node holds one that is off, and all running nodes are connected, is covered exactly where it is quiescent:
-- nobody lacks any that the messages of a round would tell it of
pub quiescent_decides :
    (r : Ring) → WellFormed r → Even r.table → HoldsRunning r
    → ((a b : ℕ) → is_running r a ≡ true → is_running r b ≡ true → Connected r a b)
    → Quiescent r ↔ Covered r
quiescent_decides r g even clean connected = resting.quiescent_decides r g even clean connected

-- Where A and B are equal, fair rounds include: from a clean point on at which all running nodes are connected, enough of them leave the ring covered, or fewer
-- lacked; once more than are lacked, enough of them leave it covered.
pub progress : Progress
progress = progressing.progress

-- so do windows of them, whatever is lost between
pub through_losses : ThroughLosses
through_losses = progressing.through_losses

-- a ring gets clean: after a fair round, from any point, and a notice to each running node of each node that is off and that it holds then
pub getting_clean : GettingClean
getting_clean = getting.getting_clean

-- Where A and B are equal, links outside the leafsets go: from a clean and covered point on, after 7 fair rounds and 6 for each node of the table, in which no
-- contact of a stranger is accepted, the ring is settled. In any 8 rounds from a tidy point on the farthest node that a running node holds outside becomes
-- nearer, and it never becomes farther, whatever is lost.
pub cleanup : Cleanup
cleanup = cleaning.cleanup

-- a tidy ring in which nobody is held outside is settled
pub tidy_settled : (r : Ring) → WellFormed r → Tidy r → ((x z : ℕ) → is_running r x ≡ true → ¬ Outside r x z) → Settled r
tidy_settled r g tidy none = cleaning.tidy_settled r g tidy none

-- inclusion and cleanup: where A and B are equal, from a clean point at which all running nodes are connected, fair rounds settle the ring
pub convergence : Convergence
convergence = converging.convergence

-- and so do windows of them, whatever is lost between
pub convergence_through_losses : ConvergenceThroughLosses
convergence_through_losses = converging.through_losses

-- neither is empty: on two nodes, of which one contacts the other, 57 fair rounds meet all that the first supposes, and 56 of them, with a loss
-- before, all that the second does
pub convergence_met : (old : List ℕ) → length old ≡ 13441 → Settled (read_at (open_buffer old two).words two_script 788)
convergence_met old h = met.two_settles old (met.two_opens old h)

pub convergence_through_losses_met : (old : List ℕ) → length old ≡ 13441 → Settled (read_at (open_buffer old two).words two_script 774)
convergence_through_losses_met old h = met.two_settles_through_losses old (met.two_opens old h)

-- and it stays settled while what is accepted is harmless and contacts no stranger, losses included
pub settled_stays :
    (start : List ℕ) (r : Ring) → Reached start r → (words : List ℕ)
    → (point : ℕ) → Settled (read_at start words point)
    → (later : ℕ) → point ≤ later → later ≤ length words
    → ((k : ℕ) → point ≤ k → k < later → AcceptedIs start words Calm k)
    → Settled (read_at start words later)
settled_stays start r reached words point set later from within c = stays.settled_stays start r reached words point set later from within c

-- nor is cleanup: on four nodes, each of which holds its neighbours, and one the node across, 8 fair rounds meet all that it supposes
pub cleanup_met :
    (old : List ℕ) → length old ≡ 13441
    → Outside (read_at (open_buffer old four).words four_script 31) 0 2
    × Nearer 0 (read_at (open_buffer old four).words four_script 31) (read_at (open_buffer old four).words four_script 305)
cleanup_met old h = met.four_cleans old (met.four_opens old h)

-- nor is getting clean: a node that is off is held after the round, since it had answered a contact
pub getting_clean_met :
    (old : List ℕ) → length old ≡ 13441
    → (holds (read_at (open_buffer old two).words left_script 10) 0 1 ≡ true) × (is_running (read_at (open_buffer old two).words left_script 10) 1 ≡ false)
    × Clean (read_at (open_buffer old two).words left_script 11)
getting_clean_met old h = met.left_cleans old (met.two_opens old h)
