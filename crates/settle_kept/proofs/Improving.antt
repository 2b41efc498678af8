-- From a clean point on leafsets only improve: each event leaves in who was in the leafset, and leafsets as choices add up over a list (`union-chain`).
use mathlib.Core.Path.{◌≡◌, refl, sym, ap, ◌∙◌, subst}
use Prim.Native.Nat.{ℕ, ◌≤◌, ◌<◌}
use native.Mathlib.Omega.{arith}
use mathlib.Core.Bool.{true, not, ◌&&◌}
use mathlib.Core.List.{List}
use lib.ListN.{length}
use borrow.Author.Tests.{ne_eqb}
use Rattle.model.specs.Key.{clockwise, counter_clockwise}
use Rattle.model.specs.Sets.{Set, union, with, without, count}
use Rattle.model.specs.Leafset.{Table, size, key, leafset}
use Rattle.model.specs.Ring.{Ring, holds, is_running}
use Rattle.model.specs.WellFormed.{WellFormedTable, WellFormed, Other}
use Rattle.model.specs.Play.{after}
use Rattle.model.specs.ConnectivityPreserved.{Harmless, Reached, read_at}
use Rattle.model.specs.declared.event.Event.{Event}
use Rattle.model.proofs.Laws.{and_in, and_left, and_right, or_left, not_in, not_out, some_in, count_mono}
use Rattle.model.proofs.Cases.{after_table}
use Rattle.model.proofs.Choices.{Member, Least, least, leafset_within}
use Rattle.model.proofs.Routes.{next_in_leafset, before_in_leafset}
use Rattle.settle_leafsets.specs.Covered.{Improves, NoFarther, lacking}
use Rattle.settle_leafsets.proofs.LeafsetChoice.{union_alike, union_chain, still_fits}
use Rattle.settle_kept.specs.Improving.{Improved, Improvement, Clean}
use Rattle.settle_kept.specs.Settled.{AcceptedIs}
use Rattle.settle_kept.proofs.Keeping.{after_running, harmless_switch}
use Rattle.settle_kept.proofs.Clean.{clean_after, leafset_stays}
use Rattle.settle_kept.proofs.Closure.{well_at, along}

-- ---- what improving sets means for the nearest member

module _ (t : Table) (g : WellFormedTable t) (x : ℕ) (S T : Set) (others : (z : ℕ) → S z ≡ true → Other (size t) x z) (improves : Improves t x S T) where
  abbrev left : Set
  left = without (union S T) x

  module _ (d : ℕ → ℕ → ℕ) (first : (l : Least (size t) left (λ z. d (key t x) (key t z))) → leafset t x (union S T) l.best ≡ true) where
    no_farther : NoFarther t x d S T
    no_farther z e =
        let o = others z e in
        let m : Member (size t) left z = record { below = o.low; within = and_in (or_left (T z) e) (not_in (ne_eqb z x o.differs)) } in
        let l : Least (size t) left (λ y. d (key t x) (key t y)) =
        least (size t) left (λ y. d (key t x) (key t y)) (some_in (size t) left z o.low m.within) in
        (l.best, leafset_within t x T l.best (sym (improves l.best) ∙ first l), l.no_less z m)

  ahead_no_farther : NoFarther t x clockwise S T
  ahead_no_farther = no_farther clockwise (next_in_leafset t x (union S T) g.sides_well.ahead_low)

  behind_no_farther : NoFarther t x counter_clockwise S T
  behind_no_farther = no_farther counter_clockwise (before_in_leafset t x (union S T) g.sides_well.behind_low)

-- ---- how many a node lacks

module _ (t : Table) (g : WellFormedTable t) (x : ℕ) (hx : x < size t) (R S T : Set) (improves : Improves t x S T) where
  lacks_falls :
      count (size t) (λ w. R w && not (T w) && leafset t x (with T w) w) ≤ count (size t) (λ w. R w && not (S w) && leafset t x (with S w) w)
  lacks_falls =
      count_mono (λ w. R w && not (T w) && leafset t x (with T w) w) (λ w. R w && not (S w) && leafset t x (with S w) w) (size t)
      (λ w l e.
      let p : (R w && not (T w)) ≡ true = and_left (R w && not (T w)) _ e in
      let q = still_fits t x g hx S T improves w (not_out (T w) (and_right (R w) (not (T w)) p)) (and_right (R w && not (T w)) _ e) in
      and_in (and_in (and_left (R w) (not (T w)) p) (not_in q.0)) q.1)

-- ---- lists

module _ (start : List ℕ) (r : Ring) (reached : Reached start r) (words : List ℕ) where
  abbrev at : ℕ → Ring
  at i = read_at start words i

  clean_at :
      (point : ℕ) → Clean (at point) → (later : ℕ) → point ≤ later → later ≤ length words
      → ((k : ℕ) → point ≤ k → k < later → AcceptedIs start words Harmless k)
      → Clean (at later)
  clean_at = along start r reached words Harmless Clean (λ s well c e h. clean_after s c e h)

  -- since the ring p: the same table, the same nodes run, and leafsets have improved
  record Since (p s : Ring) : Type 0 where
    clean : Clean s
    table : s.table ≡ p.table
    running : (x : ℕ) → is_running s x ≡ is_running p x
    improved : (x : ℕ) → is_running p x ≡ true → Improves p.table x (holds p x) (holds s x)

  module _ (p : Ring) (g : WellFormed p) where
    low : (x : ℕ) → is_running p x ≡ true → x < size p.table
    low x on = (g.node_well x).running_low on

    since_after : (s : Ring) → WellFormed s → Since p s → (e : Event) → Harmless s e → Since p (after s e)
    since_after s well q e h =
        record {
          clean = clean_after s q.clean e h;
          table = after_table s e ∙ q.table;
          running = λ x. after_running s e (harmless_switch s e h) x ∙ q.running x;
          improved = λ x on. union_chain p.table x g.table_well (low x on) (holds p x) (holds s x) (holds (after s e) x) (q.improved x on)
              (union_alike p.table x g.table_well (low x on) (holds s x) (holds (after s e) x)
              (λ z l. leafset_stays s q.clean e h x (q.running x ∙ on) z (ap (λ (u : Table). leafset u x (holds s x) z) q.table ∙ l)));
        }

    since_self : Clean p → Since p p
    since_self c =
        record {
          clean = c;
          table = refl;
          running = λ x. refl;
          improved = λ x on. union_alike p.table x g.table_well (low x on) (holds p x) (holds p x) (λ z l. leafset_within p.table x (holds p x) z l);
        }

  module _
      (point : ℕ)
      (c : Clean (at point))
      (earlier later : ℕ)
      (from : point ≤ earlier)
      (on : earlier ≤ later)
      (within : later ≤ length words)
      (h : (k : ℕ) → point ≤ k → k < later → AcceptedIs start words Harmless k)
    where
      abbrev p : Ring
      p = at earlier

      well : WellFormed p
      well = well_at start r reached words earlier

      since : Since p (at later)
      since =
          along start r reached words Harmless (Since p) (since_after p well) earlier
          (since_self p well (clean_at point c earlier from (omega arith) (λ k f l. h k f (omega arith)))) later on within (λ k f l. h k (omega arith) l)

      module _ (x : ℕ) (runs : is_running p x ≡ true) where
        improves_at : Improves p.table x (holds p x) (holds (at later) x)
        improves_at = since.improved x runs

        others_at : (z : ℕ) → holds p x z ≡ true → Other (size p.table) x z
        others_at = (well.node_well x).own_well.held_other

        lacking_at : lacking (at later) x ≤ lacking p x
        lacking_at =
            subst (λ (u : Table). count (size u)
            (λ w. is_running (at later) w && not (holds (at later) x w) && leafset u x (with (holds (at later) x) w) w) ≤ lacking p x)
            (sym since.table)
            (subst (λ (R : Set). count (size p.table)
            (λ w. R w && not (holds (at later) x w) && leafset p.table x (with (holds (at later) x) w) w) ≤ lacking p x)
            (λ i w. sym (since.running w) i)
            (lacks_falls p.table well.table_well x ((well.node_well x).running_low runs) (is_running p) (holds p x) (holds (at later) x) improves_at))

  improved : Improved start words
  improved =
      record {
        clean_kept = clean_at;
        leafsets_improve = λ point c earlier later from on within h x runs. (
          improves_at point c earlier later from on within h x runs,
          ahead_no_farther (at earlier).table (well point c earlier later from on within h).table_well x (holds (at earlier) x) (holds (at later) x)
              (others_at point c earlier later from on within h x runs) (improves_at point c earlier later from on within h x runs),
          behind_no_farther (at earlier).table (well point c earlier later from on within h).table_well x (holds (at earlier) x) (holds (at later) x)
              (others_at point c earlier later from on within h x runs) (improves_at point c earlier later from on within h x runs),
        );
        lacking_falls = lacking_at;
      }

pub improvement : Improvement
improvement start r reached words = improved start r reached words
