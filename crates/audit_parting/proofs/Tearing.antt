-- Who is parted from some node, as sets tell it.
use mathlib.Core.Path.{◌≡◌, sym, ap, ap₂, ◌∙◌, fun_ext}
use mathlib.Core.Bool.{Bool, true, not, ◌&&◌, not-not}
use mathlib.Core.List.{List}
use Prim.Native.Nat.{ℕ, ◌^◌, ◌<◌}
use native.Mathlib.Nat.{le_refl}
use lib.Dec.{eqb}
use lib.ListN.{get_or}
use lib.Bits.{bit_and}
use Rattle.model.specs.Sets.{Set, some, of_bits}
use Rattle.model.specs.Leafset.{size}
use Rattle.model.specs.Ring.{Ring, is_running}
use Rattle.model.specs.Connection.{connected}
use Rattle.model.proofs.Laws.{and_left, and_right, decide, some_out}
use Rattle.model.proofs.Bits.{bit_below}
use Rattle.sets.proofs.Ascending.{some_to}
use Rattle.sets.proofs.Bits.{and_both, zero_none}
use Rattle.audit_account.specs.Partings.{torn, parts}
use Rattle.audit_parting.specs.Groups.{Around}
use Rattle.audit_parting.proofs.Alike.{from_runs, to_low}

-- one of the old group runs and is not of the new one
abbrev pub lost : ℕ → ℕ → ℕ → Set
lost old new running b = of_bits old b && of_bits running b && not (of_bits new b)

pub lost_some : (old new running s : ℕ) → s < 2 ^ 64 → of_bits s ≡ (λ (b : ℕ). of_bits (bit_and old running) b && not (of_bits new b))
    → not (eqb s 0) ≡ some 64 (lost old new running)
lost_some old new running s fits e =
    ap not (zero_none 64 s (le_refl 64) fits (λ y. bit_below 64 s y fits)) ∙ not-not (some 64 (of_bits s))
    ∙ ap (some 64) (e ∙ ap {B = Set} (λ (S : Set) (b : ℕ). S b && not (of_bits new b)) (and_both old running))

and_first : (p q s : Bool) → (p && q && s) ≡ true → p ≡ true
and_first p q s t = and_left p q (and_left (p && q) s t)

module _ (r r' : Ring) {gs gs' : List ℕ} (a : Around r r' gs gs') where
  pub torn_lost : (running : ℕ) → running < 2 ^ 64 → ((x : ℕ) → of_bits running x ≡ is_running r' x)
      → (x : ℕ) → (of_bits running x && some 64 (lost (get_or gs x 0) (get_or gs' x 0) running)) ≡ torn r r' x
  unfolding torn
  torn_lost running fits is x = decide (of_bits running x) (λ t. ap₂ ◌&&◌ (is x) (same (bit_below 64 running x fits t))) (λ f. rw (f, sym (is x) ∙ f))
    where
      gone : Set
      gone b = connected r x b && is_running r' b && not (connected r' x b)

      gone_low : (b : ℕ) → gone b ≡ true → b < size r.table
      gone_low b t = to_low r a.low x b (and_first (connected r x b) (is_running r' b) (not (connected r' x b)) t)

      at : x < 64 → (b : ℕ) → lost (get_or gs x 0) (get_or gs' x 0) running b ≡ gone b
      at h b = ap₂ (λ (p q : Bool). p && not q) (ap₂ ◌&&◌ (a.old.sets x b h) (is b)) (a.new.sets x b h)

      same : x < 64 → some 64 (lost (get_or gs x 0) (get_or gs' x 0) running) ≡ some (size r.table) gone
      same h = ap (some 64) (fun_ext (at h)) ∙ sym (some_to gone (size r.table) gone_low 64 a.few)

  -- who is parted from some node ran before
  pub torn_ran : (x : ℕ) → torn r r' x ≡ true → is_running r x ≡ true
  unfolding torn
  torn_ran x t =
      let p = some_out _ _ (and_right (is_running r' x) _ t) in
      from_runs r a.low x p.0 (and_first (connected r x p.0) (is_running r' p.0) (not (connected r' x p.0)) p.2)

  -- nobody is parted exactly where the set is empty
  pub none_torn : (s : ℕ) → s < 2 ^ 64 → ((x : ℕ) → of_bits s x ≡ torn r r' x) → eqb s 0 ≡ not (parts r r')
  unfolding parts
  none_torn s fits is =
      zero_none (size r.table) s a.few fits (λ y t. a.low y (torn_ran y (sym (is y) ∙ t)))
      ∙ ap (λ (S : Set). not (some (size r.table) S)) (fun_ext is)
