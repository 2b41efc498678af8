-- Messages to each node of a set: a group of them stands for the model's list, which goes over the nodes of the table only.
use mathlib.Core.Path.{◌≡◌, sym, ap, ◌∙◌}
use mathlib.Core.Bool.{true}
use mathlib.Core.List.{map}
use Prim.Native.Nat.{ℕ, ◌^◌, ◌≤◌, ◌<◌}
use Rattle.model.specs.Sets.{Set, of_bits, members}
use Rattle.model.specs.Ring.{Message}
use Rattle.model.specs.Types.{ping_replace}
use Rattle.model.specs.Steps.{plain, stamped}
use Rattle.model.specs.Structs.{spare_at}
use Rattle.model.specs.declared.node.NodeRecord.{NodeRecord}
use Rattle.sets.specs.Within.{Within}
use Rattle.sets.proofs.Ascending.{members_to}
use Rattle.records.specs.Effects.{Sent}
use Rattle.records.specs.declared.effect.Sends.TheVariants.{Each, ToSpares}

module _ {n : ℕ} (me time : ℕ) (q : NodeRecord) (to : ℕ) (S : Set) (few : n ≤ 64) (low : Within n to) (e : of_bits to ≡ S) where
  same : (make : ℕ → Message) → map make (members 64 (of_bits to)) ≡ map make (members n S)
  same make = ap (map make) (sym (members_to (of_bits to) n low 64 few) ∙ ap (members n) e)

  pub calls : (tag : ℕ) → tag < 2 ^ 4 → Sent me time q (Each tag to) (map (plain tag me) (members n S))
  calls tag room = record { messages = same (plain tag me); fits = room }

  pub requested : ((z : ℕ) → of_bits to z ≡ true → spare_at q z < 64)
      → Sent me time q (ToSpares to) (map (λ z. stamped ping_replace me (spare_at q z) z time) (members n S))
  requested low = record { messages = same (λ z. stamped ping_replace me (spare_at q z) z time); fits = low }
