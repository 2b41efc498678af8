-- A node that is to act.
use Rattle.std.specs.Prelude.{◌≡◌, true, List, [], ◌∷◌, ℕ, ◌+◌, ◌^◌, ◌<◌, ◌≤◌, length}
use Rattle.model.specs.Leafset.{size}
use Rattle.model.specs.Ring.{Ring}
use Rattle.model.specs.Answers.{Refusal}
use Rattle.model.specs.Words.{decode_table, decode}
use Rattle.model.specs.Play.{no_node, node_off, clock_spent}
use Rattle.model.specs.Structs.{own_of, spare_at}
use Rattle.records.specs.Effects.{OwnFits}
use Rattle.event_act.specs.declared.Actor.{Actor}

-- the refusals of a node that is to act
abbrev pub may_act : Ring → ℕ → List Refusal
may_act ρ x = no_node ρ x ∷ node_off ρ x ∷ clock_spent ρ true x ∷ []

-- a is node x of words that read as a ring
pub record IsActor (ws : List ℕ) (x : ℕ) (a : Actor) : Type 0 where
  pub nodes : a.n ≡ size (decode_table ws)
  pub few : a.n ≤ 64
  pub member : x < a.n
  pub count : a.m ≡ length (decode ws).messages
  pub room : a.m ≤ 1024
  pub time : a.time.0 ≡ ((decode ws).node x).clock + 1
  pub time_room : a.time.0 < 2 ^ 24
  pub own : own_of a.own ≡ ((decode ws).node x).own
  pub fits : OwnFits a.n a.own
  pub spare_high : (z : ℕ) → spare_at a.own z ≤ 64
