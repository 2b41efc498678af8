-- Long reaches, by fingers: document 02's note 11.
use Rattle.std.specs.Prelude.{ℕ, zero, suc, ◌+◌, ◌&&◌, List, [], ◌∷◌, ◌++◌, length, get_or, ltb, eqb, if◌then◌else◌}
use Rattle.model.specs.Key.{clockwise, counter_clockwise}
use Rattle.model.specs.Sets.{Set, some, none_node}
use Rattle.model.specs.Leafset.{size, key, first_met}
use Rattle.model.specs.Ring.{Ring, is_running}
use Rattle.model.specs.Words.{decode}
use Rattle.model.specs.Answers.{Refusal, first_of, is_accepted}
use Rattle.model.specs.Questions.{leafset_refusals}
use Rattle.model.specs.Route.{key_out_of_range}

-- "spans 1, 2, 4 up to 8,388,608, kept as a table of 24 numbers"
unfoldable pub spans : List ℕ
spans =
    1 ∷ 2 ∷ 4 ∷ 8 ∷ 16 ∷ 32 ∷ 64 ∷ 128 ∷ 256 ∷ 512 ∷ 1024 ∷ 2048
    ∷ 4096 ∷ 8192 ∷ 16384 ∷ 32768 ∷ 65536 ∷ 131072
    ∷ 262144 ∷ 524288 ∷ 1048576 ∷ 2097152 ∷ 4194304 ∷ 8388608 ∷ []

-- where a reach ends, and after how many hops
pub record Ending : Type 0 where
  pub end : ℕ
  pub hops : ℕ

abbrev pub here : ℕ → Ending
here x = record { end = x; hops = 0 }

abbrev pub one_more : Ending → Ending
one_more e = record { end = e.end; hops = suc e.hops }

module _ (r : Ring) where
  -- "the running stand first met clockwise from" a place, "round the ring. A stand at that very place counts as met."
  abbrev pub first_running : ℕ → ℕ
  first_running place = first_met r.table clockwise place (is_running r)

  -- "a stand's finger is the running stand first met clockwise from its key plus the span"
  unfoldable pub finger : ℕ → ℕ → ℕ
  finger x span = first_running (key r.table x + span)

  -- the fingers of x, of all spans
  unfoldable pub fingers : ℕ → Set
  fingers x y = some (length spans) (λ i. eqb y (finger x (get_or spans i 0)))

  -- "The owner of a key is the running stand first met clockwise from it, one at the key included."
  unfoldable pub owner : ℕ → ℕ
  owner a = first_running a

  module _ (a : ℕ) where
    -- the nodes "strictly between the present stand and the key, going clockwise"
    abbrev pub between : ℕ → Set
    between x y =
        ltb 0 (clockwise (key r.table x) (key r.table y))
        && ltb (clockwise (key r.table x) (key r.table y)) (clockwise (key r.table x) a)

    abbrev pub fingers_between : ℕ → Set
    fingers_between x y = between x y && fingers x y

    -- "it goes to the farthest finger strictly between .., and if there is none, to the finger of span 1":
    -- of the nodes other than x, the farthest clockwise from x is the one met first from x the other way round
    unfoldable pub next : ℕ → ℕ
    next x =
        if some (size r.table) (fingers_between x)
        then first_met r.table counter_clockwise (key r.table x) (fingers_between x)
        else finger x 1

    -- "A reach stops at the owner. Otherwise it goes" on; with at most so many hops
    unfoldable pub reach_within : ℕ → ℕ → Ending
    reach_within zero x = here x
    reach_within (suc hops) x = if eqb x (owner a) then here x else one_more (reach_within hops (next x))

    -- how far it is clockwise to the owner: it falls with each hop
    abbrev pub to_owner : ℕ → ℕ
    to_owner x = clockwise (key r.table x) (key r.table (owner a))

    unfoldable pub reach : ℕ → Ending
    reach x = reach_within (to_owner x) x

    -- the last running node before the key: met first the other way round from the place before the key
    unfoldable pub last_before : ℕ
    last_before = first_met r.table counter_clockwise (a + 16777215) (is_running r)

    -- how far it is clockwise to that node: each hop but the last at least halves it
    abbrev pub to_last : ℕ → ℕ
    to_last x = clockwise (key r.table x) (key r.table last_before)

-- ---- the call

-- "Refusals 1, 6, 7, 8 and 12 apply."
abbrev pub reach_refusals : List ℕ → ℕ → ℕ → List Refusal
reach_refusals ws start key = leafset_refusals ws start ++ (key_out_of_range key ∷ [])

unfoldable pub reach_answer : List ℕ → ℕ → ℕ → ℕ
reach_answer ws start key = first_of (reach_refusals ws start key)

pub record Reach : Type 0 where
  pub answer : ℕ
  pub end : ℕ
  pub hops : ℕ

-- the hops "counted in its answer"; "A refused reach answers 0 hops and stand 64."
unfoldable pub reach_of : List ℕ → ℕ → ℕ → Reach
reach_of ws start key =
    if is_accepted (reach_answer ws start key)
    then record { answer = 0; end = ending.end; hops = ending.hops }
    else record { answer = reach_answer ws start key; end = none_node; hops = 0 }
  where
    ending : Ending
    ending = reach (decode ws) key start
