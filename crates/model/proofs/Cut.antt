-- The argument of demand 3, by cuts: what a step may do, and that no such step takes the last pair across a cut.
-- A cut is a set S of nodes. Of messages only the acknowledgements count, and of those who sent them, to whom, about whom and with what stamp.
use mathlib.Core.Path.{◌≡◌, refl, sym, ◌∙◌}
use mathlib.Core.Logic.{◌⊎◌, inl, inr}
use Prim.Native.Nat.{ℕ, ◌≤◌, ◌<◌}
use native.Mathlib.Omega.{arith}
use native.Mathlib.Decide.{ℕ_discrete}
use mathlib.Core.Bool.{true, false, ◌&&◌, ◌||◌, Bool-discrete}
use mathlib.Core.List.{Memᴰ}
use Rattle.model.specs.Sets.{Set}
use Rattle.model.specs.Types.{leave}
use Rattle.model.specs.Ring.{Ring, Message, holds, is_running}
use Rattle.model.specs.Connection.{linked, Connected, itself, onward, connected}
use Rattle.model.specs.ConnectivityPreserved.{NoAcknowledgement, LeaversOff}
use Rattle.model.proofs.Laws.{clash, and_left, and_right, and_in, or_left, or_right, or_case, decide, same_test}
use Rattle.model.proofs.Connection.{InTable, starts, further, decides}

abbrev pub commit : Ring → ℕ → ℕ → ℕ
commit r x z = (r.node x).own.commit z

abbrev pub clock : Ring → ℕ → ℕ
clock r x = (r.node x).clock

-- a replacement acknowledgement is in flight
abbrev pub Acknowledgement : Ring → Message → Type 0
Acknowledgement r m = Memᴰ m r.messages × (m.type ≡ 10)

-- ---- what a step from r to s may do

-- x holds z with a commit that is later than all that x's clock showed before
abbrev pub Young : Ring → Ring → ℕ → ℕ → Type 0
Young r s x z = (holds s x z ≡ true) × (clock r x < commit s x z)

-- x still holds z, with the commit that it had or with a young one
abbrev pub Kept : Ring → Ring → ℕ → ℕ → Type 0
Kept r s x z = (holds s x z ≡ true) × ((commit s x z ≡ commit r x z) ⊎ (clock r x < commit s x z))

-- for every pair of running nodes that r has
abbrev pub EachPair : Ring → (ℕ → ℕ → Type 0) → Type 0
EachPair r P = (x z : ℕ) → is_running r x ≡ true → is_running r z ≡ true → holds r x z ≡ true → P x z

pub data Change (r s : Ring) : Type 0 where
  -- no pair is released, no acknowledgement is new
  quiet : EachPair r (Kept r s) → ((m : Message) → Acknowledgement s m → Acknowledgement r m) → Change r s
  -- no pair is released, and m is new: its sender runs and holds its subject, with a young commit; its stamp is one that the receiver's clock has shown
  answers :
      (m : Message)
      → is_running r m.sender ≡ true
      → m.stamp ≤ clock r m.receiver
      → Young r s m.sender m.subject
      → EachPair r (Kept r s)
      → ((a : Message) → Acknowledgement s a → Acknowledgement r a ⊎ (a ≡ m))
      → Change r s
  -- m is delivered, its receiver's commit to the subject is below the stamp, and it releases the subject and holds the sender with a young commit
  trades :
      (m : Message)
      → Acknowledgement r m
      → commit r m.receiver m.subject < m.stamp
      → Young r s m.receiver m.sender
      → EachPair r (λ x z. Kept r s x z ⊎ ((x ≡ m.receiver) × (z ≡ m.subject)))
      → ((a : Message) → Acknowledgement s a → Acknowledgement r a)
      → Change r s

-- besides, nobody starts or stops, no clock falls, a pair that was not held before is young, and no type 13 is new
pub record Step (r s : Ring) : Type 0 where
  pub running : (x : ℕ) → is_running s x ≡ is_running r x
  pub clocks : (x : ℕ) → clock r x ≤ clock s x
  pub change : Change r s
  pub newly : (x z : ℕ) → holds r x z ≡ false → holds s x z ≡ true → clock r x < commit s x z
  pub leavers : (m : Message) → Memᴰ m s.messages → m.type ≡ leave → Memᴰ m r.messages

-- ---- what holds of the acknowledgements in flight

-- the stamp is one that the receiver's clock has shown, and the sender runs
abbrev Honest : Ring → Message → Type 0
Honest r m = (m.stamp ≤ clock r m.receiver) × (is_running r m.sender ≡ true)

abbrev pub Sound : Ring → Type 0
Sound r = (m : Message) → Acknowledgement r m → Honest r m

-- a pair of running nodes that crosses the cut, and that no acknowledgement from its holder's own side will make the holder release
pub record Crossing (S : Set) (r : Ring) : Type 0 where
  pub x : ℕ
  pub z : ℕ
  pub x_runs : is_running r x ≡ true
  pub z_runs : is_running r z ≡ true
  pub held : holds r x z ≡ true
  pub apart : ¬ (S x ≡ S z)
  pub safe :
      (m : Message) → Acknowledgement r m → m.receiver ≡ x → m.subject ≡ z → commit r x z < m.stamp → ¬ (S m.sender ≡ S x)

-- every cut that some pair of running nodes crosses has such a pair
abbrev Guarded : Ring → Type 0
Guarded r = (S : Set) → EachPair r (λ x z. ¬ (S x ≡ S z) → Crossing S r)

-- what holds from the point on
abbrev pub Intact : Ring → Type 0
Intact r = Sound r × Guarded r

module _ (r s : Ring) (step : Step r s) (sound : Sound r) where
  runs : (x : ℕ) → is_running r x ≡ true → is_running s x ≡ true
  runs x t = rw (step.running x) t

  -- every acknowledgement after the step was honest before it
  was_honest : (m : Message) → Acknowledgement s m → Honest r m
  was_honest m a = go step.change
    where
      go : Change r s → Honest r m
      go (quiet kept acks) = sound m (acks m a)
      go (answers n run stamp young kept acks) = elim (acks m a) [ inl b ↦ sound m b | inr e ↦ rw e (stamp, run) ]
      go (trades n ack old young kept acks) = sound m (acks m a)

  pub sound_after : Sound s
  sound_after m a =
      let h : Honest r m = was_honest m a in
      (omega (arith, h.0, step.clocks m.receiver), runs m.sender h.1)

  module _ (S : Set) where
    -- a young pair across the cut serves: no stamp in flight is above its commit
    renewed : (x z : ℕ) → is_running r x ≡ true → is_running r z ≡ true → ¬ (S x ≡ S z) → Young r s x z → Crossing S s
    renewed x z run-x run-z apart young =
        record {
          x = x;
          z = z;
          x_runs = runs x run-x;
          z_runs = runs z run-z;
          held = young.0;
          apart = apart;
          safe =
              λ m a to about late.
              let shown : m.stamp ≤ clock r x = rw to at (was_honest m a).0 in
              absurd (omega (arith, young.1));
        }

    module _ (c : Crossing S r) where
      -- the pair itself serves, if it is kept and no new acknowledgement endangers it
      stays :
          Kept r s c.x c.z
          → ((m : Message) → Acknowledgement s m → Acknowledgement r m ⊎ (m.receiver ≡ c.x → m.subject ≡ c.z → ¬ (S m.sender ≡ S c.x)))
          → Crossing S s
      stays kept acks =
          record {
            x = c.x;
            z = c.z;
            x_runs = runs c.x c.x_runs;
            z_runs = runs c.z c.z_runs;
            held = kept.0;
            apart = c.apart;
            safe = λ m a to about late. elim (acks m a) [ inl b ↦ old m b to about late kept.1 | inr safe ↦ safe to about ];
          }
        where
          old :
              (m : Message) → Acknowledgement r m → m.receiver ≡ c.x → m.subject ≡ c.z → commit s c.x c.z < m.stamp
              → (commit s c.x c.z ≡ commit r c.x c.z) ⊎ (clock r c.x < commit s c.x c.z)
              → ¬ (S m.sender ≡ S c.x)
          old m a to about late (inl same) = c.safe m a to about (omega arith)
          old m a to about late (inr young) =
              let shown : m.stamp ≤ clock r c.x = rw to at (sound m a).0 in
              absurd (omega arith)

      -- a new acknowledgement from the holder's own side: its sender holds the other end too, and that pair serves
      answered :
          (m : Message) → is_running r m.sender ≡ true → Young r s m.sender m.subject → Kept r s c.x c.z
          → ((a : Message) → Acknowledgement s a → Acknowledgement r a ⊎ (a ≡ m))
          → Crossing S s
      answered m run young kept acks = go (ℕ_discrete m.receiver c.x) (ℕ_discrete m.subject c.z) (Bool-discrete (S m.sender) (S c.x))
        where
          safe : ¬ ((m.receiver ≡ c.x) × (m.subject ≡ c.z) × (S m.sender ≡ S c.x)) → Crossing S s
          safe n = stays kept λ a b. elim (acks a b) [ inl o ↦ inl o | inr e ↦ inr (rw e (λ to about side. n (to, about, side))) ]

          go : Dec (m.receiver ≡ c.x) → Dec (m.subject ≡ c.z) → Dec (S m.sender ≡ S c.x) → Crossing S s
          go (yes to) (yes about) (yes side) =
              renewed m.sender c.z run c.z_runs (λ e. c.apart (sym side ∙ e)) (rw about at young)
          go (yes to) (yes about) (no n) = safe (λ q. n q.2)
          go (yes to) (no n) side = safe (λ q. n q.1)
          go (no n) about side = safe (λ q. n q.0)

      -- the pair is traded: the acknowledgement came from the other side, and the pair with its sender serves
      traded :
          (m : Message) → Acknowledgement r m → commit r m.receiver m.subject < m.stamp → Young r s m.receiver m.sender
          → c.x ≡ m.receiver → c.z ≡ m.subject
          → Crossing S s
      traded m ack old young to about =
          renewed c.x m.sender c.x_runs (sound m ack).1
          (λ e. c.safe m ack (sym to) (sym about) (rw (to, about) old) (sym e))
          (rw to young)

      -- THE ARGUMENT: after the step some pair crosses the cut as safely as before
      pub crosses : Crossing S s
      crosses = go step.change
        where
          here : {P : ℕ → ℕ → Type 0} → EachPair r P → P c.x c.z
          here each = each c.x c.z c.x_runs c.z_runs c.held

          go : Change r s → Crossing S s
          go (quiet kept acks) = stays (here kept) (λ m a. inl (acks m a))
          go (answers m run stamp young kept acks) = answered m run young (here kept) acks
          go (trades m ack old young kept acks) =
              elim (here kept) [
                | inl k ↦ stays k (λ a b. inl (acks a b))
                | inr q ↦ traded m ack old young q.0 q.1
              ]

  -- a cut that a pair crosses after the step was crossed before it, or the pair is new and so young
  guarded_after : Guarded r → Guarded s
  guarded_after guarded S x z run-x run-z h apart =
      let was-x : is_running r x ≡ true = rw (step.running x) at run-x in
      let was-z : is_running r z ≡ true = rw (step.running z) at run-z in
      decide (holds r x z)
      (λ t. crosses S (guarded S x z was-x was-z t apart))
      (λ f. renewed S x z was-x was-z apart (h, step.newly x z f h))

-- ---- from the point on

pub data Steps (r : Ring) : Ring → Type 0 where
  stay : Steps r r
  more : {s u : Ring} → Steps r s → Step s u → Steps r u

-- who has said that it leaves stays off
pub leavers_steps : {r s : Ring} → Steps r s → LeaversOff r → LeaversOff s
leavers_steps stay off = off
leavers_steps (more steps step) off = λ m h is. step.running m.sender ∙ leavers_steps steps off m (step.leavers m h is) is

-- at the point no acknowledgement is in flight: every pair across a cut serves
pub at_point_lem : {r : Ring} → NoAcknowledgement r → Intact r
at_point_lem none = (
  (λ m ack. absurd (none m ack.0 ack.1)),
  (λ S x z rx rz h n.
      record { x = x; z = z; x_runs = rx; z_runs = rz; held = h; apart = n; safe = λ m ack. absurd (none m ack.0 ack.1) }),
)

-- a path from one side of a cut to the other has a pair across
path_crosses : {S : Set} {r : Ring} {a b : ℕ} → Guarded r → Connected r a b → ¬ (S a ≡ S b) → Crossing S r
path_crosses guarded (itself h) apart = absurd (apart refl)
path_crosses {S} {r} guarded (onward {a} {b} {c} l path) apart = go (Bool-discrete (S a) (S b)) (path_crosses guarded path)
  where
    run : (is_running r a && is_running r b) ≡ true
    run = and_left (is_running r a && is_running r b) (holds r a b || holds r b a) l

    go : Dec (S a ≡ S b) → (¬ (S b ≡ S c) → Crossing S r) → Crossing S r
    go (yes e) further-on = further-on (λ q. apart (e ∙ q))
    go (no n) further-on =
        or_case (holds r a b) (holds r b a) (and_right (is_running r a && is_running r b) (holds r a b || holds r b a) l)
        (λ h. guarded S a b (and_left (is_running r a) (is_running r b) run) (and_right (is_running r a) (is_running r b) run) h n)
        (λ h. guarded S b a (and_right (is_running r a) (is_running r b) run) (and_left (is_running r a) (is_running r b) run) h (λ q. n (sym q)))

-- no pair crosses the set of the nodes that a is connected to
no_crossing : (r : Ring) → InTable r → (a : ℕ) → Crossing (connected r a) r → ⊥
no_crossing r low a c =
    c.apart
    (same_test (connected r a c.x) (connected r a c.z)
    (reaches c.x c.z c.x_runs c.z_runs (or_left (holds r c.z c.x) c.held))
    (reaches c.z c.x c.z_runs c.x_runs (or_right (holds r c.z c.x) c.held)))
  where
    reaches : (x z : ℕ) → is_running r x ≡ true → is_running r z ≡ true → (holds r x z || holds r z x) ≡ true → connected r a x ≡ true → connected r a z ≡ true
    reaches x z run-x run-z h t =
        let l : linked r x z ≡ true = and_in (and_in run-x run-z) h in
        (decides r a low z).1 (further r ((decides r a low x).0 t) l)

pub intact_steps : {r s : Ring} → Steps r s → Intact r → Intact s
intact_steps stay q = q
intact_steps (more {s} {u} steps step) q =
    let p = intact_steps steps q in
    (sound_after s u step p.0, guarded_after s u step p.0 p.1)

crosses_steps : {r s : Ring} (S : Set) → Steps r s → Intact r → Crossing S r → Crossing S s
crosses_steps S stay q c = c
crosses_steps S (more {s} {u} steps step) q c = crosses s u step (intact_steps steps q).0 S (crosses_steps S steps q c)

runs_steps : {r s : Ring} → Steps r s → (x : ℕ) → is_running r x ≡ true → is_running s x ≡ true
runs_steps stay x h = h
runs_steps (more steps step) x h = rw (step.running x) (runs_steps steps x h)

-- no steps part two nodes: else the set of those that a is still connected to would be a cut that no pair crosses
pub never_parted :
    {r s : Ring} → InTable s → Intact r → Steps r s
    → {a b : ℕ} → Connected r a b → Connected s a b
never_parted {r} {s} low intact steps {a} {b} path =
    decide (connected s a b)
    (λ t. (decides s a low b).0 t)
    (λ f. absurd (no_crossing s low a
    (crosses_steps (connected s a) steps intact (path_crosses intact.1 path (λ e. clash itself_connected (e ∙ f))))))
  where
    itself_connected : connected s a a ≡ true
    itself_connected = (decides s a low a).1 (itself (runs_steps steps a (starts r path)))
