-- What the events of a tidy ring keep of offers, spares, requests and commits, with the table and the running nodes fixed: by the cases of Pairs.
-- While z is the farthest that x holds outside, its commit does not rise, and once released it is not held again.
use mathlib.Core.Path.{◌≡◌, sym, ap, ◌∙◌, subst}
use mathlib.Core.Logic.{◌⊎◌, inl, inr}
use Prim.Native.Nat.{ℕ, ◌≤◌, ◌<◌}
use native.Mathlib.Omega.{arith}
use mathlib.Core.Bool.{Bool, true, false}
use mathlib.Core.List.{Memᴰ}
use Rattle.model.specs.Key.{distance}
use Rattle.model.specs.Sets.{Set}
use Rattle.model.specs.Leafset.{Table, size, key, leafset, closest}
use Rattle.model.specs.Ring.{Ring, Message, is_running, holds}
use Rattle.model.specs.WellFormed.{WellFormed, WellFormedTable}
use Rattle.model.specs.Play.{after}
use Rattle.model.specs.declared.event.Event.{Event}
use Rattle.model.proofs.Laws.{clash}
use Rattle.model.proofs.Cases.{after_table}
use Rattle.model.proofs.Handlers.{each_in}
use Rattle.settle_leafsets.specs.Covered.{Even}
use Rattle.settle_leafsets.proofs.Mutual.{leafset_mutual}
use Rattle.settle_leafsets.proofs.Closest.{closest_offer}
use Rattle.settle_kept.proofs.Keeping.{after_running, harmless_switch}
use Rattle.settle_kept.proofs.Closure.{harmless_keeps}
use Rattle.settle_kept.proofs.Secured.{secured_after}
use Rattle.settle_kept.proofs.Clean.{clean_after}
use Rattle.settle_rounds.proofs.Progress.{clean_secured}
use Rattle.settle_cleanup.specs.Cleanup.{Familiar, Tidy, Calm, Outside}
use Rattle.settle_cleanup.proofs.Pairs.{Pair, same, gone, named, asked, traded, New, turned}

-- a message after an event was there, or was sent
pub old_or_new :
    (r : Ring) → WellFormed r → Tidy r → (e : Event) → Calm r e → (m : Message) → Memᴰ m (after r e).messages → Memᴰ m r.messages ⊎ New r m
old_or_new r well tidy e c = (turned r well tidy e c).messages

pub tidy_after : (r : Ring) → WellFormed r → Tidy r → (e : Event) → Calm r e → Tidy (after r e)
tidy_after r well tidy e c =
    record {
      clean = clean_after r tidy.clean e c.0;
      covered = (secured_after r well (clean_secured r tidy.clean tidy.covered) e (harmless_keeps r e c.0)).covered;
      familiar = λ m h.
          subst (λ (S : Set). Familiar (after r e).table S m) (λ j a. sym (after_running r e (harmless_switch r e c.0) a) j)
          (subst (λ (u : Table). Familiar u (is_running r) m) (sym (after_table r e))
          (elim (old_or_new r well tidy e c m h) [ inl o ↦ tidy.familiar m o | inr n ↦ n.familiar ]));
    }

module _ (t : Table) (R : Set) where
  -- a tidy ring of this table in which these nodes run
  pub record Same (s : Ring) : Type 0 where
    pub tidy : Tidy s
    pub table : s.table ≡ t
    pub running : (x : ℕ) → is_running s x ≡ R x

  pub same_after : (s : Ring) → WellFormed s → Same s → (e : Event) → Calm s e → Same (after s e)
  same_after s well is e c =
      record {
        tidy = tidy_after s well is.tidy e c;
        table = after_table s e ∙ is.table;
        running = λ x. after_running s e (harmless_switch s e c.0) x ∙ is.running x;
      }

  module _ (s : Ring) (is : Same s) where
    pub leafset_in : (x z : ℕ) → leafset s.table x (is_running s) z ≡ leafset t x R z
    leafset_in x z = ap (λ (u : Table). leafset u x (is_running s) z) is.table ∙ ap (λ (S : Set). leafset t x S z) (λ i a. is.running a i)

    pub closest_in : (u a : ℕ) → closest s.table u (is_running s) a ≡ closest t u R a
    closest_in u a = ap (λ (v : Table). closest v u (is_running s) a) is.table ∙ ap (λ (S : Set). closest t u S a) (λ i b. is.running b i)

  -- ---- facts of a ring, for this table and these nodes

  abbrev pub Answers : Ring → Type 0
  Answers s = (m : Message) → Memᴰ m s.messages → m.type ≡ 8 → m.subject ≡ closest t m.sender R m.receiver

  abbrev pub Requests : Ring → Type 0
  Requests s = (m : Message) → Memᴰ m s.messages → m.type ≡ 9 → m.receiver ≡ closest t m.subject R m.sender

  abbrev pub SpareOf : ℕ → ℕ → Ring → Type 0
  SpareOf x z s = ((s.node x).own.spare z ≡ 64) ⊎ ((s.node x).own.spare z ≡ closest t z R x)

  abbrev pub Spares : Ring → Type 0
  Spares s = (x z : ℕ) → R x ≡ true → leafset t x R z ≡ false → SpareOf x z s

  -- the spare of a node outside is nearer than that node is
  abbrev pub Short : Ring → Type 0
  Short s = (x z : ℕ) → R x ≡ true → leafset t x R z ≡ false
      → ((s.node x).own.spare z ≡ 64) ⊎ (distance (key t x) (key t ((s.node x).own.spare z)) < distance (key t x) (key t z))

  pub spares_short : (s : Ring) → Spares s → Short s
  spares_short s spares x z on far =
      elim (spares x z on far) [
        | inl e ↦ inl e
        | inr e ↦ elim (closest_offer t R z x) [
          | inl n ↦ inl (e ∙ n)
          | inr o ↦ inr (subst (λ (y : ℕ). distance (key t x) (key t y) < distance (key t x) (key t z)) (sym e) o.nearer)
        ]
      ]

  -- nobody whom x holds outside is farther than d
  abbrev pub Bounded : ℕ → ℕ → Ring → Type 0
  Bounded x d s = (w : ℕ) → holds s x w ≡ true → leafset t x R w ≡ false → distance (key t x) (key t w) ≤ d

  module _ (s : Ring) (is : Same s) where
    -- what is sent
    pub sent_answers : (m : Message) → New s m → m.type ≡ 8 → m.subject ≡ closest t m.sender R m.receiver
    sent_answers m n q = n.offers q ∙ closest_in s is m.sender m.receiver

    pub sent_requests : Spares s → (m : Message) → New s m → m.type ≡ 9 → m.receiver ≡ closest t m.subject R m.sender
    sent_requests spares m n q =
        let a = n.asks q in
        elim (spares m.sender m.subject (sym (is.running m.sender) ∙ a.0) (sym (leafset_in s is m.sender m.subject) ∙ a.1)) [
          | inl f ↦ absurd (a.3 (sym a.2 ∙ f))
          | inr f ↦ sym a.2 ∙ f
        ]

  -- ---- an event

  module _ (s : Ring) (well : WellFormed s) (is : Same s) (e : Event) (c : Calm s e) where
    abbrev s' : Ring
    s' = after s e

    abbrev PairOf : ℕ → ℕ → Type 0
    PairOf x z = Pair s x z (holds s' x z) ((s'.node x).own.spare z) ((s'.node x).own.commit z)

    pair : (x z : ℕ) → R x ≡ true → leafset t x R z ≡ false → PairOf x z
    pair x z on far = (turned s well is.tidy e c).nodes x (is.running x ∙ on) z (leafset_in s is x z ∙ far)

    pub answers_after : Answers s → Answers s'
    answers_after k m h q = elim (old_or_new s well is.tidy e c m h) [ inl o ↦ k m o q | inr n ↦ sent_answers s is m n q ]

    pub requests_after : Spares s → Requests s → Requests s'
    requests_after spares k m h q = elim (old_or_new s well is.tidy e c m h) [ inl o ↦ k m o q | inr n ↦ sent_requests s is spares m n q ]

    pub spare_after : Answers s → (x z : ℕ) → R x ≡ true → leafset t x R z ≡ false → SpareOf x z s → SpareOf x z s'
    spare_after k x z on far p = go (pair x z on far)
      where
        kept : {v : ℕ} → v ≡ (s.node x).own.spare z → (v ≡ 64) ⊎ (v ≡ closest t z R x)
        kept q = elim p [ inl f ↦ inl (q ∙ f) | inr f ↦ inr (q ∙ f) ]

        go : {h : Bool} {v d : ℕ} → Pair s x z h v d → (v ≡ 64) ⊎ (v ≡ closest t z R x)
        go (same a b d) = kept b
        go (gone a b) = inl b
        go (named m i q from to a b d) = inr (b ∙ k m i q ∙ ap (λ (u : ℕ). closest t u R m.receiver) from ∙ ap (closest t z R) to)
        go (asked m i q to about a b) = kept b
        go (traded m i q to from out f b) = kept b

    -- who is offered x for u is nearer than u
    trade_nearer :
        Short s → (x z : ℕ) → R x ≡ true → (m : Message) → Memᴰ m s.messages → m.sender ≡ z → Outside s x m.subject
        → (s.node x).own.spare m.subject ≡ z
        → distance (key t x) (key t z) < distance (key t x) (key t m.subject)
    trade_nearer short x z on m i from out f =
        elim (short x m.subject on (sym (leafset_in s is x m.subject) ∙ out.far)) [
          | inl q ↦
              (let l : m.sender < size s.table = (each_in well.messages_well i).sender_low in
              let g = well.table_well.size_high in
              let z64 : z ≡ 64 = sym f ∙ q in
              absurd (omega arith))
          | inr q ↦ subst (λ (y : ℕ). distance (key t x) (key t y) < distance (key t x) (key t m.subject)) f q
        ]

    -- what holds of all distances below one of which it holds, and of those whom x holds outside, goes on to hold of these
    pub limited_after :
        Short s → (B : ℕ → Type 0) → ((u v : ℕ) → v < u → B u → B v) → (x : ℕ) → R x ≡ true
        → ((w : ℕ) → holds s x w ≡ true → leafset t x R w ≡ false → B (distance (key t x) (key t w)))
        → (w : ℕ) → holds s' x w ≡ true → leafset t x R w ≡ false → B (distance (key t x) (key t w))
    limited_after short B down x on b w h far = go (pair x w on far) h
      where
        go : {k : Bool} {v g : ℕ} → Pair s x w k v g → k ≡ true → B (distance (key t x) (key t w))
        go (same a p q) i = b w (sym a ∙ i) far
        go (gone a p) i = clash i a
        go (named m j q from to a p u) i = b w (sym a ∙ i) far
        go (asked m j q to about a p) i = b w a far
        go (traded m j q to from out f p) i =
            down (distance (key t x) (key t m.subject)) (distance (key t x) (key t w)) (trade_nearer short x w on m j from out f)
            (b m.subject out.held (sym (leafset_in s is x m.subject) ∙ out.far))

    pub bounded_after : Short s → (x d : ℕ) → R x ≡ true → Bounded x d s → Bounded x d s'
    bounded_after short x d on b = limited_after short (λ u. u ≤ d) (λ u v l h. omega arith) x on b

    -- ---- z is the farthest that x holds outside, or as far

    module _ (short : Short s) (x z : ℕ) (on : R x ≡ true) (far : leafset t x R z ≡ false) (b : Bounded x (distance (key t x) (key t z)) s) where
      not_traded : (m : Message) → Memᴰ m s.messages → m.sender ≡ z → Outside s x m.subject → (s.node x).own.spare m.subject ≡ z → ⊥
      not_traded m i from out f =
          let l = trade_nearer short x z on m i from out f in
          let u = b m.subject out.held (sym (leafset_in s is x m.subject) ∙ out.far) in
          omega arith

      -- once released it is not held again
      pub gone_after : holds s x z ≡ false → holds s' x z ≡ false
      gone_after n = go (pair x z on far)
        where
          go : {h : Bool} {v d : ℕ} → Pair s x z h v d → h ≡ false
          go (same a p q) = a ∙ n
          go (gone a p) = a
          go (named m j q from to a p u) = a ∙ n
          go (asked m j q to about a p) = clash a n
          go (traded m j q to from out f p) = absurd (not_traded m j from out f)

      -- while it is held, its spare stays whom z offers
      pub exact_after :
          Answers s → (holds s x z ≡ true → (s.node x).own.spare z ≡ closest t z R x) → holds s' x z ≡ true → (s'.node x).own.spare z ≡ closest t z R x
      exact_after k f = go (pair x z on far)
        where
          go : {h : Bool} {v d : ℕ} → Pair s x z h v d → h ≡ true → v ≡ closest t z R x
          go (same a p q) i = p ∙ f (sym a ∙ i)
          go (gone a p) i = clash i a
          go (named m j q from to a p u) i = p ∙ k m j q ∙ ap (λ (w : ℕ). closest t w R m.receiver) from ∙ ap (closest t z R) to
          go (asked m j q to about a p) i = p ∙ f a
          go (traded m j q to from out g p) i = absurd (not_traded m j from out g)

      -- nobody asks x about z, which does not have x in its leafset
      not_asked :
          Even t → Requests s → (m : Message) → Memᴰ m s.messages → m.type ≡ 9 → m.receiver ≡ x → m.subject ≡ z
          → holds s x z ≡ true → ⊥
      not_asked even k m i q to about held =
          let runs : R z ≡ true = sym (is.running z) ∙ is.tidy.clean.holds_running x (is.running x ∙ on) z held in
          let hx : x < size t = subst (λ (u : Table). x < size u) is.table ((well.node_well x).running_low (is.running x ∙ on)) in
          let hz : z < size t = subst (λ (u : Table). z < size u) is.table ((well.node_well z).running_low (is.running z ∙ runs)) in
          let g : WellFormedTable t = subst WellFormedTable is.table well.table_well in
          let me : x ≡ closest t z R m.sender = sym to ∙ k m i q ∙ ap (λ (w : ℕ). closest t w R m.sender) about in
          elim (closest_offer t R z m.sender) [
            | inl n ↦ (let h = g.size_high in let e64 : x ≡ 64 = me ∙ n in omega arith)
            | inr o ↦ clash (ap (leafset t z R) me ∙ o.mine) (sym (leafset_mutual t g R even x z hx hz on runs) ∙ far)
          ]

      -- so its commit does not rise
      pub old_after : Even t → Requests s → (now : ℕ) → (holds s x z ≡ true → (s.node x).own.commit z ≤ now)
          → holds s' x z ≡ true → (s'.node x).own.commit z ≤ now
      old_after even k now f = go (pair x z on far)
        where
          go : {h : Bool} {v d : ℕ} → Pair s x z h v d → h ≡ true → d ≤ now
          go (same a p q) i = rw q (f (sym a ∙ i))
          go (gone a p) i = clash i a
          go (named m j q from to a p u) i = rw u (f (sym a ∙ i))
          go (asked m j q to about a p) i = absurd (not_asked even k m j q to about a)
          go (traded m j q to from out g p) i = absurd (not_traded m j from out g)
