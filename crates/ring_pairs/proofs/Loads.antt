-- Loading the own record of a node, a pair at a time, the highest first.
use mathlib.Core.Path.{◌≡◌, refl, sym, ap, ◌∙◌, fun_ext}
use mathlib.Core.Logic.{◌≢◌}
use mathlib.Core.Bool.{Bool, true, false, ◌&&◌}
use mathlib.Core.List.{List}
use Prim.Native.Nat.{ℕ, zero, suc, ◌+◌, ◌-◌, ◌*◌, ◌/◌, ◌%◌, ◌^◌, ◌<◌, ◌≤◌}
use native.Mathlib.Nat.{add-zero, zero-add, pow-suc, lt_of_lt_of_le}
use native.Mathlib.Numerals.{one-add}
use native.Mathlib.Omega.{arith}
use native.Mathlib.Decide.{dec_lt, ℕ_discrete}
use lib.Dec.{ltb, eqb, lit<}
use lib.ListN.{length, get_or, set, length-set, replicate}
use lib.Pow.{pow_pos, pow_mono, shr-shr}
use lib.Seq.{get_or-set_same, get_or-set_other}
use borrow.Author.Tests.{lt-ltb, le-ltb, eq-eqb, ne_eqb}
use Rattle.std.specs.Prelude.{if◌then◌else◌}
use Rattle.model.specs.Sets.{Set, without, of_bits, none_node}
use Rattle.model.specs.Leafset.{size}
use Rattle.model.specs.Fields.{bits, flag}
use Rattle.model.specs.Words.{is_pair, pair_place, decode_table, decode_own}
use Rattle.model.specs.Structs.{stamp_at, spare_at}
use Rattle.model.specs.declared.values.NodeNumber.{NodeNumber}
use Rattle.model.specs.declared.values.Stamp.{Stamp}
use Rattle.model.specs.declared.node.NodeRecord.{NodeRecord}
use Rattle.model.proofs.Fields.{bits<}
use Rattle.model.proofs.Laws.{if_law}
use Rattle.sets.proofs.Bits.{of_none}
use Rattle.sets.proofs.Ascending.{without_here, without_else}
use Rattle.ring_head.proofs.Holds.{pair_yes, pair_high, pair_same}
use Rattle.ring_head.proofs.Arrays.{fill_none}
use Rattle.ring_pairs.specs.Loaded.{LoadedNode}

-- ---- a set that is built from above

-- h has the members of S from z on and below n, each lower by z
pub record Above (h : ℕ) (S : Set) (z n : ℕ) : Type 0 where
  pub low : h < 2 ^ (n - z)
  pub members : (y : ℕ) → of_bits h y ≡ (ltb (z + y) n && S (z + y))

abbrev one : Bool → ℕ
one b = if b then 1 else 0

pub above_none : (S : Set) (n : ℕ) → Above 0 S n n
above_none S n = record { low = pow_pos (n - n); members = λ y. of_none y ∙ rw (le-ltb (n + y) n (omega arith)) }

lowest_bit : (h : ℕ) (b : Bool) → of_bits (2 * h + one b) 0 ≡ b
lowest_bit h true = eq-eqb ((2 * h + 1) / 2 ^ 0 % 2) 1 (omega arith)
lowest_bit h false = ne_eqb ((2 * h + 0) / 2 ^ 0 % 2) 1 (λ e. absurd (omega arith))

half : (h : ℕ) (b : Bool) → (2 * h + one b) / 2 ≡ h
half h true = omega arith
half h false = omega arith

higher_bit : (h : ℕ) (b : Bool) (y : ℕ) → of_bits (2 * h + one b) (suc y) ≡ of_bits h y
higher_bit h b y =
    ap (λ (k : ℕ). eqb (k % 2) 1)
    (ap (λ (k : ℕ). (2 * h + one b) / 2 ^ k) (sym (one-add y))
    ∙ sym (shr-shr (2 * h + one b) 1 y)
    ∙ ap (λ (k : ℕ). k / 2 ^ y) (half h b))

module _ (S : Set) (h z n : ℕ) (a : Above h S (z + 1) n) (l : z < n) where
  pub above_room : n ≤ 64 → h < 2 ^ 63
  above_room k = lt_of_lt_of_le a.low (pow_mono {i = n - (z + 1)} {j = 63} (omega arith))

  pub above_more : (b : Bool) → b ≡ S z → Above (2 * h + one b) S z n
  above_more b e = record { low = room b; members = at }
    where
      twice : 2 ^ (n - z) ≡ 2 ^ (n - (z + 1)) * 2
      twice =
          let k : n - z ≡ suc (n - (z + 1)) = omega arith in
          ap (λ (k : ℕ). 2 ^ k) k ∙ pow-suc 2 (n - (z + 1))

      room : (b : Bool) → 2 * h + one b < 2 ^ (n - z)
      room true = omega (arith, twice, a.low)
      room false = omega (arith, twice, a.low)

      at : (y : ℕ) → of_bits (2 * h + one b) y ≡ (ltb (z + y) n && S (z + y))
      at zero = rw (add-zero z, lt-ltb z n l) (lowest_bit h b ∙ e)
      at (suc y) =
          let k : z + 1 + y ≡ z + suc y = omega arith in
          higher_bit h b y ∙ a.members y ∙ ap (λ (j : ℕ). ltb j n && S j) k

-- all of it, without x
module _ (S T : Set) (h r n x : ℕ) (a : Above h S 0 n) (e : of_bits r ≡ without (of_bits h) x) where
  pub above_all : T x ≡ false → ((y : ℕ) → y < n → y ≢ x → S y ≡ T y) → ((y : ℕ) → n ≤ y → T y ≡ false) → of_bits r ≡ T
  above_all f g k = e ∙ fun_ext at
    where
      here : (y : ℕ) → of_bits h y ≡ (ltb y n && S y)
      here y = a.members y ∙ ap (λ (j : ℕ). ltb j n && S j) (zero-add y)

      at : (y : ℕ) → without (of_bits h) x y ≡ T y
      at y =
          elim (ℕ_discrete y x) [
            | yes q ↦ rw q (without_here (of_bits h) x ∙ sym f)
            | no d ↦ without_else (of_bits h) x y d ∙ here y ∙ elim (dec_lt y n) [
              | yes l ↦ rw (lt-ltb y n l) (g y l d)
              | no l ↦ rw (le-ltb y n (omega arith)) (sym (k y (omega arith)))
            ]
          ]

-- ---- an array that is filled from above

-- f k at each k from z on and below n, and d from n on
pub record Down {A : Type 0} (value : A → ℕ) (l : List A) (d : A) (f : ℕ → ℕ) (z n : ℕ) : Type 0 where
  pub long : length l ≡ 64
  pub inside : (k : ℕ) → z ≤ k → k < n → value (get_or l k d) ≡ f k
  pub rest : (k : ℕ) → n ≤ k → get_or l k d ≡ d

pub down_none : {A : Type 0} (value : A → ℕ) (d : A) (f : ℕ → ℕ) (n : ℕ) → Down value (replicate 64 d) d f n n
down_none value d f n =
    record { long = (fill_none value d f).long; inside = λ k a b. absurd (omega arith); rest = λ k h. (fill_none value d f).rest k (omega arith) }

module _ {A : Type 0} (value : A → ℕ) (l : List A) (d : A) (f : ℕ → ℕ) (z n : ℕ) where
  pub down_more : Down value l d f (z + 1) n → (v : A) → z < n → n ≤ 64 → value v ≡ f z → Down value (set l z v) d f z n
  down_more e v h m p =
      record {
        long = length-set l z v ∙ e.long;
        inside = λ k a b.
            elim (dec_lt z k) [
              | yes y ↦ ap value (get_or-set_other l z k v d (omega arith)) ∙ e.inside k (omega arith) b
              | no y ↦ here k (omega arith)
            ];
        rest = λ k g. get_or-set_other l z k v d (omega arith) ∙ e.rest k g;
      }
    where
      here : (k : ℕ) → k ≡ z → value (get_or (set l z v) k d) ≡ f k
      here k q = rw q (ap value (get_or-set_same l z v d (omega (arith, e.long))) ∙ p)

-- all of it, and d at x
module _ {A : Type 0} (value : A → ℕ) (l : List A) (d : A) (f g : ℕ → ℕ) (n x : ℕ) (e : Down value l d f 0 n) where
  pub down_all : x < 64 → g x ≡ value d → ((k : ℕ) → k < n → k ≢ x → f k ≡ g k)
      → ((k : ℕ) → n ≤ k → g k ≡ value d)
      → (k : ℕ) → value (get_or (set l x d) k d) ≡ g k
  down_all h p q r k =
      elim (ℕ_discrete k x) [
        | yes y ↦ rw y (ap value (get_or-set_same l x d d (omega (arith, e.long))) ∙ sym p)
        | no y ↦ ap value (get_or-set_other l x k d d y) ∙ elim (dec_lt k n) [
          | yes z ↦ e.inside k (omega arith) z ∙ q k z y
          | no z ↦ ap value (e.rest k (omega arith)) ∙ sym (r k (omega arith))
        ]
      ]

-- ---- what the words say of a pair, and of what is none

module _ (ws : List ℕ) (x z : ℕ) where
  module _ (p : is_pair (decode_table ws) x z ≡ true) where
    held_at : (decode_own ws x).held z ≡ flag 24 (get_or ws (pair_place x z) 0)
    unfolding decode_own
    held_at = rw p

    candidate_at : (decode_own ws x).candidates z ≡ flag 25 (get_or ws (pair_place x z) 0)
    unfolding decode_own
    candidate_at = rw p

    commit_at : (decode_own ws x).commit z ≡ bits 0 24 (get_or ws (pair_place x z) 0)
    unfolding decode_own
    commit_at = rw p

    spare_at_lem : (decode_own ws x).spare z ≡ bits 0 7 (get_or ws (pair_place x z + 1) 0)
    unfolding decode_own
    spare_at_lem = rw p

  module _ (p : is_pair (decode_table ws) x z ≡ false) where
    held_none : (decode_own ws x).held z ≡ false
    unfolding decode_own
    held_none = rw p

    candidate_none : (decode_own ws x).candidates z ≡ false
    unfolding decode_own
    candidate_none = rw p

    commit_none : (decode_own ws x).commit z ≡ 0
    unfolding decode_own
    commit_none = rw p

    spare_none : (decode_own ws x).spare z ≡ none_node
    unfolding decode_own
    spare_none = rw p

  commit_room : (decode_own ws x).commit z < 2 ^ 24
  unfolding decode_own
  commit_room =
      if_law (λ (k : ℕ). k < 2 ^ 24) (is_pair (decode_table ws) x z) (bits 0 24 (get_or ws (pair_place x z) 0)) 0
      (λ e. bits< 0 24 (get_or ws (pair_place x z) 0)) (λ e. lit< tt)

  spare_room : (decode_own ws x).spare z < 2 ^ 7
  unfolding decode_own
  spare_room =
      if_law (λ (k : ℕ). k < 2 ^ 7) (is_pair (decode_table ws) x z) (bits 0 7 (get_or ws (pair_place x z + 1) 0)) none_node
      (λ e. bits< 0 7 (get_or ws (pair_place x z + 1) 0)) (λ e. lit< tt)

-- ---- the nodes from z on are read

abbrev stamp_of : Stamp → ℕ
stamp_of s = s.0

abbrev node_of : NodeNumber → ℕ
node_of y = y.0

module _ (ws : List ℕ) (x : ℕ) where
  abbrev held_word : Set
  held_word z = flag 24 (get_or ws (pair_place x z) 0)

  abbrev candidate_word : Set
  candidate_word z = flag 25 (get_or ws (pair_place x z) 0)

  abbrev commit_word : ℕ → ℕ
  commit_word z = bits 0 24 (get_or ws (pair_place x z) 0)

  abbrev spare_word : ℕ → ℕ
  spare_word z = bits 0 7 (get_or ws (pair_place x z + 1) 0)

pub record Loading (ws : List ℕ) (n x z h c : ℕ) (ps : List NodeNumber) (ss : List Stamp) : Type 0 where
  pub within : z ≤ n
  pub held : Above h (held_word ws x) z n
  pub candidates : Above c (candidate_word ws x) z n
  pub spare : Down node_of ps (record { 0 = none_node }) (spare_word ws x) z n
  pub commit : Down stamp_of ss (record { 0 = 0 }) (commit_word ws x) z n

pub load_none : (ws : List ℕ) (n x : ℕ) → Loading ws n x n 0 0 (replicate 64 (record { 0 = none_node })) (replicate 64 (record { 0 = 0 }))
load_none ws n x =
    record {
      within = omega arith;
      held = above_none _ n;
      candidates = above_none _ n;
      spare = down_none node_of _ _ n;
      commit = down_none stamp_of _ _ n;
    }

module _ (ws : List ℕ) (n x z h c : ℕ) (ps : List NodeNumber) (ss : List Stamp) (l : Loading ws n x (z + 1) h c ps ss) (le : n ≤ 64) where
  below : z < n
  below = omega (arith, l.within)

  pub held_room : h < 2 ^ 63
  held_room = above_room _ h z n l.held below le

  pub candidates_room : c < 2 ^ 63
  candidates_room = above_room _ c z n l.candidates below le

  pub load_more : (h' c' : ℕ) (b d : Bool) (y : NodeNumber) (s : Stamp) → b ≡ held_word ws x z → h' ≡ 2 * h + one b
      → d ≡ candidate_word ws x z → c' ≡ 2 * c + one d → y.0 ≡ spare_word ws x z → s.0 ≡ commit_word ws x z
      → Loading ws n x z h' c' (set ps z y) (set ss z s)
  load_more h' c' b d y s eb eh ed ec ey es =
      record {
        within = omega (arith, l.within);
        held = rw eh (above_more _ h z n l.held below b eb);
        candidates = rw ec (above_more _ c z n l.candidates below d ed);
        spare = down_more node_of ps _ _ z n l.spare y below le ey;
        commit = down_more stamp_of ss _ _ z n l.commit s below le es;
      }

module _ (ws : List ℕ) (n x : ℕ) (size-n : n ≡ size (decode_table ws)) (le : n ≤ 64) (hx : x < n) (h c h' c' : ℕ) (ps : List NodeNumber) (ss : List Stamp)
    (l : Loading ws n x 0 h c ps ss) (eh : of_bits h' ≡ without (of_bits h) x) (ec : of_bits c' ≡ without (of_bits c) x) where
  abbrev own_record : NodeRecord
  own_record = record { held = h'; candidates = c'; spare = set ps x (record { 0 = none_node }); commit = set ss x (record { 0 = 0 }) }

  pub load_all : c' < 2 ^ 64 → LoadedNode ws x own_record
  load_all fits =
      record {
        own = λ i. record {
          held = above_all _ (decode_own ws x).held h h' n x l.held eh (held_none ws x x self)
              (λ z a d. sym (held_at ws x z (pair z a d))) (λ z a. held_none ws x z (high z a)) i;
          candidates = above_all _ (decode_own ws x).candidates c c' n x l.candidates ec (candidate_none ws x x self)
              (λ z a d. sym (candidate_at ws x z (pair z a d))) (λ z a. candidate_none ws x z (high z a)) i;
          commit = fun_ext stamps i;
          spare = fun_ext spares i;
        };
        room = record {
          commit_room = λ z. rw (stamps z) (commit_room ws x z);
          spare_room = λ z. rw (spares z) (spare_room ws x z);
          commit_long = length-set ss x _ ∙ l.commit.long;
          spare_long = length-set ps x _ ∙ l.spare.long;
        };
        candidates_room = fits;
      }
    where
      self : is_pair (decode_table ws) x x ≡ false
      self = pair_same (decode_table ws) x x refl

      pair : (z : ℕ) → z < n → z ≢ x → is_pair (decode_table ws) x z ≡ true
      pair z a d = pair_yes (decode_table ws) x z (omega arith) (omega arith) d

      high : (z : ℕ) → n ≤ z → is_pair (decode_table ws) x z ≡ false
      high z a = pair_high (decode_table ws) x z (omega arith)

      stamps : (z : ℕ) → stamp_at own_record z ≡ (decode_own ws x).commit z
      stamps =
          down_all stamp_of ss _ _ _ n x l.commit (omega arith) (commit_none ws x x self)
          (λ z a d. sym (commit_at ws x z (pair z a d))) (λ z a. commit_none ws x z (high z a))

      spares : (z : ℕ) → spare_at own_record z ≡ (decode_own ws x).spare z
      spares =
          down_all node_of ps _ _ _ n x l.spare (omega arith) (spare_none ws x x self)
          (λ z a d. sym (spare_at_lem ws x z (pair z a d))) (λ z a. spare_none ws x z (high z a))
