-- A span written word by word.
use mathlib.Core.Path.{◌≡◌, refl, sym, ap, ◌∙◌}
use mathlib.Core.List.{List, [], ◌∷◌, ◌++◌}
use Prim.Native.Nat.{ℕ, ◌+◌, ◌-◌, ◌<◌, ◌≤◌}
use native.Mathlib.Omega.{arith}
use native.Mathlib.Decide.{dec_lt}
use lib.ListN.{length, get_or, set, take, drop, length-set, get_or-append}
use lib.Seq.{get_or-set_same, get_or-set_other, get_or-take, get_or-drop, get_or-append-add, length-take-le, ext_get_or}
use borrow.Rule.Slice.PartMut.{mid_of, post_of, put_mid, mid_len, same_len_mid}
use Rattle.model.specs.Sets.{tabulate}
use Rattle.model.proofs.Laws.{get_d_tabulate, length_tabulate}
use Rattle.ring_ranges.specs.Spans.{Patched}

pub patched_none : (ws : List ℕ) (from : ℕ) (f : ℕ → ℕ) → Patched ws ws from from f
patched_none ws from f = record { long = refl; low = λ i h. refl; inside = λ i p q. absurd (omega arith); high = λ i h. refl }

module _ (ws ws' : List ℕ) (from to next : ℕ) (f : ℕ → ℕ) (v : ℕ) (s : Patched ws ws' from to f)
    (o : from ≤ to) (l : to < length ws) (e : v ≡ f to) (n : next ≡ to + 1) where
  -- one more place, the next
  pub patched_more : Patched ws (set ws' to v) from next f
  patched_more =
      record {
        long = length-set ws' to v ∙ s.long;
        low = λ i h. get_or-set_other ws' to i v 0 (omega arith) ∙ s.low i h;
        inside = λ i p q.
            elim (dec_lt i to) [
              | yes y ↦ get_or-set_other ws' to i v 0 (omega arith) ∙ s.inside i p y
              | no y ↦ here i (omega arith)
            ];
        high = λ i h. get_or-set_other ws' to i v 0 (omega arith) ∙ s.high i (omega arith);
      }
    where
      here : (i : ℕ) → i ≡ to → get_or (set ws' to v) i 0 ≡ f i
      here i q = rw (q, get_or-set_same ws' to v 0 (rw s.long l)) e

-- the same span, by another name of what is in it
pub patched_as : {ws ws' : List ℕ} {from to : ℕ} {f g : ℕ → ℕ} → Patched ws ws' from to f → ((i : ℕ) → from ≤ i → i < to → f i ≡ g i)
    → Patched ws ws' from to g
patched_as p e = record { long = p.long; low = p.low; inside = λ i h k. p.inside i h k ∙ e i h k; high = p.high }

-- a span and the next, as one
pub patched_join : {ws ws' ws'' : List ℕ} {from mid to : ℕ} {f g : ℕ → ℕ} → from ≤ mid → mid ≤ to
    → Patched ws ws' from mid f → Patched ws' ws'' mid to g → ((i : ℕ) → mid ≤ i → i < to → g i ≡ f i) → Patched ws ws'' from to f
patched_join {mid = mid} o p s t e =
    record {
      long = t.long ∙ s.long;
      low = λ i h. t.low i (omega arith) ∙ s.low i h;
      inside = λ i h k. elim (dec_lt i mid) [ yes y ↦ t.low i y ∙ s.inside i h y | no y ↦ t.inside i (omega arith) k ∙ e i (omega arith) k ];
      high = λ i h. t.high i h ∙ s.high i (omega arith);
    }

-- all places written, or as they have to be
pub patched_all : {ws ws' : List ℕ} {to : ℕ} (many : ℕ) (f : ℕ → ℕ) → length ws ≡ many → Patched ws ws' 0 to f
    → ((i : ℕ) → to ≤ i → i < many → get_or ws i 0 ≡ f i) → ws' ≡ tabulate many f
patched_all {ws' = ws'} {to = to} many f l s rest =
    ext_get_or 0 ws' (tabulate many f) (s.long ∙ l ∙ sym (length_tabulate f many))
    (λ i h.
    let k : i < many = omega (arith, s.long) in
    elim (dec_lt i to) [ yes y ↦ s.inside i (omega arith) y | no y ↦ s.high i (omega arith) ∙ rest i (omega arith) k ]
    ∙ sym (get_d_tabulate f 0 many i k))

-- the words from `from` up to `to + 5` moved down by five, as a slice of their own
module _ (ws ys : List ℕ) (from to : ℕ) (o : from ≤ to) (h : to + 5 ≤ length ws) where
  abbrev k : ℕ
  k = to + 5 - from

  abbrev part : List ℕ
  part = mid_of from k ws

  abbrev rest : List ℕ
  rest = ys ++ post_of from k ws

  abbrev whole : List ℕ
  whole = put_mid from k ws ys

  part_long : length part ≡ k
  part_long = mid_len from (to + 5) ws h

  before_long : length (take from ws) ≡ from
  before_long = length-take-le from ws (omega arith)

  from_on : (j : ℕ) → get_or whole (from + j) 0 ≡ get_or rest j 0
  from_on j = ap (λ (n : ℕ). get_or whole (n + j) 0) (sym before_long) ∙ get_or-append-add (take from ws) rest j 0

  in_part : (j : ℕ) → j < k → get_or part j 0 ≡ get_or ws (from + j) 0
  in_part j l = get_or-take k (drop from ws) j 0 l ∙ get_or-drop from ws j 0

  module _ (p : Patched part ys 0 (length part - 5) (λ i. get_or part (i + 5) 0)) where
    ys_long : length ys ≡ k
    ys_long = p.long ∙ part_long

    in_ys : (j : ℕ) → j < k → get_or whole (from + j) 0 ≡ get_or ys j 0
    in_ys j l = from_on j ∙ get_or-append ys (post_of from k ws) 0 j (omega (arith, ys_long))

    after : (j : ℕ) → get_or whole (from + (k + j)) 0 ≡ get_or ws (from + (k + j)) 0
    after j =
        from_on (k + j) ∙ ap (λ (n : ℕ). get_or rest (n + j) 0) (sym ys_long) ∙ get_or-append-add ys (post_of from k ws) j 0
        ∙ get_or-drop k (drop from ws) j 0 ∙ get_or-drop from ws (k + j) 0

    pub patched_part : Patched ws whole from to (λ i. get_or ws (i + 5) 0)
    patched_part =
        record {
          long = same_len_mid from k ws ys p.long;
          low = λ i l. get_or-append (take from ws) rest 0 i (omega (arith, before_long)) ∙ get_or-take from ws i 0 l;
          inside = λ i l g.
              let e : i ≡ from + (i - from) = omega arith in
              let f : from + (i - from + 5) ≡ i + 5 = omega arith in
              ap (λ (n : ℕ). get_or whole n 0) e ∙ in_ys (i - from) (omega arith) ∙ p.inside (i - from) (omega arith) (omega (arith, part_long))
              ∙ in_part (i - from + 5) (omega arith) ∙ ap (λ (n : ℕ). get_or ws n 0) f;
          high = λ i l. elim (dec_lt i (to + 5)) [ yes g ↦ last i l g | no g ↦ past i (omega arith) ];
        }
      where
        last : (i : ℕ) → to ≤ i → i < to + 5 → get_or whole i 0 ≡ get_or ws i 0
        last i l g =
            let e : i ≡ from + (i - from) = omega arith in
            ap (λ (n : ℕ). get_or whole n 0) e ∙ in_ys (i - from) (omega arith) ∙ p.high (i - from) (omega (arith, part_long))
            ∙ in_part (i - from) (omega arith) ∙ ap (λ (n : ℕ). get_or ws n 0) (sym e)

        past : (i : ℕ) → to + 5 ≤ i → get_or whole i 0 ≡ get_or ws i 0
        past i l =
            let e : i ≡ from + (k + (i - (to + 5))) = omega arith in
            ap (λ (n : ℕ). get_or whole n 0) e ∙ after (i - (to + 5)) ∙ ap (λ (n : ℕ). get_or ws n 0) (sym e)

-- five words side by side
module _ (ws : List ℕ) (p a b c d e : ℕ) (h : p + 5 ≤ length ws) where
  abbrev pub five : List ℕ
  five = a ∷ b ∷ c ∷ d ∷ e ∷ []

  index : (i j : ℕ) → i ≡ p + j → get_or five j 0 ≡ get_or five (i - p) 0
  index i j q = let k : j ≡ i - p = omega arith in ap (λ (m : ℕ). get_or five m 0) k

  pub patched_five : Patched ws (set (set (set (set (set ws p a) (p + 1) b) (p + 2) c) (p + 3) d) (p + 4) e) p (p + 5) (λ i. get_or five (i - p) 0)
  patched_five =
      let f : ℕ → ℕ = λ i. get_or five (i - p) 0 in
      let s1 = patched_more ws ws p p (p + 1) f a (patched_none ws p f) (omega arith) (omega arith) (index p 0 (omega arith)) refl in
      let s2 = patched_more ws _ p (p + 1) (p + 2) f b s1 (omega arith) (omega arith) (index (p + 1) 1 refl) (omega arith) in
      let s3 = patched_more ws _ p (p + 2) (p + 3) f c s2 (omega arith) (omega arith) (index (p + 2) 2 refl) (omega arith) in
      let s4 = patched_more ws _ p (p + 3) (p + 4) f d s3 (omega arith) (omega arith) (index (p + 3) 3 refl) (omega arith) in
      patched_more ws _ p (p + 4) (p + 5) f e s4 (omega arith) (omega arith) (index (p + 4) 4 refl) (omega arith)
