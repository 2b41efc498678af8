-- The members of a set, one after the other.
use mathlib.Core.Path.{◌≡◌, refl, sym, ap, ◌∙◌}
use mathlib.Core.List.{List, [], ◌∷◌, ◌++◌, append_assoc, append-nil}
use Prim.Native.Nat.{ℕ, ◌+◌, ◌*◌, ◌≤◌}
use native.Mathlib.Omega.{arith}
use lib.ListN.{length}
use Rattle.model.proofs.Laws.{length_members}
use Rattle.bench_lines.specs.Decimal.{spaced}
use Rattle.bench_lines.specs.Put.{Put}
use Rattle.bench_lines.proofs.Decimals.{spaced_append}
use Rattle.bench_lines.proofs.Puts.{put_none, put_more, put_as}
use Rattle.model.specs.Sets.{of_bits, count, members}
use Rattle.sets.proofs.Bits.{members_end}
use Rattle.sets.proofs.Turns.{Turn}

-- those before `rest` are put
pub record Listing (out₀ out : List ℕ) (at end set rest : ℕ) : Type 0 where
  pub bytes : List ℕ
  pub put : Put out₀ out at end bytes
  pub left : bytes ++ spaced (members 64 (of_bits rest)) ≡ spaced (members 64 (of_bits set))
  pub room : end + 21 * length (members 64 (of_bits rest)) ≤ at + 21 * count 64 (of_bits set)

pub listing_none : (out : List ℕ) (at set : ℕ) {start : ℕ} → start ≡ set → Listing out out at at set start
listing_none out at set e =
    rw e record {
      bytes = [];
      put = put_none out at;
      left = refl;
      room = omega (arith, length_members 64 (of_bits set));
    }

module _ {out₀ out : List ℕ} {at end set rest : ℕ} (l : Listing out₀ out at end set rest) where
  pub listing_more : {out' : List ℕ} {end' y v r : ℕ} → Turn rest y r → v ≡ y → Put out out' end end' (spaced (v ∷ [])) → end' ≤ end + 21
      → Listing out₀ out' at end' set r
  listing_more {out'} {end'} {y} {v} {r} t e p h =
      let next : members 64 (of_bits rest) ≡ v ∷ members 64 (of_bits r) =
      t.rest.next ∙ ap (λ (s : ℕ). s ∷ members 64 (of_bits r)) (sym t.is ∙ sym e) in
      record {
        bytes = l.bytes ++ spaced (v ∷ []);
        put = put_more l.put p;
        left =
            append_assoc l.bytes (spaced (v ∷ [])) _
            ∙ ap (λ (s : List ℕ). l.bytes ++ s) (sym (spaced_append (v ∷ []) (members 64 (of_bits r))) ∙ ap spaced (sym next))
            ∙ l.left;
        room = omega (arith, l.room, ap length next);
      }

  pub listing_room : {y r : ℕ} → Turn rest y r → end + 21 ≤ at + 21 * count 64 (of_bits set)
  listing_room t = omega (arith, l.room, ap length t.rest.next)

  pub listing_all : rest ≡ 0 → Put out₀ out at end (spaced (members 64 (of_bits set)))
  unfolding spaced
  listing_all e =
      put_as l.put
      (sym (append-nil l.bytes) ∙ ap (λ (s : List ℕ). l.bytes ++ s) (ap spaced (sym (members_end e))) ∙ l.left)
