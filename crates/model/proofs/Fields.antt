-- Laws of the parts of a word.
use mathlib.Core.Path.{◌≡◌, ap, ◌∙◌}
use Prim.Native.Nat.{ℕ, ◌+◌, ◌*◌, ◌/◌, ◌%◌, ◌^◌, ◌<◌}
use native.Mathlib.Nat.{mod-lt, one-le-pow}
use lib.Arith.{digits_div, digits_mod}
use lib.Dec.{lit<}
use Rattle.model.specs.Fields.{bits}

-- the field v of a word that has hi above it and lo below it
pub field : (low width : ℕ) {w : ℕ} (hi v lo : ℕ) → w ≡ (hi * 2 ^ width + v) * 2 ^ low + lo → lo < 2 ^ low → v < 2 ^ width → bits low width w ≡ v
field low width hi v lo e h k = ap (bits low width) e ∙ ap (λ (q : ℕ). q % 2 ^ width) (digits_div (hi * 2 ^ width + v) h) ∙ digits_mod hi k

-- a part has its width
pub bits< : (low width w : ℕ) → bits low width w < 2 ^ width
bits< low width w = mod-lt (w / 2 ^ low) (one-le-pow width 2 (lit< tt))
