use mathlib.Core.Path.{◌≡◌, ap, ◌∙◌}
use Prim.Native.Nat.{ℕ}
use native.Mathlib.Omega.{arith}
use Rattle.io.specs.Digits.{last_digits}
use Rattle.bench_lines.proofs.Puts.{put_as}
use Rattle.text_event.proofs.Texts.{so_many_digits}
use Rattle.text_describe.proofs.put_pair.Goals as goal

pub put_bytes-requires : goal.put_bytes-requires
put_bytes-requires c = record {
  room =
      let two : c.hex-k.result ≡ 2 = so_many_digits 2 c.args.byte _ (omega arith) (rw c.from.ensures at c.hex-k.ensures.len) in
      omega (arith, c.hex-k.ensures.in_bounds);
}

pub returns : goal.returns
returns c =
    let byte : ℕ = c.args.byte in
    let two : c.hex-k.result ≡ 2 = so_many_digits 2 byte _ (omega arith) (rw c.from.ensures at c.hex-k.ensures.len) in record {
      bytes = put_as c.put_bytes.ensures.bytes ((rw c.from.ensures at c.hex-k.ensures.digits) ∙ ap (λ (k : ℕ). last_digits 16 k byte) two);
      end = omega (arith, c.put_bytes.ensures.bytes.ends, c.hex-k.ensures.in_bounds);
    }
