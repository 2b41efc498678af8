use mathlib.Core.Path.{◌≡◌}
use native.Mathlib.Omega.{arith}
use Rattle.bench_lines.proofs.Puts.{put_as, put_more}
use Rattle.text_event.proofs.Texts.{so_many_digits, word_digits}
use Rattle.text_event.proofs.put_raw.Goals as goal

pub put_bytes-requires : goal.put_bytes-requires
put_bytes-requires c = record {
  room =
      let eight : c.hex-k.result ≡ 8 = so_many_digits 8 c.args.word _ (omega arith) (rw c.from.ensures at c.hex-k.ensures.len) in
      omega (arith, c.put_bytes-start.ensures.bytes.ends, c.hex-k.ensures.in_bounds);
}

pub returns : goal.returns
returns c =
    let eight : c.hex-k.result ≡ 8 = so_many_digits 8 c.args.word _ (omega arith) (rw c.from.ensures at c.hex-k.ensures.len) in record {
      bytes = put_as (put_more c.put_bytes-start.ensures.bytes c.put_bytes.ensures.bytes)
          (word_digits _ _ _ eight (rw c.from.ensures at c.hex-k.ensures.digits));
      end = omega (arith, c.put_bytes-start.ensures.bytes.ends, c.put_bytes.ensures.bytes.ends, c.hex-k.ensures.in_bounds);
    }
