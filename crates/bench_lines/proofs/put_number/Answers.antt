use Rattle.std.proofs.Common.{◌∙◌}
use Rattle.bench_lines.proofs.Decimals.{fewest_decimal}
use Rattle.bench_lines.proofs.Puts.{put_as}
use Rattle.bench_lines.proofs.put_number.Goals as goal

pub returns-clause-bytes : goal.returns-clause-bytes
returns-clause-bytes c =
    let d = c.decimal-k.ensures in
    put_as c.put_bytes.ensures.bytes (d.digits ∙ fewest_decimal c.decimal-k.result _ d.len)
