-- A chunk of a session.
use mathlib.Core.Path.{◌≡◌, refl}
use mathlib.Core.Bool.{Bool, true}
use mathlib.Core.List.{List}
use Prim.Native.Nat.{ℕ}
use lib.Dec.{eqb}
use lib.ListN.{length}
use Rattle.bench_lines.specs.Put.{Put}
use Rattle.bench_lines.proofs.Puts.{put_more}
use Rattle.bench_script.specs.Chunks.{chunk_size, tail_of}
use Rattle.model.specs.Bench.{little_endian}
use Rattle.text_form.specs.Describe.{tail_text}
use Rattle.text_describe.specs.Turns.{chunk_text, opens_ring, turn, Stepped}

pub stepped :
    (started opened : Bool) (chunk : List ℕ) {script tail out mid out' : List ℕ} {at end : ℕ} {opened' : Bool}
    → script
    ≡ little_endian chunk → tail
    ≡ tail_of chunk
    → Put out mid 0 at (chunk_text started opened script) → opened' ≡ opens_ring started opened script → Put mid out' at end (tail_text tail)
    → Stepped (turn started opened chunk) out out' (record { more = eqb (length chunk) chunk_size; started = true; opened = opened'; end = end })
unfolding turn
stepped started opened chunk w t p o q =
    record { started = refl; opened = rw w at o; more = refl; put = put_more (rw w at p) (rw t at q) }
