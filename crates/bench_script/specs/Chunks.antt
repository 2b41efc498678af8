-- A script in chunks of bytes, as they are read.
use Rattle.std.specs.Prelude.{◌≡◌, List, [], ◌∷◌, ◌++◌, ℕ, zero, suc, ◌*◌, ◌<◌, ltb, length, take, drop, if◌then◌else◌}
use Rattle.model.specs.Bench.{little_endian}

-- a chunk of the input that is shorter than this is the last
abbrev pub chunk_size : ℕ
chunk_size = 4096

-- each is full but the last
pub data Cut : List ℕ → List (List ℕ) → Type 0 where
  last : {c : List ℕ} → length c < chunk_size → Cut c (c ∷ [])
  full : {c d : List ℕ} {cs : List (List ℕ)} → length c ≡ chunk_size → Cut d cs → Cut (c ++ d) (c ∷ cs)

-- a script cut into chunks: n full ones at most
unfoldable pub chunks_of : ℕ → List ℕ → List (List ℕ)
chunks_of zero script = script ∷ []
chunks_of (suc n) script =
    if ltb (length script) chunk_size then script ∷ [] else take chunk_size script ∷ chunks_of n (drop chunk_size script)

-- it has no more full ones than bytes
unfoldable pub chunks : List ℕ → List (List ℕ)
chunks script = chunks_of (length script) script

-- the bytes after the words
abbrev pub tail_of : List ℕ → List ℕ
tail_of bytes = drop (4 * length (little_endian bytes)) bytes
