-- What is read of a text, a chunk at a time, with the keys and the bytes of the script in lent buffers.
use Rattle.std.specs.Prelude.{◌≡◌, List, [], ◌∷◌, ◌++◌, ℕ, ◌+◌, ◌^◌, ◌≤◌, ◌<◌, length, get_or, take}
use Rattle.bench_lines.specs.Decimal.{newline}
use Rattle.bench_lines.specs.Put.{Put}
use Rattle.model.specs.declared.values.Sides.{Sides}
use Rattle.text_form.specs.Assemble.{Progress, byte_read, closed, advanced, text_read, given_bytes, given_keys, start}
use Rattle.text_form.specs.declared.Given.{Given}
use Rattle.text_form.specs.declared.Reader.{Reader}
use Rattle.text_form.specs.declared.Step.{Step}
use Rattle.text_reader.specs.Bounds.{ReaderBounded}
use Rattle.text_assemble.specs.declared.chunk.ChunkRead.{ChunkRead}

-- the lent places of the keys
pub record KeysBounded (ks : List ℕ) : Type 0 where
  pub long : length ks ≡ 64
  pub each : (i : ℕ) → get_or ks i 0 < 2 ^ 24

-- what is given is put, n keys having been there before
pub record Gave (g : Given) (sides : Sides) (n : ℕ) (ks ks' out out' : List ℕ) (at end : ℕ) : Type 0 where
  pub put : Put out out' at end (given_bytes sides (take n ks) g)
  pub keys : take (n + length (given_keys g)) ks' ≡ take n ks ++ given_keys g
  pub bounded : KeysBounded ks'
  pub room : end ≤ at + 260

-- the progress of a reader whose keys stand at the start of ks, with nothing of the script yet
abbrev pub progress_of : Reader → List ℕ → Progress
progress_of r ks = record { reader = r; keys = take r.keys ks; script = [] }

-- the reader, its keys and the bytes up to `end` are those of the progress p
pub record Reached (p : Progress) (r : Reader) (ks out out' : List ℕ) (end : ℕ) : Type 0 where
  pub reader : r ≡ p.reader
  pub keys : take r.keys ks ≡ p.keys
  pub put : Put out out' 0 end p.script
  pub bounded : ReaderBounded r
  pub bounded_keys : KeysBounded ks

-- the end of a text: of its last line, and of the whole
unfoldable pub ended : Progress → Progress
ended p = let q : Progress = advanced p (byte_read p.reader newline) in advanced q (closed q.reader)

-- what a step gives is put, n keys having been there before
pub record StepPut (s : Step) (n : ℕ) (ks ks' out out' : List ℕ) (at : ℕ) (r : ChunkRead) : Type 0 where
  pub reader : r.reader ≡ s.reader
  pub gave : Gave s.given s.reader.sides n ks ks' out out' at r.end

-- a text in chunks: the bytes of each are written, and the next begins with none
abbrev pub cleared : Progress → Progress
cleared p = record { reader = p.reader; keys = p.keys; script = [] }

-- written bytes, and those after them
abbrev pub onto : List ℕ → Progress → Progress
onto written p = record { reader = p.reader; keys = p.keys; script = written ++ p.script }

-- chunk after chunk, and the end
unfoldable pub turns : Progress → List (List ℕ) → Progress
turns p [] = ended (cleared p)
turns p (c ∷ cs) = onto (text_read (cleared p) c).script (turns (text_read (cleared p) c) cs)

unfoldable pub joined : List (List ℕ) → List ℕ
joined [] = []
joined (c ∷ cs) = c ++ joined cs

-- before a text
abbrev pub at_start : Progress
at_start = record { reader = start; keys = []; script = [] }

-- what is written: the bytes that each chunk put, and those of the end; and the reader then
pub data Written : Reader → List ℕ → List (List ℕ) → List ℕ → Reader → Type 0 where
  last : {r q : Reader} {ks ks' out out' : List ℕ} {end : ℕ} → Reached (ended (progress_of r ks)) q ks' out out' end → Written r ks [] (take end out') q
  next : {r q u : Reader} {ks ks' out out' c rest : List ℕ} {cs : List (List ℕ)} {end : ℕ} → Reached (text_read (progress_of r ks) c) q ks' out out' end
      → Written q ks' cs rest u → Written r ks (c ∷ cs) (take end out' ++ rest) u
