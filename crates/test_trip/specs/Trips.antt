-- What a step of a trip needs, and leaves.
use Rattle.std.specs.Prelude.{◌≡◌, List, ℕ, ◌≤◌, length}
use Rattle.text_form.specs.declared.Reader.{Reader}
use Rattle.text_reader.specs.Bounds.{ReaderBounded}
use Rattle.text_assemble.specs.Chunks.{KeysBounded}

-- at most k lines are read
pub record Ready (k : ℕ) (r : Reader) (ks out : List ℕ) : Type 0 where
  pub reader : ReaderBounded r
  pub keys : KeysBounded ks
  pub lines : r.line ≤ k
  pub room : length out ≡ 266240
