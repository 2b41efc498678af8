-- What an event gives, shown in a second buffer.
use Rattle.std.specs.Prelude.{List, ℕ}
use Rattle.model.specs.Buffer.{Written, writes}

-- the answer, and the words where it is accepted; otherwise the second buffer is as it was
abbrev pub shown_in : List ℕ → Written → Written
shown_in second p = writes second p.answer p.words
