-- `read_chunk` meets its contract: the progress after the bytes so far is the invariant.
use Rattle.text_assemble.specs.Chunks.{progress_of}
use Rattle.text_assemble.proofs.Steps.{ReadTo}
use Rattle.text_assemble.proofs.chunk.read_chunk.Given as goal

abbrev pub invariant-loop-byte : goal.invariant-loop-byte
invariant-loop-byte l =
    ReadTo (progress_of l.initial.read.reader l.initial.keys) l.bytes l.initial.read.reader.line l.read.reader l.keys l.initial.out l.out l.read.end
    l.byte-index
