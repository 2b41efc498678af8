-- `put_word` meets its contract: the bytes that are put are those of the word, lowest first.
use mathlib.Core.Path.{◌∙◌}
use Rattle.bench_lines.proofs.Puts.{put_as}
use Rattle.text_assemble.proofs.Gives.{word_bytes_are}
use Rattle.text_assemble.proofs.put.put_word.Goals as goal

pub returns : goal.returns
returns c = record { bytes = put_as c.put_bytes.ensures.bytes (c.to_le_bytes.ensures ∙ word_bytes_are c.args.word) }
