-- `put_fault` meets its contract: what its calls put one after the other is the line of the fault.
use mathlib.Core.Path.{ap₂}
use mathlib.Core.List.{List, [], ◌∷◌, ◌++◌}
use Prim.Native.Nat.{ℕ}
use Rattle.bench_lines.specs.Decimal.{decimal, newline}
use Rattle.bench_lines.proofs.Puts.{put_as, put_more}
use Rattle.text_form.specs.declared.Expected.{Expected}
use Rattle.text_assemble.specs.Faults.{line_word, expected_word, expected_text, fault_bytes}
use Rattle.text_assemble.proofs.fault.put_fault.Goals as goal

pub returns : goal.returns
unfolding fault_bytes
returns c = record {
  bytes =
      let bytes : ℕ → Expected → List ℕ = λ n e. line_word ++ decimal n ++ expected_word ++ expected_text e ++ newline ∷ [] in
      let upto-number = put_more c.put_bytes-line.ensures.bytes c.put_number-number.ensures.bytes in
      let upto-text = put_more (put_more upto-number c.put_bytes-says.ensures.bytes) c.put_expected-end.ensures.bytes in
      put_as (put_more upto-text c.put_byte.ensures.bytes)
      (ap₂ bytes c.fault_line.ensures.value c.expected.ensures.value);
}
