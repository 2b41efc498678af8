-- The opening of a script looks at no more than its first 128 words.
use mathlib.Core.Path.{◌≡◌, sym, ap, ◌∙◌}
use mathlib.Core.Bool.{false}
use mathlib.Core.List.{List, ◌++◌}
use Prim.Native.Nat.{ℕ, ◌+◌, ◌≤◌, ◌<◌}
use native.Mathlib.Omega.{arith}
use borrow.Author.Tests.{le-leb}
use lib.Dec.{eqb}
use lib.ListN.{length, get_or, drop, length-append, length-drop, get_or-append}
use lib.Seq.{take-append-le, drop-append-le}
use Rattle.model.specs.Sets.{all}
use Rattle.model.specs.Leafset.{key}
use Rattle.model.specs.Fields.{bits}
use Rattle.model.specs.Words.{key_word}
use Rattle.model.specs.Bench.{script_table, script_answer}
use Rattle.model.proofs.Laws.{same_test, all_in, all_out}

module _ (ws vs : List ℕ) (long : 128 ≤ length ws) where
  abbrev n : ℕ
  n = bits 4 7 (get_or ws 0 0)

  head_same : get_or (ws ++ vs) 0 0 ≡ get_or ws 0 0
  head_same = get_or-append ws vs 0 0 (omega arith)

  few : 1 + n ≤ length ws
  few = omega arith

  pub table_same : script_table (ws ++ vs) ≡ script_table ws
  unfolding script_table
  table_same =
      rw (head_same, drop-append-le 1 ws vs (omega arith), take-append-le n (drop 1 ws) vs (simp length-drop (omega arith)))

  key_same : (s : ℕ) → s < n → get_or (ws ++ vs) (1 + s) 0 ≡ get_or ws (1 + s) 0
  key_same s h = get_or-append ws vs 0 (1 + s) (omega (arith, few))

  -- every key word passes in both, or in neither
  keys_same : (f : ℕ → ℕ) → all n (λ s. eqb (get_or (ws ++ vs) (1 + s) 0) (f s)) ≡ all n (λ s. eqb (get_or ws (1 + s) 0) (f s))
  keys_same f =
      same_test _ _
      (λ h. all_in n _ (λ s l. ap (λ (w : ℕ). eqb w (f s)) (sym (key_same s l)) ∙ all_out n _ h s l))
      (λ h. all_in n _ (λ s l. ap (λ (w : ℕ). eqb w (f s)) (key_same s l) ∙ all_out n _ h s l))

  pub answer_same : script_answer (ws ++ vs) ≡ script_answer ws
  unfolding script_answer
  answer_same =
      let more : 1 + n ≤ length (ws ++ vs) = omega (arith, few, length-append ws vs) in
      let keys = keys_same (λ s. key_word (key (script_table ws) s) false) in
      rw (table_same, head_same, le-leb (1 + n) (length (ws ++ vs)) more, le-leb (1 + n) (length ws) few, keys)
