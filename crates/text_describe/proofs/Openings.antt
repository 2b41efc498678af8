-- The opening of a script, read from its words.
use mathlib.Core.Path.{◌≡◌, refl, sym, ap, ◌∙◌}
use mathlib.Core.Bool.{true}
use mathlib.Core.List.{List, [], ◌∷◌, ◌++◌}
use Prim.Native.Nat.{ℕ, ◌+◌, ◌≤◌}
use lib.ListN.{length, get_or}
use Rattle.bench_lines.specs.Decimal.{spaced}
use Rattle.model.specs.Leafset.{size}
use Rattle.model.specs.Answers.{is_accepted}
use Rattle.model.specs.Fields.{bits}
use Rattle.model.specs.Words.{sides_of}
use Rattle.model.specs.Buffer.{Written}
use Rattle.model.specs.Bench.{script_table, script_answer}
use Rattle.std.specs.Prelude.{Result, Ok, Err}
use Rattle.std.specs.Result.{is_ok}
use Rattle.model.proofs.Cases.{number_high}
use Rattle.model.specs.declared.refusal.Refusal.{Refusal}
use Rattle.model.specs.declared.values.Sides.{Sides}
use Rattle.model.proofs.Answers.{accepted_is}
use Rattle.answers.specs.Applied.{written}
use Rattle.bench_open.specs.Beginning.{open_script, script_keys}
use Rattle.bench_open.proofs.Begins.{head_is, sizes_are, enough, few, keys_long}
use Rattle.text_form.specs.Names.{sides_name}
use Rattle.text_form.specs.Describe.{keys_text, opening_text}

pub opens_as : {A : Type 0} (a : Result A Refusal) (old ws : List ℕ) {new : List ℕ} → written a new ≡ open_script old ws
    → is_ok a ≡ is_accepted (script_answer ws)
unfolding open_script
opens_as (Ok x) old ws e = ap (λ (w : Written). is_accepted w.answer) e
opens_as (Err x) old ws e = sym (number_high x) ∙ ap (λ (w : Written). is_accepted w.answer) e

module _ (ws : List ℕ) (accepted : is_accepted (script_answer ws) ≡ true) where
  ok : script_answer ws ≡ 0
  ok = accepted_is (script_answer ws) accepted

  pub words_enough : 1 + bits 4 7 (get_or ws 0 0) ≤ length ws
  words_enough = enough ws (head_is ws ok)

  pub few_nodes : bits 4 7 (get_or ws 0 0) ≤ 64
  few_nodes = few ws refl refl (sizes_are ws ok)

  pub nodes_as : size (script_table ws) ≡ bits 4 7 (get_or ws 0 0)
  unfolding script_table
  nodes_as = keys_long ws (bits 4 7 (get_or ws 0 0)) words_enough

pub opening_as : (ws : List ℕ) {n : ℕ} {sides : Sides} {keys : List ℕ} → sides ≡ sides_of (get_or ws 0 0) → n ≡ bits 4 7 (get_or ws 0 0)
    → keys ≡ script_keys ws n
    → (sides_name ++ spaced (sides.ahead ∷ sides.behind ∷ [])) ++ keys_text 0 keys ≡ opening_text (script_table ws)
unfolding opening_text script_table
opening_as ws s n k = rw (k, s, n)
