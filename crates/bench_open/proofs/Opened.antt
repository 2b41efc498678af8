-- A script's first words have opened a ring.
use mathlib.Core.Path.{◌≡◌, refl, sym, ap, ◌∙◌}
use mathlib.Core.Bool.{true, false}
use mathlib.Core.List.{List}
use Prim.Native.Nat.{ℕ, ◌+◌, ◌≤◌}
use borrow.Author.Tests.{eq-eqb, ne_eqb}
use lib.ListN.{length}
use Rattle.model.specs.Leafset.{size}
use Rattle.model.specs.Ring.{Ring, initial}
use Rattle.model.specs.Answers.{answer_number, is_accepted}
use Rattle.model.specs.declared.refusal.Refusal.{Refusal}
use Rattle.model.specs.Words.{encode, decode_table, decode, reads_as_ring}
use Rattle.model.specs.Buffer.{Written}
use Rattle.model.specs.Bench.{script_table, script_answer}
use Rattle.std.specs.Prelude.{Result, Ok, Err}
use Rattle.std.specs.Result.{is_err}
use Rattle.model.proofs.Laws.{clash}
use Rattle.model.proofs.Cases.{number_high}
use Rattle.model.proofs.Answers.{accepted_is}
use Rattle.answers.specs.Applied.{written}
use Rattle.bench_open.specs.Beginning.{open_script}
use Rattle.bench_open.proofs.Begins.{enough_words, initial_reads, initial_back}

pub record Opened (ws script : List ℕ) : Type 0 where
  pub accepted : is_accepted (script_answer script) ≡ true
  pub enough : 1 + size (script_table script) ≤ length script
  pub reads : reads_as_ring ws ≡ true
  pub ring : decode ws ≡ initial (script_table script)

-- and where they have not
pub record Refused (ws ws' script : List ℕ) : Type 0 where
  pub refused : is_accepted (script_answer script) ≡ false
  pub kept : ws' ≡ ws

module _ (ws script : List ℕ) {ws' : List ℕ} {n : ℕ} {A : Type 0} (a : Result A Refusal) (e : written a ws' ≡ open_script ws script)
    (number : n ≡ answer_number a) where
  pub the_answer : answer_number a ≡ script_answer script
  unfolding open_script
  the_answer = ap (λ (w : Written). w.answer) e

  pub opened_ring : n ≡ 0 → Opened ws' script
  unfolding open_script
  opened_ring z =
      let yes' : is_accepted (script_answer script) ≡ true = ap is_accepted (sym the_answer) ∙ eq-eqb (answer_number a) 0 (sym number ∙ z) in
      let ok : script_answer script ≡ 0 = accepted_is (script_answer script) yes' in
      let words : ws' ≡ encode (initial (script_table script)) = ap (λ (w : Written). w.words) e ∙ rw yes' in
      record {
        accepted = yes';
        enough = enough_words script ok;
        reads = ap reads_as_ring words ∙ initial_reads script ok;
        ring = ap decode words ∙ initial_back script ok;
      }

  pub refused_ring : (n ≡ 0 → ⊥) → Refused ws ws' script
  unfolding open_script
  refused_ring d =
      let no' : is_accepted (script_answer script) ≡ false = ap is_accepted (sym the_answer) ∙ ne_eqb (answer_number a) 0 (λ z. d (number ∙ z)) in
      record { refused = no'; kept = ap (λ (w : Written). w.words) e ∙ rw no' }

module _ {ws script : List ℕ} (o : Opened ws script) where
  pub nodes_are : size (decode_table ws) ≡ size (script_table script)
  unfolding decode initial
  nodes_are = ap (λ (r : Ring). size r.table) o.ring

-- what the answer says
module _ (ws script : List ℕ) {ws' : List ℕ} {A : Type 0} where
  pub ring_opened : (a : Result A Refusal) → written a ws' ≡ open_script ws script → is_err a ≡ false → Opened ws' script
  ring_opened (Ok x) e f = opened_ring ws script {A = A} (Ok x) e refl refl
  ring_opened (Err x) e f = clash refl f

  pub ring_refused : (a : Result A Refusal) → written a ws' ≡ open_script ws script → is_err a ≡ true → Refused ws ws' script
  ring_refused (Ok x) e f = clash f refl
  ring_refused (Err x) e f = refused_ring ws script {A = A} (Err x) e refl (λ z. clash (ap is_accepted z) (number_high x))
