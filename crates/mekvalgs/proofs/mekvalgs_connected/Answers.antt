use mathlib.Core.Path.{ap, ap₂, ◌∙◌}
use mathlib.Core.Bool.{false}
use mathlib.Core.List.{List}
use Prim.Native.Nat.{ℕ}
use Rattle.model.specs.Fields.{bit}
use Rattle.model.specs.Questions.{connection_answer, connection_of}
use Rattle.mekvalgs.proofs.Unwrapped.{unwrapped}
use Rattle.mekvalgs.proofs.Far.{connection_cut, connection_of_cut}
use Rattle.mekvalgs.proofs.Chain.{yes_chain, no_chain}
use Rattle.mekvalgs.proofs.mekvalgs_connected.Goals as goal

pub returns : goal.returns
returns c =
    let ws : List ℕ = c.args.words.now in
    let a : ℕ = c.args.a in
    let b : ℕ = c.args.b in
    let answer = c.number.ensures.answer ∙ c.connected-asked.ensures.answer ∙ ap₂ (connection_answer ws) c.node.ensures.value c.node-2.ensures.value
    ∙ connection_cut ws a b in
    let value = c.from.ensures
    ∙ ap bit (c.unwrap_or.ensures ∙ unwrapped c.connected-asked.result false ∙ c.connected-asked.ensures.connected
    ∙ ap₂ (connection_of ws) c.node.ensures.value c.node-2.ensures.value ∙ connection_of_cut ws a b) in
    record {
      answer = answer;
      connected = value;
      yes = yes_chain ws a b answer value;
      no = no_chain ws a b answer value;
    }
