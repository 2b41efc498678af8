use mathlib.Core.Path.{refl, ◌∙◌}
use mathlib.Core.List.{List}
use Prim.Native.Nat.{ℕ, ◌≤◌}
use mathlib.Core.Bool.{◌&&◌}
use lib.Dec.{eqb}
use lib.ListN.{length}
use Rattle.model.specs.Words.{decode}
use native.Mathlib.Omega.{arith}
use Rattle.word_ring.proofs.Bytes.{byte_small}
use Rattle.answers.proofs.Valid.{long, room}
use Rattle.audit_flight.proofs.Flights.{byte_bit, looked_none, looked_more, looked_few, all_acknowledged, all_left}
use Rattle.audit_flight.proofs.look.Goals as goal

pub messages-m-requires : goal.messages-m-requires
messages-m-requires c = record { length = long _ c.requires.ring }

pub loop-i-init : goal.loop-i-init
loop-i-init c = looked_none _

pub bounds-words-i : goal.bounds-words-i
bounds-words-i c =
    omega (arith, long _ c.requires.ring, room _ c.requires.ring, c.messages-m.ensures.value)

pub overflow_add-acknowledgements : goal.overflow_add-acknowledgements
overflow_add-acknowledgements c =
    let i = c.loop-i.invariant in
    omega (arith, (looked_few _ i).0, i.within, room _ c.requires.ring, c.from-acknowledgements.ensures, byte_small (eqb c.tag-tag.result 10))

pub overflow_add-leaves : goal.overflow_add-leaves
overflow_add-leaves c =
    let i = c.loop-i.invariant in
    omega (arith, (looked_few _ i).1, i.within, room _ c.requires.ring, c.from-leaves.ensures, byte_small (eqb c.tag-tag.result 13 && c.has.result))

pub loop-i-preserved : goal.loop-i-preserved
loop-i-preserved c =
    looked_more _ c.loop-i.invariant (omega (arith, c.messages-m.ensures.value)) _ _ _ refl
    c.tag-tag.ensures.value c.sender.ensures.value _ (c.has.ensures.value ∙ c.requires.running _)
    (c.from-acknowledgements.ensures ∙ byte_bit (eqb c.tag-tag.result 10)) (c.from-leaves.ensures ∙ byte_bit (eqb c.tag-tag.result 13 && c.has.result))

pub returns : goal.returns
returns c =
    let ws : List ℕ = c.args.words.now in
    let l = c.loop-i in
    let end : length (decode ws).messages ≤ l.i = omega (arith, c.messages-m.ensures.value) in
    let few = looked_few ws l.invariant in
    let most = room _ c.requires.ring in record {
      acknowledgements = all_acknowledged ws l.invariant end;
      leaves = all_left ws l.invariant end;
      bounds = (omega (arith, few.0, l.invariant.within, most), omega (arith, few.1, l.invariant.within, most));
    }
