use mathlib.Core.Path.{refl, ◌∙◌}
use mathlib.Core.List.{List}
use Prim.Native.Nat.{ℕ, ◌<◌}
use native.Mathlib.Omega.{arith}
use lib.Dec.{lit<}
use lib.ListN.{length}
use Rattle.model.specs.Words.{decode}
use Rattle.model.specs.Play.{after}
use Rattle.model.specs.declared.event.Event.TheVariants.{Lose}
use Rattle.model.proofs.Answers.{here, next, no_more}
use Rattle.answers.proofs.Valid.{long, some_node}
use Rattle.answers.proofs.Refusals
use Rattle.event_act.proofs.Decides.{refused_before}
use Rattle.event_act.proofs.Leaving.{silent_decides, never_starts}
use Rattle.event_message.proofs.lose.Goals as goal

pub messages-m-requires : goal.messages-m-requires
messages-m-requires c = record { length = long _ c.requires.ring }

pub returns-then-m-k : goal.returns-then-m-k
returns-then-m-k c = record { decides = refused_before _ refl (here _ _ (Refusals.no_message_lem _ _ (omega (arith, c.messages-m.ensures.value)))) }

pub silent-requires : goal.silent-requires
silent-requires c =
    record {
      ring = (c.requires.ring, c.messages-m.ensures.value);
      change = (omega arith, some_node _ c.requires.ring);
    }

pub returns : goal.returns
unfolding after
returns c = record {
  decides =
      let ws : List ℕ = c.args.words.now in
      let k : ℕ = c.args.position in
      let low : k < length (decode ws).messages = omega (arith, c.messages-m.ensures.value) in
      silent_decides ws c.requires.ring c.silent.ensures.decided (Lose k) (next _ _ (Refusals.a_message ws k low) ∙ no_more)
      low (some_node ws c.requires.ring) (lit< tt) (λ e. absurd (never_starts refl e)) refl;
}
