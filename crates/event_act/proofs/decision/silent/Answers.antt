-- What sends nothing is counted without a demand on what is taken out.
use mathlib.Core.Path.{◌≡◌, refl, sym, ap, subst}
use native.Mathlib.Omega.{arith}
use lib.ListN.{length}
use Rattle.model.specs.Ring.{Message}
use Rattle.model.specs.Steps.{Effect}
use Rattle.model.specs.WellFormed.{Each, nil}
use Rattle.model.specs.Structs.{own_of}
use Rattle.event_act.proofs.decision.silent.Goals as goal

pub decided-requires : goal.decided-requires
decided-requires c = record {
  counts =
      let args = c.args in
      let quiet = c.quiet-effect.ensures.effect 0 args.x.0 args.time.0 _ (record { own = refl; fits = c.empty.ensures.fits 0 }) in
      let none = ap (λ (e : Effect). e.sent) quiet.effect in
      record {
        reads = c.requires.ring.0;
        count = c.requires.ring.1;
        taken_low = c.requires.change.0;
        member = c.requires.change.1;
        by_node = subst (Each (λ (m : Message). m.sender ≡ args.x.0)) (sym none) nil;
        taken_other = λ some. absurd (omega (arith, some, ap length none));
      };
}

pub returns : goal.returns
returns c = record {
  decided =
      record {
        effect = c.quiet-effect.result;
        own = own_of c.empty.result;
        quiet = λ n. c.quiet-effect.ensures.effect n _ _ _ (record { own = refl; fits = c.empty.ensures.fits n });
        decided = c.decided.ensures.decided;
      };
}
