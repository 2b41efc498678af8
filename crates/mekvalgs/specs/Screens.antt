-- The conductor's screen, as it is written through C's pointers.
use Rattle.std.specs.Prelude.{ℕ, List}
use Rattle.model.specs.declared.screen.ConductorScreen.{ConductorScreen}

abbrev pub screen_in : ℕ → ℕ → ℕ → ℕ → List ℕ → List ℕ → ConductorScreen
screen_in clockwise counter_clockwise nodes running keys leafsets =
    record {
      sides = record { ahead = clockwise; behind = counter_clockwise };
      nodes = nodes;
      running = running;
      keys = keys;
      leafsets = leafsets;
    }
