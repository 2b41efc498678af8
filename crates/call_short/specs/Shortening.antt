-- What shortening gives.
use Rattle.std.specs.Prelude.{List, ℕ, Result}
use Rattle.model.specs.Answers.{answer_number, given_or}
use Rattle.model.specs.Short as model
use Rattle.model.specs.declared.refusal.Refusal.{Refusal}

-- the answer and the length by number, 0 where refused, with the lent place
abbrev pub shortened : Result ℕ Refusal → List ℕ → model.Shortened
shortened r place = record { answer = answer_number r; length = given_or 0 r; place = place }
