-- The turns of a loop `for pair in words[from..from + 2 * n].chunks_exact(2)`, after k of them.
use mathlib.Core.Path.{◌≡◌, sym, ap, ◌∙◌}
use mathlib.Core.List.{List, ◌++◌}
use Prim.Native.Nat.{ℕ, ◌+◌, ◌-◌, ◌*◌, ◌≤◌, ◌<◌}
use native.Mathlib.Nat.{add-zero}
use native.Mathlib.Omega.{arith}
use lib.Dec.{lit<}
use lib.ListN.{length, get_or, take, drop, get_or-append, length-append, length-drop}
use lib.Seq.{get_or-take, get_or-drop, length-take-le}
use Rattle.std.proofs.lemmas.List.{drop_at, drop-drop}

module _ (ws : List ℕ) (from n : ℕ) where
  abbrev pub part : List ℕ
  part = take (from + 2 * n - from) (drop from ws)

  -- what is left of it
  pub record Left (k : ℕ) (rest : List ℕ) : Type 0 where
    pub within : k ≤ n
    pub is : rest ≡ drop (2 * k) part

  pub left_all : {rest : List ℕ} → rest ≡ part → Left 0 rest
  left_all e = record { within = omega arith; is = e }

  module _ (room : from + 2 * n ≤ length ws) where
    part_long : length part ≡ 2 * n
    part_long = length-take-le (from + 2 * n - from) (drop from ws) (omega (arith, length-drop from ws)) ∙ omega arith

    module _ {k : ℕ} {rest : List ℕ} (l : Left k rest) where
      rest_long : length rest ≡ 2 * n - 2 * k
      rest_long = ap length l.is ∙ length-drop (2 * k) part ∙ ap (λ (m : ℕ). m - 2 * k) part_long

      pub left_none : length rest < 2 → k ≡ n
      left_none h = omega (arith, rest_long, l.within)

      -- the next two words
      module _ (x after : List ℕ) (e : rest ≡ x ++ after) (two : length x ≡ 2) where
        left_below : k < n
        left_below = omega (arith, rest_long, ap length e, length-append x after)

        left_word : (j : ℕ) → j < 2 → get_or x j 0 ≡ get_or ws (from + 2 * k + j) 0
        left_word j h =
            sym (get_or-append x after 0 j (omega (arith, two)))
            ∙ ap (λ (l : List ℕ). get_or l j 0) (sym e ∙ l.is)
            ∙ get_or-drop (2 * k) part j 0
            ∙ get_or-take (from + 2 * n - from) (drop from ws) (2 * k + j) 0 (omega (arith, left_below))
            ∙ get_or-drop from ws (2 * k + j) 0
            ∙ ap (λ (i : ℕ). get_or ws i 0) (omega arith)

        pub left_first : get_or x 0 0 ≡ get_or ws (from + 2 * k) 0
        left_first = left_word 0 (lit< tt) ∙ ap (λ (i : ℕ). get_or ws i 0) (add-zero (from + 2 * k))

        pub left_second : get_or x 1 0 ≡ get_or ws (from + 2 * k + 1) 0
        left_second = left_word 1 (lit< tt)

        pub left_more : Left (k + 1) after
        left_more =
            let next : 2 * k + 2 ≡ 2 * (k + 1) = omega arith in
            record {
              within = omega (arith, left_below);
              is = sym (drop_at x after 2 two) ∙ ap (drop 2) (sym e ∙ l.is) ∙ drop-drop 2 (2 * k) part ∙ ap (λ (m : ℕ). drop m part) next;
            }
