-- The keys, once all are read.
use mathlib.Core.Path.{◌≡◌, refl, sym, ◌∙◌}
use mathlib.Core.List.{List, ◌++◌}
use Prim.Native.Nat.{ℕ, ◌+◌, ◌-◌, ◌<◌, ◌≤◌}
use native.Mathlib.Omega.{arith}
use native.Mathlib.Decide.{dec_lt}
use lib.ListN.{length, get_or, take, drop, replicate, get_or-eq_default, get_or-append, length-append, length-drop, get_or-replicate}
use lib.Seq.{ext_get_or, get_or-drop}
use Rattle.std.proofs.lemmas.List.{get_or-append_right, take_at}
use Rattle.model.specs.Sets.{tabulate}
use Rattle.model.specs.Leafset.{size, key}
use Rattle.model.specs.Words.{decode_table}
use Rattle.model.proofs.Laws.{get_d_tabulate, length_tabulate}

-- ks are the keys of the n nodes, and zeros follow
module _ (ws : List ℕ) (n : ℕ) (ks : List ℕ) (e : n ≡ size (decode_table ws)) (high : n ≤ 64) (long : length ks ≡ n)
    (each : (k : ℕ) → k < n → get_or ks k 0 ≡ key (decode_table ws) k) where
  abbrev pub filled : List ℕ
  filled = ks ++ drop n (replicate 64 0)

  pub keys_all : take n filled ≡ (decode_table ws).keys
  keys_all = take_at ks (drop n (replicate 64 0)) n long ∙ ext_get_or 0 ks (decode_table ws).keys (long ∙ e) (λ i k. each i (omega arith))

  pub keys_tabulated : filled ≡ tabulate 64 (key (decode_table ws))
  keys_tabulated =
      ext_get_or 0 filled (tabulate 64 k) (all_long ∙ sym (length_tabulate k 64))
      (λ i h. elim (dec_lt i n) [ yes y ↦ get_or-append ks _ 0 i (omega arith) ∙ each i y | no y ↦ zero i (omega arith) ∙ sym (beyond i (omega arith)) ]
      ∙ sym (get_d_tabulate k 0 64 i (omega (arith, all_long))))
    where
      k : ℕ → ℕ
      k = key (decode_table ws)

      zeros : List ℕ
      zeros = replicate 64 0

      zeros_long : length zeros ≡ 64
      zeros_long = refl

      all_long : length filled ≡ 64
      all_long = omega (arith, length-append ks (drop n zeros), length-drop n zeros, zeros_long)

      beyond : (i : ℕ) → n ≤ i → k i ≡ 0
      beyond i h = get_or-eq_default (decode_table ws).keys 0 (omega arith)

      none : (j : ℕ) → get_or zeros j 0 ≡ 0
      none j =
          elim (dec_lt j 64) [
            | yes y ↦ get_or-replicate 64 j 0 0 y
            | no y ↦ let far : length zeros ≤ j = omega (arith, zeros_long) in get_or-eq_default zeros 0 far
          ]

      zero : (i : ℕ) → n ≤ i → get_or filled i 0 ≡ 0
      zero i h = get_or-append_right ks (drop n zeros) n i 0 long h ∙ get_or-drop n zeros (i - n) 0 ∙ none (n + (i - n))
