-- What the bench of document 01 prints beside its worked example (Base), by rows that are computed.
use Prim.Native.Nat.{ℕ}
use mathlib.Core.Path.{◌≡◌, refl}
use mathlib.Core.List.{List, [], ◌∷◌, ◌++◌, map}
use Rattle.model.specs.Bench.{little_endian, Printed, script_answer, bench}
use Rattle.model.proofs.Base.{computed}

-- A = B = 1, keys 10 and 20
pub opening : List ℕ
opening = 0x21 ∷ 0 ∷ 0x40 ∷ 0x10 ∷ 10 ∷ 0 ∷ 0 ∷ 0x20 ∷ 20 ∷ 0 ∷ 0 ∷ 0x20 ∷ []

-- on at 1, contact 1 to 0, and on at 1 again
pub events : List ℕ
events = 1 ∷ 0 ∷ 0 ∷ 0x90 ∷ 1 ∷ 0 ∷ 0 ∷ 0xC0 ∷ 1 ∷ 0 ∷ 0 ∷ 0x90 ∷ []

-- what a script prints whose opening is refused
pub refused : ℕ → Printed
refused number = record { lines = (0 ∷ number ∷ 0 ∷ []) ∷ []; group = [] }

pub record Benched : Type 0 where
  -- "It reads little-endian words"; what is left of less than four bytes is no word
  pub lowest_first : little_endian (0x78 ∷ 0x56 ∷ 0x34 ∷ 0x12 ∷ 0xFF ∷ 0xFE ∷ 0xFD ∷ []) ≡ 0x12345678 ∷ []
  -- "count from 1, answer (0 accepted), messages travelling"; "A tail under 4 bytes is an event answered 4.", of one byte and of three; "number, key,
  -- running, clock, count held, the held in rising order"
  pub no_tail : bench (opening ++ events)
      ≡ record {
        lines = (1 ∷ 0 ∷ 0 ∷ []) ∷ (2 ∷ 0 ∷ 1 ∷ []) ∷ (3 ∷ 9 ∷ 1 ∷ []) ∷ (0 ∷ 10 ∷ 0 ∷ 0 ∷ 0 ∷ []) ∷ (1 ∷ 20 ∷ 1 ∷ 2 ∷ 0 ∷ []) ∷ [];
        group = 1 ∷ [];
      }
  pub tail_of_one : bench (opening ++ events ++ 0 ∷ [])
      ≡ record {
        lines =
            (1 ∷ 0 ∷ 0 ∷ []) ∷ (2 ∷ 0 ∷ 1 ∷ []) ∷ (3 ∷ 9 ∷ 1 ∷ []) ∷ (4 ∷ 4 ∷ 1 ∷ [])
            ∷ (0 ∷ 10 ∷ 0 ∷ 0 ∷ 0 ∷ []) ∷ (1 ∷ 20 ∷ 1 ∷ 2 ∷ 0 ∷ []) ∷ [];
        group = 1 ∷ [];
      }
  -- "0 if none runs"
  pub tail_alone : bench (opening ++ 0 ∷ 0 ∷ 0 ∷ [])
      ≡ record { lines = (1 ∷ 4 ∷ 0 ∷ []) ∷ (0 ∷ 10 ∷ 0 ∷ 0 ∷ 0 ∷ []) ∷ (1 ∷ 20 ∷ 0 ∷ 0 ∷ 0 ∷ []) ∷ []; group = 0 ∷ [] }
  -- "A refused opening prints only 0, the refusal, 0.": no word, three bytes, a key that is cut, a running key with events after it
  pub refusals :
      map bench
      ([]
      ∷ (0x21 ∷ 0 ∷ 0x40 ∷ [])
      ∷ (0x21 ∷ 0 ∷ 0x40 ∷ 0x10 ∷ 10 ∷ 0 ∷ 0 ∷ 0x20 ∷ 20 ∷ 0 ∷ 0 ∷ [])
      ∷ (0x21 ∷ 0 ∷ 0x40 ∷ 0x10 ∷ 10 ∷ 0 ∷ 0 ∷ 0x20 ∷ 20 ∷ 0 ∷ 0 ∷ 0x21 ∷ 1 ∷ 0 ∷ 0 ∷ 0x90 ∷ [])
      ∷ [])
      ≡ refused 2 ∷ refused 2 ∷ refused 2 ∷ refused 3 ∷ []
  -- "word 0 with m = 0 (any fault is 2)": m = 1, another kind, bit 26, A = 0, B = 0, A = 9, B = 9, n = 0, n = 65; and none
  pub heads :
      map (λ w. script_answer (w ∷ 0x2000000A ∷ 0x20000014 ∷ []))
      (0x10400821 ∷ 0x20400021 ∷ 0x14400021 ∷ 0x10400020 ∷ 0x10000021 ∷ 0x10400029 ∷ 0x12400021 ∷ 0x10400001 ∷ 0x10400411 ∷ 0x12000028 ∷ [])
      ≡ 2 ∷ 2 ∷ 2 ∷ 2 ∷ 2 ∷ 2 ∷ 2 ∷ 2 ∷ 2 ∷ 0 ∷ []
  -- "n key words with running 0 (a wrong one is 3, a missing or cut one 2)": running, another kind, bit 25, two equal; one that is missing after a wrong one;
  -- the highest and the lowest
  pub keys :
      map script_answer
      ((0x10400021 ∷ 0x2000000A ∷ 0x21000014 ∷ [])
      ∷ (0x10400021 ∷ 0x3000000A ∷ 0x20000014 ∷ [])
      ∷ (0x10400021 ∷ 0x2000000A ∷ 0x22000014 ∷ [])
      ∷ (0x10400021 ∷ 0x2000000A ∷ 0x2000000A ∷ [])
      ∷ (0x10400021 ∷ 0x2100000A ∷ [])
      ∷ (0x10400021 ∷ 0x20FFFFFF ∷ 0x20000000 ∷ [])
      ∷ [])
      ≡ 3 ∷ 3 ∷ 3 ∷ 3 ∷ 2 ∷ 0 ∷ []

pub benched : Benched
unfolding computed opening events refused
benched =
    record {
      lowest_first = refl;
      no_tail = refl;
      tail_of_one = refl;
      tail_alone = refl;
      refusals = refl;
      heads = refl;
      keys = refl;
    }
