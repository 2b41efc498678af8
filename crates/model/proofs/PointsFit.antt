-- The rings of the points P9 and P10 are well-formed, and what the leafset question says of one of them.
use mathlib.Core.Path.{◌≡◌, refl, ap, ◌∙◌}
use Prim.Native.Nat.{ℕ, ◌^◌, ◌≤◌, ◌<◌}
use native.Mathlib.Omega.{arith}
use mathlib.Core.Bool.{true, false}
use lib.Dec.{leb}
use lib.ListN.{take}
use borrow.Author.Tests.{leb-true}
use Rattle.model.specs.Sets.{all, of_bits}
use Rattle.model.specs.Leafset.{key}
use Rattle.model.specs.Types.{used_by_type}
use Rattle.model.specs.Steps.{set_commit}
use Rattle.model.specs.Words.{keys_differ, encode}
use Rattle.model.specs.Questions.{leafset_of}
use Rattle.model.specs.WellFormed.{WellFormedTable, none, spare, WellFormedOwn, WellFormedNode, WellFormedMessage, WellFormed, nil, cons}
use Rattle.model.proofs.Laws.{clash, if_law, put_each, all_out}
use Rattle.model.proofs.Bits.{bit_below}
use Rattle.model.proofs.Senders.{sent_le}
use Rattle.model.proofs.WellFormedSteps.{cleared_well, commit_well, spare_well}
use Rattle.model.proofs.Questions.{leafset_asked}
use Rattle.model.proofs.ExampleRing.{holding, five, node0, off, acknowledgement, ring}
use Rattle.model.proofs.Base.{computed}

table_well : WellFormedTable five
unfolding five keys_differ all
table_well =
    record {
      sides_well = record { ahead_low = omega arith; ahead_high = omega arith; behind_low = omega arith; behind_high = omega arith };
      size_low = omega arith;
      size_high = omega arith;
      key_high = λ s h. leb-true (key five s) 16777215 (all_out 5 (λ s. leb (key five s) 16777215) refl s h);
      keys_differ_lem = refl;
    }

off_well : (x : ℕ) → WellFormedNode 5 x off
unfolding off
off_well x =
    record {
      running_low = λ e. clash e refl;
      clock_high = omega arith;
      clock_none = λ d. refl;
      own_well = cleared_well 5 x 0;
      off_held = λ e z. refl;
      off_candidates = λ e z. refl;
    }

message_well : WellFormedMessage 5 acknowledgement
unfolding acknowledgement used_by_type
message_well =
    record {
      type_known = refl;
      sender_low = omega arith;
      receiver_low = omega arith;
      ends_differ = λ e. omega arith;
      subject_none = λ e. clash refl e;
      subject_low = λ e d. omega arith;
      subject_spare = λ e. clash e refl;
      stamp_none = λ e. clash refl e;
      stamp_high = omega arith;
      view_type = λ y e. clash e refl;
      view_other = λ y e. clash e refl;
    }

-- the held are of the table, node 2 is among them, and node 0 is not; no commit is above the clock
module _ (S commit : ℕ) (low : S < 2 ^ 5) (me : of_bits S 0 ≡ false) (two : of_bits S 2 ≡ true) (some : 1 ≤ commit) (high : commit ≤ 8) where
  holding_well : WellFormedOwn 5 0 8 (holding S)
  unfolding holding
  holding_well =
      record {
        held_other = λ z e. record { low = bit_below 5 S z low e; differs = λ i. clash e (ap (of_bits S) i ∙ me) };
        candidate_other = λ z e. clash e refl;
        commit_held = λ z e. rw e (omega arith);
        commit_none = λ z e. rw e;
        commit_high = λ z. if_law (λ v. v ≤ 8) (of_bits S z) 5 0 (λ e. omega arith) (λ e. omega arith);
        spare_other = λ z. none;
        spare_none = λ z e. refl;
      }

  node0_well : WellFormedNode 5 0 (node0 S commit)
  unfolding node0 holding
  node0_well =
      record {
        running_low = λ e. omega arith;
        clock_high = omega arith;
        clock_none = λ d. absurd (d (omega arith));
        own_well = spare_well 5 0 8 (set_commit 2 commit (holding S))
            (commit_well 5 0 8 (holding S) holding_well 2 commit two some high)
            2 1 two
            (spare (record { low = omega arith; differs = λ e. omega arith }) (λ e. omega arith));
        off_held = λ e. clash refl e;
        off_candidates = λ e. clash refl e;
      }

  ring_well : WellFormed (ring S commit)
  unfolding ring five
  ring_well =
      record {
        table_well = table_well;
        node_well = put_each (WellFormedNode 5) (λ x. off) 0 (node0 S commit) node0_well (λ x d. off_well x);
        messages_well = cons message_well nil;
        count_high = omega arith;
        senders_few = λ x h. omega (arith, sent_le x (ring S commit).messages);
      }

pub record PointsFit : Type 0 where
  -- "otherwise fit": the rings are well-formed
  pub P9-P10-fit : (S commit : ℕ) → S < 2 ^ 5 → of_bits S 0 ≡ false → of_bits S 2 ≡ true → 1 ≤ commit → commit ≤ 8 → WellFormed (ring S commit)
  -- the leafset question: "64 bits, bit s for stand s", of the leafset {3, 4} in the held {1, 2, 3, 4}
  pub leafset_bits : leafset_of (encode (ring 0b11110 6)) 0 ≡ 0b11000
  -- "A refused leafset question returns the empty set": about node 1, which is off; node 5, which is not of the
  -- table; and a buffer that ends after the pairs of node 0
  pub leafset_off : leafset_of (encode (ring 0b11110 6)) 1 ≡ 0
  pub leafset_beyond : leafset_of (encode (ring 0b11110 6)) 5 ≡ 0
  pub leafset_short : leafset_of (take 257 (encode (ring 0b11110 6))) 0 ≡ 0

fit : WellFormed (ring 0b11110 6)
fit = ring_well 0b11110 6 (omega arith) refl refl (omega arith) (omega arith)

pub points_fit : PointsFit
unfolding computed holding five node0 off acknowledgement ring
points_fit =
    record {
      P9-P10-fit = ring_well;
      leafset_bits = (leafset_asked (ring 0b11110 6) fit 0).value;
      leafset_off = (leafset_asked (ring 0b11110 6) fit 1).value;
      leafset_beyond = (leafset_asked (ring 0b11110 6) fit 5).value;
      leafset_short = refl;
    }
