use mathlib.Core.Path.{◌≡◌}
use mathlib.Core.List.{append-nil, map}
use Prim.Native.Nat.{ℕ, ◌+◌, ◌≤◌}
use native.Mathlib.Omega.{arith}
use lib.ListN.{length, length-map}
use Rattle.model.proofs.Laws.{length_members}
use Rattle.model.specs.Sets.{of_bits, members, count}
use Rattle.model.specs.Ring.{Message}
use Rattle.ring_messages.proofs.send.Goals as goal

-- as many messages as members
to_each : (m to : ℕ) (make : ℕ → Message) → m + length (map make (members 64 (of_bits to))) ≤ 1024 → m + count 64 (of_bits to) ≤ 1024
to_each m to make h =
    let same : length (map make (members 64 (of_bits to))) ≡ count 64 (of_bits to) = simp length-map (length_members 64 (of_bits to)) in
    omega arith

pub append-requires : goal.append-requires
append-requires c =
    let one = c.in-One.is in
    let few = rw one at c.requires.words.3 in
    record { words = (c.requires.words.0, omega arith, rw one at c.requires.sends.1) }

pub send_each-requires : goal.send_each-requires
send_each-requires c =
    let each = c.in-Each.is in
    record {
      words = (c.requires.words.0, rw each at c.requires.sends.1, c.requires.words.1, to_each _ _ _ (rw each at c.requires.words.3));
    }

pub send_requests-requires : goal.send_requests-requires
send_requests-requires c =
    let spares = c.in-ToSpares.is in
    record {
      words = (c.requires.words.0, c.requires.words.1, c.requires.words.2, to_each _ _ _ (rw spares at c.requires.words.3));
      «record» = (c.requires.sends.0, rw spares at c.requires.sends.1);
    }

pub returns-in-Nothing : goal.returns-in-Nothing
returns-in-Nothing c = record { ring = λ ρ n is. rw (c.in-Nothing.is, append-nil ρ.messages) is }

pub returns-in-One : goal.returns-in-One
returns-in-One c = record { ring = λ ρ n is. rw c.in-One.is (c.append.ensures.ring ρ n is) }

pub returns-in-Each : goal.returns-in-Each
returns-in-Each c = record { ring = λ ρ n is. rw c.in-Each.is (c.send_each.ensures.ring ρ n is) }

pub returns-in-ToSpares : goal.returns-in-ToSpares
returns-in-ToSpares c = record { ring = λ ρ n is. rw c.in-ToSpares.is (c.send_requests.ensures.ring ρ n is) }
