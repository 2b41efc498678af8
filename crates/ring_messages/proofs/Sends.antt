-- A message to each of a set, in rising order.
use mathlib.Core.Path.{◌≡◌, refl, sym, ap, ◌∙◌}
use mathlib.Core.Bool.{true, not}
use mathlib.Core.List.{List, [], ◌∷◌, ◌++◌, map, append_assoc, append-nil}
use Prim.Native.Nat.{ℕ, suc, ◌+◌, ◌^◌, ◌≤◌, ◌<◌}
use native.Mathlib.Omega.{arith}
use lib.Dec.{eqb}
use lib.ListN.{length}
use Rattle.model.specs.Sets.{Set, of_bits, count, lowest, members}
use Rattle.model.specs.Ring.{Ring, Message}
use Rattle.model.specs.Play.{set_messages}
use Rattle.model.proofs.Laws.{and_left, length_members}
use Rattle.model.proofs.Bits.{bit_below}
use Rattle.sets.proofs.Bits.{Rising, rising_next, members_end}
use Rattle.sets.proofs.Turns.{Turn, turn_first, turn_rising}
use Rattle.ring_head.specs.Parts.{Encodes}

-- the messages of `make`, for each of a set
abbrev pub to_all : (ℕ → Message) → ℕ → List Message
to_all make S = map make (members 64 (of_bits S))

-- those for what is left of the set are still to come
pub record Sent (ws : List ℕ) (n m : ℕ) (ρ : Ring) (make : ℕ → Message) (to rest : ℕ) : Type 0 where
  pub done : List Message
  pub is : Encodes ws n m (set_messages done ρ)
  pub all : done ++ to_all make rest ≡ ρ.messages ++ to_all make to

pub record Sending (ws ws' : List ℕ) (m sent : ℕ) (make : ℕ → Message) (to rest : ℕ) : Type 0 where
  pub long : length ws' ≡ 13441
  pub rising : Rising 64 rest
  pub part : (y : ℕ) → of_bits rest y ≡ true → of_bits to y ≡ true
  pub space : sent + length (members 64 (of_bits rest)) ≤ 1024
  pub sends : (ρ : Ring) (n : ℕ) → Encodes ws n m ρ → Sent ws' n sent ρ make to rest

pub send_none : {ws : List ℕ} {m : ℕ} {make : ℕ → Message} {to rest : ℕ} → rest ≡ to → length ws ≡ 13441 → to < 2 ^ 64
    → m + count 64 (of_bits to) ≤ 1024
    → Sending ws ws m m make to rest
send_none {to = to} e l h c =
    rw e
    record {
      long = l;
      rising = record { fits = h; low = λ y e. bit_below 64 to y h e };
      part = λ y e. e;
      space = omega (arith, length_members 64 (of_bits to));
      sends = λ ρ n is. record { done = ρ.messages; is = is; all = refl };
    }

module _ {ws ws' : List ℕ} {m sent : ℕ} {make : ℕ → Message} {to rest : ℕ} (s : Sending ws ws' m sent make to rest) where
  module _ {y r : ℕ} (t : Turn rest y r) where
    pub sent_member : of_bits rest y ≡ true
    sent_member = (turn_first s.rising t).member

    next : members 64 (of_bits rest) ≡ y ∷ members 64 (of_bits r)
    next = rising_next s.rising t.rest y t.is

    next_length : length (members 64 (of_bits rest)) ≡ suc (length (members 64 (of_bits r)))
    next_length = ap length next

    pub sent_room : sent < 1024
    sent_room = omega (arith, s.space, next_length)

    pub send_more : (w : List ℕ) (x : Message) → length w ≡ 13441 → x ≡ make y
        → ((ρ : Ring) (n : ℕ) → Encodes ws' n sent ρ → Encodes w n (sent + 1) (set_messages (ρ.messages ++ x ∷ []) ρ)) → Sending ws w m (sent + 1) make to r
    send_more w x l e append =
        record {
          long = l;
          rising = turn_rising s.rising t;
          part = λ z e. s.part z (kept z e);
          space = omega (arith, s.space, next_length);
          sends = λ ρ n is.
              let p = s.sends ρ n is in
              record {
                done = p.done ++ x ∷ [];
                is = append (set_messages p.done ρ) n p.is;
                all = append_assoc p.done (x ∷ []) (to_all make r)
                    ∙ ap (λ (a : Message). p.done ++ a ∷ to_all make r) e
                    ∙ ap (λ (ys : List ℕ). p.done ++ map make ys) (sym next)
                    ∙ p.all;
              };
        }
      where
        kept : (z : ℕ) → of_bits r z ≡ true → of_bits rest z ≡ true
        kept z e = and_left (of_bits rest z) (not (eqb z (lowest 64 (of_bits rest)))) (sym (ap (λ (S : Set). S z) t.rest.set) ∙ e)

  pub send_all : rest ≡ 0 → (ρ : Ring) (n : ℕ) → Encodes ws n m ρ → Encodes ws' n sent (set_messages (ρ.messages ++ to_all make to) ρ)
  send_all e ρ n is =
      let p = s.sends ρ n is in
      let a : p.done ≡ ρ.messages ++ to_all make to =
      sym (append-nil p.done) ∙ ap (λ (ys : List ℕ). p.done ++ map make ys) (sym (members_end e)) ∙ p.all in
      rw a at p.is
