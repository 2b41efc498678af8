-- Senders counted: one message more is one more of its sender; as many messages as one sender may have are not too many, nor are few of it before
-- the last ones.
use mathlib.Core.Path.{◌≡◌, sym, ap, ◌∙◌}
use Prim.Native.Nat.{ℕ, zero, suc, ◌+◌, ◌-◌, ◌*◌, ◌≤◌, ◌<◌}
use native.Mathlib.Omega.{arith}
use native.Mathlib.Decide.{ℕ_discrete}
use native.Mathlib.Numerals.{add-one}
use native.Mathlib.Nat.{zero-add, add-zero, add-suc}
use mathlib.Core.Bool.{true}
use mathlib.Core.List.{List}
use lib.Dec.{leb, eqb, lit≤}
use lib.ListN.{get_or, set, replicate, length-set, length-replicate, get_or-replicate}
use lib.Seq.{get_or-set_same, get_or-set_other}
use borrow.Author.Tests.{leb-true, le-leb, eq-eqb, ne_eqb}
use Rattle.model.specs.Sets.{all, tabulate, tabulate_from}
use Rattle.model.specs.Leafset.{Table, size}
use Rattle.model.specs.Fields.{bits}
use Rattle.model.specs.Ring.{Message, sent_by}
use Rattle.model.specs.Words.{at, decode_message_at}
use Rattle.model.proofs.Laws.{if_law, all_in, all_out, length_tabulate}
use Rattle.model.proofs.Senders.{one_of, sent_le, sent_more}
use Rattle.valid_nodes.proofs.Gather.{all_cong}
use Rattle.valid_messages.specs.Senders.{sent_of, senders_read, Counts}

module _ (ws : List ℕ) (base : ℕ) where
  abbrev message : ℕ → Message
  message k = decode_message_at ws (base + 5 * k)

  sent_high : (m x : ℕ) → sent_of ws base m x ≤ m
  sent_high m x = omega (arith, sent_le x (tabulate m message), length_tabulate message m)

  pub no_counts : Counts ws base 0 (replicate 64 0)
  unfolding sent_by tabulate_from
  no_counts = record { long = length-replicate {A = ℕ} 64 0; count = λ x h. get_or-replicate {A = ℕ} 64 x 0 0 h }

  module _ (k : ℕ) (counts : List ℕ) (c : Counts ws base k counts) where
    pub count_high : (x : ℕ) → x < 64 → get_or counts x 0 ≤ k
    count_high x h = rw (c.count x h) (sent_high k x)

    pub one_counted : (s : ℕ) → s < 64 → s ≡ bits 4 6 (at ws (base + 5 * k)) → Counts ws base (k + 1) (set counts s (get_or counts s 0 + 1))
    unfolding decode_message_at
    one_counted s h is =
        record {
          long = length-set counts s _ ∙ c.long;
          count = λ x hx. elim (ℕ_discrete x s) [
            | yes e ↦ rw e (get_or-set_same counts s _ 0 (rw c.long h) ∙ ap (λ (v : ℕ). v + 1) (c.count s h) ∙ sym (more s ∙ rw (eq-eqb _ s (sym is))))
            | no d ↦ get_or-set_other counts s x _ 0 d ∙ c.count x hx ∙ sym (more x ∙ rw (ne_eqb _ x (λ e. d (sym e ∙ sym is))) (omega arith))
          ];
        }
      where
        more : (x : ℕ) → sent_of ws base (k + 1) x ≡ sent_of ws base k x + one_of x (message k)
        more x =
            ap (λ (m : ℕ). sent_of ws base m x) (add-one k)
            ∙ sent_more x 0 k message
            ∙ ap (λ (i : ℕ). sent_of ws base k x + one_of x (message i)) (zero-add k)

  pub few_read : (t : Table) (m : ℕ) → m ≤ 256 → true ≡ senders_read ws base t m
  unfolding senders_read
  few_read t m h = sym (all_in (size t) _ (λ x hx. le-leb (sent_of ws base m x) 256 (omega (arith, sent_high m x))))

  one_le : (x : ℕ) (m : Message) → one_of x m ≤ 1
  one_le x m = if_law (λ k. k ≤ 1) (eqb m.sender x) 1 0 (λ e. lit≤ tt) (λ e. lit≤ tt)

  -- each message is one more at most
  sent_later : (d k x : ℕ) → sent_of ws base (k + d) x ≤ sent_of ws base k x + d
  sent_later zero k x = rw (add-zero k) (omega arith)
  sent_later (suc d) k x =
      rw (add-suc k d)
      (omega (arith, sent_more x 0 (k + d) message, one_le x (message (0 + (k + d))), sent_later d k x))

  pub few_before : (t : Table) (k m : ℕ) (counts : List ℕ) → size t ≤ 64 → k ≤ m → m ≤ k + 224 → Counts ws base k counts
      → all (size t) (λ x. leb (get_or counts x 0) 32) ≡ true → true ≡ senders_read ws base t m
  unfolding senders_read
  few_before t k m counts small h l c few =
      sym (all_in (size t) _ (λ x hx.
      let e : k + (m - k) ≡ m = omega arith in
      let had : get_or counts x 0 ≤ 32 = leb-true (get_or counts x 0) 32 (all_out (size t) (λ y. leb (get_or counts y 0) 32) few x hx) in
      le-leb (sent_of ws base m x) 256 (omega (arith, c.count x (omega arith), had, rw e at (sent_later (m - k) k x)))))

  pub counts_read : (t : Table) (m : ℕ) (counts : List ℕ) → size t ≤ 64 → Counts ws base m counts
      → all (size t) (λ x. leb (get_or counts x 0) 256) ≡ senders_read ws base t m
  unfolding senders_read
  counts_read t m counts h c = all_cong _ _ (size t) (λ x hx. ap (λ (v : ℕ). leb v 256) (c.count x (omega arith)))
