-- A word played, noted and listed.
use mathlib.Core.Path.{◌≡◌, refl, sym, ap, ◌∙◌}
use mathlib.Core.Bool.{Bool, true, false, not, ◌&&◌}
use mathlib.Core.List.{List, [], ◌∷◌, ◌++◌, append-nil}
use Prim.Native.Nat.{ℕ, ◌+◌, ◌≤◌, ◌<◌, min}
use native.Mathlib.Omega.{arith}
use borrow.Author.Tests.{lt-ltb, le-ltb}
use native.Mathlib.Decide.{dec_lt}
use lib.Dec.{ltb}
use lib.ListN.{length, take}
use Rattle.model.specs.Fields.{bit}
use Rattle.model.specs.Ring.{Ring}
use Rattle.std.specs.Prelude.{Result, Ok, Err, is_ok}
use Rattle.model.specs.Answers.{answer_number, is_accepted}
use Rattle.model.specs.Leafset.{size}
use Rattle.model.specs.Words.{ring_length, decode_table, decode, reads_as_ring}
use Rattle.model.specs.Events.{event_of}
use Rattle.model.specs.Play.{play_word}
use Rattle.model.specs.Buffer.{play_buffer}
use Rattle.model.specs.ConnectivityPreserved.{is_harmless}
use Rattle.model.specs.declared.refusal.Refusal.{Refusal}
use Rattle.model.proofs.Cases.{number_high}
use Rattle.model.proofs.Laws.{decide}
use Rattle.answers.specs.Applied.{written}
use Rattle.answers.proofs.Valid.{long, few}
use Rattle.event_play.proofs.Played.{still, ring_after, answer_is}
use Rattle.audit_account.specs.Points.{is_uncovered_word}
use Rattle.audit_account.specs.Accounts.{most, Standing, noted, entered}
use Rattle.audit_account.specs.declared.Account.{Account}
use Rattle.audit_account.specs.declared.Entry.{Entry}
use Rattle.audit_account.specs.declared.Log.{Log}
use Rattle.audit_event.specs.Kept.{Lists, Kept, Noted, Listed}

-- what a call that takes a ring's words with the number of its nodes asks
pub counted_nodes : (ws : List ℕ) → reads_as_ring ws ≡ true → {n : ℕ} → n ≡ size (decode_table ws)
    → (length ws ≡ ring_length) × (n ≡ size (decode_table ws)) × (n ≤ 64)
counted_nodes ws reads is = (long ws reads, is, omega (arith, few ws reads, is))

-- a call that is answered by acceptance gives Ok
accepted_ok : {A : Type 0} (answer : Result A Refusal) → is_ok answer ≡ is_accepted (answer_number answer)
accepted_ok (Ok _) = refl
accepted_ok (Err e) = sym (number_high e)

-- the events listed after w: with it, without it, or with no room for it
module _ (s : Standing) (w : ℕ) {a a' : Account} {listed listed' : List Entry} (u : Bool)
    (lists : Lists a listed s.listed) (same : a ≡ s.account) (is : u ≡ is_uncovered_word s.ring w)
    (new : Listed u a.uncovered (record { number = a.count + 1; word = w }) listed listed') (after : a' ≡ noted a s.ring w) where
  count_after : a'.uncovered ≡ a.uncovered + bit u
  unfolding noted
  count_after = ap (λ (b : Account). b.uncovered) after ∙ ap (λ (b : Bool). a.uncovered + bit b) (sym is)

  none : (is_uncovered_word s.ring w && ltb s.account.uncovered most) ≡ false → entered s w ≡ s.listed
  unfolding entered
  none e = rw e (append-nil s.listed)

  one : (is_uncovered_word s.ring w && ltb s.account.uncovered most) ≡ true
      → entered s w ≡ s.listed ++ record { number = s.account.count + 1; word = w } ∷ []
  unfolding entered
  one e = rw e

  covered : u ≡ false → entered s w ≡ take (min a'.uncovered most) listed'
  covered e =
      let k : a'.uncovered ≡ a.uncovered = count_after ∙ rw e (omega arith) in
      none (rw (← is, e)) ∙ lists.entries ∙ sym (new.kept (min a.uncovered most) (omega arith))
      ∙ ap (λ (j : ℕ). take (min j most) listed') (sym k)

  full : u ≡ true → most ≤ a.uncovered → entered s w ≡ take (min a'.uncovered most) listed'
  full e h =
      let f : ltb s.account.uncovered most ≡ false = ap (λ (b : Account). ltb b.uncovered most) (sym same) ∙ le-ltb a.uncovered most h in
      let k : min a.uncovered most ≡ min a'.uncovered most = omega (arith, count_after) in
      none (rw (← is, e, f)) ∙ lists.entries ∙ sym (new.kept (min a.uncovered most) (omega arith)) ∙ ap (λ (j : ℕ). take j listed') k

  room : u ≡ true → a.uncovered < most → entered s w ≡ take (min a'.uncovered most) listed'
  room e h =
      let f : ltb s.account.uncovered most ≡ true = ap (λ (b : Account). ltb b.uncovered most) (sym same) ∙ lt-ltb a.uncovered most h in
      let k : min a.uncovered most ≡ a.uncovered = omega arith in
      let b : bit u ≡ 1 = ap bit e in
      let k' : a.uncovered + 1 ≡ min a'.uncovered most = omega (arith, count_after, b) in
      one (rw (← is, e, f))
      ∙ ap (λ (l : List Entry). l ++ record { number = s.account.count + 1; word = w } ∷ []) (lists.entries ∙ ap (λ (j : ℕ). take j listed) k)
      ∙ ap (λ (q : Account). take a.uncovered listed ++ record { number = q.count + 1; word = w } ∷ []) (sym same)
      ∙ sym (new.added e h) ∙ ap (λ (j : ℕ). take j listed') k'

  pub lists_after : Lists a' listed' (entered s w)
  lists_after =
      record {
        long = new.long;
        entries = decide u (λ e. elim (dec_lt a.uncovered most) [ yes h ↦ room e h | no h ↦ full e (omega arith) ]) covered;
      }

module _ (s : Standing) (w : ℕ) {ws ws' : List ℕ} {log : Log} (k : Kept s ws log)
    (answer : Result (Unit {0}) Refusal) (e : written answer ws' ≡ play_buffer ws w) where
  ring_is : decode ws' ≡ (play_word s.ring w).ring
  ring_is = ring_after ws k.reads w answer e ∙ ap (λ (r : Ring). (play_word r w).ring) k.ring

  answer_same : answer_number answer ≡ (play_word s.ring w).answer
  answer_same = answer_is ws k.reads w answer e ∙ ap (λ (r : Ring). (play_word r w).answer) k.ring

  uncovered_is : {ok harm : Bool} → ok ≡ is_ok answer → harm ≡ not (is_harmless (decode ws) (event_of w)) → (ok && harm) ≡ is_uncovered_word s.ring w
  unfolding is_uncovered_word
  uncovered_is f g = rw (f, g, accepted_ok answer, answer_same, k.ring)

  pub noted_from : (u : Bool) {ok harm : Bool} → u ≡ (ok && harm) → ok ≡ is_ok answer
      → harm ≡ not (is_harmless (decode ws) (event_of w)) → {log' : Log}
      → Listed u log.account.uncovered (record { number = log.account.count + 1; word = w }) log.listed log'.listed
      → ((ρ : Ring) (v : ℕ) → u ≡ is_uncovered_word ρ v → event_of w ≡ event_of v → log'.account ≡ noted log.account ρ v)
      → Noted s w ws' log' answer
  noted_from u h f g new after =
      let is : u ≡ is_uncovered_word s.ring w = h ∙ uncovered_is f g in
      let account = after s.ring w is refl in
      record {
        reads = still ws k.reads w answer e;
        ring = ring_is;
        answered = answer_same;
        account = account ∙ ap (λ (b : Account). noted b s.ring w) k.account;
        lists = lists_after s w u k.lists k.account is new account;
      }
