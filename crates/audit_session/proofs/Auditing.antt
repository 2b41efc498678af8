-- Event words audited one after the other.
use mathlib.Core.Path.{◌≡◌, refl, sym, ap, ◌∙◌}
use mathlib.Core.List.{List, [], ◌∷◌}
use Prim.Native.Nat.{ℕ, ◌+◌, ◌*◌, ◌≤◌, ◌<◌}
use native.Mathlib.Omega.{arith}
use lib.ListN.{length, get_or, drop, drop_of_length-le}
use Rattle.model.proofs.Laws.{if_law}
use Rattle.text_describe.proofs.Pieces.{PutBefore, none_put, more_put, all_put, next_item}
use Rattle.audit_account.specs.Points.{is_point}
use Rattle.audit_account.specs.Partings.{parts}
use Rattle.model.specs.Play.{play_word}
use Rattle.audit_account.specs.Accounts.{Standing, noted, counted, begun, after_parting, played}
use Rattle.audit_account.specs.Whole.{played_all, all_lines}
use Rattle.audit_account.specs.declared.Account.{Account}
use Rattle.audit_event.specs.Kept.{Kept, Audits}
use Rattle.audit_account.specs.declared.Log.{Log}
use Rattle.audit_session.specs.Sessions.{standing_of, Holds, AllAudited}

-- ---- what is kept determines the standing

pub standing_is : {s : Standing} {ws : List ℕ} {log : Log} → Kept s ws log → standing_of ws log ≡ s
unfolding standing_of
standing_is k = λ i. record { ring = k.ring i; account = k.account i; listed = sym k.lists.entries i }

pub own_holds : {s : Standing} {ws : List ℕ} {log : Log} → Holds s ws log → Holds (standing_of ws log) ws log
own_holds h = rw (standing_is h.kept) h

-- ---- each word counts

after_count : (s : Standing) (w : ℕ) → (after_parting s w).count ≡ s.account.count + 1
unfolding after_parting counted noted
after_count s w =
    if_law (λ (a : Account). a.count ≡ s.account.count + 1) (parts s.ring (play_word s.ring w).ring) _ _ (λ e. refl) (λ e. refl)

one_counted : (s : Standing) (w : ℕ) → (played s w).account.count ≡ s.account.count + 1
unfolding played begun
one_counted s w =
    if_law (λ (t : Standing). t.account.count ≡ s.account.count + 1) (is_point (play_word s.ring w).ring) _ _
    (λ e. after_count s w) (λ e. after_count s w)

pub all_counted : (s : Standing) (ws : List ℕ) → (played_all s ws).account.count ≡ s.account.count + length ws
unfolding played_all
all_counted s [] = omega arith
all_counted s (w ∷ ws) = omega (arith, all_counted (played s w) ws, one_counted s w)

-- ---- the words, one after the other

-- those before place i are played
pub record AuditedTo (s : Standing) (script ws : List ℕ) (log : Log) (out out' : List ℕ) (end i : ℕ) : Type 0 where
  pub within : i ≤ length script
  pub standing : Standing
  pub holds : Holds standing ws log
  pub rest : played_all standing (drop i script) ≡ played_all s script
  pub count : log.account.count ≡ s.account.count + i
  pub put : PutBefore out out' 0 end (all_lines s script) (all_lines standing (drop i script))
  pub room : end ≤ 2914 * i

pub none_audited : (s : Standing) (script : List ℕ) {ws : List ℕ} {log : Log} (out : List ℕ) → Holds s ws log → AuditedTo s script ws log out out 0 0
none_audited s script out h =
    record {
      within = omega arith;
      standing = s;
      holds = h;
      rest = refl;
      count = omega (arith, ap (λ (b : Account). b.count) h.kept.account);
      put = none_put out 0 (all_lines s script);
      room = omega arith;
    }

module _ {s : Standing} {script ws : List ℕ} {log : Log} {out out' : List ℕ} {end i : ℕ} (p : AuditedTo s script ws log out out' end i) where
  pub more_audited : {w : ℕ} {ws' : List ℕ} {log' : Log} {out'' : List ℕ} {end' : ℕ} → i < length script → w ≡ get_or script i 0
      → Audits p.standing w ws' log' out' out'' end end' → end' ≤ end + 2914 → AuditedTo s script ws' log' out out'' end' (i + 1)
  unfolding played_all all_lines
  more_audited {w} below e q room =
      let next : drop i script ≡ w ∷ drop (i + 1) script = next_item script i below ∙ ap (λ (v : ℕ). v ∷ drop (i + 1) script) (sym e) in
      let k = q.kept in
      record {
        within = omega arith;
        standing = played p.standing w;
        holds = record { kept = k; grouped = q.grouped };
        rest = rw next at p.rest;
        count =
            let later = ap (λ (b : Account). b.count) k.account in
            let earlier = ap (λ (b : Account). b.count) p.holds.kept.account in
            omega (arith, later, one_counted p.standing w, p.count, earlier);
        put = more_put p.put q.put (ap (all_lines p.standing) next);
        room = omega (arith, p.room);
      }

  pub all_audited : length script ≤ i → AllAudited s script ws log out out' end
  unfolding played_all all_lines
  all_audited h =
      let none' : drop i script ≡ [] = drop_of_length-le script h in
      record {
        holds = rw (← p.rest, none') p.holds;
        put = all_put p.put (ap (all_lines p.standing) none');
        room = omega (arith, p.room, p.within);
      }

pub audited_count : {s : Standing} {script ws : List ℕ} {log : Log} {out out' : List ℕ} {end : ℕ} → AllAudited s script ws log out out' end
    → log.account.count ≡ s.account.count + length script
audited_count {s} {script} p = ap (λ (b : Account). b.count) p.holds.kept.account ∙ all_counted s script
