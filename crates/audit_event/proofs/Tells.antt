-- What is told of an event, and what is kept after it.
use mathlib.Core.Path.{◌≡◌, refl, sym, ap, ◌∙◌, subst}
use mathlib.Core.Bool.{Bool, true, false, not-not}
use mathlib.Core.List.{List, [], ◌∷◌, ◌++◌, append_assoc}
use Prim.Native.Nat.{ℕ, ◌+◌, ◌^◌, ◌<◌, min}
use native.Mathlib.Omega.{arith}
use borrow.Author.Tests.{eq-eqb, ne_eqb}
use Rattle.bench_lines.specs.Decimal.{decimal, newline}
use Rattle.bench_lines.specs.Put.{Put}
use Rattle.bench_lines.proofs.Puts.{put_none, put_as}
use Rattle.text_form.specs.Ascii.{ascii}
use Rattle.text_form.specs.Describe.{word_text}
use Rattle.std.specs.Prelude.{Result, if◌then◌else◌}
use Rattle.model.specs.Leafset.{size}
use Rattle.model.specs.Ring.{Ring, is_running}
use Rattle.model.specs.Words.{decode_table, decode}
use Rattle.model.specs.Answers.{answer_number, is_accepted}
use Rattle.model.specs.Events.{event_of}
use Rattle.model.specs.Play.{play_answer, play_word}
use Rattle.model.specs.declared.refusal.Refusal.{Refusal}
use Rattle.model.proofs.Cases.{after_table}
use Rattle.model.proofs.Laws.{decide, if_law, not_in, not_out}
use Rattle.audit_account.specs.Points.{is_point}
use Rattle.audit_account.specs.Partings.{parts, sides_text}
use Rattle.audit_account.specs.Accounts.{most, Standing, noted, counted, begun, entered, after_parting, played}
use Rattle.audit_account.specs.Accounts.{parted_text, verdict_text, event_text, word_lines}
use Rattle.audit_account.specs.declared.Account.{Account}
use Rattle.audit_account.specs.declared.Log.{Log}
use lib.ListN.{length, take}
use Rattle.audit_parting.specs.Groups.{AreGroups}
use Rattle.audit_parting.specs.Groups as groups
use Rattle.ring_connection.proofs.Linked.{running_low}
use Rattle.audit_parting.proofs.Tearing.{none_torn}
use Rattle.audit_event.specs.Kept.{Few, Kept, Noted, Around, Grouped, parting_text}

parted_parts : (a b c d e : List ℕ) → (((a ++ b) ++ c) ++ d) ++ e ≡ a ++ b ++ c ++ d ++ e
parted_parts a b c d e = simp append_assoc

pub parted_line : (k : ℕ) (r r' : Ring) {n : ℕ} → n ≡ size r.table
    → (((ascii "parted at event " ++ decimal k) ++ ascii ":") ++ sides_text r r' n) ++ newline ∷ [] ≡ parted_text k r r'
unfolding parted_text
parted_line k r r' {n} e =
    parted_parts (ascii "parted at event ") (decimal k) (ascii ":") (sides_text r r' n) (newline ∷ [])
    ∙ ap (λ (j : ℕ). ascii "parted at event " ++ decimal k ++ ascii ":" ++ sides_text r r' j ++ newline ∷ []) e

low_in_words : (ws : List ℕ) (x : ℕ) → is_running (decode ws) x ≡ true → x < size (decode ws).table
unfolding decode
low_in_words ws = running_low ws

-- ---- whether nodes were parted

module _ (s : Standing) (w : ℕ) where
  abbrev r : Ring
  r = s.ring

  abbrev r' : Ring
  r' = (play_word s.ring w).ring

  not_parted : parts r r' ≡ false → (parting_text s w ≡ []) × (after_parting s w ≡ noted s.account r w)
  unfolding parting_text after_parting
  not_parted e = (rw e, rw e)

  are_parted : parts r r' ≡ true
      → (parting_text s w ≡ parted_text (s.account.count + 1) r r' ++ verdict_text (noted s.account r w) (entered s w))
      × (after_parting s w ≡ counted (noted s.account r w))
  unfolding parting_text after_parting
  are_parted e = (rw e, rw e)

  module _ {old new : List ℕ} {t n : ℕ} (a : Around s w old new t n) (fits : t < 2 ^ 64) where
    pub none_told : {out : List ℕ} {at : ℕ} {account : Account} → t ≡ 0 → account ≡ noted s.account r w
        → Put out out at at (parting_text s w) × (account ≡ after_parting s w)
    none_told {out} {at} z e =
        let q : parts r r' ≡ false = not_out (parts r r') (sym (none_torn r r' a.groups t fits a.parted) ∙ eq-eqb t 0 z) in
        (put_as (put_none out at) (sym (not_parted q).0), e ∙ sym (not_parted q).1)

    pub some_told : {out out' : List ℕ} {at end : ℕ} {account account' : Account} → (t ≡ 0 → ⊥) → account ≡ noted s.account r w → account' ≡ counted account
        → Put out out' at end (parted_text account.count r r' ++ verdict_text account (entered s w))
        → Put out out' at end (parting_text s w) × (account' ≡ after_parting s w)
    unfolding noted
    some_told {account = account} d e f p =
        let q : parts r r' ≡ true = sym (not-not (parts r r')) ∙ not_in (sym (none_torn r r' a.groups t fits a.parted) ∙ ne_eqb t 0 d) in
        let told = ap (λ (b : Account). parted_text b.count r r' ++ verdict_text b (entered s w)) e ∙ sym (are_parted q).0 in
        (put_as p told, f ∙ ap counted e ∙ sym (are_parted q).1)

  -- ---- what is kept

  settled_point : is_point r' ≡ true → played s w ≡ record { ring = r'; account = begun (after_parting s w); listed = [] }
  unfolding played
  settled_point e = rw e

  settled_on : is_point r' ≡ false → played s w ≡ record { ring = r'; account = after_parting s w; listed = entered s w }
  unfolding played
  settled_on e = rw e

  pub ring_played : (played s w).ring ≡ r'
  ring_played = decide (is_point r') (λ e. ap (λ (q : Standing). q.ring) (settled_point e)) (λ e. ap (λ (q : Standing). q.ring) (settled_on e))

  uncovered_same : (after_parting s w).uncovered ≡ (noted s.account r w).uncovered
  unfolding counted
  uncovered_same =
      decide (parts r r') (λ e. ap (λ (b : Account). b.uncovered) (are_parted e).1) (λ e. ap (λ (b : Account). b.uncovered) (not_parted e).1)

  module _ {ws : List ℕ} (point : Bool) (told : Account) (log : Log) (is_point_lem : point ≡ is_point (decode ws)) (told_is : told ≡ after_parting s w)
      (settled_is : log.account ≡ (if point then begun told else told)) (few : Few log.account) where
    module _ {answer : _} {before : Log} (k : Noted s w ws before answer) (kept_listed : log.listed ≡ before.listed) where
      point_is : point ≡ is_point r'
      point_is = is_point_lem ∙ ap is_point k.ring

      listed_long : length log.listed ≡ most
      listed_long = ap length kept_listed ∙ k.lists.long

      at_point_lem : is_point r' ≡ true → Kept (played s w) ws log
      unfolding begun
      at_point_lem e =
          let b : log.account ≡ begun (after_parting s w) = settled_is ∙ rw (point_is ∙ e) (ap begun told_is) in
          subst (λ (q : Standing). Kept q ws log) (sym (settled_point e))
          record {
            reads = k.reads;
            ring = k.ring;
            account = b;
            few = few;
            lists = record {
              long = listed_long;
              entries = ap (λ (q : Account). take (min q.uncovered most) log.listed) (sym b);
            };
          }

      goes_on_lem : is_point r' ≡ false → Kept (played s w) ws log
      goes_on_lem e =
          let b : log.account ≡ after_parting s w = settled_is ∙ rw (point_is ∙ e) told_is in
          let u : before.account.uncovered ≡ log.account.uncovered =
          ap (λ (q : Account). q.uncovered) k.account ∙ sym uncovered_same ∙ ap (λ (q : Account). q.uncovered) (sym b) in
          subst (λ (q : Standing). Kept q ws log) (sym (settled_on e))
          record {
            reads = k.reads;
            ring = k.ring;
            account = b;
            few = few;
            lists = record {
              long = listed_long;
              entries =
                  k.lists.entries ∙ ap (λ (j : ℕ). take (min j most) before.listed) u
                  ∙ ap (take (min log.account.uncovered most)) (sym kept_listed);
            };
          }

      pub kept_after : Kept (played s w) ws log
      kept_after = decide (is_point r') at_point_lem goes_on_lem

  -- ---- an event that is played and noted, told

  table_kept : r'.table ≡ r.table
  unfolding play_word
  table_kept = if_law (λ (q : Ring). q.table ≡ r.table) (is_accepted (play_answer r w)) _ _ (λ e. after_table r (event_of w)) (λ e. refl)

  module _ {ws : List ℕ} {answer : Result (Unit {0}) Refusal} {log : Log} (k : Noted s w ws log answer) where
    low_after : (x : ℕ) → is_running r' x ≡ true → x < size r'.table
    low_after = subst (λ (q : Ring). (x : ℕ) → is_running q x ≡ true → x < size q.table) k.ring (low_in_words ws)

    module _ {old : List ℕ} (g : Grouped s old) {new : List ℕ} (found : AreGroups (decode ws) new) where
      groups_after : AreGroups r' new
      groups_after = subst (λ (q : Ring). AreGroups q new) k.ring found

      pub around : groups.Around r r' old new
      around = record { old = g.groups; new = groups_after; low = g.low; low' = low_after; few = g.few }

      pub grouped_after : Grouped (played s w) new
      grouped_after =
          record {
            groups = subst (λ (q : Ring). AreGroups q new) (sym ring_played) groups_after;
            low = subst (λ (q : Ring). (x : ℕ) → is_running q x ≡ true → x < size q.table) (sym ring_played) low_after;
            few = omega (arith, g.few, ap (λ (q : Ring). size q.table) ring_played, ap size table_kept);
          }

    pub nodes_are : {n : ℕ} → n ≡ size (decode_table ws) → n ≡ size r.table
    unfolding decode
    nodes_are e = e ∙ ap (λ (q : Ring). size q.table) k.ring ∙ ap size table_kept

    pub lines_are : event_text log.account.count (word_text w) (answer_number answer) (decode ws) ++ parting_text s w ≡ word_lines s w
    unfolding word_lines parting_text noted
    lines_are = rw (k.account, k.answered, k.ring)
