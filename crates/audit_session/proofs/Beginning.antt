-- The first chunk, and any chunk.
use mathlib.Core.Path.{◌≡◌, refl, sym, ap, ◌∙◌, subst}
use mathlib.Core.Bool.{Bool, true, false}
use mathlib.Core.List.{List}
use Prim.Native.Nat.{ℕ, ◌+◌, ◌*◌, ◌^◌, ◌≤◌, ◌<◌, min}
use native.Mathlib.Omega.{arith}
use lib.ListN.{length, take, drop, replicate, length-drop, get_or-replicate}
use Rattle.bench_lines.specs.Put.{Put}
use Rattle.bench_open.specs.Beginning.{open_script}
use Rattle.bench_open.proofs.Opened.{Opened, the_answer, refused_ring, nodes_are}
use Rattle.bench_script.specs.Chunks.{chunk_size}
use Rattle.bench_script.proofs.Chunks.{few_words}
use Rattle.answers.specs.Applied.{written}
use Rattle.model.specs.Sets.{of_bits}
use Rattle.model.specs.Leafset.{Table, size}
use Rattle.model.specs.Ring.{initial}
use Rattle.model.specs.Connection.{connected}
use Rattle.model.specs.Answers.{answer_number, is_accepted}
use Rattle.model.specs.Words.{ring_length, decode_table, decode, reads_as_ring}
use Rattle.model.specs.Bench.{little_endian, script_table, script_answer}
use Rattle.model.specs.declared.refusal.Refusal.{Refusal}
use Rattle.model.proofs.Laws.{clash, if_law}
use Rattle.model.proofs.Decoded.{reads_well}
use Rattle.sets.proofs.Bits.{of_none}
use Rattle.audit_account.specs.Accounts.{Standing, most, opened, no_ring_text}
use Rattle.audit_account.specs.Whole.{begins}
use Rattle.audit_account.specs.declared.Account.{Account}
use Rattle.audit_account.specs.declared.Log.{Log}
use Rattle.std.specs.Prelude.{Result}
use Rattle.audit_parting.specs.Groups.{AreGroups}
use Rattle.audit_event.specs.Kept.{Few, Grouped}
use Rattle.audit_session.specs.Turns.{Turn, played_turn, first_turn, words_turn, audit_turn}
use Rattle.audit_session.specs.Sessions.{standing_of, Holds, Ready, Stepped}
use Rattle.audit_session.specs.declared.turn.Session.{Session}
use Rattle.audit_session.proofs.Auditing.{standing_is, own_holds, all_counted}

-- ---- a ring that was just opened

-- nobody runs, and no set has a member
no_groups : (t : Table) → AreGroups (initial t) (replicate 64 0)
unfolding initial connected
no_groups t = record { long = refl; sets = λ x b h. ap (λ (S : ℕ). of_bits S b) (get_or-replicate {A = ℕ} 64 x 0 0 h) ∙ of_none b }

table_few : (ws : List ℕ) → reads_as_ring ws ≡ true → size (decode_table ws) ≤ 64
unfolding decode
table_few ws e = (reads_well ws e).table_well.size_high

few_opened : Few opened
unfolding opened
few_opened = record { point = omega arith; uncovered = omega arith; partings = omega arith; ons = omega arith; offs = omega arith; notices = omega arith }

module _ {ws script : List ℕ} (log : Log) (o : Opened ws script)
    (account : log.account ≡ opened) (lists : (length log.listed ≡ most) × (log.groups ≡ replicate 64 0)) where
  begun_holds : Holds (begins (script_table script)) ws log
  unfolding opened initial
  begun_holds =
      record {
        kept =
            record {
              reads = o.reads;
              ring = o.ring;
              account = account;
              few = subst Few (sym account) few_opened;
              lists = record { long = lists.0; entries = ap (λ (a : Account). take (min a.uncovered most) log.listed) (sym account) };
            };
        grouped = subst (Grouped (begins (script_table script))) (sym lists.1) record {
          groups = no_groups (script_table script);
          low = λ x h. clash h refl;
          few = rw (← nodes_are o) (table_few ws o.reads);
        };
      }

  pub begins_held : Holds (standing_of ws log) ws log
  begins_held = own_holds begun_holds

  pub first_played : (chunk : List ℕ) {part ws' out out' : List ℕ} {s : Session} → part ≡ drop (1 + size (decode_table ws)) script
      → Stepped (played_turn (standing_of ws log) part chunk) ws' out out' s → Stepped (first_turn script chunk) ws' out out' s
  unfolding first_turn
  first_played chunk e p = rw o.accepted (rw (e, nodes_are o, standing_is begun_holds.kept) at p)

pub begins_count : {a : Account} → a ≡ opened → a.count + 1025 < 2 ^ 64
unfolding opened
begins_count e = rw e (omega arith)

-- ---- no ring was opened

module _ (ws script : List ℕ) {ws' : List ℕ} {n : ℕ} (a : Result (Unit {0}) Refusal) (e : written a ws' ≡ open_script ws script)
    (number : n ≡ answer_number a) where
  pub refused_script : (chunk : List ℕ) {out out' : List ℕ} {end : ℕ} {s : Session} → (n ≡ 0 → ⊥) → length ws ≡ ring_length
      → Put out out' 0 end (no_ring_text n)
      → (s.more ≡ false) × (s.opened ≡ false) × (s.log.account ≡ opened) × (s.end ≡ end)
      → Stepped (first_turn script chunk) ws' out out' s
  unfolding first_turn
  refused_script chunk d long p q =
      let r = refused_ring ws script a e number d in
      rw r.refused
      record {
        more = q.0;
        opened = q.1;
        account = q.2;
        put = rw (q.3, ← the_answer ws script a e number, ← number) p;
        long = ap length r.kept ∙ long;
        holds = λ h. clash h refl;
      }

-- ---- any chunk

module _ (s : Standing) (script chunk : List ℕ) {already : Bool} {ws out out' : List ℕ} {session : Session} where
  pub turn_more : already ≡ true → Stepped (played_turn s script chunk) ws out out' session
      → Stepped (words_turn already s script chunk) ws out out' session
  unfolding words_turn
  turn_more e p = rw e p

  pub turn_first : already ≡ false → Stepped (first_turn script chunk) ws out out' session
      → Stepped (words_turn already s script chunk) ws out out' session
  unfolding words_turn
  turn_first e p = rw e p

pub turn_loaded : (already : Bool) (s : Standing) (chunk : List ℕ) {script ws out out' : List ℕ} {session : Session} → script ≡ little_endian chunk
    → Stepped (words_turn already s script chunk) ws out out' session → Stepped (audit_turn already s chunk) ws out out' session
turn_loaded already s chunk e p = rw e at p

-- a chunk has at most 1,024 events

few_events : (already : Bool) (s : Standing) (chunk : List ℕ) → length chunk ≤ chunk_size
    → (audit_turn already s chunk).standing.account.count ≤ s.account.count + 1024
unfolding words_turn first_turn played_turn opened
few_events already s chunk h =
    let ws : List ℕ = little_endian chunk in
    let t : Table = script_table ws in
    let k : ℕ = s.account.count in
    let f : 4 * length ws ≤ length chunk = few_words chunk in
    let few : Turn → Type 0 = λ u. u.standing.account.count ≤ k + 1024 in
    if_law few already _ _ (λ e. omega (arith, all_counted s ws))
    (λ e. if_law few (is_accepted (script_answer ws)) _ _
    (λ a. omega (arith, all_counted (begins t) (drop (1 + size t) ws), length-drop (1 + size t) ws)) (λ a. omega arith))

-- a session is ready for the next chunk
pub still_ready : (already : Bool) (s : Standing) (chunk : List ℕ) {ws out out' : List ℕ} {session : Session} → length chunk ≤ chunk_size
    → Stepped (audit_turn already s chunk) ws out out' session → (j : ℕ) → s.account.count ≤ j → Ready (j + 1024) session ws
still_ready already s chunk h p j l =
    record {
      long = p.long;
      holds = λ e. own_holds (p.holds (sym p.opened ∙ e));
      few = omega (arith, ap (λ (a : Account). a.count) p.account, few_events already s chunk h);
    }

pub ready_first : {session : Session} {ws : List ℕ} → (session.opened ≡ false) × (session.log.account ≡ opened) → length ws ≡ ring_length
    → Ready 0 session ws
unfolding opened
ready_first e h = record { long = h; holds = λ o. clash o e.0; few = omega (arith, ap (λ (a : Account). a.count) e.1) }

pub ready_within : {j k : ℕ} {s : Session} {ws : List ℕ} → Ready j s ws → j ≤ k → Ready k s ws
ready_within r h = record { long = r.long; holds = r.holds; few = omega (arith, r.few) }
