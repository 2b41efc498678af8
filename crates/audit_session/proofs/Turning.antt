-- A chunk of events, part by part.
use mathlib.Core.Path.{◌≡◌, refl, sym, ap, ◌∙◌}
use mathlib.Core.Bool.{Bool, true, false}
use mathlib.Core.List.{List, [], ◌∷◌, ◌++◌, append_assoc}
use Prim.Native.Nat.{ℕ, ◌+◌, ◌-◌, ◌*◌, ◌%◌, ◌<◌}
use native.Mathlib.Omega.{arith}
use lib.ListN.{length}
use Rattle.bench_lines.specs.Decimal.{decimal, space}
use Rattle.bench_lines.specs.Put.{Put}
use Rattle.bench_lines.proofs.Puts.{put_none, put_more}
use Rattle.bench_script.specs.Chunks.{tail_of}
use Rattle.bench_script.proofs.Chunks.{few_words, many_words, no_tail}
use Rattle.model.specs.Answers.{number_of}
use Rattle.model.specs.Bench.{little_endian}
use Rattle.model.specs.Words.{decode}
use Rattle.model.specs.declared.refusal.Refusal.TheVariants.{NotAnEvent}
use Rattle.model.proofs.Words.{reads_out}
use Rattle.text_form.specs.Ascii.{ascii}
use Rattle.text_form.specs.Names.{tail_name}
use Rattle.text_form.specs.Describe.{hex_bytes}
use Rattle.audit_account.specs.Accounts.{Standing, answer_text, state_text, event_text, end_text}
use Rattle.audit_account.specs.Whole.{played_all, tail_line}
use Rattle.audit_account.specs.declared.Account.{Account}
use Rattle.audit_lines.proofs.Lines.{event_line}
use Rattle.audit_account.specs.declared.Log.{Log}
use Rattle.audit_session.specs.Turns.{is_full, end_of, played_turn}
use Rattle.audit_session.specs.Sessions.{AllAudited, Stepped}
use Rattle.audit_session.specs.declared.turn.Session.{Session}

-- ---- the tail

-- where the words of a chunk end, as the code finds it
pub words_end : (chunk : List ℕ) → length chunk - length chunk % 4 ≡ 4 * length (little_endian chunk)
words_end chunk = omega (arith, few_words chunk, many_words chunk)

pub no_tail_line : (s : Standing) (chunk out : List ℕ) (at : ℕ) → length chunk - length chunk % 4 ≡ length chunk
    → Put out out at at (tail_line s (tail_of chunk))
unfolding tail_line
no_tail_line s chunk out at e = rw (no_tail chunk (omega arith)) (put_none out at)

-- the line of a tail, put part after part
pub tail_line_lem : (s : Standing) (tail : List ℕ) {k : ℕ} → 0 < length tail → k ≡ s.account.count + 1
    → ((decimal k ++ ascii " tail ") ++ hex_bytes tail) ++ (ascii ": " ++ answer_text (number_of NotAnEvent) ++ state_text s.ring) ≡ tail_line s tail
unfolding tail_line
tail_line_lem s [] h e = absurd (omega arith)
tail_line_lem s (b ∷ bs) {k} h e =
    let text : List ℕ = tail_name ++ space ∷ hex_bytes (b ∷ bs) in
    let parts : (decimal k ++ ascii " tail ") ++ hex_bytes (b ∷ bs) ≡ (decimal k ++ ascii " ") ++ text =
    append_assoc (decimal k) (ascii " tail ") (hex_bytes (b ∷ bs)) ∙ sym (append_assoc (decimal k) (ascii " ") text) in
    ap (λ (l : List ℕ). l ++ (ascii ": " ++ answer_text (number_of NotAnEvent) ++ state_text s.ring)) parts
    ∙ event_line k text (number_of NotAnEvent) s.ring
    ∙ ap (λ (j : ℕ). event_text j text (number_of NotAnEvent) s.ring) e

-- ---- the end

pub not_yet : {more : Bool} (a : Account) (out : List ℕ) (at : ℕ) → more ≡ true → Put out out at at (end_of more a)
unfolding end_of
not_yet a out at e = rw e (put_none out at)

pub at_end : {more : Bool} (a : Account) → more ≡ false → end_text a ≡ end_of more a
unfolding end_of
at_end a e = rw e

-- ---- the events of a chunk

module _ {s : Standing} {script ws : List ℕ} {log : Log} {out out₁ out₂ : List ℕ} {end₁ : ℕ} (chunk : List ℕ) {mid : ℕ}
    (p : AllAudited s script ws log out out₁ end₁)
    (tail : (σ : Standing) → decode ws ≡ σ.ring → log.account.count ≡ σ.account.count → Put out₁ out₂ end₁ mid (tail_line σ (tail_of chunk))) where
  tail_put : Put out₁ out₂ end₁ mid (tail_line (played_all s script) (tail_of chunk))
  tail_put = tail (played_all s script) p.holds.kept.ring (ap (λ (a : Account). a.count) p.holds.kept.account)

  pub turn_played : {out' : List ℕ} {end : ℕ} {session : Session} → Put out₂ out' mid end (end_of (is_full chunk) log.account)
      → session ≡ record { more = is_full chunk; opened = true; log = log; end = end } → Stepped (played_turn s script chunk) ws out out' session
  unfolding played_turn
  turn_played t e =
      let k = p.holds.kept in
      rw e
      record {
        more = refl;
        opened = refl;
        account = k.account;
        put = put_more (put_more p.put tail_put) (rw k.account at t);
        long = (reads_out _ k.reads).long;
        holds = λ h. p.holds;
      }
