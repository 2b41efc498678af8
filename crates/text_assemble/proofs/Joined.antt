-- Chunk after chunk, then the end, assembles the whole text, wherever it is cut.
use mathlib.Core.Path.{◌≡◌, refl, sym, ap, ◌∙◌}
use mathlib.Core.List.{List, [], ◌∷◌, ◌++◌, append_assoc, append-nil}
use Prim.Native.Nat.{ℕ}
use Rattle.bench_lines.specs.Decimal.{newline}
use Rattle.text_form.specs.Assemble.{Progress, byte_read, closed, advanced, text_read, assemble, given_bytes, given_keys, start}
use Rattle.text_form.specs.declared.Reader.{Reader}
use Rattle.text_form.specs.declared.Step.{Step}
use Rattle.text_assemble.specs.Chunks.{progress_of, Reached, ended, cleared, onto, turns, joined, at_start, Written, last, next}

-- ---- a text in two parts

pub text_append : (p : Progress) (a b : List ℕ) → text_read p (a ++ b) ≡ text_read (text_read p a) b
unfolding text_read
text_append p [] b = refl
text_append p (x ∷ a) b = text_append (advanced p (byte_read p.reader x)) a b

pub assembled : (text : List ℕ) → ended (text_read at_start text) ≡ assemble text
unfolding assemble ended text_read
assembled text = ap (λ (q : Progress). advanced q (closed q.reader)) (sym (text_append at_start text (newline ∷ [])))

-- ---- bytes that are written already

module _ (w : List ℕ) where
  advanced_onto : (p : Progress) (s : Step) → advanced (onto w p) s ≡ onto w (advanced p s)
  unfolding advanced
  advanced_onto p s =
      ap (λ (l : List ℕ). record { reader = s.reader; keys = p.keys ++ given_keys s.given; script = l })
      (append_assoc w p.script (given_bytes s.reader.sides p.keys s.given))

  text_onto : (p : Progress) (text : List ℕ) → text_read (onto w p) text ≡ onto w (text_read p text)
  unfolding text_read
  text_onto p [] = refl
  text_onto p (b ∷ text) =
      ap (λ (q : Progress). text_read q text) (advanced_onto p (byte_read p.reader b)) ∙ text_onto (advanced p (byte_read p.reader b)) text

  ended_onto : (p : Progress) → ended (onto w p) ≡ onto w (ended p)
  unfolding ended
  ended_onto p =
      ap (λ (q : Progress). advanced q (closed q.reader)) (advanced_onto p (byte_read p.reader newline))
      ∙ advanced_onto (advanced p (byte_read p.reader newline)) (closed (advanced p (byte_read p.reader newline)).reader)

back : (p : Progress) → onto p.script (cleared p) ≡ p
back p = ap (λ (l : List ℕ). record { reader = p.reader; keys = p.keys; script = l }) (append-nil p.script)

-- ---- chunks

turns_join : (p : Progress) (cs : List (List ℕ)) → turns p cs ≡ ended (text_read (cleared p) (joined cs))
unfolding turns joined text_read
turns_join p [] = refl
turns_join p (c ∷ cs) =
    ap (onto q.script) (turns_join q cs)
    ∙ sym (ended_onto q.script (text_read (cleared q) (joined cs)))
    ∙ ap ended (sym (text_onto q.script (cleared q) (joined cs)) ∙ ap (λ (x : Progress). text_read x (joined cs)) (back q)
    ∙ sym (text_append (cleared p) c (joined cs)))
  where
    q : Progress
    q = text_read (cleared p) c

pub turns_assemble : (cs : List (List ℕ)) → turns at_start cs ≡ assemble (joined cs)
turns_assemble cs = turns_join at_start cs ∙ assembled (joined cs)

turns_cleared : (p : Progress) (cs : List (List ℕ)) → turns (cleared p) cs ≡ turns p cs
unfolding turns
turns_cleared p [] = refl
turns_cleared p (c ∷ cs) = refl

-- ---- the lent buffers

reached_progress : {p : Progress} {r : Reader} {ks out out' : List ℕ} {end : ℕ} → Reached p r ks out out' end → progress_of r ks ≡ cleared p
reached_progress {p} {r} {ks} a =
    ap (λ (l : List ℕ). record { reader = r; keys = l; script = [] }) a.keys
    ∙ ap (λ (x : Reader). record { reader = x; keys = p.keys; script = [] }) a.reader

record WrittenBy (p : Progress) (w : List ℕ) (r : Reader) : Type 0 where
  pub script : w ≡ p.script
  pub reader : r ≡ p.reader

written_turns : {r u : Reader} {ks w : List ℕ} {cs : List (List ℕ)} → Written r ks cs w u → WrittenBy (turns (progress_of r ks) cs) w u
unfolding turns
written_turns (last a) = record { script = a.put.written; reader = a.reader }
written_turns (next {r = r} {ks = ks} {c = c} {rest = rest} {cs = cs} a more) =
    let q : Progress = text_read (progress_of r ks) c in
    let t = written_turns more in
    let e = ap (λ (x : Progress). turns x cs) (reached_progress a) ∙ turns_cleared q cs in
    record {
      script = ap (λ (l : List ℕ). l ++ rest) a.put.written ∙ ap (λ (l : List ℕ). q.script ++ l) (t.script ∙ ap (λ (x : Progress). x.script) e);
      reader = t.reader ∙ ap (λ (x : Progress). x.reader) e;
    }

-- what is written of a text, and the reader at its end, are those of the definition
pub record Assembled (text w : List ℕ) (r : Reader) : Type 0 where
  pub script : w ≡ (assemble text).script
  pub reader : r ≡ (assemble text).reader

pub every_text_assembles : (ks : List ℕ) {w : List ℕ} {u : Reader} {cs : List (List ℕ)} → Written start ks cs w u → Assembled (joined cs) w u
unfolding start
every_text_assembles ks {cs = cs} a =
    let t = written_turns a in
    record {
      script = t.script ∙ ap (λ (x : Progress). x.script) (turns_assemble cs);
      reader = t.reader ∙ ap (λ (x : Progress). x.reader) (turns_assemble cs);
    }
