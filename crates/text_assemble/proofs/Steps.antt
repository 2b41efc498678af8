-- Steps one after the other, as they are put.
use mathlib.Core.Path.{◌≡◌, refl, sym, ap, ◌∙◌, subst}
use mathlib.Core.List.{List, ◌∷◌, ◌++◌}
use Prim.Native.Nat.{ℕ, ◌+◌, ◌*◌, ◌≤◌, ◌<◌}
use native.Mathlib.Numerals.{add-one}
use native.Mathlib.Omega.{arith}
use lib.ListN.{length, get_or, take, drop, drop_of_length-le}
use lib.Seq.{drop-cons}
use Rattle.bench_lines.specs.Decimal.{newline}
use Rattle.bench_lines.proofs.Puts.{put_none, put_more, put_as}
use Rattle.text_form.specs.Assemble.{Progress, byte_read, closed, advanced, text_read, given_bytes, given_keys}
use Rattle.text_form.specs.declared.Reader.{Reader}
use Rattle.text_form.specs.declared.Step.{Step}
use Rattle.text_reader.specs.Bounds.{ReaderBounded}
use Rattle.text_assemble.specs.Chunks.{KeysBounded, StepPut, progress_of, ended, Reached}
use Rattle.text_assemble.specs.declared.chunk.ChunkRead.{ChunkRead}
use Rattle.text_reader.proofs.Bounded.{StepBounded, byte_bounded, closed_bounded}

pub nothing_read : (r : Reader) (ks out : List ℕ) → ReaderBounded r → KeysBounded ks → Reached (progress_of r ks) r ks out out 0
nothing_read r ks out b k = record { reader = refl; keys = refl; put = put_none out 0; bounded = b; bounded_keys = k }

-- one step
pub stepped : {p : Progress} {r : Reader} {ks ks' out out' out'' : List ℕ} {end most : ℕ} {s : Step} {q : ChunkRead} → Reached p r ks out out' end
    → StepBounded most r s → StepPut s r.keys ks ks' out' out'' end q → Reached (advanced p s) q.reader ks' out out'' q.end
unfolding advanced
stepped {p} {r} {ks} {ks'} {s = s} {q = q} a b c =
    record {
      reader = c.reader;
      keys = ap (λ (x : Reader). take x.keys ks') c.reader ∙ ap (λ (n : ℕ). take n ks') b.keys ∙ c.gave.keys
          ∙ ap (λ (l : List ℕ). l ++ given_keys s.given) a.keys;
      put = put_as (put_more a.put c.gave.put) (ap (λ (l : List ℕ). p.script ++ given_bytes s.reader.sides l s.given) a.keys);
      bounded = rw c.reader b.reader;
      bounded_keys = c.gave.bounded;
    }

-- the first i bytes of a chunk are read
pub record ReadTo (p : Progress) (bytes : List ℕ) (line : ℕ) (r : Reader) (ks out out' : List ℕ) (end i : ℕ) : Type 0 where
  pub within : i ≤ length bytes
  pub progress : Progress
  pub rest : text_read progress (drop i bytes) ≡ text_read p bytes
  pub reached : Reached progress r ks out out' end
  pub room : end ≤ 260 * i
  pub lines : r.line ≤ line + i

pub none_read : (r : Reader) (bytes ks out : List ℕ) → ReaderBounded r → KeysBounded ks → ReadTo (progress_of r ks) bytes r.line r ks out out 0 0
none_read r bytes ks out b k =
    record {
      within = omega arith;
      progress = progress_of r ks;
      rest = refl;
      reached = nothing_read r ks out b k;
      room = omega arith;
      lines = omega arith;
    }

pub more_read : {p : Progress} {bytes : List ℕ} {line : ℕ} {r : Reader} {ks ks' out out' out'' : List ℕ} {end i : ℕ} {q : ChunkRead}
    → ReadTo p bytes line r ks out out' end i → i < length bytes → StepPut (byte_read r (get_or bytes i 0)) r.keys ks ks' out' out'' end q
    → ReadTo p bytes line q.reader ks' out out'' q.end (i + 1)
unfolding text_read
more_read {p} {bytes} {line} {r} {ks} {ks'} {out} {out'} {out''} {end} {i} {q} t h c =
    let b : StepBounded (r.line + 1) r (byte_read r (get_or bytes i 0)) = byte_bounded r (get_or bytes i 0) t.reached.bounded in
    let next : drop i bytes ≡ get_or bytes i 0 ∷ drop (i + 1) bytes = drop-cons bytes i 0 h
    ∙ ap (λ (j : ℕ). get_or bytes i 0 ∷ drop j bytes) (sym (add-one i)) in
    let same : advanced t.progress (byte_read r (get_or bytes i 0)) ≡ advanced t.progress (byte_read t.progress.reader (get_or bytes i 0)) =
    ap (λ (x : Reader). advanced t.progress (byte_read x (get_or bytes i 0))) t.reached.reader in
    record {
      within = omega arith;
      progress = advanced t.progress (byte_read r (get_or bytes i 0));
      rest = ap (λ (x : Progress). text_read x (drop (i + 1) bytes)) same ∙ ap (text_read t.progress) (sym next) ∙ t.rest;
      reached = stepped t.reached b c;
      room = omega (arith, c.gave.room, t.room);
      lines = omega (arith, t.lines, b.line, ap (λ (x : Reader). x.line) c.reader);
    }

pub all_read : {p : Progress} {bytes : List ℕ} {line : ℕ} {r : Reader} {ks out out' : List ℕ} {end i : ℕ}
    → ReadTo p bytes line r ks out out' end i → length bytes ≤ i → Reached (text_read p bytes) r ks out out' end
unfolding text_read
all_read {p} {bytes} {r = r} {ks} {out} {out'} {end} {i} t h =
    let e : t.progress ≡ text_read p bytes = ap (text_read t.progress) (sym (drop_of_length-le bytes h)) ∙ t.rest in
    let a = t.reached in
    record {
      reader = a.reader ∙ ap (λ (x : Progress). x.reader) e;
      keys = a.keys ∙ ap (λ (x : Progress). x.keys) e;
      put = put_as a.put (ap (λ (x : Progress). x.script) e);
      bounded = a.bounded;
      bounded_keys = a.bounded_keys;
    }

-- the end of a text: two steps more
module _ {r : Reader} {ks ks' out out' : List ℕ} {line : ChunkRead} (bounded : ReaderBounded r) (keys : KeysBounded ks)
    (newline-put : StepPut (byte_read r newline) r.keys ks ks' out out' 0 line) where
  pub line_read : Reached (advanced (progress_of r ks) (byte_read r newline)) line.reader ks' out out' line.end
  line_read = stepped (nothing_read r ks out bounded keys) (byte_bounded r newline bounded) newline-put

  pub text_ended : {ks'' out'' : List ℕ} {last : ChunkRead} → StepPut (closed line.reader) line.reader.keys ks' ks'' out' out'' line.end last
      → Reached (ended (progress_of r ks)) last.reader ks'' out out'' last.end
  unfolding ended
  text_ended {ks''} {out''} {last} closed-put =
      subst (λ (x : Reader). Reached (advanced (advanced (progress_of r ks) (byte_read r newline)) (closed x)) last.reader ks'' out out'' last.end)
      line_read.reader (stepped line_read (closed_bounded line.reader line_read.bounded) closed-put)
