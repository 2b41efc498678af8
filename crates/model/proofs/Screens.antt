-- The screens: what a ring's words show, that rings alike in what the conductor may see show alike, and that unlike ones do not.
use mathlib.Core.Path.{◌≡◌, sym, ap, ◌∙◌}
use Prim.Native.Nat.{ℕ, ◌*◌, ◌<◌}
use mathlib.Core.Bool.{true, false}
use mathlib.Core.List.{List}
use native.Mathlib.Omega.{arith}
use native.Mathlib.Decide.{dec_lt}
use lib.ListN.{length, get_or, drop}
use lib.Seq.{ext_get_or, length-take-le}
use lib.ListN.{length-drop}
use borrow.Author.Tests.{eq-eqb}
use Rattle.model.specs.Sets.{of_bits}
use Rattle.model.specs.Leafset.{size, key}
use Rattle.model.specs.Ring.{Ring, is_running}
use Rattle.model.specs.WellFormed.{WellFormed}
use Rattle.model.specs.Words.{ring_length, decode, reads_as_ring}
use Rattle.model.specs.Answers.{first_of, is_accepted}
use Rattle.model.specs.Buffer.{ring_answer}
use Rattle.model.specs.Screens.{seen, conductor_screen, conductor_of, messages_in, messages_of, Alike}
use Rattle.model.specs.declared.screen.ConductorScreen.{ConductorScreen}
use Rattle.model.proofs.Laws.{is_false, get_d_tabulate}
use Rattle.model.proofs.Words.{reads_out}
use Rattle.model.proofs.Bits.{bits_below}
use Rattle.model.proofs.Decoded.{reads_well}

-- words that read as a ring are not refused
pub ring_accepted : (ws : List ℕ) → reads_as_ring ws ≡ true → is_accepted (ring_answer ws) ≡ true
unfolding ring_answer first_of
ring_accepted ws e = rw (eq-eqb (length ws) ring_length (reads_out ws e).long, e)

pub conductor_shown : (ws : List ℕ) → reads_as_ring ws ≡ true → conductor_of ws ≡ conductor_screen (seen (decode ws))
unfolding conductor_of
conductor_shown ws e = rw (ring_accepted ws e)

pub messages_shown : (ws : List ℕ) → reads_as_ring ws ≡ true → messages_of ws ≡ messages_in ws (decode ws)
unfolding messages_of
messages_shown ws e = rw (ring_accepted ws e)

-- "exactly 5 times m of them": a ring's words are enough
pub messages_many : (ws : List ℕ) → reads_as_ring ws ≡ true → length (messages_of ws) ≡ 5 * length (decode ws).messages
unfolding messages_in
messages_many ws e =
    let m = (reads_well ws e).count_high in
    ap length (messages_shown ws e)
    ∙ length-take-le _ (drop 8321 ws) (rw (length-drop 8321 ws, (reads_out ws e).long) (omega arith))

-- ---- the conductor's screen and what it may depend on

same_seen : {r s : Ring} → Alike r s → seen r ≡ seen s
same_seen a =
    λ i. record { table = a.same_table i; running = λ x. a.same_running x i; held = λ x z. a.same_held x z i }

pub alike_shows_alike : (ws vs : List ℕ) → reads_as_ring ws ≡ true → reads_as_ring vs ≡ true → Alike (decode ws) (decode vs) → conductor_of ws ≡ conductor_of vs
alike_shows_alike ws vs e f a = conductor_shown ws e ∙ ap conductor_screen (same_seen a) ∙ sym (conductor_shown vs f)

-- a table of at most 64 is seen by its number of keys and its first 64
module _ (r s : Ring) (g : WellFormed r) (h : WellFormed s) (same : conductor_screen (seen r) ≡ conductor_screen (seen s)) where
  same_size : size r.table ≡ size s.table
  unfolding conductor_screen
  same_size = ap (λ (c : ConductorScreen). c.nodes) same

  same_key : (x : ℕ) → x < 64 → key r.table x ≡ key s.table x
  unfolding conductor_screen
  same_key x low =
      sym (get_d_tabulate (key r.table) 0 64 x low)
      ∙ ap (λ (c : ConductorScreen). get_or c.keys x 0) same
      ∙ get_d_tabulate (key s.table) 0 64 x low

  same_keys : r.table.keys ≡ s.table.keys
  same_keys =
      ext_get_or 0 r.table.keys s.table.keys same_size (λ x low. same_key x (omega (arith, g.table_well.size_high)))

  same_table : r.table ≡ s.table
  unfolding conductor_screen
  same_table = λ i. record { sides = (same i).sides; keys = same_keys i }

  same_running : (x : ℕ) → is_running r x ≡ is_running s x
  unfolding conductor_screen
  same_running x =
      elim (dec_lt x 64) [
        | yes low ↦ sym (bits_below 64 (is_running r) x low) ∙ ap (λ (c : ConductorScreen). of_bits c.running x) same ∙ bits_below 64 (is_running s) x low
        | no far ↦ beyond r g far ∙ sym (beyond s h far)
      ]
    where
      beyond : (q : Ring) → WellFormed q → (x < 64 → ⊥) → is_running q x ≡ false
      beyond q w far = is_false (is_running q x) (λ t. far (omega (arith, (w.node_well x).running_low t, w.table_well.size_high)))

pub screen_tells : (ws vs : List ℕ) → reads_as_ring ws ≡ true → reads_as_ring vs ≡ true → conductor_of ws ≡ conductor_of vs
    → ((decode ws).table ≡ (decode vs).table) × ((x : ℕ) → is_running (decode ws) x ≡ is_running (decode vs) x)
screen_tells ws vs e f p =
    let same = sym (conductor_shown ws e) ∙ p ∙ conductor_shown vs f in (
      same_table (decode ws) (decode vs) (reads_well ws e) (reads_well vs f) same,
      same_running (decode ws) (decode vs) (reads_well ws e) (reads_well vs f) same,
    )
