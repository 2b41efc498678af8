-- The ring's words of document 01, worked out from the paper: those of nine nodes (NineNodes), and which parts fit.
use Prim.Native.Nat.{ℕ, ◌+◌, ◌*◌, ◌^◌}
use mathlib.Core.Path.{◌≡◌, refl}
use mathlib.Core.Bool.{Bool, true, false}
use mathlib.Core.List.{List, [], ◌∷◌, map}
use Rattle.std.specs.Prelude.{if◌then◌else◌}
use Rattle.model.specs.Sets.{none_node, empty, put, of_bits, to_bits, members, tabulate}
use Rattle.model.specs.Ring.{Own, Message}
use Rattle.model.specs.Steps.{plain, naming, stamped, viewing}
use Rattle.model.specs.Words.{message_words, word_at, ring_fits, pair_fits, node_fits, message_fits}
use Rattle.model.specs.Words.{decode_table, decode_own, decode_node, decode_message_at}
use Rattle.model.proofs.Base.{computed}
use Rattle.model.proofs.NineNodes.{table, own0, own8, nodes, nine, shown_own, shown_message, own_before, own8_before, of_six}

-- the words of the ring from a place on
pub words_from : ℕ → ℕ → List ℕ
words_from i many = tabulate many (λ j. word_at nine (i + j))

-- type 4 from 1 to 2, whose view names the first and the last node of each word
pub far_view : Message
far_view = viewing 4 1 2 (of_bits (2 ^ 0 + 2 ^ 23 + 2 ^ 24 + 2 ^ 47 + 2 ^ 48 + 2 ^ 63))

-- messages that fit in a table of nine nodes, or not
pub fit : List Message → List Bool
fit = map (message_fits table)

-- whether the pair (0, 4) fits at a node whose clock is 8, with this commit and spare, held or not
pub pair_fits_lem : Bool → ℕ → ℕ → Bool
pair_fits_lem held commit spare = pair_fits table (record { running = true; clock = 8; own = own }) 0 4
  where
    own : Own
    own = record { held = λ z. held; candidates = empty; commit = λ z. commit; spare = λ z. spare }

-- whether node 0 fits, running or not, with the held and the candidates that are given by their bits, and this spare of node 4
pub node_fits_lem : Bool → ℕ → ℕ → ℕ → Bool
node_fits_lem running S C spare = node_fits table (record { running = running; clock = 8; own = own }) 0
  where
    own : Own
    own =
        record {
          held = of_bits S;
          candidates = of_bits C;
          commit = λ z. if of_bits S z then 8 else 0;
          spare = put (λ z. none_node) 4 spare;
        }

pub record Words : Type 0 where
  -- "Word 0, kind 1: [A = 2] in bits 0-3, table size n [9] .. in 4-10, message count m [6] .. in 11-21"; B = 1 in bits 22-25
  pub head : words_from 0 1 ≡ 0x10403092 ∷ []
  -- "kind 2, key in 0-23, running in bit 24; kind 5, clock in 0-23": nodes 0, 1 and 2, which is off, then 3 and 4
  pub nodes_0_to_4 : words_from 1 10
      ≡ 0x21000064 ∷ 0x50000008 ∷ 0x2100006E ∷ 0x50FFFFFE ∷ 0x20000082 ∷ 0x50000007 ∷ 0x2000005A ∷ 0x50FFFFFF ∷ 0x2100003C ∷ 0x50FFFFFF ∷ []
  -- the last node, and what belongs to none
  pub node_8 : words_from 17 4 ≡ 0x21000190 ∷ 0x50000002 ∷ 0 ∷ 0 ∷ []
  -- "two for each pair (x, z) of different stands at 129 + 2 times (64 times x + z): kind 3, commit stamp in 0-23, held in 24, candidate in 25;
  -- kind 4, spare in 0-6, a stand or 64 for none": (0, 0) is no pair; (0, 1) to (0, 8); there is no node 9
  pub row_0 : words_from 129 20
      ≡ 0 ∷ 0
      ∷ 0x31000005 ∷ 0x40000006
      ∷ 0x31000006 ∷ 0x40000040
      ∷ 0x33000007 ∷ 0x40000040
      ∷ 0x31000003 ∷ 0x40000003
      ∷ 0x31000004 ∷ 0x40000002
      ∷ 0x32000000 ∷ 0x40000040
      ∷ 0x31000002 ∷ 0x40000040
      ∷ 0x32000000 ∷ 0x40000040
      ∷ 0 ∷ 0
      ∷ []
  -- (4, 0) against (0, 4), and (8, 0) to (8, 5) against (0, 8)
  pub row_4 : words_from 641 2 ≡ 0x30000000 ∷ 0x40000040 ∷ []
  pub row_8 : words_from 1153 12
      ≡ 0x31000001 ∷ 0x40000040 ∷ 0x30000000 ∷ 0x40000040 ∷ 0x30000000 ∷ 0x40000040
      ∷ 0x30000000 ∷ 0x40000040 ∷ 0x31000002 ∷ 0x40000040 ∷ 0x31000001 ∷ 0x40000040
      ∷ []
  pub row_9 : words_from 1281 2 ≡ 0 ∷ 0 ∷ []
  -- "five a message, oldest first: kind 6, type in 0-3, sender in 4-9, receiver in 10-15, subject in 16-22 (64 is none); kind 7, a stamp in 0-23;
  -- three of kind 8, the view"
  pub messages : words_from 8321 30
      ≡ 0x60400053 ∷ 0x70000000 ∷ 0x80000000 ∷ 0x80000000 ∷ 0x80000000
      ∷ 0x60400C01 ∷ 0x70000000 ∷ 0x80000000 ∷ 0x80000000 ∷ 0x80000000
      ∷ 0x60050089 ∷ 0x70000002 ∷ 0x80000000 ∷ 0x80000000 ∷ 0x80000000
      ∷ 0x60402014 ∷ 0x70000000 ∷ 0x80000029 ∷ 0x80000000 ∷ 0x80000000
      ∷ 0x60400048 ∷ 0x70000000 ∷ 0x80000000 ∷ 0x80000000 ∷ 0x80000000
      ∷ 0x60401001 ∷ 0x70000000 ∷ 0x80000000 ∷ 0x80000000 ∷ 0x80000000
      ∷ []
  pub no_message_lem : words_from 8351 1 ≡ 0 ∷ []
  -- "stands 0-23, 24-47, 48-63, lowest bit first", and read back
  pub view : message_words far_view ≡ 0x60400814 ∷ 0x70000000 ∷ 0x80800001 ∷ 0x80800001 ∷ 0x80008001 ∷ []
  pub view_read : to_bits 64 (decode_message_at (0 ∷ 0x60400814 ∷ 0x70000000 ∷ 0x80800001 ∷ 0x80800001 ∷ 0x80008001 ∷ []) 1).view
      ≡ 2 ^ 0 + 2 ^ 23 + 2 ^ 24 + 2 ^ 47 + 2 ^ 48 + 2 ^ 63
  -- and the others: the table, marks and clocks, the last of no node; the own records of 0 and 8; the messages
  pub table_read : decode_table (words_from 0 19) ≡ table
  pub marks_read : members 64 (λ s. (decode_node (words_from 0 19) s).running) ≡ 0 ∷ 1 ∷ 4 ∷ 8 ∷ []
  pub clocks_read : tabulate 10 (λ s. (decode_node (words_from 0 21) s).clock)
      ≡ 8 ∷ 16777214 ∷ 7 ∷ 16777215 ∷ 16777215 ∷ 0 ∷ 0 ∷ 0 ∷ 2 ∷ 0 ∷ []
  pub own_0_read : shown_own (decode_own (words_from 0 149) 0) ≡ own_before
  pub own_8_read : shown_own (decode_own (words_from 0 1173) 8) ≡ own8_before
  pub messages_read_lem : tabulate 6 (λ k. shown_message (decode_message_at (words_from 8321 30) (5 * k))) ≡ of_six (0 ∷ 1 ∷ 2 ∷ 3 ∷ 4 ∷ 5 ∷ [])
  -- the ring fits
  pub nine_fits : ring_fits nine ≡ true
  -- "types are 1 to 12", and 13
  pub types_fit : fit (plain 0 0 1 ∷ plain 1 0 1 ∷ plain 12 0 1 ∷ plain 13 0 1 ∷ plain 14 0 1 ∷ []) ≡ false ∷ true ∷ true ∷ true ∷ false ∷ []
  -- "stand numbers are below n", "sender differs from receiver"
  pub ends_fit : fit (plain 1 8 0 ∷ plain 1 9 0 ∷ plain 1 0 8 ∷ plain 1 0 9 ∷ plain 1 3 3 ∷ []) ≡ true ∷ false ∷ true ∷ false ∷ false ∷ []
  -- "fields not used by the type empty (64, 0, no view)": a subject, a stamp, a view
  pub unused_fit :
      fit (naming 1 0 1 2 ∷ stamped 1 0 1 64 5 ∷ viewing 1 0 1 (of_bits 1) ∷ naming 13 0 1 2 ∷ stamped 8 0 1 2 5 ∷ stamped 11 0 1 2 5 ∷ [])
      ≡ false ∷ false ∷ false ∷ false ∷ false ∷ false ∷ []
  pub used_fit :
      fit (stamped 9 0 1 2 5 ∷ stamped 10 0 1 2 5 ∷ naming 11 0 1 0 ∷ stamped 9 0 1 9 5 ∷ naming 11 0 1 9 ∷ [])
      ≡ true ∷ true ∷ true ∷ false ∷ false ∷ []
  -- "Of the four that use the subject, only type 8 may have 64 there; its subject is neither its sender nor its receiver."
  pub subjects_fit :
      fit (naming 8 0 1 64 ∷ naming 8 0 1 2 ∷ naming 8 0 1 0 ∷ naming 8 0 1 1 ∷ stamped 9 0 1 64 5 ∷ stamped 10 0 1 64 5 ∷ naming 11 0 1 64 ∷ [])
      ≡ true ∷ true ∷ false ∷ false ∷ false ∷ false ∷ false ∷ []
  -- "A view holds only stands below n, and not its receiver."
  pub views_fit :
      fit (viewing 4 0 1 (of_bits 0b100000001) ∷ viewing 4 0 1 (of_bits 0b10) ∷ viewing 4 0 1 (of_bits (2 ^ 9)) ∷ viewing 4 0 1 (of_bits (2 ^ 63)) ∷ [])
      ≡ true ∷ false ∷ false ∷ false ∷ []
  -- "a commit stamp is 0 exactly where the pair isn't held and never above x's clock"
  pub commits_fit :
      pair_fits_lem true 1 64 ∷ pair_fits_lem true 8 64 ∷ pair_fits_lem true 9 64 ∷ pair_fits_lem true 0 64 ∷ pair_fits_lem false 0 64 ∷ pair_fits_lem false 1 64 ∷ []
      ≡ true ∷ true ∷ false ∷ false ∷ true ∷ false ∷ []
  -- "The spare of (x, z) is neither x nor z."; "the spare is 64 where not held"; a node below n
  pub spares_fit :
      pair_fits_lem true 1 8 ∷ pair_fits_lem true 1 9 ∷ pair_fits_lem true 1 63 ∷ pair_fits_lem true 1 0 ∷ pair_fits_lem true 1 4 ∷ pair_fits_lem false 0 8 ∷ []
      ≡ true ∷ false ∷ false ∷ false ∷ false ∷ false ∷ []
  -- every pair of a node fits; "a stand that is off holds nothing and has no candidates"
  pub nodes_fit : node_fits_lem true 0b10000 0b100000 64 ∷ node_fits_lem true 0b10000 0 8 ∷ node_fits_lem true 0b10000 0 0 ∷ [] ≡ true ∷ true ∷ false ∷ []
  pub off_fits : node_fits_lem false 0b10000 0 64 ∷ node_fits_lem false 0 0b100000 64 ∷ node_fits_lem false 0 0 64 ∷ [] ≡ false ∷ false ∷ true ∷ []

pub words : Words
unfolding computed table own0 own8 nodes nine words_from far_view fit pair_fits_lem node_fits_lem shown_own shown_message own_before own8_before of_six
words =
    record {
      head = refl;
      nodes_0_to_4 = refl;
      node_8 = refl;
      row_0 = refl;
      row_4 = refl;
      row_8 = refl;
      row_9 = refl;
      messages = refl;
      no_message_lem = refl;
      view = refl;
      view_read = refl;
      table_read = refl;
      marks_read = refl;
      clocks_read = refl;
      own_0_read = refl;
      own_8_read = refl;
      messages_read_lem = refl;
      nine_fits = refl;
      types_fit = refl;
      ends_fit = refl;
      unused_fit = refl;
      used_fit = refl;
      subjects_fit = refl;
      views_fit = refl;
      commits_fit = refl;
      spares_fit = refl;
      nodes_fit = refl;
      off_fits = refl;
    }
