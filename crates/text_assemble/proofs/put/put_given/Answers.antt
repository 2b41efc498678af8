-- `put_given` meets its contract: in each arm what is given is known, and its law says what is put.
use native.Mathlib.Omega.{arith}
use Rattle.text_assemble.proofs.Gives.{key_fits_lem, tail_fits, room_for_key, gave_nothing, gave_opening, gave_word, gave_tail, gave_key}
use borrow.Author.Rules.{rules}
use Rattle.text_assemble.proofs.put.put_given.Goals as goal

pub bounds-keys-n : goal.bounds-keys-n
bounds-keys-n c =
    let r = room_for_key c.args.n c.in-Key.is c.requires.given.3 in omega (arith, c.requires.given.2.long)

pub put_tail-requires : goal.put_tail-requires
put_tail-requires c = record { room = (tail_fits c.in-Tail.is c.requires.given.0, search rules) }

pub returns-in-Nothing : goal.returns-in-Nothing
returns-in-Nothing c = record { gave = gave_nothing c.requires.given.2 c.in-Nothing.is }

pub returns-in-Opening : goal.returns-in-Opening
returns-in-Opening c = record { gave = gave_opening c.requires.given.2 c.in-Opening.is c.put_opening.ensures.bytes c.put_opening.ensures.end }

pub returns-in-Key : goal.returns-in-Key
returns-in-Key c = record {
  gave =
      let e = c.in-Key.is in
      gave_key c.requires.given.2 e (key_fits_lem e c.requires.given.0) (room_for_key c.args.n e c.requires.given.3);
}

pub returns-in-Word : goal.returns-in-Word
returns-in-Word c = record { gave = gave_word c.requires.given.2 c.in-Word.is c.put_word.ensures.bytes }

pub returns-in-Tail : goal.returns-in-Tail
returns-in-Tail c = record { gave = gave_tail c.requires.given.2 c.in-Tail.is c.put_tail.ensures.bytes c.put_tail.ensures.end }
