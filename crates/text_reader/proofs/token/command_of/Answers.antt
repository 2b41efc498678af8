-- `command_of` meets its contract: each name is a place of the list, by computation; in the default arm the token is none of them.
use borrow.Author.Tests.{ne_eqb}
use Rattle.text_form.specs.Assemble.{named_in, packed, grown}
use Rattle.text_form.specs.Names.{sides_name, keys_name, on_name, off_name, leave_name, notice_name, contact_name}
use Rattle.text_form.specs.Names.{timer_name, deliver_name, echo_name, lose_name, word_name, tail_name}
use borrow.Author.Rules.{rules}
use Rattle.text_reader.proofs.token.command_of.Goals as goal

pub returns-in-495689426291 : goal.returns-in-495689426291
unfolding named_in packed grown
returns-in-495689426291 c = record { value = rw c.in-495689426291.is }

pub returns-in-1801812339 : goal.returns-in-1801812339
unfolding named_in packed grown
returns-in-1801812339 c = record { value = rw c.in-1801812339.is }

pub returns-in-28526 : goal.returns-in-28526
unfolding named_in packed grown
returns-in-28526 c = record { value = rw c.in-28526.is }

pub returns-in-7300710 : goal.returns-in-7300710
unfolding named_in packed grown
returns-in-7300710 c = record { value = rw c.in-7300710.is }

pub returns-in-465557354085 : goal.returns-in-465557354085
unfolding named_in packed grown
returns-in-465557354085 c = record { value = rw c.in-465557354085.is }

pub returns-in-121424973488997 : goal.returns-in-121424973488997
unfolding named_in packed grown
returns-in-121424973488997 c = record { value = rw c.in-121424973488997.is }

pub returns-in-27988542883980148 : goal.returns-in-27988542883980148
unfolding named_in packed grown
returns-in-27988542883980148 c = record { value = rw c.in-27988542883980148.is }

pub returns-in-499984983410 : goal.returns-in-499984983410
unfolding named_in packed grown
returns-in-499984983410 c = record { value = rw c.in-499984983410.is }

pub returns-in-28259013971305842 : goal.returns-in-28259013971305842
unfolding named_in packed grown
returns-in-28259013971305842 c = record { value = rw c.in-28259013971305842.is }

pub returns-in-1701013615 : goal.returns-in-1701013615
unfolding named_in packed grown
returns-in-1701013615 c = record { value = rw c.in-1701013615.is }

pub returns-in-1819243365 : goal.returns-in-1819243365
unfolding named_in packed grown
returns-in-1819243365 c = record { value = rw c.in-1819243365.is }

pub returns-in-2003792484 : goal.returns-in-2003792484
unfolding named_in packed grown
returns-in-2003792484 c = record { value = rw c.in-2003792484.is }

pub returns-in-1952541036 : goal.returns-in-1952541036
unfolding named_in packed grown
returns-in-1952541036 c = record { value = rw c.in-1952541036.is }

pub returns-in_default : goal.returns-in_default
unfolding named_in packed grown
returns-in_default c = record {
  value =
      rw (
        ne_eqb c.args.token (packed 0 sides_name) (search rules),
        ne_eqb c.args.token (packed 0 keys_name) (search rules),
        ne_eqb c.args.token (packed 0 on_name) (search rules),
        ne_eqb c.args.token (packed 0 off_name) (search rules),
        ne_eqb c.args.token (packed 0 leave_name) (search rules),
        ne_eqb c.args.token (packed 0 notice_name) (search rules),
        ne_eqb c.args.token (packed 0 contact_name) (search rules),
        ne_eqb c.args.token (packed 0 timer_name) (search rules),
        ne_eqb c.args.token (packed 0 deliver_name) (search rules),
        ne_eqb c.args.token (packed 0 echo_name) (search rules),
        ne_eqb c.args.token (packed 0 lose_name) (search rules),
        ne_eqb c.args.token (packed 0 word_name) (search rules),
        ne_eqb c.args.token (packed 0 tail_name) (search rules),
      );
}
