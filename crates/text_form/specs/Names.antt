-- The names of the text form.
use Rattle.std.specs.Prelude.{ℕ, List}
use Rattle.text_form.specs.Ascii.{ascii}

abbrev pub sides_name : List ℕ
sides_name = ascii "sides"

abbrev pub keys_name : List ℕ
keys_name = ascii "keys"

abbrev pub on_name : List ℕ
on_name = ascii "on"

abbrev pub off_name : List ℕ
off_name = ascii "off"

abbrev pub leave_name : List ℕ
leave_name = ascii "leave"

abbrev pub notice_name : List ℕ
notice_name = ascii "notice"

abbrev pub contact_name : List ℕ
contact_name = ascii "contact"

abbrev pub timer_name : List ℕ
timer_name = ascii "timer"

abbrev pub at_name : List ℕ
at_name = ascii "at"

abbrev pub deliver_name : List ℕ
deliver_name = ascii "deliver"

abbrev pub echo_name : List ℕ
echo_name = ascii "echo"

abbrev pub lose_name : List ℕ
lose_name = ascii "lose"

abbrev pub word_name : List ℕ
word_name = ascii "word"

abbrev pub tail_name : List ℕ
tail_name = ascii "tail"
