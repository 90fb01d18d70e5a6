-- The rows that were worked by hand, by computing alone.
use Rattle.std.proofs.Common.{refl}
use Rattle.program_task.specs.Laws.{CharacterRows, ArgumentRows, FileRows, RunRows}

pub character_rows : CharacterRows
character_rows = record { read = refl; read_behind = refl; accepts = refl; write = refl; unprinted = refl; line = refl }

pub argument_rows : ArgumentRows
argument_rows = record {
  negative = refl;
  name = refl;
  truth = refl;
  none_left = refl;
  small_letters = refl;
  no_name = refl;
  no_boolean = refl;
  no_tag = refl;
  tenth = refl;
  eleventh = refl;
}

pub file_rows : FileRows
file_rows = record {
  second = refl;
  page_zero = refl;
  past_the_end = refl;
  below_zero = refl;
  replaced = refl;
  appended = refl;
  no_free_page = refl;
  no_page_for_a_part = refl;
  first_page = refl;
  a_gap = refl;
  put_at_zero = refl;
  protected = refl;
  opens = refl;
  open_twice = refl;
  third = refl;
  closes = refl;
  not_open = refl;
  kind = refl;
}

pub run_rows : RunRows
run_rows = record { there_and_back = λ c. refl; no_room = λ c. refl; no_file = refl; a_text = refl; bad_code = refl }
