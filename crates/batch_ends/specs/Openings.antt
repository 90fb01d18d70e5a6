-- What the five open with.
use Rattle.std.specs.Prelude.{ℕ, List, Option}
use Rattle.std.specs.Option.{is_some}
use Rattle.core_law.specs.Opening.{Spools}

-- the spools over two areas, by how many pages each has, and whether it tells them
abbrev pub spools_over : ℕ → Option (List (List ℕ)) → ℕ → Option (List (List ℕ)) → Spools
spools_over input_size input_pages output_size output_pages = record {
  input_size = input_size;
  input_told = is_some input_pages;
  output_size = output_size;
  output_told = is_some output_pages;
}
