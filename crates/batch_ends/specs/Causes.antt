-- What the devices count.
use Rattle.std.specs.Prelude.{ℕ}

-- the faults of each, and the bytes that were taken of the source
pub record Counts (S K F A B : Type 0) : Type 0 where
  pub read_faults : S → ℕ
  pub taken : S → ℕ
  pub print_faults : K → ℕ
  pub file_faults : F → ℕ
  pub input_faults : A → ℕ
  pub output_faults : B → ℕ
