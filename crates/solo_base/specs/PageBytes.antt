-- What stands in the bytes of a page or of a code file.
use Rattle.std.specs.Prelude.{ℕ, ◌+◌, ◌*◌, List, replicate, slice_index}
use Rattle.std.specs.Int.{w16, to_be_bytes}
use Rattle.solo_base.specs.declared.page.TheConstants.{PAGE_LENGTH}

-- the number in the bytes at a place and the next, high byte first: of the bytes 16 and 192 it is 4,288
abbrev pub number_at : List ℕ → ℕ → ℕ
number_at bytes at = slice_index bytes at * 256 + slice_index bytes (at + 1)

-- the two bytes of a number, high byte first
abbrev pub number_bytes : ℕ → List ℕ
number_bytes number = to_be_bytes w16 number

-- the bytes of a page of zeros
abbrev pub zero_page : List ℕ
zero_page = replicate PAGE_LENGTH 0
