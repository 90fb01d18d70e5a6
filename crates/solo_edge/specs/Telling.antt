-- What an adapter tells of the reader or the writer that it is over.
use Rattle.std.specs.Prelude.{◌≡◌, Bool, true, false, Option, None, IsSome}

-- where it is told, what is known
abbrev pub if_told : {T : Type 0} → Bool → Option T → Option T
if_told true known = known
if_told false known = None

-- what is told is known
abbrev pub IsTellable : {T : Type 0} → Bool → Option T → Type 0
IsTellable told known = told ≡ true → IsSome known
