-- What is some isn't none.
use Rattle.std.proofs.Common.{◌≡◌, None, Some}

pub no-some : {A : Type 0} {x : A} → Some x ≡ None → ⊥
no-some e = cc

pub no-none : {A : Type 0} {x : A} → None ≡ Some x → ⊥
no-none e = cc
