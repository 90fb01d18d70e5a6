-- Lists that were appended one after the other.
use Rattle.std.proofs.Common.{◌≡◌, List, ◌++◌, ◌∙◌, append_assoc}

pub joined2 : {A : Type 0} (a b c : List A) → (a ++ b) ++ c ≡ a ++ (b ++ c)
joined2 a b c = append_assoc a b c

pub joined3 : {A : Type 0} (a b c d : List A) → ((a ++ b) ++ c) ++ d ≡ a ++ (b ++ (c ++ d))
joined3 a b c d = append_assoc (a ++ b) c d ∙ append_assoc a b (c ++ d)
