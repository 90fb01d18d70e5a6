-- The latest of the waiting activations.
use Rattle.std.proofs.Common.{◌≡◌, ◌-◌, List, [], ◌∷◌, ◌++◌, length, take, Some, sym, ◌∙◌, ap, arith}
use Rattle.std.specs.Prelude.{slice_get}
use Rattle.std.proofs.lemmas.List.{length-append, take_at, get_or_push}
use Rattle.std.proofs.lemmas.Option.{slice_get-get_or}
use Rattle.stack_code.specs.CodeLists.{CodeLists}
use Rattle.stack_machine.specs.States.{Activation, State}
use Rattle.stack_machine.specs.Effects.{return_to, leave}

count_of : (xs : List Activation) (x : Activation) → length (xs ++ x ∷ []) - 1 ≡ length xs
count_of xs x = omega (arith, length-append xs (x ∷ []))

front_of : (xs : List Activation) (x : Activation) → take (length (xs ++ x ∷ []) - 1) (xs ++ x ∷ []) ≡ xs
front_of xs x = take_at xs (x ∷ []) (length (xs ++ x ∷ []) - 1) (sym (count_of xs x))

last_of : (xs : List Activation) (x : Activation) → slice_get (xs ++ x ∷ []) (length (xs ++ x ∷ []) - 1) ≡ Some x
last_of xs x =
    slice_get-get_or (xs ++ x ∷ []) (length (xs ++ x ∷ []) - 1) x (omega (arith, length-append xs (x ∷ [])))
    ∙ ap Some (get_or_push xs x x (length (xs ++ x ∷ []) - 1) (sym (count_of xs x)))

-- what RETURN does, where the waiting activations are known
pub leave_from : (c : CodeLists) (s : State) (xs : List Activation) (x : Activation) → s.below ≡ xs ++ x ∷ [] → leave c s ≡ return_to c s xs (Some x)
leave_from c s xs x e =
    ap (λ (b : List Activation). return_to c s (take (length b - 1) b) (slice_get b (length b - 1))) e
    ∙ ap (λ (b : List Activation). return_to c s b (slice_get (xs ++ x ∷ []) (length (xs ++ x ∷ []) - 1))) (front_of xs x)
    ∙ ap (return_to c s xs) (last_of xs x)
