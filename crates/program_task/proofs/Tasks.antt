-- One task after another.
use Rattle.std.proofs.Common.{◌≡◌, refl, ap}
use Rattle.std.proofs.Math.Path.{fun_ext}
use Rattle.program_task.specs.Task.{Task, Gives, ReadsCards, Accepts, Displays, Prints, Changes, and_then}
use Rattle.program_task.specs.Laws.{NothingFollows, OneAfterAnother}

pub nothing_follows : {A : Type 0} → NothingFollows A
nothing_follows (Gives a) = refl
nothing_follows (ReadsCards more) = ap (λ m. ReadsCards m) (fun_ext (λ file. nothing_follows (more file)))
nothing_follows (Accepts more) = ap (λ m. Accepts m) (fun_ext (λ typed. nothing_follows (more typed)))
nothing_follows (Displays line later) = ap (λ t. Displays line t) (nothing_follows later)
nothing_follows (Prints line later) = ap (λ t. Prints line t) (nothing_follows later)
nothing_follows (Changes files later) = ap (λ t. Changes files t) (nothing_follows later)

pub one_after_another : {A B C : Type 0} → OneAfterAnother A B C
one_after_another (Gives a) f g = refl
one_after_another (ReadsCards more) f g = ap (λ m. ReadsCards m) (fun_ext (λ file. one_after_another (more file) f g))
one_after_another (Accepts more) f g = ap (λ m. Accepts m) (fun_ext (λ typed. one_after_another (more typed) f g))
one_after_another (Displays line later) f g = ap (λ t. Displays line t) (one_after_another later f g)
one_after_another (Prints line later) f g = ap (λ t. Prints line t) (one_after_another later f g)
one_after_another (Changes files later) f g = ap (λ t. Changes files t) (one_after_another later f g)
