use Rattle.std.proofs.Common.{◌≡◌, ℕ, List, [], ◌∷◌, ◌++◌, ap, ◌∙◌}
use Rattle.std.specs.Prelude.{slice_set}
use Rattle.stack_code.specs.declared.instr.Instr.{Instr}
use Rattle.pascal_compile.proofs.LandingInLoops.{no_branch_lands}
use Rattle.pascal_compile.proofs.statements.no_branch.Goals as goal

emitted : (before after : List Instr) (made wanted : Instr) → after ≡ before ++ made ∷ [] → made ≡ wanted → after ≡ before ++ wanted ∷ []
emitted before after made wanted e is = e ∙ ap (λ i. before ++ i ∷ []) is

-- a place that is known by another name
placed : (whole after : List Instr) (n m : ℕ) (y : Instr) → after ≡ slice_set whole n y → n ≡ m → after ≡ slice_set whole m y
placed whole after n m y e is = e ∙ ap (λ k. slice_set whole k y) is

pub returns : goal.returns
returns c =
    no_branch_lands c.args.code.now _ _ _ _ _ _
    (emitted _ _ _ _ c.in_ok-emit.ensures c.push.ensures)
    (emitted _ _ _ _ c.in_ok-emit-2.ensures c.test_index.ensures)
    c.in_ok-jump_if_false.ensures
    (placed _ _ _ _ _ c.land_test.ensures c.place-past.ensures)
