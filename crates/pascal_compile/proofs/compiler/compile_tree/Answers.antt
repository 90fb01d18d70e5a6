use Rattle.std.proofs.Common.{◌≡◌, ◌≤◌, sym, ap, subst, ◌∙◌}
use Rattle.stack_code.specs.Rules.{IsGood}
use Rattle.pascal_tree.specs.SeenProgram.{seen_program}
use Rattle.pascal_code.specs.Code.{code_of}
use Rattle.pascal_code.specs.Size.{size}
use Rattle.code_law.specs.Law.{Compiles}
use Rattle.code_law.proofs.Lawful.{code_is_good}
use Rattle.pascal_compile.proofs.compiler.compile_tree.Goals as goal

pub verified-requires : goal.verified-requires
verified-requires c =
    let p = seen_program c.args.tree in
    let same : c.in-Ok.checked ≡ c.args.tree = c.in-Ok.ensures.ok in
    let compiles : Compiles p = record {
      tree = c.requires;
      unbroken = c.in-Ok.ensures.unbroken;
      fits = subst (λ t. size (seen_program t) ≤ 8192) same c.in-Ok-code_of.ensures.fits;
    } in
    subst IsGood (sym (c.in-Ok-code_of.ensures.code ∙ ap (λ t. code_of (seen_program t)) same)) (code_is_good p compiles)
