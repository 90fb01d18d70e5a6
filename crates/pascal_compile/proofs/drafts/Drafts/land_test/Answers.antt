use Rattle.std.proofs.Common.{ap, ◌∙◌}
use Rattle.std.specs.Prelude.{slice_set}
use Rattle.std.proofs.lemmas.List.{map-set}
use Rattle.pascal_code.specs.Statements.{jump_if_false}
use Rattle.pascal_compile.specs.Seen.{seen_draft}
use Rattle.pascal_compile.specs.declared.drafts.Draft.TheVariants as draft
use Rattle.pascal_compile.proofs.drafts.Drafts.land_test.Goals as goal

pub returns : goal.returns
returns c =
    let items = c.self.inside.items.items in
    map-set seen_draft items c.args.place (draft.JumpIfFalse c.place-target.result)
    ∙ ap (λ l. slice_set l c.args.place (jump_if_false c.place-target.result)) c.self.view_is
    ∙ ap (λ n. slice_set c.args.self.now c.args.place (jump_if_false n)) c.place-target.ensures
