use Rattle.std.proofs.Common.{ap, ◌∙◌, option_map}
use Rattle.std.proofs.lemmas.Option.{slice_get-map, slice_get-get_or}
use Rattle.stack_code.specs.declared.table.Op.TheVariants as op
use Rattle.pascal_compile.specs.Seen.{seen_draft}
use Rattle.pascal_compile.specs.declared.drafts.Draft.{Draft}
use Rattle.pascal_compile.specs.declared.drafts.Draft.TheVariants as draft
use Rattle.pascal_compile.proofs.drafts.instrs_of.Goals as goal

abbrev nothing : Draft
nothing = draft.Instr (record { op = op.Push; a = 0; b = 0 })

pub instr_of-requires : goal.instr_of-requires
instr_of-requires c =
    let drafts = c.args.drafts.now in
    let place = c.loop-draft.draft-index in
    c.requires place _ (slice_get-map seen_draft drafts place ∙ ap (option_map seen_draft) (slice_get-get_or drafts place nothing c.loop-draft-test.true))
