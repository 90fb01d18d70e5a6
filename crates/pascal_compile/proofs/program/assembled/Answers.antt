use Rattle.std.proofs.Common.{subst, sym, ◌∙◌}
use Rattle.stack_code.specs.CodeLists.{IsCode}
use Rattle.code_law.proofs.Lawful.{code_is_code}
use Rattle.pascal_compile.proofs.CodeParts.{emitted_low, emitted_fit, emitted_routines, made_of}
use Rattle.pascal_compile.proofs.program.assembled.Goals as goal

pub instrs-requires : goal.instrs-requires
instrs-requires c = emitted_low c.requires.0 c.args.drafts.now c.args.infos.now c.requires.1 c.requires.2

pub with_heights-requires : goal.with_heights-requires
with_heights-requires c =
    emitted_fit c.requires.0 c.args.drafts.now c.deref.result.now c.args.infos.now c.requires.1 c.requires.2
    (c.deref.ensures.value ∙ c.in_ok-instrs.ensures)

pub of-requires : goal.of-requires
of-requires c =
    let p = c.requires.0 in
    let routines = emitted_routines p c.args.drafts.now c.deref.result.now c.args.infos.now c.in_ok-routines.routines.items c.requires.2
    (c.deref.ensures.value ∙ c.in_ok-instrs.ensures) c.in_ok-routines.ensures in
    subst IsCode (sym (made_of p c.in_ok-routines.routines.items c.in_ok-instrs.instrs.items routines (c.in_ok-instrs.ensures ∙ c.requires.2.instrs_are)))
    (code_is_code p c.requires.1)

pub returns : goal.returns
returns c = λ p is emitted.
    let routines = emitted_routines p c.args.drafts.now c.deref.result.now c.args.infos.now c.in_ok-routines.routines.items emitted
    (c.deref.ensures.value ∙ c.in_ok-instrs.ensures) c.in_ok-routines.ensures in
    made_of p c.of.result.routines c.of.result.instrs (c.of.ensures.routines ∙ routines)
    (c.of.ensures.instrs ∙ c.in_ok-instrs.ensures ∙ emitted.instrs_are)
