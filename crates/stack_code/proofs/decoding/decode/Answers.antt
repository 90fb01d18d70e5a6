use Rattle.std.proofs.Common.{◌≡◌, sym, ◌∙◌, ap, subst, arith}
use Rattle.stack_code.specs.CodeLists.{CodeLists}
use Rattle.stack_code.specs.CodeFile.{code_bytes}
use Rattle.stack_code.proofs.Reading.{IsReadFrom, right_of, read_is, read_is_code, number_fits}
use Rattle.stack_code.proofs.Writing.{never_wrong, read_again}
use Rattle.stack_code.proofs.decoding.decode.Goals as goal

pub returns-in-Some-clause-only : goal.returns-in-Some-clause-only
returns-in-Some-clause-only c = λ code good fits e. absurd (never_wrong c.args.bytes.now c.in-Some.at code good e (sym c.wrong_byte.ensures ∙ c.in-Some.is))

pub instrs_of-requires : goal.instrs_of-requires
instrs_of-requires c = number_fits c.args.bytes.now (right_of c.args.bytes.now (sym c.wrong_byte.ensures ∙ c.in_default.is))

pub of-requires : goal.of-requires
of-requires c =
    read_is_code c.args.bytes.now (record { routines = c.in_ok-routines.routines.items; instrs = c.in_ok-instrs.instrs.items }) (λ p. omega (arith, c.type_inv.bytes p)) (right_of c.args.bytes.now (sym c.wrong_byte.ensures ∙ c.in_default.is))
    (record { routine_count = c.in_ok-routines.ensures.count; routines = c.in_ok-routines.ensures.each; instr_count = c.in_ok-instrs.ensures.count; instrs = c.in_ok-instrs.ensures.each })

pub returns-clause-read : goal.returns-clause-read
returns-clause-read c =
    let read : CodeLists = record { routines = c.in_ok-routines.routines.items; instrs = c.in_ok-instrs.instrs.items } in
    let from : IsReadFrom c.args.bytes.now read = record { routine_count = c.in_ok-routines.ensures.count; routines = c.in_ok-routines.ensures.each; instr_count = c.in_ok-instrs.ensures.count; instrs = c.in_ok-instrs.ensures.each } in
    let made : read ≡ c.of.result = grind (arith, c.of.ensures.routines, c.of.ensures.instrs) in
    read_is c.args.bytes.now read (λ p. omega (arith, c.type_inv.bytes p)) (right_of c.args.bytes.now (sym c.wrong_byte.ensures ∙ c.in_default.is)) from ∙ ap code_bytes made

pub returns-clause-only : goal.returns-clause-only
returns-clause-only c = λ code good fits e.
    let read : CodeLists = record { routines = c.in_ok-routines.routines.items; instrs = c.in_ok-instrs.instrs.items } in
    let from : IsReadFrom c.args.bytes.now read = record { routine_count = c.in_ok-routines.ensures.count; routines = c.in_ok-routines.ensures.each; instr_count = c.in_ok-instrs.ensures.count; instrs = c.in_ok-instrs.ensures.each } in
    let made : c.of.result ≡ read = grind (arith, c.of.ensures.routines, c.of.ensures.instrs) in
    made ∙ read_again code good fits read (subst (λ bytes. IsReadFrom bytes read) e from)
