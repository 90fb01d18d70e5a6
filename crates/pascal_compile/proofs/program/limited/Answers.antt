use Rattle.std.proofs.Common.{◌≤◌, length, arith}
use Rattle.pascal_compile.proofs.CodeParts.{emitted_size, can_compile}
use Rattle.pascal_compile.proofs.program.limited.Goals as goal

pub returns-then-place-gt-MOST_INSTRS-clause-limit : goal.returns-then-place-gt-MOST_INSTRS-clause-limit
returns-then-place-gt-MOST_INSTRS-clause-limit c = λ p emitted _.
    omega (arith, c.if-place-gt-MOST_INSTRS.true, c.place.ensures, emitted_size p c.args.drafts.now emitted.instrs_are)

pub assembled-requires : goal.assembled-requires
assembled-requires c =
    let few : length c.args.drafts.now ≤ 8192 = omega (arith, c.if-place-gt-MOST_INSTRS.false, c.place.ensures) in
    (c.requires.0, can_compile c.requires.0 c.args.drafts.now c.requires.1 c.requires.2 c.requires.3.instrs_are few, c.requires.3)

pub returns-clause-code : goal.returns-clause-code
returns-clause-code c = λ p tree unbroken emitted.
    let few : length c.args.drafts.now ≤ 8192 = omega (arith, c.if-place-gt-MOST_INSTRS.false, c.place.ensures) in
    c.in_ok-assembled.ensures p (can_compile p c.args.drafts.now tree unbroken emitted.instrs_are few) emitted

pub returns-clause-fits : goal.returns-clause-fits
returns-clause-fits c = λ p emitted.
    omega (arith, c.if-place-gt-MOST_INSTRS.false, c.place.ensures, emitted_size p c.args.drafts.now emitted.instrs_are)
