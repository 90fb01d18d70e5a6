use Rattle.std.proofs.Common.{arith, sym, ◌∙◌}
use Rattle.solo_commands.proofs.Collecting.{full_list, last_word, no_argument, one_argument}
use Rattle.solo_commands.proofs.arguments.+add_arguments.Goals as goal

pub returns-then-len-ge-ARG_LIMIT : goal.returns-then-len-ge-ARG_LIMIT
returns-then-len-ge-ARG_LIMIT t c =
    sym (full_list c.args.args c.args.text.now (omega (arith, c.len.ensures.count, c.if-len-ge-ARG_LIMIT.true)))

pub returns-in_err-add_argument-in-Some : goal.returns-in_err-add_argument-in-Some
returns-in_err-add_argument-in-Some t c =
    let none = rw c.trim.ensures at (sym c.add_argument.ensures ∙ c.in_err-add_argument-in-Some.was) in
    c.from_residual.ensures ∙ sym (no_argument c.args.args c.args.text.now c.in-Some.first.now c.in-Some.rest.now c.in-Some.ensures.parts none)

pub returns-in_ok-add_argument-in-Some : goal.returns-in_ok-add_argument-in-Some
returns-in_ok-add_argument-in-Some t c =
    let one = rw c.trim.ensures at (sym c.add_argument.ensures ∙ c.in_ok-add_argument-in-Some.was) in
    c.add_arguments.ensures
    ∙ one_argument c.args.args _ c.args.text.now c.in-Some.first.now c.in-Some.rest.now c.in-Some.ensures.parts one

pub returns-in-None : goal.returns-in-None
returns-in-None t c =
    let said = rw c.trim-in-None.ensures at c.add_argument-in-None.ensures in
    said ∙ last_word c.args.args c.args.text.now c.in-None.ensures.none (omega (arith, c.len.ensures.count, c.if-len-ge-ARG_LIMIT.false))
