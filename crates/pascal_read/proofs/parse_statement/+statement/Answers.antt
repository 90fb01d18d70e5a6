use Rattle.std.proofs.Common.{◌≡◌, ◌∷◌, ◌++◌, sym, subst, ap, ◌∙◌, rules}
use Rattle.pascal_tree.specs.SpellExpression.{symbol_at, reserved_at}
use Rattle.pascal_tree.specs.SpellConstant.{spelled_labels}
use Rattle.pascal_tree.specs.SpellStatement.{spelled_statement, spelled_sequence, spelled_statements, spelled_body, spelled_branch}
use Rattle.pascal_tree.specs.Limits.{EndsClosed}
use Rattle.pascal_tree.specs.SeenExpression.{seen_expr}
use Rattle.pascal_tree.specs.Statement.{while_do, repeat_until, for_do, case_of}
use Rattle.pascal_tree.specs.SeenStatement.{seen_statement, seen_statements, seen_sequence, seen_labels, seen_branch, seen_branches, seen_if, seen_while, seen_repeat, seen_for, seen_case, if_of}
use Rattle.pascal_tree.specs.declared.statement.Statement as statements
use Rattle.pascal_tree.specs.declared.token.Reserved.TheVariants as reserved
use Rattle.pascal_tree.specs.declared.token.Symbol.TheVariants as symbol
use Rattle.pascal_read.specs.ParseWants.{report}
use Rattle.pascal_read.specs.ParseWants as want
use Rattle.pascal_read.specs.ParseParts.{seen_otherwise}
use Rattle.pascal_read.proofs.ParseJoined.{then_part, between, around}
use Rattle.pascal_read.proofs.ParseMade.{made_body, made_sequence, made_branch, made_while, made_repeat, boxed_if, boxed_while, boxed_repeat, boxed_for, boxed_case}
use Rattle.pascal_read.proofs.ParseStatementParts.{if_words, if_fits, if_closes, closed_before, while_words, while_fits, repeat_words, repeat_fits, for_words, for_fits, case_words, case_fits}
use Rattle.pascal_read.proofs.ParseStatementRows.{semicolon_goes, branch_goes}
use Rattle.pascal_read.proofs.ParseStatementLists.{one_more-statements, StatementsFit-push, one_more-branches, BranchesFit-push}
use Rattle.pascal_read.proofs.parse_statement.+statement.Goals as goal

pub more_statements-loop-line-preserved : goal.more_statements-loop-line-preserved
more_statements-loop-line-preserved t c =
    let l = c.loop-line in
    let line = c.in-Some.line in
    let x = c.in_ok-statement.statement in
    let inside = c.take_symbol.new.self in
    let taken : l.reader ≡ symbol_at symbol.Semicolon line ∷ inside = search rules in (
      rw c.in_ok-push.ensures.items (one_more-statements l.rest.items (line, x) _ _ inside _ l.invariant.0 taken c.in_ok-statement.ensures.words),
      rw c.in_ok-push.ensures.items (StatementsFit-push l.rest.items (line, x) c.args.levels l.invariant.1 c.in_ok-statement.ensures.fits),
      λ y more. l.invariant.2 y more ∙ ap (λ ts. report ts (want.more_statements c.args.levels ∷ (y ∷ more))) taken ∙ semicolon_goes line inside c.args.levels (y ∷ more)
          ∙ c.in_ok-statement.ensures.goes (want.more_statements c.args.levels) (y ∷ more),
    )

pub more_branches-loop-line-preserved : goal.more_branches-loop-line-preserved
more_branches-loop-line-preserved t c =
    let l = c.loop-line in
    let line = c.in-Some.line in
    let x = c.in_ok-branch.branch in
    let inside = c.take_symbol.new.self in
    let taken : l.reader ≡ symbol_at symbol.Semicolon line ∷ inside = search rules in (
      rw c.in_ok-push.ensures.items (one_more-branches l.rest.items (line, x) _ _ inside _ l.invariant.0 taken c.in_ok-branch.ensures.words),
      rw c.in_ok-push.ensures.items (BranchesFit-push l.rest.items (line, x) c.args.levels l.invariant.1 c.in_ok-branch.ensures.fits),
      λ y more. l.invariant.2 y more ∙ ap (λ ts. report ts (want.more_branches c.args.levels ∷ (y ∷ more))) taken ∙ branch_goes line inside c.args.levels (y ∷ more)
          ∙ c.in_ok-branch.ensures.goes (want.more_branches c.args.levels) (y ∷ more),
    )

pub for_statement-returns-in_err-turn-clause-fault : goal.for_statement-returns-in_err-turn-clause-fault
for_statement-returns-in_err-turn-clause-fault t c =
    λ at e y rest. c.in_ok-range.ensures.goes (want.statement c.args.levels) (y ∷ rest) ∙ c.in_err-turn.ensures.fault at (search rules) y rest

pub compound-returns-clause-words : goal.compound-returns-clause-words
compound-returns-clause-words t c =
    between (reserved_at reserved.Begin c.args.begin) (reserved_at reserved.End
    c.in_ok-end.end) (spelled_sequence (seen_sequence c.in_ok-statements.statements)) _ _ _
    c.in_ok-statements.ensures.words c.in_ok-end.ensures.taken
    ∙ ap (λ x. spelled_body x ++ c.expect_reserved.new.reader) (sym (made_body c.args.begin c.in_ok-statements.statements c.in_ok-end.end))

pub sequence-returns-clause-words : goal.sequence-returns-clause-words
sequence-returns-clause-words t c =
    then_part (spelled_statement (seen_statement c.in_ok-first.first)) (spelled_statements (seen_statements c.in_ok-rest.rest.items)) _ _ _
    c.in_ok-first.ensures.words c.in_ok-rest.ensures.words
    ∙ ap (λ x. spelled_sequence x ++ c.more_statements.new.reader) (sym (made_sequence c.in_ok-first.first c.in_ok-rest.rest))

pub branch-returns-clause-words : goal.branch-returns-clause-words
branch-returns-clause-words t c =
    around (symbol_at symbol.Colon c.in_ok-colon.colon) (spelled_labels (seen_labels c.in_ok-labels.labels)) (spelled_statement (seen_statement c.in_ok-statement.statement)) _ _ _ _
    c.in_ok-labels.ensures.words c.in_ok-colon.ensures.taken c.in_ok-statement.ensures.words
    ∙ ap (λ x. spelled_branch x ++ c.statement.new.reader) (sym (made_branch c.in_ok-labels.labels c.in_ok-colon.colon c.in_ok-statement.statement))

pub if_statement-returns-clause-words : goal.if_statement-returns-clause-words
if_statement-returns-clause-words t c =
    let test = seen_expr c.in_ok-test.test in
    let first = seen_statement c.in_ok-first.first in
    let second = seen_otherwise c.in_ok-otherwise.otherwise in
    let whole = seen_statement (statements.If c.in_ok-boxed.field-0) in
    let made : whole ≡ if_of c.args.line test c.in_ok-test.then first second
    = boxed_if c.in_ok-boxed.field-0 ∙ ap seen_if c.in_ok-boxed.ensures.node ∙ c.conditional.ensures in
    if_words c.args.line c.in_ok-test.then test first whole second _ _ _ _ made
    c.in_ok-test.ensures.words c.in_ok-first.ensures.words c.in_ok-otherwise.ensures.words

pub if_statement-returns-clause-fits : goal.if_statement-returns-clause-fits
if_statement-returns-clause-fits t c =
    let test = seen_expr c.in_ok-test.test in
    let first = seen_statement c.in_ok-first.first in
    let second = seen_otherwise c.in_ok-otherwise.otherwise in
    let whole = seen_statement (statements.If c.in_ok-boxed.field-0) in
    let made : whole ≡ if_of c.args.line test c.in_ok-test.then first second
    = boxed_if c.in_ok-boxed.field-0 ∙ ap seen_if c.in_ok-boxed.ensures.node ∙ c.conditional.ensures in
    if_fits c.args.line c.in_ok-test.then c.args.levels test first whole second made c.in_ok-test.ensures.fits c.in_ok-first.ensures.fits
    (closed_before c.in_ok-otherwise.otherwise first _ c.in_ok-otherwise.ensures.before c.in_ok-first.ensures.closed) c.in_ok-otherwise.ensures.fits

pub if_statement-returns-clause-closed : goal.if_statement-returns-clause-closed
if_statement-returns-clause-closed t c =
    let test = seen_expr c.in_ok-test.test in
    let first = seen_statement c.in_ok-first.first in
    let second = seen_otherwise c.in_ok-otherwise.otherwise in
    let whole = seen_statement (statements.If c.in_ok-boxed.field-0) in
    let made : whole ≡ if_of c.args.line test c.in_ok-test.then first second
    = boxed_if c.in_ok-boxed.field-0 ∙ ap seen_if c.in_ok-boxed.ensures.node ∙ c.conditional.ensures in
    if_closes c.args.line c.in_ok-test.then test first whole second _ made c.in_ok-otherwise.ensures.closed

pub while_statement-returns-clause-words : goal.while_statement-returns-clause-words
while_statement-returns-clause-words t c =
    let test = seen_expr c.in_ok-test.test in
    let turn = seen_statement c.in_ok-turn.turn in
    let whole = seen_statement (statements.While c.in_ok-boxed.field-0) in
    let made : whole ≡ while_do c.args.line test c.in_ok-test.does turn
    = boxed_while c.in_ok-boxed.field-0 ∙ ap seen_while c.in_ok-boxed.ensures.node ∙ made_while _ _ _ _ in
    while_words c.args.line c.in_ok-test.does test turn whole _ _ _ made c.in_ok-test.ensures.words c.in_ok-turn.ensures.words

pub while_statement-returns-clause-fits : goal.while_statement-returns-clause-fits
while_statement-returns-clause-fits t c =
    let test = seen_expr c.in_ok-test.test in
    let turn = seen_statement c.in_ok-turn.turn in
    let whole = seen_statement (statements.While c.in_ok-boxed.field-0) in
    let made : whole ≡ while_do c.args.line test c.in_ok-test.does turn
    = boxed_while c.in_ok-boxed.field-0 ∙ ap seen_while c.in_ok-boxed.ensures.node ∙ made_while _ _ _ _ in
    while_fits c.args.line c.in_ok-test.does c.args.levels test turn whole made c.in_ok-test.ensures.fits c.in_ok-turn.ensures.fits

pub while_statement-returns-clause-closed : goal.while_statement-returns-clause-closed
while_statement-returns-clause-closed t c =
    let test = seen_expr c.in_ok-test.test in
    let turn = seen_statement c.in_ok-turn.turn in
    let whole = seen_statement (statements.While c.in_ok-boxed.field-0) in
    let made : whole ≡ while_do c.args.line test c.in_ok-test.does turn
    = boxed_while c.in_ok-boxed.field-0 ∙ ap seen_while c.in_ok-boxed.ensures.node ∙ made_while _ _ _ _ in
    λ follows. subst (λ y. EndsClosed y) (sym made) (c.in_ok-turn.ensures.closed follows)

pub repeat_statement-returns-clause-words : goal.repeat_statement-returns-clause-words
repeat_statement-returns-clause-words t c =
    let turn = seen_sequence c.in_ok-turn.turn in
    let test = seen_expr c.in_ok-test.test in
    let whole = seen_statement (statements.Repeat c.in_ok-boxed.field-0) in
    let made : whole ≡ repeat_until c.args.line turn c.in_ok-until.until test
    = boxed_repeat c.in_ok-boxed.field-0 ∙ ap seen_repeat c.in_ok-boxed.ensures.node ∙ made_repeat _ _ _ _ in
    repeat_words c.args.line c.in_ok-until.until turn test whole _ _ _ _ made c.in_ok-turn.ensures.words c.in_ok-until.ensures.taken c.in_ok-test.ensures.words

pub repeat_statement-returns-clause-fits : goal.repeat_statement-returns-clause-fits
repeat_statement-returns-clause-fits t c =
    let turn = seen_sequence c.in_ok-turn.turn in
    let test = seen_expr c.in_ok-test.test in
    let whole = seen_statement (statements.Repeat c.in_ok-boxed.field-0) in
    let made : whole ≡ repeat_until c.args.line turn c.in_ok-until.until test
    = boxed_repeat c.in_ok-boxed.field-0 ∙ ap seen_repeat c.in_ok-boxed.ensures.node ∙ made_repeat _ _ _ _ in
    repeat_fits c.args.line c.in_ok-until.until c.args.levels turn test whole made c.in_ok-turn.ensures.fits c.in_ok-test.ensures.fits

pub for_statement-returns-clause-words : goal.for_statement-returns-clause-words
for_statement-returns-clause-words t c =
    let range = c.in_ok-range.range in
    let turn = seen_statement c.in_ok-turn.turn in
    let whole = seen_statement (statements.For c.in_ok-boxed.field-0) in
    let made : whole ≡ for_do c.args.line range.control range.becomes (seen_expr range.from) range.direction range.toward (seen_expr range.to) range.does turn
    = boxed_for c.in_ok-boxed.field-0 ∙ ap seen_for c.in_ok-boxed.ensures.node ∙ c.repeated.ensures in
    for_words c.args.line range turn whole _ _ _ made c.in_ok-range.ensures.words c.in_ok-turn.ensures.words

pub for_statement-returns-clause-fits : goal.for_statement-returns-clause-fits
for_statement-returns-clause-fits t c =
    let range = c.in_ok-range.range in
    let turn = seen_statement c.in_ok-turn.turn in
    let whole = seen_statement (statements.For c.in_ok-boxed.field-0) in
    let made : whole ≡ for_do c.args.line range.control range.becomes (seen_expr range.from) range.direction range.toward (seen_expr range.to) range.does turn
    = boxed_for c.in_ok-boxed.field-0 ∙ ap seen_for c.in_ok-boxed.ensures.node ∙ c.repeated.ensures in
    for_fits c.args.line c.args.levels range turn whole made c.in_ok-range.ensures.fits.0 c.in_ok-range.ensures.fits.1 c.in_ok-turn.ensures.fits

pub for_statement-returns-clause-closed : goal.for_statement-returns-clause-closed
for_statement-returns-clause-closed t c =
    let range = c.in_ok-range.range in
    let turn = seen_statement c.in_ok-turn.turn in
    let whole = seen_statement (statements.For c.in_ok-boxed.field-0) in
    let made : whole ≡ for_do c.args.line range.control range.becomes (seen_expr range.from) range.direction range.toward (seen_expr range.to) range.does turn
    = boxed_for c.in_ok-boxed.field-0 ∙ ap seen_for c.in_ok-boxed.ensures.node ∙ c.repeated.ensures in
    λ follows. subst (λ y. EndsClosed y) (sym made) (c.in_ok-turn.ensures.closed follows)

pub case_statement-returns-clause-words : goal.case_statement-returns-clause-words
case_statement-returns-clause-words t c =
    let selector = seen_expr c.in_ok-selector.selector in
    let first = seen_branch c.in_ok-first.first in
    let rest = seen_branches c.in_ok-rest.rest.items in
    let whole = seen_statement (statements.Case c.in_ok-boxed.field-0) in
    let made : whole ≡ case_of c.args.line selector c.in_ok-selector.of first rest c.in_ok-end.end
    = boxed_case c.in_ok-boxed.field-0 ∙ ap seen_case c.in_ok-boxed.ensures.node ∙ c.choice.ensures in
    case_words c.args.line c.in_ok-selector.of c.in_ok-end.end selector first rest whole _ _ _ _ _ made
    c.in_ok-selector.ensures.words c.in_ok-first.ensures.words c.in_ok-rest.ensures.words c.in_ok-end.ensures.taken

pub case_statement-returns-clause-fits : goal.case_statement-returns-clause-fits
case_statement-returns-clause-fits t c =
    let selector = seen_expr c.in_ok-selector.selector in
    let first = seen_branch c.in_ok-first.first in
    let rest = seen_branches c.in_ok-rest.rest.items in
    let whole = seen_statement (statements.Case c.in_ok-boxed.field-0) in
    let made : whole ≡ case_of c.args.line selector c.in_ok-selector.of first rest c.in_ok-end.end
    = boxed_case c.in_ok-boxed.field-0 ∙ ap seen_case c.in_ok-boxed.ensures.node ∙ c.choice.ensures in
    case_fits c.args.line c.in_ok-selector.of c.in_ok-end.end c.args.levels selector first rest whole made
    c.in_ok-selector.ensures.fits c.in_ok-first.ensures.fits c.in_ok-rest.ensures.fits
