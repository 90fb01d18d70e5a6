use Rattle.std.proofs.Common.{Err, ap, ◌∙◌}
use Rattle.pascal_tree.specs.SeenProgram.{seen_program}
use Rattle.pascal_compile.proofs.Compiled.{bad_word_told, tree_found, error_told}
use Rattle.pascal_compile.proofs.compiler.tree_of.Goals as goal

pub returns-in-Err-BadWord-clause-fault : goal.returns-in-Err-BadWord-clause-fault
returns-in-Err-BadWord-clause-fault c =
    rw c.in-Err-BadWord.field-0-is
    (bad_word_told c.args.cards.now c.in-Err-BadWord.field-0 c.in-Err-BadWord.line c.in-Err-BadWord.field-0-is c.in-Err-BadWord.ensures.bad_word)

pub returns-in-Ok-parse-clause-tree : goal.returns-in-Ok-parse-clause-tree
returns-in-Ok-parse-clause-tree c =
    tree_found c.args.cards.now c.in-Ok.tokens.items (seen_program c.in-Ok-parse.tree) c.each_is_a_line.ensures c.in-Ok.ensures.words
    c.in-Ok-parse.ensures.tree c.in-Ok-parse.ensures.limits

pub returns-in-Err-Syntax-clause-fault : goal.returns-in-Err-Syntax-clause-fault
returns-in-Err-Syntax-clause-fault c =
    error_told c.args.cards.now c.in-Ok.tokens.items c.in-Err-Syntax.line c.each_is_a_line.ensures c.in-Ok.ensures.words
    (c.parse.ensures.place c.in-Err-Syntax.line (c.in-Err-Syntax.is ∙ ap Err c.in-Err-Syntax.field-0-is))
