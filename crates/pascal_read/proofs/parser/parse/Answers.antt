use Rattle.std.proofs.Common.{rules}
use Rattle.pascal_tree.specs.Word.{AreWords}
use Rattle.pascal_tree.specs.SeenProgram.{seen_program}
use Rattle.pascal_read.proofs.ParseWhole.{no_error, is_tree}
use Rattle.pascal_read.proofs.ParsePlace.{stuck_is_error_place}
use Rattle.pascal_read.proofs.parser.parse.Goals as goal

pub returns-in_err-program-clause-place : goal.returns-in_err-program-clause-place
returns-in_err-program-clause-place c =
    λ line h.
    let words : AreWords c.args.tokens.items = rw (← c.deref.ensures.value) c.each_is_a_word.ensures in
    stuck_is_error_place c.args.tokens.items line words c.requires (c.in_err-program.ensures.fault line (search rules))

pub returns-in_err-program-clause-no_tree : goal.returns-in_err-program-clause-no_tree
returns-in_err-program-clause-no_tree c =
    λ line h s. no_error _ line s (c.in_err-program.ensures.fault line (search rules))

pub invariant_of-result : goal.invariant_of-result
invariant_of-result c =
    let words : AreWords c.args.tokens.items = rw (← c.deref.ensures.value) c.each_is_a_word.ensures in
    is_tree (seen_program c.in_ok-program.program) c.args.tokens.items c.in_ok-program.ensures.words words c.in_ok-program.ensures.routines c.in_ok-program.ensures.body
