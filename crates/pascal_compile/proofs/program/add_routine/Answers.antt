use Rattle.std.proofs.Common.{◌≡◌, ◌+◌, ◌<◌, ◌≤◌, Some, length, refl, sym, ap, subst, ◌∙◌, arith}
use Rattle.std.specs.Prelude.{slice_get, option_map}
use Rattle.std.proofs.lemmas.List.{length-map}
use Rattle.std.proofs.lemmas.Option.{slice_get-map, slice_get-get_or, same_Some}
use Rattle.std.proofs.lemmas.Result.{on_ok_weaker}
use Rattle.pascal_tree.specs.SeenProgram.{seen_parameters, seen_block, seen_routine, seen_program}
use Rattle.pascal_mean.specs.Declarations.{declared_variables}
use Rattle.pascal_code.specs.Frames.{plain_frame}
use Rattle.pascal_code.specs.Senses.{all_framed}
use Rattle.pascal_code.specs.Code.{nested_in_body, calling_infos}
use Rattle.pascal_compile.specs.Seen.{seen_owner, seen_scope}
use Rattle.pascal_compile.specs.Holds.{LaidOut, known_at}
use Rattle.pascal_compile.proofs.Limits.{few_words, few_passed, few_nested}
use Rattle.pascal_compile.proofs.ProgramFrames.{empty_held, names_same, names_small}
use Rattle.pascal_compile.proofs.RoutineFrames.{framed_there, the_frame, routine_emitted, routine_told}
use Rattle.pascal_compile.proofs.RoutineReady.{the_routine, known_few, ready}
use Rattle.pascal_compile.proofs.program.add_routine.Goals as goal

pub add_framed-requires-clause-small : goal.add_framed-requires-clause-small
add_framed-requires-clause-small c =
    let p = seen_program c.args.program.now in
    let j = c.args.place in
    let items = ((c.args.program.now).routines).items in
    let rt = c.index-routine.result.now in
    let r = seen_routine rt in
    let low : j < length items = omega (arith, c.requires.routine, length-map items seen_routine) in
    let found : slice_get items j ≡ Some rt = slice_get-get_or items j rt low ∙ ap Some (sym c.index-routine.ensures) in
    let there : slice_get p.routines j ≡ Some r = slice_get-map seen_routine items j ∙ ap (option_map seen_routine) found in
    let n = c.args.known.now in
    let e = c.declare_constants.new.frame in
    let f = c.declare_variables.new.frame in
    let blk = seen_block c.block_of-block.result.now in
    let facts = ready p c.requires.tree c.requires.unbroken j r there c.new-frame.result c.declare_parameters.new.frame c.add_result.new.self e f n
    (option_map seen_parameters c.parameters_of.result.now) blk c.is_function-function.result c.parameters_of.ensures
    (empty_held c.new-frame.result c.new-frame.ensures.names c.new-frame.ensures.words)
    (c.in_ok-declare_parameters.ensures.parameters (known_at p j) (ap seen_owner c.new-frame.ensures.owner))
    c.requires.known c.block_of-block.ensures (c.is_function-function.ensures (known_at p j)) c.add_result.ensures.names c.add_result.ensures.words
    c.in_ok-declare_constants.ensures.constants
    (subst (λ o. LaidOut n e f (λ scope. declared_variables (seen_owner o) scope blk.vars))
    (c.in_ok-declare_constants.ensures.owner ∙ c.add_result.ensures.owner ∙ c.in_ok-declare_parameters.ensures.owner ∙ c.new-frame.ensures.owner)
    c.in_ok-declare_variables.ensures.variables) in
    let is = framed_there p j r there in
    let few = few_words p c.requires.tree c.requires.unbroken (j + 1) (the_routine p j r) is in
    names_small f.names n (the_frame p j r) (plain_frame (known_at p (j + 1))) (facts.0).names c.requires.known few
    (known_few p c.requires.tree c.requires.unbroken (j + 1))

pub add_framed-requires-clause-params : goal.add_framed-requires-clause-params
add_framed-requires-clause-params c =
    let p = seen_program c.args.program.now in
    let j = c.args.place in
    let items = ((c.args.program.now).routines).items in
    let rt = c.index-routine.result.now in
    let r = seen_routine rt in
    let low : j < length items = omega (arith, c.requires.routine, length-map items seen_routine) in
    let found : slice_get items j ≡ Some rt = slice_get-get_or items j rt low ∙ ap Some (sym c.index-routine.ensures) in
    let there : slice_get p.routines j ≡ Some r = slice_get-map seen_routine items j ∙ ap (option_map seen_routine) found in
    let n = c.args.known.now in
    let e = c.declare_constants.new.frame in
    let f = c.declare_variables.new.frame in
    let blk = seen_block c.block_of-block.result.now in
    let facts = ready p c.requires.tree c.requires.unbroken j r there c.new-frame.result c.declare_parameters.new.frame c.add_result.new.self e f n
    (option_map seen_parameters c.parameters_of.result.now) blk c.is_function-function.result c.parameters_of.ensures
    (empty_held c.new-frame.result c.new-frame.ensures.names c.new-frame.ensures.words)
    (c.in_ok-declare_parameters.ensures.parameters (known_at p j) (ap seen_owner c.new-frame.ensures.owner))
    c.requires.known c.block_of-block.ensures (c.is_function-function.ensures (known_at p j)) c.add_result.ensures.names c.add_result.ensures.words
    c.in_ok-declare_constants.ensures.constants
    (subst (λ o. LaidOut n e f (λ scope. declared_variables (seen_owner o) scope blk.vars))
    (c.in_ok-declare_constants.ensures.owner ∙ c.add_result.ensures.owner ∙ c.in_ok-declare_parameters.ensures.owner ∙ c.new-frame.ensures.owner)
    c.in_ok-declare_variables.ensures.variables) in
    let is = framed_there p j r there in
    let few = few_words p c.requires.tree c.requires.unbroken (j + 1) (the_routine p j r) is in
    subst (λ k. k ≤ 16) (sym facts.1) (few_passed p c.requires.tree c.requires.unbroken (j + 1) (the_routine p j r) is)

pub add_framed-requires-clause-words : goal.add_framed-requires-clause-words
add_framed-requires-clause-words c =
    let p = seen_program c.args.program.now in
    let j = c.args.place in
    let items = ((c.args.program.now).routines).items in
    let rt = c.index-routine.result.now in
    let r = seen_routine rt in
    let low : j < length items = omega (arith, c.requires.routine, length-map items seen_routine) in
    let found : slice_get items j ≡ Some rt = slice_get-get_or items j rt low ∙ ap Some (sym c.index-routine.ensures) in
    let there : slice_get p.routines j ≡ Some r = slice_get-map seen_routine items j ∙ ap (option_map seen_routine) found in
    let n = c.args.known.now in
    let e = c.declare_constants.new.frame in
    let f = c.declare_variables.new.frame in
    let blk = seen_block c.block_of-block.result.now in
    let facts = ready p c.requires.tree c.requires.unbroken j r there c.new-frame.result c.declare_parameters.new.frame c.add_result.new.self e f n
    (option_map seen_parameters c.parameters_of.result.now) blk c.is_function-function.result c.parameters_of.ensures
    (empty_held c.new-frame.result c.new-frame.ensures.names c.new-frame.ensures.words)
    (c.in_ok-declare_parameters.ensures.parameters (known_at p j) (ap seen_owner c.new-frame.ensures.owner))
    c.requires.known c.block_of-block.ensures (c.is_function-function.ensures (known_at p j)) c.add_result.ensures.names c.add_result.ensures.words
    c.in_ok-declare_constants.ensures.constants
    (subst (λ o. LaidOut n e f (λ scope. declared_variables (seen_owner o) scope blk.vars))
    (c.in_ok-declare_constants.ensures.owner ∙ c.add_result.ensures.owner ∙ c.in_ok-declare_parameters.ensures.owner ∙ c.new-frame.ensures.owner)
    c.in_ok-declare_variables.ensures.variables) in
    let is = framed_there p j r there in
    let few = few_words p c.requires.tree c.requires.unbroken (j + 1) (the_routine p j r) is in
    subst (λ k. k ≤ 4096) (sym (facts.0).words) few

pub add_framed-requires-clause-nested : goal.add_framed-requires-clause-nested
add_framed-requires-clause-nested c =
    let p = seen_program c.args.program.now in
    let j = c.args.place in
    let items = ((c.args.program.now).routines).items in
    let rt = c.index-routine.result.now in
    let r = seen_routine rt in
    let low : j < length items = omega (arith, c.requires.routine, length-map items seen_routine) in
    let found : slice_get items j ≡ Some rt = slice_get-get_or items j rt low ∙ ap Some (sym c.index-routine.ensures) in
    let there : slice_get p.routines j ≡ Some r = slice_get-map seen_routine items j ∙ ap (option_map seen_routine) found in
    subst (λ b. nested_in_body b ≤ 128) (ap (λ k. k.body) (sym c.block_of-block.ensures))
    (few_nested p c.requires.tree (j + 1) (the_routine p j r) (framed_there p j r there))

pub returns-clause-code : goal.returns-clause-code
returns-clause-code c =
    let p = seen_program c.args.program.now in
    let j = c.args.place in
    let items = ((c.args.program.now).routines).items in
    let rt = c.index-routine.result.now in
    let r = seen_routine rt in
    let low : j < length items = omega (arith, c.requires.routine, length-map items seen_routine) in
    let found : slice_get items j ≡ Some rt = slice_get-get_or items j rt low ∙ ap Some (sym c.index-routine.ensures) in
    let there : slice_get p.routines j ≡ Some r = slice_get-map seen_routine items j ∙ ap (option_map seen_routine) found in
    let n = c.args.known.now in
    let e = c.declare_constants.new.frame in
    let f = c.declare_variables.new.frame in
    let blk = seen_block c.block_of-block.result.now in
    let facts = ready p c.requires.tree c.requires.unbroken j r there c.new-frame.result c.declare_parameters.new.frame c.add_result.new.self e f n
    (option_map seen_parameters c.parameters_of.result.now) blk c.is_function-function.result c.parameters_of.ensures
    (empty_held c.new-frame.result c.new-frame.ensures.names c.new-frame.ensures.words)
    (c.in_ok-declare_parameters.ensures.parameters (known_at p j) (ap seen_owner c.new-frame.ensures.owner))
    c.requires.known c.block_of-block.ensures (c.is_function-function.ensures (known_at p j)) c.add_result.ensures.names c.add_result.ensures.words
    c.in_ok-declare_constants.ensures.constants
    (subst (λ o. LaidOut n e f (λ scope. declared_variables (seen_owner o) scope blk.vars))
    (c.in_ok-declare_constants.ensures.owner ∙ c.add_result.ensures.owner ∙ c.in_ok-declare_parameters.ensures.owner ∙ c.new-frame.ensures.owner)
    c.in_ok-declare_variables.ensures.variables) in
    let is = framed_there p j r there in
    let few = few_words p c.requires.tree c.requires.unbroken (j + 1) (the_routine p j r) is in
    λ r0 at. on_ok_weaker c.add_framed.result
    (λ emitted. routine_emitted r0 (the_routine p j r) c.args.drafts.now c.add_framed.new.drafts (seen_scope f.names n) f.words
    (c.declare_parameters.new.frame).words blk.body (same_Some (the_routine p j r) r0 (sym is ∙ at))
    (names_same f.names n (the_frame p j r) (plain_frame (known_at p (j + 1))) (facts.0).names c.requires.known) (facts.0).words facts.1
    (ap (λ k. k.body) c.block_of-block.ensures) refl emitted)
    c.add_framed.ensures.code

pub returns-clause-info : goal.returns-clause-info
returns-clause-info c =
    let p = seen_program c.args.program.now in
    let j = c.args.place in
    let items = ((c.args.program.now).routines).items in
    let rt = c.index-routine.result.now in
    let r = seen_routine rt in
    let low : j < length items = omega (arith, c.requires.routine, length-map items seen_routine) in
    let found : slice_get items j ≡ Some rt = slice_get-get_or items j rt low ∙ ap Some (sym c.index-routine.ensures) in
    let there : slice_get p.routines j ≡ Some r = slice_get-map seen_routine items j ∙ ap (option_map seen_routine) found in
    let n = c.args.known.now in
    let e = c.declare_constants.new.frame in
    let f = c.declare_variables.new.frame in
    let blk = seen_block c.block_of-block.result.now in
    let facts = ready p c.requires.tree c.requires.unbroken j r there c.new-frame.result c.declare_parameters.new.frame c.add_result.new.self e f n
    (option_map seen_parameters c.parameters_of.result.now) blk c.is_function-function.result c.parameters_of.ensures
    (empty_held c.new-frame.result c.new-frame.ensures.names c.new-frame.ensures.words)
    (c.in_ok-declare_parameters.ensures.parameters (known_at p j) (ap seen_owner c.new-frame.ensures.owner))
    c.requires.known c.block_of-block.ensures (c.is_function-function.ensures (known_at p j)) c.add_result.ensures.names c.add_result.ensures.words
    c.in_ok-declare_constants.ensures.constants
    (subst (λ o. LaidOut n e f (λ scope. declared_variables (seen_owner o) scope blk.vars))
    (c.in_ok-declare_constants.ensures.owner ∙ c.add_result.ensures.owner ∙ c.in_ok-declare_parameters.ensures.owner ∙ c.new-frame.ensures.owner)
    c.in_ok-declare_variables.ensures.variables) in
    let is = framed_there p j r there in
    let few = few_words p c.requires.tree c.requires.unbroken (j + 1) (the_routine p j r) is in
    λ r0 at. on_ok_weaker c.add_framed.result
    (λ told. routine_told (calling_infos (all_framed p)) r0 (the_routine p j r) (c.args.infos.now).items (c.add_framed.new.infos).items
    (length c.args.drafts.now) f.words (c.declare_parameters.new.frame).words c.is_function-function.result blk.body
    (same_Some (the_routine p j r) r0 (sym is ∙ at)) (facts.0).words facts.1 (ap (λ k. k.body) c.block_of-block.ensures)
    (c.is_function-function.ensures (known_at p j)) told)
    c.add_framed.ensures.info
