use Rattle.std.proofs.Common.{◌≡◌, ◌+◌, ◌<◌, ◌++◌, Some, length, drop, map, sym, ap, subst, ◌∙◌, append-nil, arith}
use Rattle.std.specs.Prelude.{slice_get, option_map}
use Rattle.std.proofs.lemmas.List.{length-map}
use Rattle.std.proofs.lemmas.Option.{slice_get-map, slice_get-get_or}
use Rattle.pascal_tree.specs.SeenProgram.{seen_routine, seen_program}
use Rattle.pascal_mean.specs.Declarations.{global_items}
use Rattle.pascal_code.specs.Frames.{plain_frame}
use Rattle.pascal_code.specs.Senses.{framed_after, all_framed}
use Rattle.pascal_code.specs.Code.{calling_infos, instrs_from, infos_from}
use Rattle.pascal_compile.specs.Seen.{seen_passing}
use Rattle.pascal_compile.specs.Holds.{HoldsFrame, known_at}
use Rattle.pascal_compile.specs.Infos.{without_heights}
use Rattle.code_law.proofs.Codes.{few_routines}
use Rattle.pascal_compile.proofs.Turns.{next_item}
use Rattle.pascal_compile.proofs.Headings.{passed_at, as_many}
use Rattle.pascal_compile.proofs.RoutineFrames.{known_next, framed_there}
use Rattle.pascal_compile.proofs.RoutineReady.{the_routine, known_few}
use Rattle.pascal_compile.proofs.EachRoutine.{next_routine, routines_end, code_then, infos_then}
use Rattle.pascal_compile.proofs.program.add_routines.Goals as goal

pub overflow_cast-number : goal.overflow_cast-number
overflow_cast-number c =
    let p = seen_program c.args.program.now in
    let items = ((c.args.program.now).routines).items in
    let j = c.loop-place.place in
    let lists = c.args.passings.now in
    let many : length lists ≡ length items = as_many lists items c.requires.passings in
    let low : j < length lists = c.loop-place-test.true in
    omega (arith, many, low, length-map items seen_routine, few_routines p c.requires.unbroken)

pub overflow_add-number : goal.overflow_add-number
overflow_add-number c =
    let p = seen_program c.args.program.now in
    let items = ((c.args.program.now).routines).items in
    let j = c.loop-place.place in
    let lists = c.args.passings.now in
    let many : length lists ≡ length items = as_many lists items c.requires.passings in
    let low : j < length lists = c.loop-place-test.true in
    omega (arith, many, low, length-map items seen_routine, few_routines p c.requires.unbroken)

pub declare_heading-requires : goal.declare_heading-requires
declare_heading-requires c =
    let p = seen_program c.args.program.now in
    let items = ((c.args.program.now).routines).items in
    let j = c.loop-place.place in
    let lists = c.args.passings.now in
    let many : length lists ≡ length items = as_many lists items c.requires.passings in
    let low : j < length lists = c.loop-place-test.true in
    let below : j < length items = omega (arith, many, low) in
    ap (map seen_passing) c.deref.ensures.value
    ∙ passed_at lists items j c.index-passings-place.result c.index.result.now c.requires.passings
    (next_item lists j c.index-passings-place.result c.index-passings-place.is low)
    (next_item items j c.index.result.now c.index.ensures below)

pub add_routine-requires-clause-known : goal.add_routine-requires-clause-known
add_routine-requires-clause-known c =
    let p = seen_program c.args.program.now in
    let items = ((c.args.program.now).routines).items in
    let j = c.loop-place.place in
    let lists = c.args.passings.now in
    let many : length lists ≡ length items = as_many lists items c.requires.passings in
    let low : j < length lists = c.loop-place-test.true in
    let below : j < length items = omega (arith, many, low) in
    let rt = c.index.result.now in
    let r = seen_routine rt in
    let found : slice_get items j ≡ Some rt = slice_get-get_or items j rt below ∙ ap Some (sym c.index.ensures) in
    let there : slice_get p.routines j ≡ Some r = slice_get-map seen_routine items j ∙ ap (option_map seen_routine) found in
    let held : HoldsFrame c.declare_heading.new.frame (plain_frame (known_at p (j + 1))) =
    subst (λ is. HoldsFrame c.declare_heading.new.frame (plain_frame is)) (sym (known_next p j r there))
    (c.in_ok-declare_heading.ensures.heading (plain_frame (known_at p j)) c.loop-place.invariant.held) in
    (held (known_few p c.requires.tree c.requires.unbroken (j + 1))).names

pub loop-place-preserved : goal.loop-place-preserved
loop-place-preserved c =
    let p = seen_program c.args.program.now in
    let items = ((c.args.program.now).routines).items in
    let j = c.loop-place.place in
    let lists = c.args.passings.now in
    let many : length lists ≡ length items = as_many lists items c.requires.passings in
    let low : j < length lists = c.loop-place-test.true in
    let below : j < length items = omega (arith, many, low) in
    let rt = c.index.result.now in
    let r = seen_routine rt in
    let found : slice_get items j ≡ Some rt = slice_get-get_or items j rt below ∙ ap Some (sym c.index.ensures) in
    let there : slice_get p.routines j ≡ Some r = slice_get-map seen_routine items j ∙ ap (option_map seen_routine) found in
    let held : HoldsFrame c.declare_heading.new.frame (plain_frame (known_at p (j + 1))) =
    subst (λ is. HoldsFrame c.declare_heading.new.frame (plain_frame is)) (sym (known_next p j r there))
    (c.in_ok-declare_heading.ensures.heading (plain_frame (known_at p j)) c.loop-place.invariant.held) in
    let all = framed_after 1 (global_items p) p.routines in
    let calling = calling_infos (all_framed p) in
    let s = the_routine p j r in
    let is = framed_there p j r there in
    let now = c.loop-place.drafts in
    let next = c.add_routine.new.drafts in
    let split = next_routine p j r there in
    let emitted = c.in_ok-add_routine.ensures.code s is in
    record {
      held = held;
      code = code_then now next s (drop (j + 1) all) emitted ∙ ap (λ fs. now ++ instrs_from fs (length now)) (sym split) ∙ c.loop-place.invariant.code;
      infos = infos_then calling (c.loop-place.infos).items (c.add_routine.new.infos).items now next s (drop (j + 1) all) emitted
          (c.in_ok-add_routine.ensures.info s is)
          ∙ ap (λ fs. (c.loop-place.infos).items ++ without_heights (infos_from calling fs (length now))) (sym split) ∙ c.loop-place.invariant.infos;
    }

pub returns-clause-code : goal.returns-clause-code
returns-clause-code c =
    let p = seen_program c.args.program.now in
    let items = ((c.args.program.now).routines).items in
    let j = c.loop-place.place in
    let lists = c.args.passings.now in
    let many : length lists ≡ length items = as_many lists items c.requires.passings in
    let now = c.loop-place.drafts in
    sym (append-nil now)
    ∙ ap (λ fs. now ++ instrs_from fs (length now)) (sym (routines_end p j (omega (arith, many, length-map items seen_routine))))
    ∙ c.loop-place.invariant.code

pub returns-clause-infos : goal.returns-clause-infos
returns-clause-infos c =
    let p = seen_program c.args.program.now in
    let items = ((c.args.program.now).routines).items in
    let j = c.loop-place.place in
    let lists = c.args.passings.now in
    let many : length lists ≡ length items = as_many lists items c.requires.passings in
    let now = c.loop-place.drafts in
    let told = (c.loop-place.infos).items in
    sym (append-nil told)
    ∙ ap (λ fs. told ++ without_heights (infos_from (calling_infos (all_framed p)) fs (length now)))
    (sym (routines_end p j (omega (arith, many, length-map items seen_routine))))
    ∙ c.loop-place.invariant.infos
