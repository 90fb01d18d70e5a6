use Rattle.std.proofs.Common.{◌≡◌, ◌+◌, ◌-◌, ◌<◌, [], ◌∷◌, ◌++◌, length, drop, map, sym, ◌∙◌, ap, arith}
use Rattle.std.proofs.lemmas.List.{drop-map, map-append, length-map, length-drop}
use Rattle.pascal_tree.specs.SeenProgram.{seen_routine, seen_program}
use Rattle.pascal_mean.specs.Declarations.{global_items, signature_of, block_of, declared_routine, declared_headings, routines_after, program_itself, all_declared}
use Rattle.pascal_evaluate.specs.SeenNames.{seen_item, seen_items, seen_declared}
use Rattle.pascal_evaluate.proofs.Declared.{at_place, known_first, next_named, next_all}
use Rattle.pascal_evaluate.proofs.table.all_declared.Goals as goal

pub loop-place-init : goal.loop-place-init
loop-place-init c =
    let items = c.args.items.now in
    let p = seen_program c.args.program.now in
    let routines = c.args.program.now.routines.items in
    let rs = map seen_routine routines in
    let count = c.len-count.result in
    let before = seen_items (drop (count - 0) items) in
    let itself = c.program_itself.result in
    let all_of : count - 0 ≡ length rs = omega (arith, c.len-count.ensures, c.args.program.now.routines.ok.0, length-map routines seen_routine) in
    let first = known_first seen_item items (count - 0) rs (global_items p) c.requires all_of in
    let pushed : c.push.new.self.items ≡ itself ∷ [] = c.in_ok-push.ensures.items ∙ ap (λ ds. ds ++ itself ∷ []) c.new-all.ensures.items in
    record {
      names = ap (declared_headings 1 rs) first ∙ sym c.requires;
      all = ap (λ ds. map seen_declared ds ++ routines_after 1 before rs) pushed
          ∙ ap (λ d. d ∷ routines_after 1 before rs) c.program_itself.ensures
          ∙ ap (λ known. program_itself p ∷ routines_after 1 known rs) first;
    }

pub loop-place-preserved : goal.loop-place-preserved
loop-place-preserved c =
    let items = c.args.items.now in
    let routines = c.args.program.now.routines.items in
    let place = c.loop-place.place in
    let count = c.len-count.result in
    let r = seen_routine c.index.result.now in
    let names = seen_items items in
    let before = seen_items (drop (count - place) items) in
    let known = seen_items (drop (count - (place + 1)) items) in
    let more = map seen_routine (drop (place + 1) routines) in
    let rest = map seen_routine (drop place routines) in
    let d = c.in_ok-declared_routine.field-0 in
    let all_of : count ≡ length routines = omega (arith, c.len-count.ensures, c.args.program.now.routines.ok.0) in
    let within : place < length routines = omega arith in
    let first = at_place seen_routine routines place c.index.result.now within c.index.ensures in
    let left : length more ≡ count - (place + 1) = omega (arith, length-map (drop (place + 1) routines) seen_routine, length-drop (place + 1) routines) in
    let behind = sym (drop-map seen_item (count - (place + 1)) items) ∙ ap (λ n. drop n names) (sym left) in
    let same : (count - place) - 1 ≡ count - (place + 1) = omega arith in
    let declared = c.in_ok-declared_routine.ensures
    ∙ ap (λ k. declared_routine (seen_items k) (signature_of (seen_items c.behind-before.result.now) r) (block_of r))
    (c.behind-known.ensures ∙ ap (λ n. drop n items) same)
    ∙ ap (λ b. declared_routine known (signature_of (seen_items b) r) (block_of r)) c.behind-before.ensures in
    let pushed = ap (map seen_declared) c.in_ok-push-2.ensures.items ∙ map-append seen_declared c.loop-place.all.items (d ∷ []) in
    record {
      names = next_named (place + 1) names before known r more rest first c.loop-place.invariant.names behind;
      all = next_all (place + 1) names before known r more rest first c.loop-place.invariant.names behind
          (map seen_declared c.loop-place.all.items) (map seen_declared c.push-in-loop-place.new.self.items) (all_declared (seen_program c.args.program.now))
          (seen_declared d) pushed declared c.loop-place.invariant.all;
    }
