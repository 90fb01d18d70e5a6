use Rattle.std.proofs.Common.{◌≤◌, [], length, map, refl, sym, ap, subst, arith}
use Rattle.std.proofs.lemmas.List.{length-map}
use Rattle.std.proofs.lemmas.Result.{on_ok_weaker}
use Rattle.pascal_tree.specs.SeenProgram.{seen_routine, seen_program}
use Rattle.pascal_code.specs.Frames.{plain_frame}
use Rattle.pascal_code.specs.Senses.{all_framed, framed_program}
use Rattle.pascal_code.specs.Code.{calling_infos}
use Rattle.pascal_compile.specs.Seen.{seen_scope}
use Rattle.code_law.proofs.Codes.{few_routines}
use Rattle.pascal_compile.proofs.Limits.{few_words, few_nested}
use Rattle.pascal_compile.proofs.ProgramFrames.{headings_held, names_same, names_small, program_emitted, program_told}
use Rattle.pascal_compile.proofs.program.add_program.Goals as goal

pub declare_headings-requires-clause-few : goal.declare_headings-requires-clause-few
declare_headings-requires-clause-few c =
    let rs = ((c.args.program.now).routines).items in
    omega (arith, ap length c.deref.ensures.value, length-map rs seen_routine, few_routines (seen_program c.args.program.now) c.requires.unbroken)

pub add_framed-requires-clause-small : goal.add_framed-requires-clause-small
add_framed-requires-clause-small c =
    let p = seen_program c.args.program.now in
    let few = few_words p c.requires.tree c.requires.unbroken 0 (framed_program p) refl in
    let h = headings_held p c.in_ok-frame.frame c.declare_headings.new.frame c.deref.result.now (ap (map seen_routine) c.deref.ensures.value)
    c.in_ok-frame.ensures c.in_ok-declare_headings.ensures few in
    names_small c.new-nothing.result c.declare_headings.new.frame.names (plain_frame []) (framed_program p).frame c.new-nothing.ensures h.names
    (omega arith) few

pub add_framed-requires-clause-words : goal.add_framed-requires-clause-words
add_framed-requires-clause-words c =
    let p = seen_program c.args.program.now in
    let few = few_words p c.requires.tree c.requires.unbroken 0 (framed_program p) refl in
    let h = headings_held p c.in_ok-frame.frame c.declare_headings.new.frame c.deref.result.now (ap (map seen_routine) c.deref.ensures.value)
    c.in_ok-frame.ensures c.in_ok-declare_headings.ensures few in
    subst (λ n. n ≤ 4096) (sym h.words) few

pub add_framed-requires-clause-nested : goal.add_framed-requires-clause-nested
add_framed-requires-clause-nested c =
    let p = seen_program c.args.program.now in
    few_nested p c.requires.tree 0 (framed_program p) refl

pub returns-clause-code : goal.returns-clause-code
returns-clause-code c =
    let p = seen_program c.args.program.now in
    let few = few_words p c.requires.tree c.requires.unbroken 0 (framed_program p) refl in
    let after = c.declare_headings.new.frame in
    let h = headings_held p c.in_ok-frame.frame after c.deref.result.now (ap (map seen_routine) c.deref.ensures.value)
    c.in_ok-frame.ensures c.in_ok-declare_headings.ensures few in
    on_ok_weaker c.add_framed.result
    (λ is. program_emitted p c.args.drafts.now c.add_framed.new.drafts (seen_scope c.new-nothing.result after.names) after.words c.requires.first
    (names_same c.new-nothing.result after.names (plain_frame []) (framed_program p).frame c.new-nothing.ensures h.names) h.words is)
    c.add_framed.ensures.code

pub returns-clause-info : goal.returns-clause-info
returns-clause-info c =
    let p = seen_program c.args.program.now in
    let few = few_words p c.requires.tree c.requires.unbroken 0 (framed_program p) refl in
    let after = c.declare_headings.new.frame in
    let h = headings_held p c.in_ok-frame.frame after c.deref.result.now (ap (map seen_routine) c.deref.ensures.value)
    c.in_ok-frame.ensures c.in_ok-declare_headings.ensures few in
    on_ok_weaker c.add_framed.result
    (λ is. program_told (calling_infos (all_framed p)) p (c.args.infos.now).items (c.add_framed.new.infos).items (length c.args.drafts.now) after.words
    (ap length c.requires.first) h.words is)
    c.add_framed.ensures.info
