use Rattle.std.proofs.Common.{◌≡◌, ◌<◌, ◌∷◌, ◌+◌, ◌∙◌, length, drop, map, sym, ap, subst, arith}
use Rattle.std.proofs.Math.ListN.{drop_of_length-le}
use Rattle.pascal_tree.specs.SeenProgram.{seen_routine}
use Rattle.pascal_compile.specs.Seen.{seen_passing}
use Rattle.pascal_compile.specs.Holds.{HeadingsHeld}
use Rattle.pascal_compile.proofs.Turns.{next_item}
use Rattle.pascal_compile.proofs.Headings.{passed_at, no_heading, heading_then, as_many}
use Rattle.pascal_compile.proofs.routines.declare_headings.Goals as goal

pub declare_heading-requires : goal.declare_heading-requires
declare_heading-requires c =
    let rs = c.args.routines.now in
    let lists = c.args.passings.now in
    let i = c.loop-place.place in
    let many : length lists ≡ length rs = as_many lists rs c.requires.passings in
    let low : i < length lists = c.loop-place-test.true in
    ap (map seen_passing) c.deref.ensures.value
    ∙ passed_at lists rs i c.index-passings-place.result c.index-routines-place.result c.requires.passings
    (next_item lists i c.index-passings-place.result c.index-passings-place.is low)
    (next_item rs i c.index-routines-place.result c.index-routines-place.is (omega (arith, many, low)))

pub loop-place-preserved : goal.loop-place-preserved
loop-place-preserved c = λ after later.
    let rs = c.args.routines.now in
    let i = c.loop-place.place in
    let r = c.index-routines-place.result in
    let a = c.loop-place.frame in
    let b = c.declare_heading.new.frame in
    let many : length c.args.passings.now ≡ length rs = as_many c.args.passings.now rs c.requires.passings in
    let low : i < length c.args.passings.now = c.loop-place-test.true in
    let more = map seen_routine (drop (i + 1) rs) in
    let number : i + 1 ≡ 1 + i = omega arith in
    c.loop-place.invariant after
    (subst (λ ss. HeadingsHeld a after (1 + i) (map seen_routine ss)) (sym (next_item rs i r c.index-routines-place.is (omega (arith, many, low))))
    (subst (λ n. HeadingsHeld a after n (seen_routine r ∷ more)) number
    (heading_then a b after (i + 1) (1 + (i + 1)) (seen_routine r) more (omega arith) c.in_ok-declare_heading.ensures.heading later)))

pub returns : goal.returns
returns c =
    let rs = c.args.routines.now in
    let i = c.loop-place.place in
    let a = c.loop-place.frame in
    let many : length c.args.passings.now ≡ length rs = as_many c.args.passings.now rs c.requires.passings in
    c.loop-place.invariant a
    (subst (λ ss. HeadingsHeld a a (1 + i) (map seen_routine ss)) (sym (drop_of_length-le rs (omega (arith, many)))) (no_heading a (1 + i)))
