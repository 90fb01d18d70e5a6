use Rattle.std.proofs.Common.{[], ◌∷◌, ◌++◌, ◌∙◌, ◌≡◌, map, ap, subst}
use Rattle.std.specs.Prelude.{OnOk}
use Rattle.std.proofs.lemmas.List.{map-append}
use Rattle.std.proofs.lemmas.Result.{on_ok_weaker}
use Rattle.pascal_compile.specs.Seen.{seen_passing}
use Rattle.pascal_compile.proofs.Headings.{group_added}
use Rattle.pascal_compile.proofs.routines.add_group.Goals as goal

pub returns : goal.returns
returns c =
    let g = c.args.group.now in
    let p = c.passing_of-passing.result in
    let old = (c.args.list.now).items in
    let pushed = (c.push.new.self).items in
    let new = (c.add_each.new.list).items in
    on_ok_weaker c.add_each.result
    (λ all. group_added (map seen_passing old) (map seen_passing pushed) (map seen_passing new) (seen_passing p) (g.names).first ((g.names).rest).items g.var
    (ap (map seen_passing) c.in_ok-push.ensures.items ∙ map-append seen_passing old (p ∷ [])) c.passing_of-passing.ensures all)
    (subst (λ names. OnOk c.add_each.result (map seen_passing new ≡ map seen_passing pushed ++ map (λ n. seen_passing p) names)) c.deref.ensures.value
    c.add_each.ensures)
