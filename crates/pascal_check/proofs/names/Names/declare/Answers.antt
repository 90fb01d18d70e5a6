use Rattle.std.proofs.Common.{◌≡◌, ◌∷◌, None, sym, ap, subst, ◌∙◌}
use Rattle.pascal_tree.specs.Scopes.{found, named_as}
use Rattle.pascal_check.specs.Listed.{place_of, declared_by, latest_first, AreNumbered, AreLookedUp}
use Rattle.pascal_check.proofs.Named.{latest_added, numbers_kept, all_found}
use Rattle.pascal_check.proofs.names.Names.declare.Goals as goal

pub invariant_of-self-2 : goal.invariant_of-self-2
invariant_of-self-2 c =
    let es = c.self.inside.entries.entries in
    let key = c.in_ok-name.name in
    let next = c.len-before.ensures.len in
    let absent : found (latest_first es) key.items ≡ None =
    ap (λ ds. found ds key.items) c.self.view_is ∙ ap (λ n. found c.args.self.now n) c.in_ok-name.ensures.items ∙ c.requires in
    subst (λ all. AreLookedUp all × AreNumbered place_of declared_by all) (sym c.in_ok-insert.ensures.entries) (
      all_found es key c.args.means c.len-before.result next c.self.invariant.1 c.self.invariant.0 absent,
      numbers_kept es key c.args.means c.len-before.result next c.self.invariant.1 c.self.invariant.0 absent,
    )

pub returns : goal.returns
returns c =
    let es = c.self.inside.entries.entries in
    let key = c.in_ok-name.name in
    let absent : found (latest_first es) key.items ≡ None =
    ap (λ ds. found ds key.items) c.self.view_is ∙ ap (λ n. found c.args.self.now n) c.in_ok-name.ensures.items ∙ c.requires in
    ap latest_first c.in_ok-insert.ensures.entries
    ∙ latest_added es key c.args.means c.len-before.result c.len-before.ensures.len c.self.invariant.1 c.self.invariant.0 absent
    ∙ ap (λ n. named_as n c.args.means ∷ latest_first es) c.in_ok-name.ensures.items
    ∙ ap (λ ds. named_as c.args.name.now c.args.means ∷ ds) c.self.view_is
