use Rattle.std.proofs.Common.{◌∷◌, ◌++◌, [], Some, ap, ◌∙◌}
use Rattle.monitor_gate.proofs.Deals.{opens_with}
use Rattle.monitor_gate.proofs.gate.lay.Goals as goal

pub new-requires : goal.new-requires
new-requires g c = opens_with _ _ _ _ _ _ c.args.state _ c.of.ensures
    (c.push_reserved.ensures.items ∙ (ap (λ xs. xs ++ Some c.in_ok-kept.kept ∷ []) c.in-Ok.ensures.items ∙ ap (λ s. Some s ∷ []) c.in_ok-kept.ensures.kept))
    c.requires.tied c.requires.nobody_waits c.requires.free
