use Rattle.std.proofs.Common.{◌==◌, length, rules, tests, ap, ◌∙◌}
use Rattle.std.specs.Prelude.{unwrap_or}
use Rattle.std.proofs.lemmas.Iterator.{YieldsList-from_slice}
use Rattle.std.proofs.lemmas.Iterator.Search.{position_from_yields_List}
use Rattle.solo_base.proofs.Found.{unwrapped}
use Rattle.solo_base.proofs.search.first_place.Goals as goal

pub returns : goal.returns
returns c =
    let found = position_from_yields_List (λ other. other == c.args.byte) _ _ c.position.result c.position.ensures.ran
    (YieldsList-from_slice _ c.iter.ensures.rest) (λ x b q k. search (rules, tests)) in
    c.unwrap_or.ensures ∙ ap (λ r. unwrap_or r (length c.args.bytes.now)) found ∙ unwrapped (λ other. other == c.args.byte) c.args.bytes.now
