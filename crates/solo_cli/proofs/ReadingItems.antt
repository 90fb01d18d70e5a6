-- How the items of a deck are read one after another.
use Rattle.std.proofs.Common.{◌≡◌, List, [], ◌++◌, ◌∙◌, ap, append-nil}
use Rattle.solo_base.specs.declared.item.Item.{Item}

-- where nothing more comes, what was given is all
pub nothing_more : (all given rest : List Item) → all ≡ given ++ rest → rest ≡ [] → all ≡ given
nothing_more all given rest are none = are ∙ ap (λ more. given ++ more) none ∙ append-nil given
