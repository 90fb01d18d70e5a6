-- What one more card makes of a description.
use Rattle.std.specs.Prelude.{◌≤◌, [], ◌∷◌, ◌++◌}
use Rattle.access_check.specs.Judgement.{count}
use Rattle.access_check.specs.declared.description.Description.{Description}
use Rattle.access_check.specs.declared.card.Card.{Card}
use Rattle.access_check.specs.declared.card.Card.TheVariants.{Monitor, Process, Order}

abbrev pub behind : Description → Card → Description
behind d (Monitor name) = record d { monitors = d.monitors ++ name ∷ [] }
behind d (Process name) = record d { processes = d.processes ++ name ∷ [] }
behind d (Order monitors) = record d { order = d.order ++ monitors }
behind d card = d

-- nothing is declared
abbrev pub nothing : Description
nothing = record { monitors = []; processes = []; order = [] }

-- at most 255 names are declared
abbrev pub HasFewNames : Description → Type 0
HasFewNames d = count d ≤ 255
