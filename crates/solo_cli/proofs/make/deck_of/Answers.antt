use Rattle.std.proofs.Common.{◌≤◌, length, sym, subst}
use Rattle.solo_devices.specs.CardUnit.{byte_limit}
use Rattle.solo_cli.proofs.DeckLength.{made-short}
use Rattle.solo_cli.proofs.make.deck_of.Goals as goal

pub numbers_of-requires : goal.numbers_of-requires
numbers_of-requires c =
    rw c.as_slice.ensures.value (subst (λ bytes. length bytes ≤ byte_limit) (sym c.in_ok-deck.ensures) (made-short c.args.number c.requires))

pub returns-clause-short : goal.returns-clause-short
returns-clause-short c =
    subst (λ bytes. length bytes ≤ byte_limit) (sym c.in_ok-deck.ensures) (made-short c.args.number c.requires)
