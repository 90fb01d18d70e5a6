-- The network stands for its opening.
use Rattle.std.proofs.Common.{◌≡◌, ◌≤◌, ◌+◌, ◌*◌, ◌-◌, if◌then◌else◌, ℕ, Bool, true, false, [], length, ap, arith}
use Rattle.solo_devices.specs.CardUnit.{Held}
use Rattle.batch_procs.specs.Jobs.{Jobs, AreJobs}
use Rattle.batch_procs.specs.JobTold.{JobTold}
use Rattle.batch_ends.specs.Devices.{cards_left}
use Rattle.twin_law.specs.Opening.{AreInBounds, AreCards, AreGoodFiles}
use Rattle.twin_law.proofs.LeavesFewer.{opening-within}
use Rattle.twin_ends.specs.declared.units.TwinUnits.{TwinUnits}
use Rattle.twin_ends.specs.TwinTells.{TwinTells, cards_ahead, twin_spools, twin_opened}
use Rattle.twin_net.specs.declared.net.TwinNet.{TwinNet}
use Rattle.twin_net.specs.Net.{TwinNetStands, TwinStandsWithin, TwinOpensOver}

pub opens-over : {L X S K F P : Type 0} {J : Jobs L} → AreJobs J → (keeps : X → JobTold L → Type 0) (tells : TwinTells L S K F P) (units : TwinUnits S K F P)
    (net : TwinNet X S K F P) → AreInBounds (twin_spools tells units) → AreCards (cards_ahead tells units.deck) → AreGoodFiles J (tells.files units.files)
    → cards_left tells.taken net.shared.deck ≤ 33555457 → TwinNetStands J keeps tells net (twin_opened tells units)
    → TwinOpensOver J (TwinStandsWithin J keeps tells net) tells units
opens-over jobs keeps tells units net bounds cards good few stands = record {
  bounds = bounds;
  cards = cards;
  good = good;
  stands = record {
    is = stands;
    within = opening-within jobs record {
      spools = twin_spools tells units;
      deck = cards_ahead tells units.deck;
      paper = tells.given units.paper.sink;
      files = tells.files units.files;
      bounds = bounds;
      cards = cards;
      good = good;
    } (cards_left tells.taken net.shared.deck) few;
  };
}

-- of a deck of which nothing was read
pub fresh-few : {S : Type 0} (taken : S → ℕ) (deck : Held S) → taken deck.source ≡ 0 → deck.pending ≡ [] → cards_left taken deck ≤ 33555457
fresh-few taken deck unread none = few (taken deck.source) (length deck.pending) unread (ap length none) deck.ended
  where
    few : (taken pending : ℕ) → taken ≡ 0 → pending ≡ 0 → (ended : Bool) → 2 * (16777216 + 512 - taken) + pending + (if ended then 0 else 1) ≤ 33555457
    few taken pending a b true = omega (arith, a, b)
    few taken pending a b false = omega (arith, a, b)
