-- What the pieces of work begin with where the cards and the typed lines are told: what these hand on, in
-- order.
use Rattle.std.specs.Prelude.{◌≡◌, List, [], None, Some}
use Rattle.solo_base.specs.declared.item.Item.{Item}
use Rattle.solo_base.specs.declared.outcome.Outcome.TheVariants as outcome
use Rattle.solo_needs.specs.Needs.{Need}
use Rattle.solo_needs.specs.Handing.{Ahead, hands, no_command, HandsOn}
use Rattle.place_law.specs.Process.{place, caused}
use Rattle.place_law.specs.Ending.{HasEndedSo}
use Rattle.solo_law.specs.Work.{Work}
use Rattle.solo_law.specs.Replies.{view}
use Rattle.solo_law.specs.JobPlaces.{job, Toils}
use Rattle.solo_law.specs.Told.{needs, begun}
use Rattle.solo_law.specs.Solo.{table, SoloState}

-- Each piece of work began with what these cards and typed lines hand on for the need before it.
pub record WorkHanded (cards keys : List Item) (s : SoloState) : Type 0 where
  -- the need of the last one, and what is unread behind them all
  pub last : Need
  pub ahead : Ahead
  pub handed : HandsOn no_command (record { cards = cards; keys = keys }) (begun (s.histories 2))
      (needs (s.histories 2)) last ahead
  -- and so will the one that the job process is about to do
  pub next : (work : Work) → caused view job (s.histories 2) ≡ None → place job (s.histories 2) ≡ Toils work
      → (behind : Ahead) × (hands last ahead ≡ Some (record { given = work.given; ahead = behind }))
  -- Where it ended with its work done nothing is handed any more, and no typed line is left.
  pub ended : HasEndedSo table s 2 outcome.Done → (hands last ahead ≡ None) × (s.devices.keys ≡ Some [])
