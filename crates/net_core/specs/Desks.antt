-- What a call at the desk is to the law.
use Rattle.std.specs.Prelude.{◌≡◌, ℕ, Option, Some}
use Rattle.resource_mon.specs.Claims.{Claims}
use Rattle.batch_procs.specs.declared.actions.Action.TheVariants as act
use Rattle.batch_procs.specs.declared.actions.Reply.{Reply}
use Rattle.batch_procs.specs.Jobs.{Jobs}
use Rattle.network_law.specs.Acts.{Done}
use Rattle.network_law.specs.Desk.{Desk, asked, after_asking, after_giving}
use Rattle.core_law.specs.Core.{went}
use Rattle.core_law.specs.Replies.{entry_of, ReplyFits}

-- a request, by what the desk's claims were and are
pub record Asked {L : Type 0} (J : Jobs L) (old new : Claims) (p : ℕ)
    (result : Option (Reply L)) : Type 0 where
  pub suits : ReplyFits J act.Request result
  pub fits : went (entry_of act.Request result) ≡ asked old.handed old.holder
  pub after : (d : Desk) → d.claims ≡ old
      → (after_asking d p (went (entry_of act.Request result))).claims ≡ new

pub record Given {L : Type 0} (J : Jobs L) (old new : Claims) (result : Reply L) : Type 0 where
  pub suits : ReplyFits J act.Release (Some result)
  pub fits : went (entry_of act.Release (Some result)) ≡ Done
  pub after : (d : Desk) → d.claims ≡ old → (after_giving d).claims ≡ new
