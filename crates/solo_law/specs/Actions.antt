-- What Solo's processes do, and what they are answered.
use Rattle.std.specs.Prelude.{ℕ, List}
use Rattle.solo_base.specs.declared.page.Page.{Page}
use Rattle.solo_base.specs.declared.system_call.Arg.{Arg}
use Rattle.solo_base.specs.declared.outcome.Outcome.{Outcome}
use Rattle.solo_devices.specs.declared.card_read.CardRead.{CardRead}
use Rattle.solo_law.specs.Work.{Work, Need}

pub data Action : Type 0 where
  Accept : Action
  Display : List ℕ → Action
  ReadCard : Action
  Print : List ℕ → Action
  PutArg : ℕ → Arg → Action
  TakeArg : ℕ → Action
  PutPage : ℕ → Page → Action
  TakePage : ℕ → Action
  Works : Work → Action
  Stop : ℕ → Action
  Ended : Outcome → Action

pub data Reply : Type 0 where
  Done : Reply
  Stopped : Reply
  Failed : Reply
  NoMemory : Reply
  OfCard : CardRead → Reply
  OfArg : Arg → Reply
  OfPage : Page → Reply
  -- what the work came to
  Found : Need → Reply
