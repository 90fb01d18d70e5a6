-- What the job process does at the spools 2 and 3, the disk and its files.
use Rattle.std.specs.Prelude.{◌≡◌, ◌≢◌, ◌≤◌, ◌⊎◌, ℕ, ◌==◌, if◌then◌else◌, true, false, List, Option}
use Rattle.solo_base.specs.declared.outcome.Side.TheVariants.{Sender, Receiver}
use Rattle.monitor_gate.specs.Calls.{after_call}
use Rattle.resource_mon.specs.Seats.{Pass}
use Rattle.disk_spool.specs.declared.call.SpoolCall.TheVariants as spool
use Rattle.disk_spool.specs.Calls.{has_stop, is_ready}
use Rattle.disk_spool.specs.Ends.{known}
use Rattle.solo_devices.specs.Count.{Rose}
use Rattle.batch_procs.specs.declared.actions.Action.{Action}
use Rattle.batch_procs.specs.declared.actions.Action.TheVariants as act
use Rattle.batch_procs.specs.declared.actions.Reply.{Reply}
use Rattle.batch_procs.specs.declared.actions.Reply.TheVariants as reply
use Rattle.batch_procs.specs.History.{Entry}
use Rattle.batch_procs.specs.Jobs.{Jobs}
use Rattle.batch_procs.specs.Loads.{AnswersLoad}
use Rattle.batch_sides.specs.declared.job_side.JobSide.{JobSide}
use Rattle.batch_sides.specs.Calls.{spool_calls}
use Rattle.batch_sides.specs.Desks.{DeskRan, IsAt}
use Rattle.batch_sides.specs.Files.{FileTells, FilesRan}

abbrev pub does_job : Action → Type 0
does_job act.AwaitRoom = Unit {0}
does_job act.AwaitItem = Unit {0}
does_job act.Request = Unit {0}
does_job (act.PutPage page) = Unit {0}
does_job act.TakePage = Unit {0}
does_job (act.Load file) = Unit {0}
does_job act.Release = Unit {0}
does_job act.Local = Unit {0}
does_job (act.Stop b) = (b ≡ 2) ⊎ (b ≡ 3)
does_job (act.Ended how) = Unit {0}
does_job other = ⊥

-- each end is one of its gate
abbrev pub JobEndsAtGates : {F A B : Type 0} → (A → ℕ) → (B → ℕ) → JobSide F A B → Type 0
JobEndsAtGates from_size to_size c =
    (c.cards.gate ≡ known (from_size c.cards_gate.now.area) c.cards_gate.now)
    × (c.pages.gate ≡ known (to_size c.pages_gate.now.area) c.pages_gate.now)

-- an action that it may perform
abbrev pub JobMayMake : {F A B : Type 0} → (F → Type 0) → (A → ℕ) → (B → ℕ) → JobSide F A B → Option Pass
    → Action
    → Type 0
JobMayMake sound from_size to_size c pass act.AwaitItem =
    JobEndsAtGates from_size to_size c × (has_stop c.cards.calls ≡ false)
JobMayMake sound from_size to_size c pass act.AwaitRoom =
    JobEndsAtGates from_size to_size c × (has_stop c.pages.calls ≡ false)
JobMayMake sound from_size to_size c pass act.Request = IsAt c.disk.now c.seat pass false
JobMayMake sound from_size to_size c pass act.TakePage =
    JobEndsAtGates from_size to_size c × (has_stop c.cards.calls ≡ false) × (is_ready c.cards.calls ≡ true)
    × IsAt c.disk.now c.seat pass true
JobMayMake sound from_size to_size c pass (act.PutPage page) =
    JobEndsAtGates from_size to_size c × (has_stop c.pages.calls ≡ false) × (is_ready c.pages.calls ≡ true)
    × IsAt c.disk.now c.seat pass true
JobMayMake sound from_size to_size c pass (act.Load file) = sound c.files
JobMayMake sound from_size to_size c pass act.Release = IsAt c.disk.now c.seat pass true
JobMayMake sound from_size to_size c pass act.Local = Unit {0}
JobMayMake sound from_size to_size c pass (act.Stop b) =
    JobEndsAtGates from_size to_size c × ((b ≡ 2) ⊎ (b ≡ 3))
JobMayMake sound from_size to_size c pass (act.Ended how) = Unit {0}
JobMayMake sound from_size to_size c pass other = ⊥

abbrev pub job_with_stop : {F A B : Type 0} → ℕ → JobSide F A B → JobSide F A B
job_with_stop b c =
    if b == 2 then record c { cards = after_call c.cards (spool.Stop Receiver) }
    else record c { pages = after_call c.pages (spool.Stop Sender) }

-- A file was loaded as it is told to be, or the load failed, which was counted; no file is changed.
pub record LoadsOne {L F : Type 0} (J : Jobs L) (loader : FileTells L F) (old new : F) (file : List ℕ)
    (r : Reply L) : Type 0 where
  pub loads : AnswersLoad J (loader.found old) file r
  pub failed : r ≡ reply.Failed → Rose (loader.faults old) (loader.faults new)
  pub counts : loader.faults old ≤ loader.faults new
  pub found : loader.found new ≡ loader.found old
  pub left : loader.pages new ≡ loader.pages old
  pub sound : r ≢ reply.Failed → loader.IsSound new

-- and what it made of its side and its pass, by what was answered
abbrev pub JobMade : {L F A B : Type 0} → Jobs L → FileTells L F → JobSide F A B → Option Pass
    → JobSide F A B → Option Pass → Action → Reply L → Type 0
JobMade J loader old had new has act.AwaitItem reply.Done =
    (new ≡ record old { cards = after_call old.cards (spool.Await Receiver) }) × (has ≡ had)
JobMade J loader old had new has act.AwaitItem reply.Stopped =
    (new ≡ record old { cards = after_call old.cards (spool.AwaitRefused Receiver) }) × (has ≡ had)
JobMade J loader old had new has act.AwaitRoom reply.Done =
    (new ≡ record old { pages = after_call old.pages (spool.Await Sender) }) × (has ≡ had)
JobMade J loader old had new has act.AwaitRoom reply.Stopped =
    (new ≡ record old { pages = after_call old.pages (spool.AwaitRefused Sender) }) × (has ≡ had)
JobMade J loader old had new has act.Request reply.Done =
    (new ≡ record old { seat = new.seat }) × (new.seat.number ≡ old.seat.number)
    × IsAt old.disk.now new.seat has true
JobMade J loader old had new has act.TakePage (reply.Page page last) =
    (new ≡ record old { cards = after_call old.cards (spool.Take page.0 last) }) × (has ≡ had)
JobMade J loader old had new has act.TakePage reply.Failed =
    (new ≡ record old { cards = after_call old.cards spool.TakeFailed }) × (has ≡ had)
JobMade J loader old had new has (act.PutPage page) reply.Done =
    (new ≡ record old { pages = after_call old.pages (spool.Put page.0) }) × (has ≡ had)
JobMade J loader old had new has (act.PutPage page) reply.Failed =
    (new ≡ record old { pages = after_call old.pages (spool.PutFailed page.0) }) × (has ≡ had)
JobMade J loader old had new has (act.Load file) r =
    (new ≡ record old { files = new.files }) × (has ≡ had) × LoadsOne J loader old.files new.files file r
JobMade J loader old had new has act.Release reply.Done =
    (new ≡ record old { seat = new.seat }) × (new.seat.number ≡ old.seat.number)
    × IsAt old.disk.now new.seat has false
JobMade J loader old had new has act.Local reply.Done = (new ≡ old) × (has ≡ had)
JobMade J loader old had new has (act.Stop b) reply.Done = (new ≡ job_with_stop b old) × (has ≡ had)
JobMade J loader old had new has (act.Ended how) reply.Done = (new ≡ old) × (has ≡ had)
JobMade J loader old had new has action r = ⊥

-- From its first action on: each buffer has had the calls of the history at its side, it has the disk or
-- not, and
-- the files were loaded.
pub record JobRan {L F A B : Type 0} (loader : FileTells L F) (from_size : A → ℕ) (to_size : B → ℕ)
    (start now : JobSide F A B) (pass : Option Pass) (h : List (Entry L)) : Type 0 where
  pub from_gate : (start.cards_gate.now ≡ now.cards_gate.now)
      × (now.cards.gate ≡ known (from_size now.cards_gate.now.area) now.cards_gate.now)
  pub from_calls : now.cards.calls ≡ spool_calls Receiver 2 h
  pub to_gate : (start.pages_gate.now ≡ now.pages_gate.now)
      × (now.pages.gate ≡ known (to_size now.pages_gate.now.area) now.pages_gate.now)
  pub to_calls : now.pages.calls ≡ spool_calls Sender 3 h
  pub disk : start.disk.now ≡ now.disk.now
  pub desk : DeskRan now.disk.now start.seat now.seat pass h
  pub files : FilesRan loader start.files now.files h
