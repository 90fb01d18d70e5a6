-- One action of the job process more: that it may perform it, and what its side has become.
use Rattle.std.proofs.Common.{◌≡◌, ◌⊎◌, inl, inr, ℕ, Bool, true, false, List, [], ◌∷◌, ◌++◌, Option, None, Some, refl, sym, ◌∙◌, ap, subst}
use Rattle.solo_base.specs.declared.outcome.Side.TheVariants.{Sender, Receiver}
use Rattle.solo_base.specs.declared.outcome.Outcome.{Outcome}
use Rattle.solo_base.specs.declared.page.Page.{Page}
use Rattle.monitor_gate.specs.Calls.{after_call}
use Rattle.resource_mon.specs.Seats.{Pass, Seat}
use Rattle.disk_spool.specs.declared.call.SpoolCall.{SpoolCall}
use Rattle.disk_spool.specs.declared.call.SpoolCall.TheVariants as spool
use Rattle.batch_procs.specs.declared.actions.Action.{Action}
use Rattle.batch_procs.specs.declared.actions.Action.TheVariants as act
use Rattle.batch_procs.specs.declared.actions.Reply.{Reply}
use Rattle.batch_procs.specs.declared.actions.Reply.TheVariants as reply
use Rattle.batch_procs.specs.Causes.{caused}
use Rattle.batch_procs.specs.Fits.{MayLack}
use Rattle.batch_procs.specs.History.{Entry, Does, LacksMemory, holds, newest}
use Rattle.batch_procs.specs.Jobs.{FilesAs, Jobs, AreJobs}
use Rattle.batch_procs.specs.Process.{Follows, next_action}
use Rattle.batch_procs.specs.Relays.{job-relay}
use Rattle.batch_procs.specs.Table.{job}
use Rattle.batch_procs.proofs.Closing.{or-none}
use Rattle.batch_procs.proofs.Holding.{moves-holding, release-holds, request-holds_not}
use Rattle.batch_procs.proofs.Relay.{open-next}
use Rattle.batch_sides.specs.declared.job_side.JobSide.{JobSide}
use Rattle.batch_sides.specs.Calls.{spool_calls}
use Rattle.batch_sides.specs.Desks.{IsAt}
use Rattle.batch_sides.specs.Files.{AreLoadedAs, FileTells, FilesRan, newest_load}
use Rattle.batch_sides.specs.Job.{JobEndsAtGates, JobMayMake, JobMade, JobRan, does_job, job_with_stop}
use Rattle.batch_sides.specs.Running.{Performed}
use Rattle.batch_sides.proofs.FileLoads.{file-loaded, load-fits}
use Rattle.batch_sides.proofs.DoesOnly.{job-does}
use Rattle.batch_sides.proofs.Performing.{both-as, ended-without, only-does}
use Rattle.batch_sides.proofs.SpoolCalls.{may-put, may-take, not-stopped}

module _ {L : Type 0} {J : Jobs L} (jobs : AreJobs J) where
  -- files of which none is loaded
  files-still : {F : Type 0} (loader : FileTells L F) (start now : F) (h : List (Entry L)) (entry : Entry L)
      → ((found : FilesAs L) → AreLoadedAs found h → AreLoadedAs found (entry ∷ h)) → newest_load (entry ∷ h) ≡ newest_load h
      → (caused (entry ∷ h) ≡ None → caused h ≡ None) → FilesRan loader start now h → FilesRan loader start now (entry ∷ h)
  files-still loader start now h entry loads newest causes ran = record {
    stay = ran.stay;
    found_stay = ran.found_stay;
    loads = λ found told. loads found (ran.loads found told);
    counts = ran.counts;
    failed = λ is. ran.failed (sym newest ∙ is);
    sound = λ none. ran.sound (causes none);
  }

  load-lacks : (file : List ℕ) (r : Reply L) → MayLack (act.Load file) r → ⊥
  load-lacks file r may = may

  module _ {F A B : Type 0} (loader : FileTells L F) (from_size : A → ℕ) (to_size : B → ℕ) (start old : JobSide F A B) (had : Option Pass)
      (h : List (Entry L)) (follows : Follows J (job J) h) (ran : JobRan loader from_size to_size start old had h) where
    gates : JobEndsAtGates from_size to_size old
    gates = (ran.from_gate.1, ran.to_gate.1)

    pub job-may : (a : Action) → does_job a → next_action (job J) h ≡ Some a → JobMayMake loader.IsSound from_size to_size old had a
    job-may act.AwaitItem does next =
        (gates, not-stopped jobs (job J) Receiver 2 h act.AwaitItem old.cards.calls (job-relay jobs) follows next tt ran.from_calls)
    job-may act.AwaitRoom does next =
        (gates, not-stopped jobs (job J) Sender 3 h act.AwaitRoom old.pages.calls (job-relay jobs) follows next tt ran.to_calls)
    job-may act.Request does next =
        subst (λ has. IsAt old.disk.now old.seat had has) (request-holds_not J (job J) h (job-relay jobs) follows next) ran.desk.1
    job-may act.TakePage does next = (
      gates,
      not-stopped jobs (job J) Receiver 2 h act.TakePage old.cards.calls (job-relay jobs) follows next tt ran.from_calls,
      may-take jobs (job J) 2 h old.cards.calls (job-relay jobs) follows next ran.from_calls,
      subst (λ has. IsAt old.disk.now old.seat had has) (moves-holding J (job J) h act.TakePage (job-relay jobs) follows next tt) ran.desk.1,
    )
    job-may (act.PutPage page) does next = (
      gates,
      not-stopped jobs (job J) Sender 3 h (act.PutPage page) old.pages.calls (job-relay jobs) follows next tt ran.to_calls,
      may-put jobs (job J) 3 h page old.pages.calls (job-relay jobs) follows next ran.to_calls,
      subst (λ has. IsAt old.disk.now old.seat had has) (moves-holding J (job J) h (act.PutPage page) (job-relay jobs) follows next tt) ran.desk.1,
    )
    job-may (act.Load file) does next = ran.files.sound (open-next J (job J) h (act.Load file) next tt)
    job-may act.Release does next =
        subst (λ has. IsAt old.disk.now old.seat had has) (release-holds J (job J) h (job-relay jobs) follows next) ran.desk.1
    job-may act.Local does next = tt
    job-may (act.Stop b) does next = (gates, does)
    job-may (act.Ended how) does next = tt
    job-may other does next = absurd does

    -- an entry that loads nothing
    record IsStill (entry : Entry L) : Type 0 where
      loads : (found : FilesAs L) → AreLoadedAs found h → AreLoadedAs found (entry ∷ h)
      newest : newest_load (entry ∷ h) ≡ newest_load h
      causes : caused (entry ∷ h) ≡ None → caused h ≡ None

    still-files : (entry : Entry L) → IsStill entry → FilesRan loader start.files old.files (entry ∷ h)
    still-files entry still = files-still loader start.files old.files h entry still.loads still.newest still.causes ran.files

    -- a call of a spool, of the disk, or none
    from-called : (entry : Entry L) (call : SpoolCall (List ℕ)) → IsStill entry → spool_calls Receiver 2 (entry ∷ h) ≡ spool_calls Receiver 2 h ++ call ∷ []
        → spool_calls Sender 3 (entry ∷ h) ≡ spool_calls Sender 3 h → holds (entry ∷ h) ≡ holds h
        → JobRan loader from_size to_size start (record old { cards = after_call old.cards call }) had (entry ∷ h)
    from-called entry call still calls other held = record {
      from_gate = ran.from_gate;
      from_calls = ap (λ calls. calls ++ call ∷ []) ran.from_calls ∙ sym calls;
      to_gate = ran.to_gate;
      to_calls = ran.to_calls ∙ sym other;
      disk = ran.disk;
      desk = (ran.desk.0, subst (λ has. IsAt old.disk.now old.seat had has) (sym held) ran.desk.1);
      files = still-files entry still;
    }

    to-called : (entry : Entry L) (call : SpoolCall (List ℕ)) → IsStill entry → spool_calls Sender 3 (entry ∷ h) ≡ spool_calls Sender 3 h ++ call ∷ []
        → spool_calls Receiver 2 (entry ∷ h) ≡ spool_calls Receiver 2 h → holds (entry ∷ h) ≡ holds h
        → JobRan loader from_size to_size start (record old { pages = after_call old.pages call }) had (entry ∷ h)
    to-called entry call still calls other held = record {
      from_gate = ran.from_gate;
      from_calls = ran.from_calls ∙ sym other;
      to_gate = ran.to_gate;
      to_calls = ap (λ calls. calls ++ call ∷ []) ran.to_calls ∙ sym calls;
      disk = ran.disk;
      desk = (ran.desk.0, subst (λ has. IsAt old.disk.now old.seat had has) (sym held) ran.desk.1);
      files = still-files entry still;
    }

    uncalled : (entry : Entry L) → IsStill entry → spool_calls Receiver 2 (entry ∷ h) ≡ spool_calls Receiver 2 h
        → spool_calls Sender 3 (entry ∷ h) ≡ spool_calls Sender 3 h → holds (entry ∷ h) ≡ holds h
        → JobRan loader from_size to_size start old had (entry ∷ h)
    uncalled entry still from to held = record {
      from_gate = ran.from_gate;
      from_calls = ran.from_calls ∙ sym from;
      to_gate = ran.to_gate;
      to_calls = ran.to_calls ∙ sym to;
      disk = ran.disk;
      desk = (ran.desk.0, subst (λ has. IsAt old.disk.now old.seat had has) (sym held) ran.desk.1);
      files = still-files entry still;
    }

    module _ (new : JobSide F A B) (has : Option Pass) where
      abbrev Stood : List (Entry L) → Type 0
      Stood = JobRan loader from_size to_size start new has

      as-new : (h : List (Entry L)) (after : JobSide F A B) → (new ≡ after) × (has ≡ had) → JobRan loader from_size to_size start after had h → Stood h
      as-new h after e stands = both-as (λ new has. JobRan loader from_size to_size start new has h) e.0 e.1 stands

      at-desk : (entry : Entry L) (held : Bool) → IsStill entry → spool_calls Receiver 2 (entry ∷ h) ≡ spool_calls Receiver 2 h
          → spool_calls Sender 3 (entry ∷ h) ≡ spool_calls Sender 3 h → holds (entry ∷ h) ≡ held → new ≡ record old { seat = new.seat }
          → new.seat.number ≡ old.seat.number → IsAt old.disk.now new.seat has held → Stood (entry ∷ h)
      at-desk entry held still from to holding e number at =
          subst (λ new. JobRan loader from_size to_size start new has (entry ∷ h)) (sym e)
          (the-seat new.seat number at) where
            the-seat : (seat : Seat) → seat.number ≡ old.seat.number → IsAt old.disk.now seat has held
                → JobRan loader from_size to_size start (record old { seat = seat }) has (entry ∷ h)
            the-seat seat number at = record {
              from_gate = ran.from_gate;
              from_calls = ran.from_calls ∙ sym from;
              to_gate = ran.to_gate;
              to_calls = ran.to_calls ∙ sym to;
              disk = ran.disk;
              desk = (number ∙ ran.desk.0, subst (λ held. IsAt old.disk.now seat has held) (sym holding) at);
              files = still-files entry still;
            }

      -- what loads nothing, by its action
      none-before : (a : Action) (r : Reply L) → caused (Does a r ∷ h) ≡ None → caused h ≡ None
      none-before a r none = or-none (caused h) _ none

      stop-did : (b : ℕ) → (b ≡ 2) ⊎ (b ≡ 3) → (new ≡ job_with_stop b old) × (has ≡ had) → Performed J Stood (act.Stop b) reply.Done h
      stop-did b (inl is) =
          subst (λ b. (new ≡ job_with_stop b old) × (has ≡ had) → Performed J Stood (act.Stop b) reply.Done h) (sym is)
          (λ did. only-does J (act.Stop 2) reply.Done h tt (λ may. may)
          (as-new _ _ did (from-called (Does (act.Stop 2) reply.Done) (spool.Stop Receiver)
          (record { loads = λ found are. are; newest = refl; causes = none-before (act.Stop 2) reply.Done }) refl refl refl)))
      stop-did b (inr is) =
          subst (λ b. (new ≡ job_with_stop b old) × (has ≡ had) → Performed J Stood (act.Stop b) reply.Done h) (sym is)
          (λ did. only-does J (act.Stop 3) reply.Done h tt (λ may. may)
          (as-new _ _ did (to-called (Does (act.Stop 3) reply.Done) (spool.Stop Sender)
          (record { loads = λ found are. are; newest = refl; causes = none-before (act.Stop 3) reply.Done }) refl refl refl)))

      -- a page that was taken, and work, also where the memory for it was refused
      took-page : (page : Page) (last : Bool) → (new ≡ record old { cards = after_call old.cards (spool.Take page.0 last) }) × (has ≡ had)
          → Performed J Stood act.TakePage (reply.Page page last) h
      took-page page last did = record {
        fits = tt;
        done = as-new _ _ did (from-called (Does act.TakePage (reply.Page page last)) (spool.Take page.0 last)
            (record { loads = λ found are. are; newest = refl; causes = none-before act.TakePage (reply.Page page last) }) refl refl refl);
        lacks = λ may. as-new _ _ did (from-called (LacksMemory act.TakePage (reply.Page page last)) (spool.Take page.0 last)
            (record { loads = λ found are. are; newest = refl; causes = λ none. or-none (caused h) _ none }) refl refl refl);
      }

      worked : (new ≡ old) × (has ≡ had) → Performed J Stood act.Local reply.Done h
      worked did = record {
        fits = tt;
        done = as-new _ old did (uncalled (Does act.Local reply.Done)
            (record { loads = λ found are. are; newest = refl; causes = none-before act.Local reply.Done }) refl refl refl);
        lacks = λ may. as-new _ old did (uncalled (LacksMemory act.Local reply.Done)
            (record { loads = λ found are. are; newest = refl; causes = λ none. or-none (caused h) _ none }) refl refl refl);
      }

      pub job-did : (a : Action) (r : Reply L) → does_job a → JobMade J loader old had new has a r → Performed J Stood a r h
      job-did act.AwaitItem reply.Done does did =
          only-does J act.AwaitItem reply.Done h tt (λ may. may)
          (as-new _ _ did (from-called (Does act.AwaitItem reply.Done) (spool.Await Receiver)
          (record { loads = λ found are. are; newest = refl; causes = none-before act.AwaitItem reply.Done }) refl refl refl))
      job-did act.AwaitItem reply.Stopped does did =
          only-does J act.AwaitItem reply.Stopped h tt (λ may. may)
          (as-new _ _ did (from-called (Does act.AwaitItem reply.Stopped) (spool.AwaitRefused Receiver)
          (record { loads = λ found are. are; newest = refl; causes = none-before act.AwaitItem reply.Stopped }) refl refl refl))
      job-did act.AwaitRoom reply.Done does did =
          only-does J act.AwaitRoom reply.Done h tt (λ may. may)
          (as-new _ _ did (to-called (Does act.AwaitRoom reply.Done) (spool.Await Sender)
          (record { loads = λ found are. are; newest = refl; causes = none-before act.AwaitRoom reply.Done }) refl refl refl))
      job-did act.AwaitRoom reply.Stopped does did =
          only-does J act.AwaitRoom reply.Stopped h tt (λ may. may)
          (as-new _ _ did (to-called (Does act.AwaitRoom reply.Stopped) (spool.AwaitRefused Sender)
          (record { loads = λ found are. are; newest = refl; causes = none-before act.AwaitRoom reply.Stopped }) refl refl refl))
      job-did act.Request reply.Done does did =
          only-does J act.Request reply.Done h tt (λ may. may)
          (at-desk (Does act.Request reply.Done) true
          (record { loads = λ found are. are; newest = refl; causes = none-before act.Request reply.Done }) refl refl refl did.0 did.1 did.2)
      job-did act.TakePage (reply.Page page last) does did = took-page page last did
      job-did act.TakePage reply.Failed does did =
          only-does J act.TakePage reply.Failed h tt (λ may. may)
          (as-new _ _ did (from-called (Does act.TakePage reply.Failed) spool.TakeFailed
          (record { loads = λ found are. are; newest = refl; causes = none-before act.TakePage reply.Failed }) refl refl refl))
      job-did (act.PutPage page) reply.Done does did =
          only-does J (act.PutPage page) reply.Done h tt (λ may. may)
          (as-new _ _ did (to-called (Does (act.PutPage page) reply.Done) (spool.Put page.0)
          (record { loads = λ found are. are; newest = refl; causes = none-before (act.PutPage page) reply.Done }) refl refl refl))
      job-did (act.PutPage page) reply.Failed does did =
          only-does J (act.PutPage page) reply.Failed h tt (λ may. may)
          (as-new _ _ did (to-called (Does (act.PutPage page) reply.Failed) (spool.PutFailed page.0)
          (record { loads = λ found are. are; newest = refl; causes = none-before (act.PutPage page) reply.Failed }) refl refl refl))
      job-did (act.Load file) r does did =
          let load = did.2 in
          only-does J (act.Load file) r h (load-fits jobs (loader.found old.files) file r load.loads) (load-lacks file r)
          (as-new (Does (act.Load file) r ∷ h) (record old { files = new.files }) (did.0, did.1) record {
            from_gate = ran.from_gate;
            from_calls = ran.from_calls;
            to_gate = ran.to_gate;
            to_calls = ran.to_calls;
            disk = ran.disk;
            desk = ran.desk;
            files = file-loaded jobs start.files old.files new.files h file r ran.files load.loads load.failed load.counts load.found load.left load.sound;
          })
      job-did act.Release reply.Done does did =
          only-does J act.Release reply.Done h tt (λ may. may)
          (at-desk (Does act.Release reply.Done) false
          (record { loads = λ found are. are; newest = refl; causes = none-before act.Release reply.Done }) refl refl refl did.0 did.1 did.2)
      job-did act.Local reply.Done does did = worked did
      job-did (act.Stop b) reply.Done does did = stop-did b does did
      job-did (act.Ended how) reply.Done does did =
          only-does J (act.Ended how) reply.Done h tt (λ may. may)
          (as-new (Does (act.Ended how) reply.Done ∷ h) old did (uncalled (Does (act.Ended how) reply.Done)
          (record { loads = λ found are. are; newest = refl; causes = none-before (act.Ended how) reply.Done }) refl refl refl))
      job-did a r does did = absurd did

  -- ---- behind a history of its side
  module _ {F A B : Type 0} {loader : FileTells L F} {from_size : A → ℕ} {to_size : B → ℕ} (start old : JobSide F A B) (had : Option Pass) (h : List (Entry L))
      (a : Action) (ran : JobRan loader from_size to_size start old had h)
      (follows : Follows J (job J) h) (next : next_action (job J) h ≡ Some a) where
    pub job-may_next : JobMayMake loader.IsSound from_size to_size old had a
    job-may_next = job-may loader from_size to_size start old had h follows ran a (job-does jobs h a follows next) next

    pub job-did_next : (new : JobSide F A B) (has : Option Pass) (r : Reply L) → JobMade J loader old had new has a r → Performed J
        (JobRan loader from_size to_size start new has) a r h
    job-did_next new has r did = job-did loader from_size to_size start old had h follows ran new has a r (job-does jobs h a follows next) did

  pub job-without : {F A B : Type 0} {loader : FileTells L F} {from_size : A → ℕ} {to_size : B → ℕ} {start now : JobSide F A B} (pass : Option Pass) (h : List
      (Entry L)) (how : Outcome) → JobRan loader from_size to_size start now pass h → Follows J (job J) h
      → newest h ≡ Some (act.Ended how) → pass ≡ None
  job-without {now = now} pass h how ran follows last = ended-without J (job J) h how now.disk.now now.seat pass (job-relay jobs) follows last ran.desk.1
