-- What files of which one more is loaded have become.
use Rattle.std.proofs.Common.{◌≡◌, ◌≢◌, ◌≤◌, ℕ, List, [], ◌∷◌, map, Option, None, Some, refl, sym, ◌∙◌, ap, arith}
use Rattle.solo_devices.specs.Count.{Rose}
use Rattle.batch_procs.specs.declared.actions.Action.{Action}
use Rattle.batch_procs.specs.declared.actions.Action.TheVariants as act
use Rattle.batch_procs.specs.declared.actions.Reply.{Reply}
use Rattle.batch_procs.specs.declared.actions.Reply.TheVariants as reply
use Rattle.batch_procs.specs.Parcels.{loads}
use Rattle.batch_procs.specs.Fits.{Fits}
use Rattle.batch_procs.specs.Loads.{AnswersLoad}
use Rattle.batch_procs.specs.History.{Entry, Does, LacksMemory, Delays, taken_by}
use Rattle.batch_procs.specs.Causes.{caused, given_cause}
use Rattle.batch_procs.specs.Parts.{some-same}
use Rattle.batch_procs.specs.Process.{Process, Follows}
use Rattle.core_law.specs.FilesLoaded.{file_loaded, AreLoadedSo}
use Rattle.core_law.proofs.Loading.{card-loads, lack-loads, loaded-more}
use Rattle.batch_sides.specs.Files.{FileTells, AreLoadedAs, FilesRan}
use Rattle.batch_sides.proofs.Decks.{new-none, rose-later}
use Rattle.batch_procs.specs.Jobs.{Jobs, FilesAs, AreJobs}

module _ {L : Type 0} {J : Jobs L} (jobs : AreJobs J) where
  -- ---- one load
  loaded-as : (files : FilesAs L) (file : List ℕ) (r : Reply L) (h : List (Entry L)) (found : Option (FilesAs L)) → found ≡ Some files
      → AnswersLoad J found file r → AreLoadedAs files h → AreLoadedAs files (Does (act.Load file) r ∷ h)
  loaded-as files file (reply.Loaded load) h found told answers before = (answers.1 files told, before)
  loaded-as files file reply.Failed h found told answers before = before
  loaded-as files file reply.NoMemory h found told answers before = before
  loaded-as files file r h found told answers before = absurd answers

  pub load-fits : (found : Option (FilesAs L)) (file : List ℕ) (r : Reply L) → AnswersLoad J found file r → Fits J (act.Load file) r
  load-fits found file (reply.Loaded load) answers = answers.0
  load-fits found file reply.Failed answers = tt
  load-fits found file reply.NoMemory answers = tt
  load-fits found file r answers = absurd answers

  none-failed : (file : List ℕ) (h : List (Entry L)) (r : Reply L) → given_cause (act.Load file) r h ≡ None → r ≢ reply.Failed
  none-failed file h r none is = (let e = ap (λ r. given_cause (act.Load file) r h) (sym is) ∙ none in cc)

  module _ {F : Type 0} {loader : FileTells L F} (start old new : F) (h : List (Entry L)) (file : List ℕ) (r : Reply L) where
    pub file-loaded : FilesRan loader start old h → AnswersLoad J (loader.found old) file r
        → (r ≡ reply.Failed → Rose (loader.faults old) (loader.faults new)) → loader.faults old ≤ loader.faults new
        → loader.found new ≡ loader.found old → loader.pages new ≡ loader.pages old → (r ≢ reply.Failed → loader.IsSound new)
        → FilesRan loader start new (Does (act.Load file) r ∷ h)
    file-loaded ran answers failed counts same left sound = record {
      stay = left ∙ ran.stay;
      found_stay = same ∙ ran.found_stay;
      loads = λ files told. loaded-as files file r h (loader.found old) (ran.found_stay ∙ told) answers (ran.loads files told);
      counts = let later = ran.counts in omega (arith, later, counts);
      failed = λ is. rose-later (loader.faults start) (loader.faults old) (loader.faults new) ran.counts (failed (some-same r reply.Failed is));
      sound = λ none. sound (none-failed file h r (new-none (caused h) (given_cause (act.Load file) r h) none));
    }

  -- ---- all that a history loaded
  module _ (found : FilesAs L) where
    one-loaded : (a : Action) (r : Reply L) (h : List (Entry L)) → Fits J a r → AreLoadedAs found (Does a r ∷ h)
        → (loads (taken_by r) ≡ map found (file_loaded (Does a r))) × AreLoadedAs found h
    one-loaded (act.Load file) (reply.Loaded load) h fits (is, before) = (ap (λ load. load ∷ []) is, before)
    one-loaded (act.Load file) reply.Failed h fits before = (refl, before)
    one-loaded (act.Load file) reply.NoMemory h fits before = (refl, before)
    one-loaded (act.Load file) r h fits before = absurd fits
    one-loaded act.ReadCard (reply.Card answer) h fits before = (card-loads jobs answer, before)
    one-loaded act.TakeFeed (reply.Feed f) h fits before = (refl, before)
    one-loaded act.TakePage (reply.Page page last) h fits before = (refl, before)
    one-loaded a reply.Done h fits before = (refl, before)
    one-loaded a reply.Stopped h fits before = (refl, before)
    one-loaded a reply.Failed h fits before = (refl, before)
    one-loaded a reply.NoMemory h fits before = (refl, before)
    one-loaded a r h fits before = absurd fits

    pub all-loaded : (p : Process L) (h : List (Entry L)) → Follows J p h → AreLoadedAs found h → AreLoadedSo found h
    all-loaded p [] follows loaded = refl
    all-loaded p (Does a r ∷ h) follows loaded =
        let (one, before) = one-loaded a r h follows.1 loaded in
        loaded-more jobs found (Does a r) h one (all-loaded p h follows.2 before)
    all-loaded p (LacksMemory a r ∷ h) follows loaded =
        loaded-more jobs found (LacksMemory a r) h (lack-loads jobs a r follows.1.1) (all-loaded p h follows.2 loaded)
    all-loaded p (Delays a ∷ h) follows loaded = loaded-more jobs found (Delays a) h refl (all-loaded p h follows.2 loaded)
