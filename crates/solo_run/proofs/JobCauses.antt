-- Which entries of the job process are no cause of its devices' and files' own.
use Rattle.std.proofs.Common.{◌≡◌, inl, inr, ℕ, Option, None, Some, Result, Ok, Err, refl, sym, ◌∙◌, ap}
use Rattle.solo_base.specs.declared.page.Page.{Page}
use Rattle.solo_base.specs.declared.outcome.Outcome.{Outcome}
use Rattle.solo_base.specs.declared.outcome.Outcome.TheVariants as outcome
use Rattle.solo_base.specs.declared.outcome.Cause.TheVariants as cause
use Rattle.solo_devices.specs.Count.{Rose}
use Rattle.page_codec.specs.declared.judge.BadPage.{BadPage}
use Rattle.page_codec.specs.Reading.{PageContent}
use Rattle.exchange_law.specs.Pages.{damage}
use Rattle.place_law.specs.Process.{fault_in, or_new}
use Rattle.place_law.proofs.Nexts.{or-none}
use Rattle.place_law.proofs.Given.{or-either}
use Rattle.solo_law.specs.Actions.{Reply}
use Rattle.solo_law.specs.Actions as act
use Rattle.solo_law.specs.JobPlaces.{JobPlace, job_finds}
use Rattle.solo_law.specs.JobPlaces as at
use Rattle.solo_run.specs.Job.{FilesRan}

pub finds-nothing : (place : JobPlace) (r : Reply) → ((page : Page) → r ≡ act.OfPage page → ⊥) → job_finds place r ≡ None
finds-nothing (at.TakesCards taken items pages) (act.OfPage page) not = absurd (not page refl)
finds-nothing (at.TakesCards taken items pages) act.Done not = refl
finds-nothing (at.TakesCards taken items pages) act.Stopped not = refl
finds-nothing (at.TakesCards taken items pages) act.Failed not = refl
finds-nothing (at.TakesCards taken items pages) act.NoMemory not = refl
finds-nothing (at.TakesCards taken items pages) (act.OfCard answer) not = refl
finds-nothing (at.TakesCards taken items pages) (act.OfArg x) not = refl
finds-nothing (at.TakesCards taken items pages) (act.Found need) not = refl
finds-nothing at.Listens r not = refl
finds-nothing (at.Toils work) r not = refl
finds-nothing (at.OrdersCards pages) r not = refl
finds-nothing (at.TakesReport items pages) r not = refl
finds-nothing (at.Accepts pages) r not = refl
finds-nothing (at.Displays line pages) r not = refl
finds-nothing (at.OrdersPrinter page behind) r not = refl
finds-nothing (at.PutsPage page behind pages) r not = refl
finds-nothing (at.TakesPrinted lines) r not = refl
finds-nothing (at.AnswersLine line later) r not = refl
finds-nothing at.DismissesInput r not = refl
finds-nothing at.DismissesOutput r not = refl
finds-nothing at.HasLeft r not = refl

pub quiet : (place : JobPlace) (r : Reply) (how : Outcome) → ((page : Page) → r ≡ act.OfPage page → ⊥) → fault_in (job_finds place r) ≡ Some how → ⊥
quiet place r how not e = (let none = ap fault_in (finds-nothing place r not) in let no = sym none ∙ e in cc)

-- ---- a page that was taken is damaged or isn't
pub data IsDamage : Option Outcome → Type 0 where
  Sound : IsDamage None
  Hurt : (bad : BadPage) → IsDamage (Some (outcome.Fault (cause.Damaged bad.expected bad.found bad.at)))

damage-is : (content : Result PageContent BadPage) → IsDamage (fault_in (damage content))
damage-is (Ok content) = Sound
damage-is (Err bad) = Hurt bad

page-is : (place : JobPlace) (page : Page) → IsDamage (fault_in (job_finds place (act.OfPage page)))
page-is (at.TakesCards taken items pages) page = damage-is _
page-is at.Listens page = Sound
page-is (at.Toils work) page = Sound
page-is (at.OrdersCards pages) page = Sound
page-is (at.TakesReport items pages) page = Sound
page-is (at.Accepts pages) page = Sound
page-is (at.Displays line pages) page = Sound
page-is (at.OrdersPrinter place behind) page = Sound
page-is (at.PutsPage place behind pages) page = Sound
page-is (at.TakesPrinted lines) page = Sound
page-is (at.AnswersLine line later) page = Sound
page-is at.DismissesInput page = Sound
page-is at.DismissesOutput page = Sound
page-is at.HasLeft page = Sound

not-read : (why : Option Outcome) → IsDamage why → why ≡ Some (outcome.Fault cause.ReadFault) → ⊥
not-read None is e = cc
not-read (Some how) (Hurt bad) e = cc

not-limit : (why : Option Outcome) → IsDamage why → why ≡ Some (outcome.Fault cause.DeckLimit) → ⊥
not-limit None is e = cc
not-limit (Some how) (Hurt bad) e = cc

not-console : (why : Option Outcome) → IsDamage why → why ≡ Some (outcome.Fault cause.ConsoleFault) → ⊥
not-console None is e = cc
not-console (Some how) (Hurt bad) e = cc

not-disk : (why : Option Outcome) → IsDamage why → why ≡ Some (outcome.Fault cause.DiskFault) → ⊥
not-disk None is e = cc
not-disk (Some how) (Hurt bad) e = cc

pub page-read : (place : JobPlace) (page : Page) → fault_in (job_finds place (act.OfPage page)) ≡ Some (outcome.Fault cause.ReadFault) → ⊥
page-read place page e = not-read _ (page-is place page) e

pub page-limit : (place : JobPlace) (page : Page) → fault_in (job_finds place (act.OfPage page)) ≡ Some (outcome.Fault cause.DeckLimit) → ⊥
page-limit place page e = not-limit _ (page-is place page) e

pub page-console : (place : JobPlace) (page : Page) → fault_in (job_finds place (act.OfPage page)) ≡ Some (outcome.Fault cause.ConsoleFault) → ⊥
page-console place page e = not-console _ (page-is place page) e

pub page-disk : (place : JobPlace) (page : Page) → fault_in (job_finds place (act.OfPage page)) ≡ Some (outcome.Fault cause.DiskFault) → ⊥
page-disk place page e = not-disk _ (page-is place page) e

-- ---- the files
pub files-still : {F : Type 0} (sound : F → Type 0) (faults : F → ℕ) (start now : F) (why extra : Option Outcome)
    → (extra ≡ Some (outcome.Fault cause.DiskFault) → ⊥) → FilesRan sound faults start now why → FilesRan sound faults start now (or_new why extra)
files-still sound faults start now why extra not ran = record {
  sound_now = λ e. ran.sound_now (or-none why extra e);
  failed = λ e. elim (or-either why extra (outcome.Fault cause.DiskFault) e) as (λ _. Rose (faults start) (faults now)) [
    | inl new ↦ absurd (not new.1)
    | inr old ↦ ran.failed old
  ];
  counts = ran.counts;
}
