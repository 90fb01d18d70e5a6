-- The files of the job process behind one entry more.
use Rattle.std.proofs.Common.{◌≡◌, ◌⊎◌, inl, inr, ℕ, List, [], ◌∷◌, ◌++◌, Option, None, Some, refl, sym, ◌∙◌, ap, subst}
use Rattle.std.proofs.lemmas.List.{append-nil}
use Rattle.solo_base.specs.declared.outcome.Outcome.{Outcome}
use Rattle.solo_base.specs.declared.outcome.Outcome.TheVariants as outcome
use Rattle.solo_base.specs.declared.outcome.Cause.TheVariants as cause
use Rattle.place_law.specs.Process.{Does, LacksMemory, place, caused, or_new, given_cause}
use Rattle.place_law.proofs.Nexts.{or-none}
use Rattle.solo_law.specs.Work.{Given, Work, Need}
use Rattle.solo_law.specs.Actions.{Action, Reply}
use Rattle.solo_law.specs.Actions as act
use Rattle.solo_law.specs.JobPlaces.{job, Toils}
use Rattle.solo_law.specs.Replies.{view}
use Rattle.solo_law.specs.Told.{begun, begun_by}
use Rattle.solo_law.specs.Solo.{SoloEntry}
use Rattle.solo_threads.specs.Threads.{Deed, entries}
use Rattle.solo_procs.specs.Said.{said}
use Rattle.solo_procs.specs.declared.actions.SoloAction.TheVariants as say
use Rattle.solo_procs.specs.declared.actions.SoloReply.{SoloReply}
use Rattle.solo_run.specs.Files.{RefusedWork, FilesLed}
use Rattle.solo_run.specs.Running.{DidSo}

-- nothing was begun by another action
begun-none : (a : Action) (r : Reply) → (said a ≡ say.Work → ⊥) → begun_by a r ≡ []
begun-none (act.Works work) r not = absurd (not refl)
begun-none act.Accept r not = refl
begun-none (act.Display line) r not = refl
begun-none act.ReadCard r not = refl
begun-none (act.Print line) r not = refl
begun-none (act.PutArg b x) r not = refl
begun-none (act.TakeArg b) r not = refl
begun-none (act.PutPage b page) r not = refl
begun-none (act.TakePage b) r not = refl
begun-none (act.Stop b) r not = refl
begun-none (act.Ended how) r not = refl

begun-same : (a : Action) (r : Reply) (h : List SoloEntry) → (said a ≡ say.Work → ⊥) → begun h ≡ begun (Does a r ∷ h)
begun-same a r h not = sym (ap (λ more. begun h ++ more) (begun-none a r not) ∙ append-nil (begun h))

-- an earlier cause stays
stays : (old new : Option Outcome) (how : Outcome) → old ≡ Some how → or_new old new ≡ Some how
stays old new how e = ap (λ old. or_new old new) e

module _ {F : Type 0} (leads passes : List Given → F → Type 0) (now : F) where
  later-still : (entry : SoloEntry) (h : List SoloEntry) → RefusedWork passes now h → RefusedWork passes now (entry ∷ h)
  later-still entry h broke = record {
    later = entry ∷ broke.later;
    work = broke.work;
    before = broke.before;
    is = ap (λ h. entry ∷ h) broke.is;
    free = broke.free;
    at = broke.at;
    passed = broke.passed;
  }

  -- ---- an entry by which nothing began
  led-still : (entry : SoloEntry) (h : List SoloEntry) (new : Option Outcome) → caused view job (entry ∷ h) ≡ or_new (caused view job h) new
      → begun h ≡ begun (entry ∷ h) → FilesLed leads passes now h → FilesLed leads passes now (entry ∷ h)
  led-still entry h new why same is = record {
    led = λ none. subst (λ givens. leads givens now) same (is.led (or-none (caused view job h) new (sym why ∙ none)));
    passed = λ not. elim (is.passed (λ e. not (why ∙ stays (caused view job h) new (outcome.Fault cause.DiskFault) e)))
        as (λ _. passes (begun (entry ∷ h)) now ⊎ RefusedWork passes now (entry ∷ h)) [
          | inl came ↦ inl (subst (λ givens. passes givens now) same came)
          | inr broke ↦ inr (later-still entry h broke)
        ];
  }

  pub led-too : {p : ℕ} {Ran : List Deed → Type 0} {before : List Deed} {a : Action} {reply : SoloReply} → (said a ≡ say.Work → ⊥)
      → FilesLed leads passes now (entries before) → DidSo p Ran before a reply
      → DidSo p (λ deeds. Ran deeds × FilesLed leads passes now (entries deeds)) before a reply
  led-too {before = before} {a = a} not is did =
      let h = entries before in
      record {
        answer = did.answer;
        gained = did.gained;
        fits = did.fits;
        plain = did.plain;
        ran = (
          did.ran,
          led-still (Does a did.answer) h (given_cause view job (place job h) a did.answer) refl (begun-same a did.answer h not) is,
        );
        lacks = λ can may. (
          did.lacks can may,
          led-still (LacksMemory a did.answer) h (Some (outcome.Fault cause.NoMemory)) refl refl is,
        );
      }

-- ---- a piece of work
cause-failed : (work : Work) (h : List SoloEntry) → caused view job h ≡ None
    → caused view job (Does (act.Works work) act.Failed ∷ h) ≡ Some (outcome.Fault cause.DiskFault)
cause-failed work h none = rw none refl

cause-lacking : (work : Work) (h : List SoloEntry) → caused view job h ≡ None
    → caused view job (Does (act.Works work) act.NoMemory ∷ h) ≡ Some (outcome.Fault cause.NoMemory)
cause-lacking work h none = rw none refl

module _ {F : Type 0} (leads passes : List Given → F → Type 0) (now : F) (h : List SoloEntry) (work : Work) (free : caused view job h ≡ None) where
  abbrev Behind : Reply → Type 0
  Behind answer = FilesLed leads passes now (Does (act.Works work) answer ∷ h)

  pub led-found : (need : Need) → leads (begun h ++ work.given ∷ []) now → passes (begun h ++ work.given ∷ []) now → Behind (act.Found need)
  led-found need led passed = record { led = λ none. led; passed = λ not. inl passed }

  pub led-failed : Behind act.Failed
  led-failed = record {
    led = λ none. absurd (let some = cause-failed work h free in cc);
    passed = λ not. absurd (not (cause-failed work h free));
  }

  pub led-lacking : place job h ≡ Toils work → passes (begun h ++ work.given ∷ []) now → Behind act.NoMemory
  led-lacking at passed = record {
    led = λ none. absurd (let some = cause-lacking work h free in cc);
    passed = λ not. inr record { later = []; work = work; before = h; is = refl; free = free; at = at; passed = passed };
  }

-- ---- its beginning, and whatever its commands are at the end
pub led-first : {F : Type 0} (leads passes : List Given → F → Type 0) (now : F) → leads [] now → passes [] now → FilesLed leads passes now []
led-first leads passes now led passed = record { led = λ none. led; passed = λ not. inl passed }

pub led-weaker : {F : Type 0} (leads others passes : List Given → F → Type 0) (now : F) (h : List SoloEntry)
    → ((givens : List Given) → leads givens now → others givens now) → FilesLed leads passes now h → FilesLed others passes now h
led-weaker leads others passes now h weaker is = record { led = λ none. weaker (begun h) (is.led none); passed = is.passed }
