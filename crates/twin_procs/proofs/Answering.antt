-- What a reply is to a process at its place.
use Rattle.std.proofs.Common.{◌≡◌, Bool, true, false, Option, None, Some, Result, Ok, Err, refl, sym, ◌∙◌, ap, subst}
use Rattle.std.specs.Prelude.{IfOk, OnErr}
use Rattle.solo_base.specs.declared.item.Feed.{Feed}
use Rattle.solo_base.specs.declared.page.Page.{Page}
use Rattle.solo_base.specs.declared.no_memory.NoMemory.{NoMemory}
use Rattle.solo_base.specs.declared.outcome.Outcome.{Outcome}
use Rattle.solo_base.specs.declared.outcome.Outcome.TheVariants as outcome
use Rattle.solo_base.specs.declared.outcome.Cause.TheVariants as cause
use Rattle.solo_devices.specs.declared.card_read.CardRead.{CardRead}
use Rattle.batch_procs.specs.declared.actions.Reply.{Reply}
use Rattle.batch_procs.specs.declared.actions.Reply.TheVariants as reply
use Rattle.batch_procs.specs.declared.round.Step.{Step}
use Rattle.batch_procs.specs.declared.round.Step.TheVariants as step
use Rattle.twin_law.specs.Process.{Action, ReadCard, PutFeed, TakeFeed, AwaitRoom, AwaitItem, Request, PutPage, TakePage, Load, Release, Local, Print, Stop, Ended, Aim, Reads, PutsFeed, TakesFeed, PutsPage, TakesPage, Loads, Works, Prints, Finishes, Process, fault_at, given_cause, stands_behind, begins, moves}
use Rattle.twin_law.specs.Twin.{Fits, MayLack}
use Rattle.twin_procs.specs.declared.actions.TwinAction.{TwinAction}
use Rattle.twin_procs.specs.Said.{said, changes_said, fault_said}
use Rattle.twin_procs.specs.Machine.{makes_at, IsDone, IsAtWork, IsHanded, IsPage, handed_cause, TakesSo, IsClosing, IsUsedSo, Answers}

fault-said : (a : Action) → fault_said (said a) ≡ fault_at a
fault-said ReadCard = refl
fault-said (PutFeed b f) = refl
fault-said (TakeFeed b) = refl
fault-said (AwaitRoom b) = refl
fault-said (AwaitItem b) = refl
fault-said Request = refl
fault-said (PutPage b page) = refl
fault-said (TakePage b) = refl
fault-said (Load file) = refl
fault-said Release = refl
fault-said Local = refl
fault-said (Print line) = refl
fault-said (Stop b) = refl
fault-said (Ended how) = refl

closing-keeps : (a : Action) → IsClosing a → changes_said (said a) ≡ false
closing-keeps Release kind = refl
closing-keeps (Stop b) kind = refl
closing-keeps (Ended how) kind = refl
closing-keeps a kind = absurd kind

-- a call of one that closes down is done, and no other reply fits it
closing-done : {L : Type 0} (a : Action) (r : Reply L) → IsClosing a → Fits a r → (r ≡ reply.Done → ⊥) → ⊥
closing-done Release reply.Done kind fits not = not refl
closing-done Release r kind fits not = fits
closing-done (Stop b) reply.Done kind fits not = not refl
closing-done (Stop b) r kind fits not = fits
closing-done (Ended how) reply.Done kind fits not = not refl
closing-done (Ended how) r kind fits not = fits
closing-done a r kind fits not = kind

module _ {L : Type 0} (p : Process L) (at : p.Place) where
  -- ---- an action is done: the process goes on, or stays where it is
  begins-changes : (m : Aim) → Fits {L = L} (begins m) reply.Done → changes_said (said (begins m)) ≡ true
      → IsDone m × (stands_behind p at (begins m) reply.Done ≡ p.behind at reply.Done)
  begins-changes Reads fits e = absurd fits
  begins-changes (PutsFeed b f) fits e = (tt, refl)
  begins-changes (TakesFeed b) fits e = absurd fits
  begins-changes (PutsPage b page) fits e = absurd cc
  begins-changes (TakesPage b) fits e = absurd cc
  begins-changes (Loads file) fits e = absurd cc
  begins-changes Works fits e = (tt, refl)
  begins-changes (Prints line) fits e = (tt, refl)
  begins-changes Finishes fits e = absurd cc

  moves-changes : (m : Aim) → Fits {L = L} (moves m) reply.Done → changes_said (said (moves m)) ≡ true
      → IsDone m × (stands_behind p at (moves m) reply.Done ≡ p.behind at reply.Done)
  moves-changes Reads fits e = absurd cc
  moves-changes (PutsFeed b f) fits e = absurd cc
  moves-changes (TakesFeed b) fits e = absurd cc
  moves-changes (PutsPage b page) fits e = (tt, refl)
  moves-changes (TakesPage b) fits e = absurd fits
  moves-changes (Loads file) fits e = absurd fits
  moves-changes Works fits e = absurd cc
  moves-changes (Prints line) fits e = absurd cc
  moves-changes Finishes fits e = absurd cc

  done-changes : (s : Step) (m : Aim) → Fits {L = L} (makes_at s m) reply.Done → changes_said (said (makes_at s m)) ≡ true
      → IsDone m × (stands_behind p at (makes_at s m) reply.Done ≡ p.behind at reply.Done)
  done-changes step.Free m fits e = begins-changes m fits e
  done-changes step.Awaited m fits e = absurd cc
  done-changes step.Granted m fits e = moves-changes m fits e
  done-changes step.Moved m fits e = absurd cc
  done-changes step.Ended m fits e = begins-changes m fits e

  begins-stays : (m : Aim) → Fits {L = L} (begins m) reply.Done → changes_said (said (begins m)) ≡ false → stands_behind p at (begins m) reply.Done ≡ at
  begins-stays Reads fits e = absurd fits
  begins-stays (PutsFeed b f) fits e = absurd cc
  begins-stays (TakesFeed b) fits e = absurd fits
  begins-stays (PutsPage b page) fits e = refl
  begins-stays (TakesPage b) fits e = refl
  begins-stays (Loads file) fits e = refl
  begins-stays Works fits e = absurd cc
  begins-stays (Prints line) fits e = absurd cc
  begins-stays Finishes fits e = refl

  moves-stays : (m : Aim) → Fits {L = L} (moves m) reply.Done → changes_said (said (moves m)) ≡ false → stands_behind p at (moves m) reply.Done ≡ at
  moves-stays Reads fits e = refl
  moves-stays (PutsFeed b f) fits e = refl
  moves-stays (TakesFeed b) fits e = refl
  moves-stays (PutsPage b page) fits e = absurd cc
  moves-stays (TakesPage b) fits e = absurd fits
  moves-stays (Loads file) fits e = absurd fits
  moves-stays Works fits e = refl
  moves-stays (Prints line) fits e = refl
  moves-stays Finishes fits e = refl

  done-stays : (s : Step) (m : Aim) → Fits {L = L} (makes_at s m) reply.Done → changes_said (said (makes_at s m)) ≡ false
      → stands_behind p at (makes_at s m) reply.Done ≡ at
  done-stays step.Free m fits e = begins-stays m fits e
  done-stays step.Awaited m fits e = refl
  done-stays step.Granted m fits e = moves-stays m fits e
  done-stays step.Moved m fits e = refl
  done-stays step.Ended m fits e = begins-stays m fits e

  -- it may lack memory where it works
  work-lacks : (s : Step) (m : Aim) → changes_said (said (makes_at s m)) ≡ true → IsAtWork m → MayLack {L = L} (makes_at s m) reply.Done
  work-lacks step.Free Works e is = tt
  work-lacks step.Ended Works e is = tt
  work-lacks step.Granted Works e is = absurd cc
  work-lacks step.Awaited Works e is = absurd cc
  work-lacks step.Moved Works e is = absurd cc
  work-lacks s m e is = absurd is

  -- ---- something is handed over
  pub record Hands (m : Aim) (a : Action) (r : Reply L) : Type 0 where
    pub handed : IsHanded m r
    pub behind : stands_behind p at a r ≡ p.behind at r
    pub cause : given_cause p at a r ≡ handed_cause p at r

  begins-card : (m : Aim) (c : CardRead) → Fits {L = L} (begins m) (reply.Card c) → Hands m (begins m) (reply.Card c)
  begins-card Reads c fits = record { handed = tt; behind = refl; cause = refl }
  begins-card m c fits = absurd fits

  moves-card : (m : Aim) (c : CardRead) → Fits {L = L} (moves m) (reply.Card c) → Hands m (moves m) (reply.Card c)
  moves-card Reads c fits = absurd fits
  moves-card m c fits = absurd fits

  hands-card : (s : Step) (m : Aim) (c : CardRead) → Fits {L = L} (makes_at s m) (reply.Card c) → Hands m (makes_at s m) (reply.Card c)
  hands-card step.Free m c fits = begins-card m c fits
  hands-card step.Awaited m c fits = absurd fits
  hands-card step.Granted m c fits = moves-card m c fits
  hands-card step.Moved m c fits = absurd fits
  hands-card step.Ended m c fits = begins-card m c fits

  begins-feed : (m : Aim) (f : Feed) → Fits {L = L} (begins m) (reply.Feed f) → Hands m (begins m) (reply.Feed f)
  begins-feed (TakesFeed b) f fits = record { handed = tt; behind = refl; cause = refl }
  begins-feed m f fits = absurd fits

  moves-feed : (m : Aim) (f : Feed) → Fits {L = L} (moves m) (reply.Feed f) → Hands m (moves m) (reply.Feed f)
  moves-feed Reads f fits = absurd fits
  moves-feed m f fits = absurd fits

  hands-feed : (s : Step) (m : Aim) (f : Feed) → Fits {L = L} (makes_at s m) (reply.Feed f) → Hands m (makes_at s m) (reply.Feed f)
  hands-feed step.Free m f fits = begins-feed m f fits
  hands-feed step.Awaited m f fits = absurd fits
  hands-feed step.Granted m f fits = moves-feed m f fits
  hands-feed step.Moved m f fits = absurd fits
  hands-feed step.Ended m f fits = begins-feed m f fits

  begins-page : (m : Aim) (page : Page) (last : Bool) → Fits {L = L} (begins m) (reply.Page page last) → Hands m (begins m) (reply.Page page last)
  begins-page Reads page last fits = absurd fits
  begins-page m page last fits = absurd fits

  moves-page : (m : Aim) (page : Page) (last : Bool) → Fits {L = L} (moves m) (reply.Page page last) → Hands m (moves m) (reply.Page page last)
  moves-page (TakesPage b) page last fits = record { handed = tt; behind = refl; cause = refl }
  moves-page m page last fits = absurd fits

  hands-page : (s : Step) (m : Aim) (page : Page) (last : Bool) → Fits {L = L} (makes_at s m) (reply.Page page last)
      → Hands m (makes_at s m) (reply.Page page last)
  hands-page step.Free m page last fits = begins-page m page last fits
  hands-page step.Awaited m page last fits = absurd fits
  hands-page step.Granted m page last fits = moves-page m page last fits
  hands-page step.Moved m page last fits = absurd fits
  hands-page step.Ended m page last fits = begins-page m page last fits

  begins-load : (m : Aim) (load : L) → Fits {L = L} (begins m) (reply.Loaded load) → Hands m (begins m) (reply.Loaded load)
  begins-load Reads load fits = absurd fits
  begins-load m load fits = absurd fits

  moves-load : (m : Aim) (load : L) → Fits {L = L} (moves m) (reply.Loaded load) → Hands m (moves m) (reply.Loaded load)
  moves-load (Loads file) load fits = record { handed = tt; behind = refl; cause = refl }
  moves-load m load fits = absurd fits

  hands-load : (s : Step) (m : Aim) (load : L) → Fits {L = L} (makes_at s m) (reply.Loaded load) → Hands m (makes_at s m) (reply.Loaded load)
  hands-load step.Free m load fits = begins-load m load fits
  hands-load step.Awaited m load fits = absurd fits
  hands-load step.Granted m load fits = moves-load m load fits
  hands-load step.Moved m load fits = absurd fits
  hands-load step.Ended m load fits = begins-load m load fits

-- a reply that hands something over
abbrev pub IsHandedOver : {L : Type 0} → Reply L → Type 0
IsHandedOver (reply.Card answer) = Unit {0}
IsHandedOver (reply.Feed f) = Unit {0}
IsHandedOver (reply.Page page last) = Unit {0}
IsHandedOver (reply.Loaded load) = Unit {0}
IsHandedOver r = ⊥

pub handed-over : {L : Type 0} (r : Reply L) → (r ≡ reply.Done → ⊥) → (r ≡ reply.Stopped → ⊥) → (r ≡ reply.Failed → ⊥) → (r ≡ reply.NoMemory → ⊥)
    → IsHandedOver r
handed-over reply.Done d s f n = absurd (d refl)
handed-over reply.Stopped d s f n = absurd (s refl)
handed-over reply.Failed d s f n = absurd (f refl)
handed-over reply.NoMemory d s f n = absurd (n refl)
handed-over (reply.Card answer) d s f n = tt
handed-over (reply.Feed g) d s f n = tt
handed-over (reply.Page page last) d s f n = tt
handed-over (reply.Loaded load) d s f n = tt

hands : {L : Type 0} (p : Process L) (at : p.Place) (s : Step) (m : Aim) (r : Reply L) → IsHandedOver r → Fits (makes_at s m) r → Hands p at m (makes_at s m) r
hands p at s m (reply.Card c) is fits = hands-card p at s m c fits
hands p at s m (reply.Feed f) is fits = hands-feed p at s m f fits
hands p at s m (reply.Page page last) is fits = hands-page p at s m page last fits
hands p at s m (reply.Loaded load) is fits = hands-load p at s m load fits
hands p at s m r is fits = absurd is

not-done : {L : Type 0} (r : Reply L) → IsHandedOver r → r ≡ reply.Done → ⊥
not-done reply.Done is e = is
not-done (reply.Card c) is e = cc
not-done (reply.Feed f) is e = cc
not-done (reply.Page page last) is e = cc
not-done (reply.Loaded load) is e = cc
not-done r is e = is

page-lacks : {L : Type 0} (a : Action) (r : Reply L) → IsPage r → Fits a r → MayLack a r
page-lacks (TakePage b) (reply.Page page last) is fits = tt
page-lacks a (reply.Page page last) is fits = absurd fits
page-lacks a r is fits = absurd is

module _ {L P : Type 0} (p : Process L) (stands : P → p.Place → Type 0) (old new : P) (action : TwinAction) where
  take-uses : (result : Result (Option Outcome) NoMemory) (at : p.Place) (a : Action) (r : Reply L) → given_cause p at a r ≡ handed_cause p at r
      → stands_behind p at a r ≡ p.behind at r → TakesSo p (stands new) at r result → IfOk result (λ cause. IsUsedSo p (stands new) at a r cause)
  take-uses (Ok cause) at a r gives behind takes = record {
    cause_is = takes.0 ∙ sym gives;
    goes_on = λ none. subst (λ at. stands new at) (sym behind) (takes.1 none);
  }
  take-uses (Err refused) at a r gives behind takes = tt

  take-lacks : (r : Reply L) (result : Result (Option Outcome) NoMemory) → OnErr result ((p.works ≡ true) × IsPage r)
      → OnErr result ((p.works ≡ true) × ((at : p.Place) (s : Step) → stands old at → action ≡ said (makes_at s (p.aims at)) → Fits (makes_at s (p.aims at)) r
      → MayLack (makes_at s (p.aims at)) r))
  take-lacks r (Ok cause) lacks = tt
  take-lacks r (Err refused) lacks = (lacks.0, λ at s here says fits. page-lacks (makes_at s (p.aims at)) r lacks.1 fits)

  pub answers-take : (r : Reply L) (result : Result (Option Outcome) NoMemory) → IsHandedOver r
      → ((at : p.Place) → stands old at → IsHanded (p.aims at) r → TakesSo p (stands new) at r result) → OnErr result ((p.works ≡ true) × IsPage r)
      → Answers p stands old action r result new
  answers-take r result is takes lacks = record {
    uses = λ at s here says fits.
        let handed = hands p at s (p.aims at) r is fits in
        take-uses result at (makes_at s (p.aims at)) r handed.cause handed.behind (takes at here handed.handed);
    closes = λ a kind says fits. absurd (closing-done a r kind fits (not-done r is));
    lacks = take-lacks r result lacks;
  }

  pub answers-stopped : Answers p stands old action reply.Stopped (Ok (Some outcome.Stopped)) new
  answers-stopped = record {
    uses = λ at s here says fits. record { cause_is = refl; goes_on = λ none. absurd cc };
    closes = λ a kind says fits. absurd (closing-done a reply.Stopped kind fits (λ e. cc));
    lacks = tt;
  }

  pub answers-failed : Answers p stands old action reply.Failed (Ok (Some (outcome.Fault (fault_said action)))) new
  answers-failed = record {
    uses = λ at s here says fits. record {
      cause_is = ap (λ c. Some (outcome.Fault c)) (ap fault_said says ∙ fault-said (makes_at s (p.aims at)));
      goes_on = λ none. absurd cc;
    };
    closes = λ a kind says fits. absurd (closing-done a reply.Failed kind fits (λ e. cc));
    lacks = tt;
  }

  pub answers-lacking : Answers p stands old action reply.NoMemory (Ok (Some (outcome.Fault cause.NoMemory))) new
  answers-lacking = record {
    uses = λ at s here says fits. record { cause_is = refl; goes_on = λ none. absurd cc };
    closes = λ a kind says fits. absurd (closing-done a reply.NoMemory kind fits (λ e. cc));
    lacks = tt;
  }

  -- what was aimed at is done
  pub answers-done : changes_said action ≡ true → ((at : p.Place) → stands old at → IsDone (p.aims at) → stands new (p.behind at reply.Done))
      → Answers p stands old action reply.Done (Ok None) new
  answers-done changes done = record {
    uses = λ at s here says fits.
        let on = done-changes p at s (p.aims at) fits (sym (ap changes_said says) ∙ changes) in
        record { cause_is = refl; goes_on = λ none. subst (λ at. stands new at) (sym on.1) (done at here on.0) };
    closes = λ a kind says fits. absurd (let keeps = closing-keeps a kind in let same = ap changes_said says in cc);
    lacks = tt;
  }

  pub answers-refused : changes_said action ≡ true → (refused : NoMemory) → (p.works ≡ true)
      × ((at : p.Place) → stands old at → IsDone (p.aims at) → IsAtWork (p.aims at)) → Answers p stands old action reply.Done (Err refused) new
  answers-refused changes refused lacks = record {
    uses = λ at s here says fits. tt;
    closes = λ a kind says fits. absurd (let keeps = closing-keeps a kind in let same = ap changes_said says in cc);
    lacks = (
      lacks.0,
      λ at s here says fits.
          let on = done-changes p at s (p.aims at) fits (sym (ap changes_said says) ∙ changes) in
          work-lacks p at s (p.aims at) (sym (ap changes_said says) ∙ changes) (lacks.1 at here on.0),
    );
  }

-- another action changes nothing
pub answers-stays : {L P : Type 0} (p : Process L) (stands : P → p.Place → Type 0) (process : P) (action : TwinAction) → changes_said action ≡ false
    → Answers p stands process action reply.Done (Ok None) process
answers-stays p stands process action stays = record {
  uses = λ at s here says fits. record {
    cause_is = refl;
    goes_on = λ none. subst (λ at. stands process at) (sym (done-stays p at s (p.aims at) fits (sym (ap changes_said says) ∙ stays))) here;
  };
  closes = λ a kind says fits. (refl, refl);
  lacks = tt;
}
