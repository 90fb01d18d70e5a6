-- What an entry tells that gave its process no cause, and what one tells that did.
use Rattle.std.proofs.Common.{◌≡◌, ◌≢◌, ◌⊎◌, inl, inr, List, ◌∷◌, Option, None, Some, refl, ap, subst}
use Rattle.solo_base.specs.declared.outcome.Outcome.{Outcome}
use Rattle.solo_base.specs.declared.outcome.Outcome.TheVariants as outcome
use Rattle.solo_base.specs.declared.outcome.Cause.{Cause}
use Rattle.solo_base.specs.declared.outcome.Cause.TheVariants as cause
use Rattle.solo_devices.specs.declared.card_read.CardRead.{CardRead}
use Rattle.solo_devices.specs.declared.card_read.CardRead.TheVariants as read
use Rattle.place_law.specs.Process.{Process, Does, LacksMemory, Delays, action_of, place, caused, given_cause, fault_in, or_new, EntrySuits}
use Rattle.place_law.specs.Ending.{outcome_by}
use Rattle.place_law.proofs.Nexts.{or-none, or-new}
use Rattle.solo_law.specs.Actions.{Action, Reply}
use Rattle.solo_law.specs.Actions as act
use Rattle.solo_law.specs.Replies.{view, Fits, fault_at, fault_read, reply_cause}
use Rattle.solo_law.specs.Solo.{SoloEntry}
use Rattle.solo_net.specs.Replies.{solo_reply_of}
use Rattle.solo_net.specs.Telling.{Displays, SoloPrints}

pub lacking-some : (old : Option Outcome) (how : Outcome) → or_new old (Some how) ≡ None → ⊥
lacking-some None how e = cc
lacking-some (Some other) how e = cc

some-reply : (r s : Reply) → Some r ≡ Some s → r ≡ s
some-reply r s e = cc

-- ---- without a cause
pub record IsFree (p : Process Action Reply) (entry : SoloEntry) (h : List SoloEntry) : Type 0 where
  pub before : caused view p h ≡ None
  pub no_failed : solo_reply_of entry ≢ Some (act.OfCard read.Failed)
  pub no_limit : solo_reply_of entry ≢ Some (act.OfCard read.Limit)
  pub no_failure : solo_reply_of entry ≢ Some act.Failed
  pub no_memory : solo_reply_of entry ≢ Some act.NoMemory

-- the reply by itself is no cause
no-cause : (p : Process Action Reply) (a : Action) (r : Reply) (h : List SoloEntry) → caused view p (Does a r ∷ h) ≡ None → reply_cause a r ≡ None
no-cause p a r h none = or-none (reply_cause a r) _ (or-new (caused view p h) _ none)

pub free-of : (p : Process Action Reply) (entry : SoloEntry) (h : List SoloEntry) → caused view p (entry ∷ h) ≡ None → IsFree p entry h
free-of p (Does a r) h none = record {
  before = or-none (caused view p h) _ none;
  no_failed = λ e.
      (let no : reply_cause a (act.OfCard read.Failed) ≡ None = subst (λ r. reply_cause a r ≡ None) (some-reply r _ e) (no-cause p a r h none) in cc);
  no_limit = λ e.
      (let no : reply_cause a (act.OfCard read.Limit) ≡ None = subst (λ r. reply_cause a r ≡ None) (some-reply r _ e) (no-cause p a r h none) in cc);
  no_failure = λ e. (let no : reply_cause a act.Failed ≡ None = subst (λ r. reply_cause a r ≡ None) (some-reply r _ e) (no-cause p a r h none) in cc);
  no_memory = λ e. (let no : reply_cause a act.NoMemory ≡ None = subst (λ r. reply_cause a r ≡ None) (some-reply r _ e) (no-cause p a r h none) in cc);
}
free-of p (LacksMemory a r) h none = absurd (lacking-some (caused view p h) _ none)
free-of p (Delays a) h none =
    record { before = none; no_failed = λ e. cc; no_limit = λ e. cc; no_failure = λ e. cc; no_memory = λ e. cc }

-- a line that is given to a sink is done then
line-done : (p : Process Action Reply) (a : Action) (r : Reply) (h : List SoloEntry) → Fits a r → (Displays a ⊎ SoloPrints a)
    → IsFree p (Does a r) h → r ≡ act.Done
line-done p (act.Display line) act.Done h fits is free = refl
line-done p (act.Display line) act.Failed h fits is free = absurd (free.no_failure refl)
line-done p (act.Display line) act.NoMemory h fits is free = absurd (free.no_memory refl)
line-done p (act.Display line) r h fits is free = absurd fits
line-done p (act.Print line) act.Done h fits is free = refl
line-done p (act.Print line) act.Failed h fits is free = absurd (free.no_failure refl)
line-done p (act.Print line) act.NoMemory h fits is free = absurd (free.no_memory refl)
line-done p (act.Print line) r h fits is free = absurd fits
line-done p a r h fits (inl shows) free = absurd shows
line-done p a r h fits (inr prints) free = absurd prints

line-waits : (a : Action) → view.MayWait a → (Displays a ⊎ SoloPrints a) → ⊥
line-waits (act.Display line) may is = may
line-waits (act.Print line) may is = may
line-waits a may (inl shows) = shows
line-waits a may (inr prints) = prints

pub given-done : (p : Process Action Reply) (entry : SoloEntry) (h : List SoloEntry) → EntrySuits view p entry → caused view p (entry ∷ h) ≡ None
    → (Displays (action_of entry) ⊎ SoloPrints (action_of entry)) → solo_reply_of entry ≡ Some act.Done
given-done p (Does a r) h suits none is = ap Some (line-done p a r h suits is (free-of p (Does a r) h none))
given-done p (LacksMemory a r) h suits none is = absurd (lacking-some (caused view p h) _ none)
given-done p (Delays a) h suits none is = absurd (line-waits a suits is)

-- ---- with a cause
-- what an entry was told that gave this fault
abbrev pub Told : Cause → Action → Option Reply → Type 0
Told cause.ReadFault a r = ((a ≡ act.ReadCard) ⊎ (a ≡ act.Accept)) × (r ≡ Some (act.OfCard read.Failed))
Told cause.DeckLimit a r = ((a ≡ act.ReadCard) ⊎ (a ≡ act.Accept)) × (r ≡ Some (act.OfCard read.Limit))
Told cause.ConsoleFault a r = Displays a × (r ≡ Some act.Failed)
Told cause.PrintFault a r = SoloPrints a × (r ≡ Some act.Failed)
Told cause.DiskFault a r = (view.Fits a act.Failed) × (Displays a → ⊥) × (SoloPrints a → ⊥) × (r ≡ Some act.Failed)
Told other a r = Unit {0}

same-fault : (c d : Cause) → Some (outcome.Fault c) ≡ Some (outcome.Fault d) → c ≡ d
same-fault c d e = cc

reading : (a : Action) (answer : CardRead) → Fits a (act.OfCard answer) → (a ≡ act.ReadCard) ⊎ (a ≡ act.Accept)
reading act.ReadCard answer fits = inl refl
reading act.Accept answer fits = inr refl
reading a answer fits = absurd fits

module _ (c : Cause) (a : Action) where
  told-read : (answer : CardRead) → Fits a (act.OfCard answer) → fault_in (fault_read answer) ≡ Some (outcome.Fault c) → Told c a (Some (act.OfCard answer))
  told-read (read.Card line) fits e = absurd cc
  told-read read.Spoiled fits e = absurd cc
  told-read read.End fits e = absurd cc
  told-read read.Failed fits e =
      subst (λ c. Told c a (Some (act.OfCard read.Failed))) (same-fault cause.ReadFault c e) (reading a read.Failed fits, refl)
  told-read read.Limit fits e = subst (λ c. Told c a (Some (act.OfCard read.Limit))) (same-fault cause.DeckLimit c e) (reading a read.Limit fits, refl)

  told-memory : (r : Option Reply) → Some (outcome.Fault cause.NoMemory) ≡ Some (outcome.Fault c) → Told c a r
  told-memory r e = subst (λ c. Told c a r) (same-fault cause.NoMemory c e) tt

told-failed : (c : Cause) (a : Action) → Fits a act.Failed → Some (outcome.Fault (fault_at a)) ≡ Some (outcome.Fault c) → Told c a (Some act.Failed)
told-failed c (act.Display line) fits e =
    subst (λ c. Told c (act.Display line) (Some act.Failed)) (same-fault cause.ConsoleFault c e) (tt, refl)
told-failed c (act.Print line) fits e = subst (λ c. Told c (act.Print line) (Some act.Failed)) (same-fault cause.PrintFault c e) (tt, refl)
told-failed c (act.Works work) fits e =
    subst (λ c. Told c (act.Works work) (Some act.Failed)) (same-fault cause.DiskFault c e) (tt, (λ shows. shows), (λ prints. prints), refl)
told-failed c a fits e = absurd fits

-- the cause that an entry gives
abbrev pub cause_by : Process Action Reply → SoloEntry → List SoloEntry → Option Outcome
cause_by p (Does a r) h = given_cause view p (place p h) a r
cause_by p (LacksMemory a r) h = Some (outcome.Fault cause.NoMemory)
cause_by p (Delays a) h = None

-- a page out of form tells of no device
abbrev IsPageFault : Process Action Reply → Type 0
IsPageFault p = (a : p.Place) (r : Reply) (c : Cause) → p.finds a r ≡ Some c → (b : Action) (s : Option Reply) → Told c b s

or-gave : (old new : Option Outcome) (how : Outcome) → or_new old new ≡ Some how → (old ≡ Some how) ⊎ (new ≡ Some how)
or-gave None new how e = inr e
or-gave (Some before) new how e = inl e

found-fault : (c : Option Cause) (d : Cause) → fault_in c ≡ Some (outcome.Fault d) → c ≡ Some d
found-fault None d e = absurd cc
found-fault (Some c) d e = cc

told-reply : (c : Cause) (a : Action) (r : Reply) → Fits a r → reply_cause a r ≡ Some (outcome.Fault c) → Told c a (Some r)
told-reply c a act.Done fits e = absurd cc
told-reply c a act.Stopped fits e = absurd cc
told-reply c a act.Failed fits e = told-failed c a fits e
told-reply c a act.NoMemory fits e = told-memory c a (Some act.NoMemory) e
told-reply c a (act.OfCard answer) fits e = told-read c a answer fits e
told-reply c a (act.OfArg x) fits e = absurd cc
told-reply c a (act.OfPage page) fits e = absurd cc
told-reply c a (act.Found need) fits e = absurd cc

pub told-so : (p : Process Action Reply) → IsPageFault p → (entry : SoloEntry) (h : List SoloEntry) (c : Cause) → EntrySuits view p entry
    → cause_by p entry h ≡ Some (outcome.Fault c) → Told c (action_of entry) (solo_reply_of entry)
told-so p pages (Does a r) h c suits e =
    elim (or-gave (reply_cause a r) (fault_in (p.finds (place p h) r)) (outcome.Fault c) e) as (λ _. Told c a (Some r)) [
      | inl by_reply ↦ told-reply c a r suits by_reply
      | inr found ↦ pages (place p h) r c (found-fault (p.finds (place p h) r) c found) a (Some r)
    ]
told-so p pages (LacksMemory a r) h c suits e = told-memory c a (Some r) e
told-so p pages (Delays a) h c suits e = absurd cc

pub fault-of : (how : Option Outcome) (c : Cause) → outcome_by how ≡ outcome.Fault c → how ≡ Some (outcome.Fault c)
fault-of None c e = absurd cc
fault-of (Some how) c e = ap Some e

pub entry-gave : (p : Process Action Reply) (entry : SoloEntry) (h : List SoloEntry) (how : Outcome) → caused view p (entry ∷ h) ≡ Some how
    → (caused view p h ≡ Some how) ⊎ (cause_by p entry h ≡ Some how)
entry-gave p (Does a r) h how e = or-gave (caused view p h) (given_cause view p (place p h) a r) how e
entry-gave p (LacksMemory a r) h how e = or-gave (caused view p h) (Some (outcome.Fault cause.NoMemory)) how e
entry-gave p (Delays a) h how e = inl e

-- a cause stays
pub entry-keeps : (p : Process Action Reply) (entry : SoloEntry) (h : List SoloEntry) (how : Outcome) → caused view p h ≡ Some how
    → caused view p (entry ∷ h) ≡ Some how
entry-keeps p (Does a r) h how e = rw e refl
entry-keeps p (LacksMemory a r) h how e = rw e refl
entry-keeps p (Delays a) h how e = e

-- the limit is a cause
lack-limit : (a : Action) → view.MayLack a (act.OfCard read.Limit) → ⊥
lack-limit (act.TakePage b) may = may
lack-limit a may = may

pub limit-gives : (p : Process Action Reply) (entry : SoloEntry) (h : List SoloEntry) → EntrySuits view p entry
    → solo_reply_of entry ≡ Some (act.OfCard read.Limit)
    → caused view p h ≡ None → caused view p (entry ∷ h) ≡ Some (outcome.Fault cause.DeckLimit)
limit-gives p (Does a r) h suits told none = (let same = some-reply r (act.OfCard read.Limit) told in rw (none, same) refl)
limit-gives p (LacksMemory a r) h suits told none = absurd (lack-limit a (subst (view.MayLack a) (some-reply r (act.OfCard read.Limit) told) suits.1))
limit-gives p (Delays a) h suits told none = absurd cc
