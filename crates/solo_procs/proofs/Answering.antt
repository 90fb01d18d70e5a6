-- What a reply is to a process at its place.
use Rattle.std.proofs.Common.{◌≡◌, Option, None, Some, Result, Ok, Err, refl, sym, ◌∙◌, ap, subst}
use Rattle.std.specs.Prelude.{IfOk, OnErr, true}
use Rattle.solo_base.specs.declared.page.Page.{Page}
use Rattle.solo_base.specs.declared.system_call.Arg.{Arg}
use Rattle.solo_base.specs.declared.no_memory.NoMemory.{NoMemory}
use Rattle.solo_base.specs.declared.outcome.Outcome.{Outcome}
use Rattle.solo_base.specs.declared.outcome.Outcome.TheVariants as outcome
use Rattle.solo_base.specs.declared.outcome.Cause.TheVariants as cause
use Rattle.solo_devices.specs.declared.card_read.CardRead.{CardRead}
use Rattle.place_law.specs.Process.{Process, fault_in, or_new, given_cause}
use Rattle.solo_law.specs.Work.{Need}
use Rattle.solo_law.specs.Actions.{Action, Reply}
use Rattle.solo_law.specs.Actions as act
use Rattle.solo_law.specs.Replies.{view, fault_at, fault_read, Fits, MayLack}
use Rattle.solo_procs.specs.declared.actions.SoloAction.{SoloAction}
use Rattle.solo_procs.specs.declared.actions.SoloReply.{SoloReply}
use Rattle.solo_procs.specs.declared.actions.SoloReply.TheVariants as hear
use Rattle.solo_procs.specs.Said.{said, Hears, IsHeardDone, fault_said}
use Rattle.solo_procs.specs.Machine.{ClosesDown, Takes, IsUsedSo, Answers}

fault-said : (a : Action) → fault_said (said a) ≡ fault_at a
fault-said act.Accept = refl
fault-said (act.Display line) = refl
fault-said act.ReadCard = refl
fault-said (act.Print line) = refl
fault-said (act.PutArg b a) = refl
fault-said (act.TakeArg b) = refl
fault-said (act.PutPage b page) = refl
fault-said (act.TakePage b) = refl
fault-said (act.Works work) = refl
fault-said (act.Stop b) = refl
fault-said (act.Ended how) = refl

page-lacks : (a : Action) (page : Page) → Fits a (act.OfPage page) → MayLack a (act.OfPage page)
page-lacks (act.TakePage b) page fits = tt
page-lacks act.Accept page fits = absurd fits
page-lacks (act.Display line) page fits = absurd fits
page-lacks act.ReadCard page fits = absurd fits
page-lacks (act.Print line) page fits = absurd fits
page-lacks (act.PutArg b a) page fits = absurd fits
page-lacks (act.TakeArg b) page fits = absurd fits
page-lacks (act.PutPage b put) page fits = absurd fits
page-lacks (act.Works work) page fits = absurd fits
page-lacks (act.Stop b) page fits = absurd fits
page-lacks (act.Ended how) page fits = absurd fits

-- ---- what is heard
done-heard : (ready : Type 0) (came : Need → Type 0) (r : Reply) → Hears ready came hear.Done r → IsHeardDone ready came r
done-heard ready came act.Done hears = hears.1
done-heard ready came (act.Found need) hears = hears.1
done-heard ready came act.Stopped hears = absurd cc
done-heard ready came act.Failed hears = absurd cc
done-heard ready came act.NoMemory hears = absurd cc
done-heard ready came (act.OfCard answer) hears = absurd (let same = hears.0 in cc)
done-heard ready came (act.OfArg a) hears = absurd (let same = hears.0 in cc)
done-heard ready came (act.OfPage page) hears = absurd (let same = hears.0 in cc)

-- the other replies are heard as they are
card-heard : (ready : Type 0) (came : Need → Type 0) (card : CardRead) (r : Reply) → Hears ready came (hear.Card card) r → (r ≡ act.OfCard card) × ready
card-heard ready came card (act.OfCard answer) hears = (let same = hears.0 in cc, hears.1)
card-heard ready came card act.Done hears = absurd (let same = hears.0 in cc)
card-heard ready came card (act.Found need) hears = absurd (let same = hears.0 in cc)
card-heard ready came card act.Stopped hears = absurd cc
card-heard ready came card act.Failed hears = absurd cc
card-heard ready came card act.NoMemory hears = absurd cc
card-heard ready came card (act.OfArg a) hears = absurd (let same = hears.0 in cc)
card-heard ready came card (act.OfPage page) hears = absurd (let same = hears.0 in cc)

arg-heard : (ready : Type 0) (came : Need → Type 0) (b : Arg) (r : Reply) → Hears ready came (hear.Arg b) r → (r ≡ act.OfArg b) × ready
arg-heard ready came b (act.OfArg a) hears = (let same = hears.0 in cc, hears.1)
arg-heard ready came b act.Done hears = absurd (let same = hears.0 in cc)
arg-heard ready came b (act.Found need) hears = absurd (let same = hears.0 in cc)
arg-heard ready came b act.Stopped hears = absurd cc
arg-heard ready came b act.Failed hears = absurd cc
arg-heard ready came b act.NoMemory hears = absurd cc
arg-heard ready came b (act.OfCard answer) hears = absurd (let same = hears.0 in cc)
arg-heard ready came b (act.OfPage page) hears = absurd (let same = hears.0 in cc)

page-heard : (ready : Type 0) (came : Need → Type 0) (taken : Page) (r : Reply) → Hears ready came (hear.Page taken) r → (r ≡ act.OfPage taken) × ready
page-heard ready came taken (act.OfPage page) hears = (let same = hears.0 in cc, hears.1)
page-heard ready came taken act.Done hears = absurd (let same = hears.0 in cc)
page-heard ready came taken (act.Found need) hears = absurd (let same = hears.0 in cc)
page-heard ready came taken act.Stopped hears = absurd cc
page-heard ready came taken act.Failed hears = absurd cc
page-heard ready came taken act.NoMemory hears = absurd cc
page-heard ready came taken (act.OfCard answer) hears = absurd (let same = hears.0 in cc)
page-heard ready came taken (act.OfArg a) hears = absurd (let same = hears.0 in cc)

stopped-heard : (ready : Type 0) (came : Need → Type 0) (r : Reply) → Hears ready came hear.Stopped r → r ≡ act.Stopped
stopped-heard ready came act.Stopped hears = refl
stopped-heard ready came act.Done hears = absurd (let same = hears.0 in cc)
stopped-heard ready came (act.Found need) hears = absurd (let same = hears.0 in cc)
stopped-heard ready came act.Failed hears = absurd cc
stopped-heard ready came act.NoMemory hears = absurd cc
stopped-heard ready came (act.OfCard answer) hears = absurd (let same = hears.0 in cc)
stopped-heard ready came (act.OfArg a) hears = absurd (let same = hears.0 in cc)
stopped-heard ready came (act.OfPage page) hears = absurd (let same = hears.0 in cc)

failed-heard : (ready : Type 0) (came : Need → Type 0) (r : Reply) → Hears ready came hear.Failed r → r ≡ act.Failed
failed-heard ready came act.Failed hears = refl
failed-heard ready came act.Done hears = absurd (let same = hears.0 in cc)
failed-heard ready came (act.Found need) hears = absurd (let same = hears.0 in cc)
failed-heard ready came act.Stopped hears = absurd cc
failed-heard ready came act.NoMemory hears = absurd cc
failed-heard ready came (act.OfCard answer) hears = absurd (let same = hears.0 in cc)
failed-heard ready came (act.OfArg a) hears = absurd (let same = hears.0 in cc)
failed-heard ready came (act.OfPage page) hears = absurd (let same = hears.0 in cc)

refused-heard : (ready : Type 0) (came : Need → Type 0) (r : Reply) → Hears ready came hear.NoMemory r → r ≡ act.NoMemory
refused-heard ready came act.NoMemory hears = refl
refused-heard ready came act.Done hears = absurd (let same = hears.0 in cc)
refused-heard ready came (act.Found need) hears = absurd (let same = hears.0 in cc)
refused-heard ready came act.Stopped hears = absurd cc
refused-heard ready came act.Failed hears = absurd cc
refused-heard ready came (act.OfCard answer) hears = absurd (let same = hears.0 in cc)
refused-heard ready came (act.OfArg a) hears = absurd (let same = hears.0 in cc)
refused-heard ready came (act.OfPage page) hears = absurd (let same = hears.0 in cc)

done-quiet : (ready : Type 0) (came : Need → Type 0) (p : Process Action Reply) (law : ClosesDown p) (at : p.Place) (a : Action) (r : Reply)
    → IsHeardDone ready came r → None ≡ given_cause view p at a r
done-quiet ready came p law at a act.Done is = sym (ap fault_in (law.in_pages at act.Done tt))
done-quiet ready came p law at a (act.Found need) is = sym (ap fault_in (law.in_pages at (act.Found need) tt))
done-quiet ready came p law at a act.Stopped is = absurd is
done-quiet ready came p law at a act.Failed is = absurd is
done-quiet ready came p law at a act.NoMemory is = absurd is
done-quiet ready came p law at a (act.OfCard answer) is = absurd is
done-quiet ready came p law at a (act.OfArg b) is = absurd is
done-quiet ready came p law at a (act.OfPage page) is = absurd is

or-same : (new found : Option Outcome) → found ≡ None → or_new new found ≡ new
or-same None found e = e
or-same (Some how) found e = refl

-- ---- the answers, by what is heard
module _ {P : Type 0} (p : Process Action Reply) (ready : P → p.Place → Type 0) (came : P → p.Place → Need → Type 0) (old new : P) (action : SoloAction)
    (law : ClosesDown p) where
  pub answers-done : ((at : p.Place) (r : Reply) → Fits (p.does at) r → IsHeardDone (ready old at) (came old at) r → ready new (p.behind at r))
      → Answers p ready came old action hear.Done (Ok None) new
  answers-done done = record {
    uses = λ at r says fits hears.
        let is = done-heard (ready old at) (came old at) r hears in
        record { cause_is = done-quiet (ready old at) (came old at) p law at (p.does at) r is; ready = λ none. done at r fits is };
    lacks = tt;
  }

  -- a reply that is a cause
  answers-cause : (reply : SoloReply) (heard : Reply) (given : Outcome)
      → ((at : p.Place) (r : Reply) → Hears (ready old at) (came old at) reply r → r ≡ heard)
      → ((at : p.Place) → action ≡ said (p.does at) → Some given ≡ given_cause view p at (p.does at) heard)
      → Answers p ready came old action reply (Ok (Some given)) new
  answers-cause reply heard given as_is is = record {
    uses = λ at r says fits hears. record {
      cause_is = is at says ∙ sym (ap (λ r. given_cause view p at (p.does at) r) (as_is at r hears));
      ready = λ none. absurd cc;
    };
    lacks = tt;
  }

  pub answers-stopped : Answers p ready came old action hear.Stopped (Ok (Some outcome.Stopped)) new
  answers-stopped = answers-cause hear.Stopped act.Stopped outcome.Stopped (λ at r hears. stopped-heard (ready old at) (came old at) r hears) (λ at says. refl)

  pub answers-failed : Answers p ready came old action hear.Failed (Ok (Some (outcome.Fault (fault_said action)))) new
  answers-failed =
      answers-cause hear.Failed act.Failed (outcome.Fault (fault_said action)) (λ at r hears. failed-heard (ready old at) (came old at) r hears)
      (λ at says. ap (λ c. Some (outcome.Fault c)) (ap fault_said says ∙ fault-said (p.does at)))

  pub answers-lacking : Answers p ready came old action hear.NoMemory (Ok (Some (outcome.Fault cause.NoMemory))) new
  answers-lacking =
      answers-cause hear.NoMemory act.NoMemory (outcome.Fault cause.NoMemory) (λ at r hears. refused-heard (ready old at) (came old at) r hears)
      (λ at says. refl)

  pub answers-card : (card : CardRead) → ((at : p.Place) → ready old at → Fits (p.does at) (act.OfCard card) → ready new (p.behind at (act.OfCard card)))
      → Answers p ready came old action (hear.Card card) (Ok (fault_in (fault_read card))) new
  answers-card card reads = record {
    uses = λ at r says fits hears.
        let is = card-heard (ready old at) (came old at) card r hears in
        record {
          cause_is = sym (or-same (fault_in (fault_read card)) (fault_in (p.finds at (act.OfCard card))) (ap fault_in (law.in_pages at (act.OfCard card) tt)))
              ∙ sym (ap (λ r. given_cause view p at (p.does at) r) is.0);
          ready = λ none. subst (λ r. ready new (p.behind at r)) (sym is.0) (reads at is.1 (subst (λ r. Fits (p.does at) r) is.0 fits));
        };
    lacks = tt;
  }

  pub answers-arg : (a : Arg) → ((at : p.Place) → ready old at → Fits (p.does at) (act.OfArg a) → ready new (p.behind at (act.OfArg a)))
      → Answers p ready came old action (hear.Arg a) (Ok None) new
  answers-arg a takes = record {
    uses = λ at r says fits hears.
        let is = arg-heard (ready old at) (came old at) a r hears in
        record {
          cause_is = sym (ap fault_in (law.in_pages at (act.OfArg a) tt)) ∙ sym (ap (λ r. given_cause view p at (p.does at) r) is.0);
          ready = λ none. subst (λ r. ready new (p.behind at r)) (sym is.0) (takes at is.1 (subst (λ r. Fits (p.does at) r) is.0 fits));
        };
    lacks = tt;
  }

  page-uses : (page : Page) (result : Result (Option Outcome) NoMemory) (at : p.Place) (r : Reply) → r ≡ act.OfPage page
      → IfOk result (λ cause. Takes p (ready new) at (act.OfPage page) cause) → IfOk result (λ cause. IsUsedSo p (ready new) at r cause)
  page-uses page (Ok cause) at r is takes = record {
    cause_is = takes.0 ∙ sym (ap (λ r. given_cause view p at (p.does at) r) is);
    ready = λ none. subst (λ r. ready new (p.behind at r)) (sym is) (takes.1 none);
  }
  page-uses page (Err refused) at r is takes = tt

  page-lacking : (page : Page) (result : Result (Option Outcome) NoMemory) → OnErr result (p.may_lack ≡ true)
      → OnErr result ((p.may_lack ≡ true) × ((at : p.Place) (a : Action) (r : Reply) → Fits a r → Hears (ready old at) (came old at) (hear.Page page) r →
      MayLack a r))
  page-lacking page (Ok cause) lacks = tt
  page-lacking page (Err refused) lacks = (
    lacks,
    λ at a r fits hears.
        let is = page-heard (ready old at) (came old at) page r hears in
        subst (λ r. MayLack a r) (sym is.0) (page-lacks a page (subst (λ r. Fits a r) is.0 fits)),
  )

  pub answers-page : (page : Page) (result : Result (Option Outcome) NoMemory)
      → ((at : p.Place) → ready old at → Fits (p.does at) (act.OfPage page) → IfOk result (λ cause. Takes p (ready new) at (act.OfPage page) cause))
      → OnErr result (p.may_lack ≡ true) → Answers p ready came old action (hear.Page page) result new
  answers-page page result takes lacks = record {
    uses = λ at r says fits hears.
        let is = page-heard (ready old at) (came old at) page r hears in
        page-uses page result at r is.0 (takes at is.1 (subst (λ r. Fits (p.does at) r) is.0 fits));
    lacks = page-lacking page result lacks;
  }
