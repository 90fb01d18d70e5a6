-- A process that runs over its side of the buffers: its machine and they stand for one history, up to its end.
use Rattle.std.proofs.Common.{◌≡◌, ℕ, true, List, [], ◌∷◌, Option, None, Some, Result, Ok, Err, refl, ◌∙◌, ap, subst}
use Rattle.std.specs.Prelude.{OnOk, OnErr}
use Rattle.std.specs.List.{AllByRecursion}
use Rattle.solo_base.specs.declared.outcome.Outcome.{Outcome}
use Rattle.solo_base.specs.declared.no_memory.NoMemory.{NoMemory}
use Rattle.network_law.specs.Network.{Follows}
use Rattle.place_law.specs.Process.{Does, LacksMemory, caused, how_ended, next_by, unless_ended, next_action, or_new}
use Rattle.solo_law.specs.Work.{Need}
use Rattle.solo_law.specs.Actions.{Action, Reply}
use Rattle.solo_law.specs.Actions as act
use Rattle.solo_law.specs.Replies.{Fits, ends_so, view}
use Rattle.solo_law.specs.Solo.{process, solo, SoloEntry}
use Rattle.solo_threads.specs.Threads.{Deed, entries, IsAnswered}
use Rattle.solo_procs.specs.Said.{said, Hears}
use Rattle.solo_procs.specs.Machine.{Tracks, StandsFor, SaysNext, IsTold}
use Rattle.solo_procs.specs.declared.actions.SoloAction.{SoloAction}
use Rattle.solo_procs.specs.declared.actions.SoloReply.{SoloReply}
use Rattle.solo_procs.specs.declared.machine.Machine.{Machine}
use Rattle.solo_run.specs.Running.{end_said, EndsSo, IsPlain, DidSo}

-- Both stand for a history that has not ended.
pub record Going {P : Type 0} (p : ℕ) (is_at ready : P → (process p).Place → Type 0) (machine : Machine P) (Ran : List Deed → Type 0) : Type 0 where
  pub deeds : List Deed
  pub stands : StandsFor (process p) is_at ready machine (entries deeds)
  pub answered : AllByRecursion IsAnswered (entries deeds)
  pub ran : Ran deeds
  pub goes_on : how_ended view (entries deeds) ≡ None

hears-plain : (ready : Type 0) (came : Need → Type 0) (reply : SoloReply) (answer : Reply) → IsPlain reply answer → ready → Hears ready came reply answer
hears-plain ready came reply (act.Found need) plain is = absurd plain
hears-plain ready came reply act.Done plain is = (plain, is)
hears-plain ready came reply act.Stopped plain is = plain
hears-plain ready came reply act.Failed plain is = plain
hears-plain ready came reply act.NoMemory plain is = plain
hears-plain ready came reply (act.OfCard answer) plain is = (plain, is)
hears-plain ready came reply (act.OfArg x) plain is = (plain, is)
hears-plain ready came reply (act.OfPage page) plain is = (plain, is)

ends-said : (a : Action) (how : Outcome) → end_said (said a) ≡ Some how → ends_so a ≡ Some how
ends-said (act.Ended other) how e = e
ends-said act.Accept how e = absurd cc
ends-said (act.Display line) how e = absurd cc
ends-said act.ReadCard how e = absurd cc
ends-said (act.Print line) how e = absurd cc
ends-said (act.PutArg b x) how e = absurd cc
ends-said (act.TakeArg b) how e = absurd cc
ends-said (act.PutPage b page) how e = absurd cc
ends-said (act.TakePage b) how e = absurd cc
ends-said (act.Works work) how e = absurd cc
ends-said (act.Stop b) how e = absurd cc

goes-said : (a : Action) → end_said (said a) ≡ None → ends_so a ≡ None
goes-said (act.Ended other) e = absurd cc
goes-said act.Accept e = refl
goes-said (act.Display line) e = refl
goes-said act.ReadCard e = refl
goes-said (act.Print line) e = refl
goes-said (act.PutArg b x) e = refl
goes-said (act.TakeArg b) e = refl
goes-said (act.PutPage b page) e = refl
goes-said (act.TakePage b) e = refl
goes-said (act.Works work) e = refl
goes-said (act.Stop b) e = refl

ended-then : (old new : Option Outcome) (how : Option Outcome) → old ≡ None → new ≡ how → or_new old new ≡ how
ended-then old new how e f = ap (λ old. or_new old new) e ∙ f

module _ {P : Type 0} {p : ℕ} {is_at ready : P → (process p).Place → Type 0} {machine : Machine P} where
  pub going-first : {Ran : List Deed → Type 0} → StandsFor (process p) is_at ready machine [] → Ran [] → Going p is_at ready machine Ran
  going-first stands ran = record { deeds = []; stands = stands; answered = tt; ran = ran; goes_on = refl }

  module _ {Ran : List Deed → Type 0} {action : SoloAction} (going : Going p is_at ready machine Ran)
      (says : (h : List SoloEntry) → StandsFor (process p) is_at ready machine h → SaysNext (next_action view (process p) h) action) where
    abbrev h : List SoloEntry
    h = entries going.deeds

    abbrev pub next_of : Action
    next_of = next_by view (process p) (caused view (process p) h) h

    pub next-is : next_action view (process p) h ≡ Some next_of
    next-is = ap (λ how. unless_ended how next_of) going.goes_on

    pub said-is : said next_of ≡ action
    said-is = subst (λ next. SaysNext next action) next-is (says h going.stands)

    pub ends-here : {Then : List Deed → Type 0} {reply : SoloReply} {how : Outcome} → Follows solo p h → DidSo p Then going.deeds next_of reply
        → end_said action ≡ Some how → EndsSo p Then how
    ends-here {Then} {reply} {how} follows did end = record {
      deeds = record { entry = Does next_of did.answer; gained = did.gained } ∷ going.deeds;
      follows = (next-is, did.fits, follows);
      answered = (tt, going.answered);
      ran = did.ran;
      ended = ended-then (how_ended view h) (ends_so next_of) (Some how) going.goes_on (ends-said next_of how (ap end_said said-is ∙ end));
    }

    pub goes-on : {Then : List Deed → Type 0} {reply : SoloReply} {new : Machine P} (came : P → (process p).Place → Need → Type 0)
        (result : Result (Unit {0}) NoMemory) → DidSo p Then going.deeds next_of reply → end_said action ≡ None
        → OnOk result ((h : List SoloEntry) (a : Action) (answer : Reply) → Tracks (process p) is_at machine h
        → next_action view (process p) h ≡ Some a → Fits a answer → IsTold (process p) ready came machine h reply answer
        → StandsFor (process p) is_at ready new (Does a answer ∷ h))
        → OnErr result ((h : List SoloEntry) (a : Action) (answer : Reply) → Tracks (process p) is_at machine h
        → next_action view (process p) h ≡ Some a → Fits a answer → IsTold (process p) ready came machine h reply answer
        → StandsFor (process p) is_at ready new (LacksMemory a answer ∷ h))
        → OnErr result ((process p).may_lack ≡ true)
        → Going p is_at ready new Then
    goes-on {Then} {reply} came (Ok done) did end ok err lacks = record {
      deeds = record { entry = Does next_of did.answer; gained = did.gained } ∷ going.deeds;
      stands = ok h next_of did.answer going.stands.tracks next-is did.fits
          (λ free. hears-plain _ _ reply did.answer did.plain (going.stands.ready_there free));
      answered = (tt, going.answered);
      ran = did.ran;
      goes_on = ended-then (how_ended view h) (ends_so next_of) None going.goes_on (goes-said next_of (ap end_said said-is ∙ end));
    }
    goes-on {Then} {reply} came (Err refused) did end ok err lacks =
        let stands = err h next_of did.answer going.stands.tracks next-is did.fits
        (λ free. hears-plain _ _ reply did.answer did.plain (going.stands.ready_there free)) in
        record {
          deeds = record { entry = LacksMemory next_of did.answer; gained = did.gained } ∷ going.deeds;
          stands = stands;
          answered = (tt, going.answered);
          ran = did.lacks lacks stands.tracks.follows.1.1;
          goes_on = going.goes_on;
        }
