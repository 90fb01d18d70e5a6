-- How every process stops and ends, from its history alone.
use Rattle.std.proofs.Common.{◌≡◌, ℕ, Bool, true, false, if◌then◌else◌, List, [], ◌∷◌, length, drop, Option, None, Some, refl, sym, ◌∙◌, ap, subst}
use Rattle.std.specs.List.{AllByRecursion}
use Rattle.solo_base.specs.declared.outcome.Outcome.{Outcome}
use Rattle.solo_base.specs.declared.outcome.Outcome.TheVariants as outcome
use Rattle.solo_devices.specs.declared.card_read.CardRead.{CardRead}
use Rattle.solo_devices.specs.declared.card_read.CardRead.TheVariants as read
use Rattle.page_codec.specs.declared.judge.BadPage.{BadPage}
use Rattle.page_codec.specs.Reading.{PageContent, page_read}
use Rattle.std.specs.Prelude.{Result, Ok, Err}
use Rattle.batch_procs.specs.Jobs.{Jobs}
use Rattle.batch_procs.specs.declared.actions.Action.{Action}
use Rattle.batch_procs.specs.declared.actions.Action.TheVariants as act
use Rattle.batch_procs.specs.declared.actions.Reply.{Reply}
use Rattle.batch_procs.specs.declared.actions.Reply.TheVariants as reply
use Rattle.batch_procs.specs.Parcels.{Parcel, OfFeed, OfPage, OfLine, OfLoad, is_ended}
use Rattle.batch_procs.specs.History.{Entry, Does, LacksMemory, Delays, taken, sent, holds, has_stopped, stops_at, newest}
use Rattle.batch_procs.specs.Causes.{fault_read, damage, place, given_cause, or_new, caused}
use Rattle.batch_procs.specs.Process.{Process, unworked, due, puts, works_on, aimed, aim, begins, working, stops_next, closes, next_by, next_action, Follows}
use Rattle.batch_procs.specs.Laws.{IsTake, IsRelay, IsNotDone, EndsRightly}
use Rattle.batch_procs.specs.Parts.{some-same, part-whole}
use Rattle.batch_procs.proofs.Relay.{closing-next, sent-is-part, so_far-whole}

-- ---- one that works stops nothing
abbrev pub IsNoStop : Action → Type 0
IsNoStop (act.Stop b) = ⊥
IsNoStop other = Unit {0}

begins-no_stop : (aim : Action) → IsNoStop aim → IsNoStop (begins aim)
begins-no_stop (act.PutPage page) is = tt
begins-no_stop act.TakePage is = tt
begins-no_stop (act.Load file) is = tt
begins-no_stop other is = is

pub working-no_stop : (newest : Option Action) (aim a : Action) → IsNoStop aim → working newest aim ≡ Some a → IsNoStop a
working-no_stop None aim a is e = subst IsNoStop (some-same (begins aim) a e) (begins-no_stop aim is)
working-no_stop (Some act.AwaitRoom) aim a is e = subst IsNoStop (some-same act.Request a e) tt
working-no_stop (Some act.AwaitItem) aim a is e = subst IsNoStop (some-same act.Request a e) tt
working-no_stop (Some act.Request) aim a is e = subst IsNoStop (some-same aim a e) is
working-no_stop (Some (act.PutPage page)) aim a is e = subst IsNoStop (some-same act.Release a e) tt
working-no_stop (Some act.TakePage) aim a is e = subst IsNoStop (some-same act.Release a e) tt
working-no_stop (Some (act.Load file)) aim a is e = subst IsNoStop (some-same act.Release a e) tt
working-no_stop (Some (act.Ended how)) aim a is e = absurd cc
working-no_stop (Some other) aim a is e = subst IsNoStop (some-same (begins aim) a e) (begins-no_stop aim is)

take-no_stop : (takes : Action) → IsTake takes → IsNoStop takes
take-no_stop (act.Stop b) is = is
take-no_stop other is = tt

works-no_stop : (wanted : List (List ℕ)) → IsNoStop (works_on wanted)
works-no_stop [] = tt
works-no_stop (file ∷ later) = tt

no_stop-at : (b : ℕ) (a : Action) → IsNoStop a → stops_at b a ≡ false
no_stop-at b (act.Stop c) is = absurd is
no_stop-at b other is = refl

pub or-none : (old new : Option Outcome) → or_new old new ≡ None → old ≡ None
or-none None new e = refl
or-none (Some how) new e = absurd cc

-- ---- a cause is never that the work is done
read-not_done : (answer : CardRead) → IsNotDone (fault_read answer)
read-not_done (read.Card line) = tt
read-not_done read.Spoiled = tt
read-not_done read.End = tt
read-not_done read.Failed = tt
read-not_done read.Limit = tt

damage-not_done : (page : Result PageContent BadPage) → IsNotDone (damage page)
damage-not_done (Ok content) = tt
damage-not_done (Err bad) = tt

or-not_done : (old new : Option Outcome) → IsNotDone old → IsNotDone new → IsNotDone (or_new old new)
or-not_done None new is also = also
or-not_done (Some how) new is also = is

-- ---- how it ends
abbrev pub IsNoEnd : Action → Type 0
IsNoEnd (act.Ended how) = ⊥
IsNoEnd other = Unit {0}

ended-same : (how how' : Outcome) → act.Ended how ≡ act.Ended how' → how' ≡ how
ended-same how how' e = cc

take-no_end : (takes : Action) (how : Outcome) → IsTake takes → takes ≡ act.Ended how → ⊥
take-no_end takes how is e = subst IsTake e is

works-no_end : (wanted : List (List ℕ)) (how : Outcome) → works_on wanted ≡ act.Ended how → ⊥
works-no_end [] how e = cc
works-no_end (file ∷ later) how e = cc

begins-end : (aim : Action) (how : Outcome) → begins aim ≡ act.Ended how → aim ≡ act.Ended how
begins-end (act.PutPage page) how e = absurd cc
begins-end act.TakePage how e = absurd cc
begins-end (act.Load file) how e = absurd cc
begins-end other how e = e

pub working-end : (newest : Option Action) (aim : Action) (how : Outcome) → working newest aim ≡ Some (act.Ended how) → aim ≡ act.Ended how
working-end None aim how e = begins-end aim how (some-same _ _ e)
working-end (Some act.AwaitRoom) aim how e = absurd cc
working-end (Some act.AwaitItem) aim how e = absurd cc
working-end (Some act.Request) aim how e = some-same _ _ e
working-end (Some (act.PutPage page)) aim how e = absurd cc
working-end (Some act.TakePage) aim how e = absurd cc
working-end (Some (act.Load file)) aim how e = absurd cc
working-end (Some (act.Ended before)) aim how e = absurd cc
working-end (Some other) aim how e = begins-end aim how (some-same _ _ e)

module _ {L : Type 0} (J : Jobs L) where
  puts-no_stop : (parcel : Parcel L) → IsNoStop (puts parcel)
  puts-no_stop (OfFeed f) = tt
  puts-no_stop (OfPage page last) = tt
  puts-no_stop (OfLine line) = tt
  puts-no_stop (OfLoad load) = tt

  pub aimed-no_stop : (takes : Action) (wanted : List (List ℕ)) (due : List (Parcel L)) (ended unworked : Bool) → IsTake takes
      → IsNoStop (aimed takes wanted due ended unworked)
  aimed-no_stop takes wanted [] true false is = tt
  aimed-no_stop takes wanted [] true true is = works-no_stop wanted
  aimed-no_stop takes wanted [] false true is = works-no_stop wanted
  aimed-no_stop takes wanted [] false false is = take-no_stop takes is
  aimed-no_stop takes wanted (parcel ∷ more) ended unworked is = puts-no_stop parcel

  pub works-next : (p : Process L) (h : List (Entry L)) (a : Action) → next_action p h ≡ Some a → caused h ≡ None → working (newest h) (aim p h) ≡ Some a
  works-next p h a next none = sym (ap (λ c. next_by p c h) none) ∙ next

  pub unstopped : (p : Process L) (b : ℕ) (h : List (Entry L)) → IsRelay p → Follows J p h → caused h ≡ None → has_stopped b h ≡ false
  unstopped p b [] relay follows none = refl
  unstopped p b (Does a r ∷ h) relay follows none =
      let before = or-none (caused h) (given_cause a r h) none in
      let is = working-no_stop (newest h) (aim p h) a (aimed-no_stop p.takes (p.wants (taken h)) (due p h) (is_ended (taken h)) (unworked p h) relay.takes)
      (works-next p h a follows.0 before) in
      rw (no_stop-at b a is) (unstopped p b h relay follows.2 before)
  unstopped p b (LacksMemory a r ∷ h) relay follows none = unstopped p b h relay follows.2 (or-none (caused h) _ none)
  unstopped p b (Delays a ∷ h) relay follows none = unstopped p b h relay follows.2 none

  given-not_done : (a : Action) (r : Reply L) (h : List (Entry L)) → IsNotDone (given_cause a r h)
  given-not_done a reply.Done h = tt
  given-not_done a reply.Stopped h = tt
  given-not_done a reply.Failed h = tt
  given-not_done a reply.NoMemory h = tt
  given-not_done a (reply.Card answer) h = read-not_done answer
  given-not_done a (reply.Feed f) h = tt
  given-not_done a (reply.Page page last) h = damage-not_done (page_read (place h) last page)
  given-not_done a (reply.Loaded load) h = tt

  pub caused-not_done : (h : List (Entry L)) → IsNotDone (caused h)
  caused-not_done [] = tt
  caused-not_done (Does a r ∷ h) = or-not_done (caused h) (given_cause a r h) (caused-not_done h) (given-not_done a r h)
  caused-not_done (LacksMemory a r ∷ h) = or-not_done (caused h) _ (caused-not_done h) tt
  caused-not_done (Delays a ∷ h) = caused-not_done h

  pub record AimsAtEnd (due : List (Parcel L)) (ended unworked : Bool) (how : Outcome) : Type 0 where
    pub worked : unworked ≡ false
    pub nothing : due ≡ []
    pub last : ended ≡ true
    pub done : how ≡ outcome.Done

  puts-no_end : (parcel : Parcel L) (how : Outcome) → puts parcel ≡ act.Ended how → ⊥
  puts-no_end (OfFeed f) how e = cc
  puts-no_end (OfPage page last) how e = cc
  puts-no_end (OfLine line) how e = cc
  puts-no_end (OfLoad load) how e = cc

  pub aimed-end : (takes : Action) (wanted : List (List ℕ)) (due : List (Parcel L)) (ended unworked : Bool) (how : Outcome) → IsTake takes
      → aimed takes wanted due ended unworked ≡ act.Ended how → AimsAtEnd due ended unworked how
  aimed-end takes wanted [] true false how is e = record { worked = refl; nothing = refl; last = refl; done = ended-same outcome.Done how e }
  aimed-end takes wanted [] true true how is e = absurd (works-no_end wanted how e)
  aimed-end takes wanted [] false true how is e = absurd (works-no_end wanted how e)
  aimed-end takes wanted [] false false how is e = absurd (take-no_end takes how is e)
  aimed-end takes wanted (parcel ∷ more) ended unworked how is e = absurd (puts-no_end parcel how e)

  pub record StopsAll (buffers : List ℕ) (cause how : Outcome) (h : List (Entry L)) : Type 0 where
    pub same : how ≡ cause
    pub all : AllByRecursion (λ b. has_stopped b h ≡ true) buffers

  pub stops-end : (buffers : List ℕ) (cause how : Outcome) (h : List (Entry L)) → stops_next buffers cause h ≡ act.Ended how → StopsAll buffers cause how h
  stops-end [] cause how h e = record { same = ended-same cause how e; all = tt }
  stops-end (b ∷ later) cause how h e =
      let P : Bool → Type 0 = λ t. has_stopped b h ≡ t → (if t then stops_next later cause h else act.Stop b) ≡ act.Ended how
      → StopsAll (b ∷ later) cause how h in
      elim (has_stopped b h) as P [
        | true ↦ (λ is e. let rest = stops-end later cause how h e in record { same = rest.same; all = (is, rest.all) })
        | false ↦ (λ is e. absurd cc)
      ] refl e

  pub closes-end : (buffers : List ℕ) (cause how : Outcome) (h : List (Entry L)) → closes buffers cause h ≡ act.Ended how → StopsAll buffers cause how h
  closes-end buffers cause how h e =
      let P : Bool → Type 0 = λ t. (if t then act.Release else stops_next buffers cause h) ≡ act.Ended how → StopsAll buffers cause how h in
      elim (holds h) as P [ true ↦ (λ e. absurd cc) | false ↦ stops-end buffers cause how h ] e

  ends-by : (p : Process L) (cause : Option Outcome) (h : List (Entry L)) (how : Outcome) → IsRelay p → Follows J p h → IsNotDone cause
      → next_by p cause h ≡ Some (act.Ended how) → EndsRightly p h how
  ends-by p None h how relay follows not_done next =
      let is = aimed-end p.takes (p.wants (taken h)) (due p h) (is_ended (taken h)) (unworked p h) how relay.takes
      (working-end (newest h) (aim p h) how next) in
      record {
        done =
            λ e. (
              part-whole (sent h) (p.sends (taken h)) (sent-is-part J p h relay follows) (ap (drop (length (sent h))) (sym (so_far-whole J p h is.worked))
                  ∙ is.nothing),
              is.last,
            );
        otherwise = λ other. absurd (subst (λ o. IsNotDone (Some o)) is.done other);
      }
  ends-by p (Some cause) h how relay follows not_done next =
      let all = closes-end p.buffers cause how h (closing-next (newest h) (closes p.buffers cause h) (act.Ended how) next) in
      record { done = λ e. absurd (subst (λ o. IsNotDone (Some o)) (sym all.same ∙ e) not_done); otherwise = λ other. all.all }

  pub ends-next : (p : Process L) (h : List (Entry L)) (how : Outcome) → IsRelay p → Follows J p h → next_action p h ≡ Some (act.Ended how)
      → EndsRightly p h how
  ends-next p h how relay follows next = ends-by p (caused h) h how relay follows (caused-not_done h) next
