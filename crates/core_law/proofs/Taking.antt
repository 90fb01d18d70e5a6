-- Who takes has nothing due and has not taken the last.
use Rattle.std.proofs.Common.{◌≡◌, ℕ, Bool, true, false, List, [], ◌∷◌, Option, None, Some, refl, sym, subst}
use Rattle.batch_procs.specs.declared.actions.Action.{Action}
use Rattle.batch_procs.specs.declared.actions.Action.TheVariants as act
use Rattle.batch_procs.specs.Parcels.{Parcel, OfFeed, OfPage, OfLine, OfLoad, is_ended}
use Rattle.batch_procs.specs.History.{Entry, taken, newest}
use Rattle.batch_procs.specs.Process.{Process, next_action, working, begins, aim, aimed, works_on, due, puts, unworked}
use Rattle.batch_procs.specs.Laws.{IsTake, IsOpen}
use Rattle.batch_procs.specs.Parts.{some-same}
use Rattle.batch_procs.proofs.Relay.{open-next}
use Rattle.batch_procs.proofs.Closing.{works-next}
use Rattle.batch_procs.specs.Jobs.{Jobs, AreJobs}

module _ {L : Type 0} {J : Jobs L} (jobs : AreJobs J) where
  begins-take : (aim a : Action) → begins aim ≡ a → IsTake a → aim ≡ a
  begins-take (act.PutPage page) a e take = absurd (subst IsTake (sym e) take)
  begins-take act.TakePage a e take = absurd (subst IsTake (sym e) take)
  begins-take (act.Load file) a e take = absurd (subst IsTake (sym e) take)
  begins-take other a e take = e

  working-take : (newest : Option Action) (aim a : Action) → working newest aim ≡ Some a → IsTake a → aim ≡ a
  working-take None aim a e take = begins-take aim a (some-same (begins aim) a e) take
  working-take (Some act.AwaitRoom) aim a e take = absurd (subst IsTake (sym (some-same act.Request a e)) take)
  working-take (Some act.AwaitItem) aim a e take = absurd (subst IsTake (sym (some-same act.Request a e)) take)
  working-take (Some act.Request) aim a e take = some-same aim a e
  working-take (Some (act.PutPage page)) aim a e take = absurd (subst IsTake (sym (some-same act.Release a e)) take)
  working-take (Some act.TakePage) aim a e take = absurd (subst IsTake (sym (some-same act.Release a e)) take)
  working-take (Some (act.Load file)) aim a e take = absurd (subst IsTake (sym (some-same act.Release a e)) take)
  working-take (Some (act.Ended how)) aim a e take = absurd cc
  working-take (Some other) aim a e take = begins-take aim a (some-same (begins aim) a e) take

  take-open : (a : Action) → IsTake a → IsOpen a
  take-open act.ReadCard is = tt
  take-open act.TakeFeed is = tt
  take-open act.TakePage is = tt
  take-open other is = absurd is

  pub record IsTaking (takes a : Action) (due : List (Parcel L)) (ended : Bool) : Type 0 where
    pub same : takes ≡ a
    pub nothing : due ≡ []
    pub goes_on : ended ≡ false

  puts-no_take : (parcel : Parcel L) (a : Action) → puts parcel ≡ a → IsTake a → ⊥
  puts-no_take (OfFeed f) a e take = subst IsTake (sym e) take
  puts-no_take (OfPage page last) a e take = subst IsTake (sym e) take
  puts-no_take (OfLine line) a e take = subst IsTake (sym e) take
  puts-no_take (OfLoad load) a e take = subst IsTake (sym e) take

  works-no_take : (wanted : List (List ℕ)) (a : Action) → works_on wanted ≡ a → IsTake a → ⊥
  works-no_take [] a e take = subst IsTake (sym e) take
  works-no_take (file ∷ later) a e take = subst IsTake (sym e) take

  pub aimed-take : (takes a : Action) (wanted : List (List ℕ)) (due : List (Parcel L)) (ended unworked : Bool) → aimed takes wanted due ended unworked ≡ a
      → IsTake a → IsTaking takes a due ended
  aimed-take takes a wanted [] true false e take = absurd (subst IsTake (sym e) take)
  aimed-take takes a wanted [] true true e take = absurd (works-no_take wanted a e take)
  aimed-take takes a wanted [] false true e take = absurd (works-no_take wanted a e take)
  aimed-take takes a wanted [] false false e take = record { same = e; nothing = refl; goes_on = refl }
  aimed-take takes a wanted (parcel ∷ more) ended unworked e take = absurd (puts-no_take parcel a e take)

  pub next-take : (p : Process L) (h : List (Entry L)) (a : Action) → next_action p h ≡ Some a → IsTake a → IsTaking p.takes a (due p h) (is_ended (taken h))
  next-take p h a next take =
      aimed-take p.takes a (p.wants (taken h)) (due p h) (is_ended (taken h)) (unworked p h)
      (working-take (newest h) (aim p h) a (works-next J p h a next (open-next J p h a next (take-open a take))) take) take
