-- What a process takes next, and what it puts.
use Rattle.std.proofs.Common.{◌≡◌, ℕ, Bool, true, false, not, if◌then◌else◌, List, [], ◌∷◌, length, drop, Option, None, Some, refl, sym, ◌∙◌, ap, subst}
use Rattle.std.proofs.Math.Seq.{drop-length}
use Rattle.batch_procs.specs.Jobs.{Jobs}
use Rattle.batch_procs.specs.declared.actions.Action.{Action}
use Rattle.batch_procs.specs.declared.actions.Action.TheVariants as act
use Rattle.batch_procs.specs.declared.actions.Reply.{Reply}
use Rattle.batch_procs.specs.Parcels.{Parcel, OfFeed, OfPage, OfLine, OfLoad, is_last, is_ended, IsMarked}
use Rattle.batch_procs.specs.History.{Entry, Does, taken, sent, newest, is_unworked}
use Rattle.batch_procs.specs.Causes.{caused}
use Rattle.batch_procs.specs.Process.{Process, unworked, due, puts, works_on, aimed, aim, begins, working, next_action, Follows}
use Rattle.batch_procs.specs.Laws.{IsTake, IsOpen, IsRelay, Wants}
use Rattle.batch_procs.specs.Parts.{some-same}
use Rattle.batch_procs.proofs.Relay.{IsPut, open-next, next-put, aimed-put, all-behind, due-rest, sent-is-part}
use Rattle.batch_procs.proofs.Closing.{works-next}

begins-take : (aim a : Action) → begins aim ≡ a → IsTake a → aim ≡ a
begins-take (act.PutPage page) a e take = absurd (subst IsTake (sym e) take)
begins-take act.TakePage a e take = absurd (subst IsTake (sym e) take)
begins-take (act.Load file) a e take = absurd (subst IsTake (sym e) take)
begins-take other a e take = e

working-take : (newest : Option Action) (aim a : Action) → working newest aim ≡ Some a → IsTake a → aim ≡ a
working-take None aim a e take = begins-take aim a (some-same (begins aim) a e) take
working-take (Some act.AwaitRoom) aim a e take = absurd (subst IsTake (sym (some-same act.Request a e)) take)
working-take (Some act.AwaitItem) aim a e take = absurd (subst IsTake (sym (some-same act.Request a e)) take)
working-take (Some act.Request) aim a e take = some-same aim a e
working-take (Some (act.PutPage page)) aim a e take = absurd (subst IsTake (sym (some-same act.Release a e)) take)
working-take (Some act.TakePage) aim a e take = absurd (subst IsTake (sym (some-same act.Release a e)) take)
working-take (Some (act.Load file)) aim a e take = absurd (subst IsTake (sym (some-same act.Release a e)) take)
working-take (Some (act.Ended how)) aim a e take = absurd cc
working-take (Some other) aim a e take = begins-take aim a (some-same (begins aim) a e) take

take-open : (a : Action) → IsTake a → IsOpen a
take-open act.ReadCard is = tt
take-open act.TakeFeed is = tt
take-open act.TakePage is = tt
take-open other is = absurd is

works-no_take : (wanted : List (List ℕ)) (a : Action) → works_on wanted ≡ a → IsTake a → ⊥
works-no_take [] a e take = subst IsTake (sym e) take
works-no_take (file ∷ later) a e take = subst IsTake (sym e) take

-- ---- a load, and the work
-- what it aims at where there is work to do
abbrev pub IsWork : Action → Type 0
IsWork act.Local = Unit {0}
IsWork (act.Load file) = Unit {0}
IsWork other = ⊥

begins-local : (aim : Action) → begins aim ≡ act.Local → aim ≡ act.Local
begins-local (act.PutPage page) e = absurd cc
begins-local act.TakePage e = absurd cc
begins-local (act.Load file) e = absurd cc
begins-local other e = e

working-local : (newest : Option Action) (aim : Action) → working newest aim ≡ Some act.Local → aim ≡ act.Local
working-local None aim e = begins-local aim (some-same _ _ e)
working-local (Some act.AwaitRoom) aim e = absurd cc
working-local (Some act.AwaitItem) aim e = absurd cc
working-local (Some act.Request) aim e = some-same aim act.Local e
working-local (Some (act.PutPage page)) aim e = absurd cc
working-local (Some act.TakePage) aim e = absurd cc
working-local (Some (act.Load file)) aim e = absurd cc
working-local (Some (act.Ended how)) aim e = absurd cc
working-local (Some other) aim e = begins-local aim (some-same _ _ e)

abbrev IsNoLoad : Action → Type 0
IsNoLoad (act.Load file) = ⊥
IsNoLoad other = Unit {0}

begins-no_load : (aim : Action) → IsNoLoad (begins aim)
begins-no_load (act.PutPage page) = tt
begins-no_load act.TakePage = tt
begins-no_load (act.Load file) = tt
begins-no_load other = tt

begins-load : (aim : Action) (file : List ℕ) → begins aim ≡ act.Load file → ⊥
begins-load aim file e = subst IsNoLoad e (begins-no_load aim)

working-load : (newest : Option Action) (aim : Action) (file : List ℕ) → working newest aim ≡ Some (act.Load file) → aim ≡ act.Load file
working-load None aim file e = absurd (begins-load aim file (some-same _ _ e))
working-load (Some act.AwaitRoom) aim file e = absurd cc
working-load (Some act.AwaitItem) aim file e = absurd cc
working-load (Some act.Request) aim file e = some-same aim (act.Load file) e
working-load (Some (act.PutPage page)) aim file e = absurd cc
working-load (Some act.TakePage) aim file e = absurd cc
working-load (Some (act.Load before)) aim file e = absurd cc
working-load (Some (act.Ended how)) aim file e = absurd cc
working-load (Some other) aim file e = absurd (begins-load aim file (some-same _ _ e))

take-no_work : (takes a : Action) → IsTake takes → takes ≡ a → IsWork a → ⊥
take-no_work act.ReadCard a take e work = subst IsWork (sym e) work
take-no_work act.TakeFeed a take e work = subst IsWork (sym e) work
take-no_work act.TakePage a take e work = subst IsWork (sym e) work
take-no_work other a take e work = absurd take

-- nothing is due then, and there is work to do
pub record AimsAtWork (wanted : List (List ℕ)) (unworked : Bool) (a : Action) : Type 0 where
  pub works : unworked ≡ true
  pub is : works_on wanted ≡ a

works-none : (wanted : List (List ℕ)) → works_on wanted ≡ act.Local → wanted ≡ []
works-none [] e = refl
works-none (file ∷ later) e = absurd cc

works-file : (wanted : List (List ℕ)) (file : List ℕ) → works_on wanted ≡ act.Load file → (later : List (List ℕ)) × (wanted ≡ file ∷ later)
works-file [] file e = absurd cc
works-file (first ∷ later) file e = (let same : first ≡ file = cc in (later, ap (λ f. f ∷ later) same))

module _ {L : Type 0} (J : Jobs L) where
  pub record IsTaking (takes a : Action) (due : List (Parcel L)) (ended unworked : Bool) : Type 0 where
    pub same : takes ≡ a
    pub nothing : due ≡ []
    pub goes_on : ended ≡ false
    pub worked : unworked ≡ false

  puts-no_take : (parcel : Parcel L) (a : Action) → puts parcel ≡ a → IsTake a → ⊥
  puts-no_take (OfFeed f) a e take = subst IsTake (sym e) take
  puts-no_take (OfPage page last) a e take = subst IsTake (sym e) take
  puts-no_take (OfLine line) a e take = subst IsTake (sym e) take
  puts-no_take (OfLoad load) a e take = subst IsTake (sym e) take

  pub aimed-take : (takes a : Action) (wanted : List (List ℕ)) (due : List (Parcel L)) (ended unworked : Bool)
      → aimed takes wanted due ended unworked ≡ a → IsTake a → IsTaking takes a due ended unworked
  aimed-take takes a wanted [] true false e take = absurd (subst IsTake (sym e) take)
  aimed-take takes a wanted [] true true e take = absurd (works-no_take wanted a e take)
  aimed-take takes a wanted [] false true e take = absurd (works-no_take wanted a e take)
  aimed-take takes a wanted [] false false e take = record { same = e; nothing = refl; goes_on = refl; worked = refl }
  aimed-take takes a wanted (parcel ∷ more) ended unworked e take = absurd (puts-no_take parcel a e take)

  pub next-take : (p : Process L) (h : List (Entry L)) (a : Action) → next_action p h ≡ Some a → IsTake a
      → IsTaking p.takes a (due p h) (is_ended (taken h)) (unworked p h)
  next-take p h a next take =
      let none = open-next J p h a next (take-open a take) in
      aimed-take p.takes a (p.wants (taken h)) (due p h) (is_ended (taken h)) (unworked p h) (working-take (newest h) (aim p h) a
      (works-next J p h a next none) take) take

  -- ---- what it puts is the first of what is left
  pub record IsPutting (p : Process L) (h : List (Entry L)) (a : Action) : Type 0 where
    pub first : Parcel L
    pub more : List (Parcel L)
    pub left : drop (length (sent h)) (p.sends (taken h)) ≡ first ∷ more
    pub puts_it : puts first ≡ a
    pub marked : IsMarked first
    pub worked : unworked p h ≡ false

  due-worked : (t : Bool) (st all : List (Parcel L)) (first : Parcel L) (more : List (Parcel L)) → drop (length st) (if t then st else all) ≡ first ∷ more
      → t ≡ false
  due-worked true st all first more e = absurd (let none = drop-length st in let both = sym none ∙ e in cc)
  due-worked false st all first more e = refl

  pub next-putting : (p : Process L) (h : List (Entry L)) (a : Action) → IsRelay p → Follows J p h → next_action p h ≡ Some a → IsPut a → IsPutting p h a
  next-putting p h a relay follows next put =
      let is = aimed-put J p.takes (p.wants (taken h)) (due p h) (is_ended (taken h)) (unworked p h) a relay.takes
      (next-put J p (caused h) h a next put).1 put in
      let worked = due-worked (unworked p h) (sent h) (p.sends (taken h)) is.first is.more is.due_is in
      let left : drop (length (sent h)) (p.sends (taken h)) ≡ is.first
      ∷ is.more = ap (λ t. drop (length (sent h)) (if t then sent h else p.sends (taken h))) (sym worked) ∙ is.due_is in
      let (rest, whole) = sent-is-part J p h relay follows in
      let (behind, rest-is) = due-rest J p h is.first is.more rest relay whole is.due_is in
      let marked = all-behind J (sent h) rest (rw whole (relay.marked (taken h))) in
      record {
        first = is.first;
        more = is.more;
        left = left;
        puts_it = is.puts_it;
        marked = (rw rest-is at marked).0;
        worked = worked;
      }

  -- behind it there is work to do unless it was the last
  pub put-unworked : (first : Parcel L) (r : Reply L) (h : List (Entry L)) → IsMarked first → is_unworked (Does (puts first) r ∷ h) ≡ not (is_last first)
  put-unworked (OfFeed f) r h marked = refl
  put-unworked (OfPage page last) r h marked = ap not marked
  put-unworked (OfLine line) r h marked = refl
  put-unworked (OfLoad load) r h marked = absurd marked

  puts-no_work : (parcel : Parcel L) (a : Action) → IsMarked parcel → puts parcel ≡ a → IsWork a → ⊥
  puts-no_work (OfFeed f) a marked e work = subst IsWork (sym e) work
  puts-no_work (OfPage page last) a marked e work = subst IsWork (sym e) work
  puts-no_work (OfLine line) a marked e work = subst IsWork (sym e) work
  puts-no_work (OfLoad load) a marked e work = marked

  aimed-work : (takes a : Action) (wanted : List (List ℕ)) (due : List (Parcel L)) (ended unworked : Bool) → IsTake takes
      → ((first : Parcel L) (more : List (Parcel L)) → due ≡ first ∷ more → IsMarked first)
      → aimed takes wanted due ended unworked ≡ a → IsWork a → AimsAtWork wanted unworked a
  aimed-work takes a wanted [] true false take marked e work = absurd (subst IsWork (sym e) work)
  aimed-work takes a wanted [] true true take marked e work = record { works = refl; is = e }
  aimed-work takes a wanted [] false true take marked e work = record { works = refl; is = e }
  aimed-work takes a wanted [] false false take marked e work = absurd (take-no_work takes a take e work)
  aimed-work takes a wanted (parcel ∷ more) ended unworked take marked e work = absurd (puts-no_work parcel a (marked parcel more refl) e work)

  due-marked : (p : Process L) (h : List (Entry L)) (first : Parcel L) (more : List (Parcel L)) → IsRelay p → Follows J p h → due p h ≡ first ∷ more
      → IsMarked first
  due-marked p h first more relay follows is =
      let (rest, whole) = sent-is-part J p h relay follows in
      let (behind, rest-is) = due-rest J p h first more rest relay whole is in
      let marked = all-behind J (sent h) rest (rw whole (relay.marked (taken h))) in
      (rw rest-is at marked).0

  -- It works where there is work to do and no file is wanted.
  pub next-local : (p : Process L) (h : List (Entry L)) → IsRelay p → Follows J p h → next_action p h ≡ Some act.Local
      → (unworked p h ≡ true) × (p.wants (taken h) ≡ [])
  next-local p h relay follows next =
      let none = open-next J p h act.Local next tt in
      let aims = working-local (newest h) (aim p h) (works-next J p h act.Local next none) in
      let is = aimed-work p.takes act.Local (p.wants (taken h)) (due p h) (is_ended (taken h)) (unworked p h) relay.takes
      (λ first more due. due-marked p h first more relay follows due) aims tt in
      (is.works, works-none (p.wants (taken h)) is.is)

  -- It loads the file that is wanted first.
  pub next-load : (p : Process L) (h : List (Entry L)) (file : List ℕ) → IsRelay p → Follows J p h → next_action p h ≡ Some (act.Load file) → Wants p h file
  next-load p h file relay follows next =
      let none = open-next J p h (act.Load file) next tt in
      let aims = working-load (newest h) (aim p h) file (works-next J p h (act.Load file) next none) in
      let is = aimed-work p.takes (act.Load file) (p.wants (taken h)) (due p h) (is_ended (taken h)) (unworked p h) relay.takes
      (λ first more due. due-marked p h first more relay follows due) aims tt in
      let (later, first) = works-file (p.wants (taken h)) file is.is in
      record { works = is.works; later = later; first = first }
