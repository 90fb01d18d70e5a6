-- What a holder of the disk does next, and what a page was awaited by.
use Rattle.std.proofs.Common.{◌≡◌, inl, inr, ℕ, Bool, true, false, if◌then◌else◌, List, [], ◌∷◌, Option, None, Some, refl, sym, ◌∙◌, ap, subst}
use Rattle.solo_base.specs.declared.outcome.Outcome.{Outcome}
use Rattle.batch_procs.specs.Jobs.{Jobs}
use Rattle.batch_procs.specs.declared.actions.Action.{Action}
use Rattle.batch_procs.specs.declared.actions.Action.TheVariants as act
use Rattle.solo_base.specs.declared.page.Page.{Page}
use Rattle.batch_procs.specs.History.{Entry, Does, LacksMemory, Delays, put, holds, holds_after, has_stopped, newest}
use Rattle.batch_procs.specs.Causes.{caused}
use Rattle.batch_procs.specs.Process.{Process, aim, begins, working, stops_next, closes, closing, next_by, next_action, Follows}
use Rattle.batch_procs.specs.Laws.{IsOpen, IsHeld, IsRelay, HasEnded, AwaitedRoom, AwaitedItem, HoldsOn}
use Rattle.batch_procs.specs.Parts.{some-same}
use Rattle.batch_procs.proofs.Relay.{closing-next, open-next}
use Rattle.batch_procs.proofs.Closing.{works-next}
use Rattle.batch_procs.proofs.Held.{moves-held, free-holds_not, begins-no_move, IsLoad, IsHeldFor, IsMove, IsAim, KeptBy, kept}
pub use Rattle.batch_procs.proofs.Held.{IsPagePut, IsPageTake, aim-is, awaits-room, awaits-item, some-not_none}

-- ---- what follows for its next action
move-open : (a : Action) → IsMove a → IsOpen a
move-open (act.PutPage page) is = tt
move-open act.TakePage is = tt
move-open (act.Load file) is = tt
move-open other is = absurd is

begins-no_page : (aim : Action) (page : Page) → begins aim ≡ act.PutPage page → ⊥
begins-no_page (act.PutPage put) page e = cc
begins-no_page act.TakePage page e = cc
begins-no_page (act.Load file) page e = cc
begins-no_page other page e = cc

move-held : (aim : Action) (room item : Type 0) → IsHeldFor aim room item → IsHeld aim
move-held (act.PutPage page) room item is = tt
move-held act.TakePage room item is = tt
move-held (act.Load file) room item is = tt
move-held other room item (inl is) = absurd is.0
move-held other room item (inr (inl is)) = absurd is.0
move-held other room item (inr (inr is)) = absurd is

-- who closes has an action until it ended
closing-on : (newest : Option Action) (next : Action) → ((how : Outcome) → newest ≡ Some (act.Ended how) → ⊥) → closing newest next ≡ Some next
closing-on None next not = refl
closing-on (Some (act.Ended how)) next not = absurd (not how refl)
closing-on (Some other) next not = refl

-- ---- there is no next action only behind the end
working-none : (newest : Option Action) (aim : Action) → working newest aim ≡ None → (how : Outcome) × (newest ≡ Some (act.Ended how))
working-none None aim e = absurd cc
working-none (Some act.AwaitRoom) aim e = absurd cc
working-none (Some act.AwaitItem) aim e = absurd cc
working-none (Some act.Request) aim e = absurd cc
working-none (Some (act.PutPage page)) aim e = absurd cc
working-none (Some act.TakePage) aim e = absurd cc
working-none (Some (act.Load file)) aim e = absurd cc
working-none (Some (act.Ended how)) aim e = (how, refl)
working-none (Some other) aim e = absurd cc

closing-none : (newest : Option Action) (next : Action) → closing newest next ≡ None → (how : Outcome) × (newest ≡ Some (act.Ended how))
closing-none None next e = absurd cc
closing-none (Some (act.Ended how)) next e = (how, refl)
closing-none (Some other) next e = absurd cc

-- ---- who releases the disk holds it, and who requests it doesn't
pub begins-no_release : (aim : Action) → begins aim ≡ act.Release → IsAim aim → ⊥
begins-no_release (act.PutPage page) e is = cc
begins-no_release act.TakePage e is = cc
begins-no_release (act.Load file) e is = cc
begins-no_release other e is = subst IsAim e is

module _ {L : Type 0} (J : Jobs L) where
  pub moves-holding : (p : Process L) (h : List (Entry L)) (a : Action) → IsRelay p → Follows J p h → next_action p h ≡ Some a → IsMove a → holds h ≡ true
  moves-holding p h a relay follows next is =
      let none = open-next J p h a next (move-open a is) in
      moves-held (newest h) (aim p h) (holds h) (AwaitedRoom h) (AwaitedItem h) a (kept J p h relay follows none) (works-next J p h a next none) is

  puts-by : (newest : Option Action) (aim : Action) (held : Bool) (room item : Type 0) (page : Page) → KeptBy newest aim held room item
      → working newest aim ≡ Some (act.PutPage page) → room
  puts-by None aim held room item page kept next = absurd (begins-no_page aim page (some-same (begins aim) (act.PutPage page) next))
  puts-by (Some act.AwaitRoom) aim held room item page kept next = absurd cc
  puts-by (Some act.AwaitItem) aim held room item page kept next = absurd cc
  puts-by (Some act.Request) aim held room item page (on, inl is) next = is.1
  puts-by (Some act.Request) aim held room item page (on, inr (inl is)) next = absurd (subst IsPageTake (some-same aim (act.PutPage page) next) is.0)
  puts-by (Some act.Request) aim held room item page (on, inr (inr is)) next = absurd (subst IsLoad (some-same aim (act.PutPage page) next) is)
  puts-by (Some (act.PutPage put)) aim held room item page kept next = absurd cc
  puts-by (Some act.TakePage) aim held room item page kept next = absurd cc
  puts-by (Some (act.Load file)) aim held room item page kept next = absurd cc
  puts-by (Some (act.Ended how)) aim held room item page kept next = absurd cc
  puts-by (Some other) aim held room item page kept next = absurd (begins-no_page aim page (some-same (begins aim) (act.PutPage page) next))

  pub puts-awaited : (p : Process L) (h : List (Entry L)) (page : Page) → IsRelay p → Follows J p h → next_action p h ≡ Some (act.PutPage page) → AwaitedRoom h
  puts-awaited p h page relay follows next =
      let none = open-next J p h (act.PutPage page) next tt in
      puts-by (newest h) (aim p h) (holds h) (AwaitedRoom h) (AwaitedItem h) page (kept J p h relay follows none)
      (works-next J p h (act.PutPage page) next none)

  holds-on : (newest : Option Action) (aim : Action) (held : Bool) (room item : Type 0) → KeptBy newest aim held room item → held ≡ true
      → HoldsOn (working newest aim)
  holds-on None aim held room item kept holds = absurd cc
  holds-on (Some act.AwaitRoom) aim held room item kept holds = let no_hold = kept.0 in absurd cc
  holds-on (Some act.AwaitItem) aim held room item kept holds = let no_hold = kept.0 in absurd cc
  holds-on (Some act.Request) aim held room item kept holds = record { action = aim; is = refl; held = move-held aim room item kept.1 }
  holds-on (Some (act.PutPage page)) aim held room item kept holds = record { action = act.Release; is = refl; held = tt }
  holds-on (Some act.TakePage) aim held room item kept holds = record { action = act.Release; is = refl; held = tt }
  holds-on (Some (act.Load file)) aim held room item kept holds = record { action = act.Release; is = refl; held = tt }
  holds-on (Some other) aim held room item kept holds = absurd cc

  closes-holding : (buffers : List ℕ) (how last : Outcome) (h : List (Entry L)) → closes buffers how h ≡ act.Ended last → holds h ≡ false
  closes-holding buffers how last h e =
      let P : Bool → Type 0 = λ t. (if t then act.Release else stops_next buffers how h) ≡ act.Ended last → t ≡ false in
      elim (holds h) as P [ true ↦ (λ e. absurd cc) | false ↦ (λ e. refl) ] e

  end-holds_not : (p : Process L) (cause : Option Outcome) (h : List (Entry L)) (how : Outcome)
      → (cause ≡ None → KeptBy (newest h) (aim p h) (holds h) (AwaitedRoom h) (AwaitedItem h)) → next_by p cause h ≡ Some (act.Ended how) → holds h ≡ false
  end-holds_not p None h how is next = free-holds_not (newest h) (aim p h) (holds h) (AwaitedRoom h) (AwaitedItem h) (act.Ended how) (is refl) next tt
  end-holds_not p (Some cause) h how is next = closes-holding p.buffers cause how h (closing-next (newest h) (closes p.buffers cause h) (act.Ended how) next)

  pub ended-holds_not : (p : Process L) (h : List (Entry L)) (how : Outcome) → IsRelay p → Follows J p h → newest h ≡ Some (act.Ended how) → holds h ≡ false
  ended-holds_not p [] how relay follows e = refl
  ended-holds_not p (Does a r ∷ h) how relay follows e =
      let same : a ≡ act.Ended how = some-same a (act.Ended how) e in
      ap (holds_after (holds h)) same ∙ end-holds_not p (caused h) h how (kept J p h relay follows.2) (follows.0 ∙ e)
  ended-holds_not p (LacksMemory a r ∷ h) how relay follows e =
      end-holds_not p (caused h) h how (kept J p h relay follows.2) (follows.0 ∙ e)
  ended-holds_not p (Delays a ∷ h) how relay follows e = ended-holds_not p h how relay follows.2 e

  takes-by : (newest : Option Action) (aim : Action) (held : Bool) (room item : Type 0) → KeptBy newest aim held room item
      → working newest aim ≡ Some act.TakePage → item
  takes-by None aim held room item kept next = absurd (begins-no_move aim (subst IsMove (sym (some-same (begins aim) act.TakePage next)) tt))
  takes-by (Some act.AwaitRoom) aim held room item kept next = absurd cc
  takes-by (Some act.AwaitItem) aim held room item kept next = absurd cc
  takes-by (Some act.Request) aim held room item (on, inl is) next = absurd (subst IsPagePut (some-same aim act.TakePage next) is.0)
  takes-by (Some act.Request) aim held room item (on, inr (inl is)) next = is.1
  takes-by (Some act.Request) aim held room item (on, inr (inr is)) next = absurd (subst IsLoad (some-same aim act.TakePage next) is)
  takes-by (Some (act.PutPage put)) aim held room item kept next = absurd cc
  takes-by (Some act.TakePage) aim held room item kept next = absurd cc
  takes-by (Some (act.Load file)) aim held room item kept next = absurd cc
  takes-by (Some (act.Ended how)) aim held room item kept next = absurd cc
  takes-by (Some other) aim held room item kept next = absurd (begins-no_move aim (subst IsMove (sym (some-same (begins aim) act.TakePage next)) tt))

  pub takes-awaited : (p : Process L) (h : List (Entry L)) → IsRelay p → Follows J p h → next_action p h ≡ Some act.TakePage → AwaitedItem h
  takes-awaited p h relay follows next =
      let none = open-next J p h act.TakePage next tt in
      takes-by (newest h) (aim p h) (holds h) (AwaitedRoom h) (AwaitedItem h) (kept J p h relay follows none) (works-next J p h act.TakePage next none)

  holds-by : (p : Process L) (cause : Option Outcome) (h : List (Entry L)) → (cause ≡ None → KeptBy (newest h) (aim p h) (holds h) (AwaitedRoom h)
      (AwaitedItem h))
      → ((how : Outcome) → newest h ≡ Some (act.Ended how) → ⊥) → holds h ≡ true → HoldsOn (next_by p cause h)
  holds-by p None h is not held = holds-on (newest h) (aim p h) _ (AwaitedRoom h) (AwaitedItem h) (is refl) held
  holds-by p (Some cause) h is not held =
      record { action = act.Release; is = closing-on (newest h) (closes p.buffers cause h) not ∙ rw held refl; held = tt }

  -- Who holds the disk moves a page next, loads a file, or releases it.
  pub holder-next : (p : Process L) (h : List (Entry L)) → IsRelay p → Follows J p h → holds h ≡ true → HoldsOn (next_action p h)
  holder-next p h relay follows held =
      holds-by p (caused h) h (kept J p h relay follows) (λ how e. let no_hold = ended-holds_not p h how relay follows e in absurd cc) held

  none-by : (p : Process L) (cause : Option Outcome) (h : List (Entry L)) → next_by p cause h ≡ None → HasEnded h
  none-by p None h e = working-none (newest h) (aim p h) e
  none-by p (Some how) h e = closing-none (newest h) (closes p.buffers how h) e

  pub none-next : (p : Process L) (h : List (Entry L)) → next_action p h ≡ None → HasEnded h
  none-next p h e = none-by p (caused h) h e

  releases-by : (newest : Option Action) (aim : Action) (held : Bool) (room item : Type 0) → KeptBy newest aim held room item
      → working newest aim ≡ Some act.Release → IsAim aim → held ≡ true
  releases-by None aim held room item kept next is = absurd (begins-no_release aim (some-same (begins aim) act.Release next) is)
  releases-by (Some act.AwaitRoom) aim held room item kept next is = absurd cc
  releases-by (Some act.AwaitItem) aim held room item kept next is = absurd cc
  releases-by (Some act.Request) aim held room item kept next is = kept.0
  releases-by (Some (act.PutPage page)) aim held room item kept next is = kept
  releases-by (Some act.TakePage) aim held room item kept next is = kept
  releases-by (Some (act.Load file)) aim held room item kept next is = kept
  releases-by (Some (act.Ended how)) aim held room item kept next is = absurd cc
  releases-by (Some other) aim held room item kept next is = absurd (begins-no_release aim (some-same (begins aim) act.Release next) is)

  stops-no_release : (buffers : List ℕ) (how : Outcome) (h : List (Entry L)) → stops_next buffers how h ≡ act.Release → ⊥
  stops-no_release [] how h e = cc
  stops-no_release (b ∷ later) how h e =
      let P : Bool → Type 0 = λ t. (if t then stops_next later how h else act.Stop b) ≡ act.Release → ⊥ in
      elim (has_stopped b h) as P [ true ↦ stops-no_release later how h | false ↦ (λ e. cc) ] e

  closes-release : (buffers : List ℕ) (how : Outcome) (h : List (Entry L)) → closes buffers how h ≡ act.Release → holds h ≡ true
  closes-release buffers how h e =
      let P : Bool → Type 0 = λ t. (if t then act.Release else stops_next buffers how h) ≡ act.Release → t ≡ true in
      elim (holds h) as P [ true ↦ (λ e. refl) | false ↦ (λ e. absurd (stops-no_release buffers how h e)) ] e

  release-by : (p : Process L) (cause : Option Outcome) (h : List (Entry L)) → IsAim (aim p h)
      → (cause ≡ None → KeptBy (newest h) (aim p h) (holds h) (AwaitedRoom h) (AwaitedItem h)) → next_by p cause h ≡ Some act.Release → holds h ≡ true
  release-by p None h is so next = releases-by (newest h) (aim p h) (holds h) (AwaitedRoom h) (AwaitedItem h) (so refl) next is
  release-by p (Some how) h is so next = closes-release p.buffers how h (closing-next (newest h) (closes p.buffers how h) act.Release next)

  pub release-holds : (p : Process L) (h : List (Entry L)) → IsRelay p → Follows J p h → next_action p h ≡ Some act.Release → holds h ≡ true
  release-holds p h relay follows next = release-by p (caused h) h (aim-is J p h relay) (kept J p h relay follows) next

  requests-not : (newest : Option Action) (aim : Action) (held : Bool) (room item : Type 0) → KeptBy newest aim held room item
      → working newest aim ≡ Some act.Request → IsAim aim → held ≡ false
  requests-not None aim held room item kept next is = kept
  requests-not (Some act.AwaitRoom) aim held room item kept next is = kept.0
  requests-not (Some act.AwaitItem) aim held room item kept next is = kept.0
  requests-not (Some act.Request) aim held room item kept next is = absurd (subst IsAim (some-same aim act.Request next) is)
  requests-not (Some (act.PutPage page)) aim held room item kept next is = absurd cc
  requests-not (Some act.TakePage) aim held room item kept next is = absurd cc
  requests-not (Some (act.Load file)) aim held room item kept next is = absurd cc
  requests-not (Some (act.Ended how)) aim held room item kept next is = absurd cc
  requests-not (Some other) aim held room item kept next is = kept

  pub request-holds_not : (p : Process L) (h : List (Entry L)) → IsRelay p → Follows J p h → next_action p h ≡ Some act.Request → holds h ≡ false
  request-holds_not p h relay follows next =
      let none = open-next J p h act.Request next tt in
      requests-not (newest h) (aim p h) (holds h) (AwaitedRoom h) (AwaitedItem h) (kept J p h relay follows none) (works-next J p h act.Request next none)
      (aim-is J p h relay)
