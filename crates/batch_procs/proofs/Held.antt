-- Who holds the disk moves a page or releases it, and who puts a page has awaited room: from the history alone.
use Rattle.std.proofs.Common.{◌≡◌, ℕ, ◌⊎◌, inl, inr, Bool, true, false, List, [], ◌∷◌, ◌++◌, Option, None, Some, refl, sym, ◌∙◌, ap, subst}
use Rattle.std.proofs.lemmas.List.{append-nil}
use Rattle.solo_base.specs.declared.outcome.Outcome.{Outcome}
use Rattle.batch_procs.specs.Jobs.{Jobs}
use Rattle.batch_procs.specs.declared.actions.Action.{Action}
use Rattle.batch_procs.specs.declared.actions.Action.TheVariants as act
use Rattle.batch_procs.specs.declared.actions.Reply.{Reply}
use Rattle.batch_procs.specs.declared.actions.Reply.TheVariants as reply
use Rattle.batch_procs.specs.Parcels.{Parcel, OfFeed, OfPage, OfLine, OfLoad, is_ended}
use Rattle.batch_procs.specs.History.{is_unworked, Entry, Does, LacksMemory, Delays, taken, taken_by, sent, put_by, holds, holds_after, newest}
use Rattle.batch_procs.specs.Causes.{given_cause, or_new, caused}
use Rattle.batch_procs.specs.Fits.{Fits}
use Rattle.batch_procs.specs.Process.{Process, unworked, due, puts, works_on, aimed, aim, begins, working, Follows}
use Rattle.batch_procs.specs.Laws.{IsTake, IsRelay, AwaitedRoom, AwaitedItem}
use Rattle.batch_procs.specs.Parts.{some-same}
use Rattle.batch_procs.proofs.Closing.{works-next, or-none}

abbrev pub IsPagePut : Action → Type 0
IsPagePut (act.PutPage page) = Unit {0}
IsPagePut other = ⊥

abbrev pub IsPageTake : Action → Type 0
IsPageTake act.TakePage = Unit {0}
IsPageTake other = ⊥

abbrev pub IsLoad : Action → Type 0
IsLoad (act.Load file) = Unit {0}
IsLoad other = ⊥

-- what the disk is held for: a page that is put where there is room, or taken where there is one, or a load
abbrev pub IsHeldFor : Action → Type 0 → Type 0 → Type 0
IsHeldFor aim room item = (IsPagePut aim × room) ⊎ ((IsPageTake aim × item) ⊎ IsLoad aim)

-- none of the calls around an aim
abbrev pub IsAim : Action → Type 0
IsAim act.AwaitRoom = ⊥
IsAim act.AwaitItem = ⊥
IsAim act.Request = ⊥
IsAim act.Release = ⊥
IsAim (act.Stop b) = ⊥
IsAim other = Unit {0}

take-aim : (takes : Action) → IsTake takes → IsAim takes
take-aim act.ReadCard is = tt
take-aim act.TakeFeed is = tt
take-aim act.TakePage is = tt
take-aim other is = absurd is

works-aim : (wanted : List (List ℕ)) → IsAim (works_on wanted)
works-aim [] = tt
works-aim (file ∷ later) = tt

-- by the newest action of one that works: whether it holds the disk, and what it aims at
abbrev pub KeptBy : Option Action → Action → Bool → Type 0 → Type 0 → Type 0
KeptBy None aim held room item = held ≡ false
KeptBy (Some act.AwaitRoom) aim held room item = (held ≡ false) × IsPagePut aim × room
KeptBy (Some act.AwaitItem) aim held room item = (held ≡ false) × IsPageTake aim × item
KeptBy (Some act.Request) aim held room item = (held ≡ true) × IsHeldFor aim room item
KeptBy (Some (act.PutPage page)) aim held room item = held ≡ true
KeptBy (Some act.TakePage) aim held room item = held ≡ true
KeptBy (Some (act.Load file)) aim held room item = held ≡ true
KeptBy (Some other) aim held room item = held ≡ false

abbrev pub IsFree : Action → Type 0
IsFree act.Request = ⊥
IsFree act.Release = ⊥
IsFree (act.PutPage page) = ⊥
IsFree act.TakePage = ⊥
IsFree (act.Load file) = ⊥
IsFree other = Unit {0}

not-free : (aim : Action) (room item : Type 0) → IsHeldFor aim room item → IsFree aim → ⊥
not-free (act.PutPage page) room item is free = free
not-free act.TakePage room item is free = free
not-free (act.Load file) room item is free = free
not-free other room item (inl is) free = is.0
not-free other room item (inr (inl is)) free = is.0
not-free other room item (inr (inr is)) free = is

pub free-holds_not : (newest : Option Action) (aim : Action) (held : Bool) (room item : Type 0) (a : Action) → KeptBy newest aim held room item
    → working newest aim ≡ Some a → IsFree a → held ≡ false
free-holds_not None aim held room item a kept next free = kept
free-holds_not (Some act.AwaitRoom) aim held room item a kept next free = kept.0
free-holds_not (Some act.AwaitItem) aim held room item a kept next free = kept.0
free-holds_not (Some act.Request) aim held room item a kept next free = absurd (not-free aim room item kept.1 (subst IsFree (sym (some-same aim a next)) free))
free-holds_not (Some (act.PutPage page)) aim held room item a kept next free = absurd (subst IsFree (sym (some-same act.Release a next)) free)
free-holds_not (Some act.TakePage) aim held room item a kept next free = absurd (subst IsFree (sym (some-same act.Release a next)) free)
free-holds_not (Some (act.Load file)) aim held room item a kept next free = absurd (subst IsFree (sym (some-same act.Release a next)) free)
free-holds_not (Some other) aim held room item a kept next free = kept

begins-room : (aim : Action) → begins aim ≡ act.AwaitRoom → IsAim aim → IsPagePut aim
begins-room (act.PutPage page) e is = tt
begins-room act.TakePage e is = absurd cc
begins-room (act.Load file) e is = absurd cc
begins-room other e is = absurd (subst IsAim e is)

begins-item : (aim : Action) → begins aim ≡ act.AwaitItem → IsAim aim → IsPageTake aim
begins-item (act.PutPage page) e is = absurd cc
begins-item act.TakePage e is = tt
begins-item (act.Load file) e is = absurd cc
begins-item other e is = absurd (subst IsAim e is)

-- only a load begins with a request
pub begins-aim : (aim : Action) → begins aim ≡ act.Request → IsAim aim → IsLoad aim
begins-aim (act.PutPage page) e is = absurd cc
begins-aim act.TakePage e is = absurd cc
begins-aim (act.Load file) e is = tt
begins-aim other e is = absurd (subst IsAim e is)

pub awaits-room : (newest : Option Action) (aim : Action) → working newest aim ≡ Some act.AwaitRoom → IsAim aim → IsPagePut aim
awaits-room None aim next is = begins-room aim (some-same (begins aim) act.AwaitRoom next) is
awaits-room (Some act.AwaitRoom) aim next is = absurd cc
awaits-room (Some act.AwaitItem) aim next is = absurd cc
awaits-room (Some act.Request) aim next is = absurd (subst IsAim (some-same aim act.AwaitRoom next) is)
awaits-room (Some (act.PutPage page)) aim next is = absurd cc
awaits-room (Some act.TakePage) aim next is = absurd cc
awaits-room (Some (act.Load file)) aim next is = absurd cc
awaits-room (Some (act.Ended how)) aim next is = absurd cc
awaits-room (Some other) aim next is = begins-room aim (some-same (begins aim) act.AwaitRoom next) is

pub awaits-item : (newest : Option Action) (aim : Action) → working newest aim ≡ Some act.AwaitItem → IsAim aim → IsPageTake aim
awaits-item None aim next is = begins-item aim (some-same (begins aim) act.AwaitItem next) is
awaits-item (Some act.AwaitRoom) aim next is = absurd cc
awaits-item (Some act.AwaitItem) aim next is = absurd cc
awaits-item (Some act.Request) aim next is = absurd (subst IsAim (some-same aim act.AwaitItem next) is)
awaits-item (Some (act.PutPage page)) aim next is = absurd cc
awaits-item (Some act.TakePage) aim next is = absurd cc
awaits-item (Some (act.Load file)) aim next is = absurd cc
awaits-item (Some (act.Ended how)) aim next is = absurd cc
awaits-item (Some other) aim next is = begins-item aim (some-same (begins aim) act.AwaitItem next) is

requests : (newest : Option Action) (aim : Action) (held : Bool) (room item : Type 0) → KeptBy newest aim held room item → working newest aim ≡ Some act.Request
    → IsAim aim → IsHeldFor aim room item
requests None aim held room item kept next is = inr (inr (begins-aim aim (some-same (begins aim) act.Request next) is))
requests (Some act.AwaitRoom) aim held room item kept next is = inl (kept.1, kept.2)
requests (Some act.AwaitItem) aim held room item kept next is = inr (inl (kept.1, kept.2))
requests (Some act.Request) aim held room item kept next is = absurd (subst IsAim (some-same aim act.Request next) is)
requests (Some (act.PutPage page)) aim held room item kept next is = absurd cc
requests (Some act.TakePage) aim held room item kept next is = absurd cc
requests (Some (act.Load file)) aim held room item kept next is = absurd cc
requests (Some (act.Ended how)) aim held room item kept next is = absurd cc
requests (Some other) aim held room item kept next is = inr (inr (begins-aim aim (some-same (begins aim) act.Request next) is))

-- a page is moved, and a file loaded, by a holder
abbrev pub IsMove : Action → Type 0
IsMove (act.PutPage page) = Unit {0}
IsMove act.TakePage = Unit {0}
IsMove (act.Load file) = Unit {0}
IsMove other = ⊥

pub begins-no_move : (aim : Action) → IsMove (begins aim) → ⊥
begins-no_move (act.PutPage page) is = is
begins-no_move act.TakePage is = is
begins-no_move (act.Load file) is = is
begins-no_move other is = is

pub moves-held : (newest : Option Action) (aim : Action) (held : Bool) (room item : Type 0) (a : Action) → KeptBy newest aim held room item
    → working newest aim ≡ Some a → IsMove a → held ≡ true
moves-held None aim held room item a kept next is = absurd (begins-no_move aim (subst IsMove (sym (some-same (begins aim) a next)) is))
moves-held (Some act.AwaitRoom) aim held room item a kept next is = absurd (subst IsMove (sym (some-same act.Request a next)) is)
moves-held (Some act.AwaitItem) aim held room item a kept next is = absurd (subst IsMove (sym (some-same act.Request a next)) is)
moves-held (Some act.Request) aim held room item a kept next is = kept.0
moves-held (Some (act.PutPage page)) aim held room item a kept next is = kept
moves-held (Some act.TakePage) aim held room item a kept next is = kept
moves-held (Some (act.Load file)) aim held room item a kept next is = kept
moves-held (Some (act.Ended how)) aim held room item a kept next is = absurd cc
moves-held (Some other) aim held room item a kept next is = absurd (begins-no_move aim (subst IsMove (sym (some-same (begins aim) a next)) is))

-- a call around a move of a page
abbrev pub IsAround : Action → Type 0
IsAround act.AwaitRoom = Unit {0}
IsAround act.AwaitItem = Unit {0}
IsAround act.Request = Unit {0}
IsAround other = ⊥

pub some-not_none : (old : Option Outcome) (how : Outcome) → or_new old (Some how) ≡ None → ⊥
some-not_none None how e = cc
some-not_none (Some before) how e = cc

module _ {L : Type 0} (J : Jobs L) where
  puts-aim : (parcel : Parcel L) → IsAim (puts parcel)
  puts-aim (OfFeed f) = tt
  puts-aim (OfPage page last) = tt
  puts-aim (OfLine line) = tt
  puts-aim (OfLoad load) = tt

  aimed-aim : (takes : Action) (wanted : List (List ℕ)) (due : List (Parcel L)) (ended unworked : Bool) → IsTake takes
      → IsAim (aimed takes wanted due ended unworked)
  aimed-aim takes wanted [] true false is = tt
  aimed-aim takes wanted [] true true is = works-aim wanted
  aimed-aim takes wanted [] false true is = works-aim wanted
  aimed-aim takes wanted [] false false is = take-aim takes is
  aimed-aim takes wanted (parcel ∷ more) ended unworked is = puts-aim parcel

  pub aim-is : (p : Process L) (h : List (Entry L)) → IsRelay p → IsAim (aim p h)
  aim-is p h relay = aimed-aim p.takes (p.wants (taken h)) (due p h) (is_ended (taken h)) (unworked p h) relay.takes

  around-takes : (a : Action) (r : Reply L) → IsAround a → Fits J a r → taken_by r ≡ []
  around-takes act.AwaitRoom reply.Done is fits = refl
  around-takes act.AwaitRoom reply.Stopped is fits = refl
  around-takes act.AwaitItem reply.Done is fits = refl
  around-takes act.AwaitItem reply.Stopped is fits = refl
  around-takes act.Request reply.Done is fits = refl
  around-takes act.AwaitRoom other is fits = absurd fits
  around-takes act.AwaitItem other is fits = absurd fits
  around-takes act.Request other is fits = absurd fits
  around-takes other r is fits = absurd is

  around-puts : (a : Action) (r : Reply L) → IsAround a → put_by a r ≡ []
  around-puts act.AwaitRoom r is = refl
  around-puts act.AwaitItem r is = refl
  around-puts act.Request r is = refl
  around-puts other r is = absurd is

  around-work : (a : Action) (r : Reply L) (h : List (Entry L)) → IsAround a → is_unworked (Does a r ∷ h) ≡ is_unworked h
  around-work act.AwaitRoom r h is = refl
  around-work act.AwaitItem r h is = refl
  around-work act.Request r h is = refl
  around-work other r h is = absurd is

  -- leaves what is aimed at
  same-aim : (p : Process L) (h : List (Entry L)) (a : Action) (r : Reply L) → IsAround a → Fits J a r → aim p (Does a r ∷ h) ≡ aim p h
  same-aim p h a r around fits =
      let sent-is : sent h ++ put_by a r ≡ sent h = ap (λ more. sent h ++ more) (around-puts a r around) ∙ append-nil (sent h) in
      let taken-is : taken h ++ taken_by r ≡ taken h = ap (λ more. taken h ++ more) (around-takes a r around fits) ∙ append-nil (taken h) in
      rw (around-work a r h around, sent-is, taken-is) refl

  kept-after : (p : Process L) (h : List (Entry L)) (a : Action) (r : Reply L) → IsRelay p → IsAim (aim p h)
      → KeptBy (newest h) (aim p h) (holds h) (AwaitedRoom h) (AwaitedItem h) → working (newest h) (aim p h) ≡ Some a → Fits J a r
      → KeptBy (Some a) (aim p (Does a r ∷ h)) (holds_after (holds h) a) (AwaitedRoom (Does a r ∷ h)) (AwaitedItem (Does a r ∷ h))
  kept-after p h act.AwaitRoom r relay is kept next fits = (
    free-holds_not (newest h) (aim p h) (holds h) (AwaitedRoom h) (AwaitedItem h) act.AwaitRoom kept next tt,
    subst IsPagePut
        (sym (same-aim p h act.AwaitRoom r tt fits)) (awaits-room (newest h) (aim p h) next is),
    tt,
  )
  kept-after p h act.AwaitItem r relay is kept next fits = (
    free-holds_not (newest h) (aim p h) (holds h) (AwaitedRoom h) (AwaitedItem h) act.AwaitItem kept next tt,
    subst IsPageTake
        (sym (same-aim p h act.AwaitItem r tt fits)) (awaits-item (newest h) (aim p h) next is),
    tt,
  )
  kept-after p h act.Request r relay is kept next fits = (
    refl,
    subst (λ aim. IsHeldFor aim (AwaitedRoom h) (AwaitedItem h)) (sym (same-aim p h act.Request r tt fits)) (requests (newest h) (aim p h) (holds h)
        (AwaitedRoom h) (AwaitedItem h) kept next is),
  )
  kept-after p h (act.PutPage page) r relay is kept next fits =
      moves-held (newest h) (aim p h) (holds h) (AwaitedRoom h) (AwaitedItem h) (act.PutPage page) kept next tt
  kept-after p h act.TakePage r relay is kept next fits = moves-held (newest h) (aim p h) (holds h) (AwaitedRoom h) (AwaitedItem h) act.TakePage kept next tt
  kept-after p h (act.Load file) r relay is kept next fits =
      moves-held (newest h) (aim p h) (holds h) (AwaitedRoom h) (AwaitedItem h) (act.Load file) kept next tt
  kept-after p h act.Release r relay is kept next fits = refl
  kept-after p h other r relay is kept next fits = free-holds_not (newest h) (aim p h) (holds h) (AwaitedRoom h) (AwaitedItem h) other kept next tt

  pub kept : (p : Process L) (h : List (Entry L)) → IsRelay p → Follows J p h → caused h ≡ None → KeptBy (newest h) (aim p h) (holds h) (AwaitedRoom h)
      (AwaitedItem h)
  kept p [] relay follows none = refl
  kept p (Does a r ∷ h) relay follows none =
      let before = or-none (caused h) (given_cause a r h) none in
      kept-after p h a r relay (aim-is p h relay) (kept p h relay follows.2 before) (works-next J p h a follows.0 before) follows.1
  kept p (LacksMemory a r ∷ h) relay follows none = absurd (some-not_none (caused h) _ none)
  kept p (Delays a ∷ h) relay follows none = kept p h relay follows.2 none
