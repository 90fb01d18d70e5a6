-- The twin network meets what the law asks of the processes of a network.
use Rattle.std.proofs.Common.{◌≡◌, inl, inr, ℕ, ◌==◌, ◌&&◌, ◌||◌, Bool, true, false, if◌then◌else◌, List, [], ◌∷◌, Option, None, Some, refl, sym, ◌∙◌, ap, subst, arith}
use Rattle.std.specs.List.{AllByRecursion}
use Rattle.std.proofs.lemmas.Bool.Decides.{eqb_tells}
use Rattle.queue_var.specs.Sides.{same_side}
use Rattle.network_law.specs.Acts.{Call, Alone, At, Asks, Gives, Visit, Awaits, Passes, Moves, Stops, Went, Delayed, Told, Moved, Act, made_stop, found_ready, found_by, holds_by, is_same}
use Rattle.network_law.specs.Acts as go
use Rattle.network_law.specs.Network.{Network, IsOne, acts, call_of}
use Rattle.network_law.specs.Network as law
use Rattle.network_law.specs.Processes.{CallsNext, IsPrompt, IsLawful}
use Rattle.solo_base.specs.declared.outcome.Side.{Side}
use Rattle.solo_base.specs.declared.outcome.Side.TheVariants.{Sender, Receiver}
use Rattle.solo_base.specs.declared.outcome.Outcome.{Outcome}
use Rattle.page_codec.specs.Packing.{fits}
use Rattle.batch_procs.specs.declared.actions.Reply.{Reply}
use Rattle.batch_procs.specs.Jobs.{Jobs}
use Rattle.batch_procs.specs.Parcels.{Parcel}
use Rattle.place_law.specs.Process.{Does, LacksMemory, Delays, action_of, or_new}
use Rattle.solo_base.specs.declared.outcome.Outcome.TheVariants as outcome
use Rattle.batch_procs.specs.declared.actions.Reply.TheVariants as reply
use Rattle.twin_law.specs.Process.{Action, ReadCard, PutFeed, TakeFeed, AwaitRoom, AwaitItem, Request, PutPage, TakePage, Load, Release, Local, Print, Stop, Ended, Entry, Aim, Reads, PutsFeed, TakesFeed, PutsPage, TakesPage, Loads, Works, Prints, Finishes, Process, stands_behind, place, aim, given_cause, caused, holds_after, holds, stops_at, has_stopped, is_end, has_ended, newest, begins, moves, working, stops_next, closes, Closing, closing_by, closing, next_by, unless_ended, next_action}
use Rattle.twin_law.specs.Sides.{Twin, A, B, other, from_job}
use Rattle.twin_law.specs.Ends.{CardPlace, ReadsCard, PutsCard, PutsEnd, HasPut, card_aims, PrinterPlace, TakesLine, PrintsLine, HasPrinted, printer_aims}
use Rattle.twin_law.specs.Input.{InputPlace, Takes, PutsFull, PutsLast, PutsEmptyA, PutsEmptyB, HasDealt, input_aims}
use Rattle.twin_law.specs.Job.{JobPlace, TakesItems, LoadsFile, Toils, PutsLines, PutsLastLines, HasWorked, job_aims}
use Rattle.twin_law.specs.Output.{OutputPlace, TakesLines, PutsLine, PutsOver, HasGathered, output_aims}
use Rattle.twin_law.specs.Table.{process}
use Rattle.twin_law.specs.Twin.{seat, side_at, call, went_by, went, Fits, MayLack, MayWait, twin}

-- ---- where a process aims
abbrev pub Seats : ℕ → Aim → Type 0
Seats p (PutsFeed b f) = seat b Sender ≡ p
Seats p (PutsPage b page) = seat b Sender ≡ p
Seats p (TakesFeed b) = seat b Receiver ≡ p
Seats p (TakesPage b) = seat b Receiver ≡ p
Seats p other = Unit {0}

pub card-seats : (a : CardPlace) → Seats 1 (card_aims a)
card-seats ReadsCard = tt
card-seats (PutsCard item) = refl
card-seats PutsEnd = refl
card-seats HasPut = tt

pub input-seats : (a : InputPlace) → Seats 2 (input_aims a)
input-seats (Takes side inside hand) = refl
input-seats (PutsFull A inside full hand) = refl
input-seats (PutsFull B inside full hand) = refl
input-seats (PutsLast A last opener) = refl
input-seats (PutsLast B last opener) = refl
input-seats (PutsEmptyA side) = refl
input-seats (PutsEmptyB side) = refl
input-seats HasDealt = tt

abbrev pub number : Twin → ℕ
number A = 3
number B = 4

pub job-seats : {L : Type 0} (side : Twin) (a : JobPlace L) → Seats (number side) (job_aims side a)
job-seats A (TakesItems s) = refl
job-seats B (TakesItems s) = refl
job-seats side (LoadsFile file s last) = tt
job-seats side (Toils s last) = tt
job-seats A (PutsLines page s last) = refl
job-seats B (PutsLines page s last) = refl
job-seats A (PutsLastLines page some) = refl
job-seats B (PutsLastLines page some) = refl
job-seats side HasWorked = tt

turn-seats : (side : Twin) → Seats 5 (TakesPage (from_job side))
turn-seats A = refl
turn-seats B = refl

pub output-seats : (a : OutputPlace) → Seats 5 (output_aims a)
output-seats (TakesLines t) = turn-seats t.side
output-seats (PutsLine line later t over) = refl
output-seats PutsOver = refl
output-seats HasGathered = tt

pub printer-seats : (a : PrinterPlace) → Seats 6 (printer_aims a)
printer-seats TakesLine = refl
printer-seats (PrintsLine line) = tt
printer-seats HasPrinted = tt

-- ---- what an action is to the monitors where it isn't a stop
abbrev pub SeatsAction : ℕ → Action → Type 0
SeatsAction p (PutFeed b f) = seat b Sender ≡ p
SeatsAction p (TakeFeed b) = seat b Receiver ≡ p
SeatsAction p (AwaitRoom b) = seat b Sender ≡ p
SeatsAction p (AwaitItem b) = seat b Receiver ≡ p
SeatsAction p (PutPage b page) = seat b Sender ≡ p
SeatsAction p (TakePage b) = seat b Receiver ≡ p
SeatsAction p (Stop b) = ⊥
SeatsAction p other = Unit {0}

begins-seats : (p : ℕ) (m : Aim) → Seats p m → SeatsAction p (begins m)
begins-seats p Reads is = tt
begins-seats p (PutsFeed b f) is = is
begins-seats p (TakesFeed b) is = is
begins-seats p (PutsPage b page) is = is
begins-seats p (TakesPage b) is = is
begins-seats p (Loads file) is = tt
begins-seats p Works is = tt
begins-seats p (Prints line) is = tt
begins-seats p Finishes is = tt

moves-seats : (p : ℕ) (m : Aim) → Seats p m → SeatsAction p (moves m)
moves-seats p (PutsPage b page) is = is
moves-seats p (TakesPage b) is = is
moves-seats p (Loads file) is = tt
moves-seats p Reads is = tt
moves-seats p (PutsFeed b f) is = tt
moves-seats p (TakesFeed b) is = tt
moves-seats p Works is = tt
moves-seats p (Prints line) is = tt
moves-seats p Finishes is = tt

working-seats : (p : ℕ) (n : Option Action) (m : Aim) → Seats p m → SeatsAction p (working n m)
working-seats p (Some (AwaitRoom b)) m is = tt
working-seats p (Some (AwaitItem b)) m is = tt
working-seats p (Some Request) m is = moves-seats p m is
working-seats p (Some (PutPage b page)) m is = tt
working-seats p (Some (TakePage b)) m is = tt
working-seats p (Some (Load file)) m is = tt
working-seats p other m is = begins-seats p m is

-- ---- closing down: the disk is released where it is held, else a buffer that isn't stopped is stopped, or it ends
pub record IsStop {L : Type 0} (Is : ℕ → Type 0) (h : List (Entry L)) (c : ℕ) : Type 0 where
  pub is : Is c
  pub not_yet : has_stopped c h ≡ false

abbrev pub Closes : {L : Type 0} → (ℕ → Type 0) → List (Entry L) → Action → Type 0
Closes Is h (Stop c) = IsStop Is h c × (holds h ≡ false)
Closes Is h (Ended how) = holds h ≡ false
Closes Is h Release = holds h ≡ true
Closes Is h other = ⊥

closes-stops : {L : Type 0} (buffers : List ℕ) (Is : ℕ → Type 0) (how : Outcome) (h : List (Entry L)) → AllByRecursion Is buffers → holds h ≡ false
    → Closes Is h (stops_next buffers how h)
closes-stops [] Is how h all free = free
closes-stops (b ∷ later) Is how h all free =
    let P : Bool → Type 0 = λ t. has_stopped b h ≡ t → Closes Is h (if t then stops_next later how h else Stop b) in
    elim (has_stopped b h) as P [
      | true ↦ (λ e. closes-stops later Is how h all.1 free)
      | false ↦ (λ not_yet. (record { is = all.0; not_yet = not_yet }, free))
    ] refl

pub closes-down : {L : Type 0} (buffers : List ℕ) (Is : ℕ → Type 0) (how : Outcome) (h : List (Entry L)) → AllByRecursion Is buffers → Closes Is h (closes buffers how h)
closes-down buffers Is how h all =
    let P : Bool → Type 0 = λ t. holds h ≡ t → Closes Is h (if t then Release else stops_next buffers how h) in
    elim (holds h) as P [ true ↦ (λ held. held) | false ↦ (λ free. closes-stops buffers Is how h all free) ] refl

-- ---- what is known of the next action
abbrev pub Ready : {L : Type 0} → Aim → List (Act (Parcel L)) → Type 0
Ready (PutsPage b page) ac = found_ready b Sender ac ≡ true
Ready (TakesPage b) ac = found_ready b Receiver ac ≡ true
Ready other ac = ⊥

abbrev pub Granted : {L : Type 0} → Aim → List (Act (Parcel L)) → Type 0
Granted (PutsPage b page) ac = found_ready b Sender ac ≡ true
Granted (TakesPage b) ac = found_ready b Receiver ac ≡ true
Granted (Loads file) ac = Unit {0}
Granted other ac = ⊥

-- by the newest action of one without a cause
abbrev pub Mid : {L : Type 0} → Option Action → Aim → Bool → List (Act (Parcel L)) → Type 0
Mid (Some (AwaitRoom b)) m held ac = (held ≡ false) × Ready m ac
Mid (Some (AwaitItem b)) m held ac = (held ≡ false) × Ready m ac
Mid (Some Request) m held ac = (held ≡ true) × Granted m ac
Mid (Some (PutPage b page)) m held ac = held ≡ true
Mid (Some (TakePage b)) m held ac = held ≡ true
Mid (Some (Load file)) m held ac = held ≡ true
Mid other m held ac = held ≡ false

abbrev pub Good : {L : Type 0} → Action → Aim → Bool → List (Act (Parcel L)) → Type 0
Good (AwaitRoom b) m held ac = (held ≡ false) × (begins m ≡ AwaitRoom b)
Good (AwaitItem b) m held ac = (held ≡ false) × (begins m ≡ AwaitItem b)
Good Request m held ac = (held ≡ false) × Granted m ac
Good (PutPage b page) m held ac = (held ≡ true) × (found_ready b Sender ac ≡ true)
Good (TakePage b) m held ac = (held ≡ true) × (found_ready b Receiver ac ≡ true)
Good (Load file) m held ac = held ≡ true
Good Release m held ac = held ≡ true
Good other m held ac = held ≡ false

ready-granted : {L : Type 0} (m : Aim) (ac : List (Act (Parcel L))) → Ready m ac → Granted m ac
ready-granted (PutsPage b page) ac is = is
ready-granted (TakesPage b) ac is = is
ready-granted other ac is = absurd is

good-moves : {L : Type 0} (m : Aim) (held : Bool) (ac : List (Act (Parcel L))) → held ≡ true → Granted m ac → Good (moves m) m held ac
good-moves (PutsPage b page) held ac on is = (on, is)
good-moves (TakesPage b) held ac on is = (on, is)
good-moves (Loads file) held ac on is = on
good-moves other held ac on is = absurd is

good-begins : {L : Type 0} (m : Aim) (held : Bool) (ac : List (Act (Parcel L))) → held ≡ false → Good (begins m) m held ac
good-begins Reads held ac off = off
good-begins (PutsFeed b f) held ac off = off
good-begins (TakesFeed b) held ac off = off
good-begins (PutsPage b page) held ac off = (off, refl)
good-begins (TakesPage b) held ac off = (off, refl)
good-begins (Loads file) held ac off = (off, tt)
good-begins Works held ac off = off
good-begins (Prints line) held ac off = off
good-begins Finishes held ac off = off

good-working : {L : Type 0} (n : Option Action) (m : Aim) (held : Bool) (ac : List (Act (Parcel L))) → Mid n m held ac → Good (working n m) m held ac
good-working (Some (AwaitRoom b)) m held ac mid = (mid.0, ready-granted m ac mid.1)
good-working (Some (AwaitItem b)) m held ac mid = (mid.0, ready-granted m ac mid.1)
good-working (Some Request) m held ac mid = good-moves m held ac mid.0 mid.1
good-working (Some (PutPage b page)) m held ac mid = mid
good-working (Some (TakePage b)) m held ac mid = mid
good-working (Some (Load file)) m held ac mid = mid
good-working other m held ac mid = good-begins m held ac mid

good-closes : {L : Type 0} (a : Action) (Is : ℕ → Type 0) (h : List (Entry L)) (m : Aim) (ac : List (Act (Parcel L))) → Closes Is h a → Good a m (holds h) ac
good-closes (Stop c) Is h m ac is = is.1
good-closes (Ended how) Is h m ac is = is
good-closes Release Is h m ac is = is
good-closes other Is h m ac is = absurd is

same-number : (b : ℕ) → (b == b) ≡ true
same-number b = elim (eqb_tells b b) as (λ _. (b == b) ≡ true) [ inl a ↦ a.0 | inr a ↦ absurd (a.1 refl) ]

-- ---- one step further
begins-room : {L : Type 0} (m : Aim) (b : ℕ) (ac : List (Act (Parcel L))) (before : Bool) → begins m ≡ AwaitRoom b
    → Ready m (record { call = At b Sender Awaits; went = go.Done } ∷ ac)
begins-room (PutsPage c page) b ac before e = (let same : c ≡ b = cc in subst (λ c. ((c == b) && true) ≡ true) (sym same) (rw (same-number b) refl))
begins-room Reads b ac before e = absurd cc
begins-room (PutsFeed c f) b ac before e = absurd cc
begins-room (TakesFeed c) b ac before e = absurd cc
begins-room (TakesPage c) b ac before e = absurd cc
begins-room (Loads file) b ac before e = absurd cc
begins-room Works b ac before e = absurd cc
begins-room (Prints line) b ac before e = absurd cc
begins-room Finishes b ac before e = absurd cc

begins-item : {L : Type 0} (m : Aim) (b : ℕ) (ac : List (Act (Parcel L))) (before : Bool) → begins m ≡ AwaitItem b
    → Ready m (record { call = At b Receiver Awaits; went = go.Done } ∷ ac)
begins-item (TakesPage c) b ac before e = (let same : c ≡ b = cc in subst (λ c. ((c == b) && true) ≡ true) (sym same) (rw (same-number b) refl))
begins-item Reads b ac before e = absurd cc
begins-item (PutsFeed c f) b ac before e = absurd cc
begins-item (TakesFeed c) b ac before e = absurd cc
begins-item (PutsPage c page) b ac before e = absurd cc
begins-item (Loads file) b ac before e = absurd cc
begins-item Works b ac before e = absurd cc
begins-item (Prints line) b ac before e = absurd cc
begins-item Finishes b ac before e = absurd cc

granted-asked : {L : Type 0} (m : Aim) (ac : List (Act (Parcel L))) → Granted m ac → Granted m (record { call = Asks; went = go.Done } ∷ ac)
granted-asked (PutsPage b page) ac is = is
granted-asked (TakesPage b) ac is = is
granted-asked (Loads file) ac is = tt
granted-asked other ac is = absurd is

module _ {L : Type 0} (p : Process L) (n : ℕ) where
  mid-after : (x : p.Place) (a : Action) (r : Reply L) (held : Bool) (ac : List (Act (Parcel L))) → Good a (p.aims x) held ac → Fits a r → given_cause p x a r ≡ None
      → Mid (Some a) (p.aims (stands_behind p x a r)) (holds_after held a) (record { call = call n a; went = went_by a r } ∷ ac)
  mid-after x (AwaitRoom b) reply.Done held ac good fits none = (good.0, begins-room (p.aims x) b ac held good.1)
  mid-after x (AwaitRoom b) reply.Stopped held ac good fits none = absurd cc
  mid-after x (AwaitItem b) reply.Done held ac good fits none = (good.0, begins-item (p.aims x) b ac held good.1)
  mid-after x (AwaitItem b) reply.Stopped held ac good fits none = absurd cc
  mid-after x Request reply.Done held ac good fits none = (refl, granted-asked (p.aims x) ac good.1)
  mid-after x (PutPage b page) r held ac good fits none = good.0
  mid-after x (TakePage b) r held ac good fits none = good.0
  mid-after x (Load file) r held ac good fits none = good
  mid-after x Release reply.Done held ac good fits none = refl
  mid-after x ReadCard r held ac good fits none = good
  mid-after x (PutFeed b f) r held ac good fits none = good
  mid-after x (TakeFeed b) r held ac good fits none = good
  mid-after x Local r held ac good fits none = good
  mid-after x (Print line) r held ac good fits none = good
  mid-after x (Stop b) r held ac good fits none = good
  mid-after x (Ended how) r held ac good fits none = good
  mid-after x a r held ac good fits none = absurd fits

-- a delay tells nothing new
found-delayed : (L : Type 0) (b : ℕ) (side : Side) (before : Bool) (c : Call) → found_by {Parcel = Parcel L} b side before c Delayed ≡ before
found-delayed L b side before Alone = refl
found-delayed L b side before (At d of visit) = refl
found-delayed L b side before Asks = refl
found-delayed L b side before Gives = refl

ready-delayed : {L : Type 0} (m : Aim) (c : Call) (ac : List (Act (Parcel L))) → Ready m ac → Ready m (record { call = c; went = Delayed } ∷ ac)
ready-delayed {L} (PutsPage b page) c ac is = found-delayed L b Sender (found_ready b Sender ac) c ∙ is
ready-delayed {L} (TakesPage b) c ac is = found-delayed L b Receiver (found_ready b Receiver ac) c ∙ is
ready-delayed other c ac is = absurd is

granted-delayed : {L : Type 0} (m : Aim) (c : Call) (ac : List (Act (Parcel L))) → Granted m ac → Granted m (record { call = c; went = Delayed } ∷ ac)
granted-delayed {L} (PutsPage b page) c ac is = found-delayed L b Sender (found_ready b Sender ac) c ∙ is
granted-delayed {L} (TakesPage b) c ac is = found-delayed L b Receiver (found_ready b Receiver ac) c ∙ is
granted-delayed (Loads file) c ac is = tt
granted-delayed other c ac is = absurd is

mid-delayed : {L : Type 0} (n : Option Action) (m : Aim) (held : Bool) (c : Call) (ac : List (Act (Parcel L))) → Mid n m held ac → Mid n m held (record { call = c; went = Delayed } ∷ ac)
mid-delayed (Some (AwaitRoom b)) m held c ac mid = (mid.0, ready-delayed m c ac mid.1)
mid-delayed (Some (AwaitItem b)) m held c ac mid = (mid.0, ready-delayed m c ac mid.1)
mid-delayed (Some Request) m held c ac mid = (mid.0, granted-delayed m c ac mid.1)
mid-delayed (Some (PutPage b page)) m held c ac mid = mid
mid-delayed (Some (TakePage b)) m held c ac mid = mid
mid-delayed (Some (Load file)) m held c ac mid = mid
mid-delayed other m held c ac mid = mid

-- ---- causes
pub or-none : (old new : Option Outcome) → or_new old new ≡ None → old ≡ None
or-none None new e = refl
or-none (Some how) new e = absurd cc

pub or-new_none : (old new : Option Outcome) → or_new old new ≡ None → new ≡ None
or-new_none None new e = e
or-new_none (Some how) new e = absurd cc

pub not-lacking : (old : Option Outcome) (how : Outcome) → or_new old (Some how) ≡ None → ⊥
not-lacking None how e = cc
not-lacking (Some other) how e = cc

pub unless-some : (t : Bool) (a b : Action) → unless_ended t a ≡ Some b → (t ≡ false) × (a ≡ b)
unless-some true a b e = absurd cc
unless-some false a b e = (refl, cc)

pub or-falses : (t u : Bool) → (t || u) ≡ false → (t ≡ false) × (u ≡ false)
or-falses true u e = absurd cc
or-falses false u e = (refl, e)

both-falses : (t u : Bool) → t ≡ false → u ≡ false → (t || u) ≡ false
both-falses true u e f = absurd cc
both-falses false u e f = f

and-first : (t u : Bool) → t ≡ false → (t && u) ≡ false
and-first true u e = absurd cc
and-first false u e = refl

pub not-both : (t : Bool) → t ≡ true → t ≡ false → ⊥
not-both t a b = cc

module _ {L : Type 0} (J : Jobs L) where
  -- ---- what holds of one of the six
  pub each-process : (P : ℕ → Type 0) (p : ℕ) → IsOne (twin J) p → P 1 → P 2 → P 3 → P 4 → P 5 → P 6 → P p
  each-process P p is one two three four five six =
      elim (eqb_tells p 1) as (λ _. P p) [
        | inl a ↦ subst P (sym a.1) one
        | inr a ↦ elim (eqb_tells p 2) as (λ _. P p) [
          | inl b ↦ subst P (sym b.1) two
          | inr b ↦ elim (eqb_tells p 3) as (λ _. P p) [
            | inl c ↦ subst P (sym c.1) three
            | inr c ↦ elim (eqb_tells p 4) as (λ _. P p) [
              | inl d ↦ subst P (sym d.1) four
              | inr d ↦ elim (eqb_tells p 5) as (λ _. P p) [
                | inl e ↦ subst P (sym e.1) five
                | inr e ↦ (let last : p ≡ 6 = (let a = a.1 in let b = b.1 in let c = c.1 in let d = d.1 in let e = e.1 in let low = is.0 in let high = is.1 in
                    omega (arith, a, b, c, d, e, low, high)) in
                    subst P (sym last) six)
              ]
            ]
          ]
        ]
      ]

  abbrev pub SeatsAt : ℕ → Type 0
  SeatsAt p = (a : (process J p).Place) → Seats p ((process J p).aims a)

  pub seats-at : (p : ℕ) → IsOne (twin J) p → SeatsAt p
  seats-at p one = each-process SeatsAt p one card-seats input-seats (job-seats A) (job-seats B) output-seats printer-seats

  abbrev pub SeatedAt : ℕ → ℕ → Type 0
  SeatedAt p b = seat b (side_at p b) ≡ p

  abbrev pub AllSeated : ℕ → Type 0
  AllSeated p = AllByRecursion (SeatedAt p) (process J p).buffers × AllByRecursion (SeatedAt p) (process J p).spools

  pub seated-at : (p : ℕ) → IsOne (twin J) p → AllSeated p
  seated-at p one =
      each-process AllSeated p one ((refl, tt), tt) ((refl, (refl, (refl, tt))), (refl, (refl, tt))) ((refl, (refl, tt)), (refl, (refl, tt)))
      ((refl, (refl, tt)), (refl, (refl, tt))) ((refl, (refl, (refl, tt))), (refl, (refl, tt))) ((refl, tt), tt)

  -- ---- the shape of what comes next
  abbrev pub Shape : ℕ → List (Entry L) → Option Closing → Action → Type 0
  Shape p h None a = (a ≡ working (newest h) (aim (process J p) h)) × SeatsAction p a
  Shape p h (Some c) a = Closes (SeatedAt p) h a

  closing-seated : (p : ℕ) (cause : Option Outcome) (m : Aim) (c : Closing) → IsOne (twin J) p → closing_by (process J p) cause m ≡ Some c
      → AllByRecursion (SeatedAt p) c.stops
  closing-seated p (Some how) m c one e =
      subst (λ (c : Closing). AllByRecursion (SeatedAt p) c.stops) (let same : record { stops = (process J p).buffers; how = how } ≡ c = cc in same) (seated-at p one).0
  closing-seated p None Finishes c one e =
      subst (λ (c : Closing). AllByRecursion (SeatedAt p) c.stops) (let same : record { stops = (process J p).spools; how = outcome.Done } ≡ c = cc in same) (seated-at p one).1
  closing-seated p None other c one e = absurd cc

  shape : (p : ℕ) (h : List (Entry L)) (c : Option Closing) → IsOne (twin J) p → closing (process J p) h ≡ c → Shape p h c (next_by (process J p) c h)
  shape p h None one e = (refl, working-seats p (newest h) (aim (process J p) h) (seats-at p one (place (process J p) h)))
  shape p h (Some c) one e =
      closes-down c.stops (SeatedAt p) c.how h (closing-seated p (caused (process J p) h) (aim (process J p) h) c one e)

  pub next-shape : (p : ℕ) (h : List (Entry L)) (a : Action) → IsOne (twin J) p → next_action (process J p) h ≡ Some a
      → Shape p h (closing (process J p) h) a
  next-shape p h a one next =
      subst (Shape p h (closing (process J p) h)) (unless-some (has_ended h) (next_by (process J p) (closing (process J p) h) h) a next).1
      (shape p h (closing (process J p) h) one refl)

  -- ---- what is known of the next action, by its history
  good-none : (p : ℕ) (h : List (Entry L)) (a : Action) → Mid (newest h) (aim (process J p) h) (holds h) (acts (twin J) p h)
      → a ≡ working (newest h) (aim (process J p) h) → Good a (aim (process J p) h) (holds h) (acts (twin J) p h)
  good-none p h a mid e =
      subst (λ a. Good a (aim (process J p) h) (holds h) (acts (twin J) p h)) (sym e) (good-working (newest h) (aim (process J p) h) (holds h) (acts (twin J) p h) mid)

  abbrev Cause0 : ℕ → List (Entry L) → Type 0
  Cause0 p h = caused (process J p) h ≡ None

  -- who isn't closing has no cause
  none-closing : (p : Process L) (cause : Option Outcome) (m : Aim) → closing_by p cause m ≡ None → cause ≡ None
  none-closing p None m e = refl
  none-closing p (Some how) m e = absurd cc

  good-by : (p : ℕ) (h : List (Entry L)) (a : Action) (c : Option Closing) → (Cause0 p h → Mid (newest h) (aim (process J p) h) (holds h) (acts (twin J) p h))
      → closing (process J p) h ≡ c → Shape p h c a → Good a (aim (process J p) h) (holds h) (acts (twin J) p h)
  good-by p h a None mid e is = good-none p h a (mid (none-closing (process J p) (caused (process J p) h) (aim (process J p) h) e)) is.0
  good-by p h a (Some c) mid e is = good-closes a (SeatedAt p) h (aim (process J p) h) (acts (twin J) p h) is

  pub mid : (p : ℕ) (h : List (Entry L)) → IsOne (twin J) p → law.Follows (twin J) p h → Cause0 p h
      → Mid (newest h) (aim (process J p) h) (holds h) (acts (twin J) p h)
  mid p [] one follows none = refl
  mid p (Does a r ∷ h) one follows none =
      let before = or-none (caused (process J p) h) _ none in
      let now = or-new_none (caused (process J p) h) _ none in
      let good = good-by p h a (closing (process J p) h) (λ none. mid p h one follows.2 none) refl (next-shape p h a one follows.0) in
      mid-after (process J p) p (place (process J p) h) a r (holds h) (acts (twin J) p h) good follows.1.0 now
  mid p (LacksMemory a r ∷ h) one follows none = absurd (not-lacking (caused (process J p) h) _ none)
  mid p (Delays a ∷ h) one follows none =
      mid-delayed (newest h) (aim (process J p) h) (holds h) (call p a) (acts (twin J) p h) (mid p h one follows.2 none)

  pub good : (p : ℕ) (h : List (Entry L)) (a : Action) → IsOne (twin J) p → law.Follows (twin J) p h → next_action (process J p) h ≡ Some a
      → Good a (aim (process J p) h) (holds h) (acts (twin J) p h)
  good p h a one follows next = good-by p h a (closing (process J p) h) (λ none. mid p h one follows none) refl (next-shape p h a one next)

  -- ---- seats
  action-seated : (p : ℕ) (a : Action) (b : ℕ) (side : Side) (visit : Visit) → SeatsAction p a → call p a ≡ At b side visit → seat b side ≡ p
  action-seated p (PutFeed c f) b side visit is e = (let same : c ≡ b = cc in let of : Sender ≡ side = cc in subst (λ b. seat b side ≡ p) same (subst (λ side. seat c side ≡ p) of is))
  action-seated p (TakeFeed c) b side visit is e = (let same : c ≡ b = cc in let of : Receiver ≡ side = cc in subst (λ b. seat b side ≡ p) same (subst (λ side. seat c side ≡ p) of is))
  action-seated p (AwaitRoom c) b side visit is e = (let same : c ≡ b = cc in let of : Sender ≡ side = cc in subst (λ b. seat b side ≡ p) same (subst (λ side. seat c side ≡ p) of is))
  action-seated p (AwaitItem c) b side visit is e = (let same : c ≡ b = cc in let of : Receiver ≡ side = cc in subst (λ b. seat b side ≡ p) same (subst (λ side. seat c side ≡ p) of is))
  action-seated p (PutPage c page) b side visit is e = (let same : c ≡ b = cc in let of : Sender ≡ side = cc in subst (λ b. seat b side ≡ p) same (subst (λ side. seat c side ≡ p) of is))
  action-seated p (TakePage c) b side visit is e = (let same : c ≡ b = cc in let of : Receiver ≡ side = cc in subst (λ b. seat b side ≡ p) same (subst (λ side. seat c side ≡ p) of is))
  action-seated p (Stop c) b side visit is e = absurd is
  action-seated p other b side visit is e = absurd cc

  closes-seated : (p : ℕ) (h : List (Entry L)) (a : Action) (b : ℕ) (side : Side) (visit : Visit) → Closes (SeatedAt p) h a → call p a ≡ At b side visit
      → seat b side ≡ p
  closes-seated p h (Stop c) b side visit is e =
      let same : c ≡ b = cc in
      let of : side_at p c ≡ side = cc in
      subst (λ b. seat b side ≡ p) same (subst (λ side. seat c side ≡ p) of is.0.is)
  closes-seated p h (Ended how) b side visit is e = absurd cc
  closes-seated p h Release b side visit is e = absurd cc
  closes-seated p h other b side visit is e = absurd is

  seated-by : (p : ℕ) (h : List (Entry L)) (c : Option Closing) (a : Action) (b : ℕ) (side : Side) (visit : Visit) → Shape p h c a
      → call p a ≡ At b side visit → seat b side ≡ p
  seated-by p h None a b side visit is e = action-seated p a b side visit is.1 e
  seated-by p h (Some c) a b side visit is e = closes-seated p h a b side visit is e

  -- ---- stops: who isn't closing has stopped nothing
  still-by : (p : Process L) (old new : Option Outcome) (m : Aim) → closing_by p (or_new old new) m ≡ None → closing_by p old m ≡ None
  still-by p None None m e = e
  still-by p None (Some how) m e = absurd cc
  still-by p (Some old) new m e = absurd cc

  pub still-with : (p : ℕ) (h : List (Entry L)) (a : Action) (r : Reply L) (c : Option Closing) → closing (process J p) h ≡ c → Shape p h c a
      → closing (process J p) (Does a r ∷ h) ≡ None → c ≡ None
  still-with p h a r None is shape e = refl
  still-with p h (Stop b) r (Some c) is shape e =
      sym is ∙ still-by (process J p) (caused (process J p) h) (given_cause (process J p) (place (process J p) h) (Stop b) r) (aim (process J p) h) e
  still-with p h (Ended how) r (Some c) is shape e =
      sym is ∙ still-by (process J p) (caused (process J p) h) (given_cause (process J p) (place (process J p) h) (Ended how) r) (aim (process J p) h) e
  still-with p h Release r (Some c) is shape e =
      sym is ∙ still-by (process J p) (caused (process J p) h) (given_cause (process J p) (place (process J p) h) Release r) (aim (process J p) h) e
  still-with p h other r (Some c) is shape e = absurd shape

  no-stop_seats : (p b : ℕ) (a : Action) → SeatsAction p a → stops_at b a ≡ false
  no-stop_seats p b (Stop c) is = absurd is
  no-stop_seats p b other is = refl

  pub lacks-closing : (p : Process L) (old : Option Outcome) (how : Outcome) (m : Aim) → closing_by p (or_new old (Some how)) m ≡ None → ⊥
  lacks-closing p None how m e = cc
  lacks-closing p (Some old) how m e = cc

  pub unstopped : (p b : ℕ) (h : List (Entry L)) → IsOne (twin J) p → law.Follows (twin J) p h → closing (process J p) h ≡ None → has_stopped b h ≡ false
  unstopped p b [] one follows none = refl
  unstopped p b (Does a r ∷ h) one follows none =
      let shape = next-shape p h a one follows.0 in
      let before = still-with p h a r (closing (process J p) h) refl shape none in
      let is = subst (λ c. Shape p h c a) before shape in
      rw (no-stop_seats p b a is.1) (unstopped p b h one follows.2 before)
  unstopped p b (LacksMemory a r ∷ h) one follows none =
      absurd (lacks-closing (process J p) (caused (process J p) h) _ (aim (process J p) h) none)
  unstopped p b (Delays a ∷ h) one follows none = unstopped p b h one follows.2 none

  -- what the acts tell of stops is what the history tells
  not-here : (p b : ℕ) (side : Side) (a : Action) → stops_at b a ≡ false → go.stops_at b side (call p a) ≡ false
  not-here p b side (Stop c) e = and-first (b == c) (same_side side (side_at p c)) e
  not-here p b side other e = refl

  no-stop_lacking : (a : Action) (r : Reply L) → MayLack a r → (b : ℕ) → stops_at b a ≡ false
  no-stop_lacking (Stop c) r may b = absurd may
  no-stop_lacking other r may b = refl

  no-stop_waiting : (a : Action) → MayWait a → (b : ℕ) → stops_at b a ≡ false
  no-stop_waiting (Stop c) may b = absurd may
  no-stop_waiting other may b = refl

  pub not-made : (p b : ℕ) (side : Side) (h : List (Entry L)) → law.Follows (twin J) p h → has_stopped b h ≡ false
      → made_stop b side (acts (twin J) p h) ≡ false
  not-made p b side [] follows e = refl
  not-made p b side (Does a r ∷ h) follows e =
      let parts = or-falses (stops_at b a) (has_stopped b h) e in
      both-falses (go.stops_at b side (call p a)) (made_stop b side (acts (twin J) p h)) (not-here p b side a parts.0) (not-made p b side h follows.2 parts.1)
  not-made p b side (LacksMemory a r ∷ h) follows e =
      both-falses (go.stops_at b side (call p a)) (made_stop b side (acts (twin J) p h))
      (not-here p b side a (no-stop_lacking a r follows.1.1 b)) (not-made p b side h follows.2 e)
  not-made p b side (Delays a ∷ h) follows e =
      both-falses (go.stops_at b side (call p a)) (made_stop b side (acts (twin J) p h)) (not-here p b side a (no-stop_waiting a follows.1 b))
      (not-made p b side h follows.2 e)

  closes-not_yet : (p : ℕ) (h : List (Entry L)) (a : Action) (b : ℕ) (side : Side) (visit : Visit) → Closes (SeatedAt p) h a → call p a ≡ At b side visit
      → has_stopped b h ≡ false
  closes-not_yet p h (Stop c) b side visit is e = (let same : c ≡ b = cc in subst (λ b. has_stopped b h ≡ false) same is.0.not_yet)
  closes-not_yet p h (Ended how) b side visit is e = absurd cc
  closes-not_yet p h Release b side visit is e = absurd cc
  closes-not_yet p h other b side visit is e = absurd is

  not-yet : (p : ℕ) (h : List (Entry L)) (c : Option Closing) (a : Action) (b : ℕ) (side : Side) (visit : Visit) → IsOne (twin J) p → law.Follows (twin J) p h
      → closing (process J p) h ≡ c → Shape p h c a → call p a ≡ At b side visit → has_stopped b h ≡ false
  not-yet p h None a b side visit one follows none is e = unstopped p b h one follows none
  not-yet p h (Some c) a b side visit one follows some is e = closes-not_yet p h a b side visit is e

  -- ---- the disk, as the acts tell it
  held-now : (p : ℕ) (a : Action) (r : Reply L) (before : Bool) → Fits a r → holds_by before (call p a) (went_by a r) ≡ holds_after before a
  held-now p Request reply.Done before fits = refl
  held-now p Release reply.Done before fits = refl
  held-now p ReadCard r before fits = refl
  held-now p (PutFeed b f) r before fits = refl
  held-now p (TakeFeed b) r before fits = refl
  held-now p (AwaitRoom b) r before fits = refl
  held-now p (AwaitItem b) r before fits = refl
  held-now p (PutPage b page) r before fits = refl
  held-now p (TakePage b) r before fits = refl
  held-now p (Load file) r before fits = refl
  held-now p Local r before fits = refl
  held-now p (Print line) r before fits = refl
  held-now p (Stop b) r before fits = refl
  held-now p (Ended how) r before fits = refl
  held-now p a r before fits = absurd fits

  held-lacking : (p : ℕ) (a : Action) (r : Reply L) (before : Bool) → MayLack a r → holds_by before (call p a) (went_by a r) ≡ before
  held-lacking p (TakePage b) (reply.Page page last) before may = refl
  held-lacking p Local reply.Done before may = refl
  held-lacking p a r before may = absurd may

  held-delayed : (p : ℕ) (a : Action) (before : Bool) → MayWait a → holds_by {Parcel = Parcel L} before (call p a) Delayed ≡ before
  held-delayed p (PutFeed b f) before may = refl
  held-delayed p (TakeFeed b) before may = refl
  held-delayed p (AwaitRoom b) before may = refl
  held-delayed p (AwaitItem b) before may = refl
  held-delayed p Request before may = refl
  held-delayed p a before may = absurd may

  pub held-as : (p : ℕ) (h : List (Entry L)) → law.Follows (twin J) p h → go.holds (acts (twin J) p h) ≡ holds h
  held-as p [] follows = refl
  held-as p (Does a r ∷ h) follows = held-now p a r (go.holds (acts (twin J) p h)) follows.1.0 ∙ ap (λ held. holds_after held a) (held-as p h follows.2)
  held-as p (LacksMemory a r ∷ h) follows = held-lacking p a r (go.holds (acts (twin J) p h)) follows.1.1 ∙ held-as p h follows.2
  held-as p (Delays a ∷ h) follows = held-delayed p a (go.holds (acts (twin J) p h)) follows.1 ∙ held-as p h follows.2

  -- ---- calls that ask, give and move
  found-ready : (p : ℕ) (h : List (Entry L)) (a : Action) (m : Aim) (b : ℕ) (side : Side) → Good a m (holds h) (acts (twin J) p h) → call p a ≡ At b side Moves
      → found_ready b side (acts (twin J) p h) ≡ true
  found-ready p h (PutPage c page) m b side good e =
      let same : c ≡ b = cc in let of : Sender ≡ side = cc in
      subst (λ b. found_ready b side (acts (twin J) p h) ≡ true) same (subst (λ side. found_ready c side (acts (twin J) p h) ≡ true) of good.1)
  found-ready p h (TakePage c) m b side good e =
      let same : c ≡ b = cc in let of : Receiver ≡ side = cc in
      subst (λ b. found_ready b side (acts (twin J) p h) ≡ true) same (subst (λ side. found_ready c side (acts (twin J) p h) ≡ true) of good.1)
  found-ready p h (PutFeed c f) m b side good e = absurd cc
  found-ready p h (TakeFeed c) m b side good e = absurd cc
  found-ready p h (AwaitRoom c) m b side good e = absurd cc
  found-ready p h (AwaitItem c) m b side good e = absurd cc
  found-ready p h (Stop c) m b side good e = absurd cc
  found-ready p h other m b side good e = absurd cc

  asks-free : (p : ℕ) (a : Action) (m : Aim) (held : Bool) (ac : List (Act (Parcel L))) → Good a m held ac → call p a ≡ Asks → held ≡ false
  asks-free p Request m held ac good e = good.0
  asks-free p (PutFeed c f) m held ac good e = absurd cc
  asks-free p (TakeFeed c) m held ac good e = absurd cc
  asks-free p (AwaitRoom c) m held ac good e = absurd cc
  asks-free p (AwaitItem c) m held ac good e = absurd cc
  asks-free p (PutPage c page) m held ac good e = absurd cc
  asks-free p (TakePage c) m held ac good e = absurd cc
  asks-free p (Stop c) m held ac good e = absurd cc
  asks-free p other m held ac good e = absurd cc

  gives-held : (p : ℕ) (a : Action) (m : Aim) (held : Bool) (ac : List (Act (Parcel L))) → Good a m held ac → call p a ≡ Gives → held ≡ true
  gives-held p Release m held ac good e = good
  gives-held p (PutFeed c f) m held ac good e = absurd cc
  gives-held p (TakeFeed c) m held ac good e = absurd cc
  gives-held p (AwaitRoom c) m held ac good e = absurd cc
  gives-held p (AwaitItem c) m held ac good e = absurd cc
  gives-held p (PutPage c page) m held ac good e = absurd cc
  gives-held p (TakePage c) m held ac good e = absurd cc
  gives-held p (Stop c) m held ac good e = absurd cc
  gives-held p other m held ac good e = absurd cc

  -- who holds the disk makes a prompt call next
  prompt : (p : ℕ) (a : Action) (m : Aim) (held : Bool) (ac : List (Act (Parcel L))) → Good a m held ac → held ≡ true → IsPrompt (call p a)
  prompt p (PutPage b page) m held ac good on = tt
  prompt p (TakePage b) m held ac good on = tt
  prompt p (Load file) m held ac good on = tt
  prompt p Release m held ac good on = tt
  prompt p (AwaitRoom b) m held ac good on = absurd (not-both held on good.0)
  prompt p (AwaitItem b) m held ac good on = absurd (not-both held on good.0)
  prompt p Request m held ac good on = absurd (not-both held on good.0)
  prompt p other m held ac good on = absurd (not-both held on good)

  -- who has ended doesn't hold it
  ends-free : (a : Action) (m : Aim) (held : Bool) (ac : List (Act (Parcel L))) → Good a m held ac → is_end a ≡ true → holds_after held a ≡ false
  ends-free (Ended how) m held ac good e = good
  ends-free other m held ac good e = absurd cc

  or-second : (t u : Bool) → u ≡ false → (t || u) ≡ true → t ≡ true
  or-second true u none e = refl
  or-second false u none e = absurd (not-both u e none)

  pub ended-free : (p : ℕ) (h : List (Entry L)) → IsOne (twin J) p → law.Follows (twin J) p h → has_ended h ≡ true → holds h ≡ false
  ended-free p [] one follows e = refl
  ended-free p (Does a r ∷ h) one follows e =
      let before = (unless-some (has_ended h) (next_by (process J p) (closing (process J p) h) h) a follows.0).0 in
      ends-free a (aim (process J p) h) (holds h) (acts (twin J) p h) (good p h a one follows.2 follows.0) (or-second (is_end a) (has_ended h) before e)
  ended-free p (LacksMemory a r ∷ h) one follows e = ended-free p h one follows.2 e
  ended-free p (Delays a ∷ h) one follows e = ended-free p h one follows.2 e

  goes-on : (p : Process L) (h : List (Entry L)) → has_ended h ≡ false → next_action p h ≡ Some (next_by p (closing p h) h)
  goes-on p h e = ap (λ t. unless_ended t (next_by p (closing p h) h)) e

  held-next : (p : ℕ) (h : List (Entry L)) → IsOne (twin J) p → law.Follows (twin J) p h → go.holds (acts (twin J) p h) ≡ true
      → (c : Call) × IsPrompt c × CallsNext (twin J) p h c
  held-next p h one follows on =
      let held : holds h ≡ true = sym (held-as p h follows) ∙ on in
      let a = next_by (process J p) (closing (process J p) h) h in
      let not_ended : has_ended h ≡ false =
      elim (has_ended h) as (λ t. has_ended h ≡ t → has_ended h ≡ false) [
        | true ↦ (λ e. absurd (not-both (holds h) held (ended-free p h one follows e)))
        | false ↦ (λ e. e)
      ] refl in
      let next = goes-on (process J p) h not_ended in
      (call p a, prompt p a (aim (process J p) h) (holds h) (acts (twin J) p h) (good p h a one follows next) held, record { action = a; next = next; call = refl })

  -- ---- a call that waits is made again
  never-delayed : (a : Action) (r : Reply L) → went_by a r ≡ Delayed → ⊥
  never-delayed (PutFeed b f) reply.Done e = cc
  never-delayed (PutPage b page) reply.Done e = cc
  never-delayed (TakeFeed b) (reply.Feed f) e = cc
  never-delayed (TakePage b) (reply.Page page last) e = cc
  never-delayed a reply.Stopped e = cc
  never-delayed a r e = cc

  same-stops : (buffers : List ℕ) (how : Outcome) (h : List (Entry L)) (a : Action) → stops_next buffers how (Delays a ∷ h) ≡ stops_next buffers how h
  same-stops [] how h a = refl
  same-stops (b ∷ later) how h a = ap (λ next. if has_stopped b h then next else Stop b) (same-stops later how h a)

  same-next : (p : Process L) (c : Option Closing) (h : List (Entry L)) (a : Action) → next_by p c (Delays a ∷ h) ≡ next_by p c h
  same-next p None h a = refl
  same-next p (Some c) h a = ap (λ next. if holds h then Release else next) (same-stops c.stops c.how h a)

  again : (p : ℕ) (h : List (Entry L)) (entry : Entry L) → went entry ≡ Delayed → next_action (process J p) h ≡ Some (action_of entry)
      → next_action (process J p) (entry ∷ h) ≡ Some (action_of entry)
  again p h (Does a r) e next = absurd (never-delayed a r e)
  again p h (LacksMemory a r) e next = absurd (never-delayed a r e)
  again p h (Delays a) e next = ap (unless_ended (has_ended h)) (same-next (process J p) (closing (process J p) h) h a) ∙ next

  pub lawful : IsLawful (twin J)
  lawful = record {
    seated = λ p h b side visit one follows calls.
        seated-by p h (closing (process J p) h) calls.action b side visit (next-shape p h calls.action one calls.next) calls.call;
    unstopped = λ p h b side visit one follows calls.
        not-made p b side h follows
        (not-yet p h (closing (process J p) h) calls.action b side visit one follows refl (next-shape p h calls.action one calls.next) calls.call);
    found = λ p h b side one follows calls.
        found-ready p h calls.action (aim (process J p) h) b side (good p h calls.action one follows calls.next) calls.call;
    asks = λ p h one follows calls.
        held-as p h follows ∙ asks-free p calls.action (aim (process J p) h) (holds h) (acts (twin J) p h) (good p h calls.action one follows calls.next) calls.call;
    gives = λ p h one follows calls.
        held-as p h follows ∙ gives-held p calls.action (aim (process J p) h) (holds h) (acts (twin J) p h) (good p h calls.action one follows calls.next) calls.call;
    held = λ p h one follows on. held-next p h one follows on;
    again = λ p h entry delayed next. again p h entry delayed next;
  }
