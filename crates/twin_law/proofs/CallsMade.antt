-- How many calls a process makes for what it moved: each of them, and one more where it may wake another.
use Rattle.std.proofs.Common.{◌≡◌, inl, inr, ℕ, suc, ◌+◌, ◌*◌, ◌≤◌, ◌||◌, ◌==◌, Bool, true, false, if◌then◌else◌, List, [], ◌∷◌, length, Option, None, Some, refl, sym, ◌∙◌, ap, subst, arith}
use Rattle.network_law.specs.Acts.{Act}
use Rattle.network_law.specs.Network.{IsOne, acts}
use Rattle.network_law.specs.Network as law
use Rattle.page_codec.specs.Places.{content_of}
use Rattle.std.proofs.lemmas.Bool.Decides.{eqb_tells}
use Rattle.solo_base.specs.declared.page.Page.{Page}
use Rattle.solo_base.specs.declared.outcome.Outcome.{Outcome}
use Rattle.solo_devices.specs.CardUnit.{item_of}
use Rattle.page_codec.specs.Packing.{fits}
use Rattle.page_codec.specs.Reading.{items_after}
use Rattle.batch_procs.specs.declared.actions.Reply.{Reply}
use Rattle.batch_procs.specs.Jobs.{Jobs}
use Rattle.batch_procs.specs.Parcels.{Parcel}
use Rattle.place_law.specs.Process.{Does, LacksMemory, Delays, or_new}
use Rattle.solo_base.specs.declared.outcome.Outcome.TheVariants as outcome
use Rattle.solo_base.specs.declared.outcome.Cause.TheVariants as cause
use Rattle.solo_devices.specs.declared.card_read.CardRead.TheVariants as read
use Rattle.batch_procs.specs.declared.actions.Reply.TheVariants as reply
use Rattle.twin_law.specs.Process.{Action, ReadCard, PutFeed, TakeFeed, AwaitRoom, AwaitItem, Request, PutPage, TakePage, Load, Release, Print, Stop, Ended, Entry, Aim, Reads, PutsFeed, TakesFeed, PutsPage, TakesPage, Loads, Works, Prints, Finishes, Process, stands_behind, place, aim, given_cause, caused, holds_after, holds, stops_at, has_stopped, is_end, has_ended, newest, begins, moves, working, stops_next, closes, Closing, closing_by, closing, next_by, next_action}
use Rattle.twin_law.specs.Sides.{other}
use Rattle.twin_law.specs.Table.{process}
use Rattle.twin_law.specs.Twin.{call, Fits, MayLack, MayWait, twin}
use Rattle.twin_law.proofs.Lawful.{Mid, Granted, Shape, mid, next-shape, lacks-closing, or-new_none, unless-some}
use Rattle.twin_law.proofs.Marks.{makes}
use Rattle.twin_law.proofs.Ended.{finishes-closing}

-- the items on a page, as they are read
abbrev pub item_count : Page → ℕ
item_count page = length (items_after 0 (content_of page.0))

-- what a page that is taken brings to do: the work on it, and the loads of the files that its items name
abbrev pub earns_page : Bool → Page → ℕ
earns_page true page = 1 + 5 * item_count page
earns_page false page = 1

abbrev pub left : Option Action → ℕ
left (Some (AwaitRoom b)) = 1
left (Some (AwaitItem b)) = 1
left (Some Request) = 0
left (Some (PutPage b page)) = 4
left (Some (TakePage b)) = 4
left (Some (Load file)) = 4
left n = 2

abbrev pub one_if : Bool → ℕ
one_if true = 1
one_if false = 0

-- one that has ended has no end to come
abbrev pub going : Bool → ℕ
going true = 0
going false = 1

or-zero : (t : Bool) → ◌≡◌ {A = ℕ} (if t || true then 0 else 1) 0
or-zero true = refl
or-zero false = refl

pub same-number : (b : ℕ) → (b == b) ≡ true
same-number b = elim (eqb_tells b b) as (λ _. (b == b) ≡ true) [ inl a ↦ a.0 | inr a ↦ absurd (a.1 refl) ]

or-nothing : (t : Bool) → going (t || false) ≡ going t
or-nothing true = refl
or-nothing false = refl

abbrev pub IsClosingCall : Action → Type 0
IsClosingCall Release = Unit {0}
IsClosingCall (Stop b) = Unit {0}
IsClosingCall (Ended how) = Unit {0}
IsClosingCall a = ⊥

pub no-wait : (a : Action) → IsClosingCall a → MayWait a → ⊥
no-wait Release is may = may
no-wait (Stop b) is may = may
no-wait (Ended how) is may = may
no-wait a is may = is

module _ {L : Type 0} where
  abbrev pub counts_by : Action → Reply L → ℕ
  counts_by (PutFeed b f) reply.Done = 2
  counts_by (TakeFeed b) (reply.Feed f) = 2
  counts_by (PutPage b page) reply.Done = 2
  counts_by (TakePage b) (reply.Page page last) = 2
  counts_by Release r = 2
  counts_by (Stop b) r = 2
  counts_by a r = 1

  abbrev pub counts : Entry L → ℕ
  counts (Does a r) = counts_by a r
  counts (LacksMemory a r) = counts_by a r
  counts (Delays a) = 0

  abbrev pub made : List (Entry L) → ℕ
  made [] = 0
  made (entry ∷ h) = counts entry + made h

  pub counts-most : (a : Action) (r : Reply L) → counts_by a r ≤ 2
  counts-most (PutFeed b f) reply.Done = omega arith
  counts-most (TakeFeed b) (reply.Feed f) = omega arith
  counts-most (PutPage b page) reply.Done = omega arith
  counts-most (TakePage b) (reply.Page page last) = omega arith
  counts-most Release r = omega arith
  counts-most (Stop b) r = omega arith
  counts-most a r = omega arith

  -- ---- what pays for them
  abbrev pub pays : Bool → Action → Reply L → ℕ
  pays works (PutFeed b f) reply.Done = 2
  pays works (TakeFeed b) (reply.Feed f) = 2
  pays works (PutPage b page) reply.Done = 7
  pays works (TakePage b) (reply.Page page last) = 6 + earns_page works page
  pays works ReadCard (reply.Card answer) = length (item_of answer)
  pays works (Print line) reply.Done = 1
  pays works a r = 0

  abbrev pub paid : Bool → List (Entry L) → ℕ
  paid works [] = 0
  paid works (Does a r ∷ h) = pays works a r + paid works h
  paid works (LacksMemory a r ∷ h) = paid works h
  paid works (Delays a ∷ h) = paid works h

  -- what is done at a place and was paid before, and what is paid for a later place
  abbrev pub local_cost : Aim → Reply L → ℕ
  local_cost Works r = 1
  local_cost Reads (reply.Card read.End) = 1
  local_cost (Loads file) (reply.Loaded load) = 5
  local_cost m r = 0

  abbrev pub earns : Bool → Aim → Reply L → ℕ
  earns works (PutsPage b page) reply.Done = 1
  earns works (TakesPage b) (reply.Page page last) = earns_page works page
  earns works m r = 0

  -- what is still to be done of what was paid, at each place
  pub record HasTodo (p : Process L) (Is : p.Place → Type 0) (todo : p.Place → ℕ) : Type 0 where
    pub first_is : Is p.start
    pub first : todo p.start ≤ 1
    pub keeps : (x : p.Place) (r : Reply L) → Fits (makes (p.aims x)) r → given_cause p x (makes (p.aims x)) r ≡ None → Is x
        → Is (stands_behind p x (makes (p.aims x)) r)
    pub step : (x : p.Place) (r : Reply L) → Fits (makes (p.aims x)) r → given_cause p x (makes (p.aims x)) r ≡ None → Is x
        → todo (stands_behind p x (makes (p.aims x)) r) + local_cost (p.aims x) r ≤ todo x + earns p.works (p.aims x) r

  -- ---- one entry of a process that isn't closing
  module _ (p : Process L) (Is : p.Place → Type 0) (todo : p.Place → ℕ) (has : HasTodo p Is todo) (x : p.Place) (is : Is x) (m0 d0 : ℕ) where
    abbrev pub Before : Option Action → Type 0
    Before n = m0 + left n + todo x ≤ 3 + d0

    pub record After (a : Action) (r : Reply L) : Type 0 where
      pub is_then : Is (stands_behind p x a r)
      pub within : (counts_by a r + m0) + left (Some a) + todo (stands_behind p x a r) ≤ 3 + (pays p.works a r + d0)

    same-place : (a : Action) (r : Reply L) → stands_behind p x a r ≡ x → counts_by a r + m0 + left (Some a) + todo x ≤ 3 + d0 → After a r
    same-place a r same few =
        record {
          is_then = subst Is (sym same) is;
          within = (let t : todo (stands_behind p x a r) ≡ todo x = ap todo same in omega (arith, few, t));
        }

    moved : (m : Aim) (r : Reply L) → p.aims x ≡ m → Fits (makes m) r → given_cause p x (makes m) r ≡ None
        → (todo (stands_behind p x (makes m) r) + local_cost m r ≤ todo x + earns p.works m r → counts_by (makes m) r + m0 + left (Some (makes m)) + todo (stands_behind p x (makes m) r) ≤ 3 + (pays p.works (makes m) r + d0))
        → After (makes m) r
    moved m r e fits none few =
        let kept = subst (λ m. Fits (makes m) r → given_cause p x (makes m) r ≡ None → Is (stands_behind p x (makes m) r)) e (λ fits none. has.keeps x r fits none is) fits none in
        let less = subst (λ m. Fits (makes m) r → given_cause p x (makes m) r ≡ None → todo (stands_behind p x (makes m) r) + local_cost m r ≤ todo x + earns p.works m r) e
        (λ fits none. has.step x r fits none is) fits none in
        record { is_then = kept; within = few less }

    begins-after : (m : Aim) (r : Reply L) → p.aims x ≡ m → (m ≡ Finishes → ⊥) → Fits (begins m) r → given_cause p x (begins m) r ≡ None → m0 + 2 + todo x ≤ 3 + d0 → After (begins m) r
    begins-after Reads (reply.Card (read.Card line)) e not fits none was = moved Reads (reply.Card (read.Card line)) e fits none (λ less. omega (arith, was, less))
    begins-after Reads (reply.Card read.Spoiled) e not fits none was = moved Reads (reply.Card read.Spoiled) e fits none (λ less. omega (arith, was, less))
    begins-after Reads (reply.Card read.End) e not fits none was = moved Reads (reply.Card read.End) e fits none (λ less. omega (arith, was, less))
    begins-after Reads (reply.Card read.Failed) e not fits none was = absurd cc
    begins-after Reads (reply.Card read.Limit) e not fits none was = absurd cc
    begins-after (PutsFeed b f) reply.Done e not fits none was = moved (PutsFeed b f) reply.Done e fits none (λ less. omega (arith, was, less))
    begins-after (PutsFeed b f) reply.Stopped e not fits none was = absurd cc
    begins-after (TakesFeed b) (reply.Feed f) e not fits none was = moved (TakesFeed b) (reply.Feed f) e fits none (λ less. omega (arith, was, less))
    begins-after (TakesFeed b) reply.Stopped e not fits none was = absurd cc
    begins-after (PutsPage b page) reply.Done e not fits none was = same-place (AwaitRoom b) reply.Done refl (omega (arith, was))
    begins-after (PutsPage b page) reply.Stopped e not fits none was = absurd cc
    begins-after (TakesPage b) reply.Done e not fits none was = same-place (AwaitItem b) reply.Done refl (omega (arith, was))
    begins-after (TakesPage b) reply.Stopped e not fits none was = absurd cc
    begins-after (Loads file) reply.Done e not fits none was = same-place Request reply.Done refl (omega (arith, was))
    begins-after Works reply.Done e not fits none was = moved Works reply.Done e fits none (λ less. omega (arith, was, less))
    begins-after (Prints line) reply.Done e not fits none was = moved (Prints line) reply.Done e fits none (λ less. omega (arith, was, less))
    begins-after (Prints line) reply.Failed e not fits none was = absurd cc
    begins-after (Prints line) reply.NoMemory e not fits none was = absurd cc
    begins-after Finishes r e not fits none was = absurd (not refl)
    begins-after m r e not fits none was = absurd fits

    moves-after : (m : Aim) (r : Reply L) (ac : List (Act (Parcel L))) → p.aims x ≡ m → Granted m ac → Fits (moves m) r → given_cause p x (moves m) r ≡ None → m0 + 0 + todo x ≤ 3 + d0
        → After (moves m) r
    moves-after (PutsPage b page) reply.Done ac e granted fits none was = moved (PutsPage b page) reply.Done e fits none (λ less. omega (arith, was, less))
    moves-after (PutsPage b page) reply.Failed ac e granted fits none was = absurd cc
    moves-after (PutsPage b page) r ac e granted fits none was = absurd fits
    moves-after (TakesPage b) (reply.Page page last) ac e granted fits none was = moved (TakesPage b) (reply.Page page last) e fits none (λ less. omega (arith, was, less))
    moves-after (TakesPage b) reply.Failed ac e granted fits none was = absurd cc
    moves-after (TakesPage b) r ac e granted fits none was = absurd fits
    moves-after (Loads file) (reply.Loaded load) ac e granted fits none was = moved (Loads file) (reply.Loaded load) e fits none (λ less. omega (arith, was, less))
    moves-after (Loads file) reply.Failed ac e granted fits none was = absurd cc
    moves-after (Loads file) reply.NoMemory ac e granted fits none was = absurd cc
    moves-after (Loads file) r ac e granted fits none was = absurd fits
    moves-after m r ac e granted fits none was = absurd granted

    released : (r : Reply L) → Fits Release r → m0 + 4 + todo x ≤ 3 + d0 → After Release r
    released reply.Done fits was = same-place Release reply.Done refl (omega (arith, was))
    released r fits was = absurd fits

    asked : (r : Reply L) → Fits Request r → m0 + 1 + todo x ≤ 3 + d0 → After Request r
    asked reply.Done fits was = same-place Request reply.Done refl (omega (arith, was))
    asked r fits was = absurd fits

    pub working-after : (n : Option Action) (m : Aim) (r : Reply L) (held : Bool) (ac : List (Act (Parcel L))) → p.aims x ≡ m → (m ≡ Finishes → ⊥) → Mid n m held ac → Fits (working n m) r
        → given_cause p x (working n m) r ≡ None → Before n → After (working n m) r
    working-after (Some (AwaitRoom b)) m r held ac e not mid fits none was = asked r fits was
    working-after (Some (AwaitItem b)) m r held ac e not mid fits none was = asked r fits was
    working-after (Some Request) m r held ac e not mid fits none was = moves-after m r ac e mid.1 fits none was
    working-after (Some (PutPage b page)) m r held ac e not mid fits none was = released r fits was
    working-after (Some (TakePage b)) m r held ac e not mid fits none was = released r fits was
    working-after (Some (Load file)) m r held ac e not mid fits none was = released r fits was
    working-after n m r held ac e not mid fits none was = begins-after m r e not fits none was

  -- ---- closing down
  abbrev pub unstopped : List ℕ → List (Entry L) → ℕ
  unstopped [] h = 0
  unstopped (b ∷ later) h = (if has_stopped b h then 0 else 1) + unstopped later h

  unstopped-most : (buffers : List ℕ) (h : List (Entry L)) → unstopped buffers h ≤ length buffers
  unstopped-most [] h = omega arith
  unstopped-most (b ∷ later) h =
      let rest = unstopped-most later h in
      elim (has_stopped b h) as (λ t. (if t then 0 else 1) + unstopped later h ≤ suc (length later)) [ true ↦ omega (arith, rest) | false ↦ omega (arith, rest) ]

  fewer-unstopped : (buffers : List ℕ) (a : Action) (r : Reply L) (h : List (Entry L)) → unstopped buffers (Does a r ∷ h) ≤ unstopped buffers h
  fewer-unstopped [] a r h = omega arith
  fewer-unstopped (b ∷ later) a r h =
      let rest = fewer-unstopped later a r h in
      elim (stops_at b a) as (λ t. (if t || has_stopped b h then 0 else 1) + unstopped later (Does a r ∷ h) ≤ (if has_stopped b h then 0 else 1) + unstopped later h) [
        | true ↦ omega (arith, rest)
        | false ↦ omega (arith, rest)
      ]

  -- one of them is stopped, or it ends
  abbrev Less : List ℕ → List (Entry L) → Reply L → Action → Type 0
  Less buffers h r a = counts_by a r + 2 * unstopped buffers (Does a r ∷ h) + going (is_end a) ≤ 2 * unstopped buffers h + 1

  less-by : (b : ℕ) (later : List ℕ) (how : Outcome) (h : List (Entry L)) (r : Reply L) (t : Bool) → has_stopped b h ≡ t → Less later h r (stops_next later how h)
      → Less (b ∷ later) h r (stops_next (b ∷ later) how h)
  less-by b later how h r true e rest =
      let next : stops_next (b ∷ later) how h ≡ stops_next later how h = ap (λ t. if t then stops_next later how h else Stop b) e in
      let a = stops_next later how h in
      let before : unstopped (b ∷ later) h ≡ unstopped later h = ap (λ t. (if t then 0 else 1) + unstopped later h) e ∙ omega arith in
      let is : unstopped (b ∷ later) (Does a r ∷ h) ≡ (if stops_at b a || true then 0 else 1) + unstopped later (Does a r ∷ h) =
      ap (λ t. (if stops_at b a || t then 0 else 1) + unstopped later (Does a r ∷ h)) e in
      let none = or-zero (stops_at b a) in
      subst (Less (b ∷ later) h r) (sym next) (omega (arith, rest, before, is, none))
  less-by b later how h r false e rest =
      let next : stops_next (b ∷ later) how h ≡ Stop b = ap (λ t. if t then stops_next later how h else Stop b) e in
      let before : unstopped (b ∷ later) h ≡ 1 + unstopped later h = ap (λ t. (if t then 0 else 1) + unstopped later h) e in
      let fewer = fewer-unstopped later (Stop b) r h in
      let after : unstopped (b ∷ later) (Does (Stop b) r ∷ h) ≡ unstopped later (Does (Stop b) r ∷ h) =
      ap (λ t. (if t || has_stopped b h then 0 else 1) + unstopped later (Does (Stop b) r ∷ h)) (same-number b) ∙ omega arith in
      subst (Less (b ∷ later) h r) (sym next) (omega (arith, before, fewer, after))

  one-less : (buffers : List ℕ) (how : Outcome) (h : List (Entry L)) (r : Reply L) → Less buffers h r (stops_next buffers how h)
  one-less [] how h r = omega arith
  one-less (b ∷ later) how h r = less-by b later how h r (has_stopped b h) refl (one-less later how h r)

  -- what closing down has left
  abbrev pub end_left : List ℕ → List (Entry L) → ℕ
  end_left stops h = 2 * one_if (holds h) + 2 * unstopped stops h + going (has_ended h)

  pub end-most : (stops : List ℕ) (h : List (Entry L)) → end_left stops h ≤ 3 + 2 * length stops
  end-most stops h =
      let few = unstopped-most stops h in
      let one : one_if (holds h) ≤ 1 = elim (holds h) as (λ t. one_if t ≤ 1) [ true ↦ omega arith | false ↦ omega arith ] in
      let end : going (has_ended h) ≤ 1 = elim (has_ended h) as (λ t. going t ≤ 1) [ true ↦ omega arith | false ↦ omega arith ] in
      omega (arith, few, one, end)

  still-free : (stops : List ℕ) (how : Outcome) (h : List (Entry L)) → one_if (holds_after false (stops_next stops how h)) ≡ 0
  still-free [] how h = refl
  still-free (b ∷ later) how h =
      elim (has_stopped b h) as (λ t. one_if (holds_after false (if t then stops_next later how h else Stop b)) ≡ 0) [ true ↦ still-free later how h | false ↦ refl ]

  abbrev pub ClosesLess : List ℕ → Outcome → List (Entry L) → Reply L → Type 0
  ClosesLess stops how h r = counts_by (closes stops how h) r + end_left stops (Does (closes stops how h) r ∷ h) ≤ end_left stops h

  -- a call of closing down lowers it
  less-held : (stops : List ℕ) (how : Outcome) (h : List (Entry L)) (r : Reply L) (t : Bool) → has_ended h ≡ false → holds h ≡ t → ClosesLess stops how h r
  less-held stops how h r true ended e =
      let next : closes stops how h ≡ Release = ap (λ t. if t then Release else stops_next stops how h) e in
      let fewer = fewer-unstopped stops Release r h in
      let held : one_if (holds h) ≡ 1 = ap one_if e in
      let on : going (has_ended h) ≡ 1 = ap going ended in
      subst (λ a. counts_by a r + end_left stops (Does a r ∷ h) ≤ end_left stops h) (sym next) (omega (arith, fewer, held, on))
  less-held stops how h r false ended e =
      let next : closes stops how h ≡ stops_next stops how h = ap (λ t. if t then Release else stops_next stops how h) e in
      let a = stops_next stops how h in
      let less = one-less stops how h r in
      let free : one_if (holds_after (holds h) a) ≡ 0 = ap (λ t. one_if (holds_after t a)) e ∙ still-free stops how h in
      let on : going (has_ended h) ≡ 1 = ap going ended in
      let then_on : going (is_end a || has_ended h) ≡ going (is_end a) = ap (λ t. going (is_end a || t)) ended ∙ or-nothing (is_end a) in
      subst (λ a. counts_by a r + end_left stops (Does a r ∷ h) ≤ end_left stops h) (sym next) (omega (arith, less, free, on, then_on))

  pub closes-less : (stops : List ℕ) (how : Outcome) (h : List (Entry L)) (r : Reply L) → has_ended h ≡ false → ClosesLess stops how h r
  closes-less stops how h r ended = less-held stops how h r (holds h) ended refl

  stops-pay : (works : Bool) (stops : List ℕ) (how : Outcome) (h : List (Entry L)) (r : Reply L) → pays works (stops_next stops how h) r ≡ 0
  stops-pay works [] how h r = refl
  stops-pay works (b ∷ later) how h r =
      elim (has_stopped b h) as (λ t. pays works (if t then stops_next later how h else Stop b) r ≡ 0) [ true ↦ stops-pay works later how h r | false ↦ refl ]

  closes-pays : (works : Bool) (stops : List ℕ) (how : Outcome) (h : List (Entry L)) (r : Reply L) → pays works (closes stops how h) r ≡ 0
  closes-pays works stops how h r =
      elim (holds h) as (λ t. pays works (if t then Release else stops_next stops how h) r ≡ 0) [ true ↦ refl | false ↦ stops-pay works stops how h r ]

  stops-call : (stops : List ℕ) (how : Outcome) (h : List (Entry L)) → IsClosingCall (stops_next stops how h)
  stops-call [] how h = tt
  stops-call (b ∷ later) how h =
      elim (has_stopped b h) as (λ t. IsClosingCall (if t then stops_next later how h else Stop b)) [ true ↦ stops-call later how h | false ↦ tt ]

  pub closes-call : (stops : List ℕ) (how : Outcome) (h : List (Entry L)) → IsClosingCall (closes stops how h)
  closes-call stops how h = elim (holds h) as (λ t. IsClosingCall (if t then Release else stops_next stops how h)) [ true ↦ tt | false ↦ stops-call stops how h ]

  -- a call of closing down gives no cause, and moves no place; it neither lacks memory nor waits
  no-cause : (p : Process L) (x : p.Place) (a : Action) (r : Reply L) → IsClosingCall a → Fits a r → given_cause p x a r ≡ None
  no-cause p x Release reply.Done is fits = refl
  no-cause p x (Stop b) reply.Done is fits = refl
  no-cause p x (Ended how) reply.Done is fits = refl
  no-cause p x Release r is fits = absurd fits
  no-cause p x (Stop b) r is fits = absurd fits
  no-cause p x (Ended how) r is fits = absurd fits
  no-cause p x a r is fits = absurd is

  no-move : (p : Process L) (x : p.Place) (a : Action) (r : Reply L) → IsClosingCall a → stands_behind p x a r ≡ x
  no-move p x Release r is = refl
  no-move p x (Stop b) r is = refl
  no-move p x (Ended how) r is = refl
  no-move p x a r is = absurd is

  pub no-lack : (a : Action) (r : Reply L) → IsClosingCall a → MayLack a r → ⊥
  no-lack Release r is may = may
  no-lack (Stop b) r is may = may
  no-lack (Ended how) r is may = may
  no-lack a r is may = is

-- ---- over whole histories
module _ {L : Type 0} (J : Jobs L) (p : ℕ) (one : IsOne (twin J) p) (Is : (process J p).Place → Type 0) (todo : (process J p).Place → ℕ) (has : HasTodo (process J p) Is todo) where
  abbrev P : Process L
  P = process J p

  record Within (h : List (Entry L)) : Type 0 where
    place_is : Is (place (process J p) h)
    few : made h + left (newest h) + todo (place (process J p) h) ≤ 3 + paid (process J p).works h

  -- what is known of one that isn't closing, and of one that is
  abbrev Closed : List (Entry L) → Type 0
  Closed h = (c : Closing) → closing (process J p) h ≡ Some c → made h + end_left c.stops h ≤ paid (process J p).works h + (8 + 2 * length c.stops)

  record Known (h : List (Entry L)) : Type 0 where
    works : closing (process J p) h ≡ None → Within h
    closed : Closed h

  not-finished : (h : List (Entry L)) → closing (process J p) h ≡ None → aim (process J p) h ≡ Finishes → ⊥
  not-finished h e f = finishes-closing (process J p) (caused (process J p) h) (aim (process J p) h) e f

  none-of : (q : Process L) (cause : Option Outcome) (m : Aim) → closing_by q cause m ≡ None → cause ≡ None
  none-of q None m e = refl
  none-of q (Some how) m e = absurd cc

  -- one more entry, where it isn't closing behind it
  works-on : (h : List (Entry L)) (a : Action) (r : Reply L) → law.Follows (twin J) p (Does a r ∷ h) → Within h → closing (process J p) h ≡ None
      → caused (process J p) (Does a r ∷ h) ≡ None → Within (Does a r ∷ h)
  works-on h a r follows was goes none =
      let x = place (process J p) h in
      let shape = subst (λ c. Shape J p h c a) goes (next-shape J p h a one follows.0) in
      let is : a ≡ working (newest h) (aim (process J p) h) = shape.0 in
      let now = or-new_none (caused (process J p) h) (given_cause (process J p) x a r) none in
      let m = mid J p h one follows.2 (none-of (process J p) (caused (process J p) h) (aim (process J p) h) goes) in
      let after = working-after (process J p) Is todo has x was.place_is (made h) (paid (process J p).works h) (newest h) (aim (process J p) h) r (holds h) (acts (twin J) p h) refl
      (not-finished h goes) m (subst (λ a. Fits a r) is follows.1.0) (subst (λ a. given_cause (process J p) x a r ≡ None) is now) was.few in
      subst (λ a. Within (Does a r ∷ h)) (sym is) record { place_is = after.is_then; few = after.within }

  -- one more entry, behind which it closes
  begins-closing : (h : List (Entry L)) (entry : Entry L) (c : Closing) (d : ℕ) → Within h → counts entry ≤ 2 → paid (process J p).works h ≤ d
      → made (entry ∷ h) + end_left c.stops (entry ∷ h) ≤ d + (8 + 2 * length c.stops)
  begins-closing h entry c d was two more =
      let few = was.few in let most = end-most c.stops (entry ∷ h) in omega (arith, few, two, more, most)

  stays : (h : List (Entry L)) (a : Action) (r : Reply L) (c : Closing) → closing (process J p) h ≡ Some c → IsClosingCall a → Fits a r → closing (process J p) (Does a r ∷ h) ≡ Some c
  stays h a r c e call fits =
      let x = place (process J p) h in
      ap (λ given. closing_by (process J p) (or_new (caused (process J p) h) given) ((process J p).aims (stands_behind (process J p) x a r))) (no-cause (process J p) x a r call fits)
      ∙ ap (λ x. closing_by (process J p) (or_new (caused (process J p) h) None) ((process J p).aims x)) (no-move (process J p) x a r call)
      ∙ ap (λ cause. closing_by (process J p) cause (aim (process J p) h)) (or-same (caused (process J p) h)) ∙ e where
        or-same : (cause : Option Outcome) → or_new cause None ≡ cause
        or-same None = refl
        or-same (Some how) = refl

  same-closing : (c d : Closing) → Some c ≡ Some d → c ≡ d
  same-closing c d e = cc

  pub next-closes : (h : List (Entry L)) (a : Action) (c : Closing) → closing (process J p) h ≡ Some c → next_action (process J p) h ≡ Some a → (has_ended h ≡ false) × (closes c.stops c.how h ≡ a)
  next-closes h a c e next =
      let parts = unless-some (has_ended h) (next_by (process J p) (closing (process J p) h) h) a next in
      (parts.0, sym (ap (λ c. next_by (process J p) c h) e) ∙ parts.1)

  closes-on : (h : List (Entry L)) (a : Action) (r : Reply L) (c : Closing) → law.Follows (twin J) p (Does a r ∷ h) → Closed h → closing (process J p) h ≡ Some c → Closed (Does a r ∷ h)
  closes-on h a r c follows was e d f =
      let next = next-closes h a c e follows.0 in
      let call : IsClosingCall a = subst IsClosingCall next.1 (closes-call c.stops c.how h) in
      let same : c ≡ d = same-closing c d (sym (stays h a r c e call follows.1.0) ∙ f) in
      let less = subst (λ a. counts_by a r + end_left c.stops (Does a r ∷ h) ≤ end_left c.stops h) next.1 (closes-less c.stops c.how h r next.0) in
      let free : pays (process J p).works a r ≡ 0 = subst (λ a. pays (process J p).works a r ≡ 0) next.1 (closes-pays (process J p).works c.stops c.how h r) in
      let before = was c e in
      subst (λ (c : Closing). made (Does a r ∷ h) + end_left c.stops (Does a r ∷ h) ≤ paid (process J p).works (Does a r ∷ h) + (8 + 2 * length c.stops)) same
      (omega (arith, before, less, free))

  -- ---- the three entries
  does-known : (h : List (Entry L)) (a : Action) (r : Reply L) (c : Option Closing) → law.Follows (twin J) p (Does a r ∷ h) → Known h → closing (process J p) h ≡ c → Known (Does a r ∷ h)
  does-known h a r None follows was e = record {
    works = λ none. works-on h a r follows (was.works e) e (none-of (process J p) (caused (process J p) (Does a r ∷ h)) (aim (process J p) (Does a r ∷ h)) none);
    closed = λ c f. begins-closing h (Does a r) c (pays (process J p).works a r + paid (process J p).works h) (was.works e) (counts-most a r) (omega arith);
  }
  does-known h a r (Some c) follows was e = record {
    works = λ none.
        (let next = next-closes h a c e follows.0 in
        let call : IsClosingCall a = subst IsClosingCall next.1 (closes-call c.stops c.how h) in
        absurd (let never = sym (stays h a r c e call follows.1.0) ∙ none in cc));
    closed = closes-on h a r c follows was.closed e;
  }

  lacks-known : (h : List (Entry L)) (a : Action) (r : Reply L) (c : Option Closing) → law.Follows (twin J) p (LacksMemory a r ∷ h) → Known h → closing (process J p) h ≡ c
      → Known (LacksMemory a r ∷ h)
  lacks-known h a r None follows was e = record {
    works = λ none. absurd (lacks-closing J (process J p) (caused (process J p) h) (outcome.Fault cause.NoMemory) (aim (process J p) h) none);
    closed = λ c f. begins-closing h (LacksMemory a r) c (paid (process J p).works h) (was.works e) (counts-most a r) (omega arith);
  }
  lacks-known h a r (Some c) follows was e =
      absurd (let next = next-closes h a c e follows.0 in no-lack a r (subst IsClosingCall next.1 (closes-call c.stops c.how h)) follows.1.1)

  waits-known : (h : List (Entry L)) (a : Action) (c : Option Closing) → law.Follows (twin J) p (Delays a ∷ h) → Known h → closing (process J p) h ≡ c → Known (Delays a ∷ h)
  waits-known h a None follows was e = record {
    works = λ none. (let within = was.works e in record { place_is = within.place_is; few = (let few = within.few in omega (arith, few)) });
    closed = λ c f. absurd (let never = sym e ∙ f in cc);
  }
  waits-known h a (Some c) follows was e =
      absurd (let next = next-closes h a c e follows.0 in no-wait a (subst IsClosingCall next.1 (closes-call c.stops c.how h)) follows.1)

  known : (h : List (Entry L)) → law.Follows (twin J) p h → Known h
  known [] follows = record {
    works = λ none. record { place_is = has.first_is; few = (let one = has.first in omega (arith, one)) };
    closed = λ c e. (let most = end-most {L = L} c.stops [] in omega (arith, most));
  }
  known (Does a r ∷ h) follows = does-known h a r (closing (process J p) h) follows (known h follows.2) refl
  known (LacksMemory a r ∷ h) follows = lacks-known h a r (closing (process J p) h) follows (known h follows.2) refl
  known (Delays a ∷ h) follows = waits-known h a (closing (process J p) h) follows (known h follows.2) refl

  -- it stops no more than its buffers
  few-stops : (cause : Option Outcome) (m : Aim) (c : Closing) (n : ℕ) → length (process J p).buffers ≤ n → length (process J p).spools ≤ n → closing_by (process J p) cause m ≡ Some c → length c.stops ≤ n
  few-stops (Some how) m c n a b e =
      subst (λ (c : Closing). length c.stops ≤ n) (let same : record { stops = (process J p).buffers; how = how } ≡ c = cc in same) a
  few-stops None Finishes c n a b e =
      subst (λ (c : Closing). length c.stops ≤ n) (let same : record { stops = (process J p).spools; how = outcome.Done } ≡ c = cc in same) b
  few-stops None other c n a b e = absurd cc

  made-by : (h : List (Entry L)) (n : ℕ) (c : Option Closing) → length (process J p).buffers ≤ n → length (process J p).spools ≤ n → Known h → closing (process J p) h ≡ c
      → made h ≤ paid (process J p).works h + (8 + 2 * n)
  made-by h n None a b is e = (let few = (is.works e).few in omega (arith, few))
  made-by h n (Some c) a b is e =
      (let few = is.closed c e in let most = few-stops (caused (process J p) h) (aim (process J p) h) c n a b e in omega (arith, few, most))

  -- Its calls are paid by what it moved, but for a few.
  pub made-most : (h : List (Entry L)) (n : ℕ) → law.Follows (twin J) p h → length (process J p).buffers ≤ n → length (process J p).spools ≤ n
      → made h ≤ paid (process J p).works h + (8 + 2 * n)
  made-most h n follows a b = made-by h n (closing (process J p) h) a b (known h follows) refl
