-- Which of the five makes which call.
use Rattle.std.proofs.Common.{◌≡◌, ◌⊎◌, inl, inr, ℕ, ◌≤◌, ◌<◌, List, [], ◌∷◌, ◌++◌, true, Some, refl, sym, subst, arith, lit≤}
use Rattle.std.proofs.lemmas.Bool.{and_parts}
use Rattle.std.proofs.lemmas.Bool.Decides.{eqb_tells}
use Rattle.std.specs.List.{AllByRecursion}
use Rattle.batch_procs.specs.declared.actions.Action.{Action}
use Rattle.batch_procs.specs.declared.actions.Action.TheVariants as act
use Rattle.batch_procs.specs.Parcels.{Parcel, OfFeed, OfPage, OfLine, OfLoad, IsAFeed, IsAPage, IsALine}
use Rattle.batch_procs.specs.History.{Entry, taken, sent, is_unworked}
use Rattle.batch_procs.specs.Process.{Follows, next_action, due, puts, aim}
use Rattle.batch_procs.specs.Table.{process}
use Rattle.batch_procs.proofs.Nexts.{next-load}
use Rattle.batch_procs.proofs.Relay.{IsDue, due-rest, sent-is-part}
use Rattle.core_law.specs.Core.{IsBuffer}
use Rattle.core_law.specs.Ends.{IsProcess}
use Rattle.core_law.proofs.Ends.{the-five}
use Rattle.core_law.proofs.Taking.{next-take}
use Rattle.core_law.proofs.Places.{put-due, move-due, room-put, room-due, item-taking}
use Rattle.batch_procs.specs.Jobs.{Jobs, AreJobs}

-- one of the five
pub by-five : (P : ℕ → Type 0) (p : ℕ) → IsProcess p → P 1 → P 2 → P 3 → P 4 → P 5 → P p
by-five P p one a b c d e =
    elim (eqb_tells p 1) as (λ _. P p) [
      | inl is ↦ subst P (sym is.1) a
      | inr not1 ↦ elim (eqb_tells p 2) as (λ _. P p) [
        | inl is ↦ subst P (sym is.1) b
        | inr not2 ↦ elim (eqb_tells p 3) as (λ _. P p) [
          | inl is ↦ subst P (sym is.1) c
          | inr not3 ↦ elim (eqb_tells p 4) as (λ _. P p) [
            | inl is ↦ subst P (sym is.1) d
            | inr not4 ↦ (let last : p
                ≡ 5 =
                (let a =
                not1.1 in let b = not2.1 in let c = not3.1 in let d = not4.1 in let low = one.0 in let high = one.1 in omega (arith, a, b, c, d, low, high)) in
                subst P (sym last) e)
          ]
        ]
      ]
    ]

abbrev pub IsPageAction : Action → Type 0
IsPageAction (act.PutPage page) = Unit {0}
IsPageAction a = ⊥

module _ {L : Type 0} {J : Jobs L} (jobs : AreJobs J) where
  -- ---- what is due is of the kind that the process sends
  all-behind : (Is : Parcel L → Type 0) (part rest : List (Parcel L)) → AllByRecursion Is (part ++ rest) → AllByRecursion Is rest
  all-behind Is [] rest all = all
  all-behind Is (x ∷ part) rest all = all-behind Is part rest all.1

  pub due-kind : (Is : Parcel L → Type 0) (p : ℕ) (h : List (Entry L)) (a : Action) → Follows J (process J p) h
      → ((all : List (Parcel L)) → AllByRecursion Is ((process J p).sends all)) → (d : IsDue J (due (process J p) h) a) → Is d.first
  due-kind Is p h a follows kinds d =
      let (rest, whole) = sent-is-part J (process J p) h ((the-five jobs).relays p) follows in
      let (left, rest-is) = due-rest J (process J p) h d.first d.more rest ((the-five jobs).relays p) whole d.due_is in
      let behind = all-behind Is (sent h) rest (subst (λ ps. AllByRecursion Is ps) (sym whole) (kinds (taken h))) in
      (subst (λ ps. AllByRecursion Is ps) rest-is behind).0

  feed-no_page : (parcel : Parcel L) (f : Rattle.solo_base.specs.declared.item.Feed.Feed) → puts parcel ≡ act.PutFeed f → IsAPage parcel → ⊥
  feed-no_page (OfFeed g) f e is = is
  feed-no_page (OfPage page last) f e is = cc
  feed-no_page (OfLine line) f e is = is
  feed-no_page (OfLoad load) f e is = is

  feed-no_line : (parcel : Parcel L) (f : Rattle.solo_base.specs.declared.item.Feed.Feed) → puts parcel ≡ act.PutFeed f → IsALine parcel → ⊥
  feed-no_line (OfFeed g) f e is = is
  feed-no_line (OfPage page last) f e is = is
  feed-no_line (OfLine line) f e is = cc
  feed-no_line (OfLoad load) f e is = is

  page-no_feed : (parcel : Parcel L) (a : Action) → puts parcel ≡ a → IsPageAction a → IsAFeed parcel → ⊥
  page-no_feed (OfFeed g) a e put is = subst IsPageAction (sym e) put
  page-no_feed (OfPage page last) a e put is = is
  page-no_feed (OfLine line) a e put is = is
  page-no_feed (OfLoad load) a e put is = is

  page-no_line : (parcel : Parcel L) (a : Action) → puts parcel ≡ a → IsPageAction a → IsALine parcel → ⊥
  page-no_line (OfFeed g) a e put is = is
  page-no_line (OfPage page last) a e put is = is
  page-no_line (OfLine line) a e put is = subst IsPageAction (sym e) put
  page-no_line (OfLoad load) a e put is = is

  a_buffer : (b : ℕ) → 1 ≤ b → b < 5 → IsBuffer b
  a_buffer b low high = (low, high)

  feeds-1 : (all : List (Parcel L)) → AllByRecursion IsAFeed ((process J 1).sends all)
  feeds-1 = (the-five jobs).feeds 1 (a_buffer 1 (lit≤ tt) (lit≤ tt)) refl

  pages-2 : (all : List (Parcel L)) → AllByRecursion IsAPage ((process J 2).sends all)
  pages-2 = (the-five jobs).pages 2 (a_buffer 2 (lit≤ tt) (lit≤ tt)) refl

  pages-3 : (all : List (Parcel L)) → AllByRecursion IsAPage ((process J 3).sends all)
  pages-3 = (the-five jobs).pages 3 (a_buffer 3 (lit≤ tt) (lit≤ tt)) refl

  feeds-4 : (all : List (Parcel L)) → AllByRecursion IsAFeed ((process J 4).sends all)
  feeds-4 = (the-five jobs).feeds 4 (a_buffer 4 (lit≤ tt) (lit≤ tt)) refl

  -- ---- who puts feeds: the card and the output process
  abbrev PutsFeeds : ℕ → Type 0
  PutsFeeds p =
      (h : List (Entry L)) (f : Rattle.solo_base.specs.declared.item.Feed.Feed) → Follows J (process J p) h → next_action (process J p) h ≡ Some (act.PutFeed f)
      → (p ≡ 1) ⊎ (p ≡ 4)

  no-feed : (p : ℕ) → ((all : List (Parcel L)) → AllByRecursion IsAPage ((process J p).sends all)) → PutsFeeds p
  no-feed p pages h f follows next =
      let d = put-due jobs (process J p) h f ((the-five jobs).relays p) next in
      absurd (feed-no_page d.first f d.puts_it (due-kind IsAPage p h (act.PutFeed f) follows pages d))

  prints-no_feed : PutsFeeds 5
  prints-no_feed h f follows next =
      let d = put-due jobs (process J 5) h f ((the-five jobs).relays 5) next in
      absurd (feed-no_line d.first f d.puts_it (due-kind IsALine 5 h (act.PutFeed f) follows (the-five jobs).prints_only d))

  pub feed-puts : (p : ℕ) → IsProcess p → PutsFeeds p
  feed-puts p one = by-five PutsFeeds p one (λ h f follows next. inl refl) (no-feed 2 pages-2) (no-feed 3 pages-3) (λ h f follows next. inr refl) prints-no_feed

  -- ---- who puts pages: the input and the job process
  abbrev PutsPages : ℕ → Type 0
  PutsPages p = (h : List (Entry L)) (a : Action) → Follows J (process J p) h → IsPageAction a → IsDue J (due (process J p) h) a → (p ≡ 2) ⊎ (p ≡ 3)

  no-page : (p : ℕ) → ((all : List (Parcel L)) → AllByRecursion IsAFeed ((process J p).sends all)) → PutsPages p
  no-page p feeds h a follows put d = absurd (page-no_feed d.first a d.puts_it put (due-kind IsAFeed p h a follows feeds d))

  prints-no_page : PutsPages 5
  prints-no_page h a follows put d = absurd (page-no_line d.first a d.puts_it put (due-kind IsALine 5 h a follows (the-five jobs).prints_only d))

  pub page-puts : (p : ℕ) → IsProcess p → PutsPages p
  page-puts p one = by-five PutsPages p one (no-page 1 feeds-1) (λ h a follows put d. inl refl) (λ h a follows put d. inr refl)
      (no-page 4 feeds-4) prints-no_page

  page-put : (a : Action) → Rattle.batch_procs.proofs.Holding.IsPagePut a → IsPageAction a
  page-put (act.PutPage page) is = tt
  page-put a is = absurd is

  pub room-waits : (p : ℕ) (h : List (Entry L)) → IsProcess p → Follows J (process J p) h → next_action (process J p) h ≡ Some act.AwaitRoom → (p ≡ 2) ⊎ (p ≡ 3)
  room-waits p h one follows next =
      page-puts p one h (aim (process J p) h) follows (page-put (aim (process J p) h) (room-put jobs (process J p) h ((the-five jobs).relays p) next))
      (room-due jobs (process J p) h ((the-five jobs).relays p) next)

  pub moves-page : (p : ℕ) (h : List (Entry L)) (page : Rattle.solo_base.specs.declared.page.Page.Page) → IsProcess p → Follows J (process J p) h
      → next_action (process J p) h ≡ Some (act.PutPage page) → (p ≡ 2) ⊎ (p ≡ 3)
  moves-page p h page one follows next = page-puts p one h (act.PutPage page) follows tt (move-due jobs (process J p) h page ((the-five jobs).relays p) next)

  -- ---- who takes
  pub feed-takes : (p : ℕ) → IsProcess p → (process J p).takes ≡ act.TakeFeed → (p ≡ 2) ⊎ (p ≡ 5)
  feed-takes p one =
      by-five (λ p. (process J p).takes ≡ act.TakeFeed → (p ≡ 2) ⊎ (p ≡ 5)) p one (λ e. absurd cc) (λ e. inl refl) (λ e. absurd cc) (λ e. absurd cc)
      (λ e. inr refl)

  pub page-takes : (p : ℕ) → IsProcess p → (process J p).takes ≡ act.TakePage → (p ≡ 3) ⊎ (p ≡ 4)
  page-takes p one =
      by-five (λ p. (process J p).takes ≡ act.TakePage → (p ≡ 3) ⊎ (p ≡ 4)) p one (λ e. absurd cc) (λ e. absurd cc) (λ e. inl refl) (λ e. inr refl)
      (λ e. absurd cc)

  pub takes-feed : (p : ℕ) (h : List (Entry L)) → IsProcess p → next_action (process J p) h ≡ Some act.TakeFeed → (p ≡ 2) ⊎ (p ≡ 5)
  takes-feed p h one next = feed-takes p one (next-take jobs (process J p) h act.TakeFeed next tt).same

  pub takes-page : (p : ℕ) (h : List (Entry L)) → IsProcess p → next_action (process J p) h ≡ Some act.TakePage → (p ≡ 3) ⊎ (p ≡ 4)
  takes-page p h one next = page-takes p one (next-take jobs (process J p) h act.TakePage next tt).same

  pub item-waits : (p : ℕ) (h : List (Entry L)) → IsProcess p → next_action (process J p) h ≡ Some act.AwaitItem → (p ≡ 3) ⊎ (p ≡ 4)
  item-waits p h one next = page-takes p one (item-taking jobs (process J p) h ((the-five jobs).relays p) next).1

  -- ---- who reads and who prints
  pub reads-deck : (p : ℕ) (h : List (Entry L)) → next_action (process J p) h ≡ Some act.ReadCard → p ≡ 1
  reads-deck p h next = (the-five jobs).reads p (next-take jobs (process J p) h act.ReadCard next tt).same

  pub prints-paper : (p : ℕ) (h : List (Entry L)) (line : List ℕ) → IsProcess p → Follows J (process J p) h → next_action (process J p) h ≡ Some
      (act.Print line) → p ≡ 5
  prints-paper p h line one follows next =
      elim (eqb_tells p 5) as (λ _. p ≡ 5) [
        | inl is ↦ is.1
        | inr not ↦ absurd (Rattle.core_law.proofs.Passed.prints-line jobs (process J p) h line ((the-five jobs).relays p) follows next
            ((the-five jobs).prints p (
              one.0,
              (let differ =
                  not.1 in let below = one.1 in omega (arith, differ, below)),
            ) (taken h)))
      ]

  -- ---- who loads files
  working-p : (p : ℕ) → IsProcess p → (process J p).works ≡ true → p ≡ 3
  working-p p one = by-five (λ p. (process J p).works ≡ true → p ≡ 3) p one (λ e. absurd cc) (λ e. absurd cc) (λ e. refl) (λ e. absurd cc) (λ e. absurd cc)

  pub loads-files : (p : ℕ) (h : List (Entry L)) (file : List ℕ) → IsProcess p → Follows J (process J p) h → next_action (process J p) h ≡ Some
      (act.Load file) → p ≡ 3
  loads-files p h file one follows next =
      working-p p one (and_parts (process J p).works (is_unworked h) (next-load J (process J p) h file ((the-five jobs).relays p) follows next).works).0
