-- Which actions each of the five processes makes, from its takes, its list function and its buffers.
use Rattle.std.proofs.Common.{◌≡◌, inl, inr, ℕ, Bool, true, false, ◌&&◌, if◌then◌else◌, List, [], ◌∷◌, ◌++◌, Option, None, Some, refl, sym, ◌∙◌, ap, subst}
use Rattle.std.specs.List.{AllByRecursion}
use Rattle.solo_base.specs.declared.outcome.Outcome.{Outcome}
use Rattle.solo_base.specs.declared.outcome.Outcome.TheVariants as outcome
use Rattle.std.specs.Prelude.{option_to_list}
use Rattle.solo_base.specs.declared.item.Feed.{Feed}
use Rattle.solo_base.specs.declared.item.Feed.TheVariants as feed
use Rattle.page_codec.specs.Packing.{PageInHand, first_page, page_given, hand_after}
use Rattle.batch_procs.specs.declared.actions.Action.{Action}
use Rattle.batch_procs.specs.declared.actions.Action.TheVariants as act
use Rattle.batch_procs.specs.Parcels.{Parcel, is_ended, loads}
use Rattle.batch_procs.specs.History.{Entry, Does, LacksMemory, Delays, taken, sent, holds, holds_after, has_stopped, is_unworked, newest}
use Rattle.batch_procs.specs.Causes.{caused}
use Rattle.batch_procs.specs.Process.{Process, Follows, next_by, aim, aimed, works_on, begins, working, closes, stops_next, puts, due, unworked}
use Rattle.batch_procs.specs.Laws.{IsRelay}
use Rattle.batch_procs.specs.Parts.{some-same}
use Rattle.batch_procs.specs.Sends.{as_parcels, as_lines, feeds, until_end, items, lines_of, marked, packed, unpacked, job_lines, output_lines}
use Rattle.batch_procs.specs.Table.{card, input, job, output, printer}
use Rattle.solo_base.specs.declared.page.Page.{Page}
use Rattle.batch_procs.specs.Relays.{card-relay, input-relay, job-relay, output-relay, printer-relay}
use Rattle.batch_procs.proofs.Relay.{sent-is-part, due-rest, closing-next}
use Rattle.batch_sides.specs.Running.{DoesOnly}
use Rattle.batch_sides.specs.Cards.{does_card}
use Rattle.batch_sides.specs.Lines.{does_printer}
use Rattle.batch_sides.specs.Input.{does_input}
use Rattle.batch_sides.specs.Job.{does_job}
use Rattle.batch_sides.specs.Output.{does_output}
use Rattle.batch_procs.specs.Jobs.{Jobs, AreJobs}

module _ {L : Type 0} {J : Jobs L} (jobs : AreJobs J) where
  -- A kind of actions that has what the process aims at, and with each of its actions those around it.
  pub record HasAll (p : Process L) (Is : Action → Type 0) : Type 0 where
    pub takes : Is p.takes × Is (begins p.takes)
    pub puts_all : (all : List (Parcel L)) → AllByRecursion (λ parcel. Is (puts parcel) × Is (begins (puts parcel))) (p.sends all)
    pub works : p.works ≡ true → Is act.Local
    pub stops : AllByRecursion (λ b. Is (act.Stop b)) p.buffers
    pub ends : (how : Outcome) → Is (act.Ended how)
    pub room : Is act.AwaitRoom → Is act.Request
    pub item : Is act.AwaitItem → Is act.Request
    pub gives : Is act.Request → Is act.Release
    pub put : (page : Page) → Is (act.PutPage page) → Is act.Release
    pub taken : Is act.TakePage → Is act.Release
    pub load : (file : List ℕ) (later : List (List ℕ)) (all : List (Parcel L)) → p.wants all ≡ file ∷ later
        → Is (act.Load file) × Is act.Request
    pub loaded : (file : List ℕ) → Is (act.Load file) → Is act.Release

  -- ---- lists of what is put
  first-behind : {X : Type 0} (Has : X → Type 0) (front : List X) (x : X) (more : List X) → AllByRecursion Has (front ++ x ∷ more) → Has x
  first-behind Has [] x more have = have.0
  first-behind Has (y ∷ front) x more have = first-behind Has front x more have.1

  both-true : (a b : Bool) → (a && b) ≡ true → a ≡ true
  both-true true b e = refl
  both-true false b e = absurd cc

  -- what the history so far has of this kind: its newest action, and a request where it holds the disk
  record SoFar (Is : Action → Type 0) (h : List (Entry L)) : Type 0 where
    newest_is : (a : Action) → newest h ≡ Some a → Is a
    asked : holds h ≡ true → Is act.Request

  asked-after : (Is : Action → Type 0) (a : Action) (before : Bool) → (before ≡ true → Is act.Request) → Is a → holds_after before a ≡ true → Is act.Request
  asked-after Is act.Request before old is e = is
  asked-after Is act.Release before old is e = absurd cc
  asked-after Is other before old is e = old e

  module _ {p : Process L} {Is : Action → Type 0} (relay : IsRelay p) (all : HasAll p Is) where
    stops-are : (buffers : List ℕ) (how : Outcome) (h : List (Entry L)) → AllByRecursion (λ b. Is (act.Stop b)) buffers → Is (stops_next buffers how h)
    stops-are [] how h are = all.ends how
    stops-are (b ∷ later) how h are =
        let P : Bool → Type 0 = λ t. Is (if t then stops_next later how h else act.Stop b) in
        elim (has_stopped b h) as P [ true ↦ stops-are later how h are.1 | false ↦ are.0 ]

    closes-are : (how : Outcome) (h : List (Entry L)) → SoFar Is h → Is (closes p.buffers how h)
    closes-are how h so_far =
        let P : Bool → Type 0 = λ t. holds h ≡ t → Is (if t then act.Release else stops_next p.buffers how h) in
        elim (holds h) as P [ true ↦ (λ e. all.gives (so_far.asked e)) | false ↦ (λ e. stops-are p.buffers how h all.stops) ] refl

    first-is : (h : List (Entry L)) (first : Parcel L) (more : List (Parcel L)) → Follows J p h → due p h ≡ first ∷ more
        → Is (puts first) × Is (begins (puts first))
    first-is h first more follows e =
        let (rest, whole) = sent-is-part J p h relay follows in
        let (later, rest-is) = due-rest J p h first more rest relay whole e in
        first-behind (λ parcel. Is (puts parcel) × Is (begins (puts parcel))) (sent h) first later
        (subst (λ ps. AllByRecursion (λ parcel. Is (puts parcel) × Is (begins (puts parcel))) ps) (sym whole
        ∙ ap (λ r. sent h ++ r) rest-is) (all.puts_all (taken h)))

    -- the work, or the load of a file that it wants
    works-are : (taken : List (Parcel L)) (wanted : List (List ℕ)) → p.wants taken ≡ wanted → Is act.Local
        → Is (works_on wanted) × Is (begins (works_on wanted))
    works-are taken [] e local = (local, local)
    works-are taken (file ∷ later) e local = all.load file later taken e

    aimed-is : (taken due : List (Parcel L)) (ended unworked : Bool)
        → ((first : Parcel L) (more : List (Parcel L)) → due ≡ first ∷ more → Is (puts first) × Is (begins (puts first)))
        → (unworked ≡ true → Is act.Local)
        → Is (aimed p.takes (p.wants taken) due ended unworked) × Is (begins (aimed p.takes (p.wants taken) due ended unworked))
    aimed-is taken [] true false first local = (all.ends outcome.Done, all.ends outcome.Done)
    aimed-is taken [] true true first local = works-are taken (p.wants taken) refl (local refl)
    aimed-is taken [] false true first local = works-are taken (p.wants taken) refl (local refl)
    aimed-is taken [] false false first local = all.takes
    aimed-is taken (parcel ∷ more) ended unworked first local = first parcel more refl

    aim-is : (h : List (Entry L)) → Follows J p h → Is (aim p h) × Is (begins (aim p h))
    aim-is h follows =
        aimed-is (taken h) (due p h) (is_ended (taken h)) (unworked p h) (λ first more e. first-is h first more follows e)
        (λ e. all.works (both-true p.works (is_unworked h) e))

    working-is : (newest : Option Action) (aim a : Action) → ((b : Action) → newest ≡ Some b → Is b) → Is aim × Is (begins aim) → working newest aim ≡ Some a
        → Is a
    working-is None aim a old is e = subst Is (some-same (begins aim) a e) is.1
    working-is (Some act.AwaitRoom) aim a old is e = subst Is (some-same act.Request a e) (all.room (old act.AwaitRoom refl))
    working-is (Some act.AwaitItem) aim a old is e = subst Is (some-same act.Request a e) (all.item (old act.AwaitItem refl))
    working-is (Some act.Request) aim a old is e = subst Is (some-same aim a e) is.0
    working-is (Some (act.PutPage page)) aim a old is e = subst Is (some-same act.Release a e) (all.put page (old (act.PutPage page) refl))
    working-is (Some act.TakePage) aim a old is e = subst Is (some-same act.Release a e) (all.taken (old act.TakePage refl))
    working-is (Some (act.Load file)) aim a old is e = subst Is (some-same act.Release a e) (all.loaded file (old (act.Load file) refl))
    working-is (Some (act.Ended how)) aim a old is e = absurd cc
    working-is (Some other) aim a old is e = subst Is (some-same (begins aim) a e) is.1

    next-is : (cause : Option Outcome) (h : List (Entry L)) (a : Action) → Follows J p h → SoFar Is h → next_by p cause h ≡ Some a → Is a
    next-is None h a follows so_far e = working-is (newest h) (aim p h) a so_far.newest_is (aim-is h follows) e
    next-is (Some how) h a follows so_far e =
        subst Is (closing-next (newest h) (closes p.buffers how h) a e) (closes-are how h so_far)

    so-far : (h : List (Entry L)) → Follows J p h → SoFar Is h
    so-far [] follows = record { newest_is = λ a e. absurd cc; asked = λ e. absurd cc }
    so-far (Does a r ∷ h) follows =
        let before = so-far h follows.2 in
        let is = next-is (caused h) h a follows.2 before follows.0 in
        record { newest_is = λ b e. subst Is (some-same a b e) is; asked = asked-after Is a (holds h) before.asked is }
    so-far (LacksMemory a r ∷ h) follows =
        let before = so-far h follows.2 in
        let is = next-is (caused h) h a follows.2 before follows.0 in
        record { newest_is = λ b e. subst Is (some-same a b e) is; asked = before.asked }
    so-far (Delays a ∷ h) follows = let before = so-far h follows.2 in record { newest_is = before.newest_is; asked = before.asked }

    pub does-only : DoesOnly J p Is
    does-only h a follows e = next-is (caused h) h a follows (so-far h follows) e

  -- ---- what each puts
  feeds-put : (Is : Action → Type 0) → ((f : Feed) → Is (act.PutFeed f)) → (all : List Feed)
      → AllByRecursion (λ parcel. Is (puts parcel) × Is (begins (puts parcel))) (as_parcels {L = L} all)
  feeds-put Is is [] = tt
  feeds-put Is is (f ∷ rest) = ((is f, is f), feeds-put Is is rest)

  lines-put : (Is : Action → Type 0) → ((line : List ℕ) → Is (act.Print line)) → (all : List (List ℕ))
      → AllByRecursion (λ parcel. Is (puts parcel) × Is (begins (puts parcel))) (as_lines {L = L} all)
  lines-put Is is [] = tt
  lines-put Is is (line ∷ rest) = ((is line, is line), lines-put Is is rest)

  given-put : (Is : Action → Type 0) → ((page : Page) → Is (act.PutPage page)) → Is act.AwaitRoom → (given : Option Page) (rest : List (Parcel L))
      → AllByRecursion (λ parcel. Is (puts parcel) × Is (begins (puts parcel))) rest
      → AllByRecursion (λ parcel. Is (puts parcel) × Is (begins (puts parcel))) (marked false (option_to_list given) ++ rest)
  given-put Is is room None rest are = are
  given-put Is is room (Some page) rest are = ((is page, room), are)

  pages-put : (Is : Action → Type 0) → ((page : Page) → Is (act.PutPage page)) → Is act.AwaitRoom → (hand : PageInHand) (all : List Feed)
      → AllByRecursion (λ parcel. Is (puts parcel) × Is (begins (puts parcel))) (packed {L = L} hand all)
  pages-put Is is room hand [] = tt
  pages-put Is is room hand (feed.Item item ∷ rest) = given-put Is is room (page_given hand item) _ (pages-put Is is room (hand_after hand item) rest)
  pages-put Is is room hand (feed.End ∷ rest) = ((is _, room), tt)

  -- ---- the five
  card-all : HasAll card does_card
  card-all = record {
    takes = (tt, tt);
    puts_all = λ all. feeds-put does_card (λ f. tt) (until_end (feeds all));
    works = λ e. absurd cc;
    stops = (refl, tt);
    ends = λ how. tt;
    room = λ is. is;
    item = λ is. is;
    gives = λ is. is;
    put = λ page is. is;
    taken = λ is. is;
    load = λ file later all e. absurd cc;
    loaded = λ file is. is;
  }

  pub card-does : DoesOnly J card does_card
  card-does = does-only (card-relay L) card-all

  printer-all : HasAll printer does_printer
  printer-all = record {
    takes = (tt, tt);
    puts_all = λ all. lines-put does_printer (λ line. tt) (lines_of (items (feeds all)));
    works = λ e. absurd cc;
    stops = (refl, tt);
    ends = λ how. tt;
    room = λ is. is;
    item = λ is. is;
    gives = λ is. is;
    put = λ page is. is;
    taken = λ is. is;
    load = λ file later all e. absurd cc;
    loaded = λ file is. is;
  }

  pub printer-does : DoesOnly J printer does_printer
  printer-does = does-only (printer-relay L) printer-all

  input-all : HasAll input does_input
  input-all = record {
    takes = (tt, tt);
    puts_all = λ all. pages-put does_input (λ page. tt) tt first_page (feeds all);
    works = λ e. absurd cc;
    stops = (inl refl, (inr refl, tt));
    ends = λ how. tt;
    room = λ is. tt;
    item = λ is. tt;
    gives = λ is. tt;
    put = λ page is. tt;
    taken = λ is. tt;
    load = λ file later all e. absurd cc;
    loaded = λ file is. tt;
  }

  pub input-does : DoesOnly J input does_input
  input-does = does-only (input-relay L) input-all

  job-all : HasAll (job J) does_job
  job-all = record {
    takes = (tt, tt);
    puts_all = λ all. pages-put does_job (λ page. tt) tt first_page (job_lines J (unpacked 0 all) (loads all));
    works = λ e. tt;
    stops = (inl refl, (inr refl, tt));
    ends = λ how. tt;
    room = λ is. tt;
    item = λ is. tt;
    gives = λ is. tt;
    put = λ page is. tt;
    taken = λ is. tt;
    load = λ file later all e. (tt, tt);
    loaded = λ file is. tt;
  }

  pub job-does : DoesOnly J (job J) does_job
  job-does = does-only (job-relay jobs) job-all

  output-all : HasAll output does_output
  output-all = record {
    takes = (tt, tt);
    puts_all = λ all. feeds-put does_output (λ f. tt) (output_lines (unpacked 0 all));
    works = λ e. absurd cc;
    stops = (inl refl, (inr refl, tt));
    ends = λ how. tt;
    room = λ is. tt;
    item = λ is. tt;
    gives = λ is. tt;
    put = λ page is. tt;
    taken = λ is. tt;
    load = λ file later all e. absurd cc;
    loaded = λ file is. tt;
  }

  pub output-does : DoesOnly J output does_output
  output-does = does-only (output-relay L) output-all
