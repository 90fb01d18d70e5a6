-- Which faults a process may end with.
use Rattle.std.proofs.Common.{◌≡◌, ◌⊎◌, inl, inr, ℕ, zero, suc, Bool, true, false, List, [], ◌∷◌, ◌++◌, length, drop, Option, None, Some, Result, Ok, Err, refl, sym, ◌∙◌, ap, subst}
use Rattle.std.specs.List.{AllByRecursion}
use Rattle.solo_base.specs.declared.item.Feed.{Feed}
use Rattle.solo_base.specs.declared.item.Feed.TheVariants as feed
use Rattle.solo_base.specs.declared.page.Page.{Page}
use Rattle.solo_base.specs.declared.outcome.Outcome.{Outcome}
use Rattle.solo_base.specs.declared.outcome.Outcome.TheVariants as outcome
use Rattle.solo_base.specs.declared.outcome.Cause.{Cause}
use Rattle.solo_base.specs.declared.outcome.Cause.TheVariants as cause
use Rattle.solo_devices.specs.declared.card_read.CardRead.{CardRead}
use Rattle.solo_devices.specs.declared.card_read.CardRead.TheVariants as read
use Rattle.page_codec.specs.declared.judge.BadPage.{BadPage}
use Rattle.page_codec.specs.Packing.{PageInHand, page_given, hand_after, first_page}
use Rattle.page_codec.specs.Reading.{PageContent, page_read}
use Rattle.std.specs.Prelude.{option_to_list}
use Rattle.batch_procs.specs.Jobs.{Jobs, AreJobs}
use Rattle.batch_procs.specs.declared.actions.Action.{Action}
use Rattle.batch_procs.specs.declared.actions.Action.TheVariants as act
use Rattle.batch_procs.specs.declared.actions.Reply.{Reply}
use Rattle.batch_procs.specs.declared.actions.Reply.TheVariants as reply
use Rattle.batch_procs.specs.Parcels.{Parcel, OfFeed, OfPage, OfLine, OfLoad, loads, IsAFeed, IsAPage, IsALine}
use Rattle.batch_procs.specs.History.{Entry, Does, LacksMemory, Delays, taken, sent}
use Rattle.batch_procs.specs.Causes.{fault_read, damage, place, given_cause, or_new, caused}
use Rattle.batch_procs.specs.Fits.{Fits}
use Rattle.batch_procs.specs.Process.{Process, puts, next_action, Follows}
use Rattle.batch_procs.specs.Sends.{as_parcels, as_lines, marked, packed, until_end, feeds, job_lines, unpacked, output_lines, lines_of, items}
use Rattle.batch_procs.specs.Table.{card, input, job, output, printer}
use Rattle.batch_procs.specs.Laws.{IsTake, IsRelay}
use Rattle.batch_procs.specs.Faults.{cause_by, GivenBy, IsDamaged, FaultsOfTheFive}
use Rattle.batch_procs.specs.Relays.{card-relay, input-relay, job-relay, output-relay, printer-relay}
use Rattle.batch_procs.proofs.Relay.{IsPut}
use Rattle.batch_procs.proofs.Nexts.{next-take, next-putting, next-load}

-- ---- the entry that gave the cause
new-or-old : (old new : Option Outcome) (how : Outcome) → or_new old new ≡ Some how → (old ≡ Some how) ⊎ ((old ≡ None) × (new ≡ Some how))
new-or-old None new how e = inr (refl, e)
new-or-old (Some before) new how e = inl e

-- ---- the fault that an action may give
abbrev FaultOf : Action → Cause → Type 0
FaultOf act.ReadCard c = (c ≡ cause.ReadFault) ⊎ (c ≡ cause.DeckLimit)
FaultOf (act.PutPage page) c = c ≡ cause.DiskFault
FaultOf act.TakePage c = (c ≡ cause.DiskFault) ⊎ IsDamaged c
FaultOf (act.Print line) c = (c ≡ cause.PrintFault) ⊎ (c ≡ cause.NoMemory)
FaultOf (act.Load file) c = (c ≡ cause.DiskFault) ⊎ (c ≡ cause.NoMemory)
FaultOf other c = ⊥

fault-same : (c d : Cause) → Some (outcome.Fault c) ≡ Some (outcome.Fault d) → d ≡ c
fault-same c d e = cc

read-fault : (answer : CardRead) (c : Cause) → fault_read answer ≡ Some (outcome.Fault c) → (c ≡ cause.ReadFault) ⊎ (c ≡ cause.DeckLimit)
read-fault (read.Card line) c e = absurd cc
read-fault read.Spoiled c e = absurd cc
read-fault read.End c e = absurd cc
read-fault read.Failed c e = inl (fault-same cause.ReadFault c e)
read-fault read.Limit c e = inr (fault-same cause.DeckLimit c e)

damage-fault : (page : Result PageContent BadPage) (c : Cause) → damage page ≡ Some (outcome.Fault c) → IsDamaged c
damage-fault (Ok content) c e = absurd cc
damage-fault (Err bad) c e = subst IsDamaged (sym (fault-same (cause.Damaged bad.expected bad.found bad.at) c e)) tt

page-fault : (c : Cause) → (c ≡ cause.DiskFault) ⊎ IsDamaged c → (c ≡ cause.DiskFault) ⊎ (IsDamaged c ⊎ (c ≡ cause.NoMemory))
page-fault c (inl is) = inl is
page-fault c (inr is) = inr (inl is)

load-fault : (c : Cause) → (c ≡ cause.DiskFault) ⊎ (c ≡ cause.NoMemory) → (c ≡ cause.DiskFault) ⊎ (IsDamaged c ⊎ (c ≡ cause.NoMemory))
load-fault c (inl is) = inl is
load-fault c (inr is) = inr (inr is)

idle : (t : Bool) → t ≡ false → t ≡ true → ⊥
idle t off on = (let both = sym off ∙ on in cc)

module _ {L : Type 0} (J : Jobs L) where
  given-later : (h : List (Entry L)) (how : Outcome) (entry : Entry L) → GivenBy h how → GivenBy (entry ∷ h) how
  given-later h how entry g =
      record { later = entry ∷ g.later; entry = g.entry; before = g.before; is = ap (λ h. entry ∷ h) g.is; none = g.none; gives = g.gives }

  given-now : (h : List (Entry L)) (how : Outcome) (entry : Entry L) → caused h ≡ None → cause_by entry h ≡ Some how → GivenBy (entry ∷ h) how
  given-now h how entry none gives = record { later = []; entry = entry; before = h; is = refl; none = none; gives = gives }

  pub each_cause_is_given : (h : List (Entry L)) (how : Outcome) → caused h ≡ Some how → GivenBy h how
  each_cause_is_given [] how e = absurd cc
  each_cause_is_given (Does a r ∷ h) how e =
      elim (new-or-old (caused h) (given_cause a r h) how e) as (λ _. GivenBy (Does a r ∷ h) how) [
        | inl old ↦ given-later h how (Does a r) (each_cause_is_given h how old)
        | inr new ↦ given-now h how (Does a r) new.0 new.1
      ]
  each_cause_is_given (LacksMemory a r ∷ h) how e =
      elim (new-or-old (caused h) (Some (outcome.Fault cause.NoMemory)) how e) as (λ _. GivenBy (LacksMemory a r ∷ h) how) [
        | inl old ↦ given-later h how (LacksMemory a r) (each_cause_is_given h how old)
        | inr new ↦ given-now h how (LacksMemory a r) new.0 new.1
      ]
  each_cause_is_given (Delays a ∷ h) how e = given-later h how (Delays a) (each_cause_is_given h how e)

  fault-by : (a : Action) (r : Reply L) (h : List (Entry L)) (c : Cause) → Fits J a r → given_cause a r h ≡ Some (outcome.Fault c) → FaultOf a c
  fault-by act.ReadCard (reply.Card answer) h c fits e = read-fault answer c e
  fault-by act.ReadCard other h c fits e = absurd fits
  fault-by (act.PutPage page) reply.Done h c fits e = absurd cc
  fault-by (act.PutPage page) reply.Failed h c fits e = fault-same cause.DiskFault c e
  fault-by (act.PutPage page) other h c fits e = absurd fits
  fault-by act.TakePage reply.Failed h c fits e = inl (fault-same cause.DiskFault c e)
  fault-by act.TakePage (reply.Page page last) h c fits e = inr (damage-fault (page_read (place h) last page) c e)
  fault-by act.TakePage other h c fits e = absurd fits
  fault-by (act.Print line) reply.Done h c fits e = absurd cc
  fault-by (act.Print line) reply.Failed h c fits e = inl (fault-same cause.PrintFault c e)
  fault-by (act.Print line) reply.NoMemory h c fits e = inr (fault-same cause.NoMemory c e)
  fault-by (act.Print line) other h c fits e = absurd fits
  fault-by (act.Load file) (reply.Loaded load) h c fits e = absurd cc
  fault-by (act.Load file) reply.Failed h c fits e = inl (fault-same cause.DiskFault c e)
  fault-by (act.Load file) reply.NoMemory h c fits e = inr (fault-same cause.NoMemory c e)
  fault-by (act.Load file) other h c fits e = absurd fits
  fault-by (act.PutFeed f) reply.Done h c fits e = absurd cc
  fault-by (act.PutFeed f) reply.Stopped h c fits e = absurd cc
  fault-by (act.PutFeed f) other h c fits e = absurd fits
  fault-by act.TakeFeed (reply.Feed f) h c fits e = absurd cc
  fault-by act.TakeFeed reply.Stopped h c fits e = absurd cc
  fault-by act.TakeFeed other h c fits e = absurd fits
  fault-by act.AwaitRoom reply.Done h c fits e = absurd cc
  fault-by act.AwaitRoom reply.Stopped h c fits e = absurd cc
  fault-by act.AwaitRoom other h c fits e = absurd fits
  fault-by act.AwaitItem reply.Done h c fits e = absurd cc
  fault-by act.AwaitItem reply.Stopped h c fits e = absurd cc
  fault-by act.AwaitItem other h c fits e = absurd fits
  fault-by act.Request reply.Done h c fits e = absurd cc
  fault-by act.Request other h c fits e = absurd fits
  fault-by act.Release reply.Done h c fits e = absurd cc
  fault-by act.Release other h c fits e = absurd fits
  fault-by act.Local reply.Done h c fits e = absurd cc
  fault-by act.Local other h c fits e = absurd fits
  fault-by (act.Stop b) reply.Done h c fits e = absurd cc
  fault-by (act.Stop b) other h c fits e = absurd fits
  fault-by (act.Ended how) reply.Done h c fits e = absurd cc
  fault-by (act.Ended how) other h c fits e = absurd fits

  -- ---- the actions that a process makes
  -- it takes in its own way, and puts what is of its kind
  abbrev IsPutOf : (Parcel L → Type 0) → Action → Type 0
  IsPutOf Kind a = (parcel : Parcel L) × (Kind parcel × (puts parcel ≡ a))

  -- and it loads what it wants
  abbrev WantsSome : Process L → Type 0
  WantsSome p = (all : List (Parcel L)) × (file : List ℕ) × (later : List (List ℕ)) × (p.wants all ≡ file ∷ later)

  record Makes (p : Process L) (Kind : Parcel L → Type 0) (a : Action) : Type 0 where
    take : IsTake a → p.takes ≡ a
    put : IsPut a → IsPutOf Kind a
    load : (file : List ℕ) → a ≡ act.Load file → WantsSome p

  first-kind : (Kind : Parcel L → Type 0) (all : List (Parcel L)) (n : ℕ) (first : Parcel L) (more : List (Parcel L)) → AllByRecursion Kind all
      → drop n all ≡ first ∷ more
      → Kind first
  first-kind Kind [] zero first more kinds e = absurd cc
  first-kind Kind [] (suc n) first more kinds e = absurd cc
  first-kind Kind (x ∷ all) zero first more kinds e = (let same : x ≡ first = cc in subst Kind same kinds.0)
  first-kind Kind (x ∷ all) (suc n) first more kinds e = first-kind Kind all n first more kinds.1 e

  makes : (p : Process L) (Kind : Parcel L → Type 0) (h : List (Entry L)) (a : Action) → IsRelay p
      → ((all : List (Parcel L)) → AllByRecursion Kind (p.sends all))
      → Follows J p h → next_action p h ≡ Some a → Makes p Kind a
  makes p Kind h a relay kinds follows next = record {
    take = λ take. (next-take J p h a next take).same;
    put = λ put.
        let is = next-putting J p h a relay follows next put in
        (is.first, (first-kind Kind (p.sends (taken h)) (length (sent h)) is.first is.more (kinds (taken h)) is.left, is.puts_it));
    load = λ file is.
        let wants = next-load J p h file relay follows (next ∙ ap Some is) in
        (taken h, file, wants.later, wants.first);
  }

  -- ---- the fault of one process
  abbrev FaultBy : Process L → (Parcel L → Type 0) → Cause → Type 0
  FaultBy p Kind c = ((a : Action) × (Makes p Kind a × FaultOf a c)) ⊎ ((p.works ≡ true) × (c ≡ cause.NoMemory))

  fault-here : (p : Process L) (Kind : Parcel L → Type 0) (h : List (Entry L)) (c : Cause) → IsRelay p
      → ((all : List (Parcel L)) → AllByRecursion Kind (p.sends all))
      → Follows J p h → caused h ≡ Some (outcome.Fault c) → FaultBy p Kind c
  fault-here p Kind [] c relay kinds follows e = absurd cc
  fault-here p Kind (Does a r ∷ h) c relay kinds follows e =
      elim (new-or-old (caused h) (given_cause a r h) (outcome.Fault c) e) as (λ _. FaultBy p Kind c) [
        | inl old ↦ fault-here p Kind h c relay kinds follows.2 old
        | inr new ↦ inl (a, (makes p Kind h a relay kinds follows.2 follows.0, fault-by a r h c follows.1 new.1))
      ]
  fault-here p Kind (LacksMemory a r ∷ h) c relay kinds follows e =
      elim (new-or-old (caused h) (Some (outcome.Fault cause.NoMemory)) (outcome.Fault c) e) as (λ _. FaultBy p Kind c) [
        | inl old ↦ fault-here p Kind h c relay kinds follows.2 old
        | inr new ↦ inr (follows.1.0, fault-same cause.NoMemory c new.1)
      ]
  fault-here p Kind (Delays a ∷ h) c relay kinds follows e = fault-here p Kind h c relay kinds follows.2 e

  -- ---- kinds
  feeds-kind : (all : List Feed) → AllByRecursion IsAFeed (as_parcels {L = L} all)
  feeds-kind [] = tt
  feeds-kind (f ∷ rest) = (tt, feeds-kind rest)

  lines-kind : (all : List (List ℕ)) → AllByRecursion IsALine (as_lines {L = L} all)
  lines-kind [] = tt
  lines-kind (line ∷ rest) = (tt, lines-kind rest)

  given-kind : (given : Option Page) (rest : List (Parcel L)) → AllByRecursion IsAPage rest → AllByRecursion IsAPage
      (marked false (option_to_list given) ++ rest)
  given-kind None rest is = is
  given-kind (Some page) rest is = (tt, is)

  pages-kind : (hand : PageInHand) (all : List Feed) → AllByRecursion IsAPage (packed {L = L} hand all)
  pages-kind hand [] = tt
  pages-kind hand (feed.Item item ∷ rest) = given-kind (page_given hand item) (packed (hand_after hand item) rest) (pages-kind (hand_after hand item) rest)
  pages-kind hand (feed.End ∷ rest) = (tt, tt)

  -- a put of another kind
  no-page_of_feeds : (page : Page) → IsPutOf IsAFeed (act.PutPage page) → ⊥
  no-page_of_feeds page (OfFeed f, (kind, e)) = cc
  no-page_of_feeds page (OfPage p last, (kind, e)) = kind
  no-page_of_feeds page (OfLine line, (kind, e)) = kind
  no-page_of_feeds page (OfLoad load, (kind, e)) = kind

  no-print_of_feeds : (line : List ℕ) → IsPutOf IsAFeed (act.Print line) → ⊥
  no-print_of_feeds line (OfFeed f, (kind, e)) = cc
  no-print_of_feeds line (OfPage p last, (kind, e)) = kind
  no-print_of_feeds line (OfLine other, (kind, e)) = kind
  no-print_of_feeds line (OfLoad load, (kind, e)) = kind

  no-print_of_pages : (line : List ℕ) → IsPutOf IsAPage (act.Print line) → ⊥
  no-print_of_pages line (OfFeed f, (kind, e)) = kind
  no-print_of_pages line (OfPage p last, (kind, e)) = cc
  no-print_of_pages line (OfLine other, (kind, e)) = kind
  no-print_of_pages line (OfLoad load, (kind, e)) = kind

  no-page_of_lines : (page : Page) → IsPutOf IsALine (act.PutPage page) → ⊥
  no-page_of_lines page (OfFeed f, (kind, e)) = kind
  no-page_of_lines page (OfPage p last, (kind, e)) = kind
  no-page_of_lines page (OfLine line, (kind, e)) = cc
  no-page_of_lines page (OfLoad load, (kind, e)) = kind

  -- one that wants no file loads none
  abbrev WantsNone : Process L → Type 0
  WantsNone p = (all : List (Parcel L)) → p.wants all ≡ []

  loads-none : (p : Process L) → WantsNone p → WantsSome p → ⊥
  loads-none p none (all, file, later, e) = (let both = sym (none all) ∙ e in cc)

  -- ---- the five
  card-by : (a : Action) (c : Cause) → Makes card IsAFeed a → FaultOf a c → (c ≡ cause.ReadFault) ⊎ (c ≡ cause.DeckLimit)
  card-by act.ReadCard c m f = f
  card-by (act.PutPage page) c m f = absurd (no-page_of_feeds page (m.put tt))
  card-by act.TakePage c m f = absurd (let e = m.take tt in cc)
  card-by (act.Print line) c m f = absurd (no-print_of_feeds line (m.put tt))
  card-by (act.Load file) c m f = absurd (loads-none card (λ all. refl) (m.load file refl))
  card-by other c m f = absurd f

  input-by : (a : Action) (c : Cause) → Makes input IsAPage a → FaultOf a c → c ≡ cause.DiskFault
  input-by act.ReadCard c m f = absurd (let e = m.take tt in cc)
  input-by (act.PutPage page) c m f = f
  input-by act.TakePage c m f = absurd (let e = m.take tt in cc)
  input-by (act.Print line) c m f = absurd (no-print_of_pages line (m.put tt))
  input-by (act.Load file) c m f = absurd (loads-none input (λ all. refl) (m.load file refl))
  input-by other c m f = absurd f

  job-by : (a : Action) (c : Cause) → Makes (job J) IsAPage a → FaultOf a c → (c ≡ cause.DiskFault) ⊎ (IsDamaged c ⊎ (c ≡ cause.NoMemory))
  job-by act.ReadCard c m f = absurd (let e = m.take tt in cc)
  job-by (act.PutPage page) c m f = inl f
  job-by act.TakePage c m f = page-fault c f
  job-by (act.Print line) c m f = absurd (no-print_of_pages line (m.put tt))
  job-by (act.Load file) c m f = load-fault c f
  job-by other c m f = absurd f

  output-by : (a : Action) (c : Cause) → Makes output IsAFeed a → FaultOf a c → (c ≡ cause.DiskFault) ⊎ IsDamaged c
  output-by act.ReadCard c m f = absurd (let e = m.take tt in cc)
  output-by (act.PutPage page) c m f = absurd (no-page_of_feeds page (m.put tt))
  output-by act.TakePage c m f = f
  output-by (act.Print line) c m f = absurd (no-print_of_feeds line (m.put tt))
  output-by (act.Load file) c m f = absurd (loads-none output (λ all. refl) (m.load file refl))
  output-by other c m f = absurd f

  printer-by : (a : Action) (c : Cause) → Makes printer IsALine a → FaultOf a c → (c ≡ cause.PrintFault) ⊎ (c ≡ cause.NoMemory)
  printer-by act.ReadCard c m f = absurd (let e = m.take tt in cc)
  printer-by (act.PutPage page) c m f = absurd (no-page_of_lines page (m.put tt))
  printer-by act.TakePage c m f = absurd (let e = m.take tt in cc)
  printer-by (act.Print line) c m f = f
  printer-by (act.Load file) c m f = absurd (loads-none printer (λ all. refl) (m.load file refl))
  printer-by other c m f = absurd f

  pub faults_of_the_five : AreJobs J → FaultsOfTheFive J
  faults_of_the_five jobs = record {
    card =
        λ h c follows e. elim (fault-here card IsAFeed h c (card-relay L) (λ all. feeds-kind (until_end (feeds all))) follows e) as (λ _. (c ≡ cause.ReadFault)
        ⊎ (c ≡ cause.DeckLimit)) [
          | inl made ↦ card-by made.0 c made.1.0 made.1.1
          | inr lacks ↦ absurd (idle (card {L = L}).works refl lacks.0)
        ];
    input = λ h c follows e. elim (fault-here input IsAPage h c (input-relay L) (λ all. pages-kind first_page (feeds all)) follows e) as
        (λ _. c ≡ cause.DiskFault) [
          | inl made ↦ input-by made.0 c made.1.0 made.1.1
          | inr lacks ↦ absurd (idle (input {L = L}).works refl lacks.0)
        ];
    job =
        λ h c follows e. elim (fault-here (job J) IsAPage h c (job-relay jobs)
        (λ all. pages-kind first_page (job_lines J (unpacked 0 all) (loads all))) follows e) as (λ _. (c
        ≡ cause.DiskFault) ⊎ (IsDamaged c ⊎ (c ≡ cause.NoMemory))) [
          | inl made ↦ job-by made.0 c made.1.0 made.1.1
          | inr lacks ↦ inr (inr lacks.1)
        ];
    output =
        λ h c follows e. elim (fault-here output IsAFeed h c (output-relay L) (λ all. feeds-kind (output_lines (unpacked 0 all))) follows e) as (λ _. (c
        ≡ cause.DiskFault) ⊎ IsDamaged c) [
          | inl made ↦ output-by made.0 c made.1.0 made.1.1
          | inr lacks ↦ absurd (idle (output {L = L}).works refl lacks.0)
        ];
    printer =
        λ h c follows e. elim (fault-here printer IsALine h c (printer-relay L) (λ all. lines-kind (lines_of (items (feeds all)))) follows e) as (λ _. (c
        ≡ cause.PrintFault) ⊎ (c ≡ cause.NoMemory)) [
          | inl made ↦ printer-by made.0 c made.1.0 made.1.1
          | inr lacks ↦ absurd (idle (printer {L = L}).works refl lacks.0)
        ];
  }
