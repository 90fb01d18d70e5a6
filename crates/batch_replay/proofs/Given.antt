-- The entry that gave a process its cause was a call: of a buffer that was stopped, or of a device that failed.
use Rattle.std.proofs.Common.{◌≡◌, ℕ, Bool, true, false, ◌||◌, List, [], ◌∷◌, ◌++◌, Option, None, Some, Result, Ok, Err, refl, sym, ◌∙◌, ap, subst}
use Rattle.std.specs.List.{list_any}
use Rattle.solo_base.specs.declared.outcome.Side.{Side}
use Rattle.solo_base.specs.declared.outcome.Side.TheVariants.{Sender, Receiver}
use Rattle.solo_base.specs.declared.outcome.Outcome.{Outcome}
use Rattle.solo_base.specs.declared.outcome.Outcome.TheVariants as outcome
use Rattle.solo_base.specs.declared.outcome.Cause.{Cause}
use Rattle.solo_base.specs.declared.outcome.Cause.TheVariants as cause
use Rattle.solo_base.specs.declared.page.Page.{Page}
use Rattle.page_codec.specs.declared.judge.BadPage.{BadPage}
use Rattle.page_codec.specs.Reading.{PageContent, page_read}
use Rattle.solo_base.specs.declared.item.Feed.{Feed}
use Rattle.solo_devices.specs.declared.card_read.CardRead.{CardRead}
use Rattle.solo_devices.specs.declared.card_read.CardRead.TheVariants as read
use Rattle.slot_buffer.specs.declared.call.SlotCall.{SlotCall}
use Rattle.slot_buffer.specs.Calls as line
use Rattle.disk_spool.specs.declared.call.SpoolCall.{SpoolCall}
use Rattle.disk_spool.specs.Calls as pages
use Rattle.batch_procs.specs.declared.actions.Action.{Action}
use Rattle.batch_procs.specs.declared.actions.Action.TheVariants as act
use Rattle.batch_procs.specs.declared.actions.Reply.{Reply}
use Rattle.batch_procs.specs.declared.actions.Reply.TheVariants as reply
use Rattle.batch_procs.specs.Fits.{Fits}
use Rattle.batch_procs.specs.History.{Entry, Does, LacksMemory, Delays}
use Rattle.batch_procs.specs.Causes.{caused, given_cause, or_new, fault_at, fault_read, damage, place}
use Rattle.batch_procs.specs.Laws.{IsOpen}
use Rattle.batch_procs.specs.Parts.{some-same}
use Rattle.batch_procs.specs.Table.{card, job, printer}
use Rattle.batch_procs.proofs.Relay.{open-next}
use Rattle.batch_procs.specs.Faults.{cause_by}
use Rattle.batch_procs.specs.Process.{Process, Follows, next_action}
use Rattle.batch_procs.proofs.Faulty.{each_cause_is_given}
use Rattle.batch_sides.specs.Calls.{line_call, line_calls, spool_call, spool_calls}
use Rattle.batch_sides.specs.Running.{DoesOnly}
use Rattle.batch_sides.specs.Cards.{newest_read, does_card}
use Rattle.batch_sides.specs.Files.{newest_load}
use Rattle.batch_sides.specs.Lines.{newest_print}
use Rattle.batch_sides.proofs.LineCalls.{any-then}
use Rattle.core_law.proofs.Told.{given-stopped}
use Rattle.batch_procs.specs.Jobs.{Jobs, AreJobs}

-- ---- an entry among those of a history
or-true : (t : Bool) → (t || true) ≡ true
or-true true = refl
or-true false = refl

-- ---- which device failed
-- a cause that a call gives which failed
abbrev pub IsOfDevice : Cause → Type 0
IsOfDevice cause.DiskFault = Unit {0}
IsOfDevice cause.PrintFault = Unit {0}
IsOfDevice other = ⊥

fault-same : (c d : Cause) → Some (outcome.Fault c) ≡ Some (outcome.Fault d) → c ≡ d
fault-same c d e = cc

is-other : (c d : Cause) → Some (outcome.Fault d) ≡ Some (outcome.Fault c) → IsOfDevice c → IsOfDevice d
is-other c d e is = subst IsOfDevice (sym (fault-same d c e)) is

read-other : (c : Cause) (answer : CardRead) → IsOfDevice c → fault_read answer ≡ Some (outcome.Fault c) → ⊥
read-other c (read.Card line) is e = cc
read-other c read.Spoiled is e = cc
read-other c read.End is e = cc
read-other c read.Failed is e = is-other c cause.ReadFault e is
read-other c read.Limit is e = is-other c cause.DeckLimit e is

page-other : (c : Cause) (page : Result PageContent BadPage) → IsOfDevice c → damage page ≡ Some (outcome.Fault c) → ⊥
page-other c (Ok content) is e = cc
page-other c (Err bad) is e = is-other c (cause.Damaged bad.expected bad.found bad.at) e is

none-some : (cause : Option Outcome) (how : Outcome) → cause ≡ None → cause ≡ Some how → ⊥
none-some cause how a b = cc

-- the deck gave this fault
abbrev pub answer_of : Cause → Option CardRead
answer_of cause.ReadFault = Some read.Failed
answer_of cause.DeckLimit = Some read.Limit
answer_of other = None

read-gave : (answer wanted : CardRead) (c : Cause) → answer_of c ≡ Some wanted → fault_read answer ≡ Some (outcome.Fault c) → answer ≡ wanted
read-gave (read.Card line) wanted c is e = absurd cc
read-gave read.Spoiled wanted c is e = absurd cc
read-gave read.End wanted c is e = absurd cc
read-gave read.Failed wanted c is e = some-same read.Failed wanted (ap answer_of (fault-same cause.ReadFault c e) ∙ is)
read-gave read.Limit wanted c is e = some-same read.Limit wanted (ap answer_of (fault-same cause.DeckLimit c e) ∙ is)

none-answers : (c : Cause) (wanted : CardRead) → answer_of c ≡ None → answer_of c ≡ Some wanted → ⊥
none-answers c wanted a b = cc

other-answer : (d c : Cause) (wanted : CardRead) → answer_of d ≡ None → Some (outcome.Fault d) ≡ Some (outcome.Fault c) → answer_of c ≡ Some wanted → ⊥
other-answer d c wanted none e is = none-answers c wanted (ap answer_of (sym (fault-same d c e)) ∙ none) is

-- the printer process
some-cause : (old : Option Outcome) (how : Outcome) → (first : Outcome) × (or_new old (Some how) ≡ Some first)
some-cause None how = (how, refl)
some-cause (Some old) how = (old, refl)

module _ {L : Type 0} {J : Jobs L} (jobs : AreJobs J) where
  abbrev calls_by : Side → ℕ → Entry L → List (SlotCall Feed)
  calls_by side b (Does a r) = line_call side b a r
  calls_by side b (LacksMemory a r) = line_call side b a r
  calls_by side b (Delays a) = []

  abbrev moves_by : Side → ℕ → Entry L → List (SpoolCall (List ℕ))
  moves_by side b (Does a r) = spool_call side b a r
  moves_by side b (LacksMemory a r) = spool_call side b a r
  moves_by side b (Delays a) = []

  module _ (side : Side) (b : ℕ) where
    line-here : (test : SlotCall Feed → Bool) (entry : Entry L) (before : List (Entry L)) → list_any test (calls_by side b entry) ≡ true
        → list_any test (line_calls side b (entry ∷ before)) ≡ true
    line-here test (Does a r) before e =
        any-then test (line_calls side b before) (line_call side b a r) ∙ ap (λ t. t || list_any test (line_calls side b before)) e
    line-here test (LacksMemory a r) before e =
        any-then test (line_calls side b before) (line_call side b a r) ∙ ap (λ t. t || list_any test (line_calls side b before)) e
    line-here test (Delays a) before e = absurd cc

    pub line-among : (test : SlotCall Feed → Bool) (later : List (Entry L)) (entry : Entry L) (before : List (Entry L))
        → list_any test (calls_by side b entry) ≡ true
        → list_any test (line_calls side b (later ++ entry ∷ before)) ≡ true
    line-among test [] entry before e = line-here test entry before e
    line-among test (Does a r ∷ later) entry before e =
        any-then test (line_calls side b (later ++ entry ∷ before)) (line_call side b a r)
        ∙ ap (λ t. list_any test (line_call side b a r) || t) (line-among test later entry before e) ∙ or-true (list_any test (line_call side b a r))
    line-among test (LacksMemory a r ∷ later) entry before e =
        any-then test (line_calls side b (later ++ entry ∷ before)) (line_call side b a r)
        ∙ ap (λ t. list_any test (line_call side b a r) || t) (line-among test later entry before e) ∙ or-true (list_any test (line_call side b a r))
    line-among test (Delays a ∷ later) entry before e = line-among test later entry before e

    spool-here : (test : SpoolCall (List ℕ) → Bool) (entry : Entry L) (before : List (Entry L)) → list_any test (moves_by side b entry) ≡ true
        → list_any test (spool_calls side b (entry ∷ before)) ≡ true
    spool-here test (Does a r) before e =
        any-then test (spool_calls side b before) (spool_call side b a r) ∙ ap (λ t. t || list_any test (spool_calls side b before)) e
    spool-here test (LacksMemory a r) before e =
        any-then test (spool_calls side b before) (spool_call side b a r) ∙ ap (λ t. t || list_any test (spool_calls side b before)) e
    spool-here test (Delays a) before e = absurd cc

    pub spool-among : (test : SpoolCall (List ℕ) → Bool) (later : List (Entry L)) (entry : Entry L) (before : List (Entry L))
        → list_any test (moves_by side b entry) ≡ true
        → list_any test (spool_calls side b (later ++ entry ∷ before)) ≡ true
    spool-among test [] entry before e = spool-here test entry before e
    spool-among test (Does a r ∷ later) entry before e =
        any-then test (spool_calls side b (later ++ entry ∷ before)) (spool_call side b a r)
        ∙ ap (λ t. list_any test (spool_call side b a r) || t) (spool-among test later entry before e) ∙ or-true (list_any test (spool_call side b a r))
    spool-among test (LacksMemory a r ∷ later) entry before e =
        any-then test (spool_calls side b (later ++ entry ∷ before)) (spool_call side b a r)
        ∙ ap (λ t. list_any test (spool_call side b a r) || t) (spool-among test later entry before e) ∙ or-true (list_any test (spool_call side b a r))
    spool-among test (Delays a ∷ later) entry before e = spool-among test later entry before e

  pub follows-behind : (p : Process L) (later rest : List (Entry L)) → Follows J p (later ++ rest) → Follows J p rest
  follows-behind p [] rest follows = follows
  follows-behind p (entry ∷ later) rest follows = follows-behind p later rest follows.2

  -- ---- who was told that a buffer was stopped
  pub record WasTold (does : Action → Type 0) (h : List (Entry L)) : Type 0 where
    pub action : Action
    pub later : List (Entry L)
    pub before : List (Entry L)
    pub is : h ≡ later ++ Does action reply.Stopped ∷ before
    pub does_it : does action
    pub fits : Fits J action reply.Stopped

  module _ (p : Process L) {does : Action → Type 0} (only : DoesOnly J p does) (h later before : List (Entry L)) (follows : Follows J p h) where
    told-by : (entry : Entry L) → h ≡ later ++ entry ∷ before → cause_by entry before ≡ Some outcome.Stopped → WasTold does h
    told-by (Does a r) is gives =
        let stopped = given-stopped jobs a r before gives in
        let here = subst (λ r. Follows J p (Does a r ∷ before)) stopped (follows-behind p later (Does a r ∷ before)
        (subst (Follows J p) is follows)) in
        record {
          action = a;
          later = later;
          before = before;
          is = is ∙ ap (λ r. later ++ Does a r ∷ before) stopped;
          does_it = only before a here.2 here.0;
          fits = here.1;
        }
    told-by (LacksMemory a r) is gives = absurd cc
    told-by (Delays a) is gives = absurd cc

  pub was-told : (p : Process L) {does : Action → Type 0} → DoesOnly J p does → (h : List (Entry L)) → Follows J p h
      → caused h ≡ Some outcome.Stopped → WasTold does h
  was-told p only h follows e = (let g = each_cause_is_given J h outcome.Stopped e in told-by p only h g.later g.before follows g.entry g.is g.gives)

  pub put-refused : (b : ℕ) (h later before : List (Entry L)) (f : Feed) → h ≡ later ++ Does (act.PutFeed f) reply.Stopped ∷ before
      → line.was_refused (line_calls Sender b h) ≡ true
  put-refused b h later before f is =
      ap (λ h. line.was_refused (line_calls Sender b h)) is ∙ line-among Sender b line.is_refusal later (Does (act.PutFeed f) reply.Stopped) before refl

  pub take-refused : (b : ℕ) (h later before : List (Entry L)) → h ≡ later ++ Does act.TakeFeed reply.Stopped ∷ before
      → line.was_refused (line_calls Receiver b h) ≡ true
  take-refused b h later before is =
      ap (λ h. line.was_refused (line_calls Receiver b h)) is ∙ line-among Receiver b line.is_refusal later (Does act.TakeFeed reply.Stopped) before refl

  pub room-refused : (b : ℕ) (h later before : List (Entry L)) → h ≡ later ++ Does act.AwaitRoom reply.Stopped ∷ before
      → pages.was_refused (spool_calls Sender b h) ≡ true
  room-refused b h later before is =
      ap (λ h. pages.was_refused (spool_calls Sender b h)) is ∙ spool-among Sender b pages.is_refusal later (Does act.AwaitRoom reply.Stopped) before refl

  pub item-refused : (b : ℕ) (h later before : List (Entry L)) → h ≡ later ++ Does act.AwaitItem reply.Stopped ∷ before
      → pages.was_refused (spool_calls Receiver b h) ≡ true
  item-refused b h later before is =
      ap (λ h. pages.was_refused (spool_calls Receiver b h)) is ∙ spool-among Receiver b pages.is_refusal later (Does act.AwaitItem reply.Stopped) before refl

  given-failed : (c : Cause) (a : Action) (r : Reply L) (h : List (Entry L)) → IsOfDevice c → given_cause a r h ≡ Some (outcome.Fault c)
      → r ≡ reply.Failed
  given-failed c a reply.Done h is e = absurd cc
  given-failed c a reply.Stopped h is e = absurd cc
  given-failed c a reply.Failed h is e = refl
  given-failed c a reply.NoMemory h is e = absurd (is-other c cause.NoMemory e is)
  given-failed c a (reply.Card answer) h is e = absurd (read-other c answer is e)
  given-failed c a (reply.Feed f) h is e = absurd cc
  given-failed c a (reply.Page page last) h is e = absurd (page-other c (page_read (place h) last page) is e)
  given-failed c a (reply.Loaded load) h is e = absurd cc

  pub record HasFailed (does : Action → Type 0) (c : Cause) (h : List (Entry L)) : Type 0 where
    pub action : Action
    pub later : List (Entry L)
    pub before : List (Entry L)
    pub is : h ≡ later ++ Does action reply.Failed ∷ before
    pub does_it : does action
    pub fits : Fits J action reply.Failed
    pub fault : fault_at action ≡ c

  module _ (p : Process L) {does : Action → Type 0} (only : DoesOnly J p does) (c : Cause) (of_device : IsOfDevice c) (h later before : List (Entry L))
      (follows : Follows J p h) where
    failed-by : (entry : Entry L) → h ≡ later ++ entry ∷ before → cause_by entry before ≡ Some (outcome.Fault c) → HasFailed does c h
    failed-by (Does a r) is gives =
        let failed = given-failed c a r before of_device gives in
        let here = subst (λ r. Follows J p (Does a r ∷ before)) failed (follows-behind p later (Does a r ∷ before)
        (subst (Follows J p) is follows)) in
        record {
          action = a;
          later = later;
          before = before;
          is = is ∙ ap (λ r. later ++ Does a r ∷ before) failed;
          does_it = only before a here.2 here.0;
          fits = here.1;
          fault = fault-same (fault_at a) c (ap (λ r. given_cause a r before) (sym failed) ∙ gives);
        }
    failed-by (LacksMemory a r) is gives = absurd (is-other c cause.NoMemory gives of_device)
    failed-by (Delays a) is gives = absurd cc

  pub has-failed : (p : Process L) {does : Action → Type 0} → DoesOnly J p does → (c : Cause) → IsOfDevice c → (h : List (Entry L))
      → Follows J p h
      → caused h ≡ Some (outcome.Fault c) → HasFailed does c h
  has-failed p only c of_device h follows e =
      (let g = each_cause_is_given J h (outcome.Fault c) e in failed-by p only c of_device h g.later g.before follows g.entry g.is g.gives)

  pub put-failed : (b : ℕ) (h later before : List (Entry L)) (page : Page) → h ≡ later ++ Does (act.PutPage page) reply.Failed ∷ before
      → pages.has_failure (spool_calls Sender b h) ≡ true
  put-failed b h later before page is =
      ap (λ h. pages.has_failure (spool_calls Sender b h)) is ∙ spool-among Sender b pages.is_failure later (Does (act.PutPage page) reply.Failed) before refl

  pub take-failed : (b : ℕ) (h later before : List (Entry L)) → h ≡ later ++ Does act.TakePage reply.Failed ∷ before
      → pages.has_failure (spool_calls Receiver b h) ≡ true
  take-failed b h later before is =
      ap (λ h. pages.has_failure (spool_calls Receiver b h)) is ∙ spool-among Receiver b pages.is_failure later (Does act.TakePage reply.Failed) before refl

  -- ---- the newest answer of the deck, of the paper and of the files: with a cause none is asked
  cause-stays : (later rest : List (Entry L)) (how : Outcome) → caused rest ≡ Some how → caused (later ++ rest) ≡ Some how
  cause-stays [] rest how e = e
  cause-stays (Does a r ∷ later) rest how e = rw (cause-stays later rest how e) refl
  cause-stays (LacksMemory a r ∷ later) rest how e = rw (cause-stays later rest how e) refl
  cause-stays (Delays a ∷ later) rest how e = cause-stays later rest how e

  module _ (p : Process L) (rest : List (Entry L)) (how : Outcome) (e : caused rest ≡ Some how) where
    not-asked : (later : List (Entry L)) (a : Action) → next_action p (later ++ rest) ≡ Some a → IsOpen a → ⊥
    not-asked later a next is = none-some (caused (later ++ rest)) how (open-next J p (later ++ rest) a next is) (cause-stays later rest how e)

    pub read-before : (later : List (Entry L)) → Follows J p (later ++ rest) → newest_read (later ++ rest) ≡ newest_read rest
    read-before [] follows = refl
    read-before (Does act.ReadCard r ∷ later) follows = absurd (not-asked later act.ReadCard follows.0 tt)
    read-before (Does a r ∷ later) follows = read-before later follows.2
    read-before (LacksMemory a r ∷ later) follows = read-before later follows.2
    read-before (Delays a ∷ later) follows = read-before later follows.2

    pub print-before : (later : List (Entry L)) → Follows J p (later ++ rest) → newest_print (later ++ rest) ≡ newest_print rest
    print-before [] follows = refl
    print-before (Does (act.Print line) r ∷ later) follows = absurd (not-asked later (act.Print line) follows.0 tt)
    print-before (Does a r ∷ later) follows = print-before later follows.2
    print-before (LacksMemory a r ∷ later) follows = print-before later follows.2
    print-before (Delays a ∷ later) follows = print-before later follows.2

    pub load-before : (later : List (Entry L)) → Follows J p (later ++ rest) → newest_load (later ++ rest) ≡ newest_load rest
    load-before [] follows = refl
    load-before (Does (act.Load file) r ∷ later) follows = absurd (not-asked later (act.Load file) follows.0 tt)
    load-before (Does a r ∷ later) follows = load-before later follows.2
    load-before (LacksMemory a r ∷ later) follows = load-before later follows.2
    load-before (Delays a ∷ later) follows = load-before later follows.2

  -- the card process
  card-read : (before : List (Entry L)) (a : Action) (r : Reply L) (wanted : CardRead) (c : Cause) → does_card a → Fits J a r
      → answer_of c ≡ Some wanted
      → given_cause a r before ≡ Some (outcome.Fault c) → newest_read (Does a r ∷ before) ≡ Some wanted
  card-read before act.ReadCard (reply.Card answer) wanted c does fits is e = ap Some (read-gave answer wanted c is e)
  card-read before (act.PutFeed f) reply.Done wanted c does fits is e = absurd cc
  card-read before (act.PutFeed f) reply.Stopped wanted c does fits is e = absurd cc
  card-read before (act.Stop b) reply.Done wanted c does fits is e = absurd cc
  card-read before (act.Ended how) reply.Done wanted c does fits is e = absurd cc
  card-read before act.ReadCard r wanted c does fits is e = absurd fits
  card-read before (act.PutFeed f) r wanted c does fits is e = absurd fits
  card-read before (act.Stop b) r wanted c does fits is e = absurd fits
  card-read before (act.Ended how) r wanted c does fits is e = absurd fits
  card-read before a r wanted c does fits is e = absurd does

  module _ (only : DoesOnly J card does_card) (h later before : List (Entry L)) (wanted : CardRead) (c : Cause) (is_answer : answer_of c ≡ Some wanted)
      (follows : Follows J card h) (none : caused before ≡ None) where
    deck-gave : (entry : Entry L) → h ≡ later ++ entry ∷ before → cause_by entry before ≡ Some (outcome.Fault c) → newest_read h ≡ Some wanted
    deck-gave (Does a r) is gives =
        let all = subst (Follows J card) is follows in
        let here = follows-behind card later (Does a r ∷ before) all in
        let caused_so : caused (Does a r ∷ before) ≡ Some (outcome.Fault c) = rw none gives in
        ap newest_read is ∙ read-before card (Does a r ∷ before) (outcome.Fault c) caused_so later all
        ∙ card-read before a r wanted c (only before a here.2 here.0) here.1 is_answer gives
    deck-gave (LacksMemory a r) is gives = absurd (other-answer cause.NoMemory c wanted refl gives is_answer)
    deck-gave (Delays a) is gives = absurd cc

  pub read-failed : DoesOnly J card does_card → (h : List (Entry L)) (c : Cause) (wanted : CardRead) → answer_of c ≡ Some wanted → Follows J card h
      → caused h ≡ Some (outcome.Fault c) → newest_read h ≡ Some wanted
  read-failed only h c wanted is follows e =
      (let g = each_cause_is_given J h (outcome.Fault c) e in deck-gave only h g.later g.before wanted c is follows g.none g.entry g.is g.gives)

  -- a deck that told its limit is the cause
  pub limit-cause : (h : List (Entry L)) → Follows J card h → newest_read h ≡ Some read.Limit → caused h ≡ Some (outcome.Fault cause.DeckLimit)
  limit-cause [] follows e = absurd cc
  limit-cause (Does act.ReadCard (reply.Card answer) ∷ h) follows e =
      let none = open-next J card h act.ReadCard follows.0 tt in
      let limit = some-same answer read.Limit e in
      rw (none, limit) refl
  limit-cause (Does act.ReadCard r ∷ h) follows e = absurd follows.1
  limit-cause (Does a r ∷ h) follows e = rw (limit-cause h follows.2 e) refl
  limit-cause (LacksMemory a r ∷ h) follows e = rw (limit-cause h follows.2 e) refl
  limit-cause (Delays a ∷ h) follows e = limit-cause h follows.2 e

  pub print-failed : (h later before : List (Entry L)) (line : List ℕ) → Follows J printer h
      → h ≡ later ++ Does (act.Print line) reply.Failed ∷ before
      → newest_print h ≡ Some reply.Failed
  print-failed h later before line follows is =
      let (how, e) = some-cause (caused before) (outcome.Fault cause.PrintFault) in
      ap newest_print is ∙ print-before printer (Does (act.Print line) reply.Failed ∷ before) how e later (subst (Follows J printer) is follows)

  -- the job process
  pub load-failed : (h later before : List (Entry L)) (file : List ℕ) → Follows J (job J) h
      → h ≡ later ++ Does (act.Load file) reply.Failed ∷ before
      → newest_load h ≡ Some reply.Failed
  load-failed h later before file follows is =
      let (how, e) = some-cause (caused before) (outcome.Fault cause.DiskFault) in
      ap newest_load is ∙ load-before (job J) (Does (act.Load file) reply.Failed ∷ before) how e later
      (subst (Follows J (job J)) is follows)
