-- What the calls at a buffer put is what the process of their history sent, and what they took is what was handed over to it.
use Rattle.std.proofs.Common.{◌≡◌, ℕ, ◌==◌, Bool, true, false, if◌then◌else◌, List, [], ◌∷◌, ◌++◌, map, take, drop, refl, sym, ◌∙◌, ap}
use Rattle.std.specs.List.{flat_map}
use Rattle.std.proofs.lemmas.Grind.{flat_map-append}
use Rattle.std.proofs.lemmas.List.{append-nil, map-append, take-append-drop}
use Rattle.solo_base.specs.declared.item.Feed.{Feed}
use Rattle.solo_base.specs.declared.outcome.Side.{Side}
use Rattle.solo_base.specs.declared.outcome.Side.TheVariants.{Sender, Receiver}
use Rattle.slot_buffer.specs.declared.call.SlotCall.{SlotCall}
use Rattle.slot_buffer.specs.declared.call.SlotCall.TheVariants as slot
use Rattle.slot_buffer.specs.Calls as line
use Rattle.disk_spool.specs.declared.call.SpoolCall.{SpoolCall}
use Rattle.disk_spool.specs.declared.call.SpoolCall.TheVariants as spool
use Rattle.disk_spool.specs.Calls as pages
use Rattle.disk_spool.specs.Spool.{Received, mark, received_mark, received_page}
use Rattle.solo_base.specs.Prefixes.{IsPrefixOf}
use Rattle.batch_procs.specs.declared.actions.Action.{Action}
use Rattle.batch_procs.specs.declared.actions.Action.TheVariants as act
use Rattle.batch_procs.specs.declared.actions.Reply.{Reply}
use Rattle.batch_procs.specs.declared.actions.Reply.TheVariants as reply
use Rattle.batch_procs.specs.Parcels.{Parcel, OfFeed, OfPage, handed}
use Rattle.batch_procs.specs.Fits.{Fits, MayLack}
use Rattle.batch_procs.specs.History.{Entry, Does, LacksMemory, Delays, taken, taken_by, sent, put_by}
use Rattle.batch_procs.specs.Process.{Process, Follows}
use Rattle.batch_procs.specs.Sends.{as_parcels}
use Rattle.core_law.proofs.Ends.{takes-nothing}
use Rattle.core_law.proofs.HandedLists.{handed-append}
use Rattle.batch_ends.specs.Spools.{page_parcel}
use Rattle.batch_sides.specs.Calls.{and_then, line_call, line_calls, spool_call, spool_calls}
use Rattle.batch_sides.specs.Running.{DoesOnly}
use Rattle.batch_sides.proofs.LineCalls.{lack-call}
use Rattle.batch_procs.specs.Jobs.{Jobs, AreJobs}

-- ---- lists
flat-then : {C X : Type 0} (f : C → List X) (calls more : List C) → flat_map f (and_then calls more) ≡ flat_map f calls ++ flat_map f more
flat-then f calls [] = sym (append-nil (flat_map f calls))
flat-then f calls (call ∷ more) = flat_map-append f calls (call ∷ more)

-- ---- kinds of actions
abbrev pub PutsFeeds : Action → Type 0
PutsFeeds (act.PutPage page) = ⊥
PutsFeeds (act.Print line) = ⊥
PutsFeeds other = Unit {0}

abbrev pub PutsPages : Action → Type 0
PutsPages (act.PutFeed f) = ⊥
PutsPages (act.Print line) = ⊥
PutsPages other = Unit {0}

abbrev pub TakesFeeds : Action → Type 0
TakesFeeds act.ReadCard = ⊥
TakesFeeds act.TakePage = ⊥
TakesFeeds other = Unit {0}

abbrev pub TakesPages : Action → Type 0
TakesPages act.ReadCard = ⊥
TakesPages act.TakeFeed = ⊥
TakesPages other = Unit {0}

-- ---- the pages with their marks
heads : {X : Type 0} (x y : X) (xs ys : List X) → (x ∷ xs) ≡ (y ∷ ys) → (x ≡ y) × (xs ≡ ys)
heads x y xs ys e = (cc, cc)

module _ {L : Type 0} {J : Jobs L} (jobs : AreJobs J) where
  as_parcels-append : (some more : List Feed) → as_parcels {L = L} (some ++ more) ≡ as_parcels some ++ as_parcels more
  as_parcels-append [] more = refl
  as_parcels-append (f ∷ some) more = ap (λ rest. OfFeed f ∷ rest) (as_parcels-append some more)

  -- ---- a line buffer
  line-stop-puts : (side : Side) (t : Bool) → as_parcels {L = L} (line.sent_of {T = Feed} (if t then slot.Stop side ∷ [] else [])) ≡ []
  line-stop-puts side true = refl
  line-stop-puts side false = refl

  line-stop-takes : (side : Side) (t : Bool) → as_parcels {L = L} (line.taken_of {T = Feed} (if t then slot.Stop side ∷ [] else [])) ≡ []
  line-stop-takes side true = refl
  line-stop-takes side false = refl

  line-puts : (b : ℕ) (a : Action) (r : Reply L) → PutsFeeds a → as_parcels (line.sent_of (line_call Sender b a r)) ≡ put_by a r
  line-puts b (act.PutFeed f) reply.Done is = refl
  line-puts b (act.PutFeed f) reply.Stopped is = refl
  line-puts b (act.PutFeed f) r is = refl
  line-puts b (act.PutPage page) r is = absurd is
  line-puts b (act.Print line) r is = absurd is
  line-puts b (act.Stop c) r is = line-stop-puts Sender (b == c)
  line-puts b a r is = refl

  line-takes : (b : ℕ) (a : Action) (r : Reply L) → TakesFeeds a → Fits J a r → as_parcels (line.taken_of (line_call Receiver b a r)) ≡ handed
      (taken_by r)
  line-takes b act.TakeFeed (reply.Feed f) is fits = refl
  line-takes b act.TakeFeed reply.Stopped is fits = refl
  line-takes b act.TakeFeed r is fits = absurd fits
  line-takes b act.ReadCard r is fits = absurd is
  line-takes b act.TakePage r is fits = absurd is
  line-takes b (act.Stop c) r is fits = line-stop-takes Receiver (b == c) ∙ sym (takes-nothing jobs (act.Stop c) r fits (λ is. is))
  line-takes b a r is fits = sym (takes-nothing jobs a r fits (λ is. is))

  lack-takes : (a : Action) (r : Reply L) → TakesFeeds a → MayLack a r → handed (taken_by r) ≡ []
  lack-takes act.TakePage r is may = absurd is
  lack-takes act.Local reply.Done is may = refl
  lack-takes a r is may = absurd may

  module _ (p : Process L) (b : ℕ) where
    line-put : (a : Action) (r : Reply L) (h : List (Entry L)) → PutsFeeds a → as_parcels (line.sent_of (line_calls Sender b h)) ≡ sent h
        → as_parcels (line.sent_of (and_then (line_calls Sender b h) (line_call Sender b a r))) ≡ sent h ++ put_by a r
    line-put a r h is before =
        ap as_parcels (flat-then line.item_put (line_calls Sender b h) (line_call Sender b a r))
        ∙ as_parcels-append (line.sent_of (line_calls Sender b h)) (line.sent_of (line_call Sender b a r))
        ∙ ap (λ front. front ++ as_parcels (line.sent_of (line_call Sender b a r))) before ∙ ap (λ more. sent h ++ more) (line-puts b a r is)

    pub line-sent : {does : Action → Type 0} → DoesOnly J p does → ((a : Action) → does a → PutsFeeds a) → (h : List (Entry L)) → Follows J p h
        → as_parcels (line.sent_of (line_calls Sender b h)) ≡ sent h
    line-sent only kind [] follows = refl
    line-sent only kind (Does a r ∷ h) follows =
        line-put a r h (kind a (only h a follows.2 follows.0)) (line-sent only kind h follows.2)
    line-sent only kind (LacksMemory a r ∷ h) follows =
        ap (λ more. as_parcels (line.sent_of (and_then (line_calls Sender b h) more))) (lack-call jobs Sender b a r follows.1.1)
        ∙ line-sent only kind h follows.2
    line-sent only kind (Delays a ∷ h) follows = line-sent only kind h follows.2

    line-took : (more : List (SlotCall Feed)) (by : List (Parcel L)) (h : List (Entry L)) → as_parcels (line.taken_of more) ≡ handed by
        → as_parcels (line.taken_of (line_calls Receiver b h)) ≡ handed (taken h)
        → as_parcels (line.taken_of (and_then (line_calls Receiver b h) more)) ≡ handed (taken h ++ by)
    line-took more by h is before =
        ap as_parcels (flat-then line.item_taken (line_calls Receiver b h) more)
        ∙ as_parcels-append (line.taken_of (line_calls Receiver b h)) (line.taken_of more)
        ∙ ap (λ front. front ++ as_parcels (line.taken_of more)) before ∙ ap (λ rest. handed (taken h) ++ rest) is
        ∙ sym (handed-append jobs (taken h) by)

    pub line-taken : {does : Action → Type 0} → DoesOnly J p does → ((a : Action) → does a → TakesFeeds a) → (h : List (Entry L)) → Follows J p h
        → as_parcels (line.taken_of (line_calls Receiver b h)) ≡ handed (taken h)
    line-taken only kind [] follows = refl
    line-taken only kind (Does a r ∷ h) follows =
        let is = kind a (only h a follows.2 follows.0) in
        line-took (line_call Receiver b a r) (taken_by r) h (line-takes b a r is follows.1) (line-taken only kind h follows.2)
    line-taken only kind (LacksMemory a r ∷ h) follows =
        let is = kind a (only h a follows.2 follows.0) in
        line-took (line_call Receiver b a r) (taken_by r) h
        (ap (λ more. as_parcels (line.taken_of more)) (lack-call jobs Receiver b a r follows.1.1) ∙ sym (lack-takes a r is follows.1.1))
        (line-taken only kind h follows.2)
    line-taken only kind (Delays a ∷ h) follows = line-taken only kind h follows.2

  -- what is taken out of a line buffer is a part of what is put in
  pub line-part : (took left put : List Feed) (tk st : List (Parcel L)) → took ++ left ≡ put → as_parcels took ≡ tk → as_parcels put ≡ st → IsPrefixOf tk st
  line-part took left put tk st whole taken_is sent_is =
      (as_parcels left, ap (λ front. front ++ as_parcels left) (sym taken_is) ∙ sym (as_parcels-append took left) ∙ ap as_parcels whole ∙ sent_is)

  -- ---- a spool
  abbrev pub received_parcel : Received → Parcel L
  received_parcel received = OfPage record { 0 = received.page } received.last

  spool-stop-takes : (side : Side) (t : Bool) → map received_parcel (pages.taken_of (if t then spool.Stop side ∷ [] else [])) ≡ []
  spool-stop-takes side true = refl
  spool-stop-takes side false = refl

  spool-stop-puts : (side : Side) (t : Bool) → map (page_parcel {L = L}) (pages.sent_of (if t then spool.Stop side ∷ [] else [])) ≡ []
  spool-stop-puts side true = refl
  spool-stop-puts side false = refl

  spool-puts : (b : ℕ) (a : Action) (r : Reply L) → PutsPages a → Fits J a r → map (page_parcel {L = L}) (pages.sent_of (spool_call Sender b a r)) ≡ put_by a
      r
  spool-puts b (act.PutPage page) reply.Done is fits = refl
  spool-puts b (act.PutPage page) reply.Failed is fits = refl
  spool-puts b (act.PutPage page) r is fits = absurd fits
  spool-puts b act.AwaitRoom reply.Done is fits = refl
  spool-puts b act.AwaitRoom reply.Stopped is fits = refl
  spool-puts b act.AwaitRoom r is fits = absurd fits
  spool-puts b (act.PutFeed f) r is fits = absurd is
  spool-puts b (act.Print line) r is fits = absurd is
  spool-puts b (act.Stop c) r is fits = spool-stop-puts Sender (b == c)
  spool-puts b a r is fits = refl

  spool-takes : (b : ℕ) (a : Action) (r : Reply L) → TakesPages a → Fits J a r
      → map received_parcel (pages.taken_of (spool_call Receiver b a r)) ≡ handed (taken_by r)
  spool-takes b act.TakePage (reply.Page page last) is fits = refl
  spool-takes b act.TakePage reply.Failed is fits = refl
  spool-takes b act.TakePage r is fits = absurd fits
  spool-takes b act.AwaitItem reply.Done is fits = refl
  spool-takes b act.AwaitItem reply.Stopped is fits = refl
  spool-takes b act.AwaitItem r is fits = absurd fits
  spool-takes b act.ReadCard r is fits = absurd is
  spool-takes b act.TakeFeed r is fits = absurd is
  spool-takes b (act.Stop c) r is fits = spool-stop-takes Receiver (b == c) ∙ sym (takes-nothing jobs (act.Stop c) r fits (λ is. is))
  spool-takes b a r is fits = sym (takes-nothing jobs a r fits (λ is. is))

  spool-lack-puts : (b : ℕ) (a : Action) (r : Reply L) → MayLack a r → map (page_parcel {L = L}) (pages.sent_of (spool_call Sender b a r)) ≡ []
  spool-lack-puts b act.TakePage (reply.Page page last) may = refl
  spool-lack-puts b act.Local reply.Done may = refl
  spool-lack-puts b a r may = absurd may

  spool-lack-takes : (b : ℕ) (a : Action) (r : Reply L) → MayLack a r
      → map received_parcel (pages.taken_of (spool_call Receiver b a r)) ≡ handed (taken_by r)
  spool-lack-takes b act.TakePage (reply.Page page last) may = refl
  spool-lack-takes b act.Local reply.Done may = refl
  spool-lack-takes b a r may = absurd may

  module _ (p : Process L) (b : ℕ) where
    spool-put : (more : List (SpoolCall (List ℕ))) (by : List (Parcel L)) (h : List (Entry L)) → map (page_parcel {L = L}) (pages.sent_of more) ≡ by
        → map (page_parcel {L = L}) (pages.sent_of (spool_calls Sender b h)) ≡ sent h
        → map (page_parcel {L = L}) (pages.sent_of (and_then (spool_calls Sender b h) more)) ≡ sent h ++ by
    spool-put more by h is before =
        ap (map (page_parcel {L = L})) (flat-then pages.page_put (spool_calls Sender b h) more)
        ∙ map-append page_parcel (pages.sent_of (spool_calls Sender b h)) (pages.sent_of more)
        ∙ ap (λ front. front ++ map (page_parcel {L = L}) (pages.sent_of more)) before ∙ ap (λ rest. sent h ++ rest) is

    pub spool-sent : {does : Action → Type 0} → DoesOnly J p does → ((a : Action) → does a → PutsPages a) → (h : List (Entry L)) → Follows J p h
        → map (page_parcel {L = L}) (pages.sent_of (spool_calls Sender b h)) ≡ sent h
    spool-sent only kind [] follows = refl
    spool-sent only kind (Does a r ∷ h) follows =
        spool-put (spool_call Sender b a r) (put_by a r) h (spool-puts b a r (kind a (only h a follows.2 follows.0)) follows.1)
        (spool-sent only kind h follows.2)
    spool-sent only kind (LacksMemory a r ∷ h) follows =
        spool-put (spool_call Sender b a r) [] h (spool-lack-puts b a r follows.1.1) (spool-sent only kind h follows.2) ∙ append-nil (sent h)
    spool-sent only kind (Delays a ∷ h) follows = spool-sent only kind h follows.2

    spool-took : (more : List (SpoolCall (List ℕ))) (by : List (Parcel L)) (h : List (Entry L)) → map received_parcel (pages.taken_of more) ≡ handed by
        → map received_parcel (pages.taken_of (spool_calls Receiver b h)) ≡ handed (taken h)
        → map received_parcel (pages.taken_of (and_then (spool_calls Receiver b h) more)) ≡ handed (taken h ++ by)
    spool-took more by h is before =
        ap (map received_parcel) (flat-then pages.page_taken (spool_calls Receiver b h) more)
        ∙ map-append received_parcel (pages.taken_of (spool_calls Receiver b h)) (pages.taken_of more)
        ∙ ap (λ front. front ++ map received_parcel (pages.taken_of more)) before ∙ ap (λ rest. handed (taken h) ++ rest) is
        ∙ sym (handed-append jobs (taken h) by)

    pub spool-taken : {does : Action → Type 0} → DoesOnly J p does → ((a : Action) → does a → TakesPages a) → (h : List (Entry L)) → Follows J p h
        → map received_parcel (pages.taken_of (spool_calls Receiver b h)) ≡ handed (taken h)
    spool-taken only kind [] follows = refl
    spool-taken only kind (Does a r ∷ h) follows =
        spool-took (spool_call Receiver b a r) (taken_by r) h (spool-takes b a r (kind a (only h a follows.2 follows.0)) follows.1)
        (spool-taken only kind h follows.2)
    spool-taken only kind (LacksMemory a r ∷ h) follows =
        spool-took (spool_call Receiver b a r) (taken_by r) h (spool-lack-takes b a r follows.1.1) (spool-taken only kind h follows.2)
    spool-taken only kind (Delays a ∷ h) follows = spool-taken only kind h follows.2

  own-marks : (took : List Received) → map received_mark took ≡ map mark (map received_page took)
      → map received_parcel took ≡ map (page_parcel {L = L}) (map received_page took)
  own-marks [] e = refl
  own-marks (x ∷ took) e =
      let (first, rest) = heads x.last (mark x.page) (map received_mark took) (map mark (map received_page took)) e in
      ap (λ last. OfPage record { 0 = x.page } last ∷ map received_parcel took) first
      ∙ ap (λ more. page_parcel x.page ∷ more) (own-marks took rest)

  -- what is taken out of a spool that tells its pages is a part of what is put in
  pub spool-part : (took : List Received) (n : ℕ) (put : List (List ℕ)) (tk st : List (Parcel L)) → map received_page took ≡ take n put
      → map received_mark took ≡ map mark (take n put) → map received_parcel took ≡ tk → map page_parcel put ≡ st → IsPrefixOf tk st
  spool-part took n put tk st pages_are marks taken_is sent_is =
      let own = own-marks took (marks ∙ ap (map mark) (sym pages_are)) in
      let front : tk ≡ map (page_parcel {L = L}) (take n put) = sym taken_is ∙ own ∙ ap (map (page_parcel {L = L})) pages_are in (
        map (page_parcel {L = L}) (drop n put),
        ap (λ front. front ++ map (page_parcel {L = L}) (drop n put)) front ∙ sym (map-append page_parcel (take n put) (drop n put))
            ∙ ap (map (page_parcel {L = L})) (take-append-drop n put) ∙ sent_is,
      )
