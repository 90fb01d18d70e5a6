-- What the meeting of the ends of a spool tells of the acts of its two processes.
use Rattle.std.proofs.Common.{◌≡◌, ◌≤◌, ◌-◌, ◌+◌, ℕ, suc, ◌==◌, ◌&&◌, ◌||◌, Bool, true, false, if◌then◌else◌, List, [], ◌∷◌, ◌++◌, map, length, take, drop, Option, Some, refl, sym, ◌∙◌, ap, subst, arith}
use Rattle.std.specs.List.{flat_map}
use Rattle.std.proofs.lemmas.List.{length-drop, take-append-drop}
use Rattle.solo_base.specs.declared.outcome.Side.{Side}
use Rattle.solo_base.specs.declared.outcome.Side.TheVariants.{Sender, Receiver}
use Rattle.queue_var.specs.BetweenTwo.{by_side}
use Rattle.disk_spool.specs.declared.call.SpoolCall.{SpoolCall}
use Rattle.disk_spool.specs.declared.call.SpoolCall.TheVariants as spool
use Rattle.disk_spool.specs.Calls as pages
use Rattle.disk_spool.specs.Ends as spools
use Rattle.disk_spool.specs.Spool.{Received, mark, received_mark}
use Rattle.batch_procs.specs.Jobs.{Jobs, AreJobs}
use Rattle.batch_procs.specs.declared.actions.Action.{Action}
use Rattle.batch_procs.specs.declared.actions.Action.TheVariants as act
use Rattle.batch_procs.specs.declared.actions.Reply.{Reply}
use Rattle.batch_procs.specs.declared.actions.Reply.TheVariants as reply
use Rattle.batch_procs.specs.Parcels.{Parcel, is_last}
use Rattle.batch_procs.specs.Fits.{Fits, MayLack}
use Rattle.batch_procs.specs.History.{Entry, Does, LacksMemory, Delays}
use Rattle.batch_procs.specs.Process.{Process, Follows}
use Rattle.batch_procs.specs.Table.{process}
use Rattle.network_law.specs.Acts.{Act, is_same, moved, made_stop, was_told, told_at}
use Rattle.network_law.specs.Network as law
use Rattle.core_law.specs.Core.{upstream, seat, call, went_by, core, IsBuffer}
use Rattle.queue_var.specs.Sides.{same_side}
use Rattle.core_law.proofs.Acting.{same-here}
use Rattle.core_law.proofs.Ends.{the-five}
use Rattle.core_law.proofs.Passed.{passed-sent, passed-taken}
use Rattle.replay_law.specs.Meeting.{IsAwaitedBelow, AreAwaitedBelow, acts_by, moved_at, HaveMet}
use Rattle.replay_law.proofs.Lists.{both-long, map-long, map-both, none-long}
use Rattle.batch_ends.specs.Spools.{page_parcel}
use Rattle.batch_sides.specs.Calls.{and_then, spool_call, spool_calls}
use Rattle.batch_sides.specs.Running.{DoesOnly}
use Rattle.batch_sides.proofs.SpoolCalls as spool_calls_are
use Rattle.batch_sides.proofs.LineCalls.{any-then}
use Rattle.batch_replay.proofs.Streams.{PutsPages, TakesPages, received_parcel, spool-sent, spool-taken, spool-part}
use Rattle.batch_replay.proofs.Lines.{and-false, the_core, not-first, made-there, sent-there, taken-there, lacks-told, waits-told, below-lacks, below-waits}

-- a process that moves pages there moves no feeds there
abbrev pub PassesNot : Side → Action → Type 0
PassesNot Sender (act.PutFeed f) = ⊥
PassesNot Receiver act.TakeFeed = ⊥
PassesNot side action = Unit {0}

stop-if : (side : Side) (t : Bool) → pages.was_refused {P = List ℕ} (if t then spool.Stop side ∷ [] else []) ≡ false
stop-if side true = refl
stop-if side false = refl

module _ {L : Type 0} {J : Jobs L} (jobs : AreJobs J) where
  -- ---- who was told
  abbrev ToldSo : ℕ → Side → Action → Reply L → Type 0
  ToldSo b side a r = told_at b side (call (seat b side) a) (went_by a r) ≡ pages.was_refused (spool_call side b a r)

  told-sends : (b : ℕ) (a : Action) (r : Reply L) → PassesNot Sender a → Fits J a r → ToldSo b Sender a r
  told-sends b (act.PutFeed f) r kind fits = absurd kind
  told-sends b act.TakeFeed (reply.Feed f) kind fits = refl
  told-sends b act.TakeFeed reply.Stopped kind fits = and-false (b == upstream b)
  told-sends b act.AwaitRoom reply.Done kind fits = refl
  told-sends b act.AwaitRoom reply.Stopped kind fits = same-here b Sender
  told-sends b act.AwaitItem reply.Done kind fits = refl
  told-sends b act.AwaitItem reply.Stopped kind fits = and-false (b == upstream b)
  told-sends b act.Request reply.Done kind fits = refl
  told-sends b (act.PutPage page) reply.Done kind fits = refl
  told-sends b (act.PutPage page) reply.Failed kind fits = refl
  told-sends b act.TakePage (reply.Page page last) kind fits = refl
  told-sends b act.TakePage reply.Failed kind fits = refl
  told-sends b act.Release reply.Done kind fits = refl
  told-sends b act.ReadCard (reply.Card answer) kind fits = refl
  told-sends b (act.Load file) (reply.Loaded load) kind fits = refl
  told-sends b (act.Load file) reply.Failed kind fits = refl
  told-sends b (act.Load file) reply.NoMemory kind fits = refl
  told-sends b act.Local reply.Done kind fits = refl
  told-sends b (act.Print text) reply.Done kind fits = refl
  told-sends b (act.Print text) reply.Failed kind fits = refl
  told-sends b (act.Print text) reply.NoMemory kind fits = refl
  told-sends b (act.Stop c) reply.Done kind fits = sym (stop-if Sender (b == c))
  told-sends b (act.Ended how) reply.Done kind fits = refl
  told-sends b a r kind fits = absurd fits

  told-takes : (b : ℕ) (a : Action) (r : Reply L) → PassesNot Receiver a → Fits J a r → ToldSo b Receiver a r
  told-takes b (act.PutFeed f) reply.Done kind fits = refl
  told-takes b (act.PutFeed f) reply.Stopped kind fits = and-false (b == suc b)
  told-takes b act.TakeFeed r kind fits = absurd kind
  told-takes b act.AwaitRoom reply.Done kind fits = refl
  told-takes b act.AwaitRoom reply.Stopped kind fits = and-false (b == suc b)
  told-takes b act.AwaitItem reply.Done kind fits = refl
  told-takes b act.AwaitItem reply.Stopped kind fits = same-here b Receiver
  told-takes b act.Request reply.Done kind fits = refl
  told-takes b (act.PutPage page) reply.Done kind fits = refl
  told-takes b (act.PutPage page) reply.Failed kind fits = refl
  told-takes b act.TakePage (reply.Page page last) kind fits = refl
  told-takes b act.TakePage reply.Failed kind fits = refl
  told-takes b act.Release reply.Done kind fits = refl
  told-takes b act.ReadCard (reply.Card answer) kind fits = refl
  told-takes b (act.Load file) (reply.Loaded load) kind fits = refl
  told-takes b (act.Load file) reply.Failed kind fits = refl
  told-takes b (act.Load file) reply.NoMemory kind fits = refl
  told-takes b act.Local reply.Done kind fits = refl
  told-takes b (act.Print text) reply.Done kind fits = refl
  told-takes b (act.Print text) reply.Failed kind fits = refl
  told-takes b (act.Print text) reply.NoMemory kind fits = refl
  told-takes b (act.Stop c) reply.Done kind fits = sym (stop-if Receiver (b == c))
  told-takes b (act.Ended how) reply.Done kind fits = refl
  told-takes b a r kind fits = absurd fits

  told-does : (b : ℕ) (side : Side) (a : Action) (r : Reply L) → PassesNot side a → Fits J a r → ToldSo b side a r
  told-does b Sender a r kind fits = told-sends b a r kind fits
  told-does b Receiver a r kind fits = told-takes b a r kind fits

  lacks-refused : (b : ℕ) (side : Side) (a : Action) (r : Reply L) → MayLack a r → pages.was_refused (spool_call side b a r) ≡ false
  lacks-refused b Sender act.TakePage (reply.Page page last) may = refl
  lacks-refused b Receiver act.TakePage (reply.Page page last) may = refl
  lacks-refused b Sender act.Local reply.Done may = refl
  lacks-refused b Receiver act.Local reply.Done may = refl
  lacks-refused b side a r may = absurd may

  -- ---- along a history
  module _ (p : Process L) (b : ℕ) (side : Side) {does : Action → Type 0} (only : DoesOnly J p does) (kind : (a : Action) → does a → PassesNot side a)
      (row : ℕ → Process L) where
    abbrev acts_of : List (Entry L) → List (Act (Parcel L))
    acts_of h = law.acts (core J row) (seat b side) h

    spool-told : (h : List (Entry L)) → Follows J p h → was_told b side (acts_of h) ≡ pages.was_refused (spool_calls side b h)
    spool-told [] follows = refl
    spool-told (Does a r ∷ h) follows =
        ap (λ t. t || was_told b side (acts_of h)) (told-does b side a r (kind a (only h a follows.2 follows.0)) follows.1)
        ∙ ap (λ t. pages.was_refused (spool_call side b a r) || t) (spool-told h follows.2)
        ∙ sym (any-then pages.is_refusal (spool_calls side b h) (spool_call side b a r))
    spool-told (LacksMemory a r ∷ h) follows =
        ap (λ t. t || was_told b side (acts_of h)) (lacks-told jobs (seat b side) b side a r follows.1.1 ∙ sym (lacks-refused b side a r follows.1.1))
        ∙ ap (λ t. pages.was_refused (spool_call side b a r) || t) (spool-told h follows.2)
        ∙ sym (any-then pages.is_refusal (spool_calls side b h) (spool_call side b a r))
    spool-told (Delays a ∷ h) follows = ap (λ t. t || was_told b side (acts_of h)) (waits-told jobs b side (call (seat b side) a)) ∙ spool-told h follows.2

  -- ---- what was awaited
  split-below : {X : Type 0} (moves : SpoolCall (List ℕ) → List X) (most many : ℕ) (some more : List (SpoolCall (List ℕ)))
      → pages.AreBelow moves most many (some ++ more) → pages.AreBelow moves most many some
      × pages.AreBelow moves most (many + length (flat_map moves some)) more
  split-below moves most many [] more all = (tt, subst (λ n. pages.AreBelow moves most n more) (with-none many) all) where
    with-none : (n : ℕ) → n ≡ n + 0
    with-none n = omega arith
  split-below moves most many (call ∷ some) more all =
      let parts = split-below moves most (many + length (moves call)) some more all.1 in
      let long = both-long (moves call) (flat_map moves some) in
      let same : (many + length (moves call)) + length (flat_map moves some) ≡ many + length (flat_map moves (call ∷ some)) = omega (arith, long) in
      ((all.0, parts.0), subst (λ n. pages.AreBelow moves most n more) same parts.1)

  then-below : {X : Type 0} (moves : SpoolCall (List ℕ) → List X) (most many : ℕ) (some more : List (SpoolCall (List ℕ)))
      → pages.AreBelow moves most many (and_then some more) → pages.AreBelow moves most many some
      × pages.AreBelow moves most (many + length (flat_map moves some)) more
  then-below moves most many some [] all = (all, tt)
  then-below moves most many some (call ∷ more) all = split-below moves most many some (call ∷ more) all

  abbrev BelowSo : ℕ → Side → ℕ → ℕ → Action → Reply L → Type 0
  BelowSo b side most many a r = IsAwaitedBelow b side most many (call (seat b side) a) (went_by a r)

  not-across : (b c : ℕ) (x of : Side) → same_side x of ≡ false → is_same b x c of ≡ true → ⊥
  not-across b c x of e is = (let no = sym (ap (λ t. (b == c) && t) e ∙ and-false (b == c)) ∙ is in cc)

  below-sends : {X : Type 0} (moves : SpoolCall (List ℕ) → List X) (b most many : ℕ) (a : Action) (r : Reply L) → PassesNot Sender a → Fits J a r
      → pages.AreBelow moves most many (spool_call Sender b a r) → BelowSo b Sender most many a r
  below-sends moves b most many act.AwaitRoom reply.Done kind fits all = λ is. all.0
  below-sends moves b most many act.AwaitRoom reply.Stopped kind fits all = tt
  below-sends moves b most many act.AwaitRoom r kind fits all = absurd fits
  below-sends moves b most many act.AwaitItem reply.Done kind fits all = λ is. absurd (not-across b (upstream b) Sender Receiver refl is)
  below-sends moves b most many act.AwaitItem reply.Stopped kind fits all = tt
  below-sends moves b most many act.AwaitItem r kind fits all = absurd fits
  below-sends moves b most many (act.PutFeed f) r kind fits all = tt
  below-sends moves b most many act.TakeFeed r kind fits all = tt
  below-sends moves b most many act.Request r kind fits all = tt
  below-sends moves b most many (act.PutPage page) r kind fits all = tt
  below-sends moves b most many act.TakePage r kind fits all = tt
  below-sends moves b most many act.Release r kind fits all = tt
  below-sends moves b most many act.ReadCard r kind fits all = tt
  below-sends moves b most many (act.Load file) r kind fits all = tt
  below-sends moves b most many act.Local r kind fits all = tt
  below-sends moves b most many (act.Print text) r kind fits all = tt
  below-sends moves b most many (act.Stop c) r kind fits all = tt
  below-sends moves b most many (act.Ended how) r kind fits all = tt

  below-takes : {X : Type 0} (moves : SpoolCall (List ℕ) → List X) (b most many : ℕ) (a : Action) (r : Reply L) → PassesNot Receiver a → Fits J a r
      → pages.AreBelow moves most many (spool_call Receiver b a r) → BelowSo b Receiver most many a r
  below-takes moves b most many act.AwaitItem reply.Done kind fits all = λ is. all.0
  below-takes moves b most many act.AwaitItem reply.Stopped kind fits all = tt
  below-takes moves b most many act.AwaitItem r kind fits all = absurd fits
  below-takes moves b most many act.AwaitRoom reply.Done kind fits all = λ is. absurd (not-across b (suc b) Receiver Sender refl is)
  below-takes moves b most many act.AwaitRoom reply.Stopped kind fits all = tt
  below-takes moves b most many act.AwaitRoom r kind fits all = absurd fits
  below-takes moves b most many (act.PutFeed f) r kind fits all = tt
  below-takes moves b most many act.TakeFeed r kind fits all = tt
  below-takes moves b most many act.Request r kind fits all = tt
  below-takes moves b most many (act.PutPage page) r kind fits all = tt
  below-takes moves b most many act.TakePage r kind fits all = tt
  below-takes moves b most many act.Release r kind fits all = tt
  below-takes moves b most many act.ReadCard r kind fits all = tt
  below-takes moves b most many (act.Load file) r kind fits all = tt
  below-takes moves b most many act.Local r kind fits all = tt
  below-takes moves b most many (act.Print text) r kind fits all = tt
  below-takes moves b most many (act.Stop c) r kind fits all = tt
  below-takes moves b most many (act.Ended how) r kind fits all = tt

  below-does : {X : Type 0} (moves : SpoolCall (List ℕ) → List X) (b : ℕ) (side : Side) (most many : ℕ) (a : Action) (r : Reply L) → PassesNot side a
      → Fits J a r
      → pages.AreBelow moves most many (spool_call side b a r) → BelowSo b side most many a r
  below-does moves b Sender most many a r kind fits all = below-sends moves b most many a r kind fits all
  below-does moves b Receiver most many a r kind fits all = below-takes moves b most many a r kind fits all

  awaits-are : (p : Process L) (b : ℕ) (side : Side) {does : Action → Type 0} (only : DoesOnly J p does) (kind : (a : Action) → does a → PassesNot side a)
      {X : Type 0} (moves : SpoolCall (List ℕ) → List X)
      → ((h : List (Entry L)) → Follows J p h → length (flat_map moves (spool_calls side b h)) ≡ length (moved b side (law.acts (the_core jobs)
      (seat b side) h)))
      → (most : ℕ) (h : List (Entry L)) → Follows J p h → pages.AreBelow moves most 0 (spool_calls side b h)
      → AreAwaitedBelow b side most (law.acts (the_core jobs) (seat b side) h)
  awaits-are p b side only kind moves long most [] follows all = tt
  awaits-are p b side only kind moves long most (Does a r ∷ h) follows all =
      let parts = then-below moves most 0 (spool_calls side b h) (spool_call side b a r) all in
      let here = subst (λ n. pages.AreBelow moves most n (spool_call side b a r)) (from-none (length (flat_map moves (spool_calls side b h)))
      ∙ long h follows.2) parts.1 in (
        below-does moves b side most _ a r (kind a (only h a follows.2 follows.0)) follows.1 here,
        awaits-are p b side only kind moves long most h follows.2
            parts.0,
      ) where
        from-none : (n : ℕ) → 0 + n ≡ n
        from-none n = omega arith
  awaits-are p b side only kind moves long most (LacksMemory a r ∷ h) follows all =
      let parts = then-below moves most 0 (spool_calls side b h) (spool_call side b a r) all in
      (below-lacks jobs (seat b side) b side most _ a r follows.1.1, awaits-are p b side only kind moves long most h follows.2 parts.0)
  awaits-are p b side only kind moves long most (Delays a ∷ h) follows all =
      (below-waits jobs (seat b side) b side most _ a follows.1, awaits-are p b side only kind moves long most h follows.2 all)

  -- ---- the marks
  took-marks : (took : List Received) → map is_last (map (received_parcel jobs) took) ≡ map received_mark took
  took-marks [] = refl
  took-marks (x ∷ took) = ap (λ ms. x.last ∷ ms) (took-marks took)

  put-marks : (put : List (List ℕ)) → map is_last (map (page_parcel {L = L}) put) ≡ map mark put
  put-marks [] = refl
  put-marks (x ∷ put) = ap (λ ms. mark x ∷ ms) (put-marks put)

  long-drop : {X : Type 0} (n : ℕ) (xs : List X) → n ≤ length xs → length (drop (length xs - n) xs) ≡ n
  long-drop n xs few = (let e = length-drop (length xs - n) xs in omega (arith, e, few))

  module _ (H : ℕ → List (Entry L)) (follows : (p : ℕ) → Follows J (process J p) (H p)) (b : ℕ) (at : IsBuffer b)
      {sends takes : Action → Type 0} (only_sends : DoesOnly J (process J b) sends) (only_takes : DoesOnly J (process J (suc b)) takes)
      (puts : (a : Action) → sends a → PutsPages a) (gets : (a : Action) → takes a → TakesPages a)
      (sends_not : (a : Action) → sends a → PassesNot Sender a) (takes_not : (a : Action) → takes a → PassesNot Receiver a)
      {A : Type 0} (told_by : A → Option (List (List ℕ))) (faults : A → ℕ) (opening area : A) (left size : ℕ) (first : Option Side)
      (met : spools.Meets told_by faults opening area (by_side (spool_calls Sender b (H b)) (spool_calls Receiver b (H (suc b)))) left first)
      (room : spools.MeetsRoom size (by_side (spool_calls Sender b (H b)) (spool_calls Receiver b (H (suc b)))) left) where
    calls-stop : (side : Side) → made_stop b side (acts_by (the_core jobs) H b side)
        ≡ pages.has_stop (by_side (spool_calls Sender b (H b)) (spool_calls Receiver b (H (suc b))) side)
    calls-stop Sender = made-there jobs H follows b at Sender ∙ sym (spool_calls_are.stops-are jobs (process J b) Sender b (H b) (follows b))
    calls-stop Receiver =
        made-there jobs H follows b at Receiver ∙ sym (spool_calls_are.stops-are jobs (process J (suc b)) Receiver b (H (suc b)) (follows (suc b)))

    calls-told : (side : Side) → was_told b side (acts_by (the_core jobs) H b side)
        ≡ pages.was_refused (by_side (spool_calls Sender b (H b)) (spool_calls Receiver b (H (suc b))) side)
    calls-told Sender = spool-told (process J b) b Sender only_sends sends_not (process J) (H b) (follows b)
    calls-told Receiver = spool-told (process J (suc b)) b Receiver only_takes takes_not (process J) (H (suc b)) (follows (suc b))

    abbrev put_pages : List (List ℕ)
    put_pages = pages.sent_of (spool_calls Sender b (H b))

    abbrev took_pages : List Received
    took_pages = pages.taken_of (spool_calls Receiver b (H (suc b)))

    sent-is : map (page_parcel {L = L}) put_pages ≡ moved_at (the_core jobs) H b Sender
    sent-is = spool-sent jobs (process J b) b only_sends puts (H b) (follows b) ∙ sym (sent-there jobs H follows b at)

    taken-is : map (received_parcel jobs) took_pages ≡ moved_at (the_core jobs) H b Receiver
    taken-is = spool-taken jobs (process J (suc b)) b only_takes gets (H (suc b)) (follows (suc b)) ∙ sym (taken-there jobs H follows b at)

    abbrev kept : ℕ
    kept = length put_pages - left

    marks-are : map is_last (moved_at (the_core jobs) H b Receiver) ++ map mark (drop kept put_pages) ≡ map is_last (moved_at (the_core jobs) H b Sender)
    marks-are =
        ap (λ ms. ms ++ map mark (drop kept put_pages)) (ap (map is_last) (sym taken-is) ∙ took-marks took_pages ∙ met.marks)
        ∙ sym (map-both mark (take kept put_pages) (drop kept put_pages)) ∙ ap (map mark) (take-append-drop kept put_pages) ∙ sym (put-marks put_pages)
        ∙ ap (map is_last) sent-is

    length-sent : (h : List (Entry L)) → Follows J (process J b) h → length (pages.sent_of (spool_calls Sender b h)) ≡ length (moved b Sender (law.acts
        (the_core jobs) b h))
    length-sent h f =
        sym (map-long (page_parcel {L = L}) (pages.sent_of (spool_calls Sender b h))) ∙ ap length (spool-sent jobs (process J b) b only_sends puts h f
        ∙ sym (passed-sent jobs (the-five jobs) b at h f))

    length-taken : (h : List (Entry L)) → Follows J (process J (suc b)) h
        → length (pages.taken_of (spool_calls Receiver b h)) ≡ length (moved b Receiver (law.acts (the_core jobs) (suc b) h))
    length-taken h f =
        sym (map-long (received_parcel jobs) (pages.taken_of (spool_calls Receiver b h)))
        ∙ ap length (spool-taken jobs (process J (suc b)) b only_takes gets h f
        ∙ sym (passed-taken jobs (the-five jobs) (suc b) (not-first jobs b at.0) h f))

    took-long : length took_pages ≡ length (moved_at (the_core jobs) H b Receiver)
    took-long = length-taken (H (suc b)) (follows (suc b))

    put-long : length put_pages ≡ length (moved_at (the_core jobs) H b Sender)
    put-long = length-sent (H b) (follows b)

    pub spool-met : (told : Bool) → (told ≡ true → (pages : List (List ℕ)) × (told_by area ≡ Some pages)) → HaveMet (the_core jobs) size told H b first
    spool-met told tells = record {
      rest = map mark (drop kept put_pages);
      marks = marks-are;
      parcels = λ e. (let (all, is) = tells e in
          spool-part jobs took_pages kept put_pages (moved_at (the_core jobs) H b Receiver) (moved_at (the_core jobs) H b Sender) (met.pages all is) met.marks
          taken-is sent-is);
      within = (let long = map-long mark (drop kept put_pages) in let many = long-drop left put_pages met.few in let few = room.within in omega
          (arith, long, many, few));
      stopped = record {
        neither = λ e side. calls-stop side ∙ met.stopped.neither e side;
        did = λ side e. calls-stop side ∙ met.stopped.did side e;
        told = λ side e. met.stopped.told side (sym (calls-told side) ∙ e);
      };
      nothing_left = λ e. nothing (met.nothing_left (sym (calls-told Receiver) ∙ e));
      rooms = awaits-are (process J b) b Sender only_sends sends_not pages.page_put length-sent (size + length (moved_at (the_core jobs) H b Receiver)) (H b)
          (follows b) (subst (λ n. pages.AreBelow pages.page_put (size + n) 0 (spool_calls Sender b (H b))) took-long room.found.rooms);
      finds = awaits-are (process J (suc b)) b Receiver only_takes takes_not pages.page_taken length-taken (length (moved_at (the_core jobs) H b Sender))
          (H (suc b))
          (follows (suc b)) (subst (λ n. pages.AreBelow pages.page_taken n 0 (spool_calls Receiver b (H (suc b)))) put-long room.found.finds);
    } where
      nothing : left ≡ 0 → map mark (drop kept put_pages) ≡ []
      nothing e = none-long (map mark (drop kept put_pages)) (map-long mark (drop kept put_pages) ∙ long-drop left put_pages met.few ∙ e)
