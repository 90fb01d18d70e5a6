-- What the meeting of the ends of a line buffer tells of the acts of its two processes.
use Rattle.std.proofs.Common.{◌≡◌, ◌≤◌, ℕ, suc, ◌==◌, ◌&&◌, ◌||◌, Bool, true, false, if◌then◌else◌, List, [], ◌∷◌, ◌++◌, map, length, Option, None, Some, refl, sym, ◌∙◌, ap, arith}
use Rattle.std.specs.Prelude.{option_to_list}
use Rattle.solo_base.specs.declared.item.Feed.{Feed}
use Rattle.solo_base.specs.declared.outcome.Side.{Side}
use Rattle.solo_base.specs.declared.outcome.Side.TheVariants.{Sender, Receiver}
use Rattle.queue_var.specs.BetweenTwo.{WhoStopped, by_side}
use Rattle.slot_buffer.specs.declared.call.SlotCall.TheVariants as slot
use Rattle.slot_buffer.specs.Calls as line
use Rattle.slot_buffer.specs.Ends as lines
use Rattle.batch_procs.specs.Jobs.{Jobs, AreJobs}
use Rattle.batch_procs.specs.declared.actions.Action.{Action}
use Rattle.batch_procs.specs.declared.actions.Action.TheVariants as act
use Rattle.batch_procs.specs.declared.actions.Reply.{Reply}
use Rattle.batch_procs.specs.declared.actions.Reply.TheVariants as reply
use Rattle.batch_procs.specs.Parcels.{Parcel, OfFeed, is_last, handed}
use Rattle.batch_procs.specs.Fits.{Fits, MayLack, MayWait}
use Rattle.batch_procs.specs.History.{Entry, Does, LacksMemory, Delays, action_of, taken, sent}
use Rattle.batch_procs.specs.Process.{Process, Follows}
use Rattle.batch_procs.specs.Table.{process}
use Rattle.batch_procs.specs.Sends.{as_parcels}
use Rattle.network_law.specs.Acts.{Call, Alone, At, Asks, Gives, Delayed, Act, is_same, made_stop, was_told, told_at}
use Rattle.network_law.specs.Network as law
use Rattle.core_law.specs.Core.{upstream, seat, call, went_by, went, core, IsBuffer}
use Rattle.core_law.proofs.Acting.{same-here, stops-are}
use Rattle.core_law.proofs.Ends.{the-five}
use Rattle.core_law.proofs.Passed.{passed-sent, passed-taken}
use Rattle.replay_law.specs.Meeting.{IsAwaitedBelow, AreAwaitedBelow, acts_by, moved_at, HaveMet}
use Rattle.replay_law.proofs.Lists.{map-both}
use Rattle.batch_sides.specs.Calls.{and_then, line_call, line_calls}
use Rattle.batch_sides.specs.Running.{DoesOnly}
use Rattle.batch_sides.proofs.LineCalls as line_calls_are
use Rattle.batch_sides.proofs.LineCalls.{any-then, lack-call}
use Rattle.batch_replay.proofs.Streams.{PutsFeeds, TakesFeeds, line-sent, line-taken}

-- a process that moves feeds awaits neither room nor pages there
abbrev pub AwaitsNot : Side → Action → Type 0
AwaitsNot Sender act.AwaitRoom = ⊥
AwaitsNot Receiver act.AwaitItem = ⊥
AwaitsNot side action = Unit {0}

pub and-false : (t : Bool) → (t && false) ≡ false
and-false true = refl
and-false false = refl

stop-if : (side : Side) (t : Bool) → line.was_refused {T = Feed} (if t then slot.Stop side ∷ [] else []) ≡ false
stop-if side true = refl
stop-if side false = refl

module _ {L : Type 0} {J : Jobs L} (jobs : AreJobs J) where
  -- ---- who was told
  abbrev ToldSo : ℕ → Side → Action → Reply L → Type 0
  ToldSo b side a r = told_at b side (call (seat b side) a) (went_by a r) ≡ line.was_refused (line_call side b a r)

  told-sends : (b : ℕ) (a : Action) (r : Reply L) → AwaitsNot Sender a → Fits J a r → ToldSo b Sender a r
  told-sends b (act.PutFeed f) reply.Done kind fits = refl
  told-sends b (act.PutFeed f) reply.Stopped kind fits = same-here b Sender
  told-sends b act.TakeFeed (reply.Feed f) kind fits = refl
  told-sends b act.TakeFeed reply.Stopped kind fits = and-false (b == upstream b)
  told-sends b act.AwaitRoom r kind fits = absurd kind
  told-sends b act.AwaitItem reply.Done kind fits = refl
  told-sends b act.AwaitItem reply.Stopped kind fits = and-false (b == upstream b)
  told-sends b act.Request reply.Done kind fits = refl
  told-sends b (act.PutPage page) reply.Done kind fits = refl
  told-sends b (act.PutPage page) reply.Failed kind fits = refl
  told-sends b act.TakePage (reply.Page page last) kind fits = refl
  told-sends b act.TakePage reply.Failed kind fits = refl
  told-sends b act.Release reply.Done kind fits = refl
  told-sends b act.ReadCard (reply.Card answer) kind fits = refl
  told-sends b (act.Load file) (reply.Loaded load) kind fits = refl
  told-sends b (act.Load file) reply.Failed kind fits = refl
  told-sends b (act.Load file) reply.NoMemory kind fits = refl
  told-sends b act.Local reply.Done kind fits = refl
  told-sends b (act.Print text) reply.Done kind fits = refl
  told-sends b (act.Print text) reply.Failed kind fits = refl
  told-sends b (act.Print text) reply.NoMemory kind fits = refl
  told-sends b (act.Stop c) reply.Done kind fits = sym (stop-if Sender (b == c))
  told-sends b (act.Ended how) reply.Done kind fits = refl
  told-sends b a r kind fits = absurd fits

  told-takes : (b : ℕ) (a : Action) (r : Reply L) → AwaitsNot Receiver a → Fits J a r → ToldSo b Receiver a r
  told-takes b (act.PutFeed f) reply.Done kind fits = refl
  told-takes b (act.PutFeed f) reply.Stopped kind fits = and-false (b == suc b)
  told-takes b act.TakeFeed (reply.Feed f) kind fits = refl
  told-takes b act.TakeFeed reply.Stopped kind fits = same-here b Receiver
  told-takes b act.AwaitRoom reply.Done kind fits = refl
  told-takes b act.AwaitRoom reply.Stopped kind fits = and-false (b == suc b)
  told-takes b act.AwaitItem r kind fits = absurd kind
  told-takes b act.Request reply.Done kind fits = refl
  told-takes b (act.PutPage page) reply.Done kind fits = refl
  told-takes b (act.PutPage page) reply.Failed kind fits = refl
  told-takes b act.TakePage (reply.Page page last) kind fits = refl
  told-takes b act.TakePage reply.Failed kind fits = refl
  told-takes b act.Release reply.Done kind fits = refl
  told-takes b act.ReadCard (reply.Card answer) kind fits = refl
  told-takes b (act.Load file) (reply.Loaded load) kind fits = refl
  told-takes b (act.Load file) reply.Failed kind fits = refl
  told-takes b (act.Load file) reply.NoMemory kind fits = refl
  told-takes b act.Local reply.Done kind fits = refl
  told-takes b (act.Print text) reply.Done kind fits = refl
  told-takes b (act.Print text) reply.Failed kind fits = refl
  told-takes b (act.Print text) reply.NoMemory kind fits = refl
  told-takes b (act.Stop c) reply.Done kind fits = sym (stop-if Receiver (b == c))
  told-takes b (act.Ended how) reply.Done kind fits = refl
  told-takes b a r kind fits = absurd fits

  told-does : (b : ℕ) (side : Side) (a : Action) (r : Reply L) → AwaitsNot side a → Fits J a r → ToldSo b side a r
  told-does b Sender a r kind fits = told-sends b a r kind fits
  told-does b Receiver a r kind fits = told-takes b a r kind fits

  pub lacks-told : (p b : ℕ) (side : Side) (a : Action) (r : Reply L) → MayLack a r → told_at b side (call p a) (went_by a r) ≡ false
  lacks-told p b side act.TakePage (reply.Page page last) may = refl
  lacks-told p b side act.Local reply.Done may = refl
  lacks-told p b side a r may = absurd may

  pub waits-told : (b : ℕ) (side : Side) (c : Call) → told_at {Parcel = Parcel L} b side c Delayed ≡ false
  waits-told b side Alone = refl
  waits-told b side (At c of visit) = refl
  waits-told b side Asks = refl
  waits-told b side Gives = refl

  -- ---- nothing was awaited there
  abbrev BelowSo : ℕ → Side → ℕ → ℕ → Action → Reply L → Type 0
  BelowSo b side most many a r = IsAwaitedBelow b side most many (call (seat b side) a) (went_by a r)

  other-side : (b c : ℕ) (x : Side) → x ≡ Receiver → is_same b Sender c x ≡ true → ⊥
  other-side b c Sender e is = cc
  other-side b c Receiver e is = (let no = sym (and-false (b == c)) ∙ is in cc)

  sender-side : (b c : ℕ) → is_same b Receiver c Sender ≡ true → ⊥
  sender-side b c is = (let no = sym (and-false (b == c)) ∙ is in cc)

  below-sends : (b most many : ℕ) (a : Action) (r : Reply L) → AwaitsNot Sender a → Fits J a r → BelowSo b Sender most many a r
  below-sends b most many act.AwaitRoom r kind fits = absurd kind
  below-sends b most many act.AwaitItem reply.Done kind fits = λ is. absurd (other-side b (upstream b) Receiver refl is)
  below-sends b most many act.AwaitItem reply.Stopped kind fits = tt
  below-sends b most many act.AwaitItem r kind fits = absurd fits
  below-sends b most many (act.PutFeed f) r kind fits = tt
  below-sends b most many act.TakeFeed r kind fits = tt
  below-sends b most many act.Request r kind fits = tt
  below-sends b most many (act.PutPage page) r kind fits = tt
  below-sends b most many act.TakePage r kind fits = tt
  below-sends b most many act.Release r kind fits = tt
  below-sends b most many act.ReadCard r kind fits = tt
  below-sends b most many (act.Load file) r kind fits = tt
  below-sends b most many act.Local r kind fits = tt
  below-sends b most many (act.Print text) r kind fits = tt
  below-sends b most many (act.Stop c) r kind fits = tt
  below-sends b most many (act.Ended how) r kind fits = tt

  below-takes : (b most many : ℕ) (a : Action) (r : Reply L) → AwaitsNot Receiver a → Fits J a r → BelowSo b Receiver most many a r
  below-takes b most many act.AwaitItem r kind fits = absurd kind
  below-takes b most many act.AwaitRoom reply.Done kind fits = λ is. absurd (sender-side b (suc b) is)
  below-takes b most many act.AwaitRoom reply.Stopped kind fits = tt
  below-takes b most many act.AwaitRoom r kind fits = absurd fits
  below-takes b most many (act.PutFeed f) r kind fits = tt
  below-takes b most many act.TakeFeed r kind fits = tt
  below-takes b most many act.Request r kind fits = tt
  below-takes b most many (act.PutPage page) r kind fits = tt
  below-takes b most many act.TakePage r kind fits = tt
  below-takes b most many act.Release r kind fits = tt
  below-takes b most many act.ReadCard r kind fits = tt
  below-takes b most many (act.Load file) r kind fits = tt
  below-takes b most many act.Local r kind fits = tt
  below-takes b most many (act.Print text) r kind fits = tt
  below-takes b most many (act.Stop c) r kind fits = tt
  below-takes b most many (act.Ended how) r kind fits = tt

  below-does : (b : ℕ) (side : Side) (most many : ℕ) (a : Action) (r : Reply L) → AwaitsNot side a → Fits J a r → BelowSo b side most many a r
  below-does b Sender most many a r kind fits = below-sends b most many a r kind fits
  below-does b Receiver most many a r kind fits = below-takes b most many a r kind fits

  pub below-lacks : (p b : ℕ) (side : Side) (most many : ℕ) (a : Action) (r : Reply L) → MayLack a r → IsAwaitedBelow b side most many (call p a) (went_by a r)
  below-lacks p b side most many act.TakePage (reply.Page page last) may = tt
  below-lacks p b side most many act.Local reply.Done may = tt
  below-lacks p b side most many a r may = absurd may

  pub below-waits : (p b : ℕ) (side : Side) (most many : ℕ) (a : Action) → MayWait a → IsAwaitedBelow {Parcel = Parcel L} b side most many (call p a) Delayed
  below-waits p b side most many (act.PutFeed f) may = tt
  below-waits p b side most many act.TakeFeed may = tt
  below-waits p b side most many act.AwaitRoom may = tt
  below-waits p b side most many act.AwaitItem may = tt
  below-waits p b side most many act.Request may = tt
  below-waits p b side most many a may = absurd may

  -- ---- along a history
  module _ (p : Process L) (b : ℕ) (side : Side) {does : Action → Type 0} (only : DoesOnly J p does) (kind : (a : Action) → does a → AwaitsNot side a)
      (row : ℕ → Process L) where
    abbrev acts_of : List (Entry L) → List (Act (Parcel L))
    acts_of h = law.acts (core J row) (seat b side) h

    line-told : (h : List (Entry L)) → Follows J p h → was_told b side (acts_of h) ≡ line.was_refused (line_calls side b h)
    line-told [] follows = refl
    line-told (Does a r ∷ h) follows =
        ap (λ t. t || was_told b side (acts_of h)) (told-does b side a r (kind a (only h a follows.2 follows.0)) follows.1)
        ∙ ap (λ t. line.was_refused (line_call side b a r) || t) (line-told h follows.2)
        ∙ sym (any-then line.is_refusal (line_calls side b h) (line_call side b a r))
    line-told (LacksMemory a r ∷ h) follows =
        ap (λ t. t || was_told b side (acts_of h)) (lacks-told (seat b side) b side a r follows.1.1) ∙ line-told h follows.2
        ∙ ap (λ more. line.was_refused (and_then (line_calls side b h) more)) (sym (lack-call jobs side b a r follows.1.1))
    line-told (Delays a ∷ h) follows = ap (λ t. t || was_told b side (acts_of h)) (waits-told b side (call (seat b side) a)) ∙ line-told h follows.2

    line-below : (most : ℕ) (h : List (Entry L)) → Follows J p h → AreAwaitedBelow b side most (acts_of h)
    line-below most [] follows = tt
    line-below most (Does a r ∷ h) follows = (below-does b side most _ a r (kind a (only h a follows.2 follows.0)) follows.1, line-below most h follows.2)
    line-below most (LacksMemory a r ∷ h) follows = (below-lacks (seat b side) b side most _ a r follows.1.1, line-below most h follows.2)
    line-below most (Delays a ∷ h) follows = (below-waits (seat b side) b side most _ a follows.1, line-below most h follows.2)

  -- ---- both ends of a line buffer
  parcels-both : (some more : List Feed) → as_parcels {L = L} (some ++ more) ≡ as_parcels some ++ as_parcels more
  parcels-both [] more = refl
  parcels-both (f ∷ some) more = ap (λ rest. OfFeed f ∷ rest) (parcels-both some more)

  few-rest : (rest : Option Feed) → length (map is_last (as_parcels {L = L} (option_to_list rest))) ≤ 1
  few-rest None = omega arith
  few-rest (Some f) = omega arith

  none-rest : (rest : Option Feed) → rest ≡ None → map is_last (as_parcels {L = L} (option_to_list rest)) ≡ []
  none-rest None e = refl
  none-rest (Some f) e = absurd cc

  abbrev pub the_core : law.Network (Rattle.core_law.specs.Core.Devices L) Action (Entry L) (Parcel L)
  the_core = core J (process J)

  pub not-first : (b : ℕ) → 1 ≤ b → suc b ≡ 1 → ⊥
  not-first b low e = omega (arith, low, e)

  module _ (H : ℕ → List (Entry L)) (follows : (p : ℕ) → Follows J (process J p) (H p)) (b : ℕ) (at : IsBuffer b) where
    pub sent-there : moved_at the_core H b Sender ≡ sent (H b)
    sent-there = passed-sent jobs (the-five jobs) b at (H b) (follows b)

    pub taken-there : moved_at the_core H b Receiver ≡ handed (taken (H (suc b)))
    taken-there = passed-taken jobs (the-five jobs) (suc b) (not-first b at.0) (H (suc b)) (follows (suc b))

    pub made-there : (side : Side) → made_stop b side (acts_by the_core H b side) ≡ Rattle.batch_procs.specs.History.has_stopped b (H (seat b side))
    made-there side = stops-are jobs (process J) (seat b side) b side (H (seat b side)) refl (follows (seat b side))

    pub parts-there : (more : List (Parcel L)) → handed (taken (H (suc b))) ++ more ≡ sent (H b)
        → moved_at the_core H b Receiver ++ more ≡ moved_at the_core H b Sender
    parts-there more e = ap (λ front. front ++ more) taken-there ∙ e ∙ sym sent-there

    module _ {sends takes : Action → Type 0} (only_sends : DoesOnly J (process J b) sends) (only_takes : DoesOnly J (process J (suc b)) takes)
        (puts : (a : Action) → sends a → PutsFeeds a) (gets : (a : Action) → takes a → TakesFeeds a)
        (rooms : (a : Action) → sends a → AwaitsNot Sender a) (finds : (a : Action) → takes a → AwaitsNot Receiver a) (rest : Option Feed)
        (first : Option Side) (met : lines.Meets (by_side (line_calls Sender b (H b)) (line_calls Receiver b (H (suc b)))) rest first) where
      calls-stop : (side : Side) → made_stop b side (acts_by the_core H b side)
          ≡ line.has_stop (by_side (line_calls Sender b (H b)) (line_calls Receiver b (H (suc b))) side)
      calls-stop Sender = made-there Sender ∙ sym (line_calls_are.stops-are jobs (process J b) Sender b (H b) (follows b))
      calls-stop Receiver = made-there Receiver ∙ sym (line_calls_are.stops-are jobs (process J (suc b)) Receiver b (H (suc b)) (follows (suc b)))

      calls-told : (side : Side) → was_told b side (acts_by the_core H b side)
          ≡ line.was_refused (by_side (line_calls Sender b (H b)) (line_calls Receiver b (H (suc b))) side)
      calls-told Sender = line-told (process J b) b Sender only_sends rooms (process J) (H b) (follows b)
      calls-told Receiver = line-told (process J (suc b)) b Receiver only_takes finds (process J) (H (suc b)) (follows (suc b))

      pub line-stopped : WhoStopped (λ side. made_stop b side (acts_by the_core H b side)) (λ side. was_told b side (acts_by the_core H b side)) first
      line-stopped = record {
        neither = λ e side. calls-stop side ∙ met.stopped.neither e side;
        did = λ side e. calls-stop side ∙ met.stopped.did side e;
        told = λ side e. met.stopped.told side (sym (calls-told side) ∙ e);
      }

      abbrev left : List (Parcel L)
      left = as_parcels (option_to_list rest)

      whole : moved_at the_core H b Receiver ++ left ≡ moved_at the_core H b Sender
      whole =
          parts-there left
          (ap (λ front. front ++ left) (sym (line-taken jobs (process J (suc b)) b only_takes gets (H (suc b)) (follows (suc b))))
          ∙ sym (parcels-both (line.taken_of (line_calls Receiver b (H (suc b)))) (option_to_list rest)) ∙ ap as_parcels met.in_order
          ∙ line-sent jobs (process J b) b only_sends puts (H b) (follows b))

      pub line-met : (told : Bool) → HaveMet the_core 1 told H b first
      line-met told = record {
        rest = map is_last left;
        marks = sym (map-both is_last (moved_at the_core H b Receiver) left) ∙ ap (map is_last) whole;
        parcels = λ e. (left, whole);
        within = few-rest rest;
        stopped = line-stopped;
        nothing_left = λ e. none-rest rest (met.nothing_left (sym (calls-told Receiver) ∙ e));
        rooms = line-below (process J b) b Sender only_sends rooms (process J) _ (H b) (follows b);
        finds = line-below (process J (suc b)) b Receiver only_takes finds (process J) _ (H (suc b)) (follows (suc b));
      }
