-- The five histories of a batch, and what the meeting of their ends says of them.
use Rattle.std.proofs.Common.{◌≡◌, inl, inr, ◌==◌, ℕ, suc, Bool, true, false, if◌then◌else◌, List, [], ◌∷◌, ◌++◌, Option, None, Some, refl, sym, ◌∙◌, subst, arith, lit≤}
use Rattle.std.specs.Option.{is_some}
use Rattle.std.proofs.lemmas.Bool.Decides.{eqb_tells}
use Rattle.solo_base.specs.declared.item.Feed.{Feed}
use Rattle.solo_base.specs.declared.outcome.Side.{Side}
use Rattle.solo_base.specs.declared.outcome.Side.TheVariants.{Sender, Receiver}
use Rattle.solo_base.specs.declared.outcome.Outcome.TheVariants as outcome
use Rattle.queue_var.specs.BetweenTwo.{WhoStopped, by_side}
use Rattle.slot_buffer.specs.declared.call.SlotCall.{SlotCall}
use Rattle.slot_buffer.specs.Calls as line
use Rattle.slot_buffer.specs.Ends as lines
use Rattle.disk_spool.specs.declared.call.SpoolCall.{SpoolCall}
use Rattle.disk_spool.specs.Calls as spool
use Rattle.disk_spool.specs.Ends as spools
use Rattle.solo_base.specs.Prefixes.{IsPrefixOf}
use Rattle.batch_procs.specs.declared.actions.Action.{Action}
use Rattle.batch_procs.specs.declared.actions.Action.TheVariants as act
use Rattle.batch_procs.specs.declared.actions.Reply.TheVariants as reply
use Rattle.batch_procs.specs.Parcels.{handed}
use Rattle.batch_procs.specs.Fits.{Fits}
use Rattle.batch_procs.specs.History.{Entry, Does, taken, sent, has_stopped}
use Rattle.batch_procs.specs.Causes.{caused}
use Rattle.batch_procs.specs.Process.{Process, Follows}
use Rattle.batch_procs.specs.Table.{card, input, job, output, printer, nobody, process}
use Rattle.core_law.specs.Core.{seat}
use Rattle.core_law.specs.Ends.{IsProcess}
use Rattle.core_law.proofs.Row.{each-buffer}
use Rattle.core_law.proofs.Passing.{HandOver}
use Rattle.core_law.proofs.Stopping.{AreFirst, WasToldBy}
use Rattle.batch_sides.specs.Calls.{line_calls, spool_calls}
use Rattle.batch_replay.specs.FiveRan.{FiveRan, histories}
use Rattle.batch_sides.specs.Cards.{does_card}
use Rattle.batch_sides.specs.Lines.{does_printer}
use Rattle.batch_sides.specs.Input.{does_input}
use Rattle.batch_sides.specs.Job.{does_job}
use Rattle.batch_sides.specs.Output.{does_output}
use Rattle.batch_sides.proofs.DoesOnly.{card-does, input-does, job-does, output-does, printer-does}
use Rattle.batch_sides.proofs.LineCalls as line_calls_are
use Rattle.batch_sides.proofs.SpoolCalls as spool_calls_are
use Rattle.batch_replay.proofs.Streams.{PutsFeeds, PutsPages, TakesFeeds, TakesPages, line-sent, line-taken, line-part, spool-sent, spool-taken, spool-part}
use Rattle.batch_replay.proofs.Given.{was-told, put-refused, take-refused, room-refused, item-refused}
use Rattle.batch_procs.specs.Jobs.{Jobs, AreJobs}

-- ---- the calls of both sides of a buffer, by the histories
pub line-met : (s r s' r' : List (SlotCall Feed)) (rest : Option Feed) (first : Option Side) → s ≡ s' → r ≡ r' → lines.Meets (by_side s r) rest first
    → lines.Meets (by_side s' r') rest first
line-met s r s' r' rest first a b met =
    subst (λ s. lines.Meets (by_side s r') rest first) a (subst (λ r. lines.Meets (by_side s r) rest first) b met)

pub room-met : (s r s' r' : List (SpoolCall (List ℕ))) (size left : ℕ) → s ≡ s' → r ≡ r' → spools.MeetsRoom size (by_side s r) left
    → spools.MeetsRoom size (by_side s' r') left
room-met s r s' r' size left a b met =
    subst (λ s. spools.MeetsRoom size (by_side s r') left) a (subst (λ r. spools.MeetsRoom size (by_side s r) left) b met)

module _ {A : Type 0} (told_by : A → Option (List (List ℕ))) (faults : A → ℕ) (opening area : A) where
  pub spool-met : (s r s' r' : List (SpoolCall (List ℕ))) (left : ℕ) (first : Option Side) → s ≡ s' → r ≡ r'
      → spools.Meets told_by faults opening area (by_side s r) left first → spools.Meets told_by faults opening area (by_side s' r') left first
  spool-met s r s' r' left first a b met =
      subst (λ s. spools.Meets told_by faults opening area (by_side s r') left first) a
      (subst (λ r. spools.Meets told_by faults opening area (by_side s r) left first) b met)

-- ---- what each process puts and takes
card-puts : (a : Action) → does_card a → PutsFeeds a
card-puts (act.PutPage page) does = absurd does
card-puts (act.Print line) does = absurd does
card-puts a does = tt

input-takes : (a : Action) → does_input a → TakesFeeds a
input-takes act.ReadCard does = absurd does
input-takes act.TakePage does = absurd does
input-takes a does = tt

input-puts : (a : Action) → does_input a → PutsPages a
input-puts (act.PutFeed f) does = absurd does
input-puts (act.Print line) does = absurd does
input-puts a does = tt

job-takes : (a : Action) → does_job a → TakesPages a
job-takes act.ReadCard does = absurd does
job-takes act.TakeFeed does = absurd does
job-takes a does = tt

job-puts : (a : Action) → does_job a → PutsPages a
job-puts (act.PutFeed f) does = absurd does
job-puts (act.Print line) does = absurd does
job-puts a does = tt

output-takes : (a : Action) → does_output a → TakesPages a
output-takes act.ReadCard does = absurd does
output-takes act.TakeFeed does = absurd does
output-takes a does = tt

output-puts : (a : Action) → does_output a → PutsFeeds a
output-puts (act.PutPage page) does = absurd does
output-puts (act.Print line) does = absurd does
output-puts a does = tt

printer-takes : (a : Action) → does_printer a → TakesFeeds a
printer-takes act.ReadCard does = absurd does
printer-takes act.TakePage does = absurd does
printer-takes a does = tt

at-seat : (P : ℕ → Type 0) (b : ℕ) (side : Side) → P b → P (suc b) → P (seat b side)
at-seat P b Sender s r = s
at-seat P b Receiver s r = r

told-some : (pages : Option (List (List ℕ))) → is_some pages ≡ true → (told : List (List ℕ)) × (pages ≡ Some told)
told-some None e = absurd cc
told-some (Some told) e = (told, refl)

module _ {L : Type 0} {J : Jobs L} (jobs : AreJobs J) where
  -- what holds of each process
  pub each-process : (P : ℕ → Type 0) (p : ℕ) → IsProcess p → P 1 → P 2 → P 3 → P 4 → P 5 → P p
  each-process P p one a b c d e =
      elim (eqb_tells p 5) as (λ _. P p) [
        | inl last ↦ subst P (sym last.1) e
        | inr differ ↦ each-buffer P p (one.0, (let not = differ.1 in let below = one.1 in omega (arith, not, below))) a b c d
      ]

  -- ---- who stopped a buffer first
  pub record StoppedFirst (b : ℕ) (sender receiver : List (Entry L)) (first : Option Side) : Type 0 where
    pub neither : first ≡ None → (side : Side) → has_stopped b (by_side sender receiver side) ≡ false
    pub did : (side : Side) → first ≡ Some side → has_stopped b (by_side sender receiver side) ≡ true

  module _ (p q : Process L) (b : ℕ) (sender receiver : List (Entry L)) (first : Option Side) (sends : Follows J p sender)
      (receives : Follows J q receiver) where
    line-stop : (side : Side) → line.has_stop (by_side (line_calls Sender b sender) (line_calls Receiver b receiver) side)
        ≡ has_stopped b (by_side sender receiver side)
    line-stop Sender = line_calls_are.stops-are jobs p Sender b sender sends
    line-stop Receiver = line_calls_are.stops-are jobs q Receiver b receiver receives

    pub line-first : {told : Side → Bool}
        → WhoStopped (λ side. line.has_stop (by_side (line_calls Sender b sender) (line_calls Receiver b receiver) side)) told first
        → StoppedFirst b sender receiver first
    line-first who = record {
      neither = λ e side. sym (line-stop side) ∙ who.neither e side;
      did = λ side e. sym (line-stop side) ∙ who.did side e;
    }

    spool-stop : (side : Side) → spool.has_stop (by_side (spool_calls Sender b sender) (spool_calls Receiver b receiver) side)
        ≡ has_stopped b (by_side sender receiver side)
    spool-stop Sender = spool_calls_are.stops-are jobs p Sender b sender sends
    spool-stop Receiver = spool_calls_are.stops-are jobs q Receiver b receiver receives

    pub spool-first : {told : Side → Bool}
        → WhoStopped (λ side. spool.has_stop (by_side (spool_calls Sender b sender) (spool_calls Receiver b receiver) side)) told first
        → StoppedFirst b sender receiver first
    spool-first who = record {
      neither = λ e side. sym (spool-stop side) ∙ who.neither e side;
      did = λ side e. sym (spool-stop side) ∙ who.did side e;
    }

  -- ---- the four actions that may be told of a stop, and the three that may fail
  by-told : (P : Action → Type 0) (a : Action) → Fits J a reply.Stopped → ((f : Feed) → P (act.PutFeed f)) → P act.TakeFeed → P act.AwaitRoom
      → P act.AwaitItem → P a
  by-told P (act.PutFeed f) fits put take room item = put f
  by-told P act.TakeFeed fits put take room item = take
  by-told P act.AwaitRoom fits put take room item = room
  by-told P act.AwaitItem fits put take room item = item
  by-told P a fits put take room item = absurd fits

  -- ---- the five together
  either-follows : (t : Bool) (p q : Process L) (h g : List (Entry L)) → Follows J p h → Follows J q g
      → Follows J (if t then p else q) (if t then h else g)
  either-follows true p q h g a b = a
  either-follows false p q h g a b = b

  module _ {A B : Type 0} {input_told : A → Option (List (List ℕ))} {input_faults : A → ℕ} {output_told : B → Option (List (List ℕ))} {output_faults : B → ℕ}
      {input_opening input_area : A} {output_opening output_area : B} {first : ℕ → Option Side}
      (ran : FiveRan J input_told input_faults output_told output_faults input_opening input_area output_opening output_area first) where
    pub follows : (p : ℕ) → Follows J (process J p) (histories ran p)
    follows p =
        either-follows (p == 1) card _ ran.card_history _ ran.card_follows
        (either-follows (p == 2) input _ ran.input_history _ ran.input_follows
        (either-follows (p == 3) (job J) _ ran.job_history _ ran.job_follows
        (either-follows (p == 4) output _ ran.output_history _ ran.output_follows
        (either-follows (p == 5) printer nobody ran.printer_history [] ran.printer_follows tt))))

    -- ---- what was handed over
    cards-part : IsPrefixOf (handed (taken ran.input_history)) (sent ran.card_history)
    cards-part =
        line-part jobs _ _ _ _ _ ran.cards.in_order (line-taken jobs input 1 (input-does jobs) input-takes ran.input_history ran.input_follows)
        (line-sent jobs card 1 (card-does jobs) card-puts ran.card_history ran.card_follows)

    lines-part : IsPrefixOf (handed (taken ran.printer_history)) (sent ran.output_history)
    lines-part =
        line-part jobs _ _ _ _ _ ran.lines.in_order (line-taken jobs printer 4 (printer-does jobs) printer-takes ran.printer_history ran.printer_follows)
        (line-sent jobs output 4 (output-does jobs) output-puts ran.output_history ran.output_follows)

    input-part : is_some (input_told input_opening) ≡ true → IsPrefixOf (handed (taken ran.job_history)) (sent ran.input_history)
    input-part told =
        let (pages, is) = told-some (input_told input_area) (ran.input_meets.tells told) in
        spool-part jobs _ _ _ _ _ (ran.input_meets.pages pages is) ran.input_meets.marks
        (spool-taken jobs (job J) 2 (job-does jobs) job-takes ran.job_history ran.job_follows)
        (spool-sent jobs input 2 (input-does jobs) input-puts ran.input_history ran.input_follows)

    output-part : is_some (output_told output_opening) ≡ true → IsPrefixOf (handed (taken ran.output_history)) (sent ran.job_history)
    output-part told =
        let (pages, is) = told-some (output_told output_area) (ran.output_meets.tells told) in
        spool-part jobs _ _ _ _ _ (ran.output_meets.pages pages is) ran.output_meets.marks
        (spool-taken jobs output 3 (output-does jobs) output-takes ran.output_history ran.output_follows)
        (spool-sent jobs (job J) 3 (job-does jobs) job-puts ran.job_history ran.job_follows)

    pub hand-over : is_some (input_told input_opening) ≡ true → is_some (output_told output_opening) ≡ true → HandOver jobs (histories ran)
    hand-over input_is output_is b is =
        each-buffer (λ b. IsPrefixOf (handed (taken (histories ran (suc b)))) (sent (histories ran b))) b is cards-part (input-part input_is)
        (output-part output_is) lines-part

    -- ---- who stopped first
    cards-first : StoppedFirst 1 ran.card_history ran.input_history (first 1)
    cards-first = line-first card input 1 ran.card_history ran.input_history (first 1) ran.card_follows ran.input_follows ran.cards.stopped

    input-first : StoppedFirst 2 ran.input_history ran.job_history (first 2)
    input-first = spool-first input (job J) 2 ran.input_history ran.job_history (first 2) ran.input_follows ran.job_follows ran.input_meets.stopped

    output-first : StoppedFirst 3 ran.job_history ran.output_history (first 3)
    output-first = spool-first (job J) output 3 ran.job_history ran.output_history (first 3) ran.job_follows ran.output_follows ran.output_meets.stopped

    lines-first : StoppedFirst 4 ran.output_history ran.printer_history (first 4)
    lines-first = line-first output printer 4 ran.output_history ran.printer_history (first 4) ran.output_follows ran.printer_follows ran.lines.stopped

    abbrev Neither : ℕ → Type 0
    Neither b = first b ≡ None → (side : Side) → has_stopped b (histories ran (seat b side)) ≡ false

    abbrev Did : ℕ → Type 0
    Did b = (side : Side) → first b ≡ Some side → has_stopped b (histories ran (seat b side)) ≡ true

    neither-at : (b : ℕ) → StoppedFirst b (histories ran b) (histories ran (suc b)) (first b) → Neither b
    neither-at b is e side = at-seat (λ p. has_stopped b (histories ran p) ≡ false) b side (is.neither e Sender) (is.neither e Receiver)

    did-at : (b : ℕ) → StoppedFirst b (histories ran b) (histories ran (suc b)) (first b) → Did b
    did-at b is Sender e = is.did Sender e
    did-at b is Receiver e = is.did Receiver e

    -- ---- who was told
    abbrev Told : (Action → Type 0) → List (Entry L) → ℕ → Action → Type 0
    Told does h p a = (later before : List (Entry L)) → h ≡ later ++ Does a reply.Stopped ∷ before → does a → WasToldBy first p

    card-told : caused ran.card_history ≡ Some outcome.Stopped → WasToldBy first 1
    card-told e =
        let h = ran.card_history in
        let told = was-told jobs card (card-does jobs) h ran.card_follows e in
        by-told (Told does_card h 1) told.action told.fits
        (λ f later before is does. record {
          buffer = 1;
          side = Sender;
          is_buffer = (lit≤ tt, lit≤ tt);
          seated = refl;
          by = ran.cards.stopped.told Sender (put-refused jobs 1 h later before f is);
        })
        (λ later before is does. absurd does) (λ later before is does. absurd does) (λ later before is does. absurd does)
        told.later told.before told.is told.does_it

    input-was_told : caused ran.input_history ≡ Some outcome.Stopped → WasToldBy first 2
    input-was_told e =
        let h = ran.input_history in
        let told = was-told jobs input (input-does jobs) h ran.input_follows e in
        by-told (Told does_input h 2) told.action told.fits (λ f later before is does. absurd does)
        (λ later before is does. record {
          buffer = 1;
          side = Receiver;
          is_buffer = (lit≤ tt, lit≤ tt);
          seated = refl;
          by = ran.cards.stopped.told Receiver (take-refused jobs 1 h later before is);
        })
        (λ later before is does. record {
          buffer = 2;
          side = Sender;
          is_buffer = (lit≤ tt, lit≤ tt);
          seated = refl;
          by = ran.input_meets.stopped.told Sender (room-refused jobs 2 h later before is);
        })
        (λ later before is does. absurd does) told.later told.before told.is told.does_it

    job-told : caused ran.job_history ≡ Some outcome.Stopped → WasToldBy first 3
    job-told e =
        let h = ran.job_history in
        let told = was-told jobs (job J) (job-does jobs) h ran.job_follows e in
        by-told (Told does_job h 3) told.action told.fits (λ f later before is does. absurd does) (λ later before is does. absurd does)
        (λ later before is does. record {
          buffer = 3;
          side = Sender;
          is_buffer = (lit≤ tt, lit≤ tt);
          seated = refl;
          by = ran.output_meets.stopped.told Sender (room-refused jobs 3 h later before is);
        })
        (λ later before is does. record {
          buffer = 2;
          side = Receiver;
          is_buffer = (lit≤ tt, lit≤ tt);
          seated = refl;
          by = ran.input_meets.stopped.told Receiver (item-refused jobs 2 h later before is);
        })
        told.later told.before told.is told.does_it

    output-was_told : caused ran.output_history ≡ Some outcome.Stopped → WasToldBy first 4
    output-was_told e =
        let h = ran.output_history in
        let told = was-told jobs output (output-does jobs) h ran.output_follows e in
        by-told (Told does_output h 4) told.action told.fits
        (λ f later before is does. record {
          buffer = 4;
          side = Sender;
          is_buffer = (lit≤ tt, lit≤ tt);
          seated = refl;
          by = ran.lines.stopped.told Sender (put-refused jobs 4 h later before f is);
        })
        (λ later before is does. absurd does) (λ later before is does. absurd does)
        (λ later before is does. record {
          buffer = 3;
          side = Receiver;
          is_buffer = (lit≤ tt, lit≤ tt);
          seated = refl;
          by = ran.output_meets.stopped.told Receiver (item-refused jobs 3 h later before is);
        })
        told.later told.before told.is told.does_it

    printer-told : caused ran.printer_history ≡ Some outcome.Stopped → WasToldBy first 5
    printer-told e =
        let h = ran.printer_history in
        let told = was-told jobs printer (printer-does jobs) h ran.printer_follows e in
        by-told (Told does_printer h 5) told.action told.fits (λ f later before is does. absurd does)
        (λ later before is does. record {
          buffer = 4;
          side = Receiver;
          is_buffer = (lit≤ tt, lit≤ tt);
          seated = refl;
          by = ran.lines.stopped.told Receiver (take-refused jobs 4 h later before is);
        })
        (λ later before is does. absurd does) (λ later before is does. absurd does) told.later told.before told.is told.does_it

    pub are-first : AreFirst jobs (histories ran) first
    are-first = record {
      neither = λ b is. each-buffer Neither b is (neither-at 1 cards-first) (neither-at 2 input-first) (neither-at 3 output-first) (neither-at 4 lines-first);
      did = λ b is. each-buffer Did b is (did-at 1 cards-first) (did-at 2 input-first) (did-at 3 output-first) (did-at 4 lines-first);
      told = λ p one. each-process (λ p. caused (histories ran p) ≡ Some outcome.Stopped → WasToldBy first p) p one card-told input-was_told job-told
          output-was_told printer-told;
    }
