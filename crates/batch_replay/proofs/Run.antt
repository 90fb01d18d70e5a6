-- A batch on five threads is a run of the core.
use Rattle.std.proofs.Common.{◌≡◌, ◌≤◌, ℕ, suc, true, List, [], ◌∷◌, Option, None, Some, refl, sym, ◌∙◌, ap, subst, lit≤}
use Rattle.std.specs.Option.{is_some}
use Rattle.solo_base.specs.declared.item.Item.{Item}
use Rattle.solo_base.specs.declared.outcome.Side.{Side}
use Rattle.solo_base.specs.declared.outcome.Side.TheVariants.{Sender, Receiver}
use Rattle.solo_devices.specs.CardUnit.{items_ahead}
use Rattle.slot_buffer.specs.Ends as lines
use Rattle.queue_var.specs.BetweenTwo.{by_side}
use Rattle.batch_procs.specs.Jobs.{Jobs, AreJobs}
use Rattle.batch_procs.specs.declared.actions.Action.{Action}
use Rattle.batch_procs.specs.declared.actions.Action.TheVariants as act
use Rattle.batch_procs.specs.History.{Entry, newest}
use Rattle.batch_procs.specs.Process.{Follows}
use Rattle.batch_procs.specs.Table.{card, input, job, output, printer, process}
use Rattle.batch_procs.proofs.Kept.{histories_keep}
use Rattle.network_law.specs.Network as law
use Rattle.replay_law.specs.Deeds.{Deed, entries, stood, AreAllowed, IsThread}
use Rattle.replay_law.specs.Meeting.{HaveMet}
use Rattle.replay_law.specs.Replay.{SideBySide}
use Rattle.core_law.specs.Core.{core, IsBuffer}
use Rattle.core_law.specs.Ends.{IsProcess}
use Rattle.core_law.specs.Opening.{Opening, Spools, devices_at, size_of, told_of}
use Rattle.core_law.proofs.Acting.{holds-are}
use Rattle.core_law.proofs.Ends.{the-five}
use Rattle.core_law.proofs.Row.{each-buffer}
use Rattle.core_law.proofs.Reached.{reached-holds}
use Rattle.core_replay.specs.Five.{over}
use Rattle.core_replay.proofs.Run.{five-are-a-run}
use Rattle.batch_ends.specs.declared.ends.Ran.{Ran}
use Rattle.batch_ends.specs.declared.units.Units.{Units}
use Rattle.batch_ends.specs.Ended.{outcome_at, stopped_at}
use Rattle.batch_sides.specs.Calls.{line_calls, spool_calls}
use Rattle.batch_sides.specs.Files.{FileTells}
use Rattle.batch_sides.specs.Cards.{does_card}
use Rattle.batch_sides.specs.Lines.{does_printer}
use Rattle.batch_sides.specs.Input.{does_input}
use Rattle.batch_sides.specs.Job.{does_job}
use Rattle.batch_sides.specs.Output.{does_output}
use Rattle.batch_sides.proofs.DoesOnly.{card-does, input-does, job-does, output-does, printer-does}
use Rattle.batch_replay.specs.FiveRan.{BatchRan, histories}
use Rattle.batch_replay.proofs.Ending as ending
use Rattle.batch_replay.proofs.Streams.{PutsFeeds, PutsPages, TakesFeeds, TakesPages}
use Rattle.batch_replay.specs.Deeds.{as_deeds}
use Rattle.batch_replay.specs.Told.{OpensOver, IsARun}
use Rattle.batch_replay.proofs.Deeds.{entries-are, answered-all, IsPlain, LoadsPlain, PrintsPlain, ReadsPlain, none-used, loads-allowed, prints-allowed, reads-allowed, untold-allowed, paper-is, paper-untold}
use Rattle.batch_replay.proofs.Lines.{AwaitsNot, line-met}
use Rattle.batch_replay.proofs.Spools.{PassesNot, spool-met}

-- ---- what each of the five makes
card-puts : (a : Action) → does_card a → PutsFeeds a
card-puts (act.PutPage page) does = absurd does
card-puts (act.Print line) does = absurd does
card-puts a does = tt

output-puts : (a : Action) → does_output a → PutsFeeds a
output-puts (act.PutPage page) does = absurd does
output-puts (act.Print line) does = absurd does
output-puts a does = tt

input-gets : (a : Action) → does_input a → TakesFeeds a
input-gets act.ReadCard does = absurd does
input-gets act.TakePage does = absurd does
input-gets a does = tt

printer-gets : (a : Action) → does_printer a → TakesFeeds a
printer-gets act.ReadCard does = absurd does
printer-gets act.TakePage does = absurd does
printer-gets a does = tt

input-pages : (a : Action) → does_input a → PutsPages a
input-pages (act.PutFeed f) does = absurd does
input-pages (act.Print line) does = absurd does
input-pages a does = tt

job-pages : (a : Action) → does_job a → PutsPages a
job-pages (act.PutFeed f) does = absurd does
job-pages (act.Print line) does = absurd does
job-pages a does = tt

job-gets : (a : Action) → does_job a → TakesPages a
job-gets act.ReadCard does = absurd does
job-gets act.TakeFeed does = absurd does
job-gets a does = tt

output-gets : (a : Action) → does_output a → TakesPages a
output-gets act.ReadCard does = absurd does
output-gets act.TakeFeed does = absurd does
output-gets a does = tt

card-rooms : (a : Action) → does_card a → AwaitsNot Sender a
card-rooms act.AwaitRoom does = absurd does
card-rooms a does = tt

output-rooms : (a : Action) → does_output a → AwaitsNot Sender a
output-rooms act.AwaitRoom does = absurd does
output-rooms a does = tt

input-finds : (a : Action) → does_input a → AwaitsNot Receiver a
input-finds act.AwaitItem does = absurd does
input-finds a does = tt

printer-finds : (a : Action) → does_printer a → AwaitsNot Receiver a
printer-finds act.AwaitItem does = absurd does
printer-finds a does = tt

input-sends_not : (a : Action) → does_input a → PassesNot Sender a
input-sends_not (act.PutFeed f) does = absurd does
input-sends_not a does = tt

job-sends_not : (a : Action) → does_job a → PassesNot Sender a
job-sends_not (act.PutFeed f) does = absurd does
job-sends_not a does = tt

job-takes_not : (a : Action) → does_job a → PassesNot Receiver a
job-takes_not act.TakeFeed does = absurd does
job-takes_not a does = tt

output-takes_not : (a : Action) → does_output a → PassesNot Receiver a
output-takes_not act.TakeFeed does = absurd does
output-takes_not a does = tt

input-plain : (a : Action) → does_input a → IsPlain a
input-plain act.ReadCard does = absurd does
input-plain (act.Load file) does = absurd does
input-plain (act.Print line) does = absurd does
input-plain a does = tt

output-plain : (a : Action) → does_output a → IsPlain a
output-plain act.ReadCard does = absurd does
output-plain (act.Load file) does = absurd does
output-plain (act.Print line) does = absurd does
output-plain a does = tt

card-plain : (a : Action) → does_card a → ReadsPlain a
card-plain (act.Load file) does = absurd does
card-plain (act.Print line) does = absurd does
card-plain a does = tt

job-plain : (a : Action) → does_job a → LoadsPlain a
job-plain act.ReadCard does = absurd does
job-plain (act.Print line) does = absurd does
job-plain a does = tt

printer-plain : (a : Action) → does_printer a → PrintsPlain a
printer-plain act.ReadCard does = absurd does
printer-plain (act.Load file) does = absurd does
printer-plain a does = tt

told-some : (pages : Option (List (List ℕ))) → is_some pages ≡ true → (told : List (List ℕ)) × (pages ≡ Some told)
told-some None e = absurd cc
told-some (Some told) e = (told, refl)

module _ {L : Type 0} {J : Jobs L} (jobs : AreJobs J) where
  -- each entry follows, as the law says it
  follows-to : (p : ℕ) (h : List (Entry L)) → Follows J (process J p) h → law.Follows (core J (process J)) p h
  follows-to p [] follows = tt
  follows-to p (entry ∷ h) follows = (follows.0, follows.1, follows-to p h follows.2)

  module _ {S K F A B : Type 0} (left : S → Option (List ℕ)) (taken_from source_faults : S → ℕ)
      (given : K → Option (List ℕ)) (sink_faults : K → ℕ) (loader : FileTells L F)
      (from_size : A → ℕ) (input_told : A → Option (List (List ℕ))) (input_faults : A → ℕ)
      (to_size : B → ℕ) (output_told : B → Option (List (List ℕ))) (output_faults : B → ℕ)
      (units : Units S K F A B) (ran : Ran S K F A B)
      (did : BatchRan J left taken_from source_faults given sink_faults loader from_size input_told input_faults to_size output_told output_faults units ran)
      (opening : Opening J)
      (opens : OpensOver J left taken_from source_faults given sink_faults loader from_size input_told input_faults to_size output_told output_faults units
      ran did
      opening) where
    abbrev part : List ℕ
    part = did.paper.gave.0

    abbrev deeds : ℕ → List (Deed (Entry L))
    deeds p = as_deeds part (histories did.five p)

    abbrev H : ℕ → List (Entry L)
    H p = entries (deeds p)

    same : (p : ℕ) → H p ≡ histories did.five p
    same p = entries-are part (histories did.five p)

    follows : (p : ℕ) → Follows J (process J p) (H p)
    follows p = subst (Follows J (process J p)) (sym (same p)) (ending.follows jobs did.five p)

    abbrev first : ℕ → Option Side
    first = stopped_at ran.stopped_by

    -- ---- the four buffers
    abbrev MetAt : Spools → ℕ → Type 0
    MetAt spools b = HaveMet (core J (process J)) (size_of spools b) (told_of spools b) H b (first b)

    line-at : (b : ℕ) (rest : _) → lines.Meets (by_side (line_calls Sender b (histories did.five b)) (line_calls Receiver b (histories did.five
        (suc b)))) rest (first b)
        → lines.Meets (by_side (line_calls Sender b (H b)) (line_calls Receiver b (H (suc b)))) rest (first b)
    line-at b rest met =
        ending.line-met _ _ _ _ rest (first b) (ap (line_calls Sender b) (sym (same b))) (ap (line_calls Receiver b) (sym (same (suc b)))) met

    cards-met : MetAt opening.spools 1
    cards-met =
        line-met jobs H follows 1 (lit≤ tt, lit≤ tt) (card-does jobs) (input-does jobs) card-puts input-gets card-rooms input-finds did.five.cards_rest
        (first 1)
        (line-at 1 did.five.cards_rest did.five.cards) true

    lines-met : MetAt opening.spools 4
    lines-met =
        line-met jobs H follows 4 (lit≤ tt, lit≤ tt) (output-does jobs) (printer-does jobs) output-puts printer-gets output-rooms printer-finds
        did.five.lines_rest (first 4) (line-at 4 did.five.lines_rest did.five.lines) true

    input-met : MetAt opening.spools 2
    input-met =
        let met = ending.spool-met input_told input_faults units.input ran.units.input _ _ _ _ did.five.input_left (first 2)
        (ap (spool_calls Sender 2) (sym (same 2))) (ap (spool_calls Receiver 2) (sym (same 3))) did.five.input_meets in
        let room = ending.room-met _ _ _ _ (from_size units.input) did.five.input_left (ap (spool_calls Sender 2) (sym (same 2)))
        (ap (spool_calls Receiver 2) (sym (same 3))) did.input_room in
        subst (λ spools. MetAt spools 2) (sym opens.spools)
        (spool-met jobs H follows 2 (lit≤ tt, lit≤ tt) (input-does jobs) (job-does jobs) input-pages job-gets input-sends_not job-takes_not input_told
        input_faults
        units.input ran.units.input did.five.input_left (from_size units.input) (first 2) met room
        (is_some (input_told units.input)) (λ e. told-some (input_told ran.units.input) (did.five.input_meets.tells e)))

    output-met : MetAt opening.spools 3
    output-met =
        let met = ending.spool-met output_told output_faults units.output ran.units.output _ _ _ _ did.five.output_left (first 3)
        (ap (spool_calls Sender 3) (sym (same 3))) (ap (spool_calls Receiver 3) (sym (same 4))) did.five.output_meets in
        let room = ending.room-met _ _ _ _ (to_size units.output) did.five.output_left (ap (spool_calls Sender 3) (sym (same 3)))
        (ap (spool_calls Receiver 3) (sym (same 4))) did.output_room in
        subst (λ spools. MetAt spools 3) (sym opens.spools)
        (spool-met jobs H follows 3 (lit≤ tt, lit≤ tt) (job-does jobs) (output-does jobs) job-pages output-gets job-sends_not output-takes_not output_told
        output_faults
        units.output ran.units.output did.five.output_left (to_size units.output) (first 3) met room
        (is_some (output_told units.output)) (λ e. told-some (output_told ran.units.output) (did.five.output_meets.tells e)))

    -- ---- the five
    abbrev Allowed_at : ℕ → Type 0
    Allowed_at p = AreAllowed (core J (process J)) (devices_at opening) (deeds p)

    card-allowed : (deck : Option (List Item)) → opening.deck ≡ deck → Allowed_at 1
    card-allowed None e =
        untold-allowed jobs card (card-does jobs) card-plain (devices_at opening) part e did.five.card_history did.five.card_follows
    card-allowed (Some items) e =
        let reads = did.deck.reads items (sym opens.deck ∙ e) in
        (reads-allowed jobs card (card-does jobs) card-plain (devices_at opening) part items e did.five.card_history did.five.card_follows reads.0 reads.2
        reads.3).0

    allowed-at : (p : ℕ) → IsProcess p → Allowed_at p
    allowed-at p one =
        ending.each-process jobs Allowed_at p one (card-allowed opening.deck refl)
        (none-used jobs input (input-does jobs) input-plain (devices_at opening) part did.five.input_history did.five.input_follows)
        (loads-allowed jobs (job J) (job-does jobs) job-plain (devices_at opening) part did.five.job_history did.five.job_follows
        (λ found e. did.files.loads found (opens.files found e)))
        (none-used jobs output (output-does jobs) output-plain (devices_at opening) part did.five.output_history did.five.output_follows)
        (prints-allowed jobs printer (printer-does jobs) printer-plain (devices_at opening) part did.five.printer_history did.five.printer_follows
        did.paper.gave.1)

    thread-at : (p : ℕ) → IsProcess p → IsThread (core J (process J)) p (devices_at opening) (deeds p)
    thread-at p one = record {
      follows = follows-to p (H p) (follows p);
      answered = answered-all jobs part (histories did.five p) (did.ends p one).prompt;
      allowed = allowed-at p one;
      gave_back = holds-are jobs (process J) p (H p) (follows p)
          ∙ (histories_keep J (process J p) (H p) ((the-five jobs).relays p) (follows p)).ended_free
          (outcome_at ran.outcomes p, subst (λ h. newest h ≡ Some (act.Ended (outcome_at ran.outcomes p))) (sym (same p)) (did.ends p one).ended);
    }

    beside : SideBySide (core J (process J)) IsBuffer (over opening deeds first)
    beside = record {
      threads = thread-at;
      met = λ b at. each-buffer (MetAt opening.spools) b at cards-met input-met output-met lines-met;
      some = λ b at. each-buffer (λ b. 1 ≤ size_of opening.spools b) b at (lit≤ tt) opening.bounds.input_some opening.bounds.output_some (lit≤ tt);
    }

    -- ---- the run
    paper-then : (paper : Option (List ℕ)) → opening.paper ≡ paper
        → (stood (core J (process J)) (devices_at opening) (deeds 5)).paper ≡ given ran.units.paper.sink
    paper-then None e =
        paper-untold jobs (devices_at opening) part did.five.printer_history e ∙ sym (did.paper.untold (sym opens.paper ∙ e))
    paper-then (Some before) e =
        paper-is jobs (devices_at opening) part before did.five.printer_history e ∙ sym (did.paper.gave.2 before (sym opens.paper ∙ e))

    deck-then : (items : List Item) → opening.deck ≡ Some items
        → (stood (core J (process J)) (devices_at opening) (deeds 1)).deck ≡ items_ahead (left ran.units.deck.source) ran.units.deck.pending
    deck-then items e =
        let reads = did.deck.reads items (sym opens.deck ∙ e) in
        (reads-allowed jobs card (card-does jobs) card-plain (devices_at opening) part items e did.five.card_history did.five.card_follows reads.0 reads.2
        reads.3).1
        ∙ sym reads.1

    pub is-a-run : IsARun J left taken_from source_faults given sink_faults loader from_size input_told input_faults to_size output_told output_faults
        units ran did
        opening
    is-a-run =
        let run = five-are-a-run jobs opening deeds first beside in
        record {
          state = run.state;
          reached = run.reached;
          holds = reached-holds jobs opening run.state run.reached;
          same = λ p one. run.histories p one ∙ same p;
          stopped = run.stopped;
          deck = λ items e. run.deck ∙ deck-then items e;
          paper = run.paper ∙ paper-then opening.paper refl;
        }
