-- What a run of the deck comes to as a command.
use Rattle.std.proofs.Common.{◌≡◌, inl, true, ℕ, [], ◌∷◌, Option, Some, None, refl, sym, ◌∙◌, subst, arith}
use Rattle.std.specs.Prelude.{IfSome}
use Rattle.solo_base.specs.Card.{cards}
use Rattle.solo_base.specs.Text.{line_text}
use Rattle.solo_base.specs.declared.outcome.Cause.TheVariants as cause
use Rattle.solo_devices.specs.CardUnit.{items_ahead}
use Rattle.batch_job.specs.OneThread.{one_thread_output}
use Rattle.deck_work.specs.DeckJobs.{deck_jobs, files_found}
use Rattle.deck_work.specs.DeckLaws.{found_are_loads}
use Rattle.net_core.specs.WholeRuns.{RunsToEnd}
use Rattle.network_run.specs.Law.{IsReached}
use Rattle.core_law.specs.Core.{CoreState}
use Rattle.core_law.specs.Ends.{HasEndedSo, IsProcess}
use Rattle.core_law.specs.Opening.{opened}
use Rattle.core_law.specs.TheLaw.{the_law}
use Rattle.core_replay.specs.Five.{AreFirstStops}
use Rattle.batch_ends.specs.Ended.{outcome_at, stopped_at}
use Rattle.disk_contents.specs.declared.loading.Loaded.{Loaded}
use Rattle.network_run.specs.declared.counts.Counts.{Counts}
use Rattle.network_run.specs.declared.rules.Rule.TheVariants.{Numbered}
use Rattle.page_codec.proofs.CardItems.{card-items}
use Rattle.run_report.specs.CountsLine.{counts_line}
use Rattle.run_report.specs.Told.{AreaTold, SinkTold}
use Rattle.run_report.proofs.Adding.{both}
use Rattle.solo_cli.specs.declared.refusal.Refusal.{Refusal}
use Rattle.solo_cli.specs.Causes.{run_statuses}
use Rattle.solo_cli.specs.DeckRan.{RanCore, RanDeck, RanFive}
use Rattle.solo_cli.specs.DeckRuns.{CoreEnds, RunsBatch, RunsCore, core_over, spools_told}
use Rattle.solo_cli.specs.Decides.{LineBehind}
use Rattle.solo_cli.specs.Devices.{DeckKit}
use Rattle.solo_cli.specs.Printing.{PrintsBytes}
use Rattle.solo_cli.specs.Ready.{MayRunDeck}
use Rattle.solo_cli.proofs.Counted.{counted-whole}
use Rattle.solo_cli.proofs.DeckAnswers.{deck-known, deck-reasons, later-line}
use Rattle.solo_cli.proofs.LowestCause.{comes-behind, met}
use Rattle.solo_cli.proofs.Mounted.{IsMounted, core-on, mounts-files, on-area}
use Rattle.solo_cli.proofs.ReadToEnd.{reads-to-end}
use Rattle.solo_cli.proofs.Tables.{never}
use Rattle.solo_cli.proofs.Uncounted.{uncounted}
use Rattle.solo_cli.proofs.Unmounted.{both-tell, in-bounds}

-- devices that are ready are so with their files mounted
pub mounted-ready : {S K F I O : Type 0} {before : DeckKit S K F I O} {files : AreaTold F} → IsMounted before.files files → MayRunDeck before
    → MayRunDeck (record before { files = files })
mounted-ready m ready =
    record { deck = ready.deck; files = m.size ∙ ready.files; input = ready.input; output = ready.output }

module _ {S K F I O : Type 0} {before : DeckKit S K F I O} {files : AreaTold F} (m : IsMounted before.files files) (ready : MayRunDeck before) where
  -- ---- `batch`
  pub batch-ran : {after : DeckKit S K F I O} {answer : Option Refusal} (ran : RanFive (record before { files = files }) after answer)
      (state : CoreState Loaded)
      → IsReached (the_law deck_jobs) (core_over (record before { files = files }) (items_ahead before.deck.left []) before.paper.given) state
      → ((p : ℕ) → IsProcess p → HasEndedSo state (outcome_at ran.ends.five.outcomes p) p)
      → AreFirstStops deck_jobs state (stopped_at ran.ends.five.stopped_by) → state.devices.paper ≡ after.paper.given
      → RanDeck RunsBatch true (7 ∷ run_statuses) before after answer
  batch-ran {after = after} {answer = answer} ran state reached each stopped paper =
      let r : RanFive before after answer = on-area m ran in
      let reasons = deck-reasons r.ends (λ why none. absurd none) r.undamaged r.total r.size in
      record {
        runs = record {
          prints = r.prints;
          reads = reads-to-end ready.deck r.total r.all_taken reasons.beyond;
          ends = inl record {
            ends = r.ends;
            state = state;
            reached = subst (λ pages. IsReached (the_law deck_jobs)
                (opened (spools_told before) (items_ahead before.deck.left []) before.paper.given (files_found pages)) state) m.left reached;
            each = each;
            stopped = stopped;
            paper = paper;
          };
        };
        mounts = mounts-files m r.left (λ page. never run_statuses answer (deck-known r.ends (λ why none. absurd none)) (cause.NotSolo page) refl);
        reasons = reasons;
      }

  -- ---- `core`
  module _ (n : ℕ) {mid : DeckKit S K F I O} {counts : Counts} where
    -- a run that met a fault
    core-failed : (why : Refusal) → RanCore (Numbered n) before mid (Some why) counts
        → RanDeck (RunsCore n) true (7 ∷ run_statuses) before mid (Some why)
    core-failed why r =
        let ends : CoreEnds (Numbered n) before mid (Some why) = record {
          ends = record { five = met (LineBehind before mid) (Some why) r.ran.ends.five; counted = r.ran.ends.counted };
          own = r.own;
          counts = counts;
          devices = r.devices;
          runs = r.runs;
        } in
        let reasons = deck-reasons ends.ends (λ why behind. behind) r.ran.undamaged r.ran.total r.ran.size in
        record {
          runs = record {
            prints = λ bytes found told files spools.
                uncounted (Numbered n) (spools_told before) (files_found before.files.pages) found bytes before.paper.given mid.paper.given
                (Some why ≡ None) (found_are_loads before.files.pages) files (in-bounds ready) (both-tell spools) (λ none. cc)
                (r.ran.prints bytes found told files spools);
            reads = reads-to-end ready.deck r.ran.total (λ none. absurd cc) reasons.beyond;
            ends = inl ends;
          };
          mounts = mounts-files m r.ran.left (λ page. never run_statuses (Some why) (deck-known ends.ends (λ why behind. behind)) (cause.NotSolo page) refl);
          reasons = reasons;
        }

    -- one that is done, and the line of its counts behind it
    core-done : {answer : Option Refusal} (paper : SinkTold K) → RanCore (Numbered n) before mid None counts
        → PrintsBytes mid.paper paper (line_text (counts_line counts.events counts.delays counts.grants)) answer
        → RanDeck (RunsCore n) true (7 ∷ run_statuses) before (record mid { paper = paper }) answer
    core-done {answer = answer} paper r p =
        let on = r.ran.print_on in
        let on_then = p.counts in
        let after : DeckKit S K F I O = record mid { paper = paper } in
        let ends : CoreEnds (Numbered n) before after answer = record {
          ends = record {
            five = comes-behind (LineBehind before after) answer r.ran.ends.five
                (later-line before after answer p.known (λ is. (let rose = p.failed is in omega (arith, on, rose))));
            counted = record {
              read = r.ran.ends.counted.read;
              limit = r.ran.ends.counted.limit;
              longer = r.ran.ends.counted.longer;
              input = r.ran.ends.counted.input;
              job = r.ran.ends.counted.job;
              output = r.ran.ends.counted.output;
              print = λ is. (let rose = r.ran.ends.counted.print is in omega (arith, rose, on_then));
            };
          };
          own = r.own;
          counts = counts;
          devices = r.devices;
          runs = r.runs;
        } in
        let reasons = deck-reasons ends.ends (λ why behind. behind) r.ran.undamaged r.ran.total r.ran.size in
        record {
          runs = record {
            prints = λ bytes found told files spools. record {
              counts = counts;
              counted = counted-whole (spools_told before) (cards bytes) found (found_are_loads before.files.pages) (in-bounds ready)
                  (card-items bytes) files
                  (subst (λ left. RunsToEnd deck_jobs (Numbered n) (core_over before (items_ahead left []) before.paper.given) counts
                  r.ran.ends.five.outcomes r.ran.ends.five.stopped_by r.devices) told r.runs) (both-tell spools) (r.ran.ends.five.done refl);
              gains = both before.paper.given mid.paper.given paper.given (one_thread_output found bytes)
                  (counts_line counts.events counts.delays counts.grants) (None ≡ None) (answer ≡ None) refl
                  (r.ran.prints bytes found told files spools) p.gains;
            };
            reads = reads-to-end ready.deck r.ran.total (λ none. r.ran.all_taken refl) reasons.beyond;
            ends = inl ends;
          };
          mounts = mounts-files m r.ran.left (λ page. never run_statuses answer (deck-known ends.ends (λ why behind. behind)) (cause.NotSolo page) refl);
          reasons = reasons;
        }

    core-met : {answer : Option Refusal} (paper : SinkTold K) (cause : Option Refusal) → RanCore (Numbered n) before mid cause counts
        → IfSome cause (λ why. (answer ≡ Some why) × (paper ≡ mid.paper))
        → (cause ≡ None → PrintsBytes mid.paper paper (line_text (counts_line counts.events counts.delays counts.grants)) answer)
        → RanDeck (RunsCore n) true (7 ∷ run_statuses) before (record mid { paper = paper }) answer
    core-met paper None r fault prints = core-done paper r (prints refl)
    core-met {answer = answer} paper (Some why) r fault prints =
        subst (λ paper. RanDeck (RunsCore n) true (7 ∷ run_statuses) before (record mid { paper = paper }) answer) (sym fault.1)
        (subst (λ answer. RanDeck (RunsCore n) true (7 ∷ run_statuses) before mid answer) (sym fault.0) (core-failed why r))

    pub core-ran : {answer : Option Refusal} (paper : SinkTold K) (cause : Option Refusal)
        → RanCore (Numbered n) (record before { files = files }) mid cause counts
        → IfSome cause (λ why. (answer ≡ Some why) × (paper ≡ mid.paper))
        → (cause ≡ None → PrintsBytes mid.paper paper (line_text (counts_line counts.events counts.delays counts.grants)) answer)
        → RanDeck (RunsCore n) true (7 ∷ run_statuses) before (record mid { paper = paper }) answer
    core-ran paper cause r = core-met paper cause (core-on m r)
