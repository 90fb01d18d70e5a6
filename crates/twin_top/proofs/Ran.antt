-- What a run of the six and the line behind it come to.
use Rattle.std.proofs.Common.{◌≡◌, ◌⊎◌, inl, inr, ◌<◌, ◌≤◌, ◌+◌, ℕ, List, [], ◌∷◌, ◌++◌, length, Bool, true, false, nat_le, Option, Some, None, refl, sym, ◌∙◌, ap, subst, arith}
use Rattle.std.specs.Prelude.{IfSome}
use Rattle.std.proofs.lemmas.Bool.Decides.{nat_tests}
use Rattle.solo_base.specs.declared.item.Item.{Item}
use Rattle.solo_base.specs.declared.outcome.Cause.{Cause}
use Rattle.solo_base.specs.declared.outcome.Cause.TheVariants as cause
use Rattle.solo_base.specs.declared.outcome.Outcome.TheVariants as outcome
use Rattle.solo_base.specs.declared.outcome.Side.{Side}
use Rattle.solo_base.specs.Text.{line_text, text}
use Rattle.solo_devices.specs.Count.{Rose}
use Rattle.solo_devices.specs.CardUnit.{byte_limit, bytes_total, IsAllTaken}
use Rattle.solo_devices.specs.PrinterUnit.{Gains}
use Rattle.network_run.specs.declared.counts.Counts.{Counts}
use Rattle.network_run.specs.declared.rules.Rule.TheVariants.{Numbered}
use Rattle.disk_contents.specs.declared.loading.Loaded.{Loaded}
use Rattle.batch_job.specs.Report.{Loads}
use Rattle.batch_job.specs.OneThread.{one_thread_output}
use Rattle.deck_work.specs.DeckJobs.{deck_jobs, files_found}
use Rattle.twin_law.specs.Twin.{Devices}
use Rattle.twin_ends.specs.declared.units.TwinOutcomes.{TwinOutcomes}
use Rattle.twin_net.specs.Ended.{TwinFaultsAre, TwinTogether, twin_all_done}
use Rattle.twin_net.specs.TwinRuns.{TwinRunsToEnd}
use Rattle.run_report.specs.Decides.{decides}
use Rattle.run_report.specs.Status.{number_of}
use Rattle.run_report.specs.Told.{SinkTold}
use Rattle.run_report.proofs.Adding.{both, without, gains-same}
use Rattle.run_report.proofs.Lowest.{among, no-fault, least}
use Rattle.twin_top.specs.Kit.{TwinKit, twin_over}
use Rattle.twin_top.specs.Runs.{AreGiven, EndedWith, IsReadWhole, LineFailed, NoneAtFault, PrintsCounts, SixRan, counts_as_line, six_outcomes}
use Rattle.twin_top.proofs.Reasons.{AreCountedSo, ComesOf}
use Rattle.twin_top.proofs.SixOutcomes.{all-done}

-- What the line behind the six comes to, by the cause that decides.
pub record ComesTo {K : Type 0} (mid after : SinkTold K) (outcomes : TwinOutcomes) (counts : Counts) (answer : Option Cause) : Type 0 where
  pub faulty : (why : Cause) → decides (six_outcomes outcomes) ≡ Some why → (answer ≡ Some why) × (after ≡ mid)
  pub faultless : decides (six_outcomes outcomes) ≡ None → PrintsCounts mid after counts answer

module _ {S K F A : Type 0} (before after : TwinKit S K F A) (mid : SinkTold K) (outcomes : TwinOutcomes) (counts : Counts)
    (answer : Option Cause) (comes : ComesTo mid after.paper outcomes counts answer) (on : before.paper.faults ≤ mid.faults) where
  moved : (c : Cause) → LineFailed mid after.paper c → LineFailed before.paper after.paper c
  moved c (inl is) = inl (is.0, (let rose = is.1 in omega (arith, on, rose)))
  moved c (inr is) = inr is

  failed-of : (answer : Option Cause) → IfSome answer (LineFailed mid after.paper) → IfSome answer (LineFailed before.paper after.paper)
  failed-of None is = tt
  failed-of (Some why) is = moved why is

  behind-of : (answer : Option Cause) → IfSome answer (LineFailed mid after.paper) → IfSome answer (ComesOf before after outcomes)
  behind-of None is = tt
  behind-of (Some why) is = inr (moved why is)

  pub one-of : (found : Option Cause) → decides (six_outcomes outcomes) ≡ found → IfSome answer (ComesOf before after outcomes)
  one-of None is = behind-of answer (comes.faultless is).failed
  one-of (Some why) is =
      subst (λ answer. IfSome answer (ComesOf before after outcomes)) (sym (comes.faulty why is).0) (inl (among (six_outcomes outcomes) why is))

  pub lowest-of : (found : Option Cause) → decides (six_outcomes outcomes) ≡ found → (fault : Cause) → EndedWith outcomes fault
      → (why : Cause) × (answer ≡ Some why) × EndedWith outcomes why × (number_of why ≤ number_of fault)
  lowest-of None is fault at = absurd (no-fault (six_outcomes outcomes) is fault at)
  lowest-of (Some why) is fault at =
      (why, (comes.faulty why is).0, among (six_outcomes outcomes) why is, least (six_outcomes outcomes) why is fault at)

  -- no count falls behind the six
  later-by : (found : Option Cause) → decides (six_outcomes outcomes) ≡ found → mid.faults ≤ after.paper.faults
  later-by None is = (comes.faultless is).on
  later-by (Some why) is = (let same = ap (λ (told : SinkTold K). told.faults) (comes.faulty why is).1 in omega (arith, same))

  pub later-on : mid.faults ≤ after.paper.faults
  later-on = later-by (decides (six_outcomes outcomes)) refl

  unprinted-of : (found : Option Cause) → decides (six_outcomes outcomes) ≡ found → (fault : Cause) → EndedWith outcomes fault
      → after.paper.given ≡ mid.given
  unprinted-of None is fault at = absurd (no-fault (six_outcomes outcomes) is fault at)
  unprinted-of (Some why) is fault at = ap (λ (told : SinkTold K). told.given) (comes.faulty why is).1

  printed-of : (found : Option Cause) → decides (six_outcomes outcomes) ≡ found → NoneAtFault outcomes
      → Gains mid.given after.paper.given (line_text (counts_as_line counts)) (answer ≡ None) × IfSome answer (LineFailed before.paper after.paper)
  printed-of None is none = ((comes.faultless is).gains, failed-of answer (comes.faultless is).failed)
  printed-of (Some why) is none = absurd (none why (among (six_outcomes outcomes) why is))

  pub prints-of : (found : Option Cause) → decides (six_outcomes outcomes) ≡ found → (lines : List (List ℕ))
      → Gains before.paper.given mid.given (text lines) (outcomes ≡ twin_all_done) → (NoneAtFault outcomes → outcomes ≡ twin_all_done)
      → Gains before.paper.given after.paper.given (text (lines ++ counts_as_line counts ∷ [])) (answer ≡ None)
  prints-of None is lines gains done =
      both before.paper.given mid.given after.paper.given lines (counts_as_line counts) (outcomes ≡ twin_all_done) (answer ≡ None)
      (done (no-fault (six_outcomes outcomes) is)) gains (comes.faultless is).gains
  prints-of (Some why) is lines gains done =
      let same = comes.faulty why is in
      let never : answer ≡ None → ⊥ = λ none. (let no : Some why ≡ None = sym same.0 ∙ none in cc) in
      without before.paper.given after.paper.given lines (counts_as_line counts) (answer ≡ None) never
      (gains-same _ _ _ _ _ _ _ _ refl (sym (ap (λ (told : SinkTold K). told.given) same.1)) refl (λ none. absurd (never none)) gains)

  -- where there is no cause none has a fault
  none-of : answer ≡ None → NoneAtFault outcomes
  none-of none fault at =
      let low = lowest-of (decides (six_outcomes outcomes)) refl fault at in
      let no : Some low.0 ≡ None = sym low.1 ∙ none in
      cc

  -- ---- the deck
  module _ (counted : AreCountedSo before after outcomes) (zero : before.deck.taken ≡ 0)
      (total : bytes_total after.deck.taken after.deck.left ≡ bytes_total before.deck.taken before.deck.left) where
    taken-of : (left told : Option (List ℕ)) (bytes : List ℕ) → told ≡ Some bytes → IsAllTaken left
        → bytes_total after.deck.taken left ≡ bytes_total before.deck.taken told → (left ≡ Some []) × (after.deck.taken ≡ length bytes)
    taken-of None told bytes is all total =
        absurd (let no : None ≡ Some (before.deck.taken + length bytes) = total ∙ ap (bytes_total before.deck.taken) is in cc)
    taken-of (Some rest) told bytes is all total =
        let both : Some (after.deck.taken + length rest) ≡ Some (before.deck.taken + length bytes) = total ∙ ap (bytes_total before.deck.taken) is in
        let same : after.deck.taken + length rest ≡ before.deck.taken + length bytes = cc in
        let none : length rest ≡ 0 = ap length (all rest refl) in
        (ap Some (all rest refl), omega (arith, same, none, zero))

    few-of : (bytes : List ℕ) → outcomes ≡ twin_all_done → after.deck.taken ≡ length bytes → length bytes ≤ byte_limit
    few-of bytes done same = within (nat_le (length bytes) byte_limit) refl where
      within : (test : Bool) → nat_le (length bytes) byte_limit ≡ test → length bytes ≤ byte_limit
      within true is = grind (arith, nat_tests)
      within false is =
          let more : byte_limit < length bytes = grind (arith, nat_tests) in
          let card : outcomes.card ≡ outcome.Fault cause.DeckLimit = counted.longer (omega (arith, more, same)) in
          absurd (let no : outcome.Done ≡ outcome.Fault cause.DeckLimit = sym (ap (λ (o : TwinOutcomes). o.card) done) ∙ card in cc)

    pub reads-of : (bytes : List ℕ) → before.deck.left ≡ Some bytes → IsAllTaken after.deck.left → outcomes ≡ twin_all_done
        → IsReadWhole after.deck bytes
    reads-of bytes told all done =
        let both = taken-of after.deck.left before.deck.left bytes told all total in (both.0, few-of bytes done both.1)

  -- ---- all of it
  pub six-ran : (schedule : ℕ) (stops : List (Option Side)) (deck : Option (List Item)) (files : Option Loads)
      → TwinRunsToEnd deck_jobs (Numbered schedule) (twin_over before) counts outcomes stops record { deck = deck; paper = mid.given; files = files }
      → TwinFaultsAre outcomes
      → ((bytes : List ℕ) (found : Loads) → AreGiven before bytes found → TwinTogether outcomes)
      → ((bytes : List ℕ) (found : Loads) → AreGiven before bytes found
      → Gains before.paper.given mid.given (text (one_thread_output found bytes)) (outcomes ≡ twin_all_done))
      → ((bytes : List ℕ) → before.deck.left ≡ Some bytes → outcomes ≡ twin_all_done → IsReadWhole after.deck bytes)
      → SixRan schedule before after answer
  six-ran schedule stops deck files runs faults together reports reads = record {
    outcomes = outcomes;
    stopped_by = stops;
    counts = counts;
    devices = record { deck = deck; paper = mid.given; files = files };
    runs = runs;
    faults = faults;
    lowest = lowest-of (decides (six_outcomes outcomes)) refl;
    unprinted = unprinted-of (decides (six_outcomes outcomes)) refl;
    printed = printed-of (decides (six_outcomes outcomes)) refl;
    done = λ bytes found given none. all-done outcomes none (together bytes found given);
    reports = reports;
    prints = λ bytes found given.
        prints-of (decides (six_outcomes outcomes)) refl (one_thread_output found bytes) (reports bytes found given)
        (λ none. all-done outcomes none (together bytes found given));
    reads = reads;
    empties = λ bytes found given none. reads bytes given.deck (all-done outcomes (none-of none) (together bytes found given));
  }
