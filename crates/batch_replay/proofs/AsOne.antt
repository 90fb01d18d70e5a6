-- How a batch ran, and the run of the core that it is.
use Rattle.std.proofs.Common.{◌≡◌, ℕ, List, Option, Some, refl, ◌∙◌, ap, subst}
use Rattle.solo_base.specs.declared.item.Item.{Item}
use Rattle.solo_devices.specs.CardUnit.{items_ahead}
use Rattle.batch_procs.specs.Jobs.{Jobs, AreJobs, FilesAs}
use Rattle.batch_procs.specs.History.{newest}
use Rattle.network_run.specs.Law as run
use Rattle.core_law.specs.Ends.{IsProcess, HasEndedSo}
use Rattle.core_law.specs.Opening.{Spools, AreInBounds, AreGoodFiles, opened}
use Rattle.core_law.specs.TheLaw.{the_law}
use Rattle.batch_ends.specs.declared.ends.Ran.{Ran}
use Rattle.batch_ends.specs.declared.units.Units.{Units}
use Rattle.batch_ends.specs.Ended.{outcome_at}
use Rattle.batch_ends.specs.Openings.{spools_over}
use Rattle.batch_ends.proofs.ToldCards.{told-cards}
use Rattle.batch_sides.specs.Files.{FileTells}
use Rattle.batch_replay.specs.FiveRan.{BatchRan}
use Rattle.batch_replay.specs.Told.{BatchOpens, HasOpening, IsARun, RanAsOne}
use Rattle.batch_replay.proofs.Run.{is-a-run}

module _ {L : Type 0} {J : Jobs L} (jobs : AreJobs J) {S K F A B : Type 0} (left : S → Option (List ℕ)) (taken_from source_faults : S → ℕ)
    (given : K → Option (List ℕ)) (sink_faults : K → ℕ) (loader : FileTells L F) (from_size : A → ℕ) (input_told : A → Option (List (List ℕ)))
    (input_faults : A → ℕ) (to_size : B → ℕ) (output_told : B → Option (List (List ℕ))) (output_faults : B → ℕ) (units : Units S K F A B) (ran : Ran S K F A B)
    (did : BatchRan J left taken_from source_faults given sink_faults loader from_size input_told input_faults to_size output_told output_faults units ran)
  where
    pub opens-so : BatchOpens J left taken_from source_faults given sink_faults loader from_size input_told input_faults to_size output_told output_faults
        units ran did
    opens-so bounds files good tells = record {
      opening = record {
        spools = spools_over (from_size units.input) (input_told units.input) (to_size units.output) (output_told units.output);
        deck = items_ahead (left units.deck.source) units.deck.pending;
        paper = given units.paper.sink;
        files = files;
        bounds = bounds;
        cards = told-cards (left units.deck.source) units.deck.pending;
        good = good;
      };
      over = record { spools = refl; deck = refl; paper = refl; files = tells };
      tells = refl;
    }

    pub as-one : RanAsOne J left taken_from source_faults given sink_faults loader from_size input_told input_faults to_size output_told output_faults units ran
    as-one = record {
      did = did;
      run = λ opening opens.
          is-a-run jobs left taken_from source_faults given sink_faults loader from_size input_told input_faults to_size output_told output_faults units ran did
          opening opens;
      opens = opens-so;
    }

same-start : {L : Type 0} {s s_then : Spools} {deck deck_then : Option (List Item)} {paper paper_then : Option (List ℕ)} {files files_then : Option (FilesAs L)}
    → s ≡ s_then → deck ≡ deck_then → paper ≡ paper_then → files ≡ files_then → opened s deck paper files ≡ opened s_then deck_then paper_then files_then
same-start {s_then = s_then} {deck = deck} {deck_then = deck_then} {paper = paper} {paper_then = paper_then} {files = files} es ed ep ef =
    ap (λ s. opened s deck paper files) es ∙ ap (λ deck. opened s_then deck paper files) ed ∙ ap (λ paper. opened s_then deck_then paper files) ep
    ∙ ap (opened s_then deck_then paper_then) ef

module _ {L : Type 0} {J : Jobs L} {S K F A B : Type 0} {left : S → Option (List ℕ)} {taken_from source_faults : S → ℕ} {given : K → Option (List ℕ)}
    {sink_faults : K → ℕ} {loader : FileTells L F} {from_size : A → ℕ} {input_told : A → Option (List (List ℕ))} {input_faults : A → ℕ} {to_size : B → ℕ}
    {output_told : B → Option (List (List ℕ))} {output_faults : B → ℕ} {units : Units S K F A B} {ran : Ran S K F A B}
    (one : RanAsOne J left taken_from source_faults given sink_faults loader from_size input_told input_faults to_size output_told output_faults units ran)
    (bounds : AreInBounds (spools_over (from_size units.input) (input_told units.input) (to_size units.output) (output_told units.output)))
    (files : Option (FilesAs L)) (good : AreGoodFiles J files) (tells : (found : FilesAs L) → files ≡ Some found → loader.found units.files ≡ Some found) where
  abbrev start : HasOpening J left taken_from source_faults given sink_faults loader from_size input_told input_faults to_size output_told output_faults
      units ran one.did files
  start = one.opens bounds files good tells

  -- the state with these histories
  abbrev pub the-run : IsARun J left taken_from source_faults given sink_faults loader from_size input_told input_faults to_size output_told output_faults
      units ran one.did start.opening
  the-run = one.run start.opening start.over

  pub reached-so : run.IsReached (the_law J) (opened (spools_over (from_size units.input) (input_told units.input) (to_size units.output)
      (output_told units.output))
      (items_ahead (left units.deck.source) units.deck.pending) (given units.paper.sink) files) the-run.state
  reached-so = subst (λ first. run.IsReached (the_law J) first the-run.state)
      (same-start start.over.spools start.over.deck start.over.paper start.tells) the-run.reached

  pub ended-so : (p : ℕ) → IsProcess p → HasEndedSo the-run.state (outcome_at ran.outcomes p) p
  ended-so p at = ap newest (the-run.same p at) ∙ (one.did.ends p at).ended
