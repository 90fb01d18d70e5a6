-- What a run of Solo's three processes tells of the session, as a command.
use Rattle.std.proofs.Common.{◌≡◌, inl, inr, ◌<◌, ℕ, List, [], ◌∷◌, ◌++◌, length, Option, Some, None, refl, sym, ◌∙◌, ap, subst, arith}
use Rattle.std.specs.Prelude.{Contains}
use Rattle.solo_base.specs.Card.{cards}
use Rattle.solo_base.specs.declared.outcome.Outcome.{Outcome}
use Rattle.solo_base.specs.declared.outcome.Outcome.TheVariants as outcome
use Rattle.solo_base.specs.declared.outcome.Cause.TheVariants as cause
use Rattle.solo_devices.specs.Count.{Stayed}
use Rattle.solo_devices.specs.CardUnit.{byte_limit, bytes_total, items_ahead}
use Rattle.disk_layout.specs.Files.{Files, files}
use Rattle.disk_layout.specs.Format.{IsSoloDisk}
use Rattle.disk_files.specs.Answers.{Told}
use Rattle.solo_needs.specs.Needs.{Given}
use Rattle.place_law.specs.Ending.{HasEndedSo}
use Rattle.solo_task.specs.Session.{session, last_map}
use Rattle.solo_law.specs.Devices.{Devices}
use Rattle.solo_law.specs.Solo.{IsProcess, IsReached, SoloState, table}
use Rattle.solo_law.specs.Told.{begun}
use Rattle.solo_law.proofs.Placed.{is-2}
use Rattle.session_law.specs.Plans.{at_rest, behind_pieces, maps_passed, session_plan}
use Rattle.session_law.specs.Tells.{AreFirstMaps, Tells}
use Rattle.session_law.proofs.Told.{tells-so}
use Rattle.solo_ends.specs.Ends.{all_done, outcome_at}
use Rattle.solo_run.specs.Ran.{HavePassed}
use Rattle.session_work.specs.Facing.{PassedTo}
use Rattle.run_report.proofs.Adding.{gains-same}
use Rattle.solo_cli.specs.declared.refusal.Refusal.{Refusal}
use Rattle.solo_cli.specs.Causes.{EndsBy, session_statuses}
use Rattle.solo_cli.specs.Devices.{Kit}
use Rattle.solo_cli.specs.Ready.{MayBeGiven}
use Rattle.solo_cli.specs.Reasons.{Answers}
use Rattle.solo_cli.specs.Sessions.{HaveFiles, RunsSession, SessionEnds, TellsSession}
use Rattle.solo_cli.specs.Uses.{Kept, session_used}
use Rattle.solo_cli.proofs.SessionEnding.{beyond, few-typed, is-3, session-answers}
use Rattle.solo_cli.proofs.SessionFiles.{among-maps, typed-to-end}

-- ---- what the run is
-- the area tells the files to which work that began so led, and a Solo disk is still one
pub record AreLedTo (opening : List (List ℕ)) (before : List Given) (now : Option (List (List ℕ))) : Type 0 where
  pub left : List (List ℕ)
  pub told : now ≡ Some left
  pub files : files left ≡ (behind_pieces before (at_rest (files opening))).files
  pub solo : IsSoloDisk opening → IsSoloDisk left

-- The run behind the command: it began with these cards, typed lines and files, ended so, and left the files
-- somewhere along its work.
pub record RanSession {S Y K T F I O : Type 0} (before after : Kit S Y K T F I O) (outcomes : List Outcome) (deck typed : List ℕ)
    (pages : List (List ℕ)) : Type 0 where
  pub devices : Devices
  pub state : SoloState
  pub reached : IsReached devices state
  pub deck_told : devices.cards ≡ Some (cards deck)
  pub keys_told : devices.keys ≡ Some (cards typed)
  pub work_told : devices.work ≡ Some (session_plan (files pages))
  pub console_was : devices.console ≡ before.console.given
  pub paper_was : devices.paper ≡ before.paper.given
  pub console_now : state.devices.console ≡ after.console.given
  pub paper_now : state.devices.paper ≡ after.paper.given
  pub pending : List ℕ
  pub keys_now : state.devices.keys ≡ items_ahead after.keys.left pending
  pub ended : (p : ℕ) → IsProcess p → HasEndedSo table state p (outcome_at outcomes p)
  pub led : outcome_at outcomes 2 ≡ outcome.Done → AreLedTo pages (begun (state.histories 2)) after.files.pages
  pub passed : (outcome_at outcomes 2 ≡ outcome.Fault cause.DiskFault → ⊥)
      → HavePassed devices (PassedTo pages) (begun (state.histories 2)) after.files.pages

-- what a session does, and why it ended so
abbrev pub AsSession : {S Y K T F I O : Type 0} → Kit S Y K T F I O → Kit S Y K T F I O → Option Refusal → Type 0
AsSession before after answer = RunsSession before after answer × Answers session_used (EndsBy session_statuses) before after answer

module _ {S Y K T F I O : Type 0} {before after : Kit S Y K T F I O} {answer : Option Refusal} where
  module _ (ends : SessionEnds before after answer) (deck typed : List ℕ) (pages : List (List ℕ)) (solo : IsSoloDisk pages)
      (ran : RanSession before after ends.outcomes deck typed pages) where
    abbrev all : Files
    all = files pages

    told : Tells (cards deck) (cards typed) all ran.devices ran.state
    told = tells-so (cards deck) (cards typed) all ran.devices ran.state ran.reached ran.deck_told ran.keys_told ran.work_told

    -- ---- the ends
    ended-at : (p : ℕ) → IsProcess p → outcome_at all_done p ≡ outcome.Done → answer ≡ None → HasEndedSo table ran.state p outcome.Done
    ended-at p one is none =
        subst (HasEndedSo table ran.state p) (ap (λ row. outcome_at row p) (ends.done none) ∙ is) (ran.ended p one)

    -- ---- the files
    first-maps : (givens : List Given) → AreFirstMaps (cards deck) (cards typed) all givens → PassedTo pages givens after.files.pages
        → (now : Files) × Contains (session (cards typed) (cards deck) all).maps now × Told after.files.pages (HaveFiles now)
    first-maps givens first p = (
      files p.left,
      among-maps (files p.left) all (maps_passed givens (at_rest all)) first.0 (session (cards typed) (cards deck) all).maps first.1 p.comes,
      (p.left, p.told, (p.solo solo, refl)),
    )

    one-of-maps : HavePassed ran.devices (PassedTo pages) (begun (ran.state.histories 2)) after.files.pages
        → (now : Files) × Contains (session (cards typed) (cards deck) all).maps now × Told after.files.pages (HaveFiles now)
    one-of-maps (inl p) = first-maps (begun (ran.state.histories 2)) told.maps p
    one-of-maps (inr off) =
        let then = tells-so (cards deck) (cards typed) all ran.devices off.state off.reached ran.deck_told ran.keys_told ran.work_told in
        first-maps (begun (off.state.histories 2) ++ off.work.given ∷ []) (then.next_maps off.work off.free off.at) off.passed

    not-failed : Stayed before.files.faults after.files.faults → outcome_at ends.outcomes 2 ≡ outcome.Fault cause.DiskFault → ⊥
    not-failed stayed at = (let rose = ends.counted.disk at in omega (arith, rose, stayed))

    job-done : answer ≡ None → outcome_at ends.outcomes 2 ≡ outcome.Done
    job-done none = ap (λ row. outcome_at row 2) (ends.done none)

    last-files : answer ≡ None → Told after.files.pages (HaveFiles (last_map (cards typed) (cards deck) all))
    last-files none =
        let led = ran.led (job-done none) in
        (led.left, led.told, (led.solo solo, led.files ∙ told.last_files (ended-at 2 is-2 refl none)))

    -- ---- all of it
    tells-session : before.keys.taken ≡ 0 → bytes_total after.keys.taken after.keys.left ≡ bytes_total before.keys.taken before.keys.left
        → (answer ≡ None → byte_limit < after.keys.taken → ⊥)
        → TellsSession (session (cards typed) (cards deck) all) (last_map (cards typed) (cards deck) all) before after answer
    tells-session zero total few = record {
      console = gains-same _ _ _ _ _ _ _ _ ran.console_was ran.console_now refl (ended-at 2 is-2 refl) told.console;
      paper = gains-same _ _ _ _ _ _ _ _ ran.paper_was ran.paper_now refl
          (λ none. (ended-at 2 is-2 refl none, ended-at 3 is-3 refl none)) told.paper;
      keys = typed-to-end ran.pending zero total (λ none. sym ran.keys_now ∙ told.keys_end (ended-at 2 is-2 refl none)) few;
      last_files = last-files;
      files = λ stayed. one-of-maps (ran.passed (not-failed stayed));
    }

  pub session-ran : (ends : SessionEnds before after answer) → length ends.outcomes ≡ 3 → MayBeGiven before
      → bytes_total after.deck.taken after.deck.left ≡ bytes_total before.deck.taken before.deck.left
      → bytes_total after.keys.taken after.keys.left ≡ bytes_total before.keys.taken before.keys.left
      → Kept session_used before after → after.files.size ≡ before.files.size
      → ((deck typed : List ℕ) (pages : List (List ℕ)) → before.deck.left ≡ Some deck → before.keys.left ≡ Some typed
      → before.files.pages ≡ Some pages → IsSoloDisk pages → RanSession before after ends.outcomes deck typed pages)
      → AsSession before after answer
  session-ran ends three ready deck_total keys_total kept size runs = (
    record {
      tells = λ deck typed pages deck_told keys_told files_told solo.
          tells-session ends deck typed pages solo (runs deck typed pages deck_told keys_told files_told solo) ready.keys keys_total
          (λ none more. few-typed answer none (beyond ends three ready.deck ready.keys (inr more)));
      ends = inl ends;
    },
    session-answers ends three ready.deck ready.keys deck_total keys_total kept size,
  )
