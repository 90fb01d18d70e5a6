-- Each reached state of Solo tells a first part of the session.
use Rattle.std.proofs.Common.{◌≡◌, ℕ, ◌≤◌, List, [], ◌∷◌, ◌++◌, length, Option, Some, refl, sym, ◌∙◌, ap, subst, arith, append_assoc}
use Rattle.std.proofs.lemmas.List.{append-nil}
use Rattle.solo_base.specs.Text.{text}
use Rattle.solo_base.specs.declared.item.Item.{Item}
use Rattle.solo_base.specs.declared.outcome.Outcome.TheVariants as outcome
use Rattle.solo_devices.specs.PrinterUnit.{Gains}
use Rattle.page_codec.specs.Items.{AreItems}
use Rattle.disk_layout.specs.Files.{Files}
use Rattle.place_law.specs.Ending.{HasEndedSo}
use Rattle.solo_needs.specs.Needs.{Given, OfLine, OfCards, OfTyped, OfNothing, Need}
use Rattle.solo_needs.specs.Handing.{Ahead, no_command}
use Rattle.solo_task.specs.Doing.{line_does}
use Rattle.solo_task.specs.Session.{Transcript, session, opening}
use Rattle.solo_task.specs.Needs.{Pause, WantsCards, WantsLine, GoesOn, or_idle, resumes, session_needs}
use Rattle.solo_task.specs.Laws.{last_of}
use Rattle.solo_task.specs.WholeRows.{no_files, stored_lines, stored_cards, stored_told}
use Rattle.solo_task.proofs.NeedsMet.{leaves-last}
use Rattle.solo_task.proofs.Sessions.{last-append, last-is-last}
use Rattle.solo_task.proofs.StoredRow.{stored-rows}
use Rattle.solo_law.specs.Work.{Plan, PlanFits}
use Rattle.solo_law.specs.Solo.{table}
use Rattle.solo_law.specs.Told.{needs, on_console, on_paper, lines_of_all, begun}
use Rattle.solo_law.proofs.Reached.{reached-holds}
use Rattle.solo_law.proofs.Shown.{lines-append}
use Rattle.solo_law.proofs.Sinks.{text-append}
use Rattle.session_law.specs.Plans.{FilesAndPause, at_rest, piece, behind, behind_pieces, session_plan, maps_passed, all_needs, NeedsAreTheSession}
use Rattle.session_law.specs.Tells.{EveryInterleavingTells, OpeningsAreSound, StoredSessionRuns}
use Rattle.session_law.proofs.Fitting.{plans-fit}
use Rattle.session_law.proofs.Lines.{lines-show, lines-print}
use Rattle.session_law.proofs.Pieces.{world, needs_ahead, maps_ahead, one-step, along, nothing-ahead}

-- ---- a part of more
gains-of-more : (before now : Option (List ℕ)) (part whole more : List ℕ) (all : Type 0) → Gains before now part all
    → whole ≡ part ++ more → (all → part ≡ whole) → Gains before now whole all
gains-of-more before now part whole more all g e same = record {
  told = λ given is.
      let t = g.told given is in
      record {
        part = t.part;
        now_is = t.now_is;
        prefix = record {
          rest = t.prefix.rest ++ more;
          whole_is = sym (append_assoc t.part t.prefix.rest more) ∙ ap (λ x. x ++ more) t.prefix.whole_is ∙ sym e;
        };
        all_is = λ done. t.all_is done ∙ same done;
      };
  untold = g.untold;
}

-- ---- the files
resumes-last : (given : Given) (files : Files) (pause : Pause) → (resumes given files pause).files ≡ last_of files (resumes given files pause).maps
resumes-last (OfLine item) files pause = leaves-last [] (or_idle (line_does item files)) files
resumes-last (OfCards cards spoiled) files (WantsCards hand more) = leaves-last hand (more (record { cards = cards; spoiled = spoiled })) files
resumes-last (OfTyped typed) files (WantsLine hand more) = leaves-last hand (more typed) files
resumes-last OfNothing files (GoesOn hand later) = leaves-last hand later files
resumes-last given files pause = refl

files-last : (givens : List Given) (s : FilesAndPause) → (behind_pieces givens s).files ≡ last_of s.files (maps_passed givens s)
files-last [] s = refl
files-last (given ∷ rest) s =
    files-last rest (behind given s) ∙ ap (λ all. last_of all (maps_passed rest (behind given s))) (resumes-last given s.files s.pause)
    ∙ sym (last-append s.files (piece given s).maps (maps_passed rest (behind given s)))

passed-one : (givens : List Given) (given : Given) (s : FilesAndPause)
    → maps_passed (givens ++ given ∷ []) s ≡ maps_passed givens s ++ (piece given (behind_pieces givens s)).maps
passed-one [] given s = append-nil (piece given s).maps
passed-one (first ∷ givens) given s =
    ap (λ maps. (piece first s).maps ++ maps) (passed-one givens given (behind first s))
    ∙ sym (append_assoc (piece first s).maps (maps_passed givens (behind first s)) (piece given (behind_pieces givens (behind first s))).maps)

-- ---- the needs of a session
not-more : (n : ℕ) → n ≤ n
not-more n = omega arith

pub needs-are : NeedsAreTheSession
needs-are cards keys files givens found last left handed e =
    let is = along (length keys) no_command (at_rest files) (record { cards = cards; keys = keys }) givens found last left tt
    (not-more (length keys)) handed e in
    (needs_ahead is.fuel (behind_pieces givens (at_rest files)).pause (world (behind_pieces givens (at_rest files)).files left), is.needs)

-- ---- a state
lines-more : (by : Need → List (List ℕ)) (whole : List Need) (lines : List (List ℕ)) (found more : List Need)
    → lines_of_all by whole ≡ lines → whole ≡ found ++ more → text lines ≡ text (lines_of_all by found) ++ text (lines_of_all by more)
lines-more by whole lines found more told e =
    ap text (sym told ∙ ap (lines_of_all by) e ∙ lines-append by found more) ∙ text-append (lines_of_all by found) (lines_of_all by more)

lines-all : (by : Need → List (List ℕ)) (whole : List Need) (lines : List (List ℕ)) (found more : List Need)
    → lines_of_all by whole ≡ lines → whole ≡ found ++ more → more ≡ [] → text (lines_of_all by found) ≡ text lines
lines-all by whole lines found more told e none =
    ap (λ x. text (lines_of_all by x)) (sym (append-nil found) ∙ ap (λ x. found ++ x) (sym none) ∙ sym e) ∙ ap text told

pub tells-so : EveryInterleavingTells
tells-so cards keys files devices s reached cards_told keys_told work_told =
    let holds = reached-holds devices s reached in
    let first : Ahead = record { cards = cards; keys = keys } in
    let is = holds.begins cards keys cards_told keys_told in
    let givens = begun (s.histories 2) in
    let found = needs (s.histories 2) in
    let on = along (length keys) no_command (at_rest files) first givens found is.last is.ahead tt (not-more (length keys)) is.handed
    (holds.works (session_plan files) work_told) in
    let now = behind_pieces givens (at_rest files) in
    let needs_left = needs_ahead on.fuel now.pause (world now.files is.ahead) in
    let maps_left = maps_ahead on.fuel now.pause (world now.files is.ahead) in
    let all = all_needs (session_needs keys cards files) in
    let w = opening keys cards files in
    let gone : HasEndedSo table s 2 outcome.Done → (needs_left ≡ []) × (maps_left ≡ []) =
    (λ done. nothing-ahead on.fuel is.last now.files now.pause is.ahead on.suits (is.ended done).0) in
    record {
      console = gains-of-more devices.console s.devices.console (text (lines_of_all on_console found)) (text (session keys cards files).console)
          (text (lines_of_all on_console needs_left)) (HasEndedSo table s 2 outcome.Done) holds.shows
          (lines-more on_console all (session keys cards files).console found needs_left (lines-show (length keys) w) on.needs)
          (λ done. lines-all on_console all (session keys cards files).console found needs_left (lines-show (length keys) w) on.needs (gone done).0);
      paper = gains-of-more devices.paper s.devices.paper (text (lines_of_all on_paper found)) (text (session keys cards files).paper)
          (text (lines_of_all on_paper needs_left)) (HasEndedSo table s 2 outcome.Done × HasEndedSo table s 3 outcome.Done) holds.prints
          (lines-more on_paper all (session keys cards files).paper found needs_left (lines-print (length keys) w) on.needs)
          (λ done. lines-all on_paper all (session keys cards files).paper found needs_left (lines-print (length keys) w) on.needs (gone done.0).0);
      keys_end = λ done. (is.ended done).1;
      maps = (maps_left, ap (λ maps. files ∷ maps) on.maps);
      next_maps = λ work none place.
          let (after, handed) = is.next work none place in
          let one = one-step on.fuel is.last now.files now.pause is.ahead (record { given = work.given; ahead = after }) on.suits on.enough handed in
          let c = piece work.given now in
          let later = maps_ahead one.fuel c.pause (world c.files after) in (
            later,
            ap (λ maps. files ∷ maps) (on.maps ∙ ap (λ maps. maps_passed givens (at_rest files) ++ maps) one.maps
                ∙ sym (append_assoc (maps_passed givens (at_rest files)) c.maps later)
                ∙ ap (λ maps. maps ++ later) (sym (passed-one givens work.given (at_rest files)))),
          );
      files_now = files-last givens (at_rest files);
      last_files = λ done.
          files-last givens (at_rest files)
          ∙ ap (last_of files) (sym (on.maps ∙ ap (λ maps. maps_passed givens (at_rest files) ++ maps) (gone done).1
          ∙ append-nil (maps_passed givens (at_rest files))))
          ∙ sym (last-is-last keys cards files);
    }

-- ---- the premise
same-items : (a b : List Item) → Some a ≡ Some b → a ≡ b
same-items a b e = cc

same-plan : (a b : Plan) → Some a ≡ Some b → a ≡ b
same-plan a b e = cc

pub openings-sound : OpeningsAreSound
openings-sound cards keys files paper console cards_are keys_are = record {
  cards = λ items e. subst AreItems (same-items cards items e) cards_are;
  keys = λ items e. subst AreItems (same-items keys items e) keys_are;
  work = λ plan e. subst PlanFits (same-plan (session_plan files) plan e) (plans-fit files);
}

-- ---- a session that was worked by hand
gained-all : (now : Option (List ℕ)) (lines other : List (List ℕ)) (all : Type 0) → Gains (Some []) now (text lines) all → lines ≡ other → all
    → now ≡ Some (text other)
gained-all now lines other all g same done = (let t = g.told [] refl in t.now_is ∙ ap Some (t.all_is done ∙ ap text same))

pub stored-runs : StoredSessionRuns
stored-runs devices s reached cards_told keys_told work_told console_told paper_told job_done output_done =
    let is = tells-so stored_cards stored_lines no_files devices s reached cards_told keys_told work_told in
    let told = session stored_lines stored_cards no_files in (
      gained-all s.devices.console told.console stored_told.console (HasEndedSo table s 2 outcome.Done)
          (subst (λ before. Gains before s.devices.console (text told.console) (HasEndedSo table s 2 outcome.Done)) console_told is.console)
          (ap (λ (t : Transcript). t.console) stored-rows.whole) job_done,
      gained-all s.devices.paper told.paper stored_told.paper (HasEndedSo table s 2 outcome.Done × HasEndedSo table s 3 outcome.Done)
          (subst (λ before. Gains before s.devices.paper (text told.paper) (HasEndedSo table s 2 outcome.Done × HasEndedSo table s 3 outcome.Done))
          paper_told is.paper) (ap (λ (t : Transcript). t.paper) stored-rows.whole) (job_done, output_done),
    )
