-- What a state of Solo tells of the session.
use Rattle.std.specs.Prelude.{◌≡◌, Option, ℕ, List, [], ◌∷◌, ◌++◌, None, Some}
use Rattle.solo_base.specs.Text.{text}
use Rattle.solo_base.specs.declared.item.Item.{Item}
use Rattle.solo_base.specs.declared.outcome.Outcome.TheVariants as outcome
use Rattle.solo_devices.specs.PrinterUnit.{Gains}
use Rattle.page_codec.specs.Items.{AreItems}
use Rattle.disk_layout.specs.Files.{Files}
use Rattle.place_law.specs.Process.{place, caused}
use Rattle.place_law.specs.Ending.{HasEndedSo}
use Rattle.solo_needs.specs.Needs.{Given}
use Rattle.solo_task.specs.Session.{session, last_map}
use Rattle.solo_task.specs.Laws.{last_of}
use Rattle.solo_task.specs.WholeRows.{no_files, stored_lines, stored_cards, stored_told}
use Rattle.solo_law.specs.Work.{Work}
use Rattle.solo_law.specs.Replies.{view}
use Rattle.solo_law.specs.JobPlaces.{job, Toils}
use Rattle.solo_law.specs.Devices.{Devices, AreSound}
use Rattle.solo_law.specs.Told.{begun}
use Rattle.solo_law.specs.Solo.{table, SoloState, IsReached}
use Rattle.session_law.specs.Plans.{at_rest, behind_pieces, session_plan, maps_passed}

-- the files that the work changed to so far are the first of the session's maps behind the opening files
abbrev pub AreFirstMaps : List Item → List Item → Files → List Given → Type 0
AreFirstMaps cards keys files givens =
    (more : List Files)
    × ((session keys cards files).maps ≡ (files ∷ maps_passed givens (at_rest files)) ++ more)

pub record Tells (cards keys : List Item) (files : Files) (devices : Devices) (s : SoloState) : Type 0 where
  -- a first part of what the session displays, and all of it where the job process ended with its work done
  pub console : Gains devices.console s.devices.console (text (session keys cards files).console)
      (HasEndedSo table s 2 outcome.Done)
  -- and of what it prints, where the output process did so too
  pub paper : Gains devices.paper s.devices.paper (text (session keys cards files).paper)
      (HasEndedSo table s 2 outcome.Done × HasEndedSo table s 3 outcome.Done)
  -- no typed line is left then
  pub keys_end : HasEndedSo table s 2 outcome.Done → s.devices.keys ≡ Some []
  -- The files changed to maps of the session, in order, and so they do in the piece of work that comes next,
  -- also where it is broken off.
  pub maps : AreFirstMaps cards keys files (begun (s.histories 2))
  pub next_maps : (work : Work) → caused view job (s.histories 2) ≡ None
      → place job (s.histories 2) ≡ Toils work
      → AreFirstMaps cards keys files (begun (s.histories 2) ++ work.given ∷ [])
  -- They are the last of these now, and the session's last where the job process is done.
  pub files_now : (behind_pieces (begun (s.histories 2)) (at_rest files)).files
      ≡ last_of files (maps_passed (begun (s.histories 2)) (at_rest files))
  pub last_files : HasEndedSo table s 2 outcome.Done
      → (behind_pieces (begun (s.histories 2)) (at_rest files)).files ≡ last_map keys cards files

abbrev pub EveryInterleavingTells : Type 0
EveryInterleavingTells =
    (cards keys : List Item) (files : Files) (devices : Devices) (s : SoloState) → IsReached devices s
    → devices.cards ≡ Some cards → devices.keys ≡ Some keys → devices.work ≡ Some (session_plan files)
    → Tells cards keys files devices s

-- ---- The premise

-- Cards and typed lines that are items, and the plan of a session over any files, are sound.
abbrev pub OpeningsAreSound : Type 0
OpeningsAreSound =
    (cards keys : List Item) (files : Files) (paper console : Option (List ℕ))
    → AreItems cards → AreItems keys
    → AreSound (record {
      cards = Some cards;
      keys = Some keys;
      paper = paper;
      console = console;
      work = Some (session_plan files);
    })

-- ---- A session that was worked by hand

-- Whatever the order in which the three processes go on: where they ended with their work done over these
-- cards, these typed lines and no file, console and paper gained what one thread tells.
abbrev pub StoredSessionRuns : Type 0
StoredSessionRuns =
    (devices : Devices) (s : SoloState) → IsReached devices s → devices.cards ≡ Some stored_cards
    → devices.keys ≡ Some stored_lines → devices.work ≡ Some (session_plan no_files)
    → devices.console ≡ Some [] → devices.paper ≡ Some []
    → HasEndedSo table s 2 outcome.Done → HasEndedSo table s 3 outcome.Done
    → (s.devices.console ≡ Some (text stored_told.console))
    × (s.devices.paper ≡ Some (text stored_told.paper))
