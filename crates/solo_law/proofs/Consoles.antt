-- What the console gained in a reached state.
use Rattle.std.proofs.Common.{◌≡◌, ℕ, List, [], ◌∷◌, ◌++◌, Option, None, Some, refl, sym, ◌∙◌, ap, subst}
use Rattle.std.proofs.lemmas.List.{append-nil}
use Rattle.solo_base.specs.Text.{text}
use Rattle.solo_base.specs.declared.outcome.Outcome.TheVariants as outcome
use Rattle.solo_devices.specs.PrinterUnit.{Gains}
use Rattle.network_run.specs.Law.{run}
use Rattle.network_law.specs.Network.{happens}
use Rattle.network_law.proofs.Reached.{reached-stands}
use Rattle.place_law.specs.Process.{Does, place}
use Rattle.place_law.specs.Ending.{HasEndedSo}
use Rattle.place_law.proofs.Ended.{ends-rightly}
use Rattle.place_law.proofs.Together.{done-free}
use Rattle.solo_law.specs.Actions as act
use Rattle.solo_law.specs.Replies.{ends_so}
use Rattle.solo_law.specs.JobPlaces.{JobPlace, job_does, job}
use Rattle.solo_law.specs.JobPlaces as at
use Rattle.solo_law.specs.Devices.{Devices, gains}
use Rattle.solo_law.specs.Devices as devices
use Rattle.solo_law.specs.Solo.{table, solo, opened, SoloState, SoloEntry, SoloEvent, IsReached, openings, the_law}
use Rattle.solo_law.specs.Told.{written, displays}
use Rattle.solo_law.proofs.Placed.{is-2, seats, placed, solo-lawful}
use Rattle.solo_law.proofs.Sinks.{as-prefix}
use Rattle.solo_law.proofs.Shown.{shown, to_show, shown-stands, console-tells}

-- ---- a console that isn't told stays so
gains-none : (gained : List ℕ) (sink : Option (List ℕ)) → sink ≡ None → gains gained sink ≡ None
gains-none gained sink e = ap (gains gained) e

entry-untold : (d : Devices) (entry : SoloEntry) (gained : List ℕ) → d.console ≡ None → (devices.given d entry gained).console ≡ None
entry-untold d (Does act.ReadCard (act.OfCard answer)) gained e = e
entry-untold d (Does act.Accept (act.OfCard answer)) gained e = e
entry-untold d (Does (act.Works work) (act.Found need)) gained e = e
entry-untold d (Does (act.Print line) reply) gained e = e
entry-untold d (Does (act.Display line) reply) gained e = gains-none gained d.console e
entry-untold d entry gained e = e

run-untold : (s : SoloState) (events : List SoloEvent) → s.devices.console ≡ None → (run the_law s events).devices.console ≡ None
run-untold s [] e = e
run-untold s (event ∷ events) e = run-untold (happens solo s event) events (entry-untold s.devices event.entry event.gained e)

-- ---- at the end nothing is left to show
left-shows : (a : JobPlace) → ends_so (job_does a) ≡ Some outcome.Done → to_show a ≡ []
left-shows at.HasLeft e = refl
left-shows other e = absurd cc

pub console-gains : (d : Devices) (s : SoloState) → IsReached d s
    → Gains d.console s.devices.console (text (shown (s.histories 2))) (HasEndedSo table s 2 outcome.Done)
console-gains d s reached =
    let st = reached-stands solo-lawful openings (record { devices = d; sound = reached.sound }) s reached.reached in
    record {
      told = λ before e.
          let is = console-tells before d s e reached in
          record {
            part = is.part;
            now_is = is.now;
            prefix = as-prefix is.part (text (shown (s.histories 2))) is.first;
            all_is = λ done.
                let free = done-free table placed seats (opened d) s st 2 is-2 done in
                let rightly = ends-rightly table placed 2 (s.histories 2) outcome.Done is-2 (st.follows 2) done in
                is.exact free ∙ ap text (sym (shown-stands (s.histories 2) (st.follows 2) free
                ∙ ap (λ x. written displays (s.histories 2) ++ x) (left-shows (place job (s.histories 2)) (rightly.done free))
                ∙ append-nil (written displays (s.histories 2))));
          };
      untold = λ e. subst (λ (s : SoloState). s.devices.console ≡ None) reached.reached.leads (run-untold (opened d) reached.reached.events e);
    }
