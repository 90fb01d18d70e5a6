-- What the paper gained in a reached state.
use Rattle.std.proofs.Common.{◌≡◌, ◌≤◌, ℕ, suc, ◌+◌, Bool, true, false, List, [], ◌∷◌, ◌++◌, length, map, None, Some, refl, sym, ◌∙◌, ap, subst, append_assoc, arith}
use Rattle.std.proofs.lemmas.List.{append-nil}
use Rattle.solo_base.specs.Text.{text}
use Rattle.solo_base.specs.Prefixes.{IsPrefixOf}
use Rattle.solo_base.specs.declared.outcome.Side.{Side}
use Rattle.solo_base.specs.declared.outcome.Side.TheVariants.{Sender, Receiver}
use Rattle.solo_base.specs.declared.outcome.Outcome.TheVariants as outcome
use Rattle.solo_devices.specs.PrinterUnit.{Gains}
use Rattle.network_law.specs.Acts.{moved}
use Rattle.network_run.specs.Law.{run}
use Rattle.network_law.specs.Network.{happens, acts}
use Rattle.network_law.specs.Kept.{Stands, passed}
use Rattle.network_law.proofs.Reached.{reached-stands}
use Rattle.exchange_law.specs.Pages.{is_last}
use Rattle.exchange_law.specs.Parcels.{Parcel, OfArg, OfPage, mark, count_behind, stream_lines, count_after}
use Rattle.exchange_law.specs.Phases.{trues, falses, Left, PhaseIs}
use Rattle.exchange_law.specs.Meeting.{PassesOne}
use Rattle.exchange_law.proofs.Counted.{marks_at}
use Rattle.exchange_law.proofs.Marks.{trues-sent, length-sent}
use Rattle.exchange_law.proofs.Streams.{stream-append, count-append}
use Rattle.place_law.specs.Process.{Does, place, caused}
use Rattle.place_law.specs.Ending.{HasEndedSo}
use Rattle.place_law.proofs.Ended.{ends-rightly}
use Rattle.place_law.proofs.Together.{done-free}
use Rattle.solo_law.specs.Actions as act
use Rattle.solo_law.specs.Replies.{ends_so, view}
use Rattle.solo_law.specs.OutputPlaces.{OutputPlace, output_does, output}
use Rattle.solo_law.specs.OutputPlaces as output_at
use Rattle.solo_law.specs.JobPlaces.{JobPlace, job_does, job}
use Rattle.solo_law.specs.JobPlaces as at
use Rattle.solo_law.specs.Devices.{Devices, gains}
use Rattle.solo_law.specs.Devices as devices
use Rattle.solo_law.specs.Solo.{table, solo, opened, SoloState, SoloEntry, SoloEvent, IsReached, openings, the_law}
use Rattle.solo_law.specs.Told.{prints_line, written}
use Rattle.solo_law.proofs.Placed.{is-2, is-3, seats, placed, solo-lawful}
use Rattle.solo_law.proofs.Sound.{reached-sound}
use Rattle.solo_law.proofs.Coming.{marks-inside}
use Rattle.solo_law.proofs.OutputPhases.{output_phase, output-stands}
use Rattle.solo_law.proofs.JobPhases.{out_phase, job-out}
use Rattle.solo_law.proofs.Numbered.{JobSo, job-so}
use Rattle.solo_law.proofs.Sinks.{text-append, longer, as-prefix}
use Rattle.solo_law.proofs.Printed.{to_print, taken_lines, print-stands, paper-tells}
use Rattle.solo_law.proofs.Put.{to_put, printed, put_lines, put-stands, put-first}

entry-untold : (d : Devices) (entry : SoloEntry) (gained : List ℕ) → d.paper ≡ None → (devices.given d entry gained).paper ≡ None
entry-untold d (Does act.ReadCard (act.OfCard answer)) gained e = e
entry-untold d (Does act.Accept (act.OfCard answer)) gained e = e
entry-untold d (Does (act.Works work) (act.Found need)) gained e = e
entry-untold d (Does (act.Display line) reply) gained e = e
entry-untold d (Does (act.Print line) reply) gained e = ap (gains gained) e
entry-untold d entry gained e = e

run-untold : (s : SoloState) (events : List SoloEvent) → s.devices.paper ≡ None → (run the_law s events).devices.paper ≡ None
run-untold s [] e = e
run-untold s (event ∷ events) e = run-untold (happens solo s event) events (entry-untold s.devices event.entry event.gained e)

-- the lines of the pages that output took are the first of those that the needs print
taken-first : (d : Devices) (s : SoloState) → IsReached d s → (later : List (List ℕ)) × (printed (s.histories 2) ≡ taken_lines (s.histories 3) ++ later)
taken-first d s reached =
    let st = reached-stands solo-lawful openings (record { devices = d; sound = reached.sound }) s reached.reached in
    let (inside, e) = st.told 5 ([], refl) in
    let over = (st.buffers.hand_over 5).parcels inside e in
    let put = put-first (s.histories 2) (st.follows 2) in
    let taken = moved 5 Receiver (acts solo 3 (s.histories 3)) in
    let lines : put_lines (s.histories 2) ≡ taken_lines (s.histories 3) ++ stream_lines (count_after 0 taken) inside =
    ap (stream_lines 0) (sym over) ∙ stream-append 0 taken inside in (
      stream_lines (count_after 0 taken) inside ++ put.later,
      put.is ∙ ap (λ x. x ++ put.later) lines ∙ append_assoc (taken_lines (s.histories 3)) (stream_lines (count_after 0 taken) inside) put.later,
    )

-- ---- where both are done nothing is left between them
-- of the counts of both only these: so many last pages and reports, and what is inside of each
none-last : (al an sl sn lasts reports : ℕ) → sl + lasts ≡ al → an + reports ≡ sn → al ≡ an → sl ≡ sn → lasts ≡ 0
none-last al an sl sn lasts reports e f a s = omega (arith, e, f, a, s)

no-page : (n : ℕ) (last : Bool) → trues (last ∷ []) ≡ 0 → count_behind last n ≡ 0 → ⊥
no-page n true e f = (let e = e in omega (arith, e))
no-page n false e f = (let f = f in omega (arith, f))

two-inside : (n : ℕ) → suc (suc n) ≤ 1 → ⊥
two-inside n e = omega (arith, e)

no-lines : (n : ℕ) (inside : List Parcel) → length (map mark inside) ≤ 1 → trues (map mark inside) ≡ 0 → count_after n inside ≡ 0 → stream_lines n inside ≡ []
no-lines n [] few none e = refl
no-lines n (OfPage page ∷ []) few none e = absurd (no-page n (is_last page) none e)
no-lines n (OfArg x ∷ []) few none e = refl
no-lines n (x ∷ y ∷ rest) few none e = absurd (two-inside (length (map mark rest)) few)

job-left : (a : JobPlace) → ends_so (job_does a) ≡ Some outcome.Done → (out_phase a ≡ Left) × (to_put a ≡ []) × ((n : ℕ) → JobSo a n → 0 ≡ n)
job-left at.HasLeft e = (refl, refl, (λ n so. so))
job-left other e = absurd cc

output-left : (a : OutputPlace) → ends_so (output_does a) ≡ Some outcome.Done → (output_phase a ≡ Left) × (to_print a ≡ [])
output-left output_at.IsDone e = (refl, refl)
output-left other e = absurd cc

module _ (d : Devices) (s : SoloState) (reached : IsReached d s) (job_done : HasEndedSo table s 2 outcome.Done)
    (output_done : HasEndedSo table s 3 outcome.Done) where
  st : Stands solo (opened d) s
  st = reached-stands solo-lawful openings (record { devices = d; sound = reached.sound }) s reached.reached

  abbrev marks_of : ℕ → ℕ → Side → List Bool
  marks_of p b side = marks_at mark b side (acts solo p (s.histories p))

  passes : (b : ℕ) → PassesOne (map mark (passed solo s b Sender)) (map mark (passed solo s b Receiver)) (s.buffers b).marks
  passes b =
      let h = (st.buffers.hand_over b).marks in
      record { in_order = h.in_order; within = subst (λ c. length (s.buffers b).marks ≤ c) (st.capacity b) h.within }

  free_job : caused view job (s.histories 2) ≡ None
  free_job = done-free table placed seats (opened d) s st 2 is-2 job_done

  free_output : caused view output (s.histories 3) ≡ None
  free_output = done-free table placed seats (opened d) s st 3 is-3 output_done

  left_job : (out_phase (place job (s.histories 2)) ≡ Left) × (to_put (place job (s.histories 2)) ≡ [])
      × ((n : ℕ) → JobSo (place job (s.histories 2)) n → 0 ≡ n)
  left_job = job-left (place job (s.histories 2)) ((ends-rightly table placed 2 (s.histories 2) outcome.Done is-2 (st.follows 2) job_done).done free_job)

  left_output : (output_phase (place output (s.histories 3)) ≡ Left) × (to_print (place output (s.histories 3)) ≡ [])
  left_output =
      output-left (place output (s.histories 3))
      ((ends-rightly table placed 3 (s.histories 3) outcome.Done is-3 (st.follows 3) output_done).done free_output)

  no_last : trues (s.buffers 5).marks ≡ 0
  no_last =
      let asks = subst (λ phase. PhaseIs phase (falses (marks_of 2 4 Sender)) (trues (marks_of 2 4 Sender)) (trues (marks_of 2 5 Sender))
      (length (marks_of 2 6 Receiver))) left_job.0 (job-out (s.histories 2) (st.follows 2) free_job).1 in
      let serves = subst (λ phase. PhaseIs phase (falses (marks_of 3 4 Receiver)) (trues (marks_of 3 4 Receiver)) (trues (marks_of 3 5 Receiver))
      (length (marks_of 3 6 Sender))) left_output.0 (output-stands (s.histories 3) (st.follows 3) free_output) in
      none-last _ _ _ _ _ _ (trues-sent (marks_of 2 5 Sender) (marks_of 3 5 Receiver) (s.buffers 5).marks (passes 5))
      (length-sent (marks_of 3 6 Sender) (marks_of 2 6 Receiver) (s.buffers 6).marks (passes 6)) asks.1 serves.1

  pub all-printed : printed (s.histories 2) ≡ written prints_line (s.histories 3)
  all-printed =
      let (inside, e) = st.told 5 ([], refl) in
      let over = (st.buffers.hand_over 5).parcels inside e in
      let taken = moved 5 Receiver (acts solo 3 (s.histories 3)) in
      let marks = marks-inside (opened d) s st (λ b. ([], refl)) (reached-sound d s reached) 5 inside e in
      let few : length (map mark inside) ≤ 1 = subst (λ ms. length ms ≤ 1) marks (passes 5).within in
      let none : trues (map mark inside) ≡ 0 = subst (λ ms. trues ms ≡ 0) marks no_last in
      let whole : count_after (count_after 0 taken) inside ≡ 0 =
      sym (count-append 0 taken inside) ∙ ap (count_after 0) over ∙ sym (left_job.2 _ (job-so (s.histories 2) (st.follows 2) free_job)) in
      put-stands (s.histories 2) (st.follows 2) free_job ∙ ap (λ x. put_lines (s.histories 2) ++ x) left_job.1 ∙ append-nil (put_lines (s.histories 2))
      ∙ ap (stream_lines 0) (sym over) ∙ stream-append 0 taken inside
      ∙ ap (λ x. taken_lines (s.histories 3) ++ x) (no-lines (count_after 0 taken) inside few none whole)
      ∙ append-nil (taken_lines (s.histories 3)) ∙ print-stands (s.histories 3) (st.follows 3) free_output
      ∙ ap (λ x. written prints_line (s.histories 3) ++ x) left_output.1 ∙ append-nil (written prints_line (s.histories 3))

pub paper-gains : (d : Devices) (s : SoloState) → IsReached d s
    → Gains d.paper s.devices.paper (text (printed (s.histories 2))) (HasEndedSo table s 2 outcome.Done × HasEndedSo table s 3 outcome.Done)
paper-gains d s reached =
    let (later, e) = taken-first d s reached in
    record {
      told = λ before told.
          let is = paper-tells before d s told reached in
          record {
            part = is.part;
            now_is = is.now;
            prefix = as-prefix is.part (text (printed (s.histories 2)))
                (subst (IsPrefixOf is.part) (sym (ap text e ∙ text-append (taken_lines (s.histories 3)) later))
                (longer is.part (text (taken_lines (s.histories 3))) (text later) is.first));
            all_is = λ done. is.exact (free_output d s reached done.0 done.1) ∙ ap text (sym (all-printed d s reached done.0 done.1));
          };
      untold = λ e. subst (λ (s : SoloState). s.devices.paper ≡ None) reached.reached.leads (run-untold (opened d) reached.reached.events e);
    }
