-- Over told spools each page that is taken is the one that is awaited, so no process has a fault of a damaged page, whatever deck is read,
-- however files are loaded and whatever the jobs are.
use Rattle.std.proofs.Common.{◌≡◌, inl, inr, ℕ, ◌==◌, Bool, true, false, ◌&&◌, List, [], ◌∷◌, ◌++◌, Option, None, Some, refl, sym, ◌∙◌, ap, subst, arith}
use Rattle.std.specs.Prelude.{Result}
use Rattle.std.proofs.lemmas.List.{append-nil}
use Rattle.network_law.specs.Network.{IsOne}
use Rattle.network_law.specs.Kept.{Stands, IsTold, passed}
use Rattle.solo_base.specs.Prefixes.{IsPrefixOf}
use Rattle.solo_base.specs.declared.item.Item.{Item}
use Rattle.solo_base.specs.declared.page.Page.{Page}
use Rattle.solo_base.specs.declared.outcome.Side.TheVariants.{Sender, Receiver}
use Rattle.solo_base.specs.declared.outcome.Outcome.{Outcome}
use Rattle.solo_base.specs.declared.outcome.Outcome.TheVariants as outcome
use Rattle.solo_base.specs.declared.outcome.Cause.{Cause}
use Rattle.solo_base.specs.declared.outcome.Cause.TheVariants as cause
use Rattle.page_codec.specs.declared.judge.BadPage.{BadPage}
use Rattle.page_codec.specs.Reading.{PageContent}
use Rattle.batch_procs.specs.Faults.{IsDamaged}
use Rattle.batch_procs.specs.Jobs.{Jobs, AreJobs}
use Rattle.batch_procs.specs.Parcels.{Parcel, OfPage}
use Rattle.batch_procs.specs.Sends.{lines_of}
use Rattle.batch_procs.specs.declared.actions.Reply.{Reply}
use Rattle.batch_procs.specs.declared.actions.Reply.TheVariants as reply
use Rattle.place_law.specs.Ending.{outcome_by}
use Rattle.twin_law.specs.Process.{TakePage, stands_behind, place, caused}
use Rattle.twin_law.specs.Sides.{Twin, A, B, from_job}
use Rattle.twin_law.specs.Ends.{card}
use Rattle.twin_law.specs.Input.{input}
use Rattle.twin_law.specs.Job.{job}
use Rattle.twin_law.specs.Output.{Turn, OutputPlace, TakesLines, PutsLine, PutsOver, HasGathered, output_aims, puts_line, turn_behind, behind_lines, page_in_turn, output_behind, output_finds, output}
use Rattle.twin_law.specs.Table.{process}
use Rattle.twin_law.specs.Twin.{seat, Fits, twin, TwinState, IsProcess}
use Rattle.twin_law.specs.Outcomes.{HasEndedSo}
use Rattle.twin_law.proofs.Lawful.{each-process}
use Rattle.twin_law.proofs.Marks.{makes}
use Rattle.twin_law.proofs.Kahn.{seen_by, tied, put-sent, prefix-trans}
use Rattle.twin_law.proofs.Faults.{card-faulty, input-faulty, printer-faulty}
use Rattle.twin_law.proofs.Outcomes.{ends-rightly}
use Rattle.twin_law.proofs.Runs.{IsDue, read-due, due-damage, turned, IsRun, turn, turn-page, run-first, next-due, as-was}
use Rattle.twin_law.proofs.Keeping.{added, sent_by, nothing_by, sent-added, seen-added, sent-none, seen-none, nothing-none, keeps, none-damaged}
use Rattle.twin_law.proofs.DealtRuns.{AreFed, fed-first, CardIs, card-fed, card-step, InputIs, input-step, input-runs}
use Rattle.twin_law.proofs.WorkedRuns.{JobIs, job-begins, job-step, job-finds, job-runs}

-- ---- 5 output: so many pages came of the stream in turn, and the other side's is over
module _ {L : Type 0} where
  abbrev pub InTurn : Twin → ℕ → List (Parcel L) → List (Parcel L) → Type 0
  InTurn A n t f = (turn 0 t ≡ n) × (turn 0 f ≡ 0)
  InTurn B n t f = (turn 0 t ≡ 0) × (turn 0 f ≡ n)

  abbrev pub OutputIs : OutputPlace → List (Parcel L) → List (Parcel L) → Type 0
  OutputIs (TakesLines u) t f = InTurn u.side u.pages t f
  OutputIs (PutsLine line later u over) t f = InTurn u.side u.pages t f
  OutputIs PutsOver t f = Unit {0}
  OutputIs HasGathered t f = Unit {0}

  abbrev pub BothRun : List (Parcel L) → List (Parcel L) → Type 0
  BothRun t f = IsRun 0 t × IsRun 0 f

  line-well : (lines : List (List ℕ)) (u : Turn) (over : Bool) (t f : List (Parcel L)) → InTurn u.side u.pages t f → OutputIs (puts_line lines u over) t f
  line-well [] u true t f is = tt
  line-well [] u false t f is = is
  line-well (line ∷ later) u over t f is = is

  turn-well : (side : Twin) (pages : ℕ) (some ended last : Bool) (items : List Item) (t f : List (Parcel L)) → InTurn side (turned pages last) t f
      → InTurn (turn_behind (record { side = side; pages = pages; some = some; ended = ended }) last items).side
      (turn_behind (record { side = side; pages = pages; some = some; ended = ended }) last items).pages t f
  turn-well A pages some ended true items t f is = is
  turn-well A pages some ended false items t f is = is
  turn-well B pages some ended true items t f is = is
  turn-well B pages some ended false items t f is = is

  lines-well : (side : Twin) (pages : ℕ) (some ended : Bool) (page : Page) (last : Bool) (t f : List (Parcel L)) → IsDue pages last page
      → InTurn side (turned pages last) t f
      → OutputIs (behind_lines (record { side = side; pages = pages; some = some; ended = ended })
      (page_in_turn (record { side = side; pages = pages; some = some; ended = ended }) page last)) t f
  lines-well side pages some ended page last t f due is =
      let u : Turn = record { side = side; pages = pages; some = some; ended = ended } in
      subst (λ (result : Result PageContent BadPage). OutputIs (behind_lines u result) t f) (sym (read-due pages last page due))
      (line-well (lines_of due.items) (turn_behind u last due.items) (last && ended) t f (turn-well side pages some ended last due.items t f is))

  still : (f : List (Parcel L)) → turn 0 f ≡ 0 → turn 0 (f ++ []) ≡ 0
  still f e = ap (turn 0) (append-nil f) ∙ e

  page-well : (side : Twin) (pages : ℕ) (some ended : Bool) (page : Page) (last : Bool) (t f : List (Parcel L))
      → BothRun (t ++ seen_by 4 (TakePage (from_job side)) (reply.Page page last)) (f ++ seen_by 5 (TakePage (from_job side)) (reply.Page page last))
      → InTurn side pages t f
      → OutputIs (output_behind {L = L} (TakesLines (record { side = side; pages = pages; some = some; ended = ended })) (reply.Page page last))
      (t ++ seen_by 4 (TakePage (from_job side)) (reply.Page page last)) (f ++ seen_by 5 (TakePage (from_job side)) (reply.Page page last))
  page-well A pages some ended page last t f runs is =
      lines-well A pages some ended page last (t ++ OfPage page last ∷ []) (f ++ []) (next-due pages t page last is.0 runs.0)
      (turn-page pages t page last is.0, still f is.1)
  page-well B pages some ended page last t f runs is =
      lines-well B pages some ended page last (t ++ []) (f ++ OfPage page last ∷ []) (next-due pages f page last is.1 runs.1)
      (still t is.0, turn-page pages f page last is.1)

  output-step : (x : OutputPlace) (r : Reply L) (t f : List (Parcel L)) → Fits (makes (output_aims x)) r
      → BothRun (t ++ seen_by 4 (makes (output_aims x)) r) (f ++ seen_by 5 (makes (output_aims x)) r) → OutputIs x t f
      → OutputIs (stands_behind output x (makes (output_aims x)) r) (t ++ seen_by 4 (makes (output_aims x)) r) (f ++ seen_by 5 (makes (output_aims x)) r)
  output-step (TakesLines u) (reply.Page page last) t f fits runs is = page-well u.side u.pages u.some u.ended page last t f runs is
  output-step (TakesLines u) reply.Failed t f fits runs is = as-was (λ t f. InTurn u.side u.pages t f) t f is
  output-step (PutsLine line later u over) reply.Done t f fits runs is = as-was (λ t f. OutputIs (puts_line later u over) t f) t f
      (line-well later u over t f is)
  output-step (PutsLine line later u over) reply.Stopped t f fits runs is = as-was (λ t f. InTurn u.side u.pages t f) t f is
  output-step PutsOver reply.Done t f fits runs is = tt
  output-step PutsOver reply.Stopped t f fits runs is = tt
  output-step HasGathered reply.Done t f fits runs is = tt
  output-step x r t f fits runs is = absurd fits

  page-awaited : (side : Twin) (pages : ℕ) (some ended : Bool) (page : Page) (last : Bool) (t f : List (Parcel L))
      → BothRun (t ++ seen_by 4 (TakePage (from_job side)) (reply.Page page last)) (f ++ seen_by 5 (TakePage (from_job side)) (reply.Page page last))
      → InTurn side pages t f
      → output_finds {L = L} (TakesLines (record { side = side; pages = pages; some = some; ended = ended })) (reply.Page page last) ≡ None
  page-awaited A pages some ended page last t f runs is = due-damage pages last page (next-due pages t page last is.0 runs.0)
  page-awaited B pages some ended page last t f runs is = due-damage pages last page (next-due pages f page last is.1 runs.1)

  output-awaits : (x : OutputPlace) (r : Reply L) (t f : List (Parcel L))
      → BothRun (t ++ seen_by 4 (makes (output_aims x)) r) (f ++ seen_by 5 (makes (output_aims x)) r)
      → OutputIs x t f → output_finds x r ≡ None
  output-awaits (TakesLines u) (reply.Page page last) t f runs is = page-awaited u.side u.pages u.some u.ended page last t f runs is
  output-awaits x r t f runs is = refl

fault-cause : (how : Option Outcome) (c : Cause) → outcome_by how ≡ outcome.Fault c → how ≡ Some (outcome.Fault c)
fault-cause None c e = absurd cc
fault-cause (Some how) c e = ap Some e

not-that : (c d : Cause) → (IsDamaged d → ⊥) → c ≡ d → IsDamaged c → ⊥
not-that c d not e is = not (subst IsDamaged e is)

module _ {L : Type 0} {J : Jobs L} (jobs : AreJobs J) (opening s : TwinState L) (st : Stands (twin J) opening s) (told : (b : ℕ) → IsTold (s.buffers b)) where
  is-1 : IsOne (twin J) 1
  is-1 = (omega arith, omega arith)

  is-2 : IsOne (twin J) 2
  is-2 = (omega arith, omega arith)

  is-3 : IsOne (twin J) 3
  is-3 = (omega arith, omega arith)

  is-4 : IsOne (twin J) 4
  is-4 = (omega arith, omega arith)

  is-5 : IsOne (twin J) 5
  is-5 = (omega arith, omega arith)

  abbrev sent : ℕ → ℕ → List (Parcel L)
  sent b p = added (sent_by b) (s.histories p)

  abbrev got : ℕ → ℕ → List (Parcel L)
  got b p = added (seen_by b) (s.histories p)

  -- what holds of all first parts of what went into a buffer holds of what was taken of it
  goes-through : (P : List (Parcel L) → Type 0) → ((some more : List (Parcel L)) → P (some ++ more) → P some) → (b : ℕ) → IsOne (twin J) (seat b Sender)
      → IsOne (twin J) (seat b Receiver) → (b == 0) ≡ false → P (sent b (seat b Sender)) → P (got b (seat b Receiver))
  goes-through P first b sends takes some is =
      let hs = s.histories (seat b Sender) in
      let hr = s.histories (seat b Receiver) in
      let put : added (sent_by b) hs ≡ passed (twin J) s b Sender = sent-added b hs ∙ put-sent J (seat b Sender) sends b hs some (st.follows (seat b Sender)) in
      let (inside, is_told) = told b in
      let handed : IsPrefixOf (passed (twin J) s b Receiver) (passed (twin J) s b Sender) = (inside, (st.buffers.hand_over b).parcels inside is_told) in
      let took : IsPrefixOf (added (seen_by b) hr) (passed (twin J) s b Receiver) =
      subst (λ ps. IsPrefixOf ps (passed (twin J) s b Receiver)) (sym (seen-added b hr))
      (tied J (seat b Receiver) takes b hr (st.follows (seat b Receiver))).1 in
      let (rest, whole) = prefix-trans (added (seen_by b) hr) (passed (twin J) s b Receiver) (passed (twin J) s b Sender) took handed in
      first (added (seen_by b) hr) rest (subst P (put ∙ sym whole) is)

  abbrev Any : List (Parcel L) → List (Parcel L) → List (Parcel L) → Type 0
  Any t f g = Unit {0}

  fed-1 : AreFed (sent 1 1)
  fed-1 = card-fed (place (card {L = L}) (s.histories 1)) (sent 1 1)
      (keeps J 1 is-1 nothing_by (sent_by 1) nothing_by nothing-none (sent-none 1) nothing-none (λ x t f g. CardIs x f) Any (λ t f g t' f' g' is. tt) tt
      (λ x r t f g fits good fine is. card-step J x r f fits good is) (s.histories 1) (st.follows 1) tt)

  fed-2 : AreFed (got 1 2)
  fed-2 = goes-through AreFed fed-first 1 is-1 is-2 refl fed-1

  dealt-runs : IsRun 0 (sent 2 2) × IsRun 0 (sent 3 2)
  dealt-runs = input-runs (place (input {L = L}) (s.histories 2)) (sent 2 2) (sent 3 2)
      (keeps J 2 is-2 (seen_by 1) (sent_by 2) (sent_by 3) (seen-none 1) (sent-none 2) (sent-none 3) (λ x t f g. InputIs x f g) (λ t f g. AreFed t)
      (λ t f g t' f' g' is. fed-first t t' is) (record { run = tt; at = refl }, record { run = tt; at = refl })
      (λ x r t f g fits good fine is. input-step x r t f g fits fine is) (s.histories 2) (st.follows 2) fed-2)

  run-a : IsRun 0 (got 2 3)
  run-a = goes-through (IsRun 0) (run-first 0) 2 is-2 is-3 refl dealt-runs.0

  run-b : IsRun 0 (got 3 4)
  run-b = goes-through (IsRun 0) (run-first 0) 3 is-2 is-4 refl dealt-runs.1

  worked-a : IsRun 0 (sent 4 3)
  worked-a = job-runs jobs (place (job J A) (s.histories 3)) (got 2 3) (sent 4 3)
      (keeps J 3 is-3 (seen_by 2) (sent_by 4) nothing_by (seen-none 2) (sent-none 4) nothing-none (λ x t f g. JobIs jobs x t f) (λ t f g. IsRun 0 t)
      (λ t f g t' f' g' is. run-first 0 t t' is) (job-begins jobs) (λ x r t f g fits good fine is. job-step jobs A x r t f fits fine is)
      (s.histories 3) (st.follows 3) run-a)

  worked-b : IsRun 0 (sent 5 4)
  worked-b = job-runs jobs (place (job J B) (s.histories 4)) (got 3 4) (sent 5 4)
      (keeps J 4 is-4 (seen_by 3) (sent_by 5) nothing_by (seen-none 3) (sent-none 5) nothing-none (λ x t f g. JobIs jobs x t f) (λ t f g. IsRun 0 t)
      (λ t f g t' f' g' is. run-first 0 t t' is) (job-begins jobs) (λ x r t f g fits good fine is. job-step jobs B x r t f fits fine is)
      (s.histories 4) (st.follows 4) run-b)

  lines-a : IsRun 0 (got 4 5)
  lines-a = goes-through (IsRun 0) (run-first 0) 4 is-3 is-5 refl worked-a

  lines-b : IsRun 0 (got 5 5)
  lines-b = goes-through (IsRun 0) (run-first 0) 5 is-4 is-5 refl worked-b

  -- ---- no fault of a damaged page
  abbrev NoDamage : ℕ → Type 0
  NoDamage p = (c : Cause) → caused (process J p) (s.histories p) ≡ Some (outcome.Fault c) → IsDamaged c → ⊥

  none-1 : NoDamage 1
  none-1 c e is = elim (card-faulty J (s.histories 1) c (st.follows 1) e) as (λ _. ⊥) [
    | inl a ↦ not-that c cause.ReadFault (λ no. no) a is
    | inr a ↦ not-that c cause.DeckLimit (λ no. no) a is
  ]

  none-2 : NoDamage 2
  none-2 c e is = not-that c cause.DiskFault (λ no. no) (input-faulty J (s.histories 2) c (st.follows 2) e) is

  none-3 : NoDamage 3
  none-3 c e is =
      none-damaged J 3 is-3 (seen_by 2) (sent_by 4) nothing_by (seen-none 2) (sent-none 4) nothing-none (λ x t f g. JobIs jobs x t f) (λ t f g. IsRun 0 t)
      (λ t f g t' f' g' is. run-first 0 t t' is) (job-begins jobs) (λ x r t f g fits good fine is. job-step jobs A x r t f fits fine is)
      (λ x r t f g fits fine is. job-finds jobs A x r t f fine is) (s.histories 3) c (st.follows 3) run-a e is

  none-4 : NoDamage 4
  none-4 c e is =
      none-damaged J 4 is-4 (seen_by 3) (sent_by 5) nothing_by (seen-none 3) (sent-none 5) nothing-none (λ x t f g. JobIs jobs x t f) (λ t f g. IsRun 0 t)
      (λ t f g t' f' g' is. run-first 0 t t' is) (job-begins jobs) (λ x r t f g fits good fine is. job-step jobs B x r t f fits fine is)
      (λ x r t f g fits fine is. job-finds jobs B x r t f fine is) (s.histories 4) c (st.follows 4) run-b e is

  none-5 : NoDamage 5
  none-5 c e is =
      none-damaged J 5 is-5 (seen_by 4) (seen_by 5) nothing_by (seen-none 4) (seen-none 5) nothing-none (λ x t f g. OutputIs x t f) (λ t f g. BothRun t f)
      (λ t f g t' f' g' is. (run-first 0 t t' is.0, run-first 0 f f' is.1)) (refl, refl) (λ x r t f g fits good fine is. output-step x r t f fits fine is)
      (λ x r t f g fits fine is. output-awaits x r t f fine is) (s.histories 5) c (st.follows 5) (lines-a, lines-b) e is

  none-6 : NoDamage 6
  none-6 c e is = elim (printer-faulty J (s.histories 6) c (st.follows 6) e) as (λ _. ⊥) [
    | inl a ↦ not-that c cause.PrintFault (λ no. no) a is
    | inr a ↦ not-that c cause.NoMemory (λ no. no) a is
  ]

  pub undamaged : (p : ℕ) (c : Cause) → IsProcess p → HasEndedSo s (outcome.Fault c) p → IsDamaged c → ⊥
  undamaged p c one ended is =
      each-process J NoDamage p one none-1 none-2 none-3 none-4 none-5 none-6 c
      (fault-cause (caused (process J p) (s.histories p)) c (ends-rightly J p (s.histories p) (outcome.Fault c) (st.follows p) ended).by_cause) is
