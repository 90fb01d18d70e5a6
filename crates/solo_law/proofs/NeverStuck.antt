-- No reached state of Solo is stuck: who orders never waits for good, so the job process has ended; and then so have the others.
use Rattle.std.proofs.Common.{◌≡◌, ◌⊎◌, inl, inr, ℕ, ◌+◌, ◌≤◌, Bool, true, List, [], length, map, Option, None, Some, refl, sym, ◌∙◌, ap, subst}
use Rattle.std.specs.List.{AllByRecursion}
use Rattle.solo_base.specs.declared.outcome.Side.{Side}
use Rattle.solo_base.specs.declared.outcome.Side.TheVariants.{Sender, Receiver}
use Rattle.solo_base.specs.declared.outcome.Outcome.{Outcome}
use Rattle.solo_base.specs.declared.outcome.Outcome.TheVariants as outcome
use Rattle.queue_var.specs.HandsOver.{Lacks}
use Rattle.queue_var.specs.Sides.{stopped_by}
use Rattle.network_law.specs.Acts.{Call, At}
use Rattle.network_law.specs.Network.{IsEnabled, MayCall, acts}
use Rattle.network_law.specs.Processes.{CallsNext}
use Rattle.network_law.specs.Kept.{IsTold, Stands, passed}
use Rattle.network_law.proofs.Reached.{reached-stands}
use Rattle.network_law.proofs.Rests.{IsBlocked, rests}
use Rattle.exchange_law.specs.Phases.{trues, falses, Phase, Left}
use Rattle.exchange_law.specs.Parcels.{mark}
use Rattle.exchange_law.specs.Meeting.{PassesOne, Tally, InPhase, Between, PagesTaken, PagesPut}
use Rattle.exchange_law.proofs.Marks.{few, last-few, falses-sent, trues-sent, length-sent}
use Rattle.exchange_law.proofs.Counted.{marks_at}
use Rattle.exchange_law.proofs.Meeting.{who-asks_taking, who-left_taking, who-asks_putting, who-left_putting}
use Rattle.place_law.specs.Process.{place, caused, has_stopped, next_action}
use Rattle.place_law.specs.Table.{StopsOwn}
use Rattle.place_law.specs.Ending.{EndsRightly, HasEnded}
use Rattle.place_law.proofs.Nexts.{does-next}
use Rattle.place_law.proofs.Ended.{none-ended, ends-rightly, waits-free}
use Rattle.place_law.proofs.Together.{not-stopped}
use Rattle.solo_law.specs.Buffers.{seat}
use Rattle.solo_law.specs.Replies.{ends_so, view}
use Rattle.solo_law.specs.InputPlaces.{InputPlace, input_does, input}
use Rattle.solo_law.specs.InputPlaces as input_at
use Rattle.solo_law.specs.OutputPlaces.{OutputPlace, output_does, output}
use Rattle.solo_law.specs.OutputPlaces as output_at
use Rattle.solo_law.specs.JobPlaces.{JobPlace, job_does, job}
use Rattle.solo_law.specs.JobPlaces as at
use Rattle.solo_law.specs.Devices.{Devices, AreSound}
use Rattle.solo_law.specs.Solo.{process, table, solo, opened, SoloState, SoloEntry, SoloEvent, IsReached, IsStuck, IsSmooth, IsProcess, openings}
use Rattle.solo_law.proofs.Placed.{each-process, is-1, is-2, is-3, seats, are-stops, placed, solo-lawful}
use Rattle.solo_law.proofs.Sound.{reached-sound}
use Rattle.solo_law.proofs.Coming.{smooth-event}
use Rattle.solo_law.proofs.InputPhases.{input_phase, input-stands}
use Rattle.solo_law.proofs.OutputPhases.{output_phase, output-stands}
use Rattle.solo_law.proofs.JobPhases.{in_phase, out_phase, job-in, job-out}
use Rattle.solo_law.proofs.Waiting.{LacksAt, IsOf, AsksAt, ServesAt, input-waits, output-waits, job-waits}

-- of three buffers
among-three : (P : ℕ → Type 0) (a q r b : ℕ) → P a → P q → P r → IsOf a q r b → P b
among-three P a q r b pa pq pr is =
    elim is as (λ _. P b) [
      | inl e ↦ subst P (sym e) pa
      | inr more ↦ elim more as (λ _. P b) [ inl e ↦ subst P (sym e) pq | inr e ↦ subst P (sym e) pr ]
    ]

-- the phase of a last place
input-left : (a : InputPlace) (how : Outcome) → ends_so (input_does a) ≡ Some how → input_phase a ≡ Left
input-left input_at.IsOver how e = refl
input-left other how e = absurd cc

output-left : (a : OutputPlace) (how : Outcome) → ends_so (output_does a) ≡ Some how → output_phase a ≡ Left
output-left output_at.IsDone how e = refl
output-left other how e = absurd cc

job-left : (a : JobPlace) (how : Outcome) → ends_so (job_does a) ≡ Some how → (in_phase a ≡ Left) × (out_phase a ≡ Left)
job-left at.HasLeft how e = (refl, refl)
job-left other how e = absurd cc

-- how a process ended: at its last place, or with all its buffers stopped
data EndedAs (p : ℕ) (h : List SoloEntry) : Type 0 where
  Finished : caused view (process p) h ≡ None → ends_so ((process p).does (place (process p) h)) ≡ Some outcome.Done → EndedAs p h
  Closed : AllByRecursion (λ b. has_stopped (process p) b h ≡ true) (process p).buffers → EndedAs p h

ended-as : (p : ℕ) (h : List SoloEntry) (how : Outcome) (cause : Option Outcome) → caused view (process p) h ≡ cause → EndsRightly view (process p) h how
    → EndedAs p h
ended-as p h how None e rightly = Finished e (rightly.done e)
ended-as p h how (Some why) e rightly = Closed (rightly.closed why e)

module _ (opening s : SoloState) (st : Stands solo opening s) (told : (b : ℕ) → IsTold (opening.buffers b)) (sizes : (b : ℕ) → (opening.buffers b).capacity ≡ 1)
    (sound : AreSound s.devices) (none : (event : SoloEvent) → IsEnabled solo s event → IsSmooth event.entry → ⊥) where
  abbrev inside : ℕ → List Bool
  inside b = (s.buffers b).marks

  may-not : (p : ℕ) (c : Call) → IsProcess p → CallsNext solo p (s.histories p) c → MayCall s p c → ⊥
  may-not p c one calls may =
      let is = smooth-event opening s st told sound p calls.action one calls.next (subst (MayCall s p) (sym calls.call) may) in
      none is.event is.enabled is.smooth

  rests-now : (p : ℕ) → IsProcess p → (next_action view (process p) (s.histories p) ≡ None) ⊎ IsBlocked solo s p
  rests-now p one = rests solo-lawful opening s st may-not p one

  -- ---- buffers
  passes : (b : ℕ) → PassesOne (map mark (passed solo s b Sender)) (map mark (passed solo s b Receiver)) (inside b)
  passes b =
      let h = (st.buffers.hand_over b).marks in
      record { in_order = h.in_order; within = subst (λ c. length (inside b) ≤ c) (st.capacity b ∙ sizes b) h.within }

  abbrev Free : ℕ → Type 0
  Free b = stopped_by (s.buffers b).sides ≡ None

  never-stopped : (p b : ℕ) → IsProcess p → StopsOwn seat p (process p).calls view.stop b → has_stopped (process p) b (s.histories p) ≡ true → Free b → ⊥
  never-stopped p b one at stopped free = not-stopped table placed seats opening s st p b one at stopped free

  -- ---- the counts of the two exchanges
  abbrev marks_of : ℕ → ℕ → Side → List Bool
  marks_of p b side = marks_at mark b side (acts solo p (s.histories p))

  abbrev counts : ℕ → Side → ℕ → Side → Side → Tally
  counts p sa a sq sr = record {
    orders = falses (marks_of p a sa);
    dismissals = trues (marks_of p a sa);
    lasts = trues (marks_of p (a + 1) sq);
    reports = length (marks_of p (a + 2) sr);
  }

  abbrev asks-in : Tally
  asks-in = counts 2 Sender 1 Receiver Receiver

  abbrev serves-in : Tally
  serves-in = counts 1 Receiver 1 Sender Sender

  abbrev asks-out : Tally
  asks-out = counts 2 Sender 4 Sender Receiver

  abbrev serves-out : Tally
  serves-out = counts 3 Receiver 4 Receiver Sender

  between-in : Between asks-in serves-in (falses (inside 1)) (trues (inside 1)) (length (inside 2)) (trues (inside 2)) (length (inside 3))
  between-in = record {
    orders_pass = falses-sent (marks_of 2 1 Sender) (marks_of 1 1 Receiver) (inside 1) (passes 1);
    dismissals_pass = trues-sent (marks_of 2 1 Sender) (marks_of 1 1 Receiver) (inside 1) (passes 1);
    one_order = few (inside 1) (passes 1).within;
    lasts_are_pages = last-few (inside 2);
    one_page = (passes 2).within;
    reports_pass = length-sent (marks_of 1 3 Sender) (marks_of 2 3 Receiver) (inside 3) (passes 3);
    one_report = (passes 3).within;
  }

  between-out : Between asks-out serves-out (falses (inside 4)) (trues (inside 4)) (length (inside 5)) (trues (inside 5)) (length (inside 6))
  between-out = record {
    orders_pass = falses-sent (marks_of 2 4 Sender) (marks_of 3 4 Receiver) (inside 4) (passes 4);
    dismissals_pass = trues-sent (marks_of 2 4 Sender) (marks_of 3 4 Receiver) (inside 4) (passes 4);
    one_order = few (inside 4) (passes 4).within;
    lasts_are_pages = last-few (inside 5);
    one_page = (passes 5).within;
    reports_pass = length-sent (marks_of 3 6 Sender) (marks_of 2 6 Receiver) (inside 6) (passes 6);
    one_report = (passes 6).within;
  }

  pages-in : PagesTaken asks-in serves-in (trues (inside 2))
  pages-in = trues-sent (marks_of 1 2 Sender) (marks_of 2 2 Receiver) (inside 2) (passes 2)

  pages-out : PagesPut asks-out serves-out (trues (inside 5))
  pages-out = trues-sent (marks_of 2 5 Sender) (marks_of 3 5 Receiver) (inside 5) (passes 5)

  -- ---- who waits
  record Waiting (p : ℕ) (w : IsBlocked solo s p) : Type 0 where
    free : caused view (process p) (s.histories p) ≡ None
    calls : (process p).calls ((process p).does (place (process p) (s.histories p))) ≡ At w.buffer w.side w.visit
    lacks : LacksAt inside w.buffer w.side

  waiting : (p : ℕ) (w : IsBlocked solo s p) → IsProcess p → Waiting p w
  waiting p w one =
      let h = s.histories p in
      let free = waits-free table placed p h w.calls.action w.buffer w.side w.visit one w.calls.next w.calls.call w.can_wait in
      record {
        free = free;
        calls = ap (process p).calls (does-next table p h w.calls.action free w.calls.next) ∙ w.calls.call;
        lacks = subst (λ c. Lacks c (inside w.buffer) w.side) (st.capacity w.buffer ∙ sizes w.buffer) w.lacks;
      }

  has-ended : (p : ℕ) → IsProcess p → next_action view (process p) (s.histories p) ≡ None → EndedAs p (s.histories p)
  has-ended p one e =
      let (how, ended_so) = none-ended table p (s.histories p) e in
      ended-as p (s.histories p) how (caused view (process p) (s.histories p)) refl (ends-rightly table placed p (s.histories p) how one
      (st.follows p) ended_so)

  -- ---- the input process, at rest: it waits, it has left, or it has stopped its three buffers
  data AtRest (p a q r full : ℕ) (phase : Phase) (c : Tally) : Type 0 where
    Waits : (b : ℕ) → ServesAt inside a q r full phase b → InPhase phase c → AtRest p a q r full phase c
    HasLeft : InPhase Left c → AtRest p a q r full phase c
    HasStopped : ((b : ℕ) → IsOf a q r b → Free b → ⊥) → AtRest p a q r full phase c

  input-rest : AtRest 1 1 2 3 1 (input_phase (place input (s.histories 1))) serves-in
  input-rest =
      elim (rests-now 1 is-1) as (λ _. AtRest 1 1 2 3 1 (input_phase (place input (s.histories 1))) serves-in) [
        | inl e ↦ elim (has-ended 1 is-1 e) as (λ _. AtRest 1 1 2 3 1 (input_phase (place input (s.histories 1))) serves-in) [
          | Finished free final ↦ HasLeft (subst (λ phase. InPhase phase serves-in) (input-left (place input (s.histories 1)) outcome.Done final)
              (input-stands (s.histories 1) (st.follows 1) free).1)
          | Closed all ↦ HasStopped (λ b. among-three (λ b. Free b → ⊥) 1 2 3 b (never-stopped 1 1 is-1 (are-stops 1 is-1).0 all.0)
              (never-stopped 1 2 is-1 (are-stops 1 is-1).1.0 all.1.0) (never-stopped 1 3 is-1 (are-stops 1 is-1).1.1.0 all.1.1.0))
        ]
        | inr w ↦ (let is = waiting 1 w is-1 in
            Waits w.buffer (input-waits inside w.buffer w.side w.visit is.lacks (place input (s.histories 1)) is.calls)
            (input-stands (s.histories 1) (st.follows 1) is.free).1)
      ]

  output-rest : AtRest 3 4 5 6 0 (output_phase (place output (s.histories 3))) serves-out
  output-rest =
      elim (rests-now 3 is-3) as (λ _. AtRest 3 4 5 6 0 (output_phase (place output (s.histories 3))) serves-out) [
        | inl e ↦ elim (has-ended 3 is-3 e) as (λ _. AtRest 3 4 5 6 0 (output_phase (place output (s.histories 3))) serves-out) [
          | Finished free final ↦ HasLeft (subst (λ phase. InPhase phase serves-out) (output-left (place output (s.histories 3)) outcome.Done final)
              (output-stands (s.histories 3) (st.follows 3) free))
          | Closed all ↦ HasStopped (λ b. among-three (λ b. Free b → ⊥) 4 5 6 b (never-stopped 3 4 is-3 (are-stops 3 is-3).0 all.0)
              (never-stopped 3 5 is-3 (are-stops 3 is-3).1.0 all.1.0) (never-stopped 3 6 is-3 (are-stops 3 is-3).1.1.0 all.1.1.0))
        ]
        | inr w ↦ (let is = waiting 3 w is-3 in
            Waits w.buffer (output-waits inside w.buffer w.side w.visit is.lacks (place output (s.histories 3)) is.calls)
            (output-stands (s.histories 3) (st.follows 3) is.free))
      ]

  -- ---- the job process doesn't wait for either
  asks-in-not : (x : Phase) (b : ℕ) → InPhase x asks-in → AsksAt inside 1 2 3 0 x b → Free b → ⊥
  asks-in-not x b is at free =
      elim input-rest as (λ _. ⊥) [
        | Waits at-b w c ↦ who-asks_taking asks-in serves-in _ _ _ _ _ between-in x (input_phase (place input (s.histories 1))) pages-in is c at.waits w.waits
        | HasLeft c ↦ who-asks_taking asks-in serves-in _ _ _ _ _ between-in x Left pages-in is c at.waits tt
        | HasStopped never ↦ never b at.of free
      ]

  asks-out-not : (x : Phase) (b : ℕ) → InPhase x asks-out → AsksAt inside 4 5 6 1 x b → Free b → ⊥
  asks-out-not x b is at free =
      elim output-rest as (λ _. ⊥) [
        | Waits at-b w c ↦ who-asks_putting asks-out serves-out _ _ _ _ _ between-out x (output_phase (place output
            (s.histories 3))) pages-out is c at.waits w.waits
        | HasLeft c ↦ who-asks_putting asks-out serves-out _ _ _ _ _ between-out x Left pages-out is c at.waits tt
        | HasStopped never ↦ never b at.of free
      ]

  job-not : IsBlocked solo s 2 → ⊥
  job-not w =
      let is = waiting 2 w is-2 in
      let a = place job (s.histories 2) in
      elim (job-waits inside w.buffer w.side w.visit is.lacks a is.calls) as (λ _. ⊥) [
        | inl at ↦ asks-in-not (in_phase a) w.buffer (job-in (s.histories 2) (st.follows 2) is.free) at w.not_stopped
        | inr at ↦ asks-out-not (out_phase a) w.buffer (job-out (s.histories 2) (st.follows 2) is.free).1 at w.not_stopped
      ]

  job-ended : next_action view job (s.histories 2) ≡ None
  job-ended = elim (rests-now 2 is-2) as (λ _. next_action view job (s.histories 2) ≡ None) [ inl e ↦ e | inr w ↦ absurd (job-not w) ]

  -- ---- and then neither do they
  job-how : EndedAs 2 (s.histories 2)
  job-how = has-ended 2 is-2 job-ended

  input-not : IsBlocked solo s 1 → ⊥
  input-not w =
      let is = waiting 1 w is-1 in
      let a = place input (s.histories 1) in
      let at = input-waits inside w.buffer w.side w.visit is.lacks a is.calls in
      elim job-how as (λ _. ⊥) [
        | Finished free final ↦ who-left_taking asks-in serves-in _ _ _ _ _ between-in (input_phase a) pages-in
            (subst (λ phase. InPhase phase asks-in) (job-left (place job (s.histories 2)) outcome.Done final).0 (job-in (s.histories 2) (st.follows 2) free))
            (input-stands (s.histories 1) (st.follows 1) is.free).1 at.waits at.not_left
        | Closed all ↦ among-three (λ b. Free b → ⊥) 1 2 3 w.buffer (never-stopped 2 1 is-2 (are-stops 2 is-2).0 all.0)
            (never-stopped 2 2 is-2 (are-stops 2 is-2).1.0 all.1.0) (never-stopped 2 3 is-2 (are-stops 2 is-2).1.1.0 all.1.1.0) at.of w.not_stopped
      ]

  output-not : IsBlocked solo s 3 → ⊥
  output-not w =
      let is = waiting 3 w is-3 in
      let a = place output (s.histories 3) in
      let at = output-waits inside w.buffer w.side w.visit is.lacks a is.calls in
      elim job-how as (λ _. ⊥) [
        | Finished free final ↦ who-left_putting asks-out serves-out _ _ _ _ _ between-out (output_phase a) pages-out
            (subst (λ phase. InPhase phase asks-out) (job-left (place job (s.histories 2)) outcome.Done final).1 (job-out (s.histories 2)
            (st.follows 2) free).1)
            (output-stands (s.histories 3) (st.follows 3) is.free) at.waits at.not_left
        | Closed all ↦ among-three (λ b. Free b → ⊥) 4 5 6 w.buffer (never-stopped 2 4 is-2 (are-stops 2 is-2).1.1.1.0 all.1.1.1.0)
            (never-stopped 2 5 is-2 (are-stops 2 is-2).1.1.1.1.0 all.1.1.1.1.0) (never-stopped 2 6 is-2
            (are-stops 2 is-2).1.1.1.1.1.0 all.1.1.1.1.1.0) at.of w.not_stopped
      ]

  ended-so : (p : ℕ) → next_action view (process p) (s.histories p) ≡ None → HasEnded table s p
  ended-so p e = none-ended table p (s.histories p) e

  pub ended-all : (p : ℕ) → IsProcess p → HasEnded table s p
  ended-all p one =
      each-process (HasEnded table s) p one
      (elim (rests-now 1 is-1) as (λ _. HasEnded table s 1) [ inl e ↦ ended-so 1 e | inr w ↦ absurd (input-not w) ]) (ended-so 2 job-ended)
      (elim (rests-now 3 is-3) as (λ _. HasEnded table s 3) [ inl e ↦ ended-so 3 e | inr w ↦ absurd (output-not w) ])

pub never-stuck : (devices : Devices) (s : SoloState) → IsReached devices s → IsStuck s → ⊥
never-stuck devices s reached stuck =
    let st = reached-stands solo-lawful openings (record { devices = devices; sound = reached.sound }) s reached.reached in
    stuck.not_ended (ended-all (opened devices) s st (λ b. ([], refl)) (λ b. refl) (reached-sound devices s reached) stuck.none_enabled)
