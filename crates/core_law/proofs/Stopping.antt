-- Five histories side by side: how they end together, by who stopped each buffer first.
use Rattle.std.proofs.Common.{◌≡◌, inl, inr, ℕ, zero, suc, ◌+◌, ◌-◌, Bool, true, false, Option, None, Some, List, refl, sym, ◌∙◌, ap, subst, arith, lit≤}
use Rattle.std.proofs.lemmas.Bool.Decides.{eqb_tells}
use Rattle.solo_base.specs.declared.outcome.Side.{Side}
use Rattle.solo_base.specs.declared.outcome.Side.TheVariants.{Sender, Receiver}
use Rattle.solo_base.specs.declared.outcome.Outcome.{Outcome}
use Rattle.solo_base.specs.declared.outcome.Outcome.TheVariants as outcome
use Rattle.solo_base.specs.declared.outcome.Cause.{Cause}
use Rattle.queue_var.specs.Sides.{other}
use Rattle.batch_procs.specs.declared.actions.Action.TheVariants as act
use Rattle.batch_procs.specs.History.{Entry, newest, has_stopped}
use Rattle.batch_procs.specs.Causes.{caused}
use Rattle.batch_procs.specs.Process.{Process, Follows}
use Rattle.batch_procs.specs.Laws.{HasEnded, IsNotDone}
use Rattle.batch_procs.proofs.Closing.{caused-not_done, unstopped}
use Rattle.batch_procs.proofs.Ended.{ended-rightly, done-free}
use Rattle.core_law.specs.Core.{seat, IsBuffer}
use Rattle.core_law.specs.Ends.{IsProcess, outcome_by}
use Rattle.core_law.proofs.Row.{IsRow, Among, among-all}
use Rattle.core_law.proofs.Outcomes.{ended-as, stopped-cause, any-way}
use Rattle.core_law.proofs.Passing.{EndDone}
use Rattle.batch_procs.specs.Jobs.{Jobs, AreJobs}

-- the other side of one of its buffers stopped it first
pub record WasToldBy (first : ℕ → Option Side) (p : ℕ) : Type 0 where
  pub buffer : ℕ
  pub side : Side
  pub is_buffer : IsBuffer buffer
  pub seated : seat buffer side ≡ p
  pub by : first buffer ≡ Some (other side)

pub seat-one : (b : ℕ) (side : Side) → IsBuffer b → IsProcess (seat b side)
seat-one b Sender is = (is.0, (let below = is.1 in omega (arith, below)))
seat-one b Receiver is = (omega arith, (let below = is.1 in omega (arith, below)))

module _ {L : Type 0} {J : Jobs L} (jobs : AreJobs J) where
  -- Each buffer was first stopped by this side, which did stop it, or by none, and then neither did. Who has the
  -- cause Stopped was told so.
  pub record AreFirst (histories : ℕ → List (Entry L)) (first : ℕ → Option Side) : Type 0 where
    pub neither : (b : ℕ) → IsBuffer b → first b ≡ None → (side : Side) → has_stopped b (histories (seat b side)) ≡ false
    pub did : (b : ℕ) → IsBuffer b → (side : Side) → first b ≡ Some side → has_stopped b (histories (seat b side)) ≡ true
    pub told : (p : ℕ) → IsProcess p → caused (histories p) ≡ Some outcome.Stopped → WasToldBy first p

  -- some process has a fault for its cause
  pub record HasFault (histories : ℕ → List (Entry L)) : Type 0 where
    pub process : ℕ
    pub cause : Cause
    pub one : IsProcess process
    pub is : caused (histories process) ≡ Some (outcome.Fault cause)

  -- some process ended with a fault
  pub record EndsInFault (histories : ℕ → List (Entry L)) : Type 0 where
    pub process : ℕ
    pub cause : Cause
    pub one : IsProcess process
    pub ended : newest (histories process) ≡ Some (act.Ended (outcome.Fault cause))

  past-last : (b : ℕ) → b + 0 ≡ 4 → IsBuffer (suc b) → ⊥
  past-last b e is = (let high = is.1 in omega (arith, e, high))

  one-more : (b n : ℕ) → b + suc n ≡ 4 → suc b + n ≡ 4
  one-more b n e = omega (arith, e)

  to-last : (b : ℕ) → IsBuffer b → b + (4 - b) ≡ 4
  to-last b is = (let high = is.1 in omega (arith, high))

  not-zero : IsBuffer 0 → ⊥
  not-zero is = (let low = is.0 in omega (arith, low))

  suc-same : (a b : ℕ) → suc a ≡ suc b → a ≡ b
  suc-same a b e = omega (arith, e)

  not-both : (first : Option Side) → first ≡ Some Sender → first ≡ Some Receiver → ⊥
  not-both first a b = cc

  both-some : (t : Bool) → t ≡ true → t ≡ false → ⊥
  both-some t a b = cc

  module _ {row : ℕ → Process L} (laws : IsRow jobs row) (histories : ℕ → List (Entry L)) (follows : (p : ℕ) → Follows J (row p) (histories p))
      (first : ℕ → Option Side)
      (are : AreFirst histories first) where
    -- ---- all done
    none-first : EndDone jobs histories → (b : ℕ) → IsBuffer b → (by : Option Side) → first b ≡ by → by ≡ None
    none-first all b is None e = refl
    none-first all b is (Some side) e =
        let q = seat b side in
        let free = done-free J (row q) (histories q) (follows q) (all q (seat-one b side is)) in
        absurd (both-some (has_stopped b (histories q)) (are.did b is side e) (unstopped J (row q) b (histories q) (laws.relays q) (follows q) free))

    pub done-none : EndDone jobs histories → (b : ℕ) → IsBuffer b → first b ≡ None
    done-none all b is = none-first all b is (first b) refl

    -- ---- no buffer was stopped
    one-buffer : (p b : ℕ) (side : Side) (how : Outcome) → IsBuffer b → seat b side ≡ p → Among b (row p).buffers → first b ≡ None
        → newest (histories p) ≡ Some (act.Ended how) → how ≡ outcome.Done
    one-buffer p b side how is seated among free e =
        elim (any-way how) as (λ _. how ≡ outcome.Done) [
          | inl done ↦ done
          | inr not ↦
              let r = ended-rightly J (row p) (histories p) how (laws.relays p) (follows p) e in
              let stopped = among-all (λ b. has_stopped b (histories p) ≡ true) b (row p).buffers (r.otherwise not) among in
              absurd (both-some (has_stopped b (histories p)) stopped
              (subst (λ q. has_stopped b (histories q) ≡ false) seated (are.neither b is free side)))
        ]

    pub none-done : ((b : ℕ) → IsBuffer b → first b ≡ None) → (p : ℕ) (how : Outcome) → IsProcess p → newest (histories p) ≡ Some (act.Ended how)
        → how ≡ outcome.Done
    none-done free p how one e =
        elim (eqb_tells p 5) as (λ _. how ≡ outcome.Done) [
          | inl last ↦ one-buffer p 4 Receiver how (lit≤ tt, lit≤ tt) (sym last.1)
              (subst (λ p. Among 4 (row p).buffers) (sym last.1) (laws.both 4 (lit≤ tt, lit≤ tt)).1) (free 4 (lit≤ tt, lit≤ tt)) e
          | inr differ ↦ (let is : IsBuffer p = (one.0, (let not = differ.1 in let below = one.1 in omega (arith, not, below))) in
              one-buffer p p Sender how is refl (laws.both p is).0 (free p is) e)
        ]

    -- ---- every stop goes back to a fault: who was told by one neighbour can only have told the other
    stopper-caused : (b : ℕ) (side : Side) → IsBuffer b → first b ≡ Some side → caused (histories (seat b side)) ≡ None → ⊥
    stopper-caused b side is e none =
        let q = seat b side in
        both-some (has_stopped b (histories q)) (are.did b is side e) (unstopped J (row q) b (histories q) (laws.relays q) (follows q) none)

    -- who stopped a buffer first has a fault, or was told so at its other buffer
    abbrev GoesOn : ℕ → Type 0
    GoesOn p = (c : ℕ) (side : Side) → IsBuffer c → seat c side ≡ p → first c ≡ Some (other side) → HasFault histories

    stopper-by : (b : ℕ) (side : Side) (cause : Option Outcome) → IsBuffer b → first b ≡ Some side → GoesOn (seat b side)
        → caused (histories (seat b side)) ≡ cause → HasFault histories
    stopper-by b side None is e on c = absurd (stopper-caused b side is e c)
    stopper-by b side (Some outcome.Done) is e on c = absurd (subst IsNotDone c (caused-not_done J (histories (seat b side))))
    stopper-by b side (Some outcome.Stopped) is e on c = (let told = are.told (seat b side) (seat-one b side is) c in
        on told.buffer told.side told.is_buffer told.seated told.by)
    stopper-by b side (Some (outcome.Fault cause)) is e on c = record { process = seat b side; cause = cause; one = seat-one b side is; is = c }

    -- the receiver at the buffer behind it
    further : (b : ℕ) → first b ≡ Some Receiver → (IsBuffer (suc b) → first (suc b) ≡ Some Receiver → HasFault histories) → GoesOn (suc b)
    further b e next c Sender is seated by = next (subst IsBuffer seated is) (subst (λ c. first c ≡ Some Receiver) seated by)
    further b e next c Receiver is seated by = absurd (not-both (first b) (subst (λ c. first c ≡ Some Sender) (suc-same c b seated) by) e)

    receiver-fault : (n b : ℕ) → b + n ≡ 4 → IsBuffer b → first b ≡ Some Receiver → HasFault histories
    receiver-fault zero b at is e =
        stopper-by b Receiver (caused (histories (suc b))) is e (further b e (λ next by. absurd (past-last b at next))) refl
    receiver-fault (suc n) b at is e =
        stopper-by b Receiver (caused (histories (suc b))) is e (further b e (λ next by. receiver-fault n (suc b) (one-more b n at) next by)) refl

    -- the sender at the buffer before it
    before : (b : ℕ) → first b ≡ Some Sender → ((c : ℕ) → suc c ≡ b → IsBuffer c → first c ≡ Some Sender → HasFault histories) → GoesOn b
    before b e next c Sender is seated by = absurd (not-both (first b) e (subst (λ c. first c ≡ Some Receiver) seated by))
    before b e next c Receiver is seated by = next c seated is by

    sender-fault : (b : ℕ) → IsBuffer b → first b ≡ Some Sender → HasFault histories
    sender-fault zero is e = absurd (not-zero is)
    sender-fault (suc b) is e =
        stopper-by (suc b) Sender (caused (histories (suc b))) is e
        (before (suc b) e (λ c seated next by. (let same = suc-same c b seated in
        sender-fault b (subst IsBuffer same next) (subst (λ c. first c ≡ Some Sender) same by)))) refl

    stop-fault : (b : ℕ) (side : Side) → IsBuffer b → first b ≡ Some (other side) → HasFault histories
    stop-fault b Sender is e = receiver-fault (4 - b) b (to-last b is) is e
    stop-fault b Receiver is e = sender-fault b is e

    pub stopped-by : ((p : ℕ) → IsProcess p → HasEnded (histories p)) → (p : ℕ) → IsProcess p → newest (histories p) ≡ Some (act.Ended outcome.Stopped)
        → WasToldBy first p × EndsInFault histories
    stopped-by all p one e =
        let told = are.told p one (stopped-cause (caused (histories p)) (ended-as jobs (row p) (histories p) outcome.Stopped (laws.relays p) (follows p) e)) in
        let fault = stop-fault told.buffer told.side told.is_buffer told.by in
        let q = fault.process in
        let (how, ended) = all q fault.one in
        let same : outcome.Fault fault.cause ≡ how = sym (ap outcome_by fault.is) ∙ ended-as jobs (row q) (histories q) how (laws.relays q)
        (follows q) ended in (
          told,
          record {
            process = q;
            cause = fault.cause;
            one = fault.one;
            ended = subst (λ how. newest (histories q) ≡ Some (act.Ended how)) (sym same) ended;
          },
        )
