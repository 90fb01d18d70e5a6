-- How a session ends a command, by the outcomes of its three processes; and the reason of each cause.
use Rattle.std.proofs.Common.{◌≡◌, ◌≢◌, ◌⊎◌, inl, inr, ◌<◌, ◌≤◌, ℕ, true, List, [], ◌∷◌, length, Option, Some, None, refl, sym, ◌∙◌, subst, arith, lit≤}
use Rattle.std.specs.Prelude.{IfSome}
use Rattle.solo_base.specs.declared.outcome.Cause.{Cause}
use Rattle.solo_base.specs.declared.outcome.Cause.TheVariants as cause
use Rattle.solo_base.specs.declared.outcome.Outcome.{Outcome}
use Rattle.solo_base.specs.declared.outcome.Outcome.TheVariants as outcome
use Rattle.solo_base.specs.declared.outcome.Side.{Side}
use Rattle.solo_devices.specs.Count.{Rose}
use Rattle.solo_devices.specs.CardUnit.{byte_limit, bytes_total}
use Rattle.solo_law.specs.Solo.{IsProcess}
use Rattle.solo_law.specs.Holds.{IsAmong}
use Rattle.solo_law.proofs.Placed.{each-process, is-1, is-2}
use Rattle.solo_ends.specs.Ends.{EndTogether, FaultsAre, all_done, outcome_at}
use Rattle.solo_ends.specs.Faults.{AreCounted}
use Rattle.run_report.specs.Decides.{IsIn, decides}
use Rattle.run_report.specs.Status.{number_of}
use Rattle.run_report.proofs.Lowest.{among, least, no-fault}
use Rattle.solo_cli.specs.declared.refusal.Refusal.{Refusal}
use Rattle.solo_cli.specs.declared.refusal.Refusal.TheVariants.{Fault, NoRoom}
use Rattle.solo_cli.specs.Causes.{EndsBy, FaultBy, is_listed, session_statuses}
use Rattle.solo_cli.specs.Devices.{Kit}
use Rattle.solo_cli.specs.Reasons.{Answers, EndsByLimit}
use Rattle.solo_cli.specs.Refusals.{OfFault, as_refusal}
use Rattle.solo_cli.specs.Sessions.{SessionEnds, as_peripherals, counts_told}
use Rattle.solo_cli.specs.Uses.{Kept, session_used}
use Rattle.solo_cli.proofs.LowestCause.{none-is}
use Rattle.solo_cli.proofs.Tables.{tells-place, untrue, whole}

-- ---- three outcomes
pub at-some : (outcomes : List Outcome) → length outcomes ≡ 3 → (o : Outcome) → IsIn o outcomes
    → (outcome_at outcomes 1 ≡ o) ⊎ ((outcome_at outcomes 2 ≡ o) ⊎ (outcome_at outcomes 3 ≡ o))
at-some [] three o at = absurd at
at-some (a ∷ []) three o at = absurd (omega (arith, three))
at-some (a ∷ b ∷ []) three o at = absurd (omega (arith, three))
at-some (a ∷ b ∷ c ∷ []) three o (inl at) = inl at
at-some (a ∷ b ∷ c ∷ []) three o (inr (inl at)) = inr (inl at)
at-some (a ∷ b ∷ c ∷ []) three o (inr (inr (inl at))) = inr (inr at)
at-some (a ∷ b ∷ c ∷ []) three o (inr (inr (inr none))) = absurd none
at-some (a ∷ b ∷ c ∷ d ∷ rest) three o at = absurd (omega (arith, three))

in-row : (outcomes : List Outcome) → length outcomes ≡ 3 → (p : ℕ) → IsProcess p → IsIn (outcome_at outcomes p) outcomes
in-row [] three p one = absurd (omega (arith, three))
in-row (a ∷ []) three p one = absurd (omega (arith, three))
in-row (a ∷ b ∷ []) three p one = absurd (omega (arith, three))
in-row (a ∷ b ∷ c ∷ []) three p one =
    each-process (λ p. IsIn (outcome_at (a ∷ b ∷ c ∷ []) p) (a ∷ b ∷ c ∷ [])) p one (inl refl) (inr (inl refl)) (inr (inr (inl refl)))
in-row (a ∷ b ∷ c ∷ d ∷ rest) three p one = absurd (omega (arith, three))

all-three : (outcomes : List Outcome) → length outcomes ≡ 3 → outcome_at outcomes 1 ≡ outcome.Done → outcome_at outcomes 2 ≡ outcome.Done
    → outcome_at outcomes 3 ≡ outcome.Done → outcomes ≡ all_done
all-three [] three one two last = absurd (omega (arith, three))
all-three (a ∷ []) three one two last = absurd (omega (arith, three))
all-three (a ∷ b ∷ []) three one two last = absurd (omega (arith, three))
all-three (a ∷ b ∷ c ∷ []) three one two last = cc
all-three (a ∷ b ∷ c ∷ d ∷ rest) three one two last = absurd (omega (arith, three))

done-or : (o : Outcome) → ((c : Cause) → o ≡ outcome.Fault c → ⊥) → (o ≡ outcome.Stopped → ⊥) → o ≡ outcome.Done
done-or outcome.Done faulty stopped = refl
done-or (outcome.Fault c) faulty stopped = absurd (faulty c refl)
done-or outcome.Stopped faulty stopped = absurd (stopped refl)

pub is-3 : IsProcess 3
is-3 = (lit≤ tt, lit≤ tt)

-- ---- where no cause decides, all three did their work
module _ (outcomes : List Outcome) (stops : List (Option Side)) (three : length outcomes ≡ 3) (together : EndTogether outcomes stops)
    (none : decides outcomes ≡ None) where
  no-fault-at : (p : ℕ) → IsProcess p → (c : Cause) → outcome_at outcomes p ≡ outcome.Fault c → ⊥
  no-fault-at p one c is = no-fault outcomes none c (subst (λ o. IsIn o outcomes) is (in-row outcomes three p one))

  done-at : (p : ℕ) → IsProcess p → outcome_at outcomes p ≡ outcome.Done
  done-at p one = done-or (outcome_at outcomes p) (no-fault-at p one) (λ stopped.
      let fault : _ = (together.stopped p one stopped).1 in no-fault-at fault.process fault.one fault.cause fault.is)

  pub all-done : outcomes ≡ all_done
  all-done = all-three outcomes three (done-at 1 is-1) (done-at 2 is-2) (done-at 3 is-3)

pub one-of : (outcomes : List Outcome) (found : Option Cause) → decides outcomes ≡ found
    → IfSome (as_refusal found) (OfFault (λ why. IsIn (outcome.Fault why) outcomes))
one-of outcomes None is = tt
one-of outcomes (Some why) is = among outcomes why is

pub none-lower : (outcomes : List Outcome) (found : Option Cause) → decides outcomes ≡ found → (fault : Cause) → IsIn (outcome.Fault fault) outcomes
    → (why : Cause) × (as_refusal found ≡ Some (Fault why)) × (number_of why ≤ number_of fault)
none-lower outcomes None is fault at = absurd (no-fault outcomes is fault at)
none-lower outcomes (Some why) is fault at = (why, refl, least outcomes why is fault at)

-- the cause is the lowest of theirs
abbrev pub session-ends : {S Y K T F I O : Type 0} (before after : Kit S Y K T F I O) (outcomes : List Outcome) (stops : List (Option Side))
    → length outcomes ≡ 3 → EndTogether outcomes stops → FaultsAre outcomes
    → AreCounted counts_told (as_peripherals before) (as_peripherals after) outcomes → SessionEnds before after (as_refusal (decides outcomes))
session-ends before after outcomes stops three together faults counted = record {
  outcomes = outcomes;
  stopped_by = stops;
  together = together;
  faults = faults;
  counted = counted;
  one_of = one-of outcomes (decides outcomes) refl;
  none_lower = none-lower outcomes (decides outcomes) refl;
  done = λ none. all-done outcomes stops three together (none-is (decides outcomes) none);
}

-- ---- which fault is whose
not-input : (c : Cause) → c ≢ cause.ReadFault → c ≢ cause.DeckLimit → IsAmong c (cause.ReadFault ∷ cause.DeckLimit ∷ []) → ⊥
not-input c read limit (inl is) = read is
not-input c read limit (inr (inl is)) = limit is
not-input c read limit (inr (inr none)) = none

not-output : (c : Cause) → c ≢ cause.PrintFault → c ≢ cause.NoMemory → IsAmong c (cause.PrintFault ∷ cause.NoMemory ∷ []) → ⊥
not-output c print memory (inl is) = print is
not-output c print memory (inr (inl is)) = memory is
not-output c print memory (inr (inr none)) = none

abbrev OfJob : Cause → Type 0
OfJob c = IsAmong c (cause.ReadFault ∷ cause.DeckLimit ∷ cause.ConsoleFault ∷ cause.DiskFault ∷ cause.NoMemory ∷ [])

no-print : OfJob cause.PrintFault → ⊥
no-print (inl is) = cc
no-print (inr (inl is)) = cc
no-print (inr (inr (inl is))) = cc
no-print (inr (inr (inr (inl is)))) = cc
no-print (inr (inr (inr (inr (inl is))))) = cc
no-print (inr (inr (inr (inr (inr none))))) = none

by : (c it : Cause) → c ≡ it → is_listed session_statuses (number_of it) ≡ true → FaultBy session_statuses c
by c it is one = subst (FaultBy session_statuses) (sym is) one

of-input : (c : Cause) → IsAmong c (cause.ReadFault ∷ cause.DeckLimit ∷ []) → FaultBy session_statuses c
of-input c (inl is) = by c cause.ReadFault is refl
of-input c (inr (inl is)) = by c cause.DeckLimit is refl
of-input c (inr (inr none)) = absurd none

of-job : (c : Cause) → OfJob c → FaultBy session_statuses c
of-job c (inl is) = by c cause.ReadFault is refl
of-job c (inr (inl is)) = by c cause.DeckLimit is refl
of-job c (inr (inr (inl is))) = by c cause.ConsoleFault is refl
of-job c (inr (inr (inr (inl is)))) = by c cause.DiskFault is refl
of-job c (inr (inr (inr (inr (inl is))))) = by c cause.NoMemory is refl
of-job c (inr (inr (inr (inr (inr none))))) = absurd none

of-output : (c : Cause) → IsAmong c (cause.PrintFault ∷ cause.NoMemory ∷ []) → FaultBy session_statuses c
of-output c (inl is) = by c cause.PrintFault is refl
of-output c (inr (inl is)) = by c cause.NoMemory is refl
of-output c (inr (inr none)) = absurd none

-- a cause with a number up to that of the limit
by-limit : (answer : Option Refusal) (why : Cause) → answer ≡ Some (Fault why) → number_of why ≤ 6 → FaultBy session_statuses why
    → EndsByLimit true true answer
by-limit answer cause.Usage is low known = absurd (untrue known)
by-limit answer cause.ReadFault is low known = inl is
by-limit answer cause.DiskFault is low known = inr (inr (inl is))
by-limit answer cause.PrintFault is low known = inr (inr (inr (inl is)))
by-limit answer cause.ConsoleFault is low known = inr (inl is)
by-limit answer cause.DeckLimit is low known = inr (inr (inr (inr is)))
by-limit answer (cause.NotSolo page) is low known = absurd (untrue known)
by-limit answer (cause.Damaged expected found at) is low known = absurd (untrue known)
by-limit answer cause.NoMemory is low known = absurd (omega (arith, low))

module _ {S Y K T F I O : Type 0} {before after : Kit S Y K T F I O} {answer : Option Refusal} (ends : SessionEnds before after answer)
    (three : length ends.outcomes ≡ 3) where
  abbrev OneOf : Cause → Type 0
  OneOf why = IsIn (outcome.Fault why) ends.outcomes

  at : (c : Cause) → answer ≡ Some (Fault c) → (outcome_at ends.outcomes 1 ≡ outcome.Fault c)
      ⊎ ((outcome_at ends.outcomes 2 ≡ outcome.Fault c) ⊎ (outcome_at ends.outcomes 3 ≡ outcome.Fault c))
  at c is = at-some ends.outcomes three (outcome.Fault c) (subst (λ answer. IfSome answer (OfFault OneOf)) is ends.one_of)

  known-at : (c : Cause) → OneOf c → FaultBy session_statuses c
  known-at c one = elim (at-some ends.outcomes three (outcome.Fault c) one) [
    | inl at ↦ of-input c (ends.faults.input c at)
    | inr (inl at) ↦ of-job c (ends.faults.job c at)
    | inr (inr at) ↦ of-output c (ends.faults.output c at)
  ]

  known-of : (answer : Option Refusal) → IfSome answer (OfFault OneOf) → IfSome answer (EndsBy session_statuses)
  known-of None one = tt
  known-of (Some (NoRoom needed free)) one = absurd one
  known-of (Some (Fault why)) one = known-at why one

  known : IfSome answer (EndsBy session_statuses)
  known = known-of answer ends.one_of

  read : answer ≡ Some (Fault cause.ReadFault)
      → Rose before.deck.faults after.deck.faults ⊎ Rose before.keys.faults after.keys.faults
  read is = elim (at cause.ReadFault is) [
    | inl at ↦ inl (ends.counted.read at)
    | inr (inl at) ↦ inr (ends.counted.typed at)
    | inr (inr at) ↦ absurd (not-output cause.ReadFault (λ e. cc) (λ e. cc) (ends.faults.output cause.ReadFault at))
  ]

  disk : answer ≡ Some (Fault cause.DiskFault) → Rose before.files.faults after.files.faults
  disk is = elim (at cause.DiskFault is) [
    | inl at ↦ absurd (not-input cause.DiskFault (λ e. cc) (λ e. cc) (ends.faults.input cause.DiskFault at))
    | inr (inl at) ↦ ends.counted.disk at
    | inr (inr at) ↦ absurd (not-output cause.DiskFault (λ e. cc) (λ e. cc) (ends.faults.output cause.DiskFault at))
  ]

  print : answer ≡ Some (Fault cause.PrintFault) → Rose before.paper.faults after.paper.faults
  print is = elim (at cause.PrintFault is) [
    | inl at ↦ absurd (not-input cause.PrintFault (λ e. cc) (λ e. cc) (ends.faults.input cause.PrintFault at))
    | inr (inl at) ↦ absurd (no-print (ends.faults.job cause.PrintFault at))
    | inr (inr at) ↦ ends.counted.print at
  ]

  shown : answer ≡ Some (Fault cause.ConsoleFault) → Rose before.console.faults after.console.faults
  shown is = elim (at cause.ConsoleFault is) [
    | inl at ↦ absurd (not-input cause.ConsoleFault (λ e. cc) (λ e. cc) (ends.faults.input cause.ConsoleFault at))
    | inr (inl at) ↦ ends.counted.show at
    | inr (inr at) ↦ absurd (not-output cause.ConsoleFault (λ e. cc) (λ e. cc) (ends.faults.output cause.ConsoleFault at))
  ]

  limit : answer ≡ Some (Fault cause.DeckLimit) → (byte_limit < after.deck.taken) ⊎ (byte_limit < after.keys.taken)
  limit is = elim (at cause.DeckLimit is) [
    | inl at ↦ inl (ends.counted.limit at)
    | inr (inl at) ↦ inr (ends.counted.typed_limit at)
    | inr (inr at) ↦ absurd (not-output cause.DeckLimit (λ e. cc) (λ e. cc) (ends.faults.output cause.DeckLimit at))
  ]

  by-lower : OneOf cause.DeckLimit → EndsByLimit true true answer
  by-lower one =
      let lower = ends.none_lower cause.DeckLimit one in
      by-limit answer lower.0 lower.1 lower.2 (subst (λ answer. IfSome answer (EndsBy session_statuses)) lower.1 known)

  pub beyond : before.deck.taken ≡ 0 → before.keys.taken ≡ 0 → (byte_limit < after.deck.taken) ⊎ (byte_limit < after.keys.taken)
      → EndsByLimit true true answer
  beyond deck keys (inl more) =
      let one = ends.counted.longer (omega (arith, deck)) more in
      by-lower (subst (λ o. IsIn o ends.outcomes) one (in-row ends.outcomes three 1 is-1))
  beyond deck keys (inr more) =
      let two = ends.counted.typed_longer (omega (arith, keys)) more in
      by-lower (subst (λ o. IsIn o ends.outcomes) two (in-row ends.outcomes three 2 is-2))

  pub session-answers : before.deck.taken ≡ 0 → before.keys.taken ≡ 0
      → bytes_total after.deck.taken after.deck.left ≡ bytes_total before.deck.taken before.deck.left
      → bytes_total after.keys.taken after.keys.left ≡ bytes_total before.keys.taken before.keys.left
      → Kept session_used before after → after.files.size ≡ before.files.size → Answers session_used (EndsBy session_statuses) before after answer
  session-answers deck keys deck_total keys_total kept size = record {
    known = known;
    read = read;
    disk = λ is. inr (inr (disk is));
    print = print;
    shown = shown;
    limit = limit;
    beyond = beyond deck keys;
    undamaged = λ input output. whole session_statuses answer refl known;
    numbers = tells-place session_statuses answer refl known;
    total = (deck_total, keys_total);
    kept = kept;
    size = size;
  }

-- where too many of the typed bytes were taken there is a cause
pub few-typed : (answer : Option Refusal) → answer ≡ None → EndsByLimit true true answer → ⊥
few-typed answer none (inl is) = (let no : None ≡ Some (Fault cause.ReadFault) = sym none ∙ is in cc)
few-typed answer none (inr (inl is)) = (let no : None ≡ Some (Fault cause.ConsoleFault) = sym none ∙ is in cc)
few-typed answer none (inr (inr (inl is))) = (let no : None ≡ Some (Fault cause.DiskFault) = sym none ∙ is in cc)
few-typed answer none (inr (inr (inr (inl is)))) = (let no : None ≡ Some (Fault cause.PrintFault) = sym none ∙ is in cc)
few-typed answer none (inr (inr (inr (inr is)))) = (let no : None ≡ Some (Fault cause.DeckLimit) = sym none ∙ is in cc)
