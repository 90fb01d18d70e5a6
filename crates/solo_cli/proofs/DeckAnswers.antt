-- The reason of each cause of a command that runs the deck.
use Rattle.std.proofs.Common.{◌≡◌, ◌≢◌, ◌⊎◌, inl, inr, ◌<◌, ◌≤◌, true, ◌∷◌, Option, Some, None, refl, sym, ◌∙◌, ap, subst, arith}
use Rattle.std.specs.Prelude.{IfSome, IsSome}
use Rattle.solo_base.specs.declared.outcome.Cause.{Cause}
use Rattle.solo_base.specs.declared.outcome.Cause.TheVariants as cause
use Rattle.solo_base.specs.declared.outcome.Outcome.TheVariants as outcome
use Rattle.solo_devices.specs.Count.{Rose}
use Rattle.solo_devices.specs.CardUnit.{byte_limit, bytes_total}
use Rattle.batch_procs.specs.Faults.{IsDamaged}
use Rattle.batch_ends.specs.declared.ends.Outcomes.{Outcomes}
use Rattle.batch_ends.specs.Ended.{FaultsAre, NoneDamaged, TellsWhere, all_done}
use Rattle.run_report.specs.Decides.{IsIn}
use Rattle.run_report.specs.Status.{number_of}
use Rattle.solo_cli.specs.declared.refusal.Refusal.{Refusal}
use Rattle.solo_cli.specs.declared.refusal.Refusal.TheVariants.{Fault, NoRoom}
use Rattle.solo_cli.specs.Causes.{EndsBy, FaultBy, is_listed, print_statuses, run_statuses}
use Rattle.solo_cli.specs.DeckRan.{DeckReasons}
use Rattle.solo_cli.specs.Decides.{DeckEnds, LineBehind, list_of}
use Rattle.solo_cli.specs.Devices.{DeckKit}
use Rattle.solo_cli.specs.Reasons.{IsByLimit}
use Rattle.solo_cli.specs.Refusals.{OfFault, TellsPlace}
use Rattle.solo_cli.specs.Status.{status_of}
use Rattle.solo_cli.proofs.AllDone.{read-in, limit-in, print-in, disk-in, in-none, numbers-in}
use Rattle.solo_cli.proofs.Statuses.{eight-is, is-eight}
use Rattle.solo_cli.proofs.Tables.{untrue, wider}

-- ---- the cause is one of those of the five
run-by : (c it : Cause) → c ≡ it → is_listed run_statuses (number_of it) ≡ true → FaultBy run_statuses c
run-by c it is one = subst (FaultBy run_statuses) (sym is) one

damaged-by : (c : Cause) → IsDamaged c → FaultBy run_statuses c
damaged-by c is = subst (λ n. is_listed run_statuses n ≡ true) (sym (is-eight c is)) refl

module _ (outcomes : Outcomes) (faults : FaultsAre outcomes) (c : Cause) where
  of-card : (c ≡ cause.ReadFault) ⊎ (c ≡ cause.DeckLimit) → FaultBy run_statuses c
  of-card (inl is) = run-by c cause.ReadFault is refl
  of-card (inr is) = run-by c cause.DeckLimit is refl

  of-job : (c ≡ cause.DiskFault) ⊎ (IsDamaged c ⊎ (c ≡ cause.NoMemory)) → FaultBy run_statuses c
  of-job (inl is) = run-by c cause.DiskFault is refl
  of-job (inr (inl is)) = damaged-by c is
  of-job (inr (inr is)) = run-by c cause.NoMemory is refl

  of-output : (c ≡ cause.DiskFault) ⊎ IsDamaged c → FaultBy run_statuses c
  of-output (inl is) = run-by c cause.DiskFault is refl
  of-output (inr is) = damaged-by c is

  of-printer : (c ≡ cause.PrintFault) ⊎ (c ≡ cause.NoMemory) → FaultBy run_statuses c
  of-printer (inl is) = run-by c cause.PrintFault is refl
  of-printer (inr is) = run-by c cause.NoMemory is refl

  pub run-cause : IsIn (outcome.Fault c) (list_of outcomes) → FaultBy run_statuses c
  run-cause (inl at) = of-card (faults.card c at)
  run-cause (inr (inl at)) = run-by c cause.DiskFault (faults.input c at) refl
  run-cause (inr (inr (inl at))) = of-job (faults.job c at)
  run-cause (inr (inr (inr (inl at)))) = of-output (faults.output c at)
  run-cause (inr (inr (inr (inr (inl at))))) = of-printer (faults.printer c at)
  run-cause (inr (inr (inr (inr (inr at))))) = absurd at

-- ---- what is printed behind the five
module _ {S K F I O : Type 0} (before after : DeckKit S K F I O) where
  behind-cause : (c : Cause) → LineBehind before after c → FaultBy run_statuses c
  behind-cause c (inl print) = run-by c cause.PrintFault print.0 refl
  behind-cause c (inr memory) = run-by c cause.NoMemory memory refl

  not-behind : (c : Cause) → (c ≡ cause.PrintFault → ⊥) → (c ≡ cause.NoMemory → ⊥) → LineBehind before after c → ⊥
  not-behind c print memory (inl is) = print is.0
  not-behind c print memory (inr is) = memory is

  behind-rose : LineBehind before after cause.PrintFault → Rose before.paper.faults after.paper.faults
  behind-rose (inl is) = is.1
  behind-rose (inr is) = absurd (let no : cause.PrintFault ≡ cause.NoMemory = is in cc)

  behind-whole : (c : Cause) → LineBehind before after c → number_of c ≢ 8
  behind-whole c (inl is) eight = (let four : number_of c ≡ 4 = ap number_of is.0 in omega (arith, four, eight))
  behind-whole c (inr is) eight = (let nine : number_of c ≡ 9 = ap number_of is in omega (arith, nine, eight))

  behind-numbers : (c : Cause) → LineBehind before after c → TellsWhere c
  behind-numbers c (inl is) = subst TellsWhere (sym is.0) tt
  behind-numbers c (inr is) = subst TellsWhere (sym is) tt

-- what may come of a line that is printed behind them
pub later-line : {S K F I O : Type 0} (before after : DeckKit S K F I O) (answer : Option Refusal) → IfSome answer (EndsBy print_statuses)
    → (answer ≡ Some (Fault cause.PrintFault) → Rose before.paper.faults after.paper.faults)
    → IfSome answer (OfFault (LineBehind before after))
later-line before after None known rose = tt
later-line before after (Some (NoRoom needed free)) known rose = absurd (untrue known)
later-line before after (Some (Fault cause.Usage)) known rose = absurd (untrue known)
later-line before after (Some (Fault cause.ReadFault)) known rose = absurd (untrue known)
later-line before after (Some (Fault cause.DiskFault)) known rose = absurd (untrue known)
later-line before after (Some (Fault cause.PrintFault)) known rose = inl (refl, rose refl)
later-line before after (Some (Fault cause.ConsoleFault)) known rose = absurd (untrue known)
later-line before after (Some (Fault cause.DeckLimit)) known rose = absurd (untrue known)
later-line before after (Some (Fault (cause.NotSolo page))) known rose = absurd (untrue known)
later-line before after (Some (Fault (cause.Damaged expected found at))) known rose = absurd (untrue known)
later-line before after (Some (Fault cause.NoMemory)) known rose = inr refl

module _ {S K F I O : Type 0} {Behind : Cause → Type 0} {before after : DeckKit S K F I O} {answer : Option Refusal}
    (ends : DeckEnds Behind before after answer) (later : (why : Cause) → Behind why → LineBehind before after why) where
  abbrev OneOf : Cause → Type 0
  OneOf why = IsIn (outcome.Fault why) (list_of ends.five.outcomes) ⊎ ((ends.five.outcomes ≡ all_done) × Behind why)

  -- a cause is a fault of the five, or comes behind them
  by : {X : Type 0} (c : Cause) → (IsIn (outcome.Fault c) (list_of ends.five.outcomes) → X) → (LineBehind before after c → X)
      → answer ≡ Some (Fault c) → X
  by c fault behind is =
      let one : OneOf c = subst (λ answer. IfSome answer (OfFault OneOf)) is ends.five.one_of in
      elim one [ inl at ↦ fault at | inr both ↦ behind (later c both.1) ]

  known-of : (answer : Option Refusal) → IfSome answer (OfFault OneOf) → IfSome answer (EndsBy run_statuses)
  known-of None one = tt
  known-of (Some (NoRoom needed free)) one = absurd one
  known-of (Some (Fault why)) (inl at) = run-cause ends.five.outcomes ends.five.faults why at
  known-of (Some (Fault why)) (inr both) = behind-cause before after why (later why both.1)

  disk-of : (ends.five.outcomes.input ≡ outcome.Fault cause.DiskFault)
      ⊎ ((ends.five.outcomes.job ≡ outcome.Fault cause.DiskFault) ⊎ (ends.five.outcomes.output ≡ outcome.Fault cause.DiskFault))
      → Rose before.input.faults after.input.faults ⊎ Rose before.output.faults after.output.faults ⊎ Rose before.files.faults after.files.faults
  disk-of (inl at) = inl (ends.counted.input at)
  disk-of (inr (inl at)) = ends.counted.job at
  disk-of (inr (inr at)) = inr (inl (ends.counted.output at))

  -- where too many bytes were taken, only a fault of the disk or of the paper comes before that
  beyond-of : (why : Cause) → ends.five.outcomes.card ≡ outcome.Fault cause.DeckLimit → answer ≡ Some (Fault why)
      → number_of why ≤ 6 → FaultBy run_statuses why → IsByLimit answer
  beyond-of cause.Usage card is low one = absurd (untrue one)
  beyond-of cause.ReadFault card is low one =
      absurd (by cause.ReadFault
      (λ at. let both : outcome.Fault cause.DeckLimit ≡ outcome.Fault cause.ReadFault
      = sym card ∙ read-in ends.five.outcomes ends.five.faults at in cc)
      (not-behind before after cause.ReadFault (λ e. cc) (λ e. cc)) is)
  beyond-of cause.DiskFault card is low one = inl is
  beyond-of cause.PrintFault card is low one = inr (inl is)
  beyond-of cause.ConsoleFault card is low one = absurd (untrue one)
  beyond-of cause.DeckLimit card is low one = inr (inr is)
  beyond-of (cause.NotSolo page) card is low one = absurd (untrue one)
  beyond-of (cause.Damaged expected found at) card is low one = absurd (omega (arith, low))
  beyond-of cause.NoMemory card is low one = absurd (omega (arith, low))

  pub deck-known : IfSome answer (EndsBy run_statuses)
  deck-known = known-of answer ends.five.one_of

  beyond : byte_limit < after.deck.taken → IsByLimit answer
  beyond more =
      let card = ends.counted.longer more in
      let lower = ends.five.none_lower cause.DeckLimit (inl card) in
      beyond-of lower.0 card lower.1 lower.2 (subst (λ answer. IfSome answer (EndsBy run_statuses)) lower.1 deck-known)

  whole-of : (answer : Option Refusal) → NoneDamaged ends.five.outcomes → IfSome answer (OfFault OneOf) → status_of answer ≢ 8
  whole-of None none one eight = cc
  whole-of (Some (NoRoom needed free)) none one eight = one
  whole-of (Some (Fault why)) none (inl at) eight = in-none ends.five.outcomes none why (eight-is why eight) at
  whole-of (Some (Fault why)) none (inr both) eight = behind-whole before after why (later why both.1) eight

  numbers-of : (answer : Option Refusal) → IfSome answer (OfFault OneOf) → IfSome answer TellsPlace
  numbers-of None one = tt
  numbers-of (Some (NoRoom needed free)) one = tt
  numbers-of (Some (Fault why)) (inl at) = numbers-in ends.five.outcomes ends.five.faults why at
  numbers-of (Some (Fault why)) (inr both) = behind-numbers before after why (later why both.1)

  -- ---- all of it
  pub deck-reasons : (IsSome before.input.pages → IsSome before.output.pages → NoneDamaged ends.five.outcomes)
      → bytes_total after.deck.taken after.deck.left ≡ bytes_total before.deck.taken before.deck.left
      → after.files.size ≡ before.files.size → DeckReasons true (7 ∷ run_statuses) before after answer
  deck-reasons none total size = record {
    known = wider run_statuses (7 ∷ run_statuses) answer refl deck-known;
    read = by cause.ReadFault (λ at. ends.counted.read (read-in ends.five.outcomes ends.five.faults at))
        (λ behind. absurd (not-behind before after cause.ReadFault (λ e. cc) (λ e. cc) behind));
    disk = by cause.DiskFault (λ at. disk-of (disk-in ends.five.outcomes ends.five.faults at))
        (λ behind. absurd (not-behind before after cause.DiskFault (λ e. cc) (λ e. cc) behind));
    print = by cause.PrintFault (λ at. ends.counted.print (print-in ends.five.outcomes ends.five.faults at)) (behind-rose before after);
    limit = by cause.DeckLimit (λ at. ends.counted.limit (limit-in ends.five.outcomes ends.five.faults at))
        (λ behind. absurd (not-behind before after cause.DeckLimit (λ e. cc) (λ e. cc) behind));
    beyond = beyond;
    undamaged = λ input output. whole-of answer (none input output) ends.five.one_of;
    numbers = numbers-of answer ends.five.one_of;
    total = total;
    unread = tt;
    size = size;
  }
