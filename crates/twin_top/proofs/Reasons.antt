-- The reason of each cause of a run.
use Rattle.std.proofs.Common.{◌≡◌, ◌≢◌, ◌⊎◌, inl, inr, ◌<◌, ◌≤◌, ℕ, Option, Some, None, refl, sym, ◌∙◌, ap, subst, arith}
use Rattle.std.specs.Prelude.{IfSome}
use Rattle.solo_base.specs.declared.outcome.Cause.{Cause}
use Rattle.solo_base.specs.declared.outcome.Cause.TheVariants as cause
use Rattle.solo_base.specs.declared.outcome.Outcome.TheVariants as outcome
use Rattle.solo_devices.specs.Count.{Rose}
use Rattle.solo_devices.specs.CardUnit.{byte_limit, bytes_total}
use Rattle.batch_procs.specs.Faults.{IsDamaged}
use Rattle.batch_ends.specs.Ended.{TellsWhere}
use Rattle.twin_law.specs.Twin.{IsProcess}
use Rattle.twin_ends.specs.declared.units.TwinOutcomes.{TwinOutcomes}
use Rattle.twin_net.specs.Ended.{TwinFaultsAre, twin_outcome_at}
use Rattle.run_report.specs.Status.{number_of, status_of}
use Rattle.twin_top.specs.Answers.{AreaRose, EndsByTheLimit, HasReasons, IsTwinCause}
use Rattle.twin_top.specs.Kit.{FourTell, TwinKit}
use Rattle.twin_top.specs.Runs.{EndedWith, LineFailed, NoneAtFault}
use Rattle.twin_top.proofs.SixOutcomes.{IsFaultOfSix, ended-at, fault-of-six, read-in, limit-in, print-in, numbers-in, known-of, no-page, low-fault, eight-is}

-- Each fault of these outcomes was counted by a device of its process since.
pub record AreCountedSo {S K F A : Type 0} (before after : TwinKit S K F A) (outcomes : TwinOutcomes) : Type 0 where
  pub read : outcomes.card ≡ outcome.Fault cause.ReadFault → Rose before.deck.faults after.deck.faults
  pub limit : outcomes.card ≡ outcome.Fault cause.DeckLimit → byte_limit < after.deck.taken
  pub longer : byte_limit < after.deck.taken → outcomes.card ≡ outcome.Fault cause.DeckLimit
  pub disk : (p : ℕ) → IsProcess p → twin_outcome_at outcomes p ≡ outcome.Fault cause.DiskFault → AreaRose before after
  pub print : outcomes.printer ≡ outcome.Fault cause.PrintFault → Rose before.paper.faults after.paper.faults

-- the cause is a fault of the six, and none of theirs is lower, or it comes of the line behind them
abbrev pub ComesOf : {S K F A : Type 0} → TwinKit S K F A → TwinKit S K F A → TwinOutcomes → Cause → Type 0
ComesOf before after outcomes why = EndedWith outcomes why ⊎ LineFailed before.paper after.paper why

module _ {S K F A : Type 0} (before after : TwinKit S K F A) where
  line-known : (c : Cause) → LineFailed before.paper after.paper c → IsTwinCause c
  line-known c (inl is) = subst IsTwinCause (sym is.0) tt
  line-known c (inr is) = subst IsTwinCause (sym is) tt

  line-numbers : (c : Cause) → LineFailed before.paper after.paper c → TellsWhere c
  line-numbers c (inl is) = subst TellsWhere (sym is.0) tt
  line-numbers c (inr is) = subst TellsWhere (sym is) tt

  line-whole : (c : Cause) → LineFailed before.paper after.paper c → number_of c ≢ 8
  line-whole c (inl is) eight = (let four : number_of c ≡ 4 = ap number_of is.0 in omega (arith, four, eight))
  line-whole c (inr is) eight = (let nine : number_of c ≡ 9 = ap number_of is in omega (arith, nine, eight))

  line-no : (c : Cause) → (c ≡ cause.PrintFault → ⊥) → (c ≡ cause.NoMemory → ⊥) → LineFailed before.paper after.paper c → ⊥
  line-no c print memory (inl is) = print is.0
  line-no c print memory (inr is) = memory is

  line-rose : LineFailed before.paper after.paper cause.PrintFault → Rose before.paper.faults after.paper.faults
  line-rose (inl is) = is.1
  line-rose (inr is) = absurd (let no : cause.PrintFault ≡ cause.NoMemory = is in cc)

module _ {S K F A : Type 0} {before after : TwinKit S K F A} {answer : Option Cause} (outcomes : TwinOutcomes)
    (faults : TwinFaultsAre outcomes) (counted : AreCountedSo before after outcomes)
    (one_of : IfSome answer (ComesOf before after outcomes))
    (lowest : (fault : Cause) → EndedWith outcomes fault
    → (why : Cause) × (answer ≡ Some why) × EndedWith outcomes why × (number_of why ≤ number_of fault)) where
  by : {X : Type 0} (c : Cause) → (EndedWith outcomes c → X) → (LineFailed before.paper after.paper c → X) → answer ≡ Some c → X
  by c fault line is =
      let one : ComesOf before after outcomes c = subst (λ answer. IfSome answer (ComesOf before after outcomes)) is one_of in
      elim one [ inl at ↦ fault at | inr at ↦ line at ]

  known-so : (answer : Option Cause) → IfSome answer (ComesOf before after outcomes) → IfSome answer IsTwinCause
  known-so None one = tt
  known-so (Some why) (inl at) = known-of why (fault-of-six outcomes faults why at)
  known-so (Some why) (inr at) = line-known before after why at

  numbers-so : (answer : Option Cause) → IfSome answer (ComesOf before after outcomes) → IfSome answer TellsWhere
  numbers-so None one = tt
  numbers-so (Some why) (inl at) = numbers-in outcomes faults why at
  numbers-so (Some why) (inr at) = line-numbers before after why at

  whole-so : (answer : Option Cause) → ((p : ℕ) (c : Cause) → IsProcess p → twin_outcome_at outcomes p ≡ outcome.Fault c → IsDamaged c → ⊥)
      → IfSome answer (ComesOf before after outcomes) → status_of answer ≢ 8
  whole-so None none one eight = cc
  whole-so (Some why) none (inl at) eight =
      (let one = ended-at outcomes why at in none one.0 why one.1 one.2 (eight-is why eight))
  whole-so (Some why) none (inr at) eight = line-whole before after why at eight

  disk-so : EndedWith outcomes cause.DiskFault → AreaRose before after
  disk-so at = (let one = ended-at outcomes cause.DiskFault at in counted.disk one.0 one.1 one.2)

  beyond-so : (why : Cause) → outcomes.card ≡ outcome.Fault cause.DeckLimit → answer ≡ Some why
      → EndedWith outcomes why
      → (why ≡ cause.ReadFault) ⊎ ((why ≡ cause.DiskFault) ⊎ ((why ≡ cause.PrintFault) ⊎ (why ≡ cause.DeckLimit)))
      → EndsByTheLimit answer
  beyond-so why card is at (inl read) =
      absurd (let both : outcome.Fault cause.DeckLimit ≡ outcome.Fault cause.ReadFault
      = sym card ∙ read-in outcomes faults (subst (EndedWith outcomes) read at) in cc)
  beyond-so why card is at (inr (inl disk)) = inl (is ∙ ap Some disk)
  beyond-so why card is at (inr (inr (inl print))) = inr (inl (is ∙ ap Some print))
  beyond-so why card is at (inr (inr (inr limit))) = inr (inr (is ∙ ap Some limit))

  pub has-reasons : (FourTell before → (p : ℕ) (c : Cause) → IsProcess p → twin_outcome_at outcomes p ≡ outcome.Fault c → IsDamaged c → ⊥)
      → bytes_total after.deck.taken after.deck.left ≡ bytes_total before.deck.taken before.deck.left
      → after.files.pages ≡ before.files.pages → after.files.size ≡ before.files.size → HasReasons before after answer
  has-reasons none total pages size = record {
    known = known-so answer one_of;
    read = by cause.ReadFault (λ at. counted.read (read-in outcomes faults at))
        (λ line. absurd (line-no before after cause.ReadFault (λ e. cc) (λ e. cc) line));
    disk = by cause.DiskFault disk-so (λ line. absurd (line-no before after cause.DiskFault (λ e. cc) (λ e. cc) line));
    print = by cause.PrintFault (λ at. counted.print (print-in outcomes faults at)) (line-rose before after);
    limit = by cause.DeckLimit (λ at. counted.limit (limit-in outcomes faults at))
        (λ line. absurd (line-no before after cause.DeckLimit (λ e. cc) (λ e. cc) line));
    beyond = λ more.
        let card = counted.longer more in
        let low = lowest cause.DeckLimit (inl card) in
        beyond-so low.0 card low.1 low.2 (low-fault low.0 (fault-of-six outcomes faults low.0 low.2) low.3);
    undamaged = λ told. whole-so answer (none told) one_of;
    numbers = numbers-so answer one_of;
    total = total;
    pages = pages;
    size = size;
  }

  -- no run names a page of the files
  pub never-named : (page : ℕ) → answer ≡ Some (cause.NotSolo page) → ⊥
  never-named page = by (cause.NotSolo page) (λ at. no-page page (fault-of-six outcomes faults (cause.NotSolo page) at))
      (λ line. line-no before after (cause.NotSolo page) (λ e. cc) (λ e. cc) line)
