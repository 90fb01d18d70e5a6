-- Where nothing fails the whole work is done; and which words end with status 1.
use Rattle.std.proofs.Common.{◌≡◌, ◌≢◌, ◌⊎◌, ◌↔◌, inl, inr, ◌≤◌, ◌<◌, ◌+◌, ℕ, List, length, Option, Some, None, refl, sym, ◌∙◌, ap, subst, arith}
use Rattle.std.specs.Prelude.{IfSome}
use Rattle.solo_base.specs.declared.outcome.Cause.{Cause}
use Rattle.solo_base.specs.declared.outcome.Cause.TheVariants as cause
use Rattle.solo_devices.specs.CardUnit.{byte_limit, bytes_total}
use Rattle.disk_layout.specs.Format.{IsBad, IsSoloDisk}
use Rattle.run_report.specs.Status.{status_of}
use Rattle.twin_top.specs.Answers.{AreaRose, DoesAsAsked, IsTwinCause, IsWithinTheLimit, NothingFailed, RunsDeck}
use Rattle.twin_top.specs.Kit.{TwinKit}

few : (taken : ℕ) (left told : Option (List ℕ)) → IsWithinTheLimit told → bytes_total taken left ≡ bytes_total 0 told → byte_limit < taken → ⊥
few taken left None within total more = within
few taken None (Some bytes) within total more = absurd cc
few taken (Some rest) (Some bytes) within total more =
    let both : Some (taken + length rest) ≡ Some (0 + length bytes) = total in
    let same : taken + length rest ≡ 0 + length bytes = cc in
    omega (arith, same, within, more)

module _ {S K F A : Type 0} {before after : TwinKit S K F A} (n : NothingFailed before after) where
  no-disk : AreaRose before after → ⊥
  no-disk (inl rose) = (let stayed = n.files in omega (arith, rose, stayed))
  no-disk (inr (inl rose)) = (let stayed = n.input_a in omega (arith, rose, stayed))
  no-disk (inr (inr (inl rose))) = (let stayed = n.input_b in omega (arith, rose, stayed))
  no-disk (inr (inr (inr (inl rose)))) = (let stayed = n.output_a in omega (arith, rose, stayed))
  no-disk (inr (inr (inr (inr rose)))) = (let stayed = n.output_b in omega (arith, rose, stayed))

  pub completes : (schedule : ℕ) (answer : Option Cause) → before.deck.taken ≡ 0 → RunsDeck schedule before after answer
      → (status_of answer ≡ 0) ⊎ (status_of answer ≡ 9)
  completes schedule None zero runs = inl refl
  completes schedule (Some cause.Usage) zero runs = absurd runs.reasons.known
  completes schedule (Some cause.ReadFault) zero runs = absurd (let rose = runs.reasons.read refl in let stayed = n.deck in omega (arith, rose, stayed))
  completes schedule (Some cause.DiskFault) zero runs = absurd (no-disk (runs.reasons.disk refl))
  completes schedule (Some cause.PrintFault) zero runs = absurd (let rose = runs.reasons.print refl in let stayed = n.paper in omega (arith, rose, stayed))
  completes schedule (Some cause.ConsoleFault) zero runs = absurd runs.reasons.known
  completes schedule (Some cause.DeckLimit) zero runs =
      absurd (few after.deck.taken after.deck.left before.deck.left n.deck_within
      (runs.reasons.total ∙ ap (λ taken. bytes_total taken before.deck.left) zero) (runs.reasons.limit refl))
  completes schedule (Some (cause.NotSolo page)) zero runs =
      absurd (let bad = (runs.mounts.not_solo page refl).0 n.solo.0 n.solo.1 in bad.breaks (n.solo.2 page))
  completes schedule (Some (cause.Damaged expected found at)) zero runs = absurd (runs.reasons.undamaged n.told refl)
  completes schedule (Some cause.NoMemory) zero runs = inr refl

-- whatever the words are
pub completes-asked : {S K F A : Type 0} {before after : TwinKit S K F A} (asked : Option ℕ) (answer : Option Cause) → before.deck.taken ≡ 0
    → DoesAsAsked asked before after answer → asked ≢ None → NothingFailed before after → (status_of answer ≡ 0) ⊎ (status_of answer ≡ 9)
completes-asked None answer zero does some n = absurd (some refl)
completes-asked (Some schedule) answer zero does some n = completes n schedule answer zero does

-- ---- status 1
usage-known : (answer : Option Cause) → IfSome answer IsTwinCause → status_of answer ≡ 1 → ⊥
usage-known None known one = cc
usage-known (Some cause.Usage) known one = known
usage-known (Some cause.ReadFault) known one = omega (arith, one)
usage-known (Some cause.DiskFault) known one = omega (arith, one)
usage-known (Some cause.PrintFault) known one = omega (arith, one)
usage-known (Some cause.ConsoleFault) known one = omega (arith, one)
usage-known (Some cause.DeckLimit) known one = omega (arith, one)
usage-known (Some (cause.NotSolo page)) known one = omega (arith, one)
usage-known (Some (cause.Damaged expected found at)) known one = omega (arith, one)
usage-known (Some cause.NoMemory) known one = omega (arith, one)

pub usage-asked : {S K F A : Type 0} (before after : TwinKit S K F A) (asked : Option ℕ) (answer : Option Cause) → DoesAsAsked asked before after answer
    → (status_of answer ≡ 1) ↔ (asked ≡ None)
usage-asked before after None answer does = (λ one. refl, λ none. ap status_of does.0)
usage-asked before after (Some schedule) answer does = (λ one. absurd (usage-known answer does.reasons.known one), λ none. cc)

-- ---- whatever the words are, the area of the files has the size that it had
pub size-stays : {S K F A : Type 0} (before after : TwinKit S K F A) (asked : Option ℕ) (answer : Option Cause) → DoesAsAsked asked before after answer
    → after.files.size ≡ before.files.size
size-stays before after None answer does = ap (λ (t : TwinKit _ _ _ _). t.files.size) does.1
size-stays before after (Some schedule) answer does = does.reasons.size
