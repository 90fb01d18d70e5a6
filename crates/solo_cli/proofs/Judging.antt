-- What the reading of a deck and the printing of its judgement come to.
use Rattle.std.proofs.Common.{◌≡◌, ◌<◌, ℕ, List, ◌∷◌, Option, Some, None, Result, Ok, Err, IfOk, IfErr, OnOk, refl, sym, ◌∙◌, ap, subst}
use Rattle.std.specs.Prelude.{IfSome}
use Rattle.solo_base.specs.Card.{cards}
use Rattle.solo_base.specs.Text.{line_text}
use Rattle.solo_base.specs.declared.item.Item.{Item}
use Rattle.solo_base.specs.declared.outcome.Cause.{Cause}
use Rattle.solo_base.specs.declared.outcome.Cause.TheVariants as cause
use Rattle.solo_devices.specs.Count.{Rose}
use Rattle.solo_devices.specs.CardUnit.{byte_limit, bytes_total, IsAllTaken}
use Rattle.solo_devices.specs.PrinterUnit.{Gains}
use Rattle.access_check.specs.Judgement.{judge}
use Rattle.run_report.specs.Told.{SinkTold, SourceTold}
use Rattle.run_report.proofs.Adding.{nothing}
use Rattle.solo_cli.specs.declared.refusal.Refusal.{Refusal}
use Rattle.solo_cli.specs.declared.refusal.Refusal.TheVariants.{Fault}
use Rattle.solo_cli.specs.AccessLines.{judgement_line}
use Rattle.solo_cli.specs.Causes.{EndsBy, FaultBy, print_statuses, read_statuses}
use Rattle.solo_cli.specs.Judges.{Judges}
use Rattle.solo_cli.specs.Printing.{PrintsBytes}
use Rattle.solo_cli.proofs.ReadToEnd.{reads-to-end}
use Rattle.solo_cli.proofs.Tables.{never, wider}

fault-is : {a b : Cause} → Some (Fault a) ≡ Some (Fault b) → a ≡ b
fault-is same = cc

module _ {S K : Type 0} {deck deck' : SourceTold S} {D : Type 0} (tells : D → SinkTold K) (old now : D) {answer : Option Refusal} where
  pub judged : {V : Type 0} (list : V → List Item) (read : Result V Cause)
      → IfOk read (λ items. PrintsBytes (tells old) (tells now) (line_text (judgement_line (judge (list items)))) answer)
      → IfErr read (λ why. (answer ≡ Some (Fault why)) × (now ≡ old)) → IfErr read (FaultBy read_statuses) → OnOk read (IsAllTaken deck'.left)
      → IfOk read (λ items. (bytes : List ℕ) → deck.left ≡ Some bytes → cards bytes ≡ list items) → deck.taken ≡ 0
      → bytes_total deck'.taken deck'.left ≡ bytes_total deck.taken deck.left
      → (read ≡ Err cause.ReadFault → Rose deck.faults deck'.faults) → (read ≡ Err cause.DeckLimit → byte_limit < deck'.taken)
      → (byte_limit < deck'.taken → read ≡ Err cause.DeckLimit) → Judges deck deck' (tells old) (tells now) answer
  judged list (Ok items) prints refused known taken are zero total failed limit beyond = record {
    checks = record {
      prints = λ bytes told. subst (λ items. Gains (tells old).given (tells now).given (line_text (judgement_line (judge items))) (answer ≡ None))
          (sym (are bytes told)) prints.gains;
      reads = reads-to-end zero total (λ none. taken) (λ more. absurd (let no : Ok items ≡ Err cause.DeckLimit = beyond more in cc));
    };
    known = wider print_statuses (4 ∷ read_statuses) answer refl prints.known;
    read = λ is. absurd (never print_statuses answer prints.known cause.ReadFault refl is);
    print = prints.failed;
    limit = λ is. absurd (never print_statuses answer prints.known cause.DeckLimit refl is);
    beyond = λ more. absurd (let no : Ok items ≡ Err cause.DeckLimit = beyond more in cc);
    total = total;
  }
  judged {V = V} list (Err why) prints refused known taken are zero total failed limit beyond = record {
    checks = record {
      prints = λ bytes told. subst (λ now. Gains (tells old).given (tells now).given (line_text (judgement_line (judge (cards bytes)))) (answer ≡ None))
          (sym refused.1) (nothing (tells old).given (line_text (judgement_line (judge (cards bytes)))) (answer ≡ None) some);
      reads = record { emptied = λ bytes told none. absurd (some none); longer = λ bytes told more none. some none };
    };
    known = subst (λ answer. IfSome answer (EndsBy (4 ∷ read_statuses))) (sym refused.0)
        (wider read_statuses (4 ∷ read_statuses) (Some (Fault why)) refl known);
    read = λ is. failed (ap Err (fault-is (sym refused.0 ∙ is)));
    print = λ is. absurd (never read_statuses (Some (Fault why)) known cause.PrintFault refl (sym refused.0 ∙ is));
    limit = λ is. limit (ap Err (fault-is (sym refused.0 ∙ is)));
    beyond = λ more. (let same : Err why ≡ Err cause.DeckLimit = beyond more in refused.0 ∙ ap (λ why. Some (Fault why)) (err-is same));
    total = total;
  } where
    some : answer ≡ None → ⊥
    some none = (let no : Some (Fault why) ≡ None = sym refused.0 ∙ none in cc)

    err-is : {a b : Cause} → ◌≡◌ {A = Result V Cause} (Err a) (Err b) → a ≡ b
    err-is same = cc
