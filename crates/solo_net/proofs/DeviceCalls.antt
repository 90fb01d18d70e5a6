-- What a card that is read and a line that is given to a sink are to the law.
use Rattle.std.proofs.Common.{◌≡◌, ℕ, List, [], ◌∷◌, ◌++◌, length, drop, Option, None, Some, Result, Ok, Err, refl, sym, ◌∙◌, ap}
use Rattle.std.specs.Prelude.{IsOk}
use Rattle.solo_base.specs.Prefixes.{IsPrefixOf}
use Rattle.solo_base.specs.Text.{line_text}
use Rattle.solo_base.specs.declared.item.Item.{Item}
use Rattle.solo_devices.specs.declared.card_read.CardRead.{CardRead}
use Rattle.solo_devices.specs.declared.printer_unit.PrintFault.{PrintFault}
use Rattle.solo_devices.specs.CardUnit.{GivesNext, item_of}
use Rattle.solo_devices.specs.PrinterUnit.{Gains}
use Rattle.solo_law.specs.Actions.{Reply}
use Rattle.solo_law.specs.Actions as act
use Rattle.solo_law.specs.Devices.{Reads, read_off, gains}
use Rattle.solo_procs.specs.Said.{heard}
use Rattle.solo_net.specs.Replies.{print_said}

drop-items : (front rest : List Item) → drop (length front) (front ++ rest) ≡ rest
drop-items [] rest = refl
drop-items (item ∷ front) rest = drop-items front rest

-- ---- a card
pub record ReadsNext (old new : Option (List Item)) (answer : CardRead) : Type 0 where
  pub allowed : (deck : Option (List Item)) → deck ≡ old → Reads deck answer
  pub after : read_off answer old ≡ new

pub reads-next : (old new : Option (List Item)) (answer : CardRead) → GivesNext old new answer → ReadsNext old new answer
reads-next None new answer gives = record {
  allowed = λ deck e. record { item = λ items told. absurd (let no = sym e ∙ told in cc); end = λ items told is. absurd (let no = sym e ∙ told in cc) };
  after = sym (gives.untold refl);
}
reads-next (Some items) new answer gives =
    let next = gives.told items refl in
    record {
      allowed = λ deck e. record {
        item = λ all told. (let same : items ≡ all = (let both = sym e ∙ told in cc) in (next.rest, sym same ∙ next.items_are));
        end = λ all told is. (let same : items ≡ all = (let both = sym e ∙ told in cc) in sym same ∙ next.end is);
      };
      after = ap (λ all. Some (drop (length (item_of answer)) all)) next.items_are ∙ ap Some (drop-items (item_of answer) next.rest) ∙ sym next.now_are;
    }

-- ---- a line
-- the whole of it where it is done, and else a part of it
abbrev pub GaveBy : Reply → List ℕ → List ℕ → Type 0
GaveBy act.Done gained line = gained ≡ line_text line
GaveBy reply gained line = IsPrefixOf gained (line_text line)

pub record GaveLine (old new : Option (List ℕ)) (line : List ℕ) (reply : Reply) : Type 0 where
  pub gained : List ℕ
  pub gave : GaveBy reply gained line
  pub after : gains gained old ≡ new

gave-done : (old new : Option (List ℕ)) (line : List ℕ) (all : Type 0) → Gains old new (line_text line) all → all → GaveLine old new line act.Done
gave-done None new line all g is = record { gained = line_text line; gave = refl; after = sym (g.untold refl) }
gave-done (Some given) new line all g is =
    let told = g.told given refl in
    record { gained = line_text line; gave = refl; after = ap (λ part. Some (given ++ part)) (sym (told.all_is is)) ∙ sym told.now_is }

gave-failed : (old new : Option (List ℕ)) (line : List ℕ) (all : Type 0) → Gains old new (line_text line) all → GaveLine old new line act.Failed
gave-failed None new line all g = record { gained = []; gave = (line_text line, refl); after = sym (g.untold refl) }
gave-failed (Some given) new line all g =
    let told = g.told given refl in
    record { gained = told.part; gave = (told.prefix.rest, told.prefix.whole_is); after = sym told.now_is }

gave-lacking : (old new : Option (List ℕ)) (line : List ℕ) (all : Type 0) → Gains old new (line_text line) all → GaveLine old new line act.NoMemory
gave-lacking None new line all g = record { gained = []; gave = (line_text line, refl); after = sym (g.untold refl) }
gave-lacking (Some given) new line all g =
    let told = g.told given refl in
    record { gained = told.part; gave = (told.prefix.rest, told.prefix.whole_is); after = sym told.now_is }

pub gave-line : {X : Type 0} (old new : Option (List ℕ)) (line : List ℕ) (answer : Result X PrintFault) → Gains old new (line_text line) (IsOk answer)
    → GaveLine old new line (heard (print_said answer))
gave-line old new line (Ok done) g = gave-done old new line _ g refl
gave-line old new line (Err PrintFault.Failed) g = gave-failed old new line _ g
gave-line old new line (Err PrintFault.NoMemory) g = gave-lacking old new line _ g
