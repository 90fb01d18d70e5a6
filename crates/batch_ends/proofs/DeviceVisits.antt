-- What a card that is read and a line that is printed are to the law.
use Rattle.std.proofs.Common.{◌≡◌, ℕ, List, [], ◌∷◌, ◌++◌, length, drop, Option, None, Some, refl, sym, ◌∙◌, ap}
use Rattle.solo_base.specs.declared.item.Item.{Item}
use Rattle.solo_base.specs.Text.{line_text}
use Rattle.solo_devices.specs.declared.card_read.CardRead.{CardRead}
use Rattle.solo_devices.specs.CardUnit.{GivesNext, item_of}
use Rattle.solo_devices.specs.PrinterUnit.{Gains}
use Rattle.page_codec.specs.Items.{AreItems}
use Rattle.batch_procs.specs.declared.actions.Reply.TheVariants as reply
use Rattle.batch_procs.specs.Jobs.{Jobs}
use Rattle.batch_ends.specs.Devices.{ReadsCard, PrintsLine}

drop-items : (front rest : List Item) → drop (length front) (front ++ rest) ≡ rest
drop-items [] rest = refl
drop-items (item ∷ front) rest = drop-items front rest

pub reads : {L : Type 0} (J : Jobs L) (old new : Option (List Item)) (answer : CardRead) → AreItems (item_of answer) → GivesNext old new answer
    → ReadsCard J old new (reply.Card answer)
reads J None new answer valid gives = record {
  suits = valid;
  allowed =
      λ devices e. (record { item = λ items told. absurd (let no = sym e ∙ told in cc); end = λ items told is. absurd (let no = sym e ∙ told in cc) }, refl);
  after = sym (gives.untold refl);
}
reads J (Some items) new answer valid gives =
    let next = gives.told items refl in
    record {
      suits = valid;
      allowed = λ devices e. (
        record {
          item =
              λ all told. (let same : items
              ≡ all =
              (let both =
              sym e ∙ told in cc) in (next.rest, sym same ∙ next.items_are));
          end =
              λ all told is. (let same : items ≡ all = (let both = sym e ∙ told in cc) in sym same ∙ next.end is);
        },
        refl,
      );
      after = ap (λ all. Some (drop (length (item_of answer)) all)) next.items_are ∙ ap Some (drop-items (item_of answer) next.rest) ∙ sym next.now_are;
    }

pub prints-done : {L : Type 0} (J : Jobs L) (old new : Option (List ℕ)) (line : List ℕ) (all : Type 0) → Gains old new (line_text line) all → all
    → PrintsLine J old new line reply.Done
prints-done J None new line all g is = record { suits = tt; gained = line_text line; allowed = λ devices. refl; after = sym (g.untold refl) }
prints-done J (Some given) new line all g is =
    let told = g.told given refl in
    record {
      suits =
          tt;
      gained = line_text line;
      allowed = λ devices. refl;
      after = ap (λ part. Some (given ++ part)) (sym (told.all_is is)) ∙ sym told.now_is;
    }

pub prints-failed : {L : Type 0} (J : Jobs L) (old new : Option (List ℕ)) (line : List ℕ) (all : Type 0) → Gains old new (line_text line) all
    → PrintsLine J old new line reply.Failed
prints-failed J None new line all g = record { suits = tt; gained = []; allowed = λ devices. (line_text line, refl); after = sym (g.untold refl) }
prints-failed J (Some given) new line all g =
    let told = g.told given refl in
    record { suits = tt; gained = told.part; allowed = λ devices. (told.prefix.rest, told.prefix.whole_is); after = sym told.now_is }

pub prints-lacking : {L : Type 0} (J : Jobs L) (old new : Option (List ℕ)) (line : List ℕ) (all : Type 0) → Gains old new (line_text line) all
    → PrintsLine J old new line reply.NoMemory
prints-lacking J None new line all g = record { suits = tt; gained = []; allowed = λ devices. (line_text line, refl); after = sym (g.untold refl) }
prints-lacking J (Some given) new line all g =
    let told = g.told given refl in
    record { suits = tt; gained = told.part; allowed = λ devices. (told.prefix.rest, told.prefix.whole_is); after = sym told.now_is }
