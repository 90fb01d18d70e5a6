-- A piece of work, by what is under way.
use Rattle.std.proofs.Common.{◌≡◌, ℕ, zero, suc, Bool, List, [], ◌∷◌, Option, None, Some, Result, Ok, Err, refl, sym, ◌∙◌, ap, subst}
use Rattle.std.specs.FinMap as fin
use Rattle.solo_base.specs.declared.item.Item.{Item}
use Rattle.solo_base.specs.declared.item.Feed.{Feed}
use Rattle.disk_layout.specs.Files.{Files, files as file_map}
use Rattle.solo_law.specs.Work.{Given, OfLine, OfCards, OfTyped, OfNothing}
use Rattle.solo_procs.specs.Commands.{AtLine, AtCards, AtTyped, AtNothing, kind_given}
use Rattle.solo_procs.specs.declared.commands.Need.{Need}
use Rattle.solo_procs.specs.declared.commands.Need.TheVariants as needs
use Rattle.solo_procs.specs.declared.commands.WorkFault.{WorkFault}
use Rattle.solo_task.specs.Doing.{line_does}
use Rattle.solo_task.specs.Copying.{with_cards}
use Rattle.solo_task.specs.Needs.{Pause, Idle, Paused, EndNeeded, comes_to, needs as pauses_for, or_idle, resumes}
use Rattle.solo_work.specs.declared.printing.Printing.{Printing}
use Rattle.solo_work.specs.Paper.{IsHand}
use Rattle.solo_work.specs.Printing.{prints_then}
use Rattle.program_run.specs.Sight.{Sight, IsLeftOf, StandsFor}
use Rattle.session_work.specs.declared.session.Session.{Session}
use Rattle.session_work.specs.declared.session.UnderWay.{UnderWay}
use Rattle.session_work.specs.declared.session.UnderWay.TheVariants as under_way
use Rattle.session_work.specs.Pausing.{PausesAt, StandsAt, Awaits, kind_of, prints_cards, stores_these}
use Rattle.session_work.specs.Working.{Reaches, WorkedSo, PieceIs, PieceSo, IsOver}
use Rattle.session_work.proofs.Working.{worked-from, leads-on, piece-made}
use Rattle.session_work.proofs.Answering.{at-pause}
use Rattle.session_work.proofs.Programs.{RunIs}

-- ---- Nothing is under way that could begin so

-- it isn't awaited, and over told files nothing follows
pub record PassesOver (given : Given) (what : UnderWay) : Type 0 where
  pub not_awaited : kind_given given ≡ kind_of what → ⊥
  pub nothing : (hand : List (List ℕ)) (all : Files) (pause : Pause) → PausesAt what hand all pause
      → resumes given all pause ≡ pauses_for (EndNeeded [] []) all Idle

pub passed-over : (given : Given) (old now : Session) (before : Option (List (List ℕ))) (need : Need) → PassesOver given old.under_way → IsOver need now
    → PieceSo given old before (Ok need) now before
passed-over given old now before need passes over = record {
  comes = λ pages awaits. absurd (passes.not_awaited awaits.is);
  leads = λ told here c piece.
      let (pause, at, e) = piece in
      subst (λ (x : Paused). Reaches x x.need before now) (sym (e ∙ passes.nothing at.hand (file_map told) pause at.pauses))
      (record {
        left = told;
        told = here;
        need = refl;
        files = refl;
        stands = at-pause now (file_map told) Idle 0 [] under_way.Idle over.idle over.hand_is refl;
      });
}

pub cards-passed : (cards : List (List ℕ)) (spoiled : Bool) (what : UnderWay) → (what ≡ under_way.PrintsCards → ⊥)
    → ((to : List ℕ) → what ≡ under_way.StoresCards to → ⊥) → ((program : Sight) → what ≡ under_way.ReadsCards program → ⊥)
    → PassesOver (OfCards cards spoiled) what
cards-passed cards spoiled under_way.Idle prints stores reads = record {
  not_awaited = λ e. absurd cc;
  nothing = λ hand all pause is. ap (resumes (OfCards cards spoiled) all) is;
}
cards-passed cards spoiled under_way.PrintsCards prints stores reads = absurd (prints refl)
cards-passed cards spoiled (under_way.StoresCards to) prints stores reads = absurd (stores to refl)
cards-passed cards spoiled (under_way.Prints printing) prints stores reads = record {
  not_awaited = λ e. absurd cc;
  nothing = λ hand all pause is. ap (resumes (OfCards cards spoiled) all) is;
}
cards-passed cards spoiled (under_way.ReadsCards program) prints stores reads = absurd (reads program refl)
cards-passed cards spoiled (under_way.AcceptsLine program) prints stores reads = record {
  not_awaited = λ e. absurd cc;
  nothing = λ hand all pause stands. let (more, is, waits) = stands in ap (resumes (OfCards cards spoiled) all) is;
}
cards-passed cards spoiled (under_way.GoesOn program) prints stores reads = record {
  not_awaited = λ e. absurd cc;
  nothing = λ hand all pause stands. let (doing, is, left) = stands in ap (resumes (OfCards cards spoiled) all) is;
}

pub typed-passed : (typed : Feed) (what : UnderWay) → ((program : Sight) → what ≡ under_way.AcceptsLine program → ⊥) → PassesOver (OfTyped typed) what
typed-passed typed under_way.Idle accepts =
    record { not_awaited = λ e. absurd cc; nothing = λ hand all pause is. ap (resumes (OfTyped typed) all) is }
typed-passed typed under_way.PrintsCards accepts =
    record { not_awaited = λ e. absurd cc; nothing = λ hand all pause is. ap (resumes (OfTyped typed) all) is }
typed-passed typed (under_way.StoresCards to) accepts =
    record { not_awaited = λ e. absurd cc; nothing = λ hand all pause stands. let (none, is) = stands in ap (resumes (OfTyped typed) all) is }
typed-passed typed (under_way.Prints printing) accepts =
    record { not_awaited = λ e. absurd cc; nothing = λ hand all pause is. ap (resumes (OfTyped typed) all) is }
typed-passed typed (under_way.ReadsCards program) accepts =
    record { not_awaited = λ e. absurd cc; nothing = λ hand all pause stands. let (more, is, waits) = stands in ap (resumes (OfTyped typed) all) is }
typed-passed typed (under_way.AcceptsLine program) accepts = absurd (accepts program refl)
typed-passed typed (under_way.GoesOn program) accepts =
    record { not_awaited = λ e. absurd cc; nothing = λ hand all pause stands. let (doing, is, left) = stands in ap (resumes (OfTyped typed) all) is }

pub nothing-passed : (what : UnderWay) → ((printing : Printing) → what ≡ under_way.Prints printing → ⊥)
    → ((program : Sight) → what ≡ under_way.GoesOn program → ⊥) → PassesOver OfNothing what
nothing-passed under_way.Idle prints goes =
    record { not_awaited = λ e. absurd cc; nothing = λ hand all pause is. ap (resumes OfNothing all) is }
nothing-passed under_way.PrintsCards prints goes =
    record { not_awaited = λ e. absurd cc; nothing = λ hand all pause is. ap (resumes OfNothing all) is }
nothing-passed (under_way.StoresCards to) prints goes =
    record { not_awaited = λ e. absurd cc; nothing = λ hand all pause stands. let (none, is) = stands in ap (resumes OfNothing all) is }
nothing-passed (under_way.Prints printing) prints goes = absurd (prints printing refl)
nothing-passed (under_way.ReadsCards program) prints goes =
    record { not_awaited = λ e. absurd cc; nothing = λ hand all pause stands. let (more, is, waits) = stands in ap (resumes OfNothing all) is }
nothing-passed (under_way.AcceptsLine program) prints goes =
    record { not_awaited = λ e. absurd cc; nothing = λ hand all pause stands. let (more, is, waits) = stands in ap (resumes OfNothing all) is }
nothing-passed (under_way.GoesOn program) prints goes = absurd (goes program refl)

-- ---- What is under way goes on

pauses : (s : Session) (all : Files) (pause : Pause) (what : UnderWay) → s.under_way ≡ what → (at : StandsAt s all pause) → PausesAt what at.hand all pause
pauses s all pause what is at = subst (λ w. PausesAt w at.hand all pause) is at.pauses

pub prints-the-cards : (cards : List (List ℕ)) (spoiled : Bool) (old now : Session) (before after : Option (List (List ℕ))) (result : Result Need WorkFault)
    → old.under_way ≡ under_way.PrintsCards
    → ((pages : ℕ) (hand : List (List ℕ)) → IsHand old.paper pages hand
    → WorkedSo pages (λ all c. c ≡ comes_to hand all (with_cards prints_cards (record { cards = cards; spoiled = spoiled }))) before result now after)
    → PieceSo (OfCards cards spoiled) old before result now after
prints-the-cards cards spoiled old now before after result is arm =
    piece-made (OfCards cards spoiled) old now before result after
    (λ hand all c. c ≡ comes_to hand all (with_cards prints_cards (record { cards = cards; spoiled = spoiled }))) arm
    (λ all pause at. ap (resumes (OfCards cards spoiled) all) (pauses old all pause under_way.PrintsCards is at))

pub stores-the-cards : (to : List ℕ) (cards : List (List ℕ)) (spoiled : Bool) (old now : Session) (before after : Option (List (List ℕ)))
    (result : Result Need WorkFault) → old.under_way ≡ under_way.StoresCards to
    → ((pages : ℕ) (hand : List (List ℕ)) → IsHand old.paper pages hand
    → WorkedSo pages (λ all c. (fin.get all to ≡ None)
    × (c ≡ comes_to hand all (with_cards (stores_these all to) (record { cards = cards; spoiled = spoiled })))) before result now after)
    → PieceSo (OfCards cards spoiled) old before result now after
stores-the-cards to cards spoiled old now before after result is arm =
    piece-made (OfCards cards spoiled) old now before result after
    (λ hand all c. (fin.get all to ≡ None) × (c ≡ comes_to hand all (with_cards (stores_these all to) (record { cards = cards; spoiled = spoiled })))) arm
    (λ all pause at. let (none, e) = pauses old all pause (under_way.StoresCards to) is at in (none, ap (resumes (OfCards cards spoiled) all) e))

pub reads-the-cards : (program : Sight) (cards : List (List ℕ)) (spoiled : Bool) (old now : Session) (before after : Option (List (List ℕ)))
    (result : Result Need WorkFault) → old.under_way ≡ under_way.ReadsCards program
    → ((pages : ℕ) (hand : List (List ℕ)) → IsHand old.paper pages hand
    → WorkedSo pages (λ all c. (pause : Pause) × StandsFor AtCards program hand all pause × (c ≡ resumes (OfCards cards spoiled) all pause))
    before result now after)
    → PieceSo (OfCards cards spoiled) old before result now after
reads-the-cards program cards spoiled old now before after result is arm =
    piece-made (OfCards cards spoiled) old now before result after
    (λ hand all c. (pause : Pause) × StandsFor AtCards program hand all pause × (c ≡ resumes (OfCards cards spoiled) all pause)) arm
    (λ all pause at. (pause, pauses old all pause (under_way.ReadsCards program) is at, refl))

pub accepts-the-line : (program : Sight) (typed : Feed) (old now : Session) (before after : Option (List (List ℕ))) (result : Result Need WorkFault)
    → old.under_way ≡ under_way.AcceptsLine program
    → ((pages : ℕ) (hand : List (List ℕ)) → IsHand old.paper pages hand
    → WorkedSo pages (λ all c. (pause : Pause) × StandsFor AtTyped program hand all pause × (c ≡ resumes (OfTyped typed) all pause))
    before result now after)
    → PieceSo (OfTyped typed) old before result now after
accepts-the-line program typed old now before after result is arm =
    piece-made (OfTyped typed) old now before result after
    (λ hand all c. (pause : Pause) × StandsFor AtTyped program hand all pause × (c ≡ resumes (OfTyped typed) all pause)) arm
    (λ all pause at. (pause, pauses old all pause (under_way.AcceptsLine program) is at, refl))

pub prints-on : (printing : Printing) (old now : Session) (before after : Option (List (List ℕ))) (result : Result Need WorkFault)
    → old.under_way ≡ under_way.Prints printing
    → ((pages : ℕ) (hand : List (List ℕ)) → IsHand old.paper pages hand
    → WorkedSo pages (λ all c. c ≡ comes_to hand all (prints_then printing.lines printing.next printing.answers)) before result now after)
    → PieceSo OfNothing old before result now after
prints-on printing old now before after result is arm =
    piece-made OfNothing old now before result after
    (λ hand all c. c ≡ comes_to hand all (prints_then printing.lines printing.next printing.answers)) arm
    (λ all pause at. ap (resumes OfNothing all) (pauses old all pause (under_way.Prints printing) is at))

pub runs-on : (program : Sight) (old now : Session) (before after : Option (List (List ℕ))) (result : Result Need WorkFault)
    → old.under_way ≡ under_way.GoesOn program
    → ((pages : ℕ) (hand : List (List ℕ)) → IsHand old.paper pages hand → WorkedSo pages (RunIs program hand) before result now after)
    → PieceSo OfNothing old before result now after
runs-on program old now before after result is arm =
    piece-made OfNothing old now before result after (RunIs program) arm
    (λ all pause at.
    let (doing, e, left) = pauses old all pause (under_way.GoesOn program) is at in (doing, left, ap (resumes OfNothing all) e))

-- a typed line begins a command, whatever was under way
pub command-begins : (item : Item) (old now : Session) (before after : Option (List (List ℕ))) (result : Result Need WorkFault)
    → WorkedSo 0 (λ all c. c ≡ comes_to [] all (or_idle (line_does item all))) before result now after
    → PieceSo (OfLine item) old before result now after
command-begins item old now before after result worked = record {
  comes = λ pages awaits.
      subst (λ n. WorkedSo n (PieceIs (OfLine item) old) before result now after) (sym (awaits.begins refl))
      (worked-from 0 (PieceIs (OfLine item) old) (λ all c. c ≡ comes_to [] all (or_idle (line_does item all))) before before result now after refl
      (λ told here c piece. let (pause, at, e) = piece in e) worked);
  leads = λ told here c piece.
      let (pause, at, e) = piece in
      leads-on 0 (λ all c. c ≡ comes_to [] all (or_idle (line_does item all))) before result now after worked told here c e;
}
