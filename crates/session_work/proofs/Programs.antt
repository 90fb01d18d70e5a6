-- Programs under way.
use Rattle.std.proofs.Common.{◌≡◌, ℕ, zero, suc, Bool, List, [], ◌∷◌, ◌++◌, Option, None, Some, Result, Ok, Err, refl, sym, ◌∙◌, ap, subst}
use Rattle.disk_layout.specs.Files.{Files, files as file_map}
use Rattle.solo_law.specs.Work.{Given, OfCards, OfTyped, OfNothing}
use Rattle.solo_law.specs.Work as law
use Rattle.solo_procs.specs.Commands.{Kind, AtLine, AtCards, AtTyped, AtNothing, kind_behind, pages_behind, IsNeed}
use Rattle.solo_procs.specs.declared.commands.Need.{Need}
use Rattle.solo_procs.specs.declared.commands.Need.TheVariants as needs
use Rattle.solo_procs.specs.declared.commands.WorkFault.TheVariants.{Failed, NoMemory}
use Rattle.solo_task.specs.Answers.{Doing}
use Rattle.solo_task.specs.Needs.{Pause, Paused, comes_to, resumes}
use Rattle.solo_work.specs.declared.paper.Paper.{Paper}
use Rattle.solo_work.specs.declared.printing.Printing.{Printing}
use Rattle.solo_work.specs.Paper.{IsHand}
use Rattle.solo_work.specs.Printing.{prints_then}
use Rattle.session_law.specs.Passing.{IsAmong}
use Rattle.solo_base.specs.declared.item.Feed.{Feed}
use Rattle.program_run.specs.Sight.{Sight, IsLeftOf, MayTake, StandsFor, TakesCards, TakesLine}
use Rattle.program_run.specs.Work as run
use Rattle.program_run.specs.declared.progress.Progress.{Progress}
use Rattle.program_run.specs.declared.progress.Progress.TheVariants.{Needs, Ends}
use Rattle.solo_base.specs.declared.system_call.Arg.{Arg}
use Rattle.solo_commands.specs.declared.command.Command.TheVariants as command
use Rattle.solo_task.specs.Doing.{does}
use Rattle.program_task.specs.Task.{CardFile, Gives}
use Rattle.file_commands.specs.declared.fault.CommandFault.{CommandFault}
use Rattle.file_commands.specs.declared.fault.CommandFault.TheVariants as fault
use Rattle.solo_procs.specs.declared.commands.WorkFault.{WorkFault}
use Rattle.session_work.specs.declared.session.Session.{Session}
use Rattle.session_work.specs.declared.session.UnderWay.{UnderWay}
use Rattle.session_work.specs.declared.session.UnderWay.TheVariants as under_way
use Rattle.session_work.specs.Pausing.{PausesAt, StandsAt, Awaits, MayGoOn, kind_of}
use Rattle.session_work.specs.Working.{Reaches, CameTo, StopsAmong, WorkedSo, as_work, awaiting}
use Rattle.session_work.proofs.Working.{worked-from}
use Rattle.session_work.proofs.Answering.{at-pause, reaches-so}

-- what a piece of work on a program comes to, with these lines in hand
abbrev pub RunIs : Sight → List (List ℕ) → Files → Paused → Type 0
RunIs p hand all c = (doing : Doing) × IsLeftOf p all doing × (c ≡ comes_to hand all doing)

-- ---- By its need

-- a need that isn't an end, by what the program awaits then
record NeedSo (need : Need) (needed : law.Need) (p : Sight) : Type 0 where
  kind : kind_behind needed ≡ kind_of (awaiting need p)
  goes_on : kind_behind needed ≡ AtLine → ⊥
  pauses : (hand : List (List ℕ)) (all : Files) (pause : Pause) → StandsFor (kind_behind needed) p hand all pause → PausesAt (awaiting need p) hand all pause

need-so : (pages : ℕ) (need : Need) (needed : law.Need) (p : Sight) → IsNeed pages need needed → MayTake (kind_behind needed) p → NeedSo need needed p
need-so pages needs.Cards law.CardsNeeded p is may = record { kind = refl; goes_on = λ e. absurd cc; pauses = λ hand all pause stands. stands }
need-so pages needs.Cards law.LineNeeded p is may = absurd is
need-so pages needs.Cards (law.DisplayNeeded shown) p is may = absurd is
need-so pages needs.Cards (law.PageNeeded printed) p is may = absurd is
need-so pages needs.Cards (law.EndNeeded printed told) p is may = absurd is
need-so pages needs.Line law.CardsNeeded p is may = absurd is
need-so pages needs.Line law.LineNeeded p is may = record { kind = refl; goes_on = λ e. absurd cc; pauses = λ hand all pause stands. stands }
need-so pages needs.Line (law.DisplayNeeded shown) p is may = absurd is
need-so pages needs.Line (law.PageNeeded printed) p is may = absurd is
need-so pages needs.Line (law.EndNeeded printed told) p is may = absurd is
need-so pages (needs.Display line) law.CardsNeeded p is may = absurd is
need-so pages (needs.Display line) law.LineNeeded p is may = absurd is
need-so pages (needs.Display line) (law.DisplayNeeded shown) p is may = record { kind = refl; goes_on = λ e. absurd cc; pauses = λ hand all pause stands. stands }
need-so pages (needs.Display line) (law.PageNeeded printed) p is may = absurd is
need-so pages (needs.Display line) (law.EndNeeded printed told) p is may = absurd is
need-so pages (needs.Page page) law.CardsNeeded p is may = absurd is
need-so pages (needs.Page page) law.LineNeeded p is may = absurd is
need-so pages (needs.Page page) (law.DisplayNeeded shown) p is may = absurd is
need-so pages (needs.Page page) (law.PageNeeded printed) p is may = record { kind = refl; goes_on = λ e. absurd cc; pauses = λ hand all pause stands. stands }
need-so pages (needs.Page page) (law.EndNeeded printed told) p is may = absurd is
need-so pages (needs.End last answers) law.CardsNeeded p is may = absurd is
need-so pages (needs.End last answers) law.LineNeeded p is may = absurd is
need-so pages (needs.End last answers) (law.DisplayNeeded shown) p is may = absurd is
need-so pages (needs.End last answers) (law.PageNeeded printed) p is may = absurd is
need-so pages (needs.End last answers) (law.EndNeeded printed told) p is may = absurd may

pub needs-so : (pages : ℕ) (hand : List (List ℕ)) (before after : Option (List (List ℕ))) (p now_p : Sight) (need : Need) (paper : Paper) (now : Session)
    → run.ComesTo pages hand before p need now_p paper after → now.under_way ≡ awaiting need now_p → now.paper ≡ paper
    → CameTo pages (RunIs p hand) before need now after
needs-so pages hand before after p now_p need paper now comes is paper_is =
    let so = need-so pages need comes.needed now_p comes.is comes.may in
    let hand_is = subst (λ (q : Paper). IsHand q (pages_behind comes.needed pages) comes.hand_now) (sym paper_is) comes.hand_is in
    record {
      needed = comes.needed;
      is = comes.is;
      fits = comes.fits;
      awaited = record { is = so.kind ∙ sym (ap kind_of is); begins = λ e. absurd (so.goes_on e); hand = comes.hand_now; hand_is = hand_is };
      told = λ told here c makes.
          let (doing, left, same) = makes in
          let came = comes.told told doing here left in
          reaches-so c (record { need = comes.needed; maps = came.maps; files = file_map came.pages; pause = came.pause }) before after now came.pages came.told
          (same ∙ came.comes) refl
          (at-pause now (file_map came.pages) came.pause (pages_behind comes.needed pages) comes.hand_now (awaiting need now_p) is hand_is
          (so.pauses comes.hand_now (file_map came.pages) came.pause came.stands));
    }

-- ---- By its end

pub ends-so : (pages : ℕ) (hand : List (List ℕ)) (before after : Option (List (List ℕ))) (p : Sight) (printing : Printing) (paper : Paper)
    (need : Need) (now : Session) (e : run.EndsSo pages hand before p printing paper after)
    → CameTo pages (λ all c. c ≡ comes_to e.hand_now all (prints_then printing.lines printing.next printing.answers)) after need now after
    → CameTo pages (RunIs p hand) before need now after
ends-so pages hand before after p printing paper need now e printed = record {
  needed = printed.needed;
  is = printed.is;
  fits = printed.fits;
  awaited = printed.awaited;
  told = λ told here c makes.
      let (doing, left, same) = makes in
      let reached = e.told told doing here left in
      let later = prints_then printing.lines printing.next printing.answers in
      let r = printed.told reached.pages reached.told (comes_to e.hand_now (file_map reached.pages) later) refl in
      subst (λ (x : Paused). Reaches x printed.needed after now) (sym (same ∙ reached.comes))
      (record { left = r.left; told = r.told; need = r.need; files = r.files; stands = r.stands });
}

pub lacks-so : (pages : ℕ) (hand : List (List ℕ)) (before after : Option (List (List ℕ))) (p : Sight) (now : Session)
    → ((old : List (List ℕ)) (doing : Doing) → before ≡ Some old → IsLeftOf p (file_map old) doing
    → (left : List (List ℕ)) × (after ≡ Some left) × IsAmong (file_map left) (file_map old) (comes_to hand (file_map old) doing).maps)
    → WorkedSo pages (RunIs p hand) before (Err NoMemory) now after
lacks-so pages hand before after p now among = λ told here c makes.
    let (doing, is_left, same) = makes in
    let (left, told_left, is) = among told doing here is_left in
    record { left = left; told_left = told_left; among = subst (λ (x : Paused). IsAmong (file_map left) (file_map told) x.maps) (sym same) is }

-- ---- By what it takes

pub takes-cards : (cards : List (List ℕ)) (spoiled : Bool) (p now : Sight) (hand : List (List ℕ)) (all : Files) (c : Paused)
    → TakesCards (record { cards = cards; spoiled = spoiled }) p now
    → (pause : Pause) × StandsFor AtCards p hand all pause × (c ≡ resumes (OfCards cards spoiled) all pause) → RunIs now hand all c
takes-cards cards spoiled p now hand all c takes (pause, (more, is, waits), same) =
    (more (record { cards = cards; spoiled = spoiled }), waits (record { cards = cards; spoiled = spoiled }) now takes, same ∙ ap (resumes (OfCards cards spoiled) all) is)

pub takes-line : (typed : Feed) (p now : Sight) (hand : List (List ℕ)) (all : Files) (c : Paused) → TakesLine typed p now
    → (pause : Pause) × StandsFor AtTyped p hand all pause × (c ≡ resumes (OfTyped typed) all pause) → RunIs now hand all c
takes-line typed p now hand all c takes (pause, (more, is, waits), same) =
    (more typed, waits typed now takes, same ∙ ap (resumes (OfTyped typed) all) is)

-- ---- In the words of the code

pub ran-needs : (pages : ℕ) (hand : List (List ℕ)) (before after : Option (List (List ℕ))) (p now_p : Sight) (progress : Progress) (need : Need)
    (paper : Paper) (now : Session) → progress ≡ Needs need
    → run.Came pages hand before p (Ok progress) now_p paper after → now.under_way ≡ awaiting need now_p → now.paper ≡ paper
    → CameTo pages (RunIs p hand) before need now after
ran-needs pages hand before after p now_p progress need paper now is came way same =
    needs-so pages hand before after p now_p need paper now
    (subst (λ (x : Progress). run.Came pages hand before p (Ok x) now_p paper after) is came) way same

pub ran-ends : (pages : ℕ) (hand : List (List ℕ)) (before after : Option (List (List ℕ))) (p now_p : Sight) (progress : Progress) (printing : Printing)
    (paper : Paper) (need : Need) (now : Session) → progress ≡ Ends printing → run.Came pages hand before p (Ok progress) now_p paper after
    → ((lines : List (List ℕ)) → IsHand paper pages lines
    → CameTo pages (λ all c. c ≡ comes_to lines all (prints_then printing.lines printing.next printing.answers)) after need now after)
    → CameTo pages (RunIs p hand) before need now after
ran-ends pages hand before after p now_p progress printing paper need now is came printed =
    let ended = subst (λ (x : Progress). run.Came pages hand before p (Ok x) now_p paper after) is came in
    ends-so pages hand before after p printing paper need now ended (printed ended.hand_now ended.hand_is)

pub ran-not : (pages : ℕ) (hand : List (List ℕ)) (before after : Option (List (List ℕ))) (p now_p : Sight) (why : CommandFault) (paper : Paper)
    (now : Session) → run.Came pages hand before p (Err why) now_p paper after → WorkedSo pages (RunIs p hand) before (Err (as_work why)) now after
ran-not pages hand before after p now_p fault.DiskFault paper now came = tt
ran-not pages hand before after p now_p fault.NoMemory paper now came = lacks-so pages hand before after p now came

may-so : (need : Need) (p : Sight) → MayTake (run.kind_of need) p → MayGoOn (awaiting need p)
may-so needs.Cards p may = may
may-so needs.Line p may = may
may-so (needs.Display line) p may = may
may-so (needs.Page page) p may = may
may-so (needs.End last answers) p may = absurd may

pub ran-may : (progress : Progress) (need : Need) (p : Sight) → progress ≡ Needs need → run.MayGoOn progress p → MayGoOn (awaiting need p)
ran-may progress need p is may = may-so need p (subst (λ (x : Progress). run.MayGoOn x p) is may)

-- a program is begun
pub begun-so : (name : List ℕ) (args given : List Arg) (before mid after : Option (List (List ℕ))) (program : Sight) (result : Result Need WorkFault)
    (now : Session) → given ≡ args → mid ≡ before
    → ((pages : List (List ℕ)) → before ≡ Some pages → IsLeftOf program (file_map pages) (does (command.Program name given) (file_map pages)))
    → WorkedSo 0 (RunIs program []) mid result now after
    → WorkedSo 0 (λ all c. c ≡ comes_to [] all (does (command.Program name args) all)) before result now after
begun-so name args given before mid after program result now same left begins worked =
    worked-from 0 (λ all c. c ≡ comes_to [] all (does (command.Program name args) all)) (RunIs program []) before mid result now after left
    (λ told here c e. (
      does (command.Program name given) (file_map told),
      begins told here,
      e ∙ ap (λ a. comes_to [] (file_map told) (does (command.Program name a) (file_map told))) (sym same),
    )) worked

-- or this line answers
pub begun-answer : (name : List ℕ) (args given : List Arg) (told : List (List ℕ)) (line : List ℕ) → given ≡ args
    → does (command.Program name given) (file_map told) ≡ Gives (line ∷ []) → does (command.Program name args) (file_map told) ≡ Gives (line ∷ [])
begun-answer name args given told line same gives = ap (λ a. does (command.Program name a) (file_map told)) (sym same) ∙ gives
