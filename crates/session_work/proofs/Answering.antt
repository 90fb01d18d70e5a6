-- How a command is answered.
use Rattle.std.proofs.Common.{◌≡◌, ◌⊎◌, inl, inr, codes, ℕ, zero, suc, List, [], ◌∷◌, ◌++◌, Option, None, Some, Result, Ok, Err, refl, sym, ◌∙◌, ap, subst}
use Rattle.std.specs.FinMap as fin
use Rattle.solo_base.specs.declared.page.Page.{Page}
use Rattle.disk_layout.specs.Files.{Files, files as file_map}
use Rattle.exchange_law.specs.Pages.{ArePage}
use Rattle.exchange_law.proofs.Lines.{last-page}
use Rattle.program_task.specs.Task.{CardFile, Gives, ReadsCards, Changes, prints_all}
use Rattle.solo_task.specs.Answers.{Doing, answer_line, answers}
use Rattle.pascal_mean.specs.Batch.{lines_in, with_characters, nothing_printed}
use Rattle.solo_task.specs.Copying.{copier, prints_text}
use Rattle.solo_task.specs.Needs.{Pause, Idle, Paused, PageNeeded, EndNeeded, CardsNeeded, WantsCards, GoesOn, comes_to, needs as pauses_for, passes}
use Rattle.solo_needs.specs.Needs.{Need as Need0}
use Rattle.solo_procs.specs.Commands.{Kind, AtLine, AtCards, AtNothing}
use Rattle.exchange_law.specs.Pages.{last_page}
use Rattle.solo_procs.specs.declared.commands.Need.{Need}
use Rattle.solo_procs.specs.declared.commands.Need.TheVariants as needs
use Rattle.solo_procs.specs.declared.commands.WorkFault.{WorkFault}
use Rattle.solo_procs.specs.declared.commands.WorkFault.TheVariants.{Failed, NoMemory}
use Rattle.solo_work.specs.declared.paper.Paper.{Paper}
use Rattle.solo_work.specs.declared.printing.Printing.{Printing}
use Rattle.solo_work.specs.Paper.{IsHand}
use Rattle.session_law.specs.Passing.{IsAmong}
use Rattle.solo_work.specs.Printing.{prints_then, PrintsAll, PrintsPage}
use Rattle.file_commands.specs.declared.fault.CommandFault.{CommandFault}
use Rattle.file_commands.specs.declared.fault.CommandFault.TheVariants as fault
use Rattle.file_commands.specs.Settling.{Settles, SettledIn, IsSettledSo, IsAnsweredSo}
use Rattle.session_work.specs.declared.session.Session.{Session}
use Rattle.session_work.specs.declared.session.UnderWay.{UnderWay}
use Rattle.session_work.specs.declared.session.UnderWay.TheVariants as under_way
use Rattle.session_work.specs.Pausing.{PausesAt, StandsAt, Awaits, kind_of}
use Rattle.session_work.specs.Working.{Reaches, CameTo, StopsAmong, WorkedSo, as_work}
use Rattle.session_work.proofs.Working.{worked-from}

not-at-line : (n : ℕ) → AtNothing ≡ AtLine → n ≡ 0
not-at-line n e = absurd cc

-- where it pauses for what comes next, of a session with this under way
pub at-pause : (s : Session) (all : Files) (pause : Pause) (pages : ℕ) (hand : List (List ℕ)) (what : UnderWay) → s.under_way ≡ what → IsHand s.paper pages hand
    → PausesAt what hand all pause → StandsAt s all pause
at-pause s all pause pages hand what is hand_is pauses =
    record { pages = pages; hand = hand; hand_is = hand_is; pauses = subst (λ w. PausesAt w hand all pause) (sym is) pauses }

-- It reaches what it comes to.
pub reaches-so : (c now_c : Paused) (before after : Option (List (List ℕ))) (now : Session) (left : List (List ℕ)) → after ≡ Some left → c ≡ now_c
    → now_c.files ≡ file_map left → StandsAt now (file_map left) now_c.pause → Reaches c now_c.need after now
reaches-so c now_c before after now left told same files stands =
    subst (λ (x : Paused). Reaches x now_c.need after now) (sym same)
    (record { left = left; told = told; need = refl; files = files; stands = stands })

-- ---- The end

pub ended : (pages : ℕ) (hand answers : List (List ℕ)) (last : Option Page) (old : Paper) (now : Session) (before : Option (List (List ℕ)))
    → IsHand old pages hand → last ≡ last_page pages hand → now.under_way ≡ under_way.Idle → IsHand now.paper 0 []
    → CameTo pages (λ all c. c ≡ comes_to hand all (Gives answers)) before (needs.End last answers) now before
ended pages hand answers last old now before is last_is idle fresh = record {
  needed = EndNeeded hand answers;
  is = (last_is, refl);
  fits = last-page hand (record { lines = is.lines; room = is.fits });
  awaited = record { is = sym (ap kind_of idle); begins = λ at. refl; hand = []; hand_is = fresh };
  told = λ told here c same.
      reaches-so c (comes_to hand (file_map told) (Gives answers)) before before now told here same refl
      (at-pause now (file_map told) Idle 0 [] under_way.Idle idle fresh refl);
}

-- ---- Lines that are printed

pub page-printed : (pages : ℕ) (hand : List (List ℕ)) (p left : Printing) (page : Page) (now : Session) (before : Option (List (List ℕ)))
    → PrintsPage p.lines p.next pages hand page left.next now.paper → left.lines ≡ p.lines → left.answers ≡ p.answers
    → now.under_way ≡ under_way.Prints left
    → CameTo pages (λ all c. c ≡ comes_to hand all (prints_then p.lines p.next p.answers)) before (needs.Page page) now before
page-printed pages hand p left page now before prints lines answers is = record {
  needed = PageNeeded prints.full;
  is = prints.page_is;
  fits = prints.fits;
  awaited = record { is = sym (ap kind_of is); begins = not-at-line (suc pages); hand = prints.begun; hand_is = prints.hand_is };
  told = λ told here c same.
      reaches-so c
      (pauses_for (PageNeeded prints.full) (file_map told) (GoesOn prints.begun (prints_then p.lines left.next p.answers)))
      before before now told here (same ∙ prints.is (file_map told) p.answers) refl
      (at-pause now (file_map told) _ (suc pages) prints.begun (under_way.Prints left) is prints.hand_is
      (ap (λ ls. GoesOn prints.begun (prints_then ls left.next p.answers)) (sym lines)
      ∙ ap (λ ls. GoesOn prints.begun (prints_then left.lines left.next ls)) (sym answers)));
}

-- ---- What a command came to

pub first-among : (first : Files) (maps : List Files) → IsAmong first first maps
first-among first [] = refl
first-among first (next ∷ maps) = inl refl

pub stops-at-once : (told : List (List ℕ)) (c : Paused) (after : Option (List (List ℕ))) → after ≡ Some told → StopsAmong told c after
stops-at-once told c after is = record { left = told; told_left = is; among = first-among (file_map told) c.maps }

settles-so : (told pages lines hand : List (List ℕ)) (doing : Doing) (c : Paused) (needed : Need0) (after : Option (List (List ℕ))) (now : Session)
    → Settles doing (file_map told) lines (file_map pages) → c ≡ comes_to hand (file_map told) doing
    → Reaches (comes_to hand (file_map pages) (Gives lines)) needed after now → Reaches c needed after now
settles-so told pages lines hand doing c needed after now (inl (gives, same)) e r =
    subst (λ (x : Paused). Reaches x needed after now)
    (sym (e ∙ ap (comes_to hand (file_map told)) gives ∙ ap (λ all. comes_to hand all (Gives lines)) same)) r
settles-so told pages lines hand doing c needed after now (inr changes) e r =
    subst (λ (x : Paused). Reaches x needed after now) (sym (e ∙ ap (comes_to hand (file_map told)) changes))
    (record { left = r.left; told = r.told; need = r.need; files = r.files; stands = r.stands })

settles-among : (told pages lines hand : List (List ℕ)) (doing : Doing) (c : Paused) (after : Option (List (List ℕ))) → after ≡ Some pages
    → Settles doing (file_map told) lines (file_map pages) → c ≡ comes_to hand (file_map told) doing → StopsAmong told c after
settles-among told pages lines hand doing c after is (inl (gives, same)) e =
    record {
      left = pages;
      told_left = is;
      among = subst (λ all. IsAmong all (file_map told) c.maps) same (first-among (file_map told) c.maps);
    }
settles-among told pages lines hand doing c after is (inr changes) e =
    record {
      left = pages;
      told_left = is;
      among =
          subst (λ (x : Paused). IsAmong (file_map pages) (file_map told) x.maps) (sym (e ∙ ap (comes_to hand (file_map told)) changes)) (inr refl);
    }

-- these lines answer it
pub settled-by : (pages : ℕ) (hand lines answers : List (List ℕ)) (doing : Files → Doing) (need : Need) (now : Session)
    (before after : Option (List (List ℕ))) → answers ≡ lines
    → ((told : List (List ℕ)) → before ≡ Some told → SettledIn (doing (file_map told)) told lines after)
    → CameTo pages (λ all c. c ≡ comes_to hand all (Gives answers)) after need now after
    → CameTo pages (λ all c. c ≡ comes_to hand all (doing all)) before need now after
settled-by pages hand lines answers doing need now before after same settles came = record {
  needed = came.needed;
  is = came.is;
  fits = came.fits;
  awaited = came.awaited;
  told = λ told here c e.
      let s = settles told here in
      settles-so told s.pages lines hand (doing (file_map told)) c came.needed after now s.settles e
      (subst (λ ls. Reaches (comes_to hand (file_map s.pages) (Gives ls)) came.needed after now) same
      (came.told s.pages s.told (comes_to hand (file_map s.pages) (Gives answers)) refl));
}

-- lines that one call gives over files that stay
pub gives-at-once : (lines told : List (List ℕ)) (doing : Doing) (before : Option (List (List ℕ))) → doing ≡ Gives lines → before ≡ Some told
    → SettledIn doing told lines before
gives-at-once lines told doing before gives here = record { pages = told; told = here; settles = inl (gives, refl) }

-- ---- A card file is awaited

pub awaits-cards : (doing : Files → Doing) (more : Files → CardFile → Doing) (what : UnderWay) (now : Session) (before after : Option (List (List ℕ)))
    → AtCards ≡ kind_of what → now.under_way ≡ what → IsHand now.paper 0 [] → after ≡ before
    → ((told : List (List ℕ)) → before ≡ Some told
    → (doing (file_map told) ≡ ReadsCards (more (file_map told))) × PausesAt what [] (file_map told) (WantsCards [] (more (file_map told))))
    → CameTo 0 (λ all c. c ≡ comes_to [] all (doing all)) before needs.Cards now after
awaits-cards doing more what now before after kind is hand_is left reads = record {
  needed = CardsNeeded;
  is = tt;
  fits = tt;
  awaited = record { is = kind ∙ sym (ap kind_of is); begins = λ e. refl; hand = []; hand_is = hand_is };
  told = λ told here c same.
      let (does, pauses) = reads told here in
      reaches-so c (pauses_for CardsNeeded (file_map told) (WantsCards [] (more (file_map told)))) before after now told (left ∙ here)
      (same ∙ ap (comes_to [] (file_map told)) does) refl
      (at-pause now (file_map told) (WantsCards [] (more (file_map told))) 0 [] what is hand_is pauses);
}

-- memory was refused behind it
pub settled-among : (pages : ℕ) (hand : List (List ℕ)) (lines : List (List ℕ)) (doing : Files → Doing) (now : Session)
    (before after : Option (List (List ℕ))) → ((told : List (List ℕ)) → before ≡ Some told → SettledIn (doing (file_map told)) told lines after)
    → WorkedSo pages (λ all c. c ≡ comes_to hand all (doing all)) before (Err NoMemory) now after
settled-among pages hand lines doing now before after settles = λ told here c e.
    let s = settles told here in settles-among told s.pages lines hand (doing (file_map told)) c after s.told s.settles e

-- or before it, or the area failed
pub not-done : (pages : ℕ) (hand : List (List ℕ)) (doing : Files → Doing) (now : Session) (before after : Option (List (List ℕ))) (why : CommandFault)
    → ((told : List (List ℕ)) → before ≡ Some told → IsAnsweredSo (doing (file_map told)) told (Err why) after)
    → WorkedSo pages (λ all c. c ≡ comes_to hand all (doing all)) before (Err (as_work why)) now after
not-done pages hand doing now before after fault.DiskFault answers = tt
not-done pages hand doing now before after fault.NoMemory answers = λ told here c e. stops-at-once told c after (answers told here)

pub lacks-memory : (pages : ℕ) (Is : Files → Paused → Type 0) (now : Session) (before after : Option (List (List ℕ))) → after ≡ before
    → WorkedSo pages Is before (Err NoMemory) now after
lacks-memory pages Is now before after same = λ told here c makes. stops-at-once told c after (same ∙ here)

-- where a call on the files was refused that leaves them
pub refused-so : (pages : ℕ) (Is : Files → Paused → Type 0) (now : Session) (before after : Option (List (List ℕ))) (why : CommandFault) → after ≡ before
    → WorkedSo pages Is before (Err (as_work why)) now after
refused-so pages Is now before after fault.DiskFault same = tt
refused-so pages Is now before after fault.NoMemory same = lacks-memory pages Is now before after same

-- all lines are printed, and the command ends then
pub printed-all : (pages : ℕ) (hand : List (List ℕ)) (p left : Printing) (paper : Paper) (need : Need) (now : Session) (before : Option (List (List ℕ)))
    (all : PrintsAll p.lines p.next pages hand paper) → left.answers ≡ p.answers
    → CameTo pages (λ a c. c ≡ comes_to all.last a (Gives left.answers)) before need now before
    → CameTo pages (λ a c. c ≡ comes_to hand a (prints_then p.lines p.next p.answers)) before need now before
printed-all pages hand p left paper need now before all same came = record {
  needed = came.needed;
  is = came.is;
  fits = came.fits;
  awaited = came.awaited;
  told = λ told here c e.
      came.told told here c (e ∙ all.is (file_map told) p.answers ∙ ap (λ a. comes_to all.last (file_map told) (Gives a)) (sym same));
}

-- the same work of tasks that are the same
pub same-work : (pages : ℕ) (hand : List (List ℕ)) (doing was : Files → Doing) (before mid : Option (List (List ℕ))) (result : Result Need WorkFault) (now : Session)
    (after : Option (List (List ℕ))) → mid ≡ before → ((told : List (List ℕ)) → before ≡ Some told → doing (file_map told) ≡ was (file_map told))
    → WorkedSo pages (λ all c. c ≡ comes_to hand all (was all)) mid result now after
    → WorkedSo pages (λ all c. c ≡ comes_to hand all (doing all)) before result now after
same-work pages hand doing was before mid result now after left same worked =
    worked-from pages (λ all c. c ≡ comes_to hand all (doing all)) (λ all c. c ≡ comes_to hand all (was all)) before mid result now after left
    (λ told here c e. e ∙ ap (comes_to hand (file_map told)) (same told here)) worked

-- a line answers at once
pub answered-by : (told : List (List ℕ)) (text line : List ℕ) (before : Option (List (List ℕ))) → line ≡ text → before ≡ Some told
    → IsAnsweredSo (Gives (text ∷ [])) told (Ok line) before
answered-by told text line before same here = record {
  pages = told;
  told = here;
  settles = inl (ap (λ l. Gives (l ∷ [])) (sym same), refl);
}

-- lines
pub lines-printed : (pages : ℕ) (hand lines : List (List ℕ)) (printing : Printing) (need : Need) (now : Session) (before : Option (List (List ℕ)))
    → printing.lines ≡ lines → printing.next ≡ 0
    → printing.answers ≡ answer_line copier (codes "OK") ∷ []
    → CameTo pages (λ all c. c ≡ comes_to hand all (prints_then printing.lines printing.next printing.answers)) before need now before
    → CameTo pages (λ all c. c ≡ comes_to hand all (prints_all lines (answers copier (codes "OK")))) before need now before
lines-printed pages hand lines printing need now before these next answered came = record {
  needed = came.needed;
  is = came.is;
  fits = came.fits;
  awaited = came.awaited;
  told = λ told here c e.
      came.told told here c
      (e ∙ ap (comes_to hand (file_map told))
      (sym (ap (λ ls. prints_then ls printing.next printing.answers) these
      ∙ ap (λ n. prints_then lines n printing.answers) next
      ∙ ap (λ a. prints_then lines 0 a) answered)));
}

-- and those of a text
pub text-printed : (pages : ℕ) (hand : List (List ℕ)) (text : List ℕ) (lines : List (List ℕ)) (result : Result Need WorkFault) (now : Session)
    (before : Option (List (List ℕ))) → lines ≡ lines_in (with_characters nothing_printed text)
    → WorkedSo pages (λ all c. c ≡ comes_to hand all (prints_all lines (answers copier (codes "OK")))) before result now before
    → WorkedSo pages (λ all c. c ≡ comes_to hand all (prints_text text)) before result now before
text-printed pages hand text lines result now before made =
    same-work pages hand (λ all. prints_text text) (λ all. prints_all lines (answers copier (codes "OK"))) before before result now before refl
    (λ told here. sym (ap (λ (ls : List (List ℕ)). prints_all ls (answers copier (codes "OK"))) made))

pub refused-as : (pages : ℕ) (hand : List (List ℕ)) (doing : Files → Doing) (now : Session) (before after : Option (List (List ℕ))) (why : CommandFault)
    → ((told : List (List ℕ)) → before ≡ Some told → IsSettledSo (doing (file_map told)) told (Err why) after)
    → WorkedSo pages (λ all c. c ≡ comes_to hand all (doing all)) before (Err (as_work why)) now after
refused-as pages hand doing now before after fault.DiskFault answers = tt
refused-as pages hand doing now before after fault.NoMemory answers = λ told here c e. stops-at-once told c after (answers told here)

-- the same of a task
pub lacks-doing : (pages : ℕ) (hand : List (List ℕ)) (doing : Files → Doing) (now : Session) (before after : Option (List (List ℕ))) → after ≡ before
    → WorkedSo pages (λ all c. c ≡ comes_to hand all (doing all)) before (Err NoMemory) now after
lacks-doing pages hand doing now before after same = lacks-memory pages (λ all c. c ≡ comes_to hand all (doing all)) now before after same

pub refused-doing : (pages : ℕ) (hand : List (List ℕ)) (doing : Files → Doing) (now : Session) (before after : Option (List (List ℕ))) (why : CommandFault)
    → after ≡ before → WorkedSo pages (λ all c. c ≡ comes_to hand all (doing all)) before (Err (as_work why)) now after
refused-doing pages hand doing now before after why same = refused-so pages (λ all c. c ≡ comes_to hand all (doing all)) now before after why same
