-- What a piece of work comes to, put together of what its arms do.
use Rattle.std.proofs.Common.{◌≡◌, ◌≤◌, ℕ, zero, suc, Bool, true, false, List, [], ◌∷◌, ◌++◌, map, Option, None, Some, Result, Ok, Err, refl, sym, ◌∙◌, ap, subst, arith}
use Rattle.std.specs.List.{AllByRecursion}
use Rattle.std.proofs.lemmas.List.{append-nil}
use Rattle.solo_base.specs.declared.item.Item.TheVariants.{Line}
use Rattle.solo_base.specs.Line.{IsLine}
use Rattle.disk_layout.specs.Files.{Files, files as file_map}
use Rattle.page_codec.specs.Items.{items_bytes}
use Rattle.page_codec.specs.Reading.{items_after}
use Rattle.page_codec.proofs.Scan.{items_after-items}
use Rattle.exchange_law.proofs.Lines.{are-items, lines-again}
use Rattle.exchange_law.specs.Pages.{lines_of, ArePage}
use Rattle.solo_law.specs.Work.{Given, NeedFits}
use Rattle.solo_procs.specs.Commands.{AtLine, kind_given}
use Rattle.solo_procs.specs.declared.commands.Need.{Need}
use Rattle.solo_procs.specs.declared.commands.WorkFault.{WorkFault}
use Rattle.solo_procs.specs.declared.commands.WorkFault.TheVariants.{Failed, NoMemory}
use Rattle.solo_task.specs.Needs.{Pause, Paused, resumes}
use Rattle.solo_work.specs.declared.paper.Paper.{Paper}
use Rattle.solo_work.specs.Paper.{IsHand}
use Rattle.session_work.specs.declared.session.Session.{Session}
use Rattle.session_work.specs.Pausing.{StandsAt, Awaits}
use Rattle.session_work.specs.Working.{Reaches, CameTo, StopsAmong, WorkedSo, LeadsTo, PieceIs, PieceSo}

-- ---- The bytes in hand tell their lines

lines-read : (hand : List (List ℕ)) → AllByRecursion IsLine hand → lines_of (items_after 0 (items_bytes (map Line hand))) ≡ hand
lines-read hand valid =
    ap (λ bytes. lines_of (items_after 0 bytes)) (sym (append-nil (items_bytes (map Line hand))))
    ∙ ap lines_of (items_after-items (map Line hand) [] (are-items hand valid) ∙ append-nil (map Line hand))
    ∙ lines-again hand

pub same-hand : (p : Paper) (m n : ℕ) (one other : List (List ℕ)) → IsHand p m one → IsHand p n other → one ≡ other
same-hand p m n one other is is_other =
    sym (lines-read one is.lines)
    ∙ ap (λ bytes. lines_of (items_after 0 bytes)) (sym is.content ∙ is_other.content)
    ∙ lines-read other is_other.lines

-- ---- The same work, said of other tasks

pub worked-from : (pages : ℕ) (Is Was : Files → Paused → Type 0) (before mid : Option (List (List ℕ))) (result : Result Need WorkFault) (now : Session)
    (after : Option (List (List ℕ)))
    → mid ≡ before
    → ((told : List (List ℕ)) → before ≡ Some told → (c : Paused) → Is (file_map told) c → Was (file_map told) c)
    → WorkedSo pages Was mid result now after → WorkedSo pages Is before result now after
worked-from pages Is Was before mid (Ok need) now after same from worked = record {
  needed = worked.needed;
  is = worked.is;
  fits = worked.fits;
  awaited = worked.awaited;
  told = λ told is c makes. worked.told told (same ∙ is) c (from told is c makes);
}
worked-from pages Is Was before mid (Err Failed) now after same from worked = tt
worked-from pages Is Was before mid (Err NoMemory) now after same from worked = λ told is c makes. worked told (same ∙ is) c (from told is c makes)

-- ---- What leads on

pub leads-on : (pages : ℕ) (Is : Files → Paused → Type 0) (before : Option (List (List ℕ))) (result : Result Need WorkFault) (now : Session)
    (after : Option (List (List ℕ))) → WorkedSo pages Is before result now after
    → (told : List (List ℕ)) → before ≡ Some told → (c : Paused) → Is (file_map told) c → LeadsTo told c result now after
leads-on pages Is before (Ok need) now after worked told is c makes =
    let r = worked.told told is c makes in
    record { left = r.left; told = r.told; need = refl; files = r.files; stands = r.stands }
leads-on pages Is before (Err Failed) now after worked told is c makes = tt
leads-on pages Is before (Err NoMemory) now after worked told is c makes = worked told is c makes

-- A piece of work with the lines in hand, whatever they are: from what its arm does of them.
pub piece-made : (given : Given) (old now : Session) (before : Option (List (List ℕ))) (result : Result Need WorkFault) (after : Option (List (List ℕ)))
    (Is : List (List ℕ) → Files → Paused → Type 0)
    → ((pages : ℕ) (hand : List (List ℕ)) → IsHand old.paper pages hand → WorkedSo pages (Is hand) before result now after)
    → ((all : Files) (pause : Pause) → (at : StandsAt old all pause) → Is at.hand all (resumes given all pause))
    → PieceSo given old before result now after
piece-made given old now before result after Is arm begins = record {
  comes = λ pages awaits.
      worked-from pages (PieceIs given old) (Is awaits.hand) before before result now after refl
      (λ told is c piece. let (pause, at, e) = piece in
      subst (Is awaits.hand (file_map told)) (sym e)
      (subst (λ hand. Is hand (file_map told) (resumes given (file_map told) pause))
      (same-hand old.paper at.pages pages at.hand awaits.hand at.hand_is awaits.hand_is)
      (begins (file_map told) pause at)))
      (arm pages awaits.hand awaits.hand_is);
  leads = λ told is c piece. let (pause, at, e) = piece in
      leads-on at.pages (Is at.hand) before result now after (arm at.pages at.hand at.hand_is) told is c
      (subst (Is at.hand (file_map told)) (sym e) (begins (file_map told) pause at));
}
