-- A card file that becomes a new file.
use Rattle.std.proofs.Common.{◌≡◌, ℕ, Bool, true, false, List, [], ◌∷◌, codes, Option, None, Some, Result, Ok, Err, refl, sym, ◌∙◌, ap, subst}
use Rattle.std.specs.FinMap as fin
use Rattle.solo_base.specs.Text.{text}
use Rattle.disk_layout.specs.Files.{File, Files, files as file_map}
use Rattle.disk_contents.specs.Contents.{text_file}
use Rattle.program_task.specs.Task.{Gives}
use Rattle.solo_task.specs.Answers.{Doing, answer_line, stores}
use Rattle.solo_task.specs.Copying.{copier, with_cards}
use Rattle.solo_task.specs.Needs.{Paused, comes_to}
use Rattle.solo_procs.specs.declared.commands.Need.{Need}
use Rattle.solo_procs.specs.declared.commands.WorkFault.{WorkFault}
use Rattle.solo_procs.specs.declared.commands.WorkFault.TheVariants.{Failed, NoMemory}
use Rattle.file_commands.specs.declared.fault.CommandFault.{CommandFault}
use Rattle.file_commands.specs.Settling.{IsAnsweredSo}
use Rattle.session_work.specs.declared.session.Session.{Session}
use Rattle.session_work.specs.Pausing.{stores_these}
use Rattle.session_work.specs.Working.{Reaches, CameTo, StopsAmong, WorkedSo}
use Rattle.session_work.proofs.Copying.{spoiled-so, sound-so}
use Rattle.session_work.proofs.Answering.{answered-by}

-- what is told, where the file isn't there
abbrev new_if : Option File → List (List ℕ) → Option (List (List ℕ))
new_if None told = Some told
new_if (Some file) told = None

abbrev new_before : List ℕ → Option (List (List ℕ)) → Option (List (List ℕ))
new_before to None = None
new_before to (Some told) = new_if (fin.get (file_map told) to) told

same-pages : (a b : List (List ℕ)) → Some a ≡ Some b → a ≡ b
same-pages a b e = cc

is-new-by : (to : List ℕ) (one told : List (List ℕ)) (found : Option File) → fin.get (file_map one) to ≡ found → new_if found one ≡ Some told
    → (Some one ≡ Some told) × (fin.get (file_map told) to ≡ None)
is-new-by to one told None get is = (is, subst (λ t. fin.get (file_map t) to ≡ None) (same-pages one told is) get)
is-new-by to one told (Some file) get is = absurd cc

is-new : (to : List ℕ) (before : Option (List (List ℕ))) (told : List (List ℕ)) → new_before to before ≡ Some told
    → (before ≡ Some told) × (fin.get (file_map told) to ≡ None)
is-new to None told is = absurd cc
is-new to (Some one) told is = is-new-by to one told (fin.get (file_map one) to) refl is

new-is : (to : List ℕ) (before : Option (List (List ℕ))) (told : List (List ℕ)) → before ≡ Some told → fin.get (file_map told) to ≡ None
    → new_before to before ≡ Some told
new-is to before told is none = ap (new_before to) is ∙ ap (λ f. new_if f told) none

new-worked : (pages : ℕ) (hand : List (List ℕ)) (to : List ℕ) (doing : Files → Doing) (before : Option (List (List ℕ))) (result : Result Need WorkFault)
    (now : Session) (after : Option (List (List ℕ)))
    → WorkedSo pages (λ all c. c ≡ comes_to hand all (doing all)) (new_before to before) result now after
    → WorkedSo pages (λ all c. (fin.get all to ≡ None) × (c ≡ comes_to hand all (doing all))) before result now after
new-worked pages hand to doing before (Ok need) now after worked = record {
  needed = worked.needed;
  is = worked.is;
  fits = worked.fits;
  awaited = worked.awaited;
  told = λ told here c makes. let (none, e) = makes in worked.told told (new-is to before told here none) c e;
}
new-worked pages hand to doing before (Err Failed) now after worked = tt
new-worked pages hand to doing before (Err NoMemory) now after worked =
    λ told here c makes. let (none, e) = makes in worked told (new-is to before told here none) c e

pub spoiled-store : (pages : ℕ) (hand : List (List ℕ)) (to : List ℕ) (cards : List (List ℕ)) (spoiled : Bool) (line : List ℕ) (before : Option (List (List ℕ)))
    (result : Result Need WorkFault) (now : Session) → spoiled ≡ true → line ≡ answer_line copier (codes "SPOILED CARD")
    → ((asked : Option (List (List ℕ))) (doing : Files → Doing)
    → ((told : List (List ℕ)) → asked ≡ Some told → IsAnsweredSo (doing (file_map told)) told (Ok line) before)
    → WorkedSo pages (λ all c. c ≡ comes_to hand all (doing all)) asked result now before)
    → WorkedSo pages (λ all c. (fin.get all to ≡ None)
    × (c ≡ comes_to hand all (with_cards (stores_these all to) (record { cards = cards; spoiled = spoiled })))) before result now before
spoiled-store pages hand to cards spoiled line before result now is same answered =
    new-worked pages hand to (λ all. with_cards (stores_these all to) (record { cards = cards; spoiled = spoiled })) before result now before
    (answered (new_before to before) (λ all. with_cards (stores_these all to) (record { cards = cards; spoiled = spoiled }))
    (λ told here.
    let (told_before, none) = is-new to before told here in
    subst (λ doing. IsAnsweredSo doing told (Ok line) before) (sym (spoiled-so (stores_these (file_map told) to) cards spoiled is))
    (answered-by told (answer_line copier (codes "SPOILED CARD")) line before same told_before)))

pub stored-cards : (pages : ℕ) (hand : List (List ℕ)) (to : List ℕ) (cards : List (List ℕ)) (bytes : List ℕ) (spoiled : Bool)
    (before after : Option (List (List ℕ))) (came_to : Result (List ℕ) CommandFault) (result : Result Need WorkFault) (now : Session)
    → spoiled ≡ false → bytes ≡ text cards
    → ((told : List (List ℕ)) → before ≡ Some told → fin.get (file_map told) to ≡ None
    → IsAnsweredSo (stores copier (file_map told) to (text_file bytes)) told came_to after)
    → ((asked : Option (List (List ℕ))) (doing : Files → Doing)
    → ((told : List (List ℕ)) → asked ≡ Some told → IsAnsweredSo (doing (file_map told)) told came_to after)
    → WorkedSo pages (λ all c. c ≡ comes_to hand all (doing all)) asked result now after)
    → WorkedSo pages (λ all c. (fin.get all to ≡ None)
    × (c ≡ comes_to hand all (with_cards (stores_these all to) (record { cards = cards; spoiled = spoiled })))) before result now after
stored-cards pages hand to cards bytes spoiled before after came_to result now is same stored answered =
    new-worked pages hand to (λ all. with_cards (stores_these all to) (record { cards = cards; spoiled = spoiled })) before result now after
    (answered (new_before to before) (λ all. with_cards (stores_these all to) (record { cards = cards; spoiled = spoiled }))
    (λ told here.
    let (told_before, none) = is-new to before told here in
    subst (λ doing. IsAnsweredSo doing told came_to after)
    (ap (λ t. stores copier (file_map told) to (text_file t)) same ∙ sym (sound-so (stores_these (file_map told) to) cards spoiled is))
    (stored told told_before none)))
