-- The needs of a command, one after the other, are what its task tells.
use Rattle.std.proofs.Common.{◌≡◌, ℕ, Bool, true, false, List, [], ◌∷◌, ◌++◌, refl, ◌∙◌, ap, append_assoc}
use Rattle.std.specs.Prelude.{if◌then◌else◌}
use Rattle.std.proofs.lemmas.List.{append-nil}
use Rattle.disk_layout.specs.Files.{Files}
use Rattle.program_task.specs.Task.{Gives, ReadsCards, Accepts, Displays, Prints, Changes}
use Rattle.solo_task.specs.Answers.{Doing}
use Rattle.solo_task.specs.Session.{SoloWorld, first_file, next_feed, after_cards, after_line, with_files, tells, given_by}
use Rattle.solo_task.specs.Needs.{PageNeeded, Paused, needs, either, GoesOn, fits_behind, comes_to, needs_of}
use Rattle.solo_task.specs.Laws.{NeedsPrint, NeedsDisplay, ComesToEachNeed, ChangesToEachMap, LeavesTheLastMap, paper_of, console_of, needs_behind, maps_behind, last_of}

-- ---- Lines that are printed

room-prints : (room : Bool) (hand : List (List ℕ)) (line : List ℕ) (later : Doing) (w : SoloWorld)
    → ((other : List (List ℕ)) → paper_of (needs_of other later w) ≡ other ++ (tells later w).paper)
    → paper_of ((if room then [] else PageNeeded hand ∷ []) ++ needs_of (if room then hand ++ line ∷ [] else line ∷ []) later w) ≡ hand ++ line ∷
    (tells later w).paper
room-prints true hand line later w rest = rest (hand ++ line ∷ []) ∙ append_assoc hand (line ∷ []) (tells later w).paper
room-prints false hand line later w rest = ap (λ lines. hand ++ lines) (rest (line ∷ []))

pub needs-print : NeedsPrint
needs-print hand (Gives lines) w = refl
needs-print hand (ReadsCards more) w = needs-print hand (more (first_file w.cards)) (after_cards w)
needs-print hand (Accepts more) w = needs-print hand (more (next_feed w.keys)) (after_line w)
needs-print hand (Displays line later) w = needs-print hand later w
needs-print hand (Prints line later) w = room-prints (fits_behind hand line) hand line later w (λ other. needs-print other later w)
needs-print hand (Changes files later) w = needs-print hand later (with_files files w)

-- ---- Lines that are displayed

room-displays : (room : Bool) (hand : List (List ℕ)) (line : List ℕ) (later : Doing) (w : SoloWorld)
    → ((other : List (List ℕ)) → console_of (needs_of other later w) ≡ (tells later w).console ++ given_by later w)
    → console_of ((if room then [] else PageNeeded hand ∷ []) ++ needs_of (if room then hand ++ line ∷ [] else line ∷ []) later w) ≡ (tells later w).console
    ++
    given_by later w
room-displays true hand line later w rest = rest (hand ++ line ∷ [])
room-displays false hand line later w rest = rest (line ∷ [])

pub needs-display : NeedsDisplay
needs-display hand (Gives lines) w = append-nil lines
needs-display hand (ReadsCards more) w = needs-display hand (more (first_file w.cards)) (after_cards w)
needs-display hand (Accepts more) w = needs-display hand (more (next_feed w.keys)) (after_line w)
needs-display hand (Displays line later) w = ap (λ lines. line ∷ lines) (needs-display hand later w)
needs-display hand (Prints line later) w = room-displays (fits_behind hand line) hand line later w (λ other. needs-display other later w)
needs-display hand (Changes files later) w = needs-display hand later (with_files files w)

-- ---- The first of the needs

room-comes : (room : Bool) (hand : List (List ℕ)) (line : List ℕ) (later : Doing) (w : SoloWorld)
    → (needs_of (hand ++ line ∷ []) later w ≡ (comes_to (hand ++ line ∷ []) w.files later).need ∷ needs_behind
    (comes_to (hand ++ line ∷ []) w.files later).pause (with_files (comes_to (hand ++ line ∷ []) w.files later).files w))
    → let c = either room (comes_to (hand ++ line ∷ []) w.files later) (needs (PageNeeded hand) w.files (GoesOn (line ∷ []) later)) in
    (if room then [] else PageNeeded hand ∷ []) ++ needs_of (if room then hand ++ line ∷ [] else line ∷ []) later w ≡ c.need ∷ needs_behind c.pause
    (with_files c.files w)
room-comes true hand line later w rest = rest
room-comes false hand line later w rest = refl

pub comes-each : ComesToEachNeed
comes-each hand (Gives lines) w = refl
comes-each hand (ReadsCards more) w = refl
comes-each hand (Accepts more) w = refl
comes-each hand (Displays line later) w = refl
comes-each hand (Prints line later) w = room-comes (fits_behind hand line) hand line later w (comes-each (hand ++ line ∷ []) later w)
comes-each hand (Changes now later) w = comes-each hand later (with_files now w)

-- ---- The first of the maps

room-changes : (room : Bool) (hand : List (List ℕ)) (line : List ℕ) (later : Doing) (w : SoloWorld)
    → ((tells later w).maps ≡ (comes_to (hand ++ line ∷ []) w.files later).maps ++ maps_behind (comes_to (hand ++ line ∷ []) w.files later).pause
    (with_files (comes_to (hand ++ line ∷ []) w.files later).files w))
    → let c = either room (comes_to (hand ++ line ∷ []) w.files later) (needs (PageNeeded hand) w.files (GoesOn (line ∷ []) later)) in
    (tells later w).maps ≡ c.maps ++ maps_behind c.pause (with_files c.files w)
room-changes true hand line later w rest = rest
room-changes false hand line later w rest = refl

pub changes-each : ChangesToEachMap
changes-each hand (Gives lines) w = refl
changes-each hand (ReadsCards more) w = refl
changes-each hand (Accepts more) w = refl
changes-each hand (Displays line later) w = refl
changes-each hand (Prints line later) w = room-changes (fits_behind hand line) hand line later w (changes-each (hand ++ line ∷ []) later w)
changes-each hand (Changes now later) w = ap (λ maps. now ∷ maps) (changes-each hand later (with_files now w))

room-last : (room : Bool) (first second : Paused) (all : Files) → first.files ≡ last_of all first.maps → second.files ≡ last_of all second.maps
    → (either room first second).files ≡ last_of all (either room first second).maps
room-last true first second all is also = is
room-last false first second all is also = also

pub leaves-last : LeavesTheLastMap
leaves-last hand (Gives lines) all = refl
leaves-last hand (ReadsCards more) all = refl
leaves-last hand (Accepts more) all = refl
leaves-last hand (Displays line later) all = refl
leaves-last hand (Prints line later) all =
    room-last (fits_behind hand line) (comes_to (hand ++ line ∷ []) all later) (needs (PageNeeded hand) all (GoesOn (line ∷ []) later)) all
    (leaves-last (hand ++ line ∷ []) later all) refl
leaves-last hand (Changes now later) all = leaves-last hand later now
