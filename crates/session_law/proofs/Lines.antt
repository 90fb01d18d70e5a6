-- The needs of a session show and print what it tells.
use Rattle.std.proofs.Common.{◌≡◌, ℕ, zero, suc, List, [], ◌∷◌, ◌++◌, Option, None, Some, refl, sym, ◌∙◌, ap}
use Rattle.std.proofs.lemmas.List.{append-nil}
use Rattle.solo_base.specs.declared.item.Item.{Item}
use Rattle.solo_needs.specs.Needs.{Need, CardsNeeded, LineNeeded, DisplayNeeded, PageNeeded, EndNeeded}
use Rattle.solo_task.specs.Answers.{Doing}
use Rattle.solo_task.specs.Doing.{line_does}
use Rattle.solo_task.specs.Session.{SoloWorld, tells, given_by, world_after, one_tells, next_tells, lines_told}
use Rattle.solo_task.specs.Needs.{needs_of, line_needs, next_needs, lines_need}
use Rattle.solo_task.specs.Laws.{paper_of, console_of}
use Rattle.solo_task.proofs.NeedsMet.{needs-print, needs-display}
use Rattle.solo_law.specs.Told.{on_console, on_paper, lines_of_all}
use Rattle.solo_law.proofs.Shown.{lines-append}
use Rattle.session_law.specs.Plans.{all_needs}

shown-is : (found : List Need) → lines_of_all on_console found ≡ console_of found
shown-is [] = refl
shown-is (CardsNeeded ∷ more) = shown-is more
shown-is (LineNeeded ∷ more) = shown-is more
shown-is (DisplayNeeded line ∷ more) = ap (λ lines. line ∷ lines) (shown-is more)
shown-is (PageNeeded printed ∷ more) = shown-is more
shown-is (EndNeeded printed answers ∷ more) = ap (λ lines. answers ++ lines) (shown-is more)

printed-is : (found : List Need) → lines_of_all on_paper found ≡ paper_of found
printed-is [] = refl
printed-is (CardsNeeded ∷ more) = printed-is more
printed-is (LineNeeded ∷ more) = printed-is more
printed-is (DisplayNeeded line ∷ more) = printed-is more
printed-is (PageNeeded printed ∷ more) = ap (λ lines. printed ++ lines) (printed-is more)
printed-is (EndNeeded printed answers ∷ more) = ap (λ lines. printed ++ lines) (printed-is more)

-- ---- the console
one-shows : (doing : Option Doing) (w : SoloWorld) (n : ℕ)
    → ((v : SoloWorld) → lines_of_all on_console (all_needs (lines_need n v)) ≡ (lines_told n v).console)
    → lines_of_all on_console (all_needs (line_needs doing w (lines_need n))) ≡ (one_tells doing w (lines_told n)).console
one-shows None w n later = later w
one-shows (Some doing) w n later =
    let found = needs_of [] doing w in
    let rest = all_needs (lines_need n (world_after doing w)) in
    lines-append on_console found rest ∙ ap (λ x. x ++ lines_of_all on_console rest) (shown-is found ∙ needs-display [] doing w)
    ∙ ap (λ x. ((tells doing w).console ++ given_by doing w) ++ x) (later (world_after doing w))

next-shows : (keys : List Item) (w : SoloWorld) (n : ℕ)
    → ((v : SoloWorld) → lines_of_all on_console (all_needs (lines_need n v)) ≡ (lines_told n v).console)
    → lines_of_all on_console (all_needs (next_needs keys w (lines_need n))) ≡ (next_tells keys w (lines_told n)).console
next-shows [] w n later = refl
next-shows (item ∷ rest) w n later = one-shows (line_does item w.files) (record w { keys = rest }) n later

pub lines-show : (n : ℕ) (w : SoloWorld) → lines_of_all on_console (all_needs (lines_need n w)) ≡ (lines_told n w).console
lines-show zero w = refl
lines-show (suc n) w = next-shows w.keys w n (lines-show n)

-- ---- the paper
one-prints : (doing : Option Doing) (w : SoloWorld) (n : ℕ)
    → ((v : SoloWorld) → lines_of_all on_paper (all_needs (lines_need n v)) ≡ (lines_told n v).paper)
    → lines_of_all on_paper (all_needs (line_needs doing w (lines_need n))) ≡ (one_tells doing w (lines_told n)).paper
one-prints None w n later = later w
one-prints (Some doing) w n later =
    let found = needs_of [] doing w in
    let rest = all_needs (lines_need n (world_after doing w)) in
    lines-append on_paper found rest ∙ ap (λ x. x ++ lines_of_all on_paper rest) (printed-is found ∙ needs-print [] doing w)
    ∙ ap (λ x. (tells doing w).paper ++ x) (later (world_after doing w))
    ∙ ap (λ x. x ++ (lines_told n (world_after doing w)).paper) (sym (append-nil (tells doing w).paper))

next-prints : (keys : List Item) (w : SoloWorld) (n : ℕ)
    → ((v : SoloWorld) → lines_of_all on_paper (all_needs (lines_need n v)) ≡ (lines_told n v).paper)
    → lines_of_all on_paper (all_needs (next_needs keys w (lines_need n))) ≡ (next_tells keys w (lines_told n)).paper
next-prints [] w n later = refl
next-prints (item ∷ rest) w n later = one-prints (line_does item w.files) (record w { keys = rest }) n later

pub lines-print : (n : ℕ) (w : SoloWorld) → lines_of_all on_paper (all_needs (lines_need n w)) ≡ (lines_told n w).paper
lines-print zero w = refl
lines-print (suc n) w = next-prints w.keys w n (lines-print n)
