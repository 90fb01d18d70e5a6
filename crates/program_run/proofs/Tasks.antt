-- From need to need: where a task goes on, and which files it passes.
use Rattle.std.proofs.Common.{◌≡◌, inl, inr, ℕ, true, false, List, [], ◌∷◌, ◌++◌, Option, Some, refl, sym, ◌∙◌, ap, subst, append_assoc}
use Rattle.disk_layout.specs.Files.{Files, files}
use Rattle.program_task.specs.Task.{Prints, Changes}
use Rattle.solo_task.specs.Answers.{Doing}
use Rattle.solo_task.specs.Laws.{last_of}
use Rattle.solo_task.specs.Needs.{Paused, PageNeeded, GoesOn, comes_to, needs, either, fits_behind}
use Rattle.session_law.specs.Passing.{IsAmong}
use Rattle.program_run.specs.Sight.{Sight, IsLeftOf}
use Rattle.program_run.specs.Work.{Reaches, passes_all}

-- it goes on from here
pub record GoesTo (hand : List (List ℕ)) (all : Files) (doing : Doing) (now : Sight) (hand_now : List (List ℕ)) (after : Option (List (List ℕ))) : Type 0 where
  pub later : Doing
  pub reaches : Reaches hand all doing hand_now later after
  pub left : IsLeftOf now (files reaches.pages) later

-- ---- Files

pub last-append : (first : Files) (some more : List Files) → last_of first (some ++ more) ≡ last_of (last_of first some) more
last-append first [] more = refl
last-append first (next ∷ some) more = last-append next some more

among-more : (all first : Files) (some more : List Files) → all ≡ last_of first some → IsAmong all first (some ++ more)
among-more all first [] [] is = is
among-more all first [] (next ∷ more) is = inl is
among-more all first (next ∷ some) more is = inr (among-more all next some more is)

-- the files here are some of those that the whole task passes
pub are-passed : (hand : List (List ℕ)) (all : Files) (doing : Doing) (now : Sight) (hand_now : List (List ℕ)) (after : Option (List (List ℕ)))
    → GoesTo hand all doing now hand_now after
    → (left : List (List ℕ)) × (after ≡ Some left) × IsAmong (files left) all (comes_to hand all doing).maps
are-passed hand all doing now hand_now after g =
    let r = g.reaches in (
      r.pages,
      r.told,
      subst (λ c. IsAmong (files r.pages) all c.maps) (sym r.comes)
          (among-more (files r.pages) all r.maps (comes_to hand_now (files r.pages) g.later).maps r.last),
    )

-- ---- One after the other

pub passes-append : (some more : List Files) (c : Paused) → passes_all some (passes_all more c) ≡ passes_all (some ++ more) c
passes-append some more c = ap (λ maps. record c { maps = maps }) (sym (append_assoc some more c.maps))

abbrev pub then-reaches : (hand : List (List ℕ)) (all : Files) (doing : Doing) (mid : Sight) (hand_mid : List (List ℕ)) (middle : Option (List (List ℕ)))
    (g : GoesTo hand all doing mid hand_mid middle) (hand_now : List (List ℕ)) (later : Doing) (after : Option (List (List ℕ)))
    → Reaches hand_mid (files g.reaches.pages) g.later hand_now later after → Reaches hand all doing hand_now later after
then-reaches hand all doing mid hand_mid middle g hand_now later after r =
    let first = g.reaches in
    record {
      pages = r.pages;
      told = r.told;
      maps = first.maps ++ r.maps;
      last = r.last ∙ ap (λ a. last_of a r.maps) first.last ∙ sym (last-append all first.maps r.maps);
      comes = first.comes ∙ ap (passes_all first.maps) r.comes ∙ passes-append first.maps r.maps (comes_to hand_now (files r.pages) later);
    }

-- ---- What a task does first

abbrev pub here : (hand : List (List ℕ)) (doing : Doing) (pages : List (List ℕ)) (all : Files) (after : Option (List (List ℕ))) → after ≡ Some pages → all ≡ files pages
    → Reaches hand all doing hand doing after
here hand doing pages all after told same =
    record { pages = pages; told = told; maps = []; last = sym same; comes = ap (λ a. comes_to hand a doing) same }

abbrev pub changing : (hand : List (List ℕ)) (all : Files) (doing later : Doing) (pages : List (List ℕ)) (after : Option (List (List ℕ))) → after ≡ Some pages
    → doing ≡ Changes (files pages) later → Reaches hand all doing hand later after
changing hand all doing later pages after told is =
    record { pages = pages; told = told; maps = files pages ∷ []; last = refl; comes = ap (comes_to hand all) is }

abbrev pub on-page : (hand : List (List ℕ)) (line : List ℕ) (doing later : Doing) (pages : List (List ℕ)) (after : Option (List (List ℕ))) → after ≡ Some pages
    → fits_behind hand line ≡ true → doing ≡ Prints line later → Reaches hand (files pages) doing (hand ++ line ∷ []) later after
on-page hand line doing later pages after told room is =
    record {
      pages = pages;
      told = told;
      maps = [];
      last = refl;
      comes = ap (comes_to hand (files pages)) is
          ∙ ap (λ b. either b (comes_to (hand ++ line ∷ []) (files pages) later) (needs (PageNeeded hand) (files pages) (GoesOn (line ∷ []) later))) room;
    }

pub full-page : (hand : List (List ℕ)) (line : List ℕ) (doing later : Doing) (all : Files) → fits_behind hand line ≡ false → doing ≡ Prints line later
    → comes_to hand all doing ≡ needs (PageNeeded hand) all (GoesOn (line ∷ []) later)
full-page hand line doing later all room is =
    ap (comes_to hand all) is ∙ ap (λ b. either b (comes_to (hand ++ line ∷ []) all later) (needs (PageNeeded hand) all (GoesOn (line ∷ []) later))) room
