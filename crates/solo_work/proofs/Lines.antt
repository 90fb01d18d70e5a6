-- Lines that are printed, up to the next page that is full.
use Rattle.std.proofs.Common.{◌≡◌, ℕ, zero, suc, ◌+◌, ◌≤◌, Bool, true, false, List, [], ◌∷◌, ◌++◌, length, drop, Option, None, Some, refl, sym, ◌∙◌, ap, subst, arith}
use Rattle.std.specs.Prelude.{slice_get}
use Rattle.solo_base.specs.declared.page.Page.{Page}
use Rattle.disk_layout.specs.Files.{Files}
use Rattle.exchange_law.specs.Pages.{page_with, ArePage}
use Rattle.program_task.specs.Task.{Gives, prints_all}
use Rattle.solo_task.specs.Answers.{Doing}
use Rattle.solo_task.specs.Needs.{Paused, PageNeeded, EndNeeded, Idle, GoesOn, comes_to, needs, either, fits_behind}
use Rattle.solo_work.specs.declared.paper.Paper.{Paper}
use Rattle.solo_work.specs.Paper.{IsHand, AddsLine}
use Rattle.solo_work.specs.Printing.{prints_then, PrintsAll, PrintsPage, PrintsOn}

some-same : {A : Type 0} (a b : A) → Some a ≡ Some b → a ≡ b
some-same a b e = cc

drop-next : {A : Type 0} (xs : List A) (n : ℕ) (x : A) → slice_get xs n ≡ Some x → drop n xs ≡ x ∷ drop (suc n) xs
drop-next [] n x is = absurd cc
drop-next (y ∷ xs) zero x is = ap (λ z. z ∷ xs) (some-same y x is)
drop-next (y ∷ xs) (suc n) x is = drop-next xs n x is

drop-past : {A : Type 0} (xs : List A) (n : ℕ) → length xs ≤ n → drop n xs ≡ []
drop-past [] zero past = refl
drop-past [] (suc n) past = refl
drop-past (x ∷ xs) zero past = absurd (omega (arith, past))
drop-past (x ∷ xs) (suc n) past = drop-past xs n (omega (arith, past))

-- so far no page was full
pub record SoFar (lines : List (List ℕ)) (next pages : ℕ) (hand : List (List ℕ)) (next_now : ℕ) (now : Paper) : Type 0 where
  pub hand_now : List (List ℕ)
  pub is : (all : Files) (answers : List (List ℕ))
      → comes_to hand all (prints_then lines next answers) ≡ comes_to hand_now all (prints_then lines next_now answers)
  pub hand_is : IsHand now pages hand_now

pub begins : (lines : List (List ℕ)) (next pages : ℕ) (hand : List (List ℕ)) (now : Paper) → IsHand now pages hand → SoFar lines next pages hand next now
begins lines next pages hand now is = record { hand_now = hand; is = λ all answers. refl; hand_is = is }

one : (n : ℕ) → n + 1 ≡ suc n
one n = omega arith

-- the next line
line-next : (lines : List (List ℕ)) (n : ℕ) (line : List ℕ) (answers : List (List ℕ)) → slice_get lines n ≡ Some line
    → prints_then lines n answers ≡ prints_all (line ∷ drop (n + 1) lines) (Gives answers)
line-next lines n line answers is =
    ap (λ rest. prints_all rest (Gives answers)) (drop-next lines n line is)
    ∙ ap (λ k. prints_all (line ∷ drop k lines) (Gives answers)) (sym (one n))

by-room : (hand : List (List ℕ)) (line : List ℕ) (all : Files) (later : Doing) (room : Bool) → fits_behind hand line ≡ room
    → comes_to hand all (prints_all (line ∷ []) later)
    ≡ either room (comes_to (hand ++ line ∷ []) all later) (needs (PageNeeded hand) all (GoesOn (line ∷ []) later))
by-room hand line all later room is =
    ap (λ r. either r (comes_to (hand ++ line ∷ []) all later) (needs (PageNeeded hand) all (GoesOn (line ∷ []) later))) is

pub goes-on : (lines : List (List ℕ)) (next pages : ℕ) (hand : List (List ℕ)) (n : ℕ) (before now : Paper) (line : List ℕ)
    → slice_get lines n ≡ Some line → SoFar lines next pages hand n before
    → ((pages : ℕ) (hand : List (List ℕ)) → IsHand before pages hand → AddsLine pages hand line None now) → SoFar lines next pages hand (n + 1) now
goes-on lines next pages hand n before now line is so adds =
    let (room, hand_is) = adds pages so.hand_now so.hand_is in
    record {
      hand_now = so.hand_now ++ line ∷ [];
      is = λ all answers. so.is all answers ∙ ap (comes_to so.hand_now all) (line-next lines n line answers is)
          ∙ by-room so.hand_now line all (prints_then lines (n + 1) answers) true room;
      hand_is = hand_is;
    }

pub page-full : (lines : List (List ℕ)) (next pages : ℕ) (hand : List (List ℕ)) (n : ℕ) (before now : Paper) (line : List ℕ) (page : Page)
    → slice_get lines n ≡ Some line → SoFar lines next pages hand n before
    → ((pages : ℕ) (hand : List (List ℕ)) → IsHand before pages hand → AddsLine pages hand line (Some page) now)
    → PrintsPage lines next pages hand page (n + 1) now
page-full lines next pages hand n before now line page is so adds =
    let (room, page_is, fits, hand_is) = adds pages so.hand_now so.hand_is in
    record {
      full = so.hand_now;
      begun = line ∷ [];
      is = λ all answers. so.is all answers ∙ ap (comes_to so.hand_now all) (line-next lines n line answers is)
          ∙ by-room so.hand_now line all (prints_then lines (n + 1) answers) false room;
      page_is = page_is;
      fits = fits;
      hand_is = hand_is;
    }

pub all-printed : (lines : List (List ℕ)) (next pages : ℕ) (hand : List (List ℕ)) (n : ℕ) (now : Paper) → length lines ≤ n
    → SoFar lines next pages hand n now → PrintsAll lines next pages hand now
all-printed lines next pages hand n now past so = record {
  last = so.hand_now;
  is = λ all answers. so.is all answers
      ∙ ap (λ rest. comes_to so.hand_now all (prints_all rest (Gives answers))) (drop-past lines n past);
  hand_is = so.hand_is;
}

pub none-given : (given : Option Page) → ((page : Page) → given ≡ Some page → ⊥) → given ≡ None
none-given None not_some = refl
none-given (Some page) not_some = absurd (not_some page refl)
