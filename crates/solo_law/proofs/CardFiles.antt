-- What the input process puts for the card files of a deck: the pages of each and its report, in order.
use Rattle.std.proofs.Common.{◌≡◌, ℕ, zero, suc, Bool, true, false, if◌then◌else◌, List, [], ◌∷◌, ◌++◌, refl, sym, ◌∙◌, ap}
use Rattle.solo_base.specs.declared.item.Item.{Item}
use Rattle.solo_base.specs.declared.item.Item.TheVariants.{Line, Spoiled}
use Rattle.solo_base.specs.declared.page.Page.{Page}
use Rattle.solo_base.specs.declared.system_call.Arg.{Arg}
use Rattle.solo_base.specs.declared.system_call.Arg.TheVariants as arg
use Rattle.solo_devices.specs.declared.card_read.CardRead.TheVariants as read
use Rattle.deck_format.specs.Jobs.{is_end}
use Rattle.page_codec.specs.Items.{AreItems}
use Rattle.exchange_law.specs.Pages.{has_room_for, page_with, pages_of}
use Rattle.exchange_law.proofs.Lines.{AreLines}
use Rattle.solo_needs.specs.Handing.{file_cards, file_sound, behind_file}
use Rattle.solo_law.specs.InputPlaces.{InputPlace, packs, closes_file, behind_card}
use Rattle.solo_law.specs.InputPlaces as at

-- ---- the pages and the reports of so many card files
abbrev pub pages_from : ℕ → List Item → List Page
pages_from zero cards = []
pages_from (suc n) cards = pages_of 0 [] (file_cards true cards) ++ pages_from n (behind_file cards)

abbrev pub reports_from : ℕ → List Item → List Arg
reports_from zero cards = []
reports_from (suc n) cards = arg.Bool (file_sound true cards) ∷ reports_from n (behind_file cards)

-- ---- what is ahead of the input process, where so many more orders come
abbrev pub pages_ahead : InputPlace → List Item → ℕ → List Page
pages_ahead (at.Reads pages hand sound) cards n = pages_of pages hand (file_cards sound cards) ++ pages_from n (behind_file cards)
pages_ahead (at.PutsFull page pages hand) cards n = page ∷ (pages_of pages hand (file_cards true cards) ++ pages_from n (behind_file cards))
pages_ahead (at.PutsLast page sound) cards n = page ∷ pages_from n cards
pages_ahead other cards n = pages_from n cards

abbrev pub reports_ahead : InputPlace → List Item → ℕ → List Arg
reports_ahead (at.Reads pages hand sound) cards n = arg.Bool (file_sound sound cards) ∷ reports_from n (behind_file cards)
reports_ahead (at.PutsFull page pages hand) cards n = arg.Bool (file_sound true cards) ∷ reports_from n (behind_file cards)
reports_ahead (at.PutsLast page sound) cards n = arg.Bool sound ∷ reports_from n cards
reports_ahead (at.Reports sound) cards n = arg.Bool sound ∷ reports_from n cards
reports_ahead other cards n = reports_from n cards

-- ---- one card
-- what is ahead of one that reads is what is ahead of it behind the card
pub record Reading (pages : ℕ) (hand : List (List ℕ)) (sound : Bool) (cards : List Item) (n : ℕ) (a : InputPlace) (left : List Item) : Type 0 where
  pub pages_are : pages_of pages hand (file_cards sound cards) ++ pages_from n (behind_file cards) ≡ pages_ahead a left n
  pub reports_are : arg.Bool (file_sound sound cards) ∷ reports_from n (behind_file cards) ≡ reports_ahead a left n

pub reads-end : (pages : ℕ) (hand : List (List ℕ)) (sound : Bool) (n : ℕ) → Reading pages hand sound [] n (closes_file pages hand sound) []
reads-end pages hand sound n = record { pages_are = refl; reports_are = refl }

pub reads-spoiled : (pages : ℕ) (hand : List (List ℕ)) (sound : Bool) (rest : List Item) (n : ℕ)
    → Reading pages hand sound (Spoiled ∷ rest) n (at.Reads pages hand false) rest
reads-spoiled pages hand true rest n = record { pages_are = refl; reports_are = refl }
reads-spoiled pages hand false rest n = record { pages_are = refl; reports_are = refl }

packs-line : (pages : ℕ) (hand : List (List ℕ)) (line : List ℕ) (lines : List (List ℕ)) (rest : List Item) (n : ℕ) → file_cards true rest ≡ lines
    → pages_of pages hand (line ∷ lines) ++ pages_from n (behind_file rest) ≡ pages_ahead (packs pages hand line) rest n
packs-line pages hand line lines rest n e =
    let P : Bool → Type 0 = λ t. (if t then pages_of pages (hand ++ line ∷ []) lines else page_with pages false hand ∷ pages_of (suc pages) (line ∷ []) lines)
    ++ pages_from n (behind_file rest)
    ≡ pages_ahead (if t then at.Reads pages (hand ++ line ∷ []) true else at.PutsFull (page_with pages false hand) (suc pages) (line ∷ [])) rest n in
    elim (has_room_for hand line) as P [
      | true ↦ ap (λ lines. pages_of pages (hand ++ line ∷ []) lines ++ pages_from n (behind_file rest)) (sym e)
      | false ↦ ap (λ lines. page_with pages false hand ∷ (pages_of (suc pages) (line ∷ []) lines ++ pages_from n (behind_file rest))) (sym e)
    ]

packs-report : (pages : ℕ) (hand : List (List ℕ)) (line : List ℕ) (rest : List Item) (n : ℕ)
    → arg.Bool (file_sound true rest) ∷ reports_from n (behind_file rest) ≡ reports_ahead (packs pages hand line) rest n
packs-report pages hand line rest n =
    elim (has_room_for hand line) as (λ t. arg.Bool (file_sound true rest) ∷ reports_from n (behind_file rest)
    ≡ reports_ahead (if t then at.Reads pages (hand ++ line ∷ []) true else at.PutsFull (page_with pages false hand) (suc pages) (line ∷ [])) rest n) [
      | true ↦ refl
      | false ↦ refl
    ]

pub reads-line : (pages : ℕ) (hand : List (List ℕ)) (sound : Bool) (line : List ℕ) (rest : List Item) (n : ℕ)
    → Reading pages hand sound (Line line ∷ rest) n (behind_card pages hand sound (read.Card line)) rest
reads-line pages hand true line rest n =
    let P : Bool → Type 0 = λ t. is_end (Line line) ≡ t
    → Reading pages hand true (Line line ∷ rest) n (if t then closes_file pages hand true else packs pages hand line) rest in
    elim (is_end (Line line)) as P [
      | true ↦ (λ e. record {
        pages_are = ap (λ t. pages_of pages hand (if t then [] else line ∷ file_cards true rest) ++ pages_from n (if t then rest else behind_file rest)) e;
        reports_are = ap (λ t. arg.Bool (if t then true else file_sound true rest) ∷ reports_from n (if t then rest else behind_file rest)) e;
      })
      | false ↦ (λ e. record {
        pages_are = ap (λ t. pages_of pages hand (if t then [] else line ∷ file_cards true rest) ++ pages_from n (if t then rest else behind_file rest)) e
            ∙ packs-line pages hand line (file_cards true rest) rest n refl;
        reports_are = ap (λ t. arg.Bool (if t then true else file_sound true rest) ∷ reports_from n (if t then rest else behind_file rest)) e
            ∙ packs-report pages hand line rest n;
      })
    ] refl
reads-line pages hand false line rest n =
    let P : Bool → Type 0 = λ t. is_end (Line line) ≡ t
    → Reading pages hand false (Line line ∷ rest) n (if t then closes_file pages hand false else at.Reads pages hand false) rest in
    elim (is_end (Line line)) as P [
      | true ↦ (λ e. record {
        pages_are = ap (λ t. pages_of pages hand (if t then [] else file_cards false rest) ++ pages_from n (if t then rest else behind_file rest)) e;
        reports_are = ap (λ t. arg.Bool (if t then false else file_sound false rest) ∷ reports_from n (if t then rest else behind_file rest)) e;
      })
      | false ↦ (λ e. record {
        pages_are = ap (λ t. pages_of pages hand (if t then [] else file_cards false rest) ++ pages_from n (if t then rest else behind_file rest)) e;
        reports_are = ap (λ t. arg.Bool (if t then false else file_sound false rest) ∷ reports_from n (if t then rest else behind_file rest)) e;
      })
    ] refl

-- ---- the cards of a deck are lines
pub file-valid : (sound : Bool) (cards : List Item) → AreItems cards → AreLines (file_cards sound cards)
file-valid sound [] are = tt
file-valid true (Line line ∷ rest) are =
    elim (is_end (Line line)) as (λ t. AreLines (if t then [] else line ∷ file_cards true rest)) [ true ↦ tt | false ↦ (are.0, file-valid true rest are.1) ]
file-valid false (Line line ∷ rest) are =
    elim (is_end (Line line)) as (λ t. AreLines (if t then [] else file_cards false rest)) [ true ↦ tt | false ↦ file-valid false rest are.1 ]
file-valid true (Spoiled ∷ rest) are = file-valid false rest are.1
file-valid false (Spoiled ∷ rest) are = file-valid false rest are.1

pub behind-valid : (cards : List Item) → AreItems cards → AreItems (behind_file cards)
behind-valid [] are = tt
behind-valid (item ∷ rest) are =
    elim (is_end item) as (λ t. AreItems (if t then rest else behind_file rest)) [ true ↦ are.1 | false ↦ behind-valid rest are.1 ]
