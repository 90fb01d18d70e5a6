-- What each deed comes to fits.
use Rattle.std.proofs.Common.{◌≡◌, ℕ, List, [], ◌∷◌, ◌++◌, Option, None, Some, Result, refl, subst}
use Rattle.std.specs.Prelude.{IfOk}
use Rattle.solo_base.specs.declared.page.Page.{Page}
use Rattle.solo_base.specs.declared.no_memory.NoMemory.{NoMemory}
use Rattle.exchange_law.proofs.Lines.{last-page}
use Rattle.solo_law.specs.Work as law
use Rattle.solo_procs.specs.declared.commands.Need.{Need}
use Rattle.solo_procs.specs.declared.commands.Need.TheVariants as needs
use Rattle.solo_procs.specs.Commands.{Comes}
use Rattle.exchange_law.specs.Pages.{last_page}
use Rattle.solo_work.specs.declared.paper.Paper.{Paper}
use Rattle.solo_work.specs.Paper.{IsHand, AddsLine}
use Rattle.solo_work.specs.Printing.{PrintsOn}
use Rattle.solo_net_tests.specs.Hands.{HasHand, ComesTo}

pub cards : (paper : Paper) (pages : ℕ) → HasHand paper pages → ComesTo pages needs.Cards paper
cards paper pages has = record { needed = law.CardsNeeded; is = tt; fits = tt; hand = has }

pub line : (paper : Paper) (pages : ℕ) → HasHand paper pages → ComesTo pages needs.Line paper
line paper pages has = record { needed = law.LineNeeded; is = tt; fits = tt; hand = has }

pub show : (paper : Paper) (line : List ℕ) (pages : ℕ) → HasHand paper pages → ComesTo pages (needs.Display line) paper
show paper line pages has = record { needed = law.DisplayNeeded line; is = refl; fits = tt; hand = has }

-- ---- a line more
abbrev Adds : Paper → List ℕ → Option Page → Paper → Type 0
Adds old line result now = (pages : ℕ) (hand : List (List ℕ)) → IsHand old pages hand → AddsLine pages hand line result now

pub row_put : (old now : Paper) (line : List ℕ) (result : Option Page) (page : Page) → Adds old line result now → result ≡ Some page
    → (pages : ℕ) → HasHand old pages → ComesTo pages (needs.Page page) now
row_put old now line result page adds e pages (hand, is) =
    let so : AddsLine pages hand line (Some page) now = subst (λ r. AddsLine pages hand line r now) e (adds pages hand is) in
    record { needed = law.PageNeeded hand; is = so.1; fits = so.2; hand = (line ∷ [], so.3) }

pub row_kept : (old now : Paper) (line shown : List ℕ) (result : Option Page) → Adds old line result now → result ≡ None
    → (pages : ℕ) → HasHand old pages → ComesTo pages (needs.Display shown) now
row_kept old now line shown result adds e pages (hand, is) =
    let so : AddsLine pages hand line None now = subst (λ r. AddsLine pages hand line r now) e (adds pages hand is) in
    show now shown pages (hand ++ line ∷ [], so.1)

-- ---- the lines of a card file
abbrev Prints : Paper → List (List ℕ) → ℕ → Option Page → ℕ → Paper → Type 0
Prints old lines next result next_now now =
    (pages : ℕ) (hand : List (List ℕ)) → IsHand old pages hand → PrintsOn lines next pages hand result next_now now

pub page_printed : (older old now : Paper) (lines : List (List ℕ)) (next next_now : ℕ) (result : Option Page) (page : Page) → old ≡ older
    → Prints old lines next result next_now now → result ≡ Some page → (pages : ℕ) → HasHand older pages
    → ComesTo pages (needs.Page page) now
page_printed older old now lines next next_now result page same prints e pages (hand, is) =
    let so : PrintsOn lines next pages hand (Some page) next_now now =
    subst (λ r. PrintsOn lines next pages hand r next_now now) e (prints pages hand (rw same is)) in
    record { needed = law.PageNeeded so.full; is = so.page_is; fits = so.fits; hand = (so.begun, so.hand_is) }

pub all_printed : (older old now after : Paper) (lines : List (List ℕ)) (next next_now : ℕ) (result : Option Page) (came : Result Need NoMemory)
    → old ≡ older → Prints old lines next result next_now now → result ≡ None
    → ((pages : ℕ) → HasHand now pages → IfOk came (λ need. ComesTo pages need after))
    → (pages : ℕ) → HasHand older pages → IfOk came (λ need. ComesTo pages need after)
all_printed older old now after lines next next_now result came same prints e on pages (hand, is) =
    let so : PrintsOn lines next pages hand None next_now now =
    subst (λ r. PrintsOn lines next pages hand r next_now now) e (prints pages hand (rw same is)) in
    on pages (so.last, so.hand_is)

-- ---- the end of a command
pub ended : (paper now : Paper) (last : Option Page) (answers : List (List ℕ))
    → ((pages : ℕ) (hand : List (List ℕ)) → IsHand paper pages hand → last ≡ last_page pages hand) → IsHand now 0 []
    → (pages : ℕ) → HasHand paper pages → ComesTo pages (needs.End last answers) now
ended paper now last answers is fresh pages (hand, has) = record {
  needed = law.EndNeeded hand answers;
  is = (is pages hand has, refl);
  fits = last-page hand (record { lines = has.lines; room = has.fits });
  hand = ([], fresh);
}

pub none_some : (plan : law.Plan) → None ≡ Some plan → ⊥
none_some plan is = cc

-- so all that the job process asks of them holds
pub comes : (now : Paper) (given : law.Given) (pages : ℕ) (need : Need) → ComesTo pages need now
    → Comes pages given (λ pages kind. HasHand now pages) (λ plan. ⊥) (λ plan. ⊥) need
comes now given pages need to = record {
  needed = to.needed;
  is = to.is;
  fits = to.fits;
  awaited = to.hand;
  planned = λ plan told. absurd told;
}
