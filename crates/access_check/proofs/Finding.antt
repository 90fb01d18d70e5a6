-- The first right that goes backward, in two lists of rights behind each other.
use Rattle.std.proofs.Common.{◌≡◌, ◌∙◌, ℕ, ◌+◌, ◌<◌, Bool, true, false, cond, List, [], ◌∷◌, ◌++◌, length, drop, get_or, refl, sym, ap, arith}
use Rattle.std.proofs.lemmas.List.{drop_more}
use Rattle.solo_base.specs.declared.item.Item.{Item}
use Rattle.access_check.specs.declared.card.Card.{Card}
use Rattle.access_check.specs.Cards.{card_meaning}
use Rattle.std.specs.Prelude.{Option, Some, None, is_some}
use Rattle.access_check.specs.Description.{Access, rights, rights_in}
use Rattle.access_check.specs.Judgement.{or_else, is_backward, backward, backward_fault}
use Rattle.access_check.specs.declared.description.Description.{Description}
use Rattle.access_check.specs.declared.fault.AccessFault.{AccessFault}

found : (b : Bool) (a : Access) (first both : Option Access) (rest : Option AccessFault)
    → backward_fault both ≡ or_else (backward_fault first) rest
    → backward_fault (cond b (Some a) both) ≡ or_else (backward_fault (cond b (Some a) first)) rest
found true a first both rest is = refl
found false a first both rest is = is

pub backward-append : (d : Description) (front back : List Access)
    → backward_fault (backward d (front ++ back)) ≡ or_else (backward_fault (backward d front)) (backward_fault (backward d back))
backward-append d [] back = refl
backward-append d (a ∷ front) back =
    found (is_backward d a) a (backward d front) (backward d (front ++ back)) (backward_fault (backward d back)) (backward-append d front back)

-- the first that is found on a card, and else on those behind it
pub next : (d : Description) (items : List Item) (i : ℕ) (item : Item) (card : Card) (found all : Option AccessFault)
    → i < length items → item ≡ get_or items i item → card ≡ card_meaning item → found ≡ backward_fault (backward d (rights_in card))
    → all ≡ backward_fault (backward d (rights (drop i items)))
    → all ≡ or_else found (backward_fault (backward d (rights (drop (i + 1) items))))
next d items i item card found all inside is says found_is all_is =
    let here : drop i items ≡ item ∷ drop (i + 1) items = drop_more items i item inside ∙ ap (λ x. x ∷ drop (i + 1) items) (sym is) in
    all_is
    ∙ ap (λ l. backward_fault (backward d (rights l))) here
    ∙ backward-append d (rights_in (card_meaning item)) (rights (drop (i + 1) items))
    ∙ ap (λ f. or_else f (backward_fault (backward d (rights (drop (i + 1) items)))))
    (sym (found_is ∙ ap (λ k. backward_fault (backward d (rights_in k))) says))

pub first_found : (found later all : Option AccessFault) → true ≡ is_some found → all ≡ or_else found later → found ≡ all
first_found (Some fault) later all is all_is = sym all_is
first_found None later all is all_is = absurd (grind arith)

pub none_found : (found later all : Option AccessFault) → false ≡ is_some found → all ≡ or_else found later → all ≡ later
none_found (Some fault) later all is all_is = absurd (grind arith)
none_found None later all is all_is = all_is
