-- How many parcels each of the five puts at most for what it takes.
use Rattle.std.proofs.Common.{◌≡◌, ◌≤◌, ℕ, suc, false, List, [], ◌∷◌, length, length-append, Option, None, Some, refl, ap, arith}
use Rattle.std.specs.Prelude.{option_to_list}
use Rattle.solo_base.specs.declared.item.Item.{Item}
use Rattle.solo_base.specs.declared.item.Item.TheVariants.{Line, Spoiled}
use Rattle.solo_base.specs.declared.item.Feed.{Feed}
use Rattle.solo_base.specs.declared.item.Feed.TheVariants as feed
use Rattle.solo_base.specs.declared.page.Page.{Page}
use Rattle.page_codec.specs.Packing.{PageInHand, first_page, page_given, hand_after}
use Rattle.batch_procs.specs.Jobs.{Jobs}
use Rattle.batch_procs.specs.Parcels.{Parcel, OfFeed, OfPage, OfLine, OfLoad, handed}
use Rattle.batch_procs.specs.Sends.{feeds, as_parcels, as_lines, marked, items, packed, until_end, lines_of}
use Rattle.batch_procs.specs.Table.{card, input, printer}
use Rattle.batch_procs.specs.Ahead.{GivesAtMost}

until-length : (all : List Feed) → length (until_end all) ≤ length all
until-length [] = omega arith
until-length (feed.Item item ∷ rest) = let few = until-length rest in omega (arith, few)
until-length (feed.End ∷ rest) = omega arith

items-length : (all : List Feed) → length (items all) ≤ length all
items-length [] = omega arith
items-length (feed.Item item ∷ rest) = let few = items-length rest in omega (arith, few)
items-length (feed.End ∷ rest) = omega arith

pub lines_of-length : (xs : List Item) → length (lines_of xs) ≤ length xs
lines_of-length [] = omega arith
lines_of-length (Line line ∷ rest) = let few = lines_of-length rest in omega (arith, few)
lines_of-length (Spoiled ∷ rest) = let few = lines_of-length rest in omega (arith, few)

module _ {L : Type 0} (J : Jobs L) where
  feeds-length : (all : List (Parcel L)) → length (feeds all) ≤ length (handed all)
  feeds-length [] = omega arith
  feeds-length (OfFeed f ∷ rest) = let few = feeds-length rest in omega (arith, few)
  feeds-length (OfPage page last ∷ rest) = let few = feeds-length rest in omega (arith, few)
  feeds-length (OfLine line ∷ rest) = let few = feeds-length rest in omega (arith, few)
  feeds-length (OfLoad load ∷ rest) = feeds-length rest

  pub parcels-length : (all : List Feed) → length (as_parcels {L = L} all) ≡ length all
  parcels-length [] = refl
  parcels-length (f ∷ rest) = ap suc (parcels-length rest)

  lines-length : (all : List (List ℕ)) → length (as_lines {L = L} all) ≡ length all
  lines-length [] = refl
  lines-length (line ∷ rest) = ap suc (lines-length rest)

  given-length : (hand : PageInHand) (item : Item) → length (marked {L = L} false (option_to_list (page_given hand item))) ≤ 1
  given-length hand item = by (page_given hand item)
    where
      by : (given : Option Page) → length (marked {L = L} false (option_to_list given)) ≤ 1
      by None = omega arith
      by (Some page) = omega arith

  pub packed-length : (hand : PageInHand) (all : List Feed) → length (packed {L = L} hand all) ≤ length all
  packed-length hand [] = omega arith
  packed-length hand (feed.Item item ∷ rest) =
      let one = given-length hand item in
      let few = packed-length (hand_after hand item) rest in
      let both = length-append (marked {L = L} false (option_to_list (page_given hand item))) (packed (hand_after hand item) rest) in
      omega (arith, one, few, both)
  packed-length hand (feed.End ∷ rest) = omega arith

  pub card-bound : GivesAtMost J 1 card
  card-bound = record {
    gives = λ all good.
        let a = feeds-length all in
        let b = until-length (feeds all) in
        let c = parcels-length (until_end (feeds all)) in
        omega (arith, a, b, c);
    names = λ all parcel. omega arith;
  }

  pub input-bound : GivesAtMost J 1 input
  input-bound = record {
    gives = λ all good.
        let a = feeds-length all in
        let b = packed-length first_page (feeds all) in
        omega (arith, a, b);
    names = λ all parcel. omega arith;
  }

  pub printer-bound : GivesAtMost J 1 printer
  printer-bound = record {
    gives = λ all good.
        let a = feeds-length all in
        let b = items-length (feeds all) in
        let c = lines_of-length (items (feeds all)) in
        let d = lines-length (lines_of (items (feeds all))) in
        omega (arith, a, b, c, d);
    names = λ all parcel. omega arith;
  }
