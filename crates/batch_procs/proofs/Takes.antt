-- What one parcel more gives, by the list function of each process that takes feeds.
use Rattle.std.proofs.Common.{◌≡◌, ℕ, Bool, true, false, ◌||◌, List, [], ◌∷◌, ◌++◌, length, drop, Option, None, Some, refl, sym, ◌∙◌, ap, append_assoc}
use Rattle.std.specs.Prelude.{option_to_list}
use Rattle.solo_base.specs.declared.item.Item.{Item}
use Rattle.solo_base.specs.declared.page.Page.{Page}
use Rattle.solo_base.specs.declared.item.Item.TheVariants.{Line, Spoiled}
use Rattle.solo_base.specs.declared.item.Feed.{Feed}
use Rattle.solo_base.specs.declared.item.Feed.TheVariants as feed
use Rattle.page_codec.specs.Packing.{PageInHand, first_page, page_given, hand_after}
use Rattle.batch_procs.specs.declared.actions.Reply.{Reply}
use Rattle.batch_procs.specs.declared.actions.Reply.TheVariants as reply
use Rattle.batch_procs.specs.Parcels.{Parcel, OfFeed, OfPage, OfLine, OfLoad, is_last, is_the_end, is_ended}
use Rattle.batch_procs.specs.History.{taken_by}
use Rattle.batch_procs.specs.Process.{Process}
use Rattle.batch_procs.specs.Sends.{feeds, as_parcels, as_lines, marked, has_end, items, packed, until_end, lines_of, card_sends, input_sends, printer_sends}
use Rattle.batch_procs.specs.Table.{card, input, printer}
use Rattle.batch_procs.specs.Due.{KeepsDue, hand_of, KeepsInput}
use Rattle.batch_procs.specs.Work.{MayTake}
use Rattle.batch_procs.specs.Parts.{drop-part, part-whole}
use Rattle.batch_procs.specs.Relays.{goes-on}

or-false : (t u : Bool) → (t || u) ≡ false → u ≡ false
or-false true u e = absurd cc
or-false false u e = e

-- what has no work never comes to it
pub never-works : (X : Type 0) → true ≡ false → X
never-works X e = absurd cc

until-more : (some : List Feed) (f : Feed) → has_end some ≡ false → until_end (some ++ f ∷ []) ≡ until_end some ++ f ∷ []
until-more [] (feed.Item item) e = refl
until-more [] feed.End e = refl
until-more (feed.Item item ∷ some) f e = ap (λ fs. feed.Item item ∷ fs) (until-more some f e)
until-more (feed.End ∷ some) f e = absurd cc

or-nothing : (t : Bool) → (t || false) ≡ t
or-nothing true = refl
or-nothing false = refl

-- ---- lines
lines-more : (some more : List Item) → lines_of (some ++ more) ≡ lines_of some ++ lines_of more
lines-more [] more = refl
lines-more (Line line ∷ some) more = ap (λ ls. line ∷ ls) (lines-more some more)
lines-more (Spoiled ∷ some) more = lines-more some more

hand-behind : (some more : List Feed) (hand : PageInHand) → has_end some ≡ false → hand_of hand (some ++ more) ≡ hand_of (hand_of hand some) more
hand-behind [] more hand e = refl
hand-behind (feed.Item item ∷ some) more hand e = hand-behind some more (hand_after hand item) e
hand-behind (feed.End ∷ some) more hand e = absurd cc

module _ {L : Type 0} where
  -- ---- any process
  pub ended-more : (some more : List (Parcel L)) → is_ended some ≡ false → is_ended (some ++ more) ≡ is_ended more
  ended-more [] more e = refl
  ended-more (x ∷ some) more e = (let P : Bool → Type 0 = λ t. (t || is_ended some) ≡ false → (t || is_ended (some ++ more)) ≡ is_ended more in
      elim (is_last x) as P [ true ↦ (λ e. absurd cc) | false ↦ (λ e. ended-more some more e) ] e)

  -- where nothing is due all is put
  pub all-put : (p : Process L) (due : List (Parcel L)) (was : Bool) (taken sent : List (Parcel L)) (r : Reply L) → KeepsDue p due was taken sent false
      → MayTake p taken sent r → sent ≡ p.sends taken
  all-put p due was taken sent r keeps may = part-whole sent (p.sends taken) (due, keeps.due_is) may.nothing_due

  pub due-take : (p : Process L) (due new : List (Parcel L)) (was now : Bool) (taken sent : List (Parcel L)) (r : Reply L) → KeepsDue p due was taken sent false
      → MayTake p taken sent r → p.works ≡ false →
      p.sends (taken ++ taken_by r) ≡ p.sends taken ++ new → now ≡ is_ended (taken_by r) → KeepsDue p new now (taken ++ taken_by r) sent p.works
  due-take p due new was now taken sent r keeps may idle sends ends = record {
    idle = idle;
    due_is = ap (λ s. s ++ new) (all-put p due was taken sent r keeps may) ∙ sym sends;
    ended_is = ends ∙ sym (ended-more taken (taken_by r) may.goes_on);
  }

  pub still-going : (p : Process L) (due : List (Parcel L)) (was : Bool) (taken sent : List (Parcel L)) (r : Reply L) → KeepsDue p due was taken sent false
      → MayTake p taken sent r → was ≡ false
  still-going p due was taken sent r keeps may = keeps.ended_is ∙ may.goes_on

  -- no page is due where all is put
  pub none-due : (page : Option Page) (last was : Bool) (p : Process L) (taken sent : List (Parcel L)) (r : Reply L)
      → KeepsDue p (marked last (option_to_list page)) was taken sent false → MayTake p taken sent r → page ≡ None
  none-due None last was p taken sent r keeps may = refl
  none-due (Some page) last was p taken sent r keeps may =
      let due = OfPage page last ∷ [] in
      let none : due ≡ [] = sym (drop-part sent due) ∙ ap (drop (length sent)) keeps.due_is ∙ may.nothing_due in
      absurd cc

  -- ---- feeds
  pub feeds-more : (some : List (Parcel L)) (f : Feed) → feeds (some ++ OfFeed f ∷ []) ≡ feeds some ++ f ∷ []
  feeds-more [] f = refl
  feeds-more (OfFeed g ∷ some) f = ap (λ fs. g ∷ fs) (feeds-more some f)
  feeds-more (OfPage page last ∷ some) f = feeds-more some f
  feeds-more (OfLine line ∷ some) f = feeds-more some f
  feeds-more (OfLoad load ∷ some) f = feeds-more some f

  pub no-end : (some : List (Parcel L)) → is_ended some ≡ false → has_end (feeds some) ≡ false
  no-end [] e = refl
  no-end (OfFeed (feed.Item item) ∷ some) e = no-end some e
  no-end (OfFeed feed.End ∷ some) e = absurd cc
  no-end (OfPage page last ∷ some) e = no-end some (or-false last (is_ended some) e)
  no-end (OfLine line ∷ some) e = no-end some e
  no-end (OfLoad load ∷ some) e = no-end some e

  parcels-more : (some : List Feed) (f : Feed) → as_parcels {L = L} (some ++ f ∷ []) ≡ as_parcels some ++ OfFeed f ∷ []
  parcels-more [] f = refl
  parcels-more (g ∷ some) f = ap (λ ps. OfFeed g ∷ ps) (parcels-more some f)

  pub card-more : (taken : List (Parcel L)) (f : Feed) → is_ended taken ≡ false → card_sends (taken ++ OfFeed f ∷ []) ≡ card_sends taken ++ OfFeed f ∷ []
  card-more taken f e =
      ap (λ fs. as_parcels (until_end fs)) (feeds-more taken f) ∙ ap as_parcels (until-more (feeds taken) f (no-end taken e))
      ∙ parcels-more (until_end (feeds taken)) f

  -- what the card process keeps of a card
  pub card-takes : (due : List (Parcel L)) (was now : Bool) (taken sent : List (Parcel L)) (r : Reply L) (f : Feed) → taken_by r ≡ OfFeed f ∷ []
      → now ≡ is_the_end f
      → KeepsDue card due was taken sent false → MayTake card taken sent r → KeepsDue card (OfFeed f ∷ []) now (taken ++ taken_by r) sent false
  card-takes due was now taken sent r f is ends keeps may =
      due-take card due (OfFeed f ∷ []) was now taken sent r keeps may refl (ap (λ x. card_sends (taken ++ x)) is ∙ card-more taken f may.goes_on) (ends
      ∙ sym (ap is_ended is ∙ or-nothing (is_the_end f)))

  as_lines-more : (some more : List (List ℕ)) → as_lines {L = L} (some ++ more) ≡ as_lines some ++ as_lines more
  as_lines-more [] more = refl
  as_lines-more (line ∷ some) more = ap (λ ps. OfLine line ∷ ps) (as_lines-more some more)

  pub printer-more : (taken : List (Parcel L)) (f : Feed) → is_ended taken ≡ false
      → printer_sends (taken ++ OfFeed f ∷ []) ≡ printer_sends taken ++ as_lines (lines_of (items (f ∷ [])))
  printer-more taken f e =
      ap (λ fs. as_lines (lines_of (items fs))) (feeds-more taken f)
      ∙ ap (λ xs. as_lines (lines_of xs)) (goes-on (feeds taken) (f ∷ []) (no-end taken e)).items_are
      ∙ ap as_lines (lines-more (items (feeds taken)) (items (f ∷ [])))
      ∙ as_lines-more (lines_of (items (feeds taken))) (lines_of (items (f ∷ [])))

  -- ---- pages of an input
  pub packed-more : (some more : List Feed) (hand : PageInHand) → has_end some ≡ false
      → packed {L = L} hand (some ++ more) ≡ packed hand some ++ packed (hand_of hand some) more
  packed-more [] more hand e = refl
  packed-more (feed.Item item ∷ some) more hand e =
      ap (λ ps. marked false (option_to_list (page_given hand item)) ++ ps) (packed-more some more (hand_after hand item) e)
      ∙ sym (append_assoc (marked false (option_to_list (page_given hand item))) (packed (hand_after hand item) some)
      (packed (hand_of (hand_after hand item) some) more))
  packed-more (feed.End ∷ some) more hand e = absurd cc

  pub input-more : (taken : List (Parcel L)) (f : Feed) → is_ended taken ≡ false
      → input_sends (taken ++ OfFeed f ∷ []) ≡ input_sends taken ++ packed (hand_of first_page (feeds taken)) (f ∷ [])
  input-more taken f e = ap (packed first_page) (feeds-more taken f) ∙ packed-more (feeds taken) (f ∷ []) first_page (no-end taken e)

  -- ---- what they keep
  pub printer-takes : (due new : List (Parcel L)) (was now : Bool) (taken sent : List (Parcel L)) (r : Reply L) (f : Feed) → r ≡ reply.Feed f
      → new ≡ as_lines (lines_of (items (f ∷ []))) → now ≡ is_the_end f →
      KeepsDue printer due was taken sent false → MayTake printer taken sent r → KeepsDue printer new now (taken ++ taken_by r) sent false
  printer-takes due new was now taken sent r f is gives ends keeps may =
      due-take printer due new was now taken sent r keeps may refl
      (ap (λ r. printer_sends (taken ++ taken_by r)) is ∙ printer-more taken f may.goes_on ∙ ap (λ ps. printer_sends taken ++ ps) (sym gives))
      (ends ∙ sym (ap (λ r. is_ended (taken_by r)) is ∙ or-nothing (is_the_end f)))

  pub input-takes : (due new : List (Parcel L)) (was now : Bool) (hand then_hand : PageInHand) (taken sent : List (Parcel L)) (r : Reply L) (f : Feed)
      → r ≡ reply.Feed f
      → KeepsInput due was hand taken sent false → MayTake input taken sent r →
      new ≡ packed hand (f ∷ []) → now ≡ is_the_end f → (now ≡ false → then_hand ≡ hand_of hand (f ∷ []))
      → KeepsInput new now then_hand (taken ++ taken_by r) sent false
  input-takes due new was now hand then_hand taken sent r f is keeps may gives ends after =
      let going = still-going input due was taken sent r keeps.keeps may in
      let hand-is = keeps.hand going in
      record {
        keeps = due-take input due new was now taken sent r keeps.keeps may refl
            (ap (λ r. input_sends (taken ++ taken_by r)) is ∙ input-more taken f may.goes_on ∙ ap (λ h. input_sends taken ++ packed h (f ∷ [])) (sym hand-is)
            ∙ ap (λ ps. input_sends taken ++ ps) (sym gives))
            (ends ∙ sym (ap (λ r. is_ended (taken_by r)) is ∙ or-nothing (is_the_end f)));
        hand = λ goes_on.
            after goes_on ∙ ap (λ h. hand_of h (f ∷ [])) hand-is
            ∙ sym (hand-behind (feeds taken) (f ∷ []) first_page (no-end taken may.goes_on)) ∙ ap (hand_of first_page) (sym (feeds-more taken f))
            ∙ ap (λ r. hand_of first_page (feeds (taken ++ taken_by r))) (sym is);
      }
