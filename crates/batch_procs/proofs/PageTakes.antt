-- What one page more gives.
use Rattle.std.proofs.Common.{◌≡◌, ℕ, ◌+◌, ◌%◌, ◌^◌, Bool, true, false, ◌||◌, List, [], ◌∷◌, ◌++◌, length, Option, None, Some, Ok, Err, refl, sym, ◌∙◌, ap, append_assoc, arith}
use Rattle.std.specs.Prelude.{map, option_to_list}
use Rattle.solo_base.specs.declared.item.Item.{Item}
use Rattle.solo_base.specs.declared.item.Item.TheVariants.{Line, Spoiled}
use Rattle.solo_base.specs.declared.item.Feed.{Feed}
use Rattle.solo_base.specs.declared.item.Feed.TheVariants as feed
use Rattle.solo_base.specs.declared.outcome.Cause.{Cause}
use Rattle.solo_base.specs.declared.outcome.Outcome.TheVariants as outcome
use Rattle.solo_base.specs.declared.page.Page.{Page}
use Rattle.page_codec.specs.declared.judge.BadPage.{BadPage}
use Rattle.page_codec.specs.Reading.{PageContent, page_read}
use Rattle.page_codec.specs.Stream.{Awaited, awaited_after}
use Rattle.batch_procs.specs.Parcels.{Parcel, OfFeed, OfPage, OfLine, OfLoad, is_ended, pages}
use Rattle.batch_procs.specs.Sends.{as_parcels, has_end, items, stream, end_if, items_then, behind, unpacked_by, unpacked, lines_of, lines_stream, output_lines, output_sends}
use Rattle.batch_procs.specs.declared.actions.Action.TheVariants as act
use Rattle.batch_procs.specs.declared.actions.Reply.{Reply}
use Rattle.batch_procs.specs.declared.actions.Reply.TheVariants as reply
use Rattle.batch_procs.specs.History.{taken_by}
use Rattle.batch_procs.specs.Causes.{damage}
use Rattle.batch_procs.specs.Work.{cause_of, IsHanded, MayTake}
use Rattle.batch_procs.specs.Table.{output}
use Rattle.batch_procs.specs.Pages.{damaged, ReadsOn, KeepsOutput}
use Rattle.batch_procs.proofs.Takes.{due-take}
use Rattle.batch_procs.specs.Relays.{goes-on}

-- ---- the items of a page behind those before it
then-append : (xs : List Item) (rest : List Feed) → items_then xs rest ≡ items_then xs [] ++ rest
then-append [] rest = refl
then-append (x ∷ xs) rest = ap (λ fs. feed.Item x ∷ fs) (then-append xs rest)

pub then-items : (xs : List Item) (t : Bool) → items (items_then xs (end_if t)) ≡ xs
then-items [] true = refl
then-items [] false = refl
then-items (x ∷ xs) t = ap (λ is. x ∷ is) (then-items xs t)

pub then-end : (xs : List Item) (t : Bool) → has_end (items_then xs (end_if t)) ≡ t
then-end [] true = refl
then-end [] false = refl
then-end (x ∷ xs) t = then-end xs t

behind-nothing : (t : Bool) → behind t [] ≡ end_if t
behind-nothing true = refl
behind-nothing false = refl

-- where the last page was taken the process takes none
pub none-behind : (t u : Bool) (X : Type 0) → t ≡ true → t ≡ u → u ≡ false → X
none-behind t u X on same off = absurd cc

counts-on : (place n m : ℕ) → place ≡ n % 2 ^ 16 → m ≡ n + 1 → (place + 1) % 2 ^ 16 ≡ m % 2 ^ 16
counts-on place n m is more = omega (arith, is, more)

-- ---- the lines of an output
stream-append : (xs ys : List Item) (t : Bool) → stream (xs ++ ys) t ≡ stream xs false ++ stream ys t
stream-append [] ys t = refl
stream-append (x ∷ xs) ys t = ap (λ fs. feed.Item x ∷ fs) (stream-append xs ys t)

map-append : (xs ys : List (List ℕ)) → map Line (xs ++ ys) ≡ map Line xs ++ map Line ys
map-append [] ys = refl
map-append (x ∷ xs) ys = ap (λ is. Line x ∷ is) (map-append xs ys)

lines-append : (xs ys : List Item) → lines_of (xs ++ ys) ≡ lines_of xs ++ lines_of ys
lines-append [] ys = refl
lines-append (Line line ∷ xs) ys = ap (λ ls. line ∷ ls) (lines-append xs ys)
lines-append (Spoiled ∷ xs) ys = lines-append xs ys

output-goes : (all more : List Feed) → has_end all ≡ false → output_lines (all ++ more) ≡ output_lines all ++ output_lines more
output-goes all more e =
    let on = goes-on all more e in
    ap (λ t. lines_stream (lines_of (items (all ++ more))) t) on.end_is
    ∙ ap (λ is. lines_stream (lines_of is) (has_end more)) on.items_are
    ∙ ap (λ ls. lines_stream ls (has_end more)) (lines-append (items all) (items more))
    ∙ ap (λ is. stream is (has_end more)) (map-append (lines_of (items all)) (lines_of (items more)))
    ∙ stream-append (map Line (lines_of (items all))) (map Line (lines_of (items more))) (has_end more)
    ∙ ap (λ t. stream (map Line (lines_of (items all))) t ++ output_lines more) (sym e)

or-nothing : (t : Bool) → (t || false) ≡ t
or-nothing true = refl
or-nothing false = refl

module _ {L : Type 0} where
  pub reads-first : ReadsOn {L = L} 0 []
  reads-first = record { counted = refl; goes_on = λ rest. refl; no_end = refl }

  -- a page in order adds its items, and the end where it is the last
  pub page-more : (place : ℕ) (taken : List (Parcel L)) (page : Page) (last : Bool) (content : PageContent) → ReadsOn place taken
      → page_read place last page ≡ Ok content →
      unpacked 0 (taken ++ OfPage page last ∷ []) ≡ unpacked 0 taken ++ items_then content.items (end_if last)
  page-more place taken page last content reads is =
      reads.goes_on (OfPage page last ∷ [])
      ∙ ap (λ r. unpacked 0 taken ++ unpacked_by r last []) is
      ∙ ap (λ fs. unpacked 0 taken ++ items_then content.items fs) (behind-nothing last)

  pages-more : (taken : List (Parcel L)) (page : Page) (last : Bool) → length (pages (taken ++ OfPage page last ∷ [])) ≡ length (pages taken) + 1
  pages-more [] page last = refl
  pages-more (OfPage first mark ∷ taken) page last = let rest = pages-more taken page last in omega (arith, rest)
  pages-more (OfFeed f ∷ taken) page last = pages-more taken page last
  pages-more (OfLine line ∷ taken) page last = pages-more taken page last
  pages-more (OfLoad load ∷ taken) page last = pages-more taken page last

  -- and then the next page is awaited
  pub reads-more : (place : ℕ) (taken : List (Parcel L)) (page : Page) (content : PageContent) → ReadsOn place taken → page_read place false page ≡ Ok content
      → ReadsOn ((place + 1) % 2 ^ 16) (taken ++ OfPage page false ∷ [])
  reads-more place taken page content reads is =
      let before = page-more place taken page false content reads is in
      record {
        counted = counts-on place (length (pages taken)) (length (pages (taken ++ OfPage page false ∷ []))) reads.counted (pages-more taken page false);
        goes_on = λ rest.
            ap (unpacked 0) (append_assoc taken (OfPage page false ∷ []) rest)
            ∙ reads.goes_on (OfPage page false ∷ rest)
            ∙ ap (λ r. unpacked 0 taken ++ unpacked_by r false (unpacked ((place + 1) % 2 ^ 16) rest)) is
            ∙ ap (λ fs. unpacked 0 taken ++ fs) (then-append content.items (unpacked ((place + 1) % 2 ^ 16) rest))
            ∙ sym (append_assoc (unpacked 0 taken) (items_then content.items []) (unpacked ((place + 1) % 2 ^ 16) rest))
            ∙ ap (λ fs. fs ++ unpacked ((place + 1) % 2 ^ 16) rest) (sym before);
        no_end = ap has_end before ∙ (goes-on (unpacked 0 taken) (items_then content.items []) reads.no_end).end_is ∙ then-end content.items false;
      }

  pub parcels-append : (xs ys : List Feed) → as_parcels {L = L} (xs ++ ys) ≡ as_parcels xs ++ as_parcels ys
  parcels-append [] ys = refl
  parcels-append (x ∷ xs) ys = ap (λ ps. OfFeed x ∷ ps) (parcels-append xs ys)

  pub output-more : (place : ℕ) (taken : List (Parcel L)) (page : Page) (last : Bool) (content : PageContent) → ReadsOn place taken
      → page_read place last page ≡ Ok content →
      output_sends (taken ++ OfPage page last ∷ []) ≡ output_sends taken ++ as_parcels (lines_stream (lines_of content.items) last)
  output-more place taken page last content reads is =
      ap (λ all. as_parcels (output_lines all)) (page-more place taken page last content reads is)
      ∙ ap as_parcels (output-goes (unpacked 0 taken) (items_then content.items (end_if last)) reads.no_end)
      ∙ parcels-append (output_lines (unpacked 0 taken)) (output_lines (items_then content.items (end_if last)))
      ∙ ap (λ t. output_sends taken ++ as_parcels (lines_stream (lines_of (items (items_then content.items (end_if last)))) t)) (then-end content.items last)
      ∙ ap (λ is. output_sends taken ++ as_parcels (lines_stream (lines_of is) last)) (then-items content.items last)

  -- ---- what the output process keeps
  pub no-damage : (place : ℕ) (taken : List (Parcel L)) (page : Page) (last : Bool) (content : PageContent) (r : Reply L) → r ≡ reply.Page page last
      → ReadsOn place taken → page_read place last page ≡ Ok content → None ≡ cause_of r taken
  no-damage place taken page last content r is reads read =
      sym (ap (λ r. cause_of r taken) is ∙ ap (λ n. damage (page_read n last page)) (sym reads.counted) ∙ ap damage read)

  -- a page that isn't the one that was expected gives its cause
  pub is-damaged : (place : ℕ) (taken : List (Parcel L)) (page : Page) (last : Bool) (bad : BadPage) (cause : Cause) (r : Reply L) → r ≡ reply.Page page last
      → ReadsOn place taken → page_read place last page ≡ Err bad → cause ≡ damaged bad → Some (outcome.Fault cause) ≡ cause_of r taken
  is-damaged place taken page last bad cause r is reads read e =
      ap (λ c. Some (outcome.Fault c)) e
      ∙ sym (ap (λ r. cause_of r taken) is ∙ ap (λ n. damage (page_read n last page)) (sym reads.counted) ∙ ap damage read)

  -- and any other reply is none to a take of a page
  pub no-page : (r : Reply L) → ((page : Page) (last : Bool) → r ≡ reply.Page page last → ⊥) → IsHanded act.TakePage r → ⊥
  no-page (reply.Page page last) not handed = not page last refl
  no-page r not handed = handed

  pub reads-behind : (place : ℕ) (taken : List (Parcel L)) (page : Page) (last : Bool) (content : PageContent) → ReadsOn place taken
      → page_read place last page ≡ Ok content → last ≡ false → ReadsOn ((place + 1) % 2 ^ 16) (taken ++ OfPage page last ∷ [])
  reads-behind place taken page true content reads is none = absurd cc
  reads-behind place taken page false content reads is none = reads-more place taken page content reads is

  pub output-takes : (was now : Awaited) (due then_due : Option Feed) (left then_left : List Feed) (taken sent : List (Parcel L)) (r : Reply L) (page : Page)
      (last : Bool) (content : PageContent) →
      r ≡ reply.Page page last → was.ended ≡ false → page_read was.place last page ≡ Ok content → now ≡ awaited_after was last (Ok content) →
      lines_stream (lines_of content.items) last ≡ option_to_list then_due ++ then_left → (then_due ≡ None → then_left ≡ []) →
      KeepsOutput was due left taken sent false → MayTake output taken sent r →
      (None ≡ cause_of r taken) × (KeepsOutput now then_due then_left (taken ++ taken_by r) sent false)
  output-takes was now due then_due left then_left taken sent r page last content is goes_on read after gives front keeps may =
      let reads = keeps.reads goes_on in (
        no-damage was.place taken page last content r is reads read,
        rw after record {
          keeps =
              due-take output (as_parcels (option_to_list due ++ left)) (as_parcels (option_to_list then_due
              ++ then_left)) was.ended last taken sent r keeps.keeps may refl
              (ap (λ r. output_sends (taken ++ taken_by r)) is ∙ output-more was.place taken page last content reads read
              ∙ ap (λ fs. output_sends taken ++ as_parcels fs) gives)
              (sym (ap (λ r. is_ended (taken_by r)) is ∙ or-nothing last));
          front = front;
          reads = λ none. rw is (reads-behind was.place taken page last content reads read none);
        },
      )
