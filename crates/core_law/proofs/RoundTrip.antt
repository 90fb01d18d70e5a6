-- What is packed is read back, so the five list functions give the lines of the whole deck.
use Rattle.std.proofs.Common.{◌≡◌, ℕ, ◌+◌, ◌%◌, ◌^◌, ◌≤◌, Bool, true, false, List, [], ◌∷◌, ◌++◌, map, length, Result, Ok, refl, sym, ◌∙◌, ap, subst, append_assoc, arith}
use Rattle.std.specs.Prelude.{option_to_list}
use Rattle.std.proofs.lemmas.List.{append-nil, length-map}
use Rattle.std.specs.List.{AllByRecursion}
use Rattle.solo_base.specs.declared.item.Item.{Item}
use Rattle.solo_base.specs.declared.item.Item.TheVariants.{Line}
use Rattle.solo_base.specs.declared.item.Feed.{Feed}
use Rattle.solo_base.specs.declared.item.Feed.TheVariants as feed
use Rattle.solo_base.specs.declared.page.Page.{Page}
use Rattle.solo_base.specs.Line.{IsLine}
use Rattle.solo_base.specs.Text.{text, line_text}
use Rattle.page_codec.specs.Items.{items_bytes, AreItems}
use Rattle.page_codec.specs.Form.{page_of, IsPage}
use Rattle.page_codec.specs.Packing.{PageInHand, first_page, page_given, hand_after, HasPacked}
use Rattle.page_codec.specs.Reading.{PageContent, page_read}
use Rattle.page_codec.specs.declared.judge.BadPage.{BadPage}
use Rattle.page_codec.specs.Stream.{IsStream}
use Rattle.page_codec.proofs.Pages.{nothing_wrong_again, items_again}
use Rattle.page_codec.proofs.Taking.{read_taken}
use Rattle.page_codec.proofs.Cutting.{page_of-same, packing_goes_on, pages_are_a_stream}
use Rattle.batch_procs.specs.Parcels.{Parcel, OfPage}
use Rattle.batch_procs.specs.Sends.{feeds, as_parcels, marked, packed, items_then, unpacked_by, unpacked, items, has_end, stream, lines_of, lines_stream, job_lines, output_lines, as_lines, card_sends, input_sends, output_sends, printer_sends}
use Rattle.core_law.proofs.HandedLists.{job_puts}
use Rattle.core_law.proofs.Streams.{deck_parcels, loads_of, text_of, output_of}
use Rattle.batch_procs.specs.Jobs.{Jobs, AreJobs, FilesAs, one_thread}

abbrev pub good : List Item → Bool → Result PageContent BadPage
good all last = Ok (record { items = all; last = last })

-- the items of a stream that has ended
abbrev pub whole : List Item → List Feed
whole all = stream all true

-- ---- a page in the form is read back
form-at : (n m : ℕ) (last : Bool) (all : List Item) (page : Page) → n % 65536 ≡ m % 65536 → IsPage n last all page → IsPage m last all page
form-at n m last all page same form = record {
  valid = form.valid;
  fits = form.fits;
  full = form.full;
  spelled = form.spelled ∙ page_of-same n m last (items_bytes all) same;
}

pub read-back : (n : ℕ) (last : Bool) (all : List Item) (page : Page) → IsPage n last all page → page_read (n % 2 ^ 16) last page ≡ good all last
read-back n last all page form =
    let here = form-at n (n % 65536) last all page (omega arith) form in
    read_taken (n % 65536) last page (nothing_wrong_again (n % 65536) last all page (omega arith) here)
    ∙ ap (λ (l : List Item). good l last) (items_again (n % 65536) last all page here)

module _ {L : Type 0} {J : Jobs L} (jobs : AreJobs J) where
  abbrev pub as_stream : List Page → List (Parcel L)
  as_stream [] = []
  as_stream (page ∷ []) = OfPage page true ∷ []
  as_stream (page ∷ next ∷ rest) = OfPage page false ∷ as_stream (next ∷ rest)

  stream-last : (pages : List Page) (page : Page) → as_stream (pages ++ page ∷ []) ≡ marked false pages ++ OfPage page true ∷ []
  stream-last [] page = refl
  stream-last (first ∷ []) page = refl
  stream-last (first ∷ next ∷ rest) page = ap (λ ps. OfPage first false ∷ ps) (stream-last (next ∷ rest) page)

  marked-more : (some more : List Page) → marked {L = L} false (some ++ more) ≡ marked false some ++ marked false more
  marked-more [] more = refl
  marked-more (page ∷ some) more = ap (λ ps. OfPage page false ∷ ps) (marked-more some more)

  then-whole : (all : List Item) → items_then all (feed.End ∷ []) ≡ whole all
  then-whole [] = refl
  then-whole (item ∷ rest) = ap (λ fs. feed.Item item ∷ fs) (then-whole rest)

  then-more : (some more : List Item) → whole (some ++ more) ≡ items_then some (whole more)
  then-more [] more = refl
  then-more (item ∷ some) more = ap (λ fs. feed.Item item ∷ fs) (then-more some more)

  stream-back : (pages : List Page) (n : ℕ) (all : List Item) → IsStream n pages all → unpacked (n % 2 ^ 16) (as_stream pages) ≡ whole all
  stream-back [] n all is = absurd is
  stream-back (page ∷ []) n all form = ap (λ content. unpacked_by content true []) (read-back n true all page form) ∙ then-whole all
  stream-back (page ∷ next ∷ rest) n all (front, left, parts, form, more) =
      let place : (n % 65536 + 1) % 65536 ≡ (n + 1) % 65536 = omega arith in
      ap (λ content. unpacked_by content false (unpacked ((n % 2 ^ 16 + 1) % 2 ^ 16) (as_stream (next ∷ rest)))) (read-back n false front page form)
      ∙ ap (λ at. items_then front (unpacked at (as_stream (next ∷ rest)))) place
      ∙ ap (λ fs. items_then front fs) (stream-back (next ∷ rest) (n + 1) left more)
      ∙ sym (then-more front left) ∙ ap whole (sym parts)

  -- ---- what is packed is such a stream
  pub record Packs (parcels : List (Parcel L)) (all : List Item) : Type 0 where
    pub pages : List Page
    pub same : parcels ≡ as_stream pages
    pub is_stream : IsStream 0 pages all

  first-packed : HasPacked first_page [] []
  first-packed = record { groups = []; last = []; valid = tt; whole = refl; cut = omega arith; given = refl; place = refl; content = refl }

  packs-on : (more all : List Item) (hand : PageInHand) (pages : List Page) → AreItems more → HasPacked hand all pages
      → Packs (marked false pages ++ packed hand (whole more)) (all ++ more)
  packs-on [] all hand pages are is = record {
    pages = pages ++ page_of hand.place true hand.content ∷ [];
    same = sym (stream-last pages (page_of hand.place true hand.content));
    is_stream = rw append-nil (pages_are_a_stream hand all pages is);
  }
  packs-on (item ∷ more) all hand pages are is =
      let given = option_to_list (page_given hand item) in
      let rest = packs-on more (all ++ item ∷ []) (hand_after hand item) (pages ++ given) are.1 (packing_goes_on hand all pages item is are.0) in
      record {
        pages = rest.pages;
        same = sym (append_assoc (marked false pages) (marked false given) (packed (hand_after hand item) (whole more)))
            ∙ ap (λ ps. ps ++ packed (hand_after hand item) (whole more)) (sym (marked-more pages given)) ∙ rest.same;
        is_stream = subst (IsStream 0 rest.pages) (append_assoc all (item ∷ []) more) rest.is_stream;
      }

  pub packs : (all : List Item) → AreItems all → Packs (packed first_page (whole all)) all
  packs all are = packs-on all [] first_page [] are first-packed

  -- Items that are packed are read back.
  pub round-trip : (all : List Item) → AreItems all → unpacked 0 (packed {L = L} first_page (whole all)) ≡ whole all
  round-trip all are =
      let is = packs all are in
      ap (unpacked 0) is.same ∙ stream-back is.pages 0 all is.is_stream

  -- ---- the five list functions
  feeds-back : (all : List Feed) → feeds (as_parcels {L = L} all) ≡ all
  feeds-back [] = refl
  feeds-back (f ∷ rest) = ap (λ fs. f ∷ fs) (feeds-back rest)

  deck-feeds : (all : List Item) → feeds (deck_parcels jobs all) ≡ whole all
  deck-feeds [] = refl
  deck-feeds (item ∷ rest) = ap (λ fs. feed.Item item ∷ fs) (deck-feeds rest)

  whole-items : (all : List Item) → items (whole all) ≡ all
  whole-items [] = refl
  whole-items (item ∷ rest) = ap (λ all. item ∷ all) (whole-items rest)

  whole-ends : (all : List Item) → has_end (whole all) ≡ true
  whole-ends [] = refl
  whole-ends (item ∷ rest) = whole-ends rest

  lines-back : (lines : List (List ℕ)) → lines_of (map Line lines) ≡ lines
  lines-back [] = refl
  lines-back (line ∷ rest) = ap (λ ls. line ∷ ls) (lines-back rest)

  pub line-items : (lines : List (List ℕ)) → AllByRecursion IsLine lines → AreItems (map Line lines)
  line-items [] are = tt
  line-items (line ∷ rest) are = (are.0, line-items rest are.1)

  module _ (deck : List Item) (are : AreItems deck) where
    pub card-gives : card_sends (deck_parcels jobs deck) ≡ as_parcels (whole deck)
    card-gives = ap (λ fs. as_parcels (stream (items fs) (has_end fs))) (deck-feeds deck)
        ∙ ap (λ all. as_parcels (stream all (has_end (whole deck)))) (whole-items deck) ∙ ap (λ ended. as_parcels (stream deck ended)) (whole-ends deck)

    pub input-gives : input_sends (card_sends (deck_parcels jobs deck)) ≡ packed first_page (whole deck)
    input-gives = ap input_sends card-gives ∙ ap (packed first_page) (feeds-back (whole deck))

    -- the pages of cards hold the items of the deck
    pub pages-give : unpacked 0 (input_sends (card_sends (deck_parcels jobs deck))) ≡ whole deck
    pages-give = ap (unpacked 0) input-gives ∙ round-trip deck are

    pub items-given : items (unpacked 0 (input_sends (card_sends (deck_parcels jobs deck)))) ≡ deck
    items-given = ap items pages-give ∙ whole-items deck

    -- ---- with as many loads as files are named
    module _ (loads : List L) (enough : length (J.named deck) ≤ length loads) where
      abbrev lines : List (List ℕ)
      lines = J.lines deck loads true

      pub are-lines : AllByRecursion IsLine (J.lines deck loads true)
      are-lines = jobs.are_lines deck loads true are

      pub job-gives : job_puts jobs loads (input_sends (card_sends (deck_parcels jobs deck))) ≡ packed first_page (whole (map Line (J.lines deck loads true)))
      job-gives =
          ap (λ fs. packed first_page (job_lines J fs loads)) pages-give
          ∙ ap (λ all. packed first_page (lines_stream (J.lines all loads (has_end (whole deck))) (J.whole all loads (has_end (whole deck)))))
          (whole-items deck)
          ∙ ap (λ ended. packed first_page (lines_stream (J.lines deck loads ended) (J.whole deck loads ended))) (whole-ends deck)
          ∙ ap (λ ended. packed first_page (lines_stream (J.lines deck loads true) ended)) (jobs.all_loaded deck loads true enough)

      pub output-gives : output_sends (job_puts jobs loads (input_sends (card_sends (deck_parcels jobs deck))))
          ≡ as_parcels (whole (map Line (J.lines deck loads true)))
      output-gives =
          ap output_sends job-gives ∙ ap (λ fs. as_parcels (output_lines fs)) (round-trip (map Line lines) (line-items lines are-lines))
          ∙ ap (λ all. as_parcels (lines_stream (lines_of all) (has_end (whole (map Line lines))))) (whole-items (map Line lines))
          ∙ ap (λ ls. as_parcels (lines_stream ls (has_end (whole (map Line lines))))) (lines-back lines)
          ∙ ap (λ ended. as_parcels (lines_stream lines ended)) (whole-ends (map Line lines))

      -- The five, one after the other, give the lines of the whole deck.
      pub output-is : output_of jobs loads (deck_parcels jobs deck) ≡ as_lines (J.lines deck loads true)
      output-is =
          ap printer_sends output-gives ∙ ap (λ fs. as_lines (lines_of (items fs))) (feeds-back (whole (map Line lines)))
          ∙ ap (λ all. as_lines (lines_of all)) (whole-items (map Line lines)) ∙ ap as_lines (lines-back lines)

  text-lines : (lines : List (List ℕ)) → text_of jobs (as_lines lines) ≡ text lines
  text-lines [] = refl
  text-lines (line ∷ rest) = ap (λ more. line_text line ++ more) (text-lines rest)

  -- told files give as many loads as they are named
  pub as-named : (found : FilesAs L) (deck : List Item) → length (J.named deck) ≤ length (loads_of jobs found deck)
  as-named found deck = (let same = length-map (J.named deck) found in omega (arith, same))

  pub output-text : (deck : List Item) → AreItems deck → (found : FilesAs L)
      → text_of jobs (output_of jobs (loads_of jobs found deck) (deck_parcels jobs deck)) ≡ text (one_thread J deck found)
  output-text deck are found =
      ap (text_of jobs) (output-is deck are (loads_of jobs found deck) (as-named found deck)) ∙ text-lines (J.lines deck (loads_of jobs found deck) true)
