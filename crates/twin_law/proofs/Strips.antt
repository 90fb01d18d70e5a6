-- Items as a stream of pages: what packing gives of them, and that each page is read back at its place.
use Rattle.std.proofs.Common.{◌≡◌, ℕ, ◌%◌, ◌^◌, ◌||◌, Bool, true, List, [], ◌∷◌, ◌++◌, map, refl, sym, ◌∙◌, ap, subst, arith}
use Rattle.std.specs.Prelude.{Result, Ok, option_to_list}
use Rattle.std.specs.List.{AllByRecursion}
use Rattle.std.proofs.lemmas.List.{append_assoc, append-nil}
use Rattle.solo_base.specs.Line.{IsLine}
use Rattle.page_codec.proofs.Pages.{nothing_wrong_again, items_again}
use Rattle.page_codec.proofs.Taking.{read_taken}
use Rattle.page_codec.proofs.Cutting.{page_of-same, packing_goes_on, pages_are_a_stream}
use Rattle.batch_procs.specs.Relays.{mark-of}
use Rattle.solo_base.specs.declared.item.Item.{Item}
use Rattle.solo_base.specs.declared.item.Item.TheVariants.{Line}
use Rattle.solo_base.specs.declared.page.Page.{Page}
use Rattle.page_codec.specs.declared.judge.BadPage.{BadPage}
use Rattle.page_codec.specs.Items.{AreItems, items_bytes}
use Rattle.page_codec.specs.Form.{IsPage}
use Rattle.page_codec.specs.Packing.{PageInHand, first_page, page_given, hand_after, HasPacked}
use Rattle.page_codec.specs.Reading.{PageContent, page_read}
use Rattle.page_codec.specs.Stream.{IsStream}
use Rattle.batch_procs.specs.Parcels.{Parcel, OfPage, mark}
use Rattle.twin_law.specs.Input.{last_of, empty_page}
use Rattle.twin_law.specs.Output.{is_some}

-- ---- a page in the form is read back
abbrev pub good : List Item → Bool → Result PageContent BadPage
good all last = Ok (record { items = all; last = last })

pub form-at : (n m : ℕ) (last : Bool) (all : List Item) (page : Page) → n % 65536 ≡ m % 65536 → IsPage n last all page → IsPage m last all page
form-at n m last all page same form = record {
  valid = form.valid;
  fits = form.fits;
  full = form.full;
  spelled = form.spelled ∙ page_of-same n m last (items_bytes all) same;
}

pub read-back : (n : ℕ) (last : Bool) (all : List Item) (page : Page) → IsPage n last all page → page_read (n % 2 ^ 16) last page ≡ good all last
read-back n last all page form =
    let here = form-at n (n % 65536) last all page (omega arith) form in
    read_taken (n % 65536) last page (nothing_wrong_again (n % 65536) last all page (omega arith) here)
    ∙ ap (λ (l : List Item). good l last) (items_again (n % 65536) last all page here)

pub marked-so : (n : ℕ) (last : Bool) (all : List Item) (page : Page) → IsPage n last all page → mark page ≡ last
marked-so n last all page form = ap mark form.spelled ∙ mark-of n last (items_bytes all)

-- with its own mark
pub read-marked : (n : ℕ) (last : Bool) (all : List Item) (page : Page) → IsPage n last all page → page_read (n % 2 ^ 16) (mark page) page ≡ good all last
read-marked n last all page form = ap (λ last. page_read (n % 2 ^ 16) last page) (marked-so n last all page form) ∙ read-back n last all page form

-- ---- packing: the pages that go out, and the page that is then in hand
abbrev pub given_pages : PageInHand → List Item → List Page
given_pages hand [] = []
given_pages hand (item ∷ rest) = option_to_list (page_given hand item) ++ given_pages (hand_after hand item) rest

abbrev pub last_hand : PageInHand → List Item → PageInHand
last_hand hand [] = hand
last_hand hand (item ∷ rest) = last_hand (hand_after hand item) rest

pub hand-append : (hand : PageInHand) (some more : List Item) → last_hand hand (some ++ more) ≡ last_hand (last_hand hand some) more
hand-append hand [] more = refl
hand-append hand (item ∷ some) more = hand-append (hand_after hand item) some more

pub given-append : (hand : PageInHand) (some more : List Item) → given_pages hand (some ++ more) ≡ given_pages hand some ++ given_pages (last_hand hand some) more
given-append hand [] more = refl
given-append hand (item ∷ some) more =
    ap (λ rest. option_to_list (page_given hand item) ++ rest) (given-append (hand_after hand item) some more)
    ∙ sym (append_assoc (option_to_list (page_given hand item)) (given_pages (hand_after hand item) some) (given_pages (last_hand (hand_after hand item) some) more))

-- all pages of these items
abbrev pub all_pages : List Item → List Page
all_pages items = given_pages first_page items ++ last_of (last_hand first_page items) ∷ []

first-packed : HasPacked first_page [] []
first-packed = record { groups = []; last = []; valid = tt; whole = refl; cut = omega arith; given = refl; place = refl; content = refl }

packs-on : (more all : List Item) (hand : PageInHand) (pages : List Page) → AreItems more → HasPacked hand all pages
    → HasPacked (last_hand hand more) (all ++ more) (pages ++ given_pages hand more)
packs-on [] all hand pages are is = subst (λ (items : List Item). HasPacked hand items (pages ++ [])) (sym (append-nil all)) (subst (λ (ps : List Page). HasPacked hand all ps) (sym (append-nil pages)) is)
packs-on (item ∷ more) all hand pages are is =
    let given = option_to_list (page_given hand item) in
    let rest = packs-on more (all ++ item ∷ []) (hand_after hand item) (pages ++ given) are.1 (packing_goes_on hand all pages item is are.0) in
    subst (λ (items : List Item). HasPacked (last_hand (hand_after hand item) more) items (pages ++ (given ++ given_pages (hand_after hand item) more))) (append_assoc all (item ∷ []) more)
    (subst (λ (ps : List Page). HasPacked (last_hand (hand_after hand item) more) ((all ++ item ∷ []) ++ more) ps)
    (append_assoc pages given (given_pages (hand_after hand item) more)) rest)

-- They are a stream of these items.
pub packed-stream : (items : List Item) → AreItems items → IsStream 0 (all_pages items) items
packed-stream items are = pages_are_a_stream (last_hand first_page items) items (given_pages first_page items) (packs-on items [] first_page [] are first-packed)

pub line-items : (lines : List (List ℕ)) → AllByRecursion IsLine lines → AreItems (map Line lines)
line-items [] are = tt
line-items (line ∷ rest) are = (are.0, line-items rest are.1)

-- ---- each page with its mark
abbrev pub as_pages : {L : Type 0} → List Page → List (Parcel L)
as_pages [] = []
as_pages (page ∷ rest) = OfPage page (mark page) ∷ as_pages rest

pub pages-append : (L : Type 0) (some more : List Page) → as_pages {L = L} (some ++ more) ≡ as_pages some ++ as_pages more
pages-append L [] more = refl
pages-append L (page ∷ some) more = ap (λ rest. OfPage page (mark page) ∷ rest) (pages-append L some more)

-- ---- a strip: the pages of a stream with its items
pub record Strip : Type 0 where
  pub pages : List Page
  pub items : List Item

pub record IsStrip (s : Strip) : Type 0 where
  pub stream : IsStream 0 s.pages s.items
  pub some : is_some s.items ≡ true

-- an empty stream
pub empty-form : IsPage 0 true [] empty_page
empty-form = record { valid = tt; fits = omega arith; full = λ e. absurd cc; spelled = refl }

-- strips one behind the other, and an empty stream
abbrev pub parcels : {L : Type 0} → List Strip → List (Parcel L)
parcels [] = as_pages (empty_page ∷ [])
parcels (s ∷ rest) = as_pages s.pages ++ parcels rest

pub some-append : {T : Type 0} (some more : List T) → is_some (some ++ more) ≡ (is_some some || is_some more)
some-append [] more = refl
some-append (x ∷ some) more = refl

-- all their pages
abbrev pub all_put : List Strip → List Page
all_put [] = empty_page ∷ []
all_put (s ∷ rest) = s.pages ++ all_put rest

pub as-parcels : (L : Type 0) (ss : List Strip) → as_pages {L = L} (all_put ss) ≡ parcels ss
as-parcels L [] = refl
as-parcels L (s ∷ rest) = pages-append L s.pages (all_put rest) ∙ ap (λ more. as_pages s.pages ++ more) (as-parcels L rest)
