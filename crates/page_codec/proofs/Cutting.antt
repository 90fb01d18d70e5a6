-- Groups of items that are cut into pages, and the stream of their pages.
use Rattle.std.proofs.Common.{◌≡◌, ℕ, suc, ◌+◌, ◌/◌, ◌%◌, ◌≤◌, ◌<◌, Bool, true, false, List, [], ◌∷◌, ◌++◌, length, refl, sym, ap, subst, ◌∙◌, append_assoc, arith, leb, inl, inr}
use Rattle.std.proofs.lemmas.List.{append-nil, length-append, length_push}
use Rattle.std.specs.List.{flat_map}
use Rattle.solo_base.specs.declared.item.Item.{Item}
use Rattle.solo_base.specs.declared.item.Item.TheVariants.{Line, Spoiled}
use Rattle.solo_base.specs.declared.page.Page.{Page}
use Rattle.page_codec.specs.Items.{item_bytes, items_bytes, IsItem, AreItems}
use Rattle.page_codec.specs.Form.{page_of, IsPage}
use Rattle.page_codec.specs.Packing.{HasNoRoomFor, IsCut, pages_from, PageInHand, HasPacked}
use Rattle.page_codec.specs.Stream.{IsStream}
use Rattle.page_codec.specs.Laws.{PackingGoesOn, PagesAreAStream}
use Rattle.std.proofs.lemmas.Bool.{cases_lt, le-leb, lt-leb}

-- ---- items

pub items_bytes-append : (front back : List Item) → items_bytes (front ++ back) ≡ items_bytes front ++ items_bytes back
items_bytes-append [] back = refl
items_bytes-append (item ∷ front) back = rw (items_bytes-append front back) (sym (append_assoc (item_bytes item) (items_bytes front) (items_bytes back)))

pub items_bytes-push : (items : List Item) (item : Item) → items_bytes (items ++ item ∷ []) ≡ items_bytes items ++ item_bytes item
items_bytes-push items item = items_bytes-append items (item ∷ []) ∙ ap (λ (l : List ℕ). items_bytes items ++ l) (append-nil (item_bytes item))

pub AreItems-append : (front back : List Item) → AreItems front → AreItems back → AreItems (front ++ back)
AreItems-append [] back here behind = behind
AreItems-append (item ∷ front) back here behind = (here.0, AreItems-append front back here.1 behind)

pub AreItems-parts : (front back : List Item) → AreItems (front ++ back) → AreItems front × AreItems back
AreItems-parts [] back valid = (tt, valid)
AreItems-parts (item ∷ front) back valid =
    let parts = AreItems-parts front back valid.1 in
    ((valid.0, parts.0), parts.1)

pub item_is_short : (item : Item) → IsItem item → length (item_bytes item) ≤ 133
item_is_short (Line line) valid = omega (arith, valid.short)
item_is_short Spoiled valid = omega arith

-- ---- groups

-- a group that fits, and what may come behind it
cut_on : (group next : List Item) (rest : List (List Item)) → length (items_bytes group) ≤ 506 → HasNoRoomFor group next → IsCut (next ∷ rest) → IsCut (group ∷ next ∷ rest)
cut_on group next rest fits no_room cut = (fits, no_room, cut)

no_room_grown : (group last : List Item) (item : Item) → HasNoRoomFor group last → HasNoRoomFor group (last ++ item ∷ [])
no_room_grown group [] item no_room = absurd no_room
no_room_grown group (first ∷ rest) item no_room = no_room

-- one item more in the last group
pub cut_grown : (groups : List (List Item)) (last : List Item) (item : Item) → IsCut (groups ++ last ∷ []) → length (items_bytes (last ++ item ∷ [])) ≤ 506 → IsCut (groups ++ (last ++ item ∷ []) ∷ [])
cut_grown [] last item cut fits = fits
cut_grown (group ∷ []) last item cut fits = (cut.0, no_room_grown group last item cut.1, fits)
cut_grown (group ∷ next ∷ rest) last item cut fits = (cut.0, cut.1, cut_grown (next ∷ rest) last item cut.2 fits)

-- one group more, of an item that has no room in the last
pub cut_more : (groups : List (List Item)) (last : List Item) (item : Item) → IsCut (groups ++ last ∷ []) → 506 < length (items_bytes last ++ item_bytes item) → length (items_bytes (item ∷ [])) ≤ 506 → IsCut ((groups ++ last ∷ []) ++ (item ∷ []) ∷ [])
cut_more [] last item cut no_room fits = (cut, no_room, fits)
cut_more (group ∷ []) last item cut no_room fits = (cut.0, cut.1, (cut.2, no_room, fits))
cut_more (group ∷ next ∷ rest) last item cut no_room fits = (cut.0, cut.1, cut_more (next ∷ rest) last item cut.2 no_room fits)

pub flat_map-push : (groups : List (List Item)) (last : List Item) → flat_map (λ group. group) (groups ++ last ∷ []) ≡ flat_map (λ group. group) groups ++ last
flat_map-push [] last = append-nil last
flat_map-push (group ∷ groups) last = rw (flat_map-push groups last) (sym (append_assoc group (flat_map (λ group. group) groups) last))

-- ---- pages

-- places count modulo 65,536
pub page_of-same : (n m : ℕ) (last : Bool) (content : List ℕ) → n % 65536 ≡ m % 65536 → page_of n last content ≡ page_of m last content
page_of-same n m last content same =
    let high : n / 256 % 256 ≡ m / 256 % 256 = omega arith in
    let low : n % 256 ≡ m % 256 = omega arith in
    rw (high, low) refl

pub pages_from-push : (groups : List (List Item)) (place : ℕ) (last : List Item) → pages_from place (groups ++ last ∷ []) ≡ pages_from place groups ++ page_of (place + length groups) false (items_bytes last) ∷ []
pages_from-push [] place last = ap (λ (n : ℕ). page_of n false (items_bytes last) ∷ []) (omega arith)
pages_from-push (group ∷ groups) place last =
    let rest = pages_from-push groups (place + 1) last in
    let number : place + 1 + length groups ≡ place + suc (length groups) = omega arith in
    ap (λ (l : List Page). page_of place false (items_bytes group) ∷ l) (rest ∙ rw number refl)

-- ---- streams

-- a page before a stream
pub stream_on : (place : ℕ) (page : Page) (front : List Item) (pages : List Page) (left : List Item) → IsPage place false front page → IsStream (place + 1) pages left → IsStream place (page ∷ pages) (front ++ left)
stream_on place page front [] left form stream = absurd stream
stream_on place page front (next ∷ pages) left form stream = (front, left, refl, form, stream)

full_page : (place : ℕ) (group next : List Item) → AreItems group → AreItems next → length (items_bytes group) ≤ 506 → HasNoRoomFor group next → IsPage place false group (page_of place false (items_bytes group))
full_page place group [] valid others fits no_room = absurd no_room
full_page place group (item ∷ rest) valid others fits no_room =
    record {
      valid = valid;
      fits = fits;
      full = λ _. omega (arith, no_room, item_is_short item others.0, length-append (items_bytes group) (item_bytes item));
      spelled = refl;
    }

-- the first group that is cut, and the others
record CutParts (group : List Item) (groups : List (List Item)) (last : List Item) : Type 0 where
  fits : length (items_bytes group) ≤ 506
  next : List Item
  no_room : HasNoRoomFor group next
  cut : IsCut (groups ++ last ∷ [])
  next_valid : AreItems (flat_map (λ group. group) groups ++ last) → AreItems next

cut_parts : (group : List Item) (groups : List (List Item)) (last : List Item) → IsCut (group ∷ (groups ++ last ∷ [])) → CutParts group groups last
cut_parts group [] last cut = record { fits = cut.0; next = last; no_room = cut.1; cut = cut.2; next_valid = λ valid. valid }
cut_parts group (next ∷ groups) last cut =
    record {
      fits = cut.0;
      next = next;
      no_room = cut.1;
      cut = cut.2;
      next_valid = λ valid. (AreItems-parts next (flat_map (λ group. group) groups ++ last) (subst (λ (l : List Item). AreItems l) (append_assoc next (flat_map (λ group. group) groups) last) valid)).0;
    }

-- the pages of groups that are cut, and the last page
pub stream_of : (groups : List (List Item)) (last : List Item) (place : ℕ) → AreItems (flat_map (λ group. group) groups ++ last) → IsCut (groups ++ last ∷ [])
    → IsStream place (pages_from place groups ++ page_of (place + length groups) true (items_bytes last) ∷ []) (flat_map (λ group. group) groups ++ last)
stream_of [] last place valid cut =
    record { valid = valid; fits = cut; full = λ e. absurd cc; spelled = ap (λ (n : ℕ). page_of n true (items_bytes last)) (omega arith) }
stream_of (group ∷ groups) last place valid cut =
    let parts = cut_parts group groups last cut in
    let regrouped : flat_map (λ group. group) (group ∷ groups) ++ last ≡ group ++ (flat_map (λ group. group) groups ++ last) =
    append_assoc group (flat_map (λ group. group) groups) last in
    let both = AreItems-parts group (flat_map (λ group. group) groups ++ last) (subst (λ (l : List Item). AreItems l) regrouped valid) in
    let number : place + 1 + length groups ≡ place + suc (length groups) = omega arith in
    let rest = stream_of groups last (place + 1) both.1 parts.cut in
    subst (λ (l : List Item). IsStream place (pages_from place (group ∷ groups) ++ page_of (place + length (group ∷ groups)) true (items_bytes last) ∷ []) l) (sym regrouped)
    (stream_on place (page_of place false (items_bytes group)) group _ _
    (full_page place group parts.next both.0 (parts.next_valid both.1) parts.fits parts.no_room)
    (subst (λ (n : ℕ). IsStream (place + 1) (pages_from (place + 1) groups ++ page_of n true (items_bytes last) ∷ []) (flat_map (λ group. group) groups ++ last)) number rest))

-- ---- the history of a packer

pub packed_on : (hand : PageInHand) (items : List Item) (pages : List Page) (item : Item) (after : PageInHand) → HasPacked hand items pages → IsItem item
    → length (hand.content ++ item_bytes item) ≤ 506 → after.place ≡ hand.place → after.content ≡ hand.content ++ item_bytes item → HasPacked after (items ++ item ∷ []) (pages ++ [])
packed_on hand items pages item after packed valid fits place-is content-is =
    let bytes-are : hand.content ++ item_bytes item ≡ items_bytes (packed.last ++ item ∷ []) =
    ap (λ (l : List ℕ). l ++ item_bytes item) packed.content ∙ sym (items_bytes-push packed.last item) in
    record {
      groups = packed.groups;
      last = packed.last ++ item ∷ [];
      valid = AreItems-append items (item ∷ []) packed.valid (valid, tt);
      whole = sym (append_assoc (flat_map (λ group. group) packed.groups) packed.last (item ∷ [])) ∙ ap (λ (l : List Item). l ++ item ∷ []) packed.whole;
      cut = cut_grown packed.groups packed.last item packed.cut (subst (λ (l : List ℕ). length l ≤ 506) bytes-are fits);
      given = append-nil pages ∙ packed.given;
      place = place-is ∙ packed.place;
      content = content-is ∙ bytes-are;
    }

pub packed_more : (hand : PageInHand) (items : List Item) (pages : List Page) (item : Item) (after : PageInHand) (page : Page) → HasPacked hand items pages → IsItem item
    → 506 < length (hand.content ++ item_bytes item) → after.place ≡ (hand.place + 1) % 65536 → after.content ≡ item_bytes item → page ≡ page_of hand.place false hand.content
    → HasPacked after (items ++ item ∷ []) (pages ++ page ∷ [])
packed_more hand items pages item after page packed valid full place-is content-is page-is =
    let alone : items_bytes (item ∷ []) ≡ item_bytes item = append-nil (item_bytes item) in
    let number : hand.place % 65536 ≡ (0 + length packed.groups) % 65536 = omega (arith, packed.place) in
    let page-number : page ≡ page_of (0 + length packed.groups) false (items_bytes packed.last) =
    page-is ∙ page_of-same hand.place (0 + length packed.groups) false hand.content number ∙ ap (λ (l : List ℕ). page_of (0 + length packed.groups) false l) packed.content in
    record {
      groups = packed.groups ++ packed.last ∷ [];
      last = item ∷ [];
      valid = AreItems-append items (item ∷ []) packed.valid (valid, tt);
      whole = ap (λ (l : List Item). l ++ item ∷ []) (flat_map-push packed.groups packed.last ∙ packed.whole);
      cut = cut_more packed.groups packed.last item packed.cut (subst (λ (l : List ℕ). 506 < length (l ++ item_bytes item)) packed.content full) (rw alone (omega (arith, item_is_short item valid)));
      given = rw (packed.given, page-number) (sym (pages_from-push packed.groups 0 packed.last));
      place = omega (arith, place-is, packed.place, length_push packed.groups packed.last);
      content = content-is ∙ sym alone;
    }

pub packed_stream : (hand : PageInHand) (items : List Item) (pages : List Page) (page : Page) → HasPacked hand items pages → page ≡ page_of hand.place true hand.content → IsStream 0 (pages ++ page ∷ []) items
packed_stream hand items pages page packed page-is =
    let number : hand.place % 65536 ≡ (0 + length packed.groups) % 65536 = omega (arith, packed.place) in
    let page-number : page ≡ page_of (0 + length packed.groups) true (items_bytes packed.last) =
    page-is ∙ page_of-same hand.place (0 + length packed.groups) true hand.content number ∙ ap (λ (l : List ℕ). page_of (0 + length packed.groups) true l) packed.content in
    rw (packed.given, page-number, ← packed.whole)
    (stream_of packed.groups packed.last 0 (rw packed.whole packed.valid) packed.cut)

abbrev after_push : ℕ → List ℕ → PageInHand
after_push place content = record { place = place % 65536; content = content }

pub packing_goes_on : PackingGoesOn
packing_goes_on hand items pages item packed valid =
    elim (cases_lt 506 (length (hand.content ++ item_bytes item))) [
      | inl full ↦
          let test : leb (length (hand.content ++ item_bytes item)) 506 ≡ false = lt-leb _ _ full in
          rw test (packed_more hand items pages item (after_push (hand.place + 1) (item_bytes item)) (page_of hand.place false hand.content) packed valid full refl refl refl)
      | inr short ↦
          let test : leb (length (hand.content ++ item_bytes item)) 506 ≡ true = le-leb _ _ short in
          rw test (packed_on hand items pages item (record hand { content = hand.content ++ item_bytes item }) packed valid short refl refl)
    ]

pub pages_are_a_stream : PagesAreAStream
pages_are_a_stream hand items pages packed = packed_stream hand items pages (page_of hand.place true hand.content) packed refl
