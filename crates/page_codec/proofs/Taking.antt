-- What an unpacker says of a page, and the history of what it took and gave.
use Rattle.std.proofs.Common.{◌≡◌, ℕ, ◌+◌, ◌%◌, ◌^◌, ◌<◌, Bool, true, false, List, [], ◌∷◌, ◌++◌, length, get_or, Option, Some, None, Result, Ok, Err, refl, sym, ap, subst, ◌∙◌, append_assoc, arith, inl, inr}
use Rattle.std.proofs.lemmas.List.{append-nil, length_push}
use Rattle.solo_base.specs.declared.item.Item.{Item}
use Rattle.solo_base.specs.declared.page.Page.{Page}
use Rattle.page_codec.specs.declared.judge.BadPage.{BadPage}
use Rattle.page_codec.specs.Items.{items_bytes}
use Rattle.page_codec.specs.Form.{mark, IsPage}
use Rattle.solo_base.specs.PageBytes.{number_at}
use Rattle.page_codec.specs.Places.{content_of, IsLeastWrong}
use Rattle.page_codec.specs.Reading.{items_after, bad_place, PageContent, content_or_bad, page_read}
use Rattle.page_codec.specs.Stream.{IsStream, Awaited, ContinuesFrom, HasTaken}
use Rattle.page_codec.specs.Laws.{is_empty, TheNextIsTaken, AllIsGiven}
use Rattle.page_codec.proofs.Judged.{some_or_none, least_wrong, least_found}
use Rattle.page_codec.proofs.Pages.{IsBytes, is_page, nothing_wrong_again, items_again}
use Rattle.page_codec.proofs.Cutting.{page_of-same, stream_on}

abbrev good : List Item → Bool → Result PageContent BadPage
good items last = Ok (record { items = items; last = last })

abbrev bad : ℕ → ℕ → ℕ → Result PageContent BadPage
bad expected found at = Err (record { expected = expected; found = found; at = at })

items_in : Result PageContent BadPage → List Item
items_in (Ok content) = content.items
items_in (Err bad) = []

place_in : Result PageContent BadPage → ℕ
place_in (Ok content) = 0
place_in (Err bad) = bad.at

-- ---- what the tests of a page say of what it gives

pub read_taken : (expected : ℕ) (last : Bool) (page : Page) → bad_place expected last page.0 ≡ None → page_read expected last page ≡ good (items_after 0 (content_of page.0)) last
read_taken expected last page none = ap (λ (o : Option ℕ). content_or_bad expected last page.0 o) none

pub read_refused : (expected : ℕ) (last : Bool) (page : Page) (at : ℕ) → bad_place expected last page.0 ≡ Some at → page_read expected last page ≡ bad expected (number_at page.0 0) at
read_refused expected last page at found = ap (λ (o : Option ℕ). content_or_bad expected last page.0 o) found

-- ---- a page is taken exactly where it is in the form

taken_from_form : (expected : ℕ) (last : Bool) (items : List Item) (page : Page) → expected < 2 ^ 16 → IsPage expected last items page → page_read expected last page ≡ good items last
taken_from_form expected last items page small form =
    read_taken expected last page (nothing_wrong_again expected last items page small form) ∙ ap (λ (l : List Item). good l last) (items_again expected last items page form)

form_from_taken : (expected : ℕ) (last : Bool) (items : List Item) (page : Page) → length page.0 ≡ 512 → IsBytes page.0 → page_read expected last page ≡ good items last → IsPage expected last items page
unfolding items_in
form_from_taken expected last items page long fits taken =
    elim (some_or_none (bad_place expected last page.0)) [
      | inl none ↦
          let items-are : items_after 0 (content_of page.0) ≡ items = ap items_in (sym (read_taken expected last page none) ∙ taken) in
          subst (λ (l : List Item). IsPage expected last l page) items-are (is_page expected last page long fits none)
      | inr found ↦
          let e : bad expected (number_at page.0 0) found.0 ≡ good items last = sym (read_refused expected last page found.0 found.1) ∙ taken in
          absurd cc
    ]

pub form_exact : (expected : ℕ) (last : Bool) (page : Page) (result : Result PageContent BadPage) → expected < 2 ^ 16 → length page.0 ≡ 512 → IsBytes page.0 → result ≡ page_read expected last page
    → (items : List Item) → (IsPage expected last items page → result ≡ good items last) × (result ≡ good items last → IsPage expected last items page)
form_exact expected last page result small long fits read items =
    (λ form. read ∙ taken_from_form expected last items page small form, λ taken. form_from_taken expected last items page long fits (sym read ∙ taken))

-- ---- and refused at its least wrong place

wrong_from_refused : (expected : ℕ) (last : Bool) (page : Page) (at : ℕ) → page_read expected last page ≡ bad expected (number_at page.0 0) at → IsLeastWrong expected last page.0 at
unfolding place_in
wrong_from_refused expected last page at refused =
    elim (some_or_none (bad_place expected last page.0)) [
      | inl none ↦
          let e : good (items_after 0 (content_of page.0)) last ≡ bad expected (number_at page.0 0) at = sym (read_taken expected last page none) ∙ refused in
          absurd cc
      | inr found ↦
          let at-is : found.0 ≡ at = ap place_in (sym (read_refused expected last page found.0 found.1) ∙ refused) in
          subst (λ (n : ℕ). IsLeastWrong expected last page.0 n) at-is (least_wrong expected last page.0 found.0 found.1)
    ]

pub wrong_exact : (expected : ℕ) (last : Bool) (page : Page) (result : Result PageContent BadPage) → result ≡ page_read expected last page
    → (at : ℕ) → (IsLeastWrong expected last page.0 at → result ≡ bad expected (number_at page.0 0) at) × (result ≡ bad expected (number_at page.0 0) at → IsLeastWrong expected last page.0 at)
wrong_exact expected last page result read at =
    (λ least. read ∙ read_refused expected last page at (least_found expected last page.0 at least), λ refused. wrong_from_refused expected last page at (sym read ∙ refused))

-- ---- a page has one form

mark-same : (last other : Bool) → mark last ≡ mark other → last ≡ other
mark-same true true e = refl
mark-same false false e = refl
mark-same true false e = absurd (omega arith)
mark-same false true e = absurd (omega arith)

pub one_form : (place : ℕ) (last other : Bool) (items others : List Item) (page : Page) → IsPage place last items page → IsPage place other others page → (last ≡ other) × (items ≡ others)
one_form place last other items others page form second =
    let marks : mark last ≡ mark other = ap (λ (p : Page). get_or p.0 2 0) (sym form.spelled ∙ second.spelled) in
    (mark-same last other marks, sym (items_again place last items page form) ∙ items_again place other others page second)

-- ---- streams

form_at : (n m : ℕ) (last : Bool) (items : List Item) (page : Page) → n % 65536 ≡ m % 65536 → IsPage n last items page → IsPage m last items page
form_at n m last items page same form =
    record { valid = form.valid; fits = form.fits; full = form.full; spelled = form.spelled ∙ page_of-same n m last (items_bytes items) same }

stream_at : (pages : List Page) (n m : ℕ) (items : List Item) → n % 65536 ≡ m % 65536 → IsStream n pages items → IsStream m pages items
stream_at [] n m items same stream = absurd stream
stream_at (page ∷ []) n m items same stream = form_at n m true items page same stream
stream_at (page ∷ next ∷ rest) n m items same stream =
    (stream.0, stream.1, stream.2, form_at n m false stream.0 page same stream.3, stream_at (next ∷ rest) (n + 1) (m + 1) stream.1 (omega arith) stream.4)

-- what can come after a page, and what could come before it
continues_back : (place next : ℕ) (last : Bool) (page : Page) (given : List Item) (more : List Page) (rest : List Item) → next ≡ (place + 1) % 65536 → IsPage place last given page → ContinuesFrom next last more rest → IsStream place (page ∷ more) (given ++ rest)
continues_back place next false page given more rest next-is form continues =
    stream_on place page given more rest form (stream_at more next (place + 1) rest (omega arith) continues)
continues_back place next true page given more rest next-is form continues =
    rw (continues.0, continues.1, append-nil given) form

-- what comes after a page of a stream
record ComesAfter (next : ℕ) (last : Bool) (given : List Item) (more : List Page) (all : List Item) : Type 0 where
  rest : List Item
  parts : all ≡ given ++ rest
  continues : ContinuesFrom next last more rest

continues_on : (more : List Page) (place next : ℕ) (last : Bool) (page : Page) (given all : List Item) → next ≡ (place + 1) % 65536 → IsPage place last given page → IsStream place (page ∷ more) all → ComesAfter next last given more all
continues_on [] place next last page given all next-is form stream =
    let same = one_form place last true given all page form stream in
    record { rest = []; parts = sym same.1 ∙ sym (append-nil given); continues = rw same.0 (refl, refl) }
continues_on (following ∷ more) place next last page given all next-is form stream =
    let same = one_form place last false given stream.0 page form stream.3 in
    record {
      rest = stream.1;
      parts = stream.2 ∙ ap (λ (l : List Item). l ++ stream.1) (sym same.1);
      continues = rw same.0 (stream_at (following ∷ more) (place + 1) next stream.1 (omega arith) stream.4);
    }

pub taken_on : (awaited : Awaited) (pages : List Page) (items : List Item) (last : Bool) (page : Page) (given : List Item) (after : Awaited) → awaited.ended ≡ false → HasTaken awaited pages items → IsPage awaited.place last given page
    → after.place ≡ (awaited.place + 1) % 65536 → after.ended ≡ last → HasTaken after (pages ++ page ∷ []) (items ++ given)
taken_on awaited pages items last page given after running taken form place-is ended-is =
    record {
      place = omega (arith, place-is, taken.place, length_push pages page);
      goes_on = λ more rest continues.
          let from : ContinuesFrom after.place last more rest = subst (λ (b : Bool). ContinuesFrom after.place b more rest) ended-is continues in
          let stream = continues_back awaited.place after.place last page given more rest place-is form from in
          let whole = taken.goes_on (page ∷ more) (given ++ rest) (rw running stream) in
          rw (append_assoc, append_assoc) whole;
      nothing_else = λ more all stream.
          let regrouped : IsStream 0 (pages ++ (page ∷ more)) all = subst (λ (l : List Page). IsStream 0 l all) (append_assoc pages (page ∷ []) more) stream in
          let before = taken.nothing_else (page ∷ more) all regrouped in
          let here : IsStream awaited.place (page ∷ more) before.0 = subst (λ (b : Bool). ContinuesFrom awaited.place b (page ∷ more) before.0) running before.2 in
          let after-page = continues_on more awaited.place after.place last page given before.0 place-is form here in (
            after-page.rest,
            before.1 ∙ ap (λ (l : List Item). items ++ l) after-page.parts ∙ sym (append_assoc items given after-page.rest),
            subst (λ (b : Bool). ContinuesFrom after.place b more after-page.rest) (sym ended-is) after-page.continues,
          );
    }

-- ---- what was packed is read back

-- the first page of what can still come
record IsFirst (ended : Bool) (place : ℕ) (page : Page) (more : List Page) (items : List Item) : Type 0 where
  first : List Item
  rest : List Item
  parts : items ≡ first ++ rest
  form : IsPage place (is_empty more) first page
  running : ended ≡ false

first_of_stream : (ended : Bool) (place : ℕ) (page : Page) (more : List Page) (items : List Item) → ContinuesFrom place ended (page ∷ more) items → IsFirst ended place page more items
first_of_stream true place page more items continues = let e : page ∷ more ≡ [] = continues.0 in absurd cc
first_of_stream false place page [] items continues =
    record { first = items; rest = []; parts = sym (append-nil items); form = continues; running = refl }
first_of_stream false place page (next ∷ more) items continues =
    record { first = continues.0; rest = continues.1; parts = continues.2; form = continues.3; running = refl }

end_of_stream : (ended : Bool) (place : ℕ) (items : List Item) → ContinuesFrom place ended [] items → (ended ≡ true) × (items ≡ [])
end_of_stream true place items continues = (refl, continues.1)
end_of_stream false place items continues = absurd continues

pub the_next_is_taken : TheNextIsTaken
the_next_is_taken front page more all given awaited stream taken =
    let next = taken.nothing_else (page ∷ more) all stream in
    let here = first_of_stream awaited.ended awaited.place page more next.0 next.2 in
    record {
      running = here.running;
      here = here.first;
      rest = here.rest;
      parts = next.1 ∙ ap (λ (l : List Item). given ++ l) here.parts ∙ sym (append_assoc given here.first here.rest);
      marked = ap (λ (p : Page). get_or p.0 2 0) here.form.spelled;
      form = here.form;
      read = taken_from_form awaited.place (is_empty more) here.first page (omega (arith, taken.place)) here.form;
    }

pub all_is_given : AllIsGiven
all_is_given pages all given awaited stream taken =
    let whole : IsStream 0 (pages ++ []) all = rw append-nil stream in
    let next = taken.nothing_else [] all whole in
    let over = end_of_stream awaited.ended awaited.place next.0 next.2 in
    (sym (next.1 ∙ rw over.1 (append-nil given)), over.0)
