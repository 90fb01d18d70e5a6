-- How many items a page has at most, and what follows for those that take pages.
use Rattle.std.proofs.Common.{◌≡◌, ◌≤◌, ◌<◌, ℕ, zero, suc, ◌+◌, ◌*◌, ◌-◌, ◌%◌, ◌^◌, ◌==◌, Bool, true, false, ◌&&◌, not, if◌then◌else◌, List, [], ◌∷◌, ◌++◌, length, length-append, take, drop, Option, None, Some, Result, Ok, Err, refl, sym, ◌∙◌, ap, subst, arith}
use Rattle.std.specs.Prelude.{map, nat_le, slice_index}
use Rattle.std.proofs.lemmas.Bool.Decides.{nat_tests}
use Rattle.std.proofs.lemmas.List.{length-drop}
use Rattle.solo_base.specs.PageBytes.{number_at}
use Rattle.solo_base.specs.declared.item.Item.{Item}
use Rattle.solo_base.specs.declared.item.Item.TheVariants.{Line}
use Rattle.solo_base.specs.declared.item.Feed.{Feed}
use Rattle.solo_base.specs.declared.item.Feed.TheVariants as feed
use Rattle.solo_base.specs.declared.page.Page.{Page}
use Rattle.page_codec.specs.declared.judge.BadPage.{BadPage}
use Rattle.page_codec.specs.Form.{mark}
use Rattle.page_codec.specs.Places.{content_length, content_of}
use Rattle.page_codec.specs.Packing.{first_page}
use Rattle.page_codec.specs.Reading.{PageContent, characters, items_after, has_length, or_else, bad_body, bad_place, content_or_bad, page_read}
use Rattle.page_codec.specs.Items.{AreItems}
use Rattle.page_codec.proofs.Scan.{all_read}
use Rattle.batch_procs.specs.Jobs.{Jobs, AreJobs}
use Rattle.batch_procs.specs.Parcels.{Parcel, OfFeed, OfPage, OfLine, OfLoad, loads, handed}
use Rattle.batch_procs.specs.Sends.{has_end, items, stream, items_then, behind, unpacked_by, unpacked, lines_of, job_lines, job_sends, job_wants, output_lines}
use Rattle.batch_procs.specs.Process.{Process}
use Rattle.batch_procs.specs.Table.{card, input, job, output, printer, nobody}
use Rattle.batch_procs.specs.Ahead.{GivesAtMost, one_if, TheFiveAreBounded}
use Rattle.batch_procs.specs.Relays.{loads-append}
use Rattle.batch_procs.proofs.Bounds.{card-bound, input-bound, printer-bound, lines_of-length, parcels-length, packed-length}

-- ---- a page
items-few : (passed : ℕ) (bytes : List ℕ) → length (items_after passed bytes) ≤ length bytes
items-few passed [] = omega arith
items-few (suc passed) (byte ∷ rest) = let few = items-few passed rest in omega (arith, few)
items-few zero (byte ∷ rest) = let few = items-few (characters byte) rest in omega (arith, few)

take-most : (n : ℕ) (xs : List ℕ) → length (take n xs) ≤ n
take-most zero xs = omega arith
take-most (suc n) [] = omega arith
take-most (suc n) (x ∷ xs) = let few = take-most n xs in omega (arith, few)

fourth-test : (a b c d : Bool) (rest : Option ℕ) → (if a then Some 0 else if b then Some 2 else if c then Some 3 else if d then Some 4 else rest) ≡ None
    → d ≡ false
fourth-test true b c d rest e = absurd cc
fourth-test false true c d rest e = absurd cc
fourth-test false false true d rest e = absurd cc
fourth-test false false false true rest e = absurd cc
fourth-test false false false false rest e = refl

and-first : (a b : Bool) → not (a && b) ≡ false → a ≡ true
and-first true b e = refl
and-first false b e = absurd cc

room : (n : ℕ) → nat_le n 506 ≡ true → n ≤ 506
room n e = grind (arith, nat_tests)

content-room : (place : ℕ) (last : Bool) (bytes : List ℕ) → bad_place place last bytes ≡ None → length (content_of bytes) ≤ 506
content-room place last bytes sound =
    let fits = fourth-test (not (number_at bytes 0 == place)) (not (slice_index bytes 2 == mark last)) (not (slice_index bytes 3 == 0))
    (not (has_length last (content_length bytes))) (bad_body (content_length bytes) bytes) sound in
    let within = room (content_length bytes) (and-first (nat_le (content_length bytes) 506) _ fits) in
    let taken = take-most (content_length bytes) (drop 6 bytes) in
    omega (arith, within, taken)

abbrev items-or : List Item → Result PageContent BadPage → List Item
items-or other (Ok content) = content.items
items-or other (Err bad) = other

content-few : (place : ℕ) (last : Bool) (bytes : List ℕ) (wrong : Option ℕ) (content : PageContent) → bad_place place last bytes ≡ wrong
    → content_or_bad place last bytes wrong ≡ Ok content → length content.items ≤ 506
content-few place last bytes None content sound is =
    let few = items-few 0 (content_of bytes) in
    let within = content-room place last bytes sound in
    let same = ap (items-or []) is in
    subst (λ items. length items ≤ 506) same (omega (arith, few, within))
content-few place last bytes (Some at) content sound is = absurd cc

page-few : (place : ℕ) (last : Bool) (page : Page) (content : PageContent) → page_read place last page ≡ Ok content → length content.items ≤ 506
page-few place last page content is = content-few place last page.0 (bad_place place last page.0) content refl is

then-length : (xs : List Item) (rest : List Feed) → length (items_then xs rest) ≡ length xs + length rest
then-length [] rest = omega arith
then-length (x ∷ xs) rest = let more = then-length xs rest in omega (arith, more)

behind-length : (last : Bool) (rest : List Feed) → length (behind last rest) ≤ 1 + length rest
behind-length true rest = omega arith
behind-length false rest = omega arith

page-length : (place : ℕ) (last : Bool) (page : Page) (rest : List Feed) (read : Result PageContent BadPage) → page_read place last page ≡ read
    → length (unpacked_by read last rest) ≤ 507 + length rest
page-length place last page rest (Ok content) is =
    let few = page-few place last page content is in
    let both = then-length content.items (behind last rest) in
    let end = behind-length last rest in
    omega (arith, few, both, end)
page-length place last page rest (Err bad) is = omega arith

no-test : (a b c d : Bool) (rest : Option ℕ) → (if a then Some 0 else if b then Some 2 else if c then Some 3 else if d then Some 4 else rest) ≡ None
    → rest ≡ None
no-test true b c d rest e = absurd cc
no-test false true c d rest e = absurd cc
no-test false false true d rest e = absurd cc
no-test false false false true rest e = absurd cc
no-test false false false false rest e = e

neither : (first other : Option ℕ) → or_else first other ≡ None → first ≡ None
neither None other e = refl
neither (Some at) other e = absurd cc

content-items : (place : ℕ) (last : Bool) (bytes : List ℕ) (wrong : Option ℕ) (content : PageContent) → bad_place place last bytes ≡ wrong
    → content_or_bad place last bytes wrong ≡ Ok content → AreItems content.items
content-items place last bytes None content sound is =
    let body = no-test (not (number_at bytes 0 == place)) (not (slice_index bytes 2 == mark last)) (not (slice_index bytes 3 == 0))
    (not (has_length last (content_length bytes))) (bad_body (content_length bytes) bytes) sound in
    subst AreItems (ap (items-or []) is) (all_read (content_of bytes) 6 0 (neither _ _ body)).valid
content-items place last bytes (Some at) content sound is = absurd cc

then-items : (xs : List Item) (rest : List Feed) → AreItems xs → AreItems (items rest) → AreItems (items (items_then xs rest))
then-items [] rest are more = more
then-items (x ∷ xs) rest are more = (are.0, then-items xs rest are.1 more)

behind-items : (last : Bool) (rest : List Feed) → AreItems (items rest) → AreItems (items (behind last rest))
behind-items true rest are = tt
behind-items false rest are = are

page-items : (place : ℕ) (last : Bool) (page : Page) (rest : List Feed) (read : Result PageContent BadPage) → page_read place last page ≡ read
    → AreItems (items rest) → AreItems (items (unpacked_by read last rest))
page-items place last page rest (Ok content) is are =
    then-items content.items (behind last rest) (content-items place last page.0 (bad_place place last page.0) content refl is) (behind-items last rest are)
page-items place last page rest (Err bad) is are = tt

items-end : (all : List Feed) → length (items all) + one_if (has_end all) ≤ length all
items-end [] = omega arith
items-end (feed.Item item ∷ rest) = let few = items-end rest in omega (arith, few)
items-end (feed.End ∷ rest) = omega arith

stream-length : (xs : List Item) (t : Bool) → length (stream xs t) ≡ length xs + one_if t
stream-length [] true = refl
stream-length [] false = refl
stream-length (x ∷ xs) t = let more = stream-length xs t in omega (arith, more)

map-length : (lines : List (List ℕ)) → length (map Line lines) ≡ length lines
map-length [] = refl
map-length (line ∷ lines) = ap suc (map-length lines)

items-behind : (xs : List Item) (rest : List Feed) → items (items_then xs rest) ≡ xs ++ items rest
items-behind [] rest = refl
items-behind (item ∷ xs) rest = ap (λ all. item ∷ all) (items-behind xs rest)

-- ---- sums
products : (j i e r : ℕ) → (j + 1) * (i + e + r) ≡ ((j + 1) * i + e) + (j * e + (j + 1) * r)
products j i e r = grind arith

below : (all a e more s : ℕ) → all ≡ (a + e) + more → s ≤ a + 1 + e → s ≤ all + 1
below all a e more s is most = omega (arith, is, most)

-- what has so many for each item and the end, where items and end are within n
within-most : (k i e n s : ℕ) → 0 < k → i + e ≤ n → s ≤ k * i + 1 + e → s ≤ k * n + 1
within-most k i e n s some fits most =
    let k_is : k ≡ (k - 1) + 1 = omega (arith, some) in
    let n_is : n ≡ i + e + (n - (i + e)) = omega (arith, fits) in
    let most_then : s ≤ ((k - 1) + 1) * i + 1 + e = subst (λ k. s ≤ k * i + 1 + e) k_is most in
    subst (λ k. s ≤ k * n + 1) (sym k_is)
    (subst (λ n. s ≤ ((k - 1) + 1) * n + 1) (sym n_is) (below _ _ _ _ s (products (k - 1) i e (n - (i + e))) most_then))

regrouped : (k h : ℕ) → k * (507 * h) ≡ 507 * k * h
regrouped k h = grind arith

few-sent : (s st ml ln ki w e : ℕ) → s ≤ st → st ≡ ml + w → ml ≡ ln → ln ≤ ki + 1 → w ≤ e → s ≤ ki + 1 + e
few-sent s st ml ln ki w e a b c d f = omega (arith, a, b, c, d, f)

times-some : (j h : ℕ) → 507 * (j + 1) * h ≡ 507 * h + 507 * j * h
times-some j h = grind arith

first-part : (a b c : ℕ) → a ≡ b + c → b ≤ a
first-part a b c is = omega (arith, is)

more-most : (k h : ℕ) → 0 < k → 507 * h ≤ 507 * k * h
more-most k h some =
    let k_is : k ≡ (k - 1) + 1 = omega (arith, some) in
    subst (λ k. 507 * h ≤ 507 * k * h) (sym k_is) (first-part _ _ _ (times-some (k - 1) h))

within-more : (a b c d : ℕ) → a ≤ b + c → c ≤ d → a ≤ b + d
within-more a b c d most more = omega (arith, most, more)

few-wanted : (w now some more h l m : ℕ) → more ≤ some + 507 * h → l ≤ m → w ≡ some - l → now ≡ more - m → now ≤ w + 507 * h
few-wanted w now some more h l m few grow left left_then = omega (arith, few, grow, left, left_then)

module _ {L : Type 0} {J : Jobs L} (jobs : AreJobs J) where
  unpacked-length : (place : ℕ) (all : List (Parcel L)) → length (unpacked place all) ≤ 507 * length (handed all)
  unpacked-length place [] = omega arith
  unpacked-length place (OfPage page last ∷ rest) =
      let few = unpacked-length ((place + 1) % 2 ^ 16) rest in
      let one = page-length place last page (unpacked ((place + 1) % 2 ^ 16) rest) (page_read place last page) refl in
      omega (arith, few, one)
  unpacked-length place (OfLoad load ∷ rest) = unpacked-length place rest
  unpacked-length place (OfFeed f ∷ rest) = omega arith
  unpacked-length place (OfLine line ∷ rest) = omega arith

  unpacked-items : (place : ℕ) (all : List (Parcel L)) → AreItems (items (unpacked place all))
  unpacked-items place [] = tt
  unpacked-items place (OfPage page last ∷ rest) =
      page-items place last page (unpacked ((place + 1) % 2 ^ 16) rest) (page_read place last page) refl (unpacked-items ((place + 1) % 2 ^ 16) rest)
  unpacked-items place (OfLoad load ∷ rest) = unpacked-items place rest
  unpacked-items place (OfFeed f ∷ rest) = tt
  unpacked-items place (OfLine line ∷ rest) = tt

  pub output-bound : GivesAtMost J 507 output
  output-bound = record {
    gives = λ all good.
        let fs = unpacked 0 all in
        let a = unpacked-length 0 all in
        let b = items-end fs in
        let c = lines_of-length (items fs) in
        let d = map-length (lines_of (items fs)) in
        let e = stream-length (map Line (lines_of (items fs))) (has_end fs) in
        let g = parcels-length J (output_lines fs) in
        omega (arith, a, b, c, d, e, g);
    names = λ all parcel. omega arith;
  }

  -- ---- the files that items name
  named-none : length (J.named []) ≡ 0
  named-none = let few = jobs.few_named [] in omega (arith, few)

  then-named : (xs : List Item) (rest : List Feed) → length (J.named (items (items_then xs rest))) ≡ length (J.named xs) + length (J.named (items rest))
  then-named xs rest = ap length (ap J.named (items-behind xs rest) ∙ jobs.named_add xs (items rest)) ∙ length-append (J.named xs) (J.named (items rest))

  page-named : (place : ℕ) (last : Bool) (page : Page) (read : Result PageContent BadPage) → page_read place last page ≡ read
      → length (J.named (items (unpacked_by read last []))) ≤ 507
  page-named place last page (Ok content) is =
      let few = page-few place last page content is in
      let named = jobs.few_named content.items in
      let both = then-named content.items (behind last []) in
      let none = no-named last in
      omega (arith, few, named, both, none)
    where
      no-named : (last : Bool) → length (J.named (items (behind last []))) ≡ 0
      no-named true = named-none
      no-named false = named-none
  page-named place last page (Err bad) is = let none = named-none in omega (arith, none)

  one-page : (place : ℕ) (parcel : Parcel L) → length (J.named (items (unpacked place (parcel ∷ [])))) ≤ 507 * length (handed (parcel ∷ []))
  one-page place (OfPage page last) = let few = page-named place last page (page_read place last page) refl in omega (arith, few)
  one-page place (OfLoad load) = let none = named-none in omega (arith, none)
  one-page place (OfFeed f) = let none = named-none in omega (arith, none)
  one-page place (OfLine line) = let none = named-none in omega (arith, none)

  behind-named : (last : Bool) (rest more : List Feed) (n : ℕ) → length (J.named (items more)) ≤ length (J.named (items rest)) + n
      → length (J.named (items (behind last more))) ≤ length (J.named (items (behind last rest))) + n
  behind-named true rest more n few = omega arith
  behind-named false rest more n few = few

  more-named : (place : ℕ) (all : List (Parcel L)) (parcel : Parcel L) → length (J.named (items (unpacked place (all ++ parcel ∷ []))))
      ≤ length (J.named (items (unpacked place all))) + 507 * length (handed (parcel ∷ []))
  more-named place [] parcel = let few = one-page place parcel in omega (arith, few)
  more-named place (OfPage page last ∷ all) parcel = by (page_read place last page) (more-named ((place + 1) % 2 ^ 16) all parcel)
    where
      by : (read : Result PageContent BadPage)
          → length (J.named (items (unpacked ((place + 1) % 2 ^ 16) (all ++ parcel ∷ []))))
          ≤ length (J.named (items (unpacked ((place + 1) % 2 ^ 16) all))) + 507 * length (handed (parcel ∷ []))
          → length (J.named (items (unpacked_by read last (unpacked ((place + 1) % 2 ^ 16) (all ++ parcel ∷ [])))))
          ≤ length (J.named (items (unpacked_by read last (unpacked ((place + 1) % 2 ^ 16) all)))) + 507 * length (handed (parcel ∷ []))
      by (Ok content) next =
          (let early = then-named content.items (behind last (unpacked ((place + 1) % 2 ^ 16) all)) in
          let late = then-named content.items (behind last (unpacked ((place + 1) % 2 ^ 16) (all ++ parcel ∷ []))) in
          let few =
          behind-named last (unpacked ((place + 1) % 2 ^ 16) all) (unpacked ((place + 1) % 2 ^ 16) (all ++ parcel ∷ [])) (507 * length (handed (parcel ∷ [])))
          next in
          omega (arith, early, late, few))
      by (Err bad) next = omega arith
  more-named place (OfLoad load ∷ all) parcel = more-named place all parcel
  more-named place (OfFeed f ∷ all) parcel = omega arith
  more-named place (OfLine line ∷ all) parcel = omega arith

  loads-grow : (all : List (Parcel L)) (parcel : Parcel L) → length (loads all) ≤ length (loads (all ++ parcel ∷ []))
  loads-grow all parcel = let both = ap length (loads-append all (parcel ∷ [])) ∙ length-append (loads all) (loads (parcel ∷ [])) in omega (arith, both)

  names-few : (all : List (Parcel L)) (parcel : Parcel L)
      → length (job_wants J (all ++ parcel ∷ [])) ≤ length (job_wants J all) + 507 * J.most * length (handed (parcel ∷ []))
  names-few all parcel =
      let some = J.named (items (unpacked 0 all)) in
      let more = J.named (items (unpacked 0 (all ++ parcel ∷ []))) in
      let few = more-named 0 all parcel in
      let grow = loads-grow all parcel in
      let left = length-drop (length (loads all)) some in
      let left_then = length-drop (length (loads (all ++ parcel ∷ []))) more in
      within-more _ _ _ _ (few-wanted _ _ _ _ _ _ _ few grow left left_then) (more-most J.most (length (handed (parcel ∷ []))) jobs.some_lines)

  whole-most : (xs : List Item) (found : List L) (t : Bool) → one_if (J.whole xs found t) ≤ one_if t
  whole-most xs found true = by (J.whole xs found true)
    where
      by : (w : Bool) → one_if w ≤ 1
      by true = omega arith
      by false = omega arith
  whole-most xs found false = let none = ap one_if (jobs.not_whole xs found) in omega (arith, none)

  pub job-bound : GivesAtMost J (507 * J.most) (job J)
  job-bound = record {
    gives = λ all good.
        let fs = unpacked 0 all in
        let lines = J.lines (items fs) (loads all) (has_end fs) in
        let room = unpacked-length 0 all in
        let parts = items-end fs in
        subst (λ n. length (job_sends J all) ≤ n + 1) (regrouped J.most (length (handed all)))
        (within-most J.most (length (items fs)) (one_if (has_end fs)) (507 * length (handed all)) (length (job_sends J all)) jobs.some_lines
        (omega (arith, room, parts))
        (few-sent _ _ _ _ _ _ _ (packed-length J first_page (job_lines J fs (loads all))) (stream-length (map Line lines) (J.whole (items fs) (loads all)
        (has_end fs))) (map-length lines) (jobs.few_lines (items fs) (loads all) (has_end fs) (unpacked-items 0 all) good)
        (whole-most (items fs) (loads all) (has_end fs))));
    names = names-few;
  }

  nobody-bound : GivesAtMost J 0 nobody
  nobody-bound = record { gives = λ all good. omega arith; names = λ all parcel. omega arith }

  either : (t : Bool) (n m : ℕ) (this other : Process L) → GivesAtMost J n this → GivesAtMost J m other → GivesAtMost J (if t then n else m)
      (if t then this else other)
  either true n m this other a b = a
  either false n m this other a b = b

  pub bounds : TheFiveAreBounded J
  bounds p =
      either (p == 1) 1 _ card _ (card-bound J) (either (p == 2) 1 _ input _ (input-bound J) (either (p == 3) (507 * J.most) _ (job J) _ job-bound
      (either (p == 4) 507 _ output _ output-bound (either (p == 5) 1 0 printer nobody (printer-bound J) nobody-bound))))
