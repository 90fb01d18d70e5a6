-- A law.
-- The five processes are relays.
use Rattle.std.proofs.Common.{lit<, ◌≡◌, ℕ, zero, suc, ◌+◌, ◌%◌, ◌^◌, ◌==◌, Bool, true, false, if◌then◌else◌, List, [], ◌∷◌, ◌++◌, length, drop, Option, None, Some, Result, Ok, Err, refl, sym, ◌∙◌, ap, subst}
use Rattle.std.specs.Prelude.{map, option_to_list}
use Rattle.std.specs.List.{AllByRecursion}
use Rattle.solo_base.specs.declared.item.Item.{Item}
use Rattle.solo_base.specs.declared.item.Item.TheVariants.{Line, Spoiled}
use Rattle.solo_base.specs.declared.item.Feed.{Feed}
use Rattle.solo_base.specs.declared.item.Feed.TheVariants as feed
use Rattle.solo_base.specs.declared.page.Page.{Page}
use Rattle.page_codec.specs.declared.judge.BadPage.{BadPage}
use Rattle.page_codec.specs.Form.{page_of}
use Rattle.page_codec.specs.Packing.{PageInHand, fits, first_page, page_given, hand_after}
use Rattle.page_codec.specs.Reading.{PageContent, page_read}
use Rattle.solo_base.specs.Prefixes.{IsPrefixOf}
use Rattle.batch_procs.specs.Jobs.{Jobs, AreJobs}
use Rattle.batch_procs.specs.Parcels.{Parcel, OfFeed, OfPage, OfLine, OfLoad, loads, mark, IsMarked, NothingBehind}
use Rattle.batch_procs.specs.Process.{Process}
use Rattle.batch_procs.specs.Sends.{feeds, as_parcels, as_lines, marked, has_end, items, stream, packed, items_then, behind, unpacked_by, unpacked, until_end, lines_of, job_lines, job_sends, job_wants, output_lines}
use Rattle.batch_procs.specs.Table.{no_wants, card, input, job, output, printer, nobody, process}
use Rattle.batch_procs.specs.Laws.{IsRelay}
use Rattle.batch_procs.specs.Parts.{IsMonotone, behind-both, part-same, part-cons, part-front}

-- ---- a prefix of what is taken gives a prefix of what is put
items-monotone : IsMonotone items
items-monotone [] more = (items more, refl)
items-monotone (feed.Item item ∷ some) more = part-cons item _ _ (items-monotone some more)
items-monotone (feed.End ∷ some) more = ([], refl)

lines_of-monotone : IsMonotone lines_of
lines_of-monotone [] more = (lines_of more, refl)
lines_of-monotone (Line line ∷ some) more = part-cons line _ _ (lines_of-monotone some more)
lines_of-monotone (Spoiled ∷ some) more = lines_of-monotone some more

items_then-part : (xs : List Item) (part whole : List Feed) → IsPrefixOf part whole → IsPrefixOf (items_then xs part) (items_then xs whole)
items_then-part [] part whole is = is
items_then-part (item ∷ xs) part whole is = part-cons (feed.Item item) _ _ (items_then-part xs part whole is)

behind-part : (last : Bool) (part whole : List Feed) → IsPrefixOf part whole → IsPrefixOf (behind last part) (behind last whole)
behind-part true part whole is = ([], refl)
behind-part false part whole is = is

unpacked-part : (content : Result PageContent BadPage) (last : Bool) (part whole : List Feed) → IsPrefixOf part whole
    → IsPrefixOf (unpacked_by content last part) (unpacked_by content last whole)
unpacked-part (Ok content) last part whole is = items_then-part content.items _ _ (behind-part last part whole is)
unpacked-part (Err bad) last part whole is = ([], refl)

-- either the end has come, and nothing more is seen; or all items are seen
pub record GoesOn (some more : List Feed) : Type 0 where
  pub items_are : items (some ++ more) ≡ items some ++ items more
  pub end_is : has_end (some ++ more) ≡ has_end more

pub ended-same : (some more : List Feed) → has_end some ≡ true → (items (some ++ more) ≡ items some) × (has_end (some ++ more) ≡ true)
ended-same [] more e = absurd cc
ended-same (feed.Item item ∷ some) more e = let rest = ended-same some more e in (ap (λ xs. item ∷ xs) rest.0, rest.1)
ended-same (feed.End ∷ some) more e = (refl, refl)

pub goes-on : (some more : List Feed) → has_end some ≡ false → GoesOn some more
goes-on [] more e = record { items_are = refl; end_is = refl }
goes-on (feed.Item item ∷ some) more e = let rest = goes-on some more e in record { items_are = ap (λ xs. item ∷ xs) rest.items_are; end_is = rest.end_is }
goes-on (feed.End ∷ some) more e = absurd cc

stream-more : (part rest : List Item) (ended : Bool) → IsPrefixOf (stream part false) (stream (part ++ rest) ended)
stream-more [] rest ended = (stream rest ended, refl)
stream-more (x ∷ part) rest ended = part-cons (feed.Item x) _ _ (stream-more part rest ended)

stream-part : (part whole : List Item) (ended : Bool) → IsPrefixOf part whole → IsPrefixOf (stream part false) (stream whole ended)
stream-part part whole ended (rest, e) = subst (λ all. IsPrefixOf (stream part false) (stream all ended)) e (stream-more part rest ended)

map-more : (part rest : List (List ℕ)) → IsPrefixOf (map Line part) (map Line (part ++ rest))
map-more [] rest = (map Line rest, refl)
map-more (x ∷ part) rest = part-cons (Line x) _ _ (map-more part rest)

map-part : (part whole : List (List ℕ)) → IsPrefixOf part whole → IsPrefixOf (map Line part) (map Line whole)
map-part part whole (rest, e) = subst (λ all. IsPrefixOf (map Line part) (map Line all)) e (map-more part rest)

-- what a process makes of the items so far, and of all
abbrev pub OfItems : (List Item → Bool → List Item) → List Feed → List Feed
OfItems makes all = stream (makes (items all) (has_end all)) (has_end all)

stream-monotone : (makes : List Item → Bool → List Item) →
    ((some more : List Item) (ended : Bool) → IsPrefixOf (makes some false) (makes (some ++ more) ended))
    → IsMonotone (OfItems makes)
stream-monotone makes part some more =
    let P : Bool → Type 0 = λ t. has_end some ≡ t → IsPrefixOf (stream (makes (items some) t) t) (OfItems makes (some ++ more)) in
    elim (has_end some) as P [
      | true ↦ (λ e. let same = ended-same some more e in
          subst (λ t. IsPrefixOf (stream (makes (items some) true) true) (stream (makes (items (some ++ more)) t) t)) (sym same.1)
          (subst (λ xs. IsPrefixOf (stream (makes (items some) true) true) (stream (makes xs true) true)) (sym same.0)
          (part-same (stream (makes (items some) true) true))))
      | false ↦ (λ e. let on = goes-on some more e in
          stream-part (makes (items some) false) (makes (items (some ++ more)) (has_end (some ++ more))) (has_end (some ++ more))
          (subst (λ xs. IsPrefixOf (makes (items some) false) (makes xs (has_end (some
          ++ more)))) (sym on.items_are) (part (items some) (items more) (has_end (some ++ more)))))
    ] refl

same-part : {A : Type 0} (part whole : List A) → part ≡ whole → IsPrefixOf part whole
same-part part whole is = subst (λ all. IsPrefixOf part all) is (part-same part)

output_lines-monotone : IsMonotone output_lines
output_lines-monotone = stream-monotone (λ xs ended. map Line (lines_of xs)) (λ some more ended. map-part _ _ (lines_of-monotone some more))

pub mark-of : (place : ℕ) (last : Bool) (content : List ℕ) → mark (page_of place last content) ≡ last
mark-of place true content = refl
mark-of place false content = refl

one-longer : {A : Type 0} (xs : List A) (x : A) → length (xs ++ x ∷ []) ≡ suc (length xs)
one-longer [] x = refl
one-longer (y ∷ xs) x = ap suc (one-longer xs x)

drop-next : {A : Type 0} (n : ℕ) (xs : List A) (x : A) (later : List A) → drop n xs ≡ x ∷ later → drop (suc n) xs ≡ later
drop-next zero xs x later e = ap (λ ys. drop 1 ys) e
drop-next (suc n) [] x later e = absurd cc
drop-next (suc n) (y ∷ xs) x later e = drop-next n xs x later e

-- ---- lists of parcels
module _ {L : Type 0} where
  feeds-monotone : (some more : List (Parcel L)) → IsPrefixOf (feeds some) (feeds (some ++ more))
  feeds-monotone [] more = (feeds more, refl)
  feeds-monotone (OfFeed f ∷ some) more = part-cons f _ _ (feeds-monotone some more)
  feeds-monotone (OfPage page last ∷ some) more = feeds-monotone some more
  feeds-monotone (OfLine line ∷ some) more = feeds-monotone some more
  feeds-monotone (OfLoad load ∷ some) more = feeds-monotone some more

  pub unpacked-monotone : (place : ℕ) (some more : List (Parcel L)) → IsPrefixOf (unpacked place some) (unpacked place (some ++ more))
  unpacked-monotone place [] more = (unpacked place more, refl)
  unpacked-monotone place (OfPage page last ∷ some) more = unpacked-part (page_read place last page) last _ _
      (unpacked-monotone ((place + 1) % 2 ^ 16) some more)
  unpacked-monotone place (OfLoad load ∷ some) more = unpacked-monotone place some more
  unpacked-monotone place (OfFeed f ∷ some) more = ([], refl)
  unpacked-monotone place (OfLine line ∷ some) more = ([], refl)

  pub loads-append : (some more : List (Parcel L)) → loads (some ++ more) ≡ loads some ++ loads more
  loads-append [] more = refl
  loads-append (OfLoad load ∷ some) more = ap (λ ls. load ∷ ls) (loads-append some more)
  loads-append (OfFeed f ∷ some) more = loads-append some more
  loads-append (OfPage page last ∷ some) more = loads-append some more
  loads-append (OfLine line ∷ some) more = loads-append some more

  pub loads-one : (all : List (Parcel L)) (load : L) → loads (all ++ OfLoad load ∷ []) ≡ loads all ++ load ∷ []
  loads-one all load = loads-append all (OfLoad load ∷ [])

  pub unpacked-load : (place : ℕ) (all : List (Parcel L)) (load : L) → unpacked place (all ++ OfLoad load ∷ []) ≡ unpacked place all
  unpacked-load place [] load = refl
  unpacked-load place (OfPage page last ∷ all) load =
      ap (λ fs. unpacked_by (page_read place last page) last fs) (unpacked-load ((place + 1) % 2 ^ 16) all load)
  unpacked-load place (OfLoad first ∷ all) load = unpacked-load place all load
  unpacked-load place (OfFeed f ∷ all) load = refl
  unpacked-load place (OfLine line ∷ all) load = refl

  none-wanted : (all : List (Parcel L)) (load : L) (file : List ℕ) (later : List (List ℕ)) → no_wants all ≡ file ∷ later
      → no_wants (all ++ OfLoad load ∷ []) ≡ later
  none-wanted all load file later e = absurd cc

  given-ends : (given : Option Page) (rest : List (Parcel L)) → NothingBehind rest → NothingBehind (marked false (option_to_list given) ++ rest)
  given-ends None rest is = is
  given-ends (Some page) rest is = ((λ e. absurd cc), is)

  -- what holds of two processes holds of either
  either : (Is : Process L → Type 0) (t : Bool) (yes_p no_p : Process L) → Is yes_p → Is no_p → Is (if t then yes_p else no_p)
  either Is true yes_p no_p a b = a
  either Is false yes_p no_p a b = b

-- ---- lists of feeds and lines as parcels, and the four that know no jobs
module _ (L : Type 0) where
  as_parcels-monotone : IsMonotone (as_parcels {L = L})
  as_parcels-monotone [] more = (as_parcels more, refl)
  as_parcels-monotone (f ∷ some) more = part-cons (OfFeed f) _ _ (as_parcels-monotone some more)

  as_lines-monotone : IsMonotone (as_lines {L = L})
  as_lines-monotone [] more = (as_lines more, refl)
  as_lines-monotone (line ∷ some) more = part-cons (OfLine line) _ _ (as_lines-monotone some more)

  pub packed-monotone : (hand : PageInHand) → IsMonotone (packed {L = L} hand)
  packed-monotone hand [] more = (packed hand more, refl)
  packed-monotone hand (feed.Item item ∷ some) more =
      part-front (marked false (option_to_list (page_given hand item))) _ _ (packed-monotone (hand_after hand item) some more)
  packed-monotone hand (feed.End ∷ some) more = ([], refl)

  stream-ends : (xs : List Item) (ended : Bool) → NothingBehind (as_parcels {L = L} (stream xs ended))
  stream-ends [] true = ((λ e. refl), tt)
  stream-ends [] false = tt
  stream-ends (item ∷ xs) ended = ((λ e. absurd cc), stream-ends xs ended)

  lines-end : (all : List (List ℕ)) → NothingBehind (as_lines {L = L} all)
  lines-end [] = tt
  lines-end (line ∷ rest) = ((λ e. absurd cc), lines-end rest)

  pub packed-ends : (hand : PageInHand) (all : List Feed) → NothingBehind (packed {L = L} hand all)
  packed-ends hand [] = tt
  packed-ends hand (feed.Item item ∷ rest) = given-ends (page_given hand item) _ (packed-ends (hand_after hand item) rest)
  packed-ends hand (feed.End ∷ rest) = ((λ e. refl), tt)

  parcels-marked : (all : List Feed) → AllByRecursion IsMarked (as_parcels {L = L} all)
  parcels-marked [] = tt
  parcels-marked (f ∷ rest) = (tt, parcels-marked rest)

  lines-marked : (all : List (List ℕ)) → AllByRecursion IsMarked (as_lines {L = L} all)
  lines-marked [] = tt
  lines-marked (line ∷ rest) = (tt, lines-marked rest)

  pub packed-marked : (hand : PageInHand) (all : List Feed) → AllByRecursion IsMarked (packed {L = L} hand all)
  packed-marked hand [] = tt
  packed-marked hand (feed.Item item ∷ rest) =
      let more = packed-marked (hand_after hand item) rest in
      let P : Bool
      → Type 0 =
      λ t. AllByRecursion IsMarked (marked {L = L} false (option_to_list (if t then None else Some (page_of hand.place false hand.content)))
      ++ packed (hand_after hand item) rest) in
      elim (fits hand item) as P [ true ↦ more | false ↦ (mark-of hand.place false hand.content, more) ]
  packed-marked hand (feed.End ∷ rest) = (mark-of hand.place true hand.content, tt)

  pub card-relay : IsRelay (card {L = L})
  card-relay = record {
    takes = tt;
    monotone =
        behind-both feeds (λ all. as_parcels (until_end all)) feeds-monotone
        (behind-both until_end as_parcels (stream-monotone (λ xs ended. xs) (λ some more ended. (more, refl))) as_parcels-monotone);
    marked = λ all. parcels-marked (until_end (feeds all));
    stream = λ all. stream-ends (items (feeds all)) (has_end (feeds all));
    loads = none-wanted;
    ordered = (tt, tt);
    few = lit< tt;
  }

  pub input-relay : IsRelay (input {L = L})
  input-relay = record {
    takes = tt;
    monotone = behind-both feeds (packed first_page) feeds-monotone (packed-monotone first_page);
    marked = λ all. packed-marked first_page (feeds all);
    stream = λ all. packed-ends first_page (feeds all);
    loads = none-wanted;
    ordered = ((lit< tt, tt), (tt, tt));
    few = lit< tt;
  }

  pub output-relay : IsRelay (output {L = L})
  output-relay = record {
    takes = tt;
    monotone =
        behind-both (unpacked 0) (λ all. as_parcels (output_lines all)) (unpacked-monotone 0)
        (behind-both output_lines as_parcels output_lines-monotone as_parcels-monotone);
    marked = λ all. parcels-marked (output_lines (unpacked 0 all));
    stream = λ all. stream-ends (map Line (lines_of (items (unpacked 0 all)))) (has_end (unpacked 0 all));
    loads = none-wanted;
    ordered = ((lit< tt, tt), (tt, tt));
    few = lit< tt;
  }

  pub printer-relay : IsRelay (printer {L = L})
  printer-relay = record {
    takes = tt;
    monotone =
        behind-both feeds (λ all. as_lines (lines_of (items all))) feeds-monotone
        (behind-both items (λ xs. as_lines (lines_of xs)) items-monotone (behind-both lines_of as_lines lines_of-monotone as_lines-monotone));
    marked = λ all. lines-marked (lines_of (items (feeds all)));
    stream = λ all. lines-end (lines_of (items (feeds all)));
    loads = none-wanted;
    ordered = (tt, tt);
    few = lit< tt;
  }

  nobody-relay : IsRelay (nobody {L = L})
  nobody-relay = record {
    takes = tt;
    monotone = λ some more. ([], refl);
    marked = λ all. tt;
    stream = λ all. tt;
    loads = none-wanted;
    ordered = tt;
    few = lit< tt;
  }

-- ---- the job process, with more pages and more loads; a load takes the first file that is wanted
module _ {L : Type 0} {J : Jobs L} (jobs : AreJobs J) where
  jobs-on-ended : (xs : List Item) (found later : List L) (t : Bool) → J.whole xs found true ≡ t
      → IsPrefixOf (stream (map Line (J.lines xs found true)) t)
      (stream (map Line (J.lines xs (found ++ later) true)) (J.whole xs (found ++ later) true))
  jobs-on-ended xs found later true whole =
      let lines = jobs.lines_stay xs found later whole in
      let stays = jobs.stays_whole xs found later whole in
      same-part _ _ (ap (λ ls. stream (map Line ls) true) (sym lines) ∙ ap (λ t. stream (map Line (J.lines xs (found ++ later) true)) t) (sym stays))
  jobs-on-ended xs found later false lacks =
      stream-part (map Line (J.lines xs found true)) (map Line (J.lines xs (found ++ later) true)) (J.whole xs (found ++ later) true)
      (map-part _ _ (jobs.loads_add xs found later lacks))

  job_lines-on : (some more : List Feed) (found later : List L) → IsPrefixOf (job_lines J some found) (job_lines J (some ++ more) (found ++ later))
  job_lines-on some more found later = by (has_end some) refl
    where
      by : (t : Bool) → has_end some ≡ t → IsPrefixOf (job_lines J some found) (job_lines J (some ++ more) (found ++ later))
      by true e =
          let same = ended-same some more e in
          let now : stream (map Line (J.lines (items some) found true)) (J.whole (items some) found true) ≡ job_lines J some found =
          ap (λ t. stream (map Line (J.lines (items some) found t)) (J.whole (items some) found t)) (sym e) in
          let then_is : stream (map Line (J.lines (items some) (found ++ later) true)) (J.whole (items some) (found ++ later) true)
          ≡ job_lines J (some ++ more) (found ++ later) =
          ap (λ t. stream (map Line (J.lines (items some) (found ++ later) t)) (J.whole (items some) (found ++ later) t)) (sym same.1)
          ∙ ap (λ xs. stream (map Line (J.lines xs (found ++ later) (has_end (some ++ more)))) (J.whole xs (found ++ later) (has_end (some ++ more))))
          (sym same.0) in
          subst (λ part. IsPrefixOf part (job_lines J (some ++ more) (found ++ later))) now
          (subst (λ whole. IsPrefixOf (stream (map Line (J.lines (items some) found true)) (J.whole (items some) found true)) whole) then_is
          (jobs-on-ended (items some) found later (J.whole (items some) found true) refl))
      by false e =
          let on = goes-on some more e in
          let t = has_end (some ++ more) in
          let now : stream (map Line (J.lines (items some) found false)) false ≡ job_lines J some found =
          ap (λ w. stream (map Line (J.lines (items some) found false)) w) (sym (jobs.not_whole (items some) found))
          ∙ ap (λ t. stream (map Line (J.lines (items some) found t)) (J.whole (items some) found t)) (sym e) in
          let then_is : stream (map Line (J.lines (items some ++ items more) (found ++ later) t)) (J.whole (items (some ++ more)) (found ++ later) t)
          ≡ job_lines J (some ++ more) (found ++ later) =
          ap (λ xs. stream (map Line (J.lines xs (found ++ later) t)) (J.whole (items (some ++ more)) (found ++ later) t)) (sym on.items_are) in
          subst (λ part. IsPrefixOf part (job_lines J (some ++ more) (found ++ later))) now
          (subst (λ whole. IsPrefixOf (stream (map Line (J.lines (items some) found false)) false) whole) then_is
          (stream-part (map Line (J.lines (items some) found false)) (map Line (J.lines (items some ++ items more) (found ++ later) t))
          (J.whole (items (some ++ more)) (found ++ later) t)
          (map-part _ _ (jobs.items_add (items some) (items more) found later t))))

  job-monotone : IsMonotone (job_sends J)
  job-monotone some more =
      let (rest, e) = unpacked-monotone 0 some more in
      let (later, is) = job_lines-on (unpacked 0 some) rest (loads some) (loads more) in
      let whole : job_lines J (unpacked 0 some) (loads some) ++ later ≡ job_lines J (unpacked 0 (some ++ more)) (loads (some ++ more)) =
      is ∙ ap (λ fs. job_lines J fs (loads some ++ loads more)) e ∙ ap (λ ls. job_lines J (unpacked 0 (some ++ more)) ls) (sym (loads-append some more)) in
      let (new, all) = packed-monotone L first_page (job_lines J (unpacked 0 some) (loads some)) later in
      (new, all ∙ ap (packed first_page) whole)

  job-loads : (all : List (Parcel L)) (load : L) (file : List ℕ) (later : List (List ℕ)) → job_wants J all ≡ file ∷ later
      → job_wants J (all ++ OfLoad load ∷ []) ≡ later
  job-loads all load file later e =
      ap (λ ls. drop (length ls) (J.named (items (unpacked 0 (all ++ OfLoad load ∷ []))))) (loads-one all load)
      ∙ ap (λ n. drop n (J.named (items (unpacked 0 (all ++ OfLoad load ∷ []))))) (one-longer (loads all) load)
      ∙ ap (λ fs. drop (suc (length (loads all))) (J.named (items fs))) (unpacked-load 0 all load)
      ∙ drop-next (length (loads all)) (J.named (items (unpacked 0 all))) file later e

  pub job-relay : IsRelay (job J)
  job-relay = record {
    takes = tt;
    monotone = job-monotone;
    marked = λ all. packed-marked L first_page (job_lines J (unpacked 0 all) (loads all));
    stream = λ all. packed-ends L first_page (job_lines J (unpacked 0 all) (loads all));
    loads = job-loads;
    ordered = ((lit< tt, tt), (tt, tt));
    few = lit< tt;
  }

  pub relays : (p : ℕ) → IsRelay (process J p)
  relays p =
      either IsRelay (p == 1) card _ (card-relay L)
      (either IsRelay (p == 2) input _ (input-relay L)
      (either IsRelay (p == 3) (job J) _ job-relay (either IsRelay (p == 4) output _ (output-relay L)
      (either IsRelay (p == 5) printer nobody (printer-relay L) (nobody-relay L)))))
