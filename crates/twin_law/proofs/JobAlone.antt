-- A job process alone: for each stream of items the lines of its unit as a stream, and then an empty one.
use Rattle.std.proofs.Common.{◌≡◌, ℕ, zero, suc, ◌+◌, ◌≤◌, Bool, true, false, List, [], ◌∷◌, ◌++◌, length, drop, map, Option, None, Some, refl, sym, ◌∙◌, ap, subst, arith}
use Rattle.std.specs.Prelude.{option_to_list}
use Rattle.std.specs.List.{AllByRecursion}
use Rattle.std.proofs.lemmas.List.{append_assoc, append-nil, length-map, map-append}
use Rattle.solo_base.specs.declared.item.Item.{Item}
use Rattle.solo_base.specs.declared.item.Item.TheVariants.{Line}
use Rattle.solo_base.specs.declared.page.Page.{Page}
use Rattle.solo_base.specs.Prefixes.{IsPrefixOf}
use Rattle.page_codec.specs.Form.{IsPage}
use Rattle.page_codec.specs.Packing.{PageInHand, first_page, page_given, hand_after}
use Rattle.page_codec.specs.Stream.{IsStream}
use Rattle.batch_procs.specs.Jobs.{Jobs, AreJobs, FilesAs}
use Rattle.batch_procs.specs.Parcels.{Parcel, OfPage, mark}
use Rattle.twin_law.specs.Process.{Process}
use Rattle.twin_law.specs.Sides.{Twin, A, B, to_job, from_job}
use Rattle.twin_law.specs.Input.{last_of, empty_page}
use Rattle.twin_law.specs.Job.{Stream, no_stream, JobPlace, TakesItems, LoadsFile, Toils, PutsLines, PutsLastLines, HasWorked, wanted, toils, behind_items, with_page, behind_page, page_taken, with_load, packed_on, packs_lines, with_packed, rests, lines_ahead, behind_work, job_behind, job}
use Rattle.twin_law.specs.Output.{is_some}
use Rattle.twin_law.specs.Alone.{reply_of, first_parcel, less_one, Put, alone, put_at, puts}
use Rattle.twin_law.proofs.After.{after}
use Rattle.twin_law.proofs.Goes.{Goes, goes-on, stays-put}
use Rattle.twin_law.proofs.Strips.{read-marked, given_pages, last_hand, hand-append, given-append, all_pages, as_pages, Strip, IsStrip, empty-form, parcels, all_put}

abbrev pub page_puts : {L : Type 0} → Twin → List Page → List (Put L)
page_puts side [] = []
page_puts side (page ∷ rest) = record { at = from_job side; parcel = OfPage page (mark page) } ∷ page_puts side rest

pub page_puts-append : (L : Type 0) (side : Twin) (some more : List Page) → page_puts {L = L} side (some ++ more) ≡ page_puts side some ++ page_puts side more
page_puts-append L side [] more = refl
page_puts-append L side (page ∷ some) more = ap (λ rest. record { at = from_job side; parcel = OfPage page (mark page) } ∷ rest) (page_puts-append L side some more)

pub put-all : (L : Type 0) (side : Twin) (pages : List Page) → put_at (from_job side) (page_puts {L = L} side pages) ≡ as_pages pages
put-all L A [] = refl
put-all L A (page ∷ rest) = ap (λ ps. OfPage page (mark page) ∷ ps) (put-all L A rest)
put-all L B [] = refl
put-all L B (page ∷ rest) = ap (λ ps. OfPage page (mark page) ∷ ps) (put-all L B rest)

less-here : {L : Type 0} (side : Twin) (w : ℕ → List (Parcel L)) → less_one w (to_job side) (to_job side) ≡ drop 1 (w (to_job side))
less-here A w = refl
less-here B w = refl

drop-front : {T : Type 0} (front rest : List T) → drop (length front) (front ++ rest) ≡ rest
drop-front [] rest = refl
drop-front (x ∷ front) rest = drop-front front rest

drop-next : {T : Type 0} (n : ℕ) (all : List T) (x : T) (later : List T) → drop n all ≡ x ∷ later → drop (suc n) all ≡ later
drop-next zero [] x later e = absurd cc
drop-next zero (y ∷ all) x later e = cc
drop-next (suc n) [] x later e = absurd cc
drop-next (suc n) (y ∷ all) x later e = drop-next n all x later e

one-longer : {T : Type 0} (some : List T) (x : T) → length (some ++ x ∷ []) ≡ suc (length some)
one-longer [] x = refl
one-longer (y ∷ some) x = ap suc (one-longer some x)

plus-one : (n : ℕ) → n + 1 ≡ suc n
plus-one n = omega arith

none-of : {T : Type 0} (xs : List T) → length xs ≤ 0 → xs ≡ []
none-of [] few = refl
none-of (x ∷ xs) few = absurd (omega (arith, few))

module _ {L : Type 0} {J : Jobs L} (jobs : AreJobs J) (F : FilesAs L) (side : Twin) where
  abbrev P : Process L
  P = job J side

  abbrev W : Type 0
  W = ℕ → List (Parcel L)

  abbrev Gets : JobPlace L → W → List (Put L) → JobPlace L → W → Type 0
  Gets x w puts y v = Goes F P x w puts y v

  -- what files are loaded as that items name, and the lines so far with these
  abbrev loaded : List Item → List L
  loaded items = map F (J.named items)

  abbrev lines_so_far : List Item → Bool → List (List ℕ)
  lines_so_far items last = J.lines items (loaded items) last

  more-loaded : (items more : List Item) → loaded (items ++ more) ≡ loaded items ++ loaded more
  more-loaded items more = ap (map F) (jobs.named_add items more) ∙ map-append F (J.named items) (J.named more)

  -- ---- the files of a page are loaded
  loads-go : (files : List (List ℕ)) (s : Stream L) (last : Bool) (w : W) → wanted J s ≡ files
      → Gets (toils (wanted J s) s last) w [] (Toils (record s { loads = s.loads ++ map F files }) last) w
  loads-go [] s last w e =
      subst (λ (loads : List L). Gets (toils (wanted J s) s last) w [] (Toils (record s { loads = loads }) last) w) (sym (append-nil s.loads))
      (subst (λ x. Gets x w [] (Toils s last) w) (sym (ap (λ files. toils files s last) e)) (stays-put F P (Toils s last) w))
  loads-go (file ∷ later) s last w e =
      let now = with_load s (F file) in
      let less : wanted J now ≡ later = ap (λ n. drop n (J.named s.items)) (one-longer s.loads (F file)) ∙ drop-next (length s.loads) (J.named s.items) file later e in
      let rest = loads-go later now last w less in
      let one : Gets (LoadsFile file s last) w [] (toils (wanted J now) now last) w = λ n. (suc n, omega arith, refl, refl) in
      let here : Gets (toils (wanted J s) s last) w [] (toils (wanted J now) now last) w =
      subst (λ x. Gets x w [] (toils (wanted J now) now last) w) (sym (ap (λ files. toils files s last) e)) one in
      subst (λ (loads : List L). Gets (toils (wanted J s) s last) w [] (Toils (record s { loads = loads }) last) w) (append_assoc s.loads (F file ∷ []) (map F later))
      (goes-on F P (toils (wanted J s) s last) (toils (wanted J now) now last) (Toils (record now { loads = now.loads ++ map F later }) last) w w w [] [] here rest)

  -- ---- the work: all lines that are ahead are packed, one page after the other
  abbrev PacksAll : List (List ℕ) → Type 0
  PacksAll more = (s : Stream L) (last : Bool) (front : List (List ℕ)) (n : ℕ) (hand : PageInHand) (w : W) → J.lines s.items s.loads last ≡ front ++ more → n ≡ length front
      → Gets (behind_work s last (packs_lines hand n more)) w (page_puts side (given_pages hand (map Line more)))
      (rests (with_packed s (length (J.lines s.items s.loads last)) (last_hand hand (map Line more))) last) w

  -- behind a line that gives a page, or none
  packs-line : (line : List ℕ) (rest : List (List ℕ)) (s : Stream L) (last : Bool) (front : List (List ℕ)) (n : ℕ) (hand : PageInHand) (w : W)
      → J.lines s.items s.loads last ≡ front ++ line ∷ rest → n ≡ length front → (given : Option Page) → PacksAll rest
      → Gets (behind_work s last (packed_on given hand (n + 1) (packs_lines hand (n + 1) rest))) w (page_puts side (option_to_list given ++ given_pages hand (map Line rest)))
      (rests (with_packed s (length (J.lines s.items s.loads last)) (last_hand hand (map Line rest))) last) w
  packs-line line rest s last front n hand w e same None all =
      all s last (front ++ line ∷ []) (n + 1) hand w (e ∙ sym (append_assoc front (line ∷ []) rest)) (plus-one n ∙ ap suc same ∙ sym (one-longer front line))
  packs-line line rest s last front n hand w e same (Some page) all =
      let parts : J.lines s.items s.loads last ≡ (front ++ line ∷ []) ++ rest = e ∙ sym (append_assoc front (line ∷ []) rest) in
      let longer : n + 1 ≡ length (front ++ line ∷ []) = plus-one n ∙ ap suc same ∙ sym (one-longer front line) in
      let now = with_packed s (n + 1) hand in
      let over = rests (with_packed s (length (J.lines s.items s.loads last)) (last_hand hand (map Line rest))) last in
      let put : Gets (PutsLines page now last) w (page_puts side (page ∷ [])) (Toils now last) w = λ n. (suc n, omega arith, refl, refl) in
      let ahead : lines_ahead J now last ≡ rest =
      ap (λ all. drop (n + 1) all) parts ∙ ap (λ n. drop n ((front ++ line ∷ []) ++ rest)) longer ∙ drop-front (front ++ line ∷ []) rest in
      let work : Gets (Toils now last) w [] (behind_work now last (packs_lines hand (n + 1) rest)) w =
      subst (λ more. Gets (Toils now last) w [] (behind_work now last (packs_lines hand (n + 1) more)) w) ahead (λ n. (suc n, omega arith, refl, refl)) in
      let more = all s last (front ++ line ∷ []) (n + 1) hand w parts longer in
      goes-on F P (PutsLines page now last) (Toils now last) over w w w (page_puts side (page ∷ [])) (page_puts side (given_pages hand (map Line rest))) put
      (goes-on F P (Toils now last) (behind_work s last (packs_lines hand (n + 1) rest)) over w w w [] (page_puts side (given_pages hand (map Line rest))) work more)

  packs-all : (more : List (List ℕ)) → PacksAll more
  packs-all [] s last front n hand w e same =
      let all : length (J.lines s.items s.loads last) ≡ n = ap length (e ∙ append-nil front) ∙ sym same in
      subst (λ n'. Gets (behind_work s last (packs_lines hand n [])) w [] (rests (with_packed s n' hand) last) w) (sym all)
      (stays-put F P (rests (with_packed s n hand) last) w)
  packs-all (line ∷ rest) s last front n hand w e same =
      packs-line line rest s last front n (hand_after hand (Line line)) w e same (page_given hand (Line line)) (packs-all rest)

  -- ---- a stream under way, with these items, all lines so far of which are packed
  abbrev mid : ℕ → List Item → Stream L
  mid n items = record {
    pages = n;
    items = items;
    loads = loaded items;
    packed = length (lines_so_far items false);
    hand = last_hand first_page (map Line (lines_so_far items false));
  }

  -- behind a page of it all files are loaded
  abbrev ready : ℕ → List Item → List Item → Stream L
  ready n items more = record {
    pages = n + 1;
    items = items ++ more;
    loads = loaded (items ++ more);
    packed = length (lines_so_far items false);
    hand = last_hand first_page (map Line (lines_so_far items false));
  }

  take-goes : (s : Stream L) (w : W) (page : Page) (last : Bool) (rest : List (Parcel L)) → w (to_job side) ≡ OfPage page last ∷ rest
      → Gets (TakesItems s) w [] (behind_page J s (page_taken s page last)) (less_one w (to_job side))
  take-goes s w page last rest e n = (
    suc n,
    omega arith,
    ap (λ ps. alone F P n (job_behind J (TakesItems s) (reply_of (first_parcel ps))) (less_one w (to_job side))) e,
    ap (λ ps. after F P n (job_behind J (TakesItems s) (reply_of (first_parcel ps))) (less_one w (to_job side))) e,
  )

  behind-some : (items : List Item) (s : Stream L) → is_some items ≡ true → behind_items J items s true ≡ toils (wanted J s) s true
  behind-some [] s e = absurd cc
  behind-some (item ∷ rest) s e = refl

  behind-more : (items : List Item) (s : Stream L) → behind_items J items s false ≡ toils (wanted J s) s false
  behind-more [] s = refl
  behind-more (item ∷ rest) s = refl

  behind-by : (last : Bool) (items : List Item) (s : Stream L) → (last ≡ true → is_some items ≡ true) → behind_items J items s last ≡ toils (wanted J s) s last
  behind-by true items s some = behind-some items s (some refl)
  behind-by false items s some = behind-more items s

  -- the lines that the page adds
  added : (items more : List Item) (last : Bool) → IsPrefixOf (lines_so_far items false) (lines_so_far (items ++ more) last)
  added items more last =
      let (rest, e) = jobs.items_add items more (loaded items) (loaded more) last in
      (rest, e ∙ ap (λ loads. J.lines (items ++ more) loads last) (sym (more-loaded items more)))

  abbrev rest_of : List Item → List Item → Bool → List (List ℕ)
  rest_of items more last = (added items more last).0

  abbrev filled : List Item → List Item → Bool → List Page
  filled items more last = given_pages (last_hand first_page (map Line (lines_so_far items false))) (map Line (rest_of items more last))

  hand-is : (items more : List Item) (last : Bool)
      → last_hand (last_hand first_page (map Line (lines_so_far items false))) (map Line (rest_of items more last)) ≡ last_hand first_page (map Line (lines_so_far (items ++ more) last))
  hand-is items more last =
      sym (hand-append first_page (map Line (lines_so_far items false)) (map Line (rest_of items more last)))
      ∙ ap (last_hand first_page) (sym (map-append Line (lines_so_far items false) (rest_of items more last)))
      ∙ ap (λ lines. last_hand first_page (map Line lines)) (added items more last).1

  pages-are : (items more : List Item) (last : Bool)
      → given_pages first_page (map Line (lines_so_far items false)) ++ filled items more last ≡ given_pages first_page (map Line (lines_so_far (items ++ more) last))
  pages-are items more last =
      sym (given-append first_page (map Line (lines_so_far items false)) (map Line (rest_of items more last)))
      ∙ ap (given_pages first_page) (sym (map-append Line (lines_so_far items false) (rest_of items more last)))
      ∙ ap (λ lines. given_pages first_page (map Line lines)) (added items more last).1

  -- a page is taken, its files are loaded, and its lines are packed
  abbrev worked : ℕ → List Item → List Item → Bool → Stream L
  worked n items more last = record {
    pages = n + 1;
    items = items ++ more;
    loads = loaded (items ++ more);
    packed = length (lines_so_far (items ++ more) last);
    hand = last_hand first_page (map Line (lines_so_far (items ++ more) last));
  }

  page-goes : (n : ℕ) (items more : List Item) (last : Bool) (w : W) (page : Page) (rest : List (Parcel L)) → w (to_job side) ≡ OfPage page (mark page) ∷ rest
      → IsPage n last more page → (last ≡ true → is_some (items ++ more) ≡ true)
      → Gets (TakesItems (mid n items)) w (page_puts side (filled items more last)) (rests (worked n items more last) last) (less_one w (to_job side))
  page-goes n items more last w page rest e form some =
      let v = less_one w (to_job side) in
      let start = TakesItems (mid n items) in
      let s = with_page (mid n items) more in
      let took : Gets start w [] (toils (wanted J s) s last) v =
      subst (λ x. Gets start w [] x v) (ap (behind_page J (mid n items)) (read-marked n last more page form) ∙ behind-by last (items ++ more) s some)
      (take-goes (mid n items) w page (mark page) rest e) in
      let want : wanted J s ≡ J.named more =
      ap (λ k. drop k (J.named (items ++ more))) (length-map (J.named items) F) ∙ ap (drop (length (J.named items))) (jobs.named_add items more)
      ∙ drop-front (J.named items) (J.named more) in
      let toil = Toils (ready n items more) last in
      let load : Gets (toils (wanted J s) s last) v [] toil v =
      subst (λ (loads : List L). Gets (toils (wanted J s) s last) v [] (Toils (record s { loads = loads }) last) v) (sym (more-loaded items more))
      (loads-go (J.named more) s last v want) in
      let front = lines_so_far items false in
      let added_lines = rest_of items more last in
      let parts : lines_so_far (items ++ more) last ≡ front ++ added_lines = sym (added items more last).1 in
      let ahead : lines_ahead J (ready n items more) last ≡ added_lines = ap (drop (length front)) parts ∙ drop-front front added_lines in
      let hand = last_hand first_page (map Line front) in
      let work : Gets toil v [] (behind_work (ready n items more) last (packs_lines hand (length front) added_lines)) v =
      subst (λ lines. Gets toil v [] (behind_work (ready n items more) last (packs_lines hand (length front) lines)) v) ahead (λ n. (suc n, omega arith, refl, refl)) in
      let packs : Gets (behind_work (ready n items more) last (packs_lines hand (length front) added_lines)) v (page_puts side (filled items more last)) (rests (worked n items more last) last) v =
      subst (λ hand'. Gets (behind_work (ready n items more) last (packs_lines hand (length front) added_lines)) v (page_puts side (filled items more last))
      (rests (with_packed (ready n items more) (length (lines_so_far (items ++ more) last)) hand') last) v) (hand-is items more last)
      (packs-all added_lines (ready n items more) last front (length front) hand v parts refl) in
      goes-on F P start (toils (wanted J s) s last) (rests (worked n items more last) last) w v v [] (page_puts side (filled items more last)) took
      (goes-on F P (toils (wanted J s) s last) toil (rests (worked n items more last) last) v v v [] (page_puts side (filled items more last)) load
      (goes-on F P toil (behind_work (ready n items more) last (packs_lines hand (length front) added_lines)) (rests (worked n items more last) last) v v v []
      (page_puts side (filled items more last)) work packs))

  -- the pages of all lines
  abbrev report_pages : List Item → List Page
  report_pages items = all_pages (map Line (lines_so_far items true))

  -- ---- a whole stream with items
  record Worked (n : ℕ) (items more : List Item) (rest : List (Parcel L)) (w : W) : Type 0 where
    pages : List Page
    left : W
    here : left (to_job side) ≡ rest
    goes : Gets (TakesItems (mid n items)) w (page_puts side pages) (TakesItems no_stream) left
    whole : given_pages first_page (map Line (lines_so_far items false)) ++ pages ≡ report_pages (items ++ more)

  last-goes : (n : ℕ) (items more : List Item) (w : W) (page : Page) (rest : List (Parcel L)) → w (to_job side) ≡ OfPage page (mark page) ∷ rest → IsPage n true more page
      → is_some (items ++ more) ≡ true → Worked n items more rest w
  last-goes n items more w page rest e form some =
      let v = less_one w (to_job side) in
      let last = last_of (last_hand first_page (map Line (lines_so_far (items ++ more) true))) in
      let put : Gets (PutsLastLines last true) v (page_puts side (last ∷ [])) (TakesItems no_stream) v = λ n. (suc n, omega arith, refl, refl) in
      let first = page-goes n items more true w page rest e form (λ _. some) in
      record {
        pages = filled items more true ++ last ∷ [];
        left = v;
        here = less-here side w ∙ ap (drop 1) e;
        goes = subst (λ puts. Gets (TakesItems (mid n items)) w puts (TakesItems no_stream) v) (sym (page_puts-append L side (filled items more true) (last ∷ [])))
            (goes-on F P (TakesItems (mid n items)) (PutsLastLines last true) (TakesItems no_stream) w v v (page_puts side (filled items more true)) (page_puts side (last ∷ [])) first put);
        whole = sym (append_assoc (given_pages first_page (map Line (lines_so_far items false))) (filled items more true) (last ∷ []))
            ∙ ap (λ ps. ps ++ last ∷ []) (pages-are items more true);
      }

  stream-goes : (pages : List Page) (more : List Item) (n : ℕ) (items : List Item) (rest : List (Parcel L)) (w : W) → IsStream n pages more → is_some (items ++ more) ≡ true
      → w (to_job side) ≡ as_pages pages ++ rest → Worked n items more rest w
  stream-goes [] more n items rest w is some e = absurd is
  stream-goes (page ∷ []) more n items rest w form some e = last-goes n items more w page rest e form some
  stream-goes (page ∷ next ∷ pages) more n items rest w (front, left, parts, form, is) some e =
      let v = less_one w (to_job side) in
      let same : (items ++ front) ++ left ≡ items ++ more = append_assoc items front left ∙ ap (λ more. items ++ more) (sym parts) in
      let later = stream-goes (next ∷ pages) left (n + 1) (items ++ front) rest v is (ap is_some same ∙ some) (less-here side w ∙ ap (drop 1) e) in
      let first : Gets (TakesItems (mid n items)) w (page_puts side (filled items front false)) (TakesItems (mid (n + 1) (items ++ front))) v =
      page-goes n items front false w page (as_pages (next ∷ pages) ++ rest) e form (λ no. absurd cc) in
      let both = goes-on F P (TakesItems (mid n items)) (TakesItems (mid (n + 1) (items ++ front))) (TakesItems no_stream) w v later.left
      (page_puts side (filled items front false)) (page_puts side later.pages) first later.goes in
      record {
        pages = filled items front false ++ later.pages;
        left = later.left;
        here = later.here;
        goes = subst (λ puts. Gets (TakesItems (mid n items)) w puts (TakesItems no_stream) later.left) (sym (page_puts-append L side (filled items front false) later.pages)) both;
        whole = sym (append_assoc (given_pages first_page (map Line (lines_so_far items false))) (filled items front false) later.pages)
            ∙ ap (λ ps. ps ++ later.pages) (pages-are items front false) ∙ later.whole ∙ ap report_pages same;
      }

  -- ---- all streams
  named-none : J.named [] ≡ []
  named-none = none-of (J.named []) (jobs.few_named [])

  abbrev start_by : List L → List (List ℕ) → Stream L
  start_by loads lines = record { pages = 0; items = []; loads = loads; packed = length lines; hand = last_hand first_page (map Line lines) }

  mid-start : mid 0 [] ≡ no_stream
  mid-start = ap (λ files. start_by (map F files) (J.lines [] (map F files) false)) named-none ∙ ap (start_by []) jobs.no_lines

  lines-none : lines_so_far [] false ≡ []
  lines-none = ap (λ files. J.lines [] (map F files) false) named-none ∙ jobs.no_lines

  -- the report of a unit as a strip
  abbrev pub made : Strip → Strip
  made s = record { pages = all_pages (map Line (J.lines s.items (map F (J.named s.items)) true)); items = map Line (J.lines s.items (map F (J.named s.items)) true) }

  empty-goes : (w : W) → w (to_job side) ≡ as_pages (empty_page ∷ []) → Gets (TakesItems no_stream) w (page_puts side (empty_page ∷ [])) HasWorked (less_one w (to_job side))
  empty-goes w e =
      let v = less_one w (to_job side) in
      let took : Gets (TakesItems no_stream) w [] (PutsLastLines empty_page false) v =
      subst (λ result. Gets (TakesItems no_stream) w [] (behind_page J no_stream result) v) (read-marked 0 true [] empty_page empty-form)
      (take-goes no_stream w empty_page (mark empty_page) [] e) in
      let put : Gets (PutsLastLines empty_page false) v (page_puts side (empty_page ∷ [])) HasWorked v = λ n. (suc n, omega arith, refl, refl) in
      goes-on F P (TakesItems no_stream) (PutsLastLines empty_page false) HasWorked w v v [] (page_puts side (empty_page ∷ [])) took put

  record AllWorked (w : W) (ss : List Strip) : Type 0 where
    left : W
    none : left (to_job side) ≡ []
    goes : Gets (TakesItems no_stream) w (page_puts side (all_put (map made ss))) HasWorked left

  job-goes : (ss : List Strip) → AllByRecursion IsStrip ss → (w : W) → w (to_job side) ≡ parcels ss → AllWorked w ss
  job-goes [] are w e = record { left = less_one w (to_job side); none = less-here side w ∙ ap (drop 1) e; goes = empty-goes w e }
  job-goes (s ∷ rest) are w e =
      let first = stream-goes s.pages s.items 0 [] (parcels rest) w are.0.stream are.0.some e in
      let later = job-goes rest are.1 first.left first.here in
      let pages_are : first.pages ≡ report_pages s.items =
      ap (λ lines. given_pages first_page (map Line lines) ++ first.pages) (sym lines-none) ∙ first.whole in
      let start : Gets (TakesItems no_stream) w (page_puts side (report_pages s.items)) (TakesItems no_stream) first.left =
      subst (λ (stream : Stream L). Gets (TakesItems stream) w (page_puts side (report_pages s.items)) (TakesItems no_stream) first.left) mid-start
      (subst (λ pages. Gets (TakesItems (mid 0 [])) w (page_puts side pages) (TakesItems no_stream) first.left) pages_are first.goes) in
      let both = goes-on F P (TakesItems no_stream) (TakesItems no_stream) HasWorked w first.left later.left (page_puts side (report_pages s.items))
      (page_puts side (all_put (map made rest))) start later.goes in
      record {
        left = later.left;
        none = later.none;
        goes = subst (λ puts. Gets (TakesItems no_stream) w puts HasWorked later.left) (sym (page_puts-append L side (report_pages s.items) (all_put (map made rest)))) both;
      }

  nothing-more : (n : ℕ) (w : W) → alone F P n HasWorked w ≡ []
  nothing-more zero w = refl
  nothing-more (suc n) w = refl

  pub record JobDone (ss : List Strip) (w : W) : Type 0 where
    pub left : W
    pub none : left (to_job side) ≡ []
    pub goes : Goes F (job J side) (job J side).start w (page_puts side (all_put (map made ss))) HasWorked left
    pub over : (n : ℕ) → alone F (job J side) n HasWorked left ≡ []

  pub job-alone : (ss : List Strip) → AllByRecursion IsStrip ss → (w : W) → w (to_job side) ≡ parcels ss → JobDone ss w
  job-alone ss are w e =
      let all = job-goes ss are w e in
      record { left = all.left; none = all.none; goes = all.goes; over = λ n. nothing-more n all.left }
