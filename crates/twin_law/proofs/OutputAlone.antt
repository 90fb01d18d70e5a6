-- The output process alone: of streams that were dealt in turn, each with an item, and an empty one for each side, it puts the lines in
-- order, and the end.
use Rattle.std.proofs.Common.{◌≡◌, ℕ, zero, suc, ◌+◌, ◌&&◌, ◌||◌, not, Bool, true, false, List, [], ◌∷◌, ◌++◌, drop, refl, sym, ◌∙◌, ap, subst, arith}
use Rattle.std.specs.List.{AllByRecursion}
use Rattle.std.proofs.lemmas.List.{append_assoc}
use Rattle.solo_base.specs.declared.item.Item.{Item}
use Rattle.solo_base.specs.declared.item.Item.TheVariants.{Line, Spoiled}
use Rattle.solo_base.specs.declared.page.Page.{Page}
use Rattle.page_codec.specs.Form.{IsPage}
use Rattle.page_codec.specs.Stream.{IsStream}
use Rattle.batch_procs.specs.Sends.{lines_of}
use Rattle.batch_procs.specs.Jobs.{FilesAs}
use Rattle.batch_procs.specs.Parcels.{Parcel, OfFeed, OfPage, mark}
use Rattle.solo_base.specs.declared.item.Feed.TheVariants as feed
use Rattle.twin_law.specs.Sides.{Twin, A, B, other, from_job, dealt}
use Rattle.twin_law.specs.Input.{empty_page}
use Rattle.twin_law.specs.Output.{Turn, OutputPlace, TakesLines, PutsOver, HasGathered, puts_line, is_some, turn_behind, behind_lines, page_in_turn, output_behind, output}
use Rattle.twin_law.specs.Alone.{reply_of, first_parcel, less_one, Put, alone, puts}
use Rattle.twin_law.proofs.After.{after}
use Rattle.twin_law.proofs.Goes.{Goes, goes-on}
use Rattle.twin_law.proofs.Strips.{good, read-marked, as_pages, Strip, IsStrip, empty-form, parcels, some-append}

-- ---- lines
abbrev pub line_puts : {L : Type 0} → List (List ℕ) → List (Put L)
line_puts [] = []
line_puts (line ∷ rest) = record { at = 6; parcel = OfFeed (feed.Item (Line line)) } ∷ line_puts rest

pub puts-append : (L : Type 0) (some more : List (List ℕ)) → line_puts {L = L} (some ++ more) ≡ line_puts some ++ line_puts more
puts-append L [] more = refl
puts-append L (line ∷ some) more = ap (λ rest. record { at = 6; parcel = OfFeed (feed.Item (Line line)) } ∷ rest) (puts-append L some more)

pub lines-append : (some more : List Item) → lines_of (some ++ more) ≡ lines_of some ++ lines_of more
lines-append [] more = refl
lines-append (Line line ∷ some) more = ap (λ rest. line ∷ rest) (lines-append some more)
lines-append (Spoiled ∷ some) more = lines-append some more

abbrev pub end_put : {L : Type 0} → List (Put L)
end_put = record { at = 6; parcel = OfFeed feed.End } ∷ []

-- the lines of all of them
abbrev pub all_lines : List Strip → List (List ℕ)
all_lines [] = []
all_lines (s ∷ rest) = lines_of s.items ++ all_lines rest

twice : (side : Twin) → other (other side) ≡ side
twice A = refl
twice B = refl

or-assoc : (a b c : Bool) → ((a || b) || c) ≡ (a || (b || c))
or-assoc true b c = refl
or-assoc false b c = refl

abbrev turn : Twin → ℕ → Bool → Bool → Turn
turn side pages some ended = record { side = side; pages = pages; some = some; ended = ended }

less-here : {L : Type 0} (side : Twin) (w : ℕ → List (Parcel L)) → less_one w (from_job side) (from_job side) ≡ drop 1 (w (from_job side))
less-here A w = refl
less-here B w = refl

less-other : {L : Type 0} (side : Twin) (w : ℕ → List (Parcel L)) → less_one w (from_job side) (from_job (other side)) ≡ w (from_job (other side))
less-other A w = refl
less-other B w = refl

module _ {L : Type 0} (F : FilesAs L) where
  abbrev W : Type 0
  W = ℕ → List (Parcel L)

  abbrev Gets : OutputPlace → W → List (Put L) → OutputPlace → W → Type 0
  Gets x w puts y v = Goes F (output {L = L}) x w puts y v

  lines-go : (lines : List (List ℕ)) (t : Turn) (over : Bool) (w : W) → Gets (puts_line lines t over) w (line_puts lines) (puts_line [] t over) w
  lines-go [] t over w n = (n, omega arith, refl, refl)
  lines-go (line ∷ rest) t over w n =
      let (m, low, e, s) = lines-go rest t over w n in
      (suc m, omega (arith, low), ap (λ more. record { at = 6; parcel = OfFeed (feed.Item (Line line)) } ∷ more) e, s)

  take-goes : (t : Turn) (w : W) (page : Page) (last : Bool) (rest : List (Parcel L)) → w (from_job t.side) ≡ OfPage page last ∷ rest
      → Gets (TakesLines t) w [] (behind_lines t (page_in_turn t page last)) (less_one w (from_job t.side))
  take-goes t w page last rest e n = (
    suc n,
    omega arith,
    ap (λ ps. alone F output n (output_behind (TakesLines t) (reply_of (first_parcel ps))) (less_one w (from_job t.side))) e,
    ap (λ ps. after F output n (output_behind (TakesLines t) (reply_of (first_parcel ps))) (less_one w (from_job t.side))) e,
  )

  -- one page that is read at its place
  page-goes : (t : Turn) (last : Bool) (items : List Item) (w : W) (page : Page) (rest : List (Parcel L)) → w (from_job t.side) ≡ OfPage page (mark page) ∷ rest
      → IsPage t.pages last items page
      → Gets (TakesLines t) w (line_puts (lines_of items)) (puts_line [] (turn_behind t last items) (last && t.ended)) (less_one w (from_job t.side))
  page-goes t last items w page rest e form =
      let v = less_one w (from_job t.side) in
      let took : Gets (TakesLines t) w [] (behind_lines t (good items last)) v =
      subst (λ result. Gets (TakesLines t) w [] (behind_lines t result) v) (read-marked t.pages last items page form) (take-goes t w page (mark page) rest e) in
      goes-on F output (TakesLines t) (puts_line (lines_of items) (turn_behind t last items) (last && t.ended)) (puts_line [] (turn_behind t last items) (last && t.ended)) w v v
      [] (line_puts (lines_of items)) took (lines-go (lines_of items) (turn_behind t last items) (last && t.ended) v)

  -- a whole stream: then the other side is in turn
  abbrev behind_stream : Twin → Bool → Bool → List Item → OutputPlace
  behind_stream side some ended items = puts_line [] (turn (other side) 0 false (ended || not (some || is_some items))) ended

  record Gathered (side : Twin) (n : ℕ) (some ended : Bool) (items : List Item) (rest : List (Parcel L)) (w : W) : Type 0 where
    left : W
    here : left (from_job side) ≡ rest
    there : left (from_job (other side)) ≡ w (from_job (other side))
    goes : Gets (TakesLines (turn side n some ended)) w (line_puts (lines_of items)) (behind_stream side some ended items) left

  stream-goes : (pages : List Page) (items : List Item) (side : Twin) (n : ℕ) (some ended : Bool) (rest : List (Parcel L)) (w : W) → IsStream n pages items
      → w (from_job side) ≡ as_pages pages ++ rest → Gathered side n some ended items rest w
  stream-goes [] items side n some ended rest w is e = absurd is
  stream-goes (page ∷ []) items side n some ended rest w form e = record {
    left = less_one w (from_job side);
    here = less-here side w ∙ ap (drop 1) e;
    there = less-other side w;
    goes = page-goes (turn side n some ended) true items w page rest e form;
  }
  stream-goes (page ∷ next ∷ pages) items side n some ended rest w (front, left, parts, form, more) e =
      let v = less_one w (from_job side) in
      let t = turn side n some ended in
      let first : Gets (TakesLines t) w (line_puts (lines_of front)) (TakesLines (turn side (n + 1) (some || is_some front) ended)) v =
      page-goes t false front w page (as_pages (next ∷ pages) ++ rest) e form in
      let is = stream-goes (next ∷ pages) left side (n + 1) (some || is_some front) ended rest v more (less-here side w ∙ ap (drop 1) e) in
      let whole : ((some || is_some front) || is_some left) ≡ (some || is_some items) =
      or-assoc some (is_some front) (is_some left) ∙ ap (λ t. some || t) (sym (some-append front left)) ∙ ap (λ items. some || is_some items) (sym parts) in
      let lines : line_puts {L = L} (lines_of front) ++ line_puts (lines_of left) ≡ line_puts (lines_of items) =
      sym (puts-append L (lines_of front) (lines_of left)) ∙ ap line_puts (sym (lines-append front left)) ∙ ap (λ items. line_puts (lines_of items)) (sym parts) in
      let both = goes-on F output (TakesLines t) (TakesLines (turn side (n + 1) (some || is_some front) ended)) (behind_stream side (some || is_some front) ended left) w v is.left
      (line_puts (lines_of front)) (line_puts (lines_of left)) first is.goes in
      record {
        left = is.left;
        here = is.here;
        there = is.there ∙ less-other side w;
        goes = subst (λ puts. Gets (TakesLines t) w puts (behind_stream side some ended items) is.left) lines
            (subst (λ known. Gets (TakesLines t) w (line_puts (lines_of front) ++ line_puts (lines_of left)) (puts_line [] (turn (other side) 0 false (ended || not known)) ended) is.left)
            whole both);
      }

  -- ---- all streams, and the two empty ones
  record GatheredAll (side : Twin) (all : List Strip) (w : W) : Type 0 where
    left : W
    here : left (from_job side) ≡ []
    there : left (from_job (other side)) ≡ []
    goes : Gets (TakesLines (turn side 0 false false)) w (line_puts (all_lines all) ++ end_put) HasGathered left

  ends-go : (w : W) → Gets PutsOver w end_put HasGathered w
  ends-go w n = (suc n, omega arith, refl, refl)

  empties-go : (side : Twin) (w : W) → w (from_job side) ≡ as_pages (empty_page ∷ []) → w (from_job (other side)) ≡ as_pages (empty_page ∷ []) → GatheredAll side [] w
  empties-go side w here there =
      let first = stream-goes (empty_page ∷ []) [] side 0 false false [] w empty-form here in
      let second = stream-goes (empty_page ∷ []) [] (other side) 0 false true [] first.left empty-form (first.there ∙ there) in
      let both = goes-on F output (TakesLines (turn side 0 false false)) (TakesLines (turn (other side) 0 false true)) PutsOver w first.left second.left [] [] first.goes second.goes in
      record {
        left = second.left;
        here = ap (λ side. second.left (from_job side)) (sym (twice side)) ∙ second.there ∙ ap (λ side. first.left (from_job side)) (twice side) ∙ first.here;
        there = second.here;
        goes = goes-on F output (TakesLines (turn side 0 false false)) PutsOver HasGathered w second.left second.left [] end_put both (ends-go second.left);
      }

  gathers-all : (all : List Strip) → AllByRecursion IsStrip all → (side : Twin) (w : W) → w (from_job side) ≡ parcels (dealt all).a
      → w (from_job (other side)) ≡ parcels (dealt all).b → GatheredAll side all w
  gathers-all [] are side w here there = empties-go side w here there
  gathers-all (s ∷ rest) are side w here there =
      let first = stream-goes s.pages s.items side 0 false false (parcels (dealt rest).b) w are.0.stream here in
      let later = gathers-all rest are.1 (other side) first.left (first.there ∙ there) (ap (λ side. first.left (from_job side)) (twice side) ∙ first.here) in
      let some : Gets (TakesLines (turn side 0 false false)) w (line_puts (lines_of s.items)) (TakesLines (turn (other side) 0 false false)) first.left =
      subst (λ t. Gets (TakesLines (turn side 0 false false)) w (line_puts (lines_of s.items)) (TakesLines (turn (other side) 0 false (not t))) first.left) are.0.some first.goes in
      let both = goes-on F output (TakesLines (turn side 0 false false)) (TakesLines (turn (other side) 0 false false)) HasGathered w first.left later.left
      (line_puts (lines_of s.items)) (line_puts (all_lines rest) ++ end_put) some later.goes in
      record {
        left = later.left;
        here = ap (λ side. later.left (from_job side)) (sym (twice side)) ∙ later.there;
        there = later.here;
        goes = subst (λ puts. Gets (TakesLines (turn side 0 false false)) w puts HasGathered later.left)
            (sym (append_assoc (line_puts (lines_of s.items)) (line_puts (all_lines rest)) end_put)
            ∙ ap (λ puts. puts ++ end_put) (sym (puts-append L (lines_of s.items) (all_lines rest)))) both;
      }

  nothing-more : (n : ℕ) (w : W) → alone F output n HasGathered w ≡ []
  nothing-more zero w = refl
  nothing-more (suc n) w = refl

  pub record OutputDone (all : List Strip) (w : W) : Type 0 where
    pub left : W
    pub from_a : left 4 ≡ []
    pub from_b : left 5 ≡ []
    pub goes : Goes F (output {L = L}) (output {L = L}).start w (line_puts (all_lines all) ++ end_put) HasGathered left
    pub over : (n : ℕ) → alone F output n HasGathered left ≡ []

  pub output-alone : (all : List Strip) → AllByRecursion IsStrip all → (w : W) → w 4 ≡ parcels (dealt all).a → w 5 ≡ parcels (dealt all).b → OutputDone all w
  output-alone all are w here there =
      let is = gathers-all all are A w here there in
      record { left = is.left; from_a = is.here; from_b = is.there; goes = is.goes; over = λ n. nothing-more n is.left }
