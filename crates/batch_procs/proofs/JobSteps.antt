-- What the job process keeps at each of its steps.
use Rattle.std.proofs.Common.{◌≡◌, ◌≤◌, ℕ, zero, suc, Bool, true, false, not, ◌||◌, if◌then◌else◌, ◌%◌, ◌^◌, List, [], ◌∷◌, ◌++◌, length, drop, Option, None, Some, Result, Ok, Err, refl, sym, ◌∙◌, ap, subst, append_assoc, arith}
use Rattle.std.specs.Prelude.{option_to_list, is_some, ◌==◌, IsTrue}
use Rattle.std.proofs.lemmas.Bool.{eqb-true, eq-eqb}
use Rattle.std.specs.List.{AllByRecursion}
use Rattle.std.proofs.lemmas.List.{append-nil}
use Rattle.solo_base.specs.declared.item.Item.{Item}
use Rattle.solo_base.specs.declared.item.Item.TheVariants.{Line}
use Rattle.solo_base.specs.declared.item.Feed.{Feed}
use Rattle.solo_base.specs.declared.page.Page.{Page}
use Rattle.page_codec.specs.Form.{page_of}
use Rattle.page_codec.specs.Packing.{PageInHand, fits, first_page, page_given, hand_after}
use Rattle.page_codec.specs.Pushes.{pages_given, hand_behind}
use Rattle.page_codec.specs.declared.judge.BadPage.{BadPage}
use Rattle.page_codec.specs.Reading.{PageContent, bad_place, content_or_bad, page_read}
use Rattle.page_codec.specs.Stream.{Awaited, at_the_first, awaited_after}
use Rattle.batch_procs.specs.Jobs.{Jobs, AreJobs}
use Rattle.batch_procs.specs.JobTold.{JobTold, nothing_told, with_page, with_found, wanted, PushesLines}
use Rattle.batch_procs.specs.declared.actions.Reply.{Reply}
use Rattle.batch_procs.specs.declared.actions.Reply.TheVariants as reply
use Rattle.batch_procs.specs.Parcels.{Parcel, OfFeed, OfPage, OfLine, OfLoad, loads, pages, is_last, is_ended, mark, NothingBehind}
use Rattle.batch_procs.specs.History.{taken_by}
use Rattle.batch_procs.specs.Sends.{items, has_end, end_if, unpacked, items_then, lines_stream, marked, packed, job_lines, job_sends, job_wants}
use Rattle.batch_procs.specs.Table.{job}
use Rattle.batch_procs.specs.Work.{MayTake, cause_of}
use Rattle.batch_procs.specs.KeepsJob.{IsNext, HasSent, told_with, KeepsJob}
use Rattle.batch_procs.specs.Pages.{ReadsOn}
use Rattle.batch_procs.specs.Parts.{some-same, drop-part}
use Rattle.batch_procs.specs.Relays.{mark-of, packed-ends, goes-on, loads-append, loads-one, unpacked-load}
use Rattle.batch_procs.proofs.PageTakes.{page-more, then-items, then-end, no-damage, reads-behind, reads-first}
use Rattle.batch_procs.proofs.Takes.{ended-more}

-- ---- pages of lines
hand-append : (hand : PageInHand) (some more : List (List ℕ)) → hand_behind hand (some ++ more) ≡ hand_behind (hand_behind hand some) more
hand-append hand [] more = refl
hand-append hand (line ∷ some) more = hand-append (hand_after hand (Line line)) some more

given-append : (hand : PageInHand) (some more : List (List ℕ))
    → pages_given hand (some ++ more) ≡ pages_given hand some ++ pages_given (hand_behind hand some) more
given-append hand [] more = refl
given-append hand (line ∷ some) more =
    ap (λ ps. option_to_list (page_given hand (Line line)) ++ ps) (given-append (hand_after hand (Line line)) some more)
    ∙ sym (append_assoc (option_to_list (page_given hand (Line line))) (pages_given (hand_after hand (Line line)) some) (pages_given (hand_behind hand (line
    ∷ some)) more))

-- no page that a push gives is the last
abbrev IsNotLast : Page → Type 0
IsNotLast page = mark page ≡ false

given-open : (hand : PageInHand) (item : Item) → AllByRecursion IsNotLast (option_to_list (page_given hand item))
given-open hand item =
    let P : Bool → Type 0 = λ t. AllByRecursion IsNotLast (option_to_list (if t then None else Some (page_of hand.place false hand.content))) in
    elim (fits hand item) as P [ true ↦ tt | false ↦ (mark-of hand.place false hand.content, tt) ]

all-append : (some more : List Page) → AllByRecursion IsNotLast some → AllByRecursion IsNotLast more → AllByRecursion IsNotLast (some ++ more)
all-append [] more a b = b
all-append (page ∷ some) more a b = (a.0, all-append some more a.1 b)

pages-open : (hand : PageInHand) (lines : List (List ℕ)) → AllByRecursion IsNotLast (pages_given hand lines)
pages-open hand [] = tt
pages-open hand (line ∷ lines) =
    all-append (option_to_list (page_given hand (Line line))) (pages_given (hand_after hand (Line line)) lines) (given-open hand (Line line))
    (pages-open (hand_after hand (Line line)) lines)

page-open : (hand : PageInHand) (lines : List (List ℕ)) (page : Page) → pages_given hand lines ≡ page ∷ [] → mark page ≡ false
page-open hand lines page is = (subst (λ ps. AllByRecursion IsNotLast ps) is (pages-open hand lines)).0

-- ---- the files that are wanted
few-dropped : (n : ℕ) (names : List (List ℕ)) → drop n names ≡ [] → length names ≤ n
few-dropped n [] e = omega arith
few-dropped zero (name ∷ names) e = absurd cc
few-dropped (suc n) (name ∷ names) e = let less = few-dropped n names e in omega (arith, less)

none-of : (names : List (List ℕ)) → length names ≤ 0 → names ≡ []
none-of [] few = refl
none-of (name ∷ names) few = absurd (omega (arith, few))

-- ---- what the calls below tell
told-not : (t : Bool) → (IsTrue t → ⊥) → t ≡ false
told-not true not = absurd (not refl)
told-not false not = refl

pub is-last : (told : Bool) (byte : ℕ) → ((IsTrue told → byte ≡ 0 → ⊥) × ((byte ≡ 0 → ⊥) → IsTrue told)) → told ≡ not (byte == 0)
is-last told byte (sure, likely) = by (byte == 0) refl
  where
    by : (t : Bool) → (byte == 0) ≡ t → told ≡ not t
    by true e = told-not told (λ is. sure is (eqb-true byte 0 e))
    by false e = likely (λ same. (let both = sym e ∙ eq-eqb byte 0 same in cc))

abbrev last-or : Bool → Result PageContent BadPage → Bool
last-or other (Ok content) = content.last
last-or other (Err bad) = other

read-last : (place : ℕ) (last : Bool) (page : Page) (wrong : Option ℕ) (content : PageContent) → content_or_bad place last page.0 wrong ≡ Ok content
    → content.last ≡ last
read-last place last page None content is = sym (ap (last-or last) is)
read-last place last page (Some at) content is = absurd cc

pub page-last : (place : ℕ) (last : Bool) (page : Page) (content : PageContent) → page_read place last page ≡ Ok content → content.last ≡ last
page-last place last page content is = read-last place last page (bad_place place last page.0) content is

or-nothing : (t : Bool) → (t || false) ≡ t
or-nothing true = refl
or-nothing false = refl

module _ {L : Type 0} {J : Jobs L} (jobs : AreJobs J) where
  marked-append : (t : Bool) (some more : List Page) → marked {L = L} t (some ++ more) ≡ marked t some ++ marked t more
  marked-append t [] more = refl
  marked-append t (page ∷ some) more = ap (λ ps. OfPage page t ∷ ps) (marked-append t some more)

  packed-lines : (hand : PageInHand) (lines : List (List ℕ)) (rest : List Feed) (t : Bool) (more : List (List ℕ)) → rest ≡ lines_stream more t →
      packed {L = L} hand (lines_stream (lines ++ more) t) ≡ marked false (pages_given hand lines) ++ packed (hand_behind hand lines) rest
  packed-lines hand [] rest t more is = ap (packed hand) (sym is)
  packed-lines hand (line ∷ lines) rest t more is =
      ap (λ ps. marked false (option_to_list (page_given hand (Line line))) ++ ps) (packed-lines (hand_after hand (Line line)) lines rest t more is)
      ∙ sym (append_assoc (marked false (option_to_list (page_given hand (Line line)))) (marked false (pages_given (hand_after hand (Line line)) lines))
      (packed (hand_behind hand (line ∷ lines)) rest))
      ∙ ap (λ ps. ps
      ++ packed (hand_behind hand (line
      ∷ lines)) rest) (sym (marked-append false (option_to_list (page_given hand (Line line))) (pages_given (hand_after hand (Line line)) lines)))

  -- what was told stays what was told
  told-same : (now : JobTold L → Type 0) (xs ys : List Item) (s t : Bool) (some more : List L) (pushed : List (List ℕ)) (rests : Bool) → xs ≡ ys → s ≡ t
      → some ≡ more → now (record { items = xs; ended = s; loads = some; pushed = pushed; rests = rests })
      → now (record { items = ys; ended = t; loads = more; pushed = pushed; rests = rests })
  told-same now xs ys s t some more pushed rests same_items same_end same_loads told =
      subst (λ xs. now (record { items = xs; ended = t; loads = more; pushed = pushed; rests = rests })) same_items
      (subst (λ s. now (record { items = xs; ended = s; loads = more; pushed = pushed; rests = rests })) same_end
      (subst (λ some. now (record { items = xs; ended = s; loads = some; pushed = pushed; rests = rests })) same_loads told))

  -- ---- the beginning
  none-named : J.named [] ≡ []
  none-named = none-of (J.named []) (jobs.few_named [])

  none-sent : job_sends J [] ≡ []
  none-sent =
      ap (λ t. packed first_page (lines_stream (J.lines [] [] false) t)) (jobs.not_whole [] [])
      ∙ ap (λ ls. packed first_page (lines_stream ls false)) jobs.no_lines

  pub job-begins : (now : JobTold L → Type 0) → now nothing_told → KeepsJob J now at_the_first first_page None false [] [] false
  job-begins now told = record {
    work_is = refl;
    ended_is = refl;
    end_is = refl;
    reads = λ going. reads-first;
    pushed = [];
    rests = true;
    keeps = told;
    none_wanted = λ e. none-named;
    next = λ e. none-sent;
    toiling = λ e. absurd cc;
    putting = λ p e is. absurd cc;
    last = λ p e is. absurd cc;
    awaiting = λ e is going. (refl, record { in_hand = refl; pages = refl });
  }

  -- ---- a put
  job-ends : (taken : List (Parcel L)) → NothingBehind (job_sends J taken)
  job-ends taken = packed-ends L first_page (job_lines J (unpacked 0 taken) (loads taken))

  next-same : (page : Page) (first : Parcel L) (more : List (Parcel L)) (left : List (Parcel L)) → IsNext (Some page) left → left ≡ first ∷ more
      → first ≡ OfPage page (mark page)
  next-same page first more left (rest, is) e = (let both = sym e ∙ is in cc)

  nothing-behind : (all : List (Parcel L)) (n : ℕ) (first : Parcel L) (more : List (Parcel L)) → NothingBehind all → drop n all ≡ first ∷ more
      → is_last first ≡ true → more ≡ []
  nothing-behind [] zero first more ends e last = absurd cc
  nothing-behind [] (suc n) first more ends e last = absurd cc
  nothing-behind (x ∷ all) zero first more ends e last =
      let head : x ≡ first = cc in
      let tail : all ≡ more = cc in
      sym tail ∙ ends.0 (ap is_last head ∙ last)
  nothing-behind (x ∷ all) (suc n) first more ends e last = nothing-behind all n first more ends.1 e last

  drop-one-more : (sent all : List (Parcel L)) (first : Parcel L) (more : List (Parcel L)) → drop (length sent) all ≡ first ∷ more
      → drop (length (sent ++ first ∷ [])) all ≡ more
  drop-one-more [] [] first more e = absurd cc
  drop-one-more [] (x ∷ all) first more e = cc
  drop-one-more (y ∷ sent) [] first more e = absurd cc
  drop-one-more (y ∷ sent) (x ∷ all) first more e = drop-one-more sent all first more e

  module _ {now : JobTold L → Type 0} {awaited : Awaited} {packer : PageInHand} {taken sent : List (Parcel L)} where
    put-open : (page : Page) → KeepsJob J now awaited packer (Some page) false taken sent false → mark page ≡ false
        → KeepsJob J now awaited packer None true taken (sent ++ OfPage page (mark page) ∷ []) true
    put-open page keeps front = record {
      work_is = refl;
      ended_is = keeps.ended_is;
      end_is = keeps.end_is;
      reads = keeps.reads;
      pushed = keeps.pushed;
      rests = keeps.rests;
      keeps = keeps.keeps;
      none_wanted = λ e. absurd cc;
      next = λ e. absurd cc;
      toiling = λ e. (refl, subst (λ t. HasSent packer keeps.pushed (sent ++ OfPage page t ∷ [])) (sym front) (keeps.putting page refl refl front));
      putting = λ p e. absurd cc;
      last = λ p e. absurd cc;
      awaiting = λ e. absurd cc;
    }

    put-last : (page : Page) (more : List (Parcel L)) → KeepsJob J now awaited packer (Some page) false taken sent false
        → drop (length sent) (job_sends J taken) ≡ OfPage page (mark page) ∷ more → mark page ≡ true
        → KeepsJob J now awaited packer None false taken (sent ++ OfPage page (mark page) ∷ []) false
    put-last page more keeps left last = record {
      work_is = refl;
      ended_is = keeps.ended_is;
      end_is = keeps.end_is;
      reads = keeps.reads;
      pushed = keeps.pushed;
      rests = keeps.rests;
      keeps = keeps.keeps;
      none_wanted = keeps.none_wanted;
      next =
          λ e. drop-one-more sent (job_sends J taken) (OfPage page (mark page)) more left
          ∙ nothing-behind (job_sends J taken) (length sent) (OfPage page (mark page)) more (job-ends taken) left last;
      toiling = λ e. absurd cc;
      putting = λ p e is. absurd cc;
      last = λ p e is. absurd cc;
      awaiting = λ e none going. absurd (let over = keeps.last page refl refl last in cc);
    }

    put-by : (page : Page) (more : List (Parcel L)) (t : Bool) → mark page ≡ t → KeepsJob J now awaited packer (Some page) false taken sent false
        → drop (length sent) (job_sends J taken) ≡ OfPage page (mark page) ∷ more
        → KeepsJob J now awaited packer None (not t) taken (sent ++ OfPage page (mark page) ∷ []) (not t)
    put-by page more true is keeps left = put-last page more keeps left is
    put-by page more false is keeps left = put-open page keeps is

  -- what the code gives: the page that was due, and whether it was the last
  pub job-puts : (now : JobTold L → Type 0) (awaited : Awaited) (packer : PageInHand) (due then_due : Option Page) (toil last : Bool)
      (taken sent more : List (Parcel L)) (first : Parcel L) (page : Page) → due ≡ Some page → then_due ≡ None → last ≡ mark page →
      KeepsJob J now awaited packer due toil taken sent false → drop (length sent) (job_sends J taken) ≡ first ∷ more
      → KeepsJob J now awaited packer then_due (not last) taken (sent ++ first ∷ []) (not (is_last first))
  job-puts now awaited packer due then_due toil last taken sent more first page is gone last-is keeps left =
      let off : toil ≡ false = sym keeps.work_is in
      let keeps-page : KeepsJob J now awaited packer (Some page) false taken sent false = subst
      (λ t. KeepsJob J now awaited packer (Some page) t taken sent false) off
      (subst (λ d. KeepsJob J now awaited packer d toil taken sent false) is keeps) in
      let same : first ≡ OfPage page (mark page) = next-same page first more (drop (length sent) (job_sends J taken)) (keeps-page.next refl) left in
      let left-page : drop (length sent) (job_sends J taken) ≡ OfPage page (mark page) ∷ more = left ∙ ap (λ f. f ∷ more) same in
      let done = put-by page more (mark page) refl keeps-page left-page in
      rw (same, gone, last-is) done

  -- ---- a page is taken
  pub job-takes : (old now : JobTold L → Type 0) (was then_is : Awaited) (packer : PageInHand) (due : Option Page) (toil : Bool)
      (taken sent : List (Parcel L)) (r : Reply L) (page : Page) (last : Bool) (content : PageContent) →
      r ≡ reply.Page page last → was.ended ≡ false → page_read was.place last page ≡ Ok content → content.last ≡ last
      → then_is ≡ awaited_after was last (Ok content)
      → ((told : JobTold L) → old told → told.rests ≡ true → told.ended ≡ false → now (with_page told content)) →
      KeepsJob J old was packer due toil taken sent false → MayTake (job J) taken sent r →
      (None ≡ cause_of r taken) × KeepsJob J now then_is packer due true (taken ++ taken_by r) sent true
  job-takes old now was then_is packer due toil taken sent r page last content is goes read whole after feeds keeps may =
      let reads = keeps.reads goes in
      let off : toil ≡ false = sym keeps.work_is in
      let none : due ≡ None = due-none due (drop (length sent) (job_sends J taken)) (keeps.next off) may.nothing_due in
      let (rests, kept) = keeps.awaiting off none goes in
      let more = page-more was.place taken page last content reads read in
      let on = goes-on (unpacked 0 taken) (items_then content.items (end_if last)) reads.no_end in
      let items_are : items (unpacked 0 (taken ++ OfPage page last ∷ [])) ≡ items (unpacked 0 taken) ++ content.items = ap items more ∙ on.items_are
      ∙ ap (λ is. items (unpacked 0 taken) ++ is) (then-items content.items last) in
      let end_is : has_end (unpacked 0 (taken ++ OfPage page last ∷ [])) ≡ last = ap has_end more ∙ on.end_is ∙ then-end content.items last in
      let same_loads : loads (taken ++ OfPage page last ∷ []) ≡ loads taken = loads-append taken (OfPage page last ∷ []) ∙ append-nil (loads taken) in
      let fed = feeds (told_with taken keeps.pushed keeps.rests) keeps.keeps rests (keeps.end_is ∙ goes) in (
        no-damage was.place taken page last content r is reads read,
        rw (after, is) record {
          work_is = refl;
          ended_is = sym (ended-more taken (OfPage page last ∷ []) may.goes_on ∙ or-nothing last);
          end_is = end_is;
          reads = λ open_still. reads-behind was.place taken page last content reads read open_still;
          pushed = keeps.pushed;
          rests = false;
          keeps =
              told-same now (items (unpacked 0 taken) ++ content.items) (items (unpacked 0 (taken ++ OfPage page last ∷ []))) content.last
              (has_end (unpacked 0 (taken ++ OfPage page last ∷ []))) (loads taken) (loads (taken ++ OfPage page last ∷ [])) keeps.pushed false
              (sym items_are) (whole ∙ sym end_is) (sym same_loads) fed;
          none_wanted = λ e. absurd cc;
          next = λ e. absurd cc;
          toiling = λ e. (none, kept);
          putting = λ p e. absurd cc;
          last = λ p e. absurd cc;
          awaiting = λ e. absurd cc;
        },
      )
    where
      due-none : (due : Option Page) (left : List (Parcel L)) → IsNext due left → left ≡ [] → due ≡ None
      due-none None left is none = refl
      due-none (Some page) left (more, is) none = absurd (let both = sym is ∙ none in cc)

  -- ---- work
  sends-at : (taken : List (Parcel L)) (pushed rest : List (List ℕ)) (t : Bool) → has_end (unpacked 0 taken) ≡ t
      → J.whole (items (unpacked 0 taken)) (loads taken) t ≡ t
      → J.lines (items (unpacked 0 taken)) (loads taken) t ≡ pushed ++ rest →
      job_sends J taken ≡ marked false (pages_given first_page pushed) ++ packed (hand_behind first_page pushed) (lines_stream rest t)
  sends-at taken pushed rest t ended whole lines =
      ap (λ t. packed first_page (lines_stream (J.lines (items (unpacked 0 taken)) (loads taken) t) (J.whole (items (unpacked 0 taken)) (loads taken) t)))
      ended
      ∙ ap (λ w. packed first_page (lines_stream (J.lines (items (unpacked 0 taken)) (loads taken) t) w)) whole
      ∙ ap (λ ls. packed first_page (lines_stream ls t)) lines
      ∙ packed-lines first_page pushed (lines_stream rest t) t rest refl

  has-pushed : (packer : PageInHand) (pushed lines : List (List ℕ)) (sent more : List (Parcel L)) (given : List Page) (hand : PageInHand)
      → HasSent packer pushed sent → pages_given packer lines ≡ given → marked false given ≡ more → hand ≡ hand_behind packer lines
      → HasSent hand (pushed ++ lines) (sent ++ more)
  has-pushed packer pushed lines sent more given hand kept pages is in_hand = record {
    in_hand = in_hand ∙ ap (λ h. hand_behind h lines) kept.in_hand ∙ sym (hand-append first_page pushed lines);
    pages =
        ap (λ s. s ++ more) kept.pages
        ∙ ap (λ m. marked false (pages_given first_page pushed) ++ m) (sym is)
        ∙ ap (λ ps. marked false (pages_given first_page pushed) ++ marked false ps) (sym pages ∙ ap (λ h. pages_given h lines) kept.in_hand)
        ∙ sym (marked-append false (pages_given first_page pushed) (pages_given (hand_behind first_page pushed) lines))
        ∙ ap (marked false) (sym (given-append first_page pushed lines));
  }

  module _ {old now : JobTold L → Type 0} {awaited : Awaited} {packer hand : PageInHand} {due : Option Page} {toil : Bool} {taken sent : List (Parcel L)}
      (keeps : KeepsJob J old awaited packer due toil taken sent true) (loaded : job_wants J taken ≡ []) (page : Option Page)
      (packing : (told : JobTold L) → old told → wanted J told ≡ [] → PushesLines J now told packer page hand) where
    whole : J.whole (items (unpacked 0 taken)) (loads taken) awaited.ended ≡ awaited.ended
    whole = jobs.all_loaded (items (unpacked 0 taken)) (loads taken) awaited.ended
        (few-dropped (length (loads taken)) (J.named (items (unpacked 0 taken))) loaded)

    packs : PushesLines J now (told_with taken keeps.pushed keeps.rests) packer page hand
    packs = packing (told_with taken keeps.pushed keeps.rests) keeps.keeps loaded

    all-sent : job_sends J taken ≡ marked false (pages_given first_page (keeps.pushed ++ packs.lines))
        ++ packed (hand_behind first_page (keeps.pushed ++ packs.lines)) (lines_stream packs.left awaited.ended)
    all-sent = sends-at taken (keeps.pushed ++ packs.lines) packs.left awaited.ended keeps.end_is whole
        (ap (J.lines (items (unpacked 0 taken)) (loads taken)) (sym keeps.end_is) ∙ packs.next)

  module _ {old now : JobTold L → Type 0} {awaited : Awaited} {packer hand : PageInHand} {due : Option Page} {toil : Bool} {taken sent : List (Parcel L)}
      (keeps : KeepsJob J old awaited packer due toil taken sent true) (loaded : job_wants J taken ≡ []) where
    pub job-works-page : (then_due : Option Page) → is_some then_due ≡ true
        → ((told : JobTold L) → old told → wanted J told ≡ [] → PushesLines J now told packer then_due hand)
        → KeepsJob J now awaited hand then_due false taken sent false
    job-works-page None given packing = absurd cc
    job-works-page (Some page) given packing =
        let told = packs keeps loaded (Some page) packing in
        let kept = (keeps.toiling (sym keeps.work_is)).1 in
        let put : HasSent hand (keeps.pushed ++ told.lines) (sent ++ OfPage page false ∷ []) =
        has-pushed packer keeps.pushed told.lines sent (OfPage page false ∷ []) (page ∷ []) hand kept told.pushes.0 refl told.in_hand in
        let all = all-sent keeps loaded (Some page) packing in
        let behind = packed (hand_behind first_page (keeps.pushed ++ told.lines)) (lines_stream told.left awaited.ended) in
        let front : mark page ≡ false = page-open packer told.lines page told.pushes.0 in
        record {
          work_is = refl;
          ended_is = keeps.ended_is;
          end_is = keeps.end_is;
          reads = keeps.reads;
          pushed = keeps.pushed ++ told.lines;
          rests = false;
          keeps = told.keeps;
          none_wanted = λ e. loaded;
          next = λ e. (
            behind,
            ap (drop (length sent)) (all ∙ ap (λ ps. ps ++ behind) (sym put.pages) ∙ append_assoc sent (OfPage page false ∷ []) behind)
                ∙ drop-part sent (OfPage page false ∷ behind)
                ∙ ap (λ t. OfPage page t ∷ behind) (sym front),
          );
          toiling = λ e. absurd cc;
          putting = λ p e is is_open. subst (λ p. HasSent hand (keeps.pushed ++ told.lines) (sent ++ OfPage p false ∷ [])) (some-same page p is) put;
          last = λ p e is is_last. absurd (let same = some-same page p is in let closed = ap mark same ∙ is_last in let both = sym front ∙ closed in cc);
          awaiting = λ e is. absurd cc;
        }

    -- where no push gave a page, all lines so far are in the pages that went out and in the page in hand
    no-page : (packing : (told : JobTold L) → old told → wanted J told ≡ [] → PushesLines J now told packer None hand)
        → HasSent hand (keeps.pushed ++ (packs keeps loaded None packing).lines) sent
    no-page packing =
        let told = packs keeps loaded None packing in
        let put : HasSent hand (keeps.pushed ++ told.lines) (sent ++ []) =
        has-pushed packer keeps.pushed told.lines sent [] [] hand (keeps.toiling (sym keeps.work_is)).1 told.pushes refl told.in_hand in
        subst (HasSent hand (keeps.pushed ++ told.lines)) (append-nil sent) put

    -- and the rest is the end, where it has come
    left-then : (packing : (told : JobTold L) → old told → wanted J told ≡ [] → PushesLines J now told packer None hand)
        → drop (length sent) (job_sends J taken)
        ≡ packed (hand_behind first_page (keeps.pushed ++ (packs keeps loaded None packing).lines)) (end_if awaited.ended)
    left-then packing =
        let told = packs keeps loaded None packing in
        let put = no-page packing in
        let behind = packed (hand_behind first_page (keeps.pushed ++ told.lines)) (end_if awaited.ended) in
        ap (drop (length sent)) (all-sent keeps loaded None packing
        ∙ ap (λ left. marked false (pages_given first_page (keeps.pushed ++ told.lines))
        ++ packed (hand_behind first_page (keeps.pushed ++ told.lines)) (lines_stream left awaited.ended)) (told.all refl)
        ∙ ap (λ ps. ps ++ behind) (sym put.pages))
        ∙ drop-part sent behind

    pub job-works-on : (then_due : Option Page) → is_some then_due ≡ false → awaited.ended ≡ false
        → ((told : JobTold L) → old told → wanted J told ≡ [] → PushesLines J now told packer then_due hand)
        → KeepsJob J now awaited hand then_due false taken sent false
    job-works-on (Some page) none goes packing = absurd cc
    job-works-on None none goes packing =
        let told = packs keeps loaded None packing in
        let put = no-page packing in
        record {
          work_is = refl;
          ended_is = keeps.ended_is;
          end_is = keeps.end_is;
          reads = keeps.reads;
          pushed = keeps.pushed ++ told.lines;
          rests = true;
          keeps = told.keeps;
          none_wanted = λ e. loaded;
          next = λ e. left-then packing ∙ ap (λ t. packed (hand_behind first_page (keeps.pushed ++ told.lines)) (end_if t)) goes;
          toiling = λ e. absurd cc;
          putting = λ p e is. absurd cc;
          last = λ p e is. absurd cc;
          awaiting = λ e is goes_on. (refl, put);
        }

    works-last : (page : Page) (new : PageInHand) → page ≡ page_of hand.place true hand.content → awaited.ended ≡ true
        → ((told : JobTold L) → old told → wanted J told ≡ [] → PushesLines J now told packer None hand)
        → KeepsJob J now awaited new (Some page) false taken sent false
    works-last page new is over packing =
        let told = packs keeps loaded None packing in
        let put = no-page packing in
        let closed : mark page ≡ true = ap mark is ∙ mark-of hand.place true hand.content in
        record {
          work_is = refl;
          ended_is = keeps.ended_is;
          end_is = keeps.end_is;
          reads = keeps.reads;
          pushed = keeps.pushed ++ told.lines;
          rests = true;
          keeps = told.keeps;
          none_wanted = λ e. loaded;
          next = λ e. (
            [],
            left-then packing
                ∙ ap (λ t. packed (hand_behind first_page (keeps.pushed ++ told.lines)) (end_if t)) over
                ∙ ap (λ h. OfPage (page_of h.place true h.content) true ∷ []) (sym put.in_hand)
                ∙ ap (λ p. OfPage p true ∷ []) (sym is)
                ∙ ap (λ t. OfPage page t ∷ []) (sym closed),
          );
          toiling = λ e. absurd cc;
          putting = λ p e same is_open. absurd (let like = some-same page p same in let both = sym closed ∙ ap mark like ∙ is_open in cc);
          last = λ p e same is_last. over;
          awaiting = λ e same. absurd cc;
        }

    pub job-works-last : (given then_due : Option Page) (new : PageInHand) → is_some given ≡ false
        → then_due ≡ Some (page_of hand.place true hand.content) → awaited.ended ≡ true
        → ((told : JobTold L) → old told → wanted J told ≡ [] → PushesLines J now told packer given hand)
        → KeepsJob J now awaited new then_due false taken sent false
    job-works-last (Some page) then_due new none is over packing = absurd cc
    job-works-last None then_due new none is over packing =
        rw is (works-last (page_of hand.place true hand.content) new refl over packing)

  -- ---- a file is loaded
  ended-load : (taken : List (Parcel L)) (load : L) → is_ended (taken ++ OfLoad load ∷ []) ≡ is_ended taken
  ended-load [] load = refl
  ended-load (x ∷ taken) load = ap (λ t. is_last x || t) (ended-load taken load)

  reads-on : (place : ℕ) (taken : List (Parcel L)) (load : L) → ReadsOn place taken → ReadsOn place (taken ++ OfLoad load ∷ [])
  reads-on place taken load reads = record {
    counted = reads.counted ∙ ap (λ n. n % 2 ^ 16) (ap length (sym (pages-load taken load)));
    goes_on = λ rest.
        ap (unpacked 0) (append_assoc taken (OfLoad load ∷ []) rest)
        ∙ reads.goes_on (OfLoad load ∷ rest)
        ∙ ap (λ fs. fs ++ unpacked place rest) (sym (unpacked-load 0 taken load));
    no_end = ap has_end (unpacked-load 0 taken load) ∙ reads.no_end;
  }
    where
      pages-load : (taken : List (Parcel L)) (load : L) → pages (taken ++ OfLoad load ∷ []) ≡ pages taken
      pages-load [] load = refl
      pages-load (OfPage page last ∷ taken) load = ap (λ ps. page ∷ ps) (pages-load taken load)
      pages-load (OfFeed f ∷ taken) load = pages-load taken load
      pages-load (OfLine line ∷ taken) load = pages-load taken load
      pages-load (OfLoad first ∷ taken) load = pages-load taken load

  pub job-loads : (old now : JobTold L → Type 0) (awaited : Awaited) (packer : PageInHand) (due : Option Page) (toil : Bool) (taken sent : List (Parcel L))
      (load : L) (file : List ℕ) (later : List (List ℕ))
      → ((told : JobTold L) (file : List ℕ) (later : List (List ℕ)) → old told → wanted J told ≡ file ∷ later → now (with_found told load))
      → KeepsJob J old awaited packer due toil taken sent true → job_wants J taken ≡ file ∷ later
      → KeepsJob J now awaited packer due toil (taken ++ OfLoad load ∷ []) sent true
  job-loads old now awaited packer due toil taken sent load file later found keeps wants =
      let on : toil ≡ true = sym keeps.work_is in
      let same = unpacked-load 0 taken load in
      rw on record {
        work_is = refl;
        ended_is = keeps.ended_is ∙ sym (ended-load taken load);
        end_is = ap has_end same ∙ keeps.end_is;
        reads = λ open_still. reads-on awaited.place taken load (keeps.reads open_still);
        pushed = keeps.pushed;
        rests = keeps.rests;
        keeps =
            told-same now (items (unpacked 0 taken)) (items (unpacked 0 (taken ++ OfLoad load ∷ []))) (has_end (unpacked 0 taken))
            (has_end (unpacked 0 (taken ++ OfLoad load ∷ []))) (loads taken ++ load ∷ []) (loads (taken ++ OfLoad load ∷ [])) keeps.pushed keeps.rests
            (ap items (sym same)) (ap has_end (sym same)) (sym (loads-one taken load))
            (found (told_with taken keeps.pushed keeps.rests) file later keeps.keeps wants);
        none_wanted = λ e. absurd cc;
        next = λ e. absurd cc;
        toiling = λ e. keeps.toiling on;
        putting = λ p e. absurd cc;
        last = λ p e. absurd cc;
        awaiting = λ e. absurd cc;
      }
