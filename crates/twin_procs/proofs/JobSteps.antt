-- The steps of a job process.
use Rattle.std.proofs.Common.{◌≡◌, ◌||◌, ◌&&◌, not, ℕ, ◌+◌, ◌%◌, ◌^◌, Bool, true, false, List, [], ◌∷◌, ◌++◌, length, length-append, drop, Option, None, Some, refl, sym, ◌∙◌, ap, subst, arith, append_assoc}
use Rattle.std.specs.Prelude.{Result, Ok, Err, IfOk, OnErr, option_to_list}
use Rattle.std.proofs.lemmas.List.{append-nil}
use Rattle.solo_base.specs.declared.item.Item.{Item}
use Rattle.solo_base.specs.declared.item.Item.TheVariants.{Line}
use Rattle.solo_base.specs.declared.no_memory.NoMemory.{NoMemory}
use Rattle.solo_base.specs.declared.page.Page.{Page}
use Rattle.solo_base.specs.declared.outcome.Outcome.{Outcome}
use Rattle.solo_base.specs.declared.outcome.Outcome.TheVariants as outcome
use Rattle.solo_base.specs.declared.outcome.Cause.{Cause}
use Rattle.page_codec.specs.declared.judge.BadPage.{BadPage}
use Rattle.page_codec.specs.Packing.{PageInHand, page_given, hand_after}
use Rattle.page_codec.specs.Pushes.{pages_given, hand_behind, IsGivenLast, PushesUpTo}
use Rattle.page_codec.specs.Reading.{PageContent, page_read}
use Rattle.batch_procs.specs.declared.actions.Reply.{Reply}
use Rattle.batch_procs.specs.declared.actions.Reply.TheVariants as reply
use Rattle.batch_procs.specs.Jobs.{Jobs}
use Rattle.batch_procs.specs.JobTold as told
use Rattle.batch_procs.specs.JobTold.{JobTold, nothing_told, first_of, PushesLines}
use Rattle.place_law.specs.Process.{fault_in}
use Rattle.twin_law.specs.Sides.{Twin}
use Rattle.twin_law.specs.Input.{last_of, empty_page}
use Rattle.twin_law.specs.Output.{is_some}
use Rattle.twin_law.specs.Job.{Stream, JobPlace, TakesItems, LoadsFile, Toils, PutsLines, PutsLastLines, HasWorked, job, job_aims, wanted, toils, behind_items, with_page, behind_page, page_taken, with_load, packs_lines, packed_on, with_packed, behind_packed, behind_work, lines_ahead, damage}
use Rattle.twin_procs.specs.declared.job_proc.JobAt.{JobAt}
use Rattle.twin_procs.specs.declared.job_proc.JobAt.TheVariants as here
use Rattle.twin_procs.specs.declared.job_proc.JobProc.{JobProc}
use Rattle.twin_procs.specs.Hands.{page_behind, place_after}
use Rattle.twin_procs.specs.Machine.{IsHanded, IsPage, Takes, TakesSo}
use Rattle.twin_procs.specs.Job.{told_of, WorksOn, job_stands, TakesPage, HasPage, FinishesLines}
use Rattle.twin_procs.proofs.OutputSteps.{last-read}

-- ---- packing
-- none of the pushes gave a page
packs-none : (hand : PageInHand) (n : ℕ) (lines : List (List ℕ)) → pages_given hand lines ≡ []
    → packs_lines hand n lines ≡ record { page = None; packed = n + length lines; hand = hand_behind hand lines }
packs-none hand n [] none = ap (λ n. record { page = None; packed = n; hand = hand }) (omega arith)
packs-none hand n (line ∷ lines) none =
    by (page_given hand (Line line)) none (λ none. packs-none (hand_after hand (Line line)) (n + 1) lines none)
  where
    one-more : n + 1 + length lines ≡ n + length (line ∷ lines)
    one-more = omega arith

    by : (given : Option Page) → option_to_list given ++ pages_given (hand_after hand (Line line)) lines ≡ []
        → (pages_given (hand_after hand (Line line)) lines ≡ [] → packs_lines (hand_after hand (Line line)) (n + 1) lines
        ≡ record { page = None; packed = n + 1 + length lines; hand = hand_behind hand (line ∷ lines) })
        → packed_on given (hand_after hand (Line line)) (n + 1) (packs_lines (hand_after hand (Line line)) (n + 1) lines)
        ≡ record { page = None; packed = n + length (line ∷ lines); hand = hand_behind hand (line ∷ lines) }
    by None none on = on none ∙ ap (λ n. record { page = None; packed = n; hand = hand_behind hand (line ∷ lines) }) one-more
    by (Some page) none on = absurd cc

some-page : (a b : Page) (rest : List Page) → (a ∷ rest) ≡ (b ∷ []) → a ≡ b
some-page a b rest e = cc

-- the last gave one
packs-some : (hand : PageInHand) (n : ℕ) (lines left : List (List ℕ)) (page : Page) → pages_given hand lines ≡ page ∷ [] → IsGivenLast hand lines
    → packs_lines hand n (lines ++ left) ≡ record { page = Some page; packed = n + length lines; hand = hand_behind hand lines }
packs-some hand n [] left page gives last = absurd last
packs-some hand n (line ∷ []) left page gives last = by (page_given hand (Line line)) gives last
  where
    by : (given : Option Page) → option_to_list given ++ [] ≡ page ∷ [] → ((given ≡ None) → ⊥)
        → packed_on given (hand_after hand (Line line)) (n + 1) (packs_lines (hand_after hand (Line line)) (n + 1) left)
        ≡ record { page = Some page; packed = n + 1; hand = hand_after hand (Line line) }
    by None gives last = absurd (last refl)
    by (Some given) gives last =
        ap (λ page. record { page = Some page; packed = n + 1; hand = hand_after hand (Line line) }) (some-page given page [] gives)
packs-some hand n (line ∷ next ∷ lines) left page gives last =
    by (page_given hand (Line line)) gives last.0 (λ gives. packs-some (hand_after hand (Line line)) (n + 1) (next ∷ lines) left page gives last.1)
  where
    one-more : n + 1 + length (next ∷ lines) ≡ n + length (line ∷ next ∷ lines)
    one-more = omega arith

    by : (given : Option Page) → option_to_list given ++ pages_given (hand_after hand (Line line)) (next ∷ lines) ≡ page ∷ [] → given ≡ None
        → (pages_given (hand_after hand (Line line)) (next ∷ lines) ≡ page ∷ [] → packs_lines (hand_after hand (Line line)) (n + 1) (next ∷ (lines ++ left))
        ≡ record { page = Some page; packed = n + 1 + length (next ∷ lines); hand = hand_behind hand (line ∷ next ∷ lines) })
        → packed_on given (hand_after hand (Line line)) (n + 1) (packs_lines (hand_after hand (Line line)) (n + 1) (next ∷ (lines ++ left)))
        ≡ record { page = Some page; packed = n + length (line ∷ next ∷ lines); hand = hand_behind hand (line ∷ next ∷ lines) }
    by None gives none on = on gives ∙ ap (λ n. record { page = Some page; packed = n; hand = hand_behind hand (line ∷ next ∷ lines) }) one-more
    by (Some given) gives none on = absurd cc

-- the lines that follow those that were pushed
drop-all : (pushed rest : List (List ℕ)) → drop (length pushed) (pushed ++ rest) ≡ rest
drop-all [] rest = refl
drop-all (line ∷ pushed) rest = drop-all pushed rest

packs-by : (hand : PageInHand) (n : ℕ) (lines left : List (List ℕ)) (page : Option Page) → PushesUpTo hand lines page → (page ≡ None → left ≡ [])
    → packs_lines hand n (lines ++ left) ≡ record { page = page; packed = n + length lines; hand = hand_behind hand lines }
packs-by hand n lines left None pushes all =
    ap (packs_lines hand n) (ap (λ left. lines ++ left) (all refl) ∙ append-nil lines) ∙ packs-none hand n lines pushes
packs-by hand n lines left (Some page) pushes all = packs-some hand n lines left page pushes.0 pushes.1

-- ---- lists
none-of : (a b : List Item) → (is_some a || is_some b) ≡ false → a ++ b ≡ []
none-of [] [] e = refl
none-of [] (x ∷ b) e = absurd cc
none-of (x ∷ a) b e = absurd cc

some-of : (a b : List Item) → is_some (a ++ b) ≡ (is_some a || is_some b)
some-of [] b = refl
some-of (x ∷ a) b = refl

and-left : (t u : Bool) → (t && u) ≡ true → t ≡ true
and-left true u e = refl
and-left false u e = absurd cc

not-some : (last some : Bool) → (last && not some) ≡ true → some ≡ false
not-some last false e = refl
not-some true true e = absurd cc
not-some false true e = absurd cc

last-some : (last some : Bool) → (last && not some) ≡ false → last ≡ true → some ≡ true
last-some last true e is = refl
last-some true false e is = absurd cc
last-some false false e is = absurd cc

goes-on : {L : Type 0} (J : Jobs L) (all : List Item) (s : Stream L) (last some : Bool) → is_some all ≡ some → (last && not some) ≡ false
    → behind_items J all s last ≡ toils (wanted J s) s last
goes-on J [] s true some is on = absurd (let none = last-some true some on refl in cc)
goes-on J [] s false some is on = refl
goes-on J (x ∷ all) s last some is on = refl

place-next : (last : Bool) (n : ℕ) → page_behind last (n % 2 ^ 16) ≡ place_after last (n + 1)
place-next true n = refl
place-next false n = omega arith

module _ {L X S : Type 0} (J : Jobs L) (keeps : X → JobTold L → Type 0) where
  -- ---- a page of items
  -- the files that are wanted are loaded, and then it works
  toils-stand : (j : JobProc X S) (s : Stream L) (last : Bool) (files : List (List ℕ)) → wanted J s ≡ files → j.place ≡ here.Toils
      → WorksOn keeps j s last false → job_stands J keeps j (toils files s last)
  toils-stand j s last [] want place works = (place, works, want)
  toils-stand j s last (file ∷ later) want place works = (place, works, (later, want))

  pub feeds-none : (j : JobProc X S) (content : PageContent) (some : Bool) (page : Page) → some ≡ (j.some || is_some content.items)
      → (content.last && not some) ≡ true
      → page ≡ empty_page → (s : Stream L) → HasPage keeps j s content.last
      → job_stands J keeps (record j { some = some; place = here.PutsLastLines page })
      (behind_items J (s.items ++ content.items) (with_page s content.items) content.last)
  feeds-none j content some page is ends empty s has =
      let none : some ≡ false = not-some content.last some ends in
      let all : s.items ++ content.items ≡ [] =
      none-of s.items content.items (ap (λ some. some || is_some content.items) (sym has.some_is) ∙ sym is ∙ none) in
      let last : content.last ≡ true = and-left content.last (not some) ends in
      rw (all, last) (ap here.PutsLastLines empty, none)

  pub feeds-on : (j : JobProc X S) (content : PageContent) (some : Bool) (jobs : X) → some ≡ (j.some || is_some content.items)
      → (content.last && not some) ≡ false
      → ((t : JobTold L) → keeps j.jobs t → t.rests ≡ true → t.ended ≡ false → keeps jobs (told.with_page t content)) → (s : Stream L)
      → HasPage keeps j s content.last
      → job_stands J keeps (record j { some = some; jobs = jobs; last = content.last; place = here.Toils })
      (behind_items J (s.items ++ content.items) (with_page s content.items) content.last)
  feeds-on j content some jobs is on fed s has =
      let some_is : some ≡ is_some (s.items ++ content.items) =
      is ∙ ap (λ some. some || is_some content.items) has.some_is ∙ sym (some-of s.items content.items) in
      let now : JobProc X S = record j { some = some; jobs = jobs; last = content.last; place = here.Toils } in
      subst (λ at. job_stands J keeps now at) (sym (goes-on J (s.items ++ content.items) (with_page s content.items) content.last some (sym some_is) on))
      (toils-stand now (with_page s content.items) content.last (wanted J (with_page s content.items)) refl refl record {
        pushed = has.pushed;
        count = has.count;
        told = fed (told_of s false has.pushed true) has.told refl refl;
        pages = has.pages;
        hand = has.hand;
        last_is = refl;
        some_is = some_is;
        some_at = last-some content.last some on;
      })

  -- the page that was taken
  pub has-page : (j : JobProc X S) (next : ℕ) (last : Bool) (page : Page) (content : PageContent) → page_read j.pages last page ≡ Ok content
      → next ≡ page_behind last j.pages → (s : Stream L) → job_stands J keeps j (TakesItems s)
      → HasPage keeps (record j { pages = next }) s content.last
  has-page j next last page content reads after s kept = record {
    pushed = kept.1.pushed;
    count = kept.1.count;
    told = kept.1.told;
    pages = after ∙ ap (page_behind last) kept.1.pages ∙ place-next last s.pages
        ∙ ap (λ last. place_after last (s.pages + 1)) (sym (last-read j.pages last page content reads));
    hand = kept.1.hand;
    some_is = kept.1.some_is;
  }

  pub page-fed : (j new : JobProc X S) (next : ℕ) (last : Bool) (page : Page) (content : PageContent) → page_read j.pages last page ≡ Ok content
      → next ≡ page_behind last j.pages
      → ((s : Stream L) → HasPage keeps (record j { pages = next }) s content.last
      → job_stands J keeps new (behind_items J (s.items ++ content.items) (with_page s content.items) content.last))
      → (s : Stream L) → job_stands J keeps j (TakesItems s) → TakesPage J (job_stands J keeps new) s page last None
  page-fed j new next last page content reads after fed s kept =
      let read : page_taken s page last ≡ Ok content = ap (λ n. page_read n last page) (sym kept.1.pages) ∙ reads in (
        sym (ap (λ r. fault_in (damage r)) read),
        λ none. subst (λ r. job_stands J keeps new (behind_page J s r)) (sym read) (fed s (has-page j next last page content reads after s kept)),
      )

  pub page-damaged : (j new : JobProc X S) (last : Bool) (page : Page) (bad : BadPage) (cause : Cause) → page_read j.pages last page ≡ Err bad
      → damage (Err bad) ≡ Some cause → (s : Stream L) → job_stands J keeps j (TakesItems s)
      → TakesPage J (job_stands J keeps new) s page last (Some (outcome.Fault cause))
  page-damaged j new last page bad cause reads is s kept =
      let read : page_taken s page last ≡ Err bad = ap (λ n. page_read n last page) (sym kept.1.pages) ∙ reads in
      (sym (ap (λ r. fault_in (damage r)) read ∙ ap fault_in is), λ none. absurd cc)

  -- ---- the work
  module _ (j : JobProc X S) (s : Stream L) (last : Bool) (kept : job_stands J keeps j (Toils s last)) (jobs : X) (packer : PageInHand) (page : Option Page)
      (packs : (t : JobTold L) → keeps j.jobs t → told.wanted J t ≡ [] → PushesLines J (keeps jobs) t j.packer page packer) where
    abbrev works : WorksOn keeps j s last false
    works = kept.1

    abbrev pushes : PushesLines J (keeps jobs) (told_of s last works.pushed false) j.packer page packer
    pushes = packs (told_of s last works.pushed false) works.told kept.2

    ahead : lines_ahead J s last ≡ pushes.lines ++ pushes.left
    ahead =
        ap (λ n. drop n (J.lines s.items s.loads last)) works.count
        ∙ ap (drop (length works.pushed)) (pushes.next ∙ append_assoc works.pushed pushes.lines pushes.left)
        ∙ drop-all works.pushed (pushes.lines ++ pushes.left)

    abbrev now : Stream L
    now = with_packed s (s.packed + length pushes.lines) (hand_behind s.hand pushes.lines)

    behind : behind_work s last (packs_lines s.hand s.packed (lines_ahead J s last)) ≡ behind_packed now last page
    behind =
        ap (λ lines. behind_work s last (packs_lines s.hand s.packed lines)) ahead
        ∙ ap (behind_work s last) (packs-by s.hand s.packed pushes.lines pushes.left page
        (subst (λ hand. PushesUpTo hand pushes.lines page) works.hand pushes.pushes) pushes.all)

    counted : s.packed + length pushes.lines ≡ length (works.pushed ++ pushes.lines)
    counted = ap (λ n. n + length pushes.lines) works.count ∙ sym (length-append works.pushed pushes.lines)

    in-hand : packer ≡ hand_behind s.hand pushes.lines
    in-hand = pushes.in_hand ∙ ap (λ hand. hand_behind hand pushes.lines) works.hand

    abbrev packed : JobAt → JobProc X S
    packed place = record j { place = place; jobs = jobs; packer = packer }

    works-on : (place : JobAt) (rests : Bool) → rests ≡ told.rests_behind page → WorksOn keeps (packed place) now last rests
    works-on place rests is = record {
      pushed = works.pushed ++ pushes.lines;
      count = counted;
      told = rw is pushes.keeps;
      pages = works.pages;
      hand = in-hand;
      last_is = works.last_is;
      some_is = works.some_is;
      some_at = works.some_at;
    }

    pub works-page : (full : Page) → page ≡ Some full
        → job_stands J keeps (packed (here.PutsLines full)) (behind_work s last (packs_lines s.hand s.packed (lines_ahead J s last)))
    works-page full is =
        subst (λ at. job_stands J keeps (packed (here.PutsLines full)) at) (sym (behind ∙ ap (behind_packed now last) is))
        (refl, works-on (here.PutsLines full) false (sym (ap told.rests_behind is)), kept.2)

    pub works-all : page ≡ None → j.last ≡ false
        → job_stands J keeps (packed here.TakesItems) (behind_work s last (packs_lines s.hand s.packed (lines_ahead J s last)))
    works-all is goes =
        let not_last : last ≡ false = sym works.last_is ∙ goes in
        subst (λ at. job_stands J keeps (packed here.TakesItems) at)
        (sym (behind ∙ ap (behind_packed now last) is ∙ ap (λ last. behind_packed now last None) not_last))
        (refl, subst (λ last. WorksOn keeps (packed here.TakesItems) now last true) not_last (works-on here.TakesItems true (sym (ap told.rests_behind is))))

    pub works-last : (new : JobProc X S) → page ≡ None → j.last ≡ true → FinishesLines (packed j.place) new
        → job_stands J keeps new (behind_work s last (packs_lines s.hand s.packed (lines_ahead J s last)))
    works-last new is ends finishes =
        let at_last : last ≡ true = sym works.last_is ∙ ends in
        subst (λ at. job_stands J keeps new at) (sym (behind ∙ ap (behind_packed now last) is ∙ ap (λ last. behind_packed now last None) at_last))
        (finishes.place ∙ ap (λ hand. here.PutsLastLines (last_of hand)) in-hand, finishes.some ∙ works.some_at at_last)

  module _ (side : Twin) (j : JobProc X S) where
    -- ---- what it takes
    pub job-takes : (r : Reply L) (page : Page) (last : Bool) (result : Result (Option Outcome) NoMemory) (new : JobProc X S) → r ≡ reply.Page page last
        → ((s : Stream L) → job_stands J keeps j (TakesItems s) → IfOk result (λ cause. TakesPage J (job_stands J keeps new) s page last cause))
        → (at : JobPlace L) → job_stands J keeps j at → IsHanded (job_aims side at) r → TakesSo (job J side) (job_stands J keeps new) at r result
    job-takes r page last result new is takes (TakesItems s) kept handed = rw is (by result (takes s kept))
      where
        by : (result : Result (Option Outcome) NoMemory) → IfOk result (λ cause. TakesPage J (job_stands J keeps new) s page last cause)
            → TakesSo (job J side) (job_stands J keeps new) (TakesItems s) (reply.Page page last) result
        by (Ok cause) taken = taken
        by (Err refused) taken = tt
    job-takes r page last result new is takes (LoadsFile file s other) kept handed =
        absurd (let P : Reply L → Type 0 = λ r. IsHanded (job_aims side (LoadsFile file s other)) r in subst P is handed)
    job-takes r page last result new is takes (Toils s other) kept handed = absurd handed
    job-takes r page last result new is takes (PutsLines put s other) kept handed = absurd handed
    job-takes r page last result new is takes (PutsLastLines put some) kept handed = absurd handed
    job-takes r page last result new is takes HasWorked kept handed = absurd handed

    pub job-loads : (r : Reply L) (load : L) (jobs : X) → r ≡ reply.Loaded load
        → ((t : JobTold L) (file : List ℕ) (later : List (List ℕ)) → keeps j.jobs t → told.wanted J t ≡ file ∷ later → keeps jobs (told.with_found t load))
        → (at : JobPlace L) → job_stands J keeps j at → IsHanded (job_aims side at) r
        → Takes (job J side) (job_stands J keeps (record j { jobs = jobs })) at r None
    job-loads r load jobs is loaded (TakesItems s) kept handed =
        absurd (let P : Reply L → Type 0 = λ r. IsHanded (job_aims side (TakesItems s)) r in subst P is handed)
    job-loads r load jobs is loaded (LoadsFile file s last) kept handed = rw is (
      refl,
      λ none. toils-stand (record j { jobs = jobs }) (with_load s load) last (wanted J (with_load s load)) refl kept.0 record {
        pushed = kept.1.pushed;
        count = kept.1.count;
        told = loaded (told_of s last kept.1.pushed false) file kept.2.0 kept.1.told kept.2.1;
        pages = kept.1.pages;
        hand = kept.1.hand;
        last_is = kept.1.last_is;
        some_is = kept.1.some_is;
        some_at = kept.1.some_at;
      },
    )
    job-loads r load jobs is loaded (Toils s last) kept handed = absurd handed
    job-loads r load jobs is loaded (PutsLines page s last) kept handed = absurd handed
    job-loads r load jobs is loaded (PutsLastLines page some) kept handed = absurd handed
    job-loads r load jobs is loaded HasWorked kept handed = absurd handed

    pub job-others : (r : Reply L) → ((page : Page) (last : Bool) → r ≡ reply.Page page last → ⊥) → ((load : L) → r ≡ reply.Loaded load → ⊥) → (at : JobPlace L)
        → IsHanded (job_aims side at) r → ⊥
    job-others (reply.Page page last) no_page no_load (TakesItems s) handed = no_page page last refl
    job-others r no_page no_load (TakesItems s) handed = handed
    job-others (reply.Loaded load) no_page no_load (LoadsFile file s last) handed = no_load load refl
    job-others r no_page no_load (LoadsFile file s last) handed = handed
    job-others r no_page no_load (Toils s last) handed = handed
    job-others r no_page no_load (PutsLines page s last) handed = handed
    job-others r no_page no_load (PutsLastLines page some) handed = handed
    job-others r no_page no_load HasWorked handed = handed

pub page-lacks : {L : Type 0} (r : Reply L) (page : Page) (last : Bool) → r ≡ reply.Page page last → (result : Result (Option Outcome) NoMemory)
    → OnErr result ((true ≡ true) × IsPage r)
page-lacks r page last is (Ok cause) = tt
page-lacks r page last is (Err refused) = rw is (refl, tt)
