-- What a job process makes of pages in order are pages in order; and each page that it takes is the one that it awaits.
use Rattle.std.proofs.Common.{◌≡◌, ℕ, ◌+◌, Bool, true, false, List, [], ◌∷◌, ◌++◌, Option, None, Some, refl, sym, ◌∙◌, ap, subst}
use Rattle.std.specs.Prelude.{Result}
use Rattle.std.specs.List.{AllByRecursion}
use Rattle.std.proofs.lemmas.List.{append-nil}
use Rattle.solo_base.specs.Line.{IsLine}
use Rattle.solo_base.specs.declared.item.Item.{Item}
use Rattle.solo_base.specs.declared.item.Item.TheVariants.{Line}
use Rattle.solo_base.specs.declared.page.Page.{Page}
use Rattle.page_codec.specs.declared.judge.BadPage.{BadPage}
use Rattle.page_codec.specs.Items.{AreItems}
use Rattle.page_codec.specs.Packing.{PageInHand, page_given, hand_after}
use Rattle.page_codec.specs.Reading.{PageContent}
use Rattle.page_codec.proofs.Cutting.{AreItems-append}
use Rattle.batch_procs.specs.declared.actions.Reply.{Reply}
use Rattle.batch_procs.specs.declared.actions.Reply.TheVariants as reply
use Rattle.batch_procs.specs.Jobs.{Jobs, AreJobs}
use Rattle.batch_procs.specs.Parcels.{Parcel, OfPage, mark}
use Rattle.twin_law.specs.Process.{stands_behind}
use Rattle.twin_law.specs.Sides.{Twin, A, B, to_job, from_job}
use Rattle.twin_law.specs.Input.{empty_page}
use Rattle.twin_law.specs.Job.{Stream, no_stream, JobPlace, TakesItems, LoadsFile, Toils, PutsLines, PutsLastLines, HasWorked, job_aims, wanted, toils, behind_items, with_page, behind_page, page_taken, with_load, behind_load, Packed, packed_on, packs_lines, with_packed, behind_packed, lines_ahead, behind_work, next_stream, job_finds, job}
use Rattle.twin_law.specs.Output.{is_some}
use Rattle.twin_law.specs.Twin.{Fits}
use Rattle.twin_law.proofs.Marks.{makes}
use Rattle.twin_law.proofs.Kahn.{seen_by}
use Rattle.twin_law.proofs.Keeping.{sent_by}
use Rattle.twin_law.proofs.Runs.{IsDue, read-due, due-damage, due-some, empty-due, turned, IsRun, turn, turn-page, next-due, GoesOn, put-on, as-was, InHand, first-hand, last-due, Pushed, pushed, all-drop}

-- ---- lists
-- with none of them nothing was put
abbrev pub NoneOr : {T : Type 0} → List T → ℕ → Type 0
NoneOr [] n = n ≡ 0
NoneOr (x ∷ rest) n = Unit {0}

none-append : {T : Type 0} (xs ys : List T) (n : ℕ) → NoneOr xs n → NoneOr (xs ++ ys) n
none-append [] [] n is = is
none-append [] (y ∷ ys) n is = tt
none-append (x ∷ xs) ys n is = tt

none-some : {T : Type 0} (xs : List T) (n : ℕ) → is_some xs ≡ true → NoneOr xs n
none-some [] n some = absurd cc
none-some (x ∷ xs) n some = tt

some-behind : {T : Type 0} (xs ys : List T) → is_some ys ≡ true → is_some (xs ++ ys) ≡ true
some-behind [] ys some = some
some-behind (x ∷ xs) ys some = refl

-- ---- lines are packed
packed-well : (given : Option Page) (hand : PageInHand) (k n : ℕ) (behind : Packed) → Pushed n given hand → (InHand n hand → Pushed n behind.page behind.hand)
    → Pushed n (packed_on given hand k behind).page (packed_on given hand k behind).hand
packed-well None hand k n behind is rest = rest is
packed-well (Some page) hand k n behind is rest = is

packs-well : (lines : List (List ℕ)) (hand : PageInHand) (k n : ℕ) → AllByRecursion IsLine lines → InHand n hand
    → Pushed n (packs_lines hand k lines).page (packs_lines hand k lines).hand
packs-well [] hand k n are has = has
packs-well (line ∷ rest) hand k n are has =
    packed-well (page_given hand (Line line)) (hand_after hand (Line line)) (k + 1) n (packs_lines (hand_after hand (Line line)) (k + 1) rest)
    (pushed n hand (Line line) has are.0) (λ has. packs-well rest (hand_after hand (Line line)) (k + 1) n are.1 has)

-- how many pages of the stream under way came, behind the last of it or another one
abbrev pub pages_then : Bool → ℕ → ℕ
pages_then true n = 0
pages_then false n = n

turned-then : (n : ℕ) (last : Bool) → turned n last ≡ pages_then last (n + 1)
turned-then n true = refl
turned-then n false = refl

module _ {L : Type 0} {J : Jobs L} (jobs : AreJobs J) where
  -- so many pages of lines were put of the stream under way
  pub record Packs (s : Stream L) (n : ℕ) (f : List (Parcel L)) : Type 0 where
    pub goes : GoesOn n f
    pub in_hand : InHand n s.hand
    pub are : AreItems s.items

  abbrev pub Toiling : Stream L → Bool → List (Parcel L) → List (Parcel L) → Type 0
  Toiling s last t f = (n : ℕ) × (turn 0 t ≡ pages_then last s.pages) × Packs s n f × (is_some s.items ≡ true)

  -- what it took and what it put
  abbrev pub JobIs : JobPlace L → List (Parcel L) → List (Parcel L) → Type 0
  JobIs (TakesItems s) t f = (n : ℕ) × (turn 0 t ≡ s.pages) × Packs s n f × NoneOr s.items n
  JobIs (LoadsFile file s last) t f = Toiling s last t f
  JobIs (Toils s last) t f = Toiling s last t f
  JobIs (PutsLines page s last) t f =
      (n : ℕ) × (turn 0 t ≡ pages_then last s.pages) × GoesOn n f × IsDue n false page × InHand (n + 1) s.hand × AreItems s.items × (is_some s.items ≡ true)
  JobIs (PutsLastLines page some) t f = (n : ℕ) × (turn 0 t ≡ 0) × GoesOn n f × IsDue n true page
  JobIs HasWorked t f = GoesOn 0 f

  pub job-begins : JobIs (TakesItems no_stream) [] []
  job-begins = (0, refl, record { goes = record { run = tt; at = refl }; in_hand = first-hand; are = tt }, refl)

  toils-well : (files : List (List ℕ)) (s : Stream L) (last : Bool) (t f : List (Parcel L)) → Toiling s last t f → JobIs (toils files s last) t f
  toils-well [] s last t f is = is
  toils-well (file ∷ later) s last t f is = is

  -- ---- a page that it awaits
  items-well : (items : List Item) (s : Stream L) (last : Bool) (n : ℕ) (t f : List (Parcel L)) → s.items ≡ items → turn 0 t ≡ pages_then last s.pages
      → Packs s n f
      → NoneOr items n → (last ≡ false → is_some items ≡ true) → JobIs (behind_items J items s last) t f
  items-well [] s true n t f same at is none some = (n, at, is.goes, subst (λ n. IsDue n true empty_page) (sym none) empty-due)
  items-well [] s false n t f same at is none some = absurd (let never = some refl in cc)
  items-well (item ∷ items) s last n t f same at is none some = toils-well (wanted J s) s last t f (n, at, is, ap is_some same)

  page-well : (s : Stream L) (page : Page) (last : Bool) (t f : List (Parcel L)) → JobIs (TakesItems s) t f → IsRun 0 (t ++ OfPage page last ∷ [])
      → JobIs (behind_page J s (page_taken s page last)) (t ++ OfPage page last ∷ []) f
  page-well s page last t f (n, at, is, none) run =
      let due = next-due s.pages t page last at run in
      let all = s.items ++ due.items in
      let now : turn 0 (t ++ OfPage page last ∷ []) ≡ pages_then last (s.pages + 1) = turn-page s.pages t page last at ∙ turned-then s.pages last in
      subst (λ (result : Result PageContent BadPage). JobIs (behind_page J s result) (t ++ OfPage page last ∷ []) f) (sym (read-due s.pages last page due))
      (items-well all (with_page s due.items) last n (t ++ OfPage page last ∷ []) f refl now
      (record { goes = is.goes; in_hand = is.in_hand; are = AreItems-append s.items due.items is.are due.form.valid }) (none-append s.items due.items n none)
      (λ e. some-behind s.items due.items (due-some s.pages last page due e)))

  -- ---- a load, and the work
  load-well : (s : Stream L) (load : L) (last : Bool) (t f : List (Parcel L)) → Toiling s last t f → JobIs (behind_load J (with_load s load) last) t f
  load-well s load last t f (n, at, is, some) =
      toils-well (wanted J (with_load s load)) (with_load s load) last t f (n, at, record { goes = is.goes; in_hand = is.in_hand; are = is.are }, some)

  given-well : (given : Option Page) (s : Stream L) (last : Bool) (n : ℕ) (t f : List (Parcel L)) → Pushed n given s.hand
      → turn 0 t ≡ pages_then last s.pages → GoesOn n f
      → AreItems s.items → is_some s.items ≡ true → JobIs (behind_packed s last given) t f
  given-well None s true n t f is at goes are some = (n, at, goes, last-due n s.hand is)
  given-well None s false n t f is at goes are some = (n, at, record { goes = goes; in_hand = is; are = are }, none-some s.items n some)
  given-well (Some page) s last n t f is at goes are some = (n, at, goes, is.0, is.1, are, some)

  work-well : (s : Stream L) (last : Bool) (t f : List (Parcel L)) → Toiling s last t f
      → JobIs (behind_work s last (packs_lines s.hand s.packed (lines_ahead J s last))) t f
  work-well s last t f (n, at, is, some) =
      let p = packs_lines s.hand s.packed (lines_ahead J s last) in
      let lines = all-drop IsLine s.packed (J.lines s.items s.loads last) (jobs.are_lines s.items s.loads last is.are) in
      given-well p.page (with_packed s p.packed p.hand) last n t f (packs-well (lines_ahead J s last) s.hand s.packed n lines is.in_hand) at is.goes is.are some

  next-well : (some : Bool) (t f : List (Parcel L)) → turn 0 t ≡ 0 → GoesOn 0 f → JobIs (next_stream some) t f
  next-well true t f at goes = (0, at, record { goes = goes; in_hand = first-hand; are = tt }, refl)
  next-well false t f at goes = goes

  -- ---- at each place
  no-more : (x : JobPlace L) (t f : List (Parcel L)) → JobIs x t f → JobIs x (t ++ []) (f ++ [])
  no-more x t f is = as-was (λ t f. JobIs x t f) t f is

  taken-well : (s : Stream L) (page : Page) (last : Bool) (t f : List (Parcel L)) → JobIs (TakesItems s) t f → IsRun 0 (t ++ OfPage page last ∷ [])
      → JobIs (behind_page J s (page_taken s page last)) (t ++ OfPage page last ∷ []) (f ++ [])
  taken-well s page last t f is run =
      subst (λ (f : List (Parcel L)). JobIs (behind_page J s (page_taken s page last)) (t ++ OfPage page last ∷ []) f) (sym (append-nil f))
      (page-well s page last t f is run)

  lines-well : (page : Page) (s : Stream L) (last : Bool) (t f : List (Parcel L)) → JobIs (PutsLines page s last) t f
      → JobIs (Toils s last) (t ++ []) (f ++ OfPage page (mark page) ∷ [])
  lines-well page s last t f (n, at, goes, due, has, are, some) =
      subst (λ (t : List (Parcel L)). Toiling s last t (f ++ OfPage page (mark page) ∷ [])) (sym (append-nil t))
      (n + 1, at, record { goes = put-on n f false page goes due; in_hand = has; are = are }, some)

  last-well : (page : Page) (some : Bool) (t f : List (Parcel L)) → JobIs (PutsLastLines page some) t f
      → JobIs (next_stream some) (t ++ []) (f ++ OfPage page (mark page) ∷ [])
  last-well page some t f (n, at, goes, due) =
      subst (λ (t : List (Parcel L)). JobIs (next_stream some) t (f ++ OfPage page (mark page) ∷ [])) (sym (append-nil t))
      (next-well some t (f ++ OfPage page (mark page) ∷ []) at (put-on n f true page goes due))

  pub job-step : (side : Twin) (x : JobPlace L) (r : Reply L) (t f : List (Parcel L)) → Fits (makes (job_aims side x)) r
      → IsRun 0 (t ++ seen_by (to_job side) (makes (job_aims side x)) r) → JobIs x t f
      → JobIs (stands_behind (job J side) x (makes (job_aims side x)) r) (t ++ seen_by (to_job side) (makes (job_aims side x)) r)
      (f ++ sent_by (from_job side) (makes (job_aims side x)) r)
  job-step A (TakesItems s) (reply.Page page last) t f fits run is = taken-well s page last t f is run
  job-step B (TakesItems s) (reply.Page page last) t f fits run is = taken-well s page last t f is run
  job-step side (TakesItems s) reply.Failed t f fits run is = no-more (TakesItems s) t f is
  job-step side (LoadsFile file s last) (reply.Loaded load) t f fits run is =
      no-more (behind_load J (with_load s load) last) t f (load-well s load last t f is)
  job-step side (LoadsFile file s last) reply.Failed t f fits run is = no-more (LoadsFile file s last) t f is
  job-step side (LoadsFile file s last) reply.NoMemory t f fits run is = no-more (LoadsFile file s last) t f is
  job-step side (Toils s last) reply.Done t f fits run is =
      no-more (behind_work s last (packs_lines s.hand s.packed (lines_ahead J s last))) t f (work-well s last t f is)
  job-step A (PutsLines page s last) reply.Done t f fits run is = lines-well page s last t f is
  job-step B (PutsLines page s last) reply.Done t f fits run is = lines-well page s last t f is
  job-step side (PutsLines page s last) reply.Failed t f fits run is = no-more (PutsLines page s last) t f is
  job-step A (PutsLastLines page some) reply.Done t f fits run is = last-well page some t f is
  job-step B (PutsLastLines page some) reply.Done t f fits run is = last-well page some t f is
  job-step side (PutsLastLines page some) reply.Failed t f fits run is = no-more (PutsLastLines page some) t f is
  job-step side HasWorked reply.Done t f fits run is = no-more HasWorked t f is
  job-step side x r t f fits run is = absurd fits

  -- ---- what it finds, and what it put
  awaited : (s : Stream L) (page : Page) (last : Bool) (t f : List (Parcel L)) → JobIs (TakesItems s) t f → IsRun 0 (t ++ OfPage page last ∷ [])
      → job_finds (TakesItems s) (reply.Page page last) ≡ None
  awaited s page last t f (n, at, is, none) run = due-damage s.pages last page (next-due s.pages t page last at run)

  pub job-finds : (side : Twin) (x : JobPlace L) (r : Reply L) (t f : List (Parcel L)) → IsRun 0 (t ++ seen_by (to_job side) (makes (job_aims side x)) r)
      → JobIs x t f
      → job_finds x r ≡ None
  job-finds A (TakesItems s) (reply.Page page last) t f run is = awaited s page last t f is run
  job-finds B (TakesItems s) (reply.Page page last) t f run is = awaited s page last t f is run
  job-finds side x r t f run is = refl

  pub job-runs : (x : JobPlace L) (t f : List (Parcel L)) → JobIs x t f → IsRun 0 f
  job-runs (TakesItems s) t f (n, at, is, none) = is.goes.run
  job-runs (LoadsFile file s last) t f (n, at, is, some) = is.goes.run
  job-runs (Toils s last) t f (n, at, is, some) = is.goes.run
  job-runs (PutsLines page s last) t f (n, at, goes, due, has, are, some) = goes.run
  job-runs (PutsLastLines page some) t f (n, at, goes, due) = goes.run
  job-runs HasWorked t f goes = goes.run
