-- What a job process put comes of what it took: of each page of items so many pages of lines.
use Rattle.std.proofs.Common.{◌≡◌, ℕ, ◌+◌, ◌*◌, ◌-◌, ◌≤◌, ◌%◌, ◌^◌, Bool, true, false, List, [], ◌∷◌, ◌++◌, length, length-append, length-drop, Option, None, Some, refl, ◌∙◌, sym, ap, arith}
use Rattle.std.specs.List.{AllByRecursion}
use Rattle.solo_base.specs.declared.item.Item.{Item}
use Rattle.solo_base.specs.declared.item.Item.TheVariants.{Line}
use Rattle.solo_base.specs.declared.page.Page.{Page}
use Rattle.solo_base.specs.declared.outcome.Side.TheVariants.{Receiver}
use Rattle.page_codec.specs.Items.{AreItems, IsItem}
use Rattle.page_codec.specs.Packing.{PageInHand, page_given, hand_after, fits}
use Rattle.batch_procs.specs.declared.actions.Reply.{Reply}
use Rattle.batch_procs.specs.Jobs.{Jobs, AreJobs}
use Rattle.batch_procs.specs.declared.actions.Reply.TheVariants as reply
use Rattle.twin_law.specs.Process.{Action, PutPage, TakePage, stands_behind}
use Rattle.twin_law.specs.Sides.{Twin, A, B}
use Rattle.twin_law.specs.Job.{Stream, no_stream, JobPlace, TakesItems, LoadsFile, Toils, PutsLines, PutsLastLines, HasWorked, job_aims, wanted, toils, behind_items, with_page, behind_page, page_taken, with_load, Packed, packed_on, packs_lines, with_packed, behind_packed, lines_ahead, behind_work, next_stream, job}
use Rattle.twin_law.specs.Twin.{call, went_by, Fits, IsGood}
use Rattle.twin_law.specs.Left.{line_pages}
use Rattle.twin_law.proofs.Marks.{makes}
use Rattle.twin_law.proofs.Pays.{spot, many_by, nothing}
use Rattle.twin_law.proofs.GoodPages.{good-page}
use Rattle.twin_law.proofs.Credits.{sends, lacks-none, HasCredit}

-- ---- plain numbers
parts : (m a n : ℕ) → m * (a + n) ≡ m * a + m * n
parts m a n = grind arith

grows : (m a n all : ℕ) → n ≤ 506 → all ≡ a + n → (m * all ≤ m * a + 506 * m) × (m * a ≤ m * all)
grows m a n all few e =
    let d = 506 - n in
    let f : n + d ≡ 506 = omega (arith, few) in
    let x : m * all ≡ m * a + m * n = ap (λ k. m * k) e ∙ parts m a n in
    let y : m * 506 ≡ m * n + m * d = ap (λ k. m * k) (sym f) ∙ parts m n d in
    (omega (arith, x, y), omega (arith, x))

more-room : (old new pages packed k : ℕ) → new ≤ old + 506 * k → packed ≤ old + pages
    → new + 2 * (pages + 1) - packed ≤ 506 * k + 2 + (old + 2 * pages - packed)
more-room old new pages packed k more fill = omega (arith, more, fill)

fills-on : (old new pages packed : ℕ) → old ≤ new → packed ≤ old + pages → packed ≤ new + (pages + 1)
fills-on old new pages packed more fill = omega (arith, more, fill)

leaves-one : (all pages packed : ℕ) → packed ≤ all + pages → 1 ≤ pages → 1 ≤ all + 2 * pages - packed
leaves-one all pages packed fill some = omega (arith, fill, some)

packs-few : (all pages packed len ahead now : ℕ) → len ≤ all + 1 → 1 ≤ pages → packed ≤ all + pages → ahead ≡ len - packed → now ≤ packed + ahead
    → now ≤ all + pages
packs-few all pages packed len ahead now few some fill e most = omega (arith, few, some, fill, e, most)

falls : (all pages packed now : ℕ) → packed ≤ now → all + 2 * pages - now ≤ all + 2 * pages - packed
falls all pages packed now least = omega (arith, least)

falls-one : (all pages packed now : ℕ) → packed + 1 ≤ now → now ≤ all + pages → 1 ≤ pages → all + 2 * pages - now + 1 ≤ all + 2 * pages - packed
falls-one all pages packed now least fill some = omega (arith, least, fill, some)

both-so : {T : Type 0} (Is : T → Type 0) (some more : List T) → AllByRecursion Is some → AllByRecursion Is more → AllByRecursion Is (some ++ more)
both-so Is [] more all rest = rest
both-so Is (x ∷ some) more all rest = (all.0, both-so Is some more all.1 rest)

-- ---- packing: how many lines are packed then
record PackedIs (n : ℕ) (lines : List (List ℕ)) (p : Packed) : Type 0 where
  least : n ≤ p.packed
  most : p.packed ≤ n + length lines
  some : (page : Page) → p.page ≡ Some page → n + 1 ≤ p.packed

packed-so : (hand : PageInHand) (n : ℕ) (lines : List (List ℕ)) → PackedIs n lines (packs_lines hand n lines)
packed-so hand n [] = record { least = omega arith; most = omega arith; some = λ page e. absurd cc }
packed-so hand n (line ∷ rest) =
    let next = hand_after hand (Line line) in
    let on = packed-so next (n + 1) rest in
    let P : Option Page → Type 0 = λ g. PackedIs n (line ∷ rest) (packed_on g next (n + 1) (packs_lines next (n + 1) rest)) in
    elim (page_given hand (Line line)) as P [
      | None ↦ record {
        least = (let a = on.least in omega (arith, a));
        most = (let a = on.most in omega (arith, a));
        some = λ page e.
            (let a = on.some page e in omega (arith, a));
      }
      | Some page ↦ record { least = omega arith; most = omega arith; some = λ page e. omega arith }
    ]

-- ---- one side's answers: pages put and taken
abbrev sent_one : {L : Type 0} → Action → Reply L → ℕ
sent_one (PutPage b page) reply.Done = 1
sent_one a r = 0

abbrev took_one : {L : Type 0} → Action → Reply L → ℕ
took_one (TakePage b) (reply.Page page last) = 1
took_one a r = 0

module _ {L : Type 0} {J : Jobs L} (jobs : AreJobs J) where
  -- its items are items, its loads are loads, and it has packed no more lines than there can be
  pub record IsGoodStream (s : Stream L) : Type 0 where
    pub items : AreItems s.items
    pub loads : AllByRecursion J.IsLoad s.loads
    pub filled : s.packed ≤ J.most * length s.items + s.pages

  abbrev pub Began : Stream L → Type 0
  Began s = IsGoodStream s × (1 ≤ s.pages)

  abbrev pub JobKeeps : JobPlace L → Type 0
  JobKeeps (TakesItems s) = IsGoodStream s
  JobKeeps (LoadsFile file s last) = Began s
  JobKeeps (Toils s last) = Began s
  JobKeeps (PutsLines page s last) = Began s
  JobKeeps (PutsLastLines page some) = Unit {0}
  JobKeeps HasWorked = Unit {0}

  -- the pages of lines that may still come of its items
  abbrev pub rest_of : Stream L → ℕ
  rest_of s = J.most * length s.items + 2 * s.pages - s.packed

  abbrev pub job_worth : JobPlace L → ℕ
  job_worth (TakesItems s) = rest_of s
  job_worth (LoadsFile file s last) = rest_of s
  job_worth (Toils s last) = rest_of s
  job_worth (PutsLines page s last) = rest_of s + 1
  job_worth (PutsLastLines page some) = 1
  job_worth HasWorked = 0

  record Comes (x : JobPlace L) (n : ℕ) : Type 0 where
    is : JobKeeps x
    few : job_worth x ≤ n

  more-comes : (x : JobPlace L) (n m : ℕ) → n ≤ m → Comes x n → Comes x m
  more-comes x n m less c = (let few = c.few in record { is = c.is; few = omega (arith, less, few) })

  toils-comes : (files : List (List ℕ)) (s : Stream L) (last : Bool) → Began s → Comes (toils files s last) (rest_of s)
  toils-comes [] s last began = record { is = began; few = omega arith }
  toils-comes (file ∷ later) s last began = record { is = began; few = omega arith }

  items-comes : (items : List Item) (s : Stream L) (last : Bool) → Began s → Comes (behind_items J items s last) (rest_of s)
  items-comes [] s true began = record { is = tt; few = leaves-one (J.most * length s.items) s.pages s.packed began.0.filled began.1 }
  items-comes [] s false began = toils-comes (wanted J s) s false began
  items-comes (item ∷ rest) s true began = toils-comes (wanted J s) s true began
  items-comes (item ∷ rest) s false began = toils-comes (wanted J s) s false began

  page-began : (s : Stream L) (items : List Item) → length items ≤ 506 → AreItems items → IsGoodStream s → Began (with_page s items)
  page-began s items few are good =
      let more = grows J.most (length s.items) (length items) (length (s.items ++ items)) few (length-append s.items items) in (
        record {
          items = both-so IsItem s.items items good.items are;
          loads = good.loads;
          filled = fills-on (J.most * length s.items) (J.most * length (s.items ++ items)) s.pages s.packed more.1 good.filled;
        },
        omega arith,
      )

  page-comes : (s : Stream L) (page : Page) (last : Bool) → IsGoodStream s → Comes (behind_page J s (page_taken s page last)) (line_pages J + rest_of s)
  page-comes s page last good =
      good-page (λ result. Comes (behind_page J s result) (line_pages J + rest_of s)) (s.pages % 2 ^ 16) last page
      (λ items few are.
      (let more = grows J.most (length s.items) (length items) (length (s.items ++ items)) few (length-append s.items items) in
      more-comes (behind_items J (s.items ++ items) (with_page s items) last) (rest_of (with_page s items)) (line_pages J + rest_of s)
      (more-room (J.most * length s.items) (J.most * length (s.items ++ items)) s.pages s.packed J.most more.0 good.filled)
      (items-comes (s.items ++ items) (with_page s items) last (page-began s items few are good))))
      (λ bad. record { is = good; few = omega arith })

  load-began : (s : Stream L) (load : L) → J.IsLoad load → Began s → Began (with_load s load)
  load-began s load is began =
      (record { items = began.0.items; loads = both-so J.IsLoad s.loads (load ∷ []) began.0.loads (is, tt); filled = began.0.filled }, began.1)

  packed-comes : (s : Stream L) (last : Bool) (page : Option Page) (n : ℕ) → Began s → rest_of s ≤ n → 1 ≤ n → ((q : Page) → page ≡ Some q → rest_of s + 1 ≤ n)
      → Comes (behind_packed s last page) n
  packed-comes s true None n began less one more = record { is = tt; few = one }
  packed-comes s false None n began less one more = record { is = began.0; few = less }
  packed-comes s last (Some page) n began less one more = record { is = began; few = more page refl }

  work-comes : (s : Stream L) (last : Bool) → Began s → Comes (behind_work s last (packs_lines s.hand s.packed (lines_ahead J s last))) (rest_of s)
  work-comes s last began =
      let ahead = lines_ahead J s last in
      let p = packs_lines s.hand s.packed ahead in
      let so = packed-so s.hand s.packed ahead in
      let all = J.most * length s.items in
      let fill = packs-few all s.pages s.packed (length (J.lines s.items s.loads last)) (length ahead) p.packed
      (jobs.few_lines s.items s.loads last began.0.items began.0.loads) began.1
      began.0.filled (length-drop s.packed (J.lines s.items s.loads last)) so.most in
      packed-comes (with_packed s p.packed p.hand) last p.page (rest_of s) (record { items = began.0.items; loads = began.0.loads; filled = fill }, began.1)
      (falls all s.pages s.packed p.packed so.least) (leaves-one all s.pages s.packed began.0.filled began.1)
      (λ q e. falls-one all s.pages s.packed p.packed (so.some q e) fill began.1)

  stream-comes : (some : Bool) → Comes (next_stream some) 0
  stream-comes true = record { is = record { items = tt; loads = tt; filled = omega arith }; few = omega arith }
  stream-comes false = record { is = tt; few = omega arith }

  record Turns (side : Twin) (x : JobPlace L) (r : Reply L) : Type 0 where
    is : JobKeeps (stands_behind (job J side) x (makes (job_aims side x)) r)
    few : sent_one (makes (job_aims side x)) r + job_worth (stands_behind (job J side) x (makes (job_aims side x)) r) ≤ line_pages J * took_one
        (makes (job_aims side x)) r + job_worth x

  job-turns : (side : Twin) (x : JobPlace L) (r : Reply L) → Fits (makes (job_aims side x)) r → IsGood J r → JobKeeps x → Turns side x r
  job-turns side (TakesItems s) (reply.Page page last) fits good is =
      (let next = page-comes s page last is in let few = next.few in record { is = next.is; few = omega (arith, few) })
  job-turns side (TakesItems s) reply.Failed fits good is = record { is = is; few = omega arith }
  job-turns side (LoadsFile file s last) (reply.Loaded load) fits good is =
      (let now = with_load s load in let next = toils-comes (wanted J now) now last
      (load-began s load good is) in let few = next.few in record { is = next.is; few = omega (arith, few) })
  job-turns side (LoadsFile file s last) reply.Failed fits good is = record { is = is; few = omega arith }
  job-turns side (LoadsFile file s last) reply.NoMemory fits good is = record { is = is; few = omega arith }
  job-turns side (Toils s last) reply.Done fits good is =
      (let next = work-comes s last is in let few = next.few in record { is = next.is; few = omega (arith, few) })
  job-turns side (PutsLines page s last) reply.Done fits good is = record { is = is; few = omega arith }
  job-turns side (PutsLines page s last) reply.Failed fits good is = record { is = is; few = omega arith }
  job-turns side (PutsLastLines page some) reply.Done fits good is =
      (let next = stream-comes some in let few = next.few in record { is = next.is; few = omega (arith, few) })
  job-turns side (PutsLastLines page some) reply.Failed fits good is = record { is = tt; few = omega arith }
  job-turns side HasWorked reply.Done fits good is = record { is = tt; few = omega arith }
  job-turns side x r fits good is = absurd fits

  -- ---- what the two sides move
  record Counted (b c : ℕ) (n : ℕ) (a : Action) (r : Reply L) : Type 0 where
    sent : many_by (sends (c ∷ [])) (call n a) (went_by a r) ≡ sent_one a r
    took : many_by (spot b Receiver ∷ []) (call n a) (went_by a r) ≡ took_one a r

  counted-a : (x : JobPlace L) (r : Reply L) → Fits (makes (job_aims A x)) r → Counted 2 4 3 (makes (job_aims A x)) r
  counted-a (TakesItems s) (reply.Page page last) fits = record { sent = omega arith; took = omega arith }
  counted-a (TakesItems s) reply.Failed fits = record { sent = omega arith; took = omega arith }
  counted-a (LoadsFile file s last) r fits = record { sent = omega arith; took = omega arith }
  counted-a (Toils s last) r fits = record { sent = omega arith; took = omega arith }
  counted-a (PutsLines page s last) reply.Done fits = record { sent = omega arith; took = omega arith }
  counted-a (PutsLines page s last) reply.Failed fits = record { sent = omega arith; took = omega arith }
  counted-a (PutsLastLines page some) reply.Done fits = record { sent = omega arith; took = omega arith }
  counted-a (PutsLastLines page some) reply.Failed fits = record { sent = omega arith; took = omega arith }
  counted-a HasWorked r fits = record { sent = omega arith; took = omega arith }
  counted-a x r fits = absurd fits

  counted-b : (x : JobPlace L) (r : Reply L) → Fits (makes (job_aims B x)) r → Counted 3 5 4 (makes (job_aims B x)) r
  counted-b (TakesItems s) (reply.Page page last) fits = record { sent = omega arith; took = omega arith }
  counted-b (TakesItems s) reply.Failed fits = record { sent = omega arith; took = omega arith }
  counted-b (LoadsFile file s last) r fits = record { sent = omega arith; took = omega arith }
  counted-b (Toils s last) r fits = record { sent = omega arith; took = omega arith }
  counted-b (PutsLines page s last) reply.Done fits = record { sent = omega arith; took = omega arith }
  counted-b (PutsLines page s last) reply.Failed fits = record { sent = omega arith; took = omega arith }
  counted-b (PutsLastLines page some) reply.Done fits = record { sent = omega arith; took = omega arith }
  counted-b (PutsLastLines page some) reply.Failed fits = record { sent = omega arith; took = omega arith }
  counted-b HasWorked r fits = record { sent = omega arith; took = omega arith }
  counted-b x r fits = absurd fits

  spends-so : (sent one km kn w w' : ℕ) → sent ≡ one → km ≡ kn → one + w' ≤ kn + w → sent + 0 + w' ≤ km + w
  spends-so sent one km kn w w' a b few = omega (arith, a, b, few)

  first-keeps : JobKeeps (TakesItems no_stream)
  first-keeps = record { items = tt; loads = tt; filled = omega arith }

  pub job-a-credit : HasCredit J 3 (sends (4 ∷ [])) (spot 2 Receiver ∷ []) nothing (line_pages J) JobKeeps job_worth
  job-a-credit = record {
    first_is = first-keeps;
    first = omega arith;
    step = λ x r fits good is.
        (let turn = job-turns A x r fits good is in
        let c = counted-a x r fits in
        record { is = turn.is; few = spends-so _ _ _ _ _ _ c.sent (ap (λ n. line_pages J * n) c.took) turn.few });
    around = λ a r is. refl;
    waits = λ a. refl;
    lacks = λ a r may. (let none = lacks-none (4 ∷ []) 3 a r may in omega (arith, none));
  }

  pub job-b-credit : HasCredit J 4 (sends (5 ∷ [])) (spot 3 Receiver ∷ []) nothing (line_pages J) JobKeeps job_worth
  job-b-credit = record {
    first_is = first-keeps;
    first = omega arith;
    step = λ x r fits good is.
        (let turn = job-turns B x r fits good is in
        let c = counted-b x r fits in
        record { is = turn.is; few = spends-so _ _ _ _ _ _ c.sent (ap (λ n. line_pages J * n) c.took) turn.few });
    around = λ a r is. refl;
    waits = λ a. refl;
    lacks = λ a r may. (let none = lacks-none (5 ∷ []) 4 a r may in omega (arith, none));
  }
