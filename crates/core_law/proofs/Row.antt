-- What the five have as a row: who reads, who prints, which buffers each has, and what is handed over between them.
use Rattle.std.proofs.Common.{◌≡◌, ◌⊎◌, inl, inr, ℕ, suc, ◌≤◌, ◌<◌, ◌==◌, Bool, true, false, if◌then◌else◌, List, [], ◌∷◌, ◌++◌, Option, None, Some, refl, sym, subst, arith, lit≤}
use Rattle.std.specs.Prelude.{option_to_list}
use Rattle.std.proofs.lemmas.Bool.{eqb-true, eq-eqb}
use Rattle.std.proofs.lemmas.Bool.Decides.{eqb_tells}
use Rattle.std.specs.List.{AllByRecursion}
use Rattle.solo_base.specs.declared.item.Feed.{Feed}
use Rattle.solo_base.specs.declared.item.Feed.TheVariants as feed
use Rattle.solo_base.specs.declared.page.Page.{Page}
use Rattle.page_codec.specs.Packing.{PageInHand, first_page, page_given, hand_after}
use Rattle.batch_procs.specs.declared.actions.Action.TheVariants as act
use Rattle.batch_procs.specs.Parcels.{Parcel, OfFeed, OfPage, OfLine, OfLoad, loads, is_ended, IsAFeed, IsAPage, IsALine}
use Rattle.batch_procs.specs.History.{Entry, taken}
use Rattle.batch_procs.specs.Causes.{caused}
use Rattle.batch_procs.specs.Process.{Process, Follows, unworked}
use Rattle.batch_procs.specs.Laws.{IsRelay}
use Rattle.batch_procs.specs.Sends.{feeds, as_parcels, as_lines, marked, packed, unpacked, until_end, job_lines, output_lines}
use Rattle.batch_procs.specs.Table.{card, input, job, output, printer, nobody, process}
use Rattle.core_law.specs.Core.{IsBuffer}
use Rattle.core_law.specs.Ends.{IsProcess}
use Rattle.batch_procs.specs.Jobs.{Jobs, AreJobs}

abbrev pub Among : ℕ → List ℕ → Type 0
Among b [] = ⊥
Among b (c ∷ later) = (c ≡ b) ⊎ Among b later

pub among-all : (Is : ℕ → Type 0) (b : ℕ) (buffers : List ℕ) → AllByRecursion Is buffers → Among b buffers → Is b
among-all Is b [] all is = absurd is
among-all Is b (c ∷ later) all (inl same) = subst Is same all.0
among-all Is b (c ∷ later) all (inr is) = among-all Is b later all.1 is

pub record IsNone (p : ℕ) : Type 0 where
  pub one : p ≡ 1 → ⊥
  pub two : p ≡ 2 → ⊥
  pub three : p ≡ 3 → ⊥
  pub four : p ≡ 4 → ⊥
  pub five : p ≡ 5 → ⊥

pub not-none : (b : ℕ) → IsNone b → IsBuffer b → ⊥
not-none b none is = let a = none.one in let b = none.two in let c = none.three in let d = none.four in let low = is.0 in let high = is.1 in
    omega (arith, a, b, c, d, low, high)

-- what holds of each buffer
pub each-buffer : (P : ℕ → Type 0) (b : ℕ) → IsBuffer b → P 1 → P 2 → P 3 → P 4 → P b
each-buffer P b is one two three four =
    elim (eqb_tells b 1) as (λ _. P b) [
      | inl a ↦ subst P (sym a.1) one
      | inr a ↦ elim (eqb_tells b 2) as (λ _. P b) [
        | inl c ↦ subst P (sym c.1) two
        | inr c ↦ elim (eqb_tells b 3) as (λ _. P b) [
          | inl d ↦ subst P (sym d.1) three
          | inr d ↦ (let last : b ≡ 4 = (let a = a.1 in let c = c.1 in let d = d.1 in let low = is.0 in let high = is.1 in
              omega (arith, a, c, d, low, high)) in subst P (sym last) four)
        ]
      ]
    ]

pub each-process : (P : ℕ → Type 0) (p : ℕ) → IsProcess p → P 1 → P 2 → P 3 → P 4 → P 5 → P p
each-process P p is one two three four five =
    elim (eqb_tells p 1) as (λ _. P p) [
      | inl a ↦ subst P (sym a.1) one
      | inr a ↦ elim (eqb_tells p 2) as (λ _. P p) [
        | inl c ↦ subst P (sym c.1) two
        | inr c ↦ elim (eqb_tells p 3) as (λ _. P p) [
          | inl d ↦ subst P (sym d.1) three
          | inr d ↦ elim (eqb_tells p 4) as (λ _. P p) [
            | inl e ↦ subst P (sym e.1) four
            | inr e ↦ (let last : p ≡ 5 = (let a = a.1 in let c = c.1 in let d = d.1 in let e = e.1 in let low = is.0 in let high = is.1 in
                omega (arith, a, c, d, e, low, high)) in subst P (sym last) five)
          ]
        ]
      ]
    ]

module _ {L : Type 0} {J : Jobs L} (jobs : AreJobs J) where
  abbrev pub IsNoLine : Parcel L → Type 0
  IsNoLine (OfFeed f) = Unit {0}
  IsNoLine (OfPage page last) = Unit {0}
  IsNoLine (OfLine line) = ⊥
  IsNoLine (OfLoad load) = Unit {0}

  -- Five processes in a row: the first alone reads cards, the last alone prints, and each has the buffers beside it.
  pub record IsRow (row : ℕ → Process L) : Type 0 where
    pub relays : (p : ℕ) → IsRelay (row p)
    pub reads : (p : ℕ) → (row p).takes ≡ act.ReadCard → p ≡ 1
    pub first : (row 1).takes ≡ act.ReadCard
    pub prints : (p : ℕ) → IsBuffer p → (all : List (Parcel L)) → AllByRecursion IsNoLine ((row p).sends all)
    pub prints_only : (all : List (Parcel L)) → AllByRecursion IsALine ((row 5).sends all)
    -- who takes feeds is given feeds, and who takes pages pages
    pub feeds : (b : ℕ) → IsBuffer b → (row (suc b)).takes ≡ act.TakeFeed → (all : List (Parcel L)) → AllByRecursion IsAFeed ((row b).sends all)
    pub pages : (b : ℕ) → IsBuffer b → (row (suc b)).takes ≡ act.TakePage → (all : List (Parcel L)) → AllByRecursion IsAPage ((row b).sends all)
    pub bounds : (p : ℕ) → AllByRecursion IsBuffer (row p).buffers
    pub both : (b : ℕ) → IsBuffer b → Among b (row b).buffers × Among b (row (suc b)).buffers
    pub beside : (p : ℕ) → AllByRecursion (λ b. (b ≡ p) ⊎ (suc b ≡ p)) (row p).buffers
    -- where the last was taken, nothing was damaged and no work is left, the last is put
    pub ends : (p : ℕ) → IsBuffer p → (h : List (Entry L)) → Follows J (row p) h → caused h ≡ None → unworked (row p) h ≡ false → is_ended (taken h) ≡ true
        → is_ended ((row p).sends (taken h)) ≡ true
    -- only the third loads files
    pub loads : (p : ℕ) → (p ≡ 3 → ⊥) → (all : List (Parcel L)) → (row p).wants all ≡ []

  -- ---- by its number
  by-test : (Is : Process L → Type 0) (p n : ℕ) (t : Bool) (this other : Process L) → (p == n) ≡ t → (p ≡ n → Is this) → ((p ≡ n → ⊥) → Is other)
      → Is (if t then this else other)
  by-test Is p n true this other e a b = a (eqb-true p n e)
  by-test Is p n false this other e a b = b (λ same. (let yes = eq-eqb p n same in cc))

  pub by-number : (Is : Process L → Type 0) (p : ℕ) → (p ≡ 1 → Is card) → (p ≡ 2 → Is input) → (p ≡ 3 → Is (job J)) → (p ≡ 4 → Is output) → (p ≡ 5 → Is printer)
      → (IsNone p → Is nobody) → Is (process J p)
  by-number Is p a b c d e f =
      by-test Is p 1 (p == 1) card _ refl a (λ one. by-test Is p 2 (p == 2) input _ refl b (λ two. by-test Is p 3 (p == 3) (job J) _ refl c
      (λ three. by-test Is p 4 (p == 4) output _ refl d (λ four. by-test Is p 5 (p == 5) printer nobody refl e
      (λ five. f record { one = one; two = two; three = three; four = four; five = five })))))

  not-next_none : (b : ℕ) → IsNone (suc b) → IsBuffer b → ⊥
  not-next_none b none is = let a = none.two in let b = none.three in let c = none.four in let d = none.five in let low = is.0 in let high = is.1 in
      omega (arith, a, b, c, d, low, high)

  -- ---- kinds
  feeds-are : (all : List Feed) → AllByRecursion IsAFeed (as_parcels {L = L} all)
  feeds-are [] = tt
  feeds-are (f ∷ rest) = (tt, feeds-are rest)

  feeds-no_line : (all : List Feed) → AllByRecursion IsNoLine (as_parcels all)
  feeds-no_line [] = tt
  feeds-no_line (f ∷ rest) = (tt, feeds-no_line rest)

  pub lines-are : (all : List (List ℕ)) → AllByRecursion IsALine (as_lines {L = L} all)
  lines-are [] = tt
  lines-are (line ∷ rest) = (tt, lines-are rest)

  given-pages : (given : Option Page) (rest : List (Parcel L)) → AllByRecursion IsAPage rest → AllByRecursion IsAPage
      (marked false (option_to_list given) ++ rest)
  given-pages None rest is = is
  given-pages (Some page) rest is = (tt, is)

  packed-pages : (hand : PageInHand) (all : List Feed) → AllByRecursion IsAPage (packed {L = L} hand all)
  packed-pages hand [] = tt
  packed-pages hand (feed.Item item ∷ rest) = given-pages (page_given hand item) _ (packed-pages (hand_after hand item) rest)
  packed-pages hand (feed.End ∷ rest) = (tt, tt)

  page-no_line : (all : List (Parcel L)) → AllByRecursion IsAPage all → AllByRecursion IsNoLine all
  page-no_line [] are = tt
  page-no_line (OfPage page last ∷ rest) are = (tt, page-no_line rest are.1)
  page-no_line (OfFeed f ∷ rest) are = absurd are.0
  page-no_line (OfLine line ∷ rest) are = absurd are.0
  page-no_line (OfLoad load ∷ rest) are = absurd are.0

  pub prints-law : (p : ℕ) → IsBuffer p → (all : List (Parcel L)) → AllByRecursion IsNoLine ((process J p).sends all)
  prints-law p is all =
      by-number (λ q. AllByRecursion IsNoLine (q.sends all)) p (λ e. feeds-no_line (until_end (feeds all)))
      (λ e. page-no_line _ (packed-pages first_page (feeds all))) (λ e. page-no_line _ (packed-pages first_page (job_lines J (unpacked 0 all) (loads all))))
      (λ e. feeds-no_line (output_lines (unpacked 0 all)))
      (λ e. (let below = is.1 in absurd (omega (arith, e, below)))) (λ none. tt)

  pub reads-law : (p : ℕ) → (process J p).takes ≡ act.ReadCard → p ≡ 1
  reads-law p =
      by-number (λ q. q.takes ≡ act.ReadCard → p ≡ 1) p (λ one e. one) (λ two e. absurd cc) (λ three e. absurd cc) (λ four e. absurd cc) (λ five e. absurd cc)
      (λ none e. absurd cc)

  pub loads-law : (p : ℕ) → (p ≡ 3 → ⊥) → (all : List (Parcel L)) → (process J p).wants all ≡ []
  loads-law p not all =
      by-number (λ q. q.wants all ≡ []) p (λ one. refl) (λ two. refl) (λ three. absurd (not three)) (λ four. refl) (λ five. refl) (λ none. refl)

  pub feeds-at : (b : ℕ) → (process J (suc b)).takes ≡ act.TakeFeed → (b ≡ 1) ⊎ (b ≡ 4)
  feeds-at b =
      by-number (λ q. q.takes ≡ act.TakeFeed → (b ≡ 1) ⊎ (b ≡ 4)) (suc b) (λ one e. absurd cc) (λ two e. inl (omega (arith, two))) (λ three e. absurd cc)
      (λ four e. absurd cc) (λ five e. inr (omega (arith, five))) (λ none e. absurd cc)

  feeds-law : (b : ℕ) → IsBuffer b → (process J (suc b)).takes ≡ act.TakeFeed → (all : List (Parcel L)) → AllByRecursion IsAFeed ((process J b).sends all)
  feeds-law b is takes all =
      elim (feeds-at b takes) as (λ _. AllByRecursion IsAFeed ((process J b).sends all)) [
        | inl one ↦ subst (λ b. AllByRecursion IsAFeed ((process J b).sends all)) (sym one) (feeds-are _)
        | inr four ↦ subst (λ b. AllByRecursion IsAFeed ((process J b).sends all)) (sym four) (feeds-are _)
      ]

  pages-at : (b : ℕ) → IsBuffer b → (process J (suc b)).takes ≡ act.TakePage → (b ≡ 2) ⊎ (b ≡ 3)
  pages-at b is =
      by-number (λ q. q.takes ≡ act.TakePage → (b ≡ 2) ⊎ (b ≡ 3)) (suc b) (λ one e. absurd cc) (λ two e. absurd cc) (λ three e. inl (omega (arith, three)))
      (λ four e. inr (omega (arith, four))) (λ five e. absurd cc)
      (λ none e. absurd (not-next_none b none is))

  pages-law : (b : ℕ) → IsBuffer b → (process J (suc b)).takes ≡ act.TakePage → (all : List (Parcel L)) → AllByRecursion IsAPage ((process J b).sends all)
  pages-law b is takes all =
      elim (pages-at b is takes) as (λ _. AllByRecursion IsAPage ((process J b).sends all)) [
        | inl two ↦ subst (λ b. AllByRecursion IsAPage ((process J b).sends all)) (sym two) (packed-pages first_page (feeds all))
        | inr three ↦ subst (λ b. AllByRecursion IsAPage ((process J b).sends all)) (sym three)
            (packed-pages first_page (job_lines J (unpacked 0 all) (loads all)))
      ]

  -- ---- buffers
  a_buffer : (b : ℕ) → 1 ≤ b → b < 5 → IsBuffer b
  a_buffer b low high = (low, high)

  pub bounds-law : (p : ℕ) → AllByRecursion IsBuffer (process J p).buffers
  bounds-law p =
      by-number (λ q. AllByRecursion IsBuffer q.buffers) p (λ e. (a_buffer 1 (lit≤ tt) (lit≤ tt), tt))
      (λ e. (a_buffer 1 (lit≤ tt) (lit≤ tt), (a_buffer 2 (lit≤ tt) (lit≤ tt), tt)))
      (λ e. (a_buffer 2 (lit≤ tt) (lit≤ tt), (a_buffer 3 (lit≤ tt) (lit≤ tt), tt)))
      (λ e. (a_buffer 3 (lit≤ tt) (lit≤ tt), (a_buffer 4 (lit≤ tt) (lit≤ tt), tt))) (λ e. (a_buffer 4 (lit≤ tt) (lit≤ tt), tt)) (λ none. tt)

  pub beside-law : (p : ℕ) → AllByRecursion (λ b. (b ≡ p) ⊎ (suc b ≡ p)) (process J p).buffers
  beside-law p =
      by-number (λ q. AllByRecursion (λ b. (b ≡ p) ⊎ (suc b ≡ p)) q.buffers) p (λ e. (inl (sym e), tt)) (λ e. (inr (sym e), (inl (sym e), tt)))
      (λ e. (inr (sym e), (inl (sym e), tt)))
      (λ e. (inr (sym e), (inl (sym e), tt))) (λ e. (inr (sym e), tt)) (λ none. tt)

  own-law : (b : ℕ) → IsBuffer b → Among b (process J b).buffers
  own-law b is =
      by-number (λ q. Among b q.buffers) b (λ e. inl (sym e)) (λ e. inr (inl (sym e))) (λ e. inr (inl (sym e))) (λ e. inr (inl (sym e)))
      (λ e. (let below = is.1 in absurd (omega (arith, e, below))))
      (λ none. absurd (not-none b none is))

  next-law : (b : ℕ) → IsBuffer b → Among b (process J (suc b)).buffers
  next-law b is =
      by-number (λ q. Among b q.buffers) (suc b) (λ e. (let low = is.0 in absurd (omega (arith, e, low)))) (λ e. inl (omega (arith, e)))
      (λ e. inl (omega (arith, e))) (λ e. inl (omega (arith, e))) (λ e. inl (omega (arith, e)))
      (λ none. absurd (not-next_none b none is))

  pub record RowLaws : Type 0 where
    pub feeds : (b : ℕ) → IsBuffer b → (process J (suc b)).takes ≡ act.TakeFeed → (all : List (Parcel L)) → AllByRecursion IsAFeed ((process J b).sends all)
    pub pages : (b : ℕ) → IsBuffer b → (process J (suc b)).takes ≡ act.TakePage → (all : List (Parcel L)) → AllByRecursion IsAPage ((process J b).sends all)
    pub both : (b : ℕ) → IsBuffer b → Among b (process J b).buffers × Among b (process J (suc b)).buffers

  pub row-laws : RowLaws
  row-laws = record { feeds = feeds-law; pages = pages-law; both = λ b is. (own-law b is, next-law b is) }
