-- How many whole streams a process moved at two sides of buffers, over every history without a cause.
use Rattle.std.proofs.Common.{◌≡◌, ◌⊎◌, inl, inr, ℕ, ◌+◌, Bool, true, false, List, [], ◌∷◌, ◌++◌, map, Option, None, Some, refl, sym, ◌∙◌, ap, subst, arith}
use Rattle.std.proofs.lemmas.List.{append-nil}
use Rattle.network_law.specs.Acts.{Call, Alone, At, Asks, Gives, Went, Delayed, moved, moved_by}
use Rattle.network_law.specs.Network.{IsOne, acts}
use Rattle.network_law.specs.Network as law
use Rattle.solo_base.specs.declared.outcome.Side.{Side}
use Rattle.page_codec.specs.Packing.{fits}
use Rattle.batch_procs.specs.declared.actions.Reply.{Reply}
use Rattle.batch_procs.specs.Jobs.{Jobs}
use Rattle.batch_procs.specs.Parcels.{Parcel, is_last}
use Rattle.place_law.specs.Process.{Does, LacksMemory, Delays}
use Rattle.batch_procs.specs.declared.actions.Reply.TheVariants as reply
use Rattle.twin_law.specs.Process.{Action, ReadCard, PutFeed, TakeFeed, AwaitRoom, AwaitItem, Request, PutPage, TakePage, Load, Release, Local, Print, Stop, Ended, Entry, Aim, Reads, PutsFeed, TakesFeed, PutsPage, TakesPage, Loads, Works, Prints, Finishes, Process, stands_behind, place, aim, given_cause, caused, newest, begins, moves, working, Closing, closing, next_action}
use Rattle.twin_law.specs.Sides.{other}
use Rattle.twin_law.specs.Table.{process}
use Rattle.twin_law.specs.Twin.{call, went_by, Fits, twin}
use Rattle.twin_law.proofs.Lawful.{Shape, Closes, SeatedAt, next-shape, or-none, or-new_none, not-lacking}

-- ---- counts of marks
abbrev pub trues : List Bool → ℕ
trues [] = 0
trues (true ∷ ms) = trues ms + 1
trues (false ∷ ms) = trues ms

abbrev pub bit : Bool → ℕ
bit true = 1
bit false = 0

more-behind : (a b c : ℕ) → a ≡ b + c → a + 1 ≡ (b + 1) + c
more-behind a b c e = omega (arith, e)

pub trues-append : (some more : List Bool) → trues (some ++ more) ≡ trues some + trues more
trues-append [] more = omega arith
trues-append (true ∷ some) more = more-behind _ _ _ (trues-append some more)
trues-append (false ∷ some) more = trues-append some more

pub trues-one : (t : Bool) → trues (t ∷ []) ≡ bit t
trues-one true = refl
trues-one false = refl

-- nothing, or the last of its stream comes last
abbrev pub whole : List Bool → Bool
whole [] = true
whole (m ∷ []) = m
whole (m ∷ n ∷ ms) = whole (n ∷ ms)

pub whole-true : (ms : List Bool) → whole (ms ++ true ∷ []) ≡ true
whole-true [] = refl
whole-true (m ∷ []) = refl
whole-true (m ∷ n ∷ ms) = whole-true (n ∷ ms)

-- what is inside a buffer of whole streams alone is nothing, where no last one is inside
whole-tail : (m : Bool) (ms : List Bool) → whole (m ∷ ms) ≡ true → (ms ≡ []) ⊎ (whole ms ≡ true)
whole-tail m [] e = inl refl
whole-tail m (n ∷ ms) e = inr e

pub whole-none : (ms : List Bool) → whole ms ≡ true → trues ms ≡ 0 → ms ≡ []
whole-none [] w none = refl
whole-none (true ∷ ms) w none = absurd (omega (arith, none))
whole-none (false ∷ []) w none = absurd cc
whole-none (false ∷ n ∷ ms) w none = absurd (let e = whole-none (n ∷ ms) w none in cc)

pub whole-behind : (front ms : List Bool) → whole (front ++ ms) ≡ true → (ms ≡ []) ⊎ (whole ms ≡ true)
whole-behind [] ms e = inr e
whole-behind (m ∷ []) [] e = inl refl
whole-behind (m ∷ []) (n ∷ ms) e = inr e
whole-behind (m ∷ k ∷ front) ms e = whole-behind (k ∷ front) ms e

pub marks-append : {L : Type 0} (some more : List (Parcel L)) → map is_last (some ++ more) ≡ map is_last some ++ map is_last more
marks-append [] more = refl
marks-append (x ∷ some) more = ap (λ ms. is_last x ∷ ms) (marks-append some more)

-- ---- an action is one of the calls around a move, or it is what the process aims at
abbrev pub makes : Aim → Action
makes Reads = ReadCard
makes (PutsFeed b f) = PutFeed b f
makes (TakesFeed b) = TakeFeed b
makes (PutsPage b page) = PutPage b page
makes (TakesPage b) = TakePage b
makes (Loads file) = Load file
makes Works = Local
makes (Prints line) = Print line
makes Finishes = Release

abbrev pub IsAround : Action → Type 0
IsAround (AwaitRoom b) = Unit {0}
IsAround (AwaitItem b) = Unit {0}
IsAround Request = Unit {0}
IsAround Release = Unit {0}
IsAround (Stop b) = Unit {0}
IsAround (Ended how) = Unit {0}
IsAround other = ⊥

abbrev pub Made : Aim → Action → Type 0
Made m a = IsAround a ⊎ (makes m ≡ a)

made-begins : (m : Aim) → Made m (begins m)
made-begins Reads = inr refl
made-begins (PutsFeed b f) = inr refl
made-begins (TakesFeed b) = inr refl
made-begins (PutsPage b page) = inl tt
made-begins (TakesPage b) = inl tt
made-begins (Loads file) = inl tt
made-begins Works = inr refl
made-begins (Prints line) = inr refl
made-begins Finishes = inl tt

made-moves : (m : Aim) → Made m (moves m)
made-moves (PutsPage b page) = inr refl
made-moves (TakesPage b) = inr refl
made-moves (Loads file) = inr refl
made-moves Reads = inl tt
made-moves (PutsFeed b f) = inl tt
made-moves (TakesFeed b) = inl tt
made-moves Works = inl tt
made-moves (Prints line) = inl tt
made-moves Finishes = inl tt

pub made-working : (n : Option Action) (m : Aim) → Made m (working n m)
made-working (Some (AwaitRoom b)) m = inl tt
made-working (Some (AwaitItem b)) m = inl tt
made-working (Some Request) m = made-moves m
made-working (Some (PutPage b page)) m = inl tt
made-working (Some (TakePage b)) m = inl tt
made-working (Some (Load file)) m = inl tt
made-working other m = made-begins m

pub made-closes : {L : Type 0} (Is : ℕ → Type 0) (h : List (Entry L)) (a : Action) → Closes Is h a → IsAround a
made-closes Is h (Stop c) is = tt
made-closes Is h (Ended how) is = tt
made-closes Is h Release is = tt
made-closes Is h other is = absurd is

-- ---- the marks that an entry moves
abbrev pub marks_by : {L : Type 0} → ℕ → Side → Call → Went (Parcel L) → List Bool
marks_by b side c w = map is_last (moved_by b side c w)

none-around : {L : Type 0} (n b : ℕ) (side : Side) (a : Action) (r : Reply L) → IsAround a → Fits a r → marks_by b side (call n a) (went_by a r) ≡ []
none-around n b side (AwaitRoom c) reply.Done is fits = refl
none-around n b side (AwaitRoom c) reply.Stopped is fits = refl
none-around n b side (AwaitItem c) reply.Done is fits = refl
none-around n b side (AwaitItem c) reply.Stopped is fits = refl
none-around n b side Request reply.Done is fits = refl
none-around n b side Release reply.Done is fits = refl
none-around n b side (Stop c) reply.Done is fits = refl
none-around n b side (Ended how) reply.Done is fits = refl
none-around n b side (AwaitRoom c) r is fits = absurd fits
none-around n b side (AwaitItem c) r is fits = absurd fits
none-around n b side Request r is fits = absurd fits
none-around n b side Release r is fits = absurd fits
none-around n b side (Stop c) r is fits = absurd fits
none-around n b side (Ended how) r is fits = absurd fits
none-around n b side a r is fits = absurd is

same-place : {L : Type 0} (p : Process L) (x : p.Place) (a : Action) (r : Reply L) → IsAround a → stands_behind p x a r ≡ x
same-place p x (AwaitRoom b) r is = refl
same-place p x (AwaitItem b) r is = refl
same-place p x Request r is = refl
same-place p x Release r is = refl
same-place p x (Stop b) r is = refl
same-place p x (Ended how) r is = refl
same-place p x a r is = absurd is

pub none-delayed : {L : Type 0} (b : ℕ) (side : Side) (c : Call) → moved_by {Parcel = Parcel L} b side c Delayed ≡ []
none-delayed b side Alone = refl
none-delayed b side (At d of visit) = refl
none-delayed b side Asks = refl
none-delayed b side Gives = refl

-- ---- over histories: what holds of a place and of the marks moved at two sides of buffers
module _ {L : Type 0} (J : Jobs L) where
  abbrev pub marks_at : ℕ → ℕ → Side → List (Entry L) → List Bool
  marks_at p b side h = map is_last (moved b side (acts (twin J) p h))

  pub made : (p : ℕ) (h : List (Entry L)) (a : Action) → IsOne (twin J) p → next_action (process J p) h ≡ Some a → Made (aim (process J p) h) a
  made p h a one next = made-by (closing (process J p) h) (next-shape J p h a one next) where
    made-by : (c : Option Closing) → Shape J p h c a → Made (aim (process J p) h) a
    made-by None is = subst (Made (aim (process J p) h)) (sym is.0) (made-working (newest h) (aim (process J p) h))
    made-by (Some c) is = inl (made-closes (SeatedAt J p) h a is)

  module _ (p : ℕ) (one : IsOne (twin J) p) (a b : ℕ) (sa sb : Side) (Is : (process J p).Place → List Bool → List Bool → Type 0) (first : Is (process J p).start [] [])
      (step : (x : (process J p).Place) (r : Reply L) (xs ys : List Bool) → Fits (makes ((process J p).aims x)) r
      → given_cause (process J p) x (makes ((process J p).aims x)) r ≡ None → Is x xs ys
      → Is (stands_behind (process J p) x (makes ((process J p).aims x)) r) (xs ++ marks_by a sa (call p (makes ((process J p).aims x))) (went_by (makes ((process J p).aims x)) r))
      (ys ++ marks_by b sb (call p (makes ((process J p).aims x))) (went_by (makes ((process J p).aims x)) r))) where
    along : (x : (process J p).Place) (xs xs' ys ys' : List Bool) → xs ≡ xs' → ys ≡ ys' → Is x xs ys → Is x xs' ys'
    along x xs xs' ys ys' ex ey is = subst (λ m. Is x m ys') ex (subst (λ m. Is x xs m) ey is)

    joined : (x : (process J p).Place) (h : List (Entry L)) (c : Call) (w : Went (Parcel L)) → Is x (marks_at p a sa h ++ marks_by a sa c w) (marks_at p b sb h ++ marks_by b sb c w)
        → Is x (map is_last (moved a sa (acts (twin J) p h) ++ moved_by a sa c w)) (map is_last (moved b sb (acts (twin J) p h) ++ moved_by b sb c w))
    joined x h c w is =
        along x (marks_at p a sa h ++ marks_by a sa c w) (map is_last (moved a sa (acts (twin J) p h) ++ moved_by a sa c w))
        (marks_at p b sb h ++ marks_by b sb c w) (map is_last (moved b sb (acts (twin J) p h) ++ moved_by b sb c w))
        (sym (marks-append (moved a sa (acts (twin J) p h)) (moved_by a sa c w))) (sym (marks-append (moved b sb (acts (twin J) p h)) (moved_by b sb c w))) is

    nothing : (x y : (process J p).Place) (h : List (Entry L)) (c : Call) (w : Went (Parcel L)) → x ≡ y → marks_by a sa c w ≡ [] → marks_by b sb c w ≡ []
        → Is x (marks_at p a sa h) (marks_at p b sb h) → Is y (marks_at p a sa h ++ marks_by a sa c w) (marks_at p b sb h ++ marks_by b sb c w)
    nothing x y h c w same ea eb is =
        along y (marks_at p a sa h) (marks_at p a sa h ++ marks_by a sa c w) (marks_at p b sb h) (marks_at p b sb h ++ marks_by b sb c w)
        (sym (append-nil (marks_at p a sa h)) ∙ ap (λ ms. marks_at p a sa h ++ ms) (sym ea))
        (sym (append-nil (marks_at p b sb h)) ∙ ap (λ ms. marks_at p b sb h ++ ms) (sym eb)) (subst (λ x. Is x (marks_at p a sa h) (marks_at p b sb h)) same is)

    pub stands : (h : List (Entry L)) → law.Follows (twin J) p h → caused (process J p) h ≡ None → Is (place (process J p) h) (marks_at p a sa h) (marks_at p b sb h)
    stands [] follows none = first
    stands (Does y r ∷ h) follows none =
        let before = or-none (caused (process J p) h) _ none in
        let now = or-new_none (caused (process J p) h) _ none in
        let x = place (process J p) h in
        let was = stands h follows.2 before in
        joined (stands_behind (process J p) x y r) h (call p y) (went_by y r)
        (elim (made p h y one follows.0) as (λ _. Is (stands_behind (process J p) x y r) (marks_at p a sa h ++ marks_by a sa (call p y) (went_by y r))
        (marks_at p b sb h ++ marks_by b sb (call p y) (went_by y r))) [
          | inl around ↦ nothing x (stands_behind (process J p) x y r) h (call p y) (went_by y r) (sym (same-place (process J p) x y r around))
              (none-around p a sa y r around follows.1.0) (none-around p b sb y r around follows.1.0) was
          | inr same ↦
              (subst (λ y. Fits y r → given_cause (process J p) x y r ≡ None → Is (stands_behind (process J p) x y r)
              (marks_at p a sa h ++ marks_by a sa (call p y) (went_by y r)) (marks_at p b sb h ++ marks_by b sb (call p y) (went_by y r))) same
              (λ fits cause. step x r (marks_at p a sa h) (marks_at p b sb h) fits cause was)) follows.1.0 now
        ])
    stands (LacksMemory y r ∷ h) follows none = absurd (not-lacking (caused (process J p) h) _ none)
    stands (Delays y ∷ h) follows none =
        let x = place (process J p) h in
        joined x h (call p y) Delayed
        (nothing x x h (call p y) Delayed refl (ap (map is_last) (none-delayed a sa (call p y))) (ap (map is_last) (none-delayed b sb (call p y))) (stands h follows.2 none))

-- ---- one side: so many whole streams
abbrev pub OneSide : {P : Type 0} → (P → ℕ) → P → List Bool → List Bool → Type 0
OneSide ends x xs ys = trues xs ≡ ends x

pub plus-none : (xs : List Bool) (n : ℕ) → trues xs ≡ n → trues (xs ++ []) ≡ n
plus-none xs n e = ap trues (append-nil xs) ∙ e

pub plus-false : (xs : List Bool) (n : ℕ) → trues xs ≡ n → trues (xs ++ false ∷ []) ≡ n
plus-false xs n e = (let a = trues-append xs (false ∷ []) in omega (arith, a, e))

pub plus-true : (xs : List Bool) (n m : ℕ) → trues xs ≡ n → m ≡ n + 1 → trues (xs ++ true ∷ []) ≡ m
plus-true xs n m e more = (let a = trues-append xs (true ∷ []) in omega (arith, a, e, more))

pub plus-bit : (t : Bool) (xs : List Bool) (n m : ℕ) → trues xs ≡ n → m ≡ n + bit t → trues (xs ++ t ∷ []) ≡ m
plus-bit t xs n m e more = (let a = trues-append xs (t ∷ []) in let o = trues-one t in omega (arith, a, e, o, more))
