-- Where a process alone stands behind so many steps, and what is inside its buffers then: in whatever order its entries came, its place
-- is one on its way alone.
use Rattle.std.proofs.Common.{◌≡◌, inl, inr, ℕ, zero, suc, ◌==◌, if◌then◌else◌, List, [], ◌∷◌, Some, refl, sym, ◌∙◌, ap, subst}
use Rattle.network_law.specs.Network.{IsOne}
use Rattle.network_law.specs.Network as law
use Rattle.batch_procs.specs.declared.actions.Reply.{Reply}
use Rattle.batch_procs.specs.Jobs.{Jobs, FilesAs}
use Rattle.batch_procs.specs.Parcels.{Parcel, OfFeed, OfPage}
use Rattle.place_law.specs.Process.{Does, LacksMemory, Delays}
use Rattle.batch_procs.specs.declared.actions.Reply.TheVariants as reply
use Rattle.twin_law.specs.Process.{Action, AwaitRoom, AwaitItem, Request, Release, Stop, Ended, Entry, Aim, Reads, PutsFeed, TakesFeed, PutsPage, TakesPage, Loads, Works, Prints, Finishes, Process, stands_behind, place, aim, next_action}
use Rattle.twin_law.specs.Table.{process}
use Rattle.twin_law.specs.Twin.{Fits, twin}
use Rattle.twin_law.specs.Alone.{reply_of, first_parcel, less_one, Step, step, IsLoadedSo, AreLoadedSo, before_entry, before_all, step_more, steps_more}
use Rattle.twin_law.proofs.Marks.{makes, IsAround, made}
use Rattle.twin_law.proofs.Tells.{Same, less-same, IsQuiet, less-here, first-here}

module _ {L : Type 0} (F : FilesAs L) (p : Process L) where
  -- where it stands, and what is inside its buffers
  abbrev pub Stand : Type 0
  Stand = p.Place × (ℕ → List (Parcel L))

  abbrev pub after : ℕ → p.Place → (ℕ → List (Parcel L)) → Stand
  after zero x i = (x, i)
  after (suc n) x i = let s = step F p x i (p.aims x) in if s.ended then (s.at, s.inside) else after n s.at s.inside

  abbrev rests : ℕ → Step p → Stand
  rests n s = if s.ended then (s.at, s.inside) else after n s.at s.inside

  pub record IsAsOne (a b : Stand) : Type 0 where
    pub place : a.0 ≡ b.0
    pub inside : Same a.1 b.1

  pub as-same : (a b : Stand) → a ≡ b → IsAsOne a b
  as-same a b e = record { place = ap (λ (s : Stand). s.0) e; inside = λ b. ap (λ (s : Stand). s.1 b) e }

  pub as-then : (a b c : Stand) → IsAsOne a b → IsAsOne b c → IsAsOne a c
  as-then a b c first second = record { place = first.place ∙ second.place; inside = λ n. first.inside n ∙ second.inside n }

  pub as-back : (a b : Stand) → IsAsOne a b → IsAsOne b a
  as-back a b one = record { place = sym one.place; inside = λ n. sym (one.inside n) }

  abbrev Alike : ℕ → Type 0
  Alike n = (x : p.Place) (i j : ℕ → List (Parcel L)) → Same i j → IsAsOne (after n x i) (after n x j)

  taken-same : (n : ℕ) → Alike n → (x : p.Place) (i j : ℕ → List (Parcel L)) → Same i j → (b : ℕ)
      → IsAsOne (after n (p.behind x (reply_of (first_parcel (i b)))) (less_one i b)) (after n (p.behind x (reply_of (first_parcel (j b)))) (less_one j b))
  taken-same n alike x i j same b =
      as-then _ _ _ (as-same _ _ (ap (λ ps. after n (p.behind x (reply_of (first_parcel ps))) (less_one i b)) (same b)))
      (alike (p.behind x (reply_of (first_parcel (j b)))) (less_one i b) (less_one j b) (less-same i j b same))

  step-same : (n : ℕ) → Alike n → (x : p.Place) (i j : ℕ → List (Parcel L)) → Same i j → (m : Aim)
      → IsAsOne (rests n (step F p x i m)) (rests n (step F p x j m))
  step-same n alike x i j same (PutsFeed b f) = alike (p.behind x reply.Done) i j same
  step-same n alike x i j same (PutsPage b page) = alike (p.behind x reply.Done) i j same
  step-same n alike x i j same (TakesFeed b) = taken-same n alike x i j same b
  step-same n alike x i j same (TakesPage b) = taken-same n alike x i j same b
  step-same n alike x i j same (Prints line) = alike (p.behind x reply.Done) i j same
  step-same n alike x i j same (Loads file) = alike (p.behind x (reply.Loaded (F file))) i j same
  step-same n alike x i j same Works = alike (p.behind x reply.Done) i j same
  step-same n alike x i j same Reads = record { place = refl; inside = same }
  step-same n alike x i j same Finishes = record { place = refl; inside = same }

  pub after-same : (n : ℕ) → Alike n
  after-same zero x i j same = record { place = refl; inside = same }
  after-same (suc n) x i j same = step-same n (after-same n) x i j same (p.aims x)

  pub after-step : (n : ℕ) (x : p.Place) (i : ℕ → List (Parcel L)) (m : Aim) → p.aims x ≡ m → after (suc n) x i ≡ rests n (step F p x i m)
  after-step n x i m e = ap (λ m. rests n (step F p x i m)) e

  -- ---- one entry
  abbrev OneStep : (x : p.Place) → Action → Reply L → Type 0
  OneStep x a r = (n : ℕ) (ahead : ℕ → List (Parcel L)) → IsAsOne (after n (stands_behind p x a r) ahead) (after (step_more a r n) x (before_entry a r ahead))

  here : (s : Stand) → IsAsOne s s
  here s = as-same s s refl

  around-step : (x : p.Place) (a : Action) (r : Reply L) → IsAround a → OneStep x a r
  around-step x (AwaitRoom b) r is n ahead = here (after n x ahead)
  around-step x (AwaitItem b) r is n ahead = here (after n x ahead)
  around-step x Request r is n ahead = here (after n x ahead)
  around-step x Release r is n ahead = here (after n x ahead)
  around-step x (Stop b) r is n ahead = here (after n x ahead)
  around-step x (Ended how) r is n ahead = here (after n x ahead)
  around-step x a r is n ahead = absurd is

  take-step : (x : p.Place) (b : ℕ) (y : Parcel L) (n : ℕ) (ahead : ℕ → List (Parcel L))
      → IsAsOne (after n (p.behind x (reply_of y)) ahead)
      (after n (p.behind x (reply_of (first_parcel (if b == b then y ∷ ahead b else ahead b)))) (less_one (λ c. if c == b then y ∷ ahead c else ahead c) b))
  take-step x b y n ahead =
      as-then _ _ _ (as-same _ _ (ap (λ y. after n (p.behind x (reply_of y)) ahead) (sym (first-here F p b y ahead))))
      (as-back _ _ (after-same n _ (less_one (λ c. if c == b then y ∷ ahead c else ahead c) b) ahead (less-here F p b y ahead)))

  aim-step : IsQuiet p → (x : p.Place) (m : Aim) (r : Reply L) → p.aims x ≡ m → Fits (makes m) r → IsLoadedSo F (Does (makes m) r) → OneStep x (makes m) r
  aim-step quiet x Reads r e fits so n ahead = absurd (quiet.reads_not x e)
  aim-step quiet x (PutsFeed b f) reply.Done e fits so n ahead = as-same _ _ (sym (after-step n x ahead (PutsFeed b f) e))
  aim-step quiet x (PutsFeed b f) reply.Stopped e fits so n ahead = as-same _ _ (ap (λ x. after n x ahead) (quiet.stays x reply.Stopped tt))
  aim-step quiet x (PutsPage b page) reply.Done e fits so n ahead = as-same _ _ (sym (after-step n x ahead (PutsPage b page) e))
  aim-step quiet x (PutsPage b page) reply.Failed e fits so n ahead = as-same _ _ (ap (λ x. after n x ahead) (quiet.stays x reply.Failed tt))
  aim-step quiet x (TakesFeed b) (reply.Feed f) e fits so n ahead =
      as-then _ _ _ (take-step x b (OfFeed f) n ahead)
      (as-same _ _ (sym (after-step n x (λ c. if c == b then OfFeed f ∷ ahead c else ahead c) (TakesFeed b) e)))
  aim-step quiet x (TakesFeed b) reply.Stopped e fits so n ahead = as-same _ _ (ap (λ x. after n x ahead) (quiet.stays x reply.Stopped tt))
  aim-step quiet x (TakesPage b) (reply.Page page last) e fits so n ahead =
      as-then _ _ _ (take-step x b (OfPage page last) n ahead)
      (as-same _ _ (sym (after-step n x (λ c. if c == b then OfPage page last ∷ ahead c else ahead c) (TakesPage b) e)))
  aim-step quiet x (TakesPage b) reply.Failed e fits so n ahead = as-same _ _ (ap (λ x. after n x ahead) (quiet.stays x reply.Failed tt))
  aim-step quiet x (Loads file) (reply.Loaded load) e fits so n ahead =
      as-then _ _ _ (as-same _ _ (ap (λ load. after n (p.behind x (reply.Loaded load)) ahead) so)) (as-same _ _ (sym (after-step n x ahead (Loads file) e)))
  aim-step quiet x (Loads file) reply.Failed e fits so n ahead = as-same _ _ (ap (λ x. after n x ahead) (quiet.stays x reply.Failed tt))
  aim-step quiet x (Loads file) reply.NoMemory e fits so n ahead = as-same _ _ (ap (λ x. after n x ahead) (quiet.stays x reply.NoMemory tt))
  aim-step quiet x Works reply.Done e fits so n ahead = as-same _ _ (sym (after-step n x ahead Works e))
  aim-step quiet x (Prints line) reply.Done e fits so n ahead = as-same _ _ (sym (after-step n x ahead (Prints line) e))
  aim-step quiet x (Prints line) reply.Failed e fits so n ahead = as-same _ _ (ap (λ x. after n x ahead) (quiet.stays x reply.Failed tt))
  aim-step quiet x (Prints line) reply.NoMemory e fits so n ahead = as-same _ _ (ap (λ x. after n x ahead) (quiet.stays x reply.NoMemory tt))
  aim-step quiet x Finishes reply.Done e fits so n ahead = here (after n x ahead)
  aim-step quiet x m r e fits so n ahead = absurd fits

module _ {L : Type 0} (J : Jobs L) (F : FilesAs L) (p : ℕ) (one : IsOne (twin J) p) (quiet : IsQuiet (process J p)) where
  one-entry : (h : List (Entry L)) (a : Action) (r : Reply L) → next_action (process J p) h ≡ Some a → Fits a r → IsLoadedSo F (Does a r)
      → OneStep F (process J p) (place (process J p) h) a r
  one-entry h a r next fits so =
      elim (made J p h a one next) as (λ _. OneStep F (process J p) (place (process J p) h) a r) [
        | inl around ↦ around-step F (process J p) (place (process J p) h) a r around
        | inr same ↦ subst (λ a. Fits a r → IsLoadedSo F (Does a r) → OneStep F (process J p) (place (process J p) h) a r) same
            (λ fits so. aim-step F (process J p) quiet (place (process J p) h) (aim (process J p) h) r refl fits so) fits so
      ]

  -- of every history that it may have, under every cause
  pub comes : (h : List (Entry L)) (n : ℕ) (ahead : ℕ → List (Parcel L)) → law.Follows (twin J) p h → AreLoadedSo F h
      → IsAsOne F (process J p) (after F (process J p) n (place (process J p) h) ahead)
      (after F (process J p) (steps_more h n) (process J p).start (before_all h ahead))
  comes [] n ahead follows so = record { place = refl; inside = λ b. refl }
  comes (Does a r ∷ h) n ahead follows so =
      as-then F (process J p) _ _ _ (one-entry h a r follows.0 follows.1.0 so.0 n ahead) (comes h (step_more a r n) (before_entry a r ahead) follows.2 so.1)
  comes (LacksMemory a r ∷ h) n ahead follows so = comes h n ahead follows.2 so.1
  comes (Delays a ∷ h) n ahead follows so = comes h n ahead follows.2 so.1
