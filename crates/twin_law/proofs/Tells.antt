-- What a process put, in whatever order its entries came, is the first of what it puts alone for what stood in its buffers.
use Rattle.std.proofs.Common.{◌≡◌, inl, inr, ℕ, zero, suc, ◌==◌, true, false, if◌then◌else◌, List, [], ◌∷◌, ◌++◌, drop, Some, refl, sym, ◌∙◌, ap, subst}
use Rattle.std.proofs.lemmas.List.{append_assoc}
use Rattle.std.proofs.lemmas.Bool.Decides.{eqb_tells}
use Rattle.network_law.specs.Network.{IsOne}
use Rattle.network_law.specs.Network as law
use Rattle.page_codec.specs.Packing.{fits}
use Rattle.batch_procs.specs.declared.actions.Reply.{Reply}
use Rattle.batch_procs.specs.Jobs.{Jobs, FilesAs}
use Rattle.batch_procs.specs.Parcels.{Parcel, OfFeed, OfPage, OfLine, mark}
use Rattle.place_law.specs.Process.{Does, LacksMemory, Delays}
use Rattle.batch_procs.specs.declared.actions.Reply.TheVariants as reply
use Rattle.twin_law.specs.Process.{Action, AwaitRoom, AwaitItem, Request, Release, Stop, Ended, Entry, Aim, Reads, PutsFeed, TakesFeed, PutsPage, TakesPage, Loads, Works, Prints, Finishes, Process, stands_behind, place, aim, next_action}
use Rattle.twin_law.specs.Sides.{other}
use Rattle.twin_law.specs.Table.{process}
use Rattle.twin_law.specs.Twin.{Fits, twin}
use Rattle.twin_law.specs.Alone.{reply_of, first_parcel, less_one, Put, Step, step, alone, IsLoadedSo, AreLoadedSo, puts_by, puts, before_entry, before_all, step_more, steps_more}
use Rattle.twin_law.proofs.Marks.{makes, IsAround, made}

abbrev pub Same : {L : Type 0} → (ℕ → List (Parcel L)) → (ℕ → List (Parcel L)) → Type 0
Same i j = (b : ℕ) → i b ≡ j b

pub less-same : {L : Type 0} (i j : ℕ → List (Parcel L)) (b : ℕ) → Same i j → Same (less_one i b) (less_one j b)
less-same i j b same c = ap (λ ps. if c == b then drop 1 ps else ps) (same c)

-- an answer that fails
abbrev pub IsBad : {L : Type 0} → Reply L → Type 0
IsBad reply.Stopped = Unit {0}
IsBad reply.Failed = Unit {0}
IsBad reply.NoMemory = Unit {0}
IsBad other = ⊥

-- it reads no cards itself, and an answer that fails leaves it where it is
pub record IsQuiet {L : Type 0} (p : Process L) : Type 0 where
  pub reads_not : (x : p.Place) → p.aims x ≡ Reads → ⊥
  pub stays : (x : p.Place) (r : Reply L) → IsBad r → p.behind x r ≡ x

-- one step, and what follows it
abbrev pub behind : {L : Type 0} → FilesAs L → (p : Process L) → ℕ → Step p → List (Put L)
behind F p n s = s.puts ++ (if s.ended then [] else alone F p n s.at s.inside)

module _ {L : Type 0} (F : FilesAs L) (p : Process L) where
  abbrev pub Alike : ℕ → Type 0
  Alike n = (x : p.Place) (i j : ℕ → List (Parcel L)) → Same i j → alone F p n x i ≡ alone F p n x j

  taken-same : (n : ℕ) → Alike n → (x : p.Place) (i j : ℕ → List (Parcel L)) → Same i j → (b : ℕ)
      → alone F p n (p.behind x (reply_of (first_parcel (i b)))) (less_one i b) ≡ alone F p n (p.behind x (reply_of (first_parcel (j b)))) (less_one j b)
  taken-same n alike x i j same b = ap (λ ps. alone F p n (p.behind x (reply_of (first_parcel ps))) (less_one i b)) (same b)
      ∙ alike (p.behind x (reply_of (first_parcel (j b)))) (less_one i b) (less_one j b) (less-same i j b same)

  step-same : (n : ℕ) → Alike n → (x : p.Place) (i j : ℕ → List (Parcel L)) → Same i j → (m : Aim) → behind F p n (step F p x i m) ≡ behind F p n (step F p x j m)
  step-same n alike x i j same (PutsFeed b f) = ap (λ rest. record { at = b; parcel = OfFeed f } ∷ rest) (alike (p.behind x reply.Done) i j same)
  step-same n alike x i j same (PutsPage b page) = ap (λ rest. record { at = b; parcel = OfPage page (mark page) } ∷ rest) (alike (p.behind x reply.Done) i j same)
  step-same n alike x i j same (TakesFeed b) = taken-same n alike x i j same b
  step-same n alike x i j same (TakesPage b) = taken-same n alike x i j same b
  step-same n alike x i j same (Prints line) = ap (λ rest. record { at = 0; parcel = OfLine line } ∷ rest) (alike (p.behind x reply.Done) i j same)
  step-same n alike x i j same (Loads file) = alike (p.behind x (reply.Loaded (F file))) i j same
  step-same n alike x i j same Works = alike (p.behind x reply.Done) i j same
  step-same n alike x i j same Reads = refl
  step-same n alike x i j same Finishes = refl

  pub alone-same : (n : ℕ) → Alike n
  alone-same zero x i j same = refl
  alone-same (suc n) x i j same = step-same n (alone-same n) x i j same (p.aims x)

  alone-step : (n : ℕ) (x : p.Place) (i : ℕ → List (Parcel L)) (m : Aim) → p.aims x ≡ m → alone F p (suc n) x i ≡ behind F p n (step F p x i m)
  alone-step n x i m e = ap (λ m. behind F p n (step F p x i m)) e

  -- ---- one entry
  abbrev OneStep : (x : p.Place) → Action → Reply L → Type 0
  OneStep x a r = (n : ℕ) (ahead : ℕ → List (Parcel L))
      → puts_by a r ++ alone F p n (stands_behind p x a r) ahead ≡ alone F p (step_more a r n) x (before_entry a r ahead)

  around-step : (x : p.Place) (a : Action) (r : Reply L) → IsAround a → OneStep x a r
  around-step x (AwaitRoom b) r is n ahead = refl
  around-step x (AwaitItem b) r is n ahead = refl
  around-step x Request r is n ahead = refl
  around-step x Release r is n ahead = refl
  around-step x (Stop b) r is n ahead = refl
  around-step x (Ended how) r is n ahead = refl
  around-step x a r is n ahead = absurd is

  pub same-number : (b : ℕ) → (b == b) ≡ true
  same-number b = elim (eqb_tells b b) as (λ _. (b == b) ≡ true) [ inl a ↦ a.0 | inr a ↦ absurd (a.1 refl) ]

  pub less-here : (b : ℕ) (x : Parcel L) (ahead : ℕ → List (Parcel L)) → Same (less_one (λ c. if c == b then x ∷ ahead c else ahead c) b) ahead
  less-here b x ahead c =
      elim (c == b) as (λ t. (if t then drop 1 (if t then x ∷ ahead c else ahead c) else (if t then x ∷ ahead c else ahead c)) ≡ ahead c) [ true ↦ refl | false ↦ refl ]

  pub first-here : (b : ℕ) (x : Parcel L) (ahead : ℕ → List (Parcel L)) → first_parcel (if b == b then x ∷ ahead b else ahead b) ≡ x
  first-here b x ahead = ap (λ t. first_parcel (if t then x ∷ ahead b else ahead b)) (same-number b)

  take-step : (x : p.Place) (b : ℕ) (y : Parcel L) (n : ℕ) (ahead : ℕ → List (Parcel L))
      → alone F p n (p.behind x (reply_of y)) ahead
      ≡ alone F p n (p.behind x (reply_of (first_parcel (if b == b then y ∷ ahead b else ahead b)))) (less_one (λ c. if c == b then y ∷ ahead c else ahead c) b)
  take-step x b y n ahead =
      ap (λ y. alone F p n (p.behind x (reply_of y)) ahead) (sym (first-here b y ahead))
      ∙ sym (alone-same n _ (less_one (λ c. if c == b then y ∷ ahead c else ahead c) b) ahead (less-here b y ahead))

  aim-step : IsQuiet p → (x : p.Place) (m : Aim) (r : Reply L) → p.aims x ≡ m → Fits (makes m) r → IsLoadedSo F (Does (makes m) r) → OneStep x (makes m) r
  aim-step quiet x Reads r e fits so n ahead = absurd (quiet.reads_not x e)
  aim-step quiet x (PutsFeed b f) reply.Done e fits so n ahead = sym (alone-step n x ahead (PutsFeed b f) e)
  aim-step quiet x (PutsFeed b f) reply.Stopped e fits so n ahead = ap (λ x. alone F p n x ahead) (quiet.stays x reply.Stopped tt)
  aim-step quiet x (PutsPage b page) reply.Done e fits so n ahead = sym (alone-step n x ahead (PutsPage b page) e)
  aim-step quiet x (PutsPage b page) reply.Failed e fits so n ahead = ap (λ x. alone F p n x ahead) (quiet.stays x reply.Failed tt)
  aim-step quiet x (TakesFeed b) (reply.Feed f) e fits so n ahead =
      take-step x b (OfFeed f) n ahead ∙ sym (alone-step n x (λ c. if c == b then OfFeed f ∷ ahead c else ahead c) (TakesFeed b) e)
  aim-step quiet x (TakesFeed b) reply.Stopped e fits so n ahead = ap (λ x. alone F p n x ahead) (quiet.stays x reply.Stopped tt)
  aim-step quiet x (TakesPage b) (reply.Page page last) e fits so n ahead =
      take-step x b (OfPage page last) n ahead ∙ sym (alone-step n x (λ c. if c == b then OfPage page last ∷ ahead c else ahead c) (TakesPage b) e)
  aim-step quiet x (TakesPage b) reply.Failed e fits so n ahead = ap (λ x. alone F p n x ahead) (quiet.stays x reply.Failed tt)
  aim-step quiet x (Loads file) (reply.Loaded load) e fits so n ahead =
      ap (λ load. alone F p n (p.behind x (reply.Loaded load)) ahead) so ∙ sym (alone-step n x ahead (Loads file) e)
  aim-step quiet x (Loads file) reply.Failed e fits so n ahead = ap (λ x. alone F p n x ahead) (quiet.stays x reply.Failed tt)
  aim-step quiet x (Loads file) reply.NoMemory e fits so n ahead = ap (λ x. alone F p n x ahead) (quiet.stays x reply.NoMemory tt)
  aim-step quiet x Works reply.Done e fits so n ahead = sym (alone-step n x ahead Works e)
  aim-step quiet x (Prints line) reply.Done e fits so n ahead = sym (alone-step n x ahead (Prints line) e)
  aim-step quiet x (Prints line) reply.Failed e fits so n ahead = ap (λ x. alone F p n x ahead) (quiet.stays x reply.Failed tt)
  aim-step quiet x (Prints line) reply.NoMemory e fits so n ahead = ap (λ x. alone F p n x ahead) (quiet.stays x reply.NoMemory tt)
  aim-step quiet x Finishes reply.Done e fits so n ahead = refl
  aim-step quiet x m r e fits so n ahead = absurd fits

module _ {L : Type 0} (J : Jobs L) (F : FilesAs L) (p : ℕ) (one : IsOne (twin J) p) (quiet : IsQuiet (process J p)) where
  one-entry : (h : List (Entry L)) (a : Action) (r : Reply L) → next_action (process J p) h ≡ Some a → Fits a r → IsLoadedSo F (Does a r)
      → OneStep F (process J p) (place (process J p) h) a r
  one-entry h a r next fits so =
      elim (made J p h a one next) as (λ _. OneStep F (process J p) (place (process J p) h) a r) [
        | inl around ↦ around-step F (process J p) (place (process J p) h) a r around
        | inr same ↦ subst (λ a. Fits a r → IsLoadedSo F (Does a r) → OneStep F (process J p) (place (process J p) h) a r) same
            (λ fits so. aim-step F (process J p) quiet (place (process J p) h) (aim (process J p) h) r refl fits so) fits so
      ]

  -- of every history that it may have, under every cause
  pub tells : (h : List (Entry L)) (n : ℕ) (ahead : ℕ → List (Parcel L)) → law.Follows (twin J) p h → AreLoadedSo F h
      → puts h ++ alone F (process J p) n (place (process J p) h) ahead ≡ alone F (process J p) (steps_more h n) (process J p).start (before_all h ahead)
  tells [] n ahead follows so = refl
  tells (Does a r ∷ h) n ahead follows so =
      append_assoc (puts h) (puts_by a r) (alone F (process J p) n (stands_behind (process J p) (place (process J p) h) a r) ahead)
      ∙ ap (λ rest. puts h ++ rest) (one-entry h a r follows.0 follows.1.0 so.0 n ahead)
      ∙ tells h (step_more a r n) (before_entry a r ahead) follows.2 so.1
  tells (LacksMemory a r ∷ h) n ahead follows so = tells h n ahead follows.2 so.1
  tells (Delays a ∷ h) n ahead follows so = tells h n ahead follows.2 so.1
