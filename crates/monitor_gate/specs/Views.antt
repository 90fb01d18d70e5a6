-- What the seats of a gate know, and how it changes.
use Rattle.std.specs.Prelude.{◌≢◌, ℕ, zero, suc, ◌+◌, ◌==◌, if◌then◌else◌, Bool, true, false, ◌&&◌, ◌||◌, List, [], ◌∷◌, ◌++◌, Option, Some, None}
use Rattle.monitor_gate.specs.declared.view.Line.{Line}
use Rattle.monitor_gate.specs.declared.view.Stage.{Stage}
use Rattle.monitor_gate.specs.declared.view.Stage.TheVariants.{Spent, Making, Outside, Inside}
use Rattle.monitor_gate.specs.declared.view.View.{View}

-- P holds of each element
abbrev pub Each : {A : Type 0} → (A → Type 0) → List A → Type 0
Each P [] = Unit {0}
Each P (x ∷ xs) = P x × Each P xs

-- no number stands twice in these lines
abbrev pub AreApart : {E : Type 0} → List (Line E) → Type 0
AreApart [] = Unit {0}
AreApart (l ∷ ls) = Each (λ m. m.number ≢ l.number) ls × AreApart ls

module _ {S : Type 0} where
  -- what a pass holds of the slot: its place, once it has taken the state out
  abbrev pub in_hand : Stage S → List (ℕ × Option S)
  in_hand (Inside x) = (0, None) ∷ []
  in_hand _ = []

  abbrev pub made_of : Stage S → ℕ
  made_of (Making made) = made
  made_of _ = 0

  abbrev pub one_more : Stage S → Stage S
  one_more (Making made) = Making (made + 1)
  one_more stage = stage

module _ {S E : Type 0} where
  -- the maker of a gate, once it has made so many passes
  abbrev pub maker : S → ℕ → View S E
  maker opening made = record { number = 0; opening = Some opening; stage = Making made; entries = []; joined = [] }

  -- a new pass of process p
  abbrev pub fresh : Option S → ℕ → View S E
  fresh opening p = record { number = p; opening = opening; stage = Outside; entries = []; joined = [] }

  -- the view of a pass that was joined into another
  abbrev pub spent : View S E
  spent = record { number = 0; opening = None; stage = Spent; entries = []; joined = [] }

  -- the view at another stage
  abbrev pub at_stage : Stage S → View S E → View S E
  at_stage stage v = record { number = v.number; opening = v.opening; stage = stage; entries = v.entries; joined = v.joined }

  -- the view outside, with these entries more
  abbrev pub completed : List E → View S E → View S E
  completed gained v = record { number = v.number; opening = v.opening; stage = Outside; entries = v.entries ++ gained; joined = v.joined }

  -- the list of a pass, under its number
  abbrev pub own_line : View S E → Line E
  own_line v = record { number = v.number; entries = v.entries }

  abbrev pub lines_at : Stage S → List (Line E) → List (Line E)
  lines_at Spent ls = []
  lines_at (Making made) ls = []
  lines_at _ ls = ls

  -- the lists of a pass: its own first, then those of the passes that it joined
  abbrev pub lines : View S E → List (Line E)
  lines v = lines_at v.stage (own_line v ∷ v.joined)

  -- the maker has made one more pass, and this is the new one
  abbrev pub dealing : View S E → View S E
  dealing v = at_stage (one_more v.stage) v

  abbrev pub dealt : View S E → View S E
  dealt v = fresh v.opening (made_of v.stage + 1)

  -- the first pass has joined the second
  abbrev pub both : View S E → View S E → View S E
  both v w = record { number = v.number; opening = v.opening; stage = v.stage; entries = v.entries; joined = v.joined ++ own_line w ∷ w.joined }

module _ {E : Type 0} where
  abbrev pub has_line : ℕ → List (Line E) → Bool
  has_line p [] = false
  has_line p (l ∷ ls) = (l.number == p) || has_line p ls

  -- the processes 1 to n have a line each
  abbrev pub covers : ℕ → List (Line E) → Bool
  covers zero ls = true
  covers (suc n) ls = has_line (suc n) ls && covers n ls

  -- the entries of process p in these lines
  abbrev pub entries_of : List (Line E) → ℕ → List E
  entries_of [] p = []
  entries_of (l ∷ ls) p = if l.number == p then l.entries else entries_of ls p
