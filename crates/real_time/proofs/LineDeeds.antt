-- The deeds of a line display its answer, and start each task in its seconds.
use Rattle.std.proofs.Common.{◌≡◌, ◌≢◌, inl, inr, ℕ, zero, suc, ◌+◌, ◌<◌, Bool, true, false, List, [], ◌∷◌, ◌++◌, append_assoc, refl, sym, ◌∙◌, ap, arith}
use Rattle.std.specs.Prelude.{◌==◌, ◌&&◌, filter, map, codes, if◌then◌else◌, slice_get}
use Rattle.std.specs.Fmt.{decimal}
use Rattle.std.proofs.lemmas.List.{append-nil}
use Rattle.std.proofs.lemmas.Bool.Decides.{eqb_tells}
use Rattle.real_time.specs.Typed.{Typed, Blank, Names, Plans, Stops, Passes, Bad}
use Rattle.real_time.specs.Starts.{Script, Change, answer, is_due, lines_of_seconds, next_second, plan_of, second_lines, start_line, within_clock}
use Rattle.real_time.specs.Deeds.{Deed, Enters, Shows, Wakes, Returns, deeds_of, deeds_of_seconds, shows_start, starts_in_second, starts_named, starts_of_line, starts_of_seconds, wakes_of}
use Rattle.real_time.specs.Owed.{lines_shown, starts_by}

-- ---- lines
lines-append : (some more : List Deed) → lines_shown (some ++ more) ≡ lines_shown some ++ lines_shown more
lines-append [] more = refl
lines-append (Enters line ∷ some) more = lines-append some more
lines-append (Shows text ∷ some) more = ap (λ lines. text ∷ lines) (lines-append some more)
lines-append (Wakes place second due ∷ some) more = lines-append some more
lines-append (Returns ∷ some) more = lines-append some more

lines-shows : (texts : List (List ℕ)) → lines_shown (map Shows texts) ≡ texts
lines-shows [] = refl
lines-shows (text ∷ texts) = ap (λ lines. text ∷ lines) (lines-shows texts)

lines-wakes : (accepted : List Change) (second place : ℕ) (names : List (List ℕ))
    → lines_shown (wakes_of accepted second place names) ≡ map (start_line second) (filter (λ name. is_due (plan_of name accepted) second) names)
lines-wakes accepted second place [] = refl
lines-wakes accepted second place (name ∷ names) =
    by (is_due (plan_of name accepted) second) refl (lines-wakes accepted second (suc place) names)
  where
    by : (due : Bool) → is_due (plan_of name accepted) second ≡ due
        → lines_shown (wakes_of accepted second (suc place) names)
        ≡ map (start_line second) (filter (λ name. is_due (plan_of name accepted) second) names)
        → lines_shown (wakes_of accepted second place (name ∷ names))
        ≡ map (start_line second) (filter (λ name. is_due (plan_of name accepted) second) (name ∷ names))
    by true e rest = rw e (ap (λ lines. start_line second name ∷ lines) rest)
    by false e rest = rw e rest

lines-seconds : (seconds : ℕ) (s : Script) → lines_shown (deeds_of_seconds seconds s) ≡ lines_of_seconds seconds s
lines-seconds zero s = refl
lines-seconds (suc seconds) s =
    lines-append (wakes_of s.accepted (s.now + 1) 0 s.tasks) (deeds_of_seconds seconds (next_second s))
    ∙ ap (λ lines. lines ++ lines_shown (deeds_of_seconds seconds (next_second s))) (lines-wakes s.accepted (s.now + 1) 0 s.tasks)
    ∙ ap (λ lines. second_lines s ++ lines) (lines-seconds seconds (next_second s))

pub line-shows : (s : Script) (line : Typed) → lines_shown (deeds_of s line) ≡ answer s line
line-shows s Blank = refl
line-shows s (Names name) = lines-shows (answer s (Names name))
line-shows s (Plans name time period) = lines-shows (answer s (Plans name time period))
line-shows s (Stops name) = lines-shows (answer s (Stops name))
line-shows s (Passes seconds) = by (within_clock s seconds) refl
  where
    by : (within : Bool) → within_clock s seconds ≡ within → lines_shown (deeds_of s (Passes seconds)) ≡ answer s (Passes seconds)
    by true e =
        rw e (lines-append (deeds_of_seconds seconds s) (Shows (codes "TIME " ++ decimal (s.now + seconds)) ∷ [])
        ∙ ap (λ lines. lines ++ (codes "TIME " ++ decimal (s.now + seconds)) ∷ []) (lines-seconds seconds s))
    by false e = rw e refl
line-shows s Bad = refl

-- ---- starts
starts-append : (place : ℕ) (some more : List Deed) → starts_by place (some ++ more) ≡ starts_by place some ++ starts_by place more
starts-append place [] more = refl
starts-append place (Enters line ∷ some) more = starts-append place some more
starts-append place (Shows text ∷ some) more = starts-append place some more
starts-append place (Wakes q second due ∷ some) more =
    ap (λ starts. (if (q == place) && due then second ∷ [] else []) ++ starts) (starts-append place some more)
    ∙ sym (append_assoc (if (q == place) && due then second ∷ [] else []) (starts_by place some) (starts_by place more))
starts-append place (Returns ∷ some) more = starts-append place some more

starts-shows : (place : ℕ) (texts : List (List ℕ)) → starts_by place (map Shows texts) ≡ []
starts-shows place [] = refl
starts-shows place (text ∷ texts) = starts-shows place texts

starts-start : (place second : ℕ) (name : List ℕ) (due : Bool) (more : List Deed) → starts_by place (shows_start due second name ++ more) ≡ starts_by place more
starts-start place second name true more = refl
starts-start place second name false more = refl

-- a wake of another place
starts-other : (place q second : ℕ) (due : Bool) (starts : List ℕ) → q ≢ place → (if (q == place) && due then second ∷ [] else []) ++ starts ≡ starts
starts-other place q second due starts other =
    elim (eqb_tells q place) as (λ _. (if (q == place) && due then second ∷ [] else []) ++ starts ≡ starts) [
      | inl same ↦ absurd (other same.1)
      | inr differ ↦ (let no = differ.0 in rw no refl)
    ]

starts-before : (accepted : List Change) (second place q : ℕ) (names : List (List ℕ)) → q < place → starts_by q (wakes_of accepted second place names) ≡ []
starts-before accepted second place q [] below = refl
starts-before accepted second place q (name ∷ names) below =
    starts-other q place second (is_due (plan_of name accepted) second) _ (λ same. omega (arith, same, below))
    ∙ starts-start q second name (is_due (plan_of name accepted) second) (wakes_of accepted second (suc place) names)
    ∙ starts-before accepted second (suc place) q names (omega (arith, below))

starts-wakes : (accepted : List Change) (second place i : ℕ) (names : List (List ℕ))
    → starts_by (place + i) (wakes_of accepted second place names) ≡ starts_named (slice_get names i) accepted second
starts-wakes accepted second place i [] = refl
starts-wakes accepted second place zero (name ∷ names) =
    let rest = starts-start (place + 0) second name (is_due (plan_of name accepted) second) (wakes_of accepted second (suc place) names)
    ∙ starts-before accepted second (suc place) (place + 0) names (omega arith) in
    ap (λ starts. (if (place == (place + 0)) && is_due (plan_of name accepted) second then second ∷ [] else []) ++ starts) rest
    ∙ append-nil _
    ∙ own (is_due (plan_of name accepted) second)
  where
    own : (due : Bool) → (if (place == (place + 0)) && due then second ∷ [] else []) ≡ (if due then second ∷ [] else [])
    own due = elim (eqb_tells place (place + 0)) as (λ _. (if (place == (place + 0)) && due then second ∷ [] else []) ≡ (if due then second ∷ [] else [])) [
      | inl same ↦ (let e = same.0 in rw e refl)
      | inr differ ↦ absurd (let no = differ.1 in omega (arith, no))
    ]
starts-wakes accepted second place (suc i) (name ∷ names) =
    starts-other (place + suc i) place second (is_due (plan_of name accepted) second) _ (λ same. omega (arith, same))
    ∙ starts-start (place + suc i) second name (is_due (plan_of name accepted) second) (wakes_of accepted second (suc place) names)
    ∙ ap (λ q. starts_by q (wakes_of accepted second (suc place) names)) (moved place i)
    ∙ starts-wakes accepted second (suc place) i names
  where
    moved : (place i : ℕ) → place + suc i ≡ suc place + i
    moved place i = omega arith

zero-plus : (n : ℕ) → n ≡ 0 + n
zero-plus n = omega arith

starts-seconds : (place seconds : ℕ) (s : Script) → starts_by place (deeds_of_seconds seconds s) ≡ starts_of_seconds place seconds s
starts-seconds place zero s = refl
starts-seconds place (suc seconds) s =
    starts-append place (wakes_of s.accepted (s.now + 1) 0 s.tasks) (deeds_of_seconds seconds (next_second s))
    ∙ ap (λ starts. starts ++ starts_by place (deeds_of_seconds seconds (next_second s))) (ap (λ q. starts_by q (wakes_of s.accepted (s.now + 1) 0 s.tasks))
    (zero-plus place) ∙ starts-wakes s.accepted (s.now + 1) 0 place s.tasks)
    ∙ ap (λ starts. starts_in_second place s (s.now + 1) ++ starts) (starts-seconds place seconds (next_second s))

pub line-starts : (place : ℕ) (s : Script) (line : Typed) → starts_by place (deeds_of s line) ≡ starts_of_line place s line
line-starts place s Blank = refl
line-starts place s (Names name) = starts-shows place (answer s (Names name))
line-starts place s (Plans name time period) = starts-shows place (answer s (Plans name time period))
line-starts place s (Stops name) = starts-shows place (answer s (Stops name))
line-starts place s (Passes seconds) = by (within_clock s seconds) refl
  where
    by : (within : Bool) → within_clock s seconds ≡ within → starts_by place (deeds_of s (Passes seconds)) ≡ starts_of_line place s (Passes seconds)
    by true e =
        rw e (starts-append place (deeds_of_seconds seconds s) (Shows (codes "TIME " ++ decimal (s.now + seconds)) ∷ [])
        ∙ append-nil _ ∙ starts-seconds place seconds s)
    by false e = rw e refl
line-starts place s Bad = refl
