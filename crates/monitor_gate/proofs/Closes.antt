-- A gate is closed by the pass that has joined all others.
use Rattle.std.proofs.Common.{◌≡◌, ℕ, zero, suc, ◌-◌, ◌<◌, ◌≤◌, cond, Bool, true, false, true≢false, ◌&&◌, ◌||◌, List, [], ◌∷◌, Option, Some, None, IsSome, refl, sym, ap, ◌∙◌, subst, arith, eq-eqb, ne_eqb}
use mathlib.Core.Logic.{dite}
use mathlib.Core.Option as maybe
use mathlib.Core.Option.{some, none, some-injective}
use native.Mathlib.Decide.{dec_le, ℕ_discrete}
use lib.ListN.{get_elem?}
use Rattle.atomic_table.specs.Table.{State, Final, Seen}
use Rattle.monitor_gate.specs.declared.view.Line.{Line}
use Rattle.monitor_gate.specs.declared.view.Stage.{Stage}
use Rattle.monitor_gate.specs.declared.view.Stage.TheVariants.{Outside}
use Rattle.monitor_gate.specs.declared.view.View.{View}
use Rattle.monitor_gate.specs.Views.{Each, own_line, has_line, covers, entries_of}
use Rattle.monitor_gate.specs.Rule.{IsWithin, IsLineOf, IsKept}
use Rattle.monitor_gate.proofs.Stays.{IsActive, within_active, active_listed, active_own}

and_left : (a b : Bool) → (a && b) ≡ true → a ≡ true
and_left true b e = refl
and_left false b e = e

and_right : (a b : Bool) → (a && b) ≡ true → b ≡ true
and_right true b e = e
and_right false b e = absurd (true≢false (sym e))

module _ {E : Type 0} where
  pub covered : (n : ℕ) (ls : List (Line E)) → covers n ls ≡ true → (p : ℕ) → 1 ≤ p → p ≤ n → has_line p ls ≡ true
  covered zero ls e p low high = absurd (omega arith)
  covered (suc n) ls e p low high = dite (ℕ_discrete p (suc n)) (λ is. ap (λ (k : ℕ). has_line k ls) is ∙ and_left (has_line (suc n) ls) (covers n ls) e)
      (λ ne. covered n ls (and_right (has_line (suc n) ls) (covers n ls) e) p low (omega arith))

  module _ (lists : ℕ → List E) (owner : ℕ → ℕ) (made seat : ℕ) (p : ℕ) where
    pub line_found : (ls : List (Line E)) → Each (IsLineOf lists owner made seat) ls → has_line p ls ≡ true → (owner p ≡ seat) × (entries_of ls p ≡ lists p)
    line_found [] e h = absurd (true≢false (sym h))
    line_found (l ∷ ls) e h = dite (ℕ_discrete l.number p)
        (λ is. (ap owner (sym is) ∙ e.0.owned, ap (λ b. cond b l.entries (entries_of ls p)) (eq-eqb l.number p is) ∙ (sym e.0.has ∙ ap lists is)))
        (λ ne. let rest = line_found ls e.1 (sym (ap (λ b. b || has_line p ls) (ne_eqb l.number p ne)) ∙ h) in (rest.0, ap (λ b. cond b l.entries (entries_of ls p)) (ne_eqb l.number p ne) ∙ rest.1))

  pub no_line : (p : ℕ) (ls : List (Line E)) → has_line p ls ≡ false → entries_of ls p ≡ []
  no_line p [] h = refl
  no_line p (l ∷ ls) h = dite (ℕ_discrete l.number p)
      (λ is. absurd (true≢false (sym (ap (λ b. b || has_line p ls) (eq-eqb l.number p is)) ∙ h)))
      (λ ne. ap (λ b. cond b l.entries (entries_of ls p)) (ne_eqb l.number p ne) ∙ no_line p ls (sym (ap (λ b. b || has_line p ls) (ne_eqb l.number p ne)) ∙ h))

-- the state of a closed gate
pub record Closing {S E : Type 0} (handed : S → Option ℕ) (ties : S → S → (ℕ → List E) → Type 0) (waits : ℕ → S → Bool) (start : S) (ls : List (Line E)) (xs : List (Option S)) : Type 0 where
  pub state : S
  pub there : get_elem? xs 0 ≡ some (Some state)
  pub tied : ties start state (entries_of ls)
  pub nobody : (p : ℕ) → waits p state ≡ false
  pub free : handed state ≡ None

module _ {S E : Type 0} (handed : S → Option ℕ) (ties : S → S → (ℕ → List E) → Type 0) (waits : ℕ → S → Bool) (wakes : ℕ → S → Type 0) (start : S) (passes : ℕ) where
  abbrev Table : Type 0
  Table = State (Option S) (View S E)

  abbrev Rule : Table → Type 0
  Rule = IsKept handed ties waits wakes start passes

  module _ (s : Table) (r : Rule s) (id : ℕ) (v : View S E) (at : get_elem? s.views id ≡ some v) (v_out : v.stage ≡ Outside) (all : covers passes (own_line v ∷ v.joined) ≡ true) where
    ls : List (Line E)
    ls = own_line v ∷ v.joined

    mine : Each (IsLineOf r.lists r.owner r.made id) ls
    unfolding ls
    mine = active_listed waits start r.now r.lists r.owner r.made r.turn r.inside id v (r.each id v at) (subst IsActive (sym v_out) tt)

    nobody_within : (seat : ℕ) (u : View S E) → get_elem? s.views seat ≡ some u → IsWithin u.stage → ⊥
    unfolding ls
    nobody_within seat u e w =
        let own = active_own waits start r.now r.lists r.owner r.made r.turn r.inside seat u (r.each seat u e) (within_active u.stage w) in
        let low = own.low in let high = own.high in let few = r.few in
        let here = line_found r.lists r.owner r.made id u.number ls mine (covered passes ls all u.number low (omega arith)) in
        let is : seat ≡ id = sym own.owned ∙ here.0 in
        let same : u ≡ v = some-injective u v (sym e ∙ (ap (get_elem? s.views) is ∙ at)) in
        subst (λ (st : Stage S). IsWithin st) (ap (λ (x : View S E). x.stage) same ∙ v_out) w

    quiet : (p : ℕ) → waits p r.now ≡ false
    quiet p = elim (waits p r.now) as (λ b. waits p r.now ≡ b → waits p r.now ≡ false) [ true ↦ λ is. let h = r.waiting p is in absurd (nobody_within h.seat h.view h.there h.within) | false ↦ λ is. is ] refl

    idle : r.turn ≡ 0
    idle = dite (ℕ_discrete r.turn 0) (λ e. e) (λ some_turn. dite (ℕ_discrete r.turn 1)
        (λ one. let i = r.entered one in absurd (nobody_within r.inside i.view i.there (subst IsWithin (sym i.within) tt)))
        (λ more. let h = r.handed_on (r.turn - 2) (omega arith) in absurd (true≢false (sym h.waiting ∙ quiet (r.turn - 2)))))

    late : (p : ℕ) → has_line p ls ≡ false → 1 ≤ p → r.made < p
    unfolding ls
    late p is low = let few = r.few in dite (dec_le p passes) (λ high. absurd (true≢false (sym (covered passes ls all p low high) ∙ is))) (λ not. omega arith)

    listed : (p : ℕ) → r.lists p ≡ entries_of ls p
    listed p = elim (has_line p ls) as (λ b. has_line p ls ≡ b → r.lists p ≡ entries_of ls p) [
      | true ↦ λ is. sym (line_found r.lists r.owner r.made id p ls mine is).1
      | false ↦ λ is. let few = r.few in r.unmade p (λ low. late p is low) ∙ sym (no_line p ls is)
    ] refl

    closes_at : (xs : List (Option S)) → ((k : ℕ) (y : Option S) → get_elem? s.homes k ≡ some (some y) → get_elem? xs k ≡ some y) → Closing handed ties waits start ls xs
    closes_at xs home = record {
      state = r.now;
      there = home 0 (Some r.now) (ap (λ (hs : List (maybe.Option (Option S))). get_elem? hs 0) (r.home (omega (arith, idle))));
      tied = subst (λ (f : ℕ → List E). ties start r.now f) (λ i p. listed p i) r.tied;
      nobody = quiet;
      free = r.free idle;
    }

  pub closes : (id : ℕ) (v : View S E) (words : List ℕ) (xs : List (Option S)) → v.stage ≡ Outside → covers passes (own_line v ∷ v.joined) ≡ true → Final (Seen Rule id v) words xs
      → Closing handed ties waits start (own_line v ∷ v.joined) xs
  unfolding ls
  closes id v words xs v_out all f = closes_at f.0 f.1.0 id v f.1.1 v_out all xs f.4

  -- the same, of the pass as its caller sees it
  pub closes_as : (id : ℕ) (v w : View S E) (opening : S) (count : ℕ) (words : List ℕ) (xs : List (Option S)) → v ≡ w → start ≡ opening → passes ≡ count → w.stage ≡ Outside → covers count (own_line w ∷ w.joined) ≡ true
      → Final (Seen Rule id v) words xs → Closing handed ties waits opening (own_line w ∷ w.joined) xs
  closes_as id v w opening count words xs v_is start_is count_is out all f =
      subst (λ (z : S × View S E). Closing handed ties waits z.0 (own_line z.1 ∷ z.1.joined) xs) (λ i. (start_is i, v_is i))
      (closes id v words xs (ap (λ (x : View S E). x.stage) v_is ∙ out) (ap (λ (x : View S E). covers passes (own_line x ∷ x.joined)) v_is ∙ (ap (λ (n : ℕ). covers n (own_line w ∷ w.joined)) count_is ∙ all)) f)

-- what was taken out of the slot is that state
pub closed_some : {S E : Type 0} (handed : S → Option ℕ) (ties : S → S → (ℕ → List E) → Type 0) (waits : ℕ → S → Bool) (opening : S) (lines : List (Line E)) (xs : List (Option S)) (o : Option S)
    → get_elem? xs 0 ≡ some o → Closing handed ties waits opening lines xs → IsSome o
closed_some handed ties waits opening lines xs o at c = subst IsSome (some-injective _ _ (sym c.there ∙ at)) refl

pub closed_is : {S E : Type 0} (handed : S → Option ℕ) (ties : S → S → (ℕ → List E) → Type 0) (waits : ℕ → S → Bool) (opening : S) (lines : List (Line E)) (xs : List (Option S)) (o : Option S) (x : S)
    → get_elem? xs 0 ≡ some o → Closing handed ties waits opening lines xs → o ≡ Some x → ties opening x (entries_of lines) × ((p : ℕ) → waits p x ≡ false) × (handed x ≡ None)
closed_is handed ties waits opening lines xs o x at c is =
    let some_is : Some c.state ≡ Some x = some-injective _ _ (sym c.there ∙ at) ∙ is in
    let same : c.state ≡ x = cc in
    subst (λ (y : _). ties opening y (entries_of lines) × ((p : ℕ) → waits p y ≡ false) × (handed y ≡ None)) same (c.tied, c.nobody, c.free)
