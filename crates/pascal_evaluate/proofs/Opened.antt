-- A call of a routine: its activation begins, its statements are done, and it ends.
use Rattle.std.proofs.Common.{◌≡◌, ℕ, zero, suc, ◌<◌, ◌≤◌, List, [], ◌∷◌, ◌++◌, length, get_or, map, take, Option, Some, None, ℤ, pos, refl, sym, ◌∙◌, ap, subst, arith}
use Rattle.std.specs.Prelude.{slice_get, unwrap_or, Result}
use Rattle.pascal_mean.specs.Declarations.{Declared, no_routine}
use Rattle.pascal_tree.specs.Statement.{body, Sequence}
use Rattle.pascal_mean.specs.Situation.{Map, Situation, Course, Part, Gives, and_then}
use Rattle.pascal_mean.specs.Variables.{fresh_map, map_at}
use Rattle.pascal_mean.specs.Calls.{Given}
use Rattle.pascal_mean.specs.Expressions.{Setting}
use Rattle.pascal_mean.specs.Statements.{after_body, after_sequence}
use Rattle.pascal_mean.specs.Meaning.{begun, ended, setting_of}
use Rattle.pascal_evaluate.specs.declared.stop.Stop.{Stop}
use Rattle.pascal_evaluate.specs.declared.setting.Setting as setting_type
use Rattle.pascal_evaluate.specs.SeenSetting.{answers_in, all_in, does_in, opened_in}
use Rattle.pascal_evaluate.specs.Ran.{IsStopped, Ran}
use Rattle.pascal_evaluate.proofs.Parts.{stopped_then}

pub got_here : {A B : Type 0} (see : A → B) (xs : List A) (n : ℕ) (d : A) → n < length xs → slice_get (map see xs) n ≡ Some (see (get_or xs n d))
got_here see [] n d within = absurd (omega (arith, within))
got_here see (x ∷ more) zero d within = refl
got_here see (x ∷ more) (suc n) d within = got_here see more n d (omega (arith, within))

pub got_past : {A B : Type 0} (see : A → B) (xs : List A) (n : ℕ) → length xs ≤ n → slice_get (map see xs) n ≡ None
got_past see [] n past = refl
got_past see (x ∷ more) zero past = absurd (omega (arith, past))
got_past see (x ∷ more) (suc n) past = got_past see more n (omega (arith, past))

last_map : (maps : List Map) (m : Map) → map_at (maps ++ m ∷ []) (length maps) ≡ m
last_map [] m = refl
last_map (n ∷ more) m = last_map more m

without_last : (maps : List Map) (m : Map) → take (length maps) (maps ++ m ∷ []) ≡ maps
without_last [] m = refl
without_last (n ∷ more) m = ap (λ l. n ∷ l) (without_last more m)

-- a routine that is there is called
pub called_one : (free : ℕ) (s : setting_type.Setting) (k : ℕ) (given : List Given) (now : Situation) (r : Declared) (answer : Result ℤ Stop)
    (then_is : Situation)
    → slice_get (all_in s) k ≡ Some r → Ran (opened_in free s r given now) answer then_is → Ran (does_in (suc free) s k given now) answer then_is
called_one free s k given now r answer then_is found ran =
    subst (λ (o : Option Declared). Ran (opened_in free s (unwrap_or o no_routine) given now) answer then_is) (sym found) ran

-- a number that no routine has
pub called_none : (free : ℕ) (s : setting_type.Setting) (k : ℕ) (given : List Given) (now : Situation) → slice_get (all_in s) k ≡ None
    → does_in (suc free) s k given now ≡ Gives (pos 0) now
called_none free s k given now found =
    let of_maps : List Map → Course ℤ = λ maps. Gives (pos 0) (record now { maps = maps }) in
    let of_map : Map → Course ℤ = λ m. Gives m.answer (record now { maps = take (length now.maps) (now.maps ++ fresh_map ∷ []) }) in
    ap (λ o. opened_in free s (unwrap_or o no_routine) given now) found
    ∙ ap of_map (last_map now.maps fresh_map) ∙ ap of_maps (without_last now.maps fresh_map)

-- how the statements of a routine are those that were done
module _ (free : ℕ) (s : setting_type.Setting) (r : Declared) (given : List Given) (now : Situation) (c : Setting) (number : ℕ) (begins : Situation)
    (all : Sequence) (first last : ℕ) (of_body : r.body ≡ body first all last) (counted : number ≡ length now.maps)
    (stands : c ≡ setting_of (answers_in s) s.limit r number (does_in free s)) (begun_is : begins ≡ begun r given now) where
  leaving : Unit {0} → Part ℤ
  leaving _ after = Gives ((map_at after.maps (length now.maps)).answer) (ended (length now.maps) now.line after)

  inside : Setting
  inside = setting_of (answers_in s) s.limit r (length now.maps) (does_in free s)

  same : after_sequence c all begins ≡ after_body inside r.body (begun r given now)
  unfolding inside
  same =
      ap (λ n. after_sequence c all n) begun_is
      ∙ ap (λ e. after_sequence e all (begun r given now)) (stands ∙ ap (λ k. setting_of (answers_in s) s.limit r k (does_in free s)) counted)
      ∙ ap (λ b. after_body inside b (begun r given now)) (sym of_body)

  pub opened_stopped : (why : Stop) (then_is : Situation) → IsStopped (after_sequence c all begins) why then_is
      → IsStopped (opened_in free s r given now) why then_is
  unfolding inside leaving
  opened_stopped why then_is stopped =
      stopped_then (after_body inside r.body (begun r given now)) leaving why then_is (subst (λ (course : Course
      (Unit {0})). IsStopped course why then_is) same stopped)

  pub opened_gives : (after : Situation) → after_sequence c all begins ≡ Gives tt after
      → opened_in free s r given now ≡ Gives ((map_at after.maps number).answer) (ended number now.line after)
  unfolding inside leaving
  opened_gives after gives =
      ap (λ (course : Course (Unit {0})). and_then course leaving) (sym same ∙ gives)
      ∙ ap (λ k. Gives ((map_at after.maps k).answer) (ended k now.line after)) (sym counted)
