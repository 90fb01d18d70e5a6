-- A whole call of the interface: it is asked for, and its variables are set.
use Rattle.std.proofs.Common.{◌≡◌, ℕ, zero, suc, ◌+◌, ◌-◌, Bool, true, false, Option, Some, None, List, [], ◌∷◌, ◌++◌, length, map, ℤ, refl, sym, ◌∙◌, ap, subst, arith, append_assoc}
use Rattle.std.specs.Prelude.{reverse}
use Rattle.std.specs.Prelude.{slice_get}
use Rattle.std.proofs.lemmas.List.{reverse-append, length-append}
use Rattle.solo_base.specs.declared.interface.Procedure.{Procedure}
use Rattle.solo_base.specs.declared.system_call.SysCall.{SysCall}
use Rattle.solo_base.specs.declared.system_call.SysReply.{SysReply}
use Rattle.solo_base.specs.Interface.{call_row_of}
use Rattle.solo_base.specs.Replies.{results_in, array_in}
use Rattle.stack_code.specs.CodeLists.{CodeLists}
use Rattle.pascal_mean.specs.Scope.{Scope}
use Rattle.pascal_mean.specs.Situation.{Situation, Place, Course, Gives, and_then}
use Rattle.pascal_mean.specs.Variables.{owner_number, ArrayPlace, stored, stored_elements, whole_array}
use Rattle.pascal_mean.specs.Calls.{Passing, ByValue, ByVariable, ByArray, Given, row_passing, values_in, variables_in, arrays_in, call_for, array_read, set_array, set_variables, set_by, first_value, after_call, interface_value}
use Rattle.pascal_mean.specs.Meaning as meaning
use Rattle.pascal_code.specs.Senses.{Sense, Constant, Variable, Array, Reference, Routine, Function, Interface, Nothing, Site}
use Rattle.pascal_code.specs.Names.{store_code}
use Rattle.pascal_code.specs.Calls.{row_call, array_call, stores_code, call_code, variables_among, arrays_among}
use Rattle.code_law.specs.Named.{Named}
use Rattle.code_law.specs.Suits.{RowGives}
use Rattle.code_law.proofs.Standing.{Stand, parted}
use Rattle.code_law.proofs.Here.{Fixed, own_number, Here, After, after}
use Rattle.code_law.proofs.Opening.{on_top}
use Rattle.code_law.proofs.Asking.{Answered, asking, row_called, array_called}
use Rattle.code_law.proofs.Variables.{place_stored}
use Rattle.code_law.proofs.Given.{joined, ArePlaces, AreWhole, IsWhole, variable_names, array_names, IsRowGiven, row_values, row_array}

-- what stands on the operands behind a call
abbrev pub result_on : Bool → ℤ → List ℤ → List ℤ
result_on true v rest = v ∷ rest
result_on false v rest = rest

-- ---- Variables are set from the last to the first

set_more : (places : List Place) (at : Place) (rs : List ℤ) (r : ℤ) (now : Situation) → length rs ≡ length places
    → set_variables (places ++ at ∷ []) (rs ++ r ∷ []) now ≡ stored at r (set_variables places rs now)
set_more [] at [] r now same = refl
set_more [] at (s ∷ rs) r now same = absurd (omega (arith, same))
set_more (p ∷ places) at [] r now same = absurd (omega (arith, same))
set_more (p ∷ places) at (s ∷ rs) r now same = set_more places at rs r (stored p s now) (omega (arith, same))

record Last (rs : List ℤ) (n : ℕ) : Type 0 where
  front : List ℤ
  last : ℤ
  whole : rs ≡ front ++ last ∷ []
  count : length front ≡ n

last_of : (rs : List ℤ) (n : ℕ) → length rs ≡ suc n → Last rs n
last_of [] n same = absurd (omega (arith, same))
last_of (r ∷ []) zero same = record { front = []; last = r; whole = refl; count = refl }
last_of (r ∷ []) (suc n) same = absurd (omega (arith, same))
last_of (r ∷ s ∷ rs) zero same = absurd (omega (arith, same))
last_of (r ∷ s ∷ rs) (suc n) same =
    let more = last_of (s ∷ rs) n (omega (arith, same)) in
    record { front = r ∷ more.front; last = more.last; whole = ap (λ (l : List ℤ). r ∷ l) more.whole; count = omega (arith, more.count) }

length_reverse : (places : List Place) → length (reverse places) ≡ length places
length_reverse [] = refl
length_reverse (p ∷ places) = ap length (reverse-append (p ∷ []) places) ∙ omega (arith, length-append (reverse places) (p ∷ []), length_reverse places)

among_variables : (names : List ℕ → Sense) (by : List Passing) (xs : List (List ℕ)) → variables_among by (map names xs) ≡ map names (variable_names by xs)
among_variables names [] xs = refl
among_variables names (by ∷ others) [] = refl
among_variables names (ByValue ∷ others) (x ∷ xs) = among_variables names others xs
among_variables names (ByVariable ∷ others) (x ∷ xs) = ap (λ (l : List Sense). names x ∷ l) (among_variables names others xs)
among_variables names (ByArray ∷ others) (x ∷ xs) = among_variables names others xs

among_arrays : (names : List ℕ → Sense) (by : List Passing) (xs : List (List ℕ)) → arrays_among by (map names xs) ≡ map names (array_names by xs)
among_arrays names [] xs = refl
among_arrays names (by ∷ others) [] = refl
among_arrays names (ByValue ∷ others) (x ∷ xs) = among_arrays names others xs
among_arrays names (ByVariable ∷ others) (x ∷ xs) = among_arrays names others xs
among_arrays names (ByArray ∷ others) (x ∷ xs) = ap (λ (l : List Sense). names x ∷ l) (among_arrays names others xs)

-- ---- The whole
after_is : (all : List SysReply) (o : Option SysCall) (given : List Given) (now : Situation) → after_call (meaning.in_order all) o given now
    ≡ and_then (asking (meaning.in_order all) o now) (λ reply n. Gives (first_value (results_in reply)) (set_by reply given n))
after_is all None given now = refl
after_is all (Some call) given now = refl

module _ {c : CodeLists} {limit : ℕ} {all : List SysReply} {f : Fixed} {site : Site} {scope : Scope} (names : Named f.frames (own_number f) site scope) where
  stores_run : (ys : List (List ℕ)) (places : List Place) (rs under : List ℤ) (q to : ℕ) (now : Situation) → ArePlaces f ys (map site.names ys) places
      → length rs ≡ length places → Stand c q (stores_code site.result (map site.names ys)) to
      → Here c limit all f q (rs ++ under) now → Here c limit all f to under (set_variables (reverse places) rs now)
  stores_run [] [] [] under q to now are same stand h = subst (λ n. Here c limit all f n under now) stand h
  stores_run [] [] (r ∷ rs) under q to now are same stand h = absurd (omega (arith, same))
  stores_run [] (at ∷ places) rs under q to now are same stand h = absurd are
  stores_run (y ∷ ys) [] rs under q to now are same stand h = absurd are
  stores_run (y ∷ ys) (at ∷ places) rs under q to now are same stand h =
      let parts = last_of rs (length places) (omega (arith, same)) in
      let two = parted c q (stores_code site.result (map site.names ys)) (store_code site.result (site.names y)) to stand in
      let split : rs ++ under ≡ parts.front ++ parts.last ∷ under = ap (λ (l : List ℤ). l ++ under) parts.whole ∙ append_assoc parts.front (parts.last ∷ [])
      under in
      let later = stores_run ys places parts.front (parts.last ∷ under) q two.0 now are.1 parts.count two.1.0
      (subst (λ (l : List ℤ). Here c limit all f q l now) split h) in
      let set : set_variables (reverse (at ∷ places)) rs now ≡ stored at parts.last (set_variables (reverse places) parts.front now) =
      ap (λ (l : List Place). set_variables l rs now) (reverse-append (at ∷ []) places)
      ∙ ap (λ (l : List ℤ). set_variables (reverse places ++ at ∷ []) l now) parts.whole
      ∙ set_more (reverse places) at parts.front parts.last now (omega (arith, parts.count, length_reverse places)) in
      subst (λ (m : Situation). Here c limit all f to under m) (sym set)
      (place_stored names y (site.names y) at two.0 to parts.last under (set_variables (reverse places) parts.front now) refl are.0 two.1.1 later)

  module _ (p : Procedure) (xs : List (List ℕ)) (given : List Given) (words : List (List ℤ)) (row : IsRowGiven f site p (row_passing p) xs given words)
      (gives : Bool) (can : RowGives p gives) (rest : List ℤ) (q to : ℕ) where
    -- behind the reply
    finishes : (m : ℕ) → Stand c m (stores_code site.result (variables_among (row_passing p) (map site.names xs))) to
        → (sets : SysReply → Situation → Situation) → ((reply : SysReply) (n : Situation) → sets reply n ≡ set_array (arrays_in given) (array_in reply) n)
        → (reply : SysReply) (n : Situation) → Answered c limit all f m rest p sets reply n
        → After c limit all (λ v k. Here c limit all f to (result_on gives v rest) k) (Gives (first_value (results_in reply)) (set_by reply given n))
    finishes m stand sets are reply n answered = by_kind gives can
      where
        there : Here c limit all f m (results_in reply ++ rest) (set_array (arrays_in given) (array_in reply) n)
        there = subst (λ (k : Situation). Here c limit all f m (results_in reply ++ rest) k) (are reply n) answered.here

        stand_names : Stand c m (stores_code site.result (map site.names (variable_names (row_passing p) xs))) to
        stand_names = subst (λ (l : List Sense). Stand c m (stores_code site.result l) to) (among_variables site.names (row_passing p) xs) stand

        places : ArePlaces f (variable_names (row_passing p) xs) (map site.names (variable_names (row_passing p) xs)) (variables_in given)
        places = subst (λ (l : List Sense). ArePlaces f (variable_names (row_passing p) xs) l (variables_in given))
            (among_variables site.names (row_passing p) xs) row.places

        one_value : (rs : List ℤ) → length rs ≡ 1 → rs ≡ first_value rs ∷ []
        one_value [] same = absurd (omega (arith, same))
        one_value (r ∷ []) same = refl
        one_value (r ∷ s ∷ rs) same = absurd (omega (arith, same))

        no_places : (ys : List (List ℕ)) (ats : List Place) (k : Situation) (operands : List ℤ) → ArePlaces f ys (map site.names ys) ats → length ats ≡ 0
            → Stand c m (stores_code site.result (map site.names ys)) to → Here c limit all f m operands k
            → Here c limit all f to operands (set_variables (reverse ats) (results_in reply) k)
        no_places [] [] k operands are none stand h = subst (λ j. Here c limit all f j operands k) stand h
        no_places [] (at ∷ ats) k operands are none stand h = absurd are
        no_places (y ∷ ys) [] k operands are none stand h = absurd are
        no_places (y ∷ ys) (at ∷ ats) k operands are none stand h = absurd (omega (arith, none))

        by_kind : (b : Bool) → RowGives p b → After c limit all (λ v k. Here c limit all f to (result_on b v rest) k)
            (Gives (first_value (results_in reply)) (set_by reply given n))
        by_kind true is =
            let one : length (results_in reply) ≡ 1 = (answered.row).results ∙ is.0 in
            let none : length (variables_in given) ≡ 0 = row.variable_count_is ∙ is.1 in
            record {
              comes = no_places (variable_names (row_passing p) xs) (variables_in given) (set_array (arrays_in given) (array_in reply) n)
                  (first_value (results_in reply) ∷ rest) places none stand_names
                  (subst (λ (l : List ℤ). Here c limit all f m (l ++ rest) (set_array (arrays_in given) (array_in reply) n))
                  (one_value (results_in reply) one) there);
            }
        by_kind false is = record {
          comes = stores_run (variable_names (row_passing p) xs) (variables_in given) (results_in reply) rest m to
              (set_array (arrays_in given) (array_in reply) n) places (omega (arith, (answered.row).results, is, row.variable_count_is)) stand_names there;
        }

    by_arrays : (ys : List (List ℕ)) (arrays : List ArrayPlace) (now : Situation) → arrays_in given ≡ arrays
        → AreWhole f (call_row_of p).array ys (map site.names ys) arrays → Stand c q
        (row_call p (map site.names ys) ∷ stores_code site.result (variables_among (row_passing p) (map site.names xs))) to
        → Here c limit all f q (on_top (values_in given) rest) now → After c limit all (λ v k. Here c limit all f to (result_on gives v rest) k)
        (interface_value (meaning.in_order all) limit p given now)
    by_arrays [] [] now is whole stand h =
        let none : (call_row_of p).array ≡ 0 = row_array p (omega (arith, ap length is, row.array_count_is)) in
        let o = call_for p (values_in given) [] (limit - now.ticks) in
        let same : interface_value (meaning.in_order all) limit p given now ≡ and_then (asking (meaning.in_order all) o now)
        (λ reply n. Gives (first_value (results_in reply)) (set_by reply given n)) =
        ap (λ (es : List ArrayPlace). after_call (meaning.in_order all) (call_for p (values_in given) (array_read es now) (limit - now.ticks)) given now) is
        ∙ after_is all o given now in
        subst (λ (part : Course ℤ). After c limit all (λ v k. Here c limit all f to (result_on gives v rest) k) part) (sym same)
        (after (asking (meaning.in_order all) o now) _ (row_called p q (values_in given) rest now none (row.value_count_is ∙ row_values p) h stand.0)
        (λ reply n answered. finishes (q + 1) stand.1 (λ reply m. m) (λ reply m. ap (λ (es : List ArrayPlace). set_array es (array_in reply) m) (sym is)) reply
        n answered))
    by_arrays (y ∷ ys) (e ∷ arrays) now is whole stand h = by_sense (site.names y) refl whole.0 stand.0
      where
        by_sense : (s : Sense) → site.names y ≡ s → IsWhole f (call_row_of p).array y s e → slice_get c.instrs q ≡ Some (array_call p s)
            → After c limit all (λ v k. Here c limit all f to (result_on gives v rest) k) (interface_value (meaning.in_order all) limit p given now)
        by_sense (Array owner a bounds) sense_is it found =
            let has = names.arrays y owner a bounds sense_is in
            let place : ArrayPlace = record { activation = owner_number owner (own_number f); letters = y; bounds = bounds } in
            let o = call_for p (values_in given) (whole_array place now) (limit - now.ticks) in
            let there : arrays_in given ≡ place ∷ arrays = is ∙ ap (λ (d : ArrayPlace). d ∷ arrays) it.0 in
            let same : interface_value (meaning.in_order all) limit p given now ≡ and_then (asking (meaning.in_order all) o now)
            (λ reply n. Gives (first_value (results_in reply)) (set_by reply given n)) =
            ap (λ (es : List ArrayPlace). after_call (meaning.in_order all) (call_for p (values_in given) (array_read es now) (limit - now.ticks)) given now)
            there ∙ after_is all o given now in
            subst (λ (part : Course ℤ). After c limit all (λ v k. Here c limit all f to (result_on gives v rest) k) part) (sym same)
            (after (asking (meaning.in_order all) o now) _
            (array_called p q (values_in given) rest now h (row.value_count_is ∙ row_values p) owner has.frame has.frame_is y has.owner a bounds has.is it.1
            found)
            (λ reply n answered. finishes (q + 1) stand.1 (λ reply m. stored_elements place bounds.low (array_in reply) m)
            (λ reply m. ap (λ (es : List ArrayPlace). set_array es (array_in reply) m) (sym there)) reply n answered))
        by_sense (Constant v) sense_is it found = absurd it
        by_sense (Variable o a) sense_is it found = absurd it
        by_sense (Reference a) sense_is it found = absurd it
        by_sense (Routine k passing) sense_is it found = absurd it
        by_sense (Function g) sense_is it found = absurd it
        by_sense (Interface r) sense_is it found = absurd it
        by_sense Nothing sense_is it found = absurd it
    by_arrays [] (e ∷ arrays) now is whole stand h = absurd whole
    by_arrays (y ∷ ys) [] now is whole stand h = absurd whole

    pub row_runs : (now : Situation) → Stand c q (call_code site.result (Interface p) (map site.names xs)) to
        → Here c limit all f q (on_top (joined words) rest) now
        → After c limit all (λ v k. Here c limit all f to (result_on gives v rest) k) (interface_value (meaning.in_order all) limit p given now)
    row_runs now stand h =
        by_arrays (array_names (row_passing p) xs) (arrays_in given) now refl
        (subst (λ (l : List Sense). AreWhole f (call_row_of p).array (array_names (row_passing p) xs) l (arrays_in given))
        (among_arrays site.names (row_passing p) xs) row.wholes)
        (subst (λ (l : List Sense). Stand c q (row_call p l ∷ stores_code site.result (variables_among (row_passing p) (map site.names xs))) to)
        (among_arrays site.names (row_passing p) xs) stand)
        (subst (λ (l : List ℤ). Here c limit all f q (on_top l rest) now) row.values h)
