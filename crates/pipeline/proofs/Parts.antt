-- First parts of what goes through the buffers.
use Rattle.std.proofs.Common.{◌≡◌, List, [], ◌∷◌, ◌++◌, refl, ap, ◌∙◌, append_assoc}
use Rattle.pipeline.specs.declared.parcel.Parcel.TheVariants.{Item, End}
use Rattle.pipeline.specs.First.{IsFirst}
use Rattle.pipeline.specs.Rows.{items, whole}

pub first_of_first : {T : Type 0} (a b c : List T) → IsFirst a b → IsFirst b c → IsFirst a c
first_of_first a b c ab bc = record {
  later = ab.later ++ bc.later;
  all_are = bc.all_are ∙ ap (λ xs. xs ++ bc.later) ab.all_are ∙ append_assoc a ab.later bc.later;
}

pub whole-append : {T : Type 0} (xs ys : List T) → whole (xs ++ ys) ≡ items xs ++ whole ys
whole-append [] ys = refl
whole-append (x ∷ xs) ys = ap (λ more. Item x ∷ more) (whole-append xs ys)

pub items-append : {T : Type 0} (xs ys : List T) → items (xs ++ ys) ≡ items xs ++ items ys
items-append [] ys = refl
items-append (x ∷ xs) ys = ap (λ more. Item x ∷ more) (items-append xs ys)

pub end_behind : {T : Type 0} (xs : List T) → items xs ++ End ∷ [] ≡ whole xs
end_behind [] = refl
end_behind (x ∷ xs) = ap (λ more. Item x ∷ more) (end_behind xs)

-- who took these items took the first of all of them
pub items_first : {T : Type 0} (took all : List T) → IsFirst (items took) (whole all) → IsFirst took all
items_first [] all f = record { later = all; all_are = refl }
items_first (x ∷ took) [] f = let e = f.all_are in absurd cc
items_first (x ∷ took) (y ∷ all) f =
    let e = f.all_are in let same : y ≡ x = cc in let rest : whole all ≡ items took ++ f.later = cc in
    let more = items_first took all (record { later = f.later; all_are = rest }) in
    record { later = more.later; all_are = rw same (ap (λ xs. x ∷ xs) more.all_are) }

-- who took these items and the end took all of them
pub whole_first : {T : Type 0} (took all : List T) → IsFirst (whole took) (whole all) → all ≡ took
whole_first [] [] f = refl
whole_first [] (y ∷ all) f = let e = f.all_are in absurd cc
whole_first (x ∷ took) [] f = let e = f.all_are in absurd cc
whole_first (x ∷ took) (y ∷ all) f =
    let e = f.all_are in let same : y ≡ x = cc in let rest : whole all ≡ whole took ++ f.later = cc in
    rw same (ap (λ xs. x ∷ xs) (whole_first took all (record { later = f.later; all_are = rest })))

pub same_first : {T : Type 0} (part all same : List T) → same ≡ all → IsFirst part all → IsFirst part same
same_first part all same is f = record { later = f.later; all_are = is ∙ f.all_are }

pub none_first : {T : Type 0} (all : List T) → IsFirst [] all
none_first all = record { later = all; all_are = refl }

-- the first of some items are the first of all of them, and then the end
pub first_whole : {T : Type 0} (part all : List T) → IsFirst part all → IsFirst (items part) (whole all)
first_whole part all f = record { later = whole f.later; all_are = ap whole f.all_are ∙ whole-append part f.later }
