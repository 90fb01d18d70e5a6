-- How arguments are passed is told by headings alone.
use Rattle.std.proofs.Common.{◌≡◌, ℕ, ◌+◌, List, [], ◌∷◌, ◌++◌, map, Option, Some, None, refl, sym, ap, ap₂, ◌∙◌, append_assoc, subst, arith}
use Rattle.std.proofs.Common.{length, drop}
use Rattle.std.specs.Global.{Vec}
use Rattle.std.proofs.lemmas.List.{map-append, length-map, drop-map}
use Rattle.pascal_tree.specs.declared.declaration.Routine as routine_type
use Rattle.pascal_tree.specs.SeenProgram.{seen_routine}
use Rattle.pascal_compile.specs.declared.senses.Passing as passing_type
use Rattle.pascal_compile.specs.Seen.{seen_passing}
use Rattle.pascal_compile.proofs.Turns.{at_one_place, as_long}
use Rattle.pascal_tree.specs.Word.{NameAt}
use Rattle.pascal_tree.specs.Program.{ParameterGroup, Parameters, Routine, procedure, function}
use Rattle.pascal_mean.specs.Means.{Scalar, Signature}
use Rattle.pascal_mean.specs.Means as meant
use Rattle.pascal_mean.specs.Predeclared.{Item}
use Rattle.pascal_mean.specs.Scope.{scalar_named, scope_of}
use Rattle.pascal_mean.specs.Calls.{Passing, passing_of, passing_named}
use Rattle.pascal_mean.specs.Declarations.{name_list, parameter_of, group_parameters, declared_parameters, parameters_after, parameter_list, signature_of, heading_item}
use Rattle.pascal_code.specs.Frames.{Frame}
use Rattle.pascal_code.specs.Senses as to_code
use Rattle.pascal_compile.specs.declared.frame.Frame as frame_type
use Rattle.pascal_compile.specs.Holds.{HoldsFrame, HeadingsHeld, with_items}
use Rattle.pascal_compile.specs.Passings.{var_passing, groups_passing, parameters_passing, heading_passing, ArePassed}
use Rattle.pascal_compile.proofs.Frames.{Named, item_held}

group_passes : (v : Option ℕ) (t : Scalar) (xs : List (List ℕ)) → map passing_of (map (parameter_of v t) xs) ≡ map (λ x. var_passing v) xs
group_passes v t [] = refl
group_passes v t (x ∷ more) = ap₂ (λ (p : Passing) (ps : List Passing). p ∷ ps) (one v) (group_passes v t more)
  where
    one : (w : Option ℕ) → passing_of (parameter_of w t x) ≡ var_passing w
    one None = refl
    one (Some line) = refl

groups_pass : (own known : List Item) (gs : List (ℕ × ParameterGroup)) → map passing_of (parameters_after own known gs) ≡ groups_passing gs
groups_pass own known [] = refl
groups_pass own known (g ∷ more) =
    let these = group_parameters (scope_of own known) g.1 in
    map-append passing_of these (parameters_after (declared_parameters these own) known more)
    ∙ ap₂ (λ (ps qs : List Passing). ps ++ qs)
    (group_passes (g.1).var (scalar_named (scope_of own known ((g.1).kind).letters)) (name_list (g.1).names))
    (groups_pass (declared_parameters these own) known more)

list_passes : (known : List Item) (ps : Option Parameters) → map passing_of (parameter_list known ps) ≡ parameters_passing ps
list_passes known None = refl
list_passes known (Some p) = groups_pass [] known ((p.opening, p.first) ∷ p.rest)

pub heading_passes : (k : ℕ) (known : List Item) (r : Routine) → passing_named (meant.Routine k (signature_of known r)) ≡ heading_passing r
heading_passes k known (procedure line x p semicolon b end) = list_passes known p
heading_passes k known (function line x p colon t semicolon b end) = list_passes known p

pub heading_held : (a b : frame_type.Frame) (k : ℕ) (r : Routine) (passing : List Passing) → passing ≡ heading_passing r → (letters : List ℕ)
    → (f : Frame) → letters ≡ (heading_item k f.items r).letters → Named a b letters (to_code.Routine k passing) → b.words ≡ a.words
    → HoldsFrame a f → HoldsFrame b (with_items f (heading_item k f.items r ∷ f.items))
heading_held a b k r passing is letters f same named words before fits =
    let i = heading_item k f.items r in
    item_held a b f i (to_code.Routine k passing) (rw (sym same) named)
    (λ h. omega (arith, words, h.words, fits))
    (λ h. ap (λ ps. to_code.Routine k ps) (is ∙ sym (heading_passes k f.items r)))
    before fits

-- a group of names that are passed alike
pub group_added : (old pushed new : List Passing) (p : Passing) (first : NameAt) (rest : List (ℕ × NameAt)) (v : Option ℕ) → pushed ≡ old ++ p ∷ []
    → p ≡ var_passing v → new ≡ pushed ++ map (λ n. p) rest → new ≡ old ++ map (λ x. var_passing v) (first.letters ∷ map (λ m. (m.1).letters) rest)
group_added old pushed new p first rest v one is all =
    all ∙ ap (λ ps. ps ++ map (λ n. p) rest) one ∙ append_assoc old (p ∷ []) (map (λ n. p) rest)
    ∙ ap₂ (λ (q : Passing) (qs : List Passing). old ++ q ∷ qs) is (alike rest)
  where
    alike : (names : List (ℕ × NameAt)) → map (λ n. p) names ≡ map (λ x. var_passing v) (map (λ m. (m.1).letters) names)
    alike [] = refl
    alike (n ∷ more) = ap₂ (λ (q : Passing) (qs : List Passing). q ∷ qs) is (alike more)

-- ---- All headings

pub no_heading : (a : frame_type.Frame) (k : ℕ) → HeadingsHeld a a k []
no_heading a k f before = before

pub heading_then : (a b c : frame_type.Frame) (k next : ℕ) (r : Routine) (more : List Routine) → next ≡ k + 1
    → ((f : Frame) → HoldsFrame a f → HoldsFrame b (with_items f (heading_item k f.items r ∷ f.items)))
    → HeadingsHeld b c next more → HeadingsHeld a c k (r ∷ more)
heading_then a b c k next r more is one later f before =
    subst (λ n. HeadingsHeld b c n more) is later (with_items f (heading_item k f.items r ∷ f.items)) (one f before)

pub as_many : (lists : List (Vec passing_type.Passing)) (rs : List routine_type.Routine) → ArePassed lists (map seen_routine rs) → length lists ≡ length rs
as_many lists rs are = as_long (λ v. map seen_passing v.items) heading_passing lists (map seen_routine rs) are ∙ length-map rs seen_routine

-- a routine's list
pub passed_at : (lists : List (Vec passing_type.Passing)) (rs : List routine_type.Routine) (k : ℕ) (v : Vec passing_type.Passing) (r : routine_type.Routine)
    {vs : List (Vec passing_type.Passing)} {ss : List routine_type.Routine} → ArePassed lists (map seen_routine rs)
    → drop k lists ≡ v ∷ vs → drop k rs ≡ r ∷ ss → map seen_passing v.items ≡ heading_passing (seen_routine r)
passed_at lists rs k v r {vs} {ss} are one two =
    at_one_place (λ w. map seen_passing w.items) heading_passing lists (map seen_routine rs) k v (seen_routine r) vs (map seen_routine ss) are one
    (drop-map seen_routine k rs ∙ ap (map seen_routine) two)
