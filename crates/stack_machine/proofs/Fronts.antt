-- Fronts and tops of lists of words.
use Rattle.std.proofs.Common.{◌≡◌, ℕ, ◌+◌, ◌-◌, ◌<◌, ◌≤◌, List, ◌++◌, length, get_or, take, drop, set, ℤ, pos, sym, ◌∙◌, ap, arith}
use Rattle.std.specs.Prelude.{reverse, replicate}
use Rattle.std.specs.Int.{w16}
use Rattle.std.specs.Prelude.{FitsSigned}
use Rattle.std.proofs.Math.Seq.{take-set-lt}
use Rattle.std.proofs.lemmas.Int.{to_z-of_z}
use Rattle.std.proofs.lemmas.List.{ext_get_or, get_or-reverse, get_or-take, get_or-drop, length-take, length-drop, length-reverse, length-append, length-replicate, length-set, drop-take}
use mir.Val.{to_z, of_z}
use Rattle.stack_machine.specs.Store.{Bounded}

abbrev bounded : List ℤ → ℕ → Bounded
bounded words room = record { words = words; room = room }

-- a write to a word of the front
pub set_front : (words : List ℤ) (now : Bounded) (len place : ℕ) (word : ℤ) → bounded (take len words) (length words) ≡ now → place < length now.words → FitsSigned w16 word
    → bounded (take len (set words place (to_z w16 (of_z w16 word)))) (length (set words place (to_z w16 (of_z w16 word)))) ≡ record now { words = set now.words place word }
set_front words now len place word view below fits =
    let inside : place < len = omega (arith, ap (λ (b : Bounded). length b.words) view, length-take len words) in
    ap (λ z. bounded (take len (set words place z)) (length (set words place z))) (to_z-of_z w16 word fits)
    ∙ ap (λ (l : List ℤ). bounded l (length (set words place word))) (take-set-lt len words place word inside)
    ∙ ap (bounded (set (take len words) place word)) (length-set words place word)
    ∙ ap (λ (b : Bounded). record b { words = set b.words place word }) view

-- the top of a stack that is kept with its lowest word first
pub drop_reverse : (words : List ℤ) (height count : ℕ) → height ≤ length words → count ≤ height → reverse (take (height - count) words) ≡ drop count (reverse (take height words))
drop_reverse words height count room few =
    let short = length-take (height - count) words in
    let long = length-take height words in
    let lengths : length (reverse (take (height - count) words)) ≡ length (drop count (reverse (take height words))) =
    omega (arith, length-reverse (take (height - count) words), length-drop count (reverse (take height words)), length-reverse (take height words), short, long) in
    ext_get_or (pos 0) (reverse (take (height - count) words)) (drop count (reverse (take height words))) lengths
    (λ i below.
    let inside : i < length (take (height - count) words) = omega (arith, length-reverse (take (height - count) words)) in
    let further : count + i < length (take height words) = omega (arith, short, long) in
    let left = get_or-reverse (take (height - count) words) i (pos 0) inside in
    let right = get_or-drop count (reverse (take height words)) i (pos 0) ∙ get_or-reverse (take height words) (count + i) (pos 0) further in
    let place : length (take (height - count) words) - 1 - i ≡ length (take height words) - 1 - (count + i) = omega (arith, short, long) in
    let first = get_or-take (height - count) words (length (take (height - count) words) - 1 - i) (pos 0) (omega (arith, short)) in
    let second = get_or-take height words (length (take height words) - 1 - (count + i)) (pos 0) (omega (arith, long)) in
    left ∙ first ∙ ap (λ p. get_or words p (pos 0)) place ∙ sym (right ∙ second))

take_reverse : (xs : List ℤ) (count : ℕ) → count ≤ length xs → reverse (take count (reverse xs)) ≡ drop (length xs - count) xs
take_reverse xs count few =
    let part = length-take count (reverse xs) in
    let whole = length-reverse xs in
    ext_get_or (pos 0) (reverse (take count (reverse xs))) (drop (length xs - count) xs)
    (omega (arith, length-reverse (take count (reverse xs)), part, whole, length-drop (length xs - count) xs))
    (λ i below.
    let inside : i < length (take count (reverse xs)) = omega (arith, length-reverse (take count (reverse xs))) in
    let p = length (take count (reverse xs)) - 1 - i in
    let there : p < length xs = omega (arith, part, whole) in
    let left = get_or-reverse (take count (reverse xs)) i (pos 0) inside ∙ get_or-take count (reverse xs) p (pos 0) (omega (arith, part, whole)) ∙ get_or-reverse xs p (pos 0) there in
    let place : length xs - 1 - p ≡ length xs - count + i = omega (arith, part, whole) in
    left ∙ ap (λ q. get_or xs q (pos 0)) place ∙ sym (get_or-drop (length xs - count) xs i (pos 0)))

pub top_reverse : (words : List ℤ) (height count : ℕ) → height ≤ length words → count ≤ height → take (height - (height - count)) (drop (height - count) words) ≡ reverse (take count (reverse (take height words)))
top_reverse words height count room few =
    let long = length-take height words in
    let back : height - (height - count) ≡ count = omega arith in
    let split : height ≡ (height - count) + count = omega arith in
    let cut : drop (height - count) (take height words) ≡ take count (drop (height - count) words) = ap (λ h. drop (height - count) (take h words)) split ∙ drop-take (height - count) count words in
    let same : length (take height words) - count ≡ height - count = omega (arith, long) in
    ap (λ n. take n (drop (height - count) words)) back ∙ sym cut ∙ sym (take_reverse (take height words) count (omega (arith, long)) ∙ ap (λ n. drop n (take height words)) same)

-- the same, for what the stack is seen as
pub drop_front : (words : List ℤ) (now : Bounded) (height count : ℕ) → height ≤ length words → bounded (reverse (take height words)) (length words) ≡ now → count ≤ length now.words
    → bounded (reverse (take (height - count) words)) (length words) ≡ record now { words = drop count now.words }
drop_front words now height count room view few =
    let inside : count ≤ height = omega (arith, few, ap (λ (b : Bounded). length b.words) view, length-reverse (take height words), length-take height words) in
    ap (λ (l : List ℤ). bounded l (length words)) (drop_reverse words height count room inside)
    ∙ ap (λ (b : Bounded). record b { words = drop count b.words }) view

pub top_front : (words kept : List ℤ) (now : Bounded) (height count : ℕ) → height ≤ length words → bounded (reverse (take height words)) (length words) ≡ now → kept ≡ words → count ≤ length now.words
    → take (height - (height - count)) (drop (height - count) kept) ≡ reverse (take count now.words)
top_front words kept now height count room view same few =
    let inside : count ≤ height = omega (arith, few, ap (λ (b : Bounded). length b.words) view, length-reverse (take height words), length-take height words) in
    ap (λ l. take (height - (height - count)) (drop (height - count) l)) same ∙ top_reverse words height count room inside ∙ ap (λ (b : Bounded). reverse (take count b.words)) view

-- a frame that was written word by word
pub begun : (words arguments : List ℤ) (most len place : ℕ) → length words ≡ most → len ≤ most → len ≤ place → length arguments ≤ len
    → ((k : ℕ) → k < place → get_or words k (pos 0) ≡ get_or (arguments ++ replicate (len - length arguments) (pos 0)) k (pos 0))
    → bounded (take len words) (length words) ≡ bounded (arguments ++ replicate (len - length arguments) (pos 0)) most
begun words arguments most len place whole room all few same =
    let want = arguments ++ replicate (len - length arguments) (pos 0) in
    let long : length want ≡ len = omega (arith, length-append arguments (replicate (len - length arguments) (pos 0)), length-replicate (len - length arguments) (pos 0)) in
    ap (bounded (take len words)) whole ∙ ap (λ (l : List ℤ). bounded l most)
    (ext_get_or (pos 0) (take len words) want (omega (arith, length-take len words, long, whole))
    (λ k below.
    let inside : k < len = omega (arith, below, length-take len words) in
    get_or-take len words k (pos 0) inside ∙ same k (omega (arith, inside, all))))
