-- The item that fills a block.
use Rattle.std.proofs.Common.{◌≡◌, ℕ, ◌+◌, ◌-◌, arith, ◌<◌, ◌≤◌, false, nat_lt, if◌then◌else◌, Result, Ok, Err, List, [], ◌∷◌, ◌++◌, length, take, set, sym, ap, ◌∙◌, append_assoc, rules}
use Rattle.std.specs.Prelude.{OnOk}
use Rattle.std.proofs.lemmas.List.{take_more_set, length-set, length-take-le}
use Rattle.std.proofs.Math.Seq.{take-length}
use Rattle.pipeline.specs.Blocks.{blocks_behind}

fills : {T : Type 0} (n filled : ℕ) (items : List T) (x : T) → length items ≡ n → filled < n → n - 1 ≤ filled → set items filled x ≡ take filled items ++ x ∷ []
fills n filled items x long below high =
    let whole = take-length (set items filled x) in let same = length-set items filled x in
    let count : filled + 1 ≡ length (set items filled x) = omega arith in
    sym whole ∙ ap (λ k. take k (set items filled x)) (sym count) ∙ take_more_set items filled x (omega arith)

not_below : (a b : ℕ) → b ≤ a → nat_lt a b ≡ false
not_below a b high = search rules

pub given : {T E : Type 0} (n filled : ℕ) (filler x : T) (items : List T) (outs new : List (List T)) (result : Result (Unit {0}) E) → length items ≡ n → filled < n → n - 1 ≤ filled
    → OnOk result (new ≡ outs ++ set items filled x ∷ [])
    → OnOk result ((later : List T) → outs ++ blocks_behind n filler (take filled items) (x ∷ later) ≡ new ++ blocks_behind n filler [] later)
given n filled filler x items outs new (Err refused) long below high is = tt
given n filled filler x items outs new (Ok done) long below high is = λ later. (
    let part = take filled items in let rest = blocks_behind n filler [] later in
    let full : nat_lt (length part) (n - 1) ≡ false = ap (λ k. nat_lt k (n - 1)) (length-take-le filled items (omega arith)) ∙ not_below filled (n - 1) high in
    ap (λ b. outs ++ (if b then blocks_behind n filler (part ++ x ∷ []) later else (part ++ x ∷ []) ∷ rest)) full
    ∙ ap (λ l. outs ++ l ∷ rest) (sym (fills n filled items x long below high)) ∙ sym (append_assoc outs (set items filled x ∷ []) rest) ∙ ap (λ o. o ++ rest) (sym is))
