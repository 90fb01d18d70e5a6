use Rattle.std.proofs.Common.{◌≡◌, ◌+◌, drop, take, arith, rules, ◌∙◌, ap}
use Rattle.std.proofs.lemmas.List.{take-take, take_all, drop-drop, length-drop}
use Rattle.page_codec.proofs.judge.bad_body.Goals as goal

pub returns : goal.returns
returns c =
    let bytes = c.args.bytes.now in
    let whole : take 506 (drop 6 bytes) ≡ drop 6 bytes = take_all 506 (drop 6 bytes) (omega (arith, length-drop 6 bytes)) in
    let front : c.split_at.result.0.now ≡ take c.args.length (drop 6 bytes) = c.split_at.ensures.front ∙ take-take c.args.length 506 (drop 6 bytes) c.requires in
    let back : c.split_at.result.1.now ≡ drop (6 + c.args.length) bytes = c.split_at.ensures.back ∙ ap (λ l. drop c.args.length l) whole ∙ drop-drop c.args.length 6 bytes in
    rw (← front, ← back, ← c.bad_item.ensures) (search rules)
