use Rattle.std.proofs.Common.{◌≡◌, ◌∙◌, ap, take, rules, tests}
use Rattle.std.specs.List.{prefix_len}
use Rattle.std.proofs.lemmas.Iterator.{YieldsList-from_slice}
use Rattle.std.proofs.lemmas.Iterator.Consumers.{count_from_yields_List}
use Rattle.std.proofs.lemmas.Iterator.Search.{YieldsList-from_take_while}
use Rattle.std.proofs.lemmas.List.Folds.{length-prefix_len}
use Rattle.solo_base.specs.Ident.{is_letter_or_digit}
use Rattle.pascal_read.proofs.Fronts.{list_all-take_while}
use Rattle.pascal_read.proofs.scan_name.front_letters.Goals as goal
use Rattle.pascal_read.proofs.scan_name.front_letters.Goals.{After-count-count}

count_is : (c : After-count-count) → c.count-count.result ≡ prefix_len is_letter_or_digit c.args.bytes.now
count_is c =
    count_from_yields_List c.take_while.result _ c.count-count.ensures.ran
    (YieldsList-from_take_while _ is_letter_or_digit (YieldsList-from_slice c.args.bytes.now cc) c.take_while.ensures.closure c.take_while.ensures.done (λ x b q k. search (rules, tests)))
    ∙ length-prefix_len is_letter_or_digit c.args.bytes.now

pub returns-clause-front : goal.returns-clause-front
returns-clause-front c = ap (λ n. take n c.args.bytes.now) (count_is c)

pub returns-clause-letters : goal.returns-clause-letters
returns-clause-letters c = rw (count_is c) (list_all-take_while is_letter_or_digit c.args.bytes.now)
