use Rattle.std.proofs.Common.{◌+◌, ◌∙◌, drop, map, sym, subst, arith}
use Rattle.std.proofs.Math.ListN.{drop_of_length-le}
use Rattle.pascal_compile.specs.Holds.{NamesLaidOut}
use Rattle.pascal_compile.proofs.Turns.{next_item}
use Rattle.pascal_compile.proofs.Frames.{no_names, name_then}
use Rattle.pascal_compile.proofs.declarations.declare_more_names.Goals as goal

pub loop-name-preserved : goal.loop-name-preserved
loop-name-preserved c =
    let xs = c.args.names.now in
    let i = c.loop-name.name-index in
    let x = c.loop-name-item.result in
    let a = c.loop-name.frame in
    let b = c.lay_out.new.self in
    let h = c.args.held in
    record {
      left = λ after later.
          c.loop-name.invariant.left after
          (subst (λ ys. NamesLaidOut h a after (map (λ m. (m.1).letters) ys)) (sym (next_item xs i x c.loop-name-item.is c.loop-name-test.true))
          (name_then h a b after (x.1).letters (map (λ m. (m.1).letters) (drop (i + 1) xs)) c.in_ok-lay_out.ensures.names c.in_ok-lay_out.ensures.words
          c.in_ok-lay_out.ensures.owner later));
      owner = c.in_ok-lay_out.ensures.owner ∙ c.loop-name.invariant.owner;
    }

pub returns-clause-names : goal.returns-clause-names
returns-clause-names c =
    let xs = c.args.names.now in
    c.loop-name.invariant.left c.loop-name.frame
    (subst (λ ys. NamesLaidOut c.args.held c.loop-name.frame c.loop-name.frame (map (λ m. (m.1).letters) ys))
    (sym (drop_of_length-le xs (omega arith))) (no_names c.args.held c.loop-name.frame))
