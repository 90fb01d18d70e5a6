use Rattle.std.proofs.Common.{map, subst}
use Rattle.std.specs.Prelude.{OnOk}
use Rattle.std.proofs.lemmas.Result.{on_ok_weaker}
use Rattle.pascal_compile.specs.Holds.{NamesLaidOut}
use Rattle.pascal_compile.proofs.Frames.{name_then}
use Rattle.pascal_compile.proofs.declarations.declare_names.Goals as goal

pub returns-clause-names : goal.returns-clause-names
returns-clause-names c =
    let n = c.args.names.now in
    on_ok_weaker c.declare_more_names.result
    (λ later. name_then c.args.held c.args.frame.now c.lay_out.new.self c.declare_more_names.new.frame (n.first).letters
    (map (λ m. (m.1).letters) (n.rest).items) c.in_ok-lay_out.ensures.names c.in_ok-lay_out.ensures.words c.in_ok-lay_out.ensures.owner later)
    (subst (λ xs. OnOk c.declare_more_names.result (NamesLaidOut c.args.held c.lay_out.new.self c.declare_more_names.new.frame (map (λ m. (m.1).letters) xs)))
    c.deref.ensures.value c.declare_more_names.ensures.names)
