use Rattle.std.proofs.Common.{Some, cond, ap, ◌∙◌}
use Rattle.std.specs.Prelude.{option_map}
use Rattle.std.specs.Str.{bytes_eq}
use Rattle.pascal_check.specs.Listed.{looked_up}
use Rattle.pascal_check.proofs.Named.{through}
use Rattle.pascal_compile.specs.Seen.{seen_sense, seen_names}
use Rattle.pascal_compile.proofs.DeclaredNames.{declared}
use Rattle.pascal_compile.proofs.names.Names.declare.Goals as goal

pub returns : goal.returns
returns c = λ x.
    let key = c.in_ok-letters.letters in
    let es = c.args.self.now.entries.entries in
    ap (λ a. option_map seen_sense (looked_up a x)) c.in_ok-insert.ensures.entries
    ∙ ap (option_map seen_sense) (declared es key c.args.sense x)
    ∙ through seen_sense (bytes_eq key.items x) c.args.sense (looked_up es x)
    ∙ ap (λ l. cond (bytes_eq l x) (Some (seen_sense c.args.sense)) (seen_names c.args.self.now x)) c.in_ok-letters.ensures.items
