use Rattle.std.proofs.Common.{◌≡◌, ◌++◌, drop, map}
use Rattle.pascal_compile.specs.Seen.{seen_passing}
use Rattle.pascal_compile.proofs.routines.add_each.Given as goal

abbrev pub invariant-loop : goal.invariant-loop
invariant-loop l =
    map seen_passing l.list.items ++ map (λ name. seen_passing l.passing) (drop l.index l.names)
    ≡ map seen_passing l.fn.list.items ++ map (λ name. seen_passing l.passing) l.names
