use Rattle.std.proofs.Common.{◌≡◌, ◌++◌, map, drop}
use Rattle.pascal_compile.specs.Seen.{seen_draft}
use Rattle.pascal_compile.proofs.drafts.instrs_of.Given as goal

abbrev pub invariant-loop-draft : goal.invariant-loop-draft
invariant-loop-draft l = l.instrs.items ++ map seen_draft (drop l.draft-index l.drafts) ≡ map seen_draft l.drafts
