use Rattle.std.proofs.Common.{ℕ, ◌+◌, ◌*◌}
use Rattle.stack_code.specs.declared.instr.Instr.{Instr}
use Rattle.stack_code.specs.CodeLists.{no_instr}
use Rattle.stack_code.specs.CodeFile.{IsInstrAt}
use Rattle.stack_code.proofs.Pushed.{pushed}
use Rattle.stack_code.proofs.decoding.instrs_of.Goals as goal

pub loop-i-preserved : goal.loop-i-preserved
loop-i-preserved c =
    pushed (λ (q : ℕ) (i : Instr). IsInstrAt c.args.bytes.now (c.routines_end-start.result + 5 * q) i) c.loop-i.instrs.items c.push.new.self.items c.instr_at.result no_instr c.loop-i.i
    c.in_ok-push.ensures.items c.loop-i.invariant c.instr_at.ensures
