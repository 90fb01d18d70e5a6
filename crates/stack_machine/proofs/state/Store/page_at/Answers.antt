use Rattle.std.proofs.Common.{◌+◌, ◌∙◌, sym}
use Rattle.std.proofs.lemmas.List.{length-set}
use Rattle.stack_machine.specs.State.{words_of}
use Rattle.stack_machine.specs.Shown.{shown}
use Rattle.stack_machine.proofs.Parts.{read_word}
use Rattle.stack_machine.proofs.Pages.{not_bytes, byte_copied, whole_page}
use Rattle.stack_machine.proofs.state.Store.page_at.Goals as goal

pub loop-k-preserved : goal.loop-k-preserved
loop-k-preserved c =
    let read = read_word (words_of c.args.program (shown c.args.self.now)) (c.args.start + c.loop-k.k) c.word.result c.unwrap_or-word.result c.word.ensures c.unwrap_or-word.ensures (record { sfits = c.unwrap_or-word.type_inv }) in
    let more = byte_copied c.loop-k.bytes (words_of c.args.program (shown c.args.self.now)) c.args.start c.loop-k.k 512 _ c.in-Some.byte c.loop-k.invariant.long c.loop-k-test.true read (sym c.byte_of.ensures ∙ c.in-Some.is) c.loop-k.invariant.are c.loop-k.invariant.same in
    record { long = length-set c.loop-k.bytes c.loop-k.k c.in-Some.byte ∙ c.loop-k.invariant.long; are = more.0; same = more.1 }

pub returns-in_default-clause-other : goal.returns-in_default-clause-other
returns-in_default-clause-other c =
    let read = read_word (words_of c.args.program (shown c.args.self.now)) (c.args.start + c.loop-k.k) c.word.result c.unwrap_or-word.result c.word.ensures c.unwrap_or-word.ensures (record { sfits = c.unwrap_or-word.type_inv }) in
    not_bytes (words_of c.args.program (shown c.args.self.now)) c.args.start 512 c.loop-k.k _ c.loop-k-test.true c.requires.inside read (sym c.byte_of.ensures ∙ c.in_default.is)

pub returns-clause-bytes : goal.returns-clause-bytes
returns-clause-bytes c = whole_page c.loop-k.bytes (words_of c.args.program (shown c.args.self.now)) c.args.start c.loop-k.k 512 c.loop-k.invariant.long c.loop-k-test.false c.requires.inside c.loop-k.invariant.are c.loop-k.invariant.same
