use Rattle.std.proofs.Common.{◌+◌, ◌∙◌}
use Rattle.std.proofs.lemmas.List.{length-set}
use Rattle.stack_machine.specs.State.{words_of}
use Rattle.stack_machine.specs.Shown.{shown}
use Rattle.stack_machine.proofs.Parts.{read_word, copied, whole_part}
use Rattle.stack_machine.proofs.state.Store.name_at.Goals as goal

pub loop-k-preserved : goal.loop-k-preserved
loop-k-preserved c = record {
  long = length-set c.loop-k.name c.loop-k.k _ ∙ c.loop-k.invariant.long;
  same =
      copied c.loop-k.name (words_of c.args.program (shown c.args.self.now)) c.args.start c.loop-k.k 12 _ c.loop-k.invariant.long c.loop-k-test.true c.loop-k.invariant.same
      (read_word (words_of c.args.program (shown c.args.self.now)) (c.args.start + c.loop-k.k) c.word.result c.unwrap_or.result c.word.ensures c.unwrap_or.ensures (record { sfits = c.unwrap_or.type_inv }));
}

pub returns : goal.returns
returns c = whole_part c.loop-k.name (words_of c.args.program (shown c.args.self.now)) c.args.start c.loop-k.k 12 c.loop-k.invariant.long c.loop-k-test.false c.requires.inside c.loop-k.invariant.same
