use Rattle.std.proofs.Common.{true, ap, ◌∙◌}
use Rattle.page_codec.specs.Form.{page_of}
use Rattle.solo_procs.proofs.InputSteps.{file-closed}
use Rattle.solo_procs.proofs.input_proc.InputProc.close_file.Goals as goal

pub returns : goal.returns
returns c =
    file-closed c.args.self.now.place c.args.self.now.packer c.replace-packer.new.dest c.args.self.now.sound c.finish.result
    (c.finish.ensures.page ∙ ap (λ hand. page_of hand.place true hand.content) c.replace-packer.ensures.value)
