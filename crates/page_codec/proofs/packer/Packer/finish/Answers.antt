use Rattle.std.proofs.Common.{rules}
use Rattle.page_codec.proofs.Cutting.{packed_stream}
use Rattle.page_codec.proofs.packer.Packer.finish.Goals as goal

pub returns-clause-stream : goal.returns-clause-stream
returns-clause-stream c = λ items pages packed. packed_stream _ items pages _ packed (search rules)
