use Rattle.page_codec.proofs.Cutting.{packing_goes_on, pages_are_a_stream}
use Rattle.page_codec.proofs.Taking.{the_next_is_taken, all_is_given}
use Rattle.page_codec.proofs.stream.streams_read_back.Goals as goal

pub returns : goal.returns
returns c = record { packing = packing_goes_on; stream = pages_are_a_stream; next = the_next_is_taken; all = all_is_given }
