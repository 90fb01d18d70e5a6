use Rattle.std.proofs.Common.{◌≡◌, None}
use Rattle.page_codec.specs.Packing.{PageInHand}
use Rattle.batch_job.specs.JobStream.{Stream, Pushing, stream_of, lines_made, turns_left}
use Rattle.batch_job.proofs.job_stream.push_made.Given as goal

abbrev pub invariant-pushing : goal.invariant-pushing
invariant-pushing l =
    ((first : Stream) (hand : PageInHand) → Pushing first hand (stream_of l.initial.ahead) l.initial.packer
    → Pushing first hand (stream_of l.ahead) l.packer)
    × (turns_left (stream_of l.ahead) ≡ turns_left (stream_of l.initial.ahead))
    × ((stream_of l.ahead).wanted ≡ (stream_of l.initial.ahead).wanted)
    × (l.due ≡ None)

abbrev pub decreases-pushing : goal.decreases-pushing
decreases-pushing l = lines_made (stream_of l.ahead)
