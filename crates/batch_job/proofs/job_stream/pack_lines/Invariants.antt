use Rattle.std.proofs.Common.{◌≡◌, [], None}
use Rattle.batch_job.specs.JobStream.{Pushing, stream_of, turns_left}
use Rattle.batch_job.proofs.job_stream.pack_lines.Given as goal

abbrev pub invariant-packing : goal.invariant-packing
invariant-packing l =
    Pushing (stream_of l.initial.ahead) l.initial.packer (stream_of l.ahead) l.packer × ((stream_of l.ahead).wanted ≡ [])
    × (l.due ≡ None)

abbrev pub decreases-packing : goal.decreases-packing
decreases-packing l = turns_left (stream_of l.ahead)
