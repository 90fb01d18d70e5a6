-- The calls of each device in memory, and what it was made with.
use Rattle.std.specs.Prelude.{ℕ}
use Rattle.solo_devices.specs.FailingCalls.{Calls}
use Rattle.solo_devices.specs.declared.mem_area.MemArea.{MemArea}
use Rattle.solo_devices.specs.declared.mem_sink.MemSink.{MemSink}
use Rattle.solo_devices.specs.declared.mem_source.MemSource.{MemSource}

-- an area counts its reads and its writes apart
abbrev pub reads : MemArea → Calls
reads area = area.reads

abbrev pub writes : MemArea → Calls
writes area = area.writes

abbrev pub takes : MemSource → Calls
takes source = source.takes

abbrev pub gives : MemSink → Calls
gives sink = sink.gives

-- how many bytes a source gives at most in a call
abbrev pub piece_length : MemSource → ℕ
piece_length source = source.source.piece
