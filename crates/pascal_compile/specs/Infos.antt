-- What code says of routines, before heights are known.
use Rattle.std.specs.Prelude.{List, map}
use Rattle.stack_code.specs.declared.instr.RoutineInfo.{RoutineInfo}

abbrev pub without_height : RoutineInfo → RoutineInfo
without_height i = record i { height = 0 }

abbrev pub without_heights : List RoutineInfo → List RoutineInfo
without_heights infos = map without_height infos
