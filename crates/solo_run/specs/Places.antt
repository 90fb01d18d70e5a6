-- Where the input and the output process stand, as their machines have it.
use Rattle.solo_law.specs.InputPlaces.{InputPlace}
use Rattle.solo_law.specs.OutputPlaces.{OutputPlace}
use Rattle.solo_procs.specs.declared.input_proc.InputProc.{InputProc}
use Rattle.solo_procs.specs.declared.output_proc.OutputProc.{OutputProc}
use Rattle.solo_procs.specs.Input.{InputStands}
use Rattle.solo_procs.specs.Output.{OutputStands}

abbrev pub input_at : InputProc → InputPlace → Type 0
input_at proc at = InputStands proc.place proc.packer proc.sound at

abbrev pub output_at : OutputProc → OutputPlace → Type 0
output_at proc at = OutputStands proc.place proc.pages proc.items proc.last at
