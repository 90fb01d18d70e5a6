-- The table of calls: what each of the fourteen rows replies, and what the program has and shares then.
use Rattle.std.specs.Prelude.{ℕ, List, [], ◌∷◌, Option, Some, None, ℤ, pos}
use Rattle.std.specs.Fmt.{signed_decimal}
use Rattle.solo_base.specs.Arguments.{word_name, line_number, result_number}
use Rattle.solo_base.specs.declared.system_call.SysCall.{SysCall}
use Rattle.solo_base.specs.declared.system_call.SysCall.TheVariants as calls
use Rattle.solo_base.specs.declared.system_call.SysReply.TheVariants as replies
use Rattle.disk_layout.specs.Files.{Files}
use Rattle.disk_contents.specs.declared.loading.Loaded.{Loaded}
use Rattle.disk_contents.specs.declared.loading.Loaded.TheVariants.{Code, NoFile}
use Rattle.disk_contents.specs.Loading.{program_of}
use Rattle.program_task.specs.Task.{Task, and_then, Gives}
use Rattle.program_task.specs.Program.{Own, Shared, Answer, Ended, Runner, begins_with, simply}
use Rattle.program_task.specs.Arguments.{reads_argument, argument_of, writes_argument}
use Rattle.program_task.specs.OpenFiles.{found_file, open_as, opens, closes, of_open, gets, puts, measures, looks_up}
use Rattle.program_task.specs.Characters.{reads_from, accepts, writes, displays}

-- ---- RUN

-- what a name is loaded as
abbrev pub loaded_as : Files → Option (List ℕ) → Loaded
loaded_as all None = NoFile
loaded_as all (Some name) = program_of all name

-- No file of this name, no good code in it, or no room on the stack: line 0 and result 6. It takes no ticks,
-- and the arguments stay.
abbrev pub runs_nothing : Own → Shared → Task Answer
runs_nothing own w = simply (replies.Ran (pos 0) (pos 6) 0) own w

-- The called program ended: its line (a word), the number of its result and its ticks. What it wrote are the
-- caller's incoming arguments then, in place of those that it hadn't read; the outgoing ones were given away.
abbrev pub returned : Own → Ended → Answer
returned own e = record {
  reply = replies.Ran (pos (line_number e.line)) (pos (result_number e.result)) e.ticks;
  own = record own { incoming = e.outgoing; outgoing = [] };
  shared = e.shared;
}

-- The called program has the ticks that are left, and the caller's outgoing arguments as its incoming ones.
abbrev pub runs : Option Runner → ℕ → Loaded → Own → Shared → Task Answer
runs (Some run) left (Code code) own w =
    and_then (run code left (begins_with own.outgoing) w) (λ e. Gives (returned own e))
runs deeper left loaded own w = runs_nothing own w

-- ---- The table

-- what a call does, of a program above which others run so, if there is room for one
abbrev pub answer : Option Runner → SysCall → Own → Shared → Task Answer
answer deeper calls.Read own w = reads_from w.input own w
answer deeper (calls.Write code) own w = writes (code ∷ []) own w
answer deeper (calls.WriteInt number) own w = writes (signed_decimal number) own w
answer deeper calls.Accept own w = accepts w.typed own w
answer deeper (calls.Display code) own w = displays (code ∷ []) own w
answer deeper (calls.Open f name) own w = opens f (word_name name) (open_as own f) own w
answer deeper (calls.Close f) own w = closes f (open_as own f) own w
answer deeper (calls.Get f p) own w = of_open (gets p) (open_as own f) own w
answer deeper (calls.Put f p page) own w = of_open (puts p page.0) (open_as own f) own w
answer deeper (calls.Length f) own w = of_open measures (open_as own f) own w
answer deeper (calls.Lookup name) own w = looks_up (found_file w.files (word_name name)) own w
answer deeper calls.ReadArg own w = reads_argument own w
answer deeper (calls.WriteArg tag number name) own w = writes_argument (argument_of tag number name) own w
answer deeper (calls.Run name left) own w = runs deeper left (loaded_as w.files (word_name name)) own w
