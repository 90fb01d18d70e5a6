-- What the calls of a program come to, by what the area tells.
use Rattle.std.specs.Prelude.{◌≡◌, ℕ, ℤ, Bool, true, false, List, Option, Some, None, Result, Ok, Err}
use Rattle.solo_base.specs.Arguments.{word_name}
use Rattle.solo_base.specs.declared.system_call.SysCall.{SysCall}
use Rattle.solo_base.specs.declared.system_call.SysCall.TheVariants as calls
use Rattle.solo_base.specs.declared.system_call.SysReply.{SysReply}
use Rattle.solo_base.specs.declared.system_call.SysReply.TheVariants as replies
use Rattle.disk_layout.specs.Files.{Files, files}
use Rattle.disk_files.specs.declared.fault.FileFault.{FileFault}
use Rattle.disk_files.specs.declared.fault.FileFault.TheVariants.{DiskFault}
use Rattle.program_task.specs.Task.{Task, Gives, Changes}
use Rattle.program_task.specs.Program.{Own, Shared, Answer, Runner, simply}
use Rattle.program_task.specs.OpenFiles.{open_as, with_open}
use Rattle.program_task.specs.Table.{answer}
use Rattle.prog_stack.specs.Programs.{nothing_ran}

-- what programs share, but for the files
pub record Hand : Type 0 where
  pub input : Option (List ℕ)
  pub spoiled : Bool
  pub typed : List ℕ
  pub display : List ℕ
  pub print : List ℕ

abbrev pub sharing : Files → Hand → Shared
sharing all h = record {
  files = all;
  input = h.input;
  spoiled = h.spoiled;
  typed = h.typed;
  display = h.display;
  print = h.print;
}

-- ---- Calls that leave the files

-- a call is answered so, whatever is shared and whatever may run above the program
abbrev pub AnswersAlone : SysCall → Own → SysReply → Own → Type 0
AnswersAlone call own reply own_now =
    (deeper : Option Runner) (w : Shared) → answer deeper call own w ≡ simply reply own_now w

-- a call is answered so, by these files
abbrev pub AnswersBy : Files → SysCall → Own → SysReply → Own → Type 0
AnswersBy all call own reply own_now =
    (deeper : Option Runner) (h : Hand)
    → answer deeper call own (sharing all h) ≡ simply reply own_now (sharing all h)

-- ---- All calls

-- it gives this answer; the files stay, or are changed to those of the answer
pub data ComesTo (t : Task Answer) (before : Files) (a : Answer) : Type 0 where
  Simply : t ≡ Gives a → before ≡ a.shared.files → ComesTo t before a
  Changing : t ≡ Changes a.shared.files (Gives a) → ComesTo t before a

-- an answer over an area that tells its pages then
pub record Answered (t : Hand → Task Answer) (before : Files) (reply : SysReply) (own : Own)
    (after : Option (List (List ℕ))) : Type 0 where
  pub pages : List (List ℕ)
  pub told : after ≡ Some pages
  pub comes : (h : Hand)
      → ComesTo (t h) before (record { reply = reply; own = own; shared = sharing (files pages) h })

abbrev pub AnswersCall : SysCall → Own → Option (List (List ℕ)) → SysReply → Own → Option (List (List ℕ))
    → Type 0
AnswersCall call own before reply own_now after =
    (pages : List (List ℕ)) (deeper : Option Runner) → before ≡ Some pages
    → Answered (λ h. answer deeper call own (sharing (files pages) h)) (files pages) reply own_now after

-- ---- What the area refuses

-- a refusal of the file area is a call error, unless the area failed
abbrev pub refused_by : FileFault → Result SysReply FileFault
refused_by DiskFault = Err DiskFault
refused_by other = Ok replies.CallError

-- the calls of the card file, the printer and the typewriter: READ, WRITE, WRITEINT, ACCEPT and DISPLAY
abbrev pub is_device : SysCall → Bool
is_device calls.Read = true
is_device (calls.Write code) = true
is_device (calls.WriteInt number) = true
is_device calls.Accept = true
is_device (calls.Display code) = true
is_device other = false

-- no device's, and no RUN
abbrev pub IsOwn : SysCall → Type 0
IsOwn calls.Read = ⊥
IsOwn (calls.Write code) = ⊥
IsOwn (calls.WriteInt number) = ⊥
IsOwn calls.Accept = ⊥
IsOwn (calls.Display code) = ⊥
IsOwn (calls.Run name left) = ⊥
IsOwn other = Unit {0}

-- ---- Numbers of open files
abbrev pub is_free : Option (Option (List ℕ)) → Bool
is_free (Some None) = true
is_free other = false

abbrev pub opened_name : Option (Option (List ℕ)) → Option (List ℕ)
opened_name None = None
opened_name (Some name) = name

-- ---- What is known over every area, also over one that tells nothing

-- the calls that read or write the area: OPEN, GET, PUT, LENGTH, LOOKUP and RUN
abbrev pub uses_area : SysCall → Bool
uses_area (calls.Open f name) = true
uses_area (calls.Get f p) = true
uses_area (calls.Put f p page) = true
uses_area (calls.Length f) = true
uses_area (calls.Lookup name) = true
uses_area (calls.Run name left) = true
uses_area other = false

-- OPEN with this name is answered so: a file is open then exactly where the reply says so, as a number that
-- was free, and it is refused exactly where the number wasn't
abbrev pub OpensSo : ℤ → Option (List ℕ) → Own → SysReply → Own → Type 0
OpensSo f name own (replies.Opened true) own_now =
    (found : List ℕ) × (name ≡ Some found) × (is_free (open_as own f) ≡ true)
    × (own_now ≡ with_open own f (Some found))
OpensSo f name own (replies.Opened false) own_now = (is_free (open_as own f) ≡ true) × (own_now ≡ own)
OpensSo f name own other own_now = (is_free (open_as own f) ≡ false) × (own_now ≡ own)

-- CLOSE and the calls of arguments are answered as the table says; a RUN that is answered at once ran
-- nothing; every other call leaves what the program has of its own
abbrev pub AnswersAnywhere : SysCall → Own → SysReply → Own → Type 0
AnswersAnywhere (calls.Open f name) own reply own_now = OpensSo f (word_name name) own reply own_now
AnswersAnywhere (calls.Close f) own reply own_now = AnswersAlone (calls.Close f) own reply own_now
AnswersAnywhere calls.ReadArg own reply own_now = AnswersAlone calls.ReadArg own reply own_now
AnswersAnywhere (calls.WriteArg tag number name) own reply own_now =
    AnswersAlone (calls.WriteArg tag number name) own reply own_now
AnswersAnywhere (calls.Run name left) own reply own_now = (reply ≡ nothing_ran) × (own_now ≡ own)
AnswersAnywhere other own reply own_now = own_now ≡ own

-- and only a call that uses the area fails with it
abbrev pub ComesAnywhere : SysCall → Own → Result SysReply FileFault → Own → Type 0
ComesAnywhere call own (Ok reply) own_now = AnswersAnywhere call own reply own_now
ComesAnywhere call own (Err fault) own_now = uses_area call ≡ true
