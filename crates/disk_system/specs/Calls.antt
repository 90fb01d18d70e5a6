-- What the calls on texts and code files answer.
use Rattle.std.specs.Prelude.{◌≡◌, ℕ, ◌⊎◌, nat_le, nat_lt, if◌then◌else◌, Option, Some, None, Result, Ok, Err, List}
use Rattle.disk_layout.specs.declared.kind.FileKind.{FileKind}
use Rattle.disk_layout.specs.declared.kind.FileKind.TheVariants.{Scratch, Ascii, SeqCode, ConCode}
use Rattle.disk_layout.specs.Files.{File}
use Rattle.disk_layout.specs.Deleting.{pages_held}
use Rattle.disk_files.specs.declared.fault.FileFault.{FileFault}
use Rattle.disk_files.specs.declared.fault.FileFault.TheVariants.{NoFile, Exists, CatalogFull, DiskFull, FileFull, DiskFault, NoMemory}
use Rattle.disk_system.specs.declared.fault.SystemFault.{SystemFault}
use Rattle.disk_system.specs.declared.fault.SystemFault.TheVariants.{NotText, NotCode, BadCode}
use Rattle.disk_system.specs.declared.fault.SystemFault.TheVariants.{File as OfFiles}
use Rattle.stack_code.specs.declared.fault.CodeFault.{CodeFault}
use Rattle.stack_code.specs.declared.fault.CodeFault.TheVariants.{BadCode as BadByte, NoMemory as NoCodeMemory}
use Rattle.stack_code.specs.CodeLists.{CodeLists}
use Rattle.stack_code.specs.CodeFile.{code_bytes, wrong_byte}
use Rattle.stack_code.specs.Rules.{broken_record}
use Rattle.disk_contents.specs.Contents.{file_bytes, text_in}

-- the answer as far as the file area gave it
abbrev pub of_files : {T : Type 0} → Result T SystemFault → Result (Unit {0}) FileFault
of_files (Ok x) = Ok tt
of_files (Err (OfFiles fault)) = Err fault
of_files (Err NotText) = Ok tt
of_files (Err NotCode) = Ok tt
of_files (Err (BadCode at)) = Ok tt

abbrev pub code_fault : CodeFault → SystemFault
code_fault (BadByte at) = BadCode at
code_fault NoCodeMemory = OfFiles NoMemory

-- the area failed, or memory was refused
abbrev pub IsOutside : SystemFault → Type 0
IsOutside fault = (fault ≡ OfFiles DiskFault) ⊎ (fault ≡ OfFiles NoMemory)

-- ---- Texts

-- a file is read as a text where its kind is ascii
abbrev pub text_by : FileKind → List ℕ → Result (List ℕ) SystemFault
text_by Ascii bytes = Ok (text_in bytes)
text_by Scratch bytes = Err NotText
text_by SeqCode bytes = Err NotText
text_by ConCode bytes = Err NotText

abbrev pub text_answer : Option File → Result (List ℕ) SystemFault
text_answer None = Err (OfFiles NoFile)
text_answer (Some file) = text_by file.kind (file_bytes file)

-- ---- Stores

-- the answer of a store of so many pages under a new name, where there are so many names and so many pages
-- are free
abbrev pub room_answer : ℕ → ℕ → ℕ → Result (Unit {0}) FileFault
room_answer names unused count =
    if nat_le 240 names then Err CatalogFull
    else if nat_lt 4000 count then Err FileFull
    else if nat_lt unused (pages_held count) then Err DiskFull else Ok tt

-- the answer of a store, by the file of its name
abbrev pub store_answer : Option File → ℕ → ℕ → ℕ → Result (Unit {0}) FileFault
store_answer (Some file) names unused count = Err Exists
store_answer None names unused count = room_answer names unused count

abbrev pub as_system : Result (Unit {0}) FileFault → Result (Unit {0}) SystemFault
as_system (Ok x) = Ok tt
as_system (Err fault) = Err (OfFiles fault)

-- a store answers so, unless the area failed or memory was refused
abbrev pub StoreAnswers : Result (Unit {0}) SystemFault → Result (Unit {0}) FileFault → Type 0
StoreAnswers result expected =
    (result ≡ Err (OfFiles DiskFault)) ⊎ (result ≡ Err (OfFiles NoMemory)) ⊎ (result ≡ as_system expected)

-- whatever the area tells
abbrev pub MayRefuse : FileFault → Type 0
MayRefuse fault =
    (fault ≡ Exists) ⊎ (fault ≡ CatalogFull) ⊎ (fault ≡ FileFull) ⊎ (fault ≡ DiskFull) ⊎ (fault ≡ DiskFault)

abbrev pub MayRefuseStore : SystemFault → Type 0
MayRefuseStore fault = (fault ≡ OfFiles NoMemory) ⊎ ((of : FileFault) × (fault ≡ OfFiles of) × MayRefuse of)

-- ---- Code

-- the byte at which a file is no good code: the first that is wrong, or else that of the first record that
-- breaks a rule
abbrev pub IsBadAt : List ℕ → ℕ → Type 0
IsBadAt bytes at =
    (wrong_byte bytes ≡ Some at)
    ⊎ ((wrong_byte bytes ≡ None) × ((c : CodeLists) × (bytes ≡ code_bytes c) × (broken_record c ≡ Some at)))

-- what the bytes of a code file are loaded as
abbrev pub LoadsAs : List ℕ → Result CodeLists SystemFault → Type 0
LoadsAs bytes (Ok c) = (wrong_byte bytes ≡ None) × (bytes ≡ code_bytes c) × (broken_record c ≡ None)
LoadsAs bytes (Err fault) = IsOutside fault ⊎ ((at : ℕ) × (fault ≡ BadCode at) × IsBadAt bytes at)

-- what code that was written is loaded as: itself, where it breaks no rule
abbrev pub LoadsCode : CodeLists → Result CodeLists SystemFault → Type 0
LoadsCode c (Ok loaded) = (loaded ≡ c) × (broken_record c ≡ None)
LoadsCode c (Err fault) = IsOutside fault ⊎ ((at : ℕ) × (fault ≡ BadCode at) × (broken_record c ≡ Some at))

-- a load is refused so, unless the area failed or memory was refused
abbrev pub LoadRefused : SystemFault → Result CodeLists SystemFault → Type 0
LoadRefused fault (Ok c) = ⊥
LoadRefused fault (Err other) = IsOutside other ⊎ (other ≡ fault)

-- a file is loaded as code where its kind is that of code
abbrev pub CodeBy : FileKind → List ℕ → Result CodeLists SystemFault → Type 0
CodeBy SeqCode bytes result = LoadsAs bytes result
CodeBy Scratch bytes result = LoadRefused NotCode result
CodeBy Ascii bytes result = LoadRefused NotCode result
CodeBy ConCode bytes result = LoadRefused NotCode result

abbrev pub CodeAnswers : Option File → Result CodeLists SystemFault → Type 0
CodeAnswers None result = LoadRefused (OfFiles NoFile) result
CodeAnswers (Some file) result = CodeBy file.kind (file_bytes file) result

-- whatever the area tells
abbrev pub MayRefuseLoad : SystemFault → Type 0
MayRefuseLoad fault =
    IsOutside fault ⊎ (fault ≡ OfFiles NoFile) ⊎ (fault ≡ NotCode) ⊎ ((at : ℕ) × (fault ≡ BadCode at))
