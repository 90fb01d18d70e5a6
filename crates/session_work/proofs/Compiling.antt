-- The command `compile`.
use Rattle.std.proofs.Common.{◌≡◌, ◌⊎◌, inl, inr, ℕ, List, [], ◌∷◌, Option, None, Some, Result, Ok, Err, refl, sym, ◌∙◌, ap, subst}
use Rattle.std.specs.Prelude.{IfOk, IfErr}
use Rattle.std.specs.FinMap as fin
use Rattle.disk_layout.specs.declared.kind.FileKind.{FileKind}
use Rattle.disk_layout.specs.declared.kind.FileKind.TheVariants.{Scratch, Ascii, SeqCode, ConCode}
use Rattle.disk_layout.specs.Files.{File, Files, files as file_map}
use Rattle.disk_files.specs.declared.fault.FileFault.TheVariants.{NoFile}
use Rattle.disk_contents.specs.Contents.{file_bytes, text_in, code_file}
use Rattle.disk_system.specs.declared.fault.SystemFault.{SystemFault}
use Rattle.disk_system.specs.declared.fault.SystemFault.TheVariants.{NotText, File as OfFiles}
use Rattle.disk_system.specs.Calls.{text_by, text_answer, IsOutside}
use Rattle.stack_code.specs.CodeLists.{CodeLists}
use Rattle.pascal_code.specs.Code.{code_of}
use Rattle.code_law.specs.Compiling.{Compiling, compiled, bad_word, syntax_error, semantic_error, code_limit}
use Rattle.program_lines.specs.Task.{Source, Runs, RunsCode, Says, source_of}
use Rattle.program_task.specs.Task.{Gives}
use Rattle.solo_task.specs.Answers.{Doing, stores, not_text}
use Rattle.solo_task.specs.Compiles.{compiler, compiles_file, stores_program, compiling_text}
use Rattle.file_commands.specs.declared.fault.CommandFault.{CommandFault}
use Rattle.file_commands.specs.declared.fault.CommandFault.TheVariants.{NoMemory}
use Rattle.file_commands.specs.Settling.{SettledIn, IsAnsweredSo}
use Rattle.session_work.specs.Cards.{IsCodeOfText, compiler_name}

-- the line that says why there is no code, by the name of the command as that of a program
says-same : (a b : List ℕ) → ◌≡◌ {A = Source} (Says a) (Says b) → a ≡ b
says-same a b e = cc

pub line-says : (all : Files) (to : List ℕ) (c : Compiling) (line : List ℕ) → source_of compiler_name c ≡ Says line
    → stores_program all to c ≡ Gives (line ∷ [])
line-says all to (compiled p) line is = absurd cc
line-says all to (bad_word n) line is = ap (λ l. Gives (l ∷ [])) (says-same _ line is)
line-says all to (syntax_error n) line is = ap (λ l. Gives (l ∷ [])) (says-same _ line is)
line-says all to (semantic_error n rule) line is = ap (λ l. Gives (l ∷ [])) (says-same _ line is)
line-says all to code_limit line is = ap (λ l. Gives (l ∷ [])) (says-same _ line is)

-- what one line answers over files that stay
pub answered-at-once : (doing : Doing) (line : List ℕ) (pages : List (List ℕ)) (after : Option (List (List ℕ))) → doing ≡ Gives (line ∷ []) → after ≡ Some pages
    → IsAnsweredSo doing pages (Ok line) after
answered-at-once doing line pages after gives told = record { pages = pages; told = told; settles = inl (gives, refl) }

-- a file that is no text
no-text : (kind : FileKind) (bytes to line : List ℕ) (all : Files) → text_by kind bytes ≡ Err NotText → not_text compiler ≡ Gives (line ∷ [])
    → compiles_file kind bytes all to ≡ Gives (line ∷ [])
no-text Ascii bytes to line all is says = absurd cc
no-text Scratch bytes to line all is says = says
no-text SeqCode bytes to line all is says = says
no-text ConCode bytes to line all is says = says

outside-not : IsOutside NotText → ⊥
outside-not (inl e) = cc
outside-not (inr e) = cc

pub not-a-text : (found : Option File) (file : File) (to line : List ℕ) (all : Files) → found ≡ Some file
    → IsOutside NotText ⊎ (text_answer found ≡ Err NotText) → not_text compiler ≡ Gives (line ∷ [])
    → compiles_file file.kind (file_bytes file) all to ≡ Gives (line ∷ [])
not-a-text found file to line all is (inl outside) says = absurd (outside-not outside)
not-a-text found file to line all is (inr refused) says =
    no-text file.kind (file_bytes file) to line all (ap text_answer (sym is) ∙ refused) says

file-there : (kind : FileKind) (bytes : List ℕ) → text_by kind bytes ≡ Err (OfFiles NoFile) → ⊥
file-there Ascii bytes e = cc
file-there Scratch bytes e = cc
file-there SeqCode bytes e = cc
file-there ConCode bytes e = cc

outside-none : IsOutside (OfFiles NoFile) → ⊥
outside-none (inl e) = cc
outside-none (inr e) = cc

-- the file that was found is there
pub is-there : (found : Option File) (file : File) → found ≡ Some file → IsOutside (OfFiles NoFile) ⊎ (text_answer found ≡ Err (OfFiles NoFile)) → ⊥
is-there found file is (inl outside) = outside-none outside
is-there found file is (inr refused) = file-there file.kind (file_bytes file) (ap text_answer (sym is) ∙ refused)

-- a text
pub compiles-text : (file found : File) (text to : List ℕ) (all : Files) → Some file ≡ Some found → found.kind ≡ Ascii → text ≡ text_in (file_bytes found)
    → compiles_file file.kind (file_bytes file) all to ≡ stores_program all to (compiling_text text)
compiles-text file found text to all same kind is =
    let e : file ≡ found = cc in
    ap (λ (f : File). compiles_file f.kind (file_bytes f) all to) e ∙ ap (λ k. compiles_file k (file_bytes found) all to) kind
    ∙ ap (λ t. stores_program all to (compiling_text t)) (sym is)

pub stores-code : (text to : List ℕ) (all : Files) (code : CodeLists) → IsCodeOfText text code
    → stores_program all to (compiling_text text) ≡ stores compiler all to (code_file code)
stores-code text to all code is =
    ap (stores_program all to) is.comes_to ∙ ap (λ c. stores compiler all to (code_file c)) (sym is.is)

-- why there is none, where memory may be refused
pub answered-if : (doing : Doing) (pages : List (List ℕ)) (result : Result (List ℕ) CommandFault) (after : Option (List (List ℕ)))
    → IfOk result (λ line. doing ≡ Gives (line ∷ [])) → IfErr result (λ fault. fault ≡ NoMemory) → after ≡ Some pages
    → IsAnsweredSo doing pages result after
answered-if doing pages (Ok line) after says lacks told = answered-at-once doing line pages after says told
answered-if doing pages (Err fault) after says lacks told =
    subst (λ (f : CommandFault). IsAnsweredSo doing pages (Err f) after) (sym lacks) told
