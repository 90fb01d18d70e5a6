-- What a job finds of its program: the code of a file, or why there is none.
use Rattle.std.specs.Prelude.{ℕ, ◌+◌, ◌*◌, ◌==◌, List, map, slice_index, Option, Some, None}
use Rattle.std.specs.List.{range_with_len}
use Rattle.std.specs.FinMap as fin
use Rattle.std.specs.Option.{unwrap_or}
use Rattle.solo_base.specs.PageBytes.{number_at}
use Rattle.disk_layout.specs.declared.kind.FileKind.{FileKind}
use Rattle.disk_layout.specs.declared.kind.FileKind.TheVariants.{Scratch, Ascii, SeqCode, ConCode}
use Rattle.disk_layout.specs.Files.{File, Files}
use Rattle.stack_code.specs.declared.instr.Instr.{Instr}
use Rattle.stack_code.specs.declared.instr.RoutineInfo.{RoutineInfo}
use Rattle.stack_code.specs.declared.table.Op.TheVariants.{Halt}
use Rattle.stack_code.specs.Table.{op_at}
use Rattle.stack_code.specs.CodeLists.{CodeLists}
use Rattle.stack_code.specs.CodeFile.{routines_end, wrong_byte}
use Rattle.stack_code.specs.Rules.{broken_record}
use Rattle.disk_contents.specs.declared.loading.Loaded.{Loaded}
use Rattle.disk_contents.specs.declared.loading.Loaded.TheVariants.{Code, NoFile, NotCode, BadCode}
use Rattle.disk_contents.specs.Contents.{file_bytes}

-- ---- The code that bytes say

-- the routine that eight bytes of a code file say
abbrev pub routine_in : List ℕ → ℕ → RoutineInfo
routine_in bytes place = record {
  start = number_at bytes place;
  params = slice_index bytes (place + 2);
  function = slice_index bytes (place + 3) == 1;
  words = number_at bytes (place + 4);
  height = number_at bytes (place + 6);
}

-- the instruction that five bytes say
abbrev pub instr_in : List ℕ → ℕ → Instr
instr_in bytes place = record {
  op = unwrap_or (op_at (slice_index bytes place)) Halt;
  a = number_at bytes (place + 1);
  b = number_at bytes (place + 3);
}

-- as many routines and instructions as the counts say
unfoldable pub code_in : List ℕ → CodeLists
code_in bytes = record {
  routines = map (λ k. routine_in bytes (12 + 8 * k)) (range_with_len 0 (number_at bytes 8));
  instrs = map (λ i. instr_in bytes (routines_end bytes + 5 * i)) (range_with_len 0 (number_at bytes 10));
}

-- ---- The program of a job

-- a code file is bad at its first wrong byte, or else at its first record that breaks a rule
abbrev pub judged : Option ℕ → Option ℕ → CodeLists → Loaded
judged (Some at) broken code = BadCode at
judged None (Some at) code = BadCode at
judged None None code = Code code

-- what the bytes of a code file are loaded as
abbrev pub loaded_bytes : List ℕ → Loaded
loaded_bytes bytes = judged (wrong_byte bytes) (broken_record (code_in bytes)) (code_in bytes)

-- a file is loaded where its kind is that of code
abbrev pub loaded_by : FileKind → List ℕ → Loaded
loaded_by SeqCode bytes = loaded_bytes bytes
loaded_by Scratch bytes = NotCode
loaded_by Ascii bytes = NotCode
loaded_by ConCode bytes = NotCode

abbrev pub loaded_file : Option File → Loaded
loaded_file None = NoFile
loaded_file (Some file) = loaded_by file.kind (file_bytes file)

-- the program that a job names, by the files
abbrev pub program_of : Files → List ℕ → Loaded
program_of all name = loaded_file (fin.get all name)
