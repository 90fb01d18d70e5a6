-- What a fault of the compiler says.
use Rattle.std.specs.Prelude.{◌≡◌, ⊤}
use Rattle.code_law.specs.Compiling.{Compiling, bad_word, syntax_error, semantic_error, code_limit}
use Rattle.pascal_compile.specs.declared.compile_fault.CompileFault.{CompileFault}
use Rattle.pascal_compile.specs.declared.compile_fault.CompileFault.TheVariants as fault

-- a fault is what compiling comes to, or says that memory was refused
abbrev pub Explains : CompileFault → Compiling → Type 0
Explains (fault.BadWord line) c = c ≡ bad_word line
Explains (fault.Syntax line) c = c ≡ syntax_error line
Explains (fault.Semantic line rule) c = c ≡ semantic_error line rule
Explains fault.CodeLimit c = c ≡ code_limit
Explains fault.NoMemory c = ⊤
