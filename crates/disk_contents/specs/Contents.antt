-- What is stored in files: texts and code, page by page.
use Rattle.std.specs.Prelude.{ℕ, suc, zero, ◌+◌, ◌*◌, ◌/◌, ◌==◌, ◌≢◌, false, List, [], ◌∷◌, ◌++◌, length, take, drop, replicate}
use Rattle.std.specs.List.{All, concat, before_first}
use Rattle.disk_layout.specs.declared.kind.FileKind.TheVariants.{Ascii, SeqCode}
use Rattle.disk_layout.specs.Files.{File}
use Rattle.stack_code.specs.CodeLists.{CodeLists}
use Rattle.stack_code.specs.CodeFile.{code_bytes, padding}

-- how many pages so many bytes take
abbrev pub page_count : ℕ → ℕ
page_count bytes = (bytes + 511) / 512

-- the first so many pages of these bytes: page k, from 0, has those from 512 * k on
unfoldable pub cut : List ℕ → ℕ → List (List ℕ)
cut bytes zero = []
cut bytes (suc k) = cut bytes k ++ take 512 (drop (512 * k) bytes) ∷ []

-- whole pages of bytes, as the pages that they are
abbrev pub in_pages : List ℕ → List (List ℕ)
in_pages bytes = cut bytes (length bytes / 512)

-- the bytes of a file, one page after the other
abbrev pub file_bytes : File → List ℕ
file_bytes file = concat file.pages

-- ---- Texts

-- a text has no byte 25, which ends it in its file
abbrev pub IsText : List ℕ → Type 0
IsText text = All (λ byte. byte ≢ 25) text

-- the text, the byte 25, and zeros up to the end of the page
abbrev pub text_bytes : List ℕ → List ℕ
text_bytes text = text ++ 25 ∷ replicate (padding (length text + 1)) 0

-- what is before the first byte 25, or all
abbrev pub text_in : List ℕ → List ℕ
text_in bytes = before_first (λ byte. byte == 25) bytes

abbrev pub text_file : List ℕ → File
text_file text = record { kind = Ascii; protected = false; pages = in_pages (text_bytes text) }

-- ---- Code

abbrev pub code_file : CodeLists → File
code_file code = record { kind = SeqCode; protected = false; pages = in_pages (code_bytes code) }
