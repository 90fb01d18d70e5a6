-- The names that every program may use without a declaration.
use Rattle.std.specs.Prelude.{ℕ, List, [], ◌∷◌, ◌++◌, ℤ, pos, codes}
use Rattle.solo_base.specs.declared.interface.Procedure.{Procedure}
use Rattle.solo_base.specs.declared.interface.Procedure.TheVariants as row
use Rattle.pascal_mean.specs.Means.{Means, Scalar, Integer, Boolean, Char, Standard, Abs, Succ, Pred, Ord, Chr}
use Rattle.pascal_mean.specs.Means as meant

-- a name, and what it means
pub record Item : Type 0 where
  pub letters : List ℕ
  pub means : Means

abbrev scalar_type : List ℕ → Scalar → Item
scalar_type x t = record { letters = x; means = meant.TypeName t }

abbrev constant : List ℕ → Scalar → ℤ → Item
constant x t v = record { letters = x; means = meant.Constant t v }

abbrev function : List ℕ → Standard → Item
function x f = record { letters = x; means = meant.Function f }

abbrev procedure : List ℕ → Procedure → Item
procedure x p = record { letters = x; means = meant.Interface p }

abbrev pub predeclared_types : List Item
predeclared_types =
    scalar_type (codes "INTEGER") Integer ∷ scalar_type (codes "BOOLEAN") Boolean
    ∷ scalar_type (codes "CHAR") Char ∷ []

-- NL is the code that ends a line, EM the one that ends a text
abbrev pub predeclared_constants : List Item
predeclared_constants =
    constant (codes "TRUE") Boolean (pos 1) ∷ constant (codes "FALSE") Boolean (pos 0)
    ∷ constant (codes "NL") Char (pos 10) ∷ constant (codes "EM") Char (pos 25) ∷ []

abbrev pub predeclared_functions : List Item
predeclared_functions =
    function (codes "ABS") Abs ∷ function (codes "SUCC") Succ ∷ function (codes "PRED") Pred
    ∷ function (codes "ORD") Ord ∷ function (codes "CHR") Chr ∷ []

-- the rows of the interface
abbrev pub predeclared_procedures : List Item
predeclared_procedures =
    procedure (codes "READ") row.Read ∷ procedure (codes "WRITE") row.Write
    ∷ procedure (codes "WRITEINT") row.WriteInt ∷ procedure (codes "ACCEPT") row.Accept
    ∷ procedure (codes "DISPLAY") row.Display ∷ procedure (codes "OPEN") row.Open
    ∷ procedure (codes "CLOSE") row.Close ∷ procedure (codes "GET") row.Get
    ∷ procedure (codes "PUT") row.Put ∷ procedure (codes "LENGTH") row.Length
    ∷ procedure (codes "LOOKUP") row.Lookup ∷ procedure (codes "READARG") row.ReadArg
    ∷ procedure (codes "WRITEARG") row.WriteArg ∷ procedure (codes "RUN") row.Run ∷ []

abbrev pub predeclared : List Item
predeclared = predeclared_types ++ predeclared_constants ++ predeclared_functions ++ predeclared_procedures
