-- What the names of the code stand for.
use Rattle.std.specs.Prelude.{ℕ, List, [], ◌∷◌, map, Option, Some, None, bytes_eq, if◌then◌else◌}
use Rattle.std.specs.Borrow.{Bor}
use Rattle.pascal_tree.specs.SeenStatement.{seen_body}
use Rattle.pascal_mean.specs.Means as meant
use Rattle.pascal_mean.specs.Predeclared.{Item, predeclared}
use Rattle.pascal_mean.specs.Scope.{Scope, found, scope_of}
use Rattle.pascal_mean.specs.Declarations.{Declared}
use Rattle.pascal_evaluate.specs.declared.means.Scalar as scalar_type
use Rattle.pascal_evaluate.specs.declared.means.Scalar.TheVariants as scalar
use Rattle.pascal_evaluate.specs.declared.means.Owner as owner_type
use Rattle.pascal_evaluate.specs.declared.means.Owner.TheVariants as owner
use Rattle.pascal_evaluate.specs.declared.means.Bounds as bounds_type
use Rattle.pascal_evaluate.specs.declared.means.Standard as standard_type
use Rattle.pascal_evaluate.specs.declared.means.Standard.TheVariants as standard
use Rattle.pascal_evaluate.specs.declared.means.Parameter as parameter_type
use Rattle.pascal_evaluate.specs.declared.means.Signature as signature_type
use Rattle.pascal_evaluate.specs.declared.means.Plain as plain_type
use Rattle.pascal_evaluate.specs.declared.means.Plain.TheVariants as plain
use Rattle.pascal_evaluate.specs.declared.means.Means as means_type
use Rattle.pascal_evaluate.specs.declared.means.Means.TheVariants as means
use Rattle.pascal_evaluate.specs.declared.means.Sense as sense_type
use Rattle.pascal_evaluate.specs.declared.means.Sense.TheVariants as sense
use Rattle.pascal_evaluate.specs.declared.means.Item as item_type
use Rattle.pascal_evaluate.specs.declared.scope.Scope as scope_type
use Rattle.pascal_evaluate.specs.declared.table.Declared as declared_type

abbrev pub seen_scalar : scalar_type.Scalar → meant.Scalar
seen_scalar scalar.Integer = meant.Integer
seen_scalar scalar.Boolean = meant.Boolean
seen_scalar scalar.Char = meant.Char

abbrev pub seen_owner : owner_type.Owner → meant.Owner
seen_owner owner.OfProgram = meant.OfProgram
seen_owner owner.OfRoutine = meant.OfRoutine

abbrev pub seen_bounds : bounds_type.Bounds → meant.Bounds
seen_bounds b = record { low = b.low; high = b.high }

abbrev pub seen_standard : standard_type.Standard → meant.Standard
seen_standard standard.Abs = meant.Abs
seen_standard standard.Succ = meant.Succ
seen_standard standard.Pred = meant.Pred
seen_standard standard.Ord = meant.Ord
seen_standard standard.Chr = meant.Chr

abbrev pub seen_parameter : parameter_type.Parameter → meant.Parameter
seen_parameter p = record { letters = p.letters; scalar = seen_scalar p.scalar; is_variable = p.is_variable }

abbrev pub seen_answer : Option scalar_type.Scalar → Option meant.Scalar
seen_answer None = None
seen_answer (Some t) = Some (seen_scalar t)

abbrev pub seen_signature : signature_type.Signature → meant.Signature
seen_signature s =
    record { parameters = map seen_parameter (s.parameters).items; answer = seen_answer s.answer }

abbrev pub seen_plain : plain_type.Plain → meant.Means
seen_plain (plain.Constant t v) = meant.Constant (seen_scalar t) v
seen_plain (plain.Variable o t) = meant.Variable (seen_owner o) (seen_scalar t)
seen_plain (plain.Array o t b) = meant.Array (seen_owner o) (seen_scalar t) (seen_bounds b)
seen_plain (plain.Reference t) = meant.Reference (seen_scalar t)
seen_plain (plain.Function f) = meant.Function (seen_standard f)
seen_plain (plain.Interface p) = meant.Interface p
seen_plain (plain.TypeName t) = meant.TypeName (seen_scalar t)
seen_plain plain.Nothing = meant.Nothing

abbrev pub seen_means : means_type.Means → meant.Means
seen_means (means.Plain p) = seen_plain p
seen_means (means.Routine k s) = meant.Routine k (seen_signature s)

abbrev pub seen_sense : sense_type.Sense → meant.Means
seen_sense (sense.Plain p) = seen_plain p
seen_sense (sense.Routine k s) = meant.Routine k (seen_signature s.now)

abbrev pub seen_item : item_type.Item → Item
seen_item i = record { letters = i.letters; means = seen_means i.means }

abbrev pub seen_items : List item_type.Item → List Item
seen_items items = map seen_item items

-- a declaration that was found
abbrev pub seen_found : Option (Bor means_type.Means) → Option meant.Means
seen_found None = None
seen_found (Some m) = Some (seen_means m.now)

-- what a table of the code says of a name
abbrev pub in_table : List (Bor (List ℕ) × plain_type.Plain) → List ℕ → meant.Means
in_table [] letters = meant.Nothing
in_table (entry ∷ others) letters =
    if bytes_eq entry.0.now letters then seen_plain entry.1 else in_table others letters

abbrev pub means_or_nothing : Option meant.Means → meant.Means
means_or_nothing None = meant.Nothing
means_or_nothing (Some m) = m

-- what a predeclared name means
abbrev pub predeclared_means : List ℕ → meant.Means
predeclared_means letters = means_or_nothing (found predeclared letters)

abbrev pub seen_scope : scope_type.Scope → Scope
seen_scope s = scope_of (seen_items (s.own).now) (seen_items (s.known).now)

abbrev pub seen_declared : declared_type.Declared → Declared
seen_declared d = record {
  signature = seen_signature d.signature;
  scope = scope_of (seen_items (d.own).items) (seen_items (d.known).now);
  body = seen_body (d.body).now;
}
