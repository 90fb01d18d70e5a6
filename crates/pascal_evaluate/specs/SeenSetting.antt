-- What the setting of the code stands for.
use Rattle.std.specs.Prelude.{ℕ, List, length, map, ℤ}
use Rattle.pascal_mean.specs.Declarations.{Declared}
use Rattle.pascal_mean.specs.Situation.{Answers, Part, Gives, and_then}
use Rattle.pascal_mean.specs.Calls.{Given}
use Rattle.pascal_mean.specs.Expressions.{Setting}
use Rattle.pascal_mean.specs.Statements.{after_body}
use Rattle.pascal_mean.specs.Variables.{map_at}
use Rattle.pascal_mean.specs.Meaning.{begun, ended, setting_of, called_value}
use Rattle.pascal_mean.specs.Batch.{batch_answers}
use Rattle.pascal_evaluate.specs.SeenNames.{seen_scope, seen_declared}
use Rattle.pascal_evaluate.specs.declared.setting.Setting as setting_type

abbrev pub answers_in : setting_type.Setting → Answers
answers_in s = batch_answers (s.text).now

abbrev pub all_in : setting_type.Setting → List Declared
all_in s = map seen_declared (s.routines).now

-- what calls of routines do while so many activations may still open
abbrev pub does_in : ℕ → setting_type.Setting → ℕ → List Given → Part ℤ
does_in free s = called_value (answers_in s) s.limit (all_in s) free

-- a call of a routine, inside which so many activations may still open
abbrev pub opened_in : ℕ → setting_type.Setting → Declared → List Given → Part ℤ
opened_in free s r given now =
    let number = length now.maps in
    let inside = setting_of (answers_in s) s.limit r number (does_in free s) in
    and_then (after_body inside r.body (begun r given now)) (λ _ after.
    Gives ((map_at after.maps number).answer) (ended number now.line after))

abbrev pub seen_setting : ℕ → setting_type.Setting → Setting
seen_setting free s = record {
  answers = answers_in s;
  limit = s.limit;
  scope = seen_scope s.scope;
  number = s.number;
  does = does_in free s;
}
