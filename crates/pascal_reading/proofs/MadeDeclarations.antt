-- One word at a want of a declaration makes, with the parts that are wanted behind it, what was wanted.
use Rattle.std.proofs.Common.{ℕ, List, Option, refl, append_assoc}
use Rattle.pascal_tree.specs.Word.{Spot, NameAt, NumberAt}
use Rattle.pascal_tree.specs.Program.{Consts, Group, Vars, ParameterGroup, Parameters, Routine}
use Rattle.pascal_tree.specs.declared.constant.Constant.{Constant}
use Rattle.pascal_tree.specs.declared.declaration.Definition.{Definition}
use Rattle.pascal_tree.specs.declared.declaration.Kind.{Kind}
use Rattle.pascal_tree.specs.declared.declaration.Heading.{Heading}
use Rattle.pascal_tree.specs.declared.token.Reserved.TheVariants as reserved
use Rattle.pascal_tree.specs.declared.token.Symbol.TheVariants as symbol
use Rattle.pascal_read.specs.ParseWants.{Want, Step, want_step}
use Rattle.pascal_read.specs.ParseWants as want
use Rattle.pascal_reading.specs.Making.{Makes, making}
use Rattle.pascal_reading.proofs.PartsRead.{IsRight}
use Rattle.pascal_reading.proofs.WordCases.{by_symbol, by_reserved, by_name, by_number, by_character, by_end}

pub number_right : (t : Spot) → IsRight want.number t (want_step want.number t.word) (making want.number t)
number_right t =
    by_number (λ s. Makes NumberAt s) (λ u s m. IsRight want.number u s m) t _ _ _ _
    (λ x. (tt, λ p middle after r. record { keeps = tt; is = simp r refl })) tt

pub end_right : (t : Spot) → IsRight want.end t (want_step want.end t.word) (making want.end t)
end_right t =
    by_end (λ s. Makes ℕ s) (λ u s m. IsRight want.end u s m) t _ _ _ _
    (tt, λ p middle after r. record { keeps = tt; is = simp r refl }) tt

pub heading_right : (t : Spot) → IsRight want.heading t (want_step want.heading t.word) (making want.heading t)
heading_right t =
    by_reserved (λ s. Makes (Option Heading) s) (λ u s m. IsRight want.heading u s m) t reserved.Program _ _ _ _
    ((tt, (tt, tt)), λ p middle after r. record { keeps = tt; is = simp (r.1.is, r.2.1.is, r.2.2) refl })
    (λ o after. record { keeps = tt; is = refl })

pub constant_right : (t : Spot) → IsRight want.constant t (want_step want.constant t.word) (making want.constant t)
constant_right t =
    let P : Step → Type 0 = λ s. Makes Constant s in
    let Q : Spot → (s : Step) → Makes Constant s → Type 0 = λ u s m. IsRight want.constant u s m in
    by_name P Q t _ _ _ _ (λ x. (tt, λ p middle after r. record { keeps = tt; is = simp r refl }))
    (by_number P Q t _ _ _ _ (λ x. (tt, λ p middle after r. record { keeps = tt; is = simp r refl }))
    (by_symbol P Q t symbol.Minus _ _ _ _ ((tt, tt), λ p middle after r. record { keeps = tt; is = simp (r.1.is, r.2) refl })
    (by_character P Q t _ _ _ _ (λ x. (tt, λ p middle after r. record { keeps = tt; is = simp r refl })) tt)))

pub consts_right : (t : Spot) → IsRight want.consts t (want_step want.consts t.word) (making want.consts t)
consts_right t =
    by_reserved (λ s. Makes (Option Consts) s) (λ u s m. IsRight want.consts u s m) t reserved.Const _ _ _ _
    ((tt, (tt, tt)), λ p middle after r. record { keeps = tt; is = simp (r.1.is, r.2.1.is, r.2.2, append_assoc) refl })
    (λ o after. record { keeps = tt; is = refl })

pub definition_right : (t : Spot) → IsRight want.definition t (want_step want.definition t.word) (making want.definition t)
definition_right t =
    by_name (λ s. Makes Definition s) (λ u s m. IsRight want.definition u s m) t _ _ _ _
    (λ x. (
      (tt, (tt, (tt, tt))),
      λ p middle after r. record {
        keeps = tt;
        is = simp (r.1.is, r.2.1.is, r.2.2.1.is, r.2.2.2, append_assoc) refl;
      },
    )) tt

pub more_definitions_right : (t : Spot) → IsRight want.more_definitions t (want_step want.more_definitions t.word) (making want.more_definitions t)
more_definitions_right t =
    by_name (λ s. Makes (List Definition) s) (λ u s m. IsRight want.more_definitions u s m) t _ _ _ _
    (λ x. (
      (tt, (tt, (tt, (tt, tt)))),
      λ p middle after r. record {
        keeps = tt;
        is = simp (r.1.is, r.2.1.is, r.2.2.1.is, r.2.2.2.1.is, r.2.2.2.2, append_assoc) refl;
      },
    ))
    (λ after. record { keeps = tt; is = refl })

pub kind_right : (t : Spot) → IsRight want.kind t (want_step want.kind t.word) (making want.kind t)
kind_right t =
    let P : Step → Type 0 = λ s. Makes Kind s in
    let Q : Spot → (s : Step) → Makes Kind s → Type 0 = λ u s m. IsRight want.kind u s m in
    by_name P Q t _ _ _ _ (λ x. (tt, λ p middle after r. record { keeps = tt; is = simp r refl }))
    (by_reserved P Q t reserved.Array _ _ _ _ (
      (tt, (tt, (tt, (tt, (tt, (tt, (tt, tt))))))),
      λ p middle after r.
          let up = r.2.2 in
          let close = up.2.2 in
          record {
            keeps = tt;
            is = simp (r.1.is, r.2.1.is, up.1.is, up.2.1.is, close.1.is, close.2.1.is, close.2.2.1.is, close.2.2.2, append_assoc) refl;
          },
    )
    (λ o. tt))

pub vars_right : (t : Spot) → IsRight want.vars t (want_step want.vars t.word) (making want.vars t)
vars_right t =
    by_reserved (λ s. Makes (Option Vars) s) (λ u s m. IsRight want.vars u s m) t reserved.Var _ _ _ _
    ((tt, (tt, tt)), λ p middle after r. record { keeps = tt; is = simp (r.1.is, r.2.1.is, r.2.2, append_assoc) refl })
    (λ o after. record { keeps = tt; is = refl })

pub group_right : (t : Spot) → IsRight want.group t (want_step want.group t.word) (making want.group t)
group_right t =
    by_name (λ s. Makes Group s) (λ u s m. IsRight want.group u s m) t _ _ _ _
    (λ x. (
      (tt, (tt, (tt, (tt, tt)))),
      λ p middle after r. record {
        keeps = tt;
        is = simp (r.1.is, r.2.1.is, r.2.2.1.is, r.2.2.2.1.is, r.2.2.2.2, append_assoc) refl;
      },
    )) tt

pub more_groups_right : (t : Spot) → IsRight want.more_groups t (want_step want.more_groups t.word) (making want.more_groups t)
more_groups_right t =
    by_name (λ s. Makes (List Group) s) (λ u s m. IsRight want.more_groups u s m) t _ _ _ _
    (λ x. (
      (tt, (tt, (tt, (tt, (tt, tt))))),
      λ p middle after r.
          let end = r.2.2.2 in
          record {
            keeps = tt;
            is = simp (r.1.is, r.2.1.is, r.2.2.1.is, end.1.is, end.2.1.is, end.2.2, append_assoc) refl;
          },
    ))
    (λ after. record { keeps = tt; is = refl })

pub more_names_right : (t : Spot) → IsRight want.more_names t (want_step want.more_names t.word) (making want.more_names t)
more_names_right t =
    by_symbol (λ s. Makes (List (ℕ × NameAt)) s) (λ u s m. IsRight want.more_names u s m) t symbol.Comma _ _ _ _
    ((tt, (tt, tt)), λ p middle after r. record { keeps = tt; is = simp (r.1.is, r.2.1.is, r.2.2) refl })
    (λ after. record { keeps = tt; is = refl })

pub parameters_right : (t : Spot) → IsRight want.parameters t (want_step want.parameters t.word) (making want.parameters t)
parameters_right t =
    by_symbol (λ s. Makes (Option Parameters) s) (λ u s m. IsRight want.parameters u s m) t symbol.Open _ _ _ _ (
      (tt, (tt, (tt, tt))),
      λ p middle after r. record {
        keeps = tt;
        is = simp (r.1.is, r.2.1.is, r.2.2.1.is, r.2.2.2, append_assoc) refl;
      },
    )
    (λ after. record { keeps = tt; is = refl })

pub parameter_group_right : (t : Spot) → IsRight want.parameter_group t (want_step want.parameter_group t.word) (making want.parameter_group t)
parameter_group_right t =
    let P : Step → Type 0 = λ s. Makes ParameterGroup s in
    let Q : Spot → (s : Step) → Makes ParameterGroup s → Type 0 = λ u s m. IsRight want.parameter_group u s m in
    by_name P Q t _ _ _ _
    (λ x. (
      (tt, (tt, (tt, tt))),
      λ p middle after r. record {
        keeps = tt;
        is = simp (r.1.is, r.2.1.is, r.2.2.1.is, r.2.2.2, append_assoc) refl;
      },
    ))
    (by_reserved P Q t reserved.Var _ _ _ _ (
      (tt, (tt, (tt, (tt, tt)))),
      λ p middle after r.
          let g = r.2 in
          record {
            keeps = tt;
            is = simp (r.1.is, g.1.is, g.2.1.is, g.2.2.1.is, g.2.2.2, append_assoc) refl;
          },
    )
    (λ o. tt))

pub more_parameters_right : (t : Spot) → IsRight want.more_parameters t (want_step want.more_parameters t.word) (making want.more_parameters t)
more_parameters_right t =
    by_symbol (λ s. Makes (List (ℕ × ParameterGroup)) s) (λ u s m. IsRight want.more_parameters u s m) t symbol.Semicolon _ _ _ _
    ((tt, (tt, tt)), λ p middle after r. record { keeps = tt; is = simp (r.1.is, r.2.1.is, r.2.2, append_assoc) refl })
    (λ after. record { keeps = tt; is = refl })

pub routines_right : (t : Spot) → IsRight want.routines t (want_step want.routines t.word) (making want.routines t)
routines_right t =
    let P : Step → Type 0 = λ s. Makes (List Routine) s in
    let Q : Spot → (s : Step) → Makes (List Routine) s → Type 0 = λ u s m. IsRight want.routines u s m in
    by_reserved P Q t reserved.Procedure _ _ _ _ (
      (tt, (tt, (tt, (tt, (tt, (tt, (tt, (tt, tt)))))))),
      λ p middle after r.
          let block = r.2.2.2 in
          let end = block.2.2.2 in
          record {
            keeps = (block.2.2.1.keeps, end.2.1.keeps);
            is = simp (r.1.is, r.2.1.is, r.2.2.1.is, block.1.is, block.2.1.is, block.2.2.1.is, end.1.is, end.2.1.is, end.2.2, append_assoc) refl;
          },
    ) (λ o.
    by_reserved P Q t reserved.Function _ _ _ _ (
      (tt, (tt, (tt, (tt, (tt, (tt, (tt, (tt, (tt, (tt, tt)))))))))),
      λ p middle after r.
          let answer = r.2.2.2 in
          let block = answer.2.2 in
          let end = block.2.2.2 in
          record {
            keeps = (block.2.2.1.keeps, end.2.1.keeps);
            is = simp (
              r.1.is,
              r.2.1.is,
              r.2.2.1.is,
              answer.1.is,
              answer.2.1.is,
              block.1.is,
              block.2.1.is,
              block.2.2.1.is,
              end.1.is,
              end.2.1.is,
              end.2.2,
              append_assoc,
            ) refl;
          },
    ) (λ o after. record { keeps = tt; is = refl }))
