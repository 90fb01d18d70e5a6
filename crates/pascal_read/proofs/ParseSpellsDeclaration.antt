-- One word at a want of a declaration: the parts that are wanted after it make, with it, what was wanted.
use Rattle.std.proofs.Common.{[], ◌∷◌, Some, None, refl, append_assoc}
use Rattle.pascal_tree.specs.Word.{Spot}
use Rattle.pascal_tree.specs.Program.{procedure, function}
use Rattle.pascal_tree.specs.declared.constant.Constant.TheVariants as constants
use Rattle.pascal_tree.specs.declared.declaration.Kind.TheVariants as kinds
use Rattle.pascal_tree.specs.declared.token.Reserved.TheVariants as reserved
use Rattle.pascal_tree.specs.declared.token.Symbol.TheVariants as symbol
use Rattle.pascal_read.specs.ParseWants.{Want, Step, want_step}
use Rattle.pascal_read.specs.ParseWants as want
use Rattle.pascal_read.proofs.ParseSpells.{IsRight}
use Rattle.pascal_read.proofs.ParseSpellsCases.{if_symbol, if_reserved, if_name, if_number, if_character, if_end}

pub number_right : (t : Spot) → IsRight want.number t (want_step want.number t.word)
number_right t = if_number (λ u p. IsRight want.number u p) t _ _ (λ x. record { inner = tt; joins = λ middle after e. record { part = x; keeps = tt; is = simp e refl } }) tt

pub end_right : (t : Spot) → IsRight want.end t (want_step want.end t.word)
end_right t = if_end (λ u p. IsRight want.end u p) t _ _ (λ line. record { inner = tt; joins = λ middle after e. record { part = line; keeps = tt; is = simp e refl } }) tt

pub heading_right : (t : Spot) → IsRight want.heading t (want_step want.heading t.word)
heading_right t =
    if_reserved (λ u p. IsRight want.heading u p) t reserved.Program _ _
    (λ line. record {
      inner = (tt, (tt, tt));
      joins = λ middle after r. record {
        part = Some (record { line = line; name = r.1.part; semicolon = r.2.1.part });
        keeps = tt;
        is = simp (r.1.is, r.2.1.is, r.2.2) refl;
      };
    })
    (λ o after. record { part = None; keeps = tt; is = refl })

pub constant_right : (t : Spot) → IsRight want.constant t (want_step want.constant t.word)
constant_right t =
    let P : Spot → Step → Type 0 = λ u p. IsRight want.constant u p in
    if_name P t _ _ (λ x. record { inner = tt; joins = λ middle after e. record { part = constants.Name x; keeps = tt; is = simp e refl } })
    (if_number P t _ _ (λ x. record { inner = tt; joins = λ middle after e. record { part = constants.Number x; keeps = tt; is = simp e refl } })
    (if_symbol P t symbol.Minus _ _
    (λ line. record {
      inner = (tt, tt);
      joins = λ middle after r. record { part = constants.Negative line r.1.part; keeps = tt; is = simp (r.1.is, r.2) refl };
    })
    (if_character P t _ _ (λ x. record { inner = tt; joins = λ middle after e. record { part = constants.Character x; keeps = tt; is = simp e refl } }) tt)))

pub consts_right : (t : Spot) → IsRight want.consts t (want_step want.consts t.word)
consts_right t =
    if_reserved (λ u p. IsRight want.consts u p) t reserved.Const _ _
    (λ line. record {
      inner = (tt, (tt, tt));
      joins = λ middle after r. record {
        part = Some (record { line = line; first = r.1.part; rest = r.2.1.part });
        keeps = tt;
        is = simp (r.1.is, r.2.1.is, r.2.2, append_assoc) refl;
      };
    })
    (λ o after. record { part = None; keeps = tt; is = refl })

pub definition_right : (t : Spot) → IsRight want.definition t (want_step want.definition t.word)
definition_right t =
    if_name (λ u p. IsRight want.definition u p) t _ _
    (λ x. record {
      inner = (tt, (tt, (tt, tt)));
      joins = λ middle after r. record {
        part = record { name = x; equal = r.1.part; value = r.2.1.part; semicolon = r.2.2.1.part };
        keeps = tt;
        is = simp (r.1.is, r.2.1.is, r.2.2.1.is, r.2.2.2, append_assoc) refl;
      };
    })
    tt

pub more_definitions_right : (t : Spot) → IsRight want.more_definitions t (want_step want.more_definitions t.word)
more_definitions_right t =
    if_name (λ u p. IsRight want.more_definitions u p) t _ _
    (λ x. record {
      inner = (tt, (tt, (tt, (tt, tt))));
      joins = λ middle after r. record {
        part = (record { name = x; equal = r.1.part; value = r.2.1.part; semicolon = r.2.2.1.part }) ∷ r.2.2.2.1.part;
        keeps = tt;
        is = simp (r.1.is, r.2.1.is, r.2.2.1.is, r.2.2.2.1.is, r.2.2.2.2, append_assoc) refl;
      };
    })
    (λ after. record { part = []; keeps = tt; is = refl })

pub kind_right : (t : Spot) → IsRight want.kind t (want_step want.kind t.word)
kind_right t =
    let P : Spot → Step → Type 0 = λ u p. IsRight want.kind u p in
    if_name P t _ _ (λ x. record { inner = tt; joins = λ middle after e. record { part = kinds.Name x; keeps = tt; is = simp e refl } })
    (if_reserved P t reserved.Array _ _
    (λ line. record {
      inner = (tt, (tt, (tt, (tt, (tt, (tt, (tt, tt)))))));
      joins = λ middle after r.
          let up = r.2.2 in
          let close = up.2.2 in
          record {
            part = kinds.Array line r.1.part r.2.1.part up.1.part up.2.1.part close.1.part close.2.1.part close.2.2.1.part;
            keeps = tt;
            is = simp (r.1.is, r.2.1.is, up.1.is, up.2.1.is, close.1.is, close.2.1.is, close.2.2.1.is, close.2.2.2, append_assoc) refl;
          };
    })
    (λ o. tt))

pub vars_right : (t : Spot) → IsRight want.vars t (want_step want.vars t.word)
vars_right t =
    if_reserved (λ u p. IsRight want.vars u p) t reserved.Var _ _
    (λ line. record {
      inner = (tt, (tt, tt));
      joins = λ middle after r. record {
        part = Some (record { line = line; first = r.1.part; rest = r.2.1.part });
        keeps = tt;
        is = simp (r.1.is, r.2.1.is, r.2.2, append_assoc) refl;
      };
    })
    (λ o after. record { part = None; keeps = tt; is = refl })

pub group_right : (t : Spot) → IsRight want.group t (want_step want.group t.word)
group_right t =
    if_name (λ u p. IsRight want.group u p) t _ _
    (λ x. record {
      inner = (tt, (tt, (tt, (tt, tt))));
      joins = λ middle after r. record {
        part = record { names = record { first = x; rest = r.1.part }; colon = r.2.1.part; kind = r.2.2.1.part; semicolon = r.2.2.2.1.part };
        keeps = tt;
        is = simp (r.1.is, r.2.1.is, r.2.2.1.is, r.2.2.2.1.is, r.2.2.2.2, append_assoc) refl;
      };
    })
    tt

pub more_groups_right : (t : Spot) → IsRight want.more_groups t (want_step want.more_groups t.word)
more_groups_right t =
    if_name (λ u p. IsRight want.more_groups u p) t _ _
    (λ x. record {
      inner = (tt, (tt, (tt, (tt, (tt, tt)))));
      joins = λ middle after r.
          let end = r.2.2.2 in
          record {
            part = (record { names = record { first = x; rest = r.1.part }; colon = r.2.1.part; kind = r.2.2.1.part; semicolon = end.1.part }) ∷ end.2.1.part;
            keeps = tt;
            is = simp (r.1.is, r.2.1.is, r.2.2.1.is, end.1.is, end.2.1.is, end.2.2, append_assoc) refl;
          };
    })
    (λ after. record { part = []; keeps = tt; is = refl })

pub more_names_right : (t : Spot) → IsRight want.more_names t (want_step want.more_names t.word)
more_names_right t =
    if_symbol (λ u p. IsRight want.more_names u p) t symbol.Comma _ _
    (λ line. record {
      inner = (tt, (tt, tt));
      joins = λ middle after r. record {
        part = (line, r.1.part) ∷ r.2.1.part;
        keeps = tt;
        is = simp (r.1.is, r.2.1.is, r.2.2) refl;
      };
    })
    (λ after. record { part = []; keeps = tt; is = refl })

pub parameters_right : (t : Spot) → IsRight want.parameters t (want_step want.parameters t.word)
parameters_right t =
    if_symbol (λ u p. IsRight want.parameters u p) t symbol.Open _ _
    (λ line. record {
      inner = (tt, (tt, (tt, tt)));
      joins = λ middle after r. record {
        part = Some (record { opening = line; first = r.1.part; rest = r.2.1.part; closing = r.2.2.1.part });
        keeps = tt;
        is = simp (r.1.is, r.2.1.is, r.2.2.1.is, r.2.2.2, append_assoc) refl;
      };
    })
    (λ after. record { part = None; keeps = tt; is = refl })

pub parameter_group_right : (t : Spot) → IsRight want.parameter_group t (want_step want.parameter_group t.word)
parameter_group_right t =
    if_name (λ u p. IsRight want.parameter_group u p) t _ _
    (λ x. record {
      inner = (tt, (tt, (tt, tt)));
      joins = λ middle after r. record {
        part = record { var = None; names = record { first = x; rest = r.1.part }; colon = r.2.1.part; kind = r.2.2.1.part };
        keeps = tt;
        is = simp (r.1.is, r.2.1.is, r.2.2.1.is, r.2.2.2, append_assoc) refl;
      };
    })
    (if_reserved (λ u p. IsRight want.parameter_group u p) t reserved.Var _ _
    (λ line. record {
      inner = (tt, (tt, (tt, (tt, tt))));
      joins = λ middle after r.
          let g = r.2 in
          record {
            part = record { var = Some line; names = record { first = r.1.part; rest = g.1.part }; colon = g.2.1.part; kind = g.2.2.1.part };
            keeps = tt;
            is = simp (r.1.is, g.1.is, g.2.1.is, g.2.2.1.is, g.2.2.2, append_assoc) refl;
          };
    })
    (λ o. tt))

pub more_parameters_right : (t : Spot) → IsRight want.more_parameters t (want_step want.more_parameters t.word)
more_parameters_right t =
    if_symbol (λ u p. IsRight want.more_parameters u p) t symbol.Semicolon _ _
    (λ line. record {
      inner = (tt, (tt, tt));
      joins = λ middle after r. record {
        part = (line, r.1.part) ∷ r.2.1.part;
        keeps = tt;
        is = simp (r.1.is, r.2.1.is, r.2.2, append_assoc) refl;
      };
    })
    (λ after. record { part = []; keeps = tt; is = refl })

pub routines_right : (t : Spot) → IsRight want.routines t (want_step want.routines t.word)
routines_right t =
    let P : Spot → Step → Type 0 = λ u p. IsRight want.routines u p in
    if_reserved P t reserved.Procedure _ _
    (λ line. record {
      inner = (tt, (tt, (tt, (tt, (tt, (tt, (tt, (tt, tt))))))));
      joins = λ middle after r.
          let block = r.2.2.2 in
          let end = block.2.2.2 in
          record {
            part = procedure line r.1.part r.2.1.part r.2.2.1.part (record { consts = block.1.part; vars = block.2.1.part; body = block.2.2.1.part }) end.1.part ∷ end.2.1.part;
            keeps = (block.2.2.1.keeps, end.2.1.keeps);
            is = simp (r.1.is, r.2.1.is, r.2.2.1.is, block.1.is, block.2.1.is, block.2.2.1.is, end.1.is, end.2.1.is, end.2.2, append_assoc) refl;
          };
    }) (λ o.
    if_reserved P t reserved.Function _ _
    (λ line. record {
      inner = (tt, (tt, (tt, (tt, (tt, (tt, (tt, (tt, (tt, (tt, tt))))))))));
      joins = λ middle after r.
          let answer = r.2.2.2 in
          let block = answer.2.2 in
          let end = block.2.2.2 in
          record {
            part = function line r.1.part r.2.1.part r.2.2.1.part answer.1.part answer.2.1.part (record { consts = block.1.part; vars = block.2.1.part; body = block.2.2.1.part }) end.1.part ∷ end.2.1.part;
            keeps = (block.2.2.1.keeps, end.2.1.keeps);
            is = simp (r.1.is, r.2.1.is, r.2.2.1.is, answer.1.is, answer.2.1.is, block.1.is, block.2.1.is, block.2.2.1.is, end.1.is, end.2.1.is, end.2.2, append_assoc) refl;
          };
    }) (λ p after. record { part = []; keeps = tt; is = refl }))
