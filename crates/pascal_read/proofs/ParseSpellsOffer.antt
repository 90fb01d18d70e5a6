-- One word at all that a reader wants: what is wanted after it makes, with the word, what was wanted.
use Rattle.std.proofs.Common.{◌≡◌, ◌⊎◌, List, [], ◌∷◌, ◌++◌, Option, Some, None, inl, inr, refl}
use Rattle.pascal_tree.specs.Word.{Spot}
use Rattle.pascal_tree.specs.declared.token.Word.TheVariants as word
use Rattle.pascal_read.specs.ParseWants.{Want, Step, took, skip, no, settle, want_step, offer, expr_begins, simple_begins, term_begins, factor_begins}
use Rattle.pascal_read.specs.ParseWants as want
use Rattle.pascal_read.proofs.ParseSpells.{AllRead, HasLevel, IsInner, AreInner, split_read, IsRight}
use Rattle.pascal_read.proofs.ParseSpellsCases.{if_end}
use Rattle.pascal_read.proofs.ParseSpellsExpression.{right_begun, expr_right, simple_right, term_right, factor_right, relation_right, addends_right, multipliers_right, behind_name_right, more_exprs_right}
use Rattle.pascal_read.proofs.ParseSpellsStatement.{statement_right, behind_first_name_right, otherwise_right, more_statements_right, more_branches_right, more_labels_right, direction_right, body_right, reserved_word_right, mark_right, name_right}
use Rattle.pascal_read.proofs.ParseSpellsDeclaration.{number_right, end_right, heading_right, constant_right, consts_right, definition_right, more_definitions_right, kind_right, vars_right, group_right, more_groups_right, more_names_right, parameters_right, parameter_group_right, more_parameters_right, routines_right}

-- what each want makes of a word is right
pub want_right : (x : Want) (t : Spot) → HasLevel x → IsRight x t (want_step x t.word)
want_right (want.reserved_word r) t h = reserved_word_right r t
want_right (want.mark s) t h = mark_right s t
want_right want.name t h = name_right t
want_right want.number t h = number_right t
want_right want.end t h = end_right t
want_right (want.expr n) t h = right_begun (want.expr n) t (expr_begins n t.word) (expr_right n t h)
want_right (want.relation n) t h = relation_right n t h
want_right (want.simple n) t h = right_begun (want.simple n) t (simple_begins n t.word) (simple_right n t h)
want_right (want.addends n) t h = addends_right n t h
want_right (want.term n) t h = right_begun (want.term n) t (term_begins n t.word) (term_right n t h)
want_right (want.multipliers n) t h = multipliers_right n t h
want_right (want.factor n) t h = right_begun (want.factor n) t (factor_begins n t.word) (factor_right n t h)
want_right (want.behind_name n) t h = behind_name_right n t h
want_right (want.more_exprs n) t h = more_exprs_right n t h
want_right (want.statement n) t h = statement_right n t h
want_right want.behind_first_name t h = behind_first_name_right t
want_right (want.otherwise n) t h = otherwise_right n t h
want_right (want.more_statements n) t h = more_statements_right n t h
want_right (want.more_branches n) t h = more_branches_right n t h
want_right want.more_labels t h = more_labels_right t
want_right want.direction t h = direction_right t
want_right want.body t h = body_right t
want_right want.heading t h = heading_right t
want_right want.constant t h = constant_right t
want_right want.consts t h = consts_right t
want_right want.definition t h = definition_right t
want_right want.more_definitions t h = more_definitions_right t
want_right want.kind t h = kind_right t
want_right want.vars t h = vars_right t
want_right want.group t h = group_right t
want_right want.more_groups t h = more_groups_right t
want_right want.more_names t h = more_names_right t
want_right want.parameters t h = parameters_right t
want_right want.parameter_group t h = parameter_group_right t
want_right want.more_parameters t h = more_parameters_right t
want_right want.routines t h = routines_right t

-- what a reader wants within a program: inner wants, and the end token last
abbrev pub IsWhole : List Want → Type 0
IsWhole [] = ⊥
IsWhole (x ∷ rest) = ((x ≡ want.end) × (rest ≡ [])) ⊎ (IsInner x × IsWhole rest)

-- the same, or nothing more
abbrev pub IsSound : List Want → Type 0
IsSound wants = (wants ≡ []) ⊎ IsWhole wants

whole_append : (xs ys : List Want) → AreInner xs → IsWhole ys → IsWhole (xs ++ ys)
whole_append [] ys i w = w
whole_append (x ∷ xs) ys i w = inr (i.0, whole_append xs ys i.1 w)

pub inner_level : (x : Want) → IsInner x → HasLevel x
inner_level want.end i = absurd i
inner_level (want.expr n) i = i
inner_level (want.relation n) i = i
inner_level (want.simple n) i = i
inner_level (want.addends n) i = i
inner_level (want.term n) i = i
inner_level (want.multipliers n) i = i
inner_level (want.factor n) i = i
inner_level (want.behind_name n) i = i
inner_level (want.more_exprs n) i = i
inner_level (want.statement n) i = i
inner_level (want.otherwise n) i = i
inner_level (want.more_statements n) i = i
inner_level (want.more_branches n) i = i
inner_level other i = tt

-- What is wanted after a word makes, with the word, what was wanted.
pub record Offers (wants : List Want) (t : Spot) (next : List Want) : Type 0 where
  pub sound : IsSound next
  pub joins : (middle after : List Spot) → AllRead next middle after → AllRead wants (t ∷ middle) after

abbrev pub OffersRight : List Want → Spot → Option (List Want) → Type 0
OffersRight wants t None = Unit {0}
OffersRight wants t (Some next) = Offers wants t next

-- the first want takes the word or leaves it to the others
settled : (x : Want) (rest : List Want) (t : Spot) (s : Step) (o : Option (List Want)) → IsWhole rest → IsRight x t s → OffersRight rest t o → OffersRight (x ∷ rest) t (settle s rest o)
settled x rest t (took more) o w r b = record {
  sound = inr (whole_append more rest r.inner w);
  joins = λ middle after a.
      let s = split_read more rest middle after a in
      (s.0, r.joins middle s.0 s.1, s.2);
}
settled x rest t skip None w r b = tt
settled x rest t skip (Some next) w r b = record { sound = b.sound; joins = λ middle after a. (t ∷ middle, r middle, b.joins middle after a) }
settled x rest t no o w r b = tt

-- the end token alone is wanted
end_offers : (t : Spot) → OffersRight (want.end ∷ []) t (offer (want.end ∷ []) t.word)
unfolding offer
end_offers t =
    if_end (λ u s. OffersRight (want.end ∷ []) u (settle s [] None)) t _ _
    (λ line. record { sound = inl refl; joins = λ middle after r. (middle, record { part = line; keeps = tt; is = refl }, r) }) tt

whole_offers : (wants : List Want) (t : Spot) → IsWhole wants → OffersRight wants t (offer wants t.word)
unfolding offer
whole_offers [] t w = tt
whole_offers (x ∷ rest) t w =
    elim w as (λ v. OffersRight (x ∷ rest) t (offer (x ∷ rest) t.word)) [
      | inl last ↦ rw (last.0, last.1) (end_offers t)
      | inr i ↦ settled x rest t (want_step x t.word) (offer rest t.word) i.1 (want_right x t (inner_level x i.0)) (whole_offers rest t i.1)
    ]

pub offers_right : (wants : List Want) (t : Spot) → IsSound wants → OffersRight wants t (offer wants t.word)
unfolding offer
offers_right wants t s =
    elim s as (λ v. OffersRight wants t (offer wants t.word)) [
      | inl none ↦ rw none tt
      | inr w ↦ whole_offers wants t w
    ]

-- behind the end token nothing is wanted
abbrev TakesNone : Step → Type 0
TakesNone (took more) = ⊥
TakesNone other = Unit {0}

inner_end : (x : Want) → IsInner x → TakesNone (want_step x word.End)
inner_end want.end i = absurd i
inner_end other i = tt

abbrev pub IsLast : Option (List Want) → Type 0
IsLast None = Unit {0}
IsLast (Some next) = next ≡ []

settled_end : (s : Step) (rest : List Want) (o : Option (List Want)) → TakesNone s → IsLast o → IsLast (settle s rest o)
settled_end (took more) rest o n l = absurd n
settled_end skip rest o n l = l
settled_end no rest o n l = tt

whole_end : (wants : List Want) → IsWhole wants → IsLast (offer wants word.End)
unfolding offer
whole_end [] w = tt
whole_end (x ∷ rest) w =
    elim w as (λ v. IsLast (offer (x ∷ rest) word.End)) [
      | inl last ↦ rw (last.0, last.1) refl
      | inr i ↦ settled_end (want_step x word.End) rest (offer rest word.End) (inner_end x i.0) (whole_end rest i.1)
    ]

pub end_is_last : (wants : List Want) → IsSound wants → IsLast (offer wants word.End)
unfolding offer
end_is_last wants s =
    elim s as (λ v. IsLast (offer wants word.End)) [
      | inl none ↦ rw none tt
      | inr w ↦ whole_end wants w
    ]
