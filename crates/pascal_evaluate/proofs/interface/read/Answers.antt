use Rattle.std.proofs.Common.{◌≡◌, ℤ, ◌∷◌, [], List, drop, pos, refl, sym, ◌∙◌, ap}
use Rattle.std.specs.Prelude.{reverse, FitsSigned}
use Rattle.std.specs.Int.{w16}
use Rattle.std.proofs.lemmas.Int.{to_z-of_z}
use mir.Val.{to_z, of_z}
use Rattle.solo_base.specs.declared.system_call.SysCall.{SysCall}
use Rattle.solo_base.specs.declared.system_call.SysCall.TheVariants as calls
use Rattle.pascal_mean.specs.Situation.{Gives, with_call}
use Rattle.pascal_mean.specs.Calls.{variables_in, set_variables}
use Rattle.pascal_mean.specs.Batch.{next_character}
use Rattle.pascal_evaluate.specs.declared.run.Made.TheVariants as made
use Rattle.pascal_evaluate.specs.SeenStore.{situation, all_given, reads}
use Rattle.pascal_evaluate.proofs.Answered.{character_read, pushed}
use Rattle.pascal_evaluate.proofs.interface.read.Goals as goal

pub returns : goal.returns
returns c limit =
    let now = situation c.args.run.now in
    let given = all_given c.args.given.now in
    let before = c.args.run.now.made.items in
    let code = next_character (drop (reads before) c.args.text.now) in
    let value = to_z w16 (of_z w16 c.from-value.result) in
    let places = reverse (variables_in given) in
    let is_code : c.from-value.result ≡ pos code = cc (c.from-value.ensures, c.character_at.ensures, c.reads.ensures, c.deref.ensures.value) in
    let fits : FitsSigned w16 c.from-value.result = record { sfits = c.from-value.type_inv } in
    let value_is : value ≡ pos code = to_z-of_z w16 c.from-value.result fits ∙ is_code in
    character_read c.args.text.now before given now refl
    ∙ ap (λ (v : ℤ). Gives v (set_variables places (v ∷ []) (with_call calls.Read now))) (sym value_is)
    ∙ ap (λ (m : List SysCall). Gives value (set_variables places (value ∷ []) (record now { made = m })))
    (sym (pushed before c.push.new.self.items made.Read calls.Read c.in_ok-push.ensures.items refl))
    ∙ ap (Gives value) (sym c.in_ok-set_last.ensures)
