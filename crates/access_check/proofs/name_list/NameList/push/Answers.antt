use Rattle.std.proofs.Common.{◌≡◌, ◌∙◌, sym, false}
use Rattle.access_check.specs.Places.{has}
use Rattle.access_check.proofs.Pushing.{pushed}
use Rattle.access_check.proofs.name_list.NameList.push.Goals as goal

pub invariant_of-self-2 : goal.invariant_of-self-2
invariant_of-self-2 c =
    let new : has c.self.inside.names.items c.args.name ≡ false = rw (c.self.view_is) c.requires in
    λ name.
    rw (c.push_reserved.ensures.items, c.reserve.ensures.items)
    ((c.in_ok-insert.ensures.updates).0 name
    ∙ rw (c.bytes.ensures.bytes, c.as_slice-place.ensures.value, c.self.invariant name)
    (sym (pushed c.self.inside.names.items c.args.name new name)))
