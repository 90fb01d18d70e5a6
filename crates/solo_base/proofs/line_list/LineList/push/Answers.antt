use Rattle.std.proofs.Common.{◌≡◌, ◌+◌, ◌<◌, ◌^◌, ◌++◌, ◌∷◌, [], length, refl}
use Rattle.solo_base.proofs.Cuts.{Grows, grows}
use Rattle.solo_base.proofs.line_list.LineList.push.Goals as goal

more : (c : goal.After-push_reserved) →
    Grows c.self.inside.text.items c.self.inside.ends.items c.extend_from_slice.new.self.items c.push_reserved.new.self.items c.args.line.now
more c =
    let text_is : c.extend_from_slice.new.self.items ≡ c.self.inside.text.items ++ c.args.line.now = rw (c.in_ok-extend_from_slice.ensures.items, c.bytes-bytes.ensures.bytes) refl in
    let ends_are : c.push_reserved.new.self.items ≡ c.self.inside.ends.items ++ c.in_ok-end.end ∷ [] = rw (c.push_reserved.ensures.items, c.reserve.ensures.items) refl in
    let end_is : c.in_ok-end.end ≡ length c.self.inside.text.items + length c.args.line.now = rw (c.in_ok-end.ensures.end, c.as_slice.ensures.value, c.bytes-bytes.ensures.bytes) refl in
    let small : c.in_ok-end.end < 2 ^ 32 = c.in_ok-end.ensures.fits in
    grows c.self.inside.text.items c.self.inside.ends.items c.extend_from_slice.new.self.items c.push_reserved.new.self.items
    c.args.line.now c.in_ok-end.end c.self.invariant c.bytes-bytes.ensures.line text_is ends_are end_is small

pub invariant_of-self-2 : goal.invariant_of-self-2
invariant_of-self-2 c = (more c).cut

pub returns-clause-ok : goal.returns-clause-ok
returns-clause-ok c = rw (← c.self.view_is) (more c).pieces_are
