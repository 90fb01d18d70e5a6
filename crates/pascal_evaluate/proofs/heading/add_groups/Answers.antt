use Rattle.std.proofs.Common.{ℕ, ◌+◌, ◌<◌, length, get_or, drop, map, ◌∙◌, arith}
use Rattle.pascal_tree.specs.SeenProgram.{seen_parameter_group}
use Rattle.pascal_tree.specs.Program as seen
use Rattle.pascal_tree.specs.declared.declaration.ParameterGroup.{ParameterGroup}
use Rattle.pascal_evaluate.specs.SeenNames.{seen_parameter, seen_items}
use Rattle.pascal_evaluate.proofs.Declared.{at_place_or, groups_behind, own_behind}
use Rattle.pascal_evaluate.proofs.heading.add_groups.Goals as goal

abbrev seen_group : ℕ × ParameterGroup → ℕ × seen.ParameterGroup
seen_group g = (g.0, seen_parameter_group g.1)

pub loop-place-preserved : goal.loop-place-preserved
loop-place-preserved c =
    let groups = c.args.groups.now in
    let place = c.loop-place.place in
    let g = get_or groups place c.index-groups-place.result in
    let program = seen_items c.args.known.now in
    let own = seen_items c.loop-place.own.items in
    let after = seen_items c.add_group.new.own.items in
    let list = map seen_parameter c.loop-place.list.items in
    let more_list = map seen_parameter c.add_group.new.list.items in
    let within : place < length groups = omega arith in
    let first = at_place_or seen_group groups place c.index-groups-place.result within in
    let more = map seen_group (drop (place + 1) groups) in
    let all = map seen_group (drop place groups) in
    let listed = c.in_ok-add_group.ensures.list in
    let declared = c.in_ok-add_group.ensures.own in
    record {
      list = groups_behind program own after list more_list (seen_group g) more all first listed declared ∙ c.loop-place.invariant.list;
      own = own_behind program own after list more_list (seen_group g) more all first listed declared c.loop-place.invariant.own;
    }
