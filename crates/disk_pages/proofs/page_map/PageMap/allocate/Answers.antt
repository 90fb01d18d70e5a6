use Rattle.std.proofs.Common.{◌<◌, arith}
use Rattle.std.specs.FinSet as set
use Rattle.disk_pages.proofs.KeptMap.{least_free, all_taken, len_all_taken, none_free, kept_past}
use Rattle.disk_pages.proofs.page_map.PageMap.allocate.Goals as goal

pub returns-then-self-eq0-clause-all_taken : goal.returns-then-self-eq0-clause-all_taken
returns-then-self-eq0-clause-all_taken c =
    let map = c.self.inside in
    none_free map.low map.high c.args.self.now map.least map.free c.self.invariant c.self.view_is c.if-self-eq0.true

pub returns-in_err-n-clause-all_taken : goal.returns-in_err-n-clause-all_taken
returns-in_err-n-clause-all_taken c =
    let map = c.self.inside in
    rw c.from_residual.ensures
    (all_taken map.low map.high c.args.self.now map.least map.free c.self.invariant c.self.view_is c.in_err-n.ensures.none)

pub returns-in_err-n-clause-some : goal.returns-in_err-n-clause-some
returns-in_err-n-clause-some c =
    let map = c.self.inside in
    let all = all_taken map.low map.high c.args.self.now map.least map.free c.self.invariant c.self.view_is c.in_err-n.ensures.none in
    let full = len_all_taken map.low map.high c.args.self.now c.self.view_is all in
    rw c.from_residual.ensures (λ found. cc, λ (fewer : set.len c.args.self.now < 4288). absurd (omega arith))

pub take-requires-clause-free : goal.take-requires-clause-free
take-requires-clause-free c =
    let map = c.self.inside in
    (least_free map.low map.high c.args.self.now map.least map.free c.in_ok-n.n c.self.invariant c.self.view_is c.in_ok-n.ensures.found.1 c.in_ok-n.ensures.found.2 c.in_ok-n.ensures.least).free

pub invariant_of-self : goal.invariant_of-self
invariant_of-self c =
    let map = c.self.inside in
    let found = least_free map.low map.high c.args.self.now map.least map.free c.in_ok-n.n c.self.invariant c.self.view_is c.in_ok-n.ensures.found.1 c.in_ok-n.ensures.found.2 c.in_ok-n.ensures.least in
    let now = c.self-2.inside in
    kept_past now.low now.high c.args.self.now c.take.new.self now.least now.free c.in_ok-n.n c.self-2.invariant c.self-2.view_is found
    (omega (arith, c.self.invariant.system, c.in_ok-n.ensures.found.0)) c.take.ensures.taken

pub returns-clause-least : goal.returns-clause-least
returns-clause-least c =
    let map = c.self.inside in
    least_free map.low map.high c.args.self.now map.least map.free c.in_ok-n.n c.self.invariant c.self.view_is c.in_ok-n.ensures.found.1 c.in_ok-n.ensures.found.2 c.in_ok-n.ensures.least
