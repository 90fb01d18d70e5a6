use Rattle.std.proofs.Common.{◌≡◌, ◌+◌, ◌≤◌, ◌++◌, map, length, vec_len}
use Rattle.std.specs.Vec.{vec_capacity}
use Rattle.std.specs.List.{AllByRecursion}
use Rattle.resource_mon.specs.Seats.{new_seats}
use Rattle.resource_mon.proofs.Dealt.{seat_of, IsNew}
use Rattle.resource_mon.proofs.disk.DiskResource.make.Given as goal

-- the seats that are there, and then those of the passes that are left, are all the seats
abbrev pub invariant-loop-pass : goal.invariant-loop-pass
invariant-loop-pass l =
    let left = l.pass-iterator.rest.items in
    (l.dealt.items ++ map seat_of left ≡ new_seats l.gate.name l.seats) × AllByRecursion IsNew left × (l.pass-iterator.rest.len ≡ length left) × (vec_len l.dealt + length left ≤ vec_capacity l.dealt)
