use Rattle.std.proofs.Common.{refl}
use Rattle.solo_base.specs.declared.system_call.SysCall.TheVariants as calls
use Rattle.prog_stack.proofs.OwnRows.{alone_answers, by_files, by_area, opens_anywhere}
use Rattle.prog_stack.proofs.own.Own.serve.Goals as goal

pub returns-in-Open-clause-ok : goal.returns-in-Open-clause-ok
returns-in-Open-clause-ok g c = rw c.in-Open.is
    (by_files (calls.Open c.in-Open.f c.in-Open.name) c.args.self.now c.open.new.self c.open.result (g.A.Area.pages c.args.files.now.area)
    (g.A.Area.pages c.open.new.files.area)
    c.open.ensures.left c.open.ensures.row)

pub returns-in-Close-clause-ok : goal.returns-in-Close-clause-ok
returns-in-Close-clause-ok g c = rw c.in-Close.is
    (alone_answers (calls.Close c.in-Close.f) c.args.self.now c.close.new.self c.close.result (g.A.Area.pages c.args.files.now.area) c.close.ensures.row)

pub returns-in-Get-clause-ok : goal.returns-in-Get-clause-ok
returns-in-Get-clause-ok g c = rw c.in-Get.is
    (by_files (calls.Get c.in-Get.f c.in-Get.p) c.args.self.now c.args.self.now c.get.result (g.A.Area.pages c.args.files.now.area)
    (g.A.Area.pages c.get.new.files.area)
    c.get.ensures.left c.get.ensures.row)

pub returns-in-Length-clause-ok : goal.returns-in-Length-clause-ok
returns-in-Length-clause-ok g c = rw c.in-Length.is
    (by_files (calls.Length c.in-Length.f) c.args.self.now c.args.self.now c.length.result (g.A.Area.pages c.args.files.now.area)
    (g.A.Area.pages c.length.new.files.area)
    c.length.ensures.left c.length.ensures.row)

pub returns-in-Lookup-clause-ok : goal.returns-in-Lookup-clause-ok
returns-in-Lookup-clause-ok g c = rw c.in-Lookup.is
    (by_files (calls.Lookup c.in-Lookup.name) c.args.self.now c.args.self.now c.look_up.result (g.A.Area.pages c.args.files.now.area)
    (g.A.Area.pages c.look_up.new.files.area)
    c.look_up.ensures.left (λ pages told. c.look_up.ensures.told pages told c.args.self.now))

pub returns-in-ReadArg-clause-ok : goal.returns-in-ReadArg-clause-ok
returns-in-ReadArg-clause-ok g c = rw c.in-ReadArg.is
    (alone_answers calls.ReadArg c.args.self.now c.read_arg.new.self c.read_arg.result (g.A.Area.pages c.args.files.now.area) c.read_arg.ensures.row)

pub returns-in-WriteArg-clause-ok : goal.returns-in-WriteArg-clause-ok
returns-in-WriteArg-clause-ok g c = rw c.in-WriteArg.is
    (alone_answers (calls.WriteArg c.in-WriteArg.tag c.in-WriteArg.number c.in-WriteArg.name) c.args.self.now c.write_arg.new.self c.write_arg.result
    (g.A.Area.pages c.args.files.now.area) c.write_arg.ensures.row)

pub returns-in-Open-clause-anywhere : goal.returns-in-Open-clause-anywhere
returns-in-Open-clause-anywhere g c = rw c.in-Open.is
    (opens_anywhere c.in-Open.f c.in-Open.name c.args.self.now c.open.new.self c.open.result c.open.ensures.anywhere)

pub returns-in-Get-clause-anywhere : goal.returns-in-Get-clause-anywhere
returns-in-Get-clause-anywhere g c = rw c.in-Get.is
    (by_area (calls.Get c.in-Get.f c.in-Get.p) c.args.self.now c.get.result refl (λ reply. refl))

pub returns-in-Put-clause-anywhere : goal.returns-in-Put-clause-anywhere
returns-in-Put-clause-anywhere g c = rw c.in-Put.is
    (by_area (calls.Put c.in-Put.f c.in-Put.p c.in-Put.page) c.args.self.now c.put.result refl (λ reply. refl))

pub returns-in-Length-clause-anywhere : goal.returns-in-Length-clause-anywhere
returns-in-Length-clause-anywhere g c = rw c.in-Length.is
    (by_area (calls.Length c.in-Length.f) c.args.self.now c.length.result refl (λ reply. refl))

pub returns-in-Lookup-clause-anywhere : goal.returns-in-Lookup-clause-anywhere
returns-in-Lookup-clause-anywhere g c = rw c.in-Lookup.is
    (by_area (calls.Lookup c.in-Lookup.name) c.args.self.now c.look_up.result refl (λ reply. refl))

pub returns-in-WriteArg-clause-anywhere : goal.returns-in-WriteArg-clause-anywhere
returns-in-WriteArg-clause-anywhere g c = rw c.in-WriteArg.is c.write_arg.ensures.row
