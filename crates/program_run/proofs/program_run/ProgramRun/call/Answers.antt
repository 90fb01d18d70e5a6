use Rattle.program_run.proofs.Done.{call_replied, call_device, is_device_call}
use Rattle.program_run.proofs.program_run.ProgramRun.call.Goals as goal

pub device-requires-clause-device : goal.device-requires-clause-device
device-requires-clause-device g c =
    (is_device_call c.args.call (g.A.Area.pages c.args.files.now.area) c.args.self.now.programs c.serve.result c.in-Device.call c.serve.new.self
    (g.A.Area.pages c.serve.new.files.area) c.in-Device.is c.serve.ensures.served).device

pub returns-in-Reply-clause-done : goal.returns-in-Reply-clause-done
returns-in-Reply-clause-done g c =
    call_replied c.args.call (g.A.Area.pages c.args.files.now.area) c.args.self.now c.args.paper.now c.serve.result c.in-Reply.reply c.serve.new.self c.answer.new.self
    (g.A.Area.pages c.serve.new.files.area) c.in-Reply.is c.serve.ensures.served c.answer.ensures.answered c.answer.ensures.well

pub returns-in-Device-clause-done : goal.returns-in-Device-clause-done
returns-in-Device-clause-done g c =
    call_device c.args.call c.in-Device.call (g.A.Area.pages c.args.files.now.area) c.args.self.now c.serve.new.self c.args.paper.now c.device.result c.device.new.self c.device.new.paper
    (g.A.Area.pages c.serve.new.files.area)
    (is_device_call c.args.call (g.A.Area.pages c.args.files.now.area) c.args.self.now.programs c.serve.result c.in-Device.call c.serve.new.self
    (g.A.Area.pages c.serve.new.files.area) c.in-Device.is c.serve.ensures.served) c.device.ensures
