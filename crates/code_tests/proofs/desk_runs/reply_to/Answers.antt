use Rattle.std.proofs.Common.{sym, subst}
use Rattle.solo_base.specs.declared.system_call.SysReply.TheVariants.{Page}
use Rattle.solo_base.specs.Fits.{Fits}
use Rattle.code_tests.proofs.desk_runs.reply_to.Goals as goal

pub returns-in-Get : goal.returns-in-Get
returns-in-Get c = subst (λ call. Fits call (Page c.counting_page.result)) (sym c.in-Get.is)
    (record { as_many = c.counting_page.ensures.length; each = c.counting_page.ensures.bytes })
