use Rattle.std.proofs.Common.{◌∙◌, ap, subst}
use Rattle.disk_system.proofs.Stored.{code_whole, good_unbroken, pages_read}
use Rattle.stack_code.specs.CodeLists.{FitsItsFields, IsCode}
use Rattle.stack_code.specs.CodeFile.{code_bytes}
use Rattle.disk_contents.specs.Loading.{loaded_bytes}
use Rattle.disk_system.proofs.Loads.{loaded_again}
use Rattle.disk_system.proofs.code_files.store_code.Goals as goal

pub returns-in-Ok-store-clause-bytes : goal.returns-in-Ok-store-clause-bytes
returns-in-Ok-store-clause-bytes g c = pages_read (code_bytes c.args.code.now) (code_whole c.args.code.now)

pub returns-in-Ok-store-clause-good : goal.returns-in-Ok-store-clause-good
returns-in-Ok-store-clause-good g c = good_unbroken c.args.code.now c.code.ensures.good

pub returns-in-Ok-clause-bytes : goal.returns-in-Ok-clause-bytes
returns-in-Ok-clause-bytes g c = pages_read (code_bytes c.args.code.now) (code_whole c.args.code.now)

pub returns-in-Ok-clause-good : goal.returns-in-Ok-clause-good
returns-in-Ok-clause-good g c = good_unbroken c.args.code.now c.code.ensures.good

pub returns-clause-bytes : goal.returns-clause-bytes
returns-clause-bytes g c = pages_read (code_bytes c.args.code.now) (code_whole c.args.code.now)

pub returns-clause-good : goal.returns-clause-good
returns-clause-good g c = good_unbroken c.args.code.now c.code.ensures.good

pub returns-in-Ok-store-clause-again : goal.returns-in-Ok-store-clause-again
returns-in-Ok-store-clause-again g c =
    ap loaded_bytes (pages_read (code_bytes c.args.code.now) (code_whole c.args.code.now))
    ∙ loaded_again c.args.code.now (subst IsCode c.code.ensures.code c.in-Ok.ensures.code) (subst FitsItsFields c.code.ensures.code c.in-Ok.ensures.fits)
    (good_unbroken c.args.code.now c.code.ensures.good)
