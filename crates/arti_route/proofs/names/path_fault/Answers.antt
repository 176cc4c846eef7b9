use Rattle.std.proofs.Common.{subst, sym}
use Rattle.std.specs.Prelude.{Option, Some, ◌≡◌, ◌≢◌}
use Rattle.arti_rows.specs.Names.{key_fault}
use Rattle.arti_rows.specs.declared.fault.KeyFault.{KeyFault}
use Rattle.arti_rows.specs.declared.fault.KeyFault.TheVariants as fault
use Rattle.arti_route.proofs.Naming.{judged}
use Rattle.arti_route.proofs.names.path_fault.Goals as goal

pub returns : goal.returns
returns c =
    subst (λ (f : Option KeyFault). f ≢ Some fault.Memory → f ≡ key_fault c.args.repo.now c.args.path.now) (sym c.err.ensures.value)
    (judged c.new.result (key_fault c.args.repo.now c.args.path.now) c.new.ensures.good c.new.ensures.bad_name c.new.ensures.too_long)
