-- The exits of readers that read inner records.
use Rattle.std.proofs.Common.{Option, refl}
use Rattle.al_record.specs.declared.fault.Fault.{Fault}
use Rattle.al_record.specs.declared.fault.ReadError.{ReadError}
use Rattle.al_record.specs.declared.fault.ReadError.TheVariants as errors
use Rattle.al_record.specs.Columns.{Fails, first_of}

-- the first fault stays the first
pub stops : (e : ReadError) (g rest : Option Fault) → Fails e g → Fails e (first_of g rest)
stops errors.Memory g rest h = tt
stops (errors.Fault f) g rest h = rw h refl
