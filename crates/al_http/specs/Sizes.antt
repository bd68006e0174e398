-- How long the body of a request is, or why it is not read.
use Rattle.std.specs.Prelude.{ℕ, if◌then◌else◌, nat_lt}
use Rattle.std.specs.declared.result.Result.{Result}
use Rattle.std.specs.declared.result.Result.TheVariants.{Ok, Err}
use Rattle.al_http.specs.declared.asking.SizeFault.{SizeFault}
use Rattle.al_http.specs.declared.asking.SizeFault.TheVariants as faults
use Rattle.al_http.specs.declared.head.BodySize.{BodySize}
use Rattle.al_http.specs.declared.head.BodySize.TheVariants.{Length, Coded, Bad}
use Rattle.al_http.specs.Limits.{most_body}

-- the length of a body that is neither coded nor of a bad length nor too long
abbrev pub size_read : BodySize → Result ℕ SizeFault
size_read Coded = Err faults.Coding
size_read Bad = Err faults.BadLength
size_read (Length n) = if nat_lt most_body n then Err faults.TooLarge else Ok n
