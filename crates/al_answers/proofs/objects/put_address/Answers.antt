use Rattle.std.proofs.Common.{subst, sym}
use Rattle.std.specs.Str.{IsUtf8}
use Rattle.al_answers.proofs.TextLemmas.{IsUtf8-base32}
use Rattle.al_answers.proofs.objects.put_address.Goals as goal

pub put_letters-requires : goal.put_letters-requires
put_letters-requires c = subst IsUtf8 (sym c.address_text-letters.ensures) (IsUtf8-base32 _)
