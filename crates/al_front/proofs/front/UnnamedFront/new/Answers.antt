use Rattle.std.proofs.Common.{rules}
use Rattle.al_front.proofs.Keeping.{begins, parts_as}
use Rattle.al_front.proofs.front.UnnamedFront.new.Goals as goal

pub of_words-requires : goal.of_words-requires
of_words-requires c = begins c.args.floor

pub split_seat-store-requires : goal.split_seat-store-requires
split_seat-store-requires c =
    let e = c.in_ok-table.ensures in
    (search rules, search rules, parts_as _ c.args.floor _ _ (search rules) (search rules))
