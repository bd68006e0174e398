-- Changes whose addresses rise name each account once.
use Rattle.std.proofs.Common.{◌≡◌, ap, List, [], ◌∷◌, map, Less, false, is_eq}
use Rattle.std.specs.List.{AllByRecursion, IsDistinct}
use Rattle.std.specs.List.Sorted.{IsStrictlySortedBy}
use Rattle.std.specs.Ordering.{eq_by_cmp}
use Rattle.al_base.specs.declared.address.Address.{Address}
use Rattle.al_base.specs.declared.online.OnlineChange.{OnlineChange}
use Rattle.al_base.specs.Keys.{address_cmp}
use Rattle.al_online.specs.Memory.{IsEachOnce}

none_again : (a : Address) (bs : List Address) → AllByRecursion (λ b. address_cmp a b ≡ Less) bs → AllByRecursion (λ b. eq_by_cmp address_cmp a b ≡ false) bs
none_again a [] h = tt
none_again a (b ∷ bs) h = (ap is_eq h.0, none_again a bs h.1)

once : (bs : List Address) → IsStrictlySortedBy address_cmp bs → IsDistinct (eq_by_cmp address_cmp) bs
unfolding IsStrictlySortedBy IsDistinct
once [] h = tt
once (b ∷ bs) h = (none_again b bs h.0, once bs h.1)

pub once_where_rising : (cs : List OnlineChange) → IsStrictlySortedBy address_cmp (map (λ c. c.address) cs) → IsEachOnce cs
once_where_rising cs h = once (map (λ c. c.address) cs) h
