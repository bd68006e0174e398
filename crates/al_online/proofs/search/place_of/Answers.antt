use Rattle.std.proofs.Common.{◌≡◌, ℕ, Result, Ok, Err, IfOk, IfErr, rules, subst, sym, length}
use Rattle.std.specs.List.Sorted.{IsBinarySearchResult, IsSearchInRange}
use Rattle.std.proofs.lemmas.List.Sorted.{answers_always}
use Rattle.al_base.specs.Keys.{address_cmp}
use Rattle.al_base.specs.declared.address.Address.{Address}
use Rattle.al_online.specs.Search.{Accounts, AreInOrder, IsPlaceOf, IsGapFor}
use Rattle.al_online.proofs.Places.{searchable}
use Rattle.al_online.proofs.Snaps.{addresses_total, exact_addresses}
use Rattle.al_online.proofs.search.place_of.Goals as goal

place_found : (es : Accounts) (who : Address) (r : Result ℕ ℕ) → IsSearchInRange r (length es) → IsBinarySearchResult (λ e. address_cmp e.0 who) es r → IfOk r (IsPlaceOf es who)
place_found es who (Ok i) l t = record { within = l; tied = t }
place_found es who (Err i) l t = tt

gap_found : (es : Accounts) (who : Address) (r : Result ℕ ℕ) → AreInOrder es → IsSearchInRange r (length es) → IsBinarySearchResult (λ e. address_cmp e.0 who) es r → IfErr r (IsGapFor es who)
gap_found es who (Ok i) h l t = tt
gap_found es who (Err i) h l t =
    let parted = t (searchable addresses_total exact_addresses who es h) in
    record { within = l; below = parted.0; above = parted.1 }

pub returns-clause-found : goal.returns-clause-found
returns-clause-found c =
    let by_key = c.binary_search_by_key.ensures.position (λ e. e.0) (answers_always _ _ _ (λ f a r g called. search rules)) in
    place_found c.args.online.now c.args.who.now c.binary_search_by_key.result c.binary_search_by_key.ensures.bound by_key

pub returns-clause-absent : goal.returns-clause-absent
returns-clause-absent c =
    let by_key = c.binary_search_by_key.ensures.position (λ e. e.0) (answers_always _ _ _ (λ f a r g called. search rules)) in
    gap_found c.args.online.now c.args.who.now c.binary_search_by_key.result c.requires c.binary_search_by_key.ensures.bound by_key
