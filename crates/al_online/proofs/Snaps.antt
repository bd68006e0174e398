-- A round is what its list of accounts shows.
use Rattle.std.proofs.Common.{◌≡◌, ◌∙◌, ℕ, zero, suc, ◌+◌, ◌<◌, ◌≤◌, refl, sym, ap, subst, List, [], ◌∷◌, length, drop, get_or, Option, Some, None, option_map, Bool, true, false, cond, not, T, is_eq, arith}
use Rattle.std.proofs.Math.Seq.{drop-cons}
use Rattle.std.proofs.lemmas.Cmp.{on_total}
use Rattle.std.specs.Cmp.{IsTotalOrder, alike_right, eq_by_cmp_equiv}
use Rattle.std.specs.Cmp.Lexicographic.{nat_list_cmp_total}
use Rattle.std.specs.Ordering.{eq_by_cmp}
use Rattle.std.specs.FinMap.{FinMap, IsAntisymmetric, empty, len-empty, len-entries, get-from_sorted, entries, entries_sorted, entries-insert, entries-from_sorted, find, from_sorted, get, get-entries, get-remove, is_sorted, nat_cmp-IsAntisymmetric, put, remove, same_entries_map, slice_cmp-IsAntisymmetric}
use Rattle.std.specs.FinMap.Entries.{find-where_key, is_sorted-put, is_sorted-where_key, same_entries, where_key}
use Rattle.al_base.specs.declared.address.Address.{Address}
use Rattle.al_base.specs.declared.online.OnlineChange.{OnlineChange}
use Rattle.al_base.specs.declared.online.OnlineData.{OnlineData}
use Rattle.al_base.specs.Keys.{address_cmp}
use Rattle.al_online.specs.Search.{Accounts, AreInOrder, put_account, put_accounts, without_account}
use Rattle.al_online.specs.Memory.{params_of}
use Rattle.al_online.specs.Stakes.{OnlineMap, Snap, circulation_at, first_snap, next_snap, set_online, stake_at, stake_in, told, voting_in, with_changes}
use Rattle.al_online.proofs.Sums.{all_live, live_is}
use Rattle.al_rewards.specs.Totals.{capped}

pub addresses_total : IsTotalOrder address_cmp
addresses_total = on_total (λ (a : Address). a.0) nat_list_cmp_total

pub exact_addresses : IsAntisymmetric address_cmp
exact_addresses a b e = ap (λ (bytes : List ℕ). record { 0 = bytes }) (slice_cmp-IsAntisymmetric nat_cmp-IsAntisymmetric a.0 b.0 e)

turned : {A : Type 0} (b : Bool) (x y : A) → cond (not b) x y ≡ cond b y x
turned true x y = refl
turned false x y = refl

without_is : (who : Address) (m : OnlineMap) → entries (remove m who) ≡ without_account who (entries m)
without_is who m =
    let keep : Address → Bool = λ a. not (eq_by_cmp address_cmp who a) in
    same_entries address_cmp addresses_total exact_addresses (entries (remove m who)) (without_account who (entries m)) (entries_sorted (remove m who)) (is_sorted-where_key address_cmp keep (entries m) (entries_sorted m)) (λ q.
    sym (get-entries (remove m who) q)
    ∙ get-remove addresses_total m who q
    ∙ ap (λ b. cond b None (get m q)) ((eq_by_cmp_equiv addresses_total).symm q who)
    ∙ sym (turned (eq_by_cmp address_cmp who q) (get m q) None)
    ∙ ap (λ (found : Option OnlineData). cond (keep q) found None) (get-entries m q)
    ∙ sym (find-where_key address_cmp keep q (λ x t. ap (λ r. not (is_eq r)) (sym (alike_right addresses_total q x who t))) (entries m)))

put_is : (who : Address) (now : Option OnlineData) (m : OnlineMap) → entries (set_online who now m) ≡ put_account who now (entries m)
put_is who None m = without_is who m
put_is who (Some d) m = entries-insert addresses_total m who d

pub puts_are : (cs : List OnlineChange) (m : OnlineMap) → entries (with_changes cs m) ≡ put_accounts cs (entries m)
puts_are [] m = refl
puts_are (c ∷ cs) m = puts_are cs (set_online c.address c.now m) ∙ ap (put_accounts cs) (put_is c.address c.now m)

pub stays_in_order : (who : Address) (now : Option OnlineData) (es : Accounts) → AreInOrder es → AreInOrder (put_account who now es)
stays_in_order who None es h = is_sorted-where_key address_cmp (λ a. not (eq_by_cmp address_cmp who a)) es h
stays_in_order who (Some d) es h = is_sorted-put address_cmp addresses_total who d es h

-- a list of accounts shows as the accounts of a round
module _ (level : ℕ) (es : Accounts) (s : Snap) (view : record { level = level; online = from_sorted es } ≡ s) (order : AreInOrder es) where
  shown : entries s.online ≡ es
  shown = ap (λ (r : Snap). entries r.online) (sym view) ∙ entries-from_sorted address_cmp es order

  pub next_is : (later : ℕ) (cs : List OnlineChange) (fs : Accounts) → AreInOrder fs → fs ≡ put_accounts cs es → record { level = later; online = from_sorted fs } ≡ next_snap later cs s
  next_is later cs fs h e =
      ap (λ (m : OnlineMap). record { level = later; online = m }) (same_entries_map (from_sorted fs) (with_changes cs s.online)
      (entries-from_sorted address_cmp fs h ∙ e ∙ sym (puts_are cs s.online ∙ ap (put_accounts cs) shown)))

  pub at_is : (who : Address) (found : Option OnlineData) → found ≡ find address_cmp who es → option_map (told level) found ≡ stake_at s who
  at_is who found e =
      ap (option_map (told level)) (e ∙ sym (get-from_sorted address_cmp es who order))
      ∙ ap (λ (r : Snap). stake_at r who) view

  pub circulation_is : (vote : ℕ) → voting_in level vote es ≡ circulation_at s vote
  circulation_is vote =
      ap (voting_in level vote) (sym (entries-from_sorted address_cmp es order))
      ∙ ap (λ (r : Snap). circulation_at r vote) view

  pub params_is : (online : ℕ) → online ≡ capped (voting_in level 0 es) → record { level = level; online = online } ≡ params_of s
  params_is online e =
      let all : voting_in level 0 es ≡ stake_in level es = sym (live_is level 0 es) ∙ all_live level es in
      ap (λ (n : ℕ). record { level = level; online = n }) (e ∙ ap capped (all ∙ ap (stake_in level) (sym (entries-from_sorted address_cmp es order))))
      ∙ ap params_of view

no_length : {A : Type 0} (es : List A) → length es ≡ 0 → es ≡ []
no_length [] e = refl
no_length (x ∷ es) e = absurd (omega arith)

none_there : entries (empty {X = OnlineData} {R = address_cmp}) ≡ []
none_there = no_length (entries empty) (sym (len-entries empty) ∙ len-empty address_cmp OnlineData)

pub first_is : (level : ℕ) (cs : List OnlineChange) (fs : Accounts) → AreInOrder fs → fs ≡ put_accounts cs [] → record { level = level; online = from_sorted fs } ≡ first_snap level cs
first_is level cs fs h e =
    ap (λ (m : OnlineMap). record { level = level; online = m }) (same_entries_map (from_sorted fs) (with_changes cs empty)
    (entries-from_sorted address_cmp fs h ∙ e ∙ sym (puts_are cs empty ∙ ap (put_accounts cs) none_there)))

-- ---- changes one after another

pub puts_more : (cs : List OnlineChange) (i : ℕ) (d : OnlineChange) (es fs : Accounts) → i < length cs → fs ≡ put_account (get_or cs i d).address (get_or cs i d).now es → put_accounts (drop (i + 1) cs) fs ≡ put_accounts (drop i cs) es
puts_more cs i d es fs l f =
    let s : suc i ≡ i + 1 = omega arith in
    ap (put_accounts (drop (i + 1) cs)) f
    ∙ sym (ap (λ (xs : List OnlineChange). put_accounts xs es) (drop-cons cs i d l ∙ ap (λ j. get_or cs i d ∷ drop j cs) s))

pub puts_end : (cs : List OnlineChange) (i : ℕ) (es : Accounts) → length cs ≤ i → put_accounts (drop i cs) es ≡ es
puts_end [] zero es h = refl
puts_end [] (suc i) es h = refl
puts_end (c ∷ cs) zero es h = absurd (omega arith)
puts_end (c ∷ cs) (suc i) es h = puts_end cs i es (omega arith)
