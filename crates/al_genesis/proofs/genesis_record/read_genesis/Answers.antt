use Rattle.std.proofs.Common.{◌≡◌, List, refl, sym, subst, map, codes, None, ◌∙◌}
use Rattle.al_msgpack.specs.declared.val.Val.TheVariants as values
use Rattle.al_genesis.specs.declared.genesis_fields.FirstAccount.{FirstAccount}
use Rattle.al_record.specs.Columns.{first_fault, rules_of, list_of, value_at, members_fault}
use Rattle.al_record.proofs.Canonical.{inners_canonical}
use Rattle.al_record.proofs.Engine.{is_record}
use Rattle.al_genesis.specs.Genesis.{account, genesis_fields}
use Rattle.al_genesis.proofs.genesis_record.read_genesis.Goals as goal

pub read_all-requires : goal.read_all-requires
read_all-requires c = rw c.list.ensures (inners_canonical (codes "alloc") c.args.entries.now c.requires)

pub returns : goal.returns
returns c =
    let es = c.args.entries.now in
    let all = c.in_ok-accounts.ensures in
    let members = subst (λ (xs : List FirstAccount). map (λ es. values.Map es) (map account.write xs) ≡ c.list.result.now) (sym c.accounts.view_is) all.0 in
    let t : members_fault account.fault (list_of (value_at (codes "alloc") es)) ≡ None = rw (← c.list.ensures) all.1 in
    let none : first_fault (rules_of genesis_fields) es ≡ None = rw (c.in_ok-check_fields.ensures, t) c.in_ok-check_ranges.ensures in
    is_record genesis_fields _ es refl c.requires none (members ∙ c.list.ensures, (c.number.ensures, (c.array.ensures, (c.in_ok-text.ensures, (c.number-2.ensures, (c.array-2.ensures, (c.number-3.ensures, tt)))))))
