-- Rows that keep resources, boxes, counts and ranges keep what sound rows agree in.
use Rattle.std.proofs.Common.{◌≡◌, refl, sym, ap, ◌∙◌, ℕ, ◌≤◌, arith, Option, IfSome}
use Rattle.al_rows.specs.Rows.{RowMap, account}
use Rattle.al_rows.specs.Limits.{max_balance}
use Rattle.al_rows.specs.declared.row.Row.{Row}
use Rattle.al_rows.specs.Finite.{total}
use Rattle.al_moves.specs.Money.{money}
use Rattle.al_base.specs.declared.account.Special.{Special}
use Rattle.al_base.specs.declared.address.Address.{Address}
use Rattle.al_base.specs.declared.account.Status.TheVariants.{NotParticipating}
use Rattle.al_base.specs.declared.key.Key.{Key}
use Rattle.al_rows.specs.declared.account.AccountRow.{AccountRow}
use Rattle.al_moves.specs.Resources.{CountsAgree, owned, boxes_of, box_bytes_of, assets_held_in, assets_created_in, apps_created_in, apps_opted_in, extra_pages_in, uints_in, byte_slices_in}
use Rattle.al_resources.specs.Sound.{ResourcesAgree, SoundRows, holding_of, issued_of}
use Rattle.al_resources.proofs.Steadies.{Keeps, IsForOthers, counts_of}

pub resources_agree : (old new level : ℕ) (m n : RowMap) → Keeps level m n → old ≤ new → ResourcesAgree old m → ResourcesAgree new n
resources_agree old new level m n k more h = record {
  given = λ who id r e. (let l = h.given who id r (sym (k.resources who id) ∙ e) in omega arith);
  kinds = λ a b id r t e f. h.kinds a b id r t (sym (k.resources a id) ∙ e) (sym (k.resources b id) ∙ f);
  creators = λ a b id r t e f. h.creators a b id r t (sym (k.resources a id) ∙ e) (sym (k.resources b id) ∙ f);
}

-- a count and what is counted are kept
count_agrees : (level : ℕ) (m n : RowMap) (k : Keeps level m n) (who : Address) (f : AccountRow → ℕ) (w : Key → Row → ℕ) → IsForOthers w → f (counts_of (account m who)) ≡ total w m → f (counts_of (account n who)) ≡ total w n
count_agrees level m n k who f w is h = ap f (k.counts who) ∙ h ∙ sym (k.sums w is)

pub counts_agree : (level : ℕ) (m n : RowMap) (who : Address) → Keeps level m n → CountsAgree m who → CountsAgree n who
counts_agree level m n who k h = record {
  assets_held = count_agrees level m n k who (λ a. a.assets_held) (owned who assets_held_in) (λ _ _. refl) h.assets_held;
  assets_created = count_agrees level m n k who (λ a. a.assets_created) (owned who assets_created_in) (λ _ _. refl) h.assets_created;
  apps_created = count_agrees level m n k who (λ a. a.apps_created) (owned who apps_created_in) (λ _ _. refl) h.apps_created;
  apps_opted = count_agrees level m n k who (λ a. a.apps_opted) (owned who apps_opted_in) (λ _ _. refl) h.apps_opted;
  extra_pages = count_agrees level m n k who (λ a. a.extra_pages) (owned who extra_pages_in) (λ _ _. refl) h.extra_pages;
  uints = count_agrees level m n k who (λ a. a.uints) (owned who uints_in) (λ _ _. refl) h.uints;
  byte_slices = count_agrees level m n k who (λ a. a.byte_slices) (owned who byte_slices_in) (λ _ _. refl) h.byte_slices;
  boxes = count_agrees level m n k who (λ a. a.boxes) (boxes_of who) (λ _ _. refl) h.boxes;
  box_bytes = count_agrees level m n k who (λ a. a.box_bytes) (box_bytes_of who) (λ _ _. refl) h.box_bytes;
}

-- rows are sound that keep what others had, at a level and a count that are no lower
pub rows_kept : (low level old new : ℕ) (special : Option Special) (m n : RowMap) → Keeps level m n → SoundRows low old special m → low ≤ level → old ≤ new → money level n ≤ max_balance
    → IfSome special (λ s. (account n s.sink).status ≡ NotParticipating) → IfSome special (λ s. (account n s.pool).status ≡ NotParticipating) → SoundRows level new special n
rows_kept low level old new special m n k h up more few sink pool = record {
  money = few;
  bases = k.bases (λ q r e earns. (let l = h.bases q r e earns in omega arith));
  ranges = k.ranges h.ranges;
  resources = resources_agree old new level m n k more h.resources;
  holdings = λ id. k.sums (holding_of id) (λ _ _. refl) ∙ h.holdings id ∙ sym (k.sums (issued_of id) (λ _ _. refl));
  counts = λ who. counts_agree level m n who k (h.counts who);
  sink = sink;
  pool = pool;
}
