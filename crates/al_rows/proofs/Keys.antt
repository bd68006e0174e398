-- The order of keys is total, and tells all keys apart.
use Rattle.std.proofs.Common.{◌≡◌, ℕ, refl, sym, ap, subst, Ordering, Less, Equal, Greater, nat_cmp, List, [], ◌≤◌, ◌-◌, drop, replicate}
use mathlib.Core.HLevel.{is_prop→PathP}
use mathlib.Core.List.{is_set}
use Rattle.std.proofs.Math.Bridge.{le_prop}
use Rattle.std.proofs.Math.Nat.{ℕ_set}
use Rattle.std.specs.Ordering.{ordering_then, on, then_cmp}
use Rattle.std.specs.Cmp.{IsTotalOrder}
use Rattle.std.specs.Cmp.Lexicographic.{slice_cmp, nat_list_cmp_total}
use Rattle.std.proofs.lemmas.Cmp.{on_total, then_total, nat_cmp_total}
use Rattle.std.specs.FinMap.{IsAntisymmetric, nat_cmp-IsAntisymmetric, slice_cmp-IsAntisymmetric}
use Rattle.al_base.specs.declared.key.Key.{Key}
use Rattle.al_base.specs.declared.key.Key.TheVariants.{Account, Resource, Box}
use Rattle.al_base.specs.declared.name.BoxName.{BoxName}
use Rattle.al_base.specs.Keys.{address_cmp, name_cmp, key_cmp}
use Rattle.al_base.specs.contracts.key.KeyOrd.TheImpl as derived

abbrev tag : Key → ℕ
tag (Account a) = 0
tag (Resource a i) = 1
tag (Box i n) = 2

abbrev owner : Key → List ℕ
owner (Account a) = a.0
owner (Resource a i) = a.0
owner (Box i n) = []

abbrev number : Key → ℕ
number (Account a) = 0
number (Resource a i) = i
number (Box i n) = i

abbrev letters : Key → List ℕ
letters (Account a) = []
letters (Resource a i) = []
letters (Box i n) = n.bytes

abbrev size : Key → ℕ
size (Account a) = 0
size (Resource a i) = 0
size (Box i n) = n.len

abbrev by_name : Key → Key → Ordering
by_name = then_cmp (on letters (slice_cmp nat_cmp)) (on size nat_cmp)

abbrev by_parts : Key → Key → Ordering
by_parts = then_cmp (on tag nat_cmp) (then_cmp (on owner (slice_cmp nat_cmp)) (then_cmp (on number nat_cmp) by_name))

by_parts_total : IsTotalOrder by_parts
by_parts_total = then_total (on_total tag nat_cmp_total) (then_total (on_total owner nat_list_cmp_total) (then_total (on_total number nat_cmp_total) (then_total (on_total letters nat_list_cmp_total) (on_total size nat_cmp_total))))

then_Equal : (r : Ordering) → r ≡ ordering_then r Equal
then_Equal Less = refl
then_Equal Equal = refl
then_Equal Greater = refl

key_cmp_is : (a b : Key) → key_cmp a b ≡ by_parts a b
key_cmp_is (Account a) (Account b) = then_Equal (address_cmp a b)
key_cmp_is (Account a) (Resource b j) = refl
key_cmp_is (Account a) (Box j n) = refl
key_cmp_is (Resource a i) (Account b) = refl
key_cmp_is (Resource a i) (Resource b j) = ap (ordering_then (address_cmp a b)) (then_Equal (nat_cmp i j))
key_cmp_is (Resource a i) (Box j n) = refl
key_cmp_is (Box i m) (Account b) = refl
key_cmp_is (Box i m) (Resource b j) = refl
key_cmp_is (Box i m) (Box j n) = refl

pub keys_total : IsTotalOrder key_cmp
keys_total = subst IsTotalOrder (λ i a b. sym (key_cmp_is a b) i) by_parts_total

pub exact_addresses : IsAntisymmetric address_cmp
exact_addresses a b e = ap (λ (n : List ℕ). record { 0 = n }) (slice_cmp-IsAntisymmetric nat_cmp-IsAntisymmetric a.0 b.0 e)

then_first : (r s : Ordering) → ordering_then r s ≡ Equal → r ≡ Equal
then_first Less s e = e
then_first Equal s e = refl
then_first Greater s e = e

then_second : (r s : Ordering) → ordering_then r s ≡ Equal → s ≡ Equal
then_second Less s e = cc
then_second Equal s e = e
then_second Greater s e = cc

words_set : IsSet (List ℕ)
words_set = is_set ℕ_set

-- names that agree in what they hold are equal
names_same : (m n : BoxName) → m.bytes ≡ n.bytes → m.len ≡ n.len → m ≡ n
names_same m n p q = λ i. record {
  bytes = p i;
  len = q i;
  some = is_prop→PathP (λ j. 1 ≤ q j) (λ j. le_prop) m.some n.some i;
  short = is_prop→PathP (λ j. q j ≤ 64) (λ j. le_prop) m.short n.short i;
  padded = is_prop→PathP (λ j. drop (q j) (p j) ≡ replicate (64 - q j) 0) (λ j. words_set (drop (q j) (p j)) (replicate (64 - q j) 0)) m.padded n.padded i;
}

exact_names : IsAntisymmetric name_cmp
exact_names m n e = names_same m n (slice_cmp-IsAntisymmetric nat_cmp-IsAntisymmetric m.bytes n.bytes (then_first _ _ e)) (nat_cmp-IsAntisymmetric m.len n.len (then_second (slice_cmp nat_cmp m.bytes n.bytes) _ e))

pub exact_keys : IsAntisymmetric key_cmp
exact_keys (Account a) (Account b) e = ap Account (exact_addresses a b e)
exact_keys (Account a) (Resource b j) e = cc
exact_keys (Account a) (Box j n) e = cc
exact_keys (Resource a i) (Account b) e = cc
exact_keys (Resource a i) (Resource b j) e = λ t. Resource (exact_addresses a b (then_first _ _ e) t) (nat_cmp-IsAntisymmetric i j (then_second (address_cmp a b) _ e) t)
exact_keys (Resource a i) (Box j n) e = cc
exact_keys (Box i m) (Account b) e = cc
exact_keys (Box i m) (Resource b j) e = cc
exact_keys (Box i m) (Box j n) e = λ t. Box (nat_cmp-IsAntisymmetric i j (then_first _ _ e) t) (exact_names m n (then_second (nat_cmp i j) _ e) t)

-- the derived comparison is this order
same_orders : (a b : Key) → (derived.cmp-value).it a b ≡ key_cmp a b
same_orders (Account a) (Account b) = refl
same_orders (Account a) (Resource b j) = refl
same_orders (Account a) (Box j n) = refl
same_orders (Resource a i) (Account b) = refl
same_orders (Resource a i) (Resource b j) = refl
same_orders (Resource a i) (Box j n) = refl
same_orders (Box i m) (Account b) = refl
same_orders (Box i m) (Resource b j) = refl
same_orders (Box i m) (Box j n) = refl

pub derived_order : (derived.cmp-value).it ≡ key_cmp
derived_order = λ i a b. same_orders a b i
