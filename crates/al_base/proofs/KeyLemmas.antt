-- Which key has which bytes.
use Rattle.std.proofs.Common.{◌≡◌, ℕ, ◌<◌, ◌≤◌, ◌^◌, List, ◌∷◌, ◌++◌, length, take, drop, refl, sym, ◌∙◌, ap, subst, arith, get_or}
use Rattle.std.specs.Int.{w64, from_be_bytes}
use Rattle.std.proofs.lemmas.Nat.{from_be_bytes-to_be_bytes_8, be_bytes_8}
use Rattle.std.proofs.Math.Seq.{take-append_seam, drop-append_seam}
use Rattle.std.proofs.lemmas.List.{length-append}
use Rattle.al_base.specs.Keys.{key_bytes, number_bytes, IsKey}
use Rattle.al_base.specs.Name.{name_of}
use Rattle.al_base.specs.declared.address.Address.{Address}
use Rattle.al_base.specs.declared.name.BoxName.{BoxName}
use Rattle.al_base.specs.declared.key.Key.{Key}
use Rattle.al_base.specs.declared.key.Key.TheVariants.{Account, Resource, Box}

pub length-number_bytes : (n : ℕ) → length (number_bytes n) ≡ 8
unfolding number_bytes
length-number_bytes n = refl

pub number_bytes_of : (bs : List ℕ) (n : ℕ) → length bs ≡ 8 → ((i : ℕ) → get_or bs i 0 < 256) → n ≡ from_be_bytes w64 bs → number_bytes n ≡ bs
unfolding number_bytes
number_bytes_of bs n l small e = be_bytes_8 bs n l small e

pub number_bytes_same : (m n : ℕ) → m < 2 ^ 64 → n < 2 ^ 64 → number_bytes m ≡ number_bytes n → m ≡ n
unfolding number_bytes
number_bytes_same m n hm hn e = sym (from_be_bytes-to_be_bytes_8 m hm) ∙ ap (from_be_bytes w64) e ∙ from_be_bytes-to_be_bytes_8 n hn

-- the parts that two lists are joined of
pub joined : (a b bs : List ℕ) (n : ℕ) → length a ≡ n → a ++ b ≡ bs → (take n bs ≡ a) × (drop n bs ≡ b)
joined a b bs n l e =
    let T : ℕ → Type 0 = λ m. take m (a ++ b) ≡ a in
    let D : ℕ → Type 0 = λ m. drop m (a ++ b) ≡ b in
    (ap (take n) (sym e) ∙ subst T l (take-append_seam a b), ap (drop n) (sym e) ∙ subst D l (drop-append_seam a b))

heads : (x y : ℕ) (xs ys : List ℕ) → x ∷ xs ≡ y ∷ ys → x ≡ y
heads x y xs ys e = cc

-- a key whose bytes begin with 1 is a resource's
pub record IsResource (key : Key) (bs : List ℕ) : Type 0 where
  pub holder : Address
  pub id : ℕ
  pub is : key ≡ Resource holder id
  pub below : id < 2 ^ 64
  pub first : take 32 bs ≡ holder.0
  pub rest : drop 32 bs ≡ number_bytes id
  pub first_len : length (take 32 bs) ≡ 32
  pub rest_len : length (drop 32 bs) ≡ 8
  pub len : 32 ≤ length bs

pub as_resource : (key : Key) (bs : List ℕ) → IsKey key → key_bytes key ≡ 1 ∷ bs → IsResource key bs
as_resource (Account a) bs h e = absurd (omega (arith, heads 0 1 _ bs e))
as_resource (Resource a id) bs h e =
    let t : a.0 ++ number_bytes id ≡ bs = cc in
    let p = joined a.0 (number_bytes id) bs 32 h.0 t in
    record {
      holder = a;
      id = id;
      is = refl;
      below = h.1;
      first = p.0;
      rest = p.1;
      first_len = ap length p.0 ∙ h.0;
      rest_len = ap length p.1 ∙ length-number_bytes id;
      len = omega (arith, ap length t, length-append a.0 (number_bytes id), h.0);
    }
as_resource (Box app name) bs h e = absurd (omega (arith, heads 2 1 _ bs e))

-- a key whose bytes begin with 2 is a box's
pub record IsBox (key : Key) (bs : List ℕ) : Type 0 where
  pub app : ℕ
  pub name : BoxName
  pub is : key ≡ Box app name
  pub below : app < 2 ^ 64
  pub first : take 8 bs ≡ number_bytes app
  pub rest : drop 8 bs ≡ name_of name
  pub first_len : length (take 8 bs) ≡ 8
  pub name_len : length name.bytes ≡ 64
  pub len : 8 ≤ length bs

pub as_box : (key : Key) (bs : List ℕ) → IsKey key → key_bytes key ≡ 2 ∷ bs → IsBox key bs
as_box (Account a) bs h e = absurd (omega (arith, heads 0 2 _ bs e))
as_box (Resource a id) bs h e = absurd (omega (arith, heads 1 2 _ bs e))
as_box (Box app name) bs h e =
    let t : number_bytes app ++ name_of name ≡ bs = cc in
    let p = joined (number_bytes app) (name_of name) bs 8 (length-number_bytes app) t in
    record {
      app = app;
      name = name;
      is = refl;
      below = h.0;
      first = p.0;
      rest = p.1;
      name_len = h.1;
      first_len = ap length p.0 ∙ length-number_bytes app;
      len = omega (arith, ap length t, length-append (number_bytes app) (name_of name), length-number_bytes app);
    }
