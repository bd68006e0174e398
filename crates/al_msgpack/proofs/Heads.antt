-- What the first byte says is what the lines of the table say.
use Rattle.std.proofs.Common.{◌≡◌, ℕ, ◌+◌, ◌-◌, ◌^◌, ◌<◌, ◌≤◌, Bool, true, false, cond, ltb, eqb, List, [], ◌∷◌, Some, None, refl, sym, ap, subst, ◌∙◌, arith, inl, inr, ◌⊎◌, zero-mul}
use Rattle.std.proofs.lemmas.Bool.{ltb-true, ltb-false, lt-ltb, le-ltb, eqb-true}
use Rattle.al_msgpack.specs.declared.head.Size.{Size}
use Rattle.al_msgpack.specs.declared.head.Size.TheVariants.{Fixed, Wide}
use Rattle.al_msgpack.specs.declared.head.Width.{Width}
use Rattle.al_msgpack.specs.declared.head.Width.TheVariants.{One, Two, Four, Eight}
use Rattle.al_msgpack.specs.declared.head.Head.{Head}
use Rattle.al_msgpack.specs.declared.head.Head.TheVariants.{Num, Flag, Str, Bin, List as HeadList, Map}
use Rattle.al_msgpack.specs.Heads.{head_at, high_head, count}
use Rattle.al_msgpack.specs.Grammar.{Spelling, digits}
use Rattle.al_msgpack.specs.Spelling as spell
use Rattle.al_msgpack.specs.Spelling.{Near, Far, NumIs, StringHead, BytesHead, ListHead, MapHead}
use Rattle.al_msgpack.proofs.Numbers.{DigitsOf}

abbrev pub SizeOf : Size → Spelling ℕ
SizeOf (Fixed m) n b = (n ≡ m) × (b ≡ [])
SizeOf (Wide w least) n b = DigitsOf (count w) 0 least n b

-- a first byte of this kind, and a size behind it
pub record Headed (K : Size → Head) (n : ℕ) (b : List ℕ) : Type 0 where
  pub first : ℕ
  pub behind : List ℕ
  pub size : Size
  pub small : first < 256
  pub is : b ≡ first ∷ behind
  pub kind : head_at first ≡ Some (K size)
  pub sized : SizeOf size n behind

-- what a line of the table says of a first byte and its size
pub record NearLine (base high h : ℕ) (size : Size) : Type 0 where
  pub low : base ≤ h
  pub below : h < high
  pub is : size ≡ Fixed (h - base)

pub record FarLine (head : ℕ) (w : Width) (least h : ℕ) (size : Size) : Type 0 where
  pub head_is : h ≡ head
  pub is : size ≡ Wide w least

pub data NumLine (h : ℕ) (size : Size) : Type 0 where
  num_0_line : NearLine 0 128 h size → NumLine h size
  num_1_line : FarLine 204 One 128 h size → NumLine h size
  num_2_line : FarLine 205 Two 256 h size → NumLine h size
  num_4_line : FarLine 206 Four 65536 h size → NumLine h size
  num_8_line : FarLine 207 Eight 4294967296 h size → NumLine h size

pub data StrLine (h : ℕ) (size : Size) : Type 0 where
  str_0_line : NearLine 160 192 h size → StrLine h size
  str_1_line : FarLine 217 One 32 h size → StrLine h size
  str_2_line : FarLine 218 Two 256 h size → StrLine h size
  str_4_line : FarLine 219 Four 65536 h size → StrLine h size

pub data BinLine (h : ℕ) (size : Size) : Type 0 where
  bin_1_line : FarLine 196 One 0 h size → BinLine h size
  bin_2_line : FarLine 197 Two 256 h size → BinLine h size
  bin_4_line : FarLine 198 Four 65536 h size → BinLine h size

pub data RowLine (h : ℕ) (size : Size) : Type 0 where
  list_0_line : NearLine 144 160 h size → RowLine h size
  list_2_line : FarLine 220 Two 16 h size → RowLine h size
  list_4_line : FarLine 221 Four 65536 h size → RowLine h size

pub data MapLine (h : ℕ) (size : Size) : Type 0 where
  map_0_line : NearLine 128 144 h size → MapLine h size
  map_2_line : FarLine 222 Two 16 h size → MapLine h size
  map_4_line : FarLine 223 Four 65536 h size → MapLine h size

abbrev pub LineOf : Head → ℕ → Type 0
LineOf (Num size) h = NumLine h size
LineOf (Str size) h = StrLine h size
LineOf (Bin size) h = BinLine h size
LineOf (HeadList size) h = RowLine h size
LineOf (Map size) h = MapLine h size
LineOf (Flag false) h = h ≡ 0xc2
LineOf (Flag true) h = h ≡ 0xc3

some_is : (x y : Head) → Some x ≡ Some y → x ≡ y
some_is x y e = cc

step : {A : Type 0} (t : Bool) (a b c : A) → cond t a b ≡ c → ((t ≡ true) × (a ≡ c)) ⊎ ((t ≡ false) × (b ≡ c))
step true a b c e = inl (refl, e)
step false a b c e = inr (refl, e)

leaf : (h : ℕ) (x y : Head) → Some y ≡ Some x → LineOf y h → LineOf x h
leaf h x y e line = subst (λ z. LineOf z h) (some_is y x e) line

high_16 : (h : ℕ) (x : Head) → None ≡ Some x → LineOf x h
high_16 h x e = absurd cc

high_15 : (h : ℕ) (x : Head) → cond (eqb h 223) (Some (Map (Wide Four 65536))) (None) ≡ Some x → LineOf x h
high_15 h x e = elim (step (eqb h 223) (Some (Map (Wide Four 65536))) _ (Some x) e) [
  | inl p ↦ leaf h x (Map (Wide Four 65536)) p.1 (map_4_line (record { head_is = eqb-true h 223 p.0; is = refl }))
  | inr p ↦ high_16 h x p.1
]

high_14 : (h : ℕ) (x : Head) → cond (eqb h 222) (Some (Map (Wide Two 16))) (cond (eqb h 223) (Some (Map (Wide Four 65536))) (None)) ≡ Some x → LineOf x h
high_14 h x e = elim (step (eqb h 222) (Some (Map (Wide Two 16))) _ (Some x) e) [
  | inl p ↦ leaf h x (Map (Wide Two 16)) p.1 (map_2_line (record { head_is = eqb-true h 222 p.0; is = refl }))
  | inr p ↦ high_15 h x p.1
]

high_13 : (h : ℕ) (x : Head) → cond (eqb h 221) (Some (HeadList (Wide Four 65536))) (cond (eqb h 222) (Some (Map (Wide Two 16))) (cond (eqb h 223) (Some (Map (Wide Four 65536))) (None))) ≡ Some x → LineOf x h
high_13 h x e = elim (step (eqb h 221) (Some (HeadList (Wide Four 65536))) _ (Some x) e) [
  | inl p ↦ leaf h x (HeadList (Wide Four 65536)) p.1 (list_4_line (record { head_is = eqb-true h 221 p.0; is = refl }))
  | inr p ↦ high_14 h x p.1
]

high_12 : (h : ℕ) (x : Head) → cond (eqb h 220) (Some (HeadList (Wide Two 16))) (cond (eqb h 221) (Some (HeadList (Wide Four 65536))) (cond (eqb h 222) (Some (Map (Wide Two 16))) (cond (eqb h 223) (Some (Map (Wide Four 65536))) (None)))) ≡ Some x → LineOf x h
high_12 h x e = elim (step (eqb h 220) (Some (HeadList (Wide Two 16))) _ (Some x) e) [
  | inl p ↦ leaf h x (HeadList (Wide Two 16)) p.1 (list_2_line (record { head_is = eqb-true h 220 p.0; is = refl }))
  | inr p ↦ high_13 h x p.1
]

high_11 : (h : ℕ) (x : Head) → cond (eqb h 219) (Some (Str (Wide Four 65536))) (cond (eqb h 220) (Some (HeadList (Wide Two 16))) (cond (eqb h 221) (Some (HeadList (Wide Four 65536))) (cond (eqb h 222) (Some (Map (Wide Two 16))) (cond (eqb h 223) (Some (Map (Wide Four 65536))) (None))))) ≡ Some x → LineOf x h
high_11 h x e = elim (step (eqb h 219) (Some (Str (Wide Four 65536))) _ (Some x) e) [
  | inl p ↦ leaf h x (Str (Wide Four 65536)) p.1 (str_4_line (record { head_is = eqb-true h 219 p.0; is = refl }))
  | inr p ↦ high_12 h x p.1
]

high_10 : (h : ℕ) (x : Head) → cond (eqb h 218) (Some (Str (Wide Two 256))) (cond (eqb h 219) (Some (Str (Wide Four 65536))) (cond (eqb h 220) (Some (HeadList (Wide Two 16))) (cond (eqb h 221) (Some (HeadList (Wide Four 65536))) (cond (eqb h 222) (Some (Map (Wide Two 16))) (cond (eqb h 223) (Some (Map (Wide Four 65536))) (None)))))) ≡ Some x → LineOf x h
high_10 h x e = elim (step (eqb h 218) (Some (Str (Wide Two 256))) _ (Some x) e) [
  | inl p ↦ leaf h x (Str (Wide Two 256)) p.1 (str_2_line (record { head_is = eqb-true h 218 p.0; is = refl }))
  | inr p ↦ high_11 h x p.1
]

high_9 : (h : ℕ) (x : Head) → cond (eqb h 217) (Some (Str (Wide One 32))) (cond (eqb h 218) (Some (Str (Wide Two 256))) (cond (eqb h 219) (Some (Str (Wide Four 65536))) (cond (eqb h 220) (Some (HeadList (Wide Two 16))) (cond (eqb h 221) (Some (HeadList (Wide Four 65536))) (cond (eqb h 222) (Some (Map (Wide Two 16))) (cond (eqb h 223) (Some (Map (Wide Four 65536))) (None))))))) ≡ Some x → LineOf x h
high_9 h x e = elim (step (eqb h 217) (Some (Str (Wide One 32))) _ (Some x) e) [
  | inl p ↦ leaf h x (Str (Wide One 32)) p.1 (str_1_line (record { head_is = eqb-true h 217 p.0; is = refl }))
  | inr p ↦ high_10 h x p.1
]

high_8 : (h : ℕ) (x : Head) → cond (eqb h 207) (Some (Num (Wide Eight 4294967296))) (cond (eqb h 217) (Some (Str (Wide One 32))) (cond (eqb h 218) (Some (Str (Wide Two 256))) (cond (eqb h 219) (Some (Str (Wide Four 65536))) (cond (eqb h 220) (Some (HeadList (Wide Two 16))) (cond (eqb h 221) (Some (HeadList (Wide Four 65536))) (cond (eqb h 222) (Some (Map (Wide Two 16))) (cond (eqb h 223) (Some (Map (Wide Four 65536))) (None)))))))) ≡ Some x → LineOf x h
high_8 h x e = elim (step (eqb h 207) (Some (Num (Wide Eight 4294967296))) _ (Some x) e) [
  | inl p ↦ leaf h x (Num (Wide Eight 4294967296)) p.1 (num_8_line (record { head_is = eqb-true h 207 p.0; is = refl }))
  | inr p ↦ high_9 h x p.1
]

high_7 : (h : ℕ) (x : Head) → cond (eqb h 206) (Some (Num (Wide Four 65536))) (cond (eqb h 207) (Some (Num (Wide Eight 4294967296))) (cond (eqb h 217) (Some (Str (Wide One 32))) (cond (eqb h 218) (Some (Str (Wide Two 256))) (cond (eqb h 219) (Some (Str (Wide Four 65536))) (cond (eqb h 220) (Some (HeadList (Wide Two 16))) (cond (eqb h 221) (Some (HeadList (Wide Four 65536))) (cond (eqb h 222) (Some (Map (Wide Two 16))) (cond (eqb h 223) (Some (Map (Wide Four 65536))) (None))))))))) ≡ Some x → LineOf x h
high_7 h x e = elim (step (eqb h 206) (Some (Num (Wide Four 65536))) _ (Some x) e) [
  | inl p ↦ leaf h x (Num (Wide Four 65536)) p.1 (num_4_line (record { head_is = eqb-true h 206 p.0; is = refl }))
  | inr p ↦ high_8 h x p.1
]

high_6 : (h : ℕ) (x : Head) → cond (eqb h 205) (Some (Num (Wide Two 256))) (cond (eqb h 206) (Some (Num (Wide Four 65536))) (cond (eqb h 207) (Some (Num (Wide Eight 4294967296))) (cond (eqb h 217) (Some (Str (Wide One 32))) (cond (eqb h 218) (Some (Str (Wide Two 256))) (cond (eqb h 219) (Some (Str (Wide Four 65536))) (cond (eqb h 220) (Some (HeadList (Wide Two 16))) (cond (eqb h 221) (Some (HeadList (Wide Four 65536))) (cond (eqb h 222) (Some (Map (Wide Two 16))) (cond (eqb h 223) (Some (Map (Wide Four 65536))) (None)))))))))) ≡ Some x → LineOf x h
high_6 h x e = elim (step (eqb h 205) (Some (Num (Wide Two 256))) _ (Some x) e) [
  | inl p ↦ leaf h x (Num (Wide Two 256)) p.1 (num_2_line (record { head_is = eqb-true h 205 p.0; is = refl }))
  | inr p ↦ high_7 h x p.1
]

high_5 : (h : ℕ) (x : Head) → cond (eqb h 204) (Some (Num (Wide One 128))) (cond (eqb h 205) (Some (Num (Wide Two 256))) (cond (eqb h 206) (Some (Num (Wide Four 65536))) (cond (eqb h 207) (Some (Num (Wide Eight 4294967296))) (cond (eqb h 217) (Some (Str (Wide One 32))) (cond (eqb h 218) (Some (Str (Wide Two 256))) (cond (eqb h 219) (Some (Str (Wide Four 65536))) (cond (eqb h 220) (Some (HeadList (Wide Two 16))) (cond (eqb h 221) (Some (HeadList (Wide Four 65536))) (cond (eqb h 222) (Some (Map (Wide Two 16))) (cond (eqb h 223) (Some (Map (Wide Four 65536))) (None))))))))))) ≡ Some x → LineOf x h
high_5 h x e = elim (step (eqb h 204) (Some (Num (Wide One 128))) _ (Some x) e) [
  | inl p ↦ leaf h x (Num (Wide One 128)) p.1 (num_1_line (record { head_is = eqb-true h 204 p.0; is = refl }))
  | inr p ↦ high_6 h x p.1
]

high_4 : (h : ℕ) (x : Head) → cond (eqb h 198) (Some (Bin (Wide Four 65536))) (cond (eqb h 204) (Some (Num (Wide One 128))) (cond (eqb h 205) (Some (Num (Wide Two 256))) (cond (eqb h 206) (Some (Num (Wide Four 65536))) (cond (eqb h 207) (Some (Num (Wide Eight 4294967296))) (cond (eqb h 217) (Some (Str (Wide One 32))) (cond (eqb h 218) (Some (Str (Wide Two 256))) (cond (eqb h 219) (Some (Str (Wide Four 65536))) (cond (eqb h 220) (Some (HeadList (Wide Two 16))) (cond (eqb h 221) (Some (HeadList (Wide Four 65536))) (cond (eqb h 222) (Some (Map (Wide Two 16))) (cond (eqb h 223) (Some (Map (Wide Four 65536))) (None)))))))))))) ≡ Some x → LineOf x h
high_4 h x e = elim (step (eqb h 198) (Some (Bin (Wide Four 65536))) _ (Some x) e) [
  | inl p ↦ leaf h x (Bin (Wide Four 65536)) p.1 (bin_4_line (record { head_is = eqb-true h 198 p.0; is = refl }))
  | inr p ↦ high_5 h x p.1
]

high_3 : (h : ℕ) (x : Head) → cond (eqb h 197) (Some (Bin (Wide Two 256))) (cond (eqb h 198) (Some (Bin (Wide Four 65536))) (cond (eqb h 204) (Some (Num (Wide One 128))) (cond (eqb h 205) (Some (Num (Wide Two 256))) (cond (eqb h 206) (Some (Num (Wide Four 65536))) (cond (eqb h 207) (Some (Num (Wide Eight 4294967296))) (cond (eqb h 217) (Some (Str (Wide One 32))) (cond (eqb h 218) (Some (Str (Wide Two 256))) (cond (eqb h 219) (Some (Str (Wide Four 65536))) (cond (eqb h 220) (Some (HeadList (Wide Two 16))) (cond (eqb h 221) (Some (HeadList (Wide Four 65536))) (cond (eqb h 222) (Some (Map (Wide Two 16))) (cond (eqb h 223) (Some (Map (Wide Four 65536))) (None))))))))))))) ≡ Some x → LineOf x h
high_3 h x e = elim (step (eqb h 197) (Some (Bin (Wide Two 256))) _ (Some x) e) [
  | inl p ↦ leaf h x (Bin (Wide Two 256)) p.1 (bin_2_line (record { head_is = eqb-true h 197 p.0; is = refl }))
  | inr p ↦ high_4 h x p.1
]

high_2 : (h : ℕ) (x : Head) → cond (eqb h 196) (Some (Bin (Wide One 0))) (cond (eqb h 197) (Some (Bin (Wide Two 256))) (cond (eqb h 198) (Some (Bin (Wide Four 65536))) (cond (eqb h 204) (Some (Num (Wide One 128))) (cond (eqb h 205) (Some (Num (Wide Two 256))) (cond (eqb h 206) (Some (Num (Wide Four 65536))) (cond (eqb h 207) (Some (Num (Wide Eight 4294967296))) (cond (eqb h 217) (Some (Str (Wide One 32))) (cond (eqb h 218) (Some (Str (Wide Two 256))) (cond (eqb h 219) (Some (Str (Wide Four 65536))) (cond (eqb h 220) (Some (HeadList (Wide Two 16))) (cond (eqb h 221) (Some (HeadList (Wide Four 65536))) (cond (eqb h 222) (Some (Map (Wide Two 16))) (cond (eqb h 223) (Some (Map (Wide Four 65536))) (None)))))))))))))) ≡ Some x → LineOf x h
high_2 h x e = elim (step (eqb h 196) (Some (Bin (Wide One 0))) _ (Some x) e) [
  | inl p ↦ leaf h x (Bin (Wide One 0)) p.1 (bin_1_line (record { head_is = eqb-true h 196 p.0; is = refl }))
  | inr p ↦ high_3 h x p.1
]

high_1 : (h : ℕ) (x : Head) → cond (eqb h 195) (Some (Flag true)) (cond (eqb h 196) (Some (Bin (Wide One 0))) (cond (eqb h 197) (Some (Bin (Wide Two 256))) (cond (eqb h 198) (Some (Bin (Wide Four 65536))) (cond (eqb h 204) (Some (Num (Wide One 128))) (cond (eqb h 205) (Some (Num (Wide Two 256))) (cond (eqb h 206) (Some (Num (Wide Four 65536))) (cond (eqb h 207) (Some (Num (Wide Eight 4294967296))) (cond (eqb h 217) (Some (Str (Wide One 32))) (cond (eqb h 218) (Some (Str (Wide Two 256))) (cond (eqb h 219) (Some (Str (Wide Four 65536))) (cond (eqb h 220) (Some (HeadList (Wide Two 16))) (cond (eqb h 221) (Some (HeadList (Wide Four 65536))) (cond (eqb h 222) (Some (Map (Wide Two 16))) (cond (eqb h 223) (Some (Map (Wide Four 65536))) (None))))))))))))))) ≡ Some x → LineOf x h
high_1 h x e = elim (step (eqb h 195) (Some (Flag true)) _ (Some x) e) [
  | inl p ↦ leaf h x (Flag true) p.1 (eqb-true h 195 p.0)
  | inr p ↦ high_2 h x p.1
]

high_0 : (h : ℕ) (x : Head) → cond (eqb h 194) (Some (Flag false)) (cond (eqb h 195) (Some (Flag true)) (cond (eqb h 196) (Some (Bin (Wide One 0))) (cond (eqb h 197) (Some (Bin (Wide Two 256))) (cond (eqb h 198) (Some (Bin (Wide Four 65536))) (cond (eqb h 204) (Some (Num (Wide One 128))) (cond (eqb h 205) (Some (Num (Wide Two 256))) (cond (eqb h 206) (Some (Num (Wide Four 65536))) (cond (eqb h 207) (Some (Num (Wide Eight 4294967296))) (cond (eqb h 217) (Some (Str (Wide One 32))) (cond (eqb h 218) (Some (Str (Wide Two 256))) (cond (eqb h 219) (Some (Str (Wide Four 65536))) (cond (eqb h 220) (Some (HeadList (Wide Two 16))) (cond (eqb h 221) (Some (HeadList (Wide Four 65536))) (cond (eqb h 222) (Some (Map (Wide Two 16))) (cond (eqb h 223) (Some (Map (Wide Four 65536))) (None)))))))))))))))) ≡ Some x → LineOf x h
high_0 h x e = elim (step (eqb h 194) (Some (Flag false)) _ (Some x) e) [
  | inl p ↦ leaf h x (Flag false) p.1 (eqb-true h 194 p.0)
  | inr p ↦ high_1 h x p.1
]

low_4 : (h : ℕ) (x : Head) → high_head h ≡ Some x → LineOf x h
low_4 h x e = high_0 h x e

low_3 : (h : ℕ) (x : Head) → 160 ≤ h → cond (ltb h 192) (Some (Str (Fixed (h - 160)))) (high_head h) ≡ Some x → LineOf x h
low_3 h x ge e = elim (step (ltb h 192) (Some (Str (Fixed (h - 160)))) _ (Some x) e) [
  | inl p ↦ leaf h x (Str (Fixed (h - 160))) p.1 (str_0_line (record { low = ge; below = ltb-true h 192 p.0; is = refl }))
  | inr p ↦ low_4 h x p.1
]

low_2 : (h : ℕ) (x : Head) → 144 ≤ h → cond (ltb h 160) (Some (HeadList (Fixed (h - 144)))) (cond (ltb h 192) (Some (Str (Fixed (h - 160)))) (high_head h)) ≡ Some x → LineOf x h
low_2 h x ge e = elim (step (ltb h 160) (Some (HeadList (Fixed (h - 144)))) _ (Some x) e) [
  | inl p ↦ leaf h x (HeadList (Fixed (h - 144))) p.1 (list_0_line (record { low = ge; below = ltb-true h 160 p.0; is = refl }))
  | inr p ↦ low_3 h x (ltb-false h 160 p.0) p.1
]

low_1 : (h : ℕ) (x : Head) → 128 ≤ h → cond (ltb h 144) (Some (Map (Fixed (h - 128)))) (cond (ltb h 160) (Some (HeadList (Fixed (h - 144)))) (cond (ltb h 192) (Some (Str (Fixed (h - 160)))) (high_head h))) ≡ Some x → LineOf x h
low_1 h x ge e = elim (step (ltb h 144) (Some (Map (Fixed (h - 128)))) _ (Some x) e) [
  | inl p ↦ leaf h x (Map (Fixed (h - 128))) p.1 (map_0_line (record { low = ge; below = ltb-true h 144 p.0; is = refl }))
  | inr p ↦ low_2 h x (ltb-false h 144 p.0) p.1
]

low_0 : (h : ℕ) (x : Head) → 0 ≤ h → cond (ltb h 128) (Some (Num (Fixed h))) (cond (ltb h 144) (Some (Map (Fixed (h - 128)))) (cond (ltb h 160) (Some (HeadList (Fixed (h - 144)))) (cond (ltb h 192) (Some (Str (Fixed (h - 160)))) (high_head h)))) ≡ Some x → LineOf x h
low_0 h x ge e = elim (step (ltb h 128) (Some (Num (Fixed h))) _ (Some x) e) [
  | inl p ↦ leaf h x (Num (Fixed h)) p.1 (num_0_line (record { low = ge; below = ltb-true h 128 p.0; is = ap Fixed (omega arith) }))
  | inr p ↦ low_1 h x (ltb-false h 128 p.0) p.1
]

pub line_of : (h : ℕ) (x : Head) → head_at h ≡ Some x → LineOf x h
unfolding head_at
line_of h x e = low_0 h x (omega arith) e

at_num_0 : (n : ℕ) → n < 128 → head_at (0 + n) ≡ Some (Num (Fixed n))
unfolding head_at
at_num_0 n lt =
    let back : 0 + n ≡ n = omega arith in
    rw (back, lt-ltb n 128 lt) refl

at_num_1 : head_at 204 ≡ Some (Num (Wide One 128))
unfolding head_at
at_num_1 = refl

at_num_2 : head_at 205 ≡ Some (Num (Wide Two 256))
unfolding head_at
at_num_2 = refl

at_num_4 : head_at 206 ≡ Some (Num (Wide Four 65536))
unfolding head_at
at_num_4 = refl

at_num_8 : head_at 207 ≡ Some (Num (Wide Eight 4294967296))
unfolding head_at
at_num_8 = refl

at_str_0 : (n : ℕ) → n < 32 → head_at (160 + n) ≡ Some (Str (Fixed n))
unfolding head_at
at_str_0 n lt =
    let back : (160 + n) - 160 ≡ n = omega arith in
    rw (le-ltb (160 + n) 128 (omega arith), le-ltb (160 + n) 144 (omega arith), le-ltb (160 + n) 160 (omega arith), lt-ltb (160 + n) 192 (omega arith), back) refl

at_str_1 : head_at 217 ≡ Some (Str (Wide One 32))
unfolding head_at
at_str_1 = refl

at_str_2 : head_at 218 ≡ Some (Str (Wide Two 256))
unfolding head_at
at_str_2 = refl

pub at_str_4 : head_at 219 ≡ Some (Str (Wide Four 65536))
unfolding head_at
at_str_4 = refl

at_bin_1 : head_at 196 ≡ Some (Bin (Wide One 0))
unfolding head_at
at_bin_1 = refl

at_bin_2 : head_at 197 ≡ Some (Bin (Wide Two 256))
unfolding head_at
at_bin_2 = refl

at_bin_4 : head_at 198 ≡ Some (Bin (Wide Four 65536))
unfolding head_at
at_bin_4 = refl

at_list_0 : (n : ℕ) → n < 16 → head_at (144 + n) ≡ Some (HeadList (Fixed n))
unfolding head_at
at_list_0 n lt =
    let back : (144 + n) - 144 ≡ n = omega arith in
    rw (le-ltb (144 + n) 128 (omega arith), le-ltb (144 + n) 144 (omega arith), lt-ltb (144 + n) 160 (omega arith), back) refl

at_list_2 : head_at 220 ≡ Some (HeadList (Wide Two 16))
unfolding head_at
at_list_2 = refl

at_list_4 : head_at 221 ≡ Some (HeadList (Wide Four 65536))
unfolding head_at
at_list_4 = refl

at_map_0 : (n : ℕ) → n < 16 → head_at (128 + n) ≡ Some (Map (Fixed n))
unfolding head_at
at_map_0 n lt =
    let back : (128 + n) - 128 ≡ n = omega arith in
    rw (le-ltb (128 + n) 128 (omega arith), lt-ltb (128 + n) 144 (omega arith), back) refl

at_map_2 : head_at 222 ≡ Some (Map (Wide Two 16))
unfolding head_at
at_map_2 = refl

at_map_4 : head_at 223 ≡ Some (Map (Wide Four 65536))
unfolding head_at
at_map_4 = refl

near_headed : (K : Size → Head) (base high n : ℕ) (b : List ℕ) → base + high ≤ 256 → Near base high n b → head_at (base + n) ≡ Some (K (Fixed n)) → Headed K n b
near_headed K base high n b room p at = record { first = base + n; behind = []; size = Fixed n; small = omega (arith, p.below); is = p.is; kind = at; sized = (refl, refl) }

far_headed : (K : Size → Head) (head low n : ℕ) (w : Width) (b : List ℕ) → head < 256 → Far head (count w) low n b → head_at head ≡ Some (K (Wide w low)) → Headed K n b
far_headed K head low n w b small p at = record { first = head; behind = digits (count w) n; size = Wide w low; small = small; is = p.is; kind = at; sized = (n, p.fits, omega (arith, zero-mul (256 ^ count w)), refl, p.shortest) }

near_is : (base high top n h : ℕ) (size : Size) (b c : List ℕ) → top ≡ base + high → NearLine base top h size → b ≡ h ∷ c → SizeOf size n c → Near base high n b
near_is base high top n h size b c room line is sized =
    let q : (n ≡ h - base) × (c ≡ []) = subst (λ z. SizeOf z n c) line.is sized in
    let back : h ≡ base + n = omega (arith, q.0, line.low) in
    record { below = omega (arith, q.0, line.below, line.low); is = is ∙ ap (λ z. h ∷ z) q.1 ∙ ap (λ z. z ∷ []) back }

far_is : (head low n h : ℕ) (w : Width) (size : Size) (b c : List ℕ) → FarLine head w low h size → b ≡ h ∷ c → SizeOf size n c → Far head (count w) low n b
far_is head low n h w size b c line is sized =
    let q : DigitsOf (count w) 0 low n c = subst (λ z. SizeOf z n c) line.is sized in
    let n-is : n ≡ q.0 = q.2 ∙ omega (arith, zero-mul (256 ^ count w)) in
    record { shortest = q.4; fits = subst (λ z. z < 256 ^ count w) (sym n-is) q.1; is = is ∙ ap (λ z. z ∷ c) line.head_is ∙ ap (λ z. head ∷ z) (q.3 ∙ ap (λ z. digits (count w) z) (sym n-is)) }

pub Num_headed : (n : ℕ) (b : List ℕ) → NumIs n b → Headed Num n b
Num_headed n b (spell.num_0 p) = near_headed Num 0 128 n b (omega arith) p (at_num_0 n p.below)
Num_headed n b (spell.num_1 p) = far_headed Num 204 128 n One b (omega arith) p at_num_1
Num_headed n b (spell.num_2 p) = far_headed Num 205 256 n Two b (omega arith) p at_num_2
Num_headed n b (spell.num_4 p) = far_headed Num 206 65536 n Four b (omega arith) p at_num_4
Num_headed n b (spell.num_8 p) = far_headed Num 207 4294967296 n Eight b (omega arith) p at_num_8

Num_by : (n h : ℕ) (size : Size) (b c : List ℕ) → NumLine h size → b ≡ h ∷ c → SizeOf size n c → NumIs n b
Num_by n h size b c (num_0_line p) is sized = spell.num_0 (near_is 0 128 128 n h size b c (omega arith) p is sized)
Num_by n h size b c (num_1_line p) is sized = spell.num_1 (far_is 204 128 n h One size b c p is sized)
Num_by n h size b c (num_2_line p) is sized = spell.num_2 (far_is 205 256 n h Two size b c p is sized)
Num_by n h size b c (num_4_line p) is sized = spell.num_4 (far_is 206 65536 n h Four size b c p is sized)
Num_by n h size b c (num_8_line p) is sized = spell.num_8 (far_is 207 4294967296 n h Eight size b c p is sized)

pub Num_is : (n h : ℕ) (size : Size) (b c : List ℕ) → head_at h ≡ Some (Num size) → b ≡ h ∷ c → SizeOf size n c → NumIs n b
Num_is n h size b c at is sized = Num_by n h size b c (line_of h (Num size) at) is sized

pub Str_headed : (n : ℕ) (b : List ℕ) → StringHead n b → Headed Str n b
Str_headed n b (spell.str_0 p) = near_headed Str 160 32 n b (omega arith) p (at_str_0 n p.below)
Str_headed n b (spell.str_1 p) = far_headed Str 217 32 n One b (omega arith) p at_str_1
Str_headed n b (spell.str_2 p) = far_headed Str 218 256 n Two b (omega arith) p at_str_2
Str_headed n b (spell.str_4 p) = far_headed Str 219 65536 n Four b (omega arith) p at_str_4

Str_by : (n h : ℕ) (size : Size) (b c : List ℕ) → StrLine h size → b ≡ h ∷ c → SizeOf size n c → StringHead n b
Str_by n h size b c (str_0_line p) is sized = spell.str_0 (near_is 160 32 192 n h size b c (omega arith) p is sized)
Str_by n h size b c (str_1_line p) is sized = spell.str_1 (far_is 217 32 n h One size b c p is sized)
Str_by n h size b c (str_2_line p) is sized = spell.str_2 (far_is 218 256 n h Two size b c p is sized)
Str_by n h size b c (str_4_line p) is sized = spell.str_4 (far_is 219 65536 n h Four size b c p is sized)

pub Str_is : (n h : ℕ) (size : Size) (b c : List ℕ) → head_at h ≡ Some (Str size) → b ≡ h ∷ c → SizeOf size n c → StringHead n b
Str_is n h size b c at is sized = Str_by n h size b c (line_of h (Str size) at) is sized

pub Bin_headed : (n : ℕ) (b : List ℕ) → BytesHead n b → Headed Bin n b
Bin_headed n b (spell.bin_1 p) = far_headed Bin 196 0 n One b (omega arith) p at_bin_1
Bin_headed n b (spell.bin_2 p) = far_headed Bin 197 256 n Two b (omega arith) p at_bin_2
Bin_headed n b (spell.bin_4 p) = far_headed Bin 198 65536 n Four b (omega arith) p at_bin_4

Bin_by : (n h : ℕ) (size : Size) (b c : List ℕ) → BinLine h size → b ≡ h ∷ c → SizeOf size n c → BytesHead n b
Bin_by n h size b c (bin_1_line p) is sized = spell.bin_1 (far_is 196 0 n h One size b c p is sized)
Bin_by n h size b c (bin_2_line p) is sized = spell.bin_2 (far_is 197 256 n h Two size b c p is sized)
Bin_by n h size b c (bin_4_line p) is sized = spell.bin_4 (far_is 198 65536 n h Four size b c p is sized)

pub Bin_is : (n h : ℕ) (size : Size) (b c : List ℕ) → head_at h ≡ Some (Bin size) → b ≡ h ∷ c → SizeOf size n c → BytesHead n b
Bin_is n h size b c at is sized = Bin_by n h size b c (line_of h (Bin size) at) is sized

pub Row_headed : (n : ℕ) (b : List ℕ) → ListHead n b → Headed HeadList n b
Row_headed n b (spell.list_0 p) = near_headed HeadList 144 16 n b (omega arith) p (at_list_0 n p.below)
Row_headed n b (spell.list_2 p) = far_headed HeadList 220 16 n Two b (omega arith) p at_list_2
Row_headed n b (spell.list_4 p) = far_headed HeadList 221 65536 n Four b (omega arith) p at_list_4

Row_by : (n h : ℕ) (size : Size) (b c : List ℕ) → RowLine h size → b ≡ h ∷ c → SizeOf size n c → ListHead n b
Row_by n h size b c (list_0_line p) is sized = spell.list_0 (near_is 144 16 160 n h size b c (omega arith) p is sized)
Row_by n h size b c (list_2_line p) is sized = spell.list_2 (far_is 220 16 n h Two size b c p is sized)
Row_by n h size b c (list_4_line p) is sized = spell.list_4 (far_is 221 65536 n h Four size b c p is sized)

pub Row_is : (n h : ℕ) (size : Size) (b c : List ℕ) → head_at h ≡ Some (HeadList size) → b ≡ h ∷ c → SizeOf size n c → ListHead n b
Row_is n h size b c at is sized = Row_by n h size b c (line_of h (HeadList size) at) is sized

pub Map_headed : (n : ℕ) (b : List ℕ) → MapHead n b → Headed Map n b
Map_headed n b (spell.map_0 p) = near_headed Map 128 16 n b (omega arith) p (at_map_0 n p.below)
Map_headed n b (spell.map_2 p) = far_headed Map 222 16 n Two b (omega arith) p at_map_2
Map_headed n b (spell.map_4 p) = far_headed Map 223 65536 n Four b (omega arith) p at_map_4

Map_by : (n h : ℕ) (size : Size) (b c : List ℕ) → MapLine h size → b ≡ h ∷ c → SizeOf size n c → MapHead n b
Map_by n h size b c (map_0_line p) is sized = spell.map_0 (near_is 128 16 144 n h size b c (omega arith) p is sized)
Map_by n h size b c (map_2_line p) is sized = spell.map_2 (far_is 222 16 n h Two size b c p is sized)
Map_by n h size b c (map_4_line p) is sized = spell.map_4 (far_is 223 65536 n h Four size b c p is sized)

pub Map_is : (n h : ℕ) (size : Size) (b c : List ℕ) → head_at h ≡ Some (Map size) → b ≡ h ∷ c → SizeOf size n c → MapHead n b
Map_is n h size b c at is sized = Map_by n h size b c (line_of h (Map size) at) is sized

-- a size that some number has
abbrev pub IsSize : Size → Type 0
IsSize (Fixed m) = Unit {0}
IsSize (Wide w least) = least < 256 ^ count w

near_fits : (base high h : ℕ) (size : Size) → NearLine base high h size → IsSize size
near_fits base high h size p = subst (λ z. IsSize z) (sym p.is) tt

far_fits : (head least h : ℕ) (w : Width) (size : Size) → least < 256 ^ count w → FarLine head w least h size → IsSize size
far_fits head least h w size lt p = subst (λ z. IsSize z) (sym p.is) lt

Num_sized : (h : ℕ) (size : Size) → NumLine h size → IsSize size
Num_sized h size (num_0_line p) = near_fits 0 128 h size p
Num_sized h size (num_1_line p) = far_fits 204 128 h One size (omega arith) p
Num_sized h size (num_2_line p) = far_fits 205 256 h Two size (omega arith) p
Num_sized h size (num_4_line p) = far_fits 206 65536 h Four size (omega arith) p
Num_sized h size (num_8_line p) = far_fits 207 4294967296 h Eight size (omega arith) p

pub Num_fits : (h : ℕ) (size : Size) → head_at h ≡ Some (Num size) → IsSize size
Num_fits h size at = Num_sized h size (line_of h (Num size) at)

Str_sized : (h : ℕ) (size : Size) → StrLine h size → IsSize size
Str_sized h size (str_0_line p) = near_fits 160 192 h size p
Str_sized h size (str_1_line p) = far_fits 217 32 h One size (omega arith) p
Str_sized h size (str_2_line p) = far_fits 218 256 h Two size (omega arith) p
Str_sized h size (str_4_line p) = far_fits 219 65536 h Four size (omega arith) p

pub Str_fits : (h : ℕ) (size : Size) → head_at h ≡ Some (Str size) → IsSize size
Str_fits h size at = Str_sized h size (line_of h (Str size) at)

Bin_sized : (h : ℕ) (size : Size) → BinLine h size → IsSize size
Bin_sized h size (bin_1_line p) = far_fits 196 0 h One size (omega arith) p
Bin_sized h size (bin_2_line p) = far_fits 197 256 h Two size (omega arith) p
Bin_sized h size (bin_4_line p) = far_fits 198 65536 h Four size (omega arith) p

pub Bin_fits : (h : ℕ) (size : Size) → head_at h ≡ Some (Bin size) → IsSize size
Bin_fits h size at = Bin_sized h size (line_of h (Bin size) at)

Row_sized : (h : ℕ) (size : Size) → RowLine h size → IsSize size
Row_sized h size (list_0_line p) = near_fits 144 160 h size p
Row_sized h size (list_2_line p) = far_fits 220 16 h Two size (omega arith) p
Row_sized h size (list_4_line p) = far_fits 221 65536 h Four size (omega arith) p

pub Row_fits : (h : ℕ) (size : Size) → head_at h ≡ Some (HeadList size) → IsSize size
Row_fits h size at = Row_sized h size (line_of h (HeadList size) at)

Map_sized : (h : ℕ) (size : Size) → MapLine h size → IsSize size
Map_sized h size (map_0_line p) = near_fits 128 144 h size p
Map_sized h size (map_2_line p) = far_fits 222 16 h Two size (omega arith) p
Map_sized h size (map_4_line p) = far_fits 223 65536 h Four size (omega arith) p

pub Map_fits : (h : ℕ) (size : Size) → head_at h ≡ Some (Map size) → IsSize size
Map_fits h size at = Map_sized h size (line_of h (Map size) at)
