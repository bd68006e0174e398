-- What a first byte says.
use Rattle.std.specs.Prelude.{ℕ, ◌-◌, ◌^◌, max, Bool, true, false, Option, Some, None, if◌then◌else◌, nat_lt, nat_le, ◌==◌}
use Rattle.al_msgpack.specs.declared.head.Size.{Size}
use Rattle.al_msgpack.specs.declared.head.Size.TheVariants.{Fixed, Wide}
use Rattle.al_msgpack.specs.declared.head.Width.{Width}
use Rattle.al_msgpack.specs.declared.head.Width.TheVariants.{One, Two, Four, Eight}
use Rattle.al_msgpack.specs.declared.head.Head.{Head}
use Rattle.al_msgpack.specs.declared.head.Head.TheVariants.{Num, Flag, Str, Bin, List, Map}

-- bytes from c0 up
abbrev pub high_head : ℕ → Option Head
high_head b =
    if b == 0xc2 then Some (Flag false) else
    if b == 0xc3 then Some (Flag true) else
    if b == 0xc4 then Some (Bin (Wide One 0)) else
    if b == 0xc5 then Some (Bin (Wide Two 0x100)) else
    if b == 0xc6 then Some (Bin (Wide Four 0x10000)) else
    if b == 0xcc then Some (Num (Wide One 0x80)) else
    if b == 0xcd then Some (Num (Wide Two 0x100)) else
    if b == 0xce then Some (Num (Wide Four 0x10000)) else
    if b == 0xcf then Some (Num (Wide Eight 0x100000000)) else
    if b == 0xd9 then Some (Str (Wide One 32)) else
    if b == 0xda then Some (Str (Wide Two 0x100)) else
    if b == 0xdb then Some (Str (Wide Four 0x10000)) else
    if b == 0xdc then Some (List (Wide Two 16)) else
    if b == 0xdd then Some (List (Wide Four 0x10000)) else
    if b == 0xde then Some (Map (Wide Two 16)) else
    if b == 0xdf then Some (Map (Wide Four 0x10000)) else None

unfoldable pub head_at : ℕ → Option Head
head_at b =
    if nat_lt b 0x80 then Some (Num (Fixed b)) else
    if nat_lt b 0x90 then Some (Map (Fixed (b - 0x80))) else
    if nat_lt b 0xa0 then Some (List (Fixed (b - 0x90))) else
    if nat_lt b 0xc0 then Some (Str (Fixed (b - 0xa0))) else high_head b

abbrev pub count : Width → ℕ
count One = 1
count Two = 2
count Four = 4
count Eight = 8

-- some size is at least so much
abbrev pub reaches : ℕ → Size → Bool
reaches floor (Fixed n) = nat_le floor n
reaches floor (Wide k least) = nat_lt floor (256 ^ count k)

-- the sizes that are at least so much
abbrev pub raised : ℕ → Size → Size
raised floor (Fixed n) = Fixed n
raised floor (Wide k least) = Wide k (max floor least)

-- a container is open only above depth 0
abbrev pub is_open : ℕ → Head → Bool
is_open depth (List size) = nat_lt 0 depth
is_open depth (Map size) = nat_lt 0 depth
is_open depth (Num size) = true
is_open depth (Flag b) = true
is_open depth (Str size) = true
is_open depth (Bin size) = true

-- the sizes of a key whose length is at least so much
abbrev pub raised_if : Bool → ℕ → Size → Option Size
raised_if true floor size = Some (raised floor size)
raised_if false floor size = None

abbrev pub key_size : ℕ → Option Head → Option Size
key_size floor None = None
key_size floor (Some (Str size)) = raised_if (reaches floor size) floor size
key_size floor (Some (Num size)) = None
key_size floor (Some (Flag b)) = None
key_size floor (Some (Bin size)) = None
key_size floor (Some (List size)) = None
key_size floor (Some (Map size)) = None
