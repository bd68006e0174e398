-- Passed on from the format's crate: maps whose keys rise at each level.
pub use Rattle.al_msgpack.specs.Rising.{rises, keys, canonical, are_canonical}
