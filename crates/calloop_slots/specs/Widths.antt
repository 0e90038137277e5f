-- The number of bits in each part of a token, and what follows from it. Definitions and proofs use these names, and the
-- code uses the constants of src/widths.rt: to change a width, change its number here and there.
-- `widths_are_the_contracts` says that both agree.
use Rattle.std.specs.Prelude.{ℕ, ◌+◌, ◌/◌, ◌^◌}

-- the bits of a slot's number, of a version and of a sub-id: calloop's TokenInner has 32, 16 and 16. A key has 64
abbrev pub slot_bits : ℕ
slot_bits = 24

abbrev pub version_bits : ℕ
version_bits = 24

abbrev pub part_bits : ℕ
part_bits = 16

-- how many slots a list has at most
abbrev pub most_slots : ℕ
most_slots = 2 ^ slot_bits

-- after this many further uses a slot has the same version again
abbrev pub versions : ℕ
versions = 2 ^ version_bits

-- how many sub-ids there are
abbrev pub parts : ℕ
parts = 2 ^ part_bits

-- how many words of 64 bits have a bit for each of the slots
abbrev pub most_words : ℕ
most_words = most_slots / 64

-- how many levels of such words lead from one word to the bits of all slots, 6 bits of a slot's number on each
abbrev pub level_count : ℕ
level_count = (slot_bits + 5) / 6
