-- The limits of demand 3, in document 01's numbers: these are the theorem's own, and no definition of the model cites them.
-- Assumes nothing.
use Rattle.std.specs.Prelude.{ℕ, ◌-◌, ◌^◌}

-- carried rows, at most, and the cells that a carried area has where P gets its share
abbrev pub max_carried : ℕ
max_carried = 256

abbrev pub max_cells : ℕ
max_cells = 256

-- the bytes of an envelope's header, and of all headers and ciphertexts, at most
abbrev pub envelope_header : ℕ
envelope_header = 37

abbrev pub most_held_bytes : ℕ
most_held_bytes = 537856

-- carried rows of one contact, at most: of one that is or was verified, and of one that never was
abbrev pub max_per_verified : ℕ
max_per_verified = 32

abbrev pub max_per_depositor : ℕ
max_per_depositor = 16

-- contacts other than P that may have carried rows where P gets its share
abbrev pub most_others : ℕ
most_others = 7

-- tombstones, at most, whatever R is
abbrev pub max_tombstones : ℕ
max_tombstones = 1024

-- the next slot where slot numbers have run out
abbrev pub u64_max : ℕ
u64_max = 2 ^ 64 - 1
