-- Limits and sizes by name: how many rows a table has, where a call stops, and how many bytes an area has. The numbers are document 01's; rows/proofs/Sizes.antt
-- holds the code's constants to them.
-- Assumes nothing.
use Rattle.std.specs.Prelude.{ℕ, ◌+◌, ◌-◌, ◌*◌, ◌^◌}
use Rattle.rows.specs.Rows.{contact_width, own_width, carried_width, action_width}

-- ---- rows and cells, at most

abbrev pub max_contacts : ℕ
max_contacts = 256

abbrev pub max_own : ℕ
max_own = 256

abbrev pub max_carried : ℕ
max_carried = 256

abbrev pub max_cells : ℕ
max_cells = 256

-- header and ciphertext bytes of the carried rows, at most
abbrev pub max_carried_bytes : ℕ
max_carried_bytes = 1048576

-- carried rows of one depositor, at most: of one that is not verified, and of a verified one
abbrev pub max_per_depositor : ℕ
max_per_depositor = 16

abbrev pub max_per_verified : ℕ
max_per_verified = 32

-- tombstones, at most, whatever R is
abbrev pub max_tombstones : ℕ
max_tombstones = 1024

-- prefixes and offers of an exchange, at most
abbrev pub max_inventory : ℕ
max_inventory = 512

abbrev pub max_offers : ℕ
max_offers = 512

-- where the next slot stops
abbrev pub u64_max : ℕ
u64_max = 2 ^ 64 - 1

-- ---- the bytes of areas

abbrev pub contact_area : ℕ
contact_area = max_contacts * contact_width

abbrev pub own_area : ℕ
own_area = max_own * own_width

abbrev pub carried_area : ℕ
carried_area = max_carried * carried_width

abbrev pub prefix_area : ℕ
prefix_area = 4096

abbrev pub offer_area : ℕ
offer_area = 8704

-- replies: a fetch and a tomb for each prefix, and an offer of each row
abbrev pub listed_replies : ℕ
listed_replies = 1536

abbrev pub reply_area : ℕ
reply_area = 61440

-- actions: one for each of so many rows, and one for each tombstone row, of which there are R
abbrev pub listed_actions : ℕ
listed_actions = 512

abbrev pub action_area : ℕ → ℕ
action_area R = action_width * (listed_actions + R)
