-- How many bytes a cell, a held row's blob and the parts of the saved file have.
-- Assumes nothing.
use Rattle.std.specs.Prelude.{ℕ}

-- the cell of a ciphertext
abbrev pub cell_size : ℕ
cell_size = 2064

-- a carried row before its ciphertext, a tombstone row, and the area for any row
abbrev pub carried_head_size : ℕ
carried_head_size = 46

abbrev pub tombstone_row_size : ℕ
tombstone_row_size = 37

abbrev pub blob_size : ℕ
blob_size = 2110

-- the saved file's mark and next slot; a record's mark, slot and length; the record of a carried row, at most; that of a tombstone
abbrev pub file_head : ℕ
file_head = 10

abbrev pub record_head : ℕ
record_head = 12

abbrev pub carried_record : ℕ
carried_record = 2122

abbrev pub tombstone_record : ℕ
tombstone_record = 49
