-- The rows of a table that is read, as bytes and typed.
-- Assumes nothing.
use Rattle.std.specs.Prelude.{ℕ, List, length}
use Rattle.table.specs.declared.lent.Table.{Table}
use Rattle.table.specs.Rows.{held, rows}
use Rattle.table.specs.Codec.{Codec, table_of}

abbrev pub rows_held : {w : ℕ} → Table w → List (List ℕ)
rows_held {w} t = rows w (held (length t.area.now) w t.count) t.area.now

abbrev pub rows_in : {A : Type 0} {w : ℕ} → Codec A → Table w → List A
rows_in c t = table_of c t.count t.area.now
