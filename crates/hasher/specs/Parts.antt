-- A text in parts.
-- Assumes nothing.
use Rattle.std.specs.Prelude.{ℕ, List, ◌++◌}
use Rattle.hasher.specs.declared.parts.Parts.{Parts}

-- the text
abbrev pub joined : Parts → List ℕ
joined p = p.first.now ++ p.second.now ++ p.third.now
