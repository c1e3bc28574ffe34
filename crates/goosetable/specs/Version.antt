-- The version of the library as a host asks for it.
-- Assumes nothing.
use Rattle.std.specs.Prelude.{ℕ, ◌+◌, ◌*◌}

-- three numbers as one
abbrev pub version_of : (major minor patch : ℕ) → ℕ
version_of major minor patch = major * 10000 + minor * 100 + patch

abbrev pub version : ℕ
version = version_of 0 2 7
