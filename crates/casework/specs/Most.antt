-- How much is read of what comes in.
use Rattle.std.specs.Prelude.{ℕ, ◌+◌}
use Rattle.stroke.specs.Layout.{most_bytes}

-- of a file: enough to refuse one that is too large
abbrev pub most_of_file : ℕ
most_of_file = most_bytes + 1

-- of a script
abbrev pub most_of_script : ℕ
most_of_script = 1000000
