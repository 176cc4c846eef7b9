-- Which bytes of a text have an escape in JSON (RFC 8259, section 7).
use Rattle.std.specs.Prelude.{ℕ, Bool, ◌||◌, ◌==◌, nat_lt}

-- a control character, a quote or a backslash
abbrev pub has_escape : ℕ → Bool
has_escape b = nat_lt b 32 || b == 34 || b == 92
