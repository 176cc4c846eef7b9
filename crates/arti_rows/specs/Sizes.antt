-- Numbers that several layers speak of.
use Rattle.std.specs.Prelude.{ℕ}

-- the bytes of the greatest content
abbrev pub most_content : ℕ
most_content = 67108864

-- the bytes of the greatest body of a reply
abbrev pub most_reply : ℕ
most_reply = 67108864

-- the file of a ground that has the journal
abbrev pub journal_file : ℕ
journal_file = 1

-- the file of a ground that has the contents
abbrev pub contents_file : ℕ
contents_file = 3
