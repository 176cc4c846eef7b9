use Rattle.std.specs.Prelude.{codes}
use Rattle.arti_definitions.specs.Written.{after}
use Rattle.arti_definitions.proofs.Pieces.{made_of, after_three}
use Rattle.arti_definitions.proofs.writing.write_patterns.Goals as goal

pub returns : goal.returns
returns c =
    after_three c.args.out.now.items _ _ _ _ _ c.extend_from_slice.new.self.items
    (made_of (after (codes ",\"includesPattern\":")) _ _ _ _ c.in_ok-write_after.ensures c.as_str.ensures)
    (made_of (after (codes ",\"excludesPattern\":")) _ _ _ _ c.in_ok-write_after-2.ensures c.as_str-2.ensures)
    c.in_ok-extend_from_slice.ensures.items
