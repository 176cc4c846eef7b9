use Rattle.std.specs.Prelude.{codes}
use Rattle.arti_definitions.specs.Written.{after}
use Rattle.arti_definitions.proofs.Pieces.{made_of, after_three}
use Rattle.arti_definitions.proofs.writing.write_kind.Goals as goal

pub returns : goal.returns
returns c =
    after_three c.args.out.now.items _ _ _ _ _ c.write_after-3.new.out.items
    (made_of (after (codes "{\"key\":")) _ _ _ _ c.in_ok-write_after.ensures c.as_str.ensures)
    (made_of (after (codes ",\"rclass\":")) _ _ _ _ c.in_ok-write_after-2.ensures c.class_name.ensures)
    (made_of (after (codes ",\"url\":")) _ _ _ _ c.in_ok-write_after-3.ensures c.as_str-2.ensures)
