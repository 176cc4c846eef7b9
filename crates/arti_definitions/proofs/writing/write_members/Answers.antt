use Rattle.std.specs.Prelude.{codes, map}
use Rattle.json.specs.Print.{quoted}
use Rattle.arti_definitions.specs.Written.{after, with_commas}
use Rattle.arti_definitions.proofs.Pieces.{made_of, after_three}
use Rattle.arti_definitions.proofs.writing.write_members.Goals as goal

pub returns : goal.returns
returns c =
    after_three c.args.out.now.items _ _ _ _ _ c.write_after.new.out.items
    c.in_ok-extend_from_slice.ensures.items
    (made_of (λ texts. with_commas (map quoted texts)) _ _ _ _ c.in_ok-write_texts.ensures c.as_slice.ensures)
    (made_of (after (codes "],\"defaultDeploymentRepo\":")) _ _ _ _ c.in_ok-write_after.ensures c.text_or_none-default_to.ensures)
