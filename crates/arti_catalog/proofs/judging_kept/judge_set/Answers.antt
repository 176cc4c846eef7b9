use Rattle.std.proofs.Common.{None}
use Rattle.std.specs.Prelude.{◌&&◌, not}
use Rattle.arti_rows.specs.declared.refusal.Refusal.TheVariants.{NoRepo, NotFound, TooManyItems, Full}
use Rattle.arti_rows.specs.declared.refusal.Which.TheVariants.{Properties}
use Rattle.arti_model.specs.Store.{has_item}
use Rattle.arti_model.specs.Apply.{is_local, refused_if}
use Rattle.arti_model.specs.Edits.{refused_unless_there, is_too_much, has_no_room}
use Rattle.arti_catalog.specs.Held.{items_of}
use Rattle.arti_catalog.proofs.Changing.{passed, later}
use Rattle.arti_catalog.proofs.judging_kept.judge_set.Goals as goal

pub returns-in_err-judge_unset : goal.returns-in_err-judge_unset
returns-in_err-judge_unset c =
    let items = items_of c.args.parts.now.tree c.args.parts.now.rows in
    let key = c.args.key.now in
    let e = c.in_err-judge_unset.field-0.0 in
    let many = c.args.deep && is_too_much items key in
    let next = refused_if (has_no_room items c.args.deep key c.args.named.now) (Full Properties) None in
    passed c.from_residual.result e (refused_unless_there items key (refused_if many TooManyItems None)) (refused_unless_there items key (refused_if many TooManyItems next)) c.from_residual.ensures
    c.in_err-judge_unset.ensures (later (not (is_local key)) (not (has_item items key)) many (NoRepo key.repo) (NotFound key) TooManyItems e next)
