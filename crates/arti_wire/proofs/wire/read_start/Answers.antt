use Rattle.std.proofs.Common.{◌≡◌, ◌++◌, sym, ap, subst, ◌∙◌, rules}
use Rattle.arti_model.specs.Requests.{HeadOrNone}
use Rattle.arti_wire.specs.Ahead.{Decides}
use Rattle.arti_wire.specs.Judged.{start_of}
use Rattle.arti_wire.specs.Lines.{StartsSo}
use Rattle.arti_wire.specs.declared.lines.FrontByte.TheVariants.{Byte}
use Rattle.arti_wire.proofs.Begun.{begins_ahead}
use Rattle.arti_wire.proofs.wire.read_start.Goals as goal

pub returns-clause-begins : goal.returns-clause-begins
returns-clause-begins g c = λ tells.
    let content = c.args.content in
    let first = c.skip_line_ends.new.ahead in
    let ahead = c.fill_head.new.ahead in
    let judged = c.in_ok-judge.field-0 in
    let starts : StartsSo first Byte = subst (λ bytes. StartsSo bytes Byte) c.as_slice.ensures.value c.in-Byte.ensures in
    let h : HeadOrNone content ahead (start_of judged ahead) =
    subst (λ bytes. HeadOrNone content bytes (start_of judged bytes)) c.as_slice-2.ensures.value c.in_ok-judge.ensures.starts in
    begins_ahead content (c.args.ahead.now ++ g.S.Source.left c.args.source.now) first ahead (g.S.Source.left c.skip_line_ends.new.source) (g.S.Source.left c.fill_head.new.source) (start_of judged ahead) starts (c.in_ok-skip_line_ends.ensures.bytes tells) c.in_ok-fill_head.ensures.front (c.in_ok-fill_head.ensures.bytes tells) (c.in_ok-fill_head.ensures.decides tells) h
