use Rattle.std.proofs.Common.{◌≡◌, ◌≤◌, ◌∙◌, length, sym, subst, arith, rules}
use Rattle.httparse.specs.Spans.{IsRequestWithin}
use Rattle.arti_wire.proofs.HeadLemmas.{starts_with_window, window_reads}
use Rattle.arti_wire.proofs.head.read_head.Goals as goal

pub returns-in_ok-request-in-Ok-Complete : goal.returns-in_ok-request-in-Ok-Complete
returns-in_ok-request-in-Ok-Complete c =
    let front = c.window-front.result.now in
    let headers = c.parse_request.new.headers in
    let spans = c.in-Ok-Complete.spans in
    let within : IsRequestWithin front headers spans = search rules in
    let room : length headers ≤ 64 = omega arith in
    let made = c.in_ok-request-in-Ok-Complete.ensures in
    let starts = starts_with_window c.args.bytes.now front headers spans made.0 c.window-front.ensures room within made.1 in
    (made.0, starts.0, made.2, starts.1)

pub returns-in-Ok-Partial : goal.returns-in-Ok-Partial
returns-in-Ok-Partial c = λ h rest starts.
    let reads = window_reads c.args.bytes.now c.window-front.result.now rest h c.window-front.ensures starts in
    let found = rw c.in-Ok-Partial.field-0-is at c.in-Ok-Partial.ensures.found in
    found h _ reads starts.count

pub returns-in-Err : goal.returns-in-Err
returns-in-Err c = λ h rest starts.
    let reads = window_reads c.args.bytes.now c.window-front.result.now rest h c.window-front.ensures starts in
    c.in-Err.ensures.found h _ reads starts.count
