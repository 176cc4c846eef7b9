use Rattle.std.proofs.Common.{◌≡◌, ◌≢◌, ◌+◌, ◌-◌, ◌<◌, ◌≤◌, ◌++◌, [], length, get_or, take, drop, Ok, refl, sym, ap, ◌∙◌, arith, append-nil, get_or-drop, add-zero, IsUtf8}
use Rattle.arti_aql_lex.specs.Escape.{escape_at}
use Rattle.std.proofs.lemmas.Str.{IsUtf8-nil}
use Rattle.std.specs.List.{prefix_len}
use Rattle.arti_aql_lex.specs.Literal.{is_plain, literal_text}
use Rattle.arti_aql_lex.proofs.Values.{Stopped, copied_run, copied_escape, copied_all, no_spoiled}
use Rattle.arti_aql_lex.proofs.value.append_literal.Goals as goal
use Rattle.arti_aql_lex.proofs.value.append_literal.Goals.{In_ok-extend_from_slice}

pub pieces-init : goal.pieces-init
pieces-init c = record {
  within = c.requires.boundary.0;
  boundary = c.requires.boundary;
  closed = c.requires.closed;
  added = [];
  appended = sym (append-nil c.args.out.now.items);
  utf8 = IsUtf8-nil;
  rest = refl;
}

-- behind a run of plain bytes
stopped : (c : In_ok-extend_from_slice) → Stopped c.args.text.now c.args.start (c.pieces.at + c.run_len.result) c.args.out.now.items c.extend_from_slice.new.self.items
stopped c =
    let d = c.args.text.now in
    let at = c.pieces.at in
    let same = c.as_bytes-bytes.ensures.value in
    let is : at + c.run_len.result ≡ at + prefix_len is_plain (drop at d) = ap (λ n. at + n) (c.run_len.ensures.value ∙ ap (prefix_len is_plain) (c.bytes_from.ensures.value ∙ ap (drop at) same)) in
    let items = c.in_ok-extend_from_slice.ensures in
    let wrote : c.extend_from_slice.new.self.items ≡ c.pieces.out.items ++ take (at + c.run_len.result - at) (drop at d) = items.items ∙ ap (λ l. c.pieces.out.items ++ take (at + c.run_len.result - at) (drop at l)) same in
    copied_run d c.args.start at _ _ _ _ c.utf8.text c.pieces.invariant is wrote

pub bounds-bytes-stop : goal.bounds-bytes-stop
bounds-bytes-stop c = let s = stopped (goal.at.bounds-bytes-stop c).In_ok-extend_from_slice in omega (arith, s.inside, ap length c.as_bytes-bytes.ensures.value)

finished : (c : In_ok-extend_from_slice) → get_or c.as_bytes-bytes.result.now (c.pieces.at + c.run_len.result) 0 ≡ 34 → (c.extend_from_slice.new.self.items ≡ c.args.out.now.items ++ literal_text 0 (drop c.args.start c.args.text.now)) × IsUtf8 (literal_text 0 (drop c.args.start c.args.text.now))
finished c quote = copied_all c.args.text.now c.args.start (c.pieces.at + c.run_len.result) _ _ (stopped c) (sym (ap (λ l. get_or l (c.pieces.at + c.run_len.result) 0) c.as_bytes-bytes.ensures.value) ∙ quote)

pub returns-then-bytes-stop-eq34-clause-ok : goal.returns-then-bytes-stop-eq34-clause-ok
returns-then-bytes-stop-eq34-clause-ok c = (finished (goal.at.returns-then-bytes-stop-eq34-clause-ok c).In_ok-extend_from_slice c.if-bytes-stop-eq34.true).0

pub returns-then-bytes-stop-eq34-clause-utf8 : goal.returns-then-bytes-stop-eq34-clause-utf8
returns-then-bytes-stop-eq34-clause-utf8 c = (finished (goal.at.returns-then-bytes-stop-eq34-clause-utf8 c).In_ok-extend_from_slice c.if-bytes-stop-eq34.true).1

pub pieces-preserved : goal.pieces-preserved
pieces-preserved c =
    let s = stopped (goal.at.pieces-preserved c).In_ok-extend_from_slice in
    let d = c.args.text.now in
    let stop = c.pieces.at + c.run_len.result in
    let e = c.in-Ok.ensures in
    let w = c.in_ok-append_char-in-Ok.ensures in
    let same = c.as_bytes-bytes.ensures.value in
    let rest = c.bytes_from-in-pieces.ensures.value ∙ ap (drop stop) same in
    let read : escape_at (drop stop d) ≡ Ok (c.in-Ok.c, c.in-Ok.len) = ap escape_at (sym rest) ∙ sym e.value in
    let wide : (2 ≤ c.in-Ok.len) × (c.in-Ok.len ≤ length (drop stop d)) = (e.within.0, omega (arith, e.within.1, ap length rest)) in
    let ascii : get_or (drop stop d) (c.in-Ok.len - 1) 0 < 128 = omega (arith, e.ascii, ap (λ l. get_or l (c.in-Ok.len - 1) 0) rest) in
    let no_quote : get_or d stop 0 ≢ 34 = λ q. c.if-bytes-stop-eq34.false (ap (λ l. get_or l stop 0) same ∙ q) in
    copied_escape d c.args.start stop (c.in-Ok.c, c.in-Ok.len) _ _ _ c.utf8.text s no_quote read wide ascii w.text w.ok

pub unreachable-requires : goal.unreachable-requires
unreachable-requires c =
    let s = stopped (goal.at.unreachable-requires c).In_ok-extend_from_slice in
    let d = c.args.text.now in
    let stop = c.pieces.at + c.run_len.result in
    let same = c.as_bytes-bytes.ensures.value in
    let rest = c.bytes_from-in-pieces.ensures.value ∙ ap (drop stop) same in
    let no_quote : get_or d stop 0 ≢ 34 = λ q. c.if-bytes-stop-eq34.false (ap (λ l. get_or l stop 0) same ∙ q) in
    let first : get_or (drop stop d) 0 0 ≡ 92 = get_or-drop stop d 0 0 ∙ ap (λ k. get_or d k 0) (add-zero stop) ∙ s.escape no_quote in
    no_spoiled (drop stop d) c.in-Err.field-0 s.copied.closed first (ap escape_at (sym rest) ∙ sym c.in-Err.ensures.value)
