use Rattle.std.proofs.Common.{◌≡◌, ℕ, List, [], length, Some, sym, ap, ◌∙◌, arith}
use Rattle.std.proofs.lemmas.List.{nil_from_length}
use Rattle.std.proofs.lemmas.Result.{err_from_is_err_and}
use Rattle.arti_rows.specs.declared.edits.Change.{Change}
use Rattle.arti_codec.specs.ReadingRows.{change_at}
use Rattle.arti_codec.proofs.EditLaws.{change_is, one_change, refused, never_more}
use Rattle.arti_codec.proofs.change.decode.Goals as goal

pub returns-in_err-change-clause-refused : goal.returns-in_err-change-clause-refused
returns-in_err-change-clause-refused c =
    let p = err_from_is_err_and c.from_residual.result c.from_residual.ensures.1 in
    rw (p.1, p.2) (refused c.args.bytes.now c.in_err-change.field-0.0 c.take_change.new.reader (rw (← c.new-reader.ensures) c.in_err-change.ensures))

pub returns-then-len-ne0-clause-refused : goal.returns-then-len-ne0-clause-refused
returns-then-len-ne0-clause-refused c = λ is.
    let read : change_at c.args.bytes.now ≡ Some (c.in_ok-change.change, c.take_change.new.reader) = ap change_at (sym c.new-reader.ensures) ∙ c.in_ok-change.ensures in
    never_more c.args.bytes.now c.in_ok-change.change c.take_change.new.reader read (λ e. c.if-len-ne0.true (c.len.ensures ∙ e))

whole : (bytes start rest : List ℕ) (x : Change) (len : ℕ) → start ≡ bytes → change_at start ≡ Some (x, rest) → len ≡ length rest → len ≡ 0 → change_at bytes ≡ Some (x, [])
whole bytes start rest x len is read of end =
    ap change_at (sym is) ∙ read ∙ ap (λ (r : List ℕ). Some (x, r)) (nil_from_length rest (sym of ∙ end))

pub returns-clause-found : goal.returns-clause-found
returns-clause-found c =
    change_is c.args.bytes.now c.in_ok-change.change (λ i. omega (arith, c.type_inv.bytes i))
    (whole c.args.bytes.now c.new-reader.result c.take_change.new.reader c.in_ok-change.change c.len.result c.new-reader.ensures c.in_ok-change.ensures c.len.ensures c.if-len-ne0.false)

pub returns-clause-only : goal.returns-clause-only
returns-clause-only c = λ d.
    one_change c.args.bytes.now c.in_ok-change.change d
    (change_is c.args.bytes.now c.in_ok-change.change (λ i. omega (arith, c.type_inv.bytes i))
    (whole c.args.bytes.now c.new-reader.result c.take_change.new.reader c.in_ok-change.change c.len.result c.new-reader.ensures c.in_ok-change.ensures c.len.ensures c.if-len-ne0.false))
